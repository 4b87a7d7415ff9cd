-- The numbers of the refusals.
use Rattle.std.specs.Prelude.{ℕ}
use Rattle.machine.specs.declared.refusal.Refusal.{Refusal}
use Rattle.machine.specs.declared.refusal.Refusal.TheVariants.{NoRegister, NoAddress, NoLevel, LevelZero, RunTooLong}

-- the number of each refusal
abbrev pub number : Refusal → ℕ
number NoRegister = 4
number NoAddress = 5
number NoLevel = 6
number LevelZero = 7
number RunTooLong = 8
