use Rattle.std.proofs.Common.{◌≡◌, ◌-◌}
use Rattle.levels.specs.Levels.{control_each}
use Rattle.levels.specs.Banks.{records}
use Rattle.levels.proofs.bank.Bank.control_each.Given as goal

abbrev pub invariant-loop-number : goal.invariant-loop-number
invariant-loop-number l = control_each 15 1 l.control l.bits (records l.initial.self) ≡ control_each (16 - l.number) l.number l.control l.bits (records l.self)
