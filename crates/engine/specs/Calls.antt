-- What the calls of an idle processor answer, and the machine after them.
use Rattle.std.specs.Prelude.{ℕ, cond, List, length, Ok, Err, Result, nat_le, slice_set}
use Rattle.machine.specs.declared.refusal.Refusal.{Refusal}
use Rattle.machine.specs.declared.refusal.Refusal.TheVariants.{NoAddress}
use Rattle.machine.specs.State.{Cpu, Machine, protect_after, put_after, set_guard, set_protection, set_work}

-- a machine with another cpu
abbrev pub set_cpu : Cpu → Machine → Machine
set_cpu s m = record { cpu = s; words = m.words }

-- a machine with other words
abbrev pub set_words : List ℕ → Machine → Machine
set_words ws m = record { cpu = m.cpu; words = ws }

-- register n set to w; nothing where n is refused
abbrev pub put : ℕ → ℕ → Machine → Machine
put n w m = set_cpu (set_work (put_after n w m.cpu.work) m.cpu) m

-- protection register n set to w; nothing where n is refused
abbrev pub protected : ℕ → ℕ → Machine → Machine
protected n w m = set_cpu (set_guard (set_protection (protect_after n w m.cpu.guard.protection) m.cpu.guard) m.cpu) m

-- the word at address a set to w; nothing where a is refused
abbrev pub deposited : ℕ → ℕ → Machine → Machine
deposited a w m = set_words (slice_set m.words a w) m

-- what a deposit at address a answers: at or above the size it is refused
abbrev pub deposit_answer : ℕ → List ℕ → Result (Unit {0}) Refusal
deposit_answer a ws = cond (nat_le (length ws) a) (Err NoAddress) (Ok tt)
