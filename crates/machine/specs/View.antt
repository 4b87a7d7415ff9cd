-- The state as the code holds it, seen as a cpu.
use Rattle.std.specs.Prelude.{ℕ, List}
use Rattle.levels.specs.Banks.{records}
use Rattle.machine.specs.declared.state.State.{State}
use Rattle.machine.specs.State.{Cpu, Machine}

-- the cpu of a state
abbrev pub cpu_of : State → Cpu
cpu_of s = record {
  work = s.work;
  guard = record { protection = s.protection.registers; ii = s.inhibits.ii; ei = s.inhibits.ei; levels = records s.levels };
  pp = s.pp;
  mark = s.mark;
  last = s.last;
  violation = s.violation;
  switch = s.switch;
}

-- the machine of a state and the words of its memory
abbrev pub machine_of : State → List ℕ → Machine
machine_of s ws = record { cpu = cpu_of s; words = ws }
