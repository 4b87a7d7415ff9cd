-- How the code carries an instruction out.
use Rattle.std.specs.Prelude.{Bool, Some, None, Option}
use Rattle.machine.specs.declared.instruction.Instruction.{Instruction}
use Rattle.machine.specs.declared.state.Violation.{Violation}
use Rattle.machine.specs.State.{Machine}
use Rattle.machine.specs.Step.{executed}

-- a violation leaves the machine for the code that makes it one; any other instruction is executed
abbrev pub unless_found : Option Violation → Bool → Instruction → Machine → Machine
unless_found (Some x) pp i m = m
unless_found None pp i m = executed pp i m
