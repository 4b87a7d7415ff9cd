-- A processor and its memory, seen as a machine.
use Rattle.std.specs.Prelude.{ℕ, List}
use Rattle.engine.specs.declared.processor.Processor.{Processor}
use Rattle.machine.specs.State.{Machine}
use Rattle.machine.specs.View.{machine_of}

-- the machine of a processor, by what its memory means
abbrev pub seen : {K M : Type 0} → (M → List ℕ) → Processor K M → Machine
seen words p = machine_of p.state (words p.memory)
