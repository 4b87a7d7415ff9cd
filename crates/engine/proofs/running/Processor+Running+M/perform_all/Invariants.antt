use Rattle.std.proofs.Common.{◌≡◌, drop}
use Rattle.machine.specs.Calls.{after_calls}
use Rattle.engine.specs.View.{seen}
use Rattle.engine.proofs.running.Processor+Running+M.perform_all.Given as goal

abbrev pub invariant-loop-call : goal.invariant-loop-call
invariant-loop-call g l =
    (after_calls l.calls (seen g.M.Memory.words l.initial.self) ≡ after_calls (drop l.call-index l.calls) (seen g.M.Memory.words l.self))
    × (g.M.Memory.outer l.self.memory ≡ g.M.Memory.outer l.initial.self.memory)
