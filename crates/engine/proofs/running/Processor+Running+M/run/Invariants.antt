use Rattle.std.proofs.Common.{◌≡◌}
use Rattle.engine.specs.View.{seen}
use Rattle.engine.proofs.Runs.{HalfRun}
use Rattle.engine.proofs.running.Processor+Running+M.run.Given as goal

abbrev pub invariant-loop : goal.invariant-loop
invariant-loop g l =
    HalfRun l.steps l.counter (seen g.M.Memory.words l.initial.self) (seen g.M.Memory.words l.self) l.counts
    × (g.M.Memory.outer l.self.memory ≡ g.M.Memory.outer l.initial.self.memory)
