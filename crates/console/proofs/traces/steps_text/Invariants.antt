use Rattle.engine.specs.View.{seen}
use Rattle.console.specs.Traces.{at, begun}
use Rattle.console.proofs.Tracing.{Half}
use Rattle.console.proofs.traces.steps_text.Given as goal

abbrev pub invariant-loop-number : goal.invariant-loop-number
invariant-loop-number g l =
    Half l.steps l.number l.signals (begun (seen g.M.Memory.words l.fn.processor)) (at g.M.Memory.words l.tracer)
