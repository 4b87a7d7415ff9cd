use Rattle.std.proofs.Common.{◌≡◌, drop}
use Rattle.console.specs.Traces.{at, signals_at}
use Rattle.console.proofs.traces.Tracer.signals.Given as goal

abbrev pub invariant-loop-signal : goal.invariant-loop-signal
invariant-loop-signal g l =
    signals_at l.step l.signals (at g.M.Memory.words l.initial.self) ≡ signals_at l.step (drop l.signal-index l.signals) (at g.M.Memory.words l.self)
