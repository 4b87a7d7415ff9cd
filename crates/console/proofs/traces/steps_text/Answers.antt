use Rattle.std.proofs.Common.{◌∙◌, arith}
use Rattle.std.proofs.lemmas.Result.{IfOk-weaker}
use Rattle.console.specs.Traces.{at}
use Rattle.console.proofs.Tracing.{half_counts, half_more, whole}
use Rattle.console.proofs.traces.steps_text.Goals as goal

pub step-requires : goal.step-requires
step-requires g c =
    let sum = half_counts c.args.steps c.loop-number.number c.args.signals.now _ _ (at g.M.Memory.words c.signals.new.self) c.loop-number.invariant c.in_ok-signals.ensures in
    omega (arith, sum)

pub loop-number-preserved : goal.loop-number-preserved
loop-number-preserved g c =
    half_more c.args.steps c.loop-number.number c.args.signals.now _ _ _ _ c.loop-number-test.true c.loop-number.invariant c.in_ok-signals.ensures c.in_ok-step.ensures

pub returns : goal.returns
returns g c =
    let e = whole c.args.steps c.loop-number.number c.args.signals.now _ _ (omega arith) (omega arith) c.loop-number.invariant in
    IfOk-weaker c.end.result _ _ (λ s d. d ∙ e) c.end.ensures
