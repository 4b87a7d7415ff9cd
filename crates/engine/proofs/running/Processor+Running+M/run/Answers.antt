use Rattle.std.proofs.Common.{◌∙◌, refl, arith}
use Rattle.engine.specs.View.{seen}
use Rattle.engine.proofs.Runs.{more, ran}
use Rattle.engine.proofs.running.Processor+Running+M.run.Goals as goal

pub loop-preserved : goal.loop-preserved
loop-preserved g c =
    let s = c.count_step.ensures in (
      more c.args.steps c.loop.counter _ _ _ c.loop.counts _ _ c.loop-test.true c.loop.invariant.0 refl s.after (s.exact (omega (arith, c.loop.invariant.0.sum))),
      s.outside ∙ c.loop.invariant.1,
    )

pub returns : goal.returns
returns g c =
    let i = c.loop.invariant in
    let e = ran c.args.steps c.loop.counter (seen g.M.Memory.words c.args.self.now) (seen g.M.Memory.words c.loop.self) c.loop.counts (omega arith) (omega arith) i.0 in
    record { answer = e.answer; after = e.after; outside = i.1; sum = omega (arith, i.0.sum); confined = e.confined }
