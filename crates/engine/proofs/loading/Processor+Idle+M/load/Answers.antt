use Rattle.std.proofs.Common.{length, refl, ap, ◌∙◌}
use Rattle.image.specs.Reading.{counted, verdict}
use Rattle.engine.specs.View.{seen}
use Rattle.engine.proofs.Loads.{begin, ends, goes_on, lawful_at, never}
use Rattle.engine.proofs.loading.Processor+Idle+M.load.Goals as goal

pub loop-record-init : goal.loop-record-init
loop-record-init g c =
    let bs = c.args.bytes.now in
    let limit = length (g.M.Memory.words c.args.self.now.memory) in
    let a = c.in_ok-count.ensures.answer ∙ ap (λ n. counted 0 (verdict n bs)) c.size.ensures.answer in (
      c.new-reader.ensures.bytes,
      rw c.new-reader.ensures.place (begin limit bs _ (seen g.M.Memory.words c.args.self.now) a),
      refl,
    )

pub returns-in_err-record : goal.returns-in_err-record
returns-in_err-record g c =
    let i = c.loop-record.invariant in
    absurd (never _ _ _ _ _ _ i.0 i.1 _ c.in_err-record.ensures.answer)

pub loop-record-preserved : goal.loop-record-preserved
loop-record-preserved g c =
    let i = c.loop-record.invariant in
    let n = c.in_ok-record.ensures in (
      ap (λ r. r.now) n.same ∙ i.0,
      goes_on _ _ _ _ _ _ i.0 i.1 _ _ _ _ n.answer c.in-Some.is n.after c.store.ensures.after,
      c.store.ensures.outside ∙ i.2,
    )

pub returns : goal.returns
returns g c =
    let i = c.loop-record.invariant in
    let k = c.in_ok-count.ensures in
    let size = c.size.ensures.answer in
    let bs = c.args.bytes.now in
    let before = seen g.M.Memory.words c.args.self.now in
    let after = seen g.M.Memory.words c.loop-record.self in
    let l = ends _ _ _ _ _ _ i.0 i.1 _ c.in_ok-record.ensures.answer c.in_default.is in
    record {
      answer = k.answer ∙ ap (λ n. counted 0 (verdict n bs)) size;
      after = l;
      outside = i.2;
      law = lawful_at c.size.result bs _ before after size k.answer k.told k.complete l;
    }
