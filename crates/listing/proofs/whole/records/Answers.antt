use Rattle.std.proofs.Common.{string_bytes, ap, ◌∙◌, arith}
use Rattle.listing.proofs.Records.{begin, ends, goes_on}
use Rattle.listing.proofs.whole.records.Goals.{in_default, in_default-2}
use Rattle.listing.proofs.whole.records.Goals as goal

pub loop-record-init : goal.loop-record-init
loop-record-init c = (c.new-reader.ensures.bytes, rw (c.new-reader.ensures.place, c.new-text.ensures.bytes) (begin c.args.bytes.now))

pub loop-record-preserved : goal.loop-record-preserved
loop-record-preserved c =
    let i = c.loop-record.invariant in
    let n = c.in-Ok-Some.ensures in (
      ap (λ r. r.now) n.same ∙ i.0,
      goes_on _ _ _ i.0 _ _ _ c.in-Ok-Some.field-0-is n.answer n.after (string_bytes c.loop-record.text) (string_bytes c.writeln.new.self) i.1 c.in_ok-writeln.ensures.bytes,
    )

pub returns : goal.returns
returns c =
    let i = c.loop-record.invariant in
    elim c.match-next.branch [
      | in_default w ↦ ends _ _ _ i.0 _ c.next.ensures.answer (λ r e. grind arith) _ i.1
      | in_default-2 w ↦ ends _ _ _ i.0 _ c.next.ensures.answer (λ r e. grind arith) _ i.1
    ]
