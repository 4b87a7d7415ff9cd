use Rattle.std.proofs.Common.{ap, arith}
use Rattle.std.proofs.lemmas.Result.{err_from_is_err_and}
use Rattle.image.proofs.Walks.{accepts, goes_on, misreads, refuses, start}
use Rattle.image.proofs.whole.check.Goals as goal

pub loop-record-init : goal.loop-record-init
loop-record-init c = start _ _ _ _ c.new-reader.ensures.bytes (λ k. omega (arith, c.type_inv.bytes k)) c.new-reader.ensures.place

pub returns-in_err-record : goal.returns-in_err-record
returns-in_err-record c =
    let p = err_from_is_err_and c.from_residual.result c.from_residual.ensures.1 in
    rw (p.1, p.2) (misreads c.loop-record.invariant _ c.in_err-record.ensures.answer)

pub returns-in_default : goal.returns-in_default
returns-in_default c = accepts c.loop-record.invariant _ c.in_ok-record.ensures.answer c.in_default.is

pub returns-in_err-storable : goal.returns-in_err-storable
returns-in_err-storable c =
    let p = err_from_is_err_and c.from_residual-in_err-storable.result c.from_residual-in_err-storable.ensures.1 in
    rw (p.1, p.2) (refuses c.loop-record.invariant _ _ c.in_ok-record.ensures.answer c.in-Some.is _ (rw c.place-place.ensures at c.in_err-storable.ensures))

pub loop-record-preserved : goal.loop-record-preserved
loop-record-preserved c =
    let n = c.in_ok-record.ensures in
    goes_on c.loop-record.invariant _ _ n.answer c.in-Some.is _ _ (ap (λ r. r.now) n.same) n.after (rw c.place-place.ensures at c.in_ok-storable.ensures)
