use Rattle.std.proofs.Common.{◌-◌, length}
use Rattle.image.proofs.Walks.{Progress}
use Rattle.image.proofs.whole.check.Given as goal

abbrev pub invariant-loop-record : goal.invariant-loop-record
invariant-loop-record l = Progress l.size l.reader.bytes.now l.bytes l.reader.place l.count

abbrev pub decreases-loop-record : goal.decreases-loop-record
decreases-loop-record l = length l.bytes - l.reader.place
