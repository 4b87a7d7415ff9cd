use Rattle.std.proofs.Common.{◌≡◌, ◌-◌, length, string_bytes}
use Rattle.listing.proofs.Records.{Listing}
use Rattle.listing.proofs.whole.records.Given as goal

abbrev pub invariant-loop-record : goal.invariant-loop-record
invariant-loop-record l = (l.reader.bytes.now ≡ l.bytes) × Listing l.bytes l.reader.place (string_bytes l.text)

abbrev pub decreases-loop-record : goal.decreases-loop-record
decreases-loop-record l = length l.bytes - l.reader.place
