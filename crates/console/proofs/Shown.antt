-- The lines of four images, by computation, and which bytes count.
use Rattle.std.proofs.Common.{refl, ap, arith}
use Rattle.std.proofs.lemmas.List.{take-append-le, take_all}
use Rattle.std.specs.Fmt.{digits}
use Rattle.image.specs.Reading.{records_from, verdict}
use Rattle.levels.specs.Levels.{lowest}
use Rattle.machine.specs.Step.{instruction_at, step}
use Rattle.listing.specs.Listing.{blank}
use Rattle.console.specs.Runs.{Shown, counts_after, ran}

pub shown : Shown
unfolding blank counts_after digits instruction_at lowest records_from step verdict
shown = record {
  loop = refl;
  barred = refl;
  nothing = refl;
  no_kind = refl;
  whole = λ bs h. ap (λ l. ran 100 (verdict 8192 l)) (take_all 65536 bs h);
  cut = λ bs more h. ap (λ l. ran 100 (verdict 8192 l)) (take-append-le 65536 bs more (omega arith));
}
