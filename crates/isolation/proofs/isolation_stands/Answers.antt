use Rattle.std.proofs.Common.{refl}
use Rattle.isolation.proofs.Examples.{agrees, goes_on, stalls, violates}
use Rattle.isolation.proofs.Needed.{needed}
use Rattle.isolation.proofs.Sharp.{sharp}
use Rattle.isolation.proofs.Theorem.{isolation, wider}
use Rattle.isolation.proofs.isolation_stands.Goals as goal

pub returns : goal.returns
returns c = record {
  answer = refl;
  law = isolation;
  wider = wider;
  needed = needed;
  sharp = sharp;
  violates = violates;
  goes_on = goes_on;
  agrees = agrees;
  stalls = stalls;
}
