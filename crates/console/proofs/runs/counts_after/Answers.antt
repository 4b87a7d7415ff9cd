use Rattle.std.proofs.Common.{lit≤}
use Rattle.console.specs.declared.runs.TheConstants.{STEPS}
use Rattle.console.proofs.Counting.{counted_run}
use Rattle.console.proofs.runs.counts_after.Goals as goal

pub returns : goal.returns
returns g c = counted_run STEPS _ c.run.result _ (lit≤ tt) c.run.ensures.answer c.unwrap.ensures
