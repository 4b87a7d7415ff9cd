use Rattle.std.proofs.Common.{refl}
use Rattle.worked.proofs.Calling.{begins, called}
use Rattle.worked.proofs.Functions.{controls, functions}
use Rattle.worked.proofs.Images.{images}
use Rattle.worked.proofs.Instructions.{addresses, branches, copies, instructions}
use Rattle.worked.proofs.Interrupts.{entries, exits, levels}
use Rattle.worked.proofs.Laws.{laws}
use Rattle.worked.proofs.Plans.{plans}
use Rattle.worked.proofs.Runs.{runs}
use Rattle.worked.proofs.Steps.{steps}
use Rattle.worked.proofs.Violations.{fetches, judged, violations}
use Rattle.worked.proofs.Worked.{cases}
use Rattle.worked.proofs.worked_cases_hold.Goals as goal

pub returns : goal.returns
returns c = record {
  answer = refl;
  cases = cases;
  addresses = addresses;
  instructions = instructions;
  branches = branches;
  copies = copies;
  functions = functions;
  controls = controls;
  levels = levels;
  entries = entries;
  exits = exits;
  judged = judged;
  violations = violations;
  fetches = fetches;
  begins = begins;
  called = called;
  plans = plans;
  images = images;
  laws = laws;
  steps = steps;
  runs = runs;
}
