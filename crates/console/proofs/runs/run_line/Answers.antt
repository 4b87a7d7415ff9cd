use Rattle.console.proofs.Shown.{shown}
use Rattle.console.proofs.runs.run_line.Goals as goal

pub returns-clause-shown : goal.returns-clause-shown
returns-clause-shown c = shown
