use Rattle.std.proofs.Common.{sym}
use Rattle.levels.specs.Banks.{records}
use Rattle.levels.proofs.Turns.{quiet_lowest}
use Rattle.levels.proofs.levels.Levels.lowest.Goals as goal

pub returns-then-self-clause-answer : goal.returns-then-self-clause-answer
returns-then-self-clause-answer c =
    rw (← c.self.view_is) (sym (quiet_lowest 16 0 c.args.inhibits.ii c.args.inhibits.ei (records c.self.inside.bank) (c.self.invariant c.if-self.true)))
