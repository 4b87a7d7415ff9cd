use Rattle.std.proofs.Common.{true, false, sym, ap, ◌∙◌}
use Rattle.levels.specs.Banks.{records}
use Rattle.levels.proofs.Turns.{controls}
use Rattle.levels.proofs.bank.Bank.control_each.Goals as goal
use Rattle.levels.proofs.bank.Bank.control_each.Goals.{then-bit_of, else-bit_of}

pub loop-number-preserved : goal.loop-number-preserved
loop-number-preserved c =
    elim c.if-bit_of.branch [
      | then-bit_of w ↦ controls c.loop-number.number _ _ _ _ _ true c.loop-number-test.true c.loop-number.invariant (sym w.if-bit_of.ensures) (ap records w.self-is ∙ w.control.ensures)
      | else-bit_of w ↦ controls c.loop-number.number _ _ _ _ _ false c.loop-number-test.true c.loop-number.invariant (sym w.if-bit_of.ensures) (ap records w.self-is)
    ]
