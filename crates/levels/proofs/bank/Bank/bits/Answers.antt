use Rattle.std.proofs.Common.{rules, tests, ◌∙◌}
use Rattle.std.proofs.lemmas.Iterator.{YieldsList-from_slice}
use Rattle.std.proofs.lemmas.Iterator.Consumers.{fold_from_yields_List}
use Rattle.levels.specs.Banks.{records}
use Rattle.levels.proofs.Banks.{length_records}
use Rattle.levels.proofs.Bits.{bits_all, pushed}
use Rattle.levels.proofs.bank.Bank.bits.Goals as goal

pub returns : goal.returns
returns c =
    let ls = records c.args.self.now in
    fold_from_yields_List _ (pushed c.args.property) 0 c.fold.result c.fold.ensures.ran (YieldsList-from_slice ls cc) (λ a x b q k. search (rules, tests))
    ∙ bits_all c.args.property ls (length_records c.args.self.now)
