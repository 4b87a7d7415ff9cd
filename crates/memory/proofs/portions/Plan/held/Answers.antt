use Rattle.std.proofs.Common.{◌∙◌, rules, tests}
use Rattle.std.proofs.lemmas.Iterator.{YieldsList-from_slice}
use Rattle.std.proofs.lemmas.Iterator.Consumers.{YieldsList-from_enumerate}
use Rattle.std.proofs.lemmas.Iterator.Search.{any_from_yields_List}
use Rattle.memory.proofs.Helds.{is_held, held_among}
use Rattle.memory.proofs.portions.Plan.held.Goals as goal

pub returns : goal.returns
returns c =
    let plan = c.args.self.now in
    let ps = plan.portions in
    let b = c.args.block in
    let p = c.args.portion in
    any_from_yields_List (is_held ps b p) _ _ _ c.any.ensures.ran (YieldsList-from_enumerate (YieldsList-from_slice ps cc) cc) (λ x t q k. search (rules, tests)) ∙ held_among ps b p 8 plan.eight
