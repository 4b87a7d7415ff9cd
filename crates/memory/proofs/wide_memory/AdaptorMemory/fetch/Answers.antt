use Rattle.std.proofs.Common.{◌<◌, length, sym, rules}
use Rattle.memory.specs.Wide.{adapted}
use Rattle.memory.proofs.Fetches.{fetched_word}
use Rattle.memory.proofs.Wides.{get_or_adapted}
use Rattle.memory.proofs.wide_memory.AdaptorMemory.fetch.Goals as goal

pub returns-clause-answer : goal.returns-clause-answer
returns-clause-answer c =
    let ps = c.args.self.now.plan.now.portions in
    let ws = c.args.self.now.words.now in
    let at = c.args.address in
    let inside : at < length (adapted ps ws) = search rules in
    rw (c.half_of.ensures, c.in_ok-place.ensures.value) (sym (fetched_word (adapted ps ws) at _ inside (get_or_adapted ps ws at inside)))
