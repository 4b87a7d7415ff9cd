use Rattle.std.proofs.Common.{◌<◌, length, ap, rules}
use Rattle.memory.specs.Outer.{wide}
use Rattle.memory.specs.Wide.{adapted}
use Rattle.memory.proofs.Wides.{adapted_set, unreached_set}
use Rattle.memory.proofs.wide_memory.AdaptorMemory.store.Goals as goal

pub returns-in-Some-clause-after : goal.returns-in-Some-clause-after
returns-in-Some-clause-after c =
    let m = c.args.self.now in
    let ps = m.plan.now.portions in
    let inside : c.args.address < length (adapted ps m.words.now) = search rules in
    rw (c.with_half.ensures, c.in-Some.ensures.value) (adapted_set ps m.words.now c.args.address c.args.word m.plan.now.eight m.plan.now.apart inside c.ranges.word.fits)

pub returns-in-Some-clause-outside : goal.returns-in-Some-clause-outside
returns-in-Some-clause-outside c =
    let m = c.args.self.now in
    let ps = m.plan.now.portions in
    let inside : c.args.address < length (adapted ps m.words.now) = search rules in
    rw c.in-Some.ensures.value (ap (wide m.words.ghost_name ps) (unreached_set ps m.words.now c.args.address c.with_half.result inside))
