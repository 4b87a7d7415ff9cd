use Rattle.std.proofs.Common.{arith}
use Rattle.memory.proofs.Wides.{place_fits}
use Rattle.memory.proofs.wide_memory.Adaptor.place.Goals as goal

pub returns-clause-within : goal.returns-clause-within
returns-clause-within c =
    let m = c.args.self.now in
    omega (arith, place_fits m.plan.now.portions m.words.now c.args.address (omega arith))
