use Rattle.std.proofs.Common.{length, arith}
use Rattle.memory.specs.Sizes.{length_adapted, lead_le}
use Rattle.memory.proofs.wide_memory.AdaptorMemory.size.Goals as goal

pub overflow_mul-result : goal.overflow_mul-result
overflow_mul-result c =
    let m = c.args.self.now in
    omega (arith, m.plan.now.eight, lead_le m.plan.now.portions (length m.words.now))

pub returns : goal.returns
returns c =
    let m = c.args.self.now in
    record { answer = omega (arith, length_adapted m.plan.now.portions m.words.now) }
