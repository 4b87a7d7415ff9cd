use Rattle.std.proofs.Common.{◌-◌, ap, ◌∙◌, arith}
use Rattle.memory.specs.Words.{joint}
use Rattle.memory.proofs.Places.{joint_set_first, joint_set_second, pair_set_first, pair_set_second}
use Rattle.memory.proofs.joined_memory.JoinedMemory.store.Goals as goal

pub returns-then-address-split : goal.returns-then-address-split
returns-then-address-split g c =
    let xs = g.A.Memory.words c.args.self.now.first in
    let ys = g.B.Memory.words c.args.self.now.second in
    let s = c.store.ensures in
    record {
      after = ap (λ z. joint z ys) s.after ∙ joint_set_first xs ys c.args.address c.args.word (omega arith);
      outside = pair_set_first (g.A.Memory.words c.store.new.self) xs ys c.args.address c.args.word (omega arith) (omega arith) s.outside s.after;
    }

pub returns-else-address-split : goal.returns-else-address-split
returns-else-address-split g c =
    let xs = g.A.Memory.words c.args.self.now.first in
    let ys = g.B.Memory.words c.args.self.now.second in
    let s = c.store-else-address-split.ensures in
    let j = c.args.address - c.size-split.result in
    record {
      after = ap (λ z. joint xs z) s.after ∙ joint_set_second xs ys c.args.address j c.args.word (omega arith);
      outside = pair_set_second (g.B.Memory.words c.store-else-address-split.new.self) xs ys c.args.address j c.args.word (omega arith) (omega arith) s.outside s.after;
    }
