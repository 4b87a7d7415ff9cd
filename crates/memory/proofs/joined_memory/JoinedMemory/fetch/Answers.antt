use Rattle.std.proofs.Common.{◌-◌, refl, ap, ◌∙◌, arith}
use Rattle.memory.specs.Words.{joint}
use Rattle.memory.proofs.Fetches.{joint_fetched_first, joint_fetched_second}
use Rattle.memory.proofs.Places.{pair_same}
use Rattle.memory.proofs.joined_memory.JoinedMemory.fetch.Goals as goal

pub returns-then-address-split : goal.returns-then-address-split
returns-then-address-split g c =
    let xs = g.A.Memory.words c.args.self.now.first in
    let ys = g.B.Memory.words c.args.self.now.second in
    let f = c.fetch.ensures in
    record {
      answer = f.answer ∙ joint_fetched_first xs ys c.args.address (omega arith) (omega arith);
      same = ap (λ z. joint z ys) f.same;
      outside = pair_same xs (g.A.Memory.words c.fetch.new.self) ys ys f.outside refl f.same refl;
    }

pub returns-else-address-split : goal.returns-else-address-split
returns-else-address-split g c =
    let xs = g.A.Memory.words c.args.self.now.first in
    let ys = g.B.Memory.words c.args.self.now.second in
    let f = c.fetch-else-address-split.ensures in
    record {
      answer = f.answer ∙ joint_fetched_second xs ys c.args.address (c.args.address - c.size-split.result) (omega arith) (omega arith);
      same = ap (λ z. joint xs z) f.same;
      outside = pair_same xs xs ys (g.B.Memory.words c.fetch-else-address-split.new.self) refl f.outside refl f.same;
    }
