use Rattle.std.proofs.Common.{arith}
use Rattle.memory.proofs.Places.{length_joint}
use Rattle.memory.proofs.joined_memory.JoinedMemory.size.Goals as goal

pub returns : goal.returns
returns g c = record { answer = omega (arith, length_joint (g.A.Memory.words c.args.self.now.first) (g.B.Memory.words c.args.self.now.second)) }
