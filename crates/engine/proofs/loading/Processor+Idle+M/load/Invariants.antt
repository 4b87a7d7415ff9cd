use Rattle.std.proofs.Common.{◌≡◌, ◌-◌, length}
use Rattle.engine.specs.View.{seen}
use Rattle.engine.proofs.Loads.{Loading}
use Rattle.engine.proofs.loading.Processor+Idle+M.load.Given as goal

abbrev pub invariant-loop-record : goal.invariant-loop-record
invariant-loop-record g l =
    (l.reader.bytes.now ≡ l.bytes)
    × Loading (length (g.M.Memory.words l.initial.self.memory)) l.bytes l.reader.place (seen g.M.Memory.words l.initial.self) (seen g.M.Memory.words l.self)
    × (g.M.Memory.outer l.self.memory ≡ g.M.Memory.outer l.initial.self.memory)

abbrev pub decreases-loop-record : goal.decreases-loop-record
decreases-loop-record g l = length l.bytes - l.reader.place
