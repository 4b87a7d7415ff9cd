use Rattle.std.proofs.Common.{◌≡◌, ◌-◌}
use Rattle.levels.specs.Banks.{records}
use Rattle.levels.specs.Levels.{lowest}
use Rattle.levels.proofs.bank.Bank.lowest.Given as goal

abbrev pub invariant-loop-place : goal.invariant-loop-place
invariant-loop-place l = lowest 16 0 l.inhibits.ii l.inhibits.ei (records l.self) ≡ lowest (16 - l.place) l.place l.inhibits.ii l.inhibits.ei (records l.self)
