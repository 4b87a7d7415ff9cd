use Rattle.std.proofs.Common.{◌≡◌, ◌-◌}
use Rattle.std.specs.List.{find, range_with_len}
use Rattle.levels.specs.Banks.{records}
use Rattle.levels.specs.Levels.{lowest_uninhibited, active_uninhibited}
use Rattle.levels.proofs.bank.Bank.lowest_uninhibited.Given as goal

abbrev pub invariant-loop-place : goal.invariant-loop-place
invariant-loop-place l = lowest_uninhibited l.inhibits.ii l.inhibits.ei (records l.self) ≡ find (active_uninhibited l.inhibits.ii l.inhibits.ei (records l.self)) (range_with_len l.place (16 - l.place))
