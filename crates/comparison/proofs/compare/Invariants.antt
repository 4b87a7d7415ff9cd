use Rattle.std.proofs.Common.{◌≡◌, ◌≤◌, ◌*◌}
use Rattle.std.specs.List.{range_with_len, sum_by}
use Rattle.comparison.specs.Cases.{differing_at}
use Rattle.comparison.proofs.compare.Given as goal

-- the cases of each address so far are counted
abbrev pub invariant-loop-address : goal.invariant-loop-address
invariant-loop-address g l =
    (l.comparison.cases ≡ 512 * l.address)
    × ((l.comparison.differences ≡ sum_by (differing_at g.A.Adder.sum) (range_with_len 0 l.address))
    × (l.comparison.differences ≤ l.comparison.cases))
