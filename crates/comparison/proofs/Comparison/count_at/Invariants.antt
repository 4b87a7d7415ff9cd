use Rattle.std.proofs.Common.{◌≡◌, ◌≤◌, ◌+◌, ◌*◌}
use Rattle.std.specs.List.{range_with_len, sum_by}
use Rattle.comparison.specs.Cases.{differing_by}
use Rattle.comparison.proofs.Comparison.count_at.Given as goal

-- the cases of each displacement so far are counted
abbrev pub invariant-loop-displacement : goal.invariant-loop-displacement
invariant-loop-displacement g l =
    (l.self.cases ≡ l.fn.self.cases + 2 * l.displacement)
    × ((l.self.differences ≡ l.fn.self.differences + sum_by (differing_by g.A.Adder.sum l.address) (range_with_len 0 l.displacement))
    × (l.self.differences ≤ l.self.cases))
