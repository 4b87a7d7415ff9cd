-- Counts in 32 bits: what counting one step more does in every state of the counts.
use Rattle.std.specs.Prelude.{ℕ, ◌+◌, ◌-◌, ◌^◌, ◌<◌, min, cond, ◌==◌}
use Rattle.machine.specs.declared.call.Counts.{Counts}
use Rattle.machine.specs.declared.call.Outcome.{Outcome}
use Rattle.machine.specs.Calls.{counted, total}

-- a count with k more; one that 32 bits cannot hold stops at their greatest number
abbrev pub capped : ℕ → ℕ → ℕ
capped k n = cond (k == 0) n (min (n + k) (2 ^ 32 - 1))

-- counts and one step more, as 32 bits hold them
abbrev pub capped_tally : Outcome → Counts → Counts
capped_tally o n = record {
  done = capped (counted o).done n.done;
  not_carried = capped (counted o).not_carried n.not_carried;
  violations = capped (counted o).violations n.violations;
  stalls = capped (counted o).stalls n.stalls;
  entries = capped (counted o).entries n.entries;
  idles = capped (counted o).idles n.idles;
}

-- counts that one more step does not bring past 32 bits
abbrev pub Room : Counts → Type 0
Room n = total n < 2 ^ 31
