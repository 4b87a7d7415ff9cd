-- What a fetch answers.
use Rattle.std.specs.Prelude.{ℕ, cond, List, length, Some, None, Option, nat_lt, slice_index}

-- the word at an address below the length, and none at or above it
abbrev pub fetched_at : List ℕ → ℕ → Option ℕ
fetched_at ws at = cond (nat_lt at (length ws)) (Some (slice_index ws at)) None
