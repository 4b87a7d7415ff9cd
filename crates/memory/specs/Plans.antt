-- What the portions of every plan keep to. Names no type of the crate, so that the plan's own file can import it.
use Rattle.std.specs.Prelude.{ℕ, ◌<◌, List, ◌≢◌, slice_index}

-- each portion is below 32
abbrev pub Within : List ℕ → Type 0
Within ps = (k : ℕ) → k < 8 → slice_index ps k < 32

-- no two blocks have the same portion
abbrev pub Apart : List ℕ → Type 0
Apart ps = (i j : ℕ) → i < j → j < 8 → slice_index ps i ≢ slice_index ps j
