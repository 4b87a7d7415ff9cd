-- Bits of words.
use Rattle.std.specs.Prelude.{ℕ, ◌-◌, ◌/◌, ◌%◌, ◌^◌, Bool, true, false, ◌==◌}

-- bit n of a word, bit 0 being the leftmost
abbrev pub bit : ℕ → ℕ → Bool
bit w n = w / 2 ^ (15 - n) % 2 == 1

-- 1 for a bit that is set
abbrev pub one : Bool → ℕ
one true = 1
one false = 0
