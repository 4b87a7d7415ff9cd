-- Memory in 32-bit words, two 16-bit words to each, by a plan's portions.
use Rattle.std.specs.Prelude.{ℕ, ◌+◌, ◌*◌, ◌/◌, ◌%◌, Bool, cond, List, map, length, take, ◌==◌, nat_le, slice_index}
use Rattle.std.specs.List.{list_any, prefix_len, range_with_len}

-- how many portions of 4096 words lie wholly in n words, from the first on
abbrev pub lead : List ℕ → ℕ → ℕ
lead ps n = prefix_len (λ p. nat_le (4096 * (p + 1)) n) ps

-- the 32-bit word that an address lies in
abbrev pub place : List ℕ → ℕ → ℕ
place ps at = 4096 * slice_index ps (at / 8192) + at % 8192 / 2

-- the half of a 32-bit word for an address: the left half for an even one
abbrev pub half : ℕ → ℕ → ℕ
half wide at = cond (at % 2 == 0) (wide / 65536) (wide % 65536)

-- the 32-bit word with that half replaced
abbrev pub merged : ℕ → ℕ → ℕ → ℕ
merged wide at word = cond (at % 2 == 0) (65536 * word + wide % 65536) (65536 * (wide / 65536) + word)

-- the 16-bit words of the memory
unfoldable pub adapted : List ℕ → List ℕ → List ℕ
adapted ps ws = map (λ at. half (slice_index ws (place ps at)) at) (range_with_len 0 (8192 * lead ps (length ws)))

-- whether p is among some portions
abbrev pub among : ℕ → List ℕ → Bool
among p qs = list_any (λ q. p == q) qs

-- the 32-bit words, with 0 for each that the memory reaches
unfoldable pub unreached : List ℕ → List ℕ → List ℕ
unreached ps ws = map (λ i. cond (among (i / 4096) (take (lead ps (length ws)) ps)) 0 (slice_index ws i)) (range_with_len 0 (length ws))
