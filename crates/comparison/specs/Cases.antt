-- The cases in which a sum behind a relative address is compared, and how many differ.
use Rattle.std.specs.Prelude.{◌≡◌, ℕ, ◌+◌, ◌*◌, ◌<◌, Bool, true, false, not, List, ◌++◌, codes, decimal, ℤ, pos, ◌+ℤ◌, ◌-ℤ◌}
use Rattle.std.specs.Int.{int_rem_euclid}
use Rattle.std.specs.List.{range_with_len, sum_by}
use Rattle.std.specs.Ordering.{int_eq}
use Rattle.levels.specs.Bits.{one}
use Rattle.machine.specs.Decode.{relative}
use Rattle.comparison.specs.declared.Case.{Case}

-- an instruction word with the D and S of a case, whose other bits are 0
abbrev pub word_of : Case → ℕ
word_of c = c.displacement + 256 * one c.backward

-- i + D - 256 S in signed numbers, modulo 65,536
abbrev pub remainder : Case → ℤ
remainder c = int_rem_euclid (pos c.address +ℤ pos c.displacement -ℤ pos (256 * one c.backward)) (pos 65536)

-- whether an adder, given by what it makes of an address and a word, makes another number of a case
abbrev pub differs : (ℕ → ℕ → ℕ) → Case → Bool
differs sum c = not (int_eq (pos (sum c.address (word_of c))) (remainder c))

-- in how many of the two cases of i and D it does, with S 0 and with S 1
abbrev pub differing_by : (ℕ → ℕ → ℕ) → ℕ → ℕ → ℕ
differing_by sum i d =
    one (differs sum (record { address = i; displacement = d; backward = false }))
    + one (differs sum (record { address = i; displacement = d; backward = true }))

-- in how many of the cases of i it does, with D 0 to 255
unfoldable pub differing_at : (ℕ → ℕ → ℕ) → ℕ → ℕ
differing_at sum i = sum_by (differing_by sum i) (range_with_len 0 256)

-- in how many of all cases it does, with i 0 to 65,535
unfoldable pub differing : (ℕ → ℕ → ℕ) → ℕ
differing sum = sum_by (differing_at sum) (range_with_len 0 65536)

-- an adder makes what the machine makes, of every address and word
abbrev pub AsMachine : (ℕ → ℕ → ℕ) → Type 0
AsMachine sum = (i w : ℕ) → i < 65536 → w < 65536 → sum i w ≡ relative i w

-- a line of the two numbers
abbrev pub comparison_line : ℕ → ℕ → List ℕ
comparison_line cases differences = decimal cases ++ (codes " " ++ (decimal differences ++ codes "\n"))
