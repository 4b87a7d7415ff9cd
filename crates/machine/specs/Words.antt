-- Words, addresses and pages.
use Rattle.std.specs.Prelude.{ℕ, ◌/◌, ◌%◌, Bool, List, slice_index}
use Rattle.levels.specs.Bits.{bit}

-- a number modulo 65,536, as registers and addresses hold it
abbrev pub word : ℕ → ℕ
word n = n % 65536

-- what an address reads: the word there, and 0 where it is absent
abbrev pub read : List ℕ → ℕ → ℕ
read ws a = slice_index ws a

-- whether page p is protected: its bit is bit p mod 16 of protection register p div 16
abbrev pub page_protected : List ℕ → ℕ → Bool
page_protected ps p = bit (slice_index ps (p / 16)) (p % 16)

-- whether an address lies in a protected page of 256 words
abbrev pub protects : List ℕ → ℕ → Bool
protects ps a = page_protected ps (a / 256)
