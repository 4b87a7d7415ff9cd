-- Sums and differences of words.
use Rattle.std.specs.Prelude.{ℕ, ◌+◌, ◌-◌, Bool, cond, not, ◌&&◌, ℤ, pos, negsuc, ◌+ℤ◌, ◌-ℤ◌, int_le, nat_le, nat_lt}
use Rattle.machine.specs.declared.sum.Sum.{Sum}
use Rattle.levels.specs.Bits.{one}
use Rattle.machine.specs.Words.{word}

-- the signed value of a word
abbrev pub signed : ℕ → ℤ
signed a = cond (nat_lt a 32768) (pos a) (negsuc (65535 - a))

-- whether a signed value lies outside -32,768 to 32,767
abbrev pub outside : ℤ → Bool
outside z = not (int_le (negsuc 32767) z && int_le z (pos 32767))

-- a + b, and 1 more if so asked: it carries where the unsigned sum reaches 65,536
abbrev pub added : ℕ → ℕ → Bool → Sum
added a b plus = record {
  word = word (a + b + one plus);
  carry = nat_le 65536 (a + b + one plus);
  overflow = outside (signed a +ℤ signed b +ℤ pos (one plus));
}

-- a - b: it carries where it borrows, a being below b unsigned
abbrev pub subtracted : ℕ → ℕ → Sum
subtracted a b = record {
  word = word (a + 65536 - b);
  carry = nat_lt a b;
  overflow = outside (signed a -ℤ signed b);
}
