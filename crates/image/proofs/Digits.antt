-- What `{:04x}` writes of a 16-bit number.
use Rattle.std.proofs.Common.{◌≡◌, ℕ, suc, ◌/◌, ◌%◌, ◌^◌, ◌-◌, ◌<◌, ◌≤◌, false, List, [], ◌∷◌, ◌⊎◌, inl, inr, arith}
use Rattle.std.proofs.lemmas.Bool.{cases_lt}
use Rattle.std.proofs.lemmas.Bool.Decides.{nat_tests}
use Rattle.std.specs.Fmt.{char_count, digits, digits_onto, format_spec, padded_integral}
use Rattle.image.specs.Text.{hex, hex_digit}

module _ (k n : ℕ) (acc : List ℕ) where
  step : 16 ≤ n → digits_onto (suc k) 16 false n acc ≡ digits_onto k 16 false (n / 16) (hex_digit (n % 16) ∷ acc)
  step large = grind (arith, nat_tests)

  last : n < 16 → digits_onto (suc k) 16 false n acc ≡ hex_digit (n % 16) ∷ acc
  last small = grind (arith, nat_tests)

abbrev pub Written : ℕ → Type 0
Written n = padded_integral (format_spec 32 0 4 4 (2 ^ 64 - 1)) false [] (digits 16 false n) ≡ hex n

pub written : (n : ℕ) → n < 65536 → Written n
unfolding padded_integral char_count digits
written n small = by (cases_lt n 16) (cases_lt n 256) (cases_lt n 4096)
  where
    by : (n < 16) ⊎ (16 ≤ n) → (n < 256) ⊎ (256 ≤ n) → (n < 4096) ⊎ (4096 ≤ n) → Written n
    by (inl a) _ _ = rw (last 63 n [] a) (grind arith)
    by (inr a) (inl b) _ = rw (step 63 n [] a, last 62 (n / 16) _ (omega arith)) (grind arith)
    by _ (inr b) (inl c) = rw (step 63 n [] (omega arith), step 62 (n / 16) _ (omega arith), last 61 (n / 16 / 16) _ (omega arith)) (grind arith)
    by _ _ (inr c) =
        rw (step 63 n [] (omega arith), step 62 (n / 16) _ (omega arith), step 61 (n / 16 / 16) _ (omega arith), last 60 (n / 16 / 16 / 16) _ (omega arith)) (grind arith)
