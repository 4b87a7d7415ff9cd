-- The laws of level records: controls, and the bits that RD shows.
use Rattle.std.proofs.Common.{◌≡◌, ℕ, zero, suc, ◌+◌, ◌-◌, ◌*◌, ◌/◌, ◌%◌, ◌^◌, ◌<◌, ◌≤◌, Bool, true, false, cond, eqb, List, length, set, sym, refl, ap, ◌∙◌, inl, inr, mod-lt, mod-eq_of_lt, arith, length-set, get_or-set_other, get_or-set_same}
use native.Mathlib.Nat.{pow-succ'}
use lib.Arith.{digits_div, digits_lt, digits_mod}
use Rattle.std.proofs.lemmas.Nat.{field_of, mod-pow-add, pow_pos}
use Rattle.std.proofs.lemmas.Bool.{cases_eq}
use Rattle.levels.specs.declared.level.Level.{Level}
use Rattle.levels.specs.declared.level.LevelControl.{LevelControl}
use Rattle.levels.specs.declared.level.Property.{Property}
use Rattle.levels.specs.Bits.{bit, one}
use Rattle.levels.specs.Levels.{bits_of, control_each, controlled, has, level_at, preset}

-- CONTROLS

module _ (c : LevelControl) (a : ℕ) where
  -- the records after one level's turn, by its bit
  turn : Bool → ℕ → List Level → List Level
  turn b k ls = cond b (set ls k (controlled c (level_at ls k))) ls

  turn_length : (b : Bool) (k : ℕ) (ls : List Level) → length (turn b k ls) ≡ length ls
  unfolding turn
  turn_length true k ls = length-set ls k _
  turn_length false k ls = refl

  turn_other : (b : Bool) (k j : ℕ) (ls : List Level) → (j ≡ k → ⊥) → level_at (turn b k ls) j ≡ level_at ls j
  unfolding turn
  turn_other true k j ls d = get_or-set_other ls k j _ (preset 0) d
  turn_other false k j ls d = refl

  turn_own : (b : Bool) (k : ℕ) (ls : List Level) → k < length ls → level_at (turn b k ls) k ≡ cond b (controlled c (level_at ls k)) (level_at ls k)
  unfolding turn
  turn_own true k ls h = get_or-set_same ls k _ (preset 0) h
  turn_own false k ls h = refl

  pub below : (n k j : ℕ) (ls : List Level) → j < k → level_at (control_each n k c a ls) j ≡ level_at ls j
  unfolding control_each turn
  below zero k j ls h = refl
  below (suc n) k j ls h = below n (suc k) j (turn (bit a k) k ls) (omega arith) ∙ turn_other (bit a k) k j ls (λ e. omega arith)

  pub within : (n k j : ℕ) (ls : List Level) → k ≤ j → j < k + n → j < length ls
      → level_at (control_each n k c a ls) j ≡ cond (bit a j) (controlled c (level_at ls j)) (level_at ls j)
  unfolding control_each turn
  within zero k j ls l m h = absurd (omega arith)
  within (suc n) k j ls l m h =
      elim (cases_eq j k) [
        | inl e ↦ rw e (below n (suc k) k (turn (bit a k) k ls) (omega arith) ∙ turn_own (bit a k) k ls (omega arith))
        | inr d ↦ within n (suc k) j (turn (bit a k) k ls) (omega arith) (omega arith) (omega (arith, turn_length (bit a k) k ls))
            ∙ ap (λ (r : Level). cond (bit a j) (controlled c r) r) (turn_other (bit a k) k j ls d)
      ]

-- BITS

one_small : (b : Bool) → one b < 2
one_small true = omega arith
one_small false = omega arith

one_odd : (b : Bool) → one b % 2 ≡ one b
one_odd true = refl
one_odd false = refl

one_set : (b : Bool) → eqb (one b) 1 ≡ b
one_set true = refl
one_set false = refl

-- the low bits of a number's low bits
low_bits : (n j k : ℕ) → n % 2 ^ (j + k) % 2 ^ k ≡ n % 2 ^ k
low_bits n j k = ap (λ x. x % 2 ^ k) (mod-pow-add n j k) ∙ digits_mod (n / 2 ^ k % 2 ^ j) (mod-lt n (pow_pos k))

-- a bit is one of the low bits above it
same_bit : (w r i d : ℕ) → w % 2 ^ (d + (1 + i)) ≡ r % 2 ^ (d + (1 + i)) → w / 2 ^ i % 2 ≡ r / 2 ^ i % 2
same_bit w r i d e =
    sym (field_of w 1 i) ∙ ap (λ x. x / 2 ^ i) (sym (low_bits w d (1 + i)) ∙ ap (λ x. x % 2 ^ (1 + i)) e ∙ low_bits r d (1 + i)) ∙ field_of r 1 i

module _ (p : Property) (ls : List Level) where
  small : (n k : ℕ) → k + n ≡ 16 → bits_of n k p ls < 2 ^ n
  unfolding bits_of
  small zero k h = omega arith
  small (suc n) k h =
      let e : 15 - k ≡ n = omega arith in
      let f : 2 ^ suc n ≡ 2 * 2 ^ n = pow-succ' 2 n in
      rw (e, f) (digits_lt (one_small (has p (level_at ls k))) (small n (suc k) (omega arith)))

  shown : (n k j : ℕ) → k + n ≡ 16 → k ≤ j → j < 16 → bits_of n k p ls / 2 ^ (15 - j) % 2 ≡ one (has p (level_at ls j))
  unfolding bits_of
  shown zero k j h l m = absurd (omega arith)
  shown (suc n) k j h l m =
      let e : 15 - k ≡ n = omega arith in
      let r = bits_of n (suc k) p ls in
      let q = small n (suc k) (omega arith) in
      elim (cases_eq j k) [
        | inl f ↦ rw (f, e) (ap (λ x. x % 2) (digits_div (one (has p (level_at ls k))) q) ∙ one_odd (has p (level_at ls k)))
        | inr d ↦
            let g : j - suc k + (1 + (15 - j)) ≡ n = omega arith in
            same_bit (one (has p (level_at ls k)) * 2 ^ (15 - k) + r) r (15 - j) (j - suc k)
            (rw (g, e) (digits_mod (one (has p (level_at ls k))) q ∙ sym (mod-eq_of_lt q))) ∙ shown n (suc k) j (omega arith) (omega arith) m
      ]

  pub shows : (k : ℕ) → k < 16 → bit (bits_of 16 0 p ls) k ≡ has p (level_at ls k)
  shows k h = ap (λ x. eqb x 1) (shown 16 0 k refl (omega arith) h) ∙ one_set (has p (level_at ls k))
