-- Whether another block holds a portion, and plans that stay sound.
use Rattle.std.proofs.Common.{◌≡◌, ℕ, zero, suc, ◌<◌, ◌≤◌, Bool, true, false, not, ◌&&◌, ◌||◌, eqb, ◌≢◌, List, length, get_or, take, set, sym, refl, ap, ◌∙◌, inl, inr, add-one, zero-add, arith}
use Rattle.std.specs.List.{list_any, enumerate_from}
use Rattle.std.proofs.Math.Bool.{or_comm}
use Rattle.std.proofs.lemmas.List.{get_or-set_same, get_or-set_other, take_all}
use Rattle.std.proofs.lemmas.List.Folds.{list_any_more}
use Rattle.std.proofs.lemmas.List.FromFn.{length-enumerate_from, get_or-enumerate_from}
use Rattle.std.proofs.lemmas.Bool.{cases_eq, or_right, both_ways}
use Rattle.std.proofs.lemmas.Bool.Decides.{nat_tests}
use Rattle.memory.specs.Changes.{held_below}
use Rattle.memory.specs.Plans.{Within, Apart}

module _ (ps : List ℕ) (b p : ℕ) where
  pub held_found : (k n : ℕ) → k < n → (k ≡ b → ⊥) → get_or ps k 0 ≡ p → held_below ps b p n ≡ true
  held_found k zero h ne e = absurd (omega arith)
  held_found k (suc n) h ne e =
      elim (cases_eq k n) [
        | inl q ↦ let e' : get_or ps n 0 ≡ p = ap (λ z. get_or ps z 0) (sym q) ∙ e in grind (arith, nat_tests)
        | inr d ↦ or_right _ _ (held_found k n (omega arith) ne e)
      ]

  pub held_not : (n k : ℕ) → held_below ps b p n ≡ false → k < n → (k ≡ b → ⊥) → get_or ps k 0 ≡ p → ⊥
  held_not n k f h ne e = both_ways _ f (held_found k n h ne e)

  -- the test of a block with its portion
  abbrev pub is_held : ℕ × ℕ → Bool
  is_held t = not (eqb t.0 b) && eqb t.1 p

  held_front : (n : ℕ) → n ≤ length ps → list_any is_held (take n (enumerate_from 0 ps)) ≡ held_below ps b p n
  held_front zero h = refl
  held_front (suc n) h =
      let xs = enumerate_from 0 ps in
      ap (λ k. list_any is_held (take k xs)) (sym (add-one n)) ∙ list_any_more is_held xs n (0, 0) (omega (arith, length-enumerate_from 0 ps))
      ∙ ap (λ x. list_any is_held (take n xs) || is_held x) (get_or-enumerate_from 0 ps n (0, 0) (omega arith) ∙ ap (λ k. (k, get_or ps n 0)) (zero-add n))
      ∙ or_comm (list_any is_held (take n xs)) (is_held (n, get_or ps n 0)) ∙ ap (λ x. is_held (n, get_or ps n 0) || x) (held_front n (omega arith))

  pub held_among : (n : ℕ) → length ps ≡ n → list_any is_held (enumerate_from 0 ps) ≡ held_below ps b p n
  held_among n e =
      ap (list_any is_held) (sym (take_all n (enumerate_from 0 ps) (omega (arith, length-enumerate_from 0 ps)))) ∙ held_front n (omega arith)

  -- a change that is not refused leaves the plan sound
  module _ (eight : length ps ≡ 8) (inside : b < 8) where
    pub within_set : Within ps → p < 32 → Within (set ps b p)
    within_set w l k h =
        elim (cases_eq k b) [
          | inl e ↦ let s : get_or (set ps b p) k 0 ≡ p = ap (λ z. get_or (set ps b p) z 0) e ∙ get_or-set_same ps b p 0 (omega arith) in omega arith
          | inr ne ↦ omega (arith, get_or-set_other ps b k p 0 ne, w k h)
        ]

    pub apart_set : Apart ps → held_below ps b p 8 ≡ false → Apart (set ps b p)
    apart_set a f i j l h e =
        elim (cases_eq i b) [
          | inl p1 ↦
              let n : j ≢ b = omega arith in
              let s : get_or (set ps b p) i 0 ≡ p = ap (λ z. get_or (set ps b p) z 0) p1 ∙ get_or-set_same ps b p 0 (omega arith) in
              held_not 8 j f h n (sym (get_or-set_other ps b j p 0 n) ∙ sym e ∙ s)
          | inr n1 ↦ elim (cases_eq j b) [
            | inl p2 ↦
                let s : get_or (set ps b p) j 0 ≡ p = ap (λ z. get_or (set ps b p) z 0) p2 ∙ get_or-set_same ps b p 0 (omega arith) in
                held_not 8 i f (omega arith) n1 (sym (get_or-set_other ps b i p 0 n1) ∙ e ∙ s)
            | inr n2 ↦ a i j l h (sym (get_or-set_other ps b i p 0 n1) ∙ e ∙ get_or-set_other ps b j p 0 n2)
          ]
        ]
