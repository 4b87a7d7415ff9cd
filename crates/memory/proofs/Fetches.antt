-- What a fetch answers of one list, from what it answers of another.
use Rattle.std.proofs.Common.{◌≡◌, ℕ, ◌+◌, ◌<◌, ◌≤◌, List, ◌++◌, length, get_or, Some, None, sym, refl, ap, ◌∙◌, inl, inr, arith}
use Rattle.std.proofs.lemmas.List.{get_or-take, get_or_append_left, get_or-append-add}
use Rattle.std.proofs.lemmas.Bool.{cases_lt, cond-true, cond-false, lt-ltb, le-ltb}
use Rattle.memory.specs.Fetches.{fetched_at}
use Rattle.memory.specs.Words.{joint}
use Rattle.memory.proofs.Places.{length_joint}

pub fetched_word : (ws : List ℕ) (at w : ℕ) → at < length ws → get_or ws at 0 ≡ w → fetched_at ws at ≡ Some w
fetched_word ws at w h e = cond-true _ (Some (get_or ws at 0)) None (lt-ltb at (length ws) h) ∙ ap Some e

pub fetched_absent : (ws : List ℕ) (at : ℕ) → length ws ≤ at → fetched_at ws at ≡ None
fetched_absent ws at h = cond-false _ (Some (get_or ws at 0)) None (le-ltb at (length ws) h)

module _ (xs ys : List ℕ) where
  pub joint_fetched_first : (i : ℕ) → i < length xs → i < 65536 → fetched_at xs i ≡ fetched_at (joint xs ys) i
  joint_fetched_first i h k =
      fetched_word xs i (get_or xs i 0) h refl
      ∙ sym (fetched_word (joint xs ys) i (get_or xs i 0) (omega (arith, length_joint xs ys)) (get_or-take 65536 (xs ++ ys) i 0 k ∙ get_or_append_left xs ys 0 i h))

  pub joint_fetched_second : (i j : ℕ) → length xs + j ≡ i → i < 65536 → fetched_at ys j ≡ fetched_at (joint xs ys) i
  joint_fetched_second i j e k =
      elim (cases_lt j (length ys)) [
        | inl h ↦
            fetched_word ys j (get_or ys j 0) h refl
            ∙ sym (fetched_word (joint xs ys) i (get_or ys j 0) (omega (arith, length_joint xs ys)) (get_or-take 65536 (xs ++ ys) i 0 k ∙ ap (λ z. get_or (xs ++ ys) z 0) (sym e) ∙ get_or-append-add xs ys j 0))
        | inr h ↦ fetched_absent ys j h ∙ sym (fetched_absent (joint xs ys) i (omega (arith, length_joint xs ys)))
      ]
