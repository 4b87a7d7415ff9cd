-- Which level an exit clears.
use Rattle.std.proofs.Common.{◌≡◌, ℕ, zero, suc, ◌+◌, ◌<◌, ◌≤◌, Bool, true, false, cond, not, ◌&&◌, None, Some, Option, refl, ap, ◌∙◌, inl, inr, arith, get_or-set_other}
use Rattle.std.specs.List.{find, range_with_len}
use Rattle.std.specs.Option.{option_map_or, option_or}
use Rattle.std.proofs.lemmas.Bool.{both_ways, cases_eq, cases_order}
use Rattle.std.proofs.lemmas.Bool.Decides.{nat_tests}
use Rattle.levels.specs.declared.level.Event.TheVariants.{Exit}
use Rattle.levels.specs.Levels.{inhibited, level_at, lowest_uninhibited, preset, released, active_uninhibited, taken, told}
use Rattle.machine.specs.declared.instruction.Instruction.TheVariants.{Ldx}
use Rattle.machine.specs.State.{Guard, Machine}
use Rattle.machine.specs.Step.{act, by_entry, by_fetch, by_judgement, by_mark, due, exits, fetched, judgement, leave, step}
use Rattle.worked.specs.Laws.{Clears, ExitsBy, ActiveUninhibited, active_at}

-- a search through numbers that follow one another
module _ (t : ℕ → Bool) where
  none_by : (b : Bool) (k : ℕ) (rest : Option ℕ) → b ≡ false → cond b (Some k) rest ≡ rest
  none_by true k rest e = absurd (both_ways true e refl)
  none_by false k rest e = refl

  first_by : (b : Bool) (k : ℕ) (rest : Option ℕ) → b ≡ true → cond b (Some k) rest ≡ Some k
  first_by true k rest e = refl
  first_by false k rest e = absurd (both_ways false refl e)

  pub none_found : (n k : ℕ) → ((j : ℕ) → j < k + n → t j ≡ false) → find t (range_with_len k n) ≡ None
  none_found zero k h = refl
  none_found (suc n) k h = none_by (t k) k _ (h k (omega arith)) ∙ none_found n (k + 1) (λ j l. h j (omega arith))

  pub first_found : (n k i : ℕ) → k ≤ i → i < k + n → t i ≡ true → ((j : ℕ) → j < i → t j ≡ false) → find t (range_with_len k n) ≡ Some i
  first_found zero k i l m e h = absurd (omega arith)
  first_found (suc n) k i l m e h =
      elim (cases_eq k i) [
        | inl q ↦ first_by (t k) k _ (ap t q ∙ e) ∙ ap Some q
        | inr d ↦ none_by (t k) k _ (h k (omega arith)) ∙ first_found n (k + 1) i (omega arith) (omega arith) e h
      ]

-- whether a level is active and not inhibited, by the two facts
both_hold : (a b : Bool) → a ≡ true → b ≡ false → (a && not b) ≡ true
both_hold a b e f = rw (e, f) refl

not_both_hold : (a b : Bool) → (a ≡ true → b ≡ false → ⊥) → (a && not b) ≡ false
not_both_hold false b h = refl
not_both_hold true true h = refl
not_both_hold true false h = absurd (h refl refl)

-- with neither II nor EI no level is inhibited, and by II alone levels 2 to 7 are
free : (k : ℕ) → inhibited false false k ≡ false
free k = grind (arith, nat_tests)

internal_held : (k : ℕ) → 2 ≤ k → k < 8 → inhibited true false k ≡ true
internal_held k l h = grind (arith, nat_tests)

external_free : (k : ℕ) → 8 ≤ k → inhibited true false k ≡ false
external_free k l = grind (arith, nat_tests)

module _ (g : Guard) where
  -- the records after an exit, by what the two searches find
  released_by : (o p : Option ℕ) → lowest_uninhibited g.ii g.ei g.levels ≡ o → lowest_uninhibited false false g.levels ≡ p
      → released g.ii g.ei g.levels ≡ option_map_or (λ k. told k Exit g.levels) (option_or o p) g.levels
  unfolding released
  released_by o p e f = rw (e, f) refl

  finds : (ii ei : Bool) (k : ℕ) → k < 16 → active_at g k ≡ true → inhibited ii ei k ≡ false
      → ((j : ℕ) → j < k → active_at g j ≡ true → inhibited ii ei j ≡ false → ⊥) → lowest_uninhibited ii ei g.levels ≡ Some k
  unfolding lowest_uninhibited
  finds ii ei k h a f n = first_found (active_uninhibited ii ei g.levels) 16 0 k (omega arith) (omega arith) (both_hold (active_at g k) (inhibited ii ei k) a f) (λ j l. not_both_hold (active_at g j) (inhibited ii ei j) (n j l))

  finds_none : (ii ei : Bool) → ((j : ℕ) → j < 16 → active_at g j ≡ true → inhibited ii ei j ≡ false → ⊥) → lowest_uninhibited ii ei g.levels ≡ None
  unfolding lowest_uninhibited
  finds_none ii ei n = none_found (active_uninhibited ii ei g.levels) 16 0 (λ j l. not_both_hold (active_at g j) (inhibited ii ei j) (n j (omega arith)))

  not_both : (j : ℕ) → active_at g j ≡ false → active_at g j ≡ true → ⊥
  not_both j e f = both_ways (active_at g j) e f

  lowest_exits : (k : ℕ) → k < 16 → ActiveUninhibited g k → ((j : ℕ) → j < k → ActiveUninhibited g j → ⊥) → released g.ii g.ei g.levels ≡ told k Exit g.levels
  lowest_exits k h r n = released_by (Some k) _ (finds g.ii g.ei k h r.active r.free (λ j l a f. n j l (record { active = a; free = f }))) refl

  -- under II alone, what is below the lowest active level of 8 to 15 is inhibited or not active
  none_below : g.ii ≡ true → g.ei ≡ false → active_at g 0 ≡ false → active_at g 1 ≡ false → (k : ℕ) → ((i : ℕ) → 8 ≤ i → i < k → active_at g i ≡ false)
      → (i : ℕ) → i < k → ActiveUninhibited g i → ⊥
  none_below x y z o k n i l r =
      elim (cases_eq i 0) [
        | inl e ↦ not_both i (ap (active_at g) e ∙ z) r.active
        | inr d ↦ elim (cases_eq i 1) [
          | inl e ↦ not_both i (ap (active_at g) e ∙ o) r.active
          | inr c ↦ elim (cases_order i 8) [
            | inl e ↦ not_both i (n i (omega arith) l) r.active
            | inr q ↦ elim q [
              | inl u ↦ both_ways (inhibited g.ii g.ei i) r.free (rw (x, y) (internal_held i (omega arith) u))
              | inr u ↦ not_both i (n i (omega arith) l) r.active
            ]
          ]
        ]
      ]

  pub clears : Clears g (released g.ii g.ei g.levels)
  clears = record {
    lowest_uninhibited = lowest_exits;
    all_inhibited = λ k h n. released_by None (Some k) (finds_none g.ii g.ei (λ j l a f. n j l (record { active = a; free = f })))
        (finds false false k h.within h.active (free k) (λ j l a f. not_both j (h.first j l) a));
    none_inhibited = λ k h n. lowest_exits k h.within (record { active = h.active; free = n k h.within h.active }) (λ j l r. not_both j (h.first j l) r.active);
    none_active = λ h. released_by None None (finds_none g.ii g.ei (λ j l a f. not_both j (h j l) a)) (finds_none false false (λ j l a f. not_both j (h j l) a));
    zero = λ a. lowest_exits 0 (omega arith) (record { active = a; free = refl }) (λ j l r. absurd (omega arith));
    one = λ z a. lowest_exits 1 (omega arith) (record { active = a; free = refl }) (λ j l r. not_both 0 z (let e : j ≡ 0 = omega arith in rw e at r.active));
    held_back = λ x y z o j b c a k l h e n.
        let q = lowest_exits k h (record { active = e; free = rw (x, y) (external_free k l) }) (none_below x y z o k n) in
        (q, ap (λ ls. level_at ls j) q ∙ get_or-set_other g.levels k j (taken (level_at g.levels k) Exit) (preset 0) (λ d. omega arith));
  }

-- such a step is an exit
pub exit_is : (ea : ℕ) (m : Machine) → ExitsBy ea m → (step m).after ≡ leave ea (fetched true m)
unfolding step
exit_is ea m e =
    ap (λ k. (by_entry (due k m.cpu.guard) m).after) e.mark
    ∙ ap (λ k. (by_mark k m).after) e.mark
    ∙ ap (λ pp. (by_fetch pp m).after) e.fetch
    ∙ ap (λ x. (by_judgement (judgement true x m) true m).after) e.ldx
    ∙ ap (λ x. act (exits m.cpu.mark true) x (fetched true m)) e.ldx
    ∙ ap (λ k. act (exits k true) (Ldx ea) (fetched true m)) e.mark
