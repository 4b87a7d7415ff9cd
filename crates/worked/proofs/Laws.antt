-- The laws.
use Rattle.std.proofs.Common.{◌≡◌, ℕ, zero, suc, ◌+◌, ◌*◌, ◌/◌, ◌%◌, ◌<◌, ◌≤◌, Bool, true, false, cond, ◌⊎◌, List, Some, None, sym, refl, ap, ◌∙◌, inl, inr, arith, get_or-set_other, get_or-set_same}
use Rattle.std.specs.Prelude.{pos, ◌+ℤ◌, ◌-ℤ◌}
use Rattle.std.proofs.lemmas.Bool.{both_ways, cases_eq, cases_order}
use Rattle.std.proofs.lemmas.Bool.Decides.{nat_tests}
use Rattle.std.proofs.lemmas.Int.{int_rem_euclid_is, ints}
use Rattle.levels.specs.declared.level.Level.{Level}
use Rattle.levels.specs.declared.level.LevelState.{LevelState}
use Rattle.levels.specs.declared.level.LevelState.TheVariants.{Disarmed, Armed, Waiting, Active}
use Rattle.levels.specs.declared.level.Sight.{Sight}
use Rattle.levels.specs.declared.level.Sight.TheVariants.{Enters, Blocks, Passes}
use Rattle.levels.specs.Bits.{bit, one}
use Rattle.levels.specs.Levels.{choose, inhibited, is_active, is_waiting, level_at, lowest, preset, sighted, sighted_by, taken}
use Rattle.machine.specs.declared.instruction.Instruction.TheVariants.{Branch}
use Rattle.machine.specs.Decode.{code, condition, displacement, relative}
use Rattle.machine.specs.State.{Machine}
use Rattle.machine.specs.Step.{instruction, instruction_at}
use Rattle.machine.specs.Words.{read}
use Rattle.worked.proofs.Exits.{clears, exit_is}
use Rattle.worked.proofs.Bank.{below, shows, within}
use Rattle.worked.specs.Laws.{Laws, MayEnter, Remainder}

zero≢one : ◌≡◌ {A = ℕ} 0 1 → ⊥
zero≢one e = omega arith

-- what the sight of a level says of it
enters_says : (b : Bool) (s : LevelState) (e : Bool) → sighted_by b s e ≡ Enters → (is_waiting s ≡ true) × (e ≡ true) × (b ≡ false)
enters_says true s e h = absurd (zero≢one (cc))
enters_says false Disarmed e h = absurd (zero≢one (cc))
enters_says false Armed e h = absurd (zero≢one (cc))
enters_says false Waiting true h = (refl, refl, refl)
enters_says false Waiting false h = absurd (zero≢one (cc))
enters_says false Active e h = absurd (zero≢one (cc))

blocks_says : (b : Bool) (s : LevelState) (e : Bool) → sighted_by b s e ≡ Blocks → (is_active s ≡ true) × (b ≡ false)
blocks_says true s e h = absurd (zero≢one (cc))
blocks_says false Disarmed e h = absurd (zero≢one (cc))
blocks_says false Armed e h = absurd (zero≢one (cc))
blocks_says false Waiting true h = absurd (zero≢one (cc))
blocks_says false Waiting false h = absurd (zero≢one (cc))
blocks_says false Active e h = (refl, refl)

passes_says : (b : Bool) (s : LevelState) (e : Bool) → sighted_by b s e ≡ Passes → (b ≡ true) ⊎ (is_active s ≡ false)
passes_says true s e h = inl refl
passes_says false Disarmed e h = inr refl
passes_says false Armed e h = inr refl
passes_says false Waiting true h = inr refl
passes_says false Waiting false h = inr refl
passes_says false Active e h = absurd (zero≢one (cc))

-- a level that is waiting, enabled and not inhibited is seen to enter
sees_enter : (b : Bool) (s : LevelState) (e : Bool) → is_waiting s ≡ true → e ≡ true → b ≡ false → sighted_by b s e ≡ Enters
sees_enter true s e w h f = absurd (zero≢one (cc))
sees_enter false Disarmed e w h f = absurd (zero≢one (cc))
sees_enter false Armed e w h f = absurd (zero≢one (cc))
sees_enter false Waiting true w h f = refl
sees_enter false Waiting false w h f = absurd (zero≢one (cc))
sees_enter false Active e w h f = absurd (zero≢one (cc))

module _ (ii ei : Bool) (ls : List Level) where
  pub sight : ℕ → Sight
  sight k = sighted (inhibited ii ei k) (level_at ls k)

  pub passed : ℕ → ℕ → Type 0
  passed k j = (i : ℕ) → k ≤ i → i < j → sight i ≡ Passes

  -- one more level that is passed over
  passed_more : (k j : ℕ) → sight k ≡ Passes → passed (suc k) j → passed k j
  unfolding passed
  passed_more k j e h i l m = elim (cases_eq i k) [ inl q ↦ ap sight q ∙ e | inr d ↦ h i (omega arith) m ]

  none_between : (k j : ℕ) → j ≤ k → passed k j
  unfolding passed
  none_between k j h i l m = absurd (omega arith)

  pub record Found (k j : ℕ) : Type 0 where
    pub above : k ≤ j
    pub enters : sight j ≡ Enters
    pub before : passed k j

  found_by : (n k j : ℕ) (x : Sight) → sight k ≡ x → (lowest n (suc k) ii ei ls ≡ Some j → Found (suc k) j) → choose x k (lowest n (suc k) ii ei ls) ≡ Some j → Found k j
  found_by n k j Enters e f h =
      let q : k ≡ j = cc in
      record { above = omega arith; enters = ap sight (sym q) ∙ e; before = none_between k j (omega arith) }
  found_by n k j Blocks e f h = absurd (zero≢one (cc))
  found_by n k j Passes e f h = let r = f h in record { above = omega (arith, r.above); enters = r.enters; before = passed_more k j e r.before }

  found : (n k j : ℕ) → lowest n k ii ei ls ≡ Some j → Found k j
  unfolding lowest sight
  found zero k j h = absurd (zero≢one (cc))
  found (suc n) k j h = found_by n k j (sight k) refl (found n (suc k) j) h

  pub record Stopped (k b : ℕ) : Type 0 where
    pub above : k ≤ b
    pub blocks : sight b ≡ Blocks
    pub before : passed k b

  -- none enters: all are passed over, or one blocks
  Barren : ℕ → ℕ → Type 0
  Barren n k = passed k (k + n) ⊎ ((b : ℕ) × Stopped k b)

  barren_by : (n k : ℕ) (x : Sight) → sight k ≡ x → (lowest n (suc k) ii ei ls ≡ None → Barren n (suc k)) → choose x k (lowest n (suc k) ii ei ls) ≡ None → Barren (suc n) k
  unfolding Barren
  barren_by n k Enters e f h = absurd (zero≢one (cc))
  barren_by n k Blocks e f h = inr (k, record { above = omega arith; blocks = e; before = none_between k k (omega arith) })
  barren_by n k Passes e f h =
      elim (f h) [
        | inl r ↦ inl (let q : suc k + n ≡ k + suc n = omega arith in passed_more k (k + suc n) e (rw q at r))
        | inr r ↦ inr (r.0, record { above = omega (arith, r.1.above); blocks = r.1.blocks; before = passed_more k r.0 e r.1.before })
      ]

  barren : (n k : ℕ) → lowest n k ii ei ls ≡ None → Barren n k
  unfolding lowest Barren sight
  barren zero k h = inl (none_between k (k + 0) (omega arith))
  barren (suc n) k h = barren_by n k (sight k) refl (barren n (suc k)) h

  would_enter : (k : ℕ) → MayEnter ii ei ls k → sight k ≡ Enters
  unfolding sight
  would_enter k m = sees_enter (inhibited ii ei k) (level_at ls k).state (level_at ls k).enabled m.waiting m.enabled m.free

  not_passed : (k : ℕ) → MayEnter ii ei ls k → sight k ≡ Passes → ⊥
  not_passed k m e = zero≢one (let f = would_enter k m in cc)

  pub first_may : (k : ℕ) → lowest 16 0 ii ei ls ≡ Some k → MayEnter ii ei ls k × ((j : ℕ) → j < k → MayEnter ii ei ls j → ⊥)
  unfolding sight passed
  first_may k h =
      let r = found 16 0 k h in
      let s = enters_says (inhibited ii ei k) (level_at ls k).state (level_at ls k).enabled r.enters in (
        record {
          waiting = s.0;
          enabled = s.1;
          free = s.2;
          unblocked = λ j l. passes_says (inhibited ii ei j) (level_at ls j).state (level_at ls j).enabled (r.before j (omega arith) l);
        },
        λ j l m. not_passed j m (r.before j (omega arith) l),
      )

  blocked : (k b : ℕ) → b < k → MayEnter ii ei ls k → sight b ≡ Blocks → ⊥
  unfolding sight
  blocked k b l m e =
      let s = blocks_says (inhibited ii ei b) (level_at ls b).state (level_at ls b).enabled e in
      elim (m.unblocked b l) [ inl i ↦ both_ways (inhibited ii ei b) s.1 i | inr a ↦ both_ways (is_active (level_at ls b).state) a s.0 ]

  pub none_may : lowest 16 0 ii ei ls ≡ None → (k : ℕ) → k < 16 → MayEnter ii ei ls k → ⊥
  unfolding Barren passed
  none_may h k l m =
      elim (barren 16 0 h) [
        | inl r ↦ not_passed k m (r k (omega arith) (omega arith))
        | inr r ↦ elim (cases_order k r.0) [
          | inl q ↦ zero≢one (let e = would_enter k m in let f = ap sight q ∙ r.1.blocks in cc)
          | inr d ↦ elim d [
            | inl u ↦ not_passed k m (r.1.before k (omega arith) u)
            | inr u ↦ blocked k r.0 u m r.1.blocks
          ]
        ]
      ]

-- the remainder of i + D - 256 S
remainder : (i d : ℕ) (s : Bool) (r : ℕ) → r ≡ (i + d + cond s 65280 0) % 65536 → Remainder (pos i +ℤ pos d -ℤ pos (256 * one s)) r
remainder i d true r e = record {
  below = omega arith;
  whole = (pos ((i + d + 65280) / 65536) -ℤ pos 1, omega (arith, ints));
  euclidean = int_rem_euclid_is (pos i +ℤ pos d -ℤ pos 256) (pos 65536) 65536 1 (i + d + 65280) (omega arith) refl (omega (arith, ints)) ∙ ap pos (sym e);
}
remainder i d false r e = record {
  below = omega arith;
  whole = (pos ((i + d) / 65536), omega (arith, ints));
  euclidean = int_rem_euclid_is (pos i +ℤ pos d -ℤ pos 0) (pos 65536) 65536 0 (i + d + 0) (omega arith) refl (omega (arith, ints)) ∙ ap pos (sym e);
}

-- the D and S of a word made of them
fields : (h d : ℕ) (s : Bool) → d < 256 → (displacement (512 * h + 256 * one s + d) ≡ d) × (bit (512 * h + 256 * one s + d) 7 ≡ s)
fields h d true l = grind arith
fields h d false l = grind arith

-- the instruction at P where its code is 6
branch_at : (m : Machine) → code (read m.words m.cpu.work.p) ≡ 6
    → instruction m ≡ Branch (condition (read m.words m.cpu.work.p / 512 % 8)) (relative m.cpu.work.p (read m.words m.cpu.work.p))
unfolding instruction_at
branch_at m e = rw e refl

pub laws : Laws
laws = record {
  enters = first_may;
  none_enters = none_may;
  told_own = λ k e ls h. get_or-set_same ls k (taken (level_at ls k) e) (preset 0) h;
  told_others = λ k j e ls d. get_or-set_other ls k j (taken (level_at ls k) e) (preset 0) d;
  enabling_stays = λ l e. refl;
  state_stays = λ l b. refl;
  shows = λ p s k h. shows p s.guard.levels k h;
  controls = λ c s k l h m. within c s.work.a 15 1 k s.guard.levels l h m;
  leaves_zero = λ c s. below c s.work.a 15 1 0 s.guard.levels (omega arith);
  exits = λ ea m e. rw (exit_is ea m e) (clears m.cpu.guard);
  exits_by_any_words = λ x p s. clears s.guard;
  exits_load = λ ea m e. rw (exit_is ea m e) (refl, refl);
  relative_sum = λ h i d s l. let f = fields h d s l in remainder i d s (relative i (512 * h + 256 * one s + d)) (rw (f.0, f.1) refl);
  relative_wraps = refl;
  relative_address = λ i w v ws h r n x. rw (h, r, n, x) refl;
  relative_target = λ m e. (condition (read m.words m.cpu.work.p / 512 % 8), branch_at m e);
  sums = λ a b h k. (λ c. grind (arith, nat_tests), λ c. grind (arith, nat_tests));
  borrows = λ a b h k. (λ c. grind (arith, nat_tests), λ c. grind (arith, nat_tests));
}
