-- Going through the levels one by one.
use Rattle.std.proofs.Common.{◌≡◌, ℕ, zero, suc, ◌+◌, ◌-◌, ◌<◌, Bool, true, false, cond, List, length, set, None, Some, Option, refl, ap, ◌∙◌, inl, inr, arith}
use Rattle.std.proofs.lemmas.List.{get_or_past}
use Rattle.std.proofs.lemmas.Bool.{cases_lt}
use Rattle.std.specs.List.{find, range_with_len}
use Rattle.levels.specs.declared.level.LevelControl.{LevelControl}
use Rattle.levels.specs.declared.level.Level.{Level}
use Rattle.levels.specs.declared.level.LevelState.{LevelState}
use Rattle.levels.specs.declared.level.LevelState.TheVariants.{Disarmed, Armed, Waiting, Active}
use Rattle.levels.specs.Levels.{Quiet, choose, control_each, controlled, inhibited, is_waiting, level_at, lowest, preset, sighted, sighted_by}
use Rattle.levels.specs.Bits.{bit}

-- what a scan over the n levels from k on comes to, one level further
module _ (k : ℕ) (h : k < 16) where
  less : 16 - k ≡ suc (16 - (k + 1))
  less = omega arith

  next : k + 1 ≡ suc k
  next = omega arith

lowest_suc : (n k : ℕ) (ii ei : Bool) (ls : List Level) → lowest (suc n) k ii ei ls ≡ choose (sighted (inhibited ii ei k) (level_at ls k)) k (lowest n (suc k) ii ei ls)
unfolding lowest
lowest_suc n k ii ei ls = refl

pub lowest_none : (n k : ℕ) (ii ei : Bool) (ls : List Level) → n ≡ 0 → lowest n k ii ei ls ≡ None
unfolding lowest
lowest_none n k ii ei ls e = rw e

-- what a turn of the search sees
pub sees : (k : ℕ) (ii ei : Bool) (ls : List Level) → k < 16
    → lowest (16 - k) k ii ei ls ≡ choose (sighted (inhibited ii ei k) (level_at ls k)) k (lowest (16 - (k + 1)) (k + 1) ii ei ls)
sees k ii ei ls h = rw (less k h, next k h) (lowest_suc (16 - suc k) k ii ei ls)

pub ruleset searching = (sees, lowest_none)

-- where none waits, none enters
passes : (b : Bool) (s : LevelState) (e : Bool) (k : ℕ) (rest : Option ℕ) → is_waiting s ≡ false → rest ≡ None → choose (sighted_by b s e) k rest ≡ None
passes true s e k rest q r = r
passes false Disarmed e k rest q r = r
passes false Armed e k rest q r = r
passes false Waiting e k rest q r = absurd (let z : ◌≡◌ {A = ℕ} 0 1 = cc in omega arith)
passes false Active e k rest q r = refl

pub quiet_lowest : (n k : ℕ) (ii ei : Bool) (ls : List Level) → Quiet ls → lowest n k ii ei ls ≡ None
unfolding lowest
quiet_lowest zero k ii ei ls q = refl
quiet_lowest (suc n) k ii ei ls q = passes (inhibited ii ei k) (level_at ls k).state (level_at ls k).enabled k (lowest n (suc k) ii ei ls) (q k) (quiet_lowest n (suc k) ii ei ls q)

-- a turn of the search for the first level that a test holds of
pub tries : (t : ℕ → Bool) (k : ℕ) → k < 16 → find t (range_with_len k (16 - k)) ≡ cond (t k) (Some k) (find t (range_with_len (k + 1) (16 - (k + 1))))
tries t k h = rw (less k h) refl

pub tries_none : (t : ℕ → Bool) (n k : ℕ) → n ≡ 0 → find t (range_with_len k n) ≡ None
tries_none t n k e = rw e

pub ruleset finding = (tries, tries_none)

control_suc : (n k : ℕ) (c : LevelControl) (a : ℕ) (ls : List Level)
    → control_each (suc n) k c a ls ≡ control_each n (suc k) c a (cond (bit a k) (set ls k (controlled c (level_at ls k))) ls)
unfolding control_each
control_suc n k c a ls = refl

-- one level further, by its bit b
pub controls : (k : ℕ) (c : LevelControl) (a : ℕ) (ls new total : List Level) (b : Bool) → k < 16 → total ≡ control_each (16 - k) k c a ls
    → bit a k ≡ b → new ≡ cond b (set ls k (controlled c (level_at ls k))) ls → total ≡ control_each (16 - (k + 1)) (k + 1) c a new
controls k c a ls new total b h inv e f =
    let more : control_each (16 - k) k c a ls ≡ control_each (16 - (k + 1)) (k + 1) c a (cond (bit a k) (set ls k (controlled c (level_at ls k))) ls) =
    rw (less k h, next k h) (control_suc (16 - suc k) k c a ls) in
    rw (f, ← e) (inv ∙ more)

pub controls_none : (n k : ℕ) (c : LevelControl) (a : ℕ) (ls : List Level) → n ≡ 0 → control_each n k c a ls ≡ ls
unfolding control_each
controls_none n k c a ls e = rw e

-- past the sixteen records none waits
pub quiet_all : (ls : List Level) → length ls ≡ 16 → ((j : ℕ) → j < 16 → is_waiting (level_at ls j).state ≡ false) → Quiet ls
quiet_all ls e h j =
    elim (cases_lt j 16) [
      | inl l ↦ h j l
      | inr g ↦ ap (λ (l : Level). is_waiting l.state) (get_or_past ls j (preset 0) (omega arith))
    ]
