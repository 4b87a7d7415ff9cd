-- What each conclusion gives, worked out.
use Rattle.std.proofs.Common.{◌≡◌, ℕ, suc, Bool, true, ◌⊎◌, List, [], ◌∷◌, ◌++◌, refl, ap, ◌∙◌, subst, inl, inr, ⊎_elim}
use Rattle.std.proofs.lemmas.Bool.{both_ways}
use Rattle.levels.specs.declared.level.Level.{Level}
use Rattle.levels.specs.declared.level.LevelState.TheVariants.{Waiting}
use Rattle.machine.specs.declared.state.Mark.{Mark}
use Rattle.machine.specs.declared.state.Mark.TheVariants.{Exit}
use Rattle.levels.specs.Levels.{level_at}
use Rattle.machine.specs.Step.{Moment}
use Rattle.isolation.specs.Isolation.{Follows, Unchanged}
use Rattle.isolation.specs.Sharp.{Agree, Among, Keeps, Sharp, SharpIsolated, SharpPairs, SharpSteps, SharpWider}
use Rattle.isolation.specs.Steps.{Each, Enters, Faults, IsViolation, NoEntry, zero_waiting}
use Rattle.isolation.specs.Wider.{SameEntry, exit_marked}

-- THE WORDS OF STEPS
pub no_entries : (xs : List Moment) → ((x : Moment) → Among x xs → Enters x.outcome → ⊥) → NoEntry xs
no_entries [] h = tt
no_entries (x ∷ xs) h = (h x ([], xs, refl), no_entries xs (λ y a. h y (x ∷ a.0, a.1, ap (λ zs. x ∷ zs) a.2)))

pub steps : SharpSteps
steps = record {
  enters = (λ k. tt, λ h. h, λ x h. h, λ x h. h, λ h. h, λ h. h);
  faults = (λ k h. h, λ h. h, λ x. tt, λ x. tt, λ h. h, λ h. h);
  violates = (λ k h. h, λ h. h, λ x. tt, λ x h. h, λ h. h, λ h. h);
  executes = (λ k h. h, λ h. h, λ x h. h, λ x h. h, tt, tt);
  fetched = λ x o l. inl (o, l);
  barred = λ x v k o. inr (⊎_elim (λ e. rw e k) (λ e. rw e k) o);
  steps = λ m. refl;
  no_entry = no_entries;
  same_words = λ ps m t h. h;
}

-- WHAT A STEP KEEPS
at_place : (P : Moment → Type 0) (xs ys : List Moment) (x : Moment) → Each P (xs ++ (x ∷ ys)) → P x
at_place P [] ys x h = h.0
at_place P (z ∷ xs) ys x h = at_place P xs ys x h.1

at_step : (P : Moment → Type 0) (all : List Moment) (x : Moment) → Among x all → Each P all → P x
at_step P all x a h = at_place P a.0 a.1 x (subst (Each P) a.2 h)

others : (ls : List Level) (k : ℕ) → level_at (zero_waiting ls) (suc k) ≡ level_at ls (suc k)
others [] k = refl
others (l ∷ ls) k = refl

enabled : (ls : List Level) → (level_at (zero_waiting ls) 0).enabled ≡ (level_at ls 0).enabled
enabled [] = refl
enabled (l ∷ ls) = refl

state : (ls : List Level) → ((level_at (zero_waiting ls) 0).state ≡ (level_at ls 0).state) ⊎ ((level_at (zero_waiting ls) 0).state ≡ Waiting)
state [] = inl refl
state (l ∷ ls) = inr refl

keeps : (x : Moment) → Unchanged x → Keeps x
keeps x h =
    let ls = x.before.cpu.guard.levels in
    record {
      words = h.words;
      protection = h.protection;
      ii = h.ii;
      ei = h.ei;
      others = λ k. ⊎_elim (λ e. ap (λ ks. level_at ks (suc k)) e) (λ e. ap (λ ks. level_at ks (suc k)) e.1 ∙ others ls k) h.levels;
      enabled = ⊎_elim (λ e. ap (λ ks. (level_at ks 0).enabled) e) (λ e. ap (λ ks. (level_at ks 0).enabled) e.1 ∙ enabled ls) h.levels;
      state =
          ⊎_elim (λ e. inl (ap (λ ks. (level_at ks 0).state) e))
          (λ e. let f = ap (λ (ks : List Level). (level_at ks 0).state) e.1 in ⊎_elim (λ s. inl (f ∙ s)) (λ s. inr (e.0, f ∙ s)) (state ls))
          h.levels;
      levels = λ n. ⊎_elim (λ e. e) (λ v. absurd (n v.0)) h.levels;
    }

-- WHAT AGREES
pub follows : (b : Bool) → Agree (Follows b) Faults (b ≡ true)
follows b = record {
  now = λ x y xs ys k h e. let z = h 0 k _ (e, refl) tt tt in (z.1.0, λ l. z.1.1 ∙ z.2 l);
  none = λ x xs k h e. (h 0 k _ (e, refl) tt tt).1;
  later = λ x y xs ys h f v w n k p e c d. let z = h (suc n) k p (f, e) (v, c) (w, d) in (z.0, z.1.1, z.2);
  alone = λ x xs h f v n k p e c d. absurd (h (suc n) k p (f, e) (v, c) tt).1;
}

pub entries : (b : Bool) → Agree (SameEntry (b ≡ true)) IsViolation (b ≡ true)
entries b = record {
  now = λ x y xs ys k h e. let z = h 0 k _ (e, refl) tt tt in (z.1.0, λ l. z.1.1 ∙ z.2 l);
  none = λ x xs k h e. (h 0 k _ (e, refl) tt tt).1;
  later = λ x y xs ys h f v w n k p e c d. let z = h (suc n) k p (f, e) (v, c) (w, d) in (z.0, z.1.1, z.2);
  alone = λ x xs h f v n k p e c d. absurd (h (suc n) k p (f, e) (v, c) tt).1;
}

pub pairs : SharpPairs
pairs = record {
  follows = follows;
  entries = entries;
  words = λ ps x y xs ys h f g. h f g;
  more = λ ps x xs. (λ h. h, λ h. h);
  there = λ m t cs h. h.there;
  back = λ m t cs h. h.back;
  steps = λ m t cs h. h.steps;
  calls = λ m t cs ps qs h. h.calls ps qs;
}

-- THE LAWS
pub isolated : SharpIsolated
isolated = record {
  isolated = λ h m p l on. h m (record { pp = p; last = l; switch = on });
  confined = λ m h cs x a b. keeps x (at_step _ (_) x a (h.confined cs) b);
  held = λ m h cs xs ys zs x z e b n r l. both_ways _ (h.held cs xs ys zs x z e b n r) l;
  by_cell = λ m h cs x a. at_step _ _ x a (h.by_cell cs);
  indistinct = λ m t h p l on ms ts cs px py ux uy c i j k w.
      h.indistinct t (record { pp = p; last = l; switch = on }) ms ts cs (record { pp = px; mark = ux }) (record { pp = py; mark = uy }) (record { protection = c; ii = i; ei = j; levels = k; words = w });
}

same_exit : (j k : Mark) → (j ≡ Exit → k ≡ Exit) → (k ≡ Exit → j ≡ Exit) → exit_marked j ≡ exit_marked k
same_exit Exit Exit f g = refl
same_exit Exit k f g = let q = f refl in absurd cc
same_exit j Exit f g = let q = g refl in absurd cc
same_exit j k f g = refl

pub wider : SharpWider
wider = record {
  contained = λ h m on cs x a e r. keeps x (at_step _ _ x a (h.contained m on cs) (e, r));
  held = λ h m on cs xs ys zs x z q e r n s l. both_ways _ (h.held m on cs xs ys zs x z q (e, r) n s) l;
  by_cell = λ h m cs x a. at_step _ _ x a (h.by_cell m cs);
  guarded = λ m on a. record { switch = on; away = a };
  levels = λ m t i j l e f. record { ii = i; ei = j; levels = l; exit = same_exit m.cpu.mark t.cpu.mark e f };
  protected = λ m t p w. record { protection = p; words = w };
  cells = λ m t c l. (c, l);
  entries = λ h. h.entries;
  steps = λ h. h.steps;
  calls = λ h. h.calls;
  switch = λ h. h.switch;
  unmarked = λ h m cs p q e. both_ways (exit_marked _) (h.unmarked m p cs q) (ap exit_marked e);
}

pub sharp : Sharp
sharp = record { steps = steps; pairs = pairs; isolated = isolated; wider = wider }
