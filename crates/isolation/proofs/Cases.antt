-- One step by cases: what each leaves. Nothing here looks at an instruction code.
use Rattle.std.proofs.Common.{◌≡◌, ℕ, Bool, true, false, cond, not, ◌&&◌, ◌⊎◌, List, [], ◌∷◌, get_or, set, Some, None, Option, sym, refl, ap, ◌∙◌, subst, inl, inr, get_or-set_other}
use Rattle.std.proofs.lemmas.Bool.{both_ways}
use Rattle.machine.specs.declared.call.Outcome.{Outcome}
use Rattle.machine.specs.declared.call.Outcome.TheVariants.{Entered, Idle, NotCarried as Uncarried, Done}
use Rattle.machine.specs.declared.instruction.Instruction.{Instruction}
use Rattle.machine.specs.declared.instruction.Instruction.TheVariants.{Sta, Im, Read, Write, NotCarried}
use Rattle.levels.specs.declared.level.Level.{Level}
use Rattle.levels.specs.declared.level.LevelState.{LevelState}
use Rattle.levels.specs.declared.level.LevelState.TheVariants.{Active}
use Rattle.levels.specs.declared.level.Event.TheVariants.{Violate}
use Rattle.machine.specs.declared.state.Mark.{Mark}
use Rattle.machine.specs.declared.state.Mark.TheVariants.{Unset, Wait, Exit}
use Rattle.machine.specs.declared.state.Violation.{Violation}
use Rattle.machine.specs.declared.work.Work.{Work}
use Rattle.levels.specs.Levels.{is_active, level_at, next_state, told}
use Rattle.machine.specs.State.{Machine}
use Rattle.machine.specs.Step.{Class, Moment, act, by_entry, by_fetch, by_judgement, by_mark, carried, class, due, enter, exits, fetch_pp, fetched, instruction, judge, none_such, on_work, plain, privileged, stalls, step, store, stores, violated, violation}
use Rattle.machine.specs.Words.{protects}
use Rattle.isolation.specs.Steps.{Enters, Executes, IsViolation, PProtected, SameWords, zero_waiting}
use Rattle.isolation.specs.Wider.{exit_marked}

-- a step from m, with its outcome and the machine after it
abbrev pub from : Machine → Outcome → Machine → Moment
from m o t = record { before = m; outcome = o; after = t }

-- A STEP BY ITS FORMS, WITH THE SWITCH ON OR OFF

-- m fetches, and the fetch leaves o as PP
pub record Fetches (m : Machine) (o : Option Bool) : Type 0 where
  pub wait : m.cpu.mark ≡ Wait → ⊥
  pub pp : fetch_pp m.cpu.switch m.cpu.pp (PProtected m) ≡ o

-- the instruction at P of m is judged v, where its fetch leaves pp
abbrev pub Judged : Machine → Bool → Option Violation → Type 0
Judged m pp v = judge (m.cpu.switch && not pp) m.cpu.guard.protection m.cpu.work.p (class (instruction m)) ≡ v

module _ (G : Moment → Type 0) (m : Machine)
    (enters : (k : ℕ) → due m.cpu.mark m.cpu.guard ≡ Some k → G (from m (Entered k) (enter k m)))
    (idles : m.cpu.mark ≡ Wait → G (from m Idle m))
    (barred : (x : Violation) → Fetches m None → G (violated false x m))
    (breaks : (pp : Bool) (x : Violation) → Fetches m (Some pp) → Judged m pp (Some x) → G (violated pp x m))
    (acts : (pp : Bool) → Fetches m (Some pp) → Judged m pp None
    → G (from m (carried (class (instruction m))) (act (exits m.cpu.mark pp) (instruction m) (fetched pp m)))) where
  go_judged : (pp : Bool) → Fetches m (Some pp) → (v : Option Violation) → Judged m pp v → G (by_judgement v pp m)
  go_judged pp f (Some x) j = breaks pp x f j
  go_judged pp f None j = acts pp f j

  go_fetch : (o : Option Bool) → Fetches m o → G (by_fetch o m)
  go_fetch None f = barred _ f
  go_fetch (Some pp) f = go_judged pp f _ refl

  go_mark : (k : Mark) → m.cpu.mark ≡ k → G (by_mark k m)
  go_mark Wait e = idles e
  go_mark Unset e = go_fetch _ (record { wait = λ w. cc; pp = refl })
  go_mark Exit e = go_fetch _ (record { wait = λ w. cc; pp = refl })

  go_entry : (o : Option ℕ) → due m.cpu.mark m.cpu.guard ≡ o → G (by_entry o m)
  go_entry (Some k) e = enters k e
  go_entry None e = go_mark m.cpu.mark refl

  pub step_forms : G (step m)
  unfolding step
  step_forms = go_entry (due m.cpu.mark m.cpu.guard) refl

-- A BACKGROUND STEP

-- what a background step leaves, whether it is allowed or not; an idle step leaves that too
pub record Tame (x : Moment) : Type 0 where
  pub no_entry : Enters x.outcome → ⊥
  pub away : (x.after.cpu.pp ≡ false) ⊎ (x.after.cpu.mark ≡ Wait)
  pub exit : exit_marked x.after.cpu.mark ≡ false
  pub words : SameWords x.before.cpu.guard.protection x.before x.after
  pub protection : x.after.cpu.guard.protection ≡ x.before.cpu.guard.protection
  pub ii : x.after.cpu.guard.ii ≡ x.before.cpu.guard.ii
  pub ei : x.after.cpu.guard.ei ≡ x.before.cpu.guard.ei
  pub levels : (x.after.cpu.guard.levels ≡ x.before.cpu.guard.levels)
      ⊎ (IsViolation x.outcome × (x.after.cpu.guard.levels ≡ zero_waiting x.before.cpu.guard.levels))

tame_idle : (m : Machine) → m.cpu.mark ≡ Wait → Tame (from m Idle m)
tame_idle m w = record {
  no_entry = λ e. e;
  away = inr w;
  exit = ap exit_marked w;
  words = λ a l. refl;
  protection = refl;
  ii = refl;
  ei = refl;
  levels = inl refl;
}

-- an instruction that changes registers alone
tame_work : (m : Machine) (o : Outcome) (v : Work) → (Enters o → ⊥) → Tame (from m o (on_work (λ _. v) (fetched false m)))
tame_work m o v n = record {
  no_entry = n;
  away = inl refl;
  exit = refl;
  words = λ a l. refl;
  protection = refl;
  ii = refl;
  ei = refl;
  levels = inl refl;
}

-- a store to an unprotected address
tame_store : (m : Machine) (a w : ℕ) (v : Work) → protects m.cpu.guard.protection a ≡ false → Tame (from m Done (store a w (on_work (λ _. v) (fetched false m))))
tame_store m a w v e = record {
  no_entry = λ x. x;
  away = inl refl;
  exit = refl;
  words = λ b l. get_or-set_other m.words a b w 0 (λ same. both_ways (protects m.cpu.guard.protection b) (rw (← same) at e) l);
  protection = refl;
  ii = refl;
  ei = refl;
  levels = inl refl;
}

unprotected : (ps : List ℕ) (i a : ℕ) (b : Bool) → protects ps a ≡ b → judge true ps i (stores a) ≡ None → protects ps a ≡ false
unprotected ps i a true e j = let q = rw e at j in absurd cc
unprotected ps i a false e j = e

-- an allowed instruction of the background, in which no LDX exits
tame_act : (m : Machine) (i : ℕ) (x : Instruction) → judge true m.cpu.guard.protection i (class x) ≡ None → Tame (from m (carried (class x)) (act false x (fetched false m)))
tame_act m i (Sta ea) j = tame_store m ea _ _ (unprotected m.cpu.guard.protection i ea (protects m.cpu.guard.protection ea) refl j)
tame_act m i (Im ea) j = tame_store m ea _ _ (unprotected m.cpu.guard.protection i ea (protects m.cpu.guard.protection ea) refl j)
tame_act m i (Read f ea) j = absurd cc
tame_act m i (Write f ea) j = absurd cc
tame_act m i NotCarried j = tame_work m Uncarried _ (λ x. x)
tame_act m i x j = tame_work m Done _ (λ x. x)

pub no_entry : (b : Bool) (x : Violation) → Enters (violation b x) → ⊥
no_entry true x h = h
no_entry false x h = h

no_run : (b : Bool) (x : Violation) → Executes (violation b x) → ⊥
no_run true x h = h
no_run false x h = h

pub stall_exit : (b : Bool) → exit_marked (cond b Wait Unset) ≡ false
stall_exit true = refl
stall_exit false = refl

-- a violation sets level 0 waiting, and a stall, where that is active, leaves the levels
set_first : (ls : List Level) (d : Level) → set ls 0 (get_or ls 0 d) ≡ ls
set_first [] d = refl
set_first (l ∷ ls) d = refl

violated_levels : (x : Violation) (ls : List Level) (s : LevelState) → (level_at ls 0).state ≡ s
    → (told 0 Violate ls ≡ ls) ⊎ (IsViolation (violation (is_active s) x) × (told 0 Violate ls ≡ zero_waiting ls))
violated_levels x ls Active e =
    let l = level_at ls 0 in
    let still : next_state l.state Violate ≡ l.state = ap (λ s. next_state s Violate) e ∙ sym e in
    inl (ap (λ s. set ls 0 (record { state = s; enabled = l.enabled })) still ∙ set_first ls _)
violated_levels x ls s e = inr (tt, ap (λ s. set ls 0 (record { state = next_state s Violate; enabled = (level_at ls 0).enabled })) e)

tame_violate : (m : Machine) (x : Violation) → Tame (violated false x m)
tame_violate m x = record {
  no_entry = no_entry (stalls m.cpu) x;
  away = inl refl;
  exit = stall_exit (stalls m.cpu);
  words = λ a l. refl;
  protection = refl;
  ii = refl;
  ei = refl;
  levels = violated_levels x m.cpu.guard.levels (level_at m.cpu.guard.levels 0).state refl;
}

no_exits : (k : Mark) → exits k false ≡ false
no_exits Unset = refl
no_exits Wait = refl
no_exits Exit = refl

-- protected code is not judged
judge_front : (ps : List ℕ) (i : ℕ) (k : Class) → judge false ps i k ≡ None
judge_front ps i plain = refl
judge_front ps i (stores ea) = refl
judge_front ps i (privileged ea) = refl
judge_front ps i none_such = refl

-- with the switch on, a fetch leaves in PP whether P's page is protected; PP is never set by it
fetch_is : (p l q : Bool) → fetch_pp true p l ≡ Some q → (l ≡ q) × (q ≡ true → p ≡ true)
fetch_is true l q e = (cc, λ _. refl)
fetch_is false true q e = absurd cc
fetch_is false false q e = (cc, λ f. cc)

-- A STEP BY CASES, WITH THE SWITCH ON: an entry, an instruction of the foreground, or a tame step
module _ (G : Moment → Type 0) (m : Machine) (on : m.cpu.switch ≡ true)
    (enters : (k : ℕ) → due m.cpu.mark m.cpu.guard ≡ Some k → G (from m (Entered k) (enter k m)))
    (front : (m.cpu.mark ≡ Wait → ⊥) → m.cpu.pp ≡ true → PProtected m ≡ true
    → G (from m (carried (class (instruction m))) (act (exits m.cpu.mark true) (instruction m) (fetched true m))))
    (back : (o : Outcome) (t : Machine) → Tame (from m o t) → (Executes o → PProtected m ≡ false) → G (from m o t)) where
  page : (pp : Bool) → Fetches m (Some pp) → (PProtected m ≡ pp) × (pp ≡ true → m.cpu.pp ≡ true)
  page pp f = fetch_is m.cpu.pp (PProtected m) pp (rw on at f.pp)

  go_breaks : (pp : Bool) (x : Violation) → Fetches m (Some pp) → Judged m pp (Some x) → G (violated pp x m)
  go_breaks true x f j = let q = rw on at j in let e = sym (judge_front m.cpu.guard.protection m.cpu.work.p (class (instruction m))) ∙ q in absurd cc
  go_breaks false x f j = back _ _ (tame_violate m x) (λ _. (page false f).0)

  go_acts : (pp : Bool) → Fetches m (Some pp) → Judged m pp None
      → G (from m (carried (class (instruction m))) (act (exits m.cpu.mark pp) (instruction m) (fetched pp m)))
  go_acts true f j = front f.wait ((page true f).1 refl) (page true f).0
  go_acts false f j =
      back _ _
      (subst (λ b. Tame (from m (carried (class (instruction m))) (act b (instruction m) (fetched false m)))) (sym (no_exits m.cpu.mark))
      (tame_act m m.cpu.work.p (instruction m) (subst (λ b. judge (b && true) m.cpu.guard.protection m.cpu.work.p (class (instruction m)) ≡ None) on j)))
      (λ _. (page false f).0)

  pub step_cases : G (step m)
  step_cases = step_forms G m enters (λ w. back _ _ (tame_idle m w) (λ r. absurd r)) (λ x f. back _ _ (tame_violate m x) (λ r. absurd (no_run (stalls m.cpu) x r))) go_breaks go_acts
