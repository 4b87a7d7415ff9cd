-- The words in which the law of isolation speaks of steps.
use Rattle.std.specs.Prelude.{◌≡◌, ℕ, zero, suc, Bool, true, false, ◌⊎◌, List, [], ◌∷◌, ◌++◌, slice_set}
use Rattle.machine.specs.declared.call.Call.{Call}
use Rattle.machine.specs.declared.call.Outcome.{Outcome}
use Rattle.machine.specs.declared.call.Outcome.TheVariants.{Entered, Idle, Violated, Stalled, NotCarried, Done}
use Rattle.levels.specs.declared.level.Level.{Level}
use Rattle.levels.specs.declared.level.LevelState.TheVariants.{Waiting}
use Rattle.machine.specs.declared.state.ViolationKind.TheVariants.{Entry}
use Rattle.machine.specs.Calls.{after_call, moves_of, trail}
use Rattle.levels.specs.Levels.{level_at}
use Rattle.machine.specs.State.{Machine}
use Rattle.machine.specs.Step.{Moment}
use Rattle.machine.specs.Words.{protects, read}

-- the steps of a list of calls, numbered through step and run calls alike
abbrev pub steps_of : List Call → Machine → List Moment
steps_of [] m = []
steps_of (c ∷ cs) m = trail m (moves_of c) ++ steps_of cs (after_call c m)

-- the step was the entry of a level
abbrev pub Enters : Outcome → Type 0
Enters (Entered k) = Unit {0}
Enters Idle = ⊥
Enters (Violated x) = ⊥
Enters (Stalled x) = ⊥
Enters NotCarried = ⊥
Enters Done = ⊥

-- the step was a violation or a stall
abbrev pub Faults : Outcome → Type 0
Faults (Entered k) = ⊥
Faults Idle = ⊥
Faults (Violated x) = Unit {0}
Faults (Stalled x) = Unit {0}
Faults NotCarried = ⊥
Faults Done = ⊥

-- the step was a violation; a stall is none
abbrev pub IsViolation : Outcome → Type 0
IsViolation (Entered k) = ⊥
IsViolation Idle = ⊥
IsViolation (Violated x) = Unit {0}
IsViolation (Stalled x) = ⊥
IsViolation NotCarried = ⊥
IsViolation Done = ⊥

-- the step executed an instruction: it was done, or its code is not carried
abbrev pub Executes : Outcome → Type 0
Executes (Entered k) = ⊥
Executes Idle = ⊥
Executes (Violated x) = ⊥
Executes (Stalled x) = ⊥
Executes NotCarried = Unit {0}
Executes Done = Unit {0}

-- the step was an entry violation, or a stall by one
abbrev pub Barred : Outcome → Type 0
Barred (Entered k) = ⊥
Barred Idle = ⊥
Barred (Violated x) = x.kind ≡ Entry
Barred (Stalled x) = x.kind ≡ Entry
Barred NotCarried = ⊥
Barred Done = ⊥

-- whether P lies in a protected page
abbrev pub PProtected : Machine → Bool
PProtected m = protects m.cpu.guard.protection m.cpu.work.p

-- a background step: it fetched an instruction from an unprotected page, or it was an entry violation
abbrev pub Background : Moment → Type 0
Background x = ((Executes x.outcome ⊎ Faults x.outcome) × (PProtected x.before ≡ false)) ⊎ Barred x.outcome

-- each step has a property
abbrev pub Each : (Moment → Type 0) → List Moment → Type 0
Each P [] = Unit {0}
Each P (x ∷ xs) = P x × Each P xs

-- no step is an entry
abbrev pub NoEntry : List Moment → Type 0
NoEntry = Each (λ x. Enters x.outcome → ⊥)

-- no violation and no stall among the first n steps
abbrev pub Clean : ℕ → List Moment → Type 0
Clean zero xs = Unit {0}
Clean (suc n) [] = Unit {0}
Clean (suc n) (x ∷ xs) = (Faults x.outcome → ⊥) × Clean n xs

-- the first entry is at step n, counted from 0, of level k, to the address p
abbrev pub EntersFirst : List Moment → ℕ → ℕ → ℕ → Type 0
EntersFirst [] n k p = ⊥
EntersFirst (x ∷ xs) zero k p = (x.outcome ≡ Entered k) × (x.after.cpu.work.p ≡ p)
EntersFirst (x ∷ xs) (suc n) k p = (Enters x.outcome → ⊥) × EntersFirst xs n k p

-- two machines have equal protected words, the protection registers being ps
abbrev pub SameWords : List ℕ → Machine → Machine → Type 0
SameWords ps m t = (a : ℕ) → protects ps a ≡ true → read t.words a ≡ read m.words a

-- level records of which level 0 waits
abbrev pub zero_waiting : List Level → List Level
zero_waiting ls = slice_set ls 0 (record { state = Waiting; enabled = (level_at ls 0).enabled })
