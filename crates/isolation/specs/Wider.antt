-- The law of isolation with the fewest premises: what holds of every machine, and what of every machine with the protect switch on.
use Rattle.std.specs.Prelude.{◌≡◌, ℕ, zero, suc, Bool, true, false, ◌⊎◌, List, [], ◌∷◌, ◌++◌}
use Rattle.machine.specs.declared.call.Call.{Call}
use Rattle.machine.specs.declared.state.Mark.{Mark}
use Rattle.machine.specs.declared.state.Mark.TheVariants.{Unset, Wait, Exit}
use Rattle.machine.specs.Calls.{after_calls}
use Rattle.machine.specs.State.{Machine}
use Rattle.machine.specs.Step.{Moment}
use Rattle.machine.specs.Words.{page_protected}
use Rattle.isolation.specs.Isolation.{ByCell, Unchanged, WordsAgree}
use Rattle.isolation.specs.Steps.{Each, Enters, EntersFirst, Executes, IsViolation, NoEntry, PProtected, SameWords, steps_of}

-- no violation among the first n steps
abbrev pub NoViolation : ℕ → List Moment → Type 0
NoViolation zero xs = Unit {0}
NoViolation (suc n) [] = Unit {0}
NoViolation (suc n) (x ∷ xs) = (IsViolation x.outcome → ⊥) × NoViolation n xs

-- whether a mark is the exit mark
abbrev pub exit_marked : Mark → Bool
exit_marked Unset = false
exit_marked Wait = false
exit_marked Exit = true

-- a step that is no entry and executes nothing from a protected page: idle steps, violations and stalls are such
abbrev pub NotForeground : Moment → Type 0
NotForeground x = (Enters x.outcome → ⊥) × (Executes x.outcome → PProtected x.before ≡ false)

-- (a) such a step changes nothing of the foreground, and sets level 0 waiting only if it is a violation
abbrev pub Contained : Moment → Type 0
Contained x = NotForeground x → Unchanged x

-- (b) between such a step and an instruction executed from a protected page there is an entry
abbrev pub EntryNeeded : List Moment → Type 0
EntryNeeded all =
    (xs ys zs : List Moment) (x z : Moment) → all ≡ xs ++ (x ∷ (ys ++ (z ∷ zs)))
    → NotForeground x → NoEntry ys → Executes z.outcome → PProtected z.before ≡ false

-- a machine that is not in its foreground: the protect switch is on, and PP is 0 or the wait mark is set
pub record Guarded (m : Machine) : Type 0 where
  pub switch : m.cpu.switch ≡ true
  pub away : (m.cpu.pp ≡ false) ⊎ (m.cpu.mark ≡ Wait)

-- two machines alike in what decides an entry: the inhibits, the level records, and whether the exit mark is set
pub record SameLevels (m t : Machine) : Type 0 where
  pub ii : m.cpu.guard.ii ≡ t.cpu.guard.ii
  pub ei : m.cpu.guard.ei ≡ t.cpu.guard.ei
  pub levels : m.cpu.guard.levels ≡ t.cpu.guard.levels
  pub exit : exit_marked m.cpu.mark ≡ exit_marked t.cpu.mark

-- two machines alike in what is protected: the protection registers and the protected words
pub record SameProtected (m t : Machine) : Type 0 where
  pub protection : m.cpu.guard.protection ≡ t.cpu.guard.protection
  pub words : SameWords m.cpu.guard.protection m t

-- two machines alike in what is protected, the levels' cells with it: page 1, where these stand, is protected
abbrev pub SameCells : Machine → Machine → Type 0
SameCells m t = SameProtected m t × (page_protected m.cpu.guard.protection 1 ≡ true)

-- (c) if the first steps come to an entry with no violation of either before it, the first entry of the others is at the same step,
-- of the same level and, given A, to the same address
abbrev pub SameEntry : Type 0 → List Moment → List Moment → Type 0
SameEntry A xs ys = (n k p : ℕ) → EntersFirst xs n k p → NoViolation n xs → NoViolation n ys → (q : ℕ) × EntersFirst ys n k q × (A → q ≡ p)

-- the law, for machines m and t as they are, and any list of calls
pub record Wider : Type 0 where
  -- with the switch on each step is contained, and only an entry brings the foreground back
  pub contained : (m : Machine) → m.cpu.switch ≡ true → (cs : List Call) → Each Contained (steps_of cs m)
  pub held : (m : Machine) → m.cpu.switch ≡ true → (cs : List Call) → EntryNeeded (steps_of cs m)
  -- with the switch off too an entry goes by its cell
  pub by_cell : (m : Machine) (cs : List Call) → Each ByCell (steps_of cs m)
  -- of two machines that get the same calls the first entry of either is that of the other
  pub entries : (m t : Machine) → Guarded m → Guarded t → SameLevels m t → (cs : List Call)
      → SameEntry (SameCells m t) (steps_of cs m) (steps_of cs t)
  -- their protected words are equal after every step until either enters
  pub steps : (m t : Machine) → Guarded m → Guarded t → SameProtected m t → (cs : List Call)
      → WordsAgree m.cpu.guard.protection (steps_of cs m) (steps_of cs t)
  -- and after calls in which neither enters
  pub calls : (m t : Machine) → Guarded m → Guarded t → SameProtected m t → (cs : List Call) → NoEntry (steps_of cs m) → NoEntry (steps_of cs t)
      → SameWords m.cpu.guard.protection (after_calls cs m) (after_calls cs t)
  -- no call moves the switch
  pub switch : (m : Machine) (cs : List Call) → (after_calls cs m).cpu.switch ≡ m.cpu.switch
  -- set going with PP 1, a machine has no exit mark in its background, with the switch on or off
  pub unmarked : (m : Machine) → m.cpu.pp ≡ true → (cs : List Call) → (after_calls cs m).cpu.pp ≡ false
      → exit_marked (after_calls cs m).cpu.mark ≡ false
