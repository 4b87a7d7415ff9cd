-- The law of isolation: what the background cannot reach, what brings protected code back, and what protected code cannot tell.
use Rattle.std.specs.Prelude.{◌≡◌, ℕ, ◌+◌, Bool, true, false, ◌⊎◌, List, [], ◌∷◌, ◌++◌}
use Rattle.machine.specs.declared.call.Call.{Call}
use Rattle.machine.specs.declared.call.Outcome.TheVariants.{Entered}
use Rattle.machine.specs.declared.state.Mark.TheVariants.{Unset}
use Rattle.machine.specs.Calls.{after_calls}
use Rattle.machine.specs.State.{Machine}
use Rattle.machine.specs.Step.{Moment}
use Rattle.machine.specs.Words.{page_protected, read, word}
use Rattle.isolation.specs.Steps.{Background, Clean, Each, Enters, EntersFirst, Executes, IsViolation, NoEntry, PProtected, SameWords, steps_of, zero_waiting}

-- (a) WHAT A BACKGROUND STEP CANNOT CHANGE

-- the protected words, the protection registers, the inhibits and the levels are as they were; but a violation may set level 0 waiting,
-- which a stall leaves active
pub record Unchanged (x : Moment) : Type 0 where
  pub words : SameWords x.before.cpu.guard.protection x.before x.after
  pub protection : x.after.cpu.guard.protection ≡ x.before.cpu.guard.protection
  pub ii : x.after.cpu.guard.ii ≡ x.before.cpu.guard.ii
  pub ei : x.after.cpu.guard.ei ≡ x.before.cpu.guard.ei
  pub levels : (x.after.cpu.guard.levels ≡ x.before.cpu.guard.levels)
      ⊎ (IsViolation x.outcome × (x.after.cpu.guard.levels ≡ zero_waiting x.before.cpu.guard.levels))

-- a background step changes none of it
abbrev pub Confined : Moment → Type 0
Confined x = Background x → Unchanged x

-- (b) WHAT BRINGS PROTECTED CODE BACK

-- between a background step and an instruction executed from a protected page there is an entry
abbrev pub EntryBetween : List Moment → Type 0
EntryBetween all =
    (xs ys zs : List Moment) (x z : Moment) → all ≡ xs ++ (x ∷ (ys ++ (z ∷ zs)))
    → Background x → NoEntry ys → Executes z.outcome → PProtected z.before ≡ false

-- an entry of level k goes two past the word that its cell reads just before
abbrev pub ByCell : Moment → Type 0
ByCell x = (k : ℕ) → x.outcome ≡ Entered k → x.after.cpu.work.p ≡ word (read x.before.words (0x0100 + k) + 2)

-- (c) WHAT PROTECTED CODE CANNOT TELL OF THE BACKGROUND BUT BY A VIOLATION

-- a machine in its background: PP is 0 and neither mark is set
pub record InBackground (m : Machine) : Type 0 where
  pub pp : m.cpu.pp ≡ false
  pub mark : m.cpu.mark ≡ Unset

-- two machines alike in what the background cannot change; their memories may differ in size, and all else they hold may differ
pub record Alike (m t : Machine) : Type 0 where
  pub protection : m.cpu.guard.protection ≡ t.cpu.guard.protection
  pub ii : m.cpu.guard.ii ≡ t.cpu.guard.ii
  pub ei : m.cpu.guard.ei ≡ t.cpu.guard.ei
  pub levels : m.cpu.guard.levels ≡ t.cpu.guard.levels
  pub words : SameWords m.cpu.guard.protection m t

-- if the first steps xs come to an entry with no violation of either before it, the first entry of the others is at the same step,
-- of the same level and, where page 1 is protected, to the same address
abbrev pub Follows : Bool → List Moment → List Moment → Type 0
Follows page_1 xs ys =
    (n k p : ℕ) → EntersFirst xs n k p → Clean n xs → Clean n ys → (q : ℕ) × EntersFirst ys n k q × (page_1 ≡ true → q ≡ p)

-- the steps are equally many and, until either enters, the protected words are equal after every step
abbrev pub WordsAgree : List ℕ → List Moment → List Moment → Type 0
WordsAgree ps [] [] = Unit {0}
WordsAgree ps [] (y ∷ ys) = ⊥
WordsAgree ps (x ∷ xs) [] = ⊥
WordsAgree ps (x ∷ xs) (y ∷ ys) =
    (Enters x.outcome → ⊥) → (Enters y.outcome → ⊥) → SameWords ps x.after y.after × WordsAgree ps xs ys

-- two machines that get the same calls: what is seen of the one is seen of the other
pub record Indistinct (m t : Machine) (cs : List Call) : Type 0 where
  -- the first entry of either is that of the other
  pub there : Follows (page_protected m.cpu.guard.protection 1) (steps_of cs m) (steps_of cs t)
  pub back : Follows (page_protected m.cpu.guard.protection 1) (steps_of cs t) (steps_of cs m)
  -- the protected words stay equal after every step
  pub steps : WordsAgree m.cpu.guard.protection (steps_of cs m) (steps_of cs t)
  -- and after every call
  pub calls : (ps qs : List Call) → cs ≡ ps ++ qs → NoEntry (steps_of ps m) → NoEntry (steps_of ps t)
      → SameWords m.cpu.guard.protection (after_calls ps m) (after_calls ps t)

-- THE LAW

-- a machine as it is set going with the protect switch on
pub record SetGoing (m : Machine) : Type 0 where
  pub pp : m.cpu.pp ≡ true
  pub last : m.cpu.last ≡ 0
  pub switch : m.cpu.switch ≡ true

-- the law for a machine m, any list of calls, and any second machine t
pub record Isolated (m : Machine) : Type 0 where
  -- (a)
  pub confined : (cs : List Call) → Each Confined (steps_of cs m)
  -- (b)
  pub held : (cs : List Call) → EntryBetween (steps_of cs m)
  pub by_cell : (cs : List Call) → Each ByCell (steps_of cs m)
  -- (c) after calls ms of m and ts of t that leave both in their background and alike, both get the calls cs
  pub indistinct : (t : Machine) → SetGoing t → (ms ts cs : List Call)
      → InBackground (after_calls ms m) → InBackground (after_calls ts t) → Alike (after_calls ms m) (after_calls ts t)
      → Indistinct (after_calls ms m) (after_calls ts t) cs

-- every machine that is set going is isolated
abbrev pub Isolation : Type 0
Isolation = (m : Machine) → SetGoing m → Isolated m
