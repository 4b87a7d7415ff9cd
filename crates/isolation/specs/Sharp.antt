-- Each conclusion of both laws excludes what it is meant to exclude, and takes no premise but those named here: told in the machine's terms.
use Rattle.std.specs.Prelude.{◌≡◌, ℕ, suc, ◌+◌, Bool, true, false, ◌⊎◌, List, [], ◌∷◌, ◌++◌}
use Rattle.machine.specs.declared.call.Call.{Call}
use Rattle.machine.specs.declared.call.Call.TheVariants.{Step, Run, Signal, Registers}
use Rattle.machine.specs.declared.call.Outcome.{Outcome}
use Rattle.machine.specs.declared.call.Outcome.TheVariants.{Entered, Idle, Violated, Stalled, NotCarried, Done}
use Rattle.levels.specs.declared.level.LevelState.TheVariants.{Waiting}
use Rattle.machine.specs.declared.state.Mark.TheVariants.{Unset, Wait, Exit}
use Rattle.machine.specs.declared.state.Violation.{Violation}
use Rattle.machine.specs.declared.state.ViolationKind.TheVariants.{Entry}
use Rattle.levels.specs.Levels.{level_at}
use Rattle.machine.specs.Calls.{after_calls, poked}
use Rattle.machine.specs.State.{Machine}
use Rattle.machine.specs.Step.{Moment, step}
use Rattle.machine.specs.Words.{page_protected, protects, read, word}
use Rattle.isolation.specs.Isolation.{Follows, Indistinct, Isolated, Isolation, WordsAgree}
use Rattle.isolation.specs.Steps.{Background, Enters, Executes, Faults, IsViolation, NoEntry, SameWords, steps_of}
use Rattle.isolation.specs.Wider.{Guarded, SameCells, SameEntry, SameLevels, SameProtected, Wider}

-- a statement that holds, or does not
abbrev pub Says : Bool → Type 0 → Type 0
Says true A = A
Says false A = A → ⊥

-- whether a word is true of an entry, an idle step, a violation, a stall, a code not carried and an instruction done
abbrev pub TrueOf : (Outcome → Type 0) → Bool → Bool → Bool → Bool → Bool → Bool → Type 0
TrueOf W e i v s n d =
    ((k : ℕ) → Says e (W (Entered k))) × Says i (W Idle) × ((x : Violation) → Says v (W (Violated x))) × ((x : Violation) → Says s (W (Stalled x)))
    × Says n (W NotCarried) × Says d (W Done)

-- one step is among others
abbrev pub Among : Moment → List Moment → Type 0
Among x all = (xs : List Moment) × (ys : List Moment) × (all ≡ xs ++ (x ∷ ys))

-- whether a step is fetched from a protected page
abbrev pub FromProtected : Moment → Bool
FromProtected x = protects x.before.cpu.guard.protection x.before.cpu.work.p

-- two machines whose protected words read alike, word by word
abbrev pub ReadsAlike : List ℕ → Machine → Machine → Type 0
ReadsAlike ps m t = (a : ℕ) → protects ps a ≡ true → read t.words a ≡ read m.words a

-- THE WORDS OF STEPS
pub record SharpSteps : Type 0 where
  pub enters : TrueOf Enters true false false false false false
  pub faults : TrueOf Faults false false true true false false
  pub violates : TrueOf IsViolation false false true false false false
  pub executes : TrueOf Executes false false false false true true
  -- of the background is what is fetched from an unprotected page, and an entry violation wherever P is
  pub fetched : (x : Moment) → Executes x.outcome ⊎ Faults x.outcome → FromProtected x ≡ false → Background x
  pub barred : (x : Moment) (v : Violation) → v.kind ≡ Entry → (x.outcome ≡ Violated v) ⊎ (x.outcome ≡ Stalled v) → Background x
  -- the steps are those of the calls, in their order; signals, looks and refused calls make none
  pub steps : (m : Machine) → steps_of (Step ∷ Registers ∷ Run 1 ∷ Run 1000001 ∷ Signal 3 ∷ Step ∷ []) m
      ≡ step m ∷ step (step m).after ∷ step (poked 3 (step (step m).after).after) ∷ []
  -- nothing but an entry is one, and protected words are compared at protected addresses alone
  pub no_entry : (xs : List Moment) → ((x : Moment) → Among x xs → Enters x.outcome → ⊥) → NoEntry xs
  pub same_words : (ps : List ℕ) (m t : Machine) → ReadsAlike ps m t → SameWords ps m t

-- what a step keeps: protected words, protection registers, inhibits, each level but level 0, its enabling, and its state but to waiting
pub record Keeps (x : Moment) : Type 0 where
  pub words : ReadsAlike x.before.cpu.guard.protection x.before x.after
  pub protection : x.after.cpu.guard.protection ≡ x.before.cpu.guard.protection
  pub ii : x.after.cpu.guard.ii ≡ x.before.cpu.guard.ii
  pub ei : x.after.cpu.guard.ei ≡ x.before.cpu.guard.ei
  pub others : (k : ℕ) → level_at x.after.cpu.guard.levels (suc k) ≡ level_at x.before.cpu.guard.levels (suc k)
  pub enabled : (level_at x.after.cpu.guard.levels 0).enabled ≡ (level_at x.before.cpu.guard.levels 0).enabled
  pub state : ((level_at x.after.cpu.guard.levels 0).state ≡ (level_at x.before.cpu.guard.levels 0).state)
      ⊎ (IsViolation x.outcome × ((level_at x.after.cpu.guard.levels 0).state ≡ Waiting))
  -- and where it is no violation, a stall too, no level is changed
  pub levels : (IsViolation x.outcome → ⊥) → x.after.cpu.guard.levels ≡ x.before.cpu.guard.levels

-- how first entries agree: A is for their addresses, and N for the steps that excuse
pub record Agree (F : List Moment → List Moment → Type 0) (N : Outcome → Type 0) (A : Type 0) : Type 0 where
  -- if one enters, the other does, the same level, to the same address
  pub now : (x y : Moment) (xs ys : List Moment) (k : ℕ) → F (x ∷ xs) (y ∷ ys) → x.outcome ≡ Entered k
      → (y.outcome ≡ Entered k) × (A → y.after.cpu.work.p ≡ x.after.cpu.work.p)
  pub none : (x : Moment) (xs : List Moment) (k : ℕ) → F (x ∷ xs) [] → x.outcome ≡ Entered k → ⊥
  -- if neither enters, and nothing excuses, so it is with the steps that follow
  pub later : (x y : Moment) (xs ys : List Moment) → F (x ∷ xs) (y ∷ ys) → (Enters x.outcome → ⊥) → (N x.outcome → ⊥) → (N y.outcome → ⊥) → F xs ys
  pub alone : (x : Moment) (xs : List Moment) → F (x ∷ xs) [] → (Enters x.outcome → ⊥) → (N x.outcome → ⊥) → F xs []

-- WHAT AGREES OF TWO MACHINES
pub record SharpPairs : Type 0 where
  pub follows : (b : Bool) → Agree (Follows b) Faults (b ≡ true)
  pub entries : (b : Bool) → Agree (SameEntry (b ≡ true)) IsViolation (b ≡ true)
  pub words : (ps : List ℕ) (x y : Moment) (xs ys : List Moment) → WordsAgree ps (x ∷ xs) (y ∷ ys) → (Enters x.outcome → ⊥) → (Enters y.outcome → ⊥)
      → ReadsAlike ps x.after y.after × WordsAgree ps xs ys
  pub more : (ps : List ℕ) (x : Moment) (xs : List Moment) → (WordsAgree ps (x ∷ xs) [] → ⊥) × (WordsAgree ps [] (x ∷ xs) → ⊥)
  pub there : (m t : Machine) (cs : List Call) → Indistinct m t cs → Follows (page_protected m.cpu.guard.protection 1) (steps_of cs m) (steps_of cs t)
  pub back : (m t : Machine) (cs : List Call) → Indistinct m t cs → Follows (page_protected m.cpu.guard.protection 1) (steps_of cs t) (steps_of cs m)
  pub steps : (m t : Machine) (cs : List Call) → Indistinct m t cs → WordsAgree m.cpu.guard.protection (steps_of cs m) (steps_of cs t)
  pub calls : (m t : Machine) (cs ps qs : List Call) → Indistinct m t cs → cs ≡ ps ++ qs → NoEntry (steps_of ps m) → NoEntry (steps_of ps t)
      → ReadsAlike m.cpu.guard.protection (after_calls ps m) (after_calls ps t)

-- THE LAW OF A MACHINE SET GOING
pub record SharpIsolated : Type 0 where
  pub isolated : Isolation → (m : Machine) → m.cpu.pp ≡ true → m.cpu.last ≡ 0 → m.cpu.switch ≡ true → Isolated m
  pub confined : (m : Machine) → Isolated m → (cs : List Call) (x : Moment) → Among x (steps_of cs m) → Background x → Keeps x
  pub held : (m : Machine) → Isolated m → (cs : List Call) (xs ys zs : List Moment) (x z : Moment) → steps_of cs m ≡ xs ++ (x ∷ (ys ++ (z ∷ zs)))
      → Background x → NoEntry ys → Executes z.outcome → FromProtected z ≡ true → ⊥
  pub by_cell : (m : Machine) → Isolated m → (cs : List Call) (x : Moment) → Among x (steps_of cs m) → (k : ℕ) → x.outcome ≡ Entered k
      → x.after.cpu.work.p ≡ word (read x.before.words (0x0100 + k) + 2)
  pub indistinct : (m t : Machine) → Isolated m → t.cpu.pp ≡ true → t.cpu.last ≡ 0 → t.cpu.switch ≡ true → (ms ts cs : List Call)
      → let x = after_calls ms m in let y = after_calls ts t in
      x.cpu.pp ≡ false → y.cpu.pp ≡ false → x.cpu.mark ≡ Unset → y.cpu.mark ≡ Unset
      → x.cpu.guard.protection ≡ y.cpu.guard.protection → x.cpu.guard.ii ≡ y.cpu.guard.ii → x.cpu.guard.ei ≡ y.cpu.guard.ei
      → x.cpu.guard.levels ≡ y.cpu.guard.levels → ReadsAlike x.cpu.guard.protection x y → Indistinct x y cs

-- THE LAW WITH THE FEWEST PREMISES
pub record SharpWider : Type 0 where
  pub contained : Wider → (m : Machine) → m.cpu.switch ≡ true → (cs : List Call) (x : Moment) → Among x (steps_of cs m)
      → (Enters x.outcome → ⊥) → (Executes x.outcome → FromProtected x ≡ false) → Keeps x
  pub held : Wider → (m : Machine) → m.cpu.switch ≡ true → (cs : List Call) (xs ys zs : List Moment) (x z : Moment)
      → steps_of cs m ≡ xs ++ (x ∷ (ys ++ (z ∷ zs))) → (Enters x.outcome → ⊥) → (Executes x.outcome → FromProtected x ≡ false)
      → NoEntry ys → Executes z.outcome → FromProtected z ≡ true → ⊥
  pub by_cell : Wider → (m : Machine) (cs : List Call) (x : Moment) → Among x (steps_of cs m) → (k : ℕ) → x.outcome ≡ Entered k
      → x.after.cpu.work.p ≡ word (read x.before.words (0x0100 + k) + 2)
  -- the premises of the rest, and that it takes no others
  pub guarded : (m : Machine) → m.cpu.switch ≡ true → (m.cpu.pp ≡ false) ⊎ (m.cpu.mark ≡ Wait) → Guarded m
  pub levels : (m t : Machine) → m.cpu.guard.ii ≡ t.cpu.guard.ii → m.cpu.guard.ei ≡ t.cpu.guard.ei → m.cpu.guard.levels ≡ t.cpu.guard.levels
      → (m.cpu.mark ≡ Exit → t.cpu.mark ≡ Exit) → (t.cpu.mark ≡ Exit → m.cpu.mark ≡ Exit) → SameLevels m t
  pub protected : (m t : Machine) → m.cpu.guard.protection ≡ t.cpu.guard.protection → ReadsAlike m.cpu.guard.protection m t → SameProtected m t
  pub cells : (m t : Machine) → SameProtected m t → page_protected m.cpu.guard.protection 1 ≡ true → SameCells m t
  pub entries : Wider → (m t : Machine) → Guarded m → Guarded t → SameLevels m t → (cs : List Call)
      → SameEntry (SameCells m t) (steps_of cs m) (steps_of cs t)
  pub steps : Wider → (m t : Machine) → Guarded m → Guarded t → SameProtected m t → (cs : List Call)
      → WordsAgree m.cpu.guard.protection (steps_of cs m) (steps_of cs t)
  pub calls : Wider → (m t : Machine) → Guarded m → Guarded t → SameProtected m t → (cs : List Call)
      → NoEntry (steps_of cs m) → NoEntry (steps_of cs t) → ReadsAlike m.cpu.guard.protection (after_calls cs m) (after_calls cs t)
  pub switch : Wider → (m : Machine) (cs : List Call) → (after_calls cs m).cpu.switch ≡ m.cpu.switch
  pub unmarked : Wider → (m : Machine) (cs : List Call) → m.cpu.pp ≡ true → (after_calls cs m).cpu.pp ≡ false
      → (after_calls cs m).cpu.mark ≡ Exit → ⊥

-- each conclusion excludes what it is meant to
pub record Sharp : Type 0 where
  pub steps : SharpSteps
  pub pairs : SharpPairs
  pub isolated : SharpIsolated
  pub wider : SharpWider
