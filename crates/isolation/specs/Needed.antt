-- No premise of the law can go: closed machines that meet every other premise, and of which the conclusion fails.
use Rattle.std.specs.Prelude.{◌≡◌, ℕ, ◌+◌, Bool, true, false, List, [], ◌∷◌, ◌++◌, replicate, None, slice_set}
use Rattle.machine.specs.declared.call.Call.{Call}
use Rattle.machine.specs.declared.call.Call.TheVariants.{Step, Run, Signal}
use Rattle.levels.specs.declared.level.Level.{Level}
use Rattle.levels.specs.declared.level.LevelState.TheVariants.{Waiting}
use Rattle.machine.specs.declared.state.Mark.TheVariants.{Unset, Exit}
use Rattle.levels.specs.Levels.{preset}
use Rattle.machine.specs.Calls.{after_calls}
use Rattle.machine.specs.State.{Machine, set_guard, set_inhibits, set_mark, set_pp, set_switch}
use Rattle.machine.specs.Step.{Moment, on_cpu, step}
use Rattle.machine.specs.Words.{read, word}
use Rattle.isolation.specs.Isolation.{Unchanged}
use Rattle.isolation.specs.Steps.{Each, Enters, EntersFirst, Executes, NoEntry, PProtected, SameWords, steps_of}
use Rattle.isolation.specs.Wider.{Contained, EntryNeeded, Guarded, NotForeground, NoViolation, SameEntry, SameLevels, SameProtected, exit_marked}

-- THE MACHINES

-- a machine in its background at p, with the switch on: protection registers ps, level records ls, words ws, X1 0x0100 and A 7
unfoldable pub machine : ℕ → List ℕ → List Level → List ℕ → Machine
machine p ps ls ws = record {
  cpu = record {
    work = record { p = p; l = 0; t = 0; x1 = 0x0100; x2 = 0; e = 0; a = 7; o = false; c = false };
    guard = record { protection = ps; ii = false; ei = false; levels = ls };
    pp = false;
    mark = Unset;
    last = 0;
    violation = None;
    switch = true;
  };
  words = ws;
}

-- page 0 alone protected, and page 1 alone
unfoldable pub page_0 : List ℕ
page_0 = 0x8000 ∷ []

unfoldable pub page_1 : List ℕ
page_1 = 0x4000 ∷ []

-- all levels armed and enabled; of those, level 3 waiting
unfoldable pub armed : List Level
armed = replicate 16 (preset 2)

unfoldable pub waiting : List Level
waiting = slice_set armed 3 (record { state = Waiting; enabled = true })

-- a machine that executes nothing but words 0, which change nothing; and one in which level 3 waits
unfoldable pub quiet : List ℕ → List ℕ → Machine
quiet ps ws = machine 0x0200 ps armed ws

unfoldable pub urgent : List ℕ → List ℕ → Machine
urgent ps ws = machine 0x0200 ps waiting ws

-- STA 1 at 0, and two words
unfoldable pub stores_1 : List ℕ
stores_1 = 0xe001 ∷ 0 ∷ []

-- STA 0 indexed at 0, which is to 0x0100, and 257 words
unfoldable pub stores_page_1 : List ℕ
stores_page_1 = 0xe200 ∷ replicate 256 0

-- STA 3 indexed at 0, which is to level 3's cell, and the words up to that
unfoldable pub stores_cell : List ℕ
stores_cell = 0xe203 ∷ replicate 0x0103 0

-- level 3's cell holds 0x0200; elsewhere it is absent, which reads as 0
unfoldable pub cell_3 : List ℕ
cell_3 = replicate 0x0103 0 ++ (0x0200 ∷ [])

-- WD at 0 that sets EI
unfoldable pub inhibits : List ℕ
inhibits = 0x0020 ∷ []

-- the switch turned off, PP set, the exit mark set, or the inhibits set
abbrev pub off : Machine → Machine
off m = on_cpu (set_switch false) m

abbrev pub ahead : Machine → Machine
ahead m = on_cpu (set_pp true) m

abbrev pub exiting : Machine → Machine
exiting m = on_cpu (set_mark Exit) m

abbrev pub inhibiting : Bool → Bool → Machine → Machine
inhibiting ii ei m = on_cpu (λ s. set_guard (set_inhibits ii ei s.guard) s) m

-- FAILURES

-- first entries that do not agree after some calls, where A is for their addresses
abbrev pub EntersApart : Type 0 → List Call → Machine → Machine → Type 0
EntersApart A cs m t = SameEntry A (steps_of cs m) (steps_of cs t) → ⊥

-- protected words that differ after a step
abbrev pub Differ : List ℕ → Machine → Machine → Type 0
Differ ps m t = SameWords ps (after_calls (Step ∷ []) m) (after_calls (Step ∷ []) t) → ⊥

-- protected words that differ after a step of which neither is an entry
abbrev pub WordsApart : List ℕ → Machine → Machine → Type 0
WordsApart ps m t = NoEntry (steps_of (Step ∷ []) m) × NoEntry (steps_of (Step ∷ []) t) × Differ ps m t

-- two machines alike, not in their foreground, of which C fails in either order once f has changed the first
pub record Spoilt (f : Machine → Machine) (C : Machine → Machine → Type 0) (m t : Machine) : Type 0 where
  pub here : Guarded m
  pub there : Guarded t
  pub levels : SameLevels m t
  pub protected : SameProtected m t
  pub one : C (f m) t
  pub other : C t (f m)

-- two machines not in their foreground
abbrev pub Ready : Machine → Machine → Type 0
Ready m t = Guarded m × Guarded t

-- THE SWITCH AND PP
pub record GuardNeeded : Type 0 where
  -- with the switch off a background step changes a protected word, and protected code is executed after one with no entry
  pub contained : Each Contained (steps_of (Step ∷ []) (off (machine 0 page_1 armed stores_page_1))) → ⊥
  pub held : EntryNeeded (steps_of (Run 2 ∷ []) (off (machine 0x00ff page_1 armed []))) → ⊥
  -- with the switch of either machine off, or its PP 1, it inhibits levels or changes protected words
  pub entry_switch : Spoilt off (EntersApart ⊥ (Step ∷ Signal 9 ∷ Step ∷ Signal 3 ∷ Step ∷ [])) (machine 0 page_0 armed inhibits) (quiet page_0 inhibits)
  pub entry_pp : Spoilt ahead (EntersApart ⊥ (Step ∷ Signal 9 ∷ Step ∷ Signal 3 ∷ Step ∷ [])) (machine 0 page_0 armed inhibits) (quiet page_0 inhibits)
  pub word_switch : Spoilt off (WordsApart page_1) (machine 0 page_1 armed stores_page_1) (quiet page_1 stores_page_1)
  pub word_pp : Spoilt ahead (WordsApart page_0) (machine 0 page_0 armed stores_1) (quiet page_0 stores_1)
  -- for no exit mark in the background: PP 1 at first, and PP 0 at last
  pub first_pp : Guarded (exiting (quiet page_0 [])) × (exit_marked (exiting (quiet page_0 [])).cpu.mark ≡ false → ⊥)
  pub last_pp : exit_marked (exiting (ahead (quiet page_0 []))).cpu.mark ≡ false → ⊥

-- WHAT DECIDES AN ENTRY: two machines that differ in one part alone
pub record EntriesNeed : Type 0 where
  pub ii : Ready (quiet page_1 []) (inhibiting true false (quiet page_1 []))
      × EntersApart ⊥ (Signal 3 ∷ Step ∷ []) (quiet page_1 []) (inhibiting true false (quiet page_1 []))
  pub ei : Ready (quiet page_1 []) (inhibiting false true (quiet page_1 []))
      × EntersApart ⊥ (Signal 9 ∷ Step ∷ []) (quiet page_1 []) (inhibiting false true (quiet page_1 []))
  pub levels : Ready (urgent page_1 []) (quiet page_1 []) × EntersApart ⊥ (Step ∷ []) (urgent page_1 []) (quiet page_1 [])
  pub exit : Ready (urgent page_1 []) (exiting (urgent page_1 [])) × EntersApart ⊥ (Step ∷ []) (urgent page_1 []) (exiting (urgent page_1 []))
  -- an entry of the first: where it does not enter, the other does not either
  pub enters : ((n k : ℕ) → NoViolation n (steps_of (Step ∷ []) (quiet page_1 [])) → (q : ℕ) × EntersFirst (steps_of (Step ∷ []) (quiet page_1 [])) n k q) → ⊥
  -- no violation of the first before its entry, nor of the other: after one level 0 enters
  pub clean_here : let m = machine 0 page_1 armed stores_page_1 in let t = quiet page_1 stores_page_1 in let cs = Run 2 ∷ [] in
      Ready m t × SameLevels m t
      × (((n k p : ℕ) → EntersFirst (steps_of cs m) n k p → NoViolation n (steps_of cs t) → (q : ℕ) × EntersFirst (steps_of cs t) n k q) → ⊥)
  pub clean_there : let m = quiet page_1 stores_page_1 in let t = machine 0 page_1 armed stores_page_1 in let cs = Step ∷ Signal 3 ∷ Step ∷ [] in
      Ready m t × SameLevels m t
      × (((n k p : ℕ) → EntersFirst (steps_of cs m) n k p → NoViolation n (steps_of cs m) → (q : ℕ) × EntersFirst (steps_of cs t) n k q) → ⊥)
  -- for their addresses: page 1 protected, equal protected words, and equal protection registers
  pub page : Ready (urgent [] []) (urgent [] cell_3) × SameProtected (urgent [] []) (urgent [] cell_3)
      × EntersApart (Unit {0}) (Step ∷ []) (urgent [] []) (urgent [] cell_3)
  pub words : Ready (urgent page_1 []) (urgent page_1 cell_3) × EntersApart (Unit {0}) (Step ∷ []) (urgent page_1 []) (urgent page_1 cell_3)
  pub protection : let m = quiet page_1 stores_cell in let t = machine 0 [] armed stores_cell in
      Ready m t × SameLevels m t × EntersApart (Unit {0}) (Step ∷ Signal 3 ∷ Step ∷ []) m t

-- WHAT KEEPS PROTECTED WORDS EQUAL
pub record WordsNeed : Type 0 where
  -- the protection registers differ: the second's background changes what the first protects
  pub protection : Ready (quiet page_0 stores_1) (machine 0 [] armed stores_1) × WordsApart page_0 (quiet page_0 stores_1) (machine 0 [] armed stores_1)
  -- they differ from the first
  pub words : Ready (quiet page_0 []) (quiet page_0 (7 ∷ [])) × WordsApart page_0 (quiet page_0 []) (quiet page_0 (7 ∷ []))
  -- a word is not protected: the background of the first changes it
  pub protected : let m = machine 0 page_1 armed stores_1 in let t = quiet page_1 stores_1 in
      Ready m t × SameProtected m t × (read (after_calls (Step ∷ []) t).words 1 ≡ read (after_calls (Step ∷ []) m).words 1 → ⊥)
  -- one of the two enters
  pub entry_here : let m = urgent page_0 stores_1 in let t = quiet page_0 stores_1 in
      Ready m t × SameProtected m t × NoEntry (steps_of (Step ∷ []) t) × Differ page_0 m t
  pub entry_there : let m = quiet page_0 stores_1 in let t = urgent page_0 stores_1 in
      Ready m t × SameProtected m t × NoEntry (steps_of (Step ∷ []) m) × Differ page_0 m t

-- WHAT (a) AND (b) ASK OF STEPS, with the switch on
pub record StepsNeed : Type 0 where
  -- an entry changes protected words, and so does an instruction of a protected page
  pub no_entry : let x = step (urgent page_0 stores_1) in (Executes x.outcome → PProtected x.before ≡ false) × (Unchanged x → ⊥)
  pub unprotected : let x = step (ahead (machine 0 page_0 armed stores_1)) in (Enters x.outcome → ⊥) × (Unchanged x → ⊥)
  -- a word that is not protected may change
  pub protected : let x = step (machine 0 page_1 armed stores_1) in NotForeground x × (((a : ℕ) → read x.after.words a ≡ read x.before.words a) → ⊥)
  -- a violation does set level 0 waiting
  pub violation : let x = step (machine 0 page_1 armed stores_page_1) in
      NotForeground x × (x.after.cpu.guard.levels ≡ x.before.cpu.guard.levels → ⊥)
  -- after a step of the foreground it may go on
  pub background : ((xs ys zs : List Moment) (x z : Moment) → steps_of (Run 2 ∷ []) (ahead (machine 0 page_0 armed stores_1)) ≡ xs ++ (x ∷ (ys ++ (z ∷ zs)))
      → NoEntry ys → Executes z.outcome → PProtected z.before ≡ false) → ⊥
  -- an entry brings it back
  pub between : ((xs ys zs : List Moment) (x z : Moment) → steps_of (Step ∷ Signal 3 ∷ Run 2 ∷ []) (quiet page_0 []) ≡ xs ++ (x ∷ (ys ++ (z ∷ zs)))
      → NotForeground x → Executes z.outcome → PProtected z.before ≡ false) → ⊥
  -- an entry violation stands at a protected page, and executes nothing
  pub executes : ((xs ys zs : List Moment) (x z : Moment) → steps_of (Run 2 ∷ []) (machine 0x00ff page_1 armed []) ≡ xs ++ (x ∷ (ys ++ (z ∷ zs)))
      → NotForeground x → NoEntry ys → PProtected z.before ≡ false) → ⊥
  -- a step that is no entry goes elsewhere
  pub entered : let x = step (quiet page_0 []) in ((k : ℕ) → x.after.cpu.work.p ≡ word (read x.before.words (0x0100 + k) + 2)) → ⊥

-- no premise can go
pub record Needed : Type 0 where
  pub guard : GuardNeeded
  pub entries : EntriesNeed
  pub words : WordsNeed
  pub steps : StepsNeed
