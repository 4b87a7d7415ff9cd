-- Closed examples that meet every premise of the law, so that it is not empty.
use Rattle.std.specs.Prelude.{◌≡◌, ℕ, true, false, List, [], ◌∷◌, ◌++◌, map, replicate, None, slice_set}
use Rattle.machine.specs.declared.call.Answer.TheVariants.{Word as OneWord, Refused}
use Rattle.machine.specs.declared.call.Call.{Call}
use Rattle.machine.specs.declared.call.Call.TheVariants.{Step, Run, Signal, Registers, Word}
use Rattle.machine.specs.declared.call.Outcome.{Outcome}
use Rattle.machine.specs.declared.call.Outcome.TheVariants.{Entered, Violated, Stalled, Done}
use Rattle.levels.specs.declared.level.Level.{Level}
use Rattle.levels.specs.declared.level.LevelState.TheVariants.{Active}
use Rattle.machine.specs.declared.refusal.Refusal.TheVariants.{NoAddress}
use Rattle.machine.specs.declared.state.Mark.TheVariants.{Unset}
use Rattle.machine.specs.declared.state.ViolationKind.TheVariants.{Store}
use Rattle.machine.specs.Calls.{after_calls, answer}
use Rattle.levels.specs.Levels.{preset}
use Rattle.machine.specs.State.{Machine}
use Rattle.machine.specs.Step.{Moment, step}
use Rattle.machine.specs.Words.{page_protected}
use Rattle.isolation.specs.Isolation.{Alike, InBackground, SetGoing}
use Rattle.isolation.specs.Steps.{Background, Clean, EntersFirst, Executes, steps_of}

-- what the steps of a list of calls are
abbrev pub outcomes : List Call → Machine → List Outcome
outcomes cs m = map (λ (x : Moment). x.outcome) (steps_of cs m)

-- a machine set going at 0x0200 with A, X1 and level 0's record as given, levels 1 to 15 armed and enabled, and page 1 protected
unfoldable pub going : ℕ → ℕ → Level → List ℕ → Machine
going a x1 zeroth ws = record {
  cpu = record {
    work = record { p = 0x0200; l = 0; t = 0; x1 = x1; x2 = 0; e = 0; a = a; o = false; c = false };
    guard = record { protection = 0x4000 ∷ replicate 15 0; ii = false; ei = false; levels = zeroth ∷ replicate 15 (preset 2) };
    pp = true;
    mark = Unset;
    last = 0;
    violation = None;
    switch = true;
  };
  words = ws;
}

-- a level 0 that is active
unfoldable pub active : Level
active = record { state = Active; enabled = true }

-- 8,192 words in which the cells of levels 0 and 3 hold addresses, and a program of the background stands at 0x0200:
-- LDA from 0x0210, STA to 0x0010 indexed by X1, and a branch to itself
unfoldable pub program : List ℕ
program =
    slice_set (slice_set (slice_set (slice_set (slice_set (slice_set (replicate 8192 0) 0x0100 0x0120) 0x0103 0x0130) 0x0200 0x8810) 0x0201 0xe210) 0x0202 0x4800) 0x0210 0x0077

-- the same in 16,384 words, where the background is to load another word
unfoldable pub other_program : List ℕ
other_program = slice_set (program ++ replicate 8192 0) 0x0210 0x0042

-- A VIOLATION FOLLOWED BY AN ENTRY: STA to 0x0010 + 0x00f0 = 0x0100
pub record Violates : Type 0 where
  pub going_on : SetGoing (going 0 0x00f0 (preset 2) program)
  pub steps : outcomes (Run 3 ∷ []) (going 0 0x00f0 (preset 2) program)
      ≡ Done ∷ Violated (record { kind = Store; place = 0x0201; aim = 0x0100 }) ∷ Entered 0 ∷ []

-- TWO BACKGROUND STEPS, the second executed with no entry between: it may be, since its page is not protected
pub record GoesOn : Type 0 where
  pub going_on : SetGoing (going 1 0 (preset 2) program)
  pub steps : let m = going 1 0 (preset 2) program in steps_of (Run 2 ∷ []) m ≡ [] ++ (step m ∷ ([] ++ (step (step m).after ∷ [])))
  pub first : Background (step (going 1 0 (preset 2) program))
  pub second : Executes (step (step (going 1 0 (preset 2) program)).after).outcome

-- TWO MACHINES OF DIFFERENT SIZES, WORDS, REGISTERS AND PASTS, and the calls that both get
-- the first of the two, after a step
unfoldable pub one : Machine
one = after_calls (Step ∷ []) (going 1 0 (preset 2) program)

-- the second, after three steps and a look
unfoldable pub two : Machine
two = after_calls (Run 2 ∷ Registers ∷ Step ∷ []) (going 9 1 (preset 2) other_program)

-- the calls: to the first the look at 0x3000 is refused
abbrev pub calls : List Call
calls = Run 2 ∷ Run 1000001 ∷ Word 0x3000 ∷ Signal 3 ∷ Step ∷ []

-- they are alike in their backgrounds, and both enter level 3
pub record Agrees : Type 0 where
  pub here : SetGoing (going 1 0 (preset 2) program)
  pub there : SetGoing (going 9 1 (preset 2) other_program)
  pub here_background : InBackground one
  pub there_background : InBackground two
  pub alike : Alike one two
  pub page_1 : page_protected one.cpu.guard.protection 1 ≡ true
  -- the look is refused by the first and answered by the second
  pub here_look : answer (Word 0x3000) one ≡ Refused NoAddress
  pub there_look : answer (Word 0x3000) two ≡ OneWord 0
  -- both enter level 3 at step 2, to the same address
  pub here_enters : EntersFirst (steps_of calls one) 2 3 0x0132
  pub there_enters : EntersFirst (steps_of calls two) 2 3 0x0132
  pub here_clean : Clean 2 (steps_of calls one)
  pub there_clean : Clean 2 (steps_of calls two)

-- TWO MACHINES WITH LEVEL 0 ACTIVE, OF WHICH ONE STALLS
-- the one whose STA aims at page 1, after a step
unfoldable pub three : Machine
three = after_calls (Step ∷ []) (going 1 0x00f0 active program)

-- the one whose STA aims at page 0, after a step
unfoldable pub four : Machine
four = after_calls (Step ∷ []) (going 1 0 active program)

-- they are alike in their backgrounds, and the first stalls
pub record Stalls : Type 0 where
  pub here : SetGoing (going 1 0x00f0 active program)
  pub there : SetGoing (going 1 0 active program)
  pub here_background : InBackground three
  pub there_background : InBackground four
  pub alike : Alike three four
  pub here_stalls : outcomes (Step ∷ []) three ≡ Stalled (record { kind = Store; place = 0x0201; aim = 0x0100 }) ∷ []
  pub there_goes_on : outcomes (Step ∷ []) four ≡ Done ∷ []
