-- Worked cases of the rules.
use Rattle.std.specs.Prelude.{◌≡◌, ℕ, Bool, true, false, List, ◌∷◌, replicate, None, Ok, Err, slice_set}
use Rattle.std.specs.List.{range_with_len}
use Rattle.machine.specs.declared.call.Counts.{Counts}
use Rattle.machine.specs.declared.call.Outcome.TheVariants.{Violated}
use Rattle.machine.specs.declared.refusal.Refusal.TheVariants.{RunTooLong}
use Rattle.machine.specs.declared.state.Mark.TheVariants.{Unset}
use Rattle.machine.specs.declared.state.ViolationKind.TheVariants.{Store}
use Rattle.machine.specs.declared.work.Work.{Work}
use Rattle.machine.specs.Calls.{run_answer}
use Rattle.machine.specs.Decode.{effective}
use Rattle.machine.specs.Refusals.{number}
use Rattle.levels.specs.Levels.{preset}
use Rattle.machine.specs.State.{Machine}
use Rattle.machine.specs.Step.{step}
use Rattle.memory.specs.declared.refusals.PlanRefusal.TheVariants.{PortionHeld}
use Rattle.memory.specs.Changes.{refusal_number, set_after, set_answer}

-- registers of which P, X1 and A are given
abbrev pub work : ℕ → ℕ → ℕ → Work
work p x1 a = record { p = p; l = 0; t = 0; x1 = x1; x2 = 0; e = 0; a = a; o = false; c = false }

-- a machine with those registers whose word at P is w and whose word at 0x0010 is 1, with PP, and page 2 protected where the switch is on
unfoldable pub ready : Bool → Bool → Work → ℕ → Machine
ready pp switch v w = record {
  cpu = record {
    work = v;
    guard = record { protection = 0x2000 ∷ replicate 15 0; ii = false; ei = false; levels = preset 2 ∷ replicate 15 (preset 0) };
    pp = pp;
    mark = Unset;
    last = 0;
    violation = None;
    switch = switch;
  };
  words = slice_set (slice_set (replicate 8192 0) 0x0010 1) v.p w;
}

-- the registers after one step of the instruction w at 0x0300
abbrev pub after : ℕ → ℕ → ℕ → Work
after w x1 a = (step (ready true false (work 0x0300 x1 a) w)).after.cpu.work

-- what A, O and C are
pub record Gives (v : Work) (a : ℕ) (o c : Bool) : Type 0 where
  pub a_is : v.a ≡ a
  pub o_is : v.o ≡ o
  pub c_is : v.c ≡ c

-- what an instruction leaves in A, O, C and X1, and what a plan and a run answer
pub record Cases : Type 0 where
  -- a copy of A inverted, by OR into a cleared A
  pub inverted : (after 0x74ff 0 0x1234).a ≡ 0xedcb
  -- A negated, by a copy that adds 1
  pub negated_least : Gives (after 0x7dff 0 0x8000) 0x8000 true false
  pub negated_zero : Gives (after 0x7dff 0 0) 0 false true
  -- SUB of the word 1 from 0: C is the borrow
  pub subtracted : Gives (after 0xb010 0 0) 0xffff false true
  -- 0x89FF at 0x0200 has the effective address 0x01FF
  pub backward : (v : Work) (ws : List ℕ) → effective 0x0200 v ws 0x89ff ≡ 0x01ff
  -- BIX counts X1 from 0xFFFF to 0 and does not branch
  pub counted : (after 0x6620 0xffff 0).x1 ≡ 0
  pub not_branched : (after 0x6620 0xffff 0).p ≡ 0x0301
  -- a store whose address is in an unprotected page until X1 is added, in the background
  pub stored : (step (ready false true (work 0x0300 0x0110 0) 0xe2f0)).outcome ≡ Violated (record { kind = Store; place = 0x0300; aim = 0x0200 })
  -- in a new plan block 3 takes portion 9, and then block 4 may not: that is refusal 3
  pub taken : set_answer (range_with_len 0 8) 3 9 ≡ Ok tt
  pub held : set_answer (set_after (range_with_len 0 8) 3 9) 4 9 ≡ Err PortionHeld
  pub held_number : refusal_number PortionHeld ≡ 3
  -- a run of 1,000,000 steps is taken, and one of 1,000,001 is not: that is refusal 8
  pub longest_run : (m : Machine) → (n : Counts) × (run_answer 1000000 m ≡ Ok n)
  pub too_long : (m : Machine) → run_answer 1000001 m ≡ Err RunTooLong
  pub too_long_number : number RunTooLong ≡ 8
