-- The state of a processor: its parts by who may change them, and the changes that calls from outside make.
use Rattle.std.specs.Prelude.{ℕ, Bool, false, cond, ◌||◌, List, [], ◌∷◌, replicate, None, Ok, Err, Option, Result, ◌==◌, nat_lt, slice_index, slice_set}
use Rattle.levels.specs.declared.level.Event.{Event}
use Rattle.levels.specs.declared.level.Level.{Level}
use Rattle.machine.specs.declared.refusal.Refusal.{Refusal}
use Rattle.machine.specs.declared.refusal.Refusal.TheVariants.{NoRegister}
use Rattle.machine.specs.declared.state.Mark.{Mark}
use Rattle.machine.specs.declared.state.Mark.TheVariants.{Unset}
use Rattle.machine.specs.declared.state.Violation.{Violation}
use Rattle.machine.specs.declared.work.Work.{Work}
use Rattle.levels.specs.Levels.{preset, told as told_level}

-- what no instruction of the background may change: the protection registers, the inhibits II and EI, and the level records
pub record Guard : Type 0 where
  pub protection : List ℕ
  pub ii : Bool
  pub ei : Bool
  pub levels : List Level

-- a processor, all but its memory: `work` is what any instruction may change, `pp` the protect indicator PP, `mark` the wait or exit mark,
-- `last` the address of the latest instruction done or not carried, and `switch` the protect switch
pub record Cpu : Type 0 where
  pub work : Work
  pub guard : Guard
  pub pp : Bool
  pub mark : Mark
  pub last : ℕ
  pub violation : Option Violation
  pub switch : Bool

-- a processor and the words of its memory
pub record Machine : Type 0 where
  pub cpu : Cpu
  pub words : List ℕ

-- a cpu with other work
abbrev pub set_work : Work → Cpu → Cpu
set_work w s = record { work = w; guard = s.guard; pp = s.pp; mark = s.mark; last = s.last; violation = s.violation; switch = s.switch }

-- a cpu with another guard
abbrev pub set_guard : Guard → Cpu → Cpu
set_guard g s = record { work = s.work; guard = g; pp = s.pp; mark = s.mark; last = s.last; violation = s.violation; switch = s.switch }

-- a cpu with another PP
abbrev pub set_pp : Bool → Cpu → Cpu
set_pp b s = record { work = s.work; guard = s.guard; pp = b; mark = s.mark; last = s.last; violation = s.violation; switch = s.switch }

-- a cpu with another mark
abbrev pub set_mark : Mark → Cpu → Cpu
set_mark k s = record { work = s.work; guard = s.guard; pp = s.pp; mark = k; last = s.last; violation = s.violation; switch = s.switch }

-- a cpu with another last address
abbrev pub set_last : ℕ → Cpu → Cpu
set_last a s = record { work = s.work; guard = s.guard; pp = s.pp; mark = s.mark; last = a; violation = s.violation; switch = s.switch }

-- a cpu with another latest violation
abbrev pub set_violation : Option Violation → Cpu → Cpu
set_violation x s = record { work = s.work; guard = s.guard; pp = s.pp; mark = s.mark; last = s.last; violation = x; switch = s.switch }

-- a cpu with another protect switch
abbrev pub set_switch : Bool → Cpu → Cpu
set_switch b s = record { work = s.work; guard = s.guard; pp = s.pp; mark = s.mark; last = s.last; violation = s.violation; switch = b }

-- a guard with other inhibits
abbrev pub set_inhibits : Bool → Bool → Guard → Guard
set_inhibits ii ei g = record { protection = g.protection; ii = ii; ei = ei; levels = g.levels }

-- a guard with other protection registers
abbrev pub set_protection : List ℕ → Guard → Guard
set_protection ps g = record { protection = ps; ii = g.ii; ei = g.ei; levels = g.levels }

-- a guard with other level records
abbrev pub set_levels : List Level → Guard → Guard
set_levels ls g = record { protection = g.protection; ii = g.ii; ei = g.ei; levels = ls }

-- registers 0 to 7, of which Z is 0
abbrev pub registers : Work → List ℕ
registers v = 0 ∷ v.p ∷ v.l ∷ v.t ∷ v.x1 ∷ v.x2 ∷ v.e ∷ v.a ∷ []

-- the registers with register n set, which Z never is
abbrev pub put_after : ℕ → ℕ → Work → Work
put_after n w v = record {
  p = cond (n == 1) w v.p;
  l = cond (n == 2) w v.l;
  t = cond (n == 3) w v.t;
  x1 = cond (n == 4) w v.x1;
  x2 = cond (n == 5) w v.x2;
  e = cond (n == 6) w v.e;
  a = cond (n == 7) w v.a;
  o = v.o;
  c = v.c;
}

-- what setting register n answers: Z and what is above 7 are refused
abbrev pub put_answer : ℕ → Result (Unit {0}) Refusal
put_answer n = cond (n == 0 || nat_lt 7 n) (Err NoRegister) (Ok tt)

-- what setting protection register n answers: what is above 15 is refused
abbrev pub protect_answer : ℕ → Result (Unit {0}) Refusal
protect_answer n = cond (nat_lt 15 n) (Err NoRegister) (Ok tt)

-- the protection registers after it
abbrev pub protect_after : ℕ → ℕ → List ℕ → List ℕ
protect_after n w ps = cond (nat_lt 15 n) ps (slice_set ps n w)

-- protection register n; above 15 it reads as 0
abbrev pub protection_word : ℕ → List ℕ → ℕ
protection_word n ps = cond (nat_lt 15 n) 0 (slice_index ps n)

-- a cpu with the record of level k set, and the others as they were; above level 15 nothing is set
abbrev pub with_level : ℕ → Level → Cpu → Cpu
with_level k l s = set_guard (set_levels (slice_set s.guard.levels k l) s.guard) s

-- a cpu whose level k has taken an event
abbrev pub told : ℕ → Event → Cpu → Cpu
told k e s = set_guard (set_levels (told_level k e s.guard.levels) s.guard) s

-- a new processor: all zero, level 0 armed and enabled, the others disarmed and disabled
abbrev pub initial : Cpu
initial = record {
  work = record { p = 0; l = 0; t = 0; x1 = 0; x2 = 0; e = 0; a = 0; o = false; c = false };
  guard = record { protection = replicate 16 0; ii = false; ei = false; levels = preset 2 ∷ replicate 15 (preset 0) };
  pp = false;
  mark = Unset;
  last = 0;
  violation = None;
  switch = false;
}
