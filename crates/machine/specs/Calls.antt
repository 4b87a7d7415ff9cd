-- The calls of a running processor: what each answers, and the machine after it.
use Rattle.std.specs.Prelude.{ℕ, ◌+◌, Bool, true, cond, List, [], ◌∷◌, length, replicate, Ok, Err, Result, ◌==◌, nat_lt, slice_index}
use Rattle.machine.specs.declared.call.Answer.{Answer}
use Rattle.machine.specs.declared.call.Answer.TheVariants.{Stepped, Ran, Signalled as Signalling, Registers as AllRegisters, Protection as AllProtection, Violation as Latest, Word as OneWord, Refused}
use Rattle.machine.specs.declared.call.Call.{Call}
use Rattle.machine.specs.declared.call.Call.TheVariants.{Step, Run, Signal, Registers, Protection, Violation, Word}
use Rattle.machine.specs.declared.call.Counts.{Counts}
use Rattle.machine.specs.declared.call.Outcome.{Outcome}
use Rattle.machine.specs.declared.call.Outcome.TheVariants.{Entered, Idle, Violated, Stalled, NotCarried, Done}
use Rattle.machine.specs.declared.call.Signalled.{Signalled}
use Rattle.machine.specs.declared.call.Signalled.TheVariants.{Waiting, Dropped}
use Rattle.levels.specs.declared.level.Event.TheVariants.{Trigger}
use Rattle.levels.specs.declared.level.LevelState.{LevelState}
use Rattle.levels.specs.declared.level.LevelState.TheVariants.{Disarmed, Armed, Waiting as IsWaiting, Active}
use Rattle.machine.specs.declared.refusal.Refusal.{Refusal}
use Rattle.machine.specs.declared.refusal.Refusal.TheVariants.{NoAddress, NoLevel, LevelZero, RunTooLong}
use Rattle.levels.specs.Levels.{level_at}
use Rattle.machine.specs.State.{Machine, registers, set_last, set_pp, set_switch, told}
use Rattle.machine.specs.Step.{Moment, on_cpu, step}

-- a machine set going, with the protect switch on or off: PP is 1 and the last address 0
abbrev pub gone : Bool → Machine → Machine
gone on m = on_cpu (λ s. set_switch on (set_last 0 (set_pp true s))) m

-- MOVES: what calls come to, whatever the machine is

-- what a call makes a machine do
pub data Move : Type 0 where
  -- one step
  tick : Move
  -- a signal to a level
  poke : ℕ → Move

-- whether a signal names a level from 1 to 15
abbrev pub signal_refusal : ℕ → Result (Unit {0}) Refusal
signal_refusal k = cond (nat_lt 15 k) (Err NoLevel) (cond (k == 0) (Err LevelZero) (Ok tt))

-- whether a run has at most 1,000,000 steps
abbrev pub run_refusal : ℕ → Result (Unit {0}) Refusal
run_refusal n = cond (nat_lt 1000000 n) (Err RunTooLong) (Ok tt)

-- the moves of a call that is not refused
abbrev pub if_ok : Result (Unit {0}) Refusal → List Move → List Move
if_ok (Ok u) ms = ms
if_ok (Err x) ms = []

-- the moves of a call: a look and a refused call make none
abbrev pub moves_of : Call → List Move
moves_of Step = tick ∷ []
moves_of (Run n) = if_ok (run_refusal n) (replicate n tick)
moves_of (Signal k) = if_ok (signal_refusal k) (poke k ∷ [])
moves_of Registers = []
moves_of Protection = []
moves_of Violation = []
moves_of (Word a) = []

-- the machine after a signal to level k
abbrev pub poked : ℕ → Machine → Machine
poked k m = on_cpu (told k Trigger) m

-- the steps of moves, in their order
abbrev pub trail : Machine → List Move → List Moment
trail m [] = []
trail m (tick ∷ ms) = step m ∷ trail (step m).after ms
trail m (poke k ∷ ms) = trail (poked k m) ms

-- the machine after moves
abbrev pub end : Machine → List Move → Machine
end m [] = m
end m (tick ∷ ms) = end (step m).after ms
end m (poke k ∷ ms) = end (poked k m) ms

-- COUNTS

-- the counts of no steps
abbrev pub no_counts : Counts
no_counts = record { done = 0; not_carried = 0; violations = 0; stalls = 0; entries = 0; idles = 0 }

-- the sum of two counts, kind by kind
abbrev pub plus : Counts → Counts → Counts
plus x y = record {
  done = x.done + y.done;
  not_carried = x.not_carried + y.not_carried;
  violations = x.violations + y.violations;
  stalls = x.stalls + y.stalls;
  entries = x.entries + y.entries;
  idles = x.idles + y.idles;
}

-- the counts of one step
abbrev pub counted : Outcome → Counts
counted Done = record { done = 1; not_carried = 0; violations = 0; stalls = 0; entries = 0; idles = 0 }
counted NotCarried = record { done = 0; not_carried = 1; violations = 0; stalls = 0; entries = 0; idles = 0 }
counted (Violated x) = record { done = 0; not_carried = 0; violations = 1; stalls = 0; entries = 0; idles = 0 }
counted (Stalled x) = record { done = 0; not_carried = 0; violations = 0; stalls = 1; entries = 0; idles = 0 }
counted (Entered k) = record { done = 0; not_carried = 0; violations = 0; stalls = 0; entries = 1; idles = 0 }
counted Idle = record { done = 0; not_carried = 0; violations = 0; stalls = 0; entries = 0; idles = 1 }

-- counts and one step more
abbrev pub tallied : Outcome → Counts → Counts
tallied o n = plus n (counted o)

-- the counts of steps
abbrev pub counts_of : List Moment → Counts
counts_of [] = no_counts
counts_of (x ∷ xs) = plus (counted x.outcome) (counts_of xs)

-- all steps that are counted
abbrev pub total : Counts → ℕ
total n = n.done + n.not_carried + n.violations + n.stalls + n.entries + n.idles

-- ANSWERS

-- the steps that a run makes
abbrev pub run_trail : ℕ → Machine → List Moment
run_trail n m = trail m (moves_of (Run n))

-- a refusal, or else a value
abbrev pub or_refusal : {X : Type 0} → Result (Unit {0}) Refusal → X → Result X Refusal
or_refusal (Ok u) x = Ok x
or_refusal (Err y) x = Err y

-- a run answers the counts of its steps
abbrev pub run_answer : ℕ → Machine → Result Counts Refusal
run_answer n m = or_refusal (run_refusal n) (counts_of (run_trail n m))

-- a signal waits where its level was armed
abbrev pub signalled : LevelState → Signalled
signalled Disarmed = Dropped
signalled Armed = Waiting
signalled IsWaiting = Dropped
signalled Active = Dropped

-- a signal answers that, or is refused
abbrev pub signal_answer : ℕ → Machine → Result Signalled Refusal
signal_answer k m = or_refusal (signal_refusal k) (signalled (level_at m.cpu.guard.levels k).state)

-- a look at a memory word: at or above the size it is refused
abbrev pub word_answer : ℕ → List ℕ → Result ℕ Refusal
word_answer a ws = cond (nat_lt a (length ws)) (Ok (slice_index ws a)) (Err NoAddress)

-- an answer of a kind, or the refusal
abbrev pub as_answer : {X : Type 0} → (X → Answer) → Result X Refusal → Answer
as_answer f (Ok x) = f x
as_answer f (Err y) = Refused y

-- what a call answers
abbrev pub answer : Call → Machine → Answer
answer Step m = Stepped (step m).outcome
answer (Run n) m = as_answer Ran (run_answer n m)
answer (Signal k) m = as_answer Signalling (signal_answer k m)
answer Registers m = AllRegisters (registers m.cpu.work)
answer Protection m = AllProtection m.cpu.guard.protection
answer Violation m = Latest m.cpu.violation
answer (Word a) m = as_answer OneWord (word_answer a m.words)

-- the machine after a call
abbrev pub after_call : Call → Machine → Machine
after_call c m = end m (moves_of c)

-- the machine after a list of calls
abbrev pub after_calls : List Call → Machine → Machine
after_calls [] m = m
after_calls (c ∷ cs) m = after_calls cs (after_call c m)
