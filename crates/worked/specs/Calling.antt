-- Worked cases of a new processor, of setting it going, and of calls.
use Rattle.std.specs.Prelude.{◌≡◌, ℕ, true, false, [], ◌∷◌, map, replicate, Some, None, Ok, Err, slice_set}
use Rattle.std.specs.List.{range_with_len}
use Rattle.levels.specs.declared.level.LevelState.{LevelState}
use Rattle.levels.specs.declared.level.LevelState.TheVariants.{Disarmed, Armed, Waiting as IsWaiting, Active}
use Rattle.machine.specs.declared.call.Answer.TheVariants.{Stepped, Ran, Signalled as Signalling, Registers as AllRegisters, Protection as AllProtection, Violation as Latest, Word as OneWord, Refused}
use Rattle.machine.specs.declared.call.Call.TheVariants.{Step, Run, Signal, Registers, Protection, Violation, Word}
use Rattle.machine.specs.declared.call.Counts.{Counts}
use Rattle.machine.specs.declared.call.Outcome.TheVariants.{Entered, Done}
use Rattle.machine.specs.declared.call.Signalled.TheVariants.{Waiting, Dropped}
use Rattle.machine.specs.declared.refusal.Refusal.TheVariants.{NoRegister, NoAddress, NoLevel, LevelZero, RunTooLong}
use Rattle.machine.specs.declared.state.Mark.TheVariants.{Unset, Wait}
use Rattle.machine.specs.declared.state.ViolationKind.TheVariants.{Store}
use Rattle.machine.specs.Calls.{after_call, after_calls, answer, gone, run_refusal, signal_refusal, total}
use Rattle.machine.specs.Refusals.{number}
use Rattle.machine.specs.State.{Machine, initial, protect_after, protect_answer, protection_word, put_after, put_answer}
use Rattle.worked.specs.Settings.{free, guarded, level, machine, only, panel, registers_of, resting, words_with}

-- A NEW PROCESSOR

-- what a new processor holds, and what going changes
pub record Begins : Type 0 where
  -- a new processor is all zero, with level 0 armed and enabled and the others disarmed and disabled
  pub registers : panel initial.work ≡ 0 ∷ 0 ∷ 0 ∷ 0 ∷ 0 ∷ 0 ∷ 0 ∷ 0 ∷ 0 ∷ []
  pub protection : initial.guard.protection ≡ replicate 16 0
  pub ii : initial.guard.ii ≡ false
  pub ei : initial.guard.ei ≡ false
  pub levels : initial.guard.levels ≡ resting
  pub pp : initial.pp ≡ false
  pub mark : initial.mark ≡ Unset
  pub last : initial.last ≡ 0
  pub violation : initial.violation ≡ None
  -- go sets PP to 1 and the last address to 0, sets the switch, and leaves all else, a mark too
  pub gone_on : (gone true (machine false false Wait (registers_of 4 7 true true) (guarded true true resting) [])).cpu
      ≡ record { work = registers_of 4 7 true true; guard = guarded true true resting; pp = true; mark = Wait; last = 0; violation = None; switch = true }
  pub gone_off : (gone false (machine true false Wait (registers_of 4 7 true true) (guarded true true resting) [])).cpu
      ≡ record { work = registers_of 4 7 true true; guard = guarded true true resting; pp = true; mark = Wait; last = 0; violation = None; switch = false }
  pub gone_words : (gone true (free (registers_of 4 7 true true) 0x8010 [])).words ≡ words_with ((0x0300, 0x8010) ∷ [])
  -- registers 1 to 7 take a deposit, and Z and what is above 7 do not
  pub deposits : map put_answer (range_with_len 0 10) ≡ Err NoRegister ∷ Ok tt ∷ Ok tt ∷ Ok tt ∷ Ok tt ∷ Ok tt ∷ Ok tt ∷ Ok tt ∷ Err NoRegister ∷ Err NoRegister ∷ []
  -- a refused deposit changes no register
  pub not_deposited : map (λ (n : ℕ). panel (put_after n 0x1234 (registers_of 4 7 true true))) (0 ∷ 8 ∷ 9 ∷ 255 ∷ []) ≡ replicate 4 (panel (registers_of 4 7 true true))
  -- protection registers 0 to 15 take one, and what is above 15 does not
  pub protections : map protect_answer (0 ∷ 1 ∷ 14 ∷ 15 ∷ 16 ∷ 255 ∷ []) ≡ Ok tt ∷ Ok tt ∷ Ok tt ∷ Ok tt ∷ Err NoRegister ∷ Err NoRegister ∷ []
  pub protected : map (λ (n : ℕ). protect_after n 7 (replicate 16 0)) (0 ∷ 15 ∷ 16 ∷ []) ≡ slice_set (replicate 16 0) 0 7 ∷ slice_set (replicate 16 0) 15 7 ∷ replicate 16 0 ∷ []
  pub shown : map (λ (n : ℕ). protection_word n (range_with_len 1 16)) (0 ∷ 15 ∷ 16 ∷ []) ≡ 1 ∷ 16 ∷ 0 ∷ []
  -- the refusals have the numbers 4 to 8
  pub numbers : map number (NoRegister ∷ NoAddress ∷ NoLevel ∷ LevelZero ∷ RunTooLong ∷ []) ≡ 4 ∷ 5 ∷ 6 ∷ 7 ∷ 8 ∷ []

-- CALLS

-- a machine of the background at 0x0300 that comes to each kind of step: a done one, a code that is not carried, a store into page 2,
-- which is a violation; then level 0 enters to 0x0212, where it waits; then steps are idle
abbrev pub busy : Machine
busy = machine true true Unset (registers_of 0x0200 7 true true) (guarded false false resting)
    (words_with ((0x0300, 0x8010) ∷ (0x0301, 0x2000) ∷ (0x0302, 0xe200) ∷ (0x0100, 0x0210) ∷ (0x0212, 0x0030) ∷ []))

-- the same with level 0 active, which enters no more: the store is a stall
abbrev pub stalling : Machine
stalling = machine true true Unset (registers_of 0x0200 7 true true) (guarded false false (only 0 (level Active true)))
    (words_with ((0x0300, 0x8010) ∷ (0x0301, 0x2000) ∷ (0x0302, 0xe200) ∷ []))

-- counts, in the order done, not carried, violations, stalls, entries, idles
abbrev pub counts : ℕ → ℕ → ℕ → ℕ → ℕ → ℕ → Counts
counts d n v s e i = record { done = d; not_carried = n; violations = v; stalls = s; entries = e; idles = i }

-- levels of which level 3 is in a state
abbrev pub third : LevelState → Machine
third s = machine true true Unset (registers_of 4 7 true true) (guarded false false (only 3 (level s false))) (words_with ((0x0300, 0x8010) ∷ []))

-- a machine whose level 3 is armed and enabled, and whose cell of level 3 holds 0x0310
abbrev pub ready : Machine
ready = machine true true Unset (registers_of 4 7 true true) (guarded false false (only 3 (level Armed true))) (words_with ((0x0300, 0x8010) ∷ (0x0103, 0x0310) ∷ []))

-- what lists of calls answer and leave
pub record Called : Type 0 where
  -- a run counts each kind of step apart
  pub run : answer (Run 7) busy ≡ Ran (counts 2 1 1 0 1 2)
  pub run_part : answer (Run 2) busy ≡ Ran (counts 1 1 0 0 0 0)
  pub run_stall : answer (Run 5) stalling ≡ Ran (counts 1 1 0 1 0 2)
  pub run_none : answer (Run 0) busy ≡ Ran (counts 0 0 0 0 0 0)
  -- and leaves the machine after its last step
  pub run_p : (after_call (Run 5) busy).cpu.work.p ≡ 0x0213
  pub run_mark : (after_call (Run 5) busy).cpu.mark ≡ Wait
  -- calls are made in their order: the level signalled enters at the step after it
  pub in_order : answer Step (after_calls (Signal 3 ∷ []) ready) ≡ Stepped (Entered 3)
  pub signal_first : (after_calls (Signal 3 ∷ Step ∷ []) ready).cpu.work.p ≡ 0x0312
  pub step_first : (after_calls (Step ∷ Signal 3 ∷ []) ready).cpu.work.p ≡ 0x0301
  -- a step answers what it was, before it is made
  pub step_answer : answer Step busy ≡ Stepped Done
  -- the total counts all six kinds
  pub totals : total (counts 1 2 4 8 16 32) ≡ 63
  -- at most 1,000,000 steps
  pub longest : run_refusal 1000000 ≡ Ok tt
  pub too_long : run_refusal 1000001 ≡ Err RunTooLong
  -- signals go to levels 1 to 15
  pub signals : map signal_refusal (0 ∷ 1 ∷ 15 ∷ 16 ∷ 255 ∷ []) ≡ Err LevelZero ∷ Ok tt ∷ Ok tt ∷ Err NoLevel ∷ Err NoLevel ∷ []
  pub signal_zero : answer (Signal 0) busy ≡ Refused LevelZero
  pub signal_none : answer (Signal 16) busy ≡ Refused NoLevel
  -- a signal answers waiting where its level was armed, and else dropped
  pub signal_disarmed : answer (Signal 3) (third Disarmed) ≡ Signalling Dropped
  pub signal_armed : answer (Signal 3) (third Armed) ≡ Signalling Waiting
  pub signal_waiting : answer (Signal 3) (third IsWaiting) ≡ Signalling Dropped
  pub signal_active : answer (Signal 3) (third Active) ≡ Signalling Dropped
  -- the armed level waits, enabled or not, and nothing else changes
  pub signal_after : after_call (Signal 3) (third Armed) ≡ third IsWaiting
  pub signal_dropped : after_call (Signal 3) (third Disarmed) ≡ third Disarmed
  -- the looks: all eight registers, the sixteen protection registers, the latest violation, a word
  pub look_registers : answer Registers busy ≡ AllRegisters (0 ∷ 0x0300 ∷ 2 ∷ 3 ∷ 0x0200 ∷ 5 ∷ 0x8006 ∷ 7 ∷ [])
  pub look_protection : answer Protection busy ≡ AllProtection (0x2000 ∷ range_with_len 1 15)
  pub look_none : answer Violation busy ≡ Latest None
  pub look_before : answer Violation (after_call (Run 2) busy) ≡ Latest None
  pub look_latest : answer Violation (after_call (Run 3) busy) ≡ Latest (Some (record { kind = Store; place = 0x0302; aim = 0x0200 }))
  pub look_word : answer (Word 0x0301) busy ≡ OneWord 0x2000
  -- the last word is shown, and the one at the size is refused
  pub look_last : answer (Word 0x031f) busy ≡ OneWord 0
  pub look_refused : answer (Word 0x0320) busy ≡ Refused NoAddress
  -- a look changes nothing
  pub looked : after_calls (Registers ∷ Protection ∷ Violation ∷ Word 0 ∷ []) busy ≡ busy
