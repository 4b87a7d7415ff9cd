-- Laws of calls, on any machine.
use Rattle.std.specs.Prelude.{◌≡◌, ℕ, ◌+◌, ◌<◌, ◌≤◌, List, ◌++◌, replicate, Ok}
use Rattle.levels.specs.declared.level.Event.TheVariants.{Trigger}
use Rattle.machine.specs.declared.call.Answer.TheVariants.{Refused}
use Rattle.machine.specs.declared.call.Call.{Call}
use Rattle.machine.specs.declared.call.Call.TheVariants.{Step, Run, Signal}
use Rattle.machine.specs.declared.call.Counts.{Counts}
use Rattle.machine.specs.declared.refusal.Refusal.{Refusal}
use Rattle.machine.specs.declared.refusal.Refusal.TheVariants.{RunTooLong}
use Rattle.levels.specs.Levels.{told}
use Rattle.machine.specs.Calls.{Move, after_call, after_calls, answer, end, plus, run_answer, total, trail}
use Rattle.machine.specs.State.{Machine}

-- t comes of m by a signal to level k: that level takes the trigger event, and nothing else changes
pub record SignalledTo (k : ℕ) (m t : Machine) : Type 0 where
  pub levels : t.cpu.guard.levels ≡ told k Trigger m.cpu.guard.levels
  pub protection : t.cpu.guard.protection ≡ m.cpu.guard.protection
  pub ii : t.cpu.guard.ii ≡ m.cpu.guard.ii
  pub ei : t.cpu.guard.ei ≡ m.cpu.guard.ei
  pub registers : t.cpu.work ≡ m.cpu.work
  pub pp : t.cpu.pp ≡ m.cpu.pp
  pub mark : t.cpu.mark ≡ m.cpu.mark
  pub last : t.cpu.last ≡ m.cpu.last
  pub violation : t.cpu.violation ≡ m.cpu.violation
  pub switch : t.cpu.switch ≡ m.cpu.switch
  pub words : t.words ≡ m.words

-- what holds of every run and signal
pub record Runs : Type 0 where
  -- the steps of moves, one after the other: the later ones start from the machine that the earlier ones leave
  pub moves : (ms ns : List Move) (m : Machine) → trail m (ms ++ ns) ≡ trail m ms ++ trail (end m ms) ns
  -- a run of n steps leaves what n step calls leave
  pub as_steps : (n : ℕ) (m : Machine) → n ≤ 1000000 → after_call (Run n) m ≡ after_calls (replicate n Step) m
  -- a run in two parts leaves what the whole run leaves
  pub parts : (a b : ℕ) (m : Machine) → a + b ≤ 1000000 → after_call (Run (a + b)) m ≡ after_call (Run b) (after_call (Run a) m)
  -- and its counts are the sum of theirs, kind by kind
  pub counts : (a b : ℕ) (m : Machine) (x y : Counts) → a + b ≤ 1000000 → run_answer a m ≡ Ok x → run_answer b (after_call (Run a) m) ≡ Ok y → run_answer (a + b) m ≡ Ok (plus x y)
  -- the counts of a run of n steps add up to n
  pub totals : (n : ℕ) (m : Machine) (x : Counts) → run_answer n m ≡ Ok x → total x ≡ n
  -- a run of at most 1,000,000 steps is answered
  pub answered : (n : ℕ) (m : Machine) → n ≤ 1000000 → (x : Counts) × (run_answer n m ≡ Ok x)
  -- and a longer one is refused
  pub too_long : (n : ℕ) (m : Machine) → 1000000 < n → answer (Run n) m ≡ Refused RunTooLong
  -- a refused call changes nothing
  pub refused : (c : Call) (m : Machine) (x : Refusal) → answer c m ≡ Refused x → after_call c m ≡ m
  -- a signal to level 1 to 15 changes that level alone
  pub signals : (k : ℕ) (m : Machine) → 0 < k → k < 16 → SignalledTo k m (after_call (Signal k) m)
