-- Laws of the rules, in the words of the machine's users.
use Rattle.std.specs.Prelude.{◌≡◌, ℕ, ◌+◌, ◌*◌, ◌<◌, ◌≤◌, Bool, true, false, cond, ◌⊎◌, List, length, Some, None, ◌≢◌, ℤ, pos, ◌+ℤ◌, ◌-ℤ◌, ◌*ℤ◌}
use Rattle.std.specs.Int.{int_rem_euclid}
use Rattle.levels.specs.declared.level.Event.{Event}
use Rattle.levels.specs.declared.level.Event.TheVariants.{Exit}
use Rattle.levels.specs.declared.level.Level.{Level}
use Rattle.levels.specs.declared.level.LevelControl.{LevelControl}
use Rattle.levels.specs.declared.level.Property.{Property}
use Rattle.machine.specs.declared.instruction.ReadFunction.TheVariants.{Levels as ReadLevels}
use Rattle.machine.specs.declared.instruction.WriteFunction.TheVariants.{Levels as WriteLevels}
use Rattle.levels.specs.Bits.{bit, one}
use Rattle.machine.specs.Arithmetic.{added, subtracted}
use Rattle.machine.specs.Decode.{address, code, has_address, relative}
use Rattle.levels.specs.Levels.{controlled, enabling, has, inhibited, is_active, is_waiting, level_at, lowest, taken, told}
use Rattle.machine.specs.declared.instruction.Condition.{Condition}
use Rattle.machine.specs.declared.instruction.Instruction.TheVariants.{Branch, Ldx}
use Rattle.machine.specs.declared.state.Mark.TheVariants.{Exit as ExitMark}
use Rattle.machine.specs.declared.work.Work.{Work}
use Rattle.machine.specs.State.{Cpu, Guard, Machine}
use Rattle.machine.specs.Step.{fetch_pp, instruction, leave_cpu, read_function, step, write_function}
use Rattle.machine.specs.Words.{protects, read}

-- level k may enter: it is waiting, enabled and not inhibited, and no lower-numbered uninhibited level is active
pub record MayEnter (ii ei : Bool) (ls : List Level) (k : ℕ) : Type 0 where
  pub waiting : is_waiting (level_at ls k).state ≡ true
  pub enabled : (level_at ls k).enabled ≡ true
  pub free : inhibited ii ei k ≡ false
  pub unblocked : (j : ℕ) → j < k → (inhibited ii ei j ≡ true) ⊎ (is_active (level_at ls j).state ≡ false)

-- whether level k is active
abbrev pub active_at : Guard → ℕ → Bool
active_at g k = is_active (level_at g.levels k).state

-- level k is active and not inhibited
pub record ActiveUninhibited (g : Guard) (k : ℕ) : Type 0 where
  pub active : active_at g k ≡ true
  pub free : inhibited g.ii g.ei k ≡ false

-- level k is the lowest-numbered active one of levels 0 to 15, inhibited or not
pub record LowestActive (g : Guard) (k : ℕ) : Type 0 where
  pub within : k < 16
  pub active : active_at g k ≡ true
  pub first : (j : ℕ) → j < k → active_at g j ≡ false

-- g holds the level records, II and EI as they are when the LDX of an exit begins, and ls is what the exit makes of those records
pub record Clears (g : Guard) (ls : List Level) : Type 0 where
  -- the lowest-numbered active level that is not inhibited exits, and the others keep their records
  pub lowest_uninhibited : (k : ℕ) → k < 16 → ActiveUninhibited g k → ((j : ℕ) → j < k → ActiveUninhibited g j → ⊥) → ls ≡ told k Exit g.levels
  -- where every active level is inhibited, the lowest of them
  pub all_inhibited : (k : ℕ) → LowestActive g k → ((j : ℕ) → j < 16 → ActiveUninhibited g j → ⊥) → ls ≡ told k Exit g.levels
  -- where no active level is inhibited, the lowest of them
  pub none_inhibited : (k : ℕ) → LowestActive g k → ((j : ℕ) → j < 16 → active_at g j ≡ true → inhibited g.ii g.ei j ≡ false) → ls ≡ told k Exit g.levels
  -- where none is active, all stay
  pub none_active : ((j : ℕ) → j < 16 → active_at g j ≡ false) → ls ≡ g.levels
  -- level 0 exits before any other, and level 1 before all but level 0, whatever II and EI are
  pub zero : active_at g 0 ≡ true → ls ≡ told 0 Exit g.levels
  pub one : active_at g 0 ≡ false → active_at g 1 ≡ true → ls ≡ told 1 Exit g.levels
  -- with II 1 and EI 0, levels 0 and 1 not active, and levels of 2 to 7 and of 8 to 15 active, the lowest of 8 to 15 exits, and one of 2 to 7 stays
  pub held_back : g.ii ≡ true → g.ei ≡ false → active_at g 0 ≡ false → active_at g 1 ≡ false → (j : ℕ) → 2 ≤ j → j < 8 → active_at g j ≡ true
      → (k : ℕ) → 8 ≤ k → k < 16 → active_at g k ≡ true → ((i : ℕ) → 8 ≤ i → i < k → active_at g i ≡ false)
      → (ls ≡ told k Exit g.levels) × (level_at ls j ≡ level_at g.levels j)

-- the next step of m is an exit by the status words at ea and ea + 1: the exit mark is set, the fetch leaves PP 1, and an LDX stands at P
pub record ExitsBy (ea : ℕ) (m : Machine) : Type 0 where
  pub mark : m.cpu.mark ≡ ExitMark
  pub fetch : fetch_pp m.cpu.switch m.cpu.pp (protects m.cpu.guard.protection m.cpu.work.p) ≡ Some true
  pub ldx : instruction m ≡ Ldx ea

-- r is the non-negative remainder of z by 65,536: it is below 65,536, and z is a whole number times 65,536, plus r; the standard library's
-- rem_euclid gives it
pub record Remainder (z : ℤ) (r : ℕ) : Type 0 where
  pub below : r < 65536
  pub whole : (q : ℤ) × (z ≡ q *ℤ pos 65536 +ℤ pos r)
  pub euclidean : int_rem_euclid z (pos 65536) ≡ pos r

-- what holds of every machine, whatever it is
pub record Laws : Type 0 where
  -- the level that enters is the lowest of levels 0 to 15 that may
  pub enters : (ii ei : Bool) (ls : List Level) (k : ℕ) → lowest 16 0 ii ei ls ≡ Some k → MayEnter ii ei ls k × ((j : ℕ) → j < k → MayEnter ii ei ls j → ⊥)
  -- where none enters, none may
  pub none_enters : (ii ei : Bool) (ls : List Level) → lowest 16 0 ii ei ls ≡ None → (k : ℕ) → k < 16 → MayEnter ii ei ls k → ⊥
  -- an event changes the record of its level, and leaves that of every other
  pub told_own : (k : ℕ) (e : Event) (ls : List Level) → k < length ls → level_at (told k e ls) k ≡ taken (level_at ls k) e
  pub told_others : (k j : ℕ) (e : Event) (ls : List Level) → (j ≢ k) → level_at (told k e ls) j ≡ level_at ls j
  -- no event enables or disables, and neither of these changes a state
  pub enabling_stays : (l : Level) (e : Event) → (taken l e).enabled ≡ l.enabled
  pub state_stays : (l : Level) (b : Bool) → (enabling b l).state ≡ l.state
  -- bit k of what RD shows of a property is that of level k
  pub shows : (p : Property) (s : Cpu) (k : ℕ) → k < 16 → bit (read_function (ReadLevels p) s s.work).a k ≡ has p (level_at s.guard.levels k)
  -- of levels 1 to 15 WD controls those whose bit in A is 1, and leaves the others
  pub controls : (c : LevelControl) (s : Cpu) (k : ℕ) → 0 < k → k < 16 → k < length s.guard.levels
      → level_at (write_function (WriteLevels c) s).guard.levels k ≡ cond (bit s.work.a k) (controlled c (level_at s.guard.levels k)) (level_at s.guard.levels k)
  -- and it leaves level 0
  pub leaves_zero : (c : LevelControl) (s : Cpu) → level_at (write_function (WriteLevels c) s).guard.levels 0 ≡ level_at s.guard.levels 0
  -- an exit clears a level by II and EI as they are before the step
  pub exits : (ea : ℕ) (m : Machine) → ExitsBy ea m → Clears m.cpu.guard (step m).after.cpu.guard.levels
  -- so it does in any state in which an exit may be made, and whatever status words it loads
  pub exits_by_any_words : (x p : ℕ) (s : Cpu) → Clears s.guard (leave_cpu x p s).guard.levels
  -- II and EI after it are those of the first status word
  pub exits_load : (ea : ℕ) (m : Machine) → ExitsBy ea m
      → ((step m).after.cpu.guard.ii ≡ bit (read m.words ea) 12) × ((step m).after.cpu.guard.ei ≡ bit (read m.words ea) 13)
  -- the sum behind relative addresses is the remainder of i + D - 256 S, for every i, D and S, whatever stands in bits 0 to 6 of the word
  pub relative_sum : (h i d : ℕ) (s : Bool) → d < 256 → Remainder (pos i +ℤ pos d -ℤ pos (256 * one s)) (relative i (512 * h + 256 * one s + d))
  -- it is 65,280 for i 0, D 0, S 1
  pub relative_wraps : relative 0 0x0100 ≡ 65280
  -- it is the effective address where R is 1 and neither I nor X is
  pub relative_address : (i w : ℕ) (v : Work) (ws : List ℕ) → has_address w ≡ true → bit w 4 ≡ true → bit w 5 ≡ false → bit w 6 ≡ false → address i v ws w ≡ relative i w
  -- and it is the target of a branch, which is code 6
  pub relative_target : (m : Machine) → code (read m.words m.cpu.work.p) ≡ 6
      → (c : Condition) × (instruction m ≡ Branch c (relative m.cpu.work.p (read m.words m.cpu.work.p)))
  -- a sum and 65,536 times its carry is what was added
  pub sums : (a b : ℕ) → a < 65536 → b < 65536 → ((added a b false).carry ≡ false → (added a b false).word ≡ a + b) × ((added a b false).carry ≡ true → (added a b false).word + 65536 ≡ a + b)
  -- the carry of a difference is its borrow
  pub borrows : (a b : ℕ) → a < 65536 → b < 65536 → ((subtracted a b).carry ≡ true → a < b) × ((subtracted a b).carry ≡ false → b ≤ a)
