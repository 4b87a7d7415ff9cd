-- One step of the machine. The last definition is the step itself; each is made of those above it.
use Rattle.std.specs.Prelude.{ℕ, ◌+◌, ◌*◌, Bool, true, false, cond, not, ◌&&◌, List, Some, None, Ok, Err, Option, Result, bit_and, slice_set}
use Rattle.machine.specs.declared.call.Outcome.{Outcome}
use Rattle.machine.specs.declared.call.Outcome.TheVariants.{Entered, Idle, Violated, Stalled, NotCarried as Uncarried, Done}
use Rattle.machine.specs.declared.instruction.ReadFunction.{ReadFunction}
use Rattle.machine.specs.declared.instruction.ReadFunction.TheVariants.{Protection as ReadProtection, Status, Levels as ReadLevels, Unlisted as NoRead}
use Rattle.machine.specs.declared.instruction.WriteFunction.{WriteFunction}
use Rattle.machine.specs.declared.instruction.WriteFunction.TheVariants.{Protection as WriteProtection, Inhibits, Wait as WaitFunction, Exit as ExitFunction, Levels, Unlisted as NoWrite}
use Rattle.machine.specs.declared.instruction.Instruction.{Instruction}
use Rattle.machine.specs.declared.instruction.Instruction.TheVariants.{Lda, And, Add, Sub, Ldx, Sta, Im, B, Branch, Copy, ReadRegister, WriteRegister, Read, Write, NotCarried}
use Rattle.levels.specs.declared.level.Event.TheVariants.{Enter, Violate}
use Rattle.machine.specs.declared.state.Mark.{Mark}
use Rattle.machine.specs.declared.state.Mark.TheVariants.{Unset, Wait, Exit}
use Rattle.machine.specs.declared.state.Violation.{Violation}
use Rattle.machine.specs.declared.state.ViolationKind.TheVariants.{Entry, Operation, Store}
use Rattle.machine.specs.declared.work.Work.{Work}
use Rattle.levels.specs.Bits.{bit, one}
use Rattle.machine.specs.Arithmetic.{added, subtracted}
use Rattle.machine.specs.Decode.{address, decoded, relative}
use Rattle.levels.specs.Levels.{bits_of, control_each, is_active, level_at, lowest, released}
use Rattle.machine.specs.State.{Cpu, Guard, Machine, protect_after, protection_word, put_after, set_guard, set_inhibits, set_last, set_levels, set_mark, set_pp, set_protection, set_violation, set_work, told}
use Rattle.machine.specs.Words.{protects, read, word}
use Rattle.machine.specs.Work.{branched, copied, flagged, register, set_a, set_oc, set_p, set_x1}

-- a step that was made: the machine before it, what it was, and the machine after it
pub record Moment : Type 0 where
  pub before : Machine
  pub outcome : Outcome
  pub after : Machine

-- a change of the cpu alone
abbrev pub on_cpu : (Cpu → Cpu) → Machine → Machine
on_cpu f m = record { cpu = f m.cpu; words = m.words }

-- a change of the registers, O and C alone
abbrev pub on_work : (Work → Work) → Machine → Machine
on_work f m = on_cpu (λ s. set_work (f s.work) s) m

-- a word stored, or lost where its address is absent
abbrev pub store : ℕ → ℕ → Machine → Machine
store a w m = record { cpu = m.cpu; words = slice_set m.words a w }

-- ENTRY AND EXIT

-- the first status word: PP, II, EI, O and C in bits 11 to 15; the second is P
abbrev pub status : Cpu → ℕ
status s = one s.pp * 16 + one s.guard.ii * 8 + one s.guard.ei * 4 + one s.work.o * 2 + one s.work.c

-- the address that level k's cell holds
abbrev pub entry_of : ℕ → List ℕ → ℕ
entry_of k ws = read ws (0x0100 + k)

-- the cpu after entry of level k, whose cell holds q: P is q + 2, PP 1, and the wait mark is cleared
abbrev pub enter_cpu : ℕ → ℕ → Cpu → Cpu
enter_cpu k q s = set_mark Unset (set_pp true (set_work (set_p (word (q + 2)) s.work) (told k Enter s)))

-- entry of level k: the status words go to q and q + 1
abbrev pub enter : ℕ → Machine → Machine
enter k m =
    let q : ℕ = entry_of k m.words in
    record { cpu = enter_cpu k q m.cpu; words = slice_set (slice_set m.words q (status m.cpu)) (word (q + 1)) m.cpu.work.p }

-- the cpu after an exit by the status words x and p: II and EI as they were before it say which level exits, and PP stays 1 with the switch off
abbrev pub leave_cpu : ℕ → ℕ → Cpu → Cpu
leave_cpu x p s =
    let g : Guard = set_inhibits (bit x 12) (bit x 13) (set_levels (released s.guard.ii s.guard.ei s.guard.levels) s.guard) in
    set_pp (cond s.switch (bit x 11) true) (set_guard g (set_work (set_oc (bit x 14) (bit x 15) (set_p p s.work)) s))

-- exit by the status words at a and a + 1
abbrev pub leave : ℕ → Machine → Machine
leave a m = on_cpu (leave_cpu (read m.words a) (read m.words (word (a + 1)))) m

-- AN INSTRUCTION ACTS, on the machine as the fetch left it

-- a function of RD: it loads A, or sets O and C where it is not listed
abbrev pub read_function : ReadFunction → Cpu → Work → Work
read_function (ReadProtection n) s v = set_a (protection_word n s.guard.protection) v
read_function Status s v = set_a (status s) v
read_function (ReadLevels p) s v = set_a (bits_of 16 0 p s.guard.levels) v
read_function NoRead s v = set_oc true true v

-- a function of WD: it acts from A; levels 1 to 15 take a control, level by level
abbrev pub write_function : WriteFunction → Cpu → Cpu
write_function (WriteProtection n) s = set_guard (set_protection (protect_after n s.work.a s.guard.protection) s.guard) s
write_function Inhibits s = set_guard (set_inhibits (bit s.work.a 12) (bit s.work.a 13) s.guard) s
write_function WaitFunction s = set_mark Wait s
write_function ExitFunction s = set_mark Exit s
write_function (Levels c) s = set_guard (set_levels (control_each 15 1 c s.work.a s.guard.levels) s.guard) s
write_function NoWrite s = set_work (set_oc true true s.work) s

-- LDX: an exit where the exit mark was set, and else an index
abbrev pub index : Bool → ℕ → Machine → Machine
index true ea m = leave ea m
index false ea m = on_work (set_x1 (read m.words ea)) m

-- the instructions; the first argument says whether an LDX exits
abbrev pub act : Bool → Instruction → Machine → Machine
act exits (Lda ea) m = on_work (λ v. set_a (read m.words ea) v) m
act exits (And ea) m = on_work (λ v. set_a (bit_and v.a (read m.words ea)) v) m
act exits (Add ea) m = on_work (λ v. flagged (added v.a (read m.words ea) false) (set_a (added v.a (read m.words ea) false).word v)) m
act exits (Sub ea) m = on_work (λ v. flagged (subtracted v.a (read m.words ea)) (set_a (subtracted v.a (read m.words ea)).word v)) m
act exits (Ldx ea) m = index exits ea m
act exits (Sta ea) m = store ea m.cpu.work.a m
act exits (Im ea) m = store ea (added (read m.words ea) 1 false).word (on_work (flagged (added (read m.words ea) 1 false)) m)
act exits (B ea) m = on_work (set_p ea) m
act exits (Branch c target) m = on_work (branched c target) m
act exits (Copy x) m = on_work (copied x) m
act exits (ReadRegister n) m = on_work (λ v. set_a (register n v) v) m
act exits (WriteRegister n) m = on_work (λ v. put_after n v.a v) m
act exits (Read f ea) m = on_work (read_function f m.cpu) m
act exits (Write f ea) m = on_cpu (write_function f) m
act exits NotCarried m = m

-- THE JUDGEMENT

-- what protection has to know of an instruction
pub data Class : Type 0 where
  -- it neither stores nor is privileged
  plain : Class
  -- it stores a word at an address
  stores : ℕ → Class
  -- it is privileged, and aims at an effective address
  privileged : ℕ → Class
  -- its code is not carried
  none_such : Class

-- the class of each instruction
abbrev pub class : Instruction → Class
class (Lda ea) = plain
class (And ea) = plain
class (Add ea) = plain
class (Sub ea) = plain
class (Ldx ea) = plain
class (Sta ea) = stores ea
class (Im ea) = stores ea
class (B ea) = plain
class (Branch c target) = plain
class (Copy x) = plain
class (ReadRegister n) = plain
class (WriteRegister n) = plain
class (Read f ea) = privileged ea
class (Write f ea) = privileged ea
class NotCarried = none_such

-- the violation, if any, of an instruction at i: the first argument says whether it is of the background
abbrev pub judge : Bool → List ℕ → ℕ → Class → Option Violation
judge background ps i plain = None
judge background ps i (stores ea) = cond (background && protects ps ea) (Some (record { kind = Store; place = i; aim = ea })) None
judge background ps i (privileged ea) = cond background (Some (record { kind = Operation; place = i; aim = ea })) None
judge background ps i none_such = None

-- an instruction is let through, or its violation is told
abbrev pub permitted : Option Violation → Result (Unit {0}) Violation
permitted (Some x) = Err x
permitted None = Ok tt

-- whether level 0 is active
abbrev pub stalls : Cpu → Bool
stalls s = is_active (level_at s.guard.levels 0).state

-- the cpu after a violation: P and the last address stay, PP is as the fetch left it, level 0 waits; if that is active, the wait mark is set
abbrev pub violate_cpu : Bool → Violation → Cpu → Cpu
violate_cpu pp x s = set_violation (Some x) (set_mark (cond (stalls s) Wait Unset) (set_pp pp (told 0 Violate s)))

-- a violation leaves the words
abbrev pub violate : Bool → Violation → Machine → Machine
violate pp x m = on_cpu (violate_cpu pp x) m

-- a violation is called a stall where level 0 is active
abbrev pub violation : Bool → Violation → Outcome
violation true x = Stalled x
violation false x = Violated x

-- the step that a violation is
abbrev pub violated : Bool → Violation → Machine → Moment
violated pp x m = record { before = m; outcome = violation (stalls m.cpu) x; after = violate pp x m }

-- THE FETCH

-- PP after a fetch, by the switch, PP and whether P's page is protected; none where the fetch is an entry violation
abbrev pub fetch_pp : Bool → Bool → Bool → Option Bool
fetch_pp false pp page = Some pp
fetch_pp true true page = Some page
fetch_pp true false true = None
fetch_pp true false false = Some false

-- the cpu after a fetch: P is the address of the next instruction, and the exit mark is cleared
abbrev pub fetch_cpu : Bool → Cpu → Cpu
fetch_cpu pp s = set_last s.work.p (set_mark Unset (set_pp pp (set_work (set_p (word (s.work.p + 1)) s.work) s)))

-- a fetch leaves the words
abbrev pub fetched : Bool → Machine → Machine
fetched pp m = on_cpu (fetch_cpu pp) m

-- the instruction at P, by the registers and the words
unfoldable pub instruction_at : Work → List ℕ → Instruction
instruction_at v ws =
    let w : ℕ = read ws v.p in
    decoded w (address v.p v ws w) (relative v.p w)

-- the instruction at P
abbrev pub instruction : Machine → Instruction
instruction m = instruction_at m.cpu.work m.words

-- whether an LDX exits: the exit mark is set, and PP is 1 after its fetch
abbrev pub exits : Mark → Bool → Bool
exits Unset pp = false
exits Wait pp = false
exits Exit pp = pp

-- what a step is that carries an instruction out
abbrev pub carried : Class → Outcome
carried plain = Done
carried (stores ea) = Done
carried (privileged ea) = Done
carried none_such = Uncarried

-- THE STEP

-- the violation, if any, of an instruction at P, by the PP that its fetch leaves: it is of the background where that is 0, with the switch on
abbrev pub judgement : Bool → Instruction → Machine → Option Violation
judgement pp x m = judge (m.cpu.switch && not pp) m.cpu.guard.protection m.cpu.work.p (class x)

-- the machine after an instruction that is let through: it acts after its fetch
abbrev pub executed : Bool → Instruction → Machine → Machine
executed pp x m = act (exits m.cpu.mark pp) x (fetched pp m)

-- a violation, or else the instruction is carried out
abbrev pub by_judgement : Option Violation → Bool → Machine → Moment
by_judgement (Some x) pp m = violated pp x m
by_judgement None pp m = record { before = m; outcome = carried (class (instruction m)); after = executed pp (instruction m) m }

-- an entry violation, or else the instruction at P
abbrev pub by_fetch : Option Bool → Machine → Moment
by_fetch None m = violated false (record { kind = Entry; place = m.cpu.last; aim = m.cpu.work.p }) m
by_fetch (Some pp) m = by_judgement (judgement pp (instruction m) m) pp m

-- the fetch at P
abbrev pub at_fetch : Machine → Moment
at_fetch m = by_fetch (fetch_pp m.cpu.switch m.cpu.pp (protects m.cpu.guard.protection m.cpu.work.p)) m

-- an idle step while the wait mark is set, and else a fetch
abbrev pub by_mark : Mark → Machine → Moment
by_mark Wait m = record { before = m; outcome = Idle; after = m }
by_mark Unset m = at_fetch m
by_mark Exit m = at_fetch m

-- the entry of the level that is due, or else what the mark says
abbrev pub by_entry : Option ℕ → Machine → Moment
by_entry (Some k) m = record { before = m; outcome = Entered k; after = enter k m }
by_entry None m = by_mark m.cpu.mark m

-- the level that enters now: the lowest that may, and none while the exit mark is set
abbrev pub due : Mark → Guard → Option ℕ
due Unset g = lowest 16 0 g.ii g.ei g.levels
due Wait g = lowest 16 0 g.ii g.ei g.levels
due Exit g = None

-- a step is the first of these that applies: an entry, idle, a violation or stall, a code not carried, an instruction done
unfoldable pub step : Machine → Moment
step m = by_entry (due m.cpu.mark m.cpu.guard) m
