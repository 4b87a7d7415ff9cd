-- Worked cases of protection: what is a violation, and what one changes.
use Rattle.std.specs.Prelude.{◌≡◌, ℕ, ◌+◌, Bool, true, false, List, [], ◌∷◌, map, replicate, Some}
use Rattle.std.specs.List.{range_with_len}
use Rattle.levels.specs.declared.level.Level.{Level}
use Rattle.levels.specs.declared.level.LevelState.TheVariants.{Disarmed, Waiting, Active}
use Rattle.machine.specs.declared.call.Outcome.{Outcome}
use Rattle.machine.specs.declared.call.Outcome.TheVariants.{Idle, Violated, Stalled, NotCarried, Done}
use Rattle.machine.specs.declared.state.Mark.{Mark}
use Rattle.machine.specs.declared.state.Mark.TheVariants.{Unset, Wait, Exit}
use Rattle.machine.specs.declared.state.Violation.{Violation}
use Rattle.machine.specs.declared.state.ViolationKind.TheVariants.{Entry, Operation, Store}
use Rattle.machine.specs.State.{Machine}
use Rattle.machine.specs.Step.{step}
use Rattle.machine.specs.Words.{protects}
use Rattle.worked.specs.Settings.{background, guarded, level, machine, only, registers_of, resting, shown, stepped, words_with, zeros}

-- violations of an instruction at 0x0300
abbrev pub store_at : ℕ → Violation
store_at a = record { kind = Store; place = 0x0300; aim = a }

abbrev pub operation_at : ℕ → Violation
operation_at a = record { kind = Operation; place = 0x0300; aim = a }

-- a violation of the fetch at 0x0200, where the last address is 0x0042
abbrev pub entry_at : Violation
entry_at = record { kind = Entry; place = 0x0042; aim = 0x0200 }

-- what the instruction w of the background at 0x0300 comes to, with X1 as given
abbrev pub tried : ℕ → ℕ → Outcome
tried w x1 = (step (background (registers_of x1 7 true true) w [])).outcome

-- the same where the fetch finds PP 1
abbrev pub tried_first : ℕ → Outcome
tried_first w = (step (machine true true Unset (registers_of 4 7 true true) (guarded false false resting) (words_with ((0x0300, w) ∷ [])))).outcome

-- the instruction w of protected code at 0x0200, page 2, by the switch
abbrev pub protected : Bool → ℕ → Machine
protected switch w = machine switch true Unset (zeros 0x0200) (guarded false false resting) (words_with ((0x0200, w) ∷ []))

-- STA to 0x0200 in the background, under a mark and with PP and a level 0 as given
abbrev pub storing : Bool → Mark → List Level → Machine
storing pp mark ls = machine true pp mark (registers_of 0x0100 7 true false) (guarded true false ls) (words_with ((0x0300, 0xe3fb) ∷ []))

-- a jump of the background to 0x0200, of which PP 0 is left
abbrev pub jumping : List Level → Machine
jumping ls = machine true false Exit (zeros 0x0200) (guarded false false ls) (words_with ((0x0200, 0x8010) ∷ []))

-- which instructions are violations
pub record Judged : Type 0 where
  -- the bit of a page: page 2 is bit 2 of register 0, page 31 bit 15 of register 1, page 255 bit 15 of register 15
  pub pages : map (protects (guarded false false []).protection) (0x01ff ∷ 0x0200 ∷ 0x02ff ∷ 0x0300 ∷ 0x1eff ∷ 0x1f00 ∷ 0x1fff ∷ 0x2000 ∷ 0xffff ∷ 0xfb00 ∷ [])
      ≡ false ∷ true ∷ true ∷ false ∷ false ∷ true ∷ true ∷ false ∷ true ∷ false ∷ []
  -- STA and IM into page 2
  pub sta : tried 0xe200 0x0200 ≡ Violated (store_at 0x0200)
  pub im : tried 0xf200 0x02ff ≡ Violated (store_at 0x02ff)
  -- also where the word is absent
  pub sta_absent : tried 0xe200 0xffff ≡ Violated (store_at 0xffff)
  -- and not into another page
  pub sta_elsewhere : tried 0xe200 0x0100 ≡ Done
  pub im_elsewhere : tried 0xf200 0x0310 ≡ Done
  -- a page that X1 leads out of is not judged
  pub sta_indexed : tried 0xe9ff 0 ≡ Violated (store_at 0x02ff)
  pub sta_led_out : tried 0xebff 1 ≡ Done
  -- loads from page 2 and branches to it are done
  pub lda : tried 0x8200 0x0200 ≡ Done
  pub and : tried 0x9200 0x0200 ≡ Done
  pub add : tried 0xa200 0x0200 ≡ Done
  pub sub : tried 0xb200 0x0200 ≡ Done
  pub ldx : tried 0xc200 0x0200 ≡ Done
  pub b : tried 0x4200 0x0200 ≡ Done
  pub branch : tried 0x6420 0 ≡ Done
  pub copy : tried 0x7497 0 ≡ Done
  -- codes that are not carried never violate
  pub not_carried : map (λ (w : ℕ). tried w 0x0200) (0x2200 ∷ 0x3200 ∷ 0x5200 ∷ 0xd200 ∷ []) ≡ replicate 4 NotCarried
  -- registers 0 to 7 are not privileged
  pub read_registers : map (λ (n : ℕ). tried (0x1000 + n) 4) (range_with_len 0 8) ≡ replicate 8 Done
  pub write_registers : map (λ (n : ℕ). tried n 4) (range_with_len 0 8) ≡ replicate 8 Done
  -- all other functions are, listed or not
  pub read_privileged : map (λ (a : ℕ). tried 0x1200 a) (0x0008 ∷ 0x0010 ∷ 0x001f ∷ 0x0020 ∷ 0x0030 ∷ 0x1000 ∷ 0x1001 ∷ 0x1002 ∷ 0x1003 ∷ 0x2000 ∷ [])
      ≡ map (λ (a : ℕ). Violated (operation_at a)) (0x0008 ∷ 0x0010 ∷ 0x001f ∷ 0x0020 ∷ 0x0030 ∷ 0x1000 ∷ 0x1001 ∷ 0x1002 ∷ 0x1003 ∷ 0x2000 ∷ [])
  pub write_privileged : map (λ (a : ℕ). tried 0x0200 a) (0x0008 ∷ 0x0010 ∷ 0x001f ∷ 0x0020 ∷ 0x0030 ∷ 0x0031 ∷ 0x1000 ∷ 0x1001 ∷ 0x1002 ∷ 0x1003 ∷ 0x1004 ∷ 0x1005 ∷ 0x2000 ∷ [])
      ≡ map (λ (a : ℕ). Violated (operation_at a)) (0x0008 ∷ 0x0010 ∷ 0x001f ∷ 0x0020 ∷ 0x0030 ∷ 0x0031 ∷ 0x1000 ∷ 0x1001 ∷ 0x1002 ∷ 0x1003 ∷ 0x1004 ∷ 0x1005 ∷ 0x2000 ∷ [])
  -- an instruction is of the background where its fetch sets PP to 0
  pub from_protected : tried_first 0x0030 ≡ Violated (operation_at 0x0030)
  -- protected code is not judged
  pub protected_store : (step (protected true 0xe810)).outcome ≡ Done
  pub protected_function : (step (protected true 0x0030)).outcome ≡ Done
  -- with the switch off nothing is, also where PP is 0
  pub off_store : (step (protected false 0xe810)).outcome ≡ Done
  pub off_function : (step (machine false false Unset (zeros 0x0300) (guarded false false resting) (words_with ((0x0300, 0x0030) ∷ [])))).outcome ≡ Done
  pub off_into : (step (machine false false Unset (zeros 0x0200) (guarded false false resting) (words_with ((0x0200, 0xe8f0) ∷ [])))).outcome ≡ Done
  -- a fetch of the background from a protected page
  pub entry : (step (jumping resting)).outcome ≡ Violated entry_at

-- what a violation and a stall leave
pub record Violations : Type 0 where
  -- the instruction has no effect on registers and words
  pub registers : shown (storing false Unset resting) ≡ 0x0300 ∷ 2 ∷ 3 ∷ 0x0100 ∷ 5 ∷ 0x8006 ∷ 7 ∷ 1 ∷ 0 ∷ []
  pub words : (stepped (storing false Unset resting)).words ≡ (storing false Unset resting).words
  -- the last address stays
  pub last : (stepped (storing false Unset resting)).cpu.last ≡ 0x0042
  -- PP is as the fetch left it
  pub protect : (stepped (storing true Unset resting)).cpu.pp ≡ false
  pub entry_protect : (stepped (jumping resting)).cpu.pp ≡ false
  -- level 0 waits, whether it was armed or not, and the guard else stays
  pub from_armed : (stepped (storing false Unset resting)).cpu.guard ≡ guarded true false (only 0 (level Waiting true))
  pub from_disarmed : (stepped (storing false Unset (only 0 (level Disarmed false)))).cpu.guard ≡ guarded true false (only 0 (level Waiting false))
  -- no mark is left: the fetch clears the exit mark
  pub mark : (stepped (storing false Unset resting)).cpu.mark ≡ Unset
  pub exit_mark : (stepped (storing false Exit resting)).cpu.mark ≡ Unset
  -- it is the latest violation
  pub latest : (stepped (storing false Unset resting)).cpu.violation ≡ Some (store_at 0x0200)
  pub latest_entry : (stepped (jumping resting)).cpu.violation ≡ Some entry_at
  -- an entry violation leaves P and the last address, and clears the exit mark
  pub entry_registers : shown (jumping resting) ≡ 0x0200 ∷ 0 ∷ 0 ∷ 0 ∷ 0 ∷ 0 ∷ 0 ∷ 0 ∷ 0 ∷ []
  pub entry_last : (stepped (jumping resting)).cpu.last ≡ 0x0042
  pub entry_mark : (stepped (jumping resting)).cpu.mark ≡ Unset
  -- it is a stall where level 0 is active: level 0 stays active, and the wait mark is set
  pub stall : (step (storing false Unset (only 0 (level Active true)))).outcome ≡ Stalled (store_at 0x0200)
  pub stall_guard : (stepped (storing false Unset (only 0 (level Active true)))).cpu.guard ≡ guarded true false (only 0 (level Active true))
  pub stall_mark : (stepped (storing false Exit (only 0 (level Active true)))).cpu.mark ≡ Wait
  pub stall_latest : (stepped (storing false Unset (only 0 (level Active true)))).cpu.violation ≡ Some (store_at 0x0200)
  pub stall_entry : (step (jumping (only 0 (level Active true)))).outcome ≡ Stalled entry_at
  -- another active level makes no stall
  pub no_stall : (step (storing false Unset (only 1 (level Active true)))).outcome ≡ Violated (store_at 0x0200)

-- what a fetch makes of PP and of the marks
pub record Fetches : Type 0 where
  -- with the switch on PP becomes the bit of P's page
  pub to_background : (stepped (machine true true Unset (zeros 0x0300) (guarded false false resting) (words_with []))).cpu.pp ≡ false
  pub to_protected : (stepped (protected true 0x8010)).cpu.pp ≡ true
  pub in_background : (stepped (machine true false Unset (zeros 0x0300) (guarded false false resting) (words_with []))).cpu.pp ≡ false
  -- with the switch off it stays
  pub off : (stepped (machine false true Unset (zeros 0x0300) (guarded false false resting) (words_with []))).cpu.pp ≡ true
  pub off_zero : (stepped (machine false false Unset (zeros 0x0200) (guarded false false resting) (words_with []))).cpu.pp ≡ false
  -- an idle step changes nothing
  pub idle : (step (machine true false Wait (zeros 0x0300) (guarded false false resting) (words_with []))).outcome ≡ Idle
  pub idle_machine : stepped (machine true false Wait (zeros 0x0300) (guarded false false resting) (words_with [])) ≡ machine true false Wait (zeros 0x0300) (guarded false false resting) (words_with [])
