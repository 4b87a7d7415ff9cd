-- Worked cases of the direct functions RD and WD.
use Rattle.std.specs.Prelude.{◌≡◌, ℕ, ◌+◌, Bool, true, false, List, [], ◌∷◌, map, replicate, slice_set}
use Rattle.std.specs.List.{range_with_len}
use Rattle.levels.specs.declared.level.Level.{Level}
use Rattle.levels.specs.declared.level.LevelState.TheVariants.{Disarmed, Armed, Waiting, Active}
use Rattle.machine.specs.declared.state.Mark.{Mark}
use Rattle.machine.specs.declared.state.Mark.TheVariants.{Unset, Wait, Exit}
use Rattle.machine.specs.State.{Guard, Machine}
use Rattle.worked.specs.Settings.{free, guarded, level, machine, panel, registers_of, resting, shown, stepped, words_with}

-- the panel after a function of mode 0, which the instruction's D names; A is 0x7ff2, O and C are 0
abbrev pub function : ℕ → List ℕ
function w = shown (free (registers_of 4 0x7ff2 false false) w [])

-- A after it
abbrev pub loaded : ℕ → ℕ
loaded w = (stepped (free (registers_of 4 0x7ff2 false false) w [])).cpu.work.a

-- the protection registers after it
abbrev pub protection_after : ℕ → List ℕ
protection_after w = (stepped (free (registers_of 4 0x7ff2 false false) w [])).cpu.guard.protection

-- A after RD of the status word, by PP, II, EI, O and C
abbrev pub status_of : Bool → Bool → Bool → Bool → Bool → ℕ
status_of pp ii ei o c = (stepped (machine false pp Unset (registers_of 4 7 o c) (guarded ii ei resting) (words_with ((0x0300, 0x1020) ∷ [])))).cpu.work.a

-- the guard after WD of A to the inhibits
abbrev pub inhibits_from : ℕ → Guard
inhibits_from a = (stepped (free (registers_of 4 a false false) 0x0020 [])).cpu.guard

-- the mark after a function
abbrev pub mark_after : ℕ → Mark
mark_after w = (stepped (free (registers_of 4 0x7ff2 false false) w [])).cpu.mark

-- a function of RD or WD whose mode is in X1, with A and levels as given
abbrev pub indexed : ℕ → ℕ → ℕ → List Level → Machine
indexed w x1 a ls = stepped (machine false true Unset (registers_of x1 a false false) (guarded false false ls) (words_with ((0x0300, w) ∷ [])))

-- A after RD of mode 1
abbrev pub read_levels : ℕ → List Level → ℕ
read_levels w ls = (indexed w 0x1000 7 ls).cpu.work.a

-- the levels after WD of mode 1 from A
abbrev pub write_levels : ℕ → ℕ → List Level → List Level
write_levels w a ls = (indexed w 0x1000 a ls).cpu.guard.levels

-- levels 0 to 15: level 0 active and enabled, 1 waiting, 2 armed and enabled, 3 disarmed, 4 waiting and enabled, 15 active, and the others disarmed
abbrev pub mixed : List Level
mixed = level Active true ∷ level Waiting false ∷ level Armed true ∷ level Disarmed false ∷ level Waiting true ∷ (slice_set (replicate 11 (level Disarmed false)) 10 (level Active false))

-- the panel after a function that is not listed: O and C are 1, and A is as it was
abbrev pub unlisted : ℕ → List ℕ
unlisted x1 = 0x0301 ∷ 2 ∷ 3 ∷ x1 ∷ 5 ∷ 0x8006 ∷ 0x7ff2 ∷ 1 ∷ 1 ∷ []

-- what RD and WD do in each mode and function
pub record Functions : Type 0 where
  -- RD of registers 0 to 7: Z is 0 and P the next instruction's address
  pub registers : map (λ (n : ℕ). loaded (0x1000 + n)) (range_with_len 0 8) ≡ 0 ∷ 0x0301 ∷ 2 ∷ 3 ∷ 4 ∷ 5 ∷ 0x8006 ∷ 0x7ff2 ∷ []
  -- RD changes A alone, and leaves O and C
  pub only_a : function 0x1006 ≡ 0x0301 ∷ 2 ∷ 3 ∷ 4 ∷ 5 ∷ 0x8006 ∷ 0x8006 ∷ 0 ∷ 0 ∷ []
  -- WD to registers 0 to 7: Z keeps nothing, and P is a jump
  pub to_z : function 0x0000 ≡ 0x0301 ∷ 2 ∷ 3 ∷ 4 ∷ 5 ∷ 0x8006 ∷ 0x7ff2 ∷ 0 ∷ 0 ∷ []
  pub to_p : function 0x0001 ≡ 0x7ff2 ∷ 2 ∷ 3 ∷ 4 ∷ 5 ∷ 0x8006 ∷ 0x7ff2 ∷ 0 ∷ 0 ∷ []
  pub to_l : function 0x0002 ≡ 0x0301 ∷ 0x7ff2 ∷ 3 ∷ 4 ∷ 5 ∷ 0x8006 ∷ 0x7ff2 ∷ 0 ∷ 0 ∷ []
  pub to_t : function 0x0003 ≡ 0x0301 ∷ 2 ∷ 0x7ff2 ∷ 4 ∷ 5 ∷ 0x8006 ∷ 0x7ff2 ∷ 0 ∷ 0 ∷ []
  pub to_x1 : function 0x0004 ≡ 0x0301 ∷ 2 ∷ 3 ∷ 0x7ff2 ∷ 5 ∷ 0x8006 ∷ 0x7ff2 ∷ 0 ∷ 0 ∷ []
  pub to_x2 : function 0x0005 ≡ 0x0301 ∷ 2 ∷ 3 ∷ 4 ∷ 0x7ff2 ∷ 0x8006 ∷ 0x7ff2 ∷ 0 ∷ 0 ∷ []
  pub to_e : function 0x0006 ≡ 0x0301 ∷ 2 ∷ 3 ∷ 4 ∷ 5 ∷ 0x7ff2 ∷ 0x7ff2 ∷ 0 ∷ 0 ∷ []
  pub to_a : function 0x0007 ≡ 0x0301 ∷ 2 ∷ 3 ∷ 4 ∷ 5 ∷ 0x8006 ∷ 0x7ff2 ∷ 0 ∷ 0 ∷ []
  -- RD of protection registers 0 to 15
  pub protection : map (λ (n : ℕ). loaded (0x1010 + n)) (range_with_len 0 16) ≡ 0x2000 ∷ range_with_len 1 15
  -- WD to one of them leaves the others
  pub to_first : protection_after 0x0010 ≡ 0x7ff2 ∷ range_with_len 1 15
  pub to_second : protection_after 0x0011 ≡ 0x2000 ∷ 0x7ff2 ∷ range_with_len 2 14
  pub to_last : protection_after 0x001f ≡ slice_set (0x2000 ∷ range_with_len 1 15) 15 0x7ff2
  -- RD of the status word: PP, II, EI, O and C are bits 11 to 15
  pub status_pp : status_of true false false false false ≡ 0x0010
  pub status_ii : status_of false true false false false ≡ 0x0008
  pub status_ei : status_of false false true false false ≡ 0x0004
  pub status_o : status_of false false false true false ≡ 0x0002
  pub status_c : status_of false false false false true ≡ 0x0001
  -- WD of the inhibits: II is bit 12 of A, EI bit 13
  pub inhibit_ii : inhibits_from 0x0008 ≡ guarded true false resting
  pub inhibit_ei : inhibits_from 0x0004 ≡ guarded false true resting
  pub inhibit_none : inhibits_from 0xfff3 ≡ guarded false false resting
  -- WD sets the wait mark, and the exit mark
  pub wait : mark_after 0x0030 ≡ Wait
  pub exit : mark_after 0x0031 ≡ Exit
  -- neither changes a register but P
  pub wait_only : function 0x0030 ≡ 0x0301 ∷ 2 ∷ 3 ∷ 4 ∷ 5 ∷ 0x8006 ∷ 0x7ff2 ∷ 0 ∷ 0 ∷ []
  pub exit_only : function 0x0031 ≡ 0x0301 ∷ 2 ∷ 3 ∷ 4 ∷ 5 ∷ 0x8006 ∷ 0x7ff2 ∷ 0 ∷ 0 ∷ []
  -- RD of what is not listed in mode 0 sets O and C and leaves A
  pub unlisted_read : map function (0x1008 ∷ 0x100f ∷ 0x1021 ∷ 0x1030 ∷ 0x1031 ∷ 0x10ff ∷ []) ≡ replicate 6 (unlisted 4)
  -- WD too, and it sets no mark
  pub unlisted_write : map function (0x0008 ∷ 0x000f ∷ 0x0021 ∷ 0x002f ∷ 0x0032 ∷ 0x00ff ∷ []) ≡ replicate 6 (unlisted 4)
  pub unlisted_mark : map mark_after (0x0008 ∷ 0x0021 ∷ 0x002f ∷ 0x0032 ∷ 0x00ff ∷ []) ≡ replicate 5 Unset
  -- RD of enabled, waiting and active levels: bit k is level k's, level 0's too
  pub enabled : read_levels 0x1200 mixed ≡ 0xa800
  pub waiting : read_levels 0x1201 mixed ≡ 0x4800
  pub active : read_levels 0x1202 mixed ≡ 0x8001
  -- of mode 1 RD has functions 0 to 2 alone, and WD 0 to 4
  pub no_more_reads : map (λ (w : ℕ). panel (indexed w 0x1000 0x7ff2 mixed).cpu.work) (0x1203 ∷ 0x1204 ∷ 0x1205 ∷ 0x1210 ∷ []) ≡ replicate 4 (unlisted 0x1000)
  pub no_more_writes : map (λ (w : ℕ). panel (indexed w 0x1000 0x7ff2 mixed).cpu.work) (0x0205 ∷ 0x0206 ∷ 0x0210 ∷ 0x0220 ∷ []) ≡ replicate 4 (unlisted 0x1000)
  pub no_levels : map (λ (w : ℕ). (indexed w 0x1000 0xffff mixed).cpu.guard.levels) (0x0205 ∷ 0x0206 ∷ []) ≡ replicate 2 mixed
  -- and modes 2 to 15 have none
  pub no_mode_2 : map (λ (w : ℕ). panel (indexed w 0x2000 0x7ff2 mixed).cpu.work) (0x1200 ∷ 0x1202 ∷ 0x1210 ∷ 0x1220 ∷ 0x0201 ∷ 0x0203 ∷ 0x0231 ∷ []) ≡ replicate 7 (unlisted 0x2000)
  pub no_mode_8 : map (λ (w : ℕ). panel (indexed w 0x8000 0x7ff2 mixed).cpu.work) (0x1200 ∷ 0x1220 ∷ 0x0201 ∷ 0x0230 ∷ []) ≡ replicate 4 (unlisted 0x8000)
  pub no_mode_9 : map (λ (w : ℕ). (indexed w 0x9000 0xffff mixed).cpu.guard.levels) (0x0200 ∷ 0x0201 ∷ 0x0203 ∷ 0x0204 ∷ []) ≡ replicate 4 mixed
  -- a function has twelve bits
  pub no_function_0x100 : panel (indexed 0x1220 0x0100 0x7ff2 mixed).cpu.work ≡ unlisted 0x0100

-- levels 1, 3 and 15 are named by A; level 0 is named too and never takes part
abbrev pub named : ℕ
named = 0xd001

-- what WD makes of the levels, and RD shows of them
pub record Controls : Type 0 where
  -- disarm, of levels that are armed and enabled
  pub disarm : write_levels 0x0200 named (replicate 16 (level Armed true))
      ≡ level Armed true ∷ level Disarmed true ∷ level Armed true ∷ level Disarmed true ∷ slice_set (replicate 12 (level Armed true)) 11 (level Disarmed true)
  -- arm, of levels that are disarmed and disabled
  pub arm : write_levels 0x0201 named (replicate 16 (level Disarmed false))
      ≡ level Disarmed false ∷ level Armed false ∷ level Disarmed false ∷ level Armed false ∷ slice_set (replicate 12 (level Disarmed false)) 11 (level Armed false)
  -- disable, of levels that are active and enabled
  pub disable : write_levels 0x0202 named (replicate 16 (level Active true))
      ≡ level Active true ∷ level Active false ∷ level Active true ∷ level Active false ∷ slice_set (replicate 12 (level Active true)) 11 (level Active false)
  -- enable, of levels that are disarmed and disabled
  pub enable : write_levels 0x0203 named (replicate 16 (level Disarmed false))
      ≡ level Disarmed false ∷ level Disarmed true ∷ level Disarmed false ∷ level Disarmed true ∷ slice_set (replicate 12 (level Disarmed false)) 11 (level Disarmed true)
  -- trigger, of levels that are armed, also where they are disabled
  pub trigger : write_levels 0x0204 named (replicate 16 (level Armed false))
      ≡ level Armed false ∷ level Waiting false ∷ level Armed false ∷ level Waiting false ∷ slice_set (replicate 12 (level Armed false)) 11 (level Waiting false)
