-- Worked cases of levels, entries and exits.
use Rattle.std.specs.Prelude.{◌≡◌, ℕ, ◌+◌, ◌*◌, Bool, true, false, List, [], ◌∷◌, ◌++◌, map, replicate, Some, None, Option, slice_set}
use Rattle.std.specs.List.{range_with_len}
use Rattle.levels.specs.declared.level.Event.{Event}
use Rattle.levels.specs.declared.level.Event.TheVariants.{Disarm, Arm, Trigger, Enter, Exit as Leave, Violate}
use Rattle.levels.specs.declared.level.Level.{Level}
use Rattle.levels.specs.declared.level.LevelState.{LevelState}
use Rattle.levels.specs.declared.level.LevelState.TheVariants.{Disarmed, Armed, Waiting, Active}
use Rattle.levels.specs.Bits.{one}
use Rattle.levels.specs.Levels.{next_state, preset}
use Rattle.machine.specs.declared.call.Outcome.TheVariants.{Entered, Done}
use Rattle.machine.specs.declared.state.Mark.{Mark}
use Rattle.machine.specs.declared.state.Mark.TheVariants.{Unset, Wait, Exit}
use Rattle.machine.specs.State.{Guard, Machine, with_level}
use Rattle.machine.specs.Step.{due, step}
use Rattle.worked.specs.Settings.{guarded, level, machine, only, registers_of, resting, shown, stepped, words_with, zeros}

-- what an event makes of a level that is disarmed, armed, waiting, active
abbrev pub row : Event → List LevelState
row e = map (λ (s : LevelState). next_state s e) (Disarmed ∷ Armed ∷ Waiting ∷ Active ∷ [])

-- the level that enters where level k alone waits, enabled, by II and EI
abbrev pub alone : Bool → Bool → ℕ → Option ℕ
alone ii ei k = due Unset (guarded ii ei (only k (level Waiting true)))

-- levels of which two are given
abbrev pub two : ℕ → Level → ℕ → Level → List Level
two j l k r = slice_set (only j l) k r

-- which level enters
pub record Levels : Type 0 where
  -- disarm: armed and waiting become disarmed
  pub disarm : row Disarm ≡ Disarmed ∷ Disarmed ∷ Disarmed ∷ Active ∷ []
  -- arm: disarmed becomes armed
  pub arm : row Arm ≡ Armed ∷ Armed ∷ Waiting ∷ Active ∷ []
  -- trigger: armed becomes waiting
  pub trigger : row Trigger ≡ Disarmed ∷ Waiting ∷ Waiting ∷ Active ∷ []
  -- entry: waiting becomes active
  pub entry : row Enter ≡ Disarmed ∷ Armed ∷ Active ∷ Active ∷ []
  -- exit: active becomes armed
  pub exit : row Leave ≡ Disarmed ∷ Armed ∷ Waiting ∷ Armed ∷ []
  -- violation: all but active become waiting
  pub violation : row Violate ≡ Waiting ∷ Waiting ∷ Waiting ∷ Active ∷ []
  -- the records that an image numbers 0, 1 and 2
  pub presets : map preset (0 ∷ 1 ∷ 2 ∷ []) ≡ level Disarmed false ∷ level Armed false ∷ level Armed true ∷ []
  -- a record set by an image leaves the other levels' records
  pub set_by_image : (with_level 3 (level Armed true) (machine false true Unset (registers_of 4 7 false false) (guarded true false resting) []).cpu).guard
      ≡ guarded true false (two 0 (level Armed true) 3 (level Armed true))
  -- with no inhibit every level enters
  pub all_enter : map (alone false false) (range_with_len 0 16) ≡ map Some (range_with_len 0 16)
  -- II inhibits levels 2 to 7
  pub under_ii : map (alone true false) (range_with_len 0 16) ≡ Some 0 ∷ Some 1 ∷ (replicate 6 None ++ map Some (range_with_len 8 8))
  -- EI inhibits levels 8 to 15
  pub under_ei : map (alone false true) (range_with_len 0 16) ≡ map Some (range_with_len 0 8) ++ replicate 8 None
  -- and II and EI together inhibit levels 2 to 15
  pub under_both : map (alone true true) (range_with_len 0 16) ≡ Some 0 ∷ Some 1 ∷ replicate 14 None
  -- no level enters under the exit mark
  pub under_exit : due Exit (guarded false false (only 3 (level Waiting true))) ≡ None
  -- and each does under the wait mark
  pub under_wait : map (λ (k : ℕ). due Wait (guarded false false (only k (level Waiting true)))) (range_with_len 0 16) ≡ map Some (range_with_len 0 16)
  -- a disabled level does not enter
  pub disabled : due Unset (guarded false false (only 3 (level Waiting false))) ≡ None
  -- an armed level does not enter
  pub armed : due Unset (guarded false false (only 3 (level Armed true))) ≡ None
  -- of two levels the lower enters
  pub lower : due Unset (guarded false false (two 3 (level Waiting true) 9 (level Waiting true))) ≡ Some 3
  -- an active level blocks those above it, enabled or not
  pub blocked : due Unset (guarded false false (two 3 (level Active false) 9 (level Waiting true))) ≡ None
  -- and not those below it
  pub unblocked : due Unset (guarded false false (two 3 (level Waiting true) 9 (level Active true))) ≡ Some 3
  -- an inhibited active level does not block
  pub inhibited : due Unset (guarded true false (two 3 (level Active true) 9 (level Waiting true))) ≡ Some 9

-- ENTRY

-- a machine in the background, whose level 3 waits, enabled, and whose cell of level 3 holds q; O and EI are 1
abbrev pub interrupted : Mark → ℕ → Machine
interrupted mark q = machine true false mark (registers_of 4 7 true false) (guarded false true (only 3 (level Waiting true))) (words_with ((0x0103, q) ∷ (0x0300, 0x8010) ∷ []))

-- what an entry stores and leaves
pub record Entries : Type 0 where
  -- the step is the entry of level 3
  pub entered : (step (interrupted Unset 0x0310)).outcome ≡ Entered 3
  -- the status word and P are stored at q and q + 1, and nothing else is
  pub words : (stepped (interrupted Unset 0x0310)).words ≡ words_with ((0x0310, 0x0006) ∷ (0x0311, 0x0300) ∷ (0x0103, 0x0310) ∷ (0x0300, 0x8010) ∷ [])
  -- P is q + 2, and all other registers, O and C stay
  pub registers : shown (interrupted Unset 0x0310) ≡ 0x0312 ∷ 2 ∷ 3 ∷ 4 ∷ 5 ∷ 0x8006 ∷ 7 ∷ 1 ∷ 0 ∷ []
  -- PP is 1
  pub protect : (stepped (interrupted Unset 0x0310)).cpu.pp ≡ true
  -- the level is active, and the guard else as it was
  pub active : (stepped (interrupted Unset 0x0310)).cpu.guard ≡ guarded false true (only 3 (level Active true))
  -- the last address stays
  pub last : (stepped (interrupted Unset 0x0310)).cpu.last ≡ 0x0042
  -- an entry comes before idle, and clears the wait mark
  pub from_wait : (step (interrupted Wait 0x0310)).outcome ≡ Entered 3
  pub wait_cleared : (stepped (interrupted Wait 0x0310)).cpu.mark ≡ Unset
  -- under the exit mark the instruction at P is done
  pub under_exit : (step (interrupted Exit 0x0310)).outcome ≡ Done
  -- a cell that holds its own address is read before the status word is stored into it
  pub own_cell : shown (interrupted Unset 0x0103) ≡ 0x0105 ∷ 2 ∷ 3 ∷ 4 ∷ 5 ∷ 0x8006 ∷ 7 ∷ 1 ∷ 0 ∷ []
  pub own_words : (stepped (interrupted Unset 0x0103)).words ≡ words_with ((0x0103, 0x0006) ∷ (0x0104, 0x0300) ∷ (0x0300, 0x8010) ∷ [])
  -- q and q + 1 wrap: the first status word is lost, the second goes to 0, and P is 1
  pub wrapped : shown (interrupted Unset 0xffff) ≡ 0x0001 ∷ 2 ∷ 3 ∷ 4 ∷ 5 ∷ 0x8006 ∷ 7 ∷ 1 ∷ 0 ∷ []
  pub wrapped_words : (stepped (interrupted Unset 0xffff)).words ≡ words_with ((0x0000, 0x0300) ∷ (0x0103, 0xffff) ∷ (0x0300, 0x8010) ∷ [])
  -- the status word has PP as it was before the entry
  pub from_protected : (stepped (machine false true Unset (registers_of 4 7 false true) (guarded true false (only 0 (level Waiting true))) (words_with ((0x0100, 0x0310) ∷ [])))).words
      ≡ words_with ((0x0310, 0x0019) ∷ (0x0311, 0x0300) ∷ (0x0100, 0x0310) ∷ [])

-- EXIT

-- a machine in a protected page 2, under a mark, with an LDX at 0x0200 of the status words x and p at 0x0020; levels 3 and 9 are active and 5 waits
abbrev pub leaving : Bool → Mark → ℕ → ℕ → Machine
leaving switch mark x p = machine switch true mark (record { p = 0x0200; l = 2; t = 3; x1 = 4; x2 = 5; e = 6; a = 7; o = false; c = false })
    (guarded false false (slice_set (two 3 (level Active true) 9 (level Active true)) 5 (level Waiting true))) (words_with ((0x0200, 0xc020) ∷ (0x0020, x) ∷ (0x0021, p) ∷ []))

-- the guard after that exit
abbrev pub guard_after : ℕ → Guard
guard_after x = (stepped (leaving true Exit x 0x0123)).cpu.guard

-- the levels after it: level 3 is armed
abbrev pub left : List Level
left = slice_set (two 3 (level Armed true) 9 (level Active true)) 5 (level Waiting true)

-- the guard after an exit in the protected page 2 by the first status word x, from the switch, II, EI and levels given
abbrev pub guard_after_exit : Bool → Bool → Bool → ℕ → List Level → Guard
guard_after_exit switch ii ei x ls = (stepped (machine switch true Exit (zeros 0x0200) (guarded ii ei ls) (words_with ((0x0200, 0xc020) ∷ (0x0020, x) ∷ [])))).cpu.guard

-- the levels after such an exit, with the switch on, that loads II and EI as they are
abbrev pub levels_after_exit : Bool → Bool → List Level → List Level
levels_after_exit ii ei ls = (guard_after_exit true ii ei (one ii * 8 + one ei * 4) ls).levels

-- levels j and k are active
abbrev pub both : ℕ → ℕ → List Level
both j k = two j (level Active true) k (level Active true)

-- the same after the exit of level j
abbrev pub first_cleared : ℕ → ℕ → List Level
first_cleared j k = two j (level Armed true) k (level Active true)

-- and after that of level k
abbrev pub second_cleared : ℕ → ℕ → List Level
second_cleared j k = two j (level Active true) k (level Armed true)

-- what an exit loads and leaves
pub record Exits : Type 0 where
  -- P, O and C are loaded, and X1 is not
  pub o_and_p : shown (leaving true Exit 0x0002 0x0123) ≡ 0x0123 ∷ 2 ∷ 3 ∷ 4 ∷ 5 ∷ 6 ∷ 7 ∷ 1 ∷ 0 ∷ []
  pub c_and_p : shown (leaving true Exit 0x0001 0x0123) ≡ 0x0123 ∷ 2 ∷ 3 ∷ 4 ∷ 5 ∷ 6 ∷ 7 ∷ 0 ∷ 1 ∷ []
  -- II and EI are loaded; with both 0 before, the lowest active level becomes armed, and the others stay
  pub inhibit_ii : guard_after 0x0008 ≡ guarded true false left
  pub inhibit_ei : guard_after 0x0004 ≡ guarded false true left
  -- PP is loaded with the switch on
  pub protect : (stepped (leaving true Exit 0x0010 0x0123)).cpu.pp ≡ true
  pub unprotect : (stepped (leaving true Exit 0xffef 0x0123)).cpu.pp ≡ false
  -- with the switch off PP stays 1
  pub switch_off : (stepped (leaving false Exit 0 0x0123)).cpu.pp ≡ true
  -- the exit mark is cleared, and the last address is the LDX's
  pub mark : (stepped (leaving true Exit 0 0x0123)).cpu.mark ≡ Unset
  pub last : (stepped (leaving true Exit 0 0x0123)).cpu.last ≡ 0x0200
  -- an exit changes no word
  pub words : (stepped (leaving true Exit 0 0x0123)).words ≡ (leaving true Exit 0 0x0123).words
  -- without the exit mark LDX loads X1 alone
  pub no_mark : shown (leaving true Unset 0x0002 0x0123) ≡ 0x0201 ∷ 2 ∷ 3 ∷ 0x0002 ∷ 5 ∷ 6 ∷ 7 ∷ 0 ∷ 0 ∷ []
  pub no_mark_guard : (stepped (leaving true Unset 0x000e 0x0123)).cpu.guard ≡ (leaving true Unset 0x000e 0x0123).cpu.guard
  -- and so it does in an unprotected page with the switch on, also where PP was 1 before the fetch
  pub unprotected : shown (machine true true Exit (registers_of 4 7 false false) (guarded false false (only 3 (level Active true))) (words_with ((0x0300, 0xc020) ∷ (0x0020, 0x0002) ∷ [])))
      ≡ 0x0301 ∷ 2 ∷ 3 ∷ 2 ∷ 5 ∷ 0x8006 ∷ 7 ∷ 0 ∷ 0 ∷ []
  -- the second status word after 0xFFFF is at 0
  pub wrapped : shown (machine false true Exit (registers_of 0xffff 7 false false) (guarded false false resting) (words_with ((0x0300, 0xc200) ∷ (0, 0x0123) ∷ [])))
      ≡ 0x0123 ∷ 2 ∷ 3 ∷ 0xffff ∷ 5 ∷ 0x8006 ∷ 7 ∷ 0 ∷ 0 ∷ []
  -- any instruction clears the exit mark
  pub cleared : (stepped (machine false true Exit (registers_of 4 7 false false) (guarded false false resting) (words_with ((0x0300, 0x8010) ∷ [])))).cpu.mark ≡ Unset
  -- the only active level exits, also where II or EI inhibits it
  pub each_exits : map (λ (k : ℕ). levels_after_exit false false (only k (level Active true))) (range_with_len 0 16) ≡ map (λ (k : ℕ). only k (level Armed true)) (range_with_len 0 16)
  pub each_inhibited_exits : map (λ (k : ℕ). levels_after_exit true true (only k (level Active true))) (range_with_len 0 16) ≡ map (λ (k : ℕ). only k (level Armed true)) (range_with_len 0 16)
  -- under II an active level of 2 to 7 stays so, and one of 8 to 15 exits, the lowest of them
  pub past_internal : map (λ (k : ℕ). levels_after_exit true false (both k 8)) (range_with_len 2 6) ≡ map (λ (k : ℕ). second_cleared k 8) (range_with_len 2 6)
  pub to_external : map (λ (k : ℕ). levels_after_exit true false (both 7 k)) (range_with_len 8 8) ≡ map (λ (k : ℕ). second_cleared 7 k) (range_with_len 8 8)
  pub lowest_external : levels_after_exit true false (slice_set (both 9 12) 3 (level Active true)) ≡ slice_set (first_cleared 9 12) 3 (level Active true)
  -- so it is with the switch off
  pub past_internal_switch_off : (guard_after_exit false true false 0x0008 (both 3 9)).levels ≡ second_cleared 3 9
  -- levels 0 and 1 are not inhibited
  pub zero_exits : levels_after_exit true false (both 0 9) ≡ first_cleared 0 9
  pub one_exits : levels_after_exit true false (both 1 9) ≡ first_cleared 1 9
  -- where every active level is inhibited, and where none is, the lowest exits
  pub both_inhibit : levels_after_exit true true (both 3 9) ≡ first_cleared 3 9
  pub ii_inhibits : levels_after_exit true false (both 3 5) ≡ first_cleared 3 5
  pub ei_inhibits : levels_after_exit false true (both 9 12) ≡ first_cleared 9 12
  pub none_inhibits : map (λ (k : ℕ). levels_after_exit false false (both 3 k)) (range_with_len 4 12) ≡ map (λ (k : ℕ). first_cleared 3 k) (range_with_len 4 12)
  -- and where EI inhibits the upper one alone
  pub below_external : levels_after_exit false true (both 7 8) ≡ first_cleared 7 8
  -- a first status word that sets or clears II or EI does so after the level was chosen
  pub sets_ii : guard_after_exit true false false 0x0008 (both 3 9) ≡ guarded true false (first_cleared 3 9)
  pub clears_ii : guard_after_exit true true false 0 (both 3 9) ≡ guarded false false (second_cleared 3 9)
  pub sets_ei : guard_after_exit true true false 0x000c (both 3 9) ≡ guarded true true (second_cleared 3 9)
  pub clears_ei : guard_after_exit true true true 0x0008 (both 3 9) ≡ guarded true false (first_cleared 3 9)
  -- where none is active all stay
  pub none_exits : levels_after_exit false false (two 3 (level Waiting true) 9 (level Disarmed false)) ≡ two 3 (level Waiting true) 9 (level Disarmed false)
