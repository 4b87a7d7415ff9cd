-- The machines that the worked cases start from.
use Rattle.std.specs.Prelude.{ℕ, Bool, true, false, cond, List, [], ◌∷◌, replicate, None, slice_set}
use Rattle.std.specs.List.{range_with_len}
use Rattle.levels.specs.declared.level.Level.{Level}
use Rattle.levels.specs.declared.level.LevelState.{LevelState}
use Rattle.levels.specs.declared.level.LevelState.TheVariants.{Disarmed, Armed}
use Rattle.machine.specs.declared.state.Mark.{Mark}
use Rattle.machine.specs.declared.state.Mark.TheVariants.{Unset}
use Rattle.machine.specs.declared.work.Work.{Work}
use Rattle.machine.specs.State.{Guard, Machine}
use Rattle.machine.specs.Step.{step}

-- what a panel shows: P, L, T, X1, X2, E, A, O and C
abbrev pub panel : Work → List ℕ
panel v = v.p ∷ v.l ∷ v.t ∷ v.x1 ∷ v.x2 ∷ v.e ∷ v.a ∷ cond v.o 1 0 ∷ cond v.c 1 0 ∷ []

-- registers with P 0x0300, L 2, T 3, X2 5 and E 0x8006, and X1, A, O and C as given
abbrev pub registers_of : ℕ → ℕ → Bool → Bool → Work
registers_of x1 a o c = record { p = 0x0300; l = 2; t = 3; x1 = x1; x2 = 5; e = 0x8006; a = a; o = o; c = c }

-- registers that are all 0 but P
abbrev pub zeros : ℕ → Work
zeros p = record { p = p; l = 0; t = 0; x1 = 0; x2 = 0; e = 0; a = 0; o = false; c = false }

-- 0x0320 words, all 0 but those of the pairs of an address and a word: fewer than a memory has, since the meaning is of any number of
-- words and the cases are computed
abbrev pub words_with : List (ℕ × ℕ) → List ℕ
words_with [] = replicate 0x0320 0
words_with (x ∷ xs) = slice_set (words_with xs) x.0 x.1

-- a level's record
abbrev pub level : LevelState → Bool → Level
level s e = record { state = s; enabled = e }

-- levels that are all disarmed and disabled but level k
abbrev pub only : ℕ → Level → List Level
only k l = slice_set (replicate 16 (level Disarmed false)) k l

-- levels of which level 0 is armed and enabled, and the others are disarmed and disabled
abbrev pub resting : List Level
resting = only 0 (level Armed true)

-- a guard with those inhibits and levels, whose protection registers are 0x2000, which protects page 2, and 1 to 15
abbrev pub guarded : Bool → Bool → List Level → Guard
guarded ii ei ls = record { protection = 0x2000 ∷ range_with_len 1 15; ii = ii; ei = ei; levels = ls }

-- a machine by its switch, PP, mark, registers, guard and words; its last address is 0x0042
abbrev pub machine : Bool → Bool → Mark → Work → Guard → List ℕ → Machine
machine switch pp mark v g ws = record {
  cpu = record { work = v; guard = g; pp = pp; mark = mark; last = 0x0042; violation = None; switch = switch };
  words = ws;
}

-- with the switch off, the instruction w at 0x0300, and other words
abbrev pub free : Work → ℕ → List (ℕ × ℕ) → Machine
free v w xs = machine false true Unset v (guarded false false resting) (words_with ((0x0300, w) ∷ xs))

-- the same in the background, with the switch on
abbrev pub background : Work → ℕ → List (ℕ × ℕ) → Machine
background v w xs = machine true false Unset v (guarded false false resting) (words_with ((0x0300, w) ∷ xs))

-- the machine after a step
abbrev pub stepped : Machine → Machine
stepped m = (step m).after

-- what the panel shows after a step
abbrev pub shown : Machine → List ℕ
shown m = panel (stepped m).cpu.work
