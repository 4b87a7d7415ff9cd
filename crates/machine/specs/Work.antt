-- What instructions make of the registers, O and C. P is already the address of the next instruction.
use Rattle.std.specs.Prelude.{ℕ, ◌+◌, ◌-◌, Bool, cond, not, ◌&&◌, ◌||◌, ◌==◌, bit_and, bit_or, bit_xor, nat_le, slice_index}
use Rattle.machine.specs.declared.instruction.Condition.{Condition}
use Rattle.machine.specs.declared.instruction.Condition.TheVariants.{Bno, Bnc, Baz, Bix, Bxno, Bxnc, Ben, Ban}
use Rattle.machine.specs.declared.instruction.Join.{Join}
use Rattle.machine.specs.declared.instruction.Join.TheVariants.{And, Or, ExclusiveOr, Add}
use Rattle.machine.specs.declared.instruction.Transfer.{Transfer}
use Rattle.machine.specs.declared.sum.Sum.{Sum}
use Rattle.machine.specs.declared.work.Work.{Work}
use Rattle.levels.specs.Bits.{one}
use Rattle.machine.specs.Arithmetic.{added}
use Rattle.machine.specs.State.{put_after, registers}
use Rattle.machine.specs.Words.{word}

-- P set
abbrev pub set_p : ℕ → Work → Work
set_p n v = record { p = n; l = v.l; t = v.t; x1 = v.x1; x2 = v.x2; e = v.e; a = v.a; o = v.o; c = v.c }

-- X1 set
abbrev pub set_x1 : ℕ → Work → Work
set_x1 n v = record { p = v.p; l = v.l; t = v.t; x1 = n; x2 = v.x2; e = v.e; a = v.a; o = v.o; c = v.c }

-- A set
abbrev pub set_a : ℕ → Work → Work
set_a n v = record { p = v.p; l = v.l; t = v.t; x1 = v.x1; x2 = v.x2; e = v.e; a = n; o = v.o; c = v.c }

-- O and C set
abbrev pub set_oc : Bool → Bool → Work → Work
set_oc o c v = record { p = v.p; l = v.l; t = v.t; x1 = v.x1; x2 = v.x2; e = v.e; a = v.a; o = o; c = c }

-- O and C set by a sum or a difference
abbrev pub flagged : Sum → Work → Work
flagged s v = set_oc s.overflow s.carry v

-- register n, 0 to 7, of which Z reads as 0
abbrev pub register : ℕ → Work → ℕ
register n v = slice_index (registers v) n

-- a branch to t where the test holds
abbrev pub jump_if : Bool → ℕ → Work → Work
jump_if test t v = cond test (set_p t v) v

-- X1 counted up, and a branch to t where it is then not 0
abbrev pub count_branch : ℕ → Work → Work
count_branch t v = jump_if (not (word (v.x1 + 1) == 0)) t (set_x1 (word (v.x1 + 1)) v)

-- the eight branches
abbrev pub branched : Condition → ℕ → Work → Work
branched Bno t v = jump_if (not v.o) t v
branched Bnc t v = jump_if (not v.c) t v
branched Baz t v = jump_if (v.a == 0) t v
branched Bix t v = count_branch t v
branched Bxno t v = cond v.o v (count_branch t v)
branched Bxnc t v = cond v.c v (count_branch t v)
branched Ben t v = jump_if (nat_le 32768 v.e) t v
branched Ban t v = jump_if (nat_le 32768 v.a) t v

-- the source of a copy, inverted where V is 1
abbrev pub source : Transfer → Work → ℕ
source x v = cond x.invert (65535 - register x.source v) (register x.source v)

-- the destination's old value, which counts as 0 where N is 1
abbrev pub old : Transfer → Work → ℕ
old x v = cond x.clear 0 (register x.destination v)

-- whether a copy adds 1: J is 1, or K and C are
abbrev pub plus : Transfer → Work → Bool
plus x v = x.plus_one || (x.carry && v.c)

-- the destination n after a copy of y and x; only an addition sets O and C
abbrev pub joined : Join → ℕ → ℕ → ℕ → Bool → Work → Work
joined And n y x i v = put_after n (word (bit_and y x + one i)) v
joined Or n y x i v = put_after n (word (bit_or y x + one i)) v
joined ExclusiveOr n y x i v = put_after n (word (bit_xor y x + one i)) v
joined Add n y x i v = flagged (added y x i) (put_after n (added y x i).word v)

-- a copy
abbrev pub copied : Transfer → Work → Work
copied x v = joined x.join x.destination (old x v) (source x v) (plus x v) v
