-- Instruction words: their fields, the effective address, and the instruction.
use Rattle.std.specs.Prelude.{ℕ, ◌+◌, ◌-◌, ◌/◌, ◌%◌, Bool, cond, ◌&&◌, ◌||◌, List, ◌==◌, nat_le, nat_lt}
use Rattle.machine.specs.declared.instruction.Condition.{Condition}
use Rattle.machine.specs.declared.instruction.Condition.TheVariants.{Bno, Bnc, Baz, Bix, Bxno, Bxnc, Ben, Ban}
use Rattle.machine.specs.declared.instruction.Join.{Join}
use Rattle.machine.specs.declared.instruction.Join.TheVariants.{And as AndJoin, Or, ExclusiveOr, Add as AddJoin}
use Rattle.machine.specs.declared.instruction.Transfer.{Transfer}
use Rattle.levels.specs.declared.level.LevelControl.TheVariants.{Disarm, Arm, Disable, Enable, Trigger}
use Rattle.machine.specs.declared.instruction.ReadFunction.{ReadFunction}
use Rattle.machine.specs.declared.instruction.ReadFunction.TheVariants.{Protection as ReadProtection, Status, Levels as ReadLevels, Unlisted as NoRead}
use Rattle.machine.specs.declared.instruction.WriteFunction.{WriteFunction}
use Rattle.machine.specs.declared.instruction.WriteFunction.TheVariants.{Protection as WriteProtection, Inhibits, Wait, Exit, Levels, Unlisted as NoWrite}
use Rattle.machine.specs.declared.instruction.Instruction.{Instruction}
use Rattle.machine.specs.declared.instruction.Instruction.TheVariants.{Lda, And, Add, Sub, Ldx, Sta, Im, B, Branch, Copy, ReadRegister, WriteRegister, Read, Write, NotCarried}
use Rattle.levels.specs.declared.level.Property.TheVariants.{Enabled, Waiting, Active}
use Rattle.machine.specs.declared.work.Work.{Work}
use Rattle.levels.specs.Bits.{bit}
use Rattle.machine.specs.Words.{read, word}

-- bits 0 to 3
abbrev pub code : ℕ → ℕ
code w = w / 4096

-- the displacement D, bits 8 to 15
abbrev pub displacement : ℕ → ℕ
displacement w = w % 256

-- i + D - 256 S, where S is bit 7
abbrev pub relative : ℕ → ℕ → ℕ
relative i w = word (i + displacement w + cond (bit w 7) 65280 0)

-- the reference: relative where R (bit 4) is 1, otherwise D, plus X2 where S is 1
abbrev pub reference : ℕ → Work → ℕ → ℕ
reference i v w = cond (bit w 4) (relative i w) (cond (bit w 7) (word (displacement w + v.x2)) (displacement w))

-- the effective address: I (bit 5) replaces the reference by the word there, then X (bit 6) adds X1
abbrev pub effective : ℕ → Work → List ℕ → ℕ → ℕ
effective i v ws w =
    let a : ℕ = reference i v w in
    let b : ℕ = cond (bit w 5) (read ws a) a in
    cond (bit w 6) (word (b + v.x1)) b

-- codes 0, 1, 4, 8 to 12, 14 and 15 have an effective address
abbrev pub has_address : ℕ → Bool
has_address w = nat_lt (code w) 2 || (code w == 4 || ((nat_le 8 (code w) && nat_lt (code w) 13) || nat_le 14 (code w)))

-- the effective address, for the codes that have one
abbrev pub address : ℕ → Work → List ℕ → ℕ → ℕ
address i v ws w = cond (has_address w) (effective i v ws w) 0

-- the condition of a branch, by bits 4 to 6
abbrev pub condition : ℕ → Condition
condition n =
    cond (n == 0) Bno (cond (n == 1) Bnc (cond (n == 2) Baz (cond (n == 3) Bix
    (cond (n == 4) Bxno (cond (n == 5) Bxnc (cond (n == 6) Ben Ban))))))

-- how a copy joins, by bits 4 and 5
abbrev pub join : ℕ → Join
join n = cond (n == 0) AndJoin (cond (n == 1) Or (cond (n == 2) ExclusiveOr AddJoin))

-- the fields of a copy: K, J, N, the destination, V and the source
abbrev pub transferred : Join → ℕ → Transfer
transferred j w = record {
  join = j;
  carry = bit w 6;
  plus_one = bit w 7;
  clear = bit w 8;
  destination = w / 16 % 8;
  invert = bit w 12;
  source = w % 8;
}

-- the function of RD that an address in a mode names: what is not listed is a function too
abbrev pub rd_function : ℕ → ℕ → ReadFunction
rd_function mode f =
    cond (mode == 0 && (nat_le 0x010 f && nat_le f 0x01f)) (ReadProtection (f - 0x010))
    (cond (mode == 0 && f == 0x020) Status
    (cond (mode == 1 && f == 0) (ReadLevels Enabled)
    (cond (mode == 1 && f == 1) (ReadLevels Waiting)
    (cond (mode == 1 && f == 2) (ReadLevels Active) NoRead))))

-- the function of WD
abbrev pub wd_function : ℕ → ℕ → WriteFunction
wd_function mode f =
    cond (mode == 0 && (nat_le 0x010 f && nat_le f 0x01f)) (WriteProtection (f - 0x010))
    (cond (mode == 0 && f == 0x020) Inhibits
    (cond (mode == 0 && f == 0x030) Wait
    (cond (mode == 0 && f == 0x031) Exit
    (cond (mode == 1 && f == 0) (Levels Disarm)
    (cond (mode == 1 && f == 1) (Levels Arm)
    (cond (mode == 1 && f == 2) (Levels Disable)
    (cond (mode == 1 && f == 3) (Levels Enable)
    (cond (mode == 1 && f == 4) (Levels Trigger) NoWrite))))))))

-- whether an address names a register: mode 0, functions 0 to 7
abbrev pub names_register : ℕ → Bool
names_register ea = ea / 4096 == 0 && nat_le (ea % 4096) 7

-- RD: its mode is bits 0 to 3 of the effective address, and its function the rest
abbrev pub read_direct : ℕ → Instruction
read_direct ea = cond (names_register ea) (ReadRegister (ea % 4096)) (Read (rd_function (ea / 4096) (ea % 4096)) ea)

-- WD, by the same fields
abbrev pub write_direct : ℕ → Instruction
write_direct ea = cond (names_register ea) (WriteRegister (ea % 4096)) (Write (wd_function (ea / 4096) (ea % 4096)) ea)

-- the instruction of a word, its effective address and the target of a branch
abbrev pub decoded : ℕ → ℕ → ℕ → Instruction
decoded w ea target =
    cond (code w == 0) (write_direct ea)
    (cond (code w == 1) (read_direct ea)
    (cond (code w == 4) (B ea)
    (cond (code w == 6) (Branch (condition (w / 512 % 8)) target)
    (cond (code w == 7) (Copy (transferred (join (w / 1024 % 4)) w))
    (cond (code w == 8) (Lda ea)
    (cond (code w == 9) (And ea)
    (cond (code w == 10) (Add ea)
    (cond (code w == 11) (Sub ea)
    (cond (code w == 12) (Ldx ea)
    (cond (code w == 14) (Sta ea)
    (cond (code w == 15) (Im ea) NotCarried)))))))))))
