-- Worked cases of addresses, instructions, branches and copies.
use Rattle.std.specs.Prelude.{◌≡◌, ℕ, ◌+◌, ◌*◌, Bool, true, false, List, [], ◌∷◌, map}
use Rattle.std.specs.List.{range_with_len}
use Rattle.machine.specs.declared.call.Outcome.{Outcome}
use Rattle.machine.specs.declared.call.Outcome.TheVariants.{NotCarried, Done}
use Rattle.machine.specs.declared.state.Mark.TheVariants.{Unset}
use Rattle.machine.specs.declared.work.Work.{Work}
use Rattle.machine.specs.Decode.{effective, has_address}
use Rattle.machine.specs.Step.{step}
use Rattle.worked.specs.Settings.{free, guarded, machine, registers_of, resting, shown, stepped, words_with, zeros}

-- ADDRESSES

-- X1 is 0x0030 and X2 is 0x0020
abbrev pub indexed : Work
indexed = record { p = 0; l = 0; t = 0; x1 = 0x0030; x2 = 0x0020; e = 0; a = 0; o = false; c = false }

-- X1 and X2 are 0xFFFF
abbrev pub wrapping : Work
wrapping = record { p = 0; l = 0; t = 0; x1 = 0xffff; x2 = 0xffff; e = 0; a = 0; o = false; c = false }

-- words that indirect addresses are read from
abbrev pub pointers : List ℕ
pointers = words_with ((0x0012, 0x0040) ∷ (0x0032, 0x0060) ∷ (0x0042, 0x0050) ∷ (0x0212, 0x0070) ∷ [])

-- the effective address of a word at 0x0200
abbrev pub address_of : ℕ → ℕ
address_of w = effective 0x0200 indexed pointers w

-- what the fields of an instruction word make of the effective address
pub record Addresses : Type 0 where
  -- D alone
  pub direct : address_of 0x8012 ≡ 0x0012
  -- all eight bits of D
  pub long : address_of 0x80f2 ≡ 0x00f2
  -- S adds X2
  pub based : address_of 0x8112 ≡ 0x0032
  -- R adds the instruction's address
  pub relative : address_of 0x8812 ≡ 0x0212
  pub relative_far : address_of 0x88f2 ≡ 0x02f2
  -- R and S go backwards
  pub backward : address_of 0x8912 ≡ 0x0112
  -- I takes the word there
  pub indirect : address_of 0x8412 ≡ 0x0040
  pub based_indirect : address_of 0x8512 ≡ 0x0060
  pub relative_indirect : address_of 0x8c12 ≡ 0x0070
  -- X adds X1
  pub indexing : address_of 0x8212 ≡ 0x0042
  -- X1 is added after the indirect word is read
  pub indirect_indexed : address_of 0x8612 ≡ 0x0070
  -- an indirect word that is absent is 0
  pub absent : effective 0x7000 indexed pointers 0x8c00 ≡ 0
  -- every address wraps
  pub base_wraps : effective 0x0200 wrapping pointers 0x8112 ≡ 0x0011
  pub index_wraps : effective 0x0200 wrapping pointers 0x8212 ≡ 0x0011
  pub backward_wraps : effective 0 wrapping pointers 0x8900 ≡ 0xff00
  pub forward_wraps : effective 0xfff0 wrapping pointers 0x8820 ≡ 0x0010
  -- codes 0, 1, 4, 8 to 12, 14 and 15 have an effective address
  pub codes : map (λ (k : ℕ). has_address (k * 4096)) (range_with_len 0 16)
      ≡ true ∷ true ∷ false ∷ false ∷ true ∷ false ∷ false ∷ false ∷ true ∷ true ∷ true ∷ true ∷ true ∷ false ∷ true ∷ true ∷ []

-- INSTRUCTIONS

-- the panel after the instruction w with A a, O and C set, where 0x0010 holds x
abbrev pub with_word : ℕ → ℕ → ℕ → List ℕ
with_word w a x = shown (free (registers_of 4 a true true) w ((0x0010, x) ∷ []))

-- the same with O and C clear
abbrev pub with_clear : ℕ → ℕ → ℕ → List ℕ
with_clear w a x = shown (free (registers_of 4 a false false) w ((0x0010, x) ∷ []))

-- the words after the instruction w with A 0x7123, where 0x0010 holds x
abbrev pub words_after : ℕ → ℕ → List ℕ
words_after w x = (stepped (free (registers_of 4 0x7123 true true) w ((0x0010, x) ∷ []))).words

-- what a step of the instruction w is, and the last address after it
abbrev pub outcome_of : ℕ → Outcome
outcome_of w = (step (free (registers_of 4 0x7123 true true) w [])).outcome

abbrev pub last_after : ℕ → ℕ
last_after w = (stepped (free (registers_of 4 0x7123 true true) w [])).cpu.last

-- what each code leaves in the registers and in memory
pub record Instructions : Type 0 where
  -- LDA loads A and leaves all else but P
  pub lda : with_word 0x8010 7 0x1234 ≡ 0x0301 ∷ 2 ∷ 3 ∷ 4 ∷ 5 ∷ 0x8006 ∷ 0x1234 ∷ 1 ∷ 1 ∷ []
  -- AND joins A and the word, and leaves O and C
  pub and : with_word 0x9010 0x0ff0 0x1234 ≡ 0x0301 ∷ 2 ∷ 3 ∷ 4 ∷ 5 ∷ 0x8006 ∷ 0x0230 ∷ 1 ∷ 1 ∷ []
  -- ADD sets O and C anew
  pub add : with_word 0xa010 0x0ff0 0x1234 ≡ 0x0301 ∷ 2 ∷ 3 ∷ 4 ∷ 5 ∷ 0x8006 ∷ 0x2224 ∷ 0 ∷ 0 ∷ []
  -- 32,767 + 1 overflows and does not carry
  pub add_over : with_clear 0xa010 0x7fff 1 ≡ 0x0301 ∷ 2 ∷ 3 ∷ 4 ∷ 5 ∷ 0x8006 ∷ 0x8000 ∷ 1 ∷ 0 ∷ []
  -- -1 + 1 carries and does not overflow
  pub add_carry : with_clear 0xa010 0xffff 1 ≡ 0x0301 ∷ 2 ∷ 3 ∷ 4 ∷ 5 ∷ 0x8006 ∷ 0 ∷ 0 ∷ 1 ∷ []
  -- -32,768 + -1 does both
  pub add_both : with_clear 0xa010 0x8000 0xffff ≡ 0x0301 ∷ 2 ∷ 3 ∷ 4 ∷ 5 ∷ 0x8006 ∷ 0x7fff ∷ 1 ∷ 1 ∷ []
  -- -32,768 + 0 does neither
  pub add_least : with_clear 0xa010 0x8000 0 ≡ 0x0301 ∷ 2 ∷ 3 ∷ 4 ∷ 5 ∷ 0x8006 ∷ 0x8000 ∷ 0 ∷ 0 ∷ []
  -- SUB sets O and C anew
  pub sub : with_word 0xb010 0x1234 0x0ff0 ≡ 0x0301 ∷ 2 ∷ 3 ∷ 4 ∷ 5 ∷ 0x8006 ∷ 0x0244 ∷ 0 ∷ 0 ∷ []
  -- -32,768 - 1 overflows and does not borrow
  pub sub_over : with_clear 0xb010 0x8000 1 ≡ 0x0301 ∷ 2 ∷ 3 ∷ 4 ∷ 5 ∷ 0x8006 ∷ 0x7fff ∷ 1 ∷ 0 ∷ []
  -- 32,767 - -1 does both
  pub sub_both : with_clear 0xb010 0x7fff 0xffff ≡ 0x0301 ∷ 2 ∷ 3 ∷ 4 ∷ 5 ∷ 0x8006 ∷ 0x8000 ∷ 1 ∷ 1 ∷ []
  -- -32,767 - 1 does neither
  pub sub_least : with_clear 0xb010 0x8001 1 ≡ 0x0301 ∷ 2 ∷ 3 ∷ 4 ∷ 5 ∷ 0x8006 ∷ 0x8000 ∷ 0 ∷ 0 ∷ []
  -- LDX loads X1
  pub ldx : with_word 0xc010 7 0x1234 ≡ 0x0301 ∷ 2 ∷ 3 ∷ 0x1234 ∷ 5 ∷ 0x8006 ∷ 7 ∷ 1 ∷ 1 ∷ []
  -- STA stores A in the word at its address, and changes no register but P
  pub sta : words_after 0xe010 0x1234 ≡ words_with ((0x0300, 0xe010) ∷ (0x0010, 0x7123) ∷ [])
  pub sta_registers : with_word 0xe010 7 0x1234 ≡ 0x0301 ∷ 2 ∷ 3 ∷ 4 ∷ 5 ∷ 0x8006 ∷ 7 ∷ 1 ∷ 1 ∷ []
  -- a store into an absent word is lost
  pub sta_lost : (stepped (free (registers_of 0xfff0 7 true true) 0xe200 [])).words ≡ words_with ((0x0300, 0xe200) ∷ [])
  -- IM adds 1 to the word, and sets O and C anew
  pub im : words_after 0xf010 0x1234 ≡ words_with ((0x0300, 0xf010) ∷ (0x0010, 0x1235) ∷ [])
  pub im_flags : with_word 0xf010 7 0x1234 ≡ 0x0301 ∷ 2 ∷ 3 ∷ 4 ∷ 5 ∷ 0x8006 ∷ 7 ∷ 0 ∷ 0 ∷ []
  -- IM of 32,767 overflows
  pub im_over : with_clear 0xf010 7 0x7fff ≡ 0x0301 ∷ 2 ∷ 3 ∷ 4 ∷ 5 ∷ 0x8006 ∷ 7 ∷ 1 ∷ 0 ∷ []
  -- IM of 0xFFFF stores 0 and carries
  pub im_wraps : words_after 0xf010 0xffff ≡ words_with ((0x0300, 0xf010) ∷ [])
  pub im_carry : with_clear 0xf010 7 0xffff ≡ 0x0301 ∷ 2 ∷ 3 ∷ 4 ∷ 5 ∷ 0x8006 ∷ 7 ∷ 0 ∷ 1 ∷ []
  -- B goes to its effective address
  pub b : with_word 0x4010 7 0x1234 ≡ 0x0010 ∷ 2 ∷ 3 ∷ 4 ∷ 5 ∷ 0x8006 ∷ 7 ∷ 1 ∷ 1 ∷ []
  -- B goes back by 0x80, indirect
  pub b_indirect : shown (free (registers_of 4 7 true true) 0x4d80 ((0x0280, 0x0123) ∷ [])) ≡ 0x0123 ∷ 2 ∷ 3 ∷ 4 ∷ 5 ∷ 0x8006 ∷ 7 ∷ 1 ∷ 1 ∷ []
  -- codes 2, 3, 5 and 13 are not carried, and the others are done
  pub carried : map (λ (k : ℕ). outcome_of (k * 4096)) (range_with_len 0 16)
      ≡ Done ∷ Done ∷ NotCarried ∷ NotCarried ∷ Done ∷ NotCarried ∷ Done ∷ Done ∷ Done ∷ Done ∷ Done ∷ Done ∷ Done ∷ NotCarried ∷ Done ∷ Done ∷ []
  -- a code that is not carried moves P alone
  pub not_carried : map (λ (k : ℕ). with_word (k * 4096 + 0x0010) 7 0x1234) (2 ∷ 3 ∷ 5 ∷ 13 ∷ [])
      ≡ (0x0301 ∷ 2 ∷ 3 ∷ 4 ∷ 5 ∷ 0x8006 ∷ 7 ∷ 1 ∷ 1 ∷ []) ∷ (0x0301 ∷ 2 ∷ 3 ∷ 4 ∷ 5 ∷ 0x8006 ∷ 7 ∷ 1 ∷ 1 ∷ []) ∷ (0x0301 ∷ 2 ∷ 3 ∷ 4 ∷ 5 ∷ 0x8006 ∷ 7 ∷ 1 ∷ 1 ∷ []) ∷ (0x0301 ∷ 2 ∷ 3 ∷ 4 ∷ 5 ∷ 0x8006 ∷ 7 ∷ 1 ∷ 1 ∷ []) ∷ []
  pub not_stored : words_after 0xd010 0x1234 ≡ words_with ((0x0300, 0xd010) ∷ (0x0010, 0x1234) ∷ [])
  -- the last address is that of the instruction, done or not carried
  pub last_done : last_after 0x8010 ≡ 0x0300
  pub last_branch : last_after 0x4010 ≡ 0x0300
  pub last_not_carried : last_after 0x2010 ≡ 0x0300
  -- after 0xFFFF comes 0
  pub p_wraps : shown (machine false true Unset (zeros 0xffff) (guarded false false resting) []) ≡ 0 ∷ 0 ∷ 0 ∷ 0 ∷ 0 ∷ 0 ∷ 0 ∷ 0 ∷ 0 ∷ []

-- BRANCHES

-- P and X1 after branch n of the eight to 0x0320, by X1, A, O and C; E is negative
abbrev pub branch : ℕ → ℕ → ℕ → Bool → Bool → List ℕ
branch n x1 a o c = let v : Work = (stepped (free (registers_of x1 a o c) (0x6020 + n * 0x0200) [])).cpu.work in v.p ∷ v.x1 ∷ []

-- when each branch goes, and where
pub record Branches : Type 0 where
  -- BNO branches where O is 0
  pub bno : branch 0 4 7 false true ≡ 0x0320 ∷ 4 ∷ []
  pub bno_not : branch 0 4 7 true false ≡ 0x0301 ∷ 4 ∷ []
  -- BNC branches where C is 0
  pub bnc : branch 1 4 7 true false ≡ 0x0320 ∷ 4 ∷ []
  pub bnc_not : branch 1 4 7 false true ≡ 0x0301 ∷ 4 ∷ []
  -- BAZ branches where A is 0
  pub baz : branch 2 4 0 true true ≡ 0x0320 ∷ 4 ∷ []
  pub baz_not : branch 2 4 7 true true ≡ 0x0301 ∷ 4 ∷ []
  -- BIX counts X1, and branches where it is then not 0
  pub bix : branch 3 4 7 true true ≡ 0x0320 ∷ 5 ∷ []
  pub bix_not : branch 3 0xffff 7 true true ≡ 0x0301 ∷ 0 ∷ []
  -- BXNO does so where O is 0, and else nothing
  pub bxno : branch 4 4 7 false true ≡ 0x0320 ∷ 5 ∷ []
  pub bxno_end : branch 4 0xffff 7 false true ≡ 0x0301 ∷ 0 ∷ []
  pub bxno_not : branch 4 4 7 true false ≡ 0x0301 ∷ 4 ∷ []
  -- BXNC does so where C is 0, and else nothing
  pub bxnc : branch 5 4 7 true false ≡ 0x0320 ∷ 5 ∷ []
  pub bxnc_end : branch 5 0xffff 7 true false ≡ 0x0301 ∷ 0 ∷ []
  pub bxnc_not : branch 5 4 7 false true ≡ 0x0301 ∷ 4 ∷ []
  -- BEN branches where E is negative, whatever A is
  pub ben : branch 6 4 7 true true ≡ 0x0320 ∷ 4 ∷ []
  pub ben_not : shown (free (zeros 0x0300) 0x6c20 []) ≡ 0x0301 ∷ 0 ∷ 0 ∷ 0 ∷ 0 ∷ 0 ∷ 0 ∷ 0 ∷ 0 ∷ []
  -- BAN branches where A is negative, of which 0x8000 is the least
  pub ban : branch 7 4 0x8000 true true ≡ 0x0320 ∷ 4 ∷ []
  pub ban_not : branch 7 4 0x7fff true true ≡ 0x0301 ∷ 4 ∷ []
  -- a branch backwards, which no bit but S makes so
  pub back : shown (free (registers_of 4 0 true true) 0x6520 []) ≡ 0x0220 ∷ 2 ∷ 3 ∷ 4 ∷ 5 ∷ 0x8006 ∷ 0 ∷ 1 ∷ 1 ∷ []

-- COPIES

-- the panel after a copy with A 0x7ff2, by C; O is 1
abbrev pub copy : ℕ → Bool → List ℕ
copy w c = shown (free (registers_of 4 0x7ff2 true c) w [])

-- E after it
abbrev pub e_after : ℕ → Bool → ℕ
e_after w c = (stepped (free (registers_of 4 0x7ff2 true c) w [])).cpu.work.e

-- what copies leave
pub record Copies : Type 0 where
  -- AND, OR and exclusive OR of A into E leave O and C
  pub and : copy 0x7067 true ≡ 0x0301 ∷ 2 ∷ 3 ∷ 4 ∷ 5 ∷ 0x0002 ∷ 0x7ff2 ∷ 1 ∷ 1 ∷ []
  pub or : copy 0x7467 true ≡ 0x0301 ∷ 2 ∷ 3 ∷ 4 ∷ 5 ∷ 0xfff6 ∷ 0x7ff2 ∷ 1 ∷ 1 ∷ []
  pub exclusive_or : copy 0x7867 true ≡ 0x0301 ∷ 2 ∷ 3 ∷ 4 ∷ 5 ∷ 0xfff4 ∷ 0x7ff2 ∷ 1 ∷ 1 ∷ []
  -- only an add sets them
  pub add : copy 0x7c67 true ≡ 0x0301 ∷ 2 ∷ 3 ∷ 4 ∷ 5 ∷ 0xfff8 ∷ 0x7ff2 ∷ 0 ∷ 0 ∷ []
  -- J adds 1 to each of the four
  pub plus_one : map (λ (w : ℕ). e_after w false) (0x7167 ∷ 0x7567 ∷ 0x7967 ∷ 0x7d67 ∷ []) ≡ 0x0003 ∷ 0xfff7 ∷ 0xfff5 ∷ 0xfff9 ∷ []
  -- K adds 1 to each where C is 1
  pub plus_carry : map (λ (w : ℕ). e_after w true) (0x7267 ∷ 0x7667 ∷ 0x7a67 ∷ 0x7e67 ∷ []) ≡ 0x0003 ∷ 0xfff7 ∷ 0xfff5 ∷ 0xfff9 ∷ []
  -- and none where C is 0
  pub no_carry : map (λ (w : ℕ). e_after w false) (0x7267 ∷ 0x7667 ∷ 0x7a67 ∷ 0x7e67 ∷ []) ≡ 0x0002 ∷ 0xfff6 ∷ 0xfff4 ∷ 0xfff8 ∷ []
  -- J goes before K
  pub both : e_after 0x7367 false ≡ 0x0003
  pub both_carry : e_after 0x7367 true ≡ 0x0003
  -- N takes the destination for 0
  pub cleared : e_after 0x74e7 true ≡ 0x7ff2
  -- V inverts the source
  pub inverted : e_after 0x746f true ≡ 0x800f
  -- an incremented result wraps, and leaves O and C
  pub wraps : copy 0x75e8 false ≡ 0x0301 ∷ 2 ∷ 3 ∷ 4 ∷ 5 ∷ 0 ∷ 0x7ff2 ∷ 1 ∷ 0 ∷ []
  -- an add into Z keeps nothing, and still sets O and C
  pub into_z : copy 0x7d08 false ≡ 0x0301 ∷ 2 ∷ 3 ∷ 4 ∷ 5 ∷ 0x8006 ∷ 0x7ff2 ∷ 0 ∷ 1 ∷ []
  -- each register as a source, of which P is the next instruction's address
  pub sources : map (λ (n : ℕ). e_after (0x74e0 + n) true) (range_with_len 0 8) ≡ 0 ∷ 0x0301 ∷ 2 ∷ 3 ∷ 4 ∷ 5 ∷ 0x8006 ∷ 0x7ff2 ∷ []
  -- each register as a destination, of which Z keeps nothing
  pub to_z : copy 0x7487 true ≡ 0x0301 ∷ 2 ∷ 3 ∷ 4 ∷ 5 ∷ 0x8006 ∷ 0x7ff2 ∷ 1 ∷ 1 ∷ []
  pub to_p : copy 0x7497 true ≡ 0x7ff2 ∷ 2 ∷ 3 ∷ 4 ∷ 5 ∷ 0x8006 ∷ 0x7ff2 ∷ 1 ∷ 1 ∷ []
  pub to_l : copy 0x74a7 true ≡ 0x0301 ∷ 0x7ff2 ∷ 3 ∷ 4 ∷ 5 ∷ 0x8006 ∷ 0x7ff2 ∷ 1 ∷ 1 ∷ []
  pub to_t : copy 0x74b7 true ≡ 0x0301 ∷ 2 ∷ 0x7ff2 ∷ 4 ∷ 5 ∷ 0x8006 ∷ 0x7ff2 ∷ 1 ∷ 1 ∷ []
  pub to_x1 : copy 0x74c7 true ≡ 0x0301 ∷ 2 ∷ 3 ∷ 0x7ff2 ∷ 5 ∷ 0x8006 ∷ 0x7ff2 ∷ 1 ∷ 1 ∷ []
  pub to_x2 : copy 0x74d7 true ≡ 0x0301 ∷ 2 ∷ 3 ∷ 4 ∷ 0x7ff2 ∷ 0x8006 ∷ 0x7ff2 ∷ 1 ∷ 1 ∷ []
  pub to_a : copy 0x74f6 true ≡ 0x0301 ∷ 2 ∷ 3 ∷ 4 ∷ 5 ∷ 0x8006 ∷ 0x8006 ∷ 1 ∷ 1 ∷ []
