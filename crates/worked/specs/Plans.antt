-- Worked cases of memory: sizes, and the plan of adaptor memory.
use Rattle.std.specs.Prelude.{◌≡◌, ℕ, ◌+◌, ◌*◌, List, [], ◌∷◌, map, Some, None, Ok, Err, slice_set}
use Rattle.std.specs.List.{range_with_len}
use Rattle.memory.specs.declared.refusals.PlanRefusal.TheVariants.{NoBlock, NoPortion, PortionHeld}
use Rattle.memory.specs.Changes.{exchange_after, exchange_answer, refusal_number, set_after, set_answer}
use Rattle.memory.specs.Fetches.{fetched_at}
use Rattle.memory.specs.Wide.{half, lead, merged, place}
use Rattle.memory.specs.Words.{whole}

-- the portions of a new plan
abbrev pub new_plan : List ℕ
new_plan = range_with_len 0 8

-- what changes of a plan answer and leave
pub record Plans : Type 0 where
  -- a block may be given the portion that it has
  pub own : set_answer new_plan 3 3 ≡ Ok tt
  -- blocks 0 to 7 and portions 0 to 31
  pub last_block : set_answer new_plan 7 31 ≡ Ok tt
  pub no_block : set_answer new_plan 8 31 ≡ Err NoBlock
  pub no_portion : set_answer new_plan 7 32 ≡ Err NoPortion
  -- a change that is made, and one that is refused
  pub changed : set_after new_plan 3 9 ≡ 0 ∷ 1 ∷ 2 ∷ 9 ∷ 4 ∷ 5 ∷ 6 ∷ 7 ∷ []
  pub refused : set_after new_plan 3 4 ≡ new_plan
  -- an exchange of two blocks, of a block with itself, and with a block that is not there
  pub exchanged : exchange_after new_plan 2 5 ≡ 0 ∷ 1 ∷ 5 ∷ 3 ∷ 4 ∷ 2 ∷ 6 ∷ 7 ∷ []
  pub with_itself : exchange_answer 7 7 ≡ Ok tt
  pub with_none : exchange_answer 0 8 ≡ Err NoBlock
  pub none_with : exchange_answer 8 0 ≡ Err NoBlock
  -- the refusals have the numbers 1 to 3
  pub numbers : map refusal_number (NoBlock ∷ NoPortion ∷ PortionHeld ∷ []) ≡ 1 ∷ 2 ∷ 3 ∷ []
  -- an even address has the left half of a 32-bit word, and an odd one the right half
  pub left_half : half 0x12345678 0x2004 ≡ 0x1234
  pub right_half : half 0x12345678 0x2005 ≡ 0x5678
  pub left_merged : merged 0x12345678 0x2004 0xabcd ≡ 0xabcd5678
  pub right_merged : merged 0x12345678 0x2005 0xabcd ≡ 0x1234abcd
  -- an address of block 1, whose portion is 9, lies in the tenth 4,096 words
  pub placed : place (slice_set new_plan 1 9) 0x2005 ≡ 9 * 4096 + 2
  -- the size ends before the first portion that does not fit, also where later ones would
  pub leading : lead new_plan 12288 ≡ 3
  pub ends_early : lead (slice_set new_plan 1 9) 12288 ≡ 1
  -- whole blocks of 8192 words, eight at most
  pub blocks : map whole (8191 ∷ 8192 ∷ 20000 ∷ 65536 ∷ 100000 ∷ []) ≡ 0 ∷ 8192 ∷ 16384 ∷ 65536 ∷ 65536 ∷ []
  -- a word below the size is there, and one at the size is absent
  pub there : fetched_at (5 ∷ 6 ∷ []) 1 ≡ Some 6
  pub absent : fetched_at (5 ∷ 6 ∷ []) 2 ≡ None
