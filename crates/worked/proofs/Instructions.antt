-- The worked cases of addresses, instructions, branches and copies, by computation.
use Rattle.std.proofs.Common.{refl}
use Rattle.levels.specs.Levels.{bits_of, control_each, lowest, lowest_uninhibited, released}
use Rattle.machine.specs.Step.{instruction_at, step}
use Rattle.worked.specs.Instructions.{Addresses, Branches, Copies, Instructions}

pub addresses : Addresses
unfolding step instruction_at lowest bits_of control_each lowest_uninhibited released
addresses = record {
  direct = refl;
  long = refl;
  based = refl;
  relative = refl;
  relative_far = refl;
  backward = refl;
  indirect = refl;
  based_indirect = refl;
  relative_indirect = refl;
  indexing = refl;
  indirect_indexed = refl;
  absent = refl;
  base_wraps = refl;
  index_wraps = refl;
  backward_wraps = refl;
  forward_wraps = refl;
  codes = refl;
}

pub instructions : Instructions
unfolding step instruction_at lowest bits_of control_each lowest_uninhibited released
instructions = record {
  lda = refl;
  and = refl;
  add = refl;
  add_over = refl;
  add_carry = refl;
  add_both = refl;
  add_least = refl;
  sub = refl;
  sub_over = refl;
  sub_both = refl;
  sub_least = refl;
  ldx = refl;
  sta = refl;
  sta_registers = refl;
  sta_lost = refl;
  im = refl;
  im_flags = refl;
  im_over = refl;
  im_wraps = refl;
  im_carry = refl;
  b = refl;
  b_indirect = refl;
  carried = refl;
  not_carried = refl;
  not_stored = refl;
  last_done = refl;
  last_branch = refl;
  last_not_carried = refl;
  p_wraps = refl;
}

pub branches : Branches
unfolding step instruction_at lowest bits_of control_each lowest_uninhibited released
branches = record {
  bno = refl;
  bno_not = refl;
  bnc = refl;
  bnc_not = refl;
  baz = refl;
  baz_not = refl;
  bix = refl;
  bix_not = refl;
  bxno = refl;
  bxno_end = refl;
  bxno_not = refl;
  bxnc = refl;
  bxnc_end = refl;
  bxnc_not = refl;
  ben = refl;
  ben_not = refl;
  ban = refl;
  ban_not = refl;
  back = refl;
}

pub copies : Copies
unfolding step instruction_at lowest bits_of control_each lowest_uninhibited released
copies = record {
  and = refl;
  or = refl;
  exclusive_or = refl;
  add = refl;
  plus_one = refl;
  plus_carry = refl;
  no_carry = refl;
  both = refl;
  both_carry = refl;
  cleared = refl;
  inverted = refl;
  wraps = refl;
  into_z = refl;
  sources = refl;
  to_z = refl;
  to_p = refl;
  to_l = refl;
  to_t = refl;
  to_x1 = refl;
  to_x2 = refl;
  to_a = refl;
}
