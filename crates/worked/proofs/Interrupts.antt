-- The worked cases of levels, entries and exits, by computation.
use Rattle.std.proofs.Common.{refl}
use Rattle.levels.specs.Levels.{bits_of, control_each, lowest, lowest_uninhibited, released}
use Rattle.machine.specs.Step.{instruction_at, step}
use Rattle.worked.specs.Interrupts.{Entries, Exits, Levels}

pub levels : Levels
unfolding step instruction_at lowest bits_of control_each lowest_uninhibited released
levels = record {
  disarm = refl;
  arm = refl;
  trigger = refl;
  entry = refl;
  exit = refl;
  violation = refl;
  presets = refl;
  set_by_image = refl;
  all_enter = refl;
  under_ii = refl;
  under_ei = refl;
  under_both = refl;
  under_exit = refl;
  under_wait = refl;
  disabled = refl;
  armed = refl;
  lower = refl;
  blocked = refl;
  unblocked = refl;
  inhibited = refl;
}

pub entries : Entries
unfolding step instruction_at lowest bits_of control_each lowest_uninhibited released
entries = record {
  entered = refl;
  words = refl;
  registers = refl;
  protect = refl;
  active = refl;
  last = refl;
  from_wait = refl;
  wait_cleared = refl;
  under_exit = refl;
  own_cell = refl;
  own_words = refl;
  wrapped = refl;
  wrapped_words = refl;
  from_protected = refl;
}

pub exits : Exits
unfolding step instruction_at lowest bits_of control_each lowest_uninhibited released
exits = record {
  o_and_p = refl;
  c_and_p = refl;
  inhibit_ii = refl;
  inhibit_ei = refl;
  protect = refl;
  unprotect = refl;
  switch_off = refl;
  mark = refl;
  last = refl;
  words = refl;
  no_mark = refl;
  no_mark_guard = refl;
  unprotected = refl;
  wrapped = refl;
  cleared = refl;
  each_exits = refl;
  each_inhibited_exits = refl;
  past_internal = refl;
  to_external = refl;
  lowest_external = refl;
  past_internal_switch_off = refl;
  zero_exits = refl;
  one_exits = refl;
  both_inhibit = refl;
  ii_inhibits = refl;
  ei_inhibits = refl;
  none_inhibits = refl;
  below_external = refl;
  sets_ii = refl;
  clears_ii = refl;
  sets_ei = refl;
  clears_ei = refl;
  none_exits = refl;
}
