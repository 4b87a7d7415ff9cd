-- The worked cases of protection, by computation.
use Rattle.std.proofs.Common.{refl}
use Rattle.levels.specs.Levels.{bits_of, control_each, lowest, lowest_uninhibited, released}
use Rattle.machine.specs.Step.{instruction_at, step}
use Rattle.worked.specs.Violations.{Fetches, Judged, Violations}

pub judged : Judged
unfolding step instruction_at lowest bits_of control_each lowest_uninhibited released
judged = record {
  pages = refl;
  sta = refl;
  im = refl;
  sta_absent = refl;
  sta_elsewhere = refl;
  im_elsewhere = refl;
  sta_indexed = refl;
  sta_led_out = refl;
  lda = refl;
  and = refl;
  add = refl;
  sub = refl;
  ldx = refl;
  b = refl;
  branch = refl;
  copy = refl;
  not_carried = refl;
  read_registers = refl;
  write_registers = refl;
  read_privileged = refl;
  write_privileged = refl;
  from_protected = refl;
  protected_store = refl;
  protected_function = refl;
  off_store = refl;
  off_function = refl;
  off_into = refl;
  entry = refl;
}

pub violations : Violations
unfolding step instruction_at lowest bits_of control_each lowest_uninhibited released
violations = record {
  registers = refl;
  words = refl;
  last = refl;
  protect = refl;
  entry_protect = refl;
  from_armed = refl;
  from_disarmed = refl;
  mark = refl;
  exit_mark = refl;
  latest = refl;
  latest_entry = refl;
  entry_registers = refl;
  entry_last = refl;
  entry_mark = refl;
  stall = refl;
  stall_guard = refl;
  stall_mark = refl;
  stall_latest = refl;
  stall_entry = refl;
  no_stall = refl;
}

pub fetches : Fetches
unfolding step instruction_at lowest bits_of control_each lowest_uninhibited released
fetches = record {
  to_background = refl;
  to_protected = refl;
  in_background = refl;
  off = refl;
  off_zero = refl;
  idle = refl;
  idle_machine = refl;
}
