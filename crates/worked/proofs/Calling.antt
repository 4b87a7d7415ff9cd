-- The worked cases of a new processor and of calls, by computation.
use Rattle.std.proofs.Common.{refl}
use Rattle.levels.specs.Levels.{bits_of, control_each, lowest, lowest_uninhibited, released}
use Rattle.machine.specs.Step.{instruction_at, step}
use Rattle.worked.specs.Calling.{Begins, Called}

pub begins : Begins
unfolding step instruction_at lowest bits_of control_each lowest_uninhibited released
begins = record {
  registers = refl;
  protection = refl;
  ii = refl;
  ei = refl;
  levels = refl;
  pp = refl;
  mark = refl;
  last = refl;
  violation = refl;
  gone_on = refl;
  gone_off = refl;
  gone_words = refl;
  deposits = refl;
  not_deposited = refl;
  protections = refl;
  protected = refl;
  shown = refl;
  numbers = refl;
}

pub called : Called
unfolding step instruction_at lowest bits_of control_each lowest_uninhibited released
called = record {
  run = refl;
  run_part = refl;
  run_stall = refl;
  run_none = refl;
  run_p = refl;
  run_mark = refl;
  in_order = refl;
  signal_first = refl;
  step_first = refl;
  step_answer = refl;
  totals = refl;
  longest = refl;
  too_long = refl;
  signals = refl;
  signal_zero = refl;
  signal_none = refl;
  signal_disarmed = refl;
  signal_armed = refl;
  signal_waiting = refl;
  signal_active = refl;
  signal_after = refl;
  signal_dropped = refl;
  look_registers = refl;
  look_protection = refl;
  look_none = refl;
  look_before = refl;
  look_latest = refl;
  look_word = refl;
  look_last = refl;
  look_refused = refl;
  looked = refl;
}
