-- The worked cases of direct functions, by computation.
use Rattle.std.proofs.Common.{refl}
use Rattle.levels.specs.Levels.{bits_of, control_each, lowest, lowest_uninhibited, released}
use Rattle.machine.specs.Step.{instruction_at, step}
use Rattle.worked.specs.Functions.{Controls, Functions}

pub functions : Functions
unfolding step instruction_at lowest bits_of control_each lowest_uninhibited released
functions = record {
  registers = refl;
  only_a = refl;
  to_z = refl;
  to_p = refl;
  to_l = refl;
  to_t = refl;
  to_x1 = refl;
  to_x2 = refl;
  to_e = refl;
  to_a = refl;
  protection = refl;
  to_first = refl;
  to_second = refl;
  to_last = refl;
  status_pp = refl;
  status_ii = refl;
  status_ei = refl;
  status_o = refl;
  status_c = refl;
  inhibit_ii = refl;
  inhibit_ei = refl;
  inhibit_none = refl;
  wait = refl;
  exit = refl;
  wait_only = refl;
  exit_only = refl;
  unlisted_read = refl;
  unlisted_write = refl;
  unlisted_mark = refl;
  enabled = refl;
  waiting = refl;
  active = refl;
  no_more_reads = refl;
  no_more_writes = refl;
  no_levels = refl;
  no_mode_2 = refl;
  no_mode_8 = refl;
  no_mode_9 = refl;
  no_function_0x100 = refl;
}

pub controls : Controls
unfolding step instruction_at lowest bits_of control_each lowest_uninhibited released
controls = record {
  disarm = refl;
  arm = refl;
  disable = refl;
  enable = refl;
  trigger = refl;
}
