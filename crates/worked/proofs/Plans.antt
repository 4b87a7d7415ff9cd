-- The worked cases of memory, by computation.
use Rattle.std.proofs.Common.{refl}
use Rattle.levels.specs.Levels.{bits_of, control_each, lowest, lowest_uninhibited, released}
use Rattle.machine.specs.Step.{instruction_at, step}
use Rattle.worked.specs.Plans.{Plans}

pub plans : Plans
unfolding step instruction_at lowest bits_of control_each lowest_uninhibited released
plans = record {
  own = refl;
  last_block = refl;
  no_block = refl;
  no_portion = refl;
  changed = refl;
  refused = refl;
  exchanged = refl;
  with_itself = refl;
  with_none = refl;
  none_with = refl;
  numbers = refl;
  left_half = refl;
  right_half = refl;
  left_merged = refl;
  right_merged = refl;
  placed = refl;
  leading = refl;
  ends_early = refl;
  blocks = refl;
  there = refl;
  absent = refl;
}
