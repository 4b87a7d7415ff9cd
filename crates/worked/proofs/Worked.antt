-- The worked cases, by computation.
use Rattle.std.proofs.Common.{refl}
use Rattle.levels.specs.Levels.{lowest}
use Rattle.machine.specs.Calls.{counts_of, run_trail}
use Rattle.machine.specs.Step.{instruction_at, step}
use Rattle.worked.specs.Cases.{Cases, ready}

pub cases : Cases
unfolding ready step instruction_at lowest
cases = record {
  inverted = refl;
  negated_least = record { a_is = refl; o_is = refl; c_is = refl };
  negated_zero = record { a_is = refl; o_is = refl; c_is = refl };
  subtracted = record { a_is = refl; o_is = refl; c_is = refl };
  backward = λ v ws. refl;
  counted = refl;
  not_branched = refl;
  stored = refl;
  taken = refl;
  held = refl;
  held_number = refl;
  longest_run = λ m. (counts_of (run_trail 1000000 m), refl);
  too_long = λ m. refl;
  too_long_number = refl;
}
