-- The text of a signal.
use Rattle.std.specs.Prelude.{ℕ, ◌^◌, ◌<◌, ◌==◌, List, Result, Contains}
use Rattle.std.specs.List.{after_first, before_first}
use Rattle.std.specs.Result.{OkIff}
use Rattle.std.specs.Str.Parse.{IsNumeral, digits_value, without_leading_plus}
use Rattle.console.specs.declared.signals.NoSignal.{NoSignal}
use Rattle.console.specs.declared.signals.Signal.{Signal}

-- the byte of a colon
abbrev pub colon : ℕ
colon = 58

-- the number that decimal digits write, before which a plus may stand
abbrev pub number_of : List ℕ → ℕ
number_of text = digits_value 10 (without_leading_plus text)

-- such digits, of a number that so many bits hold
abbrev pub IsUnsigned : ℕ → List ℕ → Type 0
IsUnsigned bits text = IsNumeral 10 (without_leading_plus text) × (number_of text < 2 ^ bits)

-- what stands before the first colon, and what behind it
abbrev pub before_colon : List ℕ → List ℕ
before_colon text = before_first (λ b. b == colon) text

abbrev pub after_colon : List ℕ → List ℕ
after_colon text = after_first (λ b. b == colon) text

-- a step of 32 bits, a colon, and a level of 8
pub record IsSignal (text : List ℕ) : Type 0 where
  pub has_colon : Contains text colon
  pub step : IsUnsigned 32 (before_colon text)
  pub level : IsUnsigned 8 (after_colon text)

-- the signal that such a text writes
abbrev pub signal_of : List ℕ → Signal
signal_of text = record { step = number_of (before_colon text); level = number_of (after_colon text) }

-- a text as a signal: refused just where it is none
abbrev pub ParsesSignal : List ℕ → Result Signal NoSignal → Type 0
ParsesSignal text r = OkIff r (IsSignal text) (signal_of text)
