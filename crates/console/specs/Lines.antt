-- The lines of a trace, as lists of bytes without their line feeds.
use Rattle.std.specs.Prelude.{ℕ, cond, List, [], ◌++◌, Some, None, Ok, Err, codes, decimal, Option, Result, ◌==◌, slice_index}
use Rattle.listing.specs.Text.{hex}
use Rattle.machine.specs.declared.call.Outcome.{Outcome}
use Rattle.machine.specs.declared.call.Outcome.TheVariants.{Entered, Idle, Violated, Stalled, NotCarried, Done}
use Rattle.machine.specs.declared.call.Signalled.{Signalled}
use Rattle.machine.specs.declared.refusal.Refusal.{Refusal}
use Rattle.machine.specs.declared.state.Violation.{Violation}
use Rattle.machine.specs.Refusals.{number}
use Rattle.machine.specs.Text.{kind_name, signalled_name}

-- a violation: its kind, the place that it came from, and its aim
abbrev pub violation_text : Violation → List ℕ
violation_text v = kind_name v.kind ++ (codes " " ++ (hex v.place ++ (codes " " ++ hex v.aim)))

-- what a step was
abbrev pub outcome_text : Outcome → List ℕ
outcome_text (Entered k) = codes "entry " ++ decimal k
outcome_text Idle = codes "idle"
outcome_text (Violated v) = codes "violation " ++ violation_text v
outcome_text (Stalled v) = codes "stall " ++ violation_text v
outcome_text NotCarried = codes "not-carried"
outcome_text Done = codes "done"

-- a register's name and word after a step, and nothing where the word is as before
abbrev pub change : List ℕ → ℕ → ℕ → List ℕ
change name before after = cond (before == after) [] (codes " " ++ (name ++ (codes "=" ++ hex after)))

-- the changes of L, T, X1, X2, E and A, by the eight registers before and after a step
abbrev pub changes : List ℕ → List ℕ → List ℕ
changes rs qs =
    change (codes "L") (slice_index rs 2) (slice_index qs 2) ++ (change (codes "T") (slice_index rs 3) (slice_index qs 3)
    ++ (change (codes "X1") (slice_index rs 4) (slice_index qs 4) ++ (change (codes "X2") (slice_index rs 5) (slice_index qs 5)
    ++ (change (codes "E") (slice_index rs 6) (slice_index qs 6) ++ change (codes "A") (slice_index rs 7) (slice_index qs 7)))))

-- step n: its number, P before it, what it was, and the registers that it changed
abbrev pub step_line : ℕ → Outcome → List ℕ → List ℕ → List ℕ
step_line n o rs qs = decimal n ++ (codes " " ++ (hex (slice_index rs 1) ++ (codes " " ++ (outcome_text o ++ changes rs qs))))

-- what a signal did, or the number by which it is refused
abbrev pub signal_text : Result Signalled Refusal → List ℕ
signal_text (Ok x) = signalled_name x
signal_text (Err x) = codes "refused " ++ decimal (number x)

-- a signal: its level and what became of it
abbrev pub signal_line : ℕ → Result Signalled Refusal → List ℕ
signal_line k r = codes "signal " ++ (decimal k ++ (codes " " ++ signal_text r))

-- the latest violation, or that there was none
abbrev pub violation_line : Option Violation → List ℕ
violation_line None = codes "violation none"
violation_line (Some v) = codes "violation " ++ violation_text v
