-- The text of a trace of an image.
use Rattle.std.specs.Prelude.{ℕ, zero, suc, ◌+◌, Bool, cond, List, [], ◌∷◌, ◌++◌, take, Ok, Err, string_bytes, codes, decimal, Result, ◌==◌, nat_lt}
use Rattle.image.specs.declared.Fault.{Fault}
use Rattle.image.specs.declared.Record.{Record}
use Rattle.image.specs.Reading.{verdict}
use Rattle.machine.specs.declared.call.Call.TheVariants.{Signal as SignalCall}
use Rattle.machine.specs.declared.call.Counts.{Counts}
use Rattle.machine.specs.declared.refusal.Refusal.TheVariants.{RunTooLong}
use Rattle.machine.specs.Calls.{after_call, gone, no_counts, signal_answer, tallied}
use Rattle.machine.specs.Refusals.{number}
use Rattle.machine.specs.State.{Machine, registers}
use Rattle.machine.specs.Step.{step}
use Rattle.machine.specs.Text.{counts_line}
use Rattle.engine.specs.Loads.{loaded}
use Rattle.engine.specs.View.{seen}
use Rattle.listing.specs.Listing.{blank, line}
use Rattle.listing.specs.Text.{fault_line}
use Rattle.console.specs.declared.signals.Signal.{Signal}
use Rattle.console.specs.declared.traces.Tracer.{Tracer}
use Rattle.console.specs.Lines.{signal_line, step_line, violation_line}

-- a trace so far: its text, the counts of its steps, and the machine
pub record Traced : Type 0 where
  pub text : List ℕ
  pub counts : Counts
  pub machine : Machine

-- a tracer, by what its memory means, seen as a trace so far
abbrev pub at : {M : Type 0} → (M → List ℕ) → Tracer M → Traced
at words t = record { text = string_bytes t.text; counts = t.counts; machine = seen words t.processor.now }

-- a signal to level k is made, with its line
abbrev pub signal_at : ℕ → Traced → Traced
signal_at k x = record {
  text = x.text ++ line (signal_line k (signal_answer k x.machine));
  counts = x.counts;
  machine = after_call (SignalCall k) x.machine;
}

-- the signals given for step n are made in their order
abbrev pub signals_at : ℕ → List Signal → Traced → Traced
signals_at n [] x = x
signals_at n (s ∷ ss) x = signals_at n ss (cond (s.step == n) (signal_at s.level x) x)

-- the line of step n, which a machine makes
abbrev pub moment_line : ℕ → Machine → List ℕ
moment_line n m = step_line n (step m).outcome (registers m.cpu.work) (registers (step m).after.cpu.work)

-- step n is made, with its line
abbrev pub step_at : ℕ → Traced → Traced
step_at n x = record {
  text = x.text ++ line (moment_line n x.machine);
  counts = tallied (step x.machine).outcome x.counts;
  machine = (step x.machine).after;
}

-- n steps are made from step k on, each after the signals given for it
abbrev pub traced : ℕ → ℕ → List Signal → Traced → Traced
traced zero k ss x = x
traced (suc n) k ss x = traced n (k + 1) ss (step_at k (signals_at k ss x))

-- a trace that begins
abbrev pub begun : Machine → Traced
begun m = record { text = []; counts = no_counts; machine = m }

-- a trace at its end, with the counts and the latest violation
abbrev pub ended : Traced → List ℕ
ended x = x.text ++ (line (counts_line x.counts) ++ line (violation_line x.machine.cpu.violation))

-- the text of n steps of a machine: like a run, at most 1,000,000
abbrev pub trace_of : ℕ → List Signal → Machine → List ℕ
trace_of n ss m = cond (nat_lt 1000000 n) (line (codes "refused " ++ decimal (number RunTooLong))) (ended (traced n 0 ss (begun m)))

-- the same of accepted records, with the protect switch on or off, or the line of the fault
abbrev pub trace_report : ℕ → Bool → List Signal → Result (List Record) Fault → List ℕ
trace_report n on ss (Ok rs) = trace_of n ss (gone on (loaded rs blank))
trace_report n on ss (Err x) = line (fault_line x)

-- the text of a trace of an image, of which the first 65536 bytes count
abbrev pub trace_text : ℕ → Bool → List Signal → List ℕ → List ℕ
trace_text n on ss bs = trace_report n on ss (verdict 8192 (take 65536 bs))
