-- The text of a run of an image.
use Rattle.std.specs.Prelude.{◌≡◌, ℕ, ◌≤◌, true, List, [], ◌∷◌, ◌++◌, length, take, Ok, Err, codes, decimal, Result}
use Rattle.image.specs.declared.Fault.{Fault}
use Rattle.image.specs.declared.Record.{Record}
use Rattle.image.specs.Format.{number}
use Rattle.image.specs.Reading.{verdict}
use Rattle.machine.specs.declared.call.Counts.{Counts}
use Rattle.machine.specs.Calls.{counts_of, gone, run_trail}
use Rattle.machine.specs.State.{Machine}
use Rattle.engine.specs.Loads.{loaded}
use Rattle.listing.specs.Listing.{blank, line}
use Rattle.machine.specs.Text.{counts_line}

-- the counts of n steps of a machine
unfoldable pub counts_after : ℕ → Machine → Counts
counts_after n m = counts_of (run_trail n m)

-- the counts of n steps of a new processor over 8192 zero words, with the records loaded and the protect switch on
abbrev pub run_counts : ℕ → List Record → Counts
run_counts n rs = counts_after n (gone true (loaded rs blank))

-- the same, or the fault
abbrev pub ran : ℕ → Result (List Record) Fault → Result Counts Fault
ran n (Ok rs) = Ok (run_counts n rs)
ran n (Err x) = Err x

-- the counts of 100 steps of an image, of which the first 65536 bytes count, or its fault
abbrev pub run_of : List ℕ → Result Counts Fault
run_of bs = ran 100 (verdict 8192 (take 65536 bs))

-- a line of the counts, or of the number of the fault's cause
abbrev pub run_report : Result Counts Fault → List ℕ
run_report (Ok n) = line (counts_line n)
run_report (Err x) = line (decimal (number x.cause))

-- the text of a run of an image
abbrev pub run_line : List ℕ → List ℕ
run_line bs = run_report (run_of bs)

-- the lines of four images, byte by byte, and which bytes of an image count
pub record Shown : Type 0 where
  -- a branch to itself at address 0: all steps are done
  pub loop : run_line (0x01 ∷ 0x00 ∷ 0x00 ∷ 0x48 ∷ 0x00 ∷ 0xff ∷ []) ≡ codes "100 0 0 0 0 0\n"
  -- a privileged function there: the protect switch is on, so that it is a violation, and level 0 is entered
  pub barred : run_line (0x01 ∷ 0x00 ∷ 0x00 ∷ 0x00 ∷ 0x20 ∷ 0xff ∷ []) ≡ codes "98 0 1 0 1 0\n"
  -- no bytes: all steps are done in zero memory
  pub nothing : run_line [] ≡ codes "100 0 0 0 0 0\n"
  -- a kind that there is not: refusal 9
  pub no_kind : run_line (0x00 ∷ []) ≡ codes "9\n"
  -- at most 65,536 bytes all count, and of more only the first 65,536
  pub whole : (bs : List ℕ) → length bs ≤ 65536 → run_of bs ≡ ran 100 (verdict 8192 bs)
  pub cut : (bs more : List ℕ) → length bs ≡ 65536 → run_of (bs ++ more) ≡ run_of bs
