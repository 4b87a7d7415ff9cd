-- The text of an image.
use Rattle.std.specs.Prelude.{ℕ, List, [], ◌∷◌, ◌++◌, length, take, replicate, Ok, Err, Result}
use Rattle.image.specs.declared.Fault.{Fault}
use Rattle.image.specs.declared.Record.{Record}
use Rattle.image.specs.Reading.{verdict}
use Rattle.machine.specs.State.{Machine, initial}
use Rattle.engine.specs.Loads.{loaded}
use Rattle.listing.specs.Text.{fault_line, loaded_line, map_line, record_line}

-- a line and its line feed
abbrev pub line : List ℕ → List ℕ
line bs = bs ++ (10 ∷ [])

-- a line for each record, in their order
abbrev pub record_lines : List Record → List ℕ
record_lines [] = []
record_lines (r ∷ rs) = line (record_line r) ++ record_lines rs

-- a new processor over 8192 zero words
unfoldable pub blank : Machine
blank = record { cpu = initial; words = replicate 8192 0 }

-- the sixteen protection registers once records are loaded
abbrev pub map_after : List Record → List ℕ
map_after rs = (loaded rs blank).cpu.guard.protection

-- what is said of accepted records, or of a fault
abbrev pub report : Result (List Record) Fault → List ℕ
report (Ok rs) = record_lines rs ++ (line (loaded_line (length rs)) ++ line (map_line (map_after rs)))
report (Err x) = line (fault_line x)

-- the text of an image, of which the first 65536 bytes count
abbrev pub listing : List ℕ → List ℕ
listing bs = report (verdict 8192 (take 65536 bs))
