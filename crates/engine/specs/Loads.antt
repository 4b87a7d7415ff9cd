-- What an image loads, and the law of loading.
use Rattle.std.specs.Prelude.{◌≡◌, ℕ, List, [], ◌∷◌, length, Ok, Err, Result}
use Rattle.image.specs.declared.Fault.{Fault}
use Rattle.image.specs.declared.Record.{Record}
use Rattle.image.specs.declared.Record.TheVariants.{Word, Protection, Register, Level}
use Rattle.image.specs.Law.{AllStorable, ImageOf, Told}
use Rattle.levels.specs.Levels.{preset}
use Rattle.machine.specs.State.{Machine, with_level}
use Rattle.engine.specs.Calls.{deposited, protected, put, set_cpu}

-- the machine after a record is stored
abbrev pub stored : Record → Machine → Machine
stored (Word address word) m = deposited address word m
stored (Protection n word) m = protected n word m
stored (Register n word) m = put n word m
stored (Level n state) m = set_cpu (with_level n (preset state) m.cpu) m

-- the machine after records are stored in their order, so that later ones win
abbrev pub loaded : List Record → Machine → Machine
loaded [] m = m
loaded (r ∷ rs) m = loaded rs (stored r m)

-- the machine after an image: its records are loaded, or nothing is
abbrev pub load_after : Result (List Record) Fault → Machine → Machine
load_after (Ok rs) m = loaded rs m
load_after (Err x) m = m

-- the law of an answer r to the bytes of an image, for the machine before and after
pub record Law (bytes : List ℕ) (r : Result ℕ Fault) (before after : Machine) : Type 0 where
  -- what is accepted is an image of as many storable records; what is refused has the flaw that the answer names
  pub told : Told (length before.words) bytes r
  -- every image of storable records is accepted, and loads what they say in their order
  pub loads : (rs : List Record) → ImageOf bytes rs → AllStorable (length before.words) rs → (r ≡ Ok (length rs)) × (after ≡ loaded rs before)
  -- a refusal leaves everything as it was
  pub leaves : (x : Fault) → r ≡ Err x → after ≡ before
