-- The text of records and faults, as lists of bytes.
use Rattle.std.specs.Prelude.{ℕ, ◌+◌, ◌/◌, ◌%◌, cond, List, [], ◌∷◌, ◌++◌, codes, decimal, ◌==◌, nat_lt}
use Rattle.image.specs.declared.Fault.{Fault}
use Rattle.image.specs.declared.Layer.{Layer}
use Rattle.image.specs.declared.Layer.TheVariants.{Reading, Storing}
use Rattle.image.specs.declared.Record.{Record}
use Rattle.image.specs.declared.Record.TheVariants.{Word, Protection, Register, Level}
use Rattle.image.specs.Format.{fault_layer, number}

-- a hexadecimal digit, in lowercase
abbrev pub hex_digit : ℕ → ℕ
hex_digit n = cond (nat_lt n 10) (48 + n) (87 + n)

-- a 16-bit number as four hexadecimal digits
abbrev pub hex : ℕ → List ℕ
hex n = hex_digit (n / 4096) ∷ hex_digit (n / 256 % 16) ∷ hex_digit (n / 16 % 16) ∷ hex_digit (n % 16) ∷ []

-- what a record makes of a level: any number but 0 arms it, and only 2 enables it
abbrev pub state_name : ℕ → List ℕ
state_name n = cond (n == 0) (codes "disarmed") (cond (n == 2) (codes "enabled") (codes "armed"))

-- a record: its kind, where it goes, and what goes there
abbrev pub record_line : Record → List ℕ
record_line (Word address word) = codes "word " ++ (hex address ++ (codes " " ++ hex word))
record_line (Protection n word) = codes "protection " ++ (decimal n ++ (codes " " ++ hex word))
record_line (Register n word) = codes "register " ++ (decimal n ++ (codes " " ++ hex word))
record_line (Level n state) = codes "level " ++ (decimal n ++ (codes " " ++ state_name state))

-- the layer of a fault as a word
abbrev pub layer_name : Layer → List ℕ
layer_name Reading = codes "reading"
layer_name Storing = codes "storing"

-- a refused image: the number, the layer and the byte place of its fault
abbrev pub fault_line : Fault → List ℕ
fault_line x = codes "refused " ++ (decimal (number x.cause) ++ (codes " " ++ (layer_name (fault_layer x) ++ (codes " at " ++ decimal x.place))))
