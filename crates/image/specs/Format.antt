-- The format of images: the numbers of its faults, the bytes of its records, and which records can be stored.
use Rattle.std.specs.Prelude.{ℕ, ◌/◌, ◌%◌, Bool, cond, ◌||◌, List, [], ◌∷◌, ◌++◌, Ok, Err, Result, ◌==◌, nat_le, nat_lt}
use Rattle.image.specs.declared.Cause.{Cause}
use Rattle.image.specs.declared.Cause.TheVariants.{NoRegister, NoAddress, NoLevel, LevelZero, UnknownKind, CutShort, AfterEnd, NoState}
use Rattle.image.specs.declared.Fault.{Fault}
use Rattle.image.specs.declared.Layer.{Layer}
use Rattle.image.specs.declared.Layer.TheVariants.{Reading, Storing}
use Rattle.image.specs.declared.Record.{Record}
use Rattle.image.specs.declared.Record.TheVariants.{Word, Protection, Register, Level}

-- the number of each cause
abbrev pub number : Cause → ℕ
number NoRegister = 4
number NoAddress = 5
number NoLevel = 6
number LevelZero = 7
number UnknownKind = 9
number CutShort = 10
number AfterEnd = 11
number NoState = 12

-- the layer that finds each cause
abbrev pub layer : Cause → Layer
layer NoRegister = Storing
layer NoAddress = Storing
layer NoLevel = Storing
layer LevelZero = Storing
layer UnknownKind = Reading
layer CutShort = Reading
layer AfterEnd = Reading
layer NoState = Storing

-- the layer that found a fault
abbrev pub fault_layer : Fault → Layer
fault_layer x = layer x.cause

-- the fault of a cause at a byte place
abbrev pub fault : Cause → ℕ → Fault
fault cause place = record { cause = cause; place = place }

-- a 16-bit number as two bytes, the high one first
abbrev pub two_bytes : ℕ → List ℕ
two_bytes n = n / 256 ∷ n % 256 ∷ []

-- the bytes of a record: its kind, then its fields
abbrev pub encode_record : Record → List ℕ
encode_record (Word address word) = 1 ∷ (two_bytes address ++ two_bytes word)
encode_record (Protection n word) = 2 ∷ n ∷ two_bytes word
encode_record (Register n word) = 3 ∷ n ∷ two_bytes word
encode_record (Level n state) = 4 ∷ n ∷ state ∷ []

-- how many bytes a record of a kind has, with its kind byte; the end has 1, and a kind that there is not has 0
abbrev pub kind_size : ℕ → ℕ
kind_size k = cond (k == 1) 5 (cond (k == 2) 4 (cond (k == 3) 4 (cond (k == 4) 3 (cond (k == 255) 1 0))))

-- the bytes of records in their order
abbrev pub encode_records : List Record → List ℕ
encode_records [] = []
encode_records (r ∷ rs) = encode_record r ++ encode_records rs

-- records as an image: their bytes, then the end
abbrev pub encode : List Record → List ℕ
encode rs = encode_records rs ++ (255 ∷ [])

-- a refusal where a test holds
abbrev pub refuse : Bool → Cause → ℕ → Result (Unit {0}) Fault → Result (Unit {0}) Fault
refuse test cause place else = cond test (Err (fault cause place)) else

-- whether a record at a byte place can be stored beside a memory of that size: the fields are judged from the left
abbrev pub storing : ℕ → ℕ → Record → Result (Unit {0}) Fault
storing size place (Word address word) = refuse (nat_le size address) NoAddress place (Ok tt)
storing size place (Protection n word) = refuse (nat_lt 15 n) NoRegister place (Ok tt)
storing size place (Register n word) = refuse (n == 0 || nat_lt 7 n) NoRegister place (Ok tt)
storing size place (Level n state) =
    refuse (nat_lt 15 n) NoLevel place (refuse (n == 0) LevelZero place (refuse (nat_lt 2 state) NoState place (Ok tt)))
