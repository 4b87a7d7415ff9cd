-- The law of images: which bytes are accepted, and how all others are refused.
use Rattle.std.specs.Prelude.{◌≡◌, ℕ, ◌+◌, ◌<◌, List, [], ◌∷◌, ◌++◌, length, Ok, Err, Result}
use Rattle.image.specs.declared.Cause.TheVariants.{UnknownKind, CutShort, AfterEnd}
use Rattle.image.specs.declared.Fault.{Fault}
use Rattle.image.specs.declared.Layer.{Layer}
use Rattle.image.specs.declared.Layer.TheVariants.{Reading, Storing}
use Rattle.image.specs.declared.Record.{Record}
use Rattle.image.specs.Format.{encode_record, encode_records, encode, fault, fault_layer, kind_size, storing}

-- a record that can be stored beside a memory of that size, wherever it stands
abbrev pub Storable : ℕ → Record → Type 0
Storable size r = (place : ℕ) → storing size place r ≡ Ok tt

-- each record can be stored
abbrev pub AllStorable : ℕ → List Record → Type 0
AllStorable size [] = Unit {0}
AllStorable size (r ∷ rs) = Storable size r × AllStorable size rs

-- what is wrong with bytes that begin at a place p, where a record or the end should stand, and the layer that finds it
pub data Flaw (size p : ℕ) : Layer → List ℕ → Fault → Type 0 where
  -- nothing stands there, behind one byte or more
  no_end : 0 < p → Flaw size p Reading [] (fault CutShort p)
  -- a record whose kind asks for more bytes than there are
  cut_short : (k : ℕ) (rest : List ℕ) → length (k ∷ rest) < kind_size k → Flaw size p Reading (k ∷ rest) (fault CutShort p)
  -- a kind that there is not
  unknown_kind : (k : ℕ) (rest : List ℕ) → kind_size k ≡ 0 → Flaw size p Reading (k ∷ rest) (fault UnknownKind p)
  -- the end, with a byte behind it
  after_end : (b : ℕ) (rest : List ℕ) → Flaw size p Reading (255 ∷ b ∷ rest) (fault AfterEnd (p + 1))
  -- a whole record that cannot be stored
  not_storable : (r : Record) (rest : List ℕ) (x : Fault) → storing size p r ≡ Err x → Flaw size p Storing (encode_record r ++ rest) x

-- the image begins with records that can be stored, and what follows them has the flaw x, which the layer of x finds
pub record Refused (size : ℕ) (bs : List ℕ) (x : Fault) : Type 0 where
  pub before : List Record
  pub rest : List ℕ
  pub split : bs ≡ encode_records before ++ rest
  pub storable : AllStorable size before
  pub flaw : Flaw size (length (encode_records before)) (fault_layer x) rest x

-- bytes as an image of records: no bytes are an image of no records, and an encoding, which has the end, is one of its records
pub data ImageOf : List ℕ → List Record → Type 0 where
  no_bytes : ImageOf [] []
  encoded : (rs : List Record) → ImageOf (encode rs) rs

-- the bytes are an image of n records that can be stored
pub record Accepted (size : ℕ) (bs : List ℕ) (n : ℕ) : Type 0 where
  pub records : List Record
  pub image : ImageOf bs records
  pub storable : AllStorable size records
  pub count : n ≡ length records

-- what the answer to an image says of it: the number of its records, or its fault
abbrev pub Told : ℕ → List ℕ → Result ℕ Fault → Type 0
Told size bs (Ok n) = Accepted size bs n
Told size bs (Err x) = Refused size bs x

-- every image of storable records is accepted
abbrev pub Complete : ℕ → List ℕ → Result ℕ Fault → Type 0
Complete size bs answer = (rs : List Record) → ImageOf bs rs → AllStorable size rs → answer ≡ Ok (length rs)
