-- Worked cases of images: what a whole image holds for a memory of 8,192 words, and the fault of any other.
use Rattle.std.specs.Prelude.{◌≡◌, ℕ, ◌<◌, List, [], ◌∷◌, length, map, None, Ok, Err, Result}
use Rattle.image.specs.declared.Cause.{Cause}
use Rattle.image.specs.declared.Cause.TheVariants.{NoRegister, NoAddress, NoLevel, LevelZero, UnknownKind, CutShort, AfterEnd, NoState}
use Rattle.image.specs.declared.Fault.{Fault}
use Rattle.image.specs.declared.Layer.TheVariants.{Reading, Storing}
use Rattle.image.specs.declared.Record.{Record}
use Rattle.image.specs.declared.Record.TheVariants.{Word, Protection, Register, Level}
use Rattle.machine.specs.declared.refusal.Refusal.TheVariants.{NoRegister as CallNoRegister, NoAddress as CallNoAddress, NoLevel as CallNoLevel, LevelZero as CallLevelZero}
use Rattle.image.specs.Format.{encode, fault, fault_layer, layer, number}
use Rattle.image.specs.Law.{Refused}
use Rattle.image.specs.Reading.{counted, item_at, place_after, verdict, word_at}
use Rattle.machine.specs.Refusals.{number as call_number}

-- what bytes hold: records, or a fault
abbrev pub held : List ℕ → Result (List Record) Fault
held bs = verdict 8192 bs

-- where a reader at a place of bytes stands once it has read what is there
abbrev pub left_at : List ℕ → ℕ → ℕ
left_at bs p = place_after bs p (item_at bs p)

-- one record
abbrev pub one : Record → Result (List Record) Fault
one r = Ok (r ∷ [])

-- a fault by its cause and its byte place
abbrev pub at : Cause → ℕ → Result (List Record) Fault
at cause place = Err (record { cause = cause; place = place })

-- the eight causes in the order of their numbers
abbrev pub causes : List Cause
causes = NoRegister ∷ NoAddress ∷ NoLevel ∷ LevelZero ∷ UnknownKind ∷ CutShort ∷ AfterEnd ∷ NoState ∷ []

-- what images hold, and how others are refused
pub record Images : Type 0 where
  -- no bytes, the end alone, and a record of each kind, high bytes first
  pub no_bytes : held [] ≡ Ok []
  pub none : held (255 ∷ []) ≡ Ok []
  pub word : held (1 ∷ 0x12 ∷ 0x34 ∷ 0x56 ∷ 0x78 ∷ 255 ∷ []) ≡ one (Word 0x1234 0x5678)
  pub protection : held (2 ∷ 3 ∷ 0x80 ∷ 0x01 ∷ 255 ∷ []) ≡ one (Protection 3 0x8001)
  pub register : held (3 ∷ 7 ∷ 0xab ∷ 0xcd ∷ 255 ∷ []) ≡ one (Register 7 0xabcd)
  pub level : held (4 ∷ 15 ∷ 2 ∷ 255 ∷ []) ≡ one (Level 15 2)
  -- records stand in their order
  pub order : held (3 ∷ 1 ∷ 2 ∷ 0 ∷ 4 ∷ 3 ∷ 1 ∷ 3 ∷ 1 ∷ 3 ∷ 0 ∷ 255 ∷ []) ≡ Ok (Register 1 0x0200 ∷ Level 3 1 ∷ Register 1 0x0300 ∷ [])
  pub encoded : encode (Word 0x1234 0x5678 ∷ Protection 3 0x8001 ∷ Register 7 0xabcd ∷ Level 15 2 ∷ [])
      ≡ 1 ∷ 0x12 ∷ 0x34 ∷ 0x56 ∷ 0x78 ∷ 2 ∷ 3 ∷ 0x80 ∷ 0x01 ∷ 3 ∷ 7 ∷ 0xab ∷ 0xcd ∷ 4 ∷ 15 ∷ 2 ∷ 255 ∷ []
  -- addresses below the size
  pub last_address : held (1 ∷ 0x1f ∷ 0xff ∷ 0 ∷ 0 ∷ 255 ∷ []) ≡ one (Word 0x1fff 0)
  pub no_address : held (1 ∷ 0x20 ∷ 0x00 ∷ 0 ∷ 0 ∷ 255 ∷ []) ≡ at NoAddress 0
  -- protection registers 0 to 15, and registers 1 to 7
  pub last_protection : held (2 ∷ 15 ∷ 0 ∷ 1 ∷ 255 ∷ []) ≡ one (Protection 15 1)
  pub no_protection : held (2 ∷ 16 ∷ 0 ∷ 1 ∷ 255 ∷ []) ≡ at NoRegister 0
  pub first_register : held (3 ∷ 1 ∷ 0 ∷ 1 ∷ 255 ∷ []) ≡ one (Register 1 1)
  pub register_zero : held (3 ∷ 0 ∷ 0 ∷ 1 ∷ 255 ∷ []) ≡ at NoRegister 0
  pub no_register : held (3 ∷ 8 ∷ 0 ∷ 1 ∷ 255 ∷ []) ≡ at NoRegister 0
  -- levels 1 to 15, and states 0 to 2
  pub first_level : held (4 ∷ 1 ∷ 0 ∷ 255 ∷ []) ≡ one (Level 1 0)
  pub level_zero : held (4 ∷ 0 ∷ 1 ∷ 255 ∷ []) ≡ at LevelZero 0
  pub no_level : held (4 ∷ 16 ∷ 1 ∷ 255 ∷ []) ≡ at NoLevel 0
  pub no_state : held (4 ∷ 1 ∷ 3 ∷ 255 ∷ []) ≡ at NoState 0
  -- kinds that there are not, at their byte
  pub kind_zero : held (0 ∷ []) ≡ at UnknownKind 0
  pub kind_five : held (4 ∷ 1 ∷ 0 ∷ 5 ∷ []) ≡ at UnknownKind 3
  pub kind_254 : held (254 ∷ 255 ∷ []) ≡ at UnknownKind 0
  -- a record cut short, at its kind byte; no end, at the length; a byte behind the end, at it
  pub short_word : held (4 ∷ 1 ∷ 0 ∷ 1 ∷ 0 ∷ 0 ∷ 0 ∷ []) ≡ at CutShort 3
  pub short_protection : held (2 ∷ 3 ∷ 0x80 ∷ []) ≡ at CutShort 0
  pub short_register : held (3 ∷ 7 ∷ 0 ∷ []) ≡ at CutShort 0
  pub short_level : held (4 ∷ 1 ∷ []) ≡ at CutShort 0
  pub one_byte : held (1 ∷ []) ≡ at CutShort 0
  pub no_end : held (4 ∷ 1 ∷ 0 ∷ []) ≡ at CutShort 3
  pub after_end : held (4 ∷ 1 ∷ 0 ∷ 255 ∷ 255 ∷ []) ≡ at AfterEnd 4
  -- the earliest record wins; in it reading goes first, then the fields from the left
  pub earliest : held (4 ∷ 1 ∷ 3 ∷ 9 ∷ []) ≡ at NoState 0
  pub before_end : held (4 ∷ 1 ∷ 3 ∷ 255 ∷ 0 ∷ []) ≡ at NoState 0
  pub reading_first : held (1 ∷ 0xff ∷ 0xff ∷ 0 ∷ []) ≡ at CutShort 0
  pub number_first : held (4 ∷ 16 ∷ 3 ∷ 255 ∷ []) ≡ at NoLevel 0
  pub zero_first : held (4 ∷ 0 ∷ 3 ∷ 255 ∷ []) ≡ at LevelZero 0
  -- a reader stands behind what it read, and after a fault where it stood; a field that is missing is told at its record
  pub behind : left_at (0 ∷ 0 ∷ 0 ∷ 4 ∷ 1 ∷ 0 ∷ []) 3 ≡ 6
  pub behind_end : left_at (0 ∷ 0 ∷ 0 ∷ 255 ∷ []) 3 ≡ 4
  pub still : left_at (0 ∷ 0 ∷ 0 ∷ 5 ∷ []) 3 ≡ 3
  pub missing : word_at (2 ∷ 3 ∷ 0x80 ∷ []) 0 2 ≡ Err (record { cause = CutShort; place = 0 })
  -- over no bytes it finds no record and stands where it stood, so that it finds none when it is asked again
  pub nothing : (p : ℕ) → item_at [] p ≡ Ok None
  pub stays : (p : ℕ) → left_at [] p ≡ p
  -- whatever the law says is refused has one byte or more
  pub some_byte : (size : ℕ) (bs : List ℕ) (x : Fault) → Refused size bs x → 0 < length bs
  -- a load answers how many records there are
  pub counted_records : counted 0 (held (3 ∷ 1 ∷ 2 ∷ 0 ∷ 4 ∷ 3 ∷ 1 ∷ 255 ∷ [])) ≡ Ok 2
  -- the numbers and the layers, which are those of a fault wherever it is; where a call refuses the same, it has the same number
  pub numbers : map number causes ≡ 4 ∷ 5 ∷ 6 ∷ 7 ∷ 9 ∷ 10 ∷ 11 ∷ 12 ∷ []
  pub layers : map layer causes ≡ Storing ∷ Storing ∷ Storing ∷ Storing ∷ Reading ∷ Reading ∷ Reading ∷ Storing ∷ []
  pub found_by : (c : Cause) (place : ℕ) → fault_layer (fault c place) ≡ layer c
  pub calls : map call_number (CallNoRegister ∷ CallNoAddress ∷ CallNoLevel ∷ CallLevelZero ∷ []) ≡ map number (NoRegister ∷ NoAddress ∷ NoLevel ∷ LevelZero ∷ [])
