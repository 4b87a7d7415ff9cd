-- Reading an image, byte by byte: what stands at a place, and what a whole image holds.
use Rattle.std.specs.Prelude.{ℕ, zero, suc, ◌+◌, ◌*◌, cond, List, [], ◌∷◌, length, Some, None, Ok, Err, Option, Result, ◌==◌, nat_le, nat_lt, slice_index}
use Rattle.image.specs.declared.Cause.TheVariants.{UnknownKind, CutShort, AfterEnd}
use Rattle.image.specs.declared.Fault.{Fault}
use Rattle.image.specs.declared.Record.{Record}
use Rattle.image.specs.declared.Record.TheVariants.{Word, Protection, Register, Level}
use Rattle.image.specs.declared.reader.Reader.{Reader}
use Rattle.image.specs.Format.{encode_record, fault, kind_size, storing}

-- x, if the n bytes from p on are there; otherwise the record that begins at start is cut short
abbrev pub whole : {X : Type 0} → List ℕ → ℕ → ℕ → ℕ → X → Result X Fault
whole bs start p n x = cond (nat_le (p + n) (length bs)) (Ok x) (Err (fault CutShort start))

-- the byte at p, of the record that begins at start
abbrev pub byte_at : List ℕ → ℕ → ℕ → Result ℕ Fault
byte_at bs start p = whole bs start p 1 (slice_index bs p)

-- the 16-bit number whose high byte stands at p
abbrev pub number_at : List ℕ → ℕ → ℕ
number_at bs p = slice_index bs p * 256 + slice_index bs (p + 1)

-- that number, of the record that begins at start
abbrev pub word_at : List ℕ → ℕ → ℕ → Result ℕ Fault
word_at bs start p = whole bs start p 2 (number_at bs p)

-- how many bytes a record has, with its kind
abbrev pub size : Record → ℕ
size r = length (encode_record r)

-- the end at p, behind which no byte may stand
abbrev pub end_at : List ℕ → ℕ → Result (Option Record) Fault
end_at bs p = cond (nat_lt (p + 1) (length bs)) (Err (fault AfterEnd (p + 1))) (Ok None)

-- the record whose kind k stands at p
abbrev pub record_at : List ℕ → ℕ → ℕ → Record
record_at bs p k =
    cond (k == 1) (Word (number_at bs (p + 1)) (number_at bs (p + 3)))
    (cond (k == 2) (Protection (slice_index bs (p + 1)) (number_at bs (p + 2)))
    (cond (k == 3) (Register (slice_index bs (p + 1)) (number_at bs (p + 2)))
    (Level (slice_index bs (p + 1)) (slice_index bs (p + 2)))))

-- what the kind k at p begins: a record or the end, of n bytes
abbrev pub of_kind : List ℕ → ℕ → ℕ → ℕ → Result (Option Record) Fault
of_kind bs p k n =
    cond (n == 0) (Err (fault UnknownKind p)) (cond (k == 255) (end_at bs p) (whole bs p p n (Some (record_at bs p k))))

-- what stands at p: a record; None at the end, and in an image of no bytes; or a fault
abbrev pub item_at : List ℕ → ℕ → Result (Option Record) Fault
item_at bs p =
    cond (length bs == 0) (Ok None)
    (cond (nat_lt p (length bs)) (of_kind bs p (slice_index bs p) (kind_size (slice_index bs p))) (Err (fault CutShort p)))

-- where a reader at p stands once it has read an item: behind it, or still at p after a fault and where there are no bytes
abbrev pub place_after : List ℕ → ℕ → Result (Option Record) Fault → ℕ
place_after bs p (Ok (Some r)) = p + size r
place_after bs p (Ok None) = cond (length bs == 0) p (p + 1)
place_after bs p (Err x) = p

-- a reader n bytes further on
abbrev pub ahead : ℕ → Reader → Reader
ahead n r = record { bytes = r.bytes; place = r.place + n }

-- what k makes of a value, unless there is a fault
abbrev pub and_then : {X Y : Type 0} → Result X Fault → (X → Result Y Fault) → Result Y Fault
and_then (Ok x) k = k x
and_then (Err x) k = Err x

-- no records where none stands, else what k makes of the one that does
abbrev pub unless_none : Option Record → (Record → Result (List Record) Fault) → Result (List Record) Fault
unless_none None k = Ok []
unless_none (Some r) k = k r

-- the records from p on, if each can be stored beside `limit` words; the first number only bounds the recursion, and an image's length and 1 more is enough
unfoldable pub records_from : ℕ → ℕ → List ℕ → ℕ → Result (List Record) Fault
records_from zero limit bs p = Err (fault CutShort p)
records_from (suc n) limit bs p =
    and_then (item_at bs p) (λ item. unless_none item (λ r. and_then (storing limit p r) (λ _.
    and_then (records_from n limit bs (p + size r)) (λ rs. Ok (r ∷ rs)))))

-- the records of an image for a memory of `limit` words, or the fault that comes first
unfoldable pub verdict : ℕ → List ℕ → Result (List Record) Fault
verdict limit bs = records_from (suc (length bs)) limit bs 0

-- how many records there are beside n others
abbrev pub counted : ℕ → Result (List Record) Fault → Result ℕ Fault
counted n x = and_then x (λ rs. Ok (n + length rs))
