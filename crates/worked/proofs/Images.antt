-- The worked cases of images, by computation, and that what is refused has a byte.
use Rattle.std.proofs.Common.{ℕ, ◌+◌, ◌<◌, List, length, refl, ap, arith}
use Rattle.std.proofs.lemmas.List.{length-append}
use Rattle.image.specs.declared.Fault.{Fault}
use Rattle.image.specs.declared.Layer.{Layer}
use Rattle.image.specs.declared.Record.{Record}
use Rattle.image.specs.Format.{encode_record, encode_records}
use Rattle.image.specs.Law.{Flaw, Refused, after_end, cut_short, no_end, not_storable, unknown_kind}
use Rattle.image.specs.Reading.{records_from, verdict}
use Rattle.worked.specs.Images.{Images}

-- a record has a byte
has_kind : (r : Record) → 0 < length (encode_record r)
has_kind r = grind arith

-- a byte stands before a flaw, or in it
reached : (size p : ℕ) (l : Layer) (bs : List ℕ) (x : Fault) → Flaw size p l bs x → 0 < p + length bs
reached size p _ _ _ (no_end h) = omega arith
reached size p _ _ _ (cut_short k rest h) = omega arith
reached size p _ _ _ (unknown_kind k rest e) = omega arith
reached size p _ _ _ (after_end b rest) = omega arith
reached size p _ _ _ (not_storable r rest x e) = omega (arith, length-append (encode_record r) rest, has_kind r)

some_byte : (size : ℕ) (bs : List ℕ) (x : Fault) → Refused size bs x → 0 < length bs
some_byte size bs x r =
    omega (arith, ap length r.split, length-append (encode_records r.before) r.rest, reached size _ _ _ _ r.flaw)

pub images : Images
unfolding verdict records_from
images = record {
  no_bytes = refl;
  none = refl;
  word = refl;
  protection = refl;
  register = refl;
  level = refl;
  order = refl;
  encoded = refl;
  last_address = refl;
  no_address = refl;
  last_protection = refl;
  no_protection = refl;
  first_register = refl;
  register_zero = refl;
  no_register = refl;
  first_level = refl;
  level_zero = refl;
  no_level = refl;
  no_state = refl;
  kind_zero = refl;
  kind_five = refl;
  kind_254 = refl;
  short_word = refl;
  short_protection = refl;
  short_register = refl;
  short_level = refl;
  one_byte = refl;
  no_end = refl;
  after_end = refl;
  earliest = refl;
  before_end = refl;
  reading_first = refl;
  number_first = refl;
  zero_first = refl;
  behind = refl;
  behind_end = refl;
  still = refl;
  missing = refl;
  nothing = λ p. refl;
  stays = λ p. refl;
  some_byte = some_byte;
  counted_records = refl;
  numbers = refl;
  layers = refl;
  found_by = λ c place. refl;
  calls = refl;
}
