-- One record, or the end, at a place of an image.
use Rattle.std.proofs.Common.{◌≡◌, ℕ, ◌+◌, ◌-◌, ◌<◌, ◌≤◌, ◌⊎◌, List, [], ◌∷◌, ◌++◌, length, get_or, drop, Some, None, Ok, Err, sym, ap, ◌∙◌, inl, inr, arith}
use Rattle.std.proofs.lemmas.List.{drop_all, drop_more, get_or-drop, length-append, length-drop}
use Rattle.std.proofs.lemmas.Bool.Decides.{nat_tests}
use Rattle.image.specs.declared.Cause.TheVariants.{UnknownKind, CutShort, AfterEnd}
use Rattle.image.specs.declared.Fault.{Fault}
use Rattle.image.specs.declared.Layer.TheVariants.{Storing}
use Rattle.image.specs.declared.Record.{Record}
use Rattle.image.specs.Format.{encode_record, fault, fault_layer, kind_size, storing}
use Rattle.image.specs.Law.{Flaw, Storable, no_end, cut_short, unknown_kind, after_end}
use Rattle.image.specs.Reading.{item_at, size}

-- each number is a byte
abbrev pub Octets : List ℕ → Type 0
Octets bs = (k : ℕ) → get_or bs k 0 < 256

-- a record that can be stored at one place can be stored at any
pub storable_anywhere : (limit p : ℕ) (r : Record) → storing limit p r ≡ Ok tt → Storable limit r
storable_anywhere limit p r e q = grind (arith, nat_tests)

-- a record that cannot be stored is found in storing
pub found_in_storing : (limit p : ℕ) (r : Record) (x : Fault) → storing limit p r ≡ Err x → fault_layer x ≡ Storing
found_in_storing limit p r x e = grind (arith, nat_tests)

pub size_pos : (r : Record) → 0 < size r
size_pos r = grind arith

module _ (bs : List ℕ) (p : ℕ) where
  -- what is read lies in the bytes, as its encoding
  pub read : Octets bs → (r : Record) → item_at bs p ≡ Ok (Some r) → drop p bs ≡ encode_record r ++ drop (p + size r) bs
  read o r e = grind (arith, nat_tests, drop_more)

  pub within : (r : Record) → item_at bs p ≡ Ok (Some r) → p + size r ≤ length bs
  within r e = grind (arith, nat_tests)

  pub ended : 0 < length bs → item_at bs p ≡ Ok None → drop p bs ≡ 255 ∷ []
  ended some e = grind (arith, nat_tests, drop_more, drop_all)

  module _ (l : List ℕ) (here : drop p bs ≡ l) where
    reach : (i : ℕ) → get_or bs (p + i) 0 ≡ get_or l i 0
    reach i = sym (get_or-drop p bs i 0) ∙ ap (λ k. get_or k i 0) here

    left : length bs - p ≡ length l
    left = sym (length-drop p bs) ∙ ap length here

  -- an encoding that lies in the bytes is read
  pub read_back : (r : Record) (rest : List ℕ) → drop p bs ≡ encode_record r ++ rest → item_at bs p ≡ Ok (Some r)
  read_back r rest e =
      let f = reach _ e in
      grind (arith, nat_tests, left _ e, length-append (encode_record r) rest, f 0, f 1, f 2, f 3, f 4)

  pub end_back : drop p bs ≡ 255 ∷ [] → item_at bs p ≡ Ok None
  end_back e = grind (arith, nat_tests, left _ e, reach _ e 0)

  -- a fault in reading is a flaw of the bytes from there on
  pub faulty : (limit : ℕ) (x : Fault) → item_at bs p ≡ Err x → (l : List ℕ) → drop p bs ≡ l → Flaw limit p (fault_layer x) l x
  faulty limit x e [] f = let q : (x ≡ fault CutShort p) × (0 < p) = grind (arith, nat_tests, left _ f) in rw q.0 (no_end q.1)
  faulty limit x e (k ∷ rest) f =
      by rest (grind (arith, nat_tests, left _ f, reach _ f 0))
    where
      by : (l : List ℕ)
          → ((kind_size k ≡ 0) × (x ≡ fault UnknownKind p))
          ⊎ (((k ≡ 255) × (0 < length l) × (x ≡ fault AfterEnd (p + 1)))
          ⊎ ((1 + length l < kind_size k) × (x ≡ fault CutShort p)))
          → Flaw limit p (fault_layer x) (k ∷ l) x
      by l (inl u) = rw u.1 (unknown_kind k l u.0)
      by [] (inr (inl u)) = absurd (omega arith)
      by (b ∷ l) (inr (inl u)) = rw (u.0, u.2) (after_end b l)
      by l (inr (inr u)) = rw u.1 (cut_short k l (omega arith))
