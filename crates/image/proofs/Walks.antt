-- How the check of an image goes on from record to record.
use Rattle.std.proofs.Common.{◌≡◌, ℕ, zero, suc, ◌+◌, ◌-◌, ◌<◌, ◌≤◌, List, [], ◌∷◌, ◌++◌, length, drop, Some, None, Ok, Err, Option, Result, sym, refl, ap, ◌∙◌, append_assoc, arith}
use Rattle.std.proofs.lemmas.Bool.Decides.{nat_tests}
use Rattle.std.proofs.lemmas.List.{drop-drop, length-append}
use Rattle.std.proofs.lemmas.List.Prefix.{front_rest}
use Rattle.std.proofs.Math.Nat.{add-zero, add_assoc, zero-add}
use Rattle.image.specs.declared.Cause.TheVariants.{CutShort}
use Rattle.image.specs.declared.Fault.{Fault}
use Rattle.image.specs.declared.Record.{Record}
use Rattle.image.specs.Format.{encode, encode_record, encode_records, fault, fault_layer, storing}
use Rattle.image.specs.Law.{AllStorable, Complete, Flaw, ImageOf, Storable, Told, encoded, no_bytes, not_storable}
use Rattle.image.specs.Reading.{and_then, counted, item_at, place_after, records_from, size, verdict}
use Rattle.image.proofs.Items.{Octets, end_back, ended, faulty, found_in_storing, read, read_back, size_pos, storable_anywhere}

-- where there are bytes, any bound that is large enough serves
enough : (f g limit : ℕ) (bs : List ℕ) (p : ℕ) → 0 < length bs → length bs < f + p → length bs < g + p → records_from f limit bs p ≡ records_from g limit bs p
unfolding records_from
enough zero zero limit bs p some h k = refl
enough zero (suc g) limit bs p some h k = grind arith
enough (suc f) zero limit bs p some h k = grind arith
enough (suc f) (suc g) limit bs p some h k =
    simp (λ (r : Record). enough f g limit bs (p + size r) some (omega (arith, size_pos r)) (omega (arith, size_pos r)))

-- a record before those that follow it
abbrev first : Record → Result (List Record) Fault → Result (List Record) Fault
first r x = and_then x (λ rs. Ok (r ∷ rs))

-- the records from p on
abbrev pub from : ℕ → List ℕ → ℕ → Result (List Record) Fault
from limit bs p = records_from (suc (length bs - p)) limit bs p

module _ (limit : ℕ) (bs : List ℕ) (p : ℕ) where
  pub at_record : (r : Record) → item_at bs p ≡ Ok (Some r) → storing limit p r ≡ Ok tt → from limit bs p ≡ first r (from limit bs (p + size r))
  unfolding records_from
  at_record r e s =
      let some : 0 < length bs = grind (arith, nat_tests) in
      rw (e, s, enough (length bs - p) (suc (length bs - (p + size r))) limit bs (p + size r) some (omega (arith, size_pos r)) (omega (arith, size_pos r)))

  pub at_refusal : (r : Record) (x : Fault) → item_at bs p ≡ Ok (Some r) → storing limit p r ≡ Err x → from limit bs p ≡ Err x
  unfolding records_from
  at_refusal r x e s = rw (e, s)

  pub at_fault : (x : Fault) → item_at bs p ≡ Err x → from limit bs p ≡ Err x
  unfolding records_from
  at_fault x e = rw e

  pub at_end : item_at bs p ≡ Ok None → from limit bs p ≡ Ok []
  unfolding records_from
  at_end e = rw e

-- the encoding of storable records is read as those records
whole_back : (limit : ℕ) (bs : List ℕ) (p : ℕ) (rs : List Record) → drop p bs ≡ encode rs → AllStorable limit rs → from limit bs p ≡ Ok rs
whole_back limit bs p [] e s = at_end limit bs p (end_back bs p e)
whole_back limit bs p (r ∷ rs) e s =
    let b : drop p bs ≡ encode_record r ++ encode rs = e ∙ append_assoc (encode_record r) (encode_records rs) (255 ∷ []) in
    let c : drop (p + size r) bs ≡ encode rs = sym (drop-drop (size r) p bs) ∙ front_rest (drop p bs) (encode_record r) (encode rs) b in
    rw (at_record limit bs p r (read_back bs p r (encode rs) b) (s.0 p), whole_back limit bs (p + size r) rs c s.1)

-- the whole image is read from its first byte on
pub from_start : (limit : ℕ) (bs : List ℕ) → verdict limit bs ≡ from limit bs 0
unfolding verdict
from_start limit [] = refl
from_start limit (b ∷ bs) = enough (suc (length (b ∷ bs))) (suc (length (b ∷ bs) - 0)) limit (b ∷ bs) 0 (omega arith) (omega arith) (omega arith)

pub complete : (limit : ℕ) (bs : List ℕ) (rs : List Record) → ImageOf bs rs → AllStorable limit rs → verdict limit bs ≡ Ok rs
unfolding verdict records_from
complete limit _ _ no_bytes s = refl
complete limit _ _ (encoded rs) s = from_start limit (encode rs) ∙ whole_back limit (encode rs) 0 rs refl s

-- what the contract of the check asks of an answer
abbrev pub Answered : ℕ → List ℕ → Result ℕ Fault → Type 0
Answered limit bs r = record { answer : r ≡ counted 0 (verdict limit bs); told : Told limit bs r; complete : Complete limit bs r }

-- what the records from p on, or their fault, say of the bytes from there on
abbrev Tells : ℕ → List ℕ → ℕ → Result (List Record) Fault → Type 0
Tells limit bs p (Ok rs) = (drop p bs ≡ encode rs) × AllStorable limit rs
Tells limit bs p (Err x) =
    (before : List Record) × (rest : List ℕ) × (drop p bs ≡ encode_records before ++ rest) × AllStorable limit before × Flaw limit (p + length (encode_records before)) (fault_layer x) rest x

module _ (limit : ℕ) (bs : List ℕ) (o : Octets bs) (some : 0 < length bs) where
  module _ (p : ℕ) where
    -- a fault at p
    flawed : (x : Fault) → from limit bs p ≡ Err x → Flaw limit p (fault_layer x) (drop p bs) x → Tells limit bs p (from limit bs p)
    flawed x e f = rw e ([], drop p bs, refl, tt, simp add-zero f)

    -- a storable record at p, before the others
    one_more : (r : Record) → item_at bs p ≡ Ok (Some r) → Storable limit r → (v : Result (List Record) Fault) → Tells limit bs (p + size r) v → Tells limit bs p (first r v)
    one_more r e s (Ok rs) t = (simp (read bs p o r e, t.0, append_assoc), (s, t.1))
    one_more r e s (Err x) t =
        (r ∷ t.0, t.1, simp (read bs p o r e, t.2, append_assoc), (s, t.3), simp length-append (simp add_assoc at t.4))

    -- whatever stands at p, if the same is known further on
    module _ (further : (q : ℕ) → p < q → Tells limit bs q (from limit bs q)) where
      stored : (r : Record) → item_at bs p ≡ Ok (Some r) → (s : Result (Unit {0}) Fault) → storing limit p r ≡ s → Tells limit bs p (from limit bs p)
      stored r e (Ok u) s = rw (at_record limit bs p r e s) (one_more r e (storable_anywhere limit p r s) _ (further (p + size r) (omega (arith, size_pos r))))
      stored r e (Err x) s = flawed x (at_refusal limit bs p r x e s) (rw (read bs p o r e, found_in_storing limit p r x s) (not_storable r _ x s))

      item : (i : Result (Option Record) Fault) → item_at bs p ≡ i → Tells limit bs p (from limit bs p)
      item (Err x) e = flawed x (at_fault limit bs p x e) (faulty bs p limit x e _ refl)
      item (Ok None) e = rw (at_end limit bs p e) (ended bs p some e, tt)
      item (Ok (Some r)) e = stored r e (storing limit p r) refl

  -- at each place; f only bounds the recursion
  tells : (f p : ℕ) → length bs < f + p → Tells limit bs p (from limit bs p)
  tells zero p h = let past : item_at bs p ≡ Err (fault CutShort p) = grind arith in flawed p _ (at_fault limit bs p _ past) (faulty bs p limit _ past _ refl)
  tells (suc f) p h = item p (λ q m. tells f q (omega arith)) (item_at bs p) refl

  told : (v : Result (List Record) Fault) → Tells limit bs 0 v → Told limit bs (counted 0 v)
  told (Ok rs) t = record { records = rs; image = rw t.0 (encoded rs); storable = t.1; count = omega arith }
  told (Err x) t = record { before = t.0; rest = t.1; split = t.2; storable = t.3; flaw = simp zero-add at t.4 }

-- what the verdict says of the whole image
verdict_told : (limit : ℕ) (bs : List ℕ) → Octets bs → Told limit bs (counted 0 (verdict limit bs))
unfolding verdict records_from
verdict_told limit [] o = record { records = []; image = no_bytes; storable = tt; count = refl }
verdict_told limit (b ∷ bs) o =
    let some : 0 < length (b ∷ bs) = omega arith in
    rw (from_start limit (b ∷ bs)) (told limit (b ∷ bs) o some _ (tells limit (b ∷ bs) o some (suc (length (b ∷ bs))) 0 (omega arith)))

-- an answer that is the verdict's is lawful
lawful : (limit : ℕ) (bs : List ℕ) → Octets bs → (r : Result ℕ Fault) → r ≡ counted 0 (verdict limit bs) → Answered limit bs r
lawful limit bs o r a = record {
  answer = a;
  told = rw a (verdict_told limit bs o);
  complete = λ rs e s. a ∙ ap (counted 0) (complete limit bs rs e s) ∙ ap Ok (omega arith);
}

counted_first : (n : ℕ) (r : Record) (x : Result (List Record) Fault) → counted n (first r x) ≡ counted (n + 1) x
counted_first n r x = grind arith

-- how far the check has come: n records and those from p on are the image's, and ms are the reader's bytes
pub record Progress (limit : ℕ) (ms bs : List ℕ) (p n : ℕ) : Type 0 where
  pub same : ms ≡ bs
  pub octets : Octets bs
  pub few : n ≤ p
  pub left : counted 0 (verdict limit bs) ≡ counted n (from limit bs p)

pub start : (limit : ℕ) (ms bs : List ℕ) (p : ℕ) → ms ≡ bs → Octets bs → p ≡ 0 → Progress limit ms bs p 0
start limit ms bs p s o z = record { same = s; octets = o; few = omega arith; left = rw z (ap (counted 0) (from_start limit bs)) }

-- the steps of the check, in the terms of the code
module _ {limit : ℕ} {ms bs : List ℕ} {p n : ℕ} (now_at : Progress limit ms bs p n) where
  exits : (r : Result ℕ Fault) → r ≡ counted n (from limit bs p) → Answered limit bs r
  exits r e = lawful limit bs now_at.octets r (e ∙ sym now_at.left)

  pub accepts : (i : Option Record) → Ok i ≡ item_at ms p → i ≡ None → Answered limit bs (Ok n)
  accepts i a e = let here : item_at bs p ≡ Ok None = cc in exits (Ok n) (rw (at_end limit bs p here) (ap Ok (omega arith)))

  pub misreads : (x : Fault) → Err x ≡ item_at ms p → Answered limit bs (Err x)
  misreads x a = let here : item_at bs p ≡ Err x = cc in exits (Err x) (rw (at_fault limit bs p x here))

  module _ (i : Option Record) (r : Record) (a : Ok i ≡ item_at ms p) (e : i ≡ Some r) where
    here : item_at bs p ≡ Ok (Some r)
    here = cc

    pub refuses : (x : Fault) → Err x ≡ storing limit p r → Answered limit bs (Err x)
    refuses x s = exits (Err x) (rw (at_refusal limit bs p r x here (sym s)))

    pub goes_on : (ns : List ℕ) (after : ℕ) → ns ≡ ms → after ≡ place_after ms p (Ok i) → Ok tt ≡ storing limit p r → Progress limit ns bs after (n + 1)
    goes_on ns after b f s =
        let k : after ≡ p + size r = grind arith in
        record {
          same = b ∙ now_at.same;
          octets = now_at.octets;
          few = omega (arith, size_pos r);
          left = rw k (now_at.left ∙ ap (counted n) (at_record limit bs p r here (sym s)) ∙ counted_first n r _);
        }

-- what is left of the records once one of them has been read
pub onward : (limit : ℕ) (bs : List ℕ) (p : ℕ) (rest : List Record) (r : Record) → from limit bs p ≡ Ok rest → item_at bs p ≡ Ok (Some r)
    → (more : List Record) × (rest ≡ r ∷ more) × (from limit bs (p + size r) ≡ Ok more)
onward limit bs p rest r e i =
    by (storing limit p r) (from limit bs (p + size r)) refl refl
  where
    by : (s : Result (Unit {0}) Fault) (v : Result (List Record) Fault) → storing limit p r ≡ s → from limit bs (p + size r) ≡ v
        → (more : List Record) × (rest ≡ r ∷ more) × (from limit bs (p + size r) ≡ Ok more)
    by (Ok u) (Ok more) s f = (more, cc (at_record limit bs p r i s, ap (first r) f), f)
    by (Ok u) (Err x) s f = absurd (cc (at_record limit bs p r i s, ap (first r) f))
    by (Err x) v s f = absurd (cc (at_refusal limit bs p r x i s))
