-- How a listing goes on from record to record.
use Rattle.std.proofs.Common.{◌≡◌, ℕ, List, [], ◌++◌, Some, None, Ok, Err, Option, Result, sym, refl, ap, ◌∙◌, append_assoc, append-nil, arith}
use Rattle.image.specs.declared.Fault.{Fault}
use Rattle.image.specs.declared.Record.{Record}
use Rattle.image.specs.Reading.{item_at, place_after, verdict}
use Rattle.image.proofs.Walks.{at_end, at_fault, from, from_start, onward}
use Rattle.listing.specs.Listing.{line, record_lines}
use Rattle.listing.specs.Text.{record_line}

-- t is the text of the records before p
pub record Listed (bs : List ℕ) (p : ℕ) (t : List ℕ) (rs : List Record) : Type 0 where
  pub rest : List Record
  pub left : from 8192 bs p ≡ Ok rest
  pub whole : record_lines rs ≡ t ++ record_lines rest

-- the same if the image is accepted
abbrev pub Listing : List ℕ → ℕ → List ℕ → Type 0
Listing bs p t = (rs : List Record) → verdict 8192 bs ≡ Ok rs → Listed bs p t rs

pub begin : (bs : List ℕ) → Listing bs 0 []
begin bs rs e = record { rest = rs; left = sym (from_start 8192 bs) ∙ e; whole = refl }

-- in the terms of the code: ms are the reader's bytes
module _ (ms bs : List ℕ) (p : ℕ) (same : ms ≡ bs) where
  -- the text t has the line of the record at p added to it
  pub goes_on : (r : Record) (i : Option Record) (after : ℕ) → i ≡ Some r → Ok i ≡ item_at ms p → after ≡ place_after ms p (Ok i)
      → (t u : List ℕ) → Listing bs p t → u ≡ t ++ line (record_line r) → Listing bs after u
  goes_on r i after is answer stands t u so_far added rs accepted =
      let l = so_far rs accepted in
      let o = onward 8192 bs p l.rest r l.left (ap (λ b. item_at b p) (sym same) ∙ sym answer ∙ ap Ok is) in
      record {
        rest = o.0;
        left = ap (from 8192 bs) (stands ∙ ap (λ j. place_after ms p (Ok j)) is) ∙ o.2;
        whole =
            l.whole ∙ ap (λ qs. t ++ record_lines qs) o.1 ∙ sym (append_assoc t (line (record_line r)) (record_lines o.0))
            ∙ ap (λ z. z ++ record_lines o.0) (sym added);
      }

  -- where no record follows, the text is whole
  pub ends : (x : Result (Option Record) Fault) → x ≡ item_at ms p → ((r : Record) → x ≡ Ok (Some r) → ⊥)
      → (t : List ℕ) → Listing bs p t → (rs : List Record) → verdict 8192 bs ≡ Ok rs → t ≡ record_lines rs
  ends x answer none t so_far rs v = by x (ap (λ b. item_at b p) (sym same) ∙ sym answer) none
    where
      l : Listed bs p t rs
      l = so_far rs v

      by : (y : Result (Option Record) Fault) → item_at bs p ≡ y → ((r : Record) → y ≡ Ok (Some r) → ⊥) → t ≡ record_lines rs
      by (Ok (Some r)) e n = absurd (n r refl)
      by (Ok None) e n =
          let last : l.rest ≡ [] = (let g = sym l.left ∙ at_end 8192 bs p e in cc) in
          sym (l.whole ∙ ap (λ qs. t ++ record_lines qs) last ∙ append-nil t)
      by (Err y) e n = absurd (let g = sym l.left ∙ at_fault 8192 bs p y e in let z : ◌≡◌ {A = ℕ} 0 1 = cc in omega arith)
