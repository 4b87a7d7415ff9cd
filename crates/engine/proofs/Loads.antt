-- How loading goes on from record to record.
use Rattle.std.proofs.Common.{◌≡◌, ℕ, ◌+◌, List, [], length, Some, None, Ok, Err, Option, Result, sym, refl, ap, ◌∙◌, subst, arith}
use Rattle.image.specs.declared.Fault.{Fault}
use Rattle.image.specs.declared.Record.{Record}
use Rattle.image.specs.Law.{Complete, Told}
use Rattle.image.specs.Reading.{counted, item_at, place_after, size, verdict}
use Rattle.image.proofs.Walks.{at_end, at_fault, complete, from, from_start, onward}
use Rattle.machine.specs.State.{Machine}
use Rattle.engine.specs.Loads.{Law, load_after, loaded, stored}

-- the records from p on are still to be stored
pub record Loading (limit : ℕ) (bs : List ℕ) (p : ℕ) (before m : Machine) : Type 0 where
  pub rest : List Record
  pub left : from limit bs p ≡ Ok rest
  pub whole : load_after (verdict limit bs) before ≡ loaded rest m

pub begin : (limit : ℕ) (bs : List ℕ) (n : ℕ) (m : Machine) → Ok n ≡ counted 0 (verdict limit bs) → Loading limit bs 0 m m
begin limit bs n m e = by (verdict limit bs) refl
  where
    by : (v : Result (List Record) Fault) → verdict limit bs ≡ v → Loading limit bs 0 m m
    by (Ok rs) f = record { rest = rs; left = sym (from_start limit bs) ∙ f; whole = ap (λ v. load_after v m) f }
    by (Err x) f = absurd (let g = e ∙ ap (counted 0) f in let z : ◌≡◌ {A = ℕ} 0 1 = cc in omega arith)

-- the same in the terms of the code: ms are the reader's bytes
module _ (limit : ℕ) (ms bs : List ℕ) (p : ℕ) (before m : Machine) (same : ms ≡ bs) (now_at : Loading limit bs p before m) where
  pub goes_on : (i : Option Record) (r : Record) (after : ℕ) (n : Machine) → Ok i ≡ item_at ms p → i ≡ Some r → after ≡ place_after ms p (Ok i) → n ≡ stored r m → Loading limit bs after before n
  goes_on i r after n a e f s =
      let here : item_at bs p ≡ Ok (Some r) = ap (λ l. item_at l p) (sym same) ∙ sym a ∙ ap Ok e in
      let o = onward limit bs p now_at.rest r now_at.left here in
      let k : after ≡ p + size r = f ∙ ap (λ j. place_after ms p (Ok j)) e in
      rw (k, s) (record { rest = o.0; left = o.2; whole = now_at.whole ∙ ap (λ rs. loaded rs m) o.1 })

  pub ends : (i : Option Record) → Ok i ≡ item_at ms p → i ≡ None → m ≡ load_after (verdict limit bs) before
  ends i a e =
      let here : item_at bs p ≡ Ok None = ap (λ l. item_at l p) (sym same) ∙ sym a ∙ ap Ok e in
      let none : now_at.rest ≡ [] = (let f = sym now_at.left ∙ at_end limit bs p here in cc) in
      sym (now_at.whole ∙ ap (λ rs. loaded rs m) none)

  -- once an image is accepted, none of its records is misread
  pub never : (x : Fault) → Err x ≡ item_at ms p → ⊥
  never x a =
      let here : item_at bs p ≡ Err x = ap (λ l. item_at l p) (sym same) ∙ sym a in
      let f = sym now_at.left ∙ at_fault limit bs p x here in
      let z : ◌≡◌ {A = ℕ} 0 1 = cc in omega arith

-- the law, from the verdict
pub lawful : (bs : List ℕ) (r : Result ℕ Fault) (before after : Machine)
    → let limit : ℕ = length before.words in r ≡ counted 0 (verdict limit bs) → Told limit bs r → Complete limit bs r
    → after ≡ load_after (verdict limit bs) before → Law bs r before after
lawful bs r before after a t c l =
    record {
      told = t;
      loads = λ rs e s. (c rs e s, l ∙ ap (λ v. load_after v before) (complete limit bs rs e s));
      leaves = λ x e. l ∙ ap (λ v. load_after v before) (by x e (verdict limit bs) refl);
    }
  where
    limit : ℕ
    limit = length before.words

    by : (x : Fault) → r ≡ Err x → (v : Result (List Record) Fault) → verdict limit bs ≡ v → verdict limit bs ≡ Err x
    by x e (Ok rs) f = absurd (let g = sym e ∙ a ∙ ap (counted 0) f in let z : ◌≡◌ {A = ℕ} 0 1 = cc in omega arith)
    by x e (Err y) f = let g = sym e ∙ a ∙ ap (counted 0) f in cc

-- the same for a size that was asked of the memory
pub lawful_at : (size : ℕ) (bs : List ℕ) (r : Result ℕ Fault) (before after : Machine) → size ≡ length before.words
    → r ≡ counted 0 (verdict size bs) → Told size bs r → Complete size bs r → after ≡ load_after (verdict (length before.words) bs) before → Law bs r before after
lawful_at size bs r before after e a t c l =
    lawful bs r before after (a ∙ ap (λ n. counted 0 (verdict n bs)) e) (subst (λ n. Told n bs r) e t) (subst (λ n. Complete n bs r) e c) l
