-- The text of an image, from what loading it answers.
use Rattle.std.proofs.Common.{◌≡◌, ℕ, ◌+◌, List, ◌++◌, length, take, replicate, Ok, Err, Result, sym, refl, ap, ◌∙◌, append_assoc, arith}
use Rattle.std.proofs.lemmas.List.{length-replicate, take_all}
use Rattle.image.specs.declared.Fault.{Fault}
use Rattle.image.specs.declared.Record.{Record}
use Rattle.image.specs.Reading.{counted, verdict}
use Rattle.memory.specs.Words.{front, whole}
use Rattle.machine.specs.State.{Cpu, Machine, initial}
use Rattle.engine.specs.Loads.{load_after, loaded}
use Rattle.listing.specs.Listing.{blank, line, listing, map_after, record_lines, report}
use Rattle.listing.specs.Text.{loaded_line, map_line}

-- one block of words is a memory of its own
pub block : (n : ℕ) (ws : List ℕ) → ws ≡ replicate n 0 → n ≡ 8192 → front ws ≡ replicate n 0
block n ws e f =
    let l : length ws ≡ n = ap length e ∙ length-replicate {A = ℕ} n 0 in
    take_all (whole (length ws)) ws (omega arith) ∙ e

module _ (raw bs ws : List ℕ) (s : Cpu) (cut : bs ≡ take 65536 raw) (zero : ws ≡ replicate 8192 0) (new : s ≡ initial) where
  limited : length (front ws) ≡ 8192
  limited = ap length (block 8192 ws zero refl) ∙ length-replicate {A = ℕ} 8192 0

  found : (v : Result (List Record) Fault) → verdict 8192 bs ≡ v → listing raw ≡ report v
  found v e = ap (λ l. report (verdict 8192 l)) (sym cut) ∙ ap report e

  starts : record { cpu = s; words = front ws } ≡ blank
  unfolding blank
  starts = λ i. record { cpu = new i; words = block 8192 ws zero refl i }

  -- an accepted image: the texts of its records, their number and the protection registers, one after another
  pub accepted : (n : ℕ) (m : Machine) (t : List ℕ) (ps : List ℕ)
      → Ok n ≡ counted 0 (verdict (length (front ws)) bs) → m ≡ load_after (verdict (length (front ws)) bs) (record { cpu = s; words = front ws })
      → ((rs : List Record) → verdict 8192 bs ≡ Ok rs → t ≡ record_lines rs) → ps ≡ m.cpu.guard.protection
      → (t ++ line (loaded_line n)) ++ line (map_line ps) ≡ listing raw
  accepted n m t ps answer after lines shows = by (verdict 8192 bs) refl
    where
      by : (v : Result (List Record) Fault) → verdict 8192 bs ≡ v → (t ++ line (loaded_line n)) ++ line (map_line ps) ≡ listing raw
      by (Ok rs) e =
          let v : verdict (length (front ws)) bs ≡ Ok rs = ap (λ k. verdict k bs) limited ∙ e in
          let count : n ≡ length rs = (let f = answer ∙ ap (counted 0) v in let g : n ≡ 0 + length rs = cc in omega arith) in
          let map : ps ≡ map_after rs = shows ∙ ap (λ k. k.cpu.guard.protection) (after ∙ ap (λ x. load_after x (record { cpu = s; words = front ws })) v ∙ ap (loaded rs) starts) in
          (λ i. (lines rs e i ++ line (loaded_line (count i))) ++ line (map_line (map i)))
          ∙ append_assoc (record_lines rs) (line (loaded_line (length rs))) (line (map_line (map_after rs)))
          ∙ sym (found (Ok rs) e)
      by (Err x) e = absurd (let f = answer ∙ ap (λ k. counted 0 (verdict k bs)) limited ∙ ap (counted 0) e in let z : ◌≡◌ {A = ℕ} 0 1 = cc in omega arith)
