-- A new processor over 8192 zero words, once an image is loaded.
use Rattle.std.proofs.Common.{◌≡◌, ℕ, List, length, replicate, Ok, Err, Result, refl, ap, ◌∙◌, arith}
use Rattle.std.proofs.lemmas.List.{length-replicate}
use Rattle.image.specs.declared.Fault.{Fault}
use Rattle.image.specs.declared.Record.{Record}
use Rattle.image.specs.Reading.{counted, verdict}
use Rattle.memory.specs.Words.{front}
use Rattle.machine.specs.State.{Cpu, Machine, initial}
use Rattle.engine.specs.Loads.{load_after, loaded}
use Rattle.listing.specs.Listing.{blank}
use Rattle.listing.proofs.Reports.{block}

module _ (bs ws : List ℕ) (s : Cpu) (zero : ws ≡ replicate 8192 0) (new : s ≡ initial) where
  limited : length (front ws) ≡ 8192
  limited = ap length (block 8192 ws zero refl) ∙ length-replicate {A = ℕ} 8192 0

  starts : record { cpu = s; words = front ws } ≡ blank
  unfolding blank
  starts = λ i. record { cpu = new i; words = block 8192 ws zero refl i }

  -- the records of an accepted image, and the machine with them
  pub accepted : (n : ℕ) (m : Machine) → Ok n ≡ counted 0 (verdict (length (front ws)) bs)
      → m ≡ load_after (verdict (length (front ws)) bs) (record { cpu = s; words = front ws }) → (rs : List Record) × (verdict 8192 bs ≡ Ok rs) × (m ≡ loaded rs blank)
  accepted n m answer after = by (verdict 8192 bs) refl
    where
      by : (v : Result (List Record) Fault) → verdict 8192 bs ≡ v → (rs : List Record) × (verdict 8192 bs ≡ Ok rs) × (m ≡ loaded rs blank)
      by (Ok rs) e = (rs, e, after ∙ (λ i. load_after (verdict (limited i) bs) (starts i)) ∙ ap (λ v. load_after v blank) e)
      by (Err x) e = absurd (let f = answer ∙ ap (λ k. counted 0 (verdict k bs)) limited ∙ ap (counted 0) e in let z : ◌≡◌ {A = ℕ} 0 1 = cc in omega arith)
