-- The sum of the machine is that in signed numbers.
use Rattle.std.proofs.Common.{◌≡◌, ℕ, ◌+◌, ◌*◌, ◌<◌, ◌%◌, Bool, true, false, cond, refl, sym, ap, ◌∙◌, arith}
use Rattle.std.specs.Prelude.{codes, pos, ◌+ℤ◌, ◌-ℤ◌}
use Rattle.std.specs.Fmt.{digits}
use Rattle.std.specs.Int.{int_rem_euclid}
use Rattle.std.proofs.lemmas.Int.{int_rem_euclid_is, ints}
use Rattle.levels.specs.Bits.{bit, one}
use Rattle.machine.specs.Decode.{displacement, relative}
use Rattle.comparison.specs.declared.Case.{Case}
use Rattle.comparison.specs.Cases.{AsMachine, comparison_line, differing, differing_at, differing_by, differs, remainder, word_of}
use Rattle.comparison.proofs.Cases.{all_zero, last_address, more}

-- i + D - 256 S by the 16-bit sum
signed : (i d : ℕ) (s : Bool) → int_rem_euclid (pos i +ℤ pos d -ℤ pos (256 * one s)) (pos 65536) ≡ pos ((i + d + cond s 65280 0) % 65536)
signed i d true = int_rem_euclid_is (pos i +ℤ pos d -ℤ pos 256) (pos 65536) 65536 1 (i + d + 65280) (omega arith) refl (omega (arith, ints))
signed i d false = int_rem_euclid_is (pos i +ℤ pos d -ℤ pos 0) (pos 65536) 65536 0 (i + d + 0) (omega arith) refl (omega (arith, ints))

-- a sum that is the same number does not differ
same : (sum : ℕ → ℕ → ℕ) (c : Case) → remainder c ≡ pos (sum c.address (word_of c)) → differs sum c ≡ false
same sum c e = grind (arith, ints)

-- the D and S of the word of a case
fields : (d : ℕ) (s : Bool) → d < 256 → (displacement (d + 256 * one s) ≡ d) × (bit (d + 256 * one s) 7 ≡ s)
fields d true h = grind arith
fields d false h = grind arith

in_range : (d : ℕ) (s : Bool) → d < 256 → d + 256 * one s < 65536
in_range d true h = omega arith
in_range d false h = omega arith

-- so an adder that makes what the machine makes differs nowhere
module _ (sum : ℕ → ℕ → ℕ) (m : AsMachine sum) where
  agrees : (i d : ℕ) (s : Bool) → i < 65536 → d < 256 → differs sum (record { address = i; displacement = d; backward = s }) ≡ false
  agrees i d s l h =
      let f = fields d s h in
      let c : Case = record { address = i; displacement = d; backward = s } in
      let e : remainder c ≡ pos (relative i (word_of c)) = signed i d s ∙ rw (f.0, f.1) refl in
      same sum c (e ∙ ap pos (sym (m i (word_of c) l (in_range d s h))))

  none_by : (i d : ℕ) → i < 65536 → d < 256 → differing_by sum i d ≡ 0
  none_by i d l h = rw (agrees i d false l h, agrees i d true l h) refl

  none_at : (i : ℕ) → i < 65536 → differing_at sum i ≡ 0
  unfolding differing_at
  none_at i l = all_zero (differing_by sum i) 256 (λ d h. none_by i d l h)

  none_differs : differing sum ≡ 0
  unfolding differing
  none_differs = all_zero (differing_at sum) 65536 none_at

  pub machine_agrees : (differences : ℕ) → differences ≡ differing sum → differences ≡ 0
  machine_agrees differences d = d ∙ none_differs

  pub machine_shown : (cases differences : ℕ) → cases ≡ 33554432 → differences ≡ differing sum → comparison_line cases differences ≡ codes "33554432 0\n"
  unfolding digits
  machine_shown cases differences c d = rw (c, machine_agrees differences d) refl

pub ruleset addresses = (more, last_address, machine_agrees, machine_shown)
