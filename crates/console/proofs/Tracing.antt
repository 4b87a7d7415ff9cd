-- How a trace goes on, line by line.
use Rattle.std.proofs.Common.{◌≡◌, ℕ, suc, ◌+◌, ◌-◌, ◌<◌, ◌≤◌, Bool, true, false, cond, eqb, List, [], ◌∷◌, sym, refl, ap, ◌∙◌, arith}
use Rattle.std.proofs.lemmas.Bool.{cond-false, le-ltb}
use Rattle.machine.specs.Calls.{total}
use Rattle.machine.specs.State.{Machine}
use Rattle.machine.specs.Step.{step}
use Rattle.machine.proofs.Tallies.{total_tallied}
use Rattle.console.specs.declared.signals.Signal.{Signal}
use Rattle.console.specs.Traces.{Traced, begun, ended, signal_at, signals_at, step_at, trace_of, traced}

-- signals are no steps
pub signals_count : (n : ℕ) (ss : List Signal) (x : Traced) → (signals_at n ss x).counts ≡ x.counts
signals_count n [] x = refl
signals_count n (s ∷ ss) x = signals_count n ss (cond (eqb s.step n) (signal_at s.level x) x) ∙ one (eqb s.step n)
  where
    one : (b : Bool) → (cond b (signal_at s.level x) x).counts ≡ x.counts
    one true = refl
    one false = refl

-- i of n steps have been made
pub record Half (n i : ℕ) (ss : List Signal) (start x : Traced) : Type 0 where
  pub goes : traced n 0 ss start ≡ traced (n - i) i ss x
  pub sum : total x.counts ≡ i

pub half_counts : (n i : ℕ) (ss : List Signal) (start x y : Traced) → Half n i ss start x → y ≡ signals_at i ss x → total y.counts ≡ i
half_counts n i ss start x y h e = ap total (ap (λ z. z.counts) e ∙ signals_count i ss x) ∙ h.sum

pub half_more : (n i : ℕ) (ss : List Signal) (start x y z : Traced) → i < n → Half n i ss start x → y ≡ signals_at i ss x → z ≡ step_at i y → Half n (i + 1) ss start z
half_more n i ss start x y z l h e f =
    let k : n - i ≡ suc (n - (i + 1)) = omega arith in
    record {
      goes = h.goes ∙ ap (λ j. traced j i ss x) k ∙ ap (λ w. traced (n - (i + 1)) (i + 1) ss (step_at i w)) (sym e) ∙ ap (traced (n - (i + 1)) (i + 1) ss) (sym f);
      sum = ap (λ w. total w.counts) f ∙ total_tallied (step y.machine).outcome y.counts ∙ ap (λ j. j + 1) (half_counts n i ss start x y h e);
    }

-- the text of all steps, the counts and the latest violation
pub whole : (n i : ℕ) (ss : List Signal) (m : Machine) (x : Traced) → n ≤ 1000000 → n ≤ i → Half n i ss (begun m) x → ended x ≡ trace_of n ss m
whole n i ss m x short all h =
    let z : n - i ≡ 0 = omega arith in
    let done : traced n 0 ss (begun m) ≡ x = h.goes ∙ ap (λ k. traced k i ss x) z in
    ap ended (sym done) ∙ sym (cond-false _ _ _ (le-ltb 1000000 n short))
