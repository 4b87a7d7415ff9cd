-- Runs, step by step.
use Rattle.std.proofs.Common.{◌≡◌, ℕ, suc, ◌+◌, ◌-◌, ◌<◌, ◌≤◌, true, List, replicate, Ok, Result, sym, ap, ◌∙◌, add-zero, add_assoc, arith}
use Rattle.std.proofs.lemmas.Bool.{cond-false, le-ltb}
use Rattle.machine.specs.declared.call.Call.TheVariants.{Run}
use Rattle.machine.specs.declared.call.Counts.{Counts}
use Rattle.machine.specs.declared.call.Outcome.{Outcome}
use Rattle.machine.specs.declared.refusal.Refusal.{Refusal}
use Rattle.machine.specs.Calls.{after_call, counted, counts_of, end, if_ok, no_counts, or_refusal, plus, run_answer, run_refusal, run_trail, tallied, tick, total, trail}
use Rattle.machine.specs.State.{Machine}
use Rattle.machine.specs.Step.{Moment, step}
use Rattle.machine.proofs.Tallies.{total_tallied}
use Rattle.isolation.specs.Isolation.{Confined}
use Rattle.isolation.specs.Steps.{Each}
use Rattle.isolation.proofs.Theorem.{each, step_confined}

plus_assoc : (x y z : Counts) → plus x (plus y z) ≡ plus (plus x y) z
plus_assoc x y z = λ i. record {
  done = sym (add_assoc x.done y.done z.done) i;
  not_carried = sym (add_assoc x.not_carried y.not_carried z.not_carried) i;
  violations = sym (add_assoc x.violations y.violations z.violations) i;
  stalls = sym (add_assoc x.stalls y.stalls z.stalls) i;
  entries = sym (add_assoc x.entries y.entries z.entries) i;
  idles = sym (add_assoc x.idles y.idles z.idles) i;
}

plus_none : (x : Counts) → plus x no_counts ≡ x
plus_none x = λ i. record {
  done = add-zero x.done i;
  not_carried = add-zero x.not_carried i;
  violations = add-zero x.violations i;
  stalls = add-zero x.stalls i;
  entries = add-zero x.entries i;
  idles = add-zero x.idles i;
}

-- i of the n steps have been made, and c counts them
pub record HalfRun (n i : ℕ) (start m : Machine) (c : Counts) : Type 0 where
  pub ends : end start (replicate n tick) ≡ end m (replicate (n - i) tick)
  pub counts : counts_of (trail start (replicate n tick)) ≡ plus c (counts_of (trail m (replicate (n - i) tick)))
  pub sum : total c ≡ i

pub more : (n i : ℕ) (start m t : Machine) (c d : Counts) (o : Outcome) → i < n → HalfRun n i start m c → o ≡ (step m).outcome → t ≡ (step m).after → d ≡ tallied o c → HalfRun n (i + 1) start t d
more n i start m t c d o h r eo et ed =
    let k = n - (i + 1) in
    let f : n - i ≡ suc k = omega arith in
    let rest : List Moment = trail (step m).after (replicate k tick) in
    let tally : plus c (plus (counted (step m).outcome) (counts_of rest)) ≡ plus d (counts_of (trail t (replicate k tick))) =
    plus_assoc c (counted (step m).outcome) (counts_of rest) ∙ ap (λ p. plus (plus c (counted p)) (counts_of rest)) (sym eo)
    ∙ ap (λ p. plus p (counts_of rest)) (sym ed) ∙ ap (λ x. plus d (counts_of (trail x (replicate k tick)))) (sym et) in
    record {
      ends = r.ends ∙ ap (λ j. end m (replicate j tick)) f ∙ ap (λ x. end x (replicate k tick)) (sym et);
      counts = r.counts ∙ ap (λ j. plus c (counts_of (trail m (replicate j tick)))) f ∙ tally;
      sum = ap total ed ∙ total_tallied o c ∙ ap (λ j. j + 1) r.sum;
    }

-- a run that is not refused
accepted : (n : ℕ) → n ≤ 1000000 → run_refusal n ≡ Ok tt
accepted n h = cond-false _ _ _ (le-ltb 1000000 n h)

pub record Ran (n : ℕ) (start m : Machine) (r : Result Counts Refusal) : Type 0 where
  pub answer : r ≡ run_answer n start
  pub after : m ≡ after_call (Run n) start
  pub confined : start.cpu.switch ≡ true → Each Confined (run_trail n start)

confines : (n : ℕ) (m : Machine) → m.cpu.switch ≡ true → Each Confined (run_trail n m)
confines n m on = each Confined step_confined (if_ok (run_refusal n) (replicate n tick)) m on

pub ran : (n i : ℕ) (start m : Machine) (c : Counts) → n ≤ 1000000 → n ≤ i → HalfRun n i start m c → Ran n start m (Ok c)
ran n i start m c h l r =
    let k : n - i ≡ 0 = omega arith in
    let ok = accepted n h in
    record {
      answer = ap Ok (sym (r.counts ∙ ap (λ j. plus c (counts_of (trail m (replicate j tick)))) k ∙ plus_none c))
          ∙ ap (λ x. or_refusal x (counts_of (trail start (if_ok x (replicate n tick))))) (sym ok);
      after = sym (r.ends ∙ ap (λ j. end m (replicate j tick)) k) ∙ ap (λ x. end start (if_ok x (replicate n tick))) (sym ok);
      confined = confines n start;
    }
