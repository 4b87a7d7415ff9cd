-- The laws of calls, by induction on the steps.
use Rattle.std.proofs.Common.{◌≡◌, ℕ, zero, suc, ◌+◌, ◌<◌, ◌≤◌, false, eqb, List, [], ◌∷◌, ◌++◌, replicate, Ok, Err, Result, sym, refl, ap, ◌∙◌, subst, ap₂, arith}
use Rattle.std.proofs.lemmas.Bool.{le-ltb, lt-ltb}
use Rattle.std.proofs.lemmas.Bool.Decides.{nat_tests}
use Rattle.machine.specs.declared.call.Answer.TheVariants.{Ran, Signalled as Signalling, Refused}
use Rattle.machine.specs.declared.call.Call.{Call}
use Rattle.machine.specs.declared.call.Call.TheVariants.{Step, Run, Signal, Registers, Protection, Violation, Word}
use Rattle.machine.specs.declared.call.Counts.{Counts}
use Rattle.machine.specs.declared.call.Outcome.{Outcome}
use Rattle.machine.specs.declared.call.Outcome.TheVariants.{Entered, Idle, Violated, Stalled, NotCarried, Done}
use Rattle.machine.specs.declared.call.Signalled.{Signalled}
use Rattle.machine.specs.declared.refusal.Refusal.{Refusal}
use Rattle.machine.specs.declared.refusal.Refusal.TheVariants.{RunTooLong}
use Rattle.levels.specs.Levels.{level_at}
use Rattle.machine.specs.Calls.{Move, after_call, after_calls, answer, as_answer, counted, counts_of, end, if_ok, moves_of, or_refusal, plus, poke, poked, run_answer, run_refusal, run_trail, signal_refusal, signalled, tick, total, trail}
use Rattle.machine.specs.State.{Machine}
use Rattle.machine.specs.Step.{step}
use Rattle.worked.specs.Runs.{Runs, SignalledTo}

-- n steps
abbrev ticks : ℕ → List Move
ticks n = replicate n tick

moves : (ms ns : List Move) (m : Machine) → trail m (ms ++ ns) ≡ trail m ms ++ trail (end m ms) ns
moves [] ns m = refl
moves (tick ∷ ms) ns m = ap (λ xs. step m ∷ xs) (moves ms ns (step m).after)
moves (poke k ∷ ms) ns m = moves ms ns (poked k m)

end_parts : (a b : ℕ) (m : Machine) → end m (ticks (a + b)) ≡ end (end m (ticks a)) (ticks b)
end_parts zero b m = let e : 0 + b ≡ b = omega arith in rw e
end_parts (suc a) b m = let e : suc a + b ≡ suc (a + b) = omega arith in rw e (end_parts a b (step m).after)

add_counts : (x y z : Counts) → plus x (plus y z) ≡ plus (plus x y) z
add_counts x y z i = record {
  done = sums x.done y.done z.done i;
  not_carried = sums x.not_carried y.not_carried z.not_carried i;
  violations = sums x.violations y.violations z.violations i;
  stalls = sums x.stalls y.stalls z.stalls i;
  entries = sums x.entries y.entries z.entries i;
  idles = sums x.idles y.idles z.idles i;
}
  where
    sums : (p q r : ℕ) → p + (q + r) ≡ p + q + r
    sums p q r = omega arith

no_more : (x : Counts) → x ≡ plus (counts_of []) x
no_more x i = record {
  done = none x.done i;
  not_carried = none x.not_carried i;
  violations = none x.violations i;
  stalls = none x.stalls i;
  entries = none x.entries i;
  idles = none x.idles i;
}
  where
    none : (p : ℕ) → p ≡ 0 + p
    none p = omega arith

counts_parts : (a b : ℕ) (m : Machine) → counts_of (trail m (ticks (a + b))) ≡ plus (counts_of (trail m (ticks a))) (counts_of (trail (end m (ticks a)) (ticks b)))
counts_parts zero b m = let e : 0 + b ≡ b = omega arith in rw e (no_more (counts_of (trail m (ticks b))))
counts_parts (suc a) b m =
    let e : suc a + b ≡ suc (a + b) = omega arith in
    let n = (step m).after in
    rw e (ap (plus (counted (step m).outcome)) (counts_parts a b n) ∙ add_counts (counted (step m).outcome) (counts_of (trail n (ticks a))) (counts_of (trail (end n (ticks a)) (ticks b))))

one_more : (o : Outcome) (x : Counts) → total (plus (counted o) x) ≡ suc (total x)
one_more (Entered k) x = omega arith
one_more Idle x = omega arith
one_more (Violated v) x = omega arith
one_more (Stalled v) x = omega arith
one_more NotCarried x = omega arith
one_more Done x = omega arith

total_of : (n : ℕ) (m : Machine) → total (counts_of (trail m (ticks n))) ≡ n
total_of zero m = refl
total_of (suc n) m = one_more (step m).outcome (counts_of (trail (step m).after (ticks n))) ∙ ap suc (total_of n (step m).after)

taken : (n : ℕ) → n ≤ 1000000 → run_refusal n ≡ Ok tt
taken n h = rw (le-ltb 1000000 n h)

run_moves : (n : ℕ) → n ≤ 1000000 → moves_of (Run n) ≡ ticks n
run_moves n h = ap (λ r. if_ok r (ticks n)) (taken n h)

run_counts : (n : ℕ) (m : Machine) → n ≤ 1000000 → run_answer n m ≡ Ok (counts_of (trail m (ticks n)))
run_counts n m h = ap (λ r. or_refusal r (counts_of (run_trail n m))) (taken n h) ∙ ap (λ ms. Ok (counts_of (trail m ms))) (run_moves n h)

run_end : (n : ℕ) (m : Machine) → n ≤ 1000000 → after_call (Run n) m ≡ end m (ticks n)
run_end n m h = ap (end m) (run_moves n h)

steps_end : (n : ℕ) (m : Machine) → after_calls (replicate n Step) m ≡ end m (ticks n)
steps_end zero m = refl
steps_end (suc n) m = steps_end n (step m).after

ok_same : (x y : Counts) → ◌≡◌ {A = Result Counts Refusal} (Ok x) (Ok y) → x ≡ y
ok_same x y e = cc

zero≢one : ◌≡◌ {A = ℕ} 0 1 → ⊥
zero≢one e = omega arith

-- the counts of a run that is answered
counts_by : (n : ℕ) (m : Machine) (x : Counts) (r : Result (Unit {0}) Refusal) → or_refusal r (counts_of (trail m (if_ok r (ticks n)))) ≡ Ok x → counts_of (trail m (ticks n)) ≡ x
counts_by n m x (Ok u) h = ok_same (counts_of (trail m (ticks n))) x h
counts_by n m x (Err y) h = absurd (zero≢one (cc))

parts : (a b : ℕ) (m : Machine) → a + b ≤ 1000000 → after_call (Run (a + b)) m ≡ after_call (Run b) (after_call (Run a) m)
parts a b m h =
    run_end (a + b) m h ∙ end_parts a b m ∙ ap (λ n. end n (ticks b)) (sym (run_end a m (omega arith))) ∙ sym (run_end b (after_call (Run a) m) (omega arith))

counts : (a b : ℕ) (m : Machine) (x y : Counts) → a + b ≤ 1000000 → run_answer a m ≡ Ok x → run_answer b (after_call (Run a) m) ≡ Ok y → run_answer (a + b) m ≡ Ok (plus x y)
counts a b m x y h p q =
    let n = after_call (Run a) m in
    let e : counts_of (trail m (ticks a)) ≡ x = counts_by a m x (run_refusal a) p in
    let f : counts_of (trail n (ticks b)) ≡ y = counts_by b n y (run_refusal b) q in
    let g : counts_of (trail (end m (ticks a)) (ticks b)) ≡ y = ap (λ k. counts_of (trail k (ticks b))) (sym (run_end a m (omega arith))) ∙ f in
    run_counts (a + b) m h ∙ ap Ok (counts_parts a b m ∙ ap₂ plus e g)

too_long : (n : ℕ) (m : Machine) → 1000000 < n → answer (Run n) m ≡ Refused RunTooLong
too_long n m h =
    let e : run_refusal n ≡ Err RunTooLong = rw (lt-ltb 1000000 n h) in
    ap (λ r. as_answer Ran (or_refusal r (counts_of (run_trail n m)))) e

refused_run : (n : ℕ) (m : Machine) (x : Refusal) (c : Counts) (r : Result (Unit {0}) Refusal) → as_answer Ran (or_refusal r c) ≡ Refused x → end m (if_ok r (ticks n)) ≡ m
refused_run n m x c (Ok u) h = absurd (zero≢one (cc))
refused_run n m x c (Err y) h = refl

refused_signal : (k : ℕ) (m : Machine) (x : Refusal) (c : Signalled) (r : Result (Unit {0}) Refusal) → as_answer Signalling (or_refusal r c) ≡ Refused x → end m (if_ok r (poke k ∷ [])) ≡ m
refused_signal k m x c (Ok u) h = absurd (zero≢one (cc))
refused_signal k m x c (Err y) h = refl

refused : (c : Call) (m : Machine) (x : Refusal) → answer c m ≡ Refused x → after_call c m ≡ m
refused Step m x h = absurd (zero≢one (cc))
refused (Run n) m x h = refused_run n m x (counts_of (run_trail n m)) (run_refusal n) h
refused (Signal k) m x h = refused_signal k m x (signalled (level_at m.cpu.guard.levels k).state) (signal_refusal k) h
refused Registers m x h = refl
refused Protection m x h = refl
refused Violation m x h = refl
refused (Word a) m x h = refl

signalled_to : (k : ℕ) (m : Machine) → SignalledTo k m (poked k m)
signalled_to k m = record {
  levels = refl;
  protection = refl;
  ii = refl;
  ei = refl;
  registers = refl;
  pp = refl;
  mark = refl;
  last = refl;
  violation = refl;
  switch = refl;
  words = refl;
}

heard : (k : ℕ) → 0 < k → k < 16 → signal_refusal k ≡ Ok tt
heard k l h = let e : eqb k 0 ≡ false = grind (arith, nat_tests) in rw (le-ltb 15 k (omega arith), e)

signals : (k : ℕ) (m : Machine) → 0 < k → k < 16 → SignalledTo k m (after_call (Signal k) m)
signals k m l h = subst (λ r. SignalledTo k m (end m (if_ok r (poke k ∷ [])))) (sym (heard k l h)) (signalled_to k m)

pub runs : Runs
runs = record {
  moves = moves;
  as_steps = λ n m h. run_end n m h ∙ sym (steps_end n m);
  parts = parts;
  counts = counts;
  totals = λ n m x h. ap total (sym (counts_by n m x (run_refusal n) h)) ∙ total_of n m;
  answered = λ n m h. (counts_of (trail m (ticks n)), run_counts n m h);
  too_long = too_long;
  refused = refused;
  signals = signals;
}
