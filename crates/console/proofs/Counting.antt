-- What a run counts.
use Rattle.std.proofs.Common.{◌≡◌, ℕ, ◌≤◌, Ok, Result, sym, ap, ◌∙◌}
use Rattle.std.proofs.lemmas.Bool.{cond-false, le-ltb}
use Rattle.machine.specs.declared.call.Counts.{Counts}
use Rattle.machine.specs.declared.refusal.Refusal.{Refusal}
use Rattle.machine.specs.Calls.{counts_of, or_refusal, run_answer, run_refusal, run_trail}
use Rattle.machine.specs.State.{Machine}
use Rattle.console.specs.Runs.{counts_after}

-- a run that is not too long answers its counts
pub counted_run : (n : ℕ) (m : Machine) (x : Result Counts Refusal) (c : Counts) → n ≤ 1000000 → x ≡ run_answer n m → x ≡ Ok c → c ≡ counts_after n m
unfolding counts_after
counted_run n m x c h answer is =
    let ok : run_refusal n ≡ Ok tt = cond-false _ _ _ (le-ltb 1000000 n h) in
    let same : ◌≡◌ {A = Result Counts Refusal} (Ok c) (Ok (counts_of (run_trail n m))) = sym is ∙ answer ∙ ap (λ y. or_refusal y (counts_of (run_trail n m))) ok in
    cc
