-- Counts of steps.
use Rattle.std.proofs.Common.{◌≡◌, ◌+◌, arith}
use Rattle.machine.specs.declared.call.Counts.{Counts}
use Rattle.machine.specs.declared.call.Outcome.{Outcome}
use Rattle.machine.specs.declared.call.Outcome.TheVariants.{Entered, Idle, Violated, Stalled, NotCarried, Done}
use Rattle.machine.specs.Calls.{no_counts, tallied, total}

-- counts that are all zero
pub none_counted : (n : Counts) → (n.done ≡ 0) × ((n.not_carried ≡ 0) × ((n.violations ≡ 0) × ((n.stalls ≡ 0) × ((n.entries ≡ 0) × (n.idles ≡ 0))))) → n ≡ no_counts
none_counted n z = λ i. record { done = z.0 i; not_carried = z.1.0 i; violations = z.1.1.0 i; stalls = z.1.1.1.0 i; entries = z.1.1.1.1.0 i; idles = z.1.1.1.1.1 i }

-- one step more is one more in all
pub total_tallied : (o : Outcome) (n : Counts) → total (tallied o n) ≡ total n + 1
total_tallied (Entered k) n = omega arith
total_tallied Idle n = omega arith
total_tallied (Violated x) n = omega arith
total_tallied (Stalled x) n = omega arith
total_tallied NotCarried n = omega arith
total_tallied Done n = omega arith
