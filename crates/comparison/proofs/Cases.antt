-- Sums over the numbers below another, and how many cases differ so far.
use Rattle.std.proofs.Common.{◌≡◌, ℕ, zero, suc, ◌+◌, ◌<◌, ◌≤◌, refl, sym, ap, ◌∙◌, arith}
use Rattle.std.specs.List.{range_with_len, sum_by}
use Rattle.std.proofs.lemmas.List.{map-id}
use Rattle.std.proofs.lemmas.List.FromFn.{sum_by-map-range_with_len_more}
use Rattle.comparison.specs.Cases.{differing, differing_at, differing_by}

-- one number more
pub more : (f : ℕ → ℕ) (n : ℕ) → sum_by f (range_with_len 0 (n + 1)) ≡ sum_by f (range_with_len 0 n) + f n
more f n =
    ap (sum_by f) (sym (map-id (range_with_len 0 (n + 1))))
    ∙ sum_by-map-range_with_len_more f (λ x. x) 0 n n (omega arith)
    ∙ ap (λ xs. sum_by f xs + f n) (map-id (range_with_len 0 n))

-- the last number
last : (f : ℕ → ℕ) (n k : ℕ) → n + 1 ≡ k → sum_by f (range_with_len 0 k) ≡ sum_by f (range_with_len 0 n) + f n
last f n k e = ap (λ j. sum_by f (range_with_len 0 j)) (sym e) ∙ more f n

-- where each number has 0, so have all
pub all_zero : (f : ℕ → ℕ) (n : ℕ) → ((k : ℕ) → k < n → f k ≡ 0) → sum_by f (range_with_len 0 n) ≡ 0
all_zero f zero h = refl
all_zero f (suc n) h = let e : n + 1 ≡ suc n = omega arith in last f n (suc n) e ∙ omega (arith, h n (omega arith), all_zero f n (λ k l. h k (omega arith)))

-- in how many cases the sum differs, with the last displacement, and with the last address
pub last_displacement : (sum : ℕ → ℕ → ℕ) (i d : ℕ) → d ≤ 255 → 255 ≤ d
    → differing_at sum i ≡ sum_by (differing_by sum i) (range_with_len 0 d) + differing_by sum i d
unfolding differing_at
last_displacement sum i d a b = last (differing_by sum i) d 256 (omega arith)

pub last_address : (sum : ℕ → ℕ → ℕ) (i : ℕ) → i ≤ 65535 → 65535 ≤ i
    → differing sum ≡ sum_by (differing_at sum) (range_with_len 0 i) + differing_at sum i
unfolding differing
last_address sum i a b = last (differing_at sum) i 65536 (omega arith)

pub ruleset displacements = (more, last_displacement)
