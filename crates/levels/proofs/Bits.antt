-- Bits of levels shifted into a word.
use Rattle.std.proofs.Common.{◌≡◌, ℕ, zero, suc, ◌+◌, ◌-◌, ◌*◌, ◌%◌, ◌^◌, ◌<◌, Bool, true, false, List, length, drop, bit_or, refl, ap, ◌∙◌, arith, drop-cons, mod-eq_of_lt, pow-suc}
use Rattle.std.proofs.Math.Nat.{pow-le-pow_right}
use Rattle.std.specs.List.{fold}
use Rattle.std.proofs.lemmas.List.{drop_all}
use Rattle.std.proofs.lemmas.Nat.{or_shifted}
use Rattle.levels.specs.declared.level.Level.{Level}
use Rattle.levels.specs.declared.level.Property.{Property}
use Rattle.levels.specs.Bits.{one}
use Rattle.levels.specs.Levels.{bits_of, has, level_at, preset}

-- a word with one bit more shifted in
abbrev pub pushed : Property → ℕ → Level → ℕ
pushed p w l = bit_or (w * 2 % 65536) (one (has p l))

one_below : (b : Bool) → one b < 2
one_below true = omega arith
one_below false = omega arith

pushed_sum : (p : Property) (w : ℕ) (l : Level) → w < 32768 → pushed p w l ≡ w * 2 + one (has p l)
pushed_sum p w l h = ap (λ x. bit_or x (one (has p l))) (mod-eq_of_lt (omega arith)) ∙ or_shifted w 1 (one (has p l)) (one_below (has p l))

-- a word shifted, and one bit more
spread : (w b x y : ℕ) → y ≡ x * 2 → (w * 2 + b) * x ≡ w * y + b * x
spread w b x y e = grind arith

-- the rest of the levels shifted into a word that has the k before them
bits_from : (n k w : ℕ) (p : Property) (ls : List Level) → length ls ≡ 16 → n + k ≡ 16 → w < 2 ^ k → fold (pushed p) w (drop k ls) ≡ w * 2 ^ n + bits_of n k p ls
unfolding bits_of
bits_from zero k w p ls e f h = rw (drop_all k ls (omega arith)) (omega arith)
bits_from (suc n) k w p ls e f h =
    let b : ℕ = one (has p (level_at ls k)) in
    let g : pushed p w (level_at ls k) ≡ w * 2 + b = pushed_sum p w (level_at ls k) (omega (arith, pow-le-pow_right {n = 2} (omega arith) {i = k} {j = 15} (omega arith))) in
    let m : 15 - k ≡ n = omega arith in
    let more : fold (pushed p) (w * 2 + b) (drop (suc k) ls) ≡ (w * 2 + b) * 2 ^ n + bits_of n (suc k) p ls = bits_from n (suc k) (w * 2 + b) p ls e (omega arith) (omega (arith, pow-suc 2 k, one_below (has p (level_at ls k)))) in
    rw (drop-cons ls k (preset 0) (omega arith), m) (ap (λ x. fold (pushed p) x (drop (suc k) ls)) g ∙ more ∙ omega (arith, spread w b (2 ^ n) (2 ^ suc n) (pow-suc 2 n)))

pub bits_all : (p : Property) (ls : List Level) → length ls ≡ 16 → fold (pushed p) 0 ls ≡ bits_of 16 0 p ls
bits_all p ls e = bits_from 16 0 0 p ls e refl (omega arith) ∙ omega arith
