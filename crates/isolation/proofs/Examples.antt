-- The closed examples, worked out.
use Rattle.std.proofs.Common.{◌≡◌, ℕ, zero, suc, ◌-◌, ◌/◌, ◌%◌, ◌^◌, ◌<◌, Bool, true, false, not, ◌&&◌, ◌||◌, eqb, List, ◌∷◌, ◌++◌, length, set, replicate, sym, refl, ap, ◌∙◌, inl, inr, arith}
use native.Mathlib.Nat.{zero-div}
use Rattle.std.proofs.lemmas.List.{get_or_append_left, get_or_past, get_or-set_other}
use Rattle.std.proofs.lemmas.Bool.{and_parts, cases_eq, cases_lt, eqb-true, false≢true}
use Rattle.levels.specs.Levels.{lowest}
use Rattle.machine.specs.Step.{instruction_at, step}
use Rattle.machine.specs.Words.{page_protected, protects, read}
use Rattle.isolation.specs.Examples.{Agrees, GoesOn, Stalls, Violates, active, four, going, one, other_program, program, three, two}

-- a test that holds of each number below n
all_below : (ℕ → Bool) → ℕ → Bool
all_below f zero = true
all_below f (suc n) = f n && all_below f n

at_each : (f : ℕ → Bool) (n k : ℕ) → all_below f n ≡ true → k < n → f k ≡ true
unfolding all_below
at_each f zero k e h = absurd (omega arith)
at_each f (suc n) k e h =
    let p = and_parts (f n) (all_below f n) e in
    elim (cases_eq k n) [ inl q ↦ ap f q ∙ p.0 | inr d ↦ at_each f n k p.1 (omega arith) ]

-- page 1 alone is protected
map_1 : List ℕ
map_1 = 0x4000 ∷ replicate 15 0

only_1 : (p : ℕ) → page_protected map_1 p ≡ true → p ≡ 1
unfolding map_1 all_below
only_1 p e =
    elim (cases_lt p 256) [
      | inl h ↦ by (page_protected map_1 p) e (at_each (λ q. not (page_protected map_1 q) || eqb q 1) 256 p refl h)
      | inr h ↦ absurd (false≢true (sym (ap (λ w. eqb (w / 2 ^ (15 - p % 16) % 2) 1) (get_or_past map_1 (p / 16) 0 (omega arith)) ∙ ap (λ w. eqb (w % 2) 1) (zero-div (2 ^ (15 - p % 16)))) ∙ e))
    ]
  where
    by : (b : Bool) → b ≡ true → (not b || eqb p 1) ≡ true → p ≡ 1
    by true f t = eqb-true p 1 t
    by false f t = absurd (false≢true f)

pub violates : Violates
unfolding going program active step instruction_at lowest
violates = record { going_on = record { pp = refl; last = refl; switch = refl }; steps = refl }

pub goes_on : GoesOn
unfolding going program step instruction_at lowest
goes_on = record { going_on = record { pp = refl; last = refl; switch = refl }; steps = refl; first = inl (inl tt, refl); second = tt }

program_length : length program ≡ 8192
unfolding program
program_length = refl

-- the words of both machines once they stand in their background
one_words : one.words ≡ program
unfolding one going program step instruction_at lowest
one_words = refl

two_words : two.words ≡ set other_program 0x0011 0x0042
unfolding two going program other_program step instruction_at lowest
two_words = refl

same_page : (a : ℕ) → protects map_1 a ≡ true → read two.words a ≡ read one.words a
unfolding other_program
same_page a e =
    let p : a / 256 ≡ 1 = only_1 (a / 256) e in
    ap (λ ws. read ws a) two_words
    ∙ get_or-set_other other_program 0x0011 a 0x0042 0 (λ q. omega arith)
    ∙ get_or-set_other (program ++ replicate 8192 0) 0x0210 a 0x0042 0 (λ q. omega arith)
    ∙ get_or_append_left program (replicate 8192 0) 0 a (omega (arith, program_length))
    ∙ ap (λ ws. read ws a) (sym one_words)

pub agrees : Agrees
unfolding one two going program other_program step instruction_at lowest map_1
agrees = record {
  here = record { pp = refl; last = refl; switch = refl };
  there = record { pp = refl; last = refl; switch = refl };
  here_background = record { pp = refl; mark = refl };
  there_background = record { pp = refl; mark = refl };
  alike = record { protection = refl; ii = refl; ei = refl; levels = refl; words = same_page };
  page_1 = refl;
  here_look = refl;
  there_look = refl;
  here_enters = (λ x. x, (λ x. x, (refl, refl)));
  there_enters = (λ x. x, (λ x. x, (refl, refl)));
  here_clean = (λ x. x, (λ x. x, tt));
  there_clean = (λ x. x, (λ x. x, tt));
}

pub stalls : Stalls
unfolding three four going program active step instruction_at lowest
stalls = record {
  here = record { pp = refl; last = refl; switch = refl };
  there = record { pp = refl; last = refl; switch = refl };
  here_background = record { pp = refl; mark = refl };
  there_background = record { pp = refl; mark = refl };
  alike = record { protection = refl; ii = refl; ei = refl; levels = refl; words = λ a e. refl };
  here_stalls = refl;
  there_goes_on = refl;
}
