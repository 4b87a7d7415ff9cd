-- The parts of a step, in the terms of the code.
use Rattle.std.proofs.Common.{◌≡◌, ℕ, true, ◌⊎◌, Some, None, Option, sym, refl, ap, ◌∙◌, inl, inr}
use Rattle.machine.specs.declared.call.Outcome.{Outcome}
use Rattle.machine.specs.declared.call.Outcome.TheVariants.{Entered, Idle}
use Rattle.machine.specs.declared.state.Mark.{Mark}
use Rattle.machine.specs.declared.state.Mark.TheVariants.{Unset, Wait, Exit}
use Rattle.machine.specs.State.{Machine}
use Rattle.machine.specs.Step.{Moment, at_fetch, by_entry, by_mark, due, enter, step}
use Rattle.isolation.specs.Isolation.{Confined}
use Rattle.isolation.proofs.Theorem.{step_confined}

-- a step by the way that the code takes
pub at_entry : (m : Machine) (o : Option ℕ) → o ≡ due m.cpu.mark m.cpu.guard → by_entry o m ≡ step m
unfolding step
at_entry m o e = ap (λ x. by_entry x m) e

pub at_mark : (m : Machine) (k : Mark) → None ≡ due m.cpu.mark m.cpu.guard → m.cpu.mark ≡ k → by_mark k m ≡ step m
at_mark m k e f = ap (λ x. by_mark x m) (sym f) ∙ at_entry m None e

-- what the code shows of a step
pub record Stepped (m n : Machine) (o : Outcome) : Type 0 where
  pub answer : o ≡ (step m).outcome
  pub after : n ≡ (step m).after
  pub confined : m.cpu.switch ≡ true → Confined (step m)

stepped : (m n : Machine) (o : Outcome) (x : Moment) → x ≡ step m → o ≡ x.outcome → n ≡ x.after → Stepped m n o
stepped m n o x e f g = record { answer = f ∙ ap (λ (y : Moment). y.outcome) e; after = g ∙ ap (λ (y : Moment). y.after) e; confined = step_confined m }

-- d is the machine once it was asked which level is due
module _ (m d n : Machine) (same : d ≡ m) where
  pub steps_in : (k : ℕ) → Some k ≡ due m.cpu.mark m.cpu.guard → n ≡ enter k d → Stepped m n (Entered k)
  steps_in k e f = stepped m n (Entered k) (by_entry (Some k) m) (at_entry m (Some k) e) refl (f ∙ ap (enter k) same)

  module _ (e : None ≡ due m.cpu.mark m.cpu.guard) where
    pub steps_idle : d.cpu.mark ≡ Wait → n ≡ d → Stepped m n Idle
    steps_idle f g = stepped m n Idle (by_mark Wait m) (at_mark m Wait e (ap (λ (x : Machine). x.cpu.mark) (sym same) ∙ f)) refl (g ∙ same)

    pub steps_on : (o : Outcome) → (d.cpu.mark ≡ Unset) ⊎ (d.cpu.mark ≡ Exit) → o ≡ (at_fetch d).outcome → n ≡ (at_fetch d).after → Stepped m n o
    steps_on o (inl f) g h = stepped m n o (by_mark Unset m) (at_mark m Unset e (ap (λ (x : Machine). x.cpu.mark) (sym same) ∙ f)) (g ∙ ap (λ x. (at_fetch x).outcome) same) (h ∙ ap (λ x. (at_fetch x).after) same)
    steps_on o (inr f) g h = stepped m n o (by_mark Exit m) (at_mark m Exit e (ap (λ (x : Machine). x.cpu.mark) (sym same) ∙ f)) (g ∙ ap (λ x. (at_fetch x).outcome) same) (h ∙ ap (λ x. (at_fetch x).after) same)
