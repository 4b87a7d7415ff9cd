-- The laws of every step, by one eliminator.
use Rattle.std.proofs.Common.{◌≡◌, ℕ, ◌+◌, ◌<◌, Bool, true, false, not, ◌&&◌, List, length, set, Some, None, Option, refl, ◌∙◌, arith, length-set, get_or-set_other, get_or-set_same}
use Rattle.machine.specs.declared.call.Outcome.TheVariants.{Entered, Idle}
use Rattle.machine.specs.declared.instruction.Instruction.{Instruction}
use Rattle.machine.specs.declared.instruction.Instruction.TheVariants.{Lda, And, Add, Sub, Ldx, Sta, Im, B, Branch, Copy, ReadRegister, WriteRegister, Read, Write, NotCarried}
use Rattle.machine.specs.declared.instruction.WriteFunction.{WriteFunction}
use Rattle.machine.specs.declared.instruction.WriteFunction.TheVariants.{Protection, Inhibits, Wait as WaitFunction, Exit as ExitFunction, Levels, Unlisted}
use Rattle.machine.specs.declared.state.Mark.{Mark}
use Rattle.machine.specs.declared.state.Mark.TheVariants.{Unset, Wait, Exit}
use Rattle.machine.specs.declared.state.Violation.{Violation}
use Rattle.machine.specs.State.{Machine}
use Rattle.machine.specs.Step.{Moment, act, by_entry, by_fetch, by_judgement, by_mark, carried, class, due, enter, entry_of, exits, fetch_pp, fetched, instruction, judge, on_cpu, stalls, status, step, violate, violated, violation, write_function}
use Rattle.machine.specs.Words.{protects, read, word}
use Rattle.worked.specs.Steps.{ComesTo, EntersAt, Executes, Kept, Steps}

-- A STEP BY CASES: an entry, idle, a violation, an instruction
module _ (G : Moment → Type 0) (m : Machine)
    (enters : (k : ℕ) → G (record { before = m; outcome = Entered k; after = enter k m }))
    (idles : G (record { before = m; outcome = Idle; after = m }))
    (fails : (pp : Bool) (x : Violation) → G (violated pp x m))
    (acts : (pp b : Bool) → G (record { before = m; outcome = carried (class (instruction m)); after = act b (instruction m) (fetched pp m) })) where
  judged : (v : Option Violation) (pp : Bool) → G (by_judgement v pp m)
  judged (Some x) pp = fails pp x
  judged None pp = acts pp (exits m.cpu.mark pp)

  fetches : (v : Option Bool) → G (by_fetch v m)
  fetches None = fails false _
  fetches (Some pp) = judged (judge (m.cpu.switch && not pp) m.cpu.guard.protection m.cpu.work.p (class (instruction m))) pp

  marked : (k : Mark) → G (by_mark k m)
  marked Wait = idles
  marked Unset = fetches (fetch_pp m.cpu.switch m.cpu.pp (protects m.cpu.guard.protection m.cpu.work.p))
  marked Exit = fetches (fetch_pp m.cpu.switch m.cpu.pp (protects m.cpu.guard.protection m.cpu.work.p))

  entered : (o : Option ℕ) → G (by_entry o m)
  entered (Some k) = enters k
  entered None = marked m.cpu.mark

  pub step_by : G (step m)
  unfolding step
  step_by = entered (due m.cpu.mark m.cpu.guard)

-- WHAT STAYS

written : (f : WriteFunction) (m : Machine) → Kept m (on_cpu (write_function f) m)
written (Protection n) m = record { switch = refl; size = refl }
written Inhibits m = record { switch = refl; size = refl }
written WaitFunction m = record { switch = refl; size = refl }
written ExitFunction m = record { switch = refl; size = refl }
written (Levels c) m = record { switch = refl; size = refl }
written Unlisted m = record { switch = refl; size = refl }

acted : (b : Bool) (x : Instruction) (m : Machine) → Kept m (act b x m)
acted b (Lda ea) m = record { switch = refl; size = refl }
acted b (And ea) m = record { switch = refl; size = refl }
acted b (Add ea) m = record { switch = refl; size = refl }
acted b (Sub ea) m = record { switch = refl; size = refl }
acted true (Ldx ea) m = record { switch = refl; size = refl }
acted false (Ldx ea) m = record { switch = refl; size = refl }
acted b (Sta ea) m = record { switch = refl; size = length-set m.words ea _ }
acted b (Im ea) m = record { switch = refl; size = length-set m.words ea _ }
acted b (B ea) m = record { switch = refl; size = refl }
acted b (Branch c t) m = record { switch = refl; size = refl }
acted b (Copy x) m = record { switch = refl; size = refl }
acted b (ReadRegister n) m = record { switch = refl; size = refl }
acted b (WriteRegister n) m = record { switch = refl; size = refl }
acted b (Read f ea) m = record { switch = refl; size = refl }
acted b (Write f ea) m = written f m
acted b NotCarried m = record { switch = refl; size = refl }

kept : (m : Machine) → Kept m (step m).after
kept m =
    step_by (λ x. Kept m x.after) m
    (λ k. record { switch = refl; size = length-set (set m.words _ _) _ _ ∙ length-set m.words _ _ })
    (record { switch = refl; size = refl })
    (λ pp x. record { switch = refl; size = refl })
    (λ pp b. let r = acted b (instruction m) (fetched pp m) in record { switch = r.switch; size = r.size })

-- WHAT EACH KIND COMES TO

-- two stores, at q and at q + 1
module _ (ws : List ℕ) (q s p : ℕ) where
  first : q < length ws → read (set (set ws q s) (word (q + 1)) p) q ≡ s
  first h = get_or-set_other (set ws q s) (word (q + 1)) q p 0 (λ e. omega arith) ∙ get_or-set_same ws q s 0 h

  second : word (q + 1) < length ws → read (set (set ws q s) (word (q + 1)) p) (word (q + 1)) ≡ p
  second h = get_or-set_same (set ws q s) (word (q + 1)) p 0 (rw (length-set ws q s) h)

  others : (a : ℕ) → (a ≡ q → ⊥) → (a ≡ word (q + 1) → ⊥) → read (set (set ws q s) (word (q + 1)) p) a ≡ read ws a
  others a d e = get_or-set_other (set ws q s) (word (q + 1)) a p 0 e ∙ get_or-set_other ws q a s 0 d

entry : (m : Machine) (k : ℕ) → EntersAt k (entry_of k m.words) m (enter k m)
entry m k = record {
  registers = refl;
  first = first m.words (entry_of k m.words) (status m.cpu) m.cpu.work.p;
  second = second m.words (entry_of k m.words) (status m.cpu) m.cpu.work.p;
  others = others m.words (entry_of k m.words) (status m.cpu) m.cpu.work.p;
  levels = refl;
  protection = refl;
  ii = refl;
  ei = refl;
  pp = refl;
  mark = refl;
  last = refl;
  violation = refl;
}

failed : (m : Machine) (pp b : Bool) (x : Violation) → ComesTo (violation b x) m (violate pp x m)
failed m pp true x = record { registers = refl; words = refl; levels = refl; protection = refl; ii = refl; ei = refl; last = refl; violation = refl }
failed m pp false x = record { registers = refl; words = refl; levels = refl; protection = refl; ii = refl; ei = refl; last = refl; violation = refl }

-- an instruction that stores nothing, and one that stores at an address
unstored : (ws : List ℕ) → (a : ℕ) × ((b : ℕ) → (b ≡ a → ⊥) → read ws b ≡ read ws b)
unstored ws = (0, λ b d. refl)

stored : (ws : List ℕ) (a w : ℕ) → (c : ℕ) × ((b : ℕ) → (b ≡ c → ⊥) → read (set ws a w) b ≡ read ws b)
stored ws a w = (a, λ b d. get_or-set_other ws a b w 0 d)

wrote : (f : WriteFunction) (m : Machine) (pp : Bool) → Executes m (on_cpu (write_function f) (fetched pp m))
wrote (Protection n) m pp = record { words = unstored m.words; last = refl; violation = refl }
wrote Inhibits m pp = record { words = unstored m.words; last = refl; violation = refl }
wrote WaitFunction m pp = record { words = unstored m.words; last = refl; violation = refl }
wrote ExitFunction m pp = record { words = unstored m.words; last = refl; violation = refl }
wrote (Levels c) m pp = record { words = unstored m.words; last = refl; violation = refl }
wrote Unlisted m pp = record { words = unstored m.words; last = refl; violation = refl }

done : (m : Machine) (pp b : Bool) (x : Instruction) → ComesTo (carried (class x)) m (act b x (fetched pp m))
done m pp b (Lda ea) = record { words = unstored m.words; last = refl; violation = refl }
done m pp b (And ea) = record { words = unstored m.words; last = refl; violation = refl }
done m pp b (Add ea) = record { words = unstored m.words; last = refl; violation = refl }
done m pp b (Sub ea) = record { words = unstored m.words; last = refl; violation = refl }
done m pp true (Ldx ea) = record { words = unstored m.words; last = refl; violation = refl }
done m pp false (Ldx ea) = record { words = unstored m.words; last = refl; violation = refl }
done m pp b (Sta ea) = record { words = stored m.words ea _; last = refl; violation = refl }
done m pp b (Im ea) = record { words = stored m.words ea _; last = refl; violation = refl }
done m pp b (B ea) = record { words = unstored m.words; last = refl; violation = refl }
done m pp b (Branch c t) = record { words = unstored m.words; last = refl; violation = refl }
done m pp b (Copy x) = record { words = unstored m.words; last = refl; violation = refl }
done m pp b (ReadRegister n) = record { words = unstored m.words; last = refl; violation = refl }
done m pp b (WriteRegister n) = record { words = unstored m.words; last = refl; violation = refl }
done m pp b (Read f ea) = record { words = unstored m.words; last = refl; violation = refl }
done m pp b (Write f ea) = wrote f m pp
done m pp b NotCarried = record { registers = refl; words = refl; guard = refl; mark = refl; last = refl; violation = refl }

comes_to : (m : Machine) → ComesTo (step m).outcome m (step m).after
comes_to m =
    step_by (λ x. ComesTo x.outcome m x.after) m
    (λ k. entry m k)
    refl
    (λ pp x. failed m pp (stalls m.cpu) x)
    (λ pp b. done m pp b (instruction m))

pub steps : Steps
steps = record { kept = kept; comes_to = comes_to }
