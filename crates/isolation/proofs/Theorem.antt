-- The law of isolation, over whole lists of calls: with the fewest premises, and then as it is stated of a machine set going.
use Rattle.std.proofs.Common.{◌≡◌, ℕ, zero, suc, ◌+◌, ◌/◌, ◌<◌, Bool, true, false, cond, ◌⊎◌, List, [], ◌∷◌, ◌++◌, Some, None, Option, sym, refl, ap, ◌∙◌, subst, inl, inr, ⊎_elim, arith}
use Rattle.std.proofs.lemmas.Bool.{both_ways}
use Rattle.machine.specs.declared.call.Outcome.{Outcome}
use Rattle.machine.specs.declared.call.Outcome.TheVariants.{Entered, Violated, Stalled, NotCarried as Uncarried, Done}
use Rattle.machine.specs.declared.instruction.Instruction.{Instruction}
use Rattle.machine.specs.declared.instruction.Instruction.TheVariants.{Ldx, Write}
use Rattle.machine.specs.declared.instruction.WriteFunction.{WriteFunction}
use Rattle.machine.specs.declared.instruction.WriteFunction.TheVariants.{Wait as WaitFunction, Exit as ExitFunction}
use Rattle.levels.specs.declared.level.Event.TheVariants.{Trigger}
use Rattle.levels.specs.declared.level.Level.{Level}
use Rattle.levels.specs.declared.level.Sight.{Sight}
use Rattle.levels.specs.declared.level.Sight.TheVariants.{Enters as EntersNow, Blocks, Passes}
use Rattle.machine.specs.declared.state.Mark.{Mark}
use Rattle.machine.specs.declared.state.Mark.TheVariants.{Unset, Wait, Exit}
use Rattle.levels.specs.Bits.{bit}
use Rattle.levels.specs.Levels.{choose, lowest, told as told_level}
use Rattle.machine.specs.Calls.{Move, after_calls, end, poke, poked, tick, trail}
use Rattle.machine.specs.State.{Guard, Machine}
use Rattle.machine.specs.Step.{Class, Moment, act, by_entry, carried, class, due, enter, exits, fetched, instruction, none_such, on_cpu, stalls, step, write_function}
use Rattle.machine.specs.Words.{page_protected, protects, read, word}
use Rattle.isolation.specs.Steps.{Background, Barred, Clean, Each, Enters, Executes, Faults, IsViolation, NoEntry, PProtected, SameWords, steps_of}
use Rattle.isolation.specs.Isolation.{ByCell, Confined, Follows, Isolation, WordsAgree}
use Rattle.isolation.specs.Wider.{Contained, EntryNeeded, Guarded, NoViolation, NotForeground, SameCells, SameEntry, SameLevels, SameProtected, Wider, exit_marked}
use Rattle.isolation.proofs.Cases.{Tame, from, no_entry, step_cases, step_forms}
use Rattle.isolation.proofs.Moves.{end_calls, moves, trail_calls}

-- WHAT HOLDS OF EVERY STEP

is_entry : (o : Outcome) (k : ℕ) → o ≡ Entered k → Enters o
is_entry o k e = subst Enters (sym e) tt

no_entry_carried : (c : Class) → Enters (carried c) → ⊥
no_entry_carried none_such h = h
no_entry_carried c h = h

executes : (c : Class) → Executes (carried c)
executes none_such = tt
executes c = tt

-- what an instruction leaves of the switch, PP and the mark
pub record Acted (m t : Machine) : Type 0 where
  pub switch : t.cpu.switch ≡ m.cpu.switch
  pub off : m.cpu.switch ≡ false → m.cpu.pp ≡ true → t.cpu.pp ≡ true
  pub exit : m.cpu.pp ≡ true → exit_marked m.cpu.mark ≡ false → t.cpu.pp ≡ false → exit_marked t.cpu.mark ≡ false

acted_alike : (m t : Machine) → t.cpu.switch ≡ m.cpu.switch → t.cpu.pp ≡ m.cpu.pp → t.cpu.mark ≡ m.cpu.mark → Acted m t
acted_alike m t s p k = record { switch = s; off = λ _ q. p ∙ q; exit = λ _ u _. ap exit_marked k ∙ u }

acted_write : (f : WriteFunction) (m : Machine) → Acted m (on_cpu (write_function f) m)
acted_write WaitFunction m = record { switch = refl; off = λ _ p. p; exit = λ _ _ _. refl }
acted_write ExitFunction m = record { switch = refl; off = λ _ p. p; exit = λ p _ e. absurd (both_ways m.cpu.pp e p) }
acted_write f m = acted_alike m (on_cpu (write_function f) m) refl refl refl

acted : (b : Bool) (x : Instruction) (m : Machine) → Acted m (act b x m)
acted true (Ldx ea) m =
    record { switch = refl; off = λ e _. ap (λ on. cond on (bit (read m.words ea) 11) true) e; exit = λ _ u _. u }
acted b (Write f ea) m = acted_write f m
acted b x m = acted_alike m (act b x m) refl refl refl

-- no step moves the switch
step_switch : (m : Machine) → (step m).after.cpu.switch ≡ m.cpu.switch
step_switch m =
    step_forms (λ x. x.after.cpu.switch ≡ m.cpu.switch) m
    (λ k d. refl) (λ w. refl) (λ x f. refl) (λ pp x f j. refl)
    (λ pp f j. (acted (exits m.cpu.mark pp) (instruction m) (fetched pp m)).switch)

-- an entry is of the level that is due, and is that step alone
entered : (m : Machine) (k : ℕ) → (step m).outcome ≡ Entered k → (due m.cpu.mark m.cpu.guard ≡ Some k) × (step m ≡ from m (Entered k) (enter k m))
entered m =
    step_forms (λ x. (k : ℕ) → x.outcome ≡ Entered k → (due m.cpu.mark m.cpu.guard ≡ Some k) × (x ≡ from m (Entered k) (enter k m))) m
    (λ j d k e. let q : j ≡ k = cc in (d ∙ ap Some q, ap (λ i. from m (Entered i) (enter i m)) q))
    (λ w k e. absurd cc)
    (λ x f k e. absurd (no_entry (stalls m.cpu) x (is_entry _ k e)))
    (λ pp x f j k e. absurd (no_entry (stalls m.cpu) x (is_entry _ k e)))
    (λ pp f j k e. absurd (no_entry_carried (class (instruction m)) (is_entry _ k e)))

step_by_cell : (m : Machine) → ByCell (step m)
step_by_cell m k e = rw (entered m k e).1 refl

-- WITH THE SWITCH ON

-- (a)
fault : (o : Outcome) → IsViolation o → Faults o
fault (Violated x) h = h
fault (Stalled x) h = absurd h
fault o h = h

-- what is left of two where one cannot be
first : {A B : Type 0} → A ⊎ B → (B → ⊥) → A
first (inl a) f = a
first (inr b) f = absurd (f b)

other : {A B : Type 0} → A ⊎ B → (A → ⊥) → B
other (inl a) f = absurd (f a)
other (inr b) f = b

-- a step that is not of the foreground is tame
tame : (m : Machine) → m.cpu.switch ≡ true → NotForeground (step m) → Tame (step m)
tame m on =
    step_cases (λ x. NotForeground x → Tame x) m on
    (λ k d b. absurd (b.0 tt))
    (λ w p l b. absurd (both_ways (PProtected m) (b.1 (executes (class (instruction m)))) l))
    (λ o t h r b. h)

step_contained : (m : Machine) → m.cpu.switch ≡ true → Contained (step m)
step_contained m on b =
    let h = tame m on b in
    record { words = h.words; protection = h.protection; ii = h.ii; ei = h.ei; levels = h.levels }

-- (b)
guarded_after : (m : Machine) → m.cpu.switch ≡ true → NotForeground (step m) → Guarded (step m).after
guarded_after m on b = record { switch = step_switch m ∙ on; away = (tame m on b).away }

-- a machine that is not in its foreground enters, or stays away from it
guarded_step : (m : Machine) → Guarded m → Enters (step m).outcome ⊎ NotForeground (step m)
guarded_step m h =
    step_cases (λ x. Enters x.outcome ⊎ NotForeground x) m h.switch
    (λ k d. inl tt)
    (λ w p l. absurd (⊎_elim (λ e. both_ways m.cpu.pp e p) w h.away))
    (λ o t k r. inr (k.no_entry, r))

guarded_poked : (k : ℕ) (m : Machine) → Guarded m → Guarded (poked k m)
guarded_poked k m h = record { switch = h.switch; away = h.away }

-- OVER A LIST OF MOVES

pub each : (Q : Moment → Type 0) → ((m : Machine) → m.cpu.switch ≡ true → Q (step m)) → (ms : List Move) (m : Machine) → m.cpu.switch ≡ true → Each Q (trail m ms)
each Q f [] m on = tt
each Q f (tick ∷ ms) m on = (f m on, each Q f ms (step m).after (step_switch m ∙ on))
each Q f (poke k ∷ ms) m on = each Q f ms (poked k m) on

each_any : (Q : Moment → Type 0) → ((m : Machine) → Q (step m)) → (ms : List Move) (m : Machine) → Each Q (trail m ms)
each_any Q f [] m = tt
each_any Q f (tick ∷ ms) m = (f m, each_any Q f ms (step m).after)
each_any Q f (poke k ∷ ms) m = each_any Q f ms (poked k m)

end_switch : (ms : List Move) (m : Machine) → (end m ms).cpu.switch ≡ m.cpu.switch
end_switch [] m = refl
end_switch (tick ∷ ms) m = end_switch ms (step m).after ∙ step_switch m
end_switch (poke k ∷ ms) m = end_switch ms (poked k m)

-- until an entry, no instruction of a protected page is executed
abbrev Held : List Moment → Type 0
Held [] = Unit {0}
Held (x ∷ xs) = Enters x.outcome ⊎ ((Executes x.outcome → PProtected x.before ≡ false) × Held xs)

abbrev HeldAfter : List Moment → Type 0
HeldAfter [] = Unit {0}
HeldAfter (x ∷ xs) = (NotForeground x → Held xs) × HeldAfter xs

held : (ms : List Move) (m : Machine) → Guarded m → Held (trail m ms)
held [] m h = tt
held (tick ∷ ms) m h = go (held ms (step m).after) (guarded_step m h)
  where
    go : (Guarded (step m).after → Held (trail (step m).after ms)) → Enters (step m).outcome ⊎ NotForeground (step m) → Held (trail m (tick ∷ ms))
    go rest (inl e) = inl e
    go rest (inr b) = inr (b.1, rest (guarded_after m h.switch b))
held (poke k ∷ ms) m h = held ms (poked k m) (guarded_poked k m h)

held_after : (ms : List Move) (m : Machine) → m.cpu.switch ≡ true → HeldAfter (trail m ms)
held_after [] m on = tt
held_after (tick ∷ ms) m on = (λ b. held ms (step m).after (guarded_after m on b), held_after ms (step m).after (step_switch m ∙ on))
held_after (poke k ∷ ms) m on = held_after ms (poked k m) on

-- the same by places
not_both : (o : Outcome) → Enters o → Executes o → ⊥
not_both Uncarried e r = e
not_both Done e r = e
not_both o e r = r

held_at : (xs rest : List Moment) (x : Moment) → HeldAfter (xs ++ (x ∷ rest)) → NotForeground x → Held rest
held_at [] rest x h b = h.0 b
held_at (y ∷ xs) rest x h b = held_at xs rest x h.1 b

held_until : (ys zs : List Moment) (z : Moment) → Held (ys ++ (z ∷ zs)) → NoEntry ys → Executes z.outcome → PProtected z.before ≡ false
held_until [] zs z (inl e) n r = absurd (not_both z.outcome e r)
held_until [] zs z (inr h) n r = h.0 r
held_until (y ∷ ys) zs z (inl e) n r = absurd (n.0 e)
held_until (y ∷ ys) zs z (inr h) n r = held_until ys zs z h.1 n.1 r

entry_needed : (all : List Moment) → HeldAfter all → EntryNeeded all
entry_needed all h xs ys zs x z e b n r = held_until ys zs z (held_at xs (ys ++ (z ∷ zs)) x (subst HeldAfter e h) b) n r

-- (c) TWO MACHINES

-- what a step leaves that is no entry
pub record Kept (m : Machine) : Type 0 where
  pub guarded : Guarded (step m).after
  pub tame : Tame (from m (step m).outcome (step m).after)

kept : (m : Machine) → Guarded m → (Enters (step m).outcome → ⊥) → Kept m
kept m h n =
    let b = other (guarded_step m h) n in
    record {
      guarded = guarded_after m h.switch b;
      tame = subst (λ z. Tame (from z (step m).outcome (step m).after)) (before m) (tame m h.switch b);
    }
  where
    before : (m : Machine) → (step m).before ≡ m
    before m = step_forms (λ x. x.before ≡ m) m (λ k d. refl) (λ w. refl) (λ x f. refl) (λ pp x f j. refl) (λ pp f j. refl)

-- two machines of which neither has entered: their protected words
pub record Pair (ps : List ℕ) (m t : Machine) : Type 0 where
  pub here : Guarded m
  pub there : Guarded t
  pub here_protection : m.cpu.guard.protection ≡ ps
  pub there_protection : t.cpu.guard.protection ≡ ps
  pub words : SameWords ps m t

pair : (m t : Machine) → Guarded m → Guarded t → SameProtected m t → Pair m.cpu.guard.protection m t
pair m t x y c = record { here = x; there = y; here_protection = refl; there_protection = sym c.protection; words = c.words }

pair_poked : (ps : List ℕ) (k : ℕ) (m t : Machine) → Pair ps m t → Pair ps (poked k m) (poked k t)
pair_poked ps k m t h = record {
  here = guarded_poked k m h.here;
  there = guarded_poked k t h.there;
  here_protection = h.here_protection;
  there_protection = h.there_protection;
  words = h.words;
}

pair_step : (ps : List ℕ) (m t : Machine) → Pair ps m t → (Enters (step m).outcome → ⊥) → (Enters (step t).outcome → ⊥)
    → Pair ps (step m).after (step t).after
pair_step ps m t h f g =
    let x = kept m h.here f in
    let y = kept t h.there g in
    record {
      here = x.guarded;
      there = y.guarded;
      here_protection = x.tame.protection ∙ h.here_protection;
      there_protection = y.tame.protection ∙ h.there_protection;
      words = λ a l. y.tame.words a (rw h.there_protection l) ∙ h.words a l ∙ sym (x.tame.words a (rw h.here_protection l));
    }

agree : (ps : List ℕ) (ms : List Move) (m t : Machine) → Pair ps m t → WordsAgree ps (trail m ms) (trail t ms)
agree ps [] m t h = tt
agree ps (tick ∷ ms) m t h =
    λ f g. ((pair_step ps m t h f g).words, agree ps ms (step m).after (step t).after (pair_step ps m t h f g))
agree ps (poke k ∷ ms) m t h = agree ps ms (poked k m) (poked k t) (pair_poked ps k m t h)

ends_agree : (ps : List ℕ) (ms : List Move) (m t : Machine) → Pair ps m t → NoEntry (trail m ms) → NoEntry (trail t ms)
    → SameWords ps (end m ms) (end t ms)
ends_agree ps [] m t h f g = h.words
ends_agree ps (tick ∷ ms) m t h f g = ends_agree ps ms (step m).after (step t).after (pair_step ps m t h f.0 g.0) f.1 g.1
ends_agree ps (poke k ∷ ms) m t h f g = ends_agree ps ms (poked k m) (poked k t) (pair_poked ps k m t h) f g

-- two machines of which neither has entered or violated: what decides an entry
pub record Twin (m t : Machine) : Type 0 where
  pub here : Guarded m
  pub there : Guarded t
  pub alike : SameLevels m t

twin_poked : (k : ℕ) (m t : Machine) → Twin m t → Twin (poked k m) (poked k t)
twin_poked k m t h = record {
  here = guarded_poked k m h.here;
  there = guarded_poked k t h.there;
  alike = record { ii = h.alike.ii; ei = h.alike.ei; levels = ap (told_level k Trigger) h.alike.levels; exit = h.alike.exit };
}

twin_step : (m t : Machine) → Twin m t → (Enters (step m).outcome → ⊥) → (Enters (step t).outcome → ⊥)
    → (IsViolation (step m).outcome → ⊥) → (IsViolation (step t).outcome → ⊥) → Twin (step m).after (step t).after
twin_step m t h f g v w =
    let p = kept m h.here f in
    let q = kept t h.there g in
    let x = p.tame in
    let y = q.tame in
    record {
      here = p.guarded;
      there = q.guarded;
      alike = record {
        ii = x.ii ∙ h.alike.ii ∙ sym y.ii;
        ei = x.ei ∙ h.alike.ei ∙ sym y.ei;
        levels = first x.levels (λ b. v b.0) ∙ h.alike.levels ∙ sym (first y.levels (λ b. w b.0));
        exit = x.exit ∙ sym y.exit;
      };
    }

-- which level enters
due_is : (k : Mark) (g : Guard) → due k g ≡ cond (exit_marked k) None (lowest 16 0 g.ii g.ei g.levels)
due_is Unset g = refl
due_is Wait g = refl
due_is Exit g = refl

same_due : (m t : Machine) → SameLevels m t → due m.cpu.mark m.cpu.guard ≡ due t.cpu.mark t.cpu.guard
same_due m t a =
    due_is m.cpu.mark m.cpu.guard
    ∙ (λ i. cond (a.exit i) None (lowest 16 0 (a.ii i) (a.ei i) (a.levels i)))
    ∙ sym (due_is t.cpu.mark t.cpu.guard)

entered_due : (m : Machine) (k : ℕ) → due m.cpu.mark m.cpu.guard ≡ Some k → (step m).outcome ≡ Entered k
unfolding step
entered_due m k e = ap (λ (d : Option ℕ). (by_entry d m).outcome) e

-- both enter the same level at the same step
same_entry : (m t : Machine) → SameLevels m t → (k : ℕ) → (step m).outcome ≡ Entered k → (step t).outcome ≡ Entered k
same_entry m t a k e = entered_due t k (sym (same_due m t a) ∙ (entered m k e).0)

same_back : (m t : Machine) → SameLevels m t → SameLevels t m
same_back m t a = record { ii = sym a.ii; ei = sym a.ei; levels = sym a.levels; exit = sym a.exit }

entry_level : (o : Outcome) → Enters o → (k : ℕ) × (o ≡ Entered k)
entry_level (Entered k) h = (k, refl)
entry_level (Violated x) h = absurd h
entry_level o h = absurd h

no_entry_either : (m t : Machine) → SameLevels m t → (Enters (step m).outcome → ⊥) → Enters (step t).outcome → ⊥
no_entry_either m t a out e =
    let k = entry_level (step t).outcome e in
    out (is_entry (step m).outcome k.0 (same_entry t m (same_back m t a) k.0 k.1))

-- there are sixteen levels, and their cells are in page 1
chosen : (x : Sight) (n k j : ℕ) (rest : Option ℕ) → (rest ≡ Some j → j < suc k + n) → choose x k rest ≡ Some j → j < k + suc n
chosen EntersNow n k j rest f e = let q : k ≡ j = cc in omega arith
chosen Blocks n k j rest f e = absurd cc
chosen Passes n k j rest f e = let q = f e in omega arith

lowest_below : (n k : ℕ) (ii ei : Bool) (ls : List Level) (j : ℕ) → lowest n k ii ei ls ≡ Some j → j < k + n
unfolding lowest
lowest_below zero k ii ei ls j e = absurd cc
lowest_below (suc n) k ii ei ls j e = chosen _ n k j (lowest n (suc k) ii ei ls) (lowest_below n (suc k) ii ei ls j) e

due_below : (b : Mark) (g : Guard) (k : ℕ) → due b g ≡ Some k → k < 16
due_below Exit g k e = absurd cc
due_below b g k e = let q = lowest_below 16 0 g.ii g.ei g.levels k e in omega arith

cell_protected : (ps : List ℕ) (k : ℕ) → k < 16 → page_protected ps 1 ≡ true → protects ps (0x0100 + k) ≡ true
cell_protected ps k h l = let q : (0x0100 + k) / 256 ≡ 1 = omega arith in rw q l

-- where a step that enters goes to
goes : (m : Machine) (k : ℕ) → (step m).outcome ≡ Entered k → (step m).after.cpu.work.p ≡ word (read m.words (0x0100 + k) + 2)
goes m k e = rw (entered m k e).1 refl

pair_goes : (ps : List ℕ) (m t : Machine) → Pair ps m t → (k : ℕ) → (step m).outcome ≡ Entered k → (step t).outcome ≡ Entered k → page_protected ps 1 ≡ true
    → (step t).after.cpu.work.p ≡ (step m).after.cpu.work.p
pair_goes ps m t h k e f l =
    let b = due_below m.cpu.mark m.cpu.guard k (entered m k e).0 in
    goes t k f ∙ ap (λ (w : ℕ). word (w + 2)) (h.words (0x0100 + k) (cell_protected ps k b l)) ∙ sym (goes m k e)

entries_agree : (A : Type 0) (ps : List ℕ) → (A → page_protected ps 1 ≡ true) → (ms : List Move) (m t : Machine) → Twin m t → (A → Pair ps m t)
    → SameEntry A (trail m ms) (trail t ms)
entries_agree A ps l [] m t h c n k p e f g = absurd e
entries_agree A ps l (tick ∷ ms) m t h c zero k p e f g =
    let same = same_entry m t h.alike k e.0 in
    ((step t).after.cpu.work.p, (same, refl), λ a. pair_goes ps m t (c a) k e.0 same (l a) ∙ e.1)
entries_agree A ps l (tick ∷ ms) m t h c (suc n) k p e f g =
    let other = no_entry_either m t h.alike e.0 in
    let rest = entries_agree A ps l ms (step m).after (step t).after (twin_step m t h e.0 other f.0 g.0) (λ a. pair_step ps m t (c a) e.0 other) n k p e.1 f.1 g.1 in
    (rest.0, (other, rest.1), rest.2)
entries_agree A ps l (poke j ∷ ms) m t h c n k p e f g =
    entries_agree A ps l ms (poked j m) (poked j t) (twin_poked j m t h) (λ a. pair_poked ps j m t (c a)) n k p e f g

-- THE EXIT MARK

-- with the switch on it is set only while PP is 1; with the switch off PP stays 1
pub record Settled (m : Machine) : Type 0 where
  pub on : m.cpu.switch ≡ true → m.cpu.pp ≡ false → exit_marked m.cpu.mark ≡ false
  pub off : m.cpu.switch ≡ false → m.cpu.pp ≡ true

settled_on : (m : Machine) → Settled m → m.cpu.switch ≡ true → (step m).after.cpu.pp ≡ false → exit_marked (step m).after.cpu.mark ≡ false
settled_on m h on =
    step_cases (λ x. x.after.cpu.pp ≡ false → exit_marked x.after.cpu.mark ≡ false) m on
    (λ k d e. refl)
    (λ w p l e. (acted (exits m.cpu.mark true) (instruction m) (fetched true m)).exit refl refl e)
    (λ o t k r e. k.exit)

settled_off : (m : Machine) → Settled m → m.cpu.switch ≡ false → (step m).after.cpu.pp ≡ true
settled_off m h off =
    step_forms (λ x. x.after.cpu.pp ≡ true) m
    (λ k d. refl)
    (λ w. h.off off)
    (λ x f. let q = rw off at f.pp in absurd cc)
    (λ pp x f j. let q = rw off at f.pp in let p = h.off off in cc)
    (λ pp f j.
    let q = rw off at f.pp in
    let p = h.off off in
    let l : pp ≡ true = cc in
    (acted (exits m.cpu.mark pp) (instruction m) (fetched pp m)).off off l)

settled : (ms : List Move) (m : Machine) → Settled m → Settled (end m ms)
settled [] m h = h
settled (tick ∷ ms) m h =
    settled ms (step m).after (record { on = λ e. settled_on m h (sym (step_switch m) ∙ e); off = λ e. settled_off m h (sym (step_switch m) ∙ e) })
settled (poke k ∷ ms) m h = settled ms (poked k m) (record { on = h.on; off = h.off })

-- THE THEOREM
subst2 : {X : Type 0} (P : X → X → Type 0) {a b c d : X} → a ≡ b → c ≡ d → P a c → P b d
subst2 P {a} {b} {c} {d} e f x = subst (λ z. P z d) e (subst (λ z. P a z) f x)

pub wider : Wider
wider = record {
  contained = λ m on cs. subst (Each Contained) (sym (trail_calls cs m)) (each Contained step_contained (moves cs) m on);
  held = λ m on cs. subst EntryNeeded (sym (trail_calls cs m)) (entry_needed (trail m (moves cs)) (held_after (moves cs) m on));
  by_cell = λ m cs. subst (Each ByCell) (sym (trail_calls cs m)) (each_any ByCell step_by_cell (moves cs) m);
  entries = λ m t x y c cs.
      subst2 (SameEntry (SameCells m t)) (sym (trail_calls cs m)) (sym (trail_calls cs t))
      (entries_agree (SameCells m t) m.cpu.guard.protection (λ a. a.1) (moves cs) m t (record { here = x; there = y; alike = c }) (λ a. pair m t x y a.0));
  steps = λ m t x y c cs.
      let ps = m.cpu.guard.protection in
      subst2 (WordsAgree ps) (sym (trail_calls cs m)) (sym (trail_calls cs t)) (agree ps (moves cs) m t (pair m t x y c));
  calls = λ m t x y c cs f g.
      let ps = m.cpu.guard.protection in
      subst2 (SameWords ps) (sym (end_calls cs m)) (sym (end_calls cs t))
      (ends_agree ps (moves cs) m t (pair m t x y c) (subst NoEntry (trail_calls cs m) f) (subst NoEntry (trail_calls cs t) g));
  switch = λ m cs. ap (λ (x : Machine). x.cpu.switch) (end_calls cs m) ∙ end_switch (moves cs) m;
  unmarked = λ m p cs.
      subst (λ (x : Machine). x.cpu.pp ≡ false → exit_marked x.cpu.mark ≡ false) (sym (end_calls cs m))
      (by_switch (settled (moves cs) m (record { on = λ _ f. absurd (both_ways m.cpu.pp f p); off = λ _. p })));
}
  where
    by_switch : {m : Machine} → Settled m → m.cpu.pp ≡ false → exit_marked m.cpu.mark ≡ false
    by_switch {m} h f = go m.cpu.switch refl
      where
        go : (b : Bool) → m.cpu.switch ≡ b → exit_marked m.cpu.mark ≡ false
        go true e = h.on e f
        go false e = absurd (both_ways m.cpu.pp f (h.off e))

-- THE LAW OF A MACHINE SET GOING

-- a background step is not of the foreground
run_or_fault : (o : Outcome) → Executes o ⊎ Faults o → Enters o → ⊥
run_or_fault (Entered k) h e = ⊎_elim (λ x. x) (λ x. x) h
run_or_fault o h e = e

barred : (o : Outcome) → Barred o → (Enters o → ⊥) × (Executes o → ⊥)
barred (Violated x) h = (λ e. e, λ e. e)
barred (Stalled x) h = (λ e. e, λ e. e)
barred o h = absurd h

not_foreground : (x : Moment) → Background x → NotForeground x
not_foreground x (inl h) = (run_or_fault x.outcome h.0, λ _. h.1)
not_foreground x (inr h) = let b = barred x.outcome h in (b.0, λ r. absurd (b.1 r))

confined : (x : Moment) → Contained x → Confined x
confined x h b = h (not_foreground x b)

pub step_confined : (m : Machine) → m.cpu.switch ≡ true → Confined (step m)
step_confined m on = confined (step m) (step_contained m on)

all_confined : (xs : List Moment) → Each Contained xs → Each Confined xs
all_confined [] h = tt
all_confined (x ∷ xs) h = (confined x h.0, all_confined xs h.1)

clean : (n : ℕ) (xs : List Moment) → Clean n xs → NoViolation n xs
clean zero xs h = tt
clean (suc n) [] h = tt
clean (suc n) (x ∷ xs) h = (λ v. h.0 (fault x.outcome v), clean n xs h.1)

follows : (A : Type 0) (b : Bool) → (b ≡ true → A) → (xs ys : List Moment) → SameEntry A xs ys → Follows b xs ys
follows A b a xs ys h n k p e f g = let z = h n k p e (clean n xs f) (clean n ys g) in (z.0, z.1, λ l. z.2 (a l))

pub isolation : Isolation
isolation m h = record {
  confined = λ cs. all_confined (steps_of cs m) (wider.contained m h.switch cs);
  held = λ cs xs ys zs x z e b. wider.held m h.switch cs xs ys zs x z e (not_foreground x b);
  by_cell = wider.by_cell m;
  indistinct = λ t g ms ts cs x y c.
      let m' = after_calls ms m in
      let t' = after_calls ts t in
      let here : Guarded m' = record { switch = wider.switch m ms ∙ h.switch; away = inl x.pp } in
      let there : Guarded t' = record { switch = wider.switch t ts ∙ g.switch; away = inl y.pp } in
      let levels : SameLevels m' t' =
      record { ii = c.ii; ei = c.ei; levels = c.levels; exit = ap exit_marked (x.mark ∙ sym y.mark) }
      in
      let same : SameProtected m' t' = record { protection = c.protection; words = c.words } in
      let swapped : SameProtected t' m' = record { protection = sym c.protection; words = λ a l. sym (c.words a (rw c.protection l)) } in
      record {
        there = follows _ _ (λ l. (same, l)) _ _ (wider.entries m' t' here there levels cs);
        back = follows _ _ (λ l. (swapped, rw (← c.protection) l)) _ _ (wider.entries t' m' there here (same_back m' t' levels) cs);
        steps = wider.steps m' t' here there same cs;
        calls = λ ps qs e. wider.calls m' t' here there same ps;
      };
}
