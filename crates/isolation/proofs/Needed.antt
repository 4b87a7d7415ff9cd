-- No premise can go, worked out.
use Rattle.std.proofs.Common.{◌≡◌, ℕ, ◌-◌, ◌/◌, ◌%◌, ◌^◌, true, eqb, List, [], ◌∷◌, sym, refl, ap, ◌∙◌, inl}
use native.Mathlib.Nat.{zero-div}
use Rattle.std.proofs.lemmas.Bool.{eqb-false, false≢true}
use Rattle.levels.specs.declared.level.Level.{Level}
use Rattle.levels.specs.Levels.{is_waiting, level_at, lowest}
use Rattle.machine.specs.Step.{instruction_at, step}
use Rattle.machine.specs.Words.{protects}
use Rattle.isolation.specs.Needed.{EntriesNeed, GuardNeeded, Needed, StepsNeed, WordsNeed, armed, cell_3, inhibits, machine, page_0, page_1, quiet, stores_1, stores_cell, stores_page_1, urgent, waiting}

-- with no protection registers, nothing is protected
nothing_protected : (a : ℕ) → protects [] a ≡ true → ⊥
nothing_protected a e = false≢true (sym (ap (λ w. eqb (w % 2) 1) (zero-div (2 ^ (15 - a / 256 % 16)))) ∙ e)

pub guard : GuardNeeded
unfolding machine page_0 page_1 armed stores_1 stores_page_1 inhibits quiet step instruction_at lowest
guard = record {
  contained = λ h. eqb-false 7 0 refl ((h.0 (λ x. x, λ x. refl)).words 0x0100 refl);
  held = λ h. false≢true (sym (h [] [] [] _ _ refl (λ x. x, λ x. refl) tt tt));
  entry_switch = record {
    here = record { switch = refl; away = inl refl };
    there = record { switch = refl; away = inl refl };
    levels = record { ii = refl; ei = refl; levels = refl; exit = refl };
    protected = record { protection = refl; words = λ a e. refl };
    one = λ h. (h 2 3 2 (λ x. x, (λ x. x, (refl, refl))) (λ x. x, (λ x. x, tt)) (λ x. x, (λ x. x, tt))).1.1.0 tt;
    other = λ h. let e = (h 1 9 2 (λ x. x, (refl, refl)) (λ x. x, tt) (λ x. x, tt)).1.1.0 in absurd cc;
  };
  entry_pp = record {
    here = record { switch = refl; away = inl refl };
    there = record { switch = refl; away = inl refl };
    levels = record { ii = refl; ei = refl; levels = refl; exit = refl };
    protected = record { protection = refl; words = λ a e. refl };
    one = λ h. (h 2 3 2 (λ x. x, (λ x. x, (refl, refl))) (λ x. x, (λ x. x, tt)) (λ x. x, (λ x. x, tt))).1.1.0 tt;
    other = λ h. let e = (h 1 9 2 (λ x. x, (refl, refl)) (λ x. x, tt) (λ x. x, tt)).1.1.0 in absurd cc;
  };
  word_switch = record {
    here = record { switch = refl; away = inl refl };
    there = record { switch = refl; away = inl refl };
    levels = record { ii = refl; ei = refl; levels = refl; exit = refl };
    protected = record { protection = refl; words = λ a e. refl };
    one = ((λ x. x, tt), (λ x. x, tt), λ h. eqb-false 0 7 refl (h 0x0100 refl));
    other = ((λ x. x, tt), (λ x. x, tt), λ h. eqb-false 7 0 refl (h 0x0100 refl));
  };
  word_pp = record {
    here = record { switch = refl; away = inl refl };
    there = record { switch = refl; away = inl refl };
    levels = record { ii = refl; ei = refl; levels = refl; exit = refl };
    protected = record { protection = refl; words = λ a e. refl };
    one = ((λ x. x, tt), (λ x. x, tt), λ h. eqb-false 0 7 refl (h 1 refl));
    other = ((λ x. x, tt), (λ x. x, tt), λ h. eqb-false 7 0 refl (h 1 refl));
  };
  first_pp = (record { switch = refl; away = inl refl }, λ e. false≢true (sym e));
  last_pp = λ e. false≢true (sym e);
}

pub entries : EntriesNeed
unfolding machine page_1 armed waiting cell_3 stores_cell stores_page_1 quiet urgent step instruction_at lowest
entries = record {
  ii = ((record { switch = refl; away = inl refl }, record { switch = refl; away = inl refl }), λ h. let e = (h 0 3 2 (refl, refl) tt tt).1.0 in absurd cc);
  ei = ((record { switch = refl; away = inl refl }, record { switch = refl; away = inl refl }), λ h. let e = (h 0 9 2 (refl, refl) tt tt).1.0 in absurd cc);
  levels = ((record { switch = refl; away = inl refl }, record { switch = refl; away = inl refl }), λ h. let e = (h 0 3 2 (refl, refl) tt tt).1.0 in absurd cc);
  exit = ((record { switch = refl; away = inl refl }, record { switch = refl; away = inl refl }), λ h. let e = (h 0 3 2 (refl, refl) tt tt).1.0 in absurd cc);
  enters = λ h. let e = (h 0 3 tt).1.0 in absurd cc;
  clean_here = (
    (record { switch = refl; away = inl refl }, record { switch = refl; away = inl refl }),
    record { ii = refl; ei = refl; levels = refl; exit = refl },
    λ h. let e = (h 1 0 2 (λ x. x, (refl, refl)) (λ x. x, tt)).1.1.0 in absurd cc,
  );
  clean_there = (
    (record { switch = refl; away = inl refl }, record { switch = refl; away = inl refl }),
    record { ii = refl; ei = refl; levels = refl; exit = refl },
    λ h. let e = (h 1 3 2 (λ x. x, (refl, refl)) (λ x. x, tt)).1.1.0 in absurd cc,
  );
  page = (
    (record { switch = refl; away = inl refl }, record { switch = refl; away = inl refl }),
    record { protection = refl; words = λ a e. absurd (nothing_protected a e) },
    λ h. let x = h 0 3 2 (refl, refl) tt tt in eqb-false 0x0202 2 refl (x.1.1 ∙ x.2 tt),
  );
  words = (
    (record { switch = refl; away = inl refl }, record { switch = refl; away = inl refl }),
    λ h. let x = h 0 3 2 (refl, refl) tt tt in eqb-false 0x0202 2 refl (x.1.1 ∙ x.2 tt),
  );
  protection = (
    (record { switch = refl; away = inl refl }, record { switch = refl; away = inl refl }),
    record { ii = refl; ei = refl; levels = refl; exit = refl },
    λ h. let x = h 1 3 2 (λ x. x, (refl, refl)) (λ x. x, tt) (λ x. x, tt) in eqb-false 9 2 refl (x.1.1.1 ∙ x.2 tt),
  );
}

pub words : WordsNeed
unfolding machine page_0 page_1 armed waiting stores_1 quiet urgent step instruction_at lowest
words = record {
  protection = (
    (record { switch = refl; away = inl refl }, record { switch = refl; away = inl refl }),
    ((λ x. x, tt), (λ x. x, tt), λ h. eqb-false 7 0 refl (h 1 refl)),
  );
  words = (
    (record { switch = refl; away = inl refl }, record { switch = refl; away = inl refl }),
    ((λ x. x, tt), (λ x. x, tt), λ h. eqb-false 7 0 refl (h 0 refl)),
  );
  protected = (
    (record { switch = refl; away = inl refl }, record { switch = refl; away = inl refl }),
    record { protection = refl; words = λ a e. refl },
    eqb-false 0 7 refl,
  );
  entry_here = (
    (record { switch = refl; away = inl refl }, record { switch = refl; away = inl refl }),
    record { protection = refl; words = λ a e. refl },
    (λ x. x, tt),
    λ h. eqb-false 0 0x0200 refl (h 1 refl),
  );
  entry_there = (
    (record { switch = refl; away = inl refl }, record { switch = refl; away = inl refl }),
    record { protection = refl; words = λ a e. refl },
    (λ x. x, tt),
    λ h. eqb-false 0x0200 0 refl (h 1 refl),
  );
}

pub steps : StepsNeed
unfolding machine page_0 page_1 armed waiting stores_1 stores_page_1 quiet urgent step instruction_at lowest
steps = record {
  no_entry = (λ x. absurd x, λ h. eqb-false 0x0200 0 refl (h.words 1 refl));
  unprotected = (λ x. x, λ h. eqb-false 7 0 refl (h.words 1 refl));
  protected = ((λ x. x, λ x. refl), λ h. eqb-false 7 0 refl (h 1));
  violation = ((λ x. x, λ x. absurd x), λ h. false≢true (sym (ap (λ (ls : List Level). is_waiting (level_at ls 0).state) h)));
  background = λ h. false≢true (sym (h [] [] [] _ _ refl tt tt));
  between = λ h. false≢true (sym (h [] (_ ∷ []) [] _ _ refl (λ x. x, λ x. refl) tt));
  executes = λ h. false≢true (sym (h [] [] [] _ _ refl (λ x. x, λ x. refl) tt));
  entered = λ h. eqb-false 0x0201 2 refl (h 0);
}

pub needed : Needed
needed = record { guard = guard; entries = entries; words = words; steps = steps }
