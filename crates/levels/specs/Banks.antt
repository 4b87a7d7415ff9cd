-- Sixteen records as a list, and what lending one of them leaves.
use Rattle.std.specs.Prelude.{ℕ, cond, List, [], ◌∷◌, Option, ◌==◌}
use Rattle.std.specs.Borrow.{Fml, LendsIf, MutBor}
use Rattle.levels.specs.contracts.bank.Bank.{the_row}
use Rattle.levels.specs.contracts.level.Level.{the_row as level_row}
use Rattle.levels.specs.declared.bank.Bank.{Bank}
use Rattle.levels.specs.declared.level.Level.{Level}

-- the records in the order of their levels
unfoldable pub records : Bank → List Level
records b = b.l0 ∷ b.l1 ∷ b.l2 ∷ b.l3 ∷ b.l4 ∷ b.l5 ∷ b.l6 ∷ b.l7 ∷ b.l8 ∷ b.l9 ∷ b.l10 ∷ b.l11 ∷ b.l12 ∷ b.l13 ∷ b.l14 ∷ b.l15 ∷ []

-- the records with that of level k replaced
abbrev pub with_record : Bank → ℕ → Level → Bank
with_record b k w = record { l0 = cond (k == 0) w b.l0; l1 = cond (k == 1) w b.l1; l2 = cond (k == 2) w b.l2; l3 = cond (k == 3) w b.l3; l4 = cond (k == 4) w b.l4; l5 = cond (k == 5) w b.l5; l6 = cond (k == 6) w b.l6; l7 = cond (k == 7) w b.l7; l8 = cond (k == 8) w b.l8; l9 = cond (k == 9) w b.l9; l10 = cond (k == 10) w b.l10; l11 = cond (k == 11) w b.l11; l12 = cond (k == 12) w b.l12; l13 = cond (k == 13) w b.l13; l14 = cond (k == 14) w b.l14; l15 = cond (k == 15) w b.l15 }

-- of b the record of level k is lent as r: b ends with that record as it is left, or as it was where r is none
abbrev pub LendsRecord : MutBor Bank → ℕ → Option (MutBor Level) → Fml
LendsRecord b k r = LendsIf the_row level_row b r (with_record b.now k) b.now
