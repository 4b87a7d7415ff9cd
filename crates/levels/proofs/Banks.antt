-- A bank as a list.
use Rattle.std.proofs.Common.{◌≡◌, length, refl}
use Rattle.levels.specs.declared.bank.Bank.{Bank}
use Rattle.levels.specs.Banks.{records}

pub length_records : (b : Bank) → length (records b) ≡ 16
unfolding records
length_records b = refl
