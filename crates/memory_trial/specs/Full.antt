-- The size of a memory of one block.
use Rattle.std.specs.Prelude.{◌≡◌, ℕ, List, length}
use Rattle.std.proofs.Common.{arith}
use Rattle.memory.specs.Sizes.{Sized}

-- one block is a size that a memory may have
pub full_sized : (ws : List ℕ) → length ws ≡ 8192 → Sized ws
full_sized ws e = record { blocks = omega arith; most = omega arith }
