-- What no call of a memory changes beside its meaning.
use Rattle.std.specs.Prelude.{ℕ, List, ◌++◌, length, drop}
use Rattle.std.specs.Borrow.{GName, MutBor}
use Rattle.memory.specs.Words.{behind}
use Rattle.memory.specs.Wide.{unreached}

-- what lies outside a memory, by its kind
pub data Outer : Type 0 where
  -- a memory that owns its words has nothing outside
  nothing : Outer
  -- the reference's ghost name, and the words behind the size
  row : GName → List ℕ → Outer
  -- the reference's ghost name, the plan's portions, and the 32-bit words out of reach
  wide : GName → List ℕ → List ℕ → Outer
  -- two memories, the size of the first, and the words past 65536 addresses
  pair : Outer → Outer → ℕ → List ℕ → Outer

-- what lies outside core memory
abbrev pub outer_row : MutBor (List ℕ) → Outer
outer_row r = row r.ghost_name (behind r.now)

-- what lies outside adaptor memory
abbrev pub outer_wide : List ℕ → MutBor (List ℕ) → Outer
outer_wide ps r = wide r.ghost_name ps (unreached ps r.now)

-- what lies outside joined memory
abbrev pub outer_pair : Outer → Outer → List ℕ → List ℕ → Outer
outer_pair a b xs ys = pair a b (length xs) (drop 65536 (xs ++ ys))
