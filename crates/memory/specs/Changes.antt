-- What the changes of a plan answer and do.
use Rattle.std.specs.Prelude.{ℕ, zero, suc, Bool, false, cond, not, ◌&&◌, ◌||◌, List, is_ok, Ok, Err, Result, ◌==◌, nat_lt, slice_index, slice_set}
use Rattle.memory.specs.declared.refusals.PlanRefusal.{PlanRefusal}
use Rattle.memory.specs.declared.refusals.PlanRefusal.TheVariants.{NoBlock, NoPortion, PortionHeld}

-- the number of each refusal
abbrev pub refusal_number : PlanRefusal → ℕ
refusal_number NoBlock = 1
refusal_number NoPortion = 2
refusal_number PortionHeld = 3

-- whether another block than b, among the first n, has the portion p
abbrev pub held_below : List ℕ → ℕ → ℕ → ℕ → Bool
held_below ps b p zero = false
held_below ps b p (suc n) = (not (n == b) && slice_index ps n == p) || held_below ps b p n

-- what a change of block b to portion p answers
abbrev pub set_answer : List ℕ → ℕ → ℕ → Result (Unit {0}) PlanRefusal
set_answer ps b p = cond (nat_lt 7 b) (Err NoBlock) (cond (nat_lt 31 p) (Err NoPortion) (cond (held_below ps b p 8) (Err PortionHeld) (Ok tt)))

-- the portions after it, which a refusal leaves as they were
abbrev pub set_after : List ℕ → ℕ → ℕ → List ℕ
set_after ps b p = cond (is_ok (set_answer ps b p)) (slice_set ps b p) ps

-- what an exchange of the portions of two blocks answers
abbrev pub exchange_answer : ℕ → ℕ → Result (Unit {0}) PlanRefusal
exchange_answer a b = cond (nat_lt 7 a || nat_lt 7 b) (Err NoBlock) (Ok tt)

-- the portions after it, which a refusal leaves as they were
abbrev pub exchange_after : List ℕ → ℕ → ℕ → List ℕ
exchange_after ps a b = cond (is_ok (exchange_answer a b)) (slice_set (slice_set ps a (slice_index ps b)) b (slice_index ps a)) ps
