-- Lists of calls as lists of moves, over which all inductions run.
use Rattle.std.proofs.Common.{◌≡◌, List, [], ◌∷◌, ◌++◌, sym, refl, ap, ◌∙◌}
use Rattle.machine.specs.declared.call.Call.{Call}
use Rattle.machine.specs.Calls.{Move, after_call, after_calls, end, moves_of, poke, poked, tick, trail}
use Rattle.machine.specs.State.{Machine}
use Rattle.machine.specs.Step.{step}
use Rattle.isolation.specs.Steps.{steps_of}

-- the moves of a list of calls
pub moves : List Call → List Move
moves [] = []
moves (c ∷ cs) = moves_of c ++ moves cs

pub end_append : (ms ns : List Move) (m : Machine) → end m (ms ++ ns) ≡ end (end m ms) ns
end_append [] ns m = refl
end_append (tick ∷ ms) ns m = end_append ms ns (step m).after
end_append (poke k ∷ ms) ns m = end_append ms ns (poked k m)

pub trail_append : (ms ns : List Move) (m : Machine) → trail m (ms ++ ns) ≡ trail m ms ++ trail (end m ms) ns
trail_append [] ns m = refl
trail_append (tick ∷ ms) ns m = ap (λ xs. step m ∷ xs) (trail_append ms ns (step m).after)
trail_append (poke k ∷ ms) ns m = trail_append ms ns (poked k m)

pub end_calls : (cs : List Call) (m : Machine) → after_calls cs m ≡ end m (moves cs)
unfolding moves
end_calls [] m = refl
end_calls (c ∷ cs) m = end_calls cs (after_call c m) ∙ sym (end_append (moves_of c) (moves cs) m)

pub trail_calls : (cs : List Call) (m : Machine) → steps_of cs m ≡ trail m (moves cs)
unfolding moves
trail_calls [] m = refl
trail_calls (c ∷ cs) m = ap (λ xs. trail m (moves_of c) ++ xs) (trail_calls cs (after_call c m)) ∙ sym (trail_append (moves_of c) (moves cs) m)
