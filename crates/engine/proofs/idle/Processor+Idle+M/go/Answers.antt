use Rattle.std.proofs.Common.{refl}
use Rattle.isolation.proofs.Theorem.{isolation}
use Rattle.engine.proofs.idle.Processor+Idle+M.go.Goals as goal

pub returns-clause-isolated : goal.returns-clause-isolated
returns-clause-isolated g c = λ on. isolation _ (record { pp = refl; last = refl; switch = on })
