use Rattle.std.proofs.Common.{sym, ap, ◌∙◌}
use Rattle.machine.specs.State.{set_work}
use Rattle.machine.specs.Step.{judgement, on_work}
use Rattle.machine.specs.View.{cpu_of}
use Rattle.machine.specs.Work.{copied}
use Rattle.engine.specs.Steps.{unless_found}
use Rattle.engine.specs.View.{seen}
use Rattle.engine.proofs.steps.Processor+Running+M.execute.Goals as goal

pub returns-in-Copy-clause-after : goal.returns-in-Copy-clause-after
returns-in-Copy-clause-after g c =
    let ws = g.M.Memory.words c.args.self.now.memory in
    let m = seen g.M.Memory.words c.args.self.now in
    let pp = c.args.pp in
    ap (λ v. record { cpu = set_work v (cpu_of c.fetch-in-Copy.new.self); words = ws }) c.copy.ensures
    ∙ ap (λ s. on_work (copied c.in-Copy.transfer) (record { cpu = s; words = ws })) c.fetch-in-Copy.ensures
    ∙ ap (λ x. unless_found (judgement pp x m) pp x m) (sym c.in-Copy.is)
