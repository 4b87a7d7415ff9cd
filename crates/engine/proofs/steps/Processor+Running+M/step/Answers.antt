use Rattle.std.proofs.Common.{◌≡◌, refl}
use Rattle.machine.specs.View.{machine_of}
use Rattle.engine.specs.View.{seen}
use Rattle.engine.proofs.Stepping.{steps_idle, steps_in, steps_on}
use Rattle.engine.proofs.steps.Processor+Running+M.step.Goals as goal

pub returns-in-Some : goal.returns-in-Some
returns-in-Some g c =
    let ws = g.M.Memory.words c.args.self.now.memory in
    let m = seen g.M.Memory.words c.args.self.now in
    let same : machine_of c.due.new.self ws ≡ m = λ i. record { cpu = c.due.ensures.same i; words = ws } in
    let e = steps_in m (machine_of c.due.new.self ws) _ same c.in-Some.level c.in-Some.ensures.answer c.enter.ensures.after in
    record { answer = e.answer; after = e.after; outside = c.enter.ensures.outside; confined = e.confined }

pub returns-in-Wait : goal.returns-in-Wait
returns-in-Wait g c =
    let ws = g.M.Memory.words c.args.self.now.memory in
    let m = seen g.M.Memory.words c.args.self.now in
    let same : machine_of c.due.new.self ws ≡ m = λ i. record { cpu = c.due.ensures.same i; words = ws } in
    let e = steps_idle m (machine_of c.due.new.self ws) _ same c.in_default.ensures.answer c.in-Wait.is refl in
    record { answer = e.answer; after = e.after; outside = refl; confined = e.confined }

pub returns-in-Unset : goal.returns-in-Unset
returns-in-Unset g c =
    let ws = g.M.Memory.words c.args.self.now.memory in
    let m = seen g.M.Memory.words c.args.self.now in
    let same : machine_of c.due.new.self ws ≡ m = λ i. record { cpu = c.due.ensures.same i; words = ws } in
    let e = steps_on m (machine_of c.due.new.self ws) _ same c.in_default.ensures.answer _ c.in-Unset.is c.fetch.ensures.answer c.fetch.ensures.after in
    record { answer = e.answer; after = e.after; outside = c.fetch.ensures.outside; confined = e.confined }
