use Rattle.std.proofs.Common.{◌≡◌, replicate, ap, of_calls, ◌∙◌}
use Rattle.machine.specs.Calls.{gone}
use Rattle.console.proofs.Loads.{accepted}
use Rattle.console.proofs.start.with_running.Goals as goal

pub returns-in-Ok-clause-done : goal.returns-in-Ok-clause-done
returns-in-Ok-clause-done g c =
    let zero : c.new-idle.result.memory.words.now ≡ replicate 8192 0 = ap (λ m. m.words.now) c.new-idle.ensures.memory ∙ c.new.ensures.value in
    let l = accepted c.args.bytes.now _ _ zero c.new-idle.ensures.cpu _ _ c.in-Ok.ensures.answer c.in-Ok.ensures.after in
    record {
      items = l.0;
      accepted = l.1;
      old = c.go-running.result;
      new = c.work-done.new.arg2;
      goes = c.go-running.ensures.after ∙ ap (gone c.args.protect) l.2;
      done = search of_calls parts 8;
    }
