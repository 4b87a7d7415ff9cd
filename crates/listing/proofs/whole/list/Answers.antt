use Rattle.std.proofs.Common.{◌≡◌, ◌++◌, replicate, ap, ◌∙◌}
use Rattle.listing.specs.Listing.{line}
use Rattle.listing.specs.Text.{map_line}
use Rattle.listing.proofs.Reports.{accepted}
use Rattle.listing.proofs.whole.list.Goals as goal

pub returns-in_ok-writeln-in-Ok-2 : goal.returns-in_ok-writeln-in-Ok-2
returns-in_ok-writeln-in-Ok-2 c =
    let zero : c.new-processor.result.memory.words.now ≡ replicate 8192 0 = ap (λ m. m.words.now) c.new-processor.ensures.memory ∙ c.new.ensures.value in
    let k = c.in-Ok.ensures in
    c.in_ok-writeln-in-Ok-2.ensures.bytes
    ∙ ap (λ l. l ++ line (map_line c.protection-map.result)) c.in_ok-writeln-in-Ok.ensures.bytes
    ∙ accepted c.args.bytes.now _ _ _ c.first-bytes.ensures zero c.new-processor.ensures.cpu _ _ _ _ k.answer k.after c.in_ok-text-in-Ok.ensures c.protection-map.ensures
