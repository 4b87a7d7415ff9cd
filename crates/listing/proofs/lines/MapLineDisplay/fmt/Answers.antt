use Rattle.std.proofs.Common.{arith, rules}
use Rattle.std.proofs.Output.{has_written_append, has_written_of_eq}
use Rattle.listing.proofs.Texts.{hex_more}
use Rattle.listing.proofs.lines.MapLineDisplay.fmt.Goals as goal

pub loop-word-preserved : goal.loop-word-preserved
loop-word-preserved g c p =
    has_written_of_eq _ _ _ _ _ (hex_more _ c.loop-word.word-index (omega arith)) (has_written_append _ _ _ _ _ _ (c.loop-word.invariant p) (search rules))
