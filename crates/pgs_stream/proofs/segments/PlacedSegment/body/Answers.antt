-- `body` gives the bytes behind the head, up to the segment's end.
-- Assumes nothing.
use Rattle.std.proofs.Common.{◌≡◌, ◌∙◌, ap, take, drop, arith, ◌+◌, ◌-◌}
use Rattle.std.proofs.lemmas.Grind.{common_steps}
use lib.Seq.{drop-drop}
use Rattle.pgs_stream.proofs.segments.PlacedSegment.body.Goals as goal

pub returns : goal.returns
returns c =
    let at = c.args.self.at in
    let s = c.args.stream.now in
    let from : c.unwrap_or-from.result.now ≡ drop at s = grind (arith, common_steps) in
    let rest : c.unwrap_or-rest.result.now ≡ drop 13 c.unwrap_or-from.result.now = grind (arith, common_steps) in
    let len : c.saturating_sub-len.result ≡ c.args.self.end - (at + 13) = grind (arith, common_steps) in
    let part : c.unwrap_or.result.now ≡ take c.saturating_sub-len.result c.unwrap_or-rest.result.now = grind (arith, common_steps) in
    part ∙ (λ j. take (len j) ((rest ∙ ap (drop 13) from ∙ drop-drop 13 at s) j))
