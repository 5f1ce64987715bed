-- `header_at` gives the fields of the bytes from the place on, which are those of their first 13 where there are as many.
-- Assumes nothing.
use Rattle.pgs_segment.proofs.HeaderLaws.{own-head}
use Rattle.pgs_segment.specs.Header.{header_fields}
use Rattle.std.proofs.Common.{◌≡◌, ◌∙◌, ap, take, drop, arith, rules}
use Rattle.std.proofs.lemmas.Grind.{common_steps}
use Rattle.pgs_segment.proofs.header.header_at.Goals as goal

pub returns-in-Some : goal.returns-in-Some
returns-in-Some c =
    let rest : c.unwrap_or-rest.result.now ≡ drop c.args.at c.args.s.now = grind (arith, common_steps) in
    let head : c.in-Some.head.now ≡ take 13 c.unwrap_or-rest.result.now = search rules in
    c.fields.ensures ∙ ap header_fields head ∙ own-head 13 c.unwrap_or-rest.result.now (omega arith) c.in-Some.ensures.lookup.0.1 ∙ ap header_fields rest
