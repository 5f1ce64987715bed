-- `number_at` reads the field's bytes, or those that are there.
use Rattle.std.proofs.Common.{ℕ, List, ◌≡◌, ◌%◌, ◌^◌, ◌∙◌, ap, take, drop, arith, rules}
use Rattle.std.proofs.lemmas.Grind.{common_steps}
use Rattle.pgs_base.specs.Bytes.{big, num}
use Rattle.pgs_base.proofs.Digits.{num-whole}
use Rattle.pgs_base.proofs.number.number_at.Goals as goal

pub returns-in-Some : goal.returns-in-Some
unfolding num
returns-in-Some g c =
    let rest : c.unwrap_or-rest.result.now ≡ drop c.args.at c.args.bytes.now = grind (arith, common_steps) in
    let field : c.in-Some.field.now ≡ take g.row.W c.unwrap_or-rest.result.now = search rules in
    let value = c.number_of_bytes.ensures ∙ ap (λ (l : List ℕ). big l % 2 ^ 32) (field ∙ ap (take g.row.W) rest) in
    record { value = value; whole = num-whole g.row.W c.args.at c.args.bytes.now (λ i. (c.type_inv.bytes i).fits) value }

pub returns-in-None : goal.returns-in-None
unfolding num
returns-in-None g c =
    let rest : c.unwrap_or-rest.result.now ≡ drop c.args.at c.args.bytes.now = grind (arith, common_steps) in
    let field : c.unwrap_or-rest.result.now ≡ take g.row.W c.unwrap_or-rest.result.now = grind (arith, common_steps) in
    let value = c.number_of_bytes-in-None.ensures ∙ ap (λ (l : List ℕ). big l % 2 ^ 32) (field ∙ ap (take g.row.W) rest) in
    record { value = value; whole = num-whole g.row.W c.args.at c.args.bytes.now (λ i. (c.type_inv.bytes i).fits) value }
