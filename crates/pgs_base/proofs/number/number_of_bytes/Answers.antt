-- `number_of_bytes` adds the bytes one by one.
use Rattle.std.proofs.Common.{rules, ◌≡◌, [], ◌∙◌}
use Rattle.std.specs.List.{fold}
use Rattle.pgs_base.proofs.Digits.{shifted, fold-shifted}
use Rattle.pgs_base.proofs.number.number_of_bytes.Goals as goal

pub returns : goal.returns
returns c =
    let e : c.fold.result ≡ fold shifted 0 c.args.bytes.now = search rules in
    e ∙ fold-shifted [] c.args.bytes.now (λ i. (c.type_inv.bytes i).fits)
