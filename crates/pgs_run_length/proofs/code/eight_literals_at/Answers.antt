-- `eight_literals_at` tests the front of what stands from the place on. Assumes nothing.
use Rattle.std.proofs.Common.{ℕ, List, ◌≡◌, ◌∙◌, ap}
use Rattle.pgs_run_length.specs.Literals.{literals}
use Rattle.pgs_run_length.proofs.LiteralBytes.{literals-there}
use Rattle.pgs_run_length.proofs.code.eight_literals_at.Goals as goal

pub returns : goal.returns
returns c =
    c.eight_literals.ensures ∙ ap (λ (l : List ℕ). literals l 0 8) c.behind.ensures ∙ literals-there c.args.data.now c.args.at 8
