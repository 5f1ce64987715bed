-- `Table::new` takes the array that stands at the front of the bytes.
-- Assumes nothing.
use Rattle.std.proofs.Common.{rules, ap, sym, length, ◌≤◌}
use borrow.Author.Tests.{le-leb}
use Rattle.pgs_base.specs.Outcome.{unless}
use Rattle.pgs_palette.proofs.palette.Table.new.Goals as goal

pub returns-clause-verdict : goal.returns-clause-verdict
returns-clause-verdict c =
    let enough : 1024 ≤ length c.args.bytes.now = search rules in
    ap (unless 34) (sym (le-leb 1024 (length c.args.bytes.now) enough))
