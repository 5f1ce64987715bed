-- `find_set`: what `nth` gives is the record of that number.
-- Assumes nothing.
use Rattle.std.proofs.lemmas.Iterator.Consumers.{nth_from_yields_List, YieldsList-from_first}
use Rattle.pgs_set.proofs.NumberLaws.{finds}
use Rattle.pgs_set.specs.Records.{records_left, set_records}
use Rattle.pgs_set.proofs.set.find_set.Goals as goal

pub returns : goal.returns
returns c =
    let d = c.in_ok-read.field-0 in
    rw (c.ok_or.ensures.value, ← c.in_ok-read.ensures)
    (finds d.stream.now c.args.k d.verdict c.nth.result
    (nth_from_yields_List c.nth.result c.nth.new.self c.args.k c.nth.ensures.ran
    (YieldsList-from_first (λ x. x) records_left (set_records d.stream.now) c.records.ensures)))
