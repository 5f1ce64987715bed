-- `walk` passes over the records: the loop keeps `Walking`.
-- Assumes nothing.
use Rattle.pgs_records.proofs.RecordLaws.{Walking}
use Rattle.pgs_records.proofs.list.ListRecord.walk.Given as goal

abbrev pub invariant-loop : goal.invariant-loop
invariant-loop g l = Walking g.Self.ListRecord.size l.l l.n l.counter l.rest
