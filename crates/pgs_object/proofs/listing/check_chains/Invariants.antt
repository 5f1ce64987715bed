use Rattle.pgs_reassembly.proofs.ListingLaws.{Checking}
use Rattle.pgs_object.proofs.listing.check_chains.Given as goal

abbrev pub invariant-loop-row : goal.invariant-loop-row
invariant-loop-row l = Checking l.rows l.row-index
