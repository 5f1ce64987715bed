-- The part of the stream or of the scratch that shows an object's data: 01, module 7, "An object's joined data is shown as a part of the
-- stream or of the scratch, whichever holds it."
use Rattle.std.specs.Prelude.{ℕ, ◌-◌, List, [], leb, eqb, length, take, drop, get_or}
use Rattle.pgs_base.specs.Outcome.{pick}

-- the part of a list from a place, of a length; empty where it would pass the end
abbrev pub part_of : ℕ → ℕ → List ℕ → List ℕ
part_of at n l = pick (leb at (length l)) (pick (leb n (length l - at)) (take n (drop at l)) []) []

-- the data that an object's row shows: of the stream where its holder is 0, of the scratch where it is 1. That this is the object's data,
-- for the records and the scratch that an accepted call leaves, is the law `shown-after` of pgs_reassembly/proofs/ViewLaws.antt
abbrev pub shown_by : List ℕ → List ℕ → List ℕ → List ℕ
shown_by stream scratch r =
    pick (eqb (get_or r 4 0) 0) (part_of (get_or r 5 0) (get_or r 6 0) stream)
    (pick (eqb (get_or r 4 0) 1) (part_of (get_or r 5 0) (get_or r 6 0) scratch) [])
