-- Where the data of objects stands, and what listing and joining them promise. 01, module 7: "A one-fragment chain is not copied;
-- chains of two or more are joined one after another in first-seen order from the scratch's start, and J is their total length.
-- Each copied chain is written to its own part of the scratch. An object's joined data is shown as a part of the stream or of the
-- scratch, whichever holds it. Object records (id, version, width, height, holder, place, length) fill a caller's list."
use Rattle.std.specs.Prelude.{ℕ, ◌+◌, ◌-◌, ◌≡◌, Bool, true, false, List, [], ◌∷◌, ◌++◌, map, leb, eqb, length, take, drop, get_or}
use Rattle.pgs_base.specs.Outcome.{Verdict, Outcome, outcome_of, and_then, needing, laid, delivery, pick}
pub use Rattle.pgs_object_view.specs.View.{part_of, shown_by}
use Rattle.pgs_reassembly.specs.Objects.{Fragment, Chain, object_id, version_of, object_size, data_of, data_place}
use Rattle.pgs_reassembly.specs.declared.ObjectRecord.{ObjectRecord}

abbrev pub any_more : List Fragment → Bool
any_more [] = false
any_more (f ∷ fs) = true

-- whether the chain is copied: it has two fragments or more
abbrev pub copied : Chain → Bool
copied c = any_more c.further

-- the bytes of an object that are copied to the scratch
abbrev pub copied_data : Chain → List ℕ
copied_data c = pick (copied c) (data_of c) []

-- the J bytes
abbrev pub joined_data : List Chain → List ℕ
joined_data [] = []
joined_data (c ∷ cs) = copied_data c ++ joined_data cs

-- the record of an object whose data, if it is copied, stands at place `at` of the scratch
abbrev pub object_record : ℕ → Chain → ObjectRecord
object_record at c =
    record {
      id = object_id c;
      version = version_of c;
      size = object_size c;
      copied = copied c;
      place = pick (copied c) at (data_place c.first);
      len = length (data_of c);
    }

-- how many bytes of the scratch the data of a record takes
abbrev pub record_joined : ObjectRecord → ℕ
record_joined r = pick r.copied r.len 0

-- a record as a row of a caller's list. The holder is 0 for the stream and 1 for the scratch
abbrev pub row_of : ObjectRecord → List ℕ
row_of r = r.id ∷ r.version ∷ r.size.width ∷ r.size.height ∷ pick r.copied 1 0 ∷ r.place ∷ r.len ∷ []

-- the records of objects, whose copied data stands in the scratch from a place on
abbrev pub object_records_from : ℕ → List Chain → List ObjectRecord
object_records_from at [] = []
object_records_from at (c ∷ cs) = object_record at c ∷ object_records_from (at + length (copied_data c)) cs

-- the records of objects, whose copied data stands from the scratch's start on
abbrev pub object_records : List Chain → List ObjectRecord
object_records cs = object_records_from 0 cs

-- as rows of a caller's list
abbrev pub rows_from : ℕ → List Chain → List (List ℕ)
rows_from at cs = map row_of (object_records_from at cs)

abbrev pub object_rows : List Chain → List (List ℕ)
object_rows cs = map row_of (object_records cs)

-- the verdict of a call that lists and joins these objects. "Needs: one record per .. object ..; J for objects"
abbrev pub reassembly : {A : Type 0} → Verdict → List Chain → List A → List ℕ → Verdict
reassembly verdict cs list scratch =
    and_then verdict (and_then (needing (length cs) (length list)) (needing (length (joined_data cs)) (length scratch)))

-- what such a call promises, where `made` makes a caller's record of an object's
pub record Reassembled {A : Type 0} (made : ObjectRecord → A) (verdict : Verdict) (cs : List Chain) (list list' : List A)
    (scratch scratch' : List ℕ) (answer : Outcome ℕ) : Type 0 where
  pub answered : answer ≡ outcome_of (reassembly verdict cs list scratch) (length cs)
  pub listed : list' ≡ laid (reassembly verdict cs list scratch) (map made (object_records cs)) list
  pub written : scratch' ≡ laid (reassembly verdict cs list scratch) (joined_data cs) scratch

-- what a call promises that joins these objects and lists none
pub record Joined (verdict : Verdict) (cs : List Chain) (scratch scratch' : List ℕ) (answer : Verdict) : Type 0 where
  pub answered : answer ≡ delivery verdict (joined_data cs) scratch
  pub written : scratch' ≡ laid (delivery verdict (joined_data cs) scratch) (joined_data cs) scratch

-- the data that a record shows, of the scratch where it is copied, else of the stream
abbrev pub record_data : List ℕ → List ℕ → ObjectRecord → List ℕ
record_data stream scratch r = pick r.copied (part_of r.place r.len scratch) (part_of r.place r.len stream)
