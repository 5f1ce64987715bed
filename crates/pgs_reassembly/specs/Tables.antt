-- The table of chains that finding objects keeps: a row for each chain, in first-seen order. Private contracts of
-- `pgs_object` cite this; those of its public functions cite `Objects` and `Reassembly`, and those that take an open set cite `open_fragments`.
use Rattle.std.specs.Prelude.{ℕ, suc, ◌+◌, ◌-◌, ◌≤◌, ◌≡◌, Bool, true, false, List, [], ◌∷◌, ◌++◌, map, leb, eqb, length, drop}
use Rattle.std.specs.Prelude.{Option, None, Some}
use Rattle.std.specs.Option.{option_map}
use Rattle.pgs_base.specs.Outcome.{Verdict, accepted, and_then, unless, pick}
use Rattle.pgs_views.specs.Kinds.{type_of}
use Rattle.pgs_views.specs.Fragments.{fragment_of, is_first, is_last}
use Rattle.pgs_reassembly.specs.Objects.{Fragment, is_ods, fragment_at, fragments_from, Chain, ChainState, unseen, continuing, complete}
use Rattle.pgs_reassembly.specs.Objects.{data_place, size_in, ended, data_of, first_verdict, next_verdict, object_limit}
use Rattle.pgs_reassembly.specs.Objects.{joined, with_id}
use Rattle.pgs_reassembly.specs.Reassembly.{copied, joined_data}
use Rattle.pgs_set.specs.Sets.{through_end}
use Rattle.pgs_set.specs.Walks.{pieces_at, InSet}
use Rattle.pgs_set.specs.declared.open_set.OpenSet.{OpenSet}
use Rattle.pgs_stream.specs.declared.segments.PlacedSegment.{PlacedSegment}
use Rattle.pgs_reassembly.specs.declared.ChainRow.{ChainRow}
use Rattle.pgs_reassembly.specs.declared.FragmentNumbers.{FragmentNumbers}
use Rattle.pgs_reassembly.specs.declared.ObjectRecord.{ObjectRecord}

-- the fragments from a place on in the set that is open there
abbrev pub fragments_left : List ℕ → ℕ → List Fragment
fragments_left s at = fragments_from at (through_end (pieces_at s at))

-- those of an open set
abbrev pub open_fragments : OpenSet → List Fragment
open_fragments set = fragments_left set.stream.now set.from

-- the fragment in a segment of a stream, and those in several segments
abbrev pub fragment_in : List ℕ → PlacedSegment → Fragment
fragment_in s x = fragment_at x.at (drop x.at s)

abbrev pub holds_fragment : PlacedSegment → Bool
holds_fragment x = is_ods (type_of x.header.segment_type)

abbrev pub fragments_in : List ℕ → List PlacedSegment → List Fragment
fragments_in s [] = []
fragments_in s (x ∷ xs) = pick (holds_fragment x) (fragment_in s x ∷ fragments_in s xs) (fragments_in s xs)

-- the numbers of a fragment
abbrev pub fragment_numbers : Fragment → FragmentNumbers
fragment_numbers f = record { place = f.place; ods = f.ods; start = data_place f; len = length f.bytes }

-- what reading a segment as a fragment gives
abbrev pub fragment_read : List ℕ → PlacedSegment → Option FragmentNumbers
fragment_read s x = pick (holds_fragment x) (Some (fragment_numbers (fragment_in s x))) None

-- whether a fragment with these numbers is a first one, and whether it is a last one
abbrev pub is_opening : FragmentNumbers → Bool
is_opening f = is_first (fragment_of f.ods.last_in_sequence_flag)

abbrev pub is_closing : FragmentNumbers → Bool
is_closing f = is_last (fragment_of f.ods.last_in_sequence_flag)

-- the row of a chain
abbrev pub chain_row : Chain → ChainRow
chain_row c = record { first = fragment_numbers c.first; closed = ended c; copied = copied c; len = length (data_of c) }

abbrev pub row_id : ChainRow → ℕ
row_id r = r.first.ods.object_id

-- the number of the first row with this id
abbrev pub row_with : ℕ → List ChainRow → Option ℕ
row_with id [] = None
row_with id (r ∷ rs) = pick (eqb (row_id r) id) (Some 0) (option_map suc (row_with id rs))

-- what rows say of an id
abbrev pub state_in : ℕ → List ChainRow → ChainState
state_in id [] = unseen
state_in id (r ∷ rs) = pick (eqb (row_id r) id) (pick r.closed complete continuing) (state_in id rs)

-- the row of a new chain, and that of a chain which takes a continuation
abbrev pub new_row : FragmentNumbers → ChainRow
new_row f = record { first = f; closed = is_closing f; copied = false; len = f.len }

abbrev pub grown : ChainRow → FragmentNumbers → ChainRow
grown r f = record { first = r.first; closed = is_closing f; copied = true; len = r.len + f.len }

-- rows after a continuation: the first row of its id takes it
abbrev pub extended : FragmentNumbers → List ChainRow → List ChainRow
extended f [] = []
extended f (r ∷ rs) = pick (eqb (row_id r) f.ods.object_id) (grown r f ∷ rs) (r ∷ extended f rs)

-- one more fragment: what the rows say of it, and the rows after it
abbrev pub take_verdict : List ChainRow → FragmentNumbers → Verdict
take_verdict rows f =
    pick (is_opening f) (first_verdict object_limit (length rows) (state_in f.ods.object_id rows)) (next_verdict (state_in f.ods.object_id rows))

abbrev pub rows_after : List ChainRow → FragmentNumbers → List ChainRow
rows_after rows f = pick (is_opening f) (rows ++ (new_row f ∷ [])) (extended f rows)

-- fragments one after another
abbrev pub taking_verdict : List ChainRow → List Fragment → Verdict
taking_verdict rows [] = accepted
taking_verdict rows (f ∷ fs) = and_then (take_verdict rows (fragment_numbers f)) (taking_verdict (rows_after rows (fragment_numbers f)) fs)

abbrev pub rows_with : List ChainRow → List Fragment → List ChainRow
rows_with rows [] = rows
rows_with rows (f ∷ fs) = rows_with (rows_after rows (fragment_numbers f)) fs

-- a call of this verdict on a table, which holds `want` where it accepts
pub record Leaves (v : Verdict) (want now : List ChainRow) (answer : Verdict) : Type 0 where
  pub answered : answer ≡ v
  pub left : answer ≡ accepted → now ≡ want

-- the joined lengths of all rows
abbrev pub total : List ChainRow → ℕ
total [] = 0
total (r ∷ rs) = r.len + total rs

-- what the rows say of their objects: 20, 21, 22
abbrev pub row_verdict : ChainRow → Verdict
row_verdict r =
    and_then (unless 20 r.closed)
    (and_then (unless 21 (leb 4 r.first.ods.object_data_length)) (unless 22 (eqb (r.first.ods.object_data_length - 4) r.len)))

abbrev pub rows_verdict : List ChainRow → Verdict
rows_verdict [] = accepted
rows_verdict (r ∷ rs) = and_then (row_verdict r) (rows_verdict rs)

-- how many bytes of the scratch a row's object takes, and all of them
abbrev pub copied_in : ChainRow → ℕ
copied_in r = pick r.copied r.len 0

abbrev pub joined_in : List ChainRow → ℕ
joined_in [] = 0
joined_in (r ∷ rs) = copied_in r + joined_in rs

-- the object record of a row, whose data, if it is copied, stands at place `at` of the scratch
abbrev pub record_at : ℕ → ChainRow → ObjectRecord
record_at at r =
    record {
      id = row_id r;
      version = r.first.ods.object_version_number;
      size = size_in r.first.ods.dimensions;
      copied = r.copied;
      place = pick r.copied at r.first.start;
      len = r.len;
    }

abbrev pub records_from : ℕ → List ChainRow → List ObjectRecord
records_from at [] = []
records_from at (r ∷ rs) = record_at at r ∷ records_from (at + copied_in r) rs

-- the joined data of a row's object: that of the fragments with its id from its first segment on
abbrev pub row_data : List ℕ → ChainRow → List ℕ
row_data s r = joined (with_id (row_id r) (fragments_left s r.first.place))

abbrev pub row_bytes : List ℕ → ChainRow → List ℕ
row_bytes s r = pick r.copied (row_data s r) []

abbrev pub joined_rows : List ℕ → List ChainRow → List ℕ
joined_rows s [] = []
joined_rows s (r ∷ rs) = row_bytes s r ++ joined_rows s rs

-- a set is open where a row's first segment stands, and the row's length is that of its data
pub record Joinable (s : List ℕ) (r : ChainRow) : Type 0 where
  pub in_set : InSet s r.first.place
  pub measured : length (row_data s r) ≡ r.len

abbrev pub AllJoinable : List ℕ → List ChainRow → Type 0
AllJoinable s [] = Unit {0}
AllJoinable s (r ∷ rs) = Joinable s r × AllJoinable s rs

-- these rows are those of the objects cs of the stream s
pub record Rows (s : List ℕ) (cs : List Chain) (now : List ChainRow) : Type 0 where
  pub rows : now ≡ map chain_row cs
  pub small : total now ≤ length s
  pub joinable : AllJoinable s now
  pub bytes : joined_rows s now ≡ joined_data cs

-- a call of this verdict that finds the objects cs of the stream s, with this answer
pub record Found (s : List ℕ) (v : Verdict) (cs : List Chain) (now : List ChainRow) (answer : Verdict) : Type 0 where
  pub answered : answer ≡ v
  pub found : answer ≡ accepted → Rows s cs now
