-- Where a walk over the segments of a stream stands. Private contracts cite these; those of public functions cite `Sets`
-- and, for where a set stands, `FoundSet`.
use Rattle.std.specs.Prelude.{ℕ, ◌+◌, ◌≤◌, ◌<◌, ◌≡◌, Bool, List, length, drop, get_or}
use Rattle.pgs_base.specs.Outcome.{accepted, Outcome, gives, outcome_of}
use Rattle.pgs_stream.specs.Stream.{read_of, stream_verdict}
use Rattle.pgs_set.specs.Sets.{DisplaySet, no_set, set_number, set_verdict, group_verdict, sets_from, through_end, bytes_in, set_record}
use Rattle.pgs_set.specs.declared.grouping.Grouping.{Grouping}
use Rattle.pgs_set.specs.declared.grouping.Grouping.TheVariants.{Outside, Inside}
use Rattle.pgs_set.specs.declared.set.SetRecord.{SetRecord}

-- the segments from a place on
abbrev pub pieces_at : List ℕ → ℕ → List (List ℕ)
pieces_at s at = (read_of (drop at s)).pieces

-- the segments from this place on are accepted, and group in this state
pub record Standing (g : Grouping) (s : List ℕ) (at : ℕ) : Type 0 where
  pub inside : at ≤ length s
  pub good : stream_verdict (drop at s) ≡ accepted
  pub grouped : group_verdict g (pieces_at s at) ≡ accepted

-- a set is open at this place
pub record InSet (s : List ℕ) (at : ℕ) : Type 0 where
  pub windows : Bool
  pub standing : Standing (Inside windows) s at

-- the place just after the END of the set that is open at a place
abbrev pub end_from : List ℕ → ℕ → ℕ
end_from s at = at + bytes_in (through_end (pieces_at s at))

-- the set whose PCS stands at a place
abbrev pub set_at : List ℕ → ℕ → DisplaySet
set_at s at = get_or (sets_from at (pieces_at s at)) 0 no_set

-- r is the place just after the END of the set that is open at a place, and the sets from there on are those from r on
pub record Ends (s : List ℕ) (at r : ℕ) : Type 0 where
  pub place : r ≡ end_from s at
  pub sets : sets_from r (pieces_at s r) ≡ sets_from at (pieces_at s at)
  pub after : Standing Outside s r
  pub on : at < r

-- a set begins with its PCS at this place
pub record SetBegins (s : List ℕ) (at : ℕ) : Type 0 where
  pub standing : Standing Outside s at
  pub more : at < length s

-- the PCS of set number k stands at r
pub record SetStands (s : List ℕ) (k r : ℕ) : Type 0 where
  pub standing : Standing Outside s r
  pub more : r < length s
  pub found : set_at s r ≡ set_number k s

-- finding set number k, with this answer: its record, and where its PCS stands
pub record FoundSet (s : List ℕ) (k : ℕ) (answer : Outcome SetRecord) : Type 0 where
  pub answered : answer ≡ outcome_of (set_verdict k s) (set_record (set_number k s))
  pub stands : (r : SetRecord) → answer ≡ gives r → SetStands s k r.place
