-- The objects of a display set. The mission: "An object is one run-length bitmap, perhaps sent in several fragments." 01, module 7:
-- "Length and dimensions come from the first fragment; a continuation's declared length is ignored. Objects stand in first-seen
-- order."
use Rattle.std.specs.Prelude.{ℕ, ◌+◌, ◌-◌, Bool, true, false, List, [], ◌∷◌, ◌++◌, leb, ltb, eqb, length, Option, None, Some}
use Rattle.pgs_base.specs.Outcome.{Verdict, accepted, refused, and_then, unless, pick}
use Rattle.pgs_views.specs.Fragments.{fragment_of, is_first, is_last}
pub use Rattle.pgs_views.specs.Kinds.{is_ods}
use Rattle.pgs_ods.specs.OdsBody.{head_size, ods_of, ods_data}
use Rattle.pgs_segment.specs.OneSegment.{segment_type, body_at}
use Rattle.pgs_base.specs.declared.dimensions.Dimensions.{Dimensions}
use Rattle.pgs_ods.specs.declared.ods.Ods as declared-ods
use Rattle.pgs_set.specs.Sets.{DisplaySet, sets_of, set_number, set_count, sets_verdict}

-- a fragment: an ODS segment with its place in the stream, its numbers and its data bytes
pub record Fragment : Type 0 where
  pub place : ℕ
  pub ods : declared-ods.Ods
  pub bytes : List ℕ

-- the fragment in a segment at a place
abbrev pub fragment_at : ℕ → List ℕ → Fragment
fragment_at at x = record { place = at; ods = ods_of (body_at x); bytes = ods_data (body_at x) }

-- the fragments among segments that stand one after another from a place on
abbrev pub fragments_from : ℕ → List (List ℕ) → List Fragment
fragments_from at [] = []
fragments_from at (x ∷ xs) =
    pick (is_ods (segment_type x)) (fragment_at at x ∷ fragments_from (at + length x) xs) (fragments_from (at + length x) xs)

-- the fragments of a set, in stream order
abbrev pub fragments_of : DisplaySet → List Fragment
fragments_of d = fragments_from (d.place + length d.opening) d.others

abbrev pub id_of : Fragment → ℕ
id_of f = f.ods.object_id

-- whether a fragment is a first one, and whether it is a last one
abbrev pub opens_chain : Fragment → Bool
opens_chain f = is_first (fragment_of f.ods.last_in_sequence_flag)

abbrev pub closes_chain : Fragment → Bool
closes_chain f = is_last (fragment_of f.ods.last_in_sequence_flag)

-- where its data stands in the stream: after its head and its numbers
abbrev pub data_place : Fragment → ℕ
data_place f = f.place + 13 + head_size f.ods.last_in_sequence_flag

-- the fragments with this id
abbrev pub with_id : ℕ → List Fragment → List Fragment
with_id id [] = []
with_id id (f ∷ fs) = pick (eqb (id_of f) id) (f ∷ with_id id fs) (with_id id fs)

-- an object as it was sent: its first fragment, and its continuations in order
pub record Chain : Type 0 where
  pub first : Fragment
  pub further : List Fragment

-- the chains of fragments, in first-seen order: each first fragment with the later ones of its id
abbrev pub chains_of : List Fragment → List Chain
chains_of [] = []
chains_of (f ∷ fs) = pick (opens_chain f) (record { first = f; further = with_id (id_of f) fs } ∷ chains_of fs) (chains_of fs)

abbrev pub object_id : Chain → ℕ
object_id c = id_of c.first

-- whether a last fragment is among these
abbrev pub any_last : List Fragment → Bool
any_last [] = false
any_last (f ∷ fs) = pick (closes_chain f) true (any_last fs)

-- whether the chain is closed
abbrev pub ended : Chain → Bool
ended c = any_last (c.first ∷ c.further)

-- the data of fragments, end to end
abbrev pub joined : List Fragment → List ℕ
joined [] = []
joined (f ∷ fs) = f.bytes ++ joined fs

-- the object's joined data
abbrev pub data_of : Chain → List ℕ
data_of c = joined (c.first ∷ c.further)

-- "Length and dimensions come from the first fragment"
abbrev pub declared_length : Chain → ℕ
declared_length c = c.first.ods.object_data_length

abbrev pub size_in : Option Dimensions → Dimensions
size_in None = record { width = 0; height = 0 }
size_in (Some d) = d

abbrev pub object_size : Chain → Dimensions
object_size c = size_in c.first.ods.dimensions

abbrev pub width_of : Chain → ℕ
width_of c = (object_size c).width

abbrev pub height_of : Chain → ℕ
height_of c = (object_size c).height

abbrev pub version_of : Chain → ℕ
version_of c = c.first.ods.object_version_number

-- what is known of an id: no object has it, its chain is still open, or closed
pub data ChainState : Type 0 where
  unseen : ChainState
  continuing : ChainState
  complete : ChainState

abbrev pub state_of : ℕ → List Chain → ChainState
state_of id [] = unseen
state_of id (c ∷ cs) = pick (eqb (object_id c) id) (pick (ended c) complete continuing) (state_of id cs)

-- a first fragment, with n objects before it. 16: "id still open"; 17: "id closed"; 23: "65th object", after 16 and 17
abbrev pub first_verdict : ℕ → ℕ → ChainState → Verdict
first_verdict limit n continuing = refused 16
first_verdict limit n complete = refused 17
first_verdict limit n unseen = unless 23 (ltb n limit)

-- a continuation. 18: "id unknown"; 19: "id closed"
abbrev pub next_verdict : ChainState → Verdict
next_verdict unseen = refused 18
next_verdict complete = refused 19
next_verdict continuing = accepted

-- a fragment, by the chains of the fragments before it
abbrev pub fragment_verdict : ℕ → List Chain → Fragment → Verdict
fragment_verdict limit cs f =
    pick (opens_chain f) (first_verdict limit (length cs) (state_of (id_of f) cs)) (next_verdict (state_of (id_of f) cs))

-- "Fragments are tested in stream order"
abbrev pub verdict_after : ℕ → List Fragment → List Fragment → Verdict
verdict_after limit earlier [] = accepted
verdict_after limit earlier (f ∷ fs) =
    and_then (fragment_verdict limit (chains_of earlier) f) (verdict_after limit (earlier ++ (f ∷ [])) fs)

-- an object. 20: "no last fragment"; 21: "declared under 4"; 22: "declared − 4 is not the joined length"
abbrev pub chain_verdict : Chain → Verdict
chain_verdict c =
    and_then (unless 20 (ended c))
    (and_then (unless 21 (leb 4 (declared_length c))) (unless 22 (eqb (declared_length c - 4) (length (data_of c)))))

abbrev pub chains_verdict : List Chain → Verdict
chains_verdict [] = accepted
chains_verdict (c ∷ cs) = and_then (chain_verdict c) (chains_verdict cs)

-- "then each object 20, 21, 22"
abbrev pub fragments_verdict : ℕ → List Fragment → Verdict
fragments_verdict limit fs = and_then (verdict_after limit [] fs) (chains_verdict (chains_of fs))

-- the most objects that a set may have
abbrev pub object_limit : ℕ
object_limit = 64

-- the objects of set number k
unfoldable pub objects_of : ℕ → List ℕ → List Chain
objects_of k s = chains_of (fragments_of (set_number k s))

-- "Objects alone: 1 to 15, 36, 16 to 23, 34". 36: "set number at or past the count". With a limit on the number of objects
abbrev pub objects_verdict_within : ℕ → ℕ → List ℕ → Verdict
objects_verdict_within limit k s =
    and_then (sets_verdict s) (and_then (unless 36 (ltb k (set_count s))) (fragments_verdict limit (fragments_of (set_number k s))))

abbrev pub objects_verdict : ℕ → List ℕ → Verdict
objects_verdict k s = objects_verdict_within object_limit k s

-- the sets' objects, set by set: the first set that is refused decides
abbrev pub each_verdict : ℕ → List DisplaySet → Verdict
each_verdict limit [] = accepted
each_verdict limit (d ∷ ds) = and_then (fragments_verdict limit (fragments_of d)) (each_verdict limit ds)

-- whether every set's objects reassemble. "the stream's first, or else of the first set that is refused"
abbrev pub all_objects_verdict : List ℕ → Verdict
all_objects_verdict s = and_then (sets_verdict s) (each_verdict object_limit (sets_of s))
