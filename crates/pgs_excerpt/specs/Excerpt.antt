-- The bytes of one display set, from its PCS through its END. A player that has listed the sets of a film reads and paints one of them
-- from these bytes alone, at the cost of the set and not of the film.
use Rattle.std.specs.Prelude.{ℕ, ◌+◌, ◌≡◌, List, [], ◌∷◌, map, length, take, drop}
use Rattle.pgs_base.specs.Outcome.{Outcome, accepted}
use Rattle.pgs_palette.specs.Palette.{Conversion}
use Rattle.pgs_rendering.specs.Rendering.{Rendered}
use Rattle.pgs_rendering.specs.declared.Shown.{Shown}
use Rattle.pgs_reassembly.specs.Objects.{Fragment, Chain, objects_of, objects_verdict}
use Rattle.pgs_set.specs.Sets.{set_number, set_verdict, DisplaySet, bytes_in, sets_of, sets_verdict}

-- how many bytes a set takes
abbrev pub size_in : DisplaySet → ℕ
size_in d = length d.opening + bytes_in d.others

-- the bytes of set number k
abbrev pub excerpt : ℕ → List ℕ → List ℕ
excerpt k s = take (size_in (set_number k s)) (drop (set_number k s).place s)

-- the same set where it stands first
abbrev pub at_start : DisplaySet → DisplaySet
at_start d = record { place = 0; opening = d.opening; others = d.others }

-- an excerpt is a stream of just that set
abbrev pub Alone : Type 0
Alone =
    (k : ℕ) (s : List ℕ) → set_verdict k s ≡ accepted
    → (sets_verdict (excerpt k s) ≡ accepted) × (sets_of (excerpt k s) ≡ at_start (set_number k s) ∷ [])

-- a fragment, and an object, that stand so many bytes further on
abbrev pub moved_fragment : ℕ → Fragment → Fragment
moved_fragment n f = record { place = n + f.place; ods = f.ods; bytes = f.bytes }

abbrev pub moved : ℕ → Chain → Chain
moved n c = record { first = moved_fragment n c.first; further = map (moved_fragment n) c.further }

-- the objects of an excerpt are those of the set, but for their place in the stream
abbrev pub SameObjects : Type 0
SameObjects =
    (k : ℕ) (s : List ℕ) → set_verdict k s ≡ accepted
    → (objects_verdict 0 (excerpt k s) ≡ objects_verdict k s)
    × (objects_of k s ≡ map (moved (set_number k s).place) (objects_of 0 (excerpt k s)))

-- painting the one set of an excerpt is painting the set in its stream: the same answer, scratch and plane, refusals included
abbrev pub SamePainting : Type 0
SamePainting =
    (k : ℕ) (s : List ℕ) → set_verdict k s ≡ accepted → (convert : Conversion) (scratch scratch' plane plane' : List ℕ) (answer : Outcome Shown)
    → Rendered convert (objects_verdict 0 (excerpt k s)) (set_number 0 (excerpt k s)) (objects_of 0 (excerpt k s)) scratch scratch' plane plane' answer
    → Rendered convert (objects_verdict k s) (set_number k s) (objects_of k s) scratch scratch' plane plane' answer
