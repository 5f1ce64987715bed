-- The head of a fragment as a reader reads it. 01, module 3: "ODS: object id 2, version 1, fragment flag 1, declared length 3".
use Rattle.std.specs.Prelude.{ℕ, ◌-◌, ◌≡◌, List, [], ◌∷◌, length}
use Rattle.pgs_cursor.specs.Cursor.{taken_at}
use Rattle.pgs_base.specs.Outcome.{Outcome, outcome}
use Rattle.pgs_body_reader.specs.Reader.{number_or, place_or}
use Rattle.pgs_fragment_reader.specs.declared.FragmentHead.{FragmentHead}

-- what reads of these widths answer, one after another from a position on
abbrev pub fields_from : List ℕ → ℕ → List ℕ → List (Outcome ℕ)
fields_from [] pos body = []
fields_from (w ∷ ws) pos body = number_or (taken_at w pos body) ∷ fields_from ws (place_or pos (taken_at w pos body)) body

-- and the position after them
abbrev pub place_from : List ℕ → ℕ → List ℕ → ℕ
place_from [] pos body = pos
place_from (w ∷ ws) pos body = place_from ws (place_or pos (taken_at w pos body)) body

-- the widths of the head's fields
abbrev pub head_widths : List ℕ
head_widths = 2 ∷ 1 ∷ 1 ∷ 3 ∷ []

pub record Headed (body : List ℕ) (h : FragmentHead) : Type 0 where
  pub fields : outcome h.object_id ∷ outcome h.object_version ∷ outcome h.flag ∷ outcome h.declared_length ∷ [] ≡ fields_from head_widths 0 body
  pub left : h.left ≡ length body - place_from head_widths 0 body
