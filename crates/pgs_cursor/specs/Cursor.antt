-- The body reader. 01, module 1: "The body reader holds the body and its position. It reads 1, 2 or 3 bytes as a number, or the
-- rest. Too few bytes left: 4."
use Rattle.std.specs.Prelude.{ℕ, ◌+◌, ◌-◌, List, length, leb, Result, Ok, Err}
use Rattle.pgs_base.specs.Bytes.{num}
use Rattle.pgs_base.specs.Outcome.{Outcome, gives, refuses, pick}
use Rattle.pgs_base.specs.Refusals.{number_of}
use Rattle.pgs_base.specs.declared.refusal.Refusal.{Refusal}
use Rattle.pgs_cursor.specs.declared.cursor.BodyCursor.{BodyCursor}

-- a number and the position after it, or why there is none
abbrev pub taken : Result (ℕ × BodyCursor) Refusal → Outcome (ℕ × ℕ)
taken (Ok x) = gives (x.0, x.1.pos)
taken (Err r) = refuses (number_of r)

-- reading w bytes at a position
abbrev pub taken_at : ℕ → ℕ → List ℕ → Outcome (ℕ × ℕ)
taken_at w pos body = pick (leb w (length body - pos)) (gives (num w pos body, pos + w)) (refuses 4)
