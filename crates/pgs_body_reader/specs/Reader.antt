-- The body reader as a struct that holds the body and its position. 01, module 1: "The body reader holds the body and its position. It
-- reads 1, 2 or 3 bytes as a number, or the rest. Too few bytes left: 4." What a read gives is the cursor's definition, `taken_at`.
use Rattle.std.specs.Prelude.{ℕ, ◌-◌, ◌≡◌, List, length, drop, Result}
use Rattle.std.specs.Borrow.{Bor}
use Rattle.pgs_cursor.specs.Cursor.{taken_at}
use Rattle.pgs_base.specs.Outcome.{Outcome, gives, refuses, outcome}
use Rattle.pgs_base.specs.declared.refusal.Refusal.{Refusal}
use Rattle.pgs_body_reader.specs.declared.BodyReader.{BodyReader}

-- of what reading at a position gives: the number,
abbrev pub number_or : Outcome (ℕ × ℕ) → Outcome ℕ
number_or (gives x) = gives x.0
number_or (refuses k) = refuses k

-- and the position after it. A read that is refused stays where it is
abbrev pub place_or : ℕ → Outcome (ℕ × ℕ) → ℕ
place_or pos (gives x) = x.1
place_or pos (refuses k) = pos

-- reading w bytes at a position answers this, and goes on there
pub record Taking (w pos : ℕ) (body : List ℕ) (answer : Result ℕ Refusal) (next : ℕ) : Type 0 where
  pub answered : outcome answer ≡ number_or (taken_at w pos body)
  pub moved : next ≡ place_or pos (taken_at w pos body)

-- the same of a reader, which keeps its body
pub record Reads (w : ℕ) (before after : BodyReader) (answer : Result ℕ Refusal) : Type 0 where
  pub kept : after.buf ≡ before.buf
  pub took : Taking w before.cursor.pos before.buf.now answer after.cursor.pos

-- a reader of this body at its start
abbrev pub at_start : Bor (List ℕ) → BodyReader
at_start body = record { buf = body; cursor = record { pos = 0 } }

-- how many bytes are left
abbrev pub left_of : BodyReader → ℕ
left_of r = length r.buf.now - r.cursor.pos

-- the rest is handed out, and the reader is at the end of its body
pub record Rests (before after : BodyReader) (part : List ℕ) : Type 0 where
  pub kept : after.buf ≡ before.buf
  pub given : part ≡ drop before.cursor.pos before.buf.now
  pub moved : after.cursor.pos ≡ length before.buf.now
