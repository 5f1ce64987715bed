-- What a writer's answer says.
use Rattle.std.specs.Prelude.{ℕ, Bool, List, Result, length}
use Rattle.pgs_base.specs.Outcome.{outcome, unless, Delivered}
use Rattle.pgs_base.specs.declared.refusal.Refusal.{Refusal}
use Rattle.pgs_segment.specs.Fields.{SegmentFields}
use Rattle.pgs_encoding.specs.Encode.{encode}
use Rattle.pgs_encoding.specs.Writable.{writable}

-- what a write of bytes promises: how many, or why none; 35 where the test does not hold. 01: "A refused call changes nothing"
abbrev pub WroteBytes : Bool → List ℕ → List ℕ → List ℕ → Result ℕ Refusal → Type 0
WroteBytes test bytes before after r = Delivered (unless 35 test) (length bytes) bytes before after (outcome r)

-- the same of a write of fields
abbrev pub Wrote : SegmentFields → List ℕ → List ℕ → Result ℕ Refusal → Type 0
Wrote f = WroteBytes (writable f) (encode f)
