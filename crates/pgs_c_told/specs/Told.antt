-- What a call answers and leaves, by the outcome that it tells; and a call that writes one segment.
-- Each parameter that a call may change is named as it was, and with a prime as it is.
use Rattle.std.specs.Prelude.{ℕ, Bool, List, length}
use Rattle.pgs_base.specs.Outcome.{Outcome, gives, refuses, unless}
use Rattle.pgs_calls.specs.Calls.{ListCall}
use Rattle.pgs_encoding.specs.Encode.{encode}
use Rattle.pgs_encoding.specs.Writable.{writable}
use Rattle.pgs_segment.specs.Fields.{SegmentFields}

-- the number that an outcome answers, and the caller's cell after it
abbrev pub code_by : {A : Type 0} → Outcome A → ℕ
code_by (gives a) = 0
code_by (refuses k) = k

abbrev pub set_by : {A : Type 0} → Outcome A → A → A
set_by (gives a) old = a
set_by (refuses k) old = old

-- one write of fields that pass the test: its bytes, and how many; 35 where they do not pass
abbrev pub WriteCall : Bool → SegmentFields → List ℕ → List ℕ → ℕ → ℕ → ℕ → Type 0
WriteCall test f out out' count count' r = ListCall (unless 35 test) (encode f) out out' (length (encode f)) count count' r

-- the same where the fields alone decide
abbrev pub FieldsCall : SegmentFields → List ℕ → List ℕ → ℕ → ℕ → ℕ → Type 0
FieldsCall f = WriteCall (writable f) f
