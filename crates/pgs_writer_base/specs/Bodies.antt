-- The bytes of a segment whose body is some numbers, then data or a list of rows.
use Rattle.std.specs.Prelude.{ℕ, Bool, false, List, ◌++◌, leb, length}
use Rattle.std.proofs.lemmas.List.Edits.{sets}
use Rattle.pgs_base.specs.Outcome.{pick}
use Rattle.pgs_views.specs.Kinds.{raw_of}
use Rattle.pgs_views.specs.declared.segment_type.SegmentType.{SegmentType}
use Rattle.pgs_encoding.specs.Encode.{head_fields}
use Rattle.pgs_encoding.specs.Layout.{Field, written, each, record_bytes}
use Rattle.pgs_writer_base.specs.declared.head.Timestamps.{Timestamps}

-- whether the size of a body fits its field
abbrev pub is_body_size : ℕ → Bool
is_body_size n = leb n 65535

-- a head, with the size of the body, then the body
unfoldable pub segment_bytes : Timestamps → SegmentType → List ℕ → List ℕ
segment_bytes t kind body = written (head_fields t.pts t.dts (raw_of kind) (length body)) ++ body

-- the numbers, then the bytes of the rows
abbrev pub list_body : {A : Type 0} → (A → List Field) → List ℕ → List A → List ℕ
list_body fields numbers rows = numbers ++ record_bytes fields rows

-- whether such a body can be written: its size fits, and so does each row
abbrev pub list_fits : {A : Type 0} → (A → List Field) → (A → Bool) → List ℕ → List A → Bool
list_fits fields fits numbers rows = pick (is_body_size (length (list_body fields numbers rows))) (each fits rows) false

-- an output after the head of a body of this size, and the body's numbers
abbrev pub front_after : Timestamps → SegmentType → ℕ → List ℕ → List ℕ → List ℕ
front_after t kind size numbers o = sets (sets o 0 (written (head_fields t.pts t.dts (raw_of kind) size))) 13 numbers
