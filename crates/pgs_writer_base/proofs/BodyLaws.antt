-- How a write of a body with a list ends, and what it is as a write of fields. Assumes nothing.
use mathlib.Core.Path.{◌≡◌, refl, sym, ap, ◌∙◌, subst}
use mathlib.Core.Bool.{Bool, true, false}
use mathlib.Core.List.{List, ◌++◌}
use Prim.Native.Nat.{ℕ, suc, ◌+◌, ◌^◌, ◌<◌}
use native.Mathlib.Omega.{arith}
use borrow.Author.Tests.{lt-ltb, leb-true, leb-false}
use lib.Dec.{leb, ltb}
use lib.ListN.{length, length-append}
use lib.Seq.{sets}
use Rattle.pgs_base.specs.Outcome.{accepted, Outcome, gives, refuses, outcome_of, unless, needing, Delivered, pick}
use Rattle.pgs_base.proofs.Decisions.{leb-same}
use Rattle.pgs_base.proofs.Outcomes.{gave}
use Rattle.pgs_segment.specs.Fields.{BodyFields, kind_byte}
use Rattle.pgs_views.specs.Kinds.{raw_of}
use Rattle.pgs_views.specs.declared.segment_type.SegmentType.{SegmentType}
use Rattle.pgs_encoding.specs.Encode.{head_fields, body_bytes, encode}
use Rattle.pgs_encoding.specs.Layout.{Field, written, each}
use Rattle.pgs_encoding.specs.Writable.{body_writable, writable}
use Rattle.pgs_encoding.proofs.LayoutLaws.{length-written}
use Rattle.pgs_writer_base.specs.Bodies.{is_body_size, segment_bytes, list_body, list_fits, front_after}
use Rattle.pgs_writer_base.specs.declared.head.Timestamps.{Timestamps}
use Rattle.pgs_writer_base.proofs.FitLaws.{pick-self}
use Rattle.pgs_writer_base.proofs.PutLaws.{then-sets}
use Rattle.pgs_writer_base.proofs.WriteLaws.{TimesFit, write-34, write-all}

-- the bytes of a segment
pub segment-length : (t : Timestamps) (kind : SegmentType) (body : List ℕ) → length (segment_bytes t kind body) ≡ 13 + length body
unfolding segment_bytes
segment-length t kind body = rw (length-append, length-written (head_fields t.pts t.dts (raw_of kind) (length body)))

module _ {A : Type 0} (fields : A → List Field) (fits : A → Bool) (numbers : List ℕ) (rows : List A) where
  pub list-fit : {n : ℕ} → gives n ≡ outcome_of (unless 35 (is_body_size (length (list_body fields numbers rows)))) (length (list_body fields numbers rows))
      → each fits rows ≡ true → list_fits fields fits numbers rows ≡ true
  list-fit {n} e q = go (is_body_size (length (list_body fields numbers rows))) (gave _ _ e)
    where
      go : (u : Bool) → unless 35 u ≡ accepted → pick u (each fits rows) false ≡ true
      go true v = q
      go false v = cc

-- what a writer of bytes answers, where the test says whether they can be written
abbrev pub Answered : Bool → List ℕ → List ℕ → List ℕ → Outcome ℕ → Type 0
Answered t bytes before after o = Delivered (unless 35 t) (length bytes) bytes before after o

-- a body of numbers and what follows them, of which the test says that it can be written
module _ (t : Timestamps) (kind : SegmentType) (numbers tail before : List ℕ) {test : Bool} {size : ℕ} (ok : test ≡ true) (e : size ≡ length (numbers ++ tail)) where
  -- no room for the front is none for the segment
  pub front-short : {after : List ℕ} {k : ℕ} → refuses k ≡ outcome_of (needing (13 + size) (length before)) (13 + size)
      → after ≡ pick (leb (13 + size) (length before)) (front_after t kind size numbers before) before → Answered test (segment_bytes t kind (numbers ++ tail)) before after (refuses k)
  front-short {after} {k} = go (leb (13 + size) (length before)) refl
    where
      go : (u : Bool) → leb (13 + size) (length before) ≡ u → refuses k ≡ outcome_of (unless 34 u) (13 + size) → after ≡ pick u (front_after t kind size numbers before) before
          → Answered test (segment_bytes t kind (numbers ++ tail)) before after (refuses k)
      go true h q r = cc
      go false h q r =
          let short : length before < length (segment_bytes t kind (numbers ++ tail))
          = omega (arith, leb-false (13 + size) (length before) h, segment-length t kind (numbers ++ tail)) in
          rw (r, q) (write-34 (segment_bytes t kind (numbers ++ tail)) before ok short)

  -- behind the front, the rest is stored
  pub front-then : {a b : List ℕ} {n : ℕ} → gives n ≡ outcome_of (needing (13 + size) (length before)) (13 + size)
      → a ≡ pick (leb (13 + size) (length before)) (front_after t kind size numbers before) before → b ≡ sets a (13 + length numbers) tail
      → Answered test (segment_bytes t kind (numbers ++ tail)) before b (gives n)
  unfolding segment_bytes
  front-then {a} {b} {n} = go (leb (13 + size) (length before)) refl
    where
      head : ℕ → List Field
      head k = head_fields t.pts t.dts (raw_of kind) k

      stored : a ≡ front_after t kind size numbers before → b ≡ sets a (13 + length numbers) tail → b ≡ sets before 0 (segment_bytes t kind (numbers ++ tail))
      stored q r =
          r
          ∙ (then-sets (sets before 0 (written (head size))) 13 numbers tail q refl
          ∙ (then-sets before 0 (written (head size)) (numbers ++ tail) refl (sym (length-written (head size)))
          ∙ ap (λ (k : ℕ). sets before 0 (written (head k) ++ (numbers ++ tail))) e))

      go : (u : Bool) → leb (13 + size) (length before) ≡ u → gives n ≡ outcome_of (unless 34 u) (13 + size)
          → a ≡ pick u (front_after t kind size numbers before) before → b ≡ sets a (13 + length numbers) tail
          → Answered test (segment_bytes t kind (numbers ++ tail)) before b (gives n)
      go false h q r w = cc
      go true h q r w =
          let long = segment-length t kind (numbers ++ tail) in
          let total : n ≡ 13 + size = cc in
          write-all (segment_bytes t kind (numbers ++ tail)) before ok (omega (arith, long, leb-true (13 + size) (length before) h)) (omega (arith, long, total)) (stored r w)

-- the same answer, of what is the same
pub same-answer : {t u : Bool} {a b before after : List ℕ} {o : Outcome ℕ} → t ≡ u → a ≡ b → Answered t a before after o → Answered u b before after o
same-answer {before = before} {after = after} {o = o} e q = subst (λ (x : Bool × List ℕ). Answered x.0 x.1 before after o) (λ i. (e i, q i))

-- such a segment, as fields whose body has these bytes
module _ (t : Timestamps) (ok : TimesFit t) (kind : SegmentType) (f : BodyFields) (k : raw_of kind ≡ kind_byte f) (small : kind_byte f < 256) {body : List ℕ}
    (e : body ≡ body_bytes f) where
  pub bytes-as : segment_bytes t kind body ≡ encode (record { pts = t.pts; dts = t.dts; body = f })
  unfolding segment_bytes encode
  bytes-as = λ i. written (head_fields t.pts t.dts (k i) (length (e i))) ++ e i

  -- the size decides, then the body
  pub fit-as : {u : Bool} → u ≡ body_writable f → pick (is_body_size (length body)) u false ≡ writable (record { pts = t.pts; dts = t.dts; body = f })
  unfolding writable
  fit-as q =
      let n = length (body_bytes f) in
      (λ i. pick (is_body_size (length (e i))) (q i) false)
      ∙ ap (λ (v : Bool). pick v (body_writable f) false)
      (leb-same n 65535 (suc n) 65536 (λ h. omega arith) (λ h. omega arith)
      ∙ simp (lt-ltb t.pts (256 ^ 4) ok.pts, lt-ltb t.dts (256 ^ 4) ok.dts, lt-ltb (kind_byte f) (256 ^ 1) small) (pick-self (ltb n 65536)))

  pub fields-answer : {u : Bool} {before after : List ℕ} {o : Outcome ℕ} → u ≡ body_writable f
      → Answered (pick (is_body_size (length body)) u false) (segment_bytes t kind body) before after o
      → Answered (writable (record { pts = t.pts; dts = t.dts; body = f })) (encode (record { pts = t.pts; dts = t.dts; body = f })) before after o
  fields-answer q = same-answer (fit-as q) bytes-as

  -- the same of data, where the body can be written but for its size
  pub data-answer : {before after : List ℕ} {o : Outcome ℕ} → true ≡ body_writable f
      → Answered (is_body_size (length body)) (segment_bytes t kind body) before after o
      → Answered (writable (record { pts = t.pts; dts = t.dts; body = f })) (encode (record { pts = t.pts; dts = t.dts; body = f })) before after o
  data-answer q = same-answer (pick-self (is_body_size (length body)) ∙ fit-as q) bytes-as
