-- One segment: encoded from the fields that were read it is the cut segment, and read from the bytes that were encoded it has the
-- fields again. Assumes nothing.
use mathlib.Core.Path.{◌≡◌, refl, sym, ap, ◌∙◌, subst}
use mathlib.Core.Bool.{Bool, true, false}
use mathlib.Core.List.{List, [], ◌∷◌, ◌++◌, append_assoc, append-nil}
use Prim.Native.Nat.{ℕ, zero, suc, ◌+◌, ◌*◌, ◌^◌, ◌≤◌, ◌<◌}
use native.Mathlib.Omega.{arith}
use borrow.Author.Tests.{le-leb, lt-ltb, eq-eqb, eqb-true, ltb-true, ltb-false}
use lib.Dec.{ltb, eqb}
use lib.ListN.{length, take, drop, get_or, length-append, length-drop, get_or-eq_default, drop_of_length-le}
use lib.Seq.{take_all, take_at, drop_at, length-take-le}
use Rattle.pgs_base.specs.Bytes.{num, bytes_of, Bytes}
use Rattle.pgs_views.specs.Kinds.{type_of}
use Rattle.pgs_base.specs.Outcome.{accepted, pick}
use Rattle.pgs_base.proofs.Bytes.{num-byte}
use Rattle.pgs_base.proofs.Digits.{bytes_drop, bytes_take}
use Rattle.pgs_views.specs.declared.segment_type.SegmentType.{SegmentType}
use Rattle.pgs_segment.specs.Fields.{SegmentFields, body_verdict, body_of, kind_byte}
use Rattle.pgs_segment.specs.Header.{pts_of, dts_of, kind_of, size_of, marked}
use Rattle.pgs_segment.specs.OneSegment.{segment_type, used_by, body_at, segment_verdict, fields_of}
use Rattle.pgs_pcs.specs.PcsBody.{placement_size}
use Rattle.pgs_records.specs.Records.{records_size}
use Rattle.pgs_stream.proofs.ReadingLaws.{Whole, kind-byte}
use Rattle.pgs_records.proofs.RecordLaws.{first_fits, rest-fits}
use Rattle.pgs_segment.proofs.SegmentLaws.{has-header, accepted-head, accepted-body, accepted-mark}
use Rattle.pgs_encoding.specs.Cut.{kept_placement, kept_placements, kept, cut_segment}
use Rattle.pgs_encoding.specs.Encode.{head_fields, body_bytes, encode}
use Rattle.pgs_encoding.specs.Layout.{Field, written, all_fit}
use Rattle.pgs_encoding.specs.Writable.{body_writable, unknown_kind, writable}
use Rattle.pgs_encoding.proofs.KeptBodies.{kept_by, KeptBody, kept-body}
use Rattle.pgs_encoding.proofs.LayoutLaws.{length-written, read-fields, write-fields, fit-fields, num-bound, written-append, fit_append}
use Rattle.pgs_encoding.proofs.WrittenBodies.{ReadBody, read-body, unknown-kind}

-- a byte as a number, also past the end
pub byte_at : (at : ℕ) (l : List ℕ) → get_or l at 0 ≡ num 1 at l
unfolding num
byte_at at l = go (ltb at (length l)) refl
  where
    go : (t : Bool) → ltb at (length l) ≡ t → get_or l at 0 ≡ num 1 at l
    go true e = num-byte at l (ltb-true at (length l) e)
    go false e =
        let past : length l ≤ at = ltb-false at (length l) e in
        get_or-eq_default l 0 past ∙ sym (ap (λ (t : List ℕ). Rattle.pgs_base.specs.Bytes.big (take 1 t)) (drop_of_length-le l past))

-- what is kept, by the byte and by the kind
kept-placements : (n : ℕ) (l : List ℕ) → kept_placements n l ≡ records_size placement_size n l
kept-placements zero l = refl
kept-placements (suc n) l =
    let e : kept_placement l ≡ placement_size l = ap (λ (k : ℕ). pick (eqb k 0x40) 16 8) (byte_at 3 l) in
    (λ i. e i + kept_placements n (drop (e i) l)) ∙ ap (λ (k : ℕ). placement_size l + k) (kept-placements n (drop (placement_size l) l))

kept_by_lem : (v : ℕ) (b : List ℕ) → kept v b ≡ kept_by (type_of v) b
kept_by_lem v b = pcs? (eqb v 0x16) refl
  where
    Same : ℕ → Type 0
    Same k = kept k b ≡ kept_by (type_of k) b

    at_value : (k : ℕ) → eqb v k ≡ true → Same k → Same v
    at_value k e s = subst Same (sym (eqb-true v k e)) s

    others : eqb v 0x16 ≡ false → eqb v 0x17 ≡ false → (t : Bool) → eqb v 0x14 ≡ t → (u : Bool) → eqb v 0x15 ≡ u → (w : Bool) → eqb v 0x80 ≡ w → Same v
    others a c true p u q w r = at_value 0x14 p refl
    others a c false p true q w r = at_value 0x15 q refl
    others a c false p false q true r = at_value 0x80 r refl
    others a c false p false q false r = simp (a, c, p, q, r)

    wds? : eqb v 0x16 ≡ false → (t : Bool) → eqb v 0x17 ≡ t → Same v
    wds? a true e = at_value 0x17 e (ap (λ (k : ℕ). 1 + 9 * k) (byte_at 0 b))
    wds? a false e = others a e (eqb v 0x14) refl (eqb v 0x15) refl (eqb v 0x80) refl

    pcs? : (t : Bool) → eqb v 0x16 ≡ t → Same v
    pcs? true e =
        at_value 0x16 e
        (ap (λ (k : ℕ). 11 + kept_placements k (drop 11 b)) (byte_at 10 b) ∙ ap (λ (k : ℕ). 11 + k) (kept-placements (num 1 10 b) (drop 11 b)))
    pcs? false e = wds? e (eqb v 0x17) refl

-- the head but for its size
abbrev front_fields : ℕ → ℕ → ℕ → ℕ → ℕ → List Field
front_fields a b p d k = (1, a) ∷ (1, b) ∷ (4, p) ∷ (4, d) ∷ (1, k) ∷ []

abbrev front_widths : List ℕ
front_widths = 1 ∷ 1 ∷ 4 ∷ 4 ∷ 1 ∷ []

-- a whole segment, read and encoded again
module _ (x : List ℕ) (h : Bytes x) (w : Whole x) where
  long : 13 ≤ length x
  long = has-header x (accepted-head x w.step)

  body_is : body_at x ≡ drop 13 x
  body_is = take_all (size_of x) (drop 13 x) (rw length-drop (omega (arith, w.used)))

  body-length : length (body_at x) ≡ size_of x
  body-length = rw (body_is, length-drop) (omega (arith, w.used))

  body_bytes_lem : Bytes (body_at x)
  body_bytes_lem = bytes_take (size_of x) (drop 13 x) (bytes_drop 13 x h)

  whole : KeptBody (segment_type x) (body_at x)
  whole = kept-body (body_at x) body_bytes_lem (segment_type x) (accepted-body x w.step)

  encoded-length : length (body_bytes (body_of (segment_type x) (body_at x))) ≡ kept_by (segment_type x) (body_at x)
  encoded-length = ap length whole.bytes ∙ length-take-le (kept_by (segment_type x) (body_at x)) (body_at x) whole.within

  mark-0 : num 1 0 x ≡ 0x50
  mark-0 = sym (byte_at 0 x) ∙ eqb-true (get_or x 0 0) 0x50 (first_fits (eqb (get_or x 0 0) 0x50) (eqb (get_or x 1 0) 0x47) (accepted-mark x (accepted-head x w.step)))

  mark-1 : num 1 1 x ≡ 0x47
  mark-1 = sym (byte_at 1 x) ∙ eqb-true (get_or x 1 0) 0x47 (rest-fits (eqb (get_or x 0 0) 0x50) (eqb (get_or x 1 0) 0x47) (accepted-mark x (accepted-head x w.step)))

  front : written (front_fields 0x50 0x47 (pts_of x) (dts_of x) (kind_of x)) ≡ take 11 x
  front =
      let m = sym mark-0 in
      let n = sym mark-1 in
      (λ i. written (front_fields (m i) (n i) (pts_of x) (dts_of x) (kind_of x))) ∙ write-fields front_widths 0 x h (omega (arith, long))

  kind-is : kind_byte (body_of (segment_type x) (body_at x)) ≡ kind_of x
  kind-is = kind-byte (kind_of x) (body_at x)

  kept-is : kept (get_or x 10 0) (drop 13 x) ≡ kept_by (segment_type x) (body_at x)
  kept-is =
      kept_by_lem (get_or x 10 0) (drop 13 x)
      ∙ (let b = sym body_is in let k = byte_at 10 x in λ i. kept_by (type_of (k i)) (b i))

  -- encoding what was read gives the cut segment
  pub encode-read : encode (fields_of x) ≡ cut_segment x
  unfolding encode cut_segment
  encode-read =
      let n = kept_by (segment_type x) (body_at x) in
      let head : written (head_fields (pts_of x) (dts_of x) (kind_byte (body_of (segment_type x) (body_at x))) (length (body_bytes (body_of (segment_type x) (body_at x)))))
      ≡ take 11 x ++ bytes_of 2 n
      = (λ i. written (head_fields (pts_of x) (dts_of x) (kind-is i) (encoded-length i)))
      ∙ (written-append (front_fields 0x50 0x47 (pts_of x) (dts_of x) (kind_of x)) ((2, n) ∷ [])
      ∙ (λ i. front i ++ append-nil (bytes_of 2 n) i)) in
      let body : body_bytes (body_of (segment_type x) (body_at x)) ≡ take n (drop 13 x) = whole.bytes ∙ ap (take n) body_is in
      let k = sym kept-is in
      (λ i. head i ++ body i) ∙ (λ i. take 11 x ++ bytes_of 2 (k i) ++ take (k i) (drop 13 x))

  -- what was read can be written: it is never 35
  body-fine : body_writable (body_of (segment_type x) (body_at x)) ≡ true
  body-fine = go (unknown_kind (segment_type x)) refl
    where
      go : (t : Bool) → unknown_kind (segment_type x) ≡ t → body_writable (body_of (segment_type x) (body_at x)) ≡ true
      go false e = whole.fine e
      go true e = ap (λ (t : SegmentType). body_writable (body_of t (body_at x))) (unknown-kind (kind_of x) e) ∙ e

  pub read-writable : writable (fields_of x) ≡ true
  unfolding writable
  read-writable =
      let n = kept_by (segment_type x) (body_at x) in
      let small : n < 256 ^ 2 = omega (arith, whole.within, body-length, num-bound 2 11 x h (omega (arith, long))) in
      let m = sym mark-0 in
      let o = sym mark-1 in
      let front-fit : all_fit (front_fields 0x50 0x47 (pts_of x) (dts_of x) (kind_of x)) ≡ true
      = (λ i. all_fit (front_fields (m i) (o i) (pts_of x) (dts_of x) (kind_of x))) ∙ fit-fields front_widths 0 x h (omega (arith, long)) in
      let head : all_fit (head_fields (pts_of x) (dts_of x) (kind_byte (body_of (segment_type x) (body_at x))) (length (body_bytes (body_of (segment_type x) (body_at x))))) ≡ true
      = (λ i. all_fit (head_fields (pts_of x) (dts_of x) (kind-is i) (encoded-length i)))
      ∙ fit_append (front_fields 0x50 0x47 (pts_of x) (dts_of x) (kind_of x)) ((2, n) ∷ []) front-fit (simp (lt-ltb n (256 ^ 2) small)) in
      ap (λ (t : Bool). pick t (body_writable (body_of (segment_type x) (body_at x))) false) head ∙ body-fine

pub encode-length : (f : SegmentFields) → length (encode f) ≡ 13 + length (body_bytes f.body)
unfolding encode
encode-length f =
    rw (length-append, length-written (head_fields f.pts f.dts (kind_byte f.body) (length (body_bytes f.body))))

-- fields that can be written, encoded and read again, whatever follows
module _ (f : SegmentFields) (ok : writable f ≡ true) (r : List ℕ) where
  head_of : List Field
  head_of = head_fields f.pts f.dts (kind_byte f.body) (length (body_bytes f.body))

  head-fit : all_fit (head_fields f.pts f.dts (kind_byte f.body) (length (body_bytes f.body))) ≡ true
  unfolding writable
  head-fit = first_fits (all_fit (head_fields f.pts f.dts (kind_byte f.body) (length (body_bytes f.body)))) (body_writable f.body) ok

  body-fit : body_writable f.body ≡ true
  unfolding writable
  body-fit = rest-fits (all_fit (head_fields f.pts f.dts (kind_byte f.body) (length (body_bytes f.body)))) (body_writable f.body) ok

  shape : encode f ++ r ≡ written head_of ++ (body_bytes f.body ++ r)
  unfolding encode head_of
  shape = append_assoc (written head_of) (body_bytes f.body) r

  numbers : num 1 0 (encode f ++ r) ∷ num 1 1 (encode f ++ r) ∷ num 4 2 (encode f ++ r) ∷ num 4 6 (encode f ++ r) ∷ num 1 10 (encode f ++ r) ∷ num 2 11 (encode f ++ r) ∷ []
      ≡ 0x50 ∷ 0x47 ∷ f.pts ∷ f.dts ∷ kind_byte f.body ∷ length (body_bytes f.body) ∷ []
  unfolding head_of
  numbers =
      ap (λ (l : List ℕ). num 1 0 l ∷ num 1 1 l ∷ num 4 2 l ∷ num 4 6 l ∷ num 1 10 l ∷ num 2 11 l ∷ []) shape
      ∙ read-fields head_of [] (body_bytes f.body ++ r) 0 refl head-fit

  pub encode-used : used_by (encode f ++ r) ≡ length (encode f)
  encode-used = ap (λ (n : List ℕ). 13 + get_or n 5 0) numbers ∙ sym (encode-length f)

  encode-body : body_at (encode f ++ r) ≡ body_bytes f.body
  unfolding head_of
  encode-body =
      (let s = ap (λ (n : List ℕ). get_or n 5 0) numbers in λ i. take (s i) (drop 13 (shape i)))
      ∙ (ap (take (length (body_bytes f.body))) (drop_at (written head_of) (body_bytes f.body ++ r) 13 (length-written head_of))
      ∙ take_at (body_bytes f.body) r (length (body_bytes f.body)) refl)

  encode-type : segment_type (encode f ++ r) ≡ type_of (kind_byte f.body)
  encode-type = ap (λ (n : List ℕ). type_of (get_or n 4 0)) numbers

  again : ReadBody (type_of (kind_byte f.body)) f.body
  again = read-body f.body body-fit

  encode-marked : marked (encode f ++ r) ≡ true
  encode-marked =
      let a : get_or (encode f ++ r) 0 0 ≡ 0x50 = byte_at 0 (encode f ++ r) ∙ ap (λ (n : List ℕ). get_or n 0 0) numbers in
      let b : get_or (encode f ++ r) 1 0 ≡ 0x47 = byte_at 1 (encode f ++ r) ∙ ap (λ (n : List ℕ). get_or n 1 0) numbers in
      simp (eq-eqb (get_or (encode f ++ r) 0 0) 0x50 a, eq-eqb (get_or (encode f ++ r) 1 0) 0x47 b)

  pub encode-accepted : segment_verdict (encode f ++ r) ≡ accepted
  encode-accepted =
      let size = length-append (encode f) r in
      simp
      (le-leb 13 (length (encode f ++ r)) (omega (arith, encode-length f)), encode-marked, le-leb (used_by (encode f ++ r)) (length (encode f ++ r)) (omega (arith, encode-used)))
      ((λ i. body_verdict (encode-type i) (encode-body i)) ∙ again.taken)

  pub encode-fields : fields_of (encode f ++ r) ≡ f
  encode-fields =
      let b : body_of (segment_type (encode f ++ r)) (body_at (encode f ++ r)) ≡ f.body
      = (λ i. body_of (encode-type i) (encode-body i)) ∙ again.same in
      let p : pts_of (encode f ++ r) ≡ f.pts = ap (λ (n : List ℕ). get_or n 2 0) numbers in
      let d : dts_of (encode f ++ r) ≡ f.dts = ap (λ (n : List ℕ). get_or n 3 0) numbers in
      λ i. record { pts = p i; dts = d i; body = b i }
