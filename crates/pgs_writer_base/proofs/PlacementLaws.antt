-- What the writer of a PCS tests of its numbers and its records of placements, and stores of them. Assumes nothing.
use Rattle.std.specs.Prelude.{None, Some}
use Rattle.pgs_views.specs.declared.segment_type.SegmentType.TheVariants as kinds
use Rattle.pgs_writer_base.specs.Bodies.{is_body_size, segment_bytes, list_body, list_fits}
use Rattle.pgs_writer_base.specs.declared.head.Timestamps.{Timestamps}
use Rattle.pgs_writer_base.proofs.BodyLaws.{Answered, same-answer, bytes-as, fit-as}
use mathlib.Core.Path.{◌≡◌, refl, sym, ap, ◌∙◌}
use mathlib.Core.Bool.{Bool, true, false}
use mathlib.Core.List.{List, [], ◌∷◌, ◌++◌, map}
use Prim.Native.Nat.{ℕ, zero, suc, ◌^◌, ◌≤◌, ◌<◌}
use native.Mathlib.Omega.{arith}
use borrow.Author.Tests.{lt-ltb, le-ltb, lt-leb, eq-eqb, ne_eqb}
use lib.Dec.{eqb, leb, ltb}
use lib.ListN.{length, get_or, length-map}
use Rattle.pgs_base.specs.Outcome.{Outcome, pick}
use Rattle.pgs_segment.specs.Fields.{pcs}
use Rattle.pgs_pcs.specs.PcsBody.{crop_from}
use Rattle.pgs_pcs.specs.declared.pcs.CompositionObjectCrop.{CompositionObjectCrop}
use Rattle.pgs_pcs.specs.declared.pcs.Pcs.{Pcs}
use Rattle.pgs_encoding.specs.Encode.{body_bytes, encode, crop_fields, placement_fields, pcs_fields}
use Rattle.pgs_writer_base.specs.Kinds.{pcs_segment, pcs_rows_writable, placement_row_fits, placement_rows_fit}
use Rattle.pgs_encoding.specs.Layout.{Field, written, all_fit, each}
use Rattle.pgs_writer_base.specs.Rows.{placement_from, mark_fits}
use Rattle.pgs_encoding.specs.Writable.{body_writable, placement_writable, crop_where}
use Rattle.pgs_writer_base.proofs.EachLaws.{bytes-map}
use Rattle.pgs_writer_base.proofs.FitLaws.{pick-neither, pick-self}
use Rattle.pgs_writer_base.proofs.WriteLaws.{TimesFit, body_refused}

-- a crop is marked by 1, and exactly at the flag
marked : (x : CompositionObjectCrop) (t : Bool) (m : ℕ) → pick (leb m 1) (crop_where t (pick (eqb m 0) None (Some x))) false ≡ pick t (eqb m 1) (eqb m 0)
marked x true zero = refl
marked x false zero = refl
marked x true (suc zero) = refl
marked x false (suc zero) = refl
marked x t (suc (suc m)) =
    simp
    (lt-leb (suc (suc m)) 1 (omega arith), ne_eqb (suc (suc m)) 1 (λ h. omega arith), ne_eqb (suc (suc m)) 0 (λ h. omega arith))
    (sym (pick-neither t))

module _ (r : List ℕ) where
  -- the fields before those of a crop
  abbrev before : List Field → List Field
  before fs = (2, get_or r 0 0) ∷ (1, get_or r 1 0) ∷ (1, get_or r 2 0) ∷ (2, get_or r 3 0) ∷ (2, get_or r 4 0) ∷ fs

  -- and of a crop
  abbrev crop : List Field
  crop = (2, get_or r 6 0) ∷ (2, get_or r 7 0) ∷ (2, get_or r 8 0) ∷ (2, get_or r 9 0) ∷ []

  -- as a crop
  abbrev cut : CompositionObjectCrop
  cut = record { horizontal_position = get_or r 6 0; vertical_position = get_or r 7 0; width = get_or r 8 0; height = get_or r 9 0 }

  module _ (cell : (k : ℕ) → get_or r k 0 < 65536) where
    module _ (w : get_or r 1 0 ≤ 255) (v : get_or r 2 0 ≤ 255) where
      before-fits : (fs : List Field) → all_fit fs ≡ true → all_fit (before fs) ≡ true
      before-fits fs e =
          simp (
            lt-ltb (get_or r 0 0) (256 ^ 2) (cell 0),
            lt-ltb (get_or r 1 0) (256 ^ 1) (omega arith),
            lt-ltb (get_or r 2 0) (256 ^ 1) (omega arith),
            lt-ltb (get_or r 3 0) (256 ^ 2) (cell 3),
            lt-ltb (get_or r 4 0) (256 ^ 2) (cell 4),
          ) e

      crop-fits : (t : Bool) → all_fit (crop_fields (pick t None (Some cut))) ≡ true
      crop-fits true = refl
      crop-fits false =
          simp
          (lt-ltb (get_or r 6 0) (256 ^ 2) (cell 6), lt-ltb (get_or r 7 0) (256 ^ 2) (cell 7), lt-ltb (get_or r 8 0) (256 ^ 2) (cell 8), lt-ltb (get_or r 9 0) (256 ^ 2) (cell 9))

      -- the flag says which mark is right
      by_flag : (t : Bool) → eqb (get_or r 2 0) 0x40 ≡ t → placement_row_fits r ≡ pick t (eqb (get_or r 5 0) 1) (eqb (get_or r 5 0) 0)
      by_flag t q =
          let fit = before-fits (crop_fields (crop_from r)) (crop-fits (eqb (get_or r 5 0) 0)) in
          (λ i. pick (mark_fits r) (pick (crop_where (q i) (crop_from r)) (fit i) false) false)
          ∙ (ap (λ (u : Bool). pick (mark_fits r) u false) (sym (pick-self (crop_where t (crop_from r)))) ∙ marked cut t (get_or r 5 0))

      pub fits-cropped : get_or r 2 0 ≡ 0x40 → placement_row_fits r ≡ eqb (get_or r 5 0) 1
      fits-cropped e = by_flag true (eq-eqb (get_or r 2 0) 0x40 e)

-- the records that can be written
both : (a b c d : Bool) → pick (pick a c false) (pick b d false) false ≡ pick (pick a b false) (pick c d false) false
both true true c d = refl
both true false c d = pick-neither c
both false b c d = refl

pub placements-fit : (rows : List (List ℕ)) → each placement_row_fits rows ≡ placement_rows_fit rows
placements-fit [] = refl
placements-fit (r ∷ rows) =
    ap (λ (u : Bool). pick (placement_row_fits r) u false) (placements-fit rows)
    ∙ both (mark_fits r) (each mark_fits rows) (placement_writable (placement_from r)) (each placement_writable (map placement_from rows))

-- the numbers fit their types
pub record PcsFits (n : Pcs) : Type 0 where
  pub width : n.width < 65536
  pub height : n.height < 65536
  pub rate : n.frame_rate < 256
  pub number : n.composition_number < 65536
  pub state : n.composition_state < 256
  pub update : n.palette_update_flag < 256
  pub palette : n.palette_id < 256

-- two tests in either order
swap : (a b c : Bool) → pick a (pick b c false) false ≡ pick b (pick a c false) false
swap true b c = refl
swap false b c = sym (pick-neither b)

-- what a row of a placement stands for
abbrev pub placement_row_fields : List ℕ → List Field
placement_row_fields r = placement_fields (placement_from r)

module _ (t : Timestamps) (n : Pcs) (rows : List (List ℕ)) where
  -- of the numbers, the count decides
  count_fits : PcsFits n → all_fit (pcs_fields n (length (map placement_from rows))) ≡ ltb (length rows) 256
  count_fits ok =
      simp (
        lt-ltb n.width (256 ^ 2) ok.width,
        lt-ltb n.height (256 ^ 2) ok.height,
        lt-ltb n.frame_rate (256 ^ 1) ok.rate,
        lt-ltb n.composition_number (256 ^ 2) ok.number,
        lt-ltb n.composition_state (256 ^ 1) ok.state,
        lt-ltb n.palette_update_flag (256 ^ 1) ok.update,
        lt-ltb n.palette_id (256 ^ 1) ok.palette,
        length-map rows placement_from,
      ) (sym (pick-self (ltb (length rows) 256)))

  -- more placements than it can name
  pub pcs-many : PcsFits n → 255 < length rows → pcs_rows_writable t.pts t.dts n rows ≡ false
  pcs-many ok h =
      let none : all_fit (pcs_fields n (length (map placement_from rows))) ≡ false = count_fits ok ∙ le-ltb (length rows) 256 (omega arith) in
      ap (λ (u : Bool). pick (each mark_fits rows) u false)
      (body_refused (pcs_segment t.pts t.dts n rows) (ap (λ (u : Bool). pick u (each placement_writable (map placement_from rows)) false) none))
      ∙ pick-neither (each mark_fits rows)

  -- the numbers, then the placements
  pub pcs-answer : {count : ℕ} {numbers before after : List ℕ} {o : Outcome ℕ} → TimesFit t → PcsFits n → count ≡ length rows → count < 256
      → numbers ≡ written (pcs_fields n count)
      → Answered (list_fits placement_row_fields placement_row_fits numbers rows) (segment_bytes t kinds.Pcs (list_body placement_row_fields numbers rows)) before after o
      → Answered (pcs_rows_writable t.pts t.dts n rows) (encode (pcs_segment t.pts t.dts n rows)) before after o
  pcs-answer {count} {numbers} ok fit e h q =
      let ps = map placement_from rows in
      let many : count ≡ length ps = e ∙ sym (length-map rows placement_from) in
      let head : numbers ≡ written (pcs_fields n (length ps)) = q ∙ ap (λ (k : ℕ). written (pcs_fields n k)) many in
      let records = bytes-map placement_from placement_fields rows in
      let body : list_body placement_row_fields numbers rows ≡ body_bytes (pcs n ps) = λ i. head i ++ records i in
      let fits : each placement_writable ps ≡ body_writable (pcs n ps)
      = sym (ap (λ (u : Bool). pick u (each placement_writable ps) false) (count_fits fit ∙ lt-ltb (length rows) 256 (omega arith))) in
      let size = is_body_size (length (list_body placement_row_fields numbers rows)) in
      let test : list_fits placement_row_fields placement_row_fits numbers rows ≡ pcs_rows_writable t.pts t.dts n rows
      = ap (λ (u : Bool). pick size u false) (placements-fit rows)
      ∙ (swap size (each mark_fits rows) (each placement_writable ps)
      ∙ ap (λ (u : Bool). pick (each mark_fits rows) u false) (fit-as t ok kinds.Pcs (pcs n ps) refl (omega arith) body fits)) in
      same-answer test (bytes-as t ok kinds.Pcs (pcs n ps) refl (omega arith) body)
