-- What can be written of each kind, from what the writers test. Assumes nothing.
use Rattle.pgs_views.specs.declared.segment_type.SegmentType.TheVariants as kinds
use Rattle.pgs_writer_base.specs.Bodies.{segment_bytes, list_body, list_fits}
use Rattle.pgs_writer_base.specs.declared.head.Timestamps.{Timestamps}
use Rattle.pgs_encoding.proofs.LayoutLaws.{length-written}
use Rattle.pgs_writer_base.proofs.BodyLaws.{Answered, fields-answer, segment-length}
use mathlib.Core.Path.{◌≡◌, refl, sym, ap, ◌∙◌}
use mathlib.Core.Bool.{Bool, true, false}
use mathlib.Core.List.{List, [], ◌∷◌, map}
use Prim.Native.Nat.{ℕ, ◌+◌, ◌*◌, ◌%◌, ◌^◌, ◌≤◌, ◌<◌}
use native.Mathlib.Omega.{arith}
use borrow.Author.Tests.{lt-ltb, le-ltb, le-leb, lt-leb}
use lib.ListN.{length, length-append, length-map}
use Rattle.pgs_base.specs.Outcome.{Outcome, pick}
use Rattle.pgs_segment.specs.Fields.{wds, pds}
use Rattle.pgs_pds.specs.declared.pds.Pds.{Pds}
use Rattle.pgs_encoding.specs.Encode.{body_bytes, encode, window_fields, entry_fields}
use Rattle.pgs_writer_base.specs.Kinds.{wds_segment, pds_segment}
use Rattle.pgs_encoding.specs.Layout.{Field, all_fit, each, record_bytes}
use Rattle.pgs_writer_base.specs.Rows.{window_from, entry_from}
use Rattle.pgs_encoding.specs.Writable.{writable}
use Rattle.pgs_writer_base.proofs.EachLaws.{each-map, bytes-map}
use Rattle.pgs_writer_base.proofs.WriteLaws.{TimesFit, body_refused}

-- what a row of a window or of an entry stands for
abbrev pub window_row_fields : List ℕ → List Field
window_row_fields r = window_fields (window_from r)

abbrev pub entry_row_fields : List ℕ → List Field
entry_row_fields r = entry_fields (entry_from r)

-- a count in one byte
count_byte : {n k : ℕ} → n ≡ k → n < 256 → n ≡ k % 256
count_byte e h = omega arith

module _ (t : Timestamps) (rows : List (List ℕ)) where
  -- more windows than a count can name
  pub wds-many : 255 < length rows → writable (wds_segment t.pts t.dts rows) ≡ false
  wds-many h =
      body_refused (wds_segment t.pts t.dts rows)
      (simp (length-map rows window_from, le-ltb (length rows) (256 ^ 1) (omega arith)))

  -- the count, then the windows
  pub wds-answer : {n : ℕ} {before after : List ℕ} {o : Outcome ℕ} → TimesFit t → n ≡ length rows → n < 256
      → Answered (list_fits window_row_fields (λ (r : List ℕ). all_fit (window_row_fields r)) (n ∷ []) rows)
      (segment_bytes t kinds.Wds (list_body window_row_fields (n ∷ []) rows)) before after o
      → Answered (writable (wds_segment t.pts t.dts rows)) (encode (wds_segment t.pts t.dts rows)) before after o
  wds-answer {n} ok e h =
      let many : n ≡ length (map window_from rows) = e ∙ sym (length-map rows window_from) in
      let records = bytes-map window_from window_fields rows in
      let count = count_byte many h in
      let body : list_body window_row_fields (n ∷ []) rows ≡ body_bytes (wds (map window_from rows)) = λ i. count i ∷ records i in
      fields-answer t ok kinds.Wds (wds (map window_from rows)) refl (omega arith) body
      (each-map window_from (λ w. all_fit (window_fields w)) rows
      ∙ sym (simp (lt-ltb (length (map window_from rows)) (256 ^ 1) (omega arith))))

-- an entry takes five bytes
entries-length : (rows : List (List ℕ)) → length (record_bytes entry_row_fields rows) ≡ 5 * length rows
entries-length [] = refl
entries-length (r ∷ rows) = rw (length-append, length-written (entry_row_fields r)) (omega (arith, entries-length rows))

module _ (t : Timestamps) (n : Pds) (rows : List (List ℕ)) where
  -- the numbers and the entries that a writer lays out
  abbrev pub pds_body : List ℕ
  pds_body = list_body entry_row_fields (n.palette_id ∷ n.palette_version_number ∷ []) rows

  abbrev pub pds_fits : Bool
  pds_fits = list_fits entry_row_fields (λ (r : List ℕ). all_fit (entry_row_fields r)) (n.palette_id ∷ n.palette_version_number ∷ []) rows

  pub pds-length : length (segment_bytes t kinds.Pds pds_body) ≡ 15 + 5 * length rows
  pds-length = segment-length t kinds.Pds pds_body ∙ omega (arith, entries-length rows)

  -- more entries than a body has room for
  pub pds-many : 13106 < length rows → pds_fits ≡ false
  pds-many h =
      ap (λ (u : Bool). pick u (each (λ (r : List ℕ). all_fit (entry_row_fields r)) rows) false)
      (lt-leb (length pds_body) 65535 (omega (arith, entries-length rows)))

  -- and no more, each of which can be written
  pub pds-few : length rows ≤ 13106 → each (λ (r : List ℕ). all_fit (entry_row_fields r)) rows ≡ true → pds_fits ≡ true
  pds-few h e =
      ap (λ (u : Bool). pick u (each (λ (r : List ℕ). all_fit (entry_row_fields r)) rows) false)
      (le-leb (length pds_body) 65535 (omega (arith, entries-length rows)))
      ∙ e

  -- id and version, then the entries
  pub pds-answer : {before after : List ℕ} {o : Outcome ℕ} → TimesFit t → n.palette_id < 256 → n.palette_version_number < 256
      → Answered (list_fits entry_row_fields (λ (r : List ℕ). all_fit (entry_row_fields r)) (n.palette_id ∷ n.palette_version_number ∷ []) rows)
      (segment_bytes t kinds.Pds (list_body entry_row_fields (n.palette_id ∷ n.palette_version_number ∷ []) rows)) before after o
      → Answered (writable (pds_segment t.pts t.dts n rows)) (encode (pds_segment t.pts t.dts n rows)) before after o
  pds-answer ok a b =
      let records = bytes-map entry_from entry_fields rows in
      let id : n.palette_id ≡ n.palette_id % 256 = count_byte refl a in
      let version : n.palette_version_number ≡ n.palette_version_number % 256 = count_byte refl b in
      let body : list_body entry_row_fields (n.palette_id ∷ n.palette_version_number ∷ []) rows ≡ body_bytes (pds n (map entry_from rows))
      = λ i. id i ∷ version i ∷ records i in
      fields-answer t ok kinds.Pds (pds n (map entry_from rows)) refl (omega arith) body
      (each-map entry_from (λ e. all_fit (entry_fields e)) rows
      ∙ sym (simp (lt-ltb n.palette_id (256 ^ 1) a, lt-ltb n.palette_version_number (256 ^ 1) b)))
