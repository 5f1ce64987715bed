-- A body that was read, written again from its fields: the bytes that are kept of it. Assumes nothing.
use mathlib.Core.Path.{◌≡◌, refl, sym, ap, ◌∙◌}
use mathlib.Core.Bool.{Bool, true, false}
use mathlib.Core.List.{List, [], ◌∷◌, ◌++◌}
use Prim.Native.Nat.{ℕ, ◌+◌, ◌-◌, ◌*◌, ◌%◌, ◌≤◌}
use native.Mathlib.Omega.{arith}
use borrow.Author.Tests.{eqb-true}
use lib.Dec.{leb, eqb}
use lib.ListN.{length, take, drop, take-append-drop}
use lib.Seq.{take-length}
use Rattle.pgs_base.specs.Bytes.{Bytes}
use Rattle.pgs_views.specs.Fragments.{fragment_of, is_first}
use Rattle.pgs_base.specs.Outcome.{accepted, unless}
use Rattle.pgs_base.proofs.Outcomes.{second_holds, holds}
use Rattle.pgs_views.specs.declared.segment_type.SegmentType.{SegmentType}
use Rattle.pgs_views.specs.declared.segment_type.SegmentType.TheVariants as kinds
use Rattle.pgs_segment.specs.Fields.{body_verdict, body_of}
use Rattle.pgs_ods.specs.OdsBody.{ods_of, ods_data, ods_verdict, flag_of, head_size}
use Rattle.pgs_pcs.specs.PcsBody.{pcs_of, placement_of, placement_size, placement_count, placements_of, pcs_verdict}
use Rattle.pgs_pds.specs.PdsBody.{entry_size, entry_count, pds_verdict}
use Rattle.pgs_records.specs.Records.{records_size}
use Rattle.pgs_wds.specs.WdsBody.{window_of, window_size, window_count, windows_of, wds_verdict}
use Rattle.pgs_ods.proofs.OdsLaws as ods-laws
use Rattle.pgs_pcs.proofs.PcsLaws as pcs-laws
use Rattle.pgs_pds.proofs.PdsLaws as pds-laws
use Rattle.pgs_records.proofs.RecordLaws.{records-length, size-fixed}
use Rattle.pgs_wds.proofs.WdsLaws as wds-laws
use Rattle.pgs_encoding.specs.Encode.{body_bytes, pcs_fields, ods_fields}
use Rattle.pgs_encoding.specs.Layout.{written}
use Rattle.pgs_encoding.specs.Writable.{body_writable, unknown_kind}
use Rattle.pgs_encoding.proofs.LayoutLaws.{numbers_at, paired, write-fields, fit-fields}
use Rattle.pgs_encoding.proofs.RecordBytes.{list-written, list-within, list-writable}
use Rattle.pgs_encoding.proofs.RecordKinds.{windows, entries, placements}

-- how many bytes are kept, by the kind
abbrev pub kept_by : SegmentType → List ℕ → ℕ
kept_by kinds.Pds b = length b
kept_by kinds.Ods b = length b
kept_by kinds.Pcs b = 11 + records_size placement_size (placement_count b) (drop 11 b)
kept_by kinds.Wds b = 1 + 9 * window_count b
kept_by kinds.End b = length b
kept_by (kinds.Other v) b = length b

-- a body's fields give back its kept bytes, and those of a known kind can be written
pub record KeptBody (t : SegmentType) (b : List ℕ) : Type 0 where
  pub bytes : body_bytes (body_of t b) ≡ take (kept_by t b) b
  pub within : kept_by t b ≤ length b
  pub fine : unknown_kind t ≡ false → body_writable (body_of t b) ≡ true

abbrev pcs_widths : List ℕ
pcs_widths = 2 ∷ 2 ∷ 1 ∷ 2 ∷ 1 ∷ 1 ∷ 1 ∷ 1 ∷ []

module _ (b : List ℕ) (h : Bytes b) where
  kept-pcs : pcs_verdict b ≡ accepted → KeptBody kinds.Pcs b
  kept-pcs e =
      let long = pcs-laws.has-numbers b e in
      let fit = pcs-laws.has-placements b e in
      let n = placement_count b in
      let head : pcs_fields (pcs_of b) (length (placements_of b)) ≡ paired pcs_widths (numbers_at pcs_widths 0 b)
      = ap (pcs_fields (pcs_of b)) (records-length placement_of placement_size n (drop 11 b)) in
      record {
        bytes = list-written placements pcs_widths n b h long fit head;
        within = list-within placements pcs_widths n b h long fit head;
        fine = λ _. list-writable placements pcs_widths n b h long fit head;
      }

  kept-wds : wds_verdict b ≡ accepted → KeptBody kinds.Wds b
  kept-wds e =
      let long = wds-laws.has-count b e in
      let fit = wds-laws.has-windows b e in
      let n = window_count b in
      let head : (1, length (windows_of b)) ∷ [] ≡ paired (1 ∷ []) (numbers_at (1 ∷ []) 0 b)
      = ap (λ (k : ℕ). (1, k) ∷ []) (records-length window_of window_size n (drop 1 b)) in
      let size : records_size window_size n (drop 1 b) ≡ 9 * n = size-fixed 9 n (drop 1 b) in
      record {
        bytes = list-written windows (1 ∷ []) n b h long fit head ∙ ap (λ (k : ℕ). take (1 + k) b) size;
        within = omega (arith, list-within windows (1 ∷ []) n b h long fit head, size);
        fine = λ _. list-writable windows (1 ∷ []) n b h long fit head;
      }

  kept-pds : pds_verdict b ≡ accepted → KeptBody kinds.Pds b
  kept-pds e =
      let long = pds-laws.has-numbers b e in
      let fit = pds-laws.has-entries b in
      let n = entry_count b in
      let whole : (length b - 2) % 5 ≡ 0 = eqb-true _ _ (holds 5 _ (second_holds (unless 4 (leb 2 (length b))) _ e)) in
      let size : records_size entry_size n (drop 2 b) ≡ 5 * n = size-fixed 5 n (drop 2 b) in
      let sum : 2 + records_size entry_size n (drop 2 b) ≡ length b = omega arith in
      record {
        bytes = list-written entries (1 ∷ 1 ∷ []) n b h long fit refl ∙ ap (λ (k : ℕ). take k b) sum;
        within = omega arith;
        fine = λ _. list-writable entries (1 ∷ 1 ∷ []) n b h long fit refl;
      }

  kept-ods : ods_verdict b ≡ accepted → KeptBody kinds.Ods b
  kept-ods e = go (is_first (fragment_of (flag_of b))) refl
    where
      long : 7 ≤ length b
      long = ods-laws.has-head b e

      room : head_size (flag_of b) ≤ length b
      room = ods-laws.has-dimensions b e

      go : (t : Bool) → is_first (fragment_of (flag_of b)) ≡ t → KeptBody kinds.Ods b
      go true q =
          let more : 11 ≤ length b = rw q at room in
          let head : written (ods_fields (ods_of b)) ≡ take 11 b = simp q (write-fields (2 ∷ 1 ∷ 1 ∷ 3 ∷ 2 ∷ 2 ∷ []) 0 b h (omega arith)) in
          let all : ods_data b ≡ drop 11 b = simp q in
          record {
            bytes = (λ k. head k ++ all k) ∙ (take-append-drop 11 b ∙ sym (take-length b));
            within = omega arith;
            fine = λ _. simp q (fit-fields (2 ∷ 1 ∷ 1 ∷ 3 ∷ 2 ∷ 2 ∷ []) 0 b h (omega arith));
          }
      go false q =
          let head : written (ods_fields (ods_of b)) ≡ take 7 b = simp q (write-fields (2 ∷ 1 ∷ 1 ∷ 3 ∷ []) 0 b h (omega (arith, long))) in
          let all : ods_data b ≡ drop 7 b = simp q in
          record {
            bytes = (λ k. head k ++ all k) ∙ (take-append-drop 7 b ∙ sym (take-length b));
            within = omega arith;
            fine = λ _. simp q (fit-fields (2 ∷ 1 ∷ 1 ∷ 3 ∷ []) 0 b h (omega (arith, long)));
          }

  kept-end : body_verdict kinds.End b ≡ accepted → KeptBody kinds.End b
  kept-end e =
      let none : length b ≡ 0 = eqb-true _ _ (holds 6 (eqb (length b) 0) e) in
      record { bytes = ap (λ (k : ℕ). take k b) (sym none); within = omega arith; fine = λ _. refl }

  -- a body of any kind
  pub kept-body : (t : SegmentType) → body_verdict t b ≡ accepted → KeptBody t b
  kept-body kinds.Pds e = kept-pds e
  kept-body kinds.Ods e = kept-ods e
  kept-body kinds.Pcs e = kept-pcs e
  kept-body kinds.Wds e = kept-wds e
  kept-body kinds.End e = kept-end e
  kept-body (kinds.Other v) e = record { bytes = sym (take-length b); within = omega arith; fine = λ q. let z : true ≡ false = q in cc }
