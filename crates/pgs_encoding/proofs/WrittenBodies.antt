-- A body that was written from fields, read again: the fields. Assumes nothing.
use Rattle.std.specs.Prelude.{Option, None, Some}
use mathlib.Core.Path.{◌≡◌, refl, sym, ap, ◌∙◌, subst}
use mathlib.Core.Bool.{Bool, true, false}
use mathlib.Core.List.{List, [], ◌∷◌, ◌++◌}
use Prim.Native.Nat.{ℕ, ◌+◌, ◌-◌, ◌*◌, ◌%◌, ◌≤◌}
use native.Mathlib.Omega.{arith}
use borrow.Author.Tests.{le-leb, eq-eqb, not-true}
use lib.ListN.{length, drop, get_or, length-append}
use lib.Seq.{drop_at}
use Rattle.pgs_views.specs.Fragments.{fragment_of, is_first}
use Rattle.pgs_views.specs.Kinds.{type_of, raw_of}
use Rattle.pgs_base.specs.Outcome.{accepted}
use Rattle.pgs_views.proofs.Views.{raw-type}
use Rattle.pgs_views.specs.declared.segment_type.SegmentType.{SegmentType}
use Rattle.pgs_views.specs.declared.segment_type.SegmentType.TheVariants as kinds
use Rattle.pgs_segment.specs.Fields.{BodyFields, pcs, wds, pds, ods, end, other, body_verdict, body_of, kind_byte}
use Rattle.pgs_ods.specs.OdsBody.{ods_of, ods_data, flag_of, head_size, dimensions_of}
use Rattle.pgs_pcs.specs.PcsBody.{pcs_of, placement_count, placements_of}
use Rattle.pgs_pds.specs.PdsBody.{pds_of, entry_count, entries_of}
use Rattle.pgs_wds.specs.WdsBody.{window_count, windows_of}
use Rattle.pgs_base.specs.declared.dimensions.Dimensions.{Dimensions}
use Rattle.pgs_ods.specs.declared.ods.Ods.{Ods}
use Rattle.pgs_pcs.specs.declared.pcs.CompositionObject.{CompositionObject}
use Rattle.pgs_pcs.specs.declared.pcs.Pcs.{Pcs}
use Rattle.pgs_pds.specs.declared.pds.PaletteEntry.{PaletteEntry}
use Rattle.pgs_pds.specs.declared.pds.Pds.{Pds}
use Rattle.pgs_wds.specs.declared.wds.Window.{Window}
use Rattle.pgs_records.proofs.RecordLaws.{first_fits, rest-fits}
use Rattle.pgs_encoding.specs.Encode.{body_bytes, pcs_fields, pds_fields, entry_fields, ods_fields}
use Rattle.pgs_encoding.specs.Layout.{Field, written, all_fit, record_bytes}
use Rattle.pgs_encoding.specs.Writable.{body_writable, unknown_kind, dimensions_where}
use Rattle.pgs_encoding.proofs.LayoutLaws.{values, length-written, read-fields}
use Rattle.pgs_encoding.proofs.RecordBytes.{numbers-again, numbers-within, records-again, fit-again}
use Rattle.pgs_encoding.proofs.RecordKinds.{windows, entries, placements}

-- the body that was written is accepted, and its fields are those written
pub record ReadBody (t : SegmentType) (f : BodyFields) : Type 0 where
  pub taken : body_verdict t (body_bytes f) ≡ accepted
  pub same : body_of t (body_bytes f) ≡ f

read-pcs : (p : Pcs) (ps : List CompositionObject) → body_writable (pcs p ps) ≡ true → ReadBody kinds.Pcs (pcs p ps)
read-pcs p ps e =
    let fs = pcs_fields p (length ps) in
    let numbers = numbers-again placements fs ps e in
    let count : placement_count (body_bytes (pcs p ps)) ≡ length ps = ap (λ (n : List ℕ). get_or n 7 0) numbers in
    let head : pcs_of (body_bytes (pcs p ps)) ≡ p = ap made numbers in
    let list : placements_of (body_bytes (pcs p ps)) ≡ ps = records-again placements fs ps e count in
    record {
      taken = simp (le-leb 11 (length (body_bytes (pcs p ps))) (numbers-within placements fs ps e), fit-again placements fs ps e count);
      same = λ i. pcs (head i) (list i);
    }
  where
    made : List ℕ → Pcs
    made n =
        record {
          width = get_or n 0 0;
          height = get_or n 1 0;
          frame_rate = get_or n 2 0;
          composition_number = get_or n 3 0;
          composition_state = get_or n 4 0;
          palette_update_flag = get_or n 5 0;
          palette_id = get_or n 6 0;
        }

read-wds : (ws : List Window) → body_writable (wds ws) ≡ true → ReadBody kinds.Wds (wds ws)
read-wds ws e =
    let fs : List Field = (1, length ws) ∷ [] in
    let count : window_count (body_bytes (wds ws)) ≡ length ws = ap (λ (n : List ℕ). get_or n 0 0) (numbers-again windows fs ws e) in
    let list : windows_of (body_bytes (wds ws)) ≡ ws = records-again windows fs ws e count in
    record {
      taken = simp (le-leb 1 (length (body_bytes (wds ws))) (numbers-within windows fs ws e), fit-again windows fs ws e count);
      same = λ i. wds (list i);
    }

-- entries take 5 bytes each
entries-length : (es : List PaletteEntry) → length (record_bytes entry_fields es) ≡ 5 * length es
entries-length [] = omega arith
entries-length (a ∷ es) = rw (length-append, length-written (entry_fields a)) (omega (arith, entries-length es))

read-pds : (p : Pds) (es : List PaletteEntry) → body_writable (pds p es) ≡ true → ReadBody kinds.Pds (pds p es)
read-pds p es e =
    let fs = pds_fields p in
    let b = body_bytes (pds p es) in
    let size : length b ≡ 2 + 5 * length es = rw (length-append, length-written fs, entries-length es) in
    let count : entry_count b ≡ length es = omega arith in
    let whole : (length b - 2) % 5 ≡ 0 = omega arith in
    let head : pds_of b ≡ p = ap made (numbers-again entries fs es e) in
    let list : entries_of b ≡ es = records-again entries fs es e count in
    record {
      taken = simp (le-leb 2 (length b) (omega arith), eq-eqb ((length b - 2) % 5) 0 whole);
      same = λ i. pds (head i) (list i);
    }
  where
    made : List ℕ → Pds
    made n = record { palette_id = get_or n 0 0; palette_version_number = get_or n 1 0 }

-- (an ODS is what it is with its dimensions: the two cases are those of a value that may be absent)
read-ods : (o : Ods) (d : List ℕ) → body_writable (ods o d) ≡ true → ReadBody kinds.Ods (ods o d)
read-ods o d = go o.dimensions
  where
    -- the numbers, with these dimensions
    made : List ℕ → Option Dimensions → Ods
    made n x =
        record {
          object_id = get_or n 0 0;
          object_version_number = get_or n 1 0;
          last_in_sequence_flag = get_or n 2 0;
          object_data_length = get_or n 3 0;
          dimensions = x;
        }

    with_dimensions : Option Dimensions → Ods
    with_dimensions = made (values (ods_fields o))

    test : Bool
    test = is_first (fragment_of o.last_in_sequence_flag)

    go : (x : Option Dimensions) → body_writable (ods (with_dimensions x) d) ≡ true → ReadBody kinds.Ods (ods (with_dimensions x) d)
    go None e =
        let fs = ods_fields (with_dimensions None) in
        let b = written fs ++ d in
        let numbers = read-fields fs [] d 0 refl (rest-fits (dimensions_where test None) (all_fit fs) e) in
        let flag : test ≡ false = not-true _ (first_fits (dimensions_where test None) (all_fit fs) e) in
        let later : is_first (fragment_of (flag_of b)) ≡ false = ap (λ (n : List ℕ). is_first (fragment_of (get_or n 2 0))) numbers ∙ flag in
        let long : 7 ≤ length b = rw (length-append, length-written fs) (omega arith) in
        let none : dimensions_of b ≡ None = simp later in
        let size : head_size (flag_of b) ≡ 7 = simp later in
        let head : ods_of b ≡ with_dimensions None = ap (λ (n : List ℕ). made n (dimensions_of b)) numbers ∙ ap (made (values fs)) none in
        let data' : ods_data b ≡ d = ap (λ (k : ℕ). drop k b) size ∙ drop_at (written fs) d 7 (length-written fs) in
        record { taken = simp (le-leb 7 (length b) long, size); same = λ i. ods (head i) (data' i) }
    go (Some dims) e =
        let fs = ods_fields (with_dimensions (Some dims)) in
        let b = written fs ++ d in
        let numbers = read-fields fs [] d 0 refl (rest-fits (dimensions_where test (Some dims)) (all_fit fs) e) in
        let flag : test ≡ true = first_fits (dimensions_where test (Some dims)) (all_fit fs) e in
        let first : is_first (fragment_of (flag_of b)) ≡ true = ap (λ (n : List ℕ). is_first (fragment_of (get_or n 2 0))) numbers ∙ flag in
        let long : 11 ≤ length b = rw (length-append, length-written fs) (omega arith) in
        let size : head_size (flag_of b) ≡ 11 = simp first in
        let both : dimensions_of b ≡ Some dims = simp first (ap (λ (n : List ℕ). Some (record { width = get_or n 4 0; height = get_or n 5 0 })) numbers) in
        let head : ods_of b ≡ with_dimensions (Some dims) = ap (λ (n : List ℕ). made n (dimensions_of b)) numbers ∙ ap (made (values fs)) both in
        let data' : ods_data b ≡ d = ap (λ (k : ℕ). drop k b) size ∙ drop_at (written fs) d 11 (length-written fs) in
        record { taken = simp (le-leb 7 (length b) (omega arith), size, le-leb 11 (length b) long); same = λ i. ods (head i) (data' i) }

-- a byte that is none of the five is an unknown kind's own
pub unknown-kind : (k : ℕ) → unknown_kind (type_of k) ≡ true → type_of k ≡ kinds.Other k
unknown-kind k q = go (type_of k) refl q (raw-type k)
  where
    go : (t : SegmentType) → type_of k ≡ t → unknown_kind t ≡ true → raw_of t ≡ k → t ≡ kinds.Other k
    go kinds.Pds e u r = let z : false ≡ true = u in cc
    go kinds.Ods e u r = let z : false ≡ true = u in cc
    go kinds.Pcs e u r = let z : false ≡ true = u in cc
    go kinds.Wds e u r = let z : false ≡ true = u in cc
    go kinds.End e u r = let z : false ≡ true = u in cc
    go (kinds.Other v) e u r = ap kinds.Other r

-- a body of any kind that can be written; an unknown kind is one of its own byte
pub read-body : (f : BodyFields) → body_writable f ≡ true → ReadBody (type_of (kind_byte f)) f
read-body (pcs p ps) e = read-pcs p ps e
read-body (wds ws) e = read-wds ws e
read-body (pds p es) e = read-pds p es e
read-body (ods o d) e = read-ods o d e
read-body end e = record { taken = refl; same = refl }
read-body (other v d) e =
    subst (λ (t : SegmentType). ReadBody t (other v d)) (sym (unknown-kind v e)) (record { taken = refl; same = refl })
