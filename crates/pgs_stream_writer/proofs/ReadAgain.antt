-- A list that a reading filled and a writer gets: it stands for what was read. Assumes nothing.
use Rattle.pgs_pcs.specs.declared.pcs.CompositionObjectCrop.{CompositionObjectCrop}
use Rattle.std.specs.Prelude.{Option, None, Some}
use mathlib.Core.Path.{◌≡◌, refl, sym, ap, ◌∙◌}
use mathlib.Core.Bool.{Bool, true, false}
use mathlib.Core.List.{List, [], ◌∷◌, ◌++◌, map}
use Prim.Native.Nat.{ℕ, ◌≤◌}
use native.Mathlib.Omega.{arith}
use borrow.Author.Tests.{le-leb}
use lib.ListN.{length, take, drop, length-append, length-map}
use lib.Seq.{take_at}
use Rattle.pgs_base.specs.Outcome.{Verdict, accepted, Outcome, gives, refuses, unless, laid, Delivered, pick}
use Rattle.pgs_base.proofs.Outcomes.{not-both, delivered, delivered-refusal, delivered-value}
use Rattle.pgs_views.specs.declared.segment_type.SegmentType.TheVariants as kinds
use Rattle.pgs_segment.specs.Fields.{pcs, wds, pds, SegmentFields}
use Rattle.pgs_pcs.specs.PcsBody.{placement_of, placement_size, placement_row, placement_rows, placement_count, placements_of, pcs_of}
use Rattle.pgs_pds.specs.PdsBody.{entry_row, entries_of, entry_rows, pds_of}
use Rattle.pgs_wds.specs.WdsBody.{window_of, window_size, window_row, window_count, windows_of, window_rows}
use Rattle.pgs_pcs.specs.declared.pcs.CompositionObject.{CompositionObject}
use Rattle.pgs_pcs.specs.declared.pcs.Pcs.{Pcs}
use Rattle.pgs_pds.specs.declared.pds.Pds.{Pds}
use Rattle.pgs_pcs.proofs.PcsLaws.{crop-back}
use Rattle.pgs_records.proofs.RecordLaws.{records-length}
use Rattle.pgs_encoding.specs.Encode.{encode}
use Rattle.pgs_writer_base.specs.declared.head.Timestamps.{Timestamps}
use Rattle.pgs_writer_base.specs.Kinds.{wds_segment, pds_segment, pcs_segment, pcs_rows_writable, segment_with}
use Rattle.pgs_encoding.specs.Layout.{each}
use Rattle.pgs_writer_base.specs.Rows.{window_from, entry_from, placement_from, mark_fits}
use Rattle.pgs_encoding.specs.Writable.{writable}

-- records and back
back-again : {A : Type 0} (row : A → List ℕ) (back : List ℕ → A) → ((a : A) → back (row a) ≡ a) → (xs : List A) → map back (map row xs) ≡ xs
back-again row back h [] = refl
back-again row back h (x ∷ xs) = let e = h x in let r = back-again row back h xs in λ i. e i ∷ r i

-- a body whose reading gives x, which says how many records it has, and lists them: their rows stand for them again, and what is
-- written of x and rows that do are the fields f
pub record ReadList {A X : Type 0} (row : A → List ℕ) (back : List ℕ → A) (count : X → ℕ) (made : X → List (List ℕ) → SegmentFields)
    (x : X) (xs : List A) (rows : List (List ℕ)) (f : SegmentFields) : Type 0 where
  pub are : rows ≡ map row xs
  pub again : (a : A) → back (row a) ≡ a
  pub many : count x ≡ length xs
  pub fields : (rs : List (List ℕ)) → map back rs ≡ xs → made x rs ≡ f

module _ {A X : Type 0} {row : A → List ℕ} {back : List ℕ → A} {count : X → ℕ} {made : X → List (List ℕ) → SegmentFields} {x : X}
    {xs : List A} {rows : List (List ℕ)} {f : SegmentFields} (l : ReadList row back count made x xs rows f) {v : Verdict} {before after : List (List ℕ)} where
  -- with room for all, an accepted body is not refused
  pub never-refused : v ≡ accepted → count x ≤ length before → {k : ℕ} → Delivered v x rows before after (refuses k) → ⊥
  never-refused e h {k} d =
      let as_many : length rows ≡ length xs = ap length l.are ∙ length-map xs row in
      not-both (simp (e, le-leb (length rows) (length before) (omega (arith, l.many)))) (delivered-refusal d)

  module _ {y : X} (d : Delivered v x rows before after (gives y)) where
    many-read : count y ≡ length xs
    many-read = ap count (delivered-value d) ∙ l.many

    filled : after ≡ map row xs ++ drop (length rows) before
    filled = d.written ∙ (ap (λ (w : Verdict). laid w rows before) (delivered d) ∙ ap (λ (r : List (List ℕ)). r ++ drop (length rows) before) l.are)

    pub room : count y ≤ length after
    room = rw (filled, length-append, length-map) (omega (arith, many-read))

    -- the records that were stored
    pub front : take (count y) after ≡ map row xs
    front = ap (take (count y)) filled ∙ take_at (map row xs) (drop (length rows) before) (count y) (length-map xs row ∙ sym many-read)

    pub front_length : count y ≡ length (take (count y) after)
    front_length = many-read ∙ sym (ap length front ∙ length-map xs row)

    -- written again, they are the same fields
    pub written-again : made y (take (count y) after) ≡ f
    written-again =
        ap (λ (z : X). made z (take (count y) after)) (delivered-value d)
        ∙ l.fields (take (count y) after) (ap (map back) front ∙ back-again row back l.again xs)

-- a write of the same fields
pub same_write : {f g : SegmentFields} {before after : List ℕ} {a : Outcome ℕ} → f ≡ g
    → Delivered (unless 35 (writable f)) (length (encode f)) (encode f) before after a → Delivered (unless 35 (writable g)) (length (encode g)) (encode g) before after a
same_write e d = rw e at d

-- a row stands for its placement
placement-back : (p : CompositionObject) → placement_from (placement_row p) ≡ p
placement-back p = ap (λ (c : Option CompositionObjectCrop). record {
  object_id = p.object_id;
  window_id = p.window_id;
  object_cropped_flag = p.object_cropped_flag;
  object_horizontal_position = p.object_horizontal_position;
  object_vertical_position = p.object_vertical_position;
  cropping = c;
}) (crop-back p.object_id p.window_id p.object_cropped_flag p.object_horizontal_position p.object_vertical_position p.cropping)

-- the mark of a crop is 0 or 1
marks-fit : (ps : List CompositionObject) → each mark_fits (map placement_row ps) ≡ true
marks-fit [] = refl
marks-fit (p ∷ ps) = simp (one p.cropping refl) (marks-fit ps)
  where
    one : (c : Option CompositionObjectCrop) → p.cropping ≡ c → mark_fits (placement_row p) ≡ true
    one None e = rw e
    one (Some c) e = rw e

pub marked : (t : Timestamps) (n : Pcs) (ps : List CompositionObject) {rows : List (List ℕ)} → rows ≡ map placement_row ps
    → pcs_rows_writable t.pts t.dts n rows ≡ writable (pcs_segment t.pts t.dts n rows)
marked t n ps {rows} e = ap (λ (u : Bool). pick u (writable (pcs_segment t.pts t.dts n rows)) false) (ap (each mark_fits) e ∙ marks-fit ps)

module _ (t : Timestamps) (b : List ℕ) where
  -- the lists of a body
  pub windows-read : ReadList window_row window_from (λ n. n) (λ n rows. wds_segment t.pts t.dts rows) (window_count b) (windows_of b) (window_rows b)
      (segment_with t.pts t.dts kinds.Wds b)
  unfolding window_rows
  windows-read =
      record {
        are = refl;
        again = λ w. refl;
        many = sym (records-length window_of window_size (window_count b) (drop 1 b));
        fields = λ rows e i. record { pts = t.pts; dts = t.dts; body = wds (e i) };
      }

  -- the entries as they are lent stand for what was read
  pub entries-again : {p : Pds} {rows : List (List ℕ)} → p ≡ pds_of b → rows ≡ entry_rows b
      → pds_segment t.pts t.dts p rows ≡ segment_with t.pts t.dts kinds.Pds b
  unfolding entry_rows
  entries-again q e =
      let again = ap (map entry_from) e ∙ back-again entry_row entry_from (λ x. refl) (entries_of b) in
      λ i. record { pts = t.pts; dts = t.dts; body = pds (q i) (again i) }

  pub placements-read : ReadList placement_row placement_from (λ (x : Pcs × ℕ). x.1) (λ x rows. pcs_segment t.pts t.dts x.0 rows) (pcs_of b, placement_count b)
      (placements_of b) (placement_rows b) (segment_with t.pts t.dts kinds.Pcs b)
  unfolding placement_rows
  placements-read =
      record {
        are = refl;
        again = placement-back;
        many = sym (records-length placement_of placement_size (placement_count b) (drop 11 b));
        fields = λ rows e i. record { pts = t.pts; dts = t.dts; body = pcs (pcs_of b) (e i) };
      }
