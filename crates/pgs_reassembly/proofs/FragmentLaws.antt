-- Reading the fragment of an ODS segment, and the fragments that are left in a set. Assumes nothing.
use mathlib.Core.Path.{◌≡◌, refl, sym, ap, ◌∙◌}
use mathlib.Core.Bool.{Bool, true, false}
use mathlib.Core.List.{List, [], ◌∷◌}
use Prim.Native.Nat.{ℕ, ◌+◌, ◌-◌, ◌≤◌}
use native.Mathlib.Omega.{arith}
use borrow.Author.Tests.{leb-true}
use lib.Dec.{leb}
use lib.ListN.{length, take, drop, length-drop, length-take, length-append}
use lib.Seq.{drop-drop, drop_at, length-take-le, take-add, take-take}
use Rattle.pgs_base.specs.Outcome.{accepted, Outcome, gives, refuses, outcome_of, unless, pick}
use Rattle.pgs_base.proofs.Outcomes.{gave-value, turned_down, first-accepts, second_holds, holds, not-both}
use Rattle.pgs_segment.specs.Fields.{body_verdict}
use Rattle.pgs_segment.specs.Header.{header_fields, size_of}
use Rattle.pgs_ods.specs.OdsBody.{flag_of, head_size, ods_of, ods_data, ods_list, ods_verdict}
use Rattle.pgs_segment.specs.OneSegment.{segment_type, segment_verdict, used_by, body_at}
use Rattle.pgs_stream.specs.Stream.{step_verdict}
use Rattle.pgs_segment.proofs.SegmentLaws.{accepted-body}
use Rattle.pgs_stream.proofs.StreamLaws.{step-within}
use Rattle.pgs_views.specs.declared.segment_type.SegmentType.{SegmentType}
use Rattle.pgs_views.specs.declared.segment_type.SegmentType.TheVariants.{Pds, Ods, Pcs, Wds, End, Other}
use Rattle.pgs_ods.specs.declared.ods.Ods as declared-ods
use Rattle.pgs_records.specs.declared.BodyList.{BodyList}
use Rattle.pgs_set.proofs.Choices.{pick_first, pick_second}
use Rattle.pgs_set.proofs.WalkLaws.{step-length, pieces-here, type-of-piece, piece-length, head-field, within-here}
use Rattle.pgs_reassembly.specs.Objects.{Fragment, is_ods, fragment_at, fragments_from, data_place, joined}
use Rattle.pgs_set.specs.Sets.{is_end, through_end}
use Rattle.pgs_reassembly.specs.Tables.{fragment_numbers, fragments_left, fragments_in}
use Rattle.pgs_set.specs.Walks.{pieces_at, InSet}
use Rattle.pgs_stream.specs.Segments.{placed}
use Rattle.pgs_set.specs.Segments.{set_segments}
use Rattle.pgs_stream.specs.declared.segments.PlacedSegment.{PlacedSegment}
use Rattle.pgs_set.proofs.SetLaws.{inside-here}
use Rattle.pgs_set.proofs.SegmentLaws.{Stands, by-segments, stands-end}

ods-only : (t : SegmentType) → is_ods t ≡ true → t ≡ Ods
ods-only Ods e = refl
ods-only Pcs e = cc
ods-only Wds e = cc
ods-only Pds e = cc
ods-only End e = cc
ods-only (Other v) e = cc

-- what reading a body answers
abbrev pub read_as : List ℕ → Outcome (declared-ods.Ods × BodyList)
read_as b = outcome_of (ods_verdict b) (ods_of b, ods_list b)

-- an accepted ODS segment
module _ (l : List ℕ) (ok : step_verdict l ≡ accepted) (kind : is_ods (segment_type l) ≡ true) where
  pub body-accepted : ods_verdict (body_at l) ≡ accepted
  body-accepted =
      sym (ap (λ (t : SegmentType). body_verdict t (body_at l)) (ods-only (segment_type l) kind))
      ∙ accepted-body l (first-accepts (segment_verdict l) _ ok)

  -- its numbers lie within its body
  pub numbers-within : head_size (flag_of (body_at l)) ≤ size_of l
  numbers-within =
      omega
      (arith, leb-true (head_size (flag_of (body_at l))) (length (body_at l)) (holds 4 _ (second_holds (unless 4 (leb 7 (length (body_at l)))) _ body-accepted)), length-take (size_of l) (drop 13 l))

  -- reading its body cannot be refused
  pub never-refused : {k : ℕ} → refuses k ≡ read_as (body_at l) → ⊥
  never-refused q = not-both body-accepted (turned_down (ods_verdict (body_at l)) (ods_of (body_at l), ods_list (body_at l)) q)

-- the numbers that were read, and the part of the data
pub numbers-read : (b : List ℕ) {o : declared-ods.Ods} {d : BodyList} → ◌≡◌ {A = Outcome (declared-ods.Ods × BodyList)} (gives (o, d)) (read_as b)
    → (o ≡ ods_of b) × (d ≡ ods_list b)
numbers-read b q =
    let p = gave-value (ods_verdict b) (ods_of b, ods_list b) q in
    (ap (λ (x : declared-ods.Ods × BodyList). x.0) p, ap (λ (x : declared-ods.Ods × BodyList). x.1) p)

-- the body as the code lends it
pub lent-body : (s : List ℕ) (at : ℕ) {used : ℕ} → used ≡ used_by (drop at s) → take (at + used - (at + 13)) (drop (at + 13) s) ≡ body_at (drop at s)
lent-body s at {used} e =
    let size : at + used - (at + 13) ≡ size_of (drop at s) = omega arith in
    (λ j. take (size j) (sym (drop-drop 13 at s) j))

-- of a segment that stands in the stream
pub body-lent : {s : List ℕ} {x : PlacedSegment} → Stands s x → take (x.end - (x.at + 13)) (drop (x.at + 13) s) ≡ body_at (drop x.at s)
body-lent {s} {x} st = rw (stands-end st) (lent-body s x.at refl)

-- the numbers that were read are the fragment's
pub head_read : (at : ℕ) (l : List ℕ) {o : declared-ods.Ods} {d : BodyList} → (o ≡ ods_of (body_at l)) × (d ≡ ods_list (body_at l))
    → record { place = at; ods = o; start = at + 13 + d.start; len = d.len } ≡ fragment_numbers (fragment_at at l)
head_read at l p =
    λ j.
    record {
      place = at;
      ods = p.0 j;
      start = at + 13 + (p.1 j).start;
      len = (ap (λ (x : BodyList). x.len) p.1 ∙ sym (length-drop (head_size (flag_of (body_at l))) (body_at l))) j;
    }

-- the data of a fragment is shorter than its segment
pub bytes-within : (at : ℕ) (l : List ℕ) → step_verdict l ≡ accepted → is_ods (segment_type l) ≡ true → length (fragment_at at l).bytes ≤ used_by l
bytes-within at l ok kind = omega (arith, length-drop (head_size (flag_of (body_at l))) (body_at l), length-take (size_of l) (drop 13 l))

-- a segment's body is in its own bytes
body-of-piece : (l : List ℕ) → step_verdict l ≡ accepted → body_at (take (used_by l) l) ≡ body_at l
body-of-piece l ok =
    (λ j. take (head-field 2 11 l ok (omega arith) j) (behind j)) ∙ take-take (size_of l) (size_of l) (drop 13 l) (omega arith)
  where
    behind : drop 13 (take (used_by l) l) ≡ take (size_of l) (drop 13 l)
    behind = ap (drop 13) (take-add 13 (size_of l) l) ∙ drop_at (take 13 l) (take (size_of l) (drop 13 l)) 13 (length-take-le 13 l (step-length l ok))

-- the fragments that are left, by the next segment
pub fragments-here : (s : List ℕ) (at : ℕ) → step_verdict (drop at s) ≡ accepted
    → fragments_left s at
    ≡ pick (is_ods (segment_type (drop at s))) (fragment_at at (drop at s) ∷ pick (is_end (segment_type (drop at s))) [] (fragments_left s (at + used_by (drop at s))))
    (pick (is_end (segment_type (drop at s))) [] (fragments_left s (at + used_by (drop at s))))
fragments-here s at ok =
    ap (λ (xs : List (List ℕ)). fragments_from at (through_end xs)) (pieces-here s at ok)
    ∙ (λ j.
    pick (is_ods (type-of-piece (drop at s) ok j)) (piece j ∷ fragments_from (at + piece-length (drop at s) ok j) (after j)) (fragments_from (at + piece-length (drop at s) ok j) (after j)))
    ∙ ap (λ (l : List Fragment). pick (is_ods (segment_type (drop at s))) (fragment_at at (drop at s) ∷ l) l) (parts (is_end (segment_type (drop at s))))
  where
    piece : fragment_at at (take (used_by (drop at s)) (drop at s)) ≡ fragment_at at (drop at s)
    piece = λ j. record { place = at; ods = ods_of (body-of-piece (drop at s) ok j); bytes = ods_data (body-of-piece (drop at s) ok j) }

    after : pick (is_end (segment_type (take (used_by (drop at s)) (drop at s)))) [] (through_end (pieces_at s (at + used_by (drop at s))))
        ≡ pick (is_end (segment_type (drop at s))) [] (through_end (pieces_at s (at + used_by (drop at s))))
    after = ap (λ (t : SegmentType). pick (is_end t) [] (through_end (pieces_at s (at + used_by (drop at s))))) (type-of-piece (drop at s) ok)

    parts : (b : Bool) → fragments_from (at + used_by (drop at s)) (pick b [] (through_end (pieces_at s (at + used_by (drop at s))))) ≡ pick b [] (fragments_left s (at + used_by (drop at s)))
    parts true = refl
    parts false = refl

module _ (s : List ℕ) (at : ℕ) (ok : step_verdict (drop at s) ≡ accepted) where
  -- none is left at the END
  pub none_left : is_end (segment_type (drop at s)) ≡ true → fragments_left s at ≡ []
  none_left e = fragments-here s at ok ∙ go (segment_type (drop at s)) e
    where
      go : (k : SegmentType) → is_end k ≡ true
          → pick (is_ods k) (fragment_at at (drop at s) ∷ pick (is_end k) [] (fragments_left s (at + used_by (drop at s))))
          (pick (is_end k) [] (fragments_left s (at + used_by (drop at s)))) ≡ []
      go Pcs z = cc
      go Wds z = cc
      go Pds z = cc
      go Ods z = cc
      go End z = refl
      go (Other v) z = cc

  -- before it, the segment's own if it is an ODS, and those after it
  left-on : is_end (segment_type (drop at s)) ≡ false
      → fragments_left s at ≡ pick (is_ods (segment_type (drop at s))) (fragment_at at (drop at s) ∷ fragments_left s (at + used_by (drop at s))) (fragments_left s (at + used_by (drop at s)))
  left-on e =
      fragments-here s at ok
      ∙ ap (λ (l : List Fragment). pick (is_ods (segment_type (drop at s))) (fragment_at at (drop at s) ∷ l) l) (pick_second [] (fragments_left s (at + used_by (drop at s))) e)

  pub left-same : is_end (segment_type (drop at s)) ≡ false → is_ods (segment_type (drop at s)) ≡ false → fragments_left s at ≡ fragments_left s (at + used_by (drop at s))
  left-same e k = left-on e ∙ pick_second _ _ k

  pub left-next : is_end (segment_type (drop at s)) ≡ false → is_ods (segment_type (drop at s)) ≡ true
      → fragments_left s at ≡ fragment_at at (drop at s) ∷ fragments_left s (at + used_by (drop at s))
  left-next e k = left-on e ∙ pick_first _ _ k

  -- the data is the part of the stream at its place
  module _ (kind : is_ods (segment_type (drop at s)) ≡ true) where
    pub data-length : length (fragment_at at (drop at s)).bytes + head_size (flag_of (body_at (drop at s))) ≡ size_of (drop at s)
    data-length =
        omega (
          arith,
          length-drop (head_size (flag_of (body_at (drop at s)))) (body_at (drop at s)),
          length-take (size_of (drop at s)) (drop 13 (drop at s)),
          length-drop 13 (drop at s),
          step-within (drop at s) ok,
          numbers-within (drop at s) ok kind,
        )

    pub data-within : data_place (fragment_at at (drop at s)) + length (fragment_at at (drop at s)).bytes ≤ length s
    data-within = omega (arith, data-length, within-here s at ok)

    pub data-part : take (length (fragment_at at (drop at s)).bytes) (drop (data_place (fragment_at at (drop at s))) s) ≡ (fragment_at at (drop at s)).bytes
    data-part =
        ap (take m) (sym (drop-drop h (at + 13) s) ∙ ap (drop h) (sym (drop-drop 13 at s)))
        ∙ sym (drop_of_take h m (drop 13 (drop at s)) (omega (arith, data-length, length-drop 13 (drop at s), step-within (drop at s) ok)))
        ∙ ap (λ (n : ℕ). drop h (take n (drop 13 (drop at s)))) size
      where
        h : ℕ
        h = head_size (flag_of (body_at (drop at s)))

        m : ℕ
        m = length (fragment_at at (drop at s)).bytes

        size : h + m ≡ size_of (drop at s)
        size = omega (arith, data-length)

        drop_of_take : (a b : ℕ) (xs : List ℕ) → a + b ≤ length xs → drop a (take (a + b) xs) ≡ take b (drop a xs)
        drop_of_take a b xs q = ap (drop a) (take-add a b xs) ∙ drop_at (take a xs) (take b (drop a xs)) a (length-take-le a xs (omega arith))

-- over the segments of an open set
module _ (s : List ℕ) {at : ℕ} (i : InSet s at) where
  -- the fragments are those in its segments
  pub in-segments : fragments_left s at ≡ fragments_in s (set_segments s at)
  in-segments =
      by-segments s (λ (p : ℕ) (xs : List PlacedSegment). fragments_left s p ≡ fragments_in s xs) last more at i
    where
      last : (p : ℕ) → InSet s p → is_end (segment_type (drop p s)) ≡ true
          → fragments_left s p ≡ fragments_in s (placed p (header_fields (drop p s)) ∷ [])
      last p k e = none_left s p (inside-here s k) e ∙ sym (no-fragment (segment_type (drop p s)) e)
        where
          no-fragment : (t : SegmentType) → is_end t ≡ true → pick (is_ods t) (fragment_at p (drop p s) ∷ []) [] ≡ []
          no-fragment Pcs z = cc
          no-fragment Wds z = cc
          no-fragment Pds z = cc
          no-fragment Ods z = cc
          no-fragment End z = refl
          no-fragment (Other v) z = cc

      more : (p : ℕ) → InSet s p → is_end (segment_type (drop p s)) ≡ false
          → fragments_left s (p + used_by (drop p s)) ≡ fragments_in s (set_segments s (p + used_by (drop p s)))
          → fragments_left s p ≡ fragments_in s (placed p (header_fields (drop p s)) ∷ set_segments s (p + used_by (drop p s)))
      more p k e on =
          left-on s p (inside-here s k) e
          ∙ ap (λ (l : List Fragment). pick (is_ods (segment_type (drop p s))) (fragment_at p (drop p s) ∷ l) l) on

  -- their data together is no longer than the stream
  pub bytes-left : length (joined (fragments_left s at)) ≤ length s - at
  bytes-left =
      by-segments s (λ (p : ℕ) (xs : List PlacedSegment). length (joined (fragments_left s p)) ≤ length s - p) last more at i
    where
      last : (p : ℕ) → InSet s p → is_end (segment_type (drop p s)) ≡ true → length (joined (fragments_left s p)) ≤ length s - p
      last p k e = rw (none_left s p (inside-here s k) e) (omega arith)

      more : (p : ℕ) → InSet s p → is_end (segment_type (drop p s)) ≡ false
          → length (joined (fragments_left s (p + used_by (drop p s)))) ≤ length s - (p + used_by (drop p s))
          → length (joined (fragments_left s p)) ≤ length s - p
      more p k e on = go (is_ods (segment_type (drop p s))) refl
        where
          go : (b : Bool) → is_ods (segment_type (drop p s)) ≡ b → length (joined (fragments_left s p)) ≤ length s - p
          go false q = rw (left-same s p (inside-here s k) e q) (omega (arith, on))
          go true q =
              rw (left-next s p (inside-here s k) e q, length-append)
              (omega (arith, on, bytes-within p (drop p s) (inside-here s k) q, within-here s p (inside-here s k)))
