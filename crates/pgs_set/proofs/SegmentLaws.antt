-- The segments of an open set as a list: each stands in the stream, and the last ends where the set does. Assumes nothing.
use mathlib.Core.Path.{◌≡◌, refl, sym, ap, ◌∙◌}
use mathlib.Core.Bool.{Bool, true, false}
use mathlib.Core.List.{List, [], ◌∷◌}
use Prim.Native.Nat.{ℕ, zero, suc, ◌+◌, ◌≤◌}
use native.Mathlib.Omega.{arith}
use lib.ListN.{length, drop}
use Rattle.pgs_base.specs.Outcome.{accepted, pick}
use Rattle.pgs_segment.specs.Header.{header_fields}
use Rattle.pgs_segment.specs.OneSegment.{segment_type, used_by}
use Rattle.pgs_segment.specs.declared.header.SegmentHeader.{SegmentHeader}
use Rattle.pgs_stream.specs.Stream.{step_verdict, records_from}
use Rattle.pgs_views.specs.Kinds.{type_of}
use Rattle.pgs_views.specs.declared.segment_type.SegmentType.{SegmentType}
use Rattle.pgs_set.proofs.SetLaws.{Passing, passing, passes_on, passed, inside_on, inside-here, inside-more, kind-read}
use Rattle.pgs_set.proofs.WalkLaws.{pieces-here, piece-head, piece-length, type-of-piece, within-here}
use Rattle.pgs_set.specs.Sets.{is_end, through_end}
use Rattle.pgs_set.specs.Walks.{pieces_at, InSet, Ends}
use Rattle.pgs_stream.specs.Segments.{placed}
use Rattle.pgs_set.specs.Segments.{set_segments}
use Rattle.pgs_stream.specs.declared.segments.PlacedSegment.{PlacedSegment}

-- the next segment of a set, and those behind it
module _ (s : List ℕ) (at : ℕ) (ok : step_verdict (drop at s) ≡ accepted) where
  segments-here : set_segments s at
      ≡ placed at (header_fields (drop at s)) ∷ pick (is_end (segment_type (drop at s))) [] (set_segments s (at + used_by (drop at s)))
  segments-here =
      ap (λ (xs : List (List ℕ)). records_from placed at (through_end xs)) (pieces-here s at ok)
      ∙ (λ j. placed at (piece-head (drop at s) ok j)
      ∷ records_from placed (at + piece-length (drop at s) ok j)
      (pick (is_end (type-of-piece (drop at s) ok j)) [] (through_end (pieces_at s (at + used_by (drop at s))))))
      ∙ go (is_end (segment_type (drop at s)))
    where
      go : (b : Bool)
          → placed at (header_fields (drop at s)) ∷ records_from placed (at + used_by (drop at s)) (pick b [] (through_end (pieces_at s (at + used_by (drop at s)))))
          ≡ placed at (header_fields (drop at s)) ∷ pick b [] (set_segments s (at + used_by (drop at s)))
      go true = refl
      go false = refl

  pub here-last : is_end (segment_type (drop at s)) ≡ true → set_segments s at ≡ placed at (header_fields (drop at s)) ∷ []
  here-last e =
      segments-here
      ∙ ap (λ (b : Bool). placed at (header_fields (drop at s)) ∷ pick b [] (set_segments s (at + used_by (drop at s)))) e

  pub here-more : is_end (segment_type (drop at s)) ≡ false
      → set_segments s at ≡ placed at (header_fields (drop at s)) ∷ set_segments s (at + used_by (drop at s))
  here-more e =
      segments-here
      ∙ ap (λ (b : Bool). placed at (header_fields (drop at s)) ∷ pick b [] (set_segments s (at + used_by (drop at s)))) e

-- by the segment that was read
module _ (s : List ℕ) {at : ℕ} (i : InSet s at) {x : PlacedSegment} {t : SegmentType} {b : Bool}
    (e : x ≡ placed at (header_fields (drop at s))) (q : t ≡ type_of x.header.segment_type) (r : b ≡ is_end t) where
  its-end : is_end (segment_type (drop at s)) ≡ b
  its-end = sym (r ∙ ap is_end (kind-read (drop at s) (ap (λ (y : PlacedSegment). y.header) e) q))

  pub first-last : b ≡ true → set_segments s at ≡ x ∷ []
  first-last f = rw e (here-last s at (inside-here s i) (its-end ∙ f))

  pub first-more : b ≡ false → set_segments s at ≡ x ∷ set_segments s x.end
  first-more f = rw e (here-more s at (inside-here s i) (its-end ∙ f))

  pub opens-on : b ≡ false → InSet s x.end
  opens-on f = rw e (inside_on s i (its-end ∙ f))

-- this segment stands in the stream
pub record Stands (s : List ℕ) (x : PlacedSegment) : Type 0 where
  pub step : step_verdict (drop x.at s) ≡ accepted
  pub its : x ≡ placed x.at (header_fields (drop x.at s))

-- each of these does
abbrev pub AllStand : List ℕ → List PlacedSegment → Type 0
AllStand s [] = Unit {0}
AllStand s (x ∷ xs) = Stands s x × AllStand s xs

-- the place behind segments that begin at a place
abbrev pub behind : ℕ → List PlacedSegment → ℕ
behind at [] = at
behind at (x ∷ xs) = behind x.end xs

-- what a segment that stands is
module _ {s : List ℕ} {x : PlacedSegment} (st : Stands s x) where
  pub stands-head : x.header ≡ header_fields (drop x.at s)
  stands-head = ap (λ (y : PlacedSegment). y.header) st.its

  pub stands-end : x.end ≡ x.at + used_by (drop x.at s)
  stands-end = ap (λ (y : PlacedSegment). y.end) st.its

  pub stands-within : x.end ≤ length s
  stands-within = omega (arith, stands-end, within-here s x.at st.step)

  pub stands-kind : type_of x.header.segment_type ≡ segment_type (drop x.at s)
  stands-kind = ap (λ (h : SegmentHeader). type_of h.segment_type) stands-head

-- what holds of the last segment of a set, and of a segment where it holds of those behind it, holds of the segments of an open set
module _ (s : List ℕ) (P : ℕ → List PlacedSegment → Type 0)
    (last : (at : ℕ) → InSet s at → is_end (segment_type (drop at s)) ≡ true → P at (placed at (header_fields (drop at s)) ∷ []))
    (more : (at : ℕ) → InSet s at → is_end (segment_type (drop at s)) ≡ false
    → P (at + used_by (drop at s)) (set_segments s (at + used_by (drop at s)))
    → P at (placed at (header_fields (drop at s)) ∷ set_segments s (at + used_by (drop at s)))) where
  -- the segments in n bytes
  by-bytes : (n at : ℕ) → InSet s at → length s ≤ at + n → P at (set_segments s at)
  by-bytes zero at i h = absurd (omega (arith, inside-more s i))
  by-bytes (suc n) at i h =
      go (is_end (segment_type (drop at s))) refl
      (λ (j : InSet s (at + used_by (drop at s))) (k : length s ≤ at + used_by (drop at s) + n). by-bytes n (at + used_by (drop at s)) j k)
    where
      go : (b : Bool) → is_end (segment_type (drop at s)) ≡ b
          → (InSet s (at + used_by (drop at s)) → length s ≤ at + used_by (drop at s) + n → P (at + used_by (drop at s)) (set_segments s (at + used_by (drop at s))))
          → P at (set_segments s at)
      go true e on = rw (here-last s at (inside-here s i) e) (last at i e)
      go false e on = rw (here-more s at (inside-here s i) e) (more at i e (on (inside_on s i e) (omega arith)))

  pub by-segments : (at : ℕ) → InSet s at → P at (set_segments s at)
  by-segments at i = by-bytes (length s) at i (omega arith)

module _ (s : List ℕ) {at : ℕ} (i : InSet s at) where
  -- a segment of an open set stands in the stream
  stands-here : (p : ℕ) → InSet s p → Stands s (placed p (header_fields (drop p s)))
  stands-here p k = record { step = inside-here s k; its = refl }

  -- all of them do
  pub segments-stand : AllStand s (set_segments s at)
  segments-stand = by-segments s (λ (p : ℕ) (xs : List PlacedSegment). AllStand s xs) (λ p k e. (stands-here p k, tt)) (λ p k e on. (stands-here p k, on)) at i

  -- and they end where the set does
  pub segments-end : Ends s at (behind at (set_segments s at))
  segments-end =
      by-segments s (λ (p : ℕ) (xs : List PlacedSegment). Passing s at p → Ends s at (behind p xs))
      (λ p k e q. passed s q e) (λ p k e on q. on (passes_on s q e)) at i (passing s i)
