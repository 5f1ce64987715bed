-- What an iterator over the segments of a stream has left: at the end nothing, else the segment at its place and those behind it.
-- Assumes nothing.
use mathlib.Core.Path.{◌≡◌, refl, sym, ap, ◌∙◌}
use mathlib.Core.List.{List, [], ◌∷◌, map}
use Prim.Native.Nat.{ℕ, ◌+◌, ◌≤◌, ◌<◌}
use native.Mathlib.Omega.{arith}
use lib.ListN.{length, take, drop, length-drop}
use lib.Seq.{drop-drop, length-take-le}
use Rattle.pgs_base.specs.Outcome.{accepted}
use Rattle.pgs_base.proofs.Outcomes.{not-both, not-refused}
use Rattle.pgs_segment.specs.Header.{header_fields}
use Rattle.pgs_segment.specs.OneSegment.{used_by}
use Rattle.pgs_stream.specs.Stream.{Reading, step_verdict, before, read_of, stopped_by, stream_verdict, records_from, records_of}
use Rattle.pgs_stream.specs.Segments.{placed, of_placed, segments_from}
use Rattle.pgs_stream.specs.declared.segments.PlacedSegment.{PlacedSegment}
use Rattle.pgs_stream.proofs.StreamLaws.{step-within, read-on, read-stops, stopped-at, piece-head}

-- past the end nothing is left
pub none-left : (s : List ℕ) (at : ℕ) → length s ≤ at → segments_from s at ≡ []
none-left s at h = go (drop at s) (rw length-drop (omega arith))
  where
    go : (l : List ℕ) → length l ≡ 0 → records_from placed at (read_of l).pieces ≡ []
    go [] e = ap (λ (x : Reading). records_from placed at x.pieces) (read-stops [] refl)
    go (x ∷ l) e = absurd (omega arith)

-- before the end an accepted segment stands at the place
module _ (s : List ℕ) {at : ℕ} (good : stream_verdict (drop at s) ≡ accepted) (h : at < length s) where
  ok : step_verdict (drop at s) ≡ accepted
  ok =
      not-refused (step_verdict (drop at s))
      (λ k e. not-both good
      (ap (λ (x : Reading). stopped_by x.rest) (read-stops (drop at s) e) ∙ (stopped-at (drop at s) (rw length-drop (omega arith)) ∙ e)))

  on : read_of (drop at s) ≡ before (take (used_by (drop at s)) (drop at s)) (read_of (drop (at + used_by (drop at s)) s))
  on = rw (← drop-drop (used_by (drop at s)) at s) (read-on (drop at s) ok)

  -- the stream is accepted behind it
  pub good-on : stream_verdict (drop (at + used_by (drop at s)) s) ≡ accepted
  good-on = sym (ap (λ (x : Reading). stopped_by x.rest) on) ∙ good

  -- it is the first that is left
  pub first-left : segments_from s at ≡ placed at (header_fields (drop at s)) ∷ segments_from s (at + used_by (drop at s))
  first-left =
      ap (λ (x : Reading). records_from placed at x.pieces) on
      ∙ (λ j. placed at (piece-head (drop at s) ok j)
      ∷ records_from placed (at + length-take-le (used_by (drop at s)) (drop at s) (step-within (drop at s) ok) j)
      (read_of (drop (at + used_by (drop at s)) s)).pieces)

-- the records of the segments of a whole stream are those of the stream
pub placed-records : {A : Type 0} (made : PlacedSegment → A) (s : List ℕ) → map made (segments_from s 0) ≡ records_of (of_placed made) s
unfolding records_of
placed-records made s = go 0 (read_of s).pieces
  where
    go : (at : ℕ) (xs : List (List ℕ)) → map made (records_from placed at xs) ≡ records_from (of_placed made) at xs
    go at [] = refl
    go at (x ∷ xs) = ap (λ (rs : List _). of_placed made at (header_fields x) ∷ rs) (go (at + length x) xs)
