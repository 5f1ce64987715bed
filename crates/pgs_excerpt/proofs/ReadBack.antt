-- Whole segments, end to end, are read back as they are. Assumes nothing.
use mathlib.Core.Path.{◌≡◌, refl, sym, ap, ◌∙◌}
use mathlib.Core.Bool.{true}
use mathlib.Core.List.{List, [], ◌∷◌, ◌++◌}
use Prim.Native.Nat.{ℕ, ◌+◌, ◌≤◌}
use native.Mathlib.Omega.{arith}
use borrow.Author.Tests.{le-leb}
use lib.ListN.{length, take, drop, length-append, length-drop, get_or-append}
use lib.Seq.{take_at, drop_at, take-append-le, drop-append-le}
use Rattle.pgs_base.specs.Bytes.{num}
use Rattle.pgs_views.specs.Kinds.{type_of}
use Rattle.pgs_base.specs.Outcome.{accepted}
use Rattle.pgs_base.proofs.Bytes.{num-append}
use Rattle.pgs_segment.specs.Fields.{body_verdict}
use Rattle.pgs_segment.specs.Header.{marked, size_of}
use Rattle.pgs_segment.specs.OneSegment.{segment_type, used_by, body_at, segment_verdict}
use Rattle.pgs_stream.specs.Stream.{before, read_of, joined}
use Rattle.pgs_stream.proofs.ReadingLaws.{Each, Whole}
use Rattle.pgs_segment.proofs.SegmentLaws.{has-header, accepted-head, accepted-body, accepted-mark}
use Rattle.pgs_stream.proofs.StreamLaws.{read-on, read-stops, step-accepted}

-- a whole segment before other bytes
module _ (x r : List ℕ) (w : Whole x) where
  long : 13 ≤ length x
  long = has-header x (accepted-head x w.step)

  field : (k p : ℕ) → p + k ≤ 13 → num k p (x ++ r) ≡ num k p x
  field k p h = num-append k p x r (omega (arith, long))

  used-before : used_by (x ++ r) ≡ length x
  used-before = ap (λ (k : ℕ). 13 + k) (field 2 11 (omega arith)) ∙ w.used

  piece-before : take (used_by (x ++ r)) (x ++ r) ≡ x
  piece-before = take_at x r (used_by (x ++ r)) (sym used-before)

  rest-before : drop (used_by (x ++ r)) (x ++ r) ≡ r
  rest-before = drop_at x r (used_by (x ++ r)) (sym used-before)

  type-before : segment_type (x ++ r) ≡ segment_type x
  type-before = ap type_of (field 1 10 (omega arith))

  body-before : body_at (x ++ r) ≡ body_at x
  body-before =
      (λ i. take (field 2 11 (omega arith) i) (drop-append-le 13 x r long i))
      ∙ take-append-le (size_of x) (drop 13 x) r (rw length-drop (omega (arith, w.used)))

  mark-before : marked (x ++ r) ≡ true
  mark-before = rw (get_or-append x r 0 0 (omega (arith, long)), get_or-append x r 0 1 (omega (arith, long))) (accepted-mark x (accepted-head x w.step))

  verdict-before : segment_verdict (x ++ r) ≡ accepted
  verdict-before =
      let size = length-append x r in
      simp (le-leb 13 (length (x ++ r)) (omega (arith, size, long)), mark-before, le-leb (used_by (x ++ r)) (length (x ++ r)) (omega (arith, size, used-before)))
      ((λ i. body_verdict (type-before i) (body-before i)) ∙ accepted-body x w.step)

  read-before : read_of (x ++ r) ≡ before x (read_of r)
  read-before =
      read-on (x ++ r) (step-accepted (x ++ r) verdict-before) ∙ (λ i. before (piece-before i) (read_of (rest-before i)))

pub read_back : (xs : List (List ℕ)) → Each Whole xs → read_of (joined xs) ≡ record { pieces = xs; rest = [] }
read_back [] w = read-stops [] refl
read_back (x ∷ xs) w = read-before x (joined xs) w.0 ∙ ap (before x) (read_back xs w.1)
