-- How many sets a stream can have: each takes 37 bytes at least, a PCS of 24 and an END of 13. Assumes nothing.
use mathlib.Core.Path.{◌≡◌, refl, sym, ap, ◌∙◌}
use mathlib.Core.Bool.{true, false}
use mathlib.Core.List.{List, [], ◌∷◌}
use Prim.Native.Nat.{ℕ, ◌+◌, ◌*◌, ◌≤◌}
use native.Mathlib.Omega.{arith}
use borrow.Author.Tests.{leb-true}
use lib.Dec.{leb}
use lib.ListN.{length, drop, length-append, length-take}
use Rattle.pgs_base.specs.Outcome.{accepted, and_then, pick}
use Rattle.pgs_base.proofs.Outcomes.{first_holds, second_holds}
use Rattle.pgs_segment.specs.Fields.{body_verdict}
use Rattle.pgs_segment.specs.Header.{size_of}
use Rattle.pgs_segment.specs.OneSegment.{segment_type, body_at}
use Rattle.pgs_stream.specs.Stream.{read_of, stream_verdict, joined}
use Rattle.pgs_stream.proofs.ReadingLaws.{Each, Whole, pieces_whole, pieces-joined}
use Rattle.pgs_segment.proofs.SegmentLaws.{accepted-body}
use Rattle.pgs_set.specs.Sets.{group_verdict, kind_verdict, state_after, is_pcs, through_end, bytes_in, sets_from, sets_of, set_count, sets_verdict}
use Rattle.pgs_views.specs.declared.segment_type.SegmentType.{SegmentType}
use Rattle.pgs_views.specs.declared.segment_type.SegmentType.TheVariants.{Pds, Ods, Pcs, Wds, End, Other}
use Rattle.pgs_set.specs.declared.grouping.Grouping.{Grouping}
use Rattle.pgs_set.specs.declared.grouping.Grouping.TheVariants.{Outside, Inside}

-- what the set that is open takes yet: its END
ending : Grouping → ℕ
ending Outside = 0
ending (Inside w) = 13

whole_long : (x : List ℕ) → Whole x → 13 ≤ length x
whole_long x w = omega (arith, w.used)

pcs-long : (x : List ℕ) → Whole x → segment_type x ≡ Pcs → 24 ≤ length x
pcs-long x w t =
    let body : body_verdict Pcs (body_at x) ≡ accepted = ap (λ (k : SegmentType). body_verdict k (body_at x)) (sym t) ∙ accepted-body x w.step in
    omega (arith, w.used, leb-true 11 (length (body_at x)) (first_holds 4 (leb 11 (length (body_at x))) _ body), length-take (size_of x) (drop 13 x))

room : (g : Grouping) (at : ℕ) (xs : List (List ℕ)) → Each Whole xs → group_verdict g xs ≡ accepted
    → length (sets_from at xs) * 37 + ending g ≤ bytes_in xs
unfolding ending
room Outside at [] w e = omega arith
room (Inside b) at [] w e = absurd (let z : ◌≡◌ {A = ℕ} 0 1 = cc in omega arith)
room g at (x ∷ xs) w e =
    go g (segment_type x) refl e (λ (g' : Grouping) (q : group_verdict g' xs ≡ accepted). room g' (at + length x) xs w.1 q)
  where
    go : (g : Grouping) (t : SegmentType) → segment_type x ≡ t → and_then (kind_verdict g t) (group_verdict (state_after g t) xs) ≡ accepted
        → ((g' : Grouping) → group_verdict g' xs ≡ accepted → length (sets_from (at + length x) xs) * 37 + ending g' ≤ bytes_in xs)
        → length (pick (is_pcs t) (record { place = at; opening = x; others = through_end xs } ∷ sets_from (at + length x) xs)
        (sets_from (at + length x) xs)) * 37 + ending g ≤ length x + bytes_in xs
    go Outside Pcs k e rest = omega (arith, rest (Inside false) e, pcs-long x w.0 k)
    go Outside Wds k e rest = absurd (let z : ◌≡◌ {A = ℕ} 0 1 = cc in omega arith)
    go Outside Pds k e rest = absurd (let z : ◌≡◌ {A = ℕ} 0 1 = cc in omega arith)
    go Outside Ods k e rest = absurd (let z : ◌≡◌ {A = ℕ} 0 1 = cc in omega arith)
    go Outside End k e rest = absurd (let z : ◌≡◌ {A = ℕ} 0 1 = cc in omega arith)
    go Outside (Other v) k e rest = absurd (let z : ◌≡◌ {A = ℕ} 0 1 = cc in omega arith)
    go (Inside b) Pcs k e rest = absurd (let z : ◌≡◌ {A = ℕ} 0 1 = cc in omega arith)
    go (Inside true) Wds k e rest = absurd (let z : ◌≡◌ {A = ℕ} 0 1 = cc in omega arith)
    go (Inside false) Wds k e rest = omega (arith, rest (Inside true) e)
    go (Inside b) Pds k e rest = omega (arith, rest (Inside b) e)
    go (Inside b) Ods k e rest = omega (arith, rest (Inside b) e)
    go (Inside b) End k e rest = omega (arith, rest Outside e, whole_long x w.0)
    go (Inside b) (Other v) k e rest = omega (arith, rest (Inside b) e)

bytes-joined : (xs : List (List ℕ)) → bytes_in xs ≡ length (joined xs)
bytes-joined [] = refl
bytes-joined (x ∷ xs) = omega (arith, length-append x (joined xs), bytes-joined xs)

pub sets-room : (s : List ℕ) → sets_verdict s ≡ accepted → set_count s * 37 ≤ length s
unfolding sets_of ending
sets-room s e =
    omega (
      arith,
      room Outside 0 (read_of s).pieces (pieces_whole s) (second_holds (stream_verdict s) _ e),
      bytes-joined (read_of s).pieces,
      ap length (pieces-joined s),
      length-append (joined (read_of s).pieces) (read_of s).rest,
    )
