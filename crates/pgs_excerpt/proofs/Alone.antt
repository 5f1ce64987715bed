-- An excerpt is a stream of just that set. Assumes nothing.
use mathlib.Core.Path.{◌≡◌, refl, sym, ap, ◌∙◌}
use mathlib.Core.Bool.{Bool, true, false}
use mathlib.Core.List.{List, [], ◌∷◌, ◌++◌, append-nil}
use Prim.Native.Nat.{ℕ, zero, suc, ◌+◌, ◌<◌}
use native.Mathlib.Omega.{arith}
use borrow.Author.Tests.{ltb-true}
use lib.Dec.{ltb}
use lib.ListN.{length, take, drop, get_or}
use lib.Seq.{take-append-add, drop_at, drop-drop}
use Rattle.pgs_base.specs.Outcome.{accepted}
use Rattle.pgs_base.proofs.Outcomes.{first-accepts, second_holds, holds}
use Rattle.pgs_segment.specs.OneSegment.{segment_type}
use Rattle.pgs_stream.specs.Stream.{Reading, read_of, stream_verdict, joined}
use Rattle.pgs_stream.proofs.ReadingLaws.{Each, Whole, pieces_whole, pieces-joined, accepted-rest}
use Rattle.pgs_views.specs.declared.segment_type.SegmentType.TheVariants.{Pcs}
use Rattle.pgs_set.specs.declared.grouping.Grouping.{Grouping}
use Rattle.pgs_set.specs.declared.grouping.Grouping.TheVariants.{Outside, Inside}
use Rattle.pgs_set.specs.Sets.{no_set, set_number, set_verdict, DisplaySet, kind_verdict, state_after, group_verdict, is_end, through_end, sets_from, sets_of, set_count, sets_verdict, bytes_in}
use Rattle.pgs_set.proofs.SetLaws.{goes_on, closes, no-pcs, only-pcs}
use Rattle.pgs_excerpt.specs.Excerpt.{size_in, excerpt, at_start, Alone}
use Rattle.pgs_excerpt.proofs.ReadBack.{read_back}

-- the segments of a set that is open, up to its END: they group by themselves, open no set, and end there
record Through (g : Grouping) (xs : List (List ℕ)) : Type 0 where
  grouped : group_verdict g (through_end xs) ≡ accepted
  none : (at : ℕ) → sets_from at (through_end xs) ≡ []
  again : through_end (through_end xs) ≡ through_end xs

module _ (w : Bool) (x : List ℕ) (xs : List (List ℕ)) (e : group_verdict (Inside w) (x ∷ xs) ≡ accepted) where
  kind : kind_verdict (Inside w) (segment_type x) ≡ accepted
  kind = first-accepts (kind_verdict (Inside w) (segment_type x)) _ e

  further : group_verdict (state_after (Inside w) (segment_type x)) xs ≡ accepted
  further = second_holds (kind_verdict (Inside w) (segment_type x)) _ e

  no-set : (at : ℕ) (ys : List (List ℕ)) → sets_from at (x ∷ ys) ≡ sets_from (at + length x) ys
  no-set at ys = simp (no-pcs w (segment_type x) kind)

  through-end : is_end (segment_type x) ≡ true → Through (Inside w) (x ∷ xs)
  through-end q =
      record {
        grouped = simp (q, kind, closes (Inside w) (segment_type x) q);
        none = λ at. simp (q, no-pcs w (segment_type x) kind);
        again = simp q;
      }

  through-on : is_end (segment_type x) ≡ false → Through (state_after (Inside w) (segment_type x)) xs → Through (Inside w) (x ∷ xs)
  through-on q t =
      record {
        grouped = simp (q, kind) t.grouped;
        none = λ at. simp (q, no-pcs w (segment_type x) kind) (t.none (at + length x));
        again = simp q (ap (λ (ys : List (List ℕ)). x ∷ ys) t.again);
      }

through : (w : Bool) (xs : List (List ℕ)) → group_verdict (Inside w) xs ≡ accepted → Through (Inside w) xs
through w [] e = absurd (let z : ◌≡◌ {A = ℕ} 0 1 = cc in omega arith)
through w (x ∷ xs) e = go (is_end (segment_type x)) refl (λ v. through v xs)
  where
    go : (b : Bool) → is_end (segment_type x) ≡ b → ((v : Bool) → group_verdict (Inside v) xs ≡ accepted → Through (Inside v) xs) → Through (Inside w) (x ∷ xs)
    go true q on = through-end w x xs e q
    go false q on =
        let g = goes_on w (segment_type x) q in
        through-on w x xs e q (rw g.1 (on g.0 (rw g.1 at (further w x xs e))))

-- the first bytes of segments are those up to the first END
through-bytes : (xs : List (List ℕ)) → take (bytes_in (through_end xs)) (joined xs) ≡ joined (through_end xs)
through-bytes [] = refl
through-bytes (x ∷ xs) = go (is_end (segment_type x)) refl (through-bytes xs)
  where
    go : (b : Bool) → is_end (segment_type x) ≡ b → take (bytes_in (through_end xs)) (joined xs) ≡ joined (through_end xs)
        → take (bytes_in (through_end (x ∷ xs))) (joined (x ∷ xs)) ≡ joined (through_end (x ∷ xs))
    go true q ih = simp q (take-append-add x (joined xs) 0)
    go false q ih = simp q (take-append-add x (joined xs) (bytes_in (through_end xs)) ∙ ap (λ (l : List ℕ). x ++ l) ih)

through-whole : (xs : List (List ℕ)) → Each Whole xs → Each Whole (through_end xs)
through-whole [] w = tt
through-whole (x ∷ xs) w = go (is_end (segment_type x)) refl (through-whole xs w.1)
  where
    go : (b : Bool) → is_end (segment_type x) ≡ b → Each Whole (through_end xs) → Each Whole (through_end (x ∷ xs))
    go true q ih = simp q (w.0, tt)
    go false q ih = simp q (w.0, ih)

-- what is known of a set that stands in a stream
record Stands (s : List ℕ) (d : DisplaySet) : Type 0 where
  bytes : take (size_in d) (drop d.place s) ≡ joined (d.opening ∷ d.others)
  whole : Each Whole (d.opening ∷ d.others)
  grouped : group_verdict Outside (d.opening ∷ d.others) ≡ accepted
  one : sets_from 0 (d.opening ∷ d.others) ≡ at_start d ∷ []

module _ (s : List ℕ) where
  -- the set that a PCS opens
  opened : (at : ℕ) (x : List ℕ) (xs : List (List ℕ)) → drop at s ≡ joined (x ∷ xs) → Each Whole (x ∷ xs) → segment_type x ≡ Pcs
      → group_verdict (Inside false) xs ≡ accepted → Stands s (record { place = at; opening = x; others = through_end xs })
  opened at x xs here w k e =
      let t = through false xs e in
      record {
        bytes = ap (take (length x + bytes_in (through_end xs))) here ∙ (take-append-add x (joined xs) (bytes_in (through_end xs)) ∙ ap (λ (l : List ℕ). x ++ l) (through-bytes xs));
        whole = (w.0, through-whole xs w.1);
        grouped = simp k t.grouped;
        one = simp (k, t.none (0 + length x), t.again);
      }

  -- the segments after one
  after : (at : ℕ) (x : List ℕ) (xs : List (List ℕ)) → drop at s ≡ joined (x ∷ xs) → drop (at + length x) s ≡ joined xs
  after at x xs here = sym (drop-drop (length x) at s) ∙ (ap (drop (length x)) here ∙ drop_at x (joined xs) (length x) refl)

  stands : (g : Grouping) (at : ℕ) (xs : List (List ℕ)) (k : ℕ) → drop at s ≡ joined xs → Each Whole xs → group_verdict g xs ≡ accepted → k < length (sets_from at xs)
      → Stands s (get_or (sets_from at xs) k no_set)
  stands g at [] k here w e h = absurd (omega arith)
  stands Outside at (x ∷ xs) zero here w e h =
      let pcs = only-pcs (segment_type x) (first-accepts (kind_verdict Outside (segment_type x)) _ e) in
      let inside : group_verdict (Inside false) xs ≡ accepted = simp pcs at (second_holds (kind_verdict Outside (segment_type x)) _ e) in
      simp pcs (opened at x xs here w pcs inside)
  stands Outside at (x ∷ xs) (suc k) here w e h =
      let pcs = only-pcs (segment_type x) (first-accepts (kind_verdict Outside (segment_type x)) _ e) in
      let inside : group_verdict (Inside false) xs ≡ accepted = simp pcs at (second_holds (kind_verdict Outside (segment_type x)) _ e) in
      let more : suc k < suc (length (sets_from (at + length x) xs)) = simp pcs at h in
      simp pcs (stands (Inside false) (at + length x) xs k (after at x xs here) w.1 inside (omega (arith, more)))
  stands (Inside v) at (x ∷ xs) k here w e h =
      let same = no-set v x xs e at xs in
      rw same
      (stands (state_after (Inside v) (segment_type x)) (at + length x) xs k (after at x xs here) w.1 (further v x xs e) (rw same at h))

  -- the stream is its segments, end to end
  all : stream_verdict s ≡ accepted → s ≡ joined (read_of s).pieces
  all e = sym (pieces-joined s) ∙ (ap (λ (r : List ℕ). joined (read_of s).pieces ++ r) (accepted-rest s e) ∙ append-nil (joined (read_of s).pieces))

  stands-in : (k : ℕ) → set_verdict k s ≡ accepted → Stands s (set_number k s)
  unfolding sets_of
  stands-in k e =
      let sets = first-accepts (sets_verdict s) _ e in
      let some : k < set_count s = ltb-true k (set_count s) (holds 36 (ltb k (set_count s)) (second_holds (sets_verdict s) _ e)) in
      stands Outside 0 (read_of s).pieces k (all (first-accepts (stream_verdict s) _ sets)) (pieces_whole s) (second_holds (stream_verdict s) _ sets) some

pub alone : Alone
unfolding sets_of
alone k s e =
    let d = stands-in s k e in
    let read : read_of (excerpt k s) ≡ record { pieces = (set_number k s).opening ∷ (set_number k s).others; rest = [] }
    = ap read_of d.bytes ∙ read_back ((set_number k s).opening ∷ (set_number k s).others) d.whole in (
      rw read d.grouped,
      ap (λ (r : Reading). sets_from 0 r.pieces) read ∙ d.one,
    )
