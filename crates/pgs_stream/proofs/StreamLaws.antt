-- Reading a stream without fuel, and the loops that count and store its segments. Assumes nothing.
use mathlib.Core.Path.{◌≡◌, refl, sym, ap, ◌∙◌}
use mathlib.Core.Bool.{Bool, true, false}
use mathlib.Core.List.{List, [], ◌∷◌}
use Prim.Native.Nat.{ℕ, zero, suc, ◌+◌, ◌-◌, ◌≤◌, ◌<◌}
use native.Mathlib.Omega.{arith}
use borrow.Author.Tests.{lt-ltb}
use lib.ListN.{length, take, drop, length-drop}
use Rattle.pgs_base.specs.Outcome.{accepted, refused, is_accepted}
use Rattle.pgs_base.proofs.Outcomes.{is-accepted, first-accepts}
use Rattle.pgs_segment.specs.Header.{header_fields}
use Rattle.pgs_segment.specs.OneSegment.{segment_verdict, used_by}
use Rattle.pgs_segment.specs.declared.header.SegmentHeader.{SegmentHeader}
use Rattle.pgs_stream.specs.Stream.{Reading, step_verdict, before, read_first, read_of, stopped_by, stream_verdict, segment_count, records_from, records_of}
use Rattle.pgs_segment.proofs.HeaderLaws.{own-head}
use Rattle.pgs_segment.proofs.SegmentLaws.{accepted-size}

-- a segment that is accepted lies within the list
pub step-within : (l : List ℕ) → step_verdict l ≡ accepted → used_by l ≤ length l
step-within l e = accepted-size l (first-accepts (segment_verdict l) _ e)

-- a segment that is accepted or refused is so as a step of a stream: its head alone takes 13 bytes
pub step-accepted : (l : List ℕ) → segment_verdict l ≡ accepted → step_verdict l ≡ accepted
step-accepted l e = simp (e, lt-ltb 0 (used_by l) (omega arith))

pub step-refused : (l : List ℕ) {k : ℕ} → segment_verdict l ≡ refused k → step_verdict l ≡ refused k
step-refused l e = rw e

-- enough fuel is enough
same-fuel : (n m : ℕ) (l : List ℕ) → length l ≤ n → length l ≤ m → read_first n l ≡ read_first m l
same-fuel zero zero l h k = refl
same-fuel zero (suc m) [] h k = refl
same-fuel zero (suc m) (x ∷ l) h k = absurd (omega arith)
same-fuel (suc n) zero [] h k = refl
same-fuel (suc n) zero (x ∷ l) h k = absurd (omega arith)
same-fuel (suc n) (suc m) l h k =
    go (is_accepted (step_verdict l)) refl (λ (p : length (drop (used_by l) l) ≤ n) (q : length (drop (used_by l) l) ≤ m). same-fuel n m (drop (used_by l) l) p q)
  where
    go : (t : Bool) → is_accepted (step_verdict l) ≡ t
        → (length (drop (used_by l) l) ≤ n → length (drop (used_by l) l) ≤ m → read_first n (drop (used_by l) l) ≡ read_first m (drop (used_by l) l))
        → read_first (suc n) l ≡ read_first (suc m) l
    go true e ih =
        let w = step-within l (is-accepted (step_verdict l) e) in
        let r = ih (rw length-drop (omega arith)) (rw length-drop (omega arith)) in
        simp e (ap (before (take (used_by l) l)) r)
    go false e ih = simp e

-- the equations that a reader expects: a segment is read and the reading goes on, or it stops here
pub read-on : (l : List ℕ) → step_verdict l ≡ accepted → read_of l ≡ before (take (used_by l) l) (read_of (drop (used_by l) l))
unfolding read_of
read-on l e =
    same-fuel (length l) (suc (length l)) l (omega arith) (omega arith)
    ∙ simp e (ap (before (take (used_by l) l)) (same-fuel (length l) (length (drop (used_by l) l)) (drop (used_by l) l) (rw length-drop (omega arith)) (omega arith)))

pub read-stops : (l : List ℕ) {k : ℕ} → step_verdict l ≡ refused k → read_of l ≡ record { pieces = []; rest = l }
unfolding read_of
read-stops l e = same-fuel (length l) (suc (length l)) l (omega arith) (omega arith) ∙ simp e

-- a stream that is not empty is stopped by its next segment
pub stopped-at : (l : List ℕ) → 0 < length l → stopped_by l ≡ step_verdict l
stopped-at [] h = absurd (omega arith)
stopped-at (x ∷ l) h = refl

-- n segments are counted, and reading goes on with what is left of the stream
pub record Counting (s left : List ℕ) (n : ℕ) : Type 0 where
  pub few : n + length left ≤ length s
  pub count : n + length (read_of left).pieces ≡ segment_count s
  pub rest : (read_of left).rest ≡ (read_of s).rest

module _ (s : List ℕ) where
  module _ {l : List ℕ} {n : ℕ} (c : Counting s l n) where
    pub counts-on : step_verdict l ≡ accepted → Counting s (drop (used_by l) l) (n + 1)
    counts-on e =
        let r = read-on l e in
        record {
          few = omega (arith, c.few, step-within l e, length-drop (used_by l) l);
          count = omega (arith, ap (λ (x : Reading). length x.pieces) r, c.count);
          rest = sym (ap (λ (x : Reading). x.rest) r) ∙ c.rest;
        }

    pub counted-refusal : {k : ℕ} → 0 < length l → step_verdict l ≡ refused k → stream_verdict s ≡ refused k
    counted-refusal h e =
        ap stopped_by (sym c.rest ∙ ap (λ (x : Reading). x.rest) (read-stops l e)) ∙ (stopped-at l h ∙ e)

    ends : length l ≡ 0 → read_of l ≡ record { pieces = []; rest = [] }
    ends h = ap read_of (none l h) ∙ read-stops [] refl
      where
        none : (xs : List ℕ) → length xs ≡ 0 → xs ≡ []
        none [] e = refl
        none (x ∷ xs) e = absurd (omega arith)

    pub counted-all : length l ≡ 0 → stream_verdict s ≡ accepted
    counted-all h = ap stopped_by (sym c.rest ∙ ap (λ (x : Reading). x.rest) (ends h))

    pub counted : length l ≡ 0 → n ≡ segment_count s
    counted h = omega (arith, ap (λ (x : Reading). length x.pieces) (ends h), c.count)

pub records-length : {A : Type 0} (made : ℕ → SegmentHeader → A) (at : ℕ) (xs : List (List ℕ)) → length (records_from made at xs) ≡ length xs
records-length made at [] = refl
records-length made at (x ∷ xs) = ap suc (records-length made (at + length x) xs)

-- as many records as segments
pub segment-records : {A : Type 0} (made : ℕ → SegmentHeader → A) (s : List ℕ) → length (records_of made s) ≡ segment_count s
unfolding records_of
segment-records made s = records-length made 0 (read_of s).pieces

-- a segment has the head of all that follows
pub piece-head : (l : List ℕ) → step_verdict l ≡ accepted → header_fields (take (used_by l) l) ≡ header_fields l
piece-head l e = own-head (used_by l) l (omega arith) (step-within l e)
