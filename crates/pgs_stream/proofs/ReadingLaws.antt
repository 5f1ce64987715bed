-- What a reader expects of the reading of a stream: nothing is left out, it stops only at the end or at a refused segment, each segment
-- depends on its own bytes alone, and each record leads to its segment's body. Assumes nothing.
use mathlib.Core.Path.{◌≡◌, refl, sym, ap, ◌∙◌}
use mathlib.Core.Bool.{Bool, true, false}
use mathlib.Core.List.{List, [], ◌∷◌, ◌++◌, map, append_assoc}
use Prim.Native.Nat.{ℕ, zero, suc, ◌+◌, ◌≤◌}
use native.Mathlib.Omega.{arith}
use lib.ListN.{length, take, drop, length-drop, take-append-drop}
use lib.Seq.{drop-drop, length-take-le, get_or-take}
use borrow.Author.Tests.{le-leb}
use Rattle.pgs_base.specs.Bytes.{num, Bytes}
use Rattle.pgs_views.specs.Kinds.{type_of, raw_of}
use Rattle.pgs_base.specs.Outcome.{accepted, is_accepted}
use Rattle.pgs_base.proofs.Bytes.{num-take}
use Rattle.pgs_base.proofs.Digits.{bytes_take, bytes_drop}
use Rattle.pgs_base.proofs.Lists.{drop-take}
use Rattle.pgs_base.proofs.Outcomes.{is-accepted, first-accepts}
use Rattle.pgs_views.proofs.Views.{raw-type}
use Rattle.pgs_segment.specs.Fields.{kind_byte, body_verdict, body_of}
use Rattle.pgs_segment.specs.Header.{size_of, marked}
use Rattle.pgs_segment.specs.OneSegment.{segment_type, used_by, body_at, segment_verdict, fields_of}
use Rattle.pgs_stream.specs.Stream.{step_verdict, before, read_first, read_of, stopped_by, stream_verdict, joined, segment_row, head_row}
use Rattle.pgs_stream.specs.Stream.{records_from, records_of, body_by_row, RowsLead}
use Rattle.pgs_views.specs.declared.segment_type.SegmentType.{SegmentType}
use Rattle.pgs_views.specs.declared.segment_type.SegmentType.TheVariants as kinds
use Rattle.pgs_segment.proofs.SegmentLaws.{has-header, accepted-head, accepted-size, accepted-body, accepted-mark}
use Rattle.pgs_stream.proofs.StreamLaws.{step-within}

-- the kind's byte of a body that was read is the byte that was read
pub kind-byte : (v : ℕ) (b : List ℕ) → kind_byte (body_of (type_of v) b) ≡ v
kind-byte v b = go (type_of v) ∙ raw-type v
  where
    go : (t : SegmentType) → kind_byte (body_of t b) ≡ raw_of t
    go kinds.Pds = refl
    go kinds.Ods = refl
    go kinds.Pcs = refl
    go kinds.Wds = refl
    go kinds.End = refl
    go (kinds.Other k) = refl

-- one step of the reading, by its verdict
module _ (n : ℕ) (l : List ℕ) where
  first_on : is_accepted (step_verdict l) ≡ true → read_first (suc n) l ≡ before (take (used_by l) l) (read_first n (drop (used_by l) l))
  first_on e = simp e

  first_stops : is_accepted (step_verdict l) ≡ false → read_first (suc n) l ≡ record { pieces = []; rest = l }
  first_stops e = simp e

-- nothing is left out
joined-first : (n : ℕ) (l : List ℕ) → joined (read_first n l).pieces ++ (read_first n l).rest ≡ l
joined-first zero l = refl
joined-first (suc n) l = go (is_accepted (step_verdict l)) refl (joined-first n (drop (used_by l) l))
  where
    go : (t : Bool) → is_accepted (step_verdict l) ≡ t
        → joined (read_first n (drop (used_by l) l)).pieces ++ (read_first n (drop (used_by l) l)).rest ≡ drop (used_by l) l
        → joined (read_first (suc n) l).pieces ++ (read_first (suc n) l).rest ≡ l
    go true e ih = rw (first_on n l e, append_assoc, ih) (take-append-drop (used_by l) l)
    go false e ih = rw (first_stops n l e)

pub pieces-joined : (s : List ℕ) → joined (read_of s).pieces ++ (read_of s).rest ≡ s
unfolding read_of
pieces-joined s = joined-first (length s) s

-- the reading does not stop where a segment can be read
rest-first : (n : ℕ) (l : List ℕ) → length l ≤ n → is_accepted (step_verdict (read_first n l).rest) ≡ false
rest-first zero [] h = refl
rest-first zero (x ∷ l) h = absurd (omega arith)
rest-first (suc n) l h = go (is_accepted (step_verdict l)) refl (λ (p : length (drop (used_by l) l) ≤ n). rest-first n (drop (used_by l) l) p)
  where
    go : (t : Bool) → is_accepted (step_verdict l) ≡ t
        → (length (drop (used_by l) l) ≤ n → is_accepted (step_verdict (read_first n (drop (used_by l) l)).rest) ≡ false)
        → is_accepted (step_verdict (read_first (suc n) l).rest) ≡ false
    go true e ih = rw (first_on n l e) (ih (rw length-drop (omega (arith, step-within l (is-accepted (step_verdict l) e)))))
    go false e ih = rw (first_stops n l e) e

pub rest-stops : (s : List ℕ) → is_accepted (step_verdict (read_of s).rest) ≡ false
unfolding read_of
rest-stops s = rest-first (length s) s (omega arith)

-- of an accepted stream nothing is left
pub accepted-rest : (s : List ℕ) → stream_verdict s ≡ accepted → (read_of s).rest ≡ []
accepted-rest s e = go (read_of s).rest e (rest-stops s)
  where
    go : (r : List ℕ) → stopped_by r ≡ accepted → is_accepted (step_verdict r) ≡ false → r ≡ []
    go [] p q = refl
    go (x ∷ r) p q = let z : true ≡ false = sym (ap is_accepted p) ∙ q in cc

-- a segment depends on its own bytes alone
module _ (l : List ℕ) (e : segment_verdict l ≡ accepted) where
  long : 13 ≤ length l
  long = has-header l (accepted-head l e)

  field : (k p : ℕ) → p + k ≤ 13 → num k p (take (used_by l) l) ≡ num k p l
  field k p h = num-take k p (used_by l) l (omega arith) (accepted-size l e)

  own-length : length (take (used_by l) l) ≡ used_by l
  own-length = length-take-le (used_by l) l (accepted-size l e)

  pub own-used : used_by (take (used_by l) l) ≡ length (take (used_by l) l)
  own-used = ap (λ (k : ℕ). 13 + k) (field 2 11 (omega arith)) ∙ sym own-length

  own-type : segment_type (take (used_by l) l) ≡ segment_type l
  own-type = ap type_of (field 1 10 (omega arith))

  pub own_body : body_at (take (used_by l) l) ≡ body_at l
  own_body =
      rw (field 2 11 (omega arith), drop-take 13 (size_of l) l long)
      (length-take-twice (size_of l) (drop 13 l))
    where
      length-take-twice : (n : ℕ) (t : List ℕ) → take n (take n t) ≡ take n t
      length-take-twice zero t = refl
      length-take-twice (suc n) [] = refl
      length-take-twice (suc n) (a ∷ t) = ap (λ (u : List ℕ). a ∷ u) (length-take-twice n t)

  own-mark : marked (take (used_by l) l) ≡ true
  own-mark = rw (get_or-take (used_by l) l 0 0 (omega arith), get_or-take (used_by l) l 1 0 (omega arith)) (accepted-mark l (accepted-head l e))

  pub own-verdict : segment_verdict (take (used_by l) l) ≡ accepted
  own-verdict =
      simp
      (le-leb 13 (length (take (used_by l) l)) (rw own-length (omega arith)), own-mark, le-leb (used_by (take (used_by l) l)) (length (take (used_by l) l)) (omega (arith, own-used)))
      ((λ k. body_verdict (own-type k) (own_body k)) ∙ accepted-body l e)

  pub own-fields : fields_of (take (used_by l) l) ≡ fields_of l
  own-fields = λ k. record { pts = field 4 2 (omega arith) k; dts = field 4 6 (omega arith) k; body = body_of (own-type k) (own_body k) }

-- what holds of each segment of a list
abbrev pub Each : (List ℕ → Type 0) → List (List ℕ) → Type 0
Each P [] = Unit {0}
Each P (x ∷ xs) = P x × Each P xs

-- the bytes of one segment, neither more nor less
pub record Whole (x : List ℕ) : Type 0 where
  pub step : segment_verdict x ≡ accepted
  pub used : used_by x ≡ length x

pieces-first : (n : ℕ) (l : List ℕ) → Each Whole (read_first n l).pieces
pieces-first zero l = tt
pieces-first (suc n) l = go (is_accepted (step_verdict l)) refl (pieces-first n (drop (used_by l) l))
  where
    go : (t : Bool) → is_accepted (step_verdict l) ≡ t → Each Whole (read_first n (drop (used_by l) l)).pieces → Each Whole (read_first (suc n) l).pieces
    go true e ih =
        let ok = first-accepts (segment_verdict l) _ (is-accepted (step_verdict l) e) in
        rw (first_on n l e) (record { step = own-verdict l ok; used = own-used l ok }, ih)
    go false e ih = rw (first_stops n l e) tt

-- each piece is one whole segment
pub pieces_whole : (s : List ℕ) → Each Whole (read_of s).pieces
unfolding read_of
pieces_whole s = pieces-first (length s) s

rows-first : (s : List ℕ) (n at : ℕ) (l : List ℕ) → drop at s ≡ l
    → map (body_by_row s) (records_from head_row at (read_first n l).pieces) ≡ map body_at (read_first n l).pieces
rows-first s zero at l q = refl
rows-first s (suc n) at l q =
    go (is_accepted (step_verdict l)) refl
    (λ (p : drop (at + used_by l) s ≡ drop (used_by l) l). rows-first s n (at + used_by l) (drop (used_by l) l) p)
  where
    go : (t : Bool) → is_accepted (step_verdict l) ≡ t
        → (drop (at + used_by l) s ≡ drop (used_by l) l
        → map (body_by_row s) (records_from head_row (at + used_by l) (read_first n (drop (used_by l) l)).pieces) ≡ map body_at (read_first n (drop (used_by l) l)).pieces)
        → map (body_by_row s) (records_from head_row at (read_first (suc n) l).pieces) ≡ map body_at (read_first (suc n) l).pieces
    go true e ih =
        let ok = first-accepts (segment_verdict l) _ (is-accepted (step_verdict l) e) in
        let head : body_by_row s (segment_row at (take (used_by l) l)) ≡ body_at (take (used_by l) l)
        = ap (λ (k : ℕ). take k (drop (at + 13) s)) (field l ok 2 11 (omega arith)) ∙ rw (← drop-drop 13 at s, q) (sym (own_body l ok)) in
        let tail = ih (rw (← drop-drop (used_by l) at s, q)) in
        rw (first_on n l e)
        ((λ k. head k ∷ map (body_by_row s) (records_from head_row (at + own-length l ok k) (read_first n (drop (used_by l) l)).pieces))
        ∙ ap (λ (t : List (List ℕ)). body_at (take (used_by l) l) ∷ t) tail)
    go false e ih = rw (first_stops n l e)

-- each record of a stream's list leads to the body of its segment
pub rows-lead : RowsLead
unfolding records_of read_of
rows-lead s = rows-first s (length s) 0 s refl

-- each piece of a list of bytes is one
bytes-first : (n : ℕ) (l : List ℕ) → Bytes l → Each Bytes (read_first n l).pieces
bytes-first zero l h = tt
bytes-first (suc n) l h = go (is_accepted (step_verdict l)) refl (bytes-first n (drop (used_by l) l) (bytes_drop (used_by l) l h))
  where
    go : (t : Bool) → is_accepted (step_verdict l) ≡ t → Each Bytes (read_first n (drop (used_by l) l)).pieces → Each Bytes (read_first (suc n) l).pieces
    go true e ih = simp e (bytes_take (used_by l) l h, ih)
    go false e ih = simp e tt

pub pieces-bytes : (s : List ℕ) → Bytes s → Each Bytes (read_of s).pieces
unfolding read_of
pieces-bytes s h = bytes-first (length s) s h
