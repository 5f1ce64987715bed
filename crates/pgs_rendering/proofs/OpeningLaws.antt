-- Finding a set's objects and its PCS, before it is painted. Assumes nothing.
use mathlib.Core.Path.{◌≡◌, refl, sym, ap, ◌∙◌}
use mathlib.Core.List.{List, ◌++◌, map}
use Prim.Native.Nat.{ℕ, ◌+◌, ◌-◌, ◌≤◌}
use native.Mathlib.Omega.{arith}
use borrow.Author.Tests.{le-leb}
use lib.ListN.{length, take, drop, length-append}
use lib.Seq.{take_at}
use Rattle.pgs_base.specs.Outcome.{Verdict, accepted, refused, Outcome, gives, refuses, and_then, unless, needing, laid, Delivered}
use Rattle.pgs_base.proofs.Outcomes.{not-both, first-accepts, delivered, delivered-value, delivered-refusal}
use Rattle.pgs_color.specs.Bytes.{rgb_of}
use Rattle.pgs_segment.specs.Header.{pts_of, header_fields}
use Rattle.pgs_segment.specs.OneSegment.{segment_verdict, used_by, body_at}
use Rattle.pgs_stream.specs.Stream.{step_verdict}
use Rattle.pgs_stream.specs.Segments.{placed}
use Rattle.pgs_stream.specs.declared.segments.PlacedSegment.{PlacedSegment}
use Rattle.pgs_stream.proofs.ReadingLaws.{own_body}
use Rattle.pgs_reassembly.specs.Objects.{Chain, fragments_of, objects_of, objects_verdict, object_limit, chains_of, fragments_verdict}
use Rattle.pgs_set.specs.declared.open_set.PlacedSet.{PlacedSet}
use Rattle.pgs_set.specs.Sets.{set_number, set_verdict, DisplaySet}
use Rattle.pgs_reassembly.specs.Reassembly.{object_records}
use Rattle.pgs_reassembly.specs.Tables.{fragments_left}
use Rattle.pgs_reassembly.specs.declared.ObjectRecord.{ObjectRecord}
use Rattle.pgs_set.specs.Walks.{set_at}
use Rattle.pgs_reassembly.proofs.FragmentLaws.{lent-body}
use Rattle.pgs_reassembly.proofs.ObjectLaws.{begin-fragments, no-set, set_first}
use Rattle.pgs_set.proofs.SetLaws.{set_here, outside-here}
use Rattle.pgs_set.proofs.WalkLaws.{head-field}
use Rattle.pgs_reassembly.proofs.ListingLaws.{map-same, objects-count}
use Rattle.pgs_rendering.specs.Rendering.{room_verdict, Rendered}
use Rattle.pgs_rendering.specs.declared.Shown.{Shown}
use Rattle.pgs_rendering.specs.Steps.{objects_in, Listed}
use Rattle.pgs_rendering.proofs.ObjectLaws.{few-objects}
use Rattle.pgs_rendering.proofs.RenderLaws.{renders-none}

-- records that fill the front of a list that has room for them
module _ {X A : Type 0} {v : Verdict} {x : X} {rows before after : List A} {y : X} (d : Delivered v x rows before after (gives y)) where
  filled : after ≡ rows ++ drop (length rows) before
  filled = d.written ∙ ap (λ (w : Verdict). laid w rows before) (delivered d)

  pub front-within : {n : ℕ} → n ≡ length rows → n ≤ length after
  front-within q = omega (arith, q, ap length filled, length-append rows (drop (length rows) before))

  pub front : {n : ℕ} → n ≡ length rows → take n after ≡ rows
  front {n} q = ap (take n) filled ∙ take_at rows (drop (length rows) before) n (sym q)

  pub front_length : {n : ℕ} → n ≡ length rows → n ≡ length (take n after)
  front_length q = q ∙ sym (ap length (front q))

-- painting ends, and this is the answer
pub answers : {verdict : Verdict} {d : DisplaySet} {cs : List Chain} {scratch scratch' plane plane' : List ℕ} {a r : Outcome Shown}
    → Rendered rgb_of verdict d cs scratch scratch' plane plane' a → r ≡ a → Rendered rgb_of verdict d cs scratch scratch' plane plane' r
answers w e = record { answered = e ∙ w.answered; stored = w.stored; shown = w.shown }

-- the set of a number, that was placed
module _ (k : ℕ) {s : List ℕ} (p : PlacedSet) (e : (p.stream.now ≡ s) × (set_verdict k s ≡ accepted) × (set_at s p.place ≡ set_number k s)) where
  abbrev its : DisplaySet
  its = set_at p.stream.now p.place

  its-number : its ≡ set_number k s
  its-number = ap (λ (l : List ℕ). set_at l p.place) e.0 ∙ e.2

  -- the call that lists its objects, into a list of their records
  pub lists-records : {t : List ℕ} {from : ℕ} → t ≡ p.stream.now → from ≡ p.place + used_by (drop p.place p.stream.now)
      → {list list' : List ObjectRecord} {a : Outcome ℕ}
      → Delivered (fragments_verdict object_limit (fragments_left t from)) (length (chains_of (fragments_left t from)))
      (map (λ (object : ObjectRecord). object) (object_records (chains_of (fragments_left t from)))) list list' a
      → Delivered (fragments_verdict object_limit (fragments_of its)) (length (objects_in its)) (object_records (objects_in its)) list list' a
  lists-records es ef d = rw (begin-fragments p.stream.now p.begins) (rw (es, ef, map-same) at d)

  verdict-is : objects_verdict k s ≡ fragments_verdict object_limit (fragments_of its)
  verdict-is = set_first object_limit k s ∙ (λ j. and_then (e.1 j) (fragments_verdict object_limit (fragments_of (sym its-number j))))

  module _ {list list' : List ObjectRecord} where
    pub lists-refused : {n : ℕ} → Delivered (fragments_verdict object_limit (fragments_of its)) (length (objects_in its)) (object_records (objects_in its)) list list' (refuses n)
        → length list ≡ 64 → objects_verdict k s ≡ refused n
    lists-refused {n} d size = verdict-is ∙ go (fragments_verdict object_limit (fragments_of its)) refl (delivered-refusal d)
      where
        few : fragments_verdict object_limit (fragments_of its) ≡ accepted → length (object_records (objects_in its)) ≤ length list
        few a = omega (arith, size, objects-count 0 (objects_in its), few-objects object_limit (fragments_of its) a)

        go : (v : Verdict) → fragments_verdict object_limit (fragments_of its) ≡ v
            → and_then v (needing (length (object_records (objects_in its))) (length list)) ≡ refused n → v ≡ refused n
        go accepted a q = absurd (not-both (ap (unless 34) (le-leb (length (object_records (objects_in its))) (length list) (few a))) q)
        go (refused m) a q = q

    module _ {n : ℕ}
        (d : Delivered (fragments_verdict object_limit (fragments_of its)) (length (objects_in its)) (object_records (objects_in its)) list list' (gives n)) where
      pub lists-count : n ≡ length (object_records (objects_in its))
      lists-count = delivered-value d ∙ sym (objects-count 0 (objects_in its))

      pub lists-objects : Listed its (take n list')
      lists-objects =
          record {
            taken = first-accepts (fragments_verdict object_limit (fragments_of its)) (needing (length (object_records (objects_in its))) (length list)) (delivered d);
            objects = front d lists-count;
          }

  -- painting it is painting set number k
  pub renders-number : {scratch scratch' plane plane' : List ℕ} {a : Outcome Shown} → fragments_verdict object_limit (fragments_of its) ≡ accepted
      → Rendered rgb_of accepted its (objects_in its) scratch scratch' plane plane' a
      → Rendered rgb_of (objects_verdict k s) (set_number k s) (objects_of k s) scratch scratch' plane plane' a
  unfolding objects_of
  renders-number ok r = rw (verdict-is, ok) (rw its-number at r)

-- its objects are refused, or there is no such set
module _ (k : ℕ) (s : List ℕ) where
  pub objects-refused : {n : ℕ} {scratch plane : List ℕ} → objects_verdict k s ≡ refused n
      → Rendered rgb_of (objects_verdict k s) (set_number k s) (objects_of k s) scratch scratch plane plane (refuses n)
  unfolding objects_of
  objects-refused {n} {scratch} {plane} e =
      let d = set_number k s in
      answers (renders-none d (ap (λ (v : Verdict). and_then v (room_verdict d (objects_in d) (length scratch) (length plane))) e)) refl

  pub set-refused : {n : ℕ} → set_verdict k s ≡ refused n → objects_verdict k s ≡ refused n
  set-refused e = no-set object_limit k s e

-- the PCS of a set that was placed
module _ (p : PlacedSet) where
  ok : step_verdict (drop p.place p.stream.now) ≡ accepted
  ok = outside-here p.stream.now p.begins.standing p.begins.more

  opening : (set_at p.stream.now p.place).opening ≡ take (used_by (drop p.place p.stream.now)) (drop p.place p.stream.now)
  opening = ap (λ (d : DisplaySet). d.opening) (set_here p.stream.now p.begins.standing p.begins.more)

  -- what stands there is its PCS
  module _ {x : PlacedSegment} (e : x ≡ placed p.place (header_fields (drop p.place p.stream.now))) where
    pub placed-body : {body : List ℕ} → body ≡ take (x.end - (x.at + 13)) (drop (x.at + 13) p.stream.now) → body ≡ body_at (set_at p.stream.now p.place).opening
    placed-body b =
        b
        ∙ ap (λ (y : PlacedSegment). take (y.end - (y.at + 13)) (drop (y.at + 13) p.stream.now)) e
        ∙ lent-body p.stream.now p.place refl
        ∙ sym (own_body (drop p.place p.stream.now) (first-accepts (segment_verdict (drop p.place p.stream.now)) _ ok))
        ∙ sym (ap body_at opening)

    pub placed-time : x.header.pts ≡ pts_of (set_at p.stream.now p.place).opening
    placed-time =
        ap (λ (y : PlacedSegment). y.header.pts) e ∙ sym (head-field 4 2 (drop p.place p.stream.now) ok (omega arith)) ∙ sym (ap pts_of opening)
