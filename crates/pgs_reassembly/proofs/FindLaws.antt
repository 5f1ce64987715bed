-- The walk that finds the chains of a set. Assumes nothing.
use mathlib.Core.Path.{◌≡◌, refl, sym, ap, ◌∙◌}
use mathlib.Core.Bool.{Bool, true, false}
use mathlib.Core.List.{List, [], ◌∷◌, map}
use Prim.Native.Nat.{ℕ, ◌+◌, ◌≤◌}
use native.Mathlib.Omega.{arith}
use Rattle.std.specs.Prelude.{Option, None, Some}
use lib.ListN.{length, drop, length-append}
use Rattle.pgs_base.specs.Outcome.{Verdict, accepted, refused, and_then, pick}
use Rattle.pgs_base.proofs.Outcomes.{not-both}
use Rattle.pgs_segment.specs.OneSegment.{segment_type}
use Rattle.pgs_set.proofs.Choices.{pick_first}
use Rattle.pgs_set.proofs.SegmentLaws.{Stands, AllStand, segments-stand, stands-kind}
use Rattle.pgs_set.specs.Segments.{set_segments}
use Rattle.pgs_set.specs.Walks.{InSet}
use Rattle.pgs_stream.specs.declared.segments.PlacedSegment.{PlacedSegment}
use Rattle.pgs_reassembly.proofs.ChainLaws.{taking-all, rows-all, total-after}
use Rattle.pgs_reassembly.proofs.FragmentLaws.{in-segments, bytes-left}
use Rattle.pgs_reassembly.specs.Objects.{Fragment, is_ods, chains_of, joined, object_limit, verdict_after}
use Rattle.pgs_reassembly.specs.Tables.{fragment_in, fragment_read, holds_fragment, fragments_in, fragments_left, fragment_numbers, chain_row, take_verdict, rows_after}
use Rattle.pgs_reassembly.specs.Tables.{taking_verdict, rows_with, total, Leaves}
use Rattle.pgs_reassembly.specs.declared.ChainRow.{ChainRow}
use Rattle.pgs_reassembly.specs.declared.FragmentNumbers.{FragmentNumbers}

-- a segment of those left was read: it stands in the stream and is this fragment, which comes before those in the segments behind it
pub record Reads (s : List ℕ) (xs : List PlacedSegment) (x : PlacedSegment) (left : List PlacedSegment) (f : FragmentNumbers) : Type 0 where
  pub itself : Stands s x
  pub stand : AllStand s left
  pub kind : is_ods (segment_type (drop x.at s)) ≡ true
  pub numbers : f ≡ fragment_numbers (fragment_in s x)
  pub next : fragments_in s xs ≡ fragment_in s x ∷ fragments_in s left

module _ (s : List ℕ) {xs : List PlacedSegment} (all : AllStand s xs) {x : PlacedSegment} {left : List PlacedSegment} (here : xs ≡ x ∷ left) where
  pub stand-here : AllStand s (x ∷ left)
  stand-here = rw here at all

  module _ {o : Option FragmentNumbers} (e : o ≡ fragment_read s x) where
    -- it is one
    pub reads-one : {f : FragmentNumbers} → o ≡ Some f → Reads s xs x left f
    reads-one {f} z = go (holds_fragment x) refl (sym z ∙ e)
      where
        go : (b : Bool) → holds_fragment x ≡ b → Some f ≡ pick b (Some (fragment_numbers (fragment_in s x))) None → Reads s xs x left f
        go true h q =
            record {
              itself = stand-here.0;
              stand = stand-here.1;
              kind = sym (ap is_ods (stands-kind stand-here.0)) ∙ h;
              numbers = ap (λ (y : Option FragmentNumbers). elim y [ None ↦ f | Some g ↦ g ]) q;
              next = ap (fragments_in s) here ∙ pick_first _ _ h;
            }
        go false h q = cc

-- the fragments in the segments that are left go into these rows, as all go into none
pub record Finding (s : List ℕ) (from : ℕ) (rows : List ChainRow) (left : List PlacedSegment) : Type 0 where
  pub stand : AllStand s left
  pub verdict : taking_verdict rows (fragments_in s left) ≡ taking_verdict [] (fragments_left s from)
  pub whole : rows_with rows (fragments_in s left) ≡ rows_with [] (fragments_left s from)
  pub small : total rows + length (joined (fragments_in s left)) ≤ length s

module _ (s : List ℕ) (from : ℕ) where
  pub finding : InSet s from → {left : List PlacedSegment} → left ≡ set_segments s from → Finding s from [] left
  finding i e =
      rw e
      (record {
        stand = segments-stand s i;
        verdict = ap (taking_verdict []) (sym (in-segments s i));
        whole = ap (rows_with []) (sym (in-segments s i));
        small = omega (arith, bytes-left s i, ap (λ (fs : List Fragment). length (joined fs)) (in-segments s i));
      })

  module _ {rows : List ChainRow} {xs : List PlacedSegment} (c : Finding s from rows xs) where
    -- no segment is left
    pub finds-all : xs ≡ [] → Leaves (verdict_after object_limit [] (fragments_left s from)) (map chain_row (chains_of (fragments_left s from))) rows accepted
    finds-all e =
        let done : accepted ≡ verdict_after object_limit [] (fragments_left s from)
        = ap (λ (l : List PlacedSegment). taking_verdict rows (fragments_in s l)) (sym e) ∙ c.verdict ∙ taking-all (fragments_left s from) in
        record {
          answered = done;
          left = λ a.
              ap (λ (l : List PlacedSegment). rows_with rows (fragments_in s l)) (sym e)
              ∙ c.whole
              ∙ rows-all (fragments_left s from) (sym done);
        }

    -- a segment is no fragment
    pub finds-none : {left : List PlacedSegment} → AllStand s left → fragments_in s xs ≡ fragments_in s left → Finding s from rows left
    finds-none stand same = record { stand = stand; verdict = rw same at c.verdict; whole = rw same at c.whole; small = rw same at c.small }

    module _ {x : PlacedSegment} {left : List PlacedSegment} {f : FragmentNumbers} (r : Reads s xs x left f) where
      -- the lengths fit
      pub finds-fit : total rows + f.len + length (joined (fragments_in s left)) ≤ length s
      finds-fit =
          omega (
            arith,
            c.small,
            ap (λ (fs : List Fragment). length (joined fs)) r.next,
            length-append (fragment_in s x).bytes (joined (fragments_in s left)),
            ap (λ (y : FragmentNumbers). y.len) r.numbers,
          )

      module _ {now : List ChainRow} {answer : Verdict} (w : Leaves (take_verdict rows f) (rows_after rows f) now answer) where
        decides : and_then answer (taking_verdict (rows_after rows f) (fragments_in s left)) ≡ verdict_after object_limit [] (fragments_left s from)
        decides =
            (λ j. and_then ((w.answered ∙ ap (take_verdict rows) r.numbers) j) (taking_verdict (rows_after rows (r.numbers j)) (fragments_in s left)))
            ∙ ap (taking_verdict rows) (sym r.next)
            ∙ c.verdict
            ∙ taking-all (fragments_left s from)

        -- a fragment that is refused decides
        pub finds-refusal : {k : ℕ} {any : List ChainRow} → answer ≡ refused k
            → Leaves (verdict_after object_limit [] (fragments_left s from)) (map chain_row (chains_of (fragments_left s from))) any (refused k)
        finds-refusal {k} {any} a =
            record {
              answered = ap (λ (v : Verdict). and_then v (taking_verdict (rows_after rows f) (fragments_in s left))) (sym a) ∙ decides;
              left = λ y. absurd (not-both y refl);
            }

        -- a fragment is taken
        pub finds-more : answer ≡ accepted → Finding s from now left
        finds-more a =
            record {
              stand = r.stand;
              verdict = ap (λ (l : List ChainRow). taking_verdict l (fragments_in s left)) (w.left a)
                  ∙ ap (λ (v : Verdict). and_then v (taking_verdict (rows_after rows f) (fragments_in s left))) (sym a)
                  ∙ decides
                  ∙ sym (taking-all (fragments_left s from));
              whole = ap (λ (l : List ChainRow). rows_with l (fragments_in s left)) (w.left a)
                  ∙ (λ j. rows_with (rows_after rows (r.numbers j)) (fragments_in s left))
                  ∙ ap (rows_with rows) (sym r.next)
                  ∙ c.whole;
              small = rw (w.left a) (omega (arith, total-after rows f, finds-fit));
            }
