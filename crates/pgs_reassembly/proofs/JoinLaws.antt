-- The walks that join the data of one chain, and of all that are copied. Assumes nothing.
use mathlib.Core.Path.{◌≡◌, refl, sym, ap, subst, ◌∙◌}
use mathlib.Core.Bool.{true, false}
use mathlib.Core.List.{List, [], ◌∷◌, ◌++◌, append-nil}
use Prim.Native.Nat.{ℕ, ◌+◌, ◌-◌, ◌≤◌, ◌<◌}
use native.Mathlib.Omega.{arith}
use borrow.Author.Tests.{eq-eqb}
use lib.ListN.{length, take, drop, get_or, length-append, drop_of_length-le}
use lib.Seq.{length-take-le}
use Rattle.pgs_base.proofs.Front.{Front, begins, parted, filled}
use Rattle.pgs_set.proofs.Choices.{pick_first, pick_second}
use Rattle.pgs_set.proofs.SegmentLaws.{AllStand, segments-stand}
use Rattle.pgs_set.specs.Segments.{set_segments}
use Rattle.pgs_set.specs.Walks.{InSet}
use Rattle.pgs_stream.specs.declared.segments.PlacedSegment.{PlacedSegment}
use Rattle.pgs_reassembly.proofs.FindLaws.{Reads}
use Rattle.pgs_reassembly.proofs.FragmentLaws.{in-segments, data-within, data-part}
use Rattle.pgs_reassembly.proofs.Lists.{no_row, drop-next}
use Rattle.pgs_reassembly.specs.Objects.{Fragment, id_of, with_id, joined}
use Rattle.pgs_reassembly.specs.Tables.{fragment_in, fragments_in, fragments_left, joined_in, row_data, row_bytes, joined_rows, AllJoinable}
use Rattle.pgs_reassembly.specs.declared.ChainRow.{ChainRow}
use Rattle.pgs_reassembly.specs.declared.FragmentNumbers.{FragmentNumbers}

-- a part of a front comes back with what was written, whatever its end is called
pub part-back : {start whole now rest : List ℕ} (ys : List ℕ) {k n : ℕ} → Front start whole now (ys ++ rest) k → n ≡ length ys → k + n ≤ length now
    → Front start whole (take k now ++ (ys ++ drop n (drop k now))) rest (k + n)
part-back ys f e h = rw e (parted ys f (rw (← e) h))

-- k bytes are stored; the fragments with this id in the segments that are left have the rest
pub record Joining (s : List ℕ) (from id : ℕ) (start now : List ℕ) (left : List PlacedSegment) (k : ℕ) : Type 0 where
  pub stand : AllStand s left
  pub room : length start ≡ length (joined (with_id id (fragments_left s from)))
  pub front : Front start (joined (with_id id (fragments_left s from))) now (joined (with_id id (fragments_in s left))) k

module _ (s : List ℕ) (from id : ℕ) where
  pub joining : InSet s from → {left : List PlacedSegment} → left ≡ set_segments s from → (start : List ℕ)
      → length start ≡ length (joined (with_id id (fragments_left s from)))
      → Joining s from id start start left 0
  joining i e start r =
      rw e
      (record {
        stand = segments-stand s i;
        room = r;
        front = subst (λ (l : List ℕ). Front start (joined (with_id id (fragments_left s from))) start l 0)
            (ap (λ (fs : List Fragment). joined (with_id id fs)) (in-segments s i))
            (begins start (joined (with_id id (fragments_left s from))));
      })

  module _ {start now : List ℕ} {xs : List PlacedSegment} {k : ℕ} (c : Joining s from id start now xs k) where
    -- what is left fills what is left of the part
    pub fills : k + length (joined (with_id id (fragments_in s xs))) ≡ length now
    fills =
        omega (
          arith,
          c.room,
          c.front.same,
          ap length c.front.done,
          length-append (take k now) (joined (with_id id (fragments_in s xs))),
          length-take-le k now c.front.within,
        )

    -- the part is full: all is stored
    pub joined-all : length now ≤ k → now ≡ joined (with_id id (fragments_left s from))
    joined-all h =
        filled (rw (none (joined (with_id id (fragments_in s xs))) (omega (arith, fills))) at c.front)
        ∙ ap (λ (l : List ℕ). joined (with_id id (fragments_left s from)) ++ l) (drop_of_length-le start {i = length (joined (with_id id (fragments_left s from)))} (omega (arith, c.room)))
        ∙ append-nil (joined (with_id id (fragments_left s from)))
      where
        none : (l : List ℕ) → length l ≡ 0 → l ≡ []
        none [] e = refl
        none (x ∷ l) e = absurd (omega arith)

    passes : {left : List PlacedSegment} → AllStand s left → joined (with_id id (fragments_in s xs)) ≡ joined (with_id id (fragments_in s left))
        → Joining s from id start now left k
    passes stand same = record { stand = stand; room = c.room; front = rw same at c.front }

    module _ {x : PlacedSegment} {left : List PlacedSegment} {f : FragmentNumbers} (r : Reads s xs x left f) where
      next : with_id id (fragments_in s xs) ≡ with_id id (fragment_in s x ∷ fragments_in s left)
      next = ap (with_id id) r.next

      module _ (same : f.ods.object_id ≡ id) where
        rest : joined (with_id id (fragments_in s xs)) ≡ (fragment_in s x).bytes ++ joined (with_id id (fragments_in s left))
        rest =
            ap joined next
            ∙ ap joined (pick_first _ _ (eq-eqb (id_of (fragment_in s x)) id (sym (ap (λ (y : FragmentNumbers). y.ods.object_id) r.numbers) ∙ same)))

        its-length : f.len ≡ length (fragment_in s x).bytes
        its-length = ap (λ (y : FragmentNumbers). y.len) r.numbers

        -- its data lies within the stream, and fits the part
        pub joins-from : f.start + f.len ≤ length s
        joins-from = omega (arith, ap (λ (y : FragmentNumbers). y.start) r.numbers, its-length, data-within s x.at r.itself.step r.kind)

        pub joins-to : k + f.len ≤ length now
        joins-to =
            omega (arith, fills, ap length rest, length-append (fragment_in s x).bytes (joined (with_id id (fragments_in s left))), its-length)

        its-bytes : take (f.start + f.len - f.start) (drop f.start s) ≡ (fragment_in s x).bytes
        its-bytes =
            let n : f.start + f.len - f.start ≡ length (fragment_in s x).bytes = omega (arith, its-length) in
            (λ j. take (n j) (drop (ap (λ (y : FragmentNumbers). y.start) r.numbers j) s)) ∙ data-part s x.at r.itself.step r.kind

        -- its data is copied
        pub joins-on : {ys : List ℕ} → ys ≡ take (f.start + f.len - f.start) (drop f.start s)
            → Joining s from id start (take k now ++ (ys ++ drop (k + f.len - k) (drop k now))) left (k + f.len)
        joins-on {ys} ey =
            rw copied
            (rw n
            (record {
              stand = r.stand;
              room = c.room;
              front = part-back (fragment_in s x).bytes (rw rest at c.front) its-length joins-to;
            }))
          where
            n : k + f.len - k ≡ f.len
            n = omega arith

            copied : ys ≡ (fragment_in s x).bytes
            copied = ey ∙ its-bytes

-- the rows before i are joined, in `at` bytes
pub record Placing (s : List ℕ) (rows : List ChainRow) (start now : List ℕ) (i at : ℕ) : Type 0 where
  pub within : i ≤ length rows
  pub joins : at + joined_in (drop i rows) ≡ joined_in rows
  pub joinable : AllJoinable s (drop i rows)
  pub front : Front start (joined_rows s rows) now (joined_rows s (drop i rows)) at

module _ (s : List ℕ) (rows : List ChainRow) where
  module _ {start now : List ℕ} {i at : ℕ} (c : Placing s rows start now i at) where
    module _ (m : i < length rows) where
      pub its : AllJoinable s (get_or rows i no_row ∷ drop (i + 1) rows)
      its = rw (drop-next rows i no_row m) at c.joinable

      -- the bytes of this row come before those of the rows behind it
      rows-here : {ys : List ℕ} → row_bytes s (get_or rows i no_row) ≡ ys → joined_rows s (drop i rows) ≡ ys ++ joined_rows s (drop (i + 1) rows)
      rows-here e = ap (joined_rows s) (drop-next rows i no_row m) ∙ ap (λ (l : List ℕ). l ++ joined_rows s (drop (i + 1) rows)) e

      -- a chain of one fragment stays in the stream
      pub places-none : (get_or rows i no_row).copied ≡ false → Placing s rows start now (i + 1) at
      places-none e =
          record {
            within = omega arith;
            joins = omega (arith, c.joins, ap joined_in (drop-next rows i no_row m), pick_second (get_or rows i no_row).len 0 e);
            joinable = its.1;
            front = rw (rows-here (pick_second (row_data s (get_or rows i no_row)) [] e)) at c.front;
          }

      -- a chain of several is joined
      module _ (e : (get_or rows i no_row).copied ≡ true) where
        pub places-within : joined_in rows ≤ length start → at + (get_or rows i no_row).len ≤ length now
        places-within room =
            omega (arith, c.joins, ap joined_in (drop-next rows i no_row m), pick_first (get_or rows i no_row).len 0 e, c.front.same)

        pub places-on : joined_in rows ≤ length start → {ys : List ℕ} → ys ≡ row_data s (get_or rows i no_row)
            → Placing s rows start (take at now ++ (ys ++ drop (at + (get_or rows i no_row).len - at) (drop at now))) (i + 1) (at + (get_or rows i no_row).len)
        places-on room {ys} ey =
            let n : at + (get_or rows i no_row).len - at ≡ (get_or rows i no_row).len = omega arith in
            rw (ey, n)
            (record {
              within = omega arith;
              joins = omega (arith, c.joins, ap joined_in (drop-next rows i no_row m), pick_first (get_or rows i no_row).len 0 e);
              joinable = its.1;
              front =
                  part-back (row_data s (get_or rows i no_row))
                  (rw (rows-here (pick_first (row_data s (get_or rows i no_row)) [] e)) at c.front)
                  (sym its.0.measured) (places-within room);
            })
