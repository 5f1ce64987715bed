-- The data that an object record shows, and that for the records and the scratch left by an accepted call it is the object's data.
-- Assumes nothing.
use mathlib.Core.Path.{◌≡◌, refl, sym, ap, subst, ◌∙◌}
use mathlib.Core.Bool.{Bool, true, false}
use mathlib.Core.List.{List, [], ◌∷◌, ◌++◌, map, append-nil, append_assoc}
use Prim.Native.Nat.{ℕ, zero, suc, ◌+◌, ◌-◌, ◌≤◌}
use native.Mathlib.Omega.{arith}
use borrow.Author.Tests.{le-leb}
use lib.Dec.{eqb}
use lib.ListN.{length, take, drop, get_or, length-append}
use lib.Seq.{take_at, drop-append_seam, take-append_seam}
use Rattle.pgs_base.specs.Outcome.{Verdict, accepted, gives, laid, pick}
use Rattle.pgs_base.proofs.Outcomes.{gave, gave-value}
use Rattle.pgs_segment.specs.OneSegment.{segment_type, used_by}
use Rattle.pgs_set.proofs.Choices.{pick_first}
use Rattle.pgs_reassembly.proofs.FragmentLaws.{data-within, data-part}
use Rattle.pgs_reassembly.proofs.ListingLaws.{record-count}
use Rattle.pgs_reassembly.proofs.ObjectLaws.{Begins, AllBegin, all-begin, begin-fragments, piece-here}
use Rattle.pgs_reassembly.specs.Objects.{Fragment, Chain, fragment_at, fragments_from, fragments_of, chains_of, joined, data_of, data_place, objects_of}
use Rattle.pgs_set.specs.Sets.{no_set, is_pcs, through_end, sets_from, sets_of}
use Rattle.pgs_reassembly.specs.Reassembly.{any_more, copied, copied_data, joined_data, object_records}
use Rattle.pgs_reassembly.specs.Reassembly.{object_records_from, row_of, object_rows, reassembly, Reassembled, part_of}
use Rattle.pgs_reassembly.specs.Reassembly.{record_data, shown_by}
use Rattle.pgs_reassembly.specs.declared.ObjectRecord.{ObjectRecord}
use Rattle.pgs_set.specs.Walks.{pieces_at, SetBegins, set_at}

-- how a part is taken

module _ (at n : ℕ) (l : List ℕ) where
  part-within : at ≤ length l → n ≤ length l - at → part_of at n l ≡ take n (drop at l)
  part-within h q = pick_first _ [] (le-leb at (length l) h) ∙ pick_first (take n (drop at l)) [] (le-leb n (length l - at) q)

  pub part-whole : at ≤ length l → n ≤ length l - at → take (at + n - at) (drop at l) ≡ part_of at n l
  part-whole h q = let e : at + n - at ≡ n = omega arith in ap (λ (k : ℕ). take k (drop at l)) e ∙ sym (part-within h q)

-- a part of three lists joined is the one in the middle
part-middle : (a b c : List ℕ) → part_of (length a) (length b) (a ++ (b ++ c)) ≡ b
part-middle a b c =
    part-within (length a) (length b) (a ++ (b ++ c)) (omega (arith, all)) (omega (arith, all))
    ∙ ap (take (length b)) (drop-append_seam a (b ++ c))
    ∙ take-append_seam b c
  where
    all : length (a ++ (b ++ c)) ≡ length a + (length b + length c)
    all = length-append a (b ++ c) ∙ ap (λ (n : ℕ). length a + n) (length-append b c)

-- a chain of one fragment shows its data in the stream
module _ (s : List ℕ) where
  alone : (c : Chain) → Begins s c → any_more c.further ≡ false → part_of (data_place c.first) (length (data_of c)) s ≡ data_of c
  alone c b e =
      ap (λ (l : List ℕ). part_of (data_place c.first) (length l) s) whole
      ∙ ap (λ (f : Fragment). part_of (data_place f) (length f.bytes) s) b.itself
      ∙ part-within (data_place here) (length here.bytes) s (omega (arith, within)) (omega (arith, within))
      ∙ data-part s c.first.place b.ok b.kind
      ∙ sym (ap (λ (f : Fragment). f.bytes) b.itself)
      ∙ sym whole
    where
      here : Fragment
      here = fragment_at c.first.place (drop c.first.place s)

      within : data_place (fragment_at c.first.place (drop c.first.place s)) + length (fragment_at c.first.place (drop c.first.place s)).bytes ≤ length s
      within = data-within s c.first.place b.ok b.kind

      none : (fs : List Fragment) → any_more fs ≡ false → joined fs ≡ []
      none [] q = refl
      none (f ∷ fs) q = cc

      whole : data_of c ≡ c.first.bytes
      whole = ap (λ (l : List ℕ). c.first.bytes ++ l) (none c.further e) ∙ append-nil c.first.bytes

  -- the records of chains show their data, with the copied data in a list behind what was placed before
  shown-from : (cs : List Chain) → AllBegin s cs → (front rest : List ℕ)
      → map (record_data s (front ++ (joined_data cs ++ rest))) (object_records_from (length front) cs) ≡ map data_of cs
  shown-from [] a front rest = refl
  shown-from (c ∷ cs) a front rest = λ j. this (copied c) refl j ∷ (others ∙ shown-from cs a.1 (front ++ copied_data c) rest) j
    where
      this : (b : Bool) → copied c ≡ b
          → pick b
          (part_of (pick b (length front) (data_place c.first)) (length (data_of c)) (front ++ ((pick b (data_of c) [] ++ joined_data cs) ++ rest)))
          (part_of (pick b (length front) (data_place c.first)) (length (data_of c)) s)
          ≡ data_of c
      this true e =
          ap (λ (l : List ℕ). part_of (length front) (length (data_of c)) (front ++ l))
          (append_assoc (data_of c) (joined_data cs) rest)
          ∙ part-middle front (data_of c) (joined_data cs ++ rest)
      this false e = alone c a.0 e

      moved : front ++ ((copied_data c ++ joined_data cs) ++ rest) ≡ (front ++ copied_data c) ++ (joined_data cs ++ rest)
      moved = ap (λ (l : List ℕ). front ++ l) (append_assoc (copied_data c) (joined_data cs) rest) ∙ sym (append_assoc front (copied_data c) (joined_data cs ++ rest))

      others : map (record_data s (front ++ ((copied_data c ++ joined_data cs) ++ rest))) (object_records_from (length front + length (copied_data c)) cs)
          ≡ map (record_data s ((front ++ copied_data c) ++ (joined_data cs ++ rest))) (object_records_from (length (front ++ copied_data c)) cs)
      others = λ j. map (record_data s (moved j)) (object_records_from (sym (length-append front (copied_data c)) j) cs)

  -- every set's chains begin where they say
  sets-begin : (xs : List (List ℕ)) (at k : ℕ) → pieces_at s at ≡ xs → AllBegin s (chains_of (fragments_of (get_or (sets_from at xs) k no_set)))
  sets-begin [] at k e = tt
  sets-begin (x ∷ xs) at k e = go (is_pcs (segment_type x)) k (sets-begin xs (at + length x))
    where
      after : pieces_at s (at + length x) ≡ xs
      after = piece-here s x xs at e

      go : (b : Bool) (k : ℕ) → ((m : ℕ) → pieces_at s (at + length x) ≡ xs → AllBegin s (chains_of (fragments_of (get_or (sets_from (at + length x) xs) m no_set))))
          → AllBegin s
          (chains_of
          (fragments_of
          (get_or (pick b (record { place = at; opening = x; others = through_end xs } ∷ sets_from (at + length x) xs) (sets_from (at + length x) xs)) k no_set)))
      go true zero ih =
          subst (λ (ps : List (List ℕ)). AllBegin s (chains_of (fragments_from (at + length x) (through_end ps)))) after (all-begin s (at + length x))
      go true (suc k) ih = ih k after
      go false k ih = ih k after

-- so those of a set of a number
pub objects-begin : (k : ℕ) (s : List ℕ) → AllBegin s (objects_of k s)
unfolding objects_of sets_of
objects-begin k s = sets-begin s (pieces_at s 0) 0 k refl

-- the records of a set's objects show their data, in the stream and in a scratch that begins with the joined data
pub record-data : (k : ℕ) (s rest : List ℕ)
    → map (record_data s (joined_data (objects_of k s) ++ rest)) (object_records (objects_of k s)) ≡ map data_of (objects_of k s)
record-data k s rest = shown-from s (objects_of k s) (objects-begin k s) [] rest

-- the same of the set whose PCS stands at a place
pub placed-data : (s : List ℕ) {at : ℕ} → SetBegins s at → (rest : List ℕ)
    → let cs = chains_of (fragments_of (set_at s at)) in map (record_data s (joined_data cs ++ rest)) (object_records cs) ≡ map data_of cs
placed-data s {at} b rest =
    shown-from s (chains_of (fragments_of (set_at s at))) (rw (begin-fragments s b) (all-begin s (at + used_by (drop at s)))) [] rest

-- a row shows what its record does
pub row-data : (s x : List ℕ) (r : ObjectRecord) → shown_by s x (row_of r) ≡ record_data s x r
row-data s x r = go r.copied
  where
    go : (b : Bool)
        → pick (eqb (pick b 1 0) 0) (part_of r.place r.len s) (pick (eqb (pick b 1 0) 1) (part_of r.place r.len x) [])
        ≡ pick b (part_of r.place r.len x) (part_of r.place r.len s)
    go true = refl
    go false = refl

pub rows-data : (s x : List ℕ) (rs : List ObjectRecord) → map (shown_by s x) (map row_of rs) ≡ map (record_data s x) rs
rows-data s x [] = refl
rows-data s x (r ∷ rs) = λ j. row-data s x r j ∷ rows-data s x rs j

pub shown-data : (k : ℕ) (s rest : List ℕ) → map (shown_by s (joined_data (objects_of k s) ++ rest)) (object_rows (objects_of k s)) ≡ map data_of (objects_of k s)
shown-data k s rest = rows-data s (joined_data (objects_of k s) ++ rest) (object_records (objects_of k s)) ∙ record-data k s rest

-- so after an accepted call
pub shown-after : (k : ℕ) (s : List ℕ) (v : Verdict) {list list' : List (List ℕ)} {scratch scratch' : List ℕ} {n : ℕ}
    → Reassembled row_of v (objects_of k s) list list' scratch scratch' (gives n) → map (shown_by s scratch') (take n list') ≡ map data_of (objects_of k s)
shown-after k s v {list} {list'} {scratch} {scratch'} {n} r =
    (λ j. map (shown_by s (new-scratch j)) (new-list j)) ∙ shown-data k s (drop (length (joined_data (objects_of k s))) scratch)
  where
    done : reassembly v (objects_of k s) list scratch ≡ accepted
    done = gave (reassembly v (objects_of k s) list scratch) (length (objects_of k s)) r.answered

    new-scratch : scratch' ≡ joined_data (objects_of k s) ++ drop (length (joined_data (objects_of k s))) scratch
    new-scratch = r.written ∙ ap (λ (w : Verdict). laid w (joined_data (objects_of k s)) scratch) done

    new-list : take n list' ≡ object_rows (objects_of k s)
    new-list =
        ap (take n) (r.listed ∙ ap (λ (w : Verdict). laid w (object_rows (objects_of k s)) list) done)
        ∙ take_at (object_rows (objects_of k s)) (drop (length (object_rows (objects_of k s))) list) n
        (record-count 0 (objects_of k s) ∙ sym (gave-value (reassembly v (objects_of k s) list scratch) (length (objects_of k s)) r.answered))
