-- The display sets of a stream from a place on, one after another: each begins with its PCS there. Assumes nothing.
use mathlib.Core.Path.{◌≡◌, refl, sym, ap, ◌∙◌}
use mathlib.Core.Bool.{Bool, true, false}
use mathlib.Core.List.{List, [], ◌∷◌, map}
use Prim.Native.Nat.{ℕ, zero, suc, ◌+◌, ◌≤◌, ◌<◌}
use native.Mathlib.Omega.{arith}
use borrow.Author.Tests.{leb-true, leb-false}
use lib.Dec.{leb}
use lib.ListN.{length, drop, get_or, length-map}
use Rattle.pgs_base.specs.Outcome.{accepted}
use Rattle.pgs_base.proofs.Outcomes.{first-accepts, second_holds}
use Rattle.pgs_segment.specs.Header.{pts_of, header_fields}
use Rattle.pgs_segment.specs.OneSegment.{used_by}
use Rattle.pgs_stream.specs.Stream.{stream_verdict}
use Rattle.pgs_set.proofs.SegmentLaws.{segments-end}
use Rattle.pgs_set.proofs.SetLaws.{outside-here, opens-here, set_here, sets-after, set-ends}
use Rattle.pgs_set.proofs.WalkLaws.{head-field, pieces_end}
use Rattle.pgs_set.specs.Records.{record_row, set_records, RowsOfRecords}
use Rattle.pgs_set.specs.Sets.{DisplaySet, no_set, sets_from, sets_of, set_count, set_number, set_record, set_row, sets_verdict}
use Rattle.pgs_set.specs.Walks.{pieces_at, Standing, Ends, SetBegins, SetStands, set_at}
use Rattle.pgs_set.specs.declared.grouping.Grouping.TheVariants.{Outside}
use Rattle.pgs_set.specs.declared.set.SetRecord.{SetRecord}

-- the sets of an accepted stream
pub stream-stands : (s : List ℕ) → sets_verdict s ≡ accepted → Standing Outside s 0
stream-stands s e = record { inside = omega arith; good = first-accepts (stream_verdict s) _ e; grouped = second_holds (stream_verdict s) _ e }

-- behind the last set there is none
pub sets-none : (s : List ℕ) (at : ℕ) → length s ≤ at → sets_from at (pieces_at s at) ≡ []
sets-none s at h = ap (sets_from at) (pieces_end s at h)

-- a set that begins here, and the place just after it
module _ (s : List ℕ) {at : ℕ} (b : SetBegins s at) where
  pub begins-at : (set_at s at).place ≡ at
  begins-at = ap (λ (d : DisplaySet). d.place) (set_here s b.standing b.more)

  module _ {r : ℕ} (e : Ends s (at + used_by (drop at s)) r) where
    pub next-record : {pts : ℕ} → pts ≡ (header_fields (drop at s)).pts → set_record (set_at s at) ≡ record { place = at; end = r; pts = pts }
    next-record q =
        λ j.
        record {
          place = begins-at j;
          end = sym (set-ends s b.standing b.more e) j;
          pts =
              (ap (λ (d : DisplaySet). pts_of d.opening) (set_here s b.standing b.more)
              ∙ head-field 4 2 (drop at s) (outside-here s b.standing b.more) (omega arith)
              ∙ sym q) j;
        }

    pub next-records : {pts : ℕ} → pts ≡ (header_fields (drop at s)).pts
        → map set_record (sets_from at (pieces_at s at)) ≡ record { place = at; end = r; pts = pts } ∷ map set_record (sets_from r (pieces_at s r))
    next-records q =
        ap (map set_record) (sets-after s b.standing b.more e)
        ∙ ap (λ (x : SetRecord). x ∷ map set_record (sets_from r (pieces_at s r))) (next-record q)

-- what holds of no sets, and of a set and those after it where it holds of those, holds of the sets from a place on
module _ (s : List ℕ) (P : List DisplaySet → Type 0) (none : P [])
    (more : (at r : ℕ) → SetBegins s at → Ends s (at + used_by (drop at s)) r → P (sets_from r (pieces_at s r)) → P (set_at s at ∷ sets_from r (pieces_at s r))) where
  by-bytes : (n at : ℕ) → Standing Outside s at → length s ≤ at + n → P (sets_from at (pieces_at s at))
  by-bytes zero at st h = rw (sets-none s at (omega arith)) none
  by-bytes (suc n) at st h =
      go (leb (length s) at) refl (λ (r : ℕ) (t : Standing Outside s r) (k : length s ≤ r + n). by-bytes n r t k)
    where
      go : (b : Bool) → leb (length s) at ≡ b → ((r : ℕ) → Standing Outside s r → length s ≤ r + n → P (sets_from r (pieces_at s r)))
          → P (sets_from at (pieces_at s at))
      go true q on = rw (sets-none s at (leb-true (length s) at q)) none
      go false q on =
          let b : SetBegins s at = record { standing = st; more = leb-false (length s) at q } in
          let e = segments-end s (opens-here s st b.more) in
          rw (sets-after s st b.more e) (more at _ b e (on _ e.after (omega (arith, e.on))))

  pub by-sets : (at : ℕ) → Standing Outside s at → P (sets_from at (pieces_at s at))
  by-sets at st = by-bytes (length s) at st (omega arith)

-- a set begins at the place of each of these records
abbrev pub AllBegin : List ℕ → List SetRecord → Type 0
AllBegin s [] = Unit {0}
AllBegin s (x ∷ xs) = SetBegins s x.place × AllBegin s xs

-- the set of this number, where there is one, is that which begins at its place
abbrev Stand : List ℕ → List DisplaySet → Type 0
Stand s ds = (k : ℕ) → k < length ds → SetBegins s (get_or ds k no_set).place × (set_at s (get_or ds k no_set).place ≡ get_or ds k no_set)

module _ (s : List ℕ) (e : sets_verdict s ≡ accepted) where
  pub records-begin : AllBegin s (set_records s)
  unfolding sets_of
  records-begin =
      by-sets s (λ (ds : List DisplaySet). AllBegin s (map set_record ds)) tt
      (λ at r b x on. (rw (begins-at s b) b, on)) 0 (stream-stands s e)

  all-stand : Stand s (sets_of s)
  unfolding sets_of
  all-stand = by-sets s (Stand s) (λ k h. absurd (omega arith)) one 0 (stream-stands s e)
    where
      one : (at r : ℕ) → SetBegins s at → Ends s (at + used_by (drop at s)) r → Stand s (sets_from r (pieces_at s r))
          → Stand s (set_at s at ∷ sets_from r (pieces_at s r))
      one at r b x on zero h = (rw (begins-at s b) b, ap (set_at s) (begins-at s b))
      one at r b x on (suc k) h = on k (omega arith)

  pub number-stands : (k : ℕ) → k < set_count s → SetStands s k (set_number k s).place
  number-stands k h =
      let st = all-stand k h in
      record { standing = st.0.standing; more = st.0.more; found = st.1 }

-- as many records as sets
pub set-records : {A : Type 0} (made : SetRecord → A) (s : List ℕ) → length (map made (set_records s)) ≡ set_count s
set-records made s = length-map (set_records s) made ∙ length-map (sets_of s) set_record

-- the rows of the sets are those of their records
pub rows-of-records : RowsOfRecords
rows-of-records s = go (sets_of s)
  where
    go : (ds : List DisplaySet) → map record_row (map set_record ds) ≡ map set_row ds
    go [] = refl
    go (d ∷ ds) = ap (λ (rows : List (List ℕ)). set_row d ∷ rows) (go ds)
