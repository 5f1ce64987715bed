-- The chains of a set and where their data stands, and how finding, listing and joining them end. Assumes nothing.
use mathlib.Core.Path.{◌≡◌, refl, sym, ap, subst, ◌∙◌}
use mathlib.Core.Bool.{Bool, true, false}
use mathlib.Core.List.{List, [], ◌∷◌, ◌++◌, map}
use Prim.Native.Nat.{ℕ, ◌+◌, ◌≤◌, ◌<◌}
use native.Mathlib.Omega.{arith}
use borrow.Author.Tests.{eq-eqb, le-leb, lt-leb, leb-true}
use lib.Dec.{leb, ltb}
use lib.ListN.{length, take, drop, length-map}
use Rattle.pgs_base.specs.Outcome.{Verdict, accepted, refused, gives, refuses, and_then, unless, needing, laid, delivery, Delivered, pick}
use Rattle.pgs_base.proofs.Outcomes.{not-both, not-refused, first-accepts, holds, second_holds}
use Rattle.pgs_segment.specs.OneSegment.{segment_type, used_by}
use Rattle.pgs_stream.specs.Stream.{Reading, step_verdict}
use Rattle.pgs_stream.proofs.StreamLaws.{read-stops}
use Rattle.pgs_set.proofs.Choices.{pick_first}
use Rattle.pgs_set.proofs.SegmentLaws.{by-segments}
use Rattle.pgs_set.proofs.SetLaws.{set_here, inside-here, opens-here, outside-here}
use Rattle.pgs_set.proofs.WalkLaws.{pieces-here, piece-length}
use Rattle.pgs_set.specs.Sets.{set_number, set_verdict, is_end, through_end, set_count, sets_verdict}
use Rattle.pgs_set.specs.Walks.{pieces_at, InSet, SetBegins, set_at}
use Rattle.pgs_set.specs.declared.open_set.PlacedSet.{PlacedSet}
use Rattle.pgs_stream.specs.declared.segments.PlacedSegment.{PlacedSegment}
use Rattle.pgs_reassembly.proofs.ChainLaws.{rows-all, total-with}
use Rattle.pgs_reassembly.proofs.FragmentLaws.{none_left, left-same, left-next, bytes-left}
use Rattle.pgs_reassembly.proofs.ListingLaws.{joined-total, rows-verdict, rows-joined, rows-records, objects-count}
use Rattle.pgs_reassembly.specs.Objects.{Fragment, Chain, is_ods, fragment_at, fragments_from, id_of, opens_chain}
use Rattle.pgs_reassembly.specs.Objects.{with_id, joined, chains_of, data_of, chains_verdict, fragments_verdict, object_limit}
use Rattle.pgs_reassembly.specs.Objects.{verdict_after, fragments_of, objects_of, objects_verdict, objects_verdict_within}
use Rattle.pgs_reassembly.specs.Reassembly.{copied, joined_data, object_records, reassembly, Joined, Reassembled}
use Rattle.pgs_reassembly.specs.Tables.{chain_row, total, Leaves, Rows, Found, rows_verdict, joined_in, records_from, row_data, joined_rows, AllJoinable, fragments_left}
use Rattle.pgs_reassembly.specs.declared.ChainRow.{ChainRow}
use Rattle.pgs_reassembly.specs.declared.ObjectRecord.{ObjectRecord}

-- a chain's first fragment is the ODS at its place, and the fragments of its id from there on have its data
pub record Begins (s : List ℕ) (c : Chain) : Type 0 where
  pub ok : step_verdict (drop c.first.place s) ≡ accepted
  pub kind : is_ods (segment_type (drop c.first.place s)) ≡ true
  pub itself : c.first ≡ fragment_at c.first.place (drop c.first.place s)
  pub together : row_data s (chain_row c) ≡ data_of c

abbrev pub AllBegin : List ℕ → List Chain → Type 0
AllBegin s [] = Unit {0}
AllBegin s (c ∷ cs) = Begins s c × AllBegin s cs

-- where there is a segment, it is accepted, and the others stand behind it
module _ (s : List ℕ) (x : List ℕ) (xs : List (List ℕ)) (at : ℕ) (e : pieces_at s at ≡ x ∷ xs) where
  step-of-piece : step_verdict (drop at s) ≡ accepted
  step-of-piece =
      not-refused (step_verdict (drop at s))
      (λ k q. omega (arith, sym (ap length e) ∙ ap (λ (r : Reading). length r.pieces) (read-stops (drop at s) q)))

  rest-behind : pieces_at s (at + used_by (drop at s)) ≡ xs
  rest-behind = let p = pieces-here s at step-of-piece in cc

  pub piece-here : pieces_at s (at + length x) ≡ xs
  piece-here =
      let p = pieces-here s at step-of-piece in
      let q : x ≡ take (used_by (drop at s)) (drop at s) = cc in
      ap (λ (n : ℕ). pieces_at s (at + n)) (ap length q ∙ piece-length (drop at s) step-of-piece) ∙ rest-behind

-- so for every chain of a set
all_from : (s : List ℕ) (xs : List (List ℕ)) (at : ℕ) → pieces_at s at ≡ xs → AllBegin s (chains_of (fragments_left s at))
all_from s [] at e = subst (λ (ps : List (List ℕ)). AllBegin s (chains_of (fragments_from at (through_end ps)))) (sym e) tt
all_from s (x ∷ xs) at e = go (is_end (segment_type (drop at s))) (is_ods (segment_type (drop at s))) refl refl (all_from s xs (at + used_by (drop at s)) (rest-behind s x xs at e))
  where
    ok : step_verdict (drop at s) ≡ accepted
    ok = step-of-piece s x xs at e

    go : (b o : Bool) → is_end (segment_type (drop at s)) ≡ b → is_ods (segment_type (drop at s)) ≡ o
        → AllBegin s (chains_of (fragments_left s (at + used_by (drop at s)))) → AllBegin s (chains_of (fragments_left s at))
    go true o p q ih = subst (λ (fs : List Fragment). AllBegin s (chains_of fs)) (sym (none_left s at ok p)) tt
    go false false p q ih = subst (λ (fs : List Fragment). AllBegin s (chains_of fs)) (sym (left-same s at ok p q)) ih
    go false true p q ih = subst (λ (fs : List Fragment). AllBegin s (chains_of fs)) (sym split) (opens (opens_chain (fragment_at at (drop at s))))
      where
        split : fragments_left s at ≡ fragment_at at (drop at s) ∷ fragments_left s (at + used_by (drop at s))
        split = left-next s at ok p q

        this : Begins s (record { first = fragment_at at (drop at s); further = with_id (id_of (fragment_at at (drop at s))) (fragments_left s (at + used_by (drop at s))) })
        this =
            record {
              ok = ok;
              kind = q;
              itself = refl;
              together =
                  ap (λ (fs : List Fragment). joined (with_id (id_of (fragment_at at (drop at s))) fs)) split
                  ∙ ap joined (pick_first _ _ (eq-eqb (id_of (fragment_at at (drop at s))) (id_of (fragment_at at (drop at s))) refl));
            }

        opens : (b : Bool)
            → AllBegin s
            (pick b
            (record {
              first = fragment_at at (drop at s);
              further = with_id (id_of (fragment_at at (drop at s)))
                  (fragments_left s (at + used_by (drop at s)));
            } ∷ chains_of (fragments_left s (at + used_by (drop at s))))
            (chains_of (fragments_left s (at + used_by (drop at s)))))
        opens true = (this, ih)
        opens false = ih

pub all-begin : (s : List ℕ) (at : ℕ) → AllBegin s (chains_of (fragments_left s at))
all-begin s at = all_from s (pieces_at s at) at refl

-- and a set is open where its first segment stands
abbrev pub AllOpen : List ℕ → List Chain → Type 0
AllOpen s [] = Unit {0}
AllOpen s (c ∷ cs) = InSet s c.first.place × AllOpen s cs

pub all-open : (s : List ℕ) {at : ℕ} → InSet s at → AllOpen s (chains_of (fragments_left s at))
all-open s {at} i = by-segments s (λ (p : ℕ) (xs : List PlacedSegment). AllOpen s (chains_of (fragments_left s p))) last more at i
  where
    over : {fs gs : List Fragment} → fs ≡ gs → AllOpen s (chains_of gs) → AllOpen s (chains_of fs)
    over e a = subst (λ (l : List Fragment). AllOpen s (chains_of l)) (sym e) a

    last : (p : ℕ) → InSet s p → is_end (segment_type (drop p s)) ≡ true → AllOpen s (chains_of (fragments_left s p))
    last p k e = over (none_left s p (inside-here s k) e) tt

    more : (p : ℕ) → InSet s p → is_end (segment_type (drop p s)) ≡ false → AllOpen s (chains_of (fragments_left s (p + used_by (drop p s))))
        → AllOpen s (chains_of (fragments_left s p))
    more p k e on = go (is_ods (segment_type (drop p s))) refl
      where
        opens : (b : Bool)
            → AllOpen s
            (pick b
            (record { first = fragment_at p (drop p s); further = with_id (id_of (fragment_at p (drop p s))) (fragments_left s (p + used_by (drop p s))) }
            ∷ chains_of (fragments_left s (p + used_by (drop p s))))
            (chains_of (fragments_left s (p + used_by (drop p s)))))
        opens true = (k, on)
        opens false = on

        go : (b : Bool) → is_ods (segment_type (drop p s)) ≡ b → AllOpen s (chains_of (fragments_left s p))
        go false q = over (left-same s p (inside-here s k) e q) on
        go true q = over (left-next s p (inside-here s k) e q) (opens (opens_chain (fragment_at p (drop p s))))

-- the rows of such chains can be joined, and lead to the joined data
rows-joinable : (s : List ℕ) (cs : List Chain) → AllBegin s cs → AllOpen s cs → AllJoinable s (map chain_row cs)
rows-joinable s [] a o = tt
rows-joinable s (c ∷ cs) a o = (record { in_set = o.0; measured = ap length a.0.together }, rows-joinable s cs a.1 o.1)

rows-data : (s : List ℕ) (cs : List Chain) → AllBegin s cs → joined_rows s (map chain_row cs) ≡ joined_data cs
rows-data s [] a = refl
rows-data s (c ∷ cs) a = λ j. pick (copied c) (a.0.together j) [] ++ rows-data s cs a.1 j

-- how finding the objects ends

pub found-refusal : {s : List ℕ} {v : Verdict} {cs : List Chain} {now : List ChainRow} {k : ℕ} → v ≡ refused k → Found s v cs now (refused k)
found-refusal e = record { answered = sym e; found = λ a. absurd (not-both a refl) }

module _ (s : List ℕ) {from : ℕ} (i : InSet s from) {now : List ChainRow} {answer : Verdict}
    (w : Leaves (verdict_after object_limit [] (fragments_left s from)) (map chain_row (chains_of (fragments_left s from))) now answer)
    (small : answer ≡ accepted → total now ≤ length s) where
  -- finding the chains was refused
  pub finding-refused : {any : List ChainRow} {k : ℕ} → answer ≡ refused k
      → Found s (fragments_verdict object_limit (fragments_left s from)) (chains_of (fragments_left s from)) any (refused k)
  finding-refused a =
      found-refusal (ap (λ (v : Verdict). and_then v (chains_verdict (chains_of (fragments_left s from)))) (sym w.answered ∙ a))

  module _ (a : answer ≡ accepted) where
    -- the tests of the objects decide
    decides : fragments_verdict object_limit (fragments_left s from) ≡ rows_verdict now
    decides =
        ap (λ (v : Verdict). and_then v (chains_verdict (chains_of (fragments_left s from)))) (sym w.answered ∙ a)
        ∙ sym (ap rows_verdict (w.left a) ∙ rows-verdict (chains_of (fragments_left s from)))

    pub tests-end : {v : Verdict} → v ≡ rows_verdict now
        → Found s (fragments_verdict object_limit (fragments_left s from)) (chains_of (fragments_left s from)) now v
    tests-end e =
        record {
          answered = e ∙ sym decides;
          found = λ _. record {
            rows = w.left a;
            small = small a;
            joinable = rw (w.left a) (rows-joinable s (chains_of (fragments_left s from)) (all-begin s from) (all-open s i));
            bytes = ap (joined_rows s) (w.left a) ∙ rows-data s (chains_of (fragments_left s from)) (all-begin s from);
          };
        }

-- how the calls over what was found end
module _ {s : List ℕ} {cs : List Chain} {now : List ChainRow} (r : Rows s cs now) where
  pub rows-count : length now ≡ length cs
  rows-count = ap length r.rows ∙ length-map cs chain_row

  pub need-is : joined_in now ≡ length (joined_data cs)
  need-is = ap joined_in r.rows ∙ rows-joined cs

  pub its-records : records_from 0 now ≡ object_records cs
  its-records = ap (records_from 0) r.rows ∙ rows-records 0 cs

-- a call over these objects, and a list that has room for their records
module _ (v : Verdict) (cs : List Chain) (room : ℕ) where
  room-for : and_then v (needing (length cs) room) ≡ accepted → length cs ≤ room
  room-for e = leb-true (length cs) room (holds 34 (leb (length cs) room) (second_holds v (needing (length cs) room) e))

  -- the objects are refused, or there is no room
  pub unlisted : {s : List ℕ} {now any : List ChainRow} {k : ℕ} → Found s v cs now (refused k) → Found s (and_then v (needing (length cs) room)) cs any (refused k)
  unlisted f = found-refusal (ap (λ (w : Verdict). and_then w (needing (length cs) room)) (sym f.answered))

  module _ {s : List ℕ} {now : List ChainRow} (f : Found s v cs now accepted) where
    listed-verdict : {t : Bool} → leb (length cs) room ≡ t → and_then v (needing (length cs) room) ≡ unless 34 t
    listed-verdict e = (λ j. and_then (sym f.answered j) (unless 34 (e j)))

    pub no_room : room < length now → Found s (and_then v (needing (length cs) room)) cs now (refused 34)
    no_room h = found-refusal (listed-verdict (lt-leb (length cs) room (omega (arith, rows-count (f.found refl)))))

    pub with-room : length now ≤ room → Found s (and_then v (needing (length cs) room)) cs now accepted
    with-room h =
        record { answered = sym (listed-verdict (le-leb (length cs) room (omega (arith, rows-count (f.found refl))))); found = λ a. f.found refl }

-- listing them
module _ {A : Type 0} (made : ObjectRecord → A) (v : Verdict) (cs : List Chain) (list : List A) where
  as-delivery : delivery v (map made (object_records cs)) list ≡ and_then v (needing (length cs) (length list))
  as-delivery =
      ap (λ (n : ℕ). and_then v (needing n (length list))) (length-map (object_records cs) made ∙ objects-count 0 cs)

  module _ {s : List ℕ} {now : List ChainRow} where
    pub lists-refusal : {k : ℕ} → Found s (and_then v (needing (length cs) (length list))) cs now (refused k)
        → Delivered v (length cs) (map made (object_records cs)) list list (refuses k)
    lists-refusal f = record { answered = rw (as-delivery, ← f.answered); written = rw (as-delivery, ← f.answered) }

    module _ (f : Found s (and_then v (needing (length cs) (length list))) cs now accepted) where
      pub fits-list : length now ≤ length list
      fits-list = omega (arith, rows-count (f.found refl), room-for v cs (length list) (sym f.answered))

      its-list : {list' : List A} → list' ≡ laid accepted (map made (records_from 0 now)) list → list' ≡ laid accepted (map made (object_records cs)) list
      its-list e = e ∙ ap (λ (l : List ObjectRecord). laid accepted (map made l) list) (its-records (f.found refl))

      pub lists-all : {list' : List A} → list' ≡ laid accepted (map made (records_from 0 now)) list
          → Delivered v (length cs) (map made (object_records cs)) list list' (gives (length now))
      lists-all e =
          record {
            answered = rw (as-delivery, ← f.answered) (ap gives (rows-count (f.found refl)));
            written = rw (as-delivery, ← f.answered) (its-list e);
          }

-- and joining them
module _ {A : Type 0} (made : ObjectRecord → A) (v : Verdict) (cs : List Chain) (list : List A) (scratch : List ℕ) where
  as-reassembly : reassembly v cs list scratch
      ≡ and_then (and_then v (needing (length cs) (length list))) (needing (length (joined_data cs)) (length scratch))
  as-reassembly = go v
    where
      go : (w : Verdict) → reassembly w cs list scratch
          ≡ and_then (and_then w (needing (length cs) (length list))) (needing (length (joined_data cs)) (length scratch))
      go accepted = refl
      go (refused k) = refl

  reassembly-is : reassembly v cs list scratch ≡ accepted → {list' : List A} {scratch' : List ℕ} {n : ℕ}
      → n ≡ length cs → list' ≡ laid accepted (map made (object_records cs)) list → scratch' ≡ laid accepted (joined_data cs) scratch
      → Reassembled made v cs list list' scratch scratch' (gives n)
  reassembly-is e en el es = record { answered = rw e (ap gives en); listed = rw e el; written = rw e es }

  reassembly-refused : {k : ℕ} → reassembly v cs list scratch ≡ refused k → Reassembled made v cs list list scratch scratch (refuses k)
  reassembly-refused e = record { answered = rw e; listed = rw e; written = rw e }

  module _ {s : List ℕ} {now : List ChainRow} where
    pub reassembles-refusal : {k : ℕ} → Found s (and_then v (needing (length cs) (length list))) cs now (refused k)
        → Reassembled made v cs list list scratch scratch (refuses k)
    reassembles-refusal f =
        reassembly-refused (as-reassembly ∙ ap (λ (w : Verdict). and_then w (needing (length (joined_data cs)) (length scratch))) (sym f.answered))

    module _ (f : Found s (and_then v (needing (length cs) (length list))) cs now accepted) where
      joining-verdict : {t : Bool} → leb (length (joined_data cs)) (length scratch) ≡ t → reassembly v cs list scratch ≡ unless 34 t
      joining-verdict e = as-reassembly ∙ (λ j. and_then (sym f.answered j) (unless 34 (e j)))

      pub reassembles-short : length scratch < joined_in now → Reassembled made v cs list list scratch scratch (refuses 34)
      reassembles-short h = reassembly-refused (joining-verdict (lt-leb _ _ (omega (arith, need-is (f.found refl)))))

      pub reassembles-all : joined_in now ≤ length scratch → {list' : List A} {scratch' : List ℕ}
          → list' ≡ laid accepted (map made (records_from 0 now)) list → scratch' ≡ laid accepted (joined_rows s now) scratch
          → Reassembled made v cs list list' scratch scratch' (gives (length now))
      reassembles-all h el es =
          reassembly-is (joining-verdict (le-leb _ _ (omega (arith, need-is (f.found refl))))) (rows-count (f.found refl))
          (its-list made v cs list f el) (es ∙ ap (λ (l : List ℕ). laid accepted l scratch) (f.found refl).bytes)

-- and joining them alone
module _ (v : Verdict) (cs : List Chain) (scratch : List ℕ) where
  join-refused : {k : ℕ} → delivery v (joined_data cs) scratch ≡ refused k → Joined v cs scratch scratch (refused k)
  join-refused e = record { answered = sym e; written = ap (λ (w : Verdict). laid w (joined_data cs) scratch) (sym e) }

  module _ {s : List ℕ} {now : List ChainRow} where
    pub joins-refusal : {k : ℕ} → Found s v cs now (refused k) → Joined v cs scratch scratch (refused k)
    joins-refusal f = join-refused (ap (λ (w : Verdict). and_then w (needing (length (joined_data cs)) (length scratch))) (sym f.answered))

    module _ (f : Found s v cs now accepted) where
      join-verdict : {t : Bool} → leb (length (joined_data cs)) (length scratch) ≡ t → delivery v (joined_data cs) scratch ≡ unless 34 t
      join-verdict e = λ j. and_then (sym f.answered j) (unless 34 (e j))

      pub joins-short : length scratch < joined_in now → Joined v cs scratch scratch (refused 34)
      joins-short h = join-refused (join-verdict (lt-leb _ _ (omega (arith, need-is (f.found refl)))))

      pub joins-all : joined_in now ≤ length scratch → {scratch' : List ℕ} → scratch' ≡ laid accepted (joined_rows s now) scratch
          → Joined v cs scratch scratch' accepted
      joins-all h e =
          let room = join-verdict (le-leb _ _ (omega (arith, need-is (f.found refl)))) in
          record { answered = sym room; written = e ∙ (λ j. laid (sym room j) ((f.found refl).bytes j) scratch) }

-- the set is looked for before its objects
pub set_first : (limit k : ℕ) (s : List ℕ) → objects_verdict_within limit k s ≡ and_then (set_verdict k s) (fragments_verdict limit (fragments_of (set_number k s)))
set_first limit k s = go (sets_verdict s)
  where
    go : (v : Verdict)
        → and_then v (and_then (unless 36 (ltb k (set_count s))) (fragments_verdict limit (fragments_of (set_number k s))))
        ≡ and_then (and_then v (unless 36 (ltb k (set_count s)))) (fragments_verdict limit (fragments_of (set_number k s)))
    go accepted = refl
    go (refused n) = refl

-- the fragments of a set that begins here are those from the place behind its PCS on
pub begin-fragments : (s : List ℕ) {at : ℕ} → SetBegins s at → fragments_of (set_at s at) ≡ fragments_left s (at + used_by (drop at s))
begin-fragments s {at} b =
    ap fragments_of (set_here s b.standing b.more)
    ∙ ap (λ (n : ℕ). fragments_from (at + n) (through_end (pieces_at s (at + used_by (drop at s)))))
    (piece-length (drop at s) (outside-here s b.standing b.more))

-- the data joined of objects that are accepted is no longer than the stream
pub joined-within : (s : List ℕ) {at : ℕ} → SetBegins s at → fragments_verdict object_limit (fragments_of (set_at s at)) ≡ accepted
    → length (joined_data (chains_of (fragments_of (set_at s at)))) ≤ length s
joined-within s {at} b e =
    let fs = fragments_of (set_at s at) in
    let cs = chains_of fs in
    let rows = rows-all fs (first-accepts (verdict_after object_limit [] fs) (chains_verdict cs) e) in
    omega (
      arith,
      rows-joined cs,
      joined-total (map chain_row cs),
      ap total rows,
      total-with [] fs,
      ap (λ (l : List Fragment). length (joined l)) (begin-fragments s b),
      bytes-left s (opens-here s b.standing b.more),
    )

-- the set of a number, where its PCS stands
module _ (s : List ℕ) (k : ℕ) {r : ℕ} (b : SetBegins s r) (its : set_at s r ≡ set_number k s) where
  set-fragments : fragments_of (set_number k s) ≡ fragments_left s (r + used_by (drop r s))
  set-fragments = ap fragments_of (sym its) ∙ begin-fragments s b

  -- its objects are those found from there
  set-objects : objects_of k s ≡ chains_of (fragments_left s (r + used_by (drop r s)))
  unfolding objects_of
  set-objects = ap chains_of set-fragments

  set-verdict : set_verdict k s ≡ accepted → objects_verdict k s ≡ fragments_verdict object_limit (fragments_left s (r + used_by (drop r s)))
  set-verdict a =
      set_first object_limit k s ∙ (λ j. and_then (a j) (fragments_verdict object_limit (set-fragments j)))

-- what holds of the objects found in the set that was placed holds of the set's
pub set-found : (k : ℕ) {s : List ℕ} (p : PlacedSet) → (p.stream.now ≡ s) × (set_verdict k s ≡ accepted) × (set_at s p.place ≡ set_number k s)
    → {t : List ℕ} {from : ℕ} → t ≡ p.stream.now → from ≡ p.place + used_by (drop p.place p.stream.now) → (P : List ℕ → Verdict → List Chain → Type 0)
    → P t (fragments_verdict object_limit (fragments_left t from)) (chains_of (fragments_left t from)) → P s (objects_verdict k s) (objects_of k s)
set-found k {s} p e es ef P q =
    let b : SetBegins s p.place = rw e.0 at p.begins in
    rw (set-verdict s k b e.2 e.1, set-objects s k b e.2) (rw (es, ef, e.0) at q)

-- there is no such set
pub no-set : (limit k : ℕ) (s : List ℕ) {n : ℕ} → set_verdict k s ≡ refused n → objects_verdict_within limit k s ≡ refused n
no-set limit k s e = set_first limit k s ∙ ap (λ (v : Verdict). and_then v (fragments_verdict limit (fragments_of (set_number k s)))) e
