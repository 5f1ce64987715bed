-- The first row with an id, and what a table says of it. Assumes nothing.
use mathlib.Core.Path.{◌≡◌, refl, sym, ap, ◌∙◌}
use mathlib.Core.Bool.{Bool, true, false}
use mathlib.Core.List.{List, [], ◌∷◌, ◌++◌}
use Prim.Native.Nat.{ℕ, zero, suc, ◌+◌, ◌≤◌, ◌<◌}
use native.Mathlib.Omega.{arith}
use native.Mathlib.Numerals.{add-one}
use borrow.Author.Tests.{eq-eqb, ne_eqb, le-ltb, lt-ltb}
use lib.Dec.{eqb}
use lib.ListN.{length, take, set, get_or}
use lib.Seq.{take-suc-set, take-set-lt, length-take-le, get_or-take}
use Rattle.std.specs.List.{AllWithin, HoldsAt}
use Rattle.std.specs.Option.{MatchOption, option_map}
use Rattle.std.specs.Prelude.{Option, None, Some}
use Rattle.pgs_base.specs.Outcome.{Verdict, accepted, refused, unless, pick}
use Rattle.pgs_base.proofs.Outcomes.{not-both}
use Rattle.pgs_set.proofs.Choices.{pick_first, pick_second}
use Rattle.pgs_reassembly.proofs.Lists.{no_row}
use Rattle.pgs_reassembly.specs.Objects.{unseen, continuing, complete, first_verdict, next_verdict, object_limit}
use Rattle.pgs_reassembly.specs.Tables.{is_closing, row_id, row_with, state_in, new_row, grown, extended, total, Leaves}
use Rattle.pgs_reassembly.specs.declared.ChainRow.{ChainRow}
use Rattle.pgs_reassembly.specs.declared.FragmentNumbers.{FragmentNumbers}

-- what a search finds is that row
module _ (id : ℕ) where
  abbrev pub Has : ChainRow → Type 0
  Has r = row_id r ≡ id

  abbrev pub Lacks : ChainRow → Type 0
  Lacks r = row_id r ≡ id → ⊥

  first-none : (rows : List ChainRow) → AllWithin Lacks rows 0 (length rows) → None ≡ row_with id rows
  first-none [] a = refl
  first-none (r ∷ rs) a =
      rw (ne_eqb (row_id r) id (a 0 r (omega arith) (omega arith)), ← first-none rs (λ k d l h. a (suc k) d (omega arith) (omega arith)))

  first-some : (rows : List ChainRow) (i : ℕ) → i < length rows → HoldsAt Has rows i → AllWithin Lacks rows 0 i → Some i ≡ row_with id rows
  first-some [] i h e a = absurd (omega arith)
  first-some (r ∷ rs) zero h e a = rw (eq-eqb (row_id r) id (e r))
  first-some (r ∷ rs) (suc i) h e a =
      rw (ne_eqb (row_id r) id (a 0 r (omega arith) (omega arith)), ← first-some rs i (omega arith) e (λ k d l m. a (suc k) d (omega arith) (omega arith)))

  pub first-row : (rows : List ChainRow) (r : Option ℕ)
      → MatchOption r (AllWithin Lacks rows 0 (length rows)) (λ i. (i < length rows) × HoldsAt Has rows i × AllWithin Lacks rows 0 i)
      → r ≡ row_with id rows
  first-row rows None m = first-none rows m
  first-row rows (Some i) m = first-some rows i m.0 m.1 m.2

-- no row has the id
pub unseen-in : (id : ℕ) (rows : List ChainRow) → None ≡ row_with id rows → state_in id rows ≡ unseen
unseen-in id [] e = refl
unseen-in id (r ∷ rs) e = go (eqb (row_id r) id) (row_with id rs) e (unseen-in id rs)
  where
    go : (b : Bool) (o : Option ℕ) → None ≡ pick b (Some 0) (option_map suc o) → (None ≡ o → state_in id rs ≡ unseen)
        → pick b (pick r.closed complete continuing) (state_in id rs) ≡ unseen
    go true o q ih = cc
    go false None q ih = ih refl
    go false (Some k) q ih = cc

-- row i is the first of a fragment's id: whether its chain is closed, and the rows after the fragment
pub record Stands (f : FragmentNumbers) (i : ℕ) (rows : List ChainRow) : Type 0 where
  pub inside : i < length rows
  pub state : state_in f.ods.object_id rows ≡ pick (get_or rows i no_row).closed complete continuing
  pub takes : set rows i (grown (get_or rows i no_row) f) ≡ extended f rows

pub stands : (f : FragmentNumbers) (i : ℕ) (rows : List ChainRow) → Some i ≡ row_with f.ods.object_id rows → Stands f i rows
stands f i [] e = cc
stands f i (r ∷ rs) e = go (eqb (row_id r) f.ods.object_id) refl (row_with f.ods.object_id rs) refl e (λ (k : ℕ) (q : Some k ≡ row_with f.ods.object_id rs). stands f k rs q)
  where
    go : (b : Bool) → eqb (row_id r) f.ods.object_id ≡ b → (o : Option ℕ) → row_with f.ods.object_id rs ≡ o
        → Some i ≡ pick b (Some 0) (option_map suc o)
        → ((k : ℕ) → Some k ≡ row_with f.ods.object_id rs → Stands f k rs)
        → Stands f i (r ∷ rs)
    go true p o h q ih =
        let first : i ≡ 0 = cc in
        rw first (record { inside = omega arith; state = pick_first _ _ p; takes = sym (pick_first _ _ p) })
    go false p None h q ih = cc
    go false p (Some k) h q ih =
        let next : i ≡ suc k = cc in
        let later = ih k (sym h) in
        rw next
        (record {
          inside = omega (arith, later.inside);
          state = pick_second _ _ p ∙ later.state;
          takes = ap (λ (l : List ChainRow). r ∷ l) later.takes ∙ sym (pick_second _ _ p);
        })

-- the length of one chain is within that of all
pub total-at : (rows : List ChainRow) (i : ℕ) → i < length rows → (get_or rows i no_row).len ≤ total rows
total-at [] i h = absurd (omega arith)
total-at (r ∷ rs) zero h = omega arith
total-at (r ∷ rs) (suc i) h = omega (arith, total-at rs i (omega arith))

-- a fragment is turned down
pub leaves-refusal : {v : Verdict} {want now : List ChainRow} {k : ℕ} → v ≡ refused k → Leaves v want now (refused k)
leaves-refusal e = record { answered = sym e; left = λ a. absurd (not-both a refl) }

-- a table as it is stored: the first n of its places hold rows
module _ (f : FragmentNumbers) (places : List ChainRow) (n : ℕ) (k : n ≤ length places) {now : List ChainRow} (v : take n places ≡ now) where
  pub counted : length now ≡ n
  counted = ap length (sym v) ∙ length-take-le n places k

  -- the id is known: row i is its first
  module _ {i : ℕ} (w : Some i ≡ row_with f.ods.object_id now) where
    pub known-inside : i < n
    known-inside = omega (arith, counted, (stands f i now w).inside)

    same : get_or places i no_row ≡ get_or now i no_row
    same = sym (get_or-take n places i no_row known-inside) ∙ ap (λ (l : List ChainRow). get_or l i no_row) v

    its-state : {b : Bool} → (get_or places i no_row).closed ≡ b → state_in f.ods.object_id now ≡ pick b complete continuing
    its-state e =
        (stands f i now w).state ∙ ap (λ (t : Bool). pick t complete continuing) (ap (λ (r : ChainRow). r.closed) (sym same) ∙ e)

    -- a first fragment of a known id
    pub opened-closed : {want : List ChainRow} → (get_or places i no_row).closed ≡ true
        → Leaves (first_verdict object_limit (length now) (state_in f.ods.object_id now)) want now (refused 17)
    opened-closed e = leaves-refusal (ap (first_verdict object_limit (length now)) (its-state e))

    pub opened-open : {want : List ChainRow} → (get_or places i no_row).closed ≡ false
        → Leaves (first_verdict object_limit (length now) (state_in f.ods.object_id now)) want now (refused 16)
    opened-open e = leaves-refusal (ap (first_verdict object_limit (length now)) (its-state e))

    -- a continuation
    pub continued-closed : {want : List ChainRow} → (get_or places i no_row).closed ≡ true
        → Leaves (next_verdict (state_in f.ods.object_id now)) want now (refused 19)
    continued-closed e = leaves-refusal (ap next_verdict (its-state e))

    pub continued-fits : (get_or places i no_row).len ≤ total now
    continued-fits =
        omega (arith, ap (λ (r : ChainRow). r.len) same, total-at now i (stands f i now w).inside)

    pub continued-on : (get_or places i no_row).closed ≡ false → {b : Bool} → b ≡ is_closing f
        → Leaves (next_verdict (state_in f.ods.object_id now)) (extended f now)
        (take n
        (set places i (record { first = (get_or places i no_row).first; closed = b; copied = true; len = (get_or places i no_row).len + f.len })))
        accepted
    continued-on e {b} eb =
        record {
          answered = sym (ap next_verdict (its-state e));
          left = λ _.
              take-set-lt n places i _ known-inside
              ∙ (λ j.
              set (v j) i (record { first = (same j).first; closed = eb j; copied = true; len = (same j).len + f.len }))
              ∙ (stands f i now w).takes;
        }

  -- the id is not known
  module _ (w : None ≡ row_with f.ods.object_id now) where
    pub opened-full : {want : List ChainRow} → n ≡ 64 → Leaves (first_verdict object_limit (length now) (state_in f.ods.object_id now)) want now (refused 23)
    opened-full e =
        leaves-refusal
        (ap (first_verdict object_limit (length now)) (unseen-in f.ods.object_id now w)
        ∙ ap (unless 23) (le-ltb (length now) 64 (omega (arith, counted))))

    pub opened-new : n < 64 → n < length places → {b : Bool} → b ≡ is_closing f
        → Leaves (first_verdict object_limit (length now) (state_in f.ods.object_id now)) (now ++ (new_row f ∷ []))
        (take (n + 1) (set places n (record { first = f; closed = b; copied = false; len = f.len })))
        accepted
    opened-new h m {b} eb =
        record {
          answered = sym
              (ap (first_verdict object_limit (length now)) (unseen-in f.ods.object_id now w)
              ∙ ap (unless 23) (lt-ltb (length now) 64 (omega (arith, counted))));
          left = λ _.
              ap (λ (k : ℕ). take k (set places n (record { first = f; closed = b; copied = false; len = f.len }))) (add-one n)
              ∙ take-suc-set places n (record { first = f; closed = b; copied = false; len = f.len }) m
              ∙ (λ j. v j ++ (record { first = f; closed = eb j; copied = false; len = f.len } ∷ []));
        }

    pub continued-none : {want : List ChainRow} → Leaves (next_verdict (state_in f.ods.object_id now)) want now (refused 18)
    continued-none = leaves-refusal (ap next_verdict (unseen-in f.ods.object_id now w))
