-- Chains after one more fragment, and their rows. Assumes nothing.
use mathlib.Core.Path.{◌≡◌, refl, sym, ap, ◌∙◌}
use mathlib.Core.Bool.{Bool, true, false}
use mathlib.Core.List.{List, [], ◌∷◌, ◌++◌, map, append-nil, append_assoc}
use Prim.Native.Nat.{ℕ, ◌+◌, ◌≤◌}
use native.Mathlib.Omega.{arith}
use borrow.Author.Tests.{eq-eqb, ne_eqb, eqb-true, eqb-false}
use lib.Dec.{eqb}
use lib.ListN.{length, length-append, length-map}
use Rattle.pgs_base.specs.Outcome.{Verdict, accepted, refused, and_then, pick}
use Rattle.pgs_base.proofs.Outcomes.{not-both}
use Rattle.pgs_set.proofs.Choices.{pick_first, pick_second}
use Rattle.pgs_reassembly.specs.Objects.{Fragment, Chain, ChainState, unseen, continuing, complete, id_of, opens_chain}
use Rattle.pgs_reassembly.specs.Objects.{closes_chain, object_id, with_id, chains_of, any_last, ended, object_limit}
use Rattle.pgs_reassembly.specs.Objects.{joined, state_of, first_verdict, next_verdict, fragment_verdict, verdict_after}
use Rattle.pgs_reassembly.specs.Reassembly.{any_more}
use Rattle.pgs_reassembly.specs.Tables.{fragment_numbers, chain_row, state_in, is_opening, new_row, grown, extended, take_verdict, rows_after}
use Rattle.pgs_reassembly.specs.Tables.{taking_verdict, rows_with, total}
use Rattle.pgs_reassembly.specs.declared.ChainRow.{ChainRow}
use Rattle.pgs_reassembly.specs.declared.FragmentNumbers.{FragmentNumbers}

-- no two chains have one id
abbrev pub Distinct : List Chain → Type 0
Distinct [] = Unit {0}
Distinct (c ∷ cs) = (state_of (object_id c) cs ≡ unseen) × Distinct cs

-- one more fragment at the end

with-snoc : (id : ℕ) (fs : List Fragment) (g : Fragment) → with_id id (fs ++ (g ∷ [])) ≡ with_id id fs ++ with_id id (g ∷ [])
with-snoc id [] g = refl
with-snoc id (f ∷ fs) g = go (eqb (id_of f) id) (with-snoc id fs g)
  where
    go : (b : Bool) → with_id id (fs ++ (g ∷ [])) ≡ with_id id fs ++ with_id id (g ∷ [])
        → pick b (f ∷ with_id id (fs ++ (g ∷ []))) (with_id id (fs ++ (g ∷ []))) ≡ pick b (f ∷ with_id id fs) (with_id id fs) ++ with_id id (g ∷ [])
    go true e = ap (λ (l : List Fragment). f ∷ l) e
    go false e = e

-- a chain takes a fragment of its id
abbrev pub extend : Fragment → Chain → Chain
extend g c = record { first = c.first; further = c.further ++ with_id (object_id c) (g ∷ []) }

abbrev pub chain-of : Fragment → Chain
chain-of g = record { first = g; further = [] }

chains-snoc : (fs : List Fragment) (g : Fragment) → chains_of (fs ++ (g ∷ [])) ≡ map (extend g) (chains_of fs) ++ chains_of (g ∷ [])
chains-snoc [] g = refl
chains-snoc (f ∷ fs) g = go (opens_chain f) (chains-snoc fs g)
  where
    go : (b : Bool) → chains_of (fs ++ (g ∷ [])) ≡ map (extend g) (chains_of fs) ++ chains_of (g ∷ [])
        → pick b (record { first = f; further = with_id (id_of f) (fs ++ (g ∷ [])) } ∷ chains_of (fs ++ (g ∷ []))) (chains_of (fs ++ (g ∷ [])))
        ≡ map (extend g) (pick b (record { first = f; further = with_id (id_of f) fs } ∷ chains_of fs) (chains_of fs)) ++ chains_of (g ∷ [])
    go true e = λ j. record { first = f; further = with-snoc (id_of f) fs g j } ∷ e j
    go false e = e

-- a continuation only extends, a first fragment adds a chain
pub chains-extended : (fs : List Fragment) (g : Fragment) → opens_chain g ≡ false → chains_of (fs ++ (g ∷ [])) ≡ map (extend g) (chains_of fs)
chains-extended fs g e =
    chains-snoc fs g ∙ ap (λ (l : List Chain). map (extend g) (chains_of fs) ++ l) (pick_second (chain-of g ∷ []) [] e) ∙ append-nil _

pub chains-added : (fs : List Fragment) (g : Fragment) → opens_chain g ≡ true → chains_of (fs ++ (g ∷ [])) ≡ map (extend g) (chains_of fs) ++ (chain-of g ∷ [])
chains-added fs g e = chains-snoc fs g ∙ ap (λ (l : List Chain). map (extend g) (chains_of fs) ++ l) (pick_first (chain-of g ∷ []) [] e)

-- ids that differ

flip : (a b : ℕ) → eqb a b ≡ false → eqb b a ≡ false
flip a b e = ne_eqb b a (λ (q : b ≡ a). eqb-false a b e (sym q))

-- an id that is unseen is not the first chain's, and unseen in the others
not_first : (id : ℕ) (c : Chain) (cs : List Chain) → state_of id (c ∷ cs) ≡ unseen → (eqb (object_id c) id ≡ false) × (state_of id cs ≡ unseen)
not_first id c cs e = go (eqb (object_id c) id) (ended c) e
  where
    go : (b t : Bool) → pick b (pick t complete continuing) (state_of id cs) ≡ unseen → (b ≡ false) × (state_of id cs ≡ unseen)
    go false t q = (refl, q)
    go true true q = absurd (let z : ◌≡◌ {A = ℕ} 0 1 = cc in omega arith)
    go true false q = absurd (let z : ◌≡◌ {A = ℕ} 0 1 = cc in omega arith)

-- a chain of another id stays as it is
extend-other : (g : Fragment) (c : Chain) → eqb (object_id c) (id_of g) ≡ false → extend g c ≡ c
extend-other g c e =
    λ j.
    record {
      first = c.first;
      further = (ap (λ (l : List Fragment). c.further ++ l) (pick_second (g ∷ []) [] (flip (object_id c) (id_of g) e)) ∙ append-nil c.further) j;
    }

pub extend-none : (g : Fragment) (cs : List Chain) → state_of (id_of g) cs ≡ unseen → map (extend g) cs ≡ cs
extend-none g [] e = refl
extend-none g (c ∷ cs) e =
    let p = not_first (id_of g) c cs e in
    λ j. extend-other g c p.0 j ∷ extend-none g cs p.1 j

-- extending chains keeps what ids are unseen, and that they are distinct
unseen-extended : (id : ℕ) (g : Fragment) (cs : List Chain) → state_of id cs ≡ unseen → state_of id (map (extend g) cs) ≡ unseen
unseen-extended id g [] e = e
unseen-extended id g (c ∷ cs) e =
    let p = not_first id c cs e in
    pick_second (pick (ended (extend g c)) complete continuing) (state_of id (map (extend g) cs)) p.0 ∙ unseen-extended id g cs p.1

pub distinct-extended : (g : Fragment) (cs : List Chain) → Distinct cs → Distinct (map (extend g) cs)
distinct-extended g [] d = tt
distinct-extended g (c ∷ cs) d = (unseen-extended (object_id c) g cs d.0, distinct-extended g cs d.1)

unseen-added : (id : ℕ) (g : Fragment) (cs : List Chain) → eqb (id_of g) id ≡ false → state_of id cs ≡ unseen → state_of id (cs ++ (chain-of g ∷ [])) ≡ unseen
unseen-added id g [] q e = pick_second (pick (ended (chain-of g)) complete continuing) unseen q
unseen-added id g (c ∷ cs) q e =
    let p = not_first id c cs e in
    pick_second (pick (ended c) complete continuing) (state_of id (cs ++ (chain-of g ∷ []))) p.0 ∙ unseen-added id g cs q p.1

pub distinct-added : (g : Fragment) (cs : List Chain) → Distinct cs → state_of (id_of g) cs ≡ unseen → Distinct (cs ++ (chain-of g ∷ []))
distinct-added g [] d e = (refl, tt)
distinct-added g (c ∷ cs) d e =
    let p = not_first (id_of g) c cs e in
    (unseen-added (object_id c) g cs (flip (object_id c) (id_of g) p.0) d.0, distinct-added g cs d.1 p.1)

-- the rows of chains

-- they say of an id what the chains do
pub state-rows : (id : ℕ) (cs : List Chain) → state_in id (map chain_row cs) ≡ state_of id cs
state-rows id [] = refl
state-rows id (c ∷ cs) = ap (λ (t : ChainState). pick (eqb (object_id c) id) (pick (ended c) complete continuing) t) (state-rows id cs)

flag : (b : Bool) → pick b true false ≡ b
flag true = refl
flag false = refl

row_new : (g : Fragment) → chain_row (chain-of g) ≡ new_row (fragment_numbers g)
row_new g = λ j. record { first = fragment_numbers g; closed = flag (closes_chain g) j; copied = false; len = length (append-nil g.bytes j) }

map_snoc : (cs : List Chain) (c : Chain) → map chain_row (cs ++ (c ∷ [])) ≡ map chain_row cs ++ (chain_row c ∷ [])
map_snoc [] c = refl
map_snoc (b ∷ cs) c = ap (λ (l : List ChainRow). chain_row b ∷ l) (map_snoc cs c)

last_snoc : (fs : List Fragment) (g : Fragment) → any_last fs ≡ false → any_last (fs ++ (g ∷ [])) ≡ closes_chain g
last_snoc [] g e = flag (closes_chain g)
last_snoc (f ∷ fs) g e = go (closes_chain f) e (last_snoc fs g)
  where
    go : (b : Bool) → pick b true (any_last fs) ≡ false → (any_last fs ≡ false → any_last (fs ++ (g ∷ [])) ≡ closes_chain g)
        → pick b true (any_last (fs ++ (g ∷ []))) ≡ closes_chain g
    go true q ih = cc
    go false q ih = ih q

more-snoc : (fs : List Fragment) (g : Fragment) → any_more (fs ++ (g ∷ [])) ≡ true
more-snoc [] g = refl
more-snoc (f ∷ fs) g = refl

joined_snoc : (fs : List Fragment) (g : Fragment) → length (joined (fs ++ (g ∷ []))) ≡ length (joined fs) + length g.bytes
joined_snoc [] g = simp (length-append) (omega arith)
joined_snoc (f ∷ fs) g = simp length-append (omega (arith, joined_snoc fs g))

row-grown : (g : Fragment) (c : Chain) → object_id c ≡ id_of g → ended c ≡ false → chain_row (extend g c) ≡ grown (chain_row c) (fragment_numbers g)
row-grown g c e q =
    let w : with_id (object_id c) (g ∷ []) ≡ g ∷ [] = pick_first (g ∷ []) [] (eq-eqb (id_of g) (object_id c) (sym e)) in
    λ j.
    record {
      first = fragment_numbers c.first;
      closed = (ap (λ (l : List Fragment). any_last (c.first ∷ c.further ++ l)) w ∙ last_snoc (c.first ∷ c.further) g q) j;
      copied = (ap (λ (l : List Fragment). any_more (c.further ++ l)) w ∙ more-snoc c.further g) j;
      len = (ap (λ (l : List Fragment). length (joined (c.first ∷ c.further ++ l))) w ∙ joined_snoc (c.first ∷ c.further) g) j;
    }

-- a continuation changes the row of its id
rows_grown : (g : Fragment) (cs : List Chain) → Distinct cs → state_of (id_of g) cs ≡ continuing
    → map chain_row (map (extend g) cs) ≡ extended (fragment_numbers g) (map chain_row cs)
rows_grown g [] d e = cc
rows_grown g (c ∷ cs) d e = go (eqb (object_id c) (id_of g)) refl e (rows_grown g cs d.1)
  where
    still : (t : Bool) → pick t complete continuing ≡ continuing → t ≡ false
    still true q = cc
    still false q = refl

    go : (b : Bool) → eqb (object_id c) (id_of g) ≡ b → pick b (pick (ended c) complete continuing) (state_of (id_of g) cs) ≡ continuing
        → (state_of (id_of g) cs ≡ continuing → map chain_row (map (extend g) cs) ≡ extended (fragment_numbers g) (map chain_row cs))
        → chain_row (extend g c) ∷ map chain_row (map (extend g) cs)
        ≡ pick b (grown (chain_row c) (fragment_numbers g) ∷ map chain_row cs) (chain_row c ∷ extended (fragment_numbers g) (map chain_row cs))
    go true r q ih =
        let same : object_id c ≡ id_of g = eqb-true (object_id c) (id_of g) r in
        λ j.
        row-grown g c same (still (ended c) q) j
        ∷ ap (map chain_row) (extend-none g cs (ap (λ (n : ℕ). state_of n cs) (sym same) ∙ d.0)) j
    go false r q ih = λ j. chain_row (extend-other g c r j) ∷ ih q j

-- taking one more fragment

-- the rows of chains say what the chains do
pub taken-verdict : (cs : List Chain) (f : Fragment) → take_verdict (map chain_row cs) (fragment_numbers f) ≡ fragment_verdict object_limit cs f
taken-verdict cs f =
    λ j.
    pick (opens_chain f) (first_verdict object_limit (length-map cs chain_row j) (state-rows (id_of f) cs j)) (next_verdict (state-rows (id_of f) cs j))

-- and after it they are those of the chains, which stay distinct
record Grown (es : List Fragment) (f : Fragment) : Type 0 where
  pub rows : rows_after (map chain_row (chains_of es)) (fragment_numbers f) ≡ map chain_row (chains_of (es ++ (f ∷ [])))
  pub distinct : Distinct (chains_of (es ++ (f ∷ [])))

grows : (es : List Fragment) (f : Fragment) → Distinct (chains_of es) → fragment_verdict object_limit (chains_of es) f ≡ accepted → Grown es f
grows es f d a = go (opens_chain f) refl a
  where
    new-only : (t : ChainState) → first_verdict object_limit (length (chains_of es)) t ≡ accepted → t ≡ unseen
    new-only unseen e = refl
    new-only continuing e = cc
    new-only complete e = cc

    open-only : (t : ChainState) → next_verdict t ≡ accepted → t ≡ continuing
    open-only unseen e = cc
    open-only continuing e = refl
    open-only complete e = cc

    go : (b : Bool) → opens_chain f ≡ b
        → pick b (first_verdict object_limit (length (chains_of es)) (state_of (id_of f) (chains_of es))) (next_verdict (state_of (id_of f) (chains_of es))) ≡ accepted
        → Grown es f
    go true o e =
        let none : state_of (id_of f) (chains_of es) ≡ unseen = new-only _ e in
        let all : chains_of (es ++ (f ∷ [])) ≡ chains_of es ++ (chain-of f ∷ [])
        = chains-added es f o ∙ ap (λ (l : List Chain). l ++ (chain-of f ∷ [])) (extend-none f (chains_of es) none) in
        record {
          rows = pick_first _ _ o
              ∙ ap (λ (r : ChainRow). map chain_row (chains_of es) ++ (r ∷ [])) (sym (row_new f))
              ∙ sym (map_snoc (chains_of es) (chain-of f))
              ∙ ap (map chain_row) (sym all);
          distinct = rw all (distinct-added f (chains_of es) d none);
        }
    go false o e =
        let still : state_of (id_of f) (chains_of es) ≡ continuing = open-only _ e in
        let all : chains_of (es ++ (f ∷ [])) ≡ map (extend f) (chains_of es) = chains-extended es f o in
        record {
          rows = pick_second _ _ o ∙ sym (rows_grown f (chains_of es) d still) ∙ ap (map chain_row) (sym all);
          distinct = rw all (distinct-extended f (chains_of es) d);
        }

-- taking fragments after others
record Taken (es fs : List Fragment) : Type 0 where
  pub verdict : taking_verdict (map chain_row (chains_of es)) fs ≡ verdict_after object_limit es fs
  pub rows : verdict_after object_limit es fs ≡ accepted → rows_with (map chain_row (chains_of es)) fs ≡ map chain_row (chains_of (es ++ fs))

takes : (es fs : List Fragment) → Distinct (chains_of es) → Taken es fs
takes es [] d = record { verdict = refl; rows = λ a. ap (λ (l : List Fragment). map chain_row (chains_of l)) (sym (append-nil es)) }
takes es (f ∷ fs) d =
    go (fragment_verdict object_limit (chains_of es) f) refl (λ (q : Distinct (chains_of (es ++ (f ∷ [])))). takes (es ++ (f ∷ [])) fs q)
  where
    first : take_verdict (map chain_row (chains_of es)) (fragment_numbers f) ≡ fragment_verdict object_limit (chains_of es) f
    first = taken-verdict (chains_of es) f

    go : (v : Verdict) → fragment_verdict object_limit (chains_of es) f ≡ v
        → (Distinct (chains_of (es ++ (f ∷ []))) → Taken (es ++ (f ∷ [])) fs)
        → Taken es (f ∷ fs)
    go accepted e on =
        let g = grows es f d e in
        let rest = on g.distinct in
        record {
          verdict = (λ j. and_then ((first ∙ e) j) (taking_verdict (g.rows j) fs))
              ∙ rest.verdict
              ∙ ap (λ (v : Verdict). and_then v (verdict_after object_limit (es ++ (f ∷ [])) fs)) (sym e);
          rows = λ a.
              ap (λ (l : List ChainRow). rows_with l fs) g.rows
              ∙ rest.rows (ap (λ (v : Verdict). and_then v (verdict_after object_limit (es ++ (f ∷ [])) fs)) (sym e) ∙ a)
              ∙ ap (λ (l : List Fragment). map chain_row (chains_of l)) (append_assoc es (f ∷ []) fs);
        }
    go (refused k) e on =
        record {
          verdict = (λ j. and_then ((first ∙ e) j) (taking_verdict (rows_after (map chain_row (chains_of es)) (fragment_numbers f)) fs))
              ∙ ap (λ (v : Verdict). and_then v (verdict_after object_limit (es ++ (f ∷ [])) fs)) (sym e);
          rows = λ a.
              absurd (not-both a (ap (λ (v : Verdict). and_then v (verdict_after object_limit (es ++ (f ∷ [])) fs)) e));
        }

-- from no row on: the verdict of the fragments, and the rows of their chains
pub taking-all : (fs : List Fragment) → taking_verdict [] fs ≡ verdict_after object_limit [] fs
taking-all fs = (takes [] fs tt).verdict

pub rows-all : (fs : List Fragment) → verdict_after object_limit [] fs ≡ accepted → rows_with [] fs ≡ map chain_row (chains_of fs)
rows-all fs = (takes [] fs tt).rows

-- totals

total-append : (rs : List ChainRow) (r : ChainRow) → total (rs ++ (r ∷ [])) ≡ total rs + r.len
total-append [] r = omega arith
total-append (q ∷ rs) r = omega (arith, total-append rs r)

total-extended : (f : FragmentNumbers) (rs : List ChainRow) → total (extended f rs) ≤ total rs + f.len
total-extended f [] = omega arith
total-extended f (r ∷ rs) = go (eqb r.first.ods.object_id f.ods.object_id) (total-extended f rs)
  where
    go : (b : Bool) → total (extended f rs) ≤ total rs + f.len → total (pick b (grown r f ∷ rs) (r ∷ extended f rs)) ≤ r.len + total rs + f.len
    go true h = omega arith
    go false h = omega arith

pub total-after : (rows : List ChainRow) (f : FragmentNumbers) → total (rows_after rows f) ≤ total rows + f.len
total-after rows f = go (is_opening f)
  where
    go : (b : Bool) → total (pick b (rows ++ (new_row f ∷ [])) (extended f rows)) ≤ total rows + f.len
    go true = omega (arith, total-append rows (new_row f))
    go false = total-extended f rows

-- fragments together add no more than their data
pub total-with : (rows : List ChainRow) (fs : List Fragment) → total (rows_with rows fs) ≤ total rows + length (joined fs)
total-with rows [] = omega arith
total-with rows (f ∷ fs) =
    omega (arith, total-with (rows_after rows (fragment_numbers f)) fs, total-after rows (fragment_numbers f), length-append f.bytes (joined fs))
