-- The objects of an excerpt are those of the set, but for their place in the stream: nothing but a record's place looks at it. Assumes
-- nothing.
use mathlib.Core.Path.{◌≡◌, refl, sym, ap, ◌∙◌}
use mathlib.Core.Bool.{Bool, true, false}
use mathlib.Core.List.{List, [], ◌∷◌, ◌++◌, map}
use Prim.Native.Nat.{ℕ, ◌+◌, ◌-◌}
use native.Mathlib.Nat.{add_assoc, zero-add}
use lib.Dec.{eqb, leb, ltb}
use lib.ListN.{length, get_or, length-map}
use Rattle.pgs_base.specs.Outcome.{and_then, unless, pick}
use Rattle.pgs_base.proofs.Outcomes.{first-accepts, second_holds}
use Rattle.pgs_segment.specs.OneSegment.{segment_type}
use Rattle.pgs_reassembly.specs.Objects.{Fragment, Chain, is_ods, fragment_at, fragments_from, fragments_of, id_of}
use Rattle.pgs_reassembly.specs.Objects.{opens_chain, closes_chain, with_id, chains_of, object_id, any_last, ended}
use Rattle.pgs_reassembly.specs.Objects.{joined, data_of, declared_length, state_of, complete, continuing}
use Rattle.pgs_reassembly.specs.Objects.{first_verdict, next_verdict, fragment_verdict, verdict_after, chain_verdict}
use Rattle.pgs_reassembly.specs.Objects.{chains_verdict, fragments_verdict, object_limit, objects_of, objects_verdict}
use Rattle.pgs_set.specs.Sets.{no_set, set_number, DisplaySet, sets_verdict}
use Rattle.pgs_excerpt.specs.Excerpt.{excerpt, at_start, moved_fragment, moved, SameObjects}
use Rattle.pgs_excerpt.proofs.Alone.{alone}

module _ (n : ℕ) where
  fragments-moved : (at : ℕ) (xs : List (List ℕ)) → fragments_from (n + at) xs ≡ map (moved_fragment n) (fragments_from at xs)
  fragments-moved at [] = refl
  fragments-moved at (x ∷ xs) = go (is_ods (segment_type x)) refl (ap (λ (k : ℕ). fragments_from k xs) (add_assoc n at (length x)) ∙ fragments-moved (at + length x) xs)
    where
      go : (b : Bool) → is_ods (segment_type x) ≡ b → fragments_from (n + at + length x) xs ≡ map (moved_fragment n) (fragments_from (at + length x) xs)
          → fragments_from (n + at) (x ∷ xs) ≡ map (moved_fragment n) (fragments_from at (x ∷ xs))
      go true q ih = simp q (ap (λ (fs : List Fragment). fragment_at (n + at) x ∷ fs) ih)
      go false q ih = simp q ih

  with-id-moved : (id : ℕ) (fs : List Fragment) → with_id id (map (moved_fragment n) fs) ≡ map (moved_fragment n) (with_id id fs)
  with-id-moved id [] = refl
  with-id-moved id (f ∷ fs) = go (eqb (id_of f) id) (with-id-moved id fs)
    where
      go : (b : Bool) → with_id id (map (moved_fragment n) fs) ≡ map (moved_fragment n) (with_id id fs)
          → pick b (moved_fragment n f ∷ with_id id (map (moved_fragment n) fs)) (with_id id (map (moved_fragment n) fs)) ≡ map (moved_fragment n) (pick b (f ∷ with_id id fs) (with_id id fs))
      go true ih = ap (λ (gs : List Fragment). moved_fragment n f ∷ gs) ih
      go false ih = ih

  chains-moved : (fs : List Fragment) → chains_of (map (moved_fragment n) fs) ≡ map (moved n) (chains_of fs)
  chains-moved [] = refl
  chains-moved (f ∷ fs) = go (opens_chain f) (with-id-moved (id_of f) fs) (chains-moved fs)
    where
      go : (b : Bool) → with_id (id_of f) (map (moved_fragment n) fs) ≡ map (moved_fragment n) (with_id (id_of f) fs) → chains_of (map (moved_fragment n) fs) ≡ map (moved n) (chains_of fs)
          → pick b (record { first = moved_fragment n f; further = with_id (id_of f) (map (moved_fragment n) fs) } ∷ chains_of (map (moved_fragment n) fs)) (chains_of (map (moved_fragment n) fs))
          ≡ map (moved n) (pick b (record { first = f; further = with_id (id_of f) fs } ∷ chains_of fs) (chains_of fs))
      go true w ih = λ i. record { first = moved_fragment n f; further = w i } ∷ ih i
      go false w ih = ih

  last-moved : (fs : List Fragment) → any_last (map (moved_fragment n) fs) ≡ any_last fs
  last-moved [] = refl
  last-moved (f ∷ fs) = ap (λ (b : Bool). pick (closes_chain f) true b) (last-moved fs)

  joined-moved : (fs : List Fragment) → joined (map (moved_fragment n) fs) ≡ joined fs
  joined-moved [] = refl
  joined-moved (f ∷ fs) = ap (λ (l : List ℕ). f.bytes ++ l) (joined-moved fs)

  ended-moved : (c : Chain) → ended (moved n c) ≡ ended c
  ended-moved c = ap (λ (b : Bool). pick (closes_chain c.first) true b) (last-moved c.further)

  pub data-moved : (c : Chain) → data_of (moved n c) ≡ data_of c
  data-moved c = ap (λ (l : List ℕ). c.first.bytes ++ l) (joined-moved c.further)

  state-moved : (id : ℕ) (cs : List Chain) → state_of id (map (moved n) cs) ≡ state_of id cs
  state-moved id [] = refl
  state-moved id (c ∷ cs) = λ i. pick (eqb (object_id c) id) (pick (ended-moved c i) complete continuing) (state-moved id cs i)

  fragment-verdict-moved : (limit : ℕ) (cs : List Chain) (f : Fragment) → fragment_verdict limit (map (moved n) cs) (moved_fragment n f) ≡ fragment_verdict limit cs f
  fragment-verdict-moved limit cs f =
      λ i. pick (opens_chain f) (first_verdict limit (length-map cs (moved n) i) (state-moved (id_of f) cs i)) (next_verdict (state-moved (id_of f) cs i))

  verdict-moved : (limit : ℕ) (earlier fs : List Fragment)
      → verdict_after limit (map (moved_fragment n) earlier) (map (moved_fragment n) fs) ≡ verdict_after limit earlier fs
  verdict-moved limit earlier [] = refl
  verdict-moved limit earlier (f ∷ fs) =
      (λ i. and_then (fragment_verdict limit (chains-moved earlier i) (moved_fragment n f)) (verdict_after limit (together earlier i) (map (moved_fragment n) fs)))
      ∙ (λ i. and_then (fragment-verdict-moved limit (chains_of earlier) f i) (verdict-moved limit (earlier ++ (f ∷ [])) fs i))
    where
      together : (gs : List Fragment) → map (moved_fragment n) gs ++ (moved_fragment n f ∷ []) ≡ map (moved_fragment n) (gs ++ (f ∷ []))
      together [] = refl
      together (g ∷ gs) = ap (λ (l : List Fragment). moved_fragment n g ∷ l) (together gs)

  chain-verdict-moved : (c : Chain) → chain_verdict (moved n c) ≡ chain_verdict c
  chain-verdict-moved c =
      λ i. and_then (unless 20 (ended-moved c i)) (and_then (unless 21 (leb 4 (declared_length c))) (unless 22 (eqb (declared_length c - 4) (length (data-moved c i)))))

  chains-verdict-moved : (cs : List Chain) → chains_verdict (map (moved n) cs) ≡ chains_verdict cs
  chains-verdict-moved [] = refl
  chains-verdict-moved (c ∷ cs) = λ i. and_then (chain-verdict-moved c i) (chains-verdict-moved cs i)

  all_moved : (limit : ℕ) (fs : List Fragment) → fragments_verdict limit (map (moved_fragment n) fs) ≡ fragments_verdict limit fs
  all_moved limit fs = (λ i. and_then (verdict-moved limit [] fs i) (chains_verdict (chains-moved fs i))) ∙ ap (and_then (verdict_after limit [] fs)) (chains-verdict-moved (chains_of fs))

-- the fragments of a set, by those of the set where it stands first
set-moved : (d : DisplaySet) → fragments_of d ≡ map (moved_fragment d.place) (fragments_of (at_start d))
set-moved d = ap (λ (k : ℕ). fragments_from (d.place + k) d.others) (sym (zero-add (length d.opening))) ∙ fragments-moved d.place (0 + length d.opening) d.others

pub same-objects : SameObjects
unfolding objects_of
same-objects k s e =
    let d = set_number k s in
    let a = alone k s e in
    let first : set_number 0 (excerpt k s) ≡ at_start d = ap (λ (ds : List DisplaySet). get_or ds 0 no_set) a.1 in
    let sets = first-accepts (sets_verdict s) _ e in
    let there = second_holds (sets_verdict s) _ e in
    let in_excerpt : objects_verdict 0 (excerpt k s) ≡ fragments_verdict object_limit (fragments_of (at_start d))
    = λ i. and_then (a.0 i) (and_then (unless 36 (ltb 0 (length (a.1 i)))) (fragments_verdict object_limit (fragments_of (get_or (a.1 i) 0 no_set)))) in
    let in_stream : objects_verdict k s ≡ fragments_verdict object_limit (fragments_of d)
    = λ i. and_then (sets i) (and_then (there i) (fragments_verdict object_limit (fragments_of d))) in (
      in_excerpt ∙ sym (in_stream ∙ (ap (fragments_verdict object_limit) (set-moved d) ∙ all_moved d.place object_limit (fragments_of (at_start d)))),
      (ap chains_of (set-moved d) ∙ (chains-moved d.place (fragments_of (at_start d)) ∙ ap (λ (x : DisplaySet). map (moved d.place) (chains_of (fragments_of x))) (sym first))),
    )
