-- Loops over the rows of a list: a test of each, and stores of each. Assumes nothing.
use mathlib.Core.Path.{◌≡◌, refl, sym, ap, ◌∙◌}
use mathlib.Core.Bool.{Bool, true, false}
use mathlib.Core.List.{List, [], ◌∷◌, ◌++◌, map}
use Prim.Native.Nat.{ℕ, ◌+◌, ◌-◌, ◌≤◌, ◌<◌}
use native.Mathlib.Numerals.{add-one}
use lib.ListN.{length, take, drop, get_or}
use lib.Seq.{sets, drop-cons, drop-length}
use mathlib.Core.Bool.{◌&&◌}
use Rattle.std.specs.List.{list_all}
use Rattle.pgs_base.specs.Outcome.{pick}
use Rattle.pgs_encoding.specs.Layout.{Field, written, each, record_bytes}
use Rattle.pgs_writer_base.proofs.PutLaws.{sets-append, sets-out, sets-part_from}

-- a test of each, as the library says it
pub each-all : {A : Type 0} (test : A → Bool) (rows : List A) → list_all test rows ≡ each test rows
each-all test [] = refl
each-all test (r ∷ rows) = go (test r) (each-all test rows)
  where
    go : (t : Bool) {a b : Bool} → a ≡ b → (t && a) ≡ pick t b false
    go true e = e
    go false e = refl

-- rows by what they stand for
pub each-map : {A B : Type 0} (f : A → B) (test : B → Bool) (rows : List A) → each (λ (r : A). test (f r)) rows ≡ each test (map f rows)
each-map f test [] = refl
each-map f test (r ∷ rows) = ap (λ (t : Bool). pick (test (f r)) t false) (each-map f test rows)

pub bytes-map : {A B : Type 0} (f : A → B) (fields : B → List Field) (rows : List A) → record_bytes (λ (r : A). fields (f r)) rows ≡ record_bytes fields (map f rows)
bytes-map f fields [] = refl
bytes-map f fields (r ∷ rows) = ap (λ (t : List ℕ). written (fields (f r)) ++ t) (bytes-map f fields rows)

module _ {A : Type 0} (rows : List A) where
  -- the next row
  next : {i : ℕ} {a : A} → i < length rows → a ≡ get_or rows i a → drop i rows ≡ a ∷ drop (i + 1) rows
  next {i} {a} h e = drop-cons rows i a h ∙ (λ j. sym e j ∷ drop (sym (add-one i) j) rows)

  module _ (fields : A → List Field) where
    bytes_next : {i : ℕ} {a : A} → i < length rows → a ≡ get_or rows i a
        → record_bytes fields (drop i rows) ≡ written (fields a) ++ record_bytes fields (drop (i + 1) rows)
    bytes_next h e = ap (record_bytes fields) (next h e)

    module _ (start : List ℕ) (first : ℕ) where
      -- i rows are stored from place `first` on, and the next one goes to `at`: storing the others gives the whole
      pub record Storing (now : List ℕ) (i at : ℕ) : Type 0 where
        pub left : sets now at (record_bytes fields (drop i rows)) ≡ sets start first (record_bytes fields rows)

      pub storing : Storing start 0 first
      storing = record { left = refl }

      -- the next one is stored, at the front of what stands from there on
      pub stores : {now new : List ℕ} {i at k : ℕ} {a : A} → Storing now i at → i < length rows → a ≡ get_or rows i a
          → k ≡ length (written (fields a)) → at ≤ length now → new ≡ sets (take (length now - at) (drop at now)) 0 (written (fields a))
          → Storing (take at now ++ (new ++ drop (length now - at) (drop at now))) (i + 1) (at + k)
      stores {now} {new} {i} {at} {k} {a} s h e q room stored-there =
          let b = written (fields a) in
          let r = record_bytes fields (drop (i + 1) rows) in
          let w = sets-part_from now at b room stored-there in
          record {
            left =
                (λ j. sets (w j) (at + q j) r) ∙ sets-append now at b r ∙ ap (sets now at) (sym (bytes_next h e)) ∙ s.left;
          }

      -- what is left lies past the end
      pub stored-past : {now : List ℕ} {i at : ℕ} → Storing now i at → length now ≤ at → now ≡ sets start first (record_bytes fields rows)
      stored-past {now} {i} {at} s h = sets-out now at (record_bytes fields (drop i rows)) h ∙ s.left

      pub stored : {now : List ℕ} {at : ℕ} → Storing now (length rows) at → now ≡ sets start first (record_bytes fields rows)
      stored {now} {at} s = sym (ap (λ (l : List A). sets now at (record_bytes fields l)) (drop-length rows)) ∙ s.left
