-- Stores that follow one another. Assumes nothing.
use mathlib.Core.Path.{◌≡◌, refl, sym, ap, ◌∙◌}
use mathlib.Core.Bool.{Bool, true, false}
use mathlib.Core.List.{List, [], ◌∷◌, ◌++◌, append_assoc, append-nil}
use Prim.Native.Nat.{ℕ, zero, suc, min, ◌+◌, ◌-◌, ◌≤◌}
use native.Mathlib.Nat.{add-suc, suc-add, add-zero}
use native.Mathlib.Omega.{arith}
use borrow.Author.Tests.{leb-true, leb-false}
use lib.Dec.{leb}
use lib.ListN.{length, take, drop, set, take-append-drop, length-drop, drop_of_length-le}
use lib.Seq.{sets, set_out, sets-eq, drop-drop, length-take-le, length-sets}
use Rattle.pgs_base.specs.Outcome.{accepted, laid}
use Rattle.pgs_base.proofs.Lists.{to_end}

-- one run of stores after another is one run
pub sets-append : {A : Type 0} (l : List A) (i : ℕ) (vs ws : List A) → sets (sets l i vs) (i + length vs) ws ≡ sets l i (vs ++ ws)
sets-append l i [] ws = ap (λ (k : ℕ). sets l k ws) (add-zero i)
sets-append l i (a ∷ vs) ws =
    ap (λ (k : ℕ). sets (sets (set l i a) (suc i) vs) k ws) (add-suc i (length vs) ∙ sym (suc-add i (length vs)))
    ∙ sets-append (set l i a) (suc i) vs ws

-- the same where the second place is written another way
pub then-sets : {A : Type 0} (l : List A) (i : ℕ) (vs : List A) {m : List A} {j : ℕ} (ws : List A) → m ≡ sets l i vs → j ≡ i + length vs
    → sets m j ws ≡ sets l i (vs ++ ws)
then-sets l i vs ws e q = (λ k. sets (e k) (q k) ws) ∙ sets-append l i vs ws

-- past the end nothing is stored
pub sets-out : {A : Type 0} (l : List A) (i : ℕ) (vs : List A) → length l ≤ i → l ≡ sets l i vs
sets-out l i [] h = refl
sets-out {A} l i (a ∷ vs) h = sets-out l (suc i) vs (omega arith) ∙ ap (λ (m : List A). sets m (suc i) vs) (sym (set_out l i a h))

-- all of it from the front
pub sets-front : {A : Type 0} (vs l : List A) → length vs ≤ length l → sets l 0 vs ≡ laid accepted vs l
sets-front vs l h = sets-eq vs l 0 (omega arith) ∙ ap (λ (k : ℕ). vs ++ drop k l) (omega_zero (length vs))
  where
    omega_zero : (n : ℕ) → 0 + n ≡ n
    omega_zero n = omega arith

-- all of it at once, where there is room
pub sets-part : {A : Type 0} (l : List A) (i : ℕ) (vs : List A) → i + length vs ≤ length l → take i l ++ (vs ++ drop (length vs) (drop i l)) ≡ sets l i vs
sets-part l i vs h = rw (drop-drop (length vs) i l) (sym (sets-eq vs l i h ∙ append_assoc (take i l) vs (drop (i + length vs) l)))

-- what is past the end is left out
pub sets-trim : {A : Type 0} (l : List A) (i : ℕ) {n : ℕ} (vs : List A) → i ≤ length l → n ≡ min (length vs) (length l - i)
    → take i l ++ (take n vs ++ drop n (drop i l)) ≡ sets l i vs
sets-trim l i {n} vs h e =
    let short : length (take n vs) ≡ n = length-take-le n vs (omega arith) in
    ap (λ (k : ℕ). take i l ++ (take n vs ++ drop k (drop i l))) (sym short)
    ∙ (sets-part l i (take n vs) (omega arith)
    ∙ (rest short (leb (length vs) (length l - i)) refl
    ∙ (sets-append l i (take n vs) (drop n vs) ∙ ap (sets l i) (take-append-drop n vs))))
  where
    rest : length (take n vs) ≡ n → (t : Bool) → leb (length vs) (length l - i) ≡ t
        → sets l i (take n vs) ≡ sets (sets l i (take n vs)) (i + length (take n vs)) (drop n vs)
    rest short true q =
        let all : length vs ≤ n = omega (arith, leb-true (length vs) (length l - i) q) in
        sym (ap (sets (sets l i (take n vs)) (i + length (take n vs))) (drop_of_length-le vs all))
    rest short false q =
        sets-out (sets l i (take n vs)) (i + length (take n vs)) (drop n vs)
        (omega (arith, leb-false (length vs) (length l - i) q, length-sets l i (take n vs)))

-- a store behind the first value leaves it where it is
sets-behind : {A : Type 0} (x : A) (l : List A) (i : ℕ) (vs : List A) → sets (x ∷ l) (suc i) vs ≡ x ∷ sets l i vs
sets-behind x l i [] = refl
sets-behind x l i (a ∷ vs) = sets-behind x (set l i a) (suc i) vs

-- a store at the front of what stands from a place on is one at that place
sets-from : {A : Type 0} (l : List A) (i : ℕ) (vs : List A) → i ≤ length l → take i l ++ sets (drop i l) 0 vs ≡ sets l i vs
sets-from l zero vs h = refl
sets-from [] (suc i) vs h = absurd (omega arith)
sets-from {A} (x ∷ l) (suc i) vs h = ap (λ (m : List A). x ∷ m) (sets-from l i vs (omega arith)) ∙ sym (sets-behind x l i vs)

-- the same of a part that goes to the end, put back
pub sets-part_from : (l : List ℕ) (i : ℕ) (vs : List ℕ) {new : List ℕ} → i ≤ length l → new ≡ sets (take (length l - i) (drop i l)) 0 vs
    → take i l ++ (new ++ drop (length l - i) (drop i l)) ≡ sets l i vs
sets-part_from l i vs {new} h e =
    ap (λ (t : List ℕ). take i l ++ (new ++ t)) (drop_of_length-le (drop i l) {i = length l - i} (rw length-drop (omega arith)))
    ∙ (ap (λ (t : List ℕ). take i l ++ t) (append-nil new ∙ (e ∙ ap (λ (m : List ℕ). sets m 0 vs) (to_end i l)))
    ∙ sets-from l i vs h)
