-- Bytes counted by eights, up to an eight that has a byte 00.
-- Assumes nothing.
use mathlib.Core.Path.{◌≡◌, refl, ◌∙◌, subst}
use mathlib.Core.Bool.{Bool, true, false, cond}
use mathlib.Core.List.{List}
use Prim.Native.Nat.{ℕ, zero, suc, ◌+◌, ◌*◌, ◌/◌, ◌≤◌}
use native.Mathlib.Omega.{arith}
use lib.ListN.{length, take, drop}
use lib.Seq.{length-take-le, get_or-take}
use Rattle.std.specs.List.{take_while, prefix_len}
use Rattle.std.specs.Simd.{first_chunks}
use Rattle.std.proofs.lemmas.List.Folds.{length-prefix_len}
use Rattle.std.proofs.lemmas.List.Sums.{prefix_len-le-length}
use Rattle.pgs_run_length.specs.Literals.{literals, Literals}
use Rattle.pgs_run_length.proofs.LiteralBytes.{literals-none, literals-join, literals-said, literals-behind}

abbrev full : List ℕ → Bool
full eight = literals eight 0 8

-- bytes of the front
literals-front : (l : List ℕ) (m n : ℕ) → n ≤ m → Literals (take m l) 0 n → Literals l 0 n
literals-front l m n few h k below e =
    h k below (get_or-take m l (0 + k) 0 (omega arith) ∙ e)

-- one eight more, or the end of them
another-eight : (l : List ℕ) (more : ℕ) (b : Bool) → full (take 8 l) ≡ b → Literals (drop 8 l) 0 (8 * more) → Literals l 0 (8 * cond b (1 + more) 0)
another-eight l more true e behind =
    subst (Literals l 0) {x = 8 + 8 * more} {y = 8 * (1 + more)} (omega arith)
    (literals-join l 0 8 (8 * more) (literals-front l 8 8 (omega arith) (literals-said (take 8 l) 0 8 e)) (literals-behind l 8 (8 * more) behind))
another-eight l more false e behind = literals-none l 0

-- the eights from the front on that are full
eights-full : (k : ℕ) (l : List ℕ) → Literals l 0 (8 * prefix_len full (first_chunks 8 k l))
eights-full zero l = literals-none l 0
eights-full (suc k) l =
    another-eight l (prefix_len full (first_chunks 8 k (drop 8 l))) (full (take 8 l)) refl (eights-full k (drop 8 l))

-- so many of the eights of a front
module _ (l : List ℕ) (most : ℕ) (there : most ≤ length l) where
  front-long : length (take most l) ≡ most
  front-long = length-take-le most l there

  pub counted-eights : {n : ℕ} {eights : List (List ℕ)} → eights ≡ first_chunks 8 (length (take most l) / 8) (take most l) → length eights ≡ length (take most l) / 8
      → n ≡ length (take_while full eights) → (8 * n ≤ most) × Literals l 0 (8 * n)
  counted-eights {n} {eights} are many is =
      let counted : n ≡ prefix_len full eights = is ∙ length-prefix_len full eights in
      let few : 8 * n ≤ most = omega (arith, counted, prefix_len-le-length full eights, many, front-long) in
      (few, literals-front l most (8 * n) few (rw (counted, are) (eights-full (length (take most l) / 8) (take most l))))
