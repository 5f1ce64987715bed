-- Bytes in a row that are one pixel each.
-- Assumes nothing.
use mathlib.Core.Path.{◌≡◌, refl, sym, ◌∙◌, ap, subst}
use mathlib.Core.Bool.{Bool, true, false, not, ◌&&◌}
use mathlib.Core.List.{List, [], ◌∷◌}
use Prim.Native.Nat.{ℕ, zero, suc, ◌+◌, ◌-◌, ◌≤◌, ◌<◌}
use native.Mathlib.Nat.{zero-add}
use native.Mathlib.Decide.{dec_lt}
use native.Mathlib.Omega.{arith}
use lib.Dec.{eqb}
use lib.ListN.{length, get_or, take, drop}
use lib.Seq.{get_or-drop, take-suc}
use Rattle.std.specs.List.{fold}
use Rattle.std.proofs.lemmas.List.Sums.{fold-append}
use Rattle.pgs_base.proofs.Lists.{to_end}
use borrow.Author.Count.{below_more}
use borrow.Author.Tests.{eqb-false, not-true}
use Rattle.pgs_run_length.specs.Literals.{literals, Literals}

-- one byte more is tested
abbrev pub and_nonzero : Bool → ℕ → Bool
and_nonzero all byte = all && not (eqb byte 0)

-- the first bytes, tested one after another
pub literals-folded : (l : List ℕ) (n : ℕ) → n ≤ length l → fold and_nonzero true (take n l) ≡ literals l 0 n
literals-folded l zero h = refl
literals-folded l (suc n) h =
    ap (fold and_nonzero true) (take-suc l n 0 h)
    ∙ fold-append and_nonzero true (take n l) (get_or l n 0 ∷ [])
    ∙ (λ i. and_nonzero (literals-folded l n (omega arith) i) (get_or l (sym (zero-add n) i) 0))

module _ (l : List ℕ) (at : ℕ) where
  pub literals-none : Literals l at 0
  literals-none k h = absurd (omega arith)

  -- one byte more is nonzero
  pub literals-next : (n : ℕ) → Literals l at n → (get_or l (at + n) 0 ≡ 0 → ⊥) → Literals l at (n + 1)
  literals-next n before nonzero = below_more (λ (k : ℕ). get_or l (at + k) 0 ≡ 0 → ⊥) n before nonzero

  pub literals-one : (get_or l at 0 ≡ 0 → ⊥) → Literals l at 1
  literals-one nonzero k h e = nonzero (subst (λ (i : ℕ). get_or l i 0 ≡ 0) {x = at + k} {y = at} (omega arith) e)

  -- one byte more is tested
  literals-more : (n : ℕ) (all : Bool) → (all ≡ true → Literals l at n)
      → (all && not (eqb (get_or l (at + n) 0) 0)) ≡ true → Literals l at (n + 1)
  literals-more n true before e =
      below_more (λ (k : ℕ). get_or l (at + k) 0 ≡ 0 → ⊥) n (before refl) (eqb-false (get_or l (at + n) 0) 0 (not-true (eqb (get_or l (at + n) 0) 0) e))
  literals-more n false before e = absurd (let z : ◌≡◌ {A = ℕ} 0 1 = cc in omega arith)

  -- m more are nonzero
  pub literals-join : (n m : ℕ) → Literals l at n → Literals l (at + n) m → Literals l at (n + m)
  literals-join n m before more k h zero-at = go (dec_lt k n)
    where
      go : Dec (k < n) → ⊥
      go (yes p) = before k p zero-at
      go (no p) =
          more (k - n) (omega (arith, p)) (subst (λ (i : ℕ). get_or l i 0 ≡ 0) {x = at + k} {y = at + n + (k - n)} (omega (arith, p)) zero-at)

  -- what the test of n bytes says
  pub literals-said : (n : ℕ) → literals l at n ≡ true → Literals l at n
  literals-said zero e = literals-none
  literals-said (suc n) e = subst (Literals l at) {x = n + 1} {y = suc n} (omega arith) (literals-more n (literals l at n) (literals-said n) e)

  -- the test of what stands from the place on is the test at the place
  pub literals-there : (n : ℕ) → literals (drop at l) 0 n ≡ literals l at n
  literals-there zero = refl
  literals-there (suc n) = λ j. literals-there n j && not (eqb (byte j) 0)
    where
      byte : get_or (drop at l) (0 + n) 0 ≡ get_or l (at + n) 0
      byte = get_or-drop at l (0 + n) 0 ∙ ap (λ (i : ℕ). get_or l i 0) {x = at + (0 + n)} {y = at + n} (omega arith)

  -- of what stands from the place on, which is also what is left of the list
  pub literals-behind : (n : ℕ) → Literals (drop at l) 0 n → Literals l at n
  literals-behind n h k below e =
      h k below (get_or-drop at l (0 + k) 0 ∙ ap (λ (i : ℕ). get_or l i 0) {x = at + (0 + k)} {y = at + k} (omega arith) ∙ e)

  pub literals-left : (n : ℕ) → Literals (take (length l - at) (drop at l)) 0 n → Literals l at n
  literals-left n h = literals-behind n (subst (λ (m : List ℕ). Literals m 0 n) (to_end at l) h)
