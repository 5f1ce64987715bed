-- A call that tells one answer twice: how many records its list has, and the numbers as cells. Assumes nothing.
use mathlib.Core.Path.{◌≡◌}
use Prim.Native.Nat.{ℕ}
use mathlib.Core.List.{List}
use Rattle.std.specs.Prelude.{Result, Err, IsOkAnd, MatchResult}
use Rattle.pgs_base.specs.declared.refusal.Refusal.{Refusal}
use Rattle.pgs_base.specs.Outcome.{Verdict, Delivered, delivery, outcome}
use Rattle.pgs_calls.specs.Calls.{NumbersCall}
use Rattle.pgs_c_told.proofs.ToldLaws.{mapped, told-mapped}
use Rattle.pgs_c_told.specs.Told.{code_by, set_by}

-- the closures take the count, the numbers, and the cells of the numbers
module _ {N R : Type 0} {P : N × ℕ → ℕ → Type 0} {Q : N × ℕ → N → Type 0} {S : N → List ℕ → Type 0} (cells : N → List ℕ)
    (counts : (y : N × ℕ) (z : ℕ) → P y z → z ≡ y.1) (takes : (y : N × ℕ) (z : N) → Q y z → z ≡ y.0) (turns : (y : N) (z : List ℕ) → S y z → z ≡ cells y) where
  pub numbers-told : (verdict : Verdict) (rows : List R) (x : N × ℕ) (list list' : List R) (was : List ℕ) (count : ℕ)
      (a : Result (N × ℕ) Refusal) (n : Result ℕ Refusal) (p : Result N Refusal) (q : Result (List ℕ) Refusal) {now : List ℕ} {count' told r : ℕ}
      → Delivered verdict x rows list list' (outcome a)
      → MatchResult a (λ y. IsOkAnd n (P y)) (λ e. n ≡ Err e) → told ≡ code_by (outcome n) → count' ≡ set_by (outcome n) count
      → MatchResult a (λ y. IsOkAnd p (Q y)) (λ e. p ≡ Err e) → MatchResult p (λ y. IsOkAnd q (S y)) (λ e. q ≡ Err e)
      → r ≡ code_by (outcome q) → now ≡ set_by (outcome q) was
      → NumbersCall verdict rows list list' (cells x.0) was now x.1 count count' r
  numbers-told verdict rows x list list' was count a n p q d in-n told-is count-is in-p in-q code-is cells-are =
      let v = delivery verdict rows list in
      let counted = told-mapped (λ (y : N × ℕ). y.1) counts v x a n count d.answered in-n told-is count-is in
      let numbers = mapped (λ (y : N × ℕ). y.0) takes v x a p d.answered in-p in
      let stored = told-mapped cells turns v x.0 p q was numbers in-q code-is cells-are in
      record { call = record { code = stored.0; listed = d.written; counted = counted.1 }; numbers = stored.1 }
