-- From the promise of a layer to that of the call that tells its answer. Assumes nothing.
use mathlib.Core.Path.{◌≡◌, ap, ◌∙◌}
use Prim.Native.Nat.{ℕ}
use Rattle.std.specs.Prelude.{Result, Ok, Err, IsOkAnd, MatchResult}
use Rattle.pgs_base.specs.declared.refusal.Refusal.{Refusal}
use Rattle.pgs_base.specs.Outcome.{Verdict, accepted, refused, Outcome, gives, outcome, outcome_of}
use Rattle.pgs_base.proofs.Outcomes.{gave-value, turned_down, refuses-as}
use Rattle.pgs_calls.specs.Calls.{code_of, becomes}
use Rattle.pgs_c_told.specs.Told.{code_by, set_by}

-- what tells an outcome tells its verdict: the number that is answered, and the caller's cell
pub told-verdict : {X : Type 0} (v : Verdict) (x old : X) {o : Outcome X} {new : X} {r : ℕ}
    → o ≡ outcome_of v x → r ≡ code_by o → new ≡ set_by o old → (r ≡ code_of v) × (new ≡ becomes v x old)
told-verdict {X} accepted x old e p q = (p ∙ ap code_by e, q ∙ ap (λ (y : Outcome X). set_by y old) e)
told-verdict {X} (refused k) x old e p q = (p ∙ ap code_by e, q ∙ ap (λ (y : Outcome X). set_by y old) e)

-- an answer whose value `map` changes, by a closure that gives f of it: it has the same verdict
module _ {A B : Type 0} {P : A → B → Type 0} (f : A → B) (by : (y : A) (z : B) → P y z → z ≡ f y) where
  pub mapped : (v : Verdict) (x : A) (a : Result A Refusal) (b : Result B Refusal) → outcome a ≡ outcome_of v x
      → MatchResult a (λ y. IsOkAnd b (P y)) (λ r. b ≡ Err r) → outcome b ≡ outcome_of v (f x)
  mapped accepted x (Ok y) (Ok z) e h = ap gives (by y z h ∙ ap f (gave-value accepted x e))
  mapped (refused k) x (Ok y) (Ok z) e h = cc
  mapped v x (Ok y) (Err r) e h = absurd h
  mapped accepted x (Err r) b e h = cc
  mapped (refused k) x (Err r) b e h = ap outcome h ∙ refuses-as (f x) (turned_down (refused k) x e)

  -- and so has the call that tells it
  pub told-mapped : (v : Verdict) (x : A) (a : Result A Refusal) (b : Result B Refusal) (old : B) {new : B} {r : ℕ}
      → outcome a ≡ outcome_of v x → MatchResult a (λ y. IsOkAnd b (P y)) (λ r. b ≡ Err r)
      → r ≡ code_by (outcome b) → new ≡ set_by (outcome b) old → (r ≡ code_of v) × (new ≡ becomes v (f x) old)
  told-mapped v x a b old e h = told-verdict v (f x) old (mapped v x a b e h)
