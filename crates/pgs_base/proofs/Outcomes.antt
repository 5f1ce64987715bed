-- Laws of outcomes: what an answer tells of the verdict, and the three ways a call that fills a lent list ends. Assumes nothing.
use mathlib.Core.Path.{◌≡◌, refl, sym, ap, ◌∙◌}
use mathlib.Core.Bool.{Bool, true, false}
use mathlib.Core.List.{List}
use Prim.Native.Nat.{ℕ, ◌≤◌, ◌<◌}
use native.Mathlib.Omega.{arith}
use borrow.Author.Tests.{le-leb, lt-leb}
use lib.ListN.{length}
use Rattle.std.proofs.lemmas.Result.{err_from_is_err_and}
use Rattle.std.specs.Prelude.{Result, IsErrAnd}
use Rattle.pgs_base.specs.Refusals.{number_of}
use Rattle.pgs_base.specs.declared.refusal.Refusal.{Refusal}
use Rattle.pgs_base.specs.Outcome.{Verdict, accepted, refused, gives, refuses, outcome, verdict_of, outcome_of, and_then, unless, is_accepted, laid, delivery, Delivered}

module _ {X : Type 0} where
  -- values were given: the verdict accepts
  pub gave : (v : Verdict) (a : X) {x : X} → gives x ≡ outcome_of v a → v ≡ accepted
  gave accepted a e = refl
  gave (refused k) a e = cc

  -- and they are those of the definition
  pub gave-value : (v : Verdict) (a : X) {x : X} → gives x ≡ outcome_of v a → x ≡ a
  gave-value accepted a e = cc
  gave-value (refused k) a e = cc

  -- a number was given: the verdict refuses with it
  pub turned_down : (v : Verdict) (a : X) {k : ℕ} → refuses k ≡ outcome_of v a → v ≡ refused k
  turned_down accepted a e = cc
  turned_down (refused k) a e = cc

  -- the other way: an answer from the verdict
  pub gives_as : {v : Verdict} {a x : X} → v ≡ accepted → x ≡ a → gives x ≡ outcome_of v a
  gives_as e q = rw e (ap gives q)

  pub refuses-as : {v : Verdict} (a : X) {k : ℕ} → v ≡ refused k → refuses k ≡ outcome_of v a
  refuses-as a e = rw e

-- what `?` passes on is the refusal that came
module _ {X : Type 0} (r : Result X Refusal) (e : Refusal) (h : IsErrAnd r (λ x. x ≡ e)) where
  pub passed_on : outcome r ≡ refuses (number_of e)
  passed_on = let p = err_from_is_err_and r h in rw (p.1, p.2)

  pub passed_verdict : verdict_of r ≡ refused (number_of e)
  passed_verdict = let p = err_from_is_err_and r h in rw (p.1, p.2)

-- a verdict does not accept and refuse
pub not-both : {v : Verdict} {k : ℕ} → v ≡ accepted → v ≡ refused k → ⊥
not-both e q = omega (arith, ap refusals (sym e ∙ q))
  where
    refusals : Verdict → ℕ
    refusals accepted = 0
    refusals (refused j) = 1

-- and does one of the two
pub not-refused : (v : Verdict) → ((k : ℕ) → v ≡ refused k → ⊥) → v ≡ accepted
not-refused accepted h = refl
not-refused (refused k) h = absurd (h k refl)

-- a verdict of two tests that accepts: both hold
pub first_holds : (k : ℕ) (t : Bool) (v : Verdict) → and_then (unless k t) v ≡ accepted → t ≡ true
first_holds k true v e = refl
first_holds k false v e = cc

pub first-accepts : (w v : Verdict) → and_then w v ≡ accepted → w ≡ accepted
first-accepts accepted v e = refl
first-accepts (refused k) v e = e

pub second_holds : (w v : Verdict) → and_then w v ≡ accepted → v ≡ accepted
second_holds accepted v e = e
second_holds (refused k) v e = cc

pub holds : (k : ℕ) (t : Bool) → unless k t ≡ accepted → t ≡ true
holds k true e = refl
holds k false e = cc

pub is-accepted : (v : Verdict) → is_accepted v ≡ true → v ≡ accepted
is-accepted accepted e = refl
is-accepted (refused k) e = cc

module _ {A X : Type 0} {v : Verdict} {x : X} {new before : List A} where
  -- the input is refused
  pub delivers-refusal : {k : ℕ} → v ≡ refused k → Delivered v x new before before (refuses k)
  delivers-refusal e = record { answered = rw e; written = rw e }

  -- a refusal of the input that `?` passes on
  pub delivers-passed : {Y : Type 0} (y : Y) (r : Result X Refusal) (e : Refusal) → IsErrAnd r (λ d. d ≡ e) → refuses (number_of e) ≡ outcome_of v y
      → Delivered v x new before before (outcome r)
  delivers-passed y r e h q =
      rw (passed_on r e h) (delivers-refusal (turned_down v y q))

  -- there is no room
  pub delivers-short : v ≡ accepted → length before < length new → Delivered v x new before before (refuses 34)
  delivers-short e h = record { answered = simp (e, lt-leb _ _ h); written = simp (e, lt-leb _ _ h) }

  -- all is written
  pub delivers-all : {after : List A} {y : X} → v ≡ accepted → length new ≤ length before → y ≡ x → after ≡ laid accepted new before
      → Delivered v x new before after (gives y)
  delivers-all e h q w = record { answered = simp (e, le-leb _ _ h) (ap gives q); written = simp (e, le-leb _ _ h) w }

  -- what the answer of such a call tells
  pub delivered-refusal : {after : List A} {k : ℕ} → Delivered v x new before after (refuses k) → delivery v new before ≡ refused k
  delivered-refusal d = turned_down (delivery v new before) x d.answered

  pub delivered : {after : List A} {y : X} → Delivered v x new before after (gives y) → delivery v new before ≡ accepted
  delivered d = gave (delivery v new before) x d.answered

  pub delivered-value : {after : List A} {y : X} → Delivered v x new before after (gives y) → y ≡ x
  delivered-value d = gave-value (delivery v new before) x d.answered
