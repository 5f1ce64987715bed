-- A set is open at a place where that merely is so: what is known of it can be computed. Assumes nothing.
use mathlib.Core.Path.{◌≡◌, refl}
use mathlib.Core.Bool.{Bool, true, false}
use mathlib.Core.List.{List}
use Prim.Native.Nat.{ℕ}
use lib.ListN.{drop}
use Rattle.std.proofs.lemmas.Grind.{not_there}
use Rattle.std.proofs.Math.Logic.{∥∥₁_elim}
use Rattle.std.specs.Coded.{le_prop}
use Rattle.pgs_base.specs.Outcome.{Verdict, accepted, refused}
use Rattle.pgs_base.proofs.Outcomes.{not-both, not-refused}
use Rattle.pgs_stream.specs.Stream.{stream_verdict}
use Rattle.pgs_set.specs.Sets.{group_verdict}
use Rattle.pgs_set.specs.Walks.{pieces_at, InSet}
use Rattle.pgs_set.specs.declared.grouping.Grouping.TheVariants.{Inside}

module _ (s : List ℕ) (at : ℕ) (t : ∥ InSet s at ∥₁) where
  -- the set has no WDS yet, or else it has one
  windows-or : (v : Verdict) → group_verdict (Inside false) (pieces_at s at) ≡ v → (w : Bool) × (group_verdict (Inside w) (pieces_at s at) ≡ accepted)
  windows-or accepted e = (false, e)
  windows-or (refused k) e =
      (true, not-refused (group_verdict (Inside true) (pieces_at s at)) (λ m q. not_there t (λ i. neither m q i.windows i.standing.grouped)))
    where
      neither : (m : ℕ) → group_verdict (Inside true) (pieces_at s at) ≡ refused m → (w : Bool) → group_verdict (Inside w) (pieces_at s at) ≡ accepted → ⊥
      neither m q true a = not-both a q
      neither m q false a = not-both a e

  pub is-open : InSet s at
  is-open =
      let w = windows-or (group_verdict (Inside false) (pieces_at s at)) refl in
      record {
        windows = w.0;
        standing =
            record {
              inside = ∥∥₁_elim t le_prop (λ i. i.standing.inside);
              good = not-refused (stream_verdict (drop at s)) (λ k e. not_there t (λ i. not-both i.standing.good e));
              grouped = w.1;
            };
      }
