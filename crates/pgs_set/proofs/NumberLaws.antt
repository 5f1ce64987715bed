-- The set of a number: where it stands, its record, and how finding it ends. Assumes nothing.
use mathlib.Core.Path.{◌≡◌, refl, sym, ap, subst, ◌∙◌}
use mathlib.Core.Bool.{Bool, true, false}
use mathlib.Core.List.{List}
use Prim.Native.Nat.{ℕ, ◌≤◌, ◌<◌}
use borrow.Author.Tests.{lt-ltb, le-ltb, leb-true, leb-false}
use native.Mathlib.Omega.{arith}
use lib.Dec.{leb}
use Rattle.std.specs.Prelude.{Option, None, Some, ok_or}
use Rattle.std.specs.Option.{option_map}
use Rattle.std.proofs.Common.{rules}
use Rattle.std.proofs.lemmas.Iterator.Adapters.{option_map_id}
use Rattle.std.specs.List.{slice_get}
use Rattle.std.proofs.lemmas.Option.{slice_get-map, slice_get-get_or, slice_get_past}
use lib.ListN.{length-map, drop}
use Rattle.pgs_base.specs.Outcome.{Outcome, accepted, gives, refuses, outcome, and_then, unless}
use Rattle.pgs_base.proofs.Outcomes.{gives_as, refuses-as}
use Rattle.pgs_base.specs.declared.refusal.Refusal.TheVariants.{NoSuchSet}
use Rattle.pgs_stream.specs.Stream.{step_verdict}
use Rattle.pgs_set.proofs.SetLaws.{outside-here}
use Rattle.pgs_set.specs.Sets.{no_set, sets_of, set_number, set_record, set_count, sets_verdict}
use Rattle.pgs_set.specs.Records.{set_records}
use Rattle.pgs_set.specs.Walks.{SetBegins, SetStands, FoundSet}
use Rattle.pgs_set.proofs.RecordLaws.{number-stands}
use Rattle.pgs_set.specs.declared.set.SetRecord.{SetRecord}

-- the place in the record that an answer gives
abbrev place_given : Outcome SetRecord → ℕ
place_given (gives d) = d.place
place_given (refuses k) = 0

-- the set of a number, where its PCS stands
module _ (s : List ℕ) (k : ℕ) {r : ℕ} (st : SetStands s k r) where
  pub stands_here : step_verdict (drop r s) ≡ accepted
  stands_here = outside-here s st.standing st.more

  pub stands-begins : SetBegins s r
  stands-begins = record { standing = st.standing; more = st.more }

module _ (s : List ℕ) (k : ℕ) where
  -- a set that is there: the record of this number is its own
  module _ (a : sets_verdict s ≡ accepted) (m : k < set_count s) {r : Option SetRecord} (q : option_map (λ x. x) r ≡ slice_get (set_records s) k) where
    pub number-found : r ≡ Some (set_record (set_number k s))
    number-found =
        sym (option_map_id r) ∙ q ∙ slice_get-map set_record (sets_of s) k ∙ ap (option_map set_record) (slice_get-get_or (sets_of s) k no_set m)

    pub finds-set : {d : SetRecord} → r ≡ Some d → FoundSet s k (gives d)
    finds-set {d} e =
        let its : set_record (set_number k s) ≡ d = let p : Some (set_record (set_number k s)) ≡ Some d = sym number-found ∙ e in cc in
        record {
          answered = gives_as (λ j. and_then (a j) (unless 36 (lt-ltb k (set_count s) m j))) (sym its);
          stands = λ x y.
              let p : (set_number k s).place ≡ x.place = ap (λ (z : SetRecord). z.place) its ∙ ap place_given y in
              subst (λ (n : ℕ). SetStands s k n) p (number-stands s a k m);
        }

  -- no set has this number
  none-found : sets_verdict s ≡ accepted → set_count s ≤ k → FoundSet s k (refuses 36)
  none-found a past =
      record {
        answered = refuses-as (set_record (set_number k s)) (λ j. and_then (a j) (unless 36 (le-ltb k (set_count s) past j)));
        stands = λ x y. absurd (search rules);
      }

  -- the record of this number answers, and where there is none, 36
  pub finds : sets_verdict s ≡ accepted → (r : Option SetRecord) → option_map (λ x. x) r ≡ slice_get (set_records s) k
      → FoundSet s k (outcome (ok_or r NoSuchSet))
  finds a r q = go (leb (set_count s) k) refl
    where
      go : (b : Bool) → leb (set_count s) k ≡ b → FoundSet s k (outcome (ok_or r NoSuchSet))
      go true e =
          let past = leb-true (set_count s) k e in
          let none : r ≡ None = sym (option_map_id r) ∙ q ∙ slice_get_past (set_records s) k (omega (arith, past, length-map (sets_of s) set_record)) in
          rw none (none-found a past)
      go false e =
          let there = leb-false (set_count s) k e in
          rw (number-found a there q) (finds-set a there q (number-found a there q))
