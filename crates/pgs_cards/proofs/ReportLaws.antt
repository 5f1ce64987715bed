-- What the calls that write cards answer, and what is printed. Assumes nothing.
use mathlib.Core.Path.{◌≡◌, refl, sym}
use mathlib.Core.Bool.{Bool, true, false}
use mathlib.Core.List.{List, [], ◌∷◌, ◌++◌}
use Prim.Native.Nat.{ℕ, ◌+◌, ◌/◌, ◌%◌, ◌≤◌, ◌<◌}
use native.Mathlib.Omega.{arith}
use borrow.Author.Tests.{leb-true, le-leb, lt-leb}
use lib.ListN.{length}
use lib.Dec.{leb, ltb}
use Rattle.pgs_base.specs.Outcome.{Verdict, accepted, refused, Outcome, Delivered, pick}
use Rattle.pgs_base.proofs.Outcomes.{first-accepts}
use Rattle.pgs_reassembly.specs.Objects.{all_objects_verdict}
use Rattle.pgs_set.specs.Sets.{sets_verdict}
use Rattle.pgs_cards.proofs.LineLaws.{card-lines-length}
use Rattle.pgs_cards.proofs.RoomLaws.{sets-room}
use Rattle.pgs_cards.specs.Cards.{card_lines}
use Rattle.pgs_cards.specs.Reports.{input_limit, printed, refusal_line, report_of, too_long}

-- what is printed
module _ (s : List ℕ) where
  pub says-too-long : input_limit < length s → too_long ≡ report_of s
  unfolding report_of
  says-too-long h = simp (lt-leb (length s) input_limit h)

  module _ (h : length s ≤ input_limit) where
    pub says-refusal : {k : ℕ} → all_objects_verdict s ≡ refused k → refusal_line k ≡ report_of s
    unfolding report_of
    says-refusal e = λ j. pick (sym (le-leb (length s) input_limit h) j) (printed (sym e j) (card_lines s)) too_long

    pub says-cards : all_objects_verdict s ≡ accepted → card_lines s ≡ report_of s
    unfolding report_of
    says-cards e = λ j. pick (sym (le-leb (length s) input_limit h) j) (printed (sym e j) (card_lines s)) too_long

-- a text that was written, by another name
pub text-is : {new text before after : List ℕ} {o : Outcome ℕ} → new ≡ text → Delivered accepted (length new) new before after o
    → Delivered accepted (length text) text before after o
text-is e d = rw e at d

-- no text is longer than the longest input
pub report-short : (s : List ℕ) → length (report_of s) ≤ input_limit
unfolding report_of
report-short s = go (leb (length s) input_limit) refl
  where
    refusal : (n : ℕ) (b : Bool) → length (pick b ((48 + n) ∷ []) ((48 + n / 10) ∷ (48 + n % 10) ∷ []) ++ (10 ∷ [])) ≤ 3
    refusal n true = omega arith
    refusal n false = omega arith

    by : (v : Verdict) → v ≡ all_objects_verdict s → length s ≤ input_limit → length (printed v (card_lines s)) ≤ input_limit
    by accepted e h =
        omega (arith, card-lines-length s, sets-room s (first-accepts (sets_verdict s) _ (sym e)))
    by (refused k) e h = omega (arith, refusal k (ltb k 10))

    go : (b : Bool) → leb (length s) input_limit ≡ b → length (pick b (printed (all_objects_verdict s) (card_lines s)) too_long) ≤ input_limit
    go true e = by (all_objects_verdict s) refl (leb-true (length s) input_limit e)
    go false e = omega arith
