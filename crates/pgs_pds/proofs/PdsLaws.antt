-- How testing and reading a PDS body end, over its bytes. Assumes nothing.
use mathlib.Core.Path.{◌≡◌, refl, ap, ◌∙◌}
use mathlib.Core.Bool.{true}
use mathlib.Core.List.{List, [], ◌∷◌, map}
use Prim.Native.Nat.{ℕ, zero, suc, ◌-◌, ◌*◌, ◌/◌, ◌≤◌, ◌<◌}
use native.Mathlib.Omega.{arith}
use borrow.Author.Tests.{leb-true, le-leb}
use lib.Dec.{leb}
use lib.ListN.{length, take, drop, length-drop}
use Rattle.pgs_base.specs.Outcome.{Outcome, gives, accepted, outcome_of, unless, Delivered}
use Rattle.std.specs.Simd.{first_chunks}
use Rattle.pgs_base.proofs.Bytes.{num-byte}
use Rattle.pgs_base.proofs.Lists.{to_end}
use Rattle.pgs_base.proofs.Outcomes.{gave, gave-value, first_holds}
use Rattle.pgs_records.specs.declared.BodyList.{BodyList}
use Rattle.pgs_records.specs.Records.{records, records_fit}
use Rattle.pgs_pds.specs.PdsBody.{entry_of, entry_row, entry_rows, entry_size, entry_count, pds_verdict, pds_list}
use Rattle.pgs_records.proofs.RecordLaws.{fit-fixed}

module _ (b : List ℕ) where
  -- an accepted body has its numbers; the entries that are counted are always whole
  pub has-numbers : pds_verdict b ≡ accepted → 2 ≤ length b
  has-numbers e = leb-true 2 (length b) (first_holds 4 (leb 2 (length b)) _ e)

  pub has-entries : records_fit entry_size (entry_count b) (drop 2 b) ≡ true
  has-entries = fit-fixed 5 (entry_count b) (drop 2 b) ∙ le-leb (5 * entry_count b) (length (drop 2 b)) (rw length-drop (omega arith))

  -- what follows the numbers
  abbrev after_numbers : List ℕ
  after_numbers = take (length b - 2) (drop 2 b)

  -- the entries are delivered where the body was tested
  module _ {list : BodyList} (tested : gives list ≡ outcome_of (pds_verdict b) (pds_list b)) where
    pub count-is : list.count ≡ entry_count b
    count-is = ap (λ (l : BodyList). l.count) (gave-value (pds_verdict b) (pds_list b) tested)

    pub entries-delivered : {X : Type 0} {x : X} {before now : List (List ℕ)} {answer : Outcome X}
        → Delivered (unless 4 (records_fit entry_size list.count after_numbers)) x (map entry_row (records entry_of entry_size list.count after_numbers)) before now answer
        → Delivered (pds_verdict b) x (entry_rows b) before now answer
    unfolding entry_rows
    entries-delivered d = rw (gave (pds_verdict b) (pds_list b) tested) (rw (to_end 2 b, count-is, has-entries) at d)

-- five bytes are an entry as a caller's list holds it
chunk-row : (l : List ℕ) → 5 ≤ length l → take 5 l ≡ entry_row (entry_of l)
chunk-row [] h = absurd (omega arith)
chunk-row (a ∷ []) h = absurd (omega arith)
chunk-row (a ∷ b ∷ []) h = absurd (omega arith)
chunk-row (a ∷ b ∷ c ∷ []) h = absurd (omega arith)
chunk-row (a ∷ b ∷ c ∷ d ∷ []) h = absurd (omega arith)
chunk-row (a ∷ b ∷ c ∷ d ∷ e ∷ l) h =
    let body : List ℕ = a ∷ b ∷ c ∷ d ∷ e ∷ l in
    λ j.
    num-byte 0 body (omega (arith, h)) j
    ∷ num-byte 1 body (omega (arith, h)) j
    ∷ num-byte 2 body (omega (arith, h)) j
    ∷ num-byte 3 body (omega (arith, h)) j
    ∷ num-byte 4 body (omega (arith, h)) j
    ∷ []

chunk-rows : (n : ℕ) (l : List ℕ) → 5 * n ≤ length l → first_chunks 5 n l ≡ map entry_row (records entry_of entry_size n l)
chunk-rows zero l h = refl
chunk-rows (suc n) l h = λ j. chunk-row l (omega arith) j ∷ chunk-rows n (drop 5 l) (omega (arith, length-drop 5 l)) j

-- the chunks of what follows the numbers, as the code lends it, are the entries; a body without numbers has none
module _ (b : List ℕ) where
  pub rows-cut : {chunks : List (List ℕ)} → chunks ≡ first_chunks 5 (length (after_numbers b) / 5) (after_numbers b) → chunks ≡ entry_rows b
  unfolding entry_rows
  rows-cut e =
      e
      ∙ ap (λ (l : List ℕ). first_chunks 5 (length l / 5) l) (to_end 2 b)
      ∙ ap (λ (n : ℕ). first_chunks 5 (n / 5) (drop 2 b)) (length-drop 2 b)
      ∙ chunk-rows (entry_count b) (drop 2 b) (omega (arith, length-drop 2 b))

  pub rows-none : length b < 2 → [] ≡ entry_rows b
  unfolding entry_rows
  rows-none h =
      let none : 0 ≡ entry_count b = omega (arith, h) in
      ap (λ (n : ℕ). map entry_row (records entry_of entry_size n (drop 2 b))) none
