-- The walk that tests the objects of each set. Assumes nothing.
use mathlib.Core.Path.{◌≡◌, refl, sym, ap, ◌∙◌}
use mathlib.Core.List.{List, [], ◌∷◌, map}
use Prim.Native.Nat.{ℕ, ◌+◌}
use lib.ListN.{drop}
use Rattle.pgs_base.specs.Outcome.{Verdict, accepted, and_then}
use Rattle.pgs_segment.specs.OneSegment.{used_by}
use Rattle.pgs_reassembly.proofs.ObjectLaws.{begin-fragments}
use Rattle.pgs_reassembly.specs.Objects.{Chain, fragments_verdict, object_limit, each_verdict, all_objects_verdict}
use Rattle.pgs_reassembly.specs.Tables.{Found, fragments_left}
use Rattle.pgs_reassembly.specs.declared.ChainRow.{ChainRow}
use Rattle.pgs_set.proofs.RecordLaws.{AllBegin, records-begin, begins-at, by-sets, stream-stands}
use Rattle.pgs_set.specs.Records.{set_records}
use Rattle.pgs_set.specs.Sets.{DisplaySet, set_record, sets_from, sets_of, sets_verdict}
use Rattle.pgs_set.specs.Walks.{pieces_at, Ends, SetBegins, set_at}
use Rattle.pgs_set.specs.declared.set.SetRecord.{SetRecord}

-- the objects of the sets with these records
abbrev pub records_verdict : List ℕ → List SetRecord → Verdict
records_verdict s [] = accepted
records_verdict s (x ∷ xs) =
    and_then (fragments_verdict object_limit (fragments_left s (x.place + used_by (drop x.place s)))) (records_verdict s xs)

-- what is left decides as the whole does
pub record Testing (s : List ℕ) (left : List SetRecord) : Type 0 where
  pub begin : AllBegin s left
  pub verdict : records_verdict s left ≡ each_verdict object_limit (sets_of s)

module _ (s : List ℕ) where
  pub testing : sets_verdict s ≡ accepted → {left : List SetRecord} → left ≡ set_records s → Testing s left
  unfolding sets_of
  testing e q = rw q (record { begin = records-begin s e; verdict = by-sets s P refl more 0 (stream-stands s e) })
    where
      P : List DisplaySet → Type 0
      P ds = records_verdict s (map set_record ds) ≡ each_verdict object_limit ds

      more : (at r : ℕ) → SetBegins s at → Ends s (at + used_by (drop at s)) r → P (sets_from r (pieces_at s r)) → P (set_at s at ∷ sets_from r (pieces_at s r))
      more at r b x on =
          (λ j.
          and_then (fragments_verdict object_limit (fragments_left s (begins-at s b j + used_by (drop (begins-at s b j) s)))) (on j))
          ∙ ap (λ (v : Verdict). and_then v (each_verdict object_limit (sets_from r (pieces_at s r))))
          (ap (fragments_verdict object_limit) (sym (begin-fragments s b)))

  module _ {xs : List SetRecord} (c : Testing s xs) where
    module _ {x : SetRecord} {left : List SetRecord} (here : xs ≡ x ∷ left) where
      module _ {t : List ℕ} {from : ℕ} (es : t ≡ s) (ef : from ≡ x.place + used_by (drop x.place s)) {cs : List Chain} {now : List ChainRow} {answer : Verdict}
          (g : Found t (fragments_verdict object_limit (fragments_left t from)) cs now answer) where
        decides : and_then answer (records_verdict s left) ≡ each_verdict object_limit (sets_of s)
        decides =
            ap (λ (v : Verdict). and_then v (records_verdict s left)) (g.answered ∙ (λ j. fragments_verdict object_limit (fragments_left (es j) (ef j))))
            ∙ ap (records_verdict s) (sym here)
            ∙ c.verdict

-- the stream is refused, or its sets are tested
module _ (s : List ℕ) where
  module _ {t : List ℕ} (same : t ≡ s) (a : sets_verdict t ≡ accepted) where
    tested : all_objects_verdict s ≡ each_verdict object_limit (sets_of t)
    tested = ap all_objects_verdict (sym same) ∙ ap (λ (v : Verdict). and_then v (each_verdict object_limit (sets_of t))) a
