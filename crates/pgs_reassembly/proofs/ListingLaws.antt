-- The loops that test the chains of a set and list its objects, and what the rows say of the chains. Assumes nothing.
use mathlib.Core.Path.{◌≡◌, refl, sym, ap, ◌∙◌}
use mathlib.Core.Bool.{Bool, true, false}
use mathlib.Core.List.{List, [], ◌∷◌, map}
use Prim.Native.Nat.{ℕ, suc, ◌+◌, ◌≤◌, ◌<◌}
use native.Mathlib.Omega.{arith}
use lib.ListN.{length, drop, get_or, length-append, length-map}
use Rattle.std.proofs.lemmas.List.Recursion.{is_sum_by}
use Rattle.std.specs.List.{sum_by}
use Rattle.pgs_base.specs.Outcome.{Verdict, and_then, pick}
use Rattle.pgs_reassembly.proofs.Lists.{no_row, drop-next}
use Rattle.pgs_reassembly.specs.Objects.{Chain, data_of, chains_verdict}
use Rattle.pgs_reassembly.specs.Reassembly.{copied, copied_data, joined_data, object_record, object_records_from, row_of, rows_from}
use Rattle.pgs_reassembly.specs.declared.ObjectRecord.{ObjectRecord}
use Rattle.pgs_reassembly.specs.declared.ChainRow.{ChainRow}
use Rattle.pgs_reassembly.specs.Tables.{chain_row, total, row_verdict, rows_verdict, copied_in, joined_in, record_at, records_from}

-- what is copied is no more than all data
pub joined-total : (rows : List ChainRow) → joined_in rows ≤ total rows
joined-total [] = omega arith
joined-total (r ∷ rs) = go r.copied (joined-total rs)
  where
    go : (b : Bool) → joined_in rs ≤ total rs → pick b r.len 0 + joined_in rs ≤ r.len + total rs
    go true h = omega arith
    go false h = omega arith

-- as a sum
pub joined-sum : (rows : List ChainRow) → joined_in rows ≡ sum_by copied_in rows
joined-sum rows = is_sum_by joined_in copied_in refl (λ r rs. refl) rows

-- i rows are tested, and are accepted
pub record Checking (rows : List ChainRow) (i : ℕ) : Type 0 where
  pub within : i ≤ length rows
  pub verdict : rows_verdict (drop i rows) ≡ rows_verdict rows

module _ (rows : List ChainRow) where
  module _ {i : ℕ} (c : Checking rows i) (m : i < length rows) where
    decides : (v : Verdict) → row_verdict (get_or rows i no_row) ≡ v → rows_verdict rows ≡ and_then v (rows_verdict (drop (i + 1) rows))
    decides v e =
        sym c.verdict
        ∙ ap rows_verdict (drop-next rows i no_row m)
        ∙ ap (λ (v : Verdict). and_then v (rows_verdict (drop (i + 1) rows))) e

-- a record for each row
pub rows-length : (at : ℕ) (rows : List ChainRow) → length (records_from at rows) ≡ length rows
rows-length at [] = refl
rows-length at (r ∷ rs) = ap suc (rows-length (at + copied_in r) rs)

-- the record of the next row, and those of the rows after it, whose copied data goes behind its own
pub rows-next : {A : Type 0} (made : ObjectRecord → A) (at : ℕ) {k : ℕ} {rows rest : List ChainRow} {r : ChainRow} {a : A} → rows ≡ r ∷ rest
    → a ≡ made (record_at at r) → k ≡ copied_in r → map made (records_from at rows) ≡ a ∷ map made (records_from (at + k) rest)
rows-next made at {rest = rest} e ea ek =
    ap (λ (l : List ChainRow). map made (records_from at l)) e ∙ (λ j. sym ea j ∷ map made (records_from (at + sym ek j) rest))

-- what the rows say is what holds of the chains

pub rows-verdict : (cs : List Chain) → rows_verdict (map chain_row cs) ≡ chains_verdict cs
rows-verdict [] = refl
rows-verdict (c ∷ cs) = ap (and_then (row_verdict (chain_row c))) (rows-verdict cs)

pub row_copied : (c : Chain) → copied_in (chain_row c) ≡ length (copied_data c)
row_copied c = go (copied c)
  where
    go : (b : Bool) → pick b (length (data_of c)) 0 ≡ length (pick b (data_of c) [])
    go true = refl
    go false = refl

pub rows-joined : (cs : List Chain) → joined_in (map chain_row cs) ≡ length (joined_data cs)
rows-joined [] = refl
rows-joined (c ∷ cs) = (λ j. row_copied c j + rows-joined cs j) ∙ sym (length-append (copied_data c) (joined_data cs))

pub rows-records : (at : ℕ) (cs : List Chain) → records_from at (map chain_row cs) ≡ object_records_from at cs
rows-records at [] = refl
rows-records at (c ∷ cs) =
    (λ j. object_record at c ∷ records_from (at + row_copied c j) (map chain_row cs))
    ∙ ap (λ (l : List ObjectRecord). object_record at c ∷ l) (rows-records (at + length (copied_data c)) cs)

-- one record to an object
pub objects-count : (at : ℕ) (xs : List Chain) → length (object_records_from at xs) ≡ length xs
objects-count at [] = refl
objects-count at (c ∷ xs) = ap suc (objects-count (at + length (copied_data c)) xs)

pub record-count : (at : ℕ) (xs : List Chain) → length (rows_from at xs) ≡ length xs
record-count at xs = length-map (object_records_from at xs) row_of ∙ objects-count at xs

-- records as they are
pub map-same : (l : List ObjectRecord) → map (λ (object : ObjectRecord). object) l ≡ l
map-same [] = refl
map-same (r ∷ l) = ap (λ (k : List ObjectRecord). r ∷ k) (map-same l)
