-- Records that stand one after another in a body. A record's size in bytes may depend on the record itself, so it is given as a
-- function of the bytes from its start on.
use Rattle.std.specs.Prelude.{ℕ, zero, suc, ◌+◌, Bool, true, false, List, [], ◌∷◌, length, drop, leb}
use Rattle.pgs_base.specs.Bytes.{num}
use Rattle.pgs_base.specs.Outcome.{Verdict, and_then, unless, pick}
use Rattle.pgs_records.specs.declared.BodyList.{BodyList}

-- n records from the front of l
abbrev pub records : {A : Type 0} → (List ℕ → A) → (List ℕ → ℕ) → ℕ → List ℕ → List A
records f size zero l = []
records f size (suc n) l = f l ∷ records f size n (drop (size l) l)

-- whether each of n records is whole: none needs more bytes than are left. A reader that goes field by field runs out in a record exactly
-- when fewer bytes are left than its size
abbrev pub records_fit : (List ℕ → ℕ) → ℕ → List ℕ → Bool
records_fit size zero l = true
records_fit size (suc n) l = pick (leb (size l) (length l)) (records_fit size n (drop (size l) l)) false

-- how many bytes n records take
abbrev pub records_size : (List ℕ → ℕ) → ℕ → List ℕ → ℕ
records_size size zero l = 0
records_size size (suc n) l = size l + records_size size n (drop (size l) l)

-- whether a body is whole whose byte at `at` counts the records behind it. 4: "reader runs out"
abbrev pub counted_verdict : (List ℕ → ℕ) → ℕ → List ℕ → Verdict
counted_verdict size at b = and_then (unless 4 (leb (at + 1) (length b))) (unless 4 (records_fit size (num 1 at b) (drop (at + 1) b)))

-- where these records stand
abbrev pub counted_list : (List ℕ → ℕ) → ℕ → List ℕ → BodyList
counted_list size at b = record { count = num 1 at b; start = at + 1; len = records_size size (num 1 at b) (drop (at + 1) b) }

abbrev pub counted_records : {A : Type 0} → (List ℕ → A) → (List ℕ → ℕ) → ℕ → List ℕ → List A
counted_records f size at b = records f size (num 1 at b) (drop (at + 1) b)
