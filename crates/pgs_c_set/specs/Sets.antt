-- The calls for display sets and their objects: `pgs_parse_display_sets`, `pgs_reassemble_objects`.
-- Each parameter that a call may change is named as it was, and with a prime as it is.
use Rattle.std.specs.Prelude.{ℕ, ◌≡◌, List, length}
use Rattle.pgs_base.specs.Outcome.{Verdict, laid}
use Rattle.pgs_calls.specs.Calls.{code_of, becomes, ListCall}
use Rattle.pgs_reassembly.specs.Objects.{objects_of, objects_verdict}
use Rattle.pgs_reassembly.specs.Reassembly.{joined_data, object_rows, reassembly}
use Rattle.pgs_set.specs.Sets.{set_count, set_rows, sets_verdict}

-- the sets of a stream: their records, and how many
abbrev pub SetsCall : List ℕ → List (List ℕ) → List (List ℕ) → ℕ → ℕ → ℕ → Type 0
SetsCall s list list' count count' r = ListCall (sets_verdict s) (set_rows s) list list' (set_count s) count count' r

-- whether the objects of a set are listed and joined
abbrev pub objects_call_verdict : List ℕ → ℕ → List ℕ → List (List ℕ) → Verdict
objects_call_verdict s k scratch list = reassembly (objects_verdict k s) (objects_of k s) list scratch

-- the objects of set number k: their joined data, their records, and how many
pub record ObjectsCall (s : List ℕ) (k : ℕ) (scratch scratch' : List ℕ) (list list' : List (List ℕ)) (count count' r : ℕ) : Type 0 where
  pub code : r ≡ code_of (objects_call_verdict s k scratch list)
  pub joined : scratch' ≡ laid (objects_call_verdict s k scratch list) (joined_data (objects_of k s)) scratch
  pub listed : list' ≡ laid (objects_call_verdict s k scratch list) (object_rows (objects_of k s)) list
  pub counted : count' ≡ becomes (objects_call_verdict s k scratch list) (length (objects_of k s)) count
