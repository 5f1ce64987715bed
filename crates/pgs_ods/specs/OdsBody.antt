-- The body of an ODS. 01, module 3: "ODS: object id 2, version 1, fragment flag 1, declared length 3; if first, width 2 and height 2;
-- the rest is data. Flag 80 is first, 40 last, C0 both; any other is a middle fragment."
-- From US 2009/0185789, whose text is not at hand: 01 gives what is needed of it.
use Rattle.std.specs.Prelude.{ℕ, ◌-◌, List, length, drop, leb, Option, None, Some}
use Rattle.pgs_base.specs.Bytes.{num}
use Rattle.pgs_views.specs.Fragments.{fragment_of, is_first}
use Rattle.pgs_base.specs.Outcome.{Verdict, and_then, unless, pick}
use Rattle.pgs_records.specs.declared.BodyList.{BodyList}
use Rattle.pgs_base.specs.declared.dimensions.Dimensions.{Dimensions}
use Rattle.pgs_ods.specs.declared.ods.Ods.{Ods}

-- the fragment flag of a body
abbrev pub flag_of : List ℕ → ℕ
flag_of b = num 1 3 b

-- how many bytes stand before the data: 7, and 4 for the dimensions of a first fragment
abbrev pub head_size : ℕ → ℕ
head_size flag = pick (is_first (fragment_of flag)) 11 7

abbrev pub dimensions_of : List ℕ → Option Dimensions
dimensions_of b = pick (is_first (fragment_of (flag_of b))) (Some (record { width = num 2 7 b; height = num 2 9 b })) None

abbrev pub ods_of : List ℕ → Ods
ods_of b =
    record {
      object_id = num 2 0 b;
      object_version_number = num 1 2 b;
      last_in_sequence_flag = flag_of b;
      object_data_length = num 3 4 b;
      dimensions = dimensions_of b;
    }

-- the data bytes
abbrev pub ods_data : List ℕ → List ℕ
ods_data b = drop (head_size (flag_of b)) b

-- 4: "reader runs out"
abbrev pub ods_verdict : List ℕ → Verdict
ods_verdict b = and_then (unless 4 (leb 7 (length b))) (unless 4 (leb (head_size (flag_of b)) (length b)))

-- the data stands after the numbers
abbrev pub ods_list : List ℕ → BodyList
ods_list b = record { count = 0; start = head_size (flag_of b); len = length b - head_size (flag_of b) }
