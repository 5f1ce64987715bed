-- What the loops over rows need of lists. Assumes nothing.
use mathlib.Core.Path.{◌≡◌, sym, ap, ◌∙◌}
use mathlib.Core.List.{List, ◌∷◌}
use Prim.Native.Nat.{ℕ, ◌+◌, ◌<◌}
use native.Mathlib.Numerals.{add-one}
use lib.ListN.{length, drop, get_or}
use lib.Seq.{drop-cons}
use mathlib.Core.Bool.{false}
use Rattle.std.specs.Prelude.{None}
use Rattle.pgs_reassembly.specs.declared.ChainRow.{ChainRow}

-- a row that stands for none
abbrev pub no_row : ChainRow
no_row =
    record {
      first = record {
        place = 0;
        ods = record { object_id = 0; object_version_number = 0; last_in_sequence_flag = 0; object_data_length = 0; dimensions = None };
        start = 0;
        len = 0;
      };
      closed = false;
      copied = false;
      len = 0;
    }

-- what is left, the next element first
pub drop-next : {A : Type 0} (l : List A) (i : ℕ) (d : A) → i < length l → drop i l ≡ get_or l i d ∷ drop (i + 1) l
drop-next l i d h = drop-cons l i d h ∙ ap (λ (n : ℕ). get_or l i d ∷ drop n l) (sym (add-one i))
