-- The body of a WDS. 01, module 3: "WDS: count 1, then windows: id 1, x, y, width, height, 2 each."
-- From US 2009/0185789, whose text is not at hand: 01 gives what is needed of it.
use Rattle.std.specs.Prelude.{ℕ, ◌*◌, List, [], ◌∷◌, map, length, drop, leb}
use Rattle.pgs_base.specs.Bytes.{num}
use Rattle.pgs_base.specs.Outcome.{Verdict, and_then, unless}
use Rattle.pgs_records.specs.Records.{records, records_fit}
use Rattle.pgs_records.specs.declared.BodyList.{BodyList}
use Rattle.pgs_wds.specs.declared.wds.Window.{Window}

-- one window, from the bytes at its start
abbrev pub window_of : List ℕ → Window
window_of l =
    record {
      window_id = num 1 0 l;
      horizontal_position = num 2 1 l;
      vertical_position = num 2 3 l;
      width = num 2 5 l;
      height = num 2 7 l;
    }

abbrev pub window_size : List ℕ → ℕ
window_size l = 9

-- a window as a record of a caller's list
abbrev pub window_row : Window → List ℕ
window_row w = w.window_id ∷ w.horizontal_position ∷ w.vertical_position ∷ w.width ∷ w.height ∷ []

abbrev pub window_count : List ℕ → ℕ
window_count b = num 1 0 b

abbrev pub windows_of : List ℕ → List Window
windows_of b = records window_of window_size (window_count b) (drop 1 b)

-- the windows as a caller's list holds them
unfoldable pub window_rows : List ℕ → List (List ℕ)
window_rows b = map window_row (windows_of b)

-- 4: "reader runs out"
abbrev pub wds_verdict : List ℕ → Verdict
wds_verdict b = and_then (unless 4 (leb 1 (length b))) (unless 4 (records_fit window_size (window_count b) (drop 1 b)))

-- the windows stand after the count
abbrev pub wds_list : List ℕ → BodyList
wds_list b = record { count = window_count b; start = 1; len = 9 * window_count b }
