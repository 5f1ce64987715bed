-- The call for painting: `pgs_render`. Each parameter that it may change is named as it was, and with a prime as it is.
use Rattle.std.specs.Prelude.{ℕ, ◌≡◌, List, [], ◌∷◌, length}
use Rattle.pgs_base.specs.Outcome.{Verdict, laid}
use Rattle.pgs_calls.specs.Calls.{code_of, becomes}
use Rattle.pgs_color.specs.Bytes.{rgb_of}
use Rattle.pgs_rendering.specs.Images.{look_in}
use Rattle.pgs_rendering.specs.Rendering.{colors_in, picture_of, early_verdict, content_verdict, render_verdict, left_by, answer_of}
use Rattle.pgs_rendering.specs.declared.Shown.{Shown}
use Rattle.pgs_reassembly.specs.Objects.{objects_of, objects_verdict}
use Rattle.pgs_set.specs.Sets.{set_number}

-- whether set number k is painted
abbrev pub render_call_verdict : List ℕ → ℕ → List ℕ → List ℕ → Verdict
render_call_verdict s k scratch plane = render_verdict (objects_verdict k s) (set_number k s) (objects_of k s) (length scratch) (length plane)

-- what is shown, as cells: width, height, PTS
abbrev pub shown_cells : Shown → List ℕ
shown_cells a = a.size.width ∷ a.size.height ∷ a.pts ∷ []

-- painting set number k: the joined data and the bitmaps, the pixels, and what is shown. Refused by 24 to 33 it has written the joined
-- data, as document 01 says
pub record RenderCall (s : List ℕ) (k : ℕ) (scratch scratch' plane plane' shown shown' : List ℕ) (r : ℕ) : Type 0 where
  pub code : r ≡ code_of (render_call_verdict s k scratch plane)
  pub stored : scratch'
      ≡ laid (early_verdict (objects_verdict k s) (set_number k s) (objects_of k s) (length scratch) (length plane))
      (left_by (content_verdict (set_number k s) (objects_of k s)) (objects_of k s)) scratch
  pub painted : plane'
      ≡ laid (render_call_verdict s k scratch plane) (picture_of (colors_in rgb_of (set_number k s)) (look_in (objects_of k s)) (set_number k s)) plane
  pub answered : shown' ≡ becomes (render_call_verdict s k scratch plane) (shown_cells (answer_of (set_number k s))) shown
