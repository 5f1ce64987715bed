-- A bitmap from its codes: lines of exactly width pixels, height of them. 01, 'Run-length code', and of 'Why a call is turned
-- down': "In a bitmap the first refused code decides, missing bytes before 24, 29 before 30; at its end 31 before 32."
use Rattle.std.specs.Prelude.{ℕ, suc, ◌+◌, Bool, not, ◌&&◌, List, [], ◌∷◌, eqb, ltb, leb}
use Rattle.pgs_base.specs.Outcome.{Verdict, refused, and_then, unless, pick}
use Rattle.pgs_run_length.specs.RunLength.{Code, run, line_end, codes_of, pixels_of}

-- What reading a bitmap comes to: whether it is accepted, and the number of codes completely read and accepted. A line end is a
-- code; the code that causes a refusal is not counted. The number is what 02 asks for later; 01 asks for the verdict alone.
pub record Reading : Type 0 where
  pub verdict : Verdict
  pub count : ℕ

-- one accepted code before what follows
abbrev pub counted : Reading → Reading
counted r = record { verdict = r.verdict; count = suc r.count }

-- nothing is accepted from here on
abbrev pub stopped : Verdict → Reading
stopped v = record { verdict = v; count = 0 }

-- "At the end, an unterminated line of width pixels counts if width is not 0"
abbrev pub last_line_counts : (width column : ℕ) → Bool
last_line_counts width column = eqb column width && not (eqb width 0)

-- At the end, with so many lines ended and so many pixels after them: 31 where they make a partial line, then
-- "exactly height lines must stand", or it is 32.
abbrev pub at_end : (width height lines column : ℕ) → Verdict
at_end width height lines column =
    pick (last_line_counts width column) (unless 32 (eqb (lines + 1) height))
    (and_then (unless 31 (eqb column 0)) (unless 32 (eqb lines height)))

-- Reads on with so many lines ended and so many pixels in the line that is open. A run that passes the width is 24. A line end
-- before the width is 29, one that makes the lines exceed the height 30. "Reading goes on past the last line to the end of the
-- data": a run there is tested as in any line, and if it has pixels the bitmap is refused further on; "codes of length 0 there are
-- accepted". After the last code comes what ended the codes, then the tests of the end.
abbrev pub read_from : (width height lines column : ℕ) → List Code → Verdict → Reading
read_from width height lines column [] ended = stopped (and_then ended (at_end width height lines column))
read_from width height lines column (run count color ∷ codes) ended =
    pick (leb (column + count) width) (counted (read_from width height lines (column + count) codes ended)) (stopped (refused 24))
read_from width height lines column (line_end ∷ codes) ended =
    pick (eqb column width)
    (pick (ltb lines height) (counted (read_from width height (lines + 1) 0 codes ended)) (stopped (refused 30)))
    (stopped (refused 29))

-- reading on through these bytes
abbrev pub read_on : (width height lines column : ℕ) → List ℕ → Reading
read_on width height lines column bytes = read_from width height lines column (codes_of bytes).codes (codes_of bytes).ended

-- reading a whole bitmap
abbrev pub reading_of : List ℕ → (width height : ℕ) → Reading
reading_of bytes width height = read_on width height 0 0 bytes

-- The pixels of a bitmap, row by row. Where the bitmap is accepted there are width times height of them (`bitmap-area` in
-- proofs/BitmapArea.antt of pgs_bitmap), so none past the last line is stored.
abbrev pub bitmap_of : List ℕ → List ℕ
bitmap_of bytes = pixels_of (codes_of bytes).codes
