-- The run-length code of object data, from bytes to codes: 01, 'Run-length code', after US 2009/0185789.
-- Numbers of refusals are those of the table of 01, 'Why a call is turned down'.
use Rattle.std.specs.Prelude.{ℕ, zero, suc, ◌+◌, ◌*◌, ◌%◌, List, [], ◌∷◌, ◌++◌, eqb, ltb, length, drop, replicate}
use Rattle.pgs_base.specs.Outcome.{Verdict, accepted, refused, pick}

-- A code is a run of pixels of one color, or the end of a line.
pub data Code : Type 0 where
  run : (count color : ℕ) → Code
  line_end : Code

-- What stands at the front of the data: nothing, a code with the number of bytes that it took, or a code with bytes missing and
-- the number of its refusal.
pub data FirstCode : Type 0 where
  none : FirstCode
  found : Code → ℕ → FirstCode
  truncated : ℕ → FirstCode

-- The three longer codes: "Length 0 is accepted in the last three."
-- "40..7F and a byte b, 256·L+b pixels of 0"; 26 where b is missing
abbrev pub long_zero_run : ℕ → List ℕ → FirstCode
long_zero_run low [] = truncated 26
long_zero_run low (b ∷ rest) = found (run (256 * low + b) 0) 3

-- "80..BF and colour c, L pixels of c"; 27 where c is missing
abbrev pub short_color_run : ℕ → List ℕ → FirstCode
short_color_run low [] = truncated 27
short_color_run low (c ∷ rest) = found (run low c) 3

-- "C0..FF, b and c, 256·L+b pixels of c"; 28 where b or c is missing
abbrev pub long_color_run : ℕ → List ℕ → FirstCode
long_color_run low [] = truncated 28
long_color_run low (b ∷ []) = truncated 28
long_color_run low (b ∷ c ∷ rest) = found (run (256 * low + b) c) 4

-- "With L the low six bits of the second byte: 00 then 01..3F is L pixels of 0", and the three above, by the second byte
abbrev pub run_of : ℕ → List ℕ → FirstCode
run_of second rest =
    pick (ltb second 0x40) (found (run (second % 64) 0) 2)
    (pick (ltb second 0x80) (long_zero_run (second % 64) rest)
    (pick (ltb second 0xC0) (short_color_run (second % 64) rest)
    (long_color_run (second % 64) rest)))

-- After a byte 00: "00 00 ends a line", else a run; 25 where nothing follows.
abbrev pub escape_of : List ℕ → FirstCode
escape_of [] = truncated 25
escape_of (second ∷ rest) = pick (eqb second 0) (found line_end 2) (run_of second rest)

-- The code at the front: "A nonzero byte is one pixel." 00 begins every other code.
abbrev pub code_of : List ℕ → FirstCode
code_of [] = none
code_of (b ∷ rest) = pick (eqb b 0) (escape_of rest) (found (run 1 b) 1)

abbrev pub bytes_taken : FirstCode → ℕ
bytes_taken none = 0
bytes_taken (found code n) = n
bytes_taken (truncated k) = 0

-- All codes of the data from its front, and what ended them: the end of the data, or the refusal of a code with bytes missing.
pub record Codes : Type 0 where
  pub codes : List Code
  pub ended : Verdict

abbrev pub and_further : FirstCode → Codes → Codes
and_further none further = record { codes = []; ended = accepted }
and_further (found code n) further = record { codes = code ∷ further.codes; ended = further.ended }
and_further (truncated k) further = record { codes = []; ended = refused k }

-- at most so many codes from the front; each takes a byte at least
abbrev pub codes_within : ℕ → List ℕ → Codes
codes_within zero bytes = record { codes = []; ended = accepted }
codes_within (suc n) bytes = and_further (code_of bytes) (codes_within n (drop (bytes_taken (code_of bytes)) bytes))

-- the codes of the data
unfoldable pub codes_of : List ℕ → Codes
codes_of bytes = codes_within (length bytes) bytes

-- the pixels of a list of codes, one color index each
abbrev pub pixels_of : List Code → List ℕ
pixels_of [] = []
pixels_of (run count color ∷ codes) = replicate count color ++ pixels_of codes
pixels_of (line_end ∷ codes) = pixels_of codes
