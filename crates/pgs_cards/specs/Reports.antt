-- What setcards prints. 01, 'Bench samples': "reads standard input, at most 65,536 bytes, and if every set's objects reassemble prints a
-- line per set ..; empty input prints nothing. Else one line: REFUSED, a space and the decimal number, the stream's first, or else of the
-- first set that is refused; TOO LONG above the limit."
use Rattle.std.specs.Prelude.{ℕ, ◌+◌, ◌/◌, ◌%◌, List, [], ◌∷◌, ◌++◌, length, leb, ltb}
use Rattle.pgs_base.specs.Outcome.{Verdict, accepted, refused, pick}
use Rattle.pgs_reassembly.specs.Objects.{all_objects_verdict}
use Rattle.pgs_cards.specs.Cards.{card_lines}

abbrev pub input_limit : ℕ
input_limit = 65536

-- "TOO LONG" and a line feed
abbrev pub too_long : List ℕ
too_long = 84 ∷ 79 ∷ 79 ∷ 32 ∷ 76 ∷ 79 ∷ 78 ∷ 71 ∷ 10 ∷ []

-- a number below 100 in decimal digits
abbrev pub decimal : ℕ → List ℕ
decimal n = pick (ltb n 10) ((48 + n) ∷ []) ((48 + n / 10) ∷ (48 + n % 10) ∷ [])

-- "REFUSED", a space, the number and a line feed
abbrev pub refusal_line : ℕ → List ℕ
refusal_line n = 82 ∷ 69 ∷ 70 ∷ 85 ∷ 83 ∷ 69 ∷ 68 ∷ 32 ∷ (decimal n ++ (10 ∷ []))

-- the lines of an accepted stream, or the line of its refusal
abbrev pub printed : Verdict → List ℕ → List ℕ
printed accepted lines = lines
printed (refused k) lines = refusal_line k

unfoldable pub report_of : List ℕ → List ℕ
report_of s = pick (leb (length s) input_limit) (printed (all_objects_verdict s) (card_lines s)) too_long
