-- The cards of a stream and their lines. 01, 'Bench samples': setcards "if every set's objects reassemble prints a line per set,
-- upper-case hexadecimal: place 8 digits, PTS 8, composition number 4, state 2, palette id 2, number of objects in the set 2, width 4,
-- height 4. Every line ends with a line feed".
use Rattle.std.specs.Prelude.{ℕ, zero, suc, ◌+◌, ◌/◌, ◌%◌, List, [], ◌∷◌, ◌++◌, map, length, leb, ltb}
use Rattle.pgs_base.specs.Outcome.{Verdict, and_then, unless, pick}
use Rattle.pgs_segment.specs.Header.{pts_of}
use Rattle.pgs_segment.specs.OneSegment.{body_at}
use Rattle.pgs_pcs.specs.PcsBody.{pcs_of}
use Rattle.pgs_reassembly.specs.Objects.{chains_of, fragments_of, all_objects_verdict}
use Rattle.pgs_set.specs.Sets.{DisplaySet, sets_of}
use Rattle.pgs_pcs.specs.declared.pcs.Pcs.{Pcs}
use Rattle.pgs_cards.specs.declared.card.Card.{Card}

-- the card of n objects, by the numbers of the PCS
abbrev pub card_with : ℕ → ℕ → Pcs → ℕ → Card
card_with place pts p n = record { place = place; pts = pts; pcs = p; objects = n }

-- the card of a set
abbrev pub card_of : DisplaySet → Card
card_of d = card_with d.place (pts_of d.opening) (pcs_of (body_at d.opening)) (length (chains_of (fragments_of d)))

-- an upper-case hexadecimal digit: `0` to `9`, then `A` to `F`
abbrev pub digit_of : ℕ → ℕ
digit_of n = pick (ltb n 10) (48 + n) (55 + n)

-- the last w digits of a number
unfoldable pub hex : ℕ → ℕ → List ℕ
hex zero n = []
hex (suc w) n = hex w (n / 16) ++ (digit_of (n % 16) ∷ [])

-- the line of a card
unfoldable pub line_of : Card → List ℕ
line_of c =
    hex 8 c.place
    ++ (hex 8 c.pts
    ++ (hex 4 c.pcs.composition_number
    ++ (hex 2 c.pcs.composition_state
    ++ (hex 2 c.pcs.palette_id ++ (hex 2 c.objects ++ (hex 4 c.pcs.width ++ (hex 4 c.pcs.height ++ (10 ∷ []))))))))

abbrev pub line_length : ℕ
line_length = 35

-- lines, one after another
abbrev pub lines_of : List Card → List ℕ
lines_of [] = []
lines_of (c ∷ cs) = line_of c ++ lines_of cs

-- "a line per set"
abbrev pub card_lines : List ℕ → List ℕ
card_lines s = lines_of (map card_of (sets_of s))

-- whether the lines are written: "the stream's first, or else of the first set that is refused". A place has eight digits in a stream of
-- up to 2^32 bytes; 35 above, of which 01 does not speak
abbrev pub cards_verdict : List ℕ → Verdict
cards_verdict s = and_then (all_objects_verdict s) (unless 35 (leb (length s) 4294967296))
