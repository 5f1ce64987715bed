-- The call for card lines: `pgs_cards`.
-- Each parameter that the call may change is named as it was, and with a prime as it is.
use Rattle.std.specs.Prelude.{ℕ, List, length}
use Rattle.pgs_calls.specs.Calls.{ListCall}
use Rattle.pgs_cards.specs.Cards.{card_lines, cards_verdict}

-- the lines of a stream, and how many bytes they have
abbrev pub CardsCall : List ℕ → List ℕ → List ℕ → ℕ → ℕ → ℕ → Type 0
CardsCall s out out' written written' r = ListCall (cards_verdict s) (card_lines s) out out' (length (card_lines s)) written written' r
