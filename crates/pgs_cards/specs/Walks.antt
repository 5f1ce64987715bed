-- The card of the set that a walk over the segments is in. Private contracts cite these; those of public functions cite `Cards` and
-- `Reports`.
use Rattle.std.specs.Prelude.{ℕ, ◌+◌, Bool}
use Rattle.pgs_views.specs.Fragments.{fragment_of, is_first}
use Rattle.pgs_base.specs.Outcome.{pick}
use Rattle.pgs_ods.specs.declared.ods.Ods.{Ods}
use Rattle.pgs_segment.specs.declared.segment.SegmentBody.{SegmentBody}
use Rattle.pgs_segment.specs.declared.segment.SegmentBody.TheVariants as numbers
use Rattle.pgs_cards.specs.Cards.{card_with}
use Rattle.pgs_cards.specs.declared.card.Card.{Card}

-- a card with n objects more
abbrev pub adding : Card → ℕ → Card
adding c n = card_with c.place c.pts c.pcs (c.objects + n)

-- whether a fragment opens an object, and how many it opens
abbrev pub opens : Ods → Bool
opens o = is_first (fragment_of o.last_in_sequence_flag)

abbrev pub opened : Ods → ℕ
opened o = pick (opens o) 1 0

-- the card after one more segment
abbrev pub card_after : Card → ℕ → ℕ → SegmentBody → Card
card_after c at pts (numbers.Pcs p) = card_with at pts p 0
card_after c at pts (numbers.Ods o) = adding c (opened o)
card_after c at pts numbers.Wds = c
card_after c at pts (numbers.Pds p) = c
card_after c at pts numbers.End = c
card_after c at pts (numbers.Other v) = c
