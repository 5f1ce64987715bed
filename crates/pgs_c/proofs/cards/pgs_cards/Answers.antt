use Rattle.pgs_c.proofs.cards.pgs_cards.Goals as goal

pub returns : goal.returns
returns c = c.pgs_cards.ensures
