use Rattle.pgs_pds.proofs.pds.Pds.numbers.Goals as goal

pub returns : goal.returns
returns c = λ k. record { palette_id = c.u8_at.ensures k; palette_version_number = c.u8_at-2.ensures k }
