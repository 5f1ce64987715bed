use Rattle.pgs_pcs.proofs.pcs.Pcs.numbers.Goals as goal

pub returns : goal.returns
returns c =
    λ k. record {
      width = c.u16_at.ensures k;
      height = c.u16_at-2.ensures k;
      frame_rate = c.u8_at.ensures k;
      composition_number = c.u16_at-3.ensures k;
      composition_state = c.u8_at-2.ensures k;
      palette_update_flag = c.u8_at-3.ensures k;
      palette_id = c.u8_at-4.ensures k;
    }
