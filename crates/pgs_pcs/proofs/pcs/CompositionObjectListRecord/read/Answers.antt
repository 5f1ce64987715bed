use Rattle.pgs_pcs.proofs.pcs.CompositionObjectListRecord.read.Goals as goal

pub returns : goal.returns
returns c =
    λ k. record {
      object_id = c.u16_at.ensures k;
      window_id = c.u8_at.ensures k;
      object_cropped_flag = c.u8_at-2.ensures k;
      object_horizontal_position = c.u16_at-2.ensures k;
      object_vertical_position = c.u16_at-3.ensures k;
      cropping = c.cropping.ensures k;
    }
