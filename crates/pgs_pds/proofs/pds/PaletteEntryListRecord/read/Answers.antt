-- `read` takes the five bytes as they stand. Assumes nothing.
use native.Mathlib.Omega.{arith}
use Rattle.pgs_base.proofs.Bytes.{num-byte}
use Rattle.pgs_pds.proofs.pds.PaletteEntryListRecord.read.Goals as goal

pub returns-in-len5-up : goal.returns-in-len5-up
returns-in-len5-up c =
    let l = c.args.l.now in
    let long = c.in-len5-up.len_at_least in
    λ j.
    record {
      palette_entry_id = num-byte 0 l (omega (arith, long)) j;
      y = num-byte 1 l (omega (arith, long)) j;
      cr = num-byte 2 l (omega (arith, long)) j;
      cb = num-byte 3 l (omega (arith, long)) j;
      alpha = num-byte 4 l (omega (arith, long)) j;
    }
