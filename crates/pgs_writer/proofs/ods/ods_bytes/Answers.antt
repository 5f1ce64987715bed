-- `ods_bytes` lays out the numbers: a byte is one as it stands, and the declared length is put behind them.
-- Assumes nothing.
use Rattle.std.proofs.Common.{rules, ◌≡◌, ◌∙◌, ◌∷◌, [], ◌/◌, ◌%◌, w8, Fits, arith}
use Rattle.pgs_writer.proofs.ods.ods_bytes.Goals.{Start}
use Rattle.pgs_writer.proofs.ods.ods_bytes.Goals as goal

version-byte : (c : Start) → Fits w8 c.args.o.object_version_number
version-byte c = search rules

flag-byte : (c : Start) → Fits w8 c.args.o.last_in_sequence_flag
flag-byte c = search rules

pub returns : goal.returns
returns c =
    let o = c.args.o in
    let s = (goal.at.returns c).Start in
    let version : o.object_version_number ≡ o.object_version_number % 256 = omega (arith, (version-byte s).fits) in
    let flag : o.last_in_sequence_flag ≡ o.last_in_sequence_flag % 256 = omega (arith, (flag-byte s).fits) in
    c.put_u24.ensures
    ∙ rw (c.to_be_bytes.ensures)
    (λ i.
    o.object_id / 256 % 256 ∷ o.object_id % 256 ∷ version i ∷ flag i ∷ o.object_data_length / 256 / 256 % 256 ∷ o.object_data_length / 256 % 256
    ∷ o.object_data_length % 256 ∷ [])
