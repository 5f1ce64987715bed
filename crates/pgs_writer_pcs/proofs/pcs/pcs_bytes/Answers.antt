-- `pcs_bytes` lays out the numbers: a byte is one as it stands.
-- Assumes nothing.
use Rattle.std.proofs.Common.{rules, ◌≡◌, ◌∷◌, [], ◌<◌, ◌/◌, ◌%◌, ℕ, arith}
use Rattle.pgs_writer_base.proofs.PlacementLaws.{PcsFits}
use Rattle.pgs_writer_pcs.proofs.pcs.pcs_bytes.Goals.{Start}
use Rattle.pgs_writer_pcs.proofs.pcs.pcs_bytes.Goals as goal

-- the numbers fit their types
numbers : (c : Start) → PcsFits c.args.p
numbers c = search rules

byte : {n : ℕ} → n < 256 → n ≡ n % 256
byte h = omega arith

pub returns : goal.returns
returns c =
    let p = c.args.p in
    let fit = numbers (goal.at.returns c).Start in
    let rate = byte fit.rate in
    let state = byte fit.state in
    let update = byte fit.update in
    let palette = byte fit.palette in
    let count = byte c.ranges.count.fits in
    rw (c.to_be_bytes.ensures, c.to_be_bytes-2.ensures, c.to_be_bytes-3.ensures)
    (λ i. p.width / 256 % 256 ∷ p.width % 256 ∷ p.height / 256 % 256 ∷ p.height % 256 ∷ rate i
    ∷ p.composition_number / 256 % 256 ∷ p.composition_number % 256 ∷ state i ∷ update i ∷ palette i ∷ count i ∷ [])
