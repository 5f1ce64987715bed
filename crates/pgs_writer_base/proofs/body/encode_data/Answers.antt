-- `encode_data` tests the size, then stores the front, then the data.
-- Assumes nothing.
use Rattle.std.proofs.Common.{ℕ, ◌≡◌, ◌<◌, ◌++◌, length, true, arith, length-append}
use borrow.Author.Tests.{le-leb}
use Rattle.pgs_base.proofs.Outcomes.{passed_on}
use Rattle.pgs_writer_base.proofs.BodyLaws.{front-short, front-then}
use Rattle.pgs_writer_base.specs.Bodies.{is_body_size}
use Rattle.pgs_writer_base.proofs.body.encode_data.Goals as goal

-- a size that fits its field
fits : (n : ℕ) → n < 65536 → is_body_size n ≡ true
fits n h = le-leb n 65535 (omega arith)

pub returns-in_err-total : goal.returns-in_err-total
returns-in_err-total c =
    let b = c.args.numbers.now in
    let d = c.args.«data».now in
    rw (passed_on c.from_residual-in_err-total.result _ c.from_residual-in_err-total.ensures.1)
    (front-short c.args.times c.args.kind b d c.args.out.now (fits (length (b ++ d)) (omega (arith, c.in_ok-size.ensures, length-append b d)))
    (omega (arith, c.in_ok-size.ensures, length-append b d)) c.in_err-total.ensures.result_value c.in_err-total.ensures.out_after)

pub returns : goal.returns
returns c =
    let b = c.args.numbers.now in
    let d = c.args.«data».now in
    front-then c.args.times c.args.kind b d c.args.out.now (fits (length (b ++ d)) (omega (arith, c.in_ok-size.ensures, length-append b d)))
    (omega (arith, c.in_ok-size.ensures, length-append b d)) c.in_ok-total.ensures.result_value c.in_ok-total.ensures.out_after c.put_bytes.ensures
