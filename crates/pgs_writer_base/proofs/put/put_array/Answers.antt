-- `put_array` stores all the bytes at once where there is room for them. Assumes nothing.
use Rattle.std.proofs.Common.{rules, ◌≡◌, ◌+◌, ◌-◌, ℕ, ◌++◌, length, take, drop, subst, arith}
use Rattle.std.proofs.lemmas.List.Edits.{sets}
use Rattle.pgs_writer_base.proofs.PutLaws.{sets-part}
use Rattle.pgs_writer_base.proofs.put.put_array.Goals as goal

pub returns-then-out-at : goal.returns-then-out-at
returns-then-out-at g c =
    let n = g.row.N in
    let at = c.args.at in
    let before = c.args.out.now in
    let bytes = c.args.bytes.now in
    let all : length bytes ≡ n = search rules in
    let size : at + n - at ≡ n = omega arith in
    rw (c.copy_from_slice.ensures.after, size)
    (subst (λ (k : ℕ). take at before ++ (bytes ++ drop k (drop at before)) ≡ sets before at bytes) all
    (sets-part before at bytes (omega (arith, all, c.if-at-out.true, c.if-out-at.true))))
