use Rattle.pgs_reassembly.proofs.TableLaws.{known-inside, opened-closed, opened-open, opened-full, opened-new}
use native.Mathlib.Omega.{arith}
use Prim.Native.Nat.{◌<◌}
use Rattle.pgs_object.proofs.chain.ChainTable.open.Goals.{In-Some}
use Rattle.pgs_object.proofs.chain.ChainTable.open.Goals as goal

-- the row is one of the 64
inside : (c : In-Some) → c.in-Some.i < 64
inside c =
    let t = c.self.inside in
    omega (arith, c.self.invariant, known-inside c.args.f t.rows t.count (omega arith) c.self.view_is c.in-Some.ensures)

pub bounds-self-inside-i : goal.bounds-self-inside-i
bounds-self-inside-i c = inside (goal.at.bounds-self-inside-i c).In-Some

pub offset_bounds-self-inside-i : goal.offset_bounds-self-inside-i
offset_bounds-self-inside-i c = omega (arith, inside (goal.at.offset_bounds-self-inside-i c).In-Some)

pub returns-then-self-i : goal.returns-then-self-i
returns-then-self-i c =
    let t = c.self.inside in
    opened-closed c.args.f t.rows t.count (omega arith) c.self.view_is c.in-Some.ensures c.if-self-i.true

pub returns-in-Some : goal.returns-in-Some
returns-in-Some c =
    let t = c.self.inside in
    opened-open c.args.f t.rows t.count (omega arith) c.self.view_is c.in-Some.ensures c.if-self-i.false

pub returns-then-self-eq-OBJECT_LIMIT : goal.returns-then-self-eq-OBJECT_LIMIT
returns-then-self-eq-OBJECT_LIMIT c =
    let t = c.self.inside in
    opened-full c.args.f t.rows t.count (omega arith) c.self.view_is c.in_default.ensures c.if-self-eq-OBJECT_LIMIT.true

pub returns : goal.returns
returns c =
    let t = c.self.inside in
    opened-new c.args.f t.rows t.count (omega arith) c.self.view_is c.in_default.ensures (omega arith) (omega arith) c.is_last.ensures
