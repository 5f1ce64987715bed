use Rattle.std.specs.Prelude.{Option, None, Some, Result, Err, ok_or}
use Rattle.pgs_base.specs.Outcome.{refused}
use Rattle.pgs_base.specs.Refusals.{number_of}
use Rattle.pgs_base.specs.declared.refusal.Refusal.{Refusal}
use Rattle.pgs_base.specs.declared.refusal.Refusal.TheVariants.{FragmentWithoutFirst}
use Rattle.pgs_base.proofs.Outcomes.{passed_verdict}
use Rattle.pgs_reassembly.proofs.TableLaws.{known-inside, continued-none, continued-closed, continued-fits, continued-on}
use Rattle.pgs_reassembly.specs.Tables.{row_with}
use mathlib.Core.Path.{◌≡◌, sym, ap, ◌∙◌}
use native.Mathlib.Omega.{arith}
use Prim.Native.Nat.{ℕ, ◌<◌}
use Rattle.pgs_object.proofs.chain.ChainTable.extend.Goals.{In_ok-i}
use Rattle.pgs_object.proofs.chain.ChainTable.extend.Goals as goal

-- no row has the id
why : (o : Option ℕ) {e : Refusal} → ◌≡◌ {A = Result ℕ Refusal} (Err e) (ok_or o FragmentWithoutFirst) → e ≡ FragmentWithoutFirst
why None q = cc
why (Some i) q = cc

pub returns-in_err-i : goal.returns-in_err-i
returns-in_err-i c =
    let t = c.self.inside in
    rw
    (passed_verdict c.from_residual.result _ c.from_residual.ensures.1
    ∙ ap (λ (e : Refusal). refused (number_of e)) (why c.find.result c.in_err-i.ensures.value))
    (continued-none c.args.f t.rows t.count (omega arith) c.self.view_is (sym c.in_err-i.ensures.ok_part ∙ c.find.ensures))

-- row i has it, and is one of the 64
found : (c : In_ok-i) → Some c.in_ok-i.i ≡ row_with c.args.f.ods.object_id c.args.self.now
found c = sym c.in_ok-i.ensures.ok_part ∙ c.find.ensures

inside : (c : In_ok-i) → c.in_ok-i.i < 64
inside c =
    let t = c.self.inside in
    omega (arith, c.self.invariant, known-inside c.args.f t.rows t.count (omega arith) c.self.view_is (found c))

pub bounds-self-inside-i : goal.bounds-self-inside-i
bounds-self-inside-i c = inside (goal.at.bounds-self-inside-i c).In_ok-i

pub offset_bounds-self-inside-i : goal.offset_bounds-self-inside-i
offset_bounds-self-inside-i c = omega (arith, inside (goal.at.offset_bounds-self-inside-i c).In_ok-i)

pub bounds-self-inside-i-2 : goal.bounds-self-inside-i-2
bounds-self-inside-i-2 c = inside (goal.at.bounds-self-inside-i-2 c).In_ok-i

pub offset_bounds-self-inside-i-2 : goal.offset_bounds-self-inside-i-2
offset_bounds-self-inside-i-2 c = omega (arith, inside (goal.at.offset_bounds-self-inside-i-2 c).In_ok-i)

pub overflow_add-self : goal.overflow_add-self
overflow_add-self c =
    let t = c.self.inside in
    omega (arith, c.requires, continued-fits c.args.f t.rows t.count (omega arith) c.self.view_is (found (goal.at.overflow_add-self c).In_ok-i))

pub returns-then-row : goal.returns-then-row
returns-then-row c =
    let t = c.self.inside in
    continued-closed c.args.f t.rows t.count (omega arith) c.self.view_is (found (goal.at.returns-then-row c).In_ok-i) c.if-row.true

pub returns : goal.returns
returns c =
    let t = c.self.inside in
    continued-on c.args.f t.rows t.count (omega arith) c.self.view_is (found (goal.at.returns c).In_ok-i) c.if-row.false c.is_last.ensures
