use mathlib.Core.Path.{sym, ap, ◌∙◌}
use native.Mathlib.Omega.{arith}
use Prim.Native.Nat.{◌+◌, ◌≤◌}
use lib.ListN.{length}
use Rattle.pgs_set.specs.Walks.{set_at}
use Rattle.pgs_rendering.specs.Records.{records_area, records_joined}
use Rattle.pgs_rendering.specs.declared.Shown.{Shown}
use Rattle.pgs_base.specs.Outcome.{verdict_of}
use Rattle.pgs_base.proofs.Outcomes.{passed_on}
use Rattle.pgs_rendering.proofs.RenderLaws.{area-sum, scratch-short, scratch-room, plane-short, all_room, readied}
use Rattle.pgs_rendering.proofs.RenderLaws.{renders-none, renders-joined, renders-all}
use Rattle.pgs_render.proofs.listed_set.ListedSet.render.Goals.{Start, Else-scratch-joined}
use Rattle.pgs_render.proofs.listed_set.ListedSet.render.Goals as goal

pub returns-then-scratch-joined : goal.returns-then-scratch-joined
returns-then-scratch-joined c =
    let o = c.args.self in
    let set = o.set in
    let s = set.stream.now in
    renders-none (set_at s set.place)
    (scratch-short s set.begins o.listed c.args.scratch.now c.args.plane.now
    (omega (arith, c.if-scratch-joined.true, c.joined_total-joined.ensures, c.bitmaps_total.ensures, area-sum s set.begins o.listed)))

-- the scratch has room
fits : (c : Else-scratch-joined) → records_joined c.args.self.records.now + records_area c.args.self.records.now ≤ length c.args.scratch.now
fits c =
    let o = c.args.self in
    let set = o.set in
    omega (arith, c.if-scratch-joined.false, c.joined_total-joined.ensures, c.bitmaps_total.ensures, area-sum set.stream.now set.begins o.listed)

pub returns-then-plane-plane_bytes : goal.returns-then-plane-plane_bytes
returns-then-plane-plane_bytes c =
    let o = c.args.self in
    let set = o.set in
    let s = set.stream.now in
    let room = fits (goal.at.returns-then-plane-plane_bytes c).Else-scratch-joined in
    renders-none (set_at s set.place)
    (plane-short s set.begins o.listed c.args.scratch.now c.args.plane.now room (ap (λ (a : Shown). a.size) c.answer-shown.ensures)
    (rw c.plane_bytes.ensures at c.if-plane-plane_bytes.true))

pub join_and_read-requires : goal.join_and_read-requires
join_and_read-requires c =
    let o = c.args.self in
    let set = o.set in
    let room = fits (goal.at.join_and_read-requires c).Else-scratch-joined in
    omega (arith, scratch-room set.stream.now set.begins o.listed c.args.scratch.now c.args.plane.now room)

pub show-requires : goal.show-requires
show-requires c =
    let o = c.args.self in
    let set = o.set in
    let room = fits (goal.at.show-requires c).Else-scratch-joined in
    readied set.stream.now set.begins o.listed c.args.scratch.now c.args.plane.now room
    (ap (λ (a : Shown). a.size) c.answer-shown.ensures) (rw c.plane_bytes.ensures at c.if-plane-plane_bytes.false)
    c.join_and_read.ensures (ap verdict_of c.in_ok-join_and_read.was) c.join_and_read.auto.scratch c.joined_total-joined.ensures

pub returns-in_err-join_and_read : goal.returns-in_err-join_and_read
returns-in_err-join_and_read c =
    let o = c.args.self in
    let set = o.set in
    let s = set.stream.now in
    let room = fits (goal.at.returns-in_err-join_and_read c).Else-scratch-joined in
    let e = c.join_and_read.ensures in
    rw (passed_on c.from_residual.result _ c.from_residual.ensures.1)
    (renders-joined (set_at s set.place)
    (all_room s set.begins o.listed c.args.scratch.now c.args.plane.now room (ap (λ (a : Shown). a.size) c.answer-shown.ensures)
    (rw c.plane_bytes.ensures at c.if-plane-plane_bytes.false))
    (sym e.content ∙ ap verdict_of c.in_err-join_and_read.was) e.joined)

pub returns : goal.returns
returns c =
    let o = c.args.self in
    let set = o.set in
    let s = set.stream.now in
    let room = fits (goal.at.returns c).Else-scratch-joined in
    rw c.answer-shown.ensures
    (renders-all (set_at s set.place)
    (all_room s set.begins o.listed c.args.scratch.now c.args.plane.now room (ap (λ (a : Shown). a.size) c.answer-shown.ensures)
    (rw c.plane_bytes.ensures at c.if-plane-plane_bytes.false))
    (sym c.join_and_read.ensures.content ∙ ap verdict_of c.in_ok-join_and_read.was) c.join_and_read.ensures.joined c.show.ensures)
