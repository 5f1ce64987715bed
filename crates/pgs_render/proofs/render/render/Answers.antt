use Rattle.pgs_base.proofs.Outcomes.{passed_on}
use Rattle.pgs_base.specs.Bytes.{Bytes}
use Rattle.pgs_rendering.proofs.OpeningLaws.{front-within, front_length, lists-records, lists-refused, lists-count, lists-objects}
use Rattle.pgs_rendering.proofs.OpeningLaws.{objects-refused, set-refused, renders-number}
use Rattle.pgs_rendering.proofs.RenderLaws.{listed-within, listed-low, area-sum}
use lib.ListN.{length}
use mathlib.Core.Path.{refl, ap}
use native.Mathlib.Omega.{arith}
use Rattle.pgs_render.proofs.render.render.Goals as goal

-- no such set: 1 to 15, 36
pub returns-in_err-set : goal.returns-in_err-set
returns-in_err-set c =
    rw (passed_on c.from_residual.result _ c.from_residual.ensures.1)
    (objects-refused c.args.set c.args.s.now (set-refused c.args.set c.args.s.now c.in_err-set.ensures))

-- its objects are refused: 16 to 23
pub returns-in_err-n : goal.returns-in_err-n
returns-in_err-n c =
    let k = c.args.set in
    let set = c.in_ok-set.set in
    let e = c.in_ok-set.ensures in
    let d = lists-records k set e c.«open».ensures.stream_value c.«open».ensures.from_value c.in_err-n.ensures in
    rw (passed_on c.from_residual-in_err-n.result _ c.from_residual-in_err-n.ensures.1) (objects-refused k c.args.s.now (lists-refused k set e d refl))

-- they are listed
pub slice_bounds-list-end : goal.slice_bounds-list-end
slice_bounds-list-end c =
    let k = c.args.set in
    let set = c.in_ok-set.set in
    let e = c.in_ok-set.ensures in
    let d = lists-records k set e c.«open».ensures.stream_value c.«open».ensures.from_value c.in_ok-n.ensures in
    front-within d (lists-count k set e d)

pub slice_bounds-listed-end : goal.slice_bounds-listed-end
slice_bounds-listed-end c =
    let k = c.args.set in
    let set = c.in_ok-set.set in
    let e = c.in_ok-set.ensures in
    let d = lists-records k set e c.«open».ensures.stream_value c.«open».ensures.from_value c.in_ok-n.ensures in
    front_length d (lists-count k set e d)

pub invariant_of-listed : goal.invariant_of-listed
invariant_of-listed c =
    let k = c.args.set in
    let set = c.in_ok-set.set in
    let e = c.in_ok-set.ensures in
    let d = lists-records k set e c.«open».ensures.stream_value c.«open».ensures.from_value c.in_ok-n.ensures in
    let bytes : Bytes set.stream.now = rw e.0 (λ i. (c.type_inv.s i).fits) in
    let listed = lists-objects k set e d in
    let s = set.stream.now in
    record {
      bytes = bytes;
      listed = listed;
      low = omega (arith, c.well_formed.0.0, ap length e.0, listed-within s set.begins listed, area-sum s set.begins listed, listed-low s set.begins listed bytes);
    }

pub returns : goal.returns
returns c =
    let k = c.args.set in
    let set = c.in_ok-set.set in
    let e = c.in_ok-set.ensures in
    let d = lists-records k set e c.«open».ensures.stream_value c.«open».ensures.from_value c.in_ok-n.ensures in
    renders-number k set e (lists-objects k set e d).taken c.render.ensures
