-- `store_bitmap` stores from the stream or inside the scratch.
-- Assumes nothing.
use mathlib.Core.Path.{refl}
use mathlib.Core.List.{[]}
use Prim.Native.Nat.{◌+◌, ◌-◌}
use native.Mathlib.Omega.{arith}
use Rattle.pgs_rendering.proofs.StoreLaws.{stored_stream, stored-scratch}
use Rattle.pgs_render.proofs.storing.store_bitmap.Goals as goal

pub returns-else-object : goal.returns-else-object
returns-else-object c =
    stored_stream c.args.s.now c.args.object c.args.at c.args.scratch.now c.requires c.if-object.false []
    (c.args.at + c.area.result - c.args.at) (omega (arith, c.area.ensures)) c.data.ensures refl
    c.store_rle.ensures

pub returns-then-object : goal.returns-then-object
returns-then-object c = stored-scratch c.args.s.now c.args.object c.args.at c.args.scratch.now c.requires c.if-object.true c.store_within.ensures
