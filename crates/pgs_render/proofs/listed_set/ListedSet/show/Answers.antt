use mathlib.Core.Path.{ap}
use native.Mathlib.Omega.{arith}
use Rattle.pgs_rendering.specs.declared.Shown.{Shown}
use Rattle.pgs_rendering.proofs.ColorLaws.{empty-zeros}
use Rattle.pgs_rendering.proofs.RenderLaws.{ready-storable, ready-present, ready-room, ready-stored, ready-painted}
use Rattle.pgs_render.proofs.listed_set.ListedSet.show.Goals as goal

pub store_bitmaps-requires : goal.store_bitmaps-requires
store_bitmaps-requires c =
    let set = c.args.self.set in ready-storable set.stream.now set.begins c.args.self.listed c.requires

pub fill_table-requires : goal.fill_table-requires
fill_table-requires c = empty-zeros

pub paint_placements-requires-clause-present : goal.paint_placements-requires-clause-present
paint_placements-requires-clause-present c =
    let set = c.args.self.set in
    rw c.placements.ensures (ready-present set.stream.now set.begins c.args.self.listed c.requires)

pub invariant_of-bitmaps : goal.invariant_of-bitmaps
invariant_of-bitmaps c =
    let set = c.args.self.set in
    record { room = omega (arith, ready-room set.stream.now set.begins c.args.self.listed c.requires, c.store_bitmaps.auto.scratch) }

pub returns : goal.returns
returns c =
    let o = c.args.self in
    let set = o.set in
    let behind = c.«open».ensures in
    record {
      stored = ready-stored set.stream.now set.begins o.listed c.requires c.store_bitmaps.ensures;
      shown =
          ready-painted set.stream.now set.begins o.listed c.requires c.store_bitmaps.ensures behind.stream_value behind.from_value
          c.composition.ensures o.bytes c.fill_table.ensures (ap (λ (a : Shown). a.size) c.answer.ensures) c.placements.ensures
          c.clear_plane.ensures c.paint_placements.ensures;
    }
