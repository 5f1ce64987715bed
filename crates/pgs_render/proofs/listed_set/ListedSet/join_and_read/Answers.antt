use mathlib.Core.Path.{refl}
use Rattle.pgs_rendering.proofs.RenderLaws.{joins, reads-content}
use Rattle.pgs_render.proofs.listed_set.ListedSet.join_and_read.Goals as goal

pub returns : goal.returns
returns c =
    let set = c.args.self.set in
    let listed = c.args.self.listed in
    let behind = c.«open».ensures in
    reads-content set.stream.now set.begins listed refl
    (joins set.stream.now set.begins listed behind.stream_value behind.from_value c.requires c.join_in_set.ensures) c.check_content.ensures
