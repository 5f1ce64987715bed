-- `end` is where the last segment ends.
use Rattle.pgs_set.proofs.OpenLaws.{is-open}
use Rattle.pgs_set.proofs.SegmentLaws.{behind, segments-end}
use Rattle.pgs_set.specs.Segments.{set_segments, set_segments_left}
use Rattle.pgs_stream.specs.declared.segments.PlacedSegment.{PlacedSegment}
use Rattle.std.proofs.lemmas.Iterator.{items_from_drains}
use Rattle.std.proofs.lemmas.Iterator.Consumers.{YieldsList-from_first}
use Rattle.std.proofs.lemmas.List.{map-id}
use Rattle.std.specs.List.{last_or}
use Rattle.std.specs.Prelude.{Option, None, Some}
use Prim.Native.Nat.{ℕ}
use Rattle.std.proofs.Common.{rules}
use mathlib.Core.List.{List, [], ◌∷◌}
use mathlib.Core.Path.{◌≡◌, refl, sym, ◌∙◌}
use Rattle.pgs_set.proofs.open_set.OpenSet.end.Goals as goal

-- where a segment ends, or else a place
abbrev place_behind : ℕ → Option PlacedSegment → ℕ
place_behind at None = at
place_behind at (Some x) = x.end

-- the last of segments ends where they all do
behind-last : (at : ℕ) (o : Option PlacedSegment) (xs : List PlacedSegment) → place_behind at (last_or o xs) ≡ behind (place_behind at o) xs
behind-last at o [] = refl
behind-last at o (x ∷ xs) = behind-last at (Some x) xs

pub returns : goal.returns
returns c =
    let o = c.args.self in
    let xs = c.last.ensures.ran.0 in
    let d = c.last.ensures.ran.1 in
    let road = YieldsList-from_first (λ x. x) set_segments_left (set_segments o.stream.now o.from) c.segments.ensures in
    let all : xs ≡ set_segments o.stream.now o.from = sym (map-id xs) ∙ items_from_drains xs (d.1.0, d.1.1, λ _. (d.0, d.1.2)) road in
    let end : c.map_or.result ≡ place_behind o.from c.last.result = search rules in
    rw (end, c.last.ensures.ran.2, all, behind-last o.from None (set_segments o.stream.now o.from))
    (segments-end o.stream.now (is-open o.stream.now o.from o.in_set))
