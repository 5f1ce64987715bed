-- How many pixels the objects of a set have at most: their dimensions are numbers of two bytes, and they are few. Assumes nothing.
use mathlib.Core.Path.{◌≡◌}
use mathlib.Core.Bool.{Bool, true, false}
use mathlib.Core.List.{List, [], ◌∷◌}
use Prim.Native.Nat.{ℕ, ◌+◌, ◌*◌, ◌≤◌}
use native.Mathlib.Omega.{arith}
use Rattle.std.proofs.lemmas.Nat.{mul-le}
use Rattle.std.specs.Prelude.{None, Some}
use lib.ListN.{length, take, drop}
use Rattle.pgs_base.specs.Bytes.{big, num, Bytes}
use Rattle.pgs_base.specs.Outcome.{accepted, pick}
use Rattle.pgs_base.proofs.Digits.{bytes_take, bytes_drop}
use Rattle.pgs_views.specs.Fragments.{fragment_of, is_first}
use Rattle.pgs_ods.specs.OdsBody.{flag_of}
use Rattle.pgs_segment.specs.Header.{size_of}
use Rattle.pgs_segment.specs.OneSegment.{segment_type, used_by, body_at}
use Rattle.pgs_stream.proofs.ReadingLaws.{Each, pieces-bytes}
use Rattle.pgs_set.specs.Walks.{SetBegins, pieces_at, set_at}
use Rattle.pgs_set.proofs.SetLaws.{set_here}
use Rattle.pgs_reassembly.specs.Objects.{Fragment, is_ods, size_in, fragment_at, fragments_from, fragments_of, opens_chain, with_id, id_of}
use Rattle.pgs_reassembly.specs.Objects.{chains_of, fragments_verdict, object_limit}
use Rattle.pgs_rendering.specs.Images.{area_of}
use Rattle.pgs_rendering.specs.Steps.{objects_in}
use Rattle.pgs_rendering.proofs.EntryLaws.{through-bytes}
use Rattle.pgs_rendering.proofs.ObjectLaws.{few-objects}

num-two : (at : ℕ) (l : List ℕ) → Bytes l → num 2 at l ≤ 65535
unfolding num
num-two at l h = go (drop at l) (bytes_drop at l h)
  where
    go : (t : List ℕ) → Bytes t → big (take 2 t) ≤ 65535
    go [] b = omega arith
    go (x ∷ []) b = omega (arith, b 0)
    go (x ∷ y ∷ t) b = omega (arith, b 0, b 1)

-- a fragment that has no more pixels than two bytes each can say
abbrev Low : Fragment → Type 0
Low f = (size_in f.ods.dimensions).width * (size_in f.ods.dimensions).height ≤ 4294836225

abbrev AllLow : List Fragment → Type 0
AllLow [] = Unit {0}
AllLow (f ∷ fs) = Low f × AllLow fs

low-here : (at : ℕ) (x : List ℕ) → Bytes x → Low (fragment_at at x)
low-here at x h = go (is_first (fragment_of (flag_of (body_at x))))
  where
    body : Bytes (body_at x)
    body = bytes_take (size_of x) (drop 13 x) (bytes_drop 13 x h)

    go : (b : Bool)
        → let d = size_in (pick b (Some (record { width = num 2 7 (body_at x); height = num 2 9 (body_at x) })) None) in d.width * d.height ≤ 4294836225
    go true = omega (arith, mul-le (num 2 7 (body_at x)) (num 2 9 (body_at x)) 65535 65535 (num-two 7 (body_at x) body) (num-two 9 (body_at x) body))
    go false = omega arith

all-low : (at : ℕ) (xs : List (List ℕ)) → Each Bytes xs → AllLow (fragments_from at xs)
all-low at [] h = tt
all-low at (x ∷ xs) h = go (is_ods (segment_type x)) (all-low (at + length x) xs h.1)
  where
    go : (b : Bool) → AllLow (fragments_from (at + length x) xs)
        → AllLow (pick b (fragment_at at x ∷ fragments_from (at + length x) xs) (fragments_from (at + length x) xs))
    go true ih = (low-here at x h.0, ih)
    go false ih = ih

area-low : (fs : List Fragment) → AllLow fs → area_of (chains_of fs) ≤ 4294836225 * length (chains_of fs)
area-low [] h = omega arith
area-low (f ∷ fs) h = go (opens_chain f) (area-low fs h.1)
  where
    go : (b : Bool) → area_of (chains_of fs) ≤ 4294836225 * length (chains_of fs)
        → let cs = pick b (record { first = f; further = with_id (id_of f) fs } ∷ chains_of fs) (chains_of fs) in area_of cs ≤ 4294836225 * length cs
    go true ih = omega (arith, ih, h.0)
    go false ih = ih

-- the bitmaps of a set whose objects are not refused take no more than 2 ^ 38 bytes
pub area-within : (s : List ℕ) {at : ℕ} → SetBegins s at → Bytes s → fragments_verdict object_limit (fragments_of (set_at s at)) ≡ accepted
    → area_of (objects_in (set_at s at)) ≤ 274877906944
area-within s {at} b h ok =
    let d = set_at s at in
    let from = at + used_by (drop at s) in
    let pieces : Each Bytes (pieces_at s from) = pieces-bytes (drop from s) (bytes_drop from s h) in
    let others : Each Bytes d.others = rw (set_here s b.standing b.more) (through-bytes (pieces_at s from) pieces) in
    omega (arith, area-low (fragments_of d) (all-low (d.place + length d.opening) d.others others), few-objects object_limit (fragments_of d) ok)
