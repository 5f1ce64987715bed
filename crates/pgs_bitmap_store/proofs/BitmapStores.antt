-- Storing a bitmap's pixels code by code, as many as there is room for.
-- Assumes nothing.
use mathlib.Core.Path.{◌≡◌, sym, ap, ap₂, ◌∙◌, subst}
use mathlib.Core.List.{List, [], ◌∷◌, ◌++◌, append_assoc, append-nil}
use Prim.Native.Nat.{ℕ, ◌+◌, ◌-◌, ◌≤◌, ◌<◌}
use native.Mathlib.Decide.{dec_lt}
use native.Mathlib.Omega.{arith}
use lib.ListN.{length, get_or, take, drop, set, replicate, length-append, length-replicate, length-set, replicate-append-replicate}
use lib.Seq.{length-take-le, take_all, take_at, drop_at, drop-drop}
use Rattle.pgs_run_length.specs.RunLength.{run, line_end, none, found, truncated, code_of, run_of}
use Rattle.pgs_bitmap_check.specs.Bitmap.{bitmap_of}
use Rattle.pgs_bitmap_store.specs.Progress.{further, Filled, Storing, Stored}
use Rattle.pgs_bitmap_store.specs.declared.bitmap.Spot.{Spot}
use Rattle.pgs_run_length.proofs.OneCode.{code-pixel}
use Rattle.pgs_run_length.proofs.AllCodes.{run-taken}
use Rattle.pgs_bitmap_store.proofs.RunFill.{one-in-front, run-in-front}
use Rattle.pgs_bitmap_check.proofs.BitmapSteps.{taken_at, pixels-run, pixels-line, pixels-escape, pixels-none, pixels-truncated}

-- what filling a run is, or as much of it as there is room for
fits : (before after : List ℕ) (from count color stored : ℕ) → from + stored ≤ length before → stored ≤ count
    → (stored < count → from + stored ≡ length before)
    → take (from + stored) after ≡ take from before ++ replicate stored color → Filled before from count color (from + stored) after
fits before after from count color stored room few all is =
    record {
      order = omega arith;
      inside = room;
      most = omega arith;
      all = λ h. all (omega arith);
      front = is ∙ ap (λ (n : ℕ). take from before ++ replicate n color) {x = stored} {y = from + stored - from} (omega arith);
    }

-- and what filling a block is that the run is the front of
pub block-fills : {before after : List ℕ} {from count color : ℕ} (n : ℕ) → count ≤ n → from + n ≤ length before
    → after ≡ take from before ++ (replicate n color ++ drop n (drop from before)) → Filled before from count color (from + count) after
block-fills {before} {after} {from} {count} {color} n few room filled =
    fits before after from count color count (omega arith) (omega arith) (λ h. absurd (omega arith))
    (run-in-front before after from count n color few (omega arith) filled)

-- a run before what follows, filled as far as there is room: the rest of it and what follows has none
pub run-with-room : (size out to count color : ℕ) (front rest : List ℕ) → length front ≡ out → out ≤ to → to ≤ out + count → (to < out + count → to ≡ size)
    → take size ((front ++ replicate (to - out) color) ++ rest) ≡ take size (front ++ (replicate count color ++ rest))
run-with-room size out to count color front rest long order most all = go (dec_lt to (out + count))
  where
    stored : List ℕ
    stored = front ++ replicate (to - out) color

    go : Dec (to < out + count) → take size (stored ++ rest) ≡ take size (front ++ (replicate count color ++ rest))
    go (yes p) =
        let full : length stored ≡ size
        = length-append front (replicate (to - out) color) ∙ ap₂ ◌+◌ long (length-replicate (to - out) color) ∙ omega (arith, order, all p) in
        let parts : replicate (to - out) color ++ replicate (count - (to - out)) color ≡ replicate count color
        = replicate-append-replicate (to - out) (count - (to - out)) color ∙ ap (λ (m : ℕ). replicate m color) {x = to - out + (count - (to - out))} {y = count} (omega (arith, order, p)) in
        take_at stored rest size full
        ∙ sym (take_at stored (replicate (count - (to - out)) color ++ rest) size full)
        ∙ ap (take size)
        (append_assoc front (replicate (to - out) color) (replicate (count - (to - out)) color ++ rest)
        ∙ ap (λ (m : List ℕ). front ++ m) (sym (append_assoc (replicate (to - out) color) (replicate (count - (to - out)) color) rest) ∙ ap (λ (m : List ℕ). m ++ rest) parts))
    go (no p) =
        let whole : to - out ≡ count = omega (arith, p, order, most) in
        ap (λ (m : ℕ). take size ((front ++ replicate m color) ++ rest)) whole
        ∙ ap (take size) (append_assoc front (replicate count color) rest)

module _ {l now : List ℕ} {spot : Spot} (s : Storing l now spot) where
  -- what comes next is a run of pixels, filled as far as there is room
  next : (count color n : ℕ) {to : ℕ} {after : List ℕ} → spot.at + n ≤ length l
      → bitmap_of (drop spot.at l) ≡ replicate count color ++ bitmap_of (drop (spot.at + n) l)
      → length after ≡ length now → Filled now spot.out count color to after → Storing l after (record { at = spot.at + n; out = to })
  next count color n {to} {after} there e same f =
      record {
        within = there;
        inside = rw same f.inside;
        done =
            rw same
            (ap (λ (m : List ℕ). take (length now) (m ++ rest)) f.front
            ∙ run-with-room (length now) spot.out to count color (take spot.out now) rest (length-take-le spot.out now s.inside) f.order f.most f.all
            ∙ before);
      }
    where
      rest : List ℕ
      rest = bitmap_of (drop (spot.at + n) l)

      before : take (length now) (take spot.out now ++ (replicate count color ++ rest)) ≡ take (length now) (bitmap_of l)
      before = ap (λ (m : List ℕ). take (length now) (take spot.out now ++ m)) (sym e) ∙ s.done

  pub storing-run : {count color n to : ℕ} {after : List ℕ} → code_of (drop spot.at l) ≡ found (run count color) n → length after ≡ length now
      → Filled now spot.out count color to after → Storing l after (record { at = spot.at + n; out = to })
  storing-run {count} {color} {n} e same f = next count color n (taken_at l spot.at s.within e).1 (pixels-run l spot.at e) same f

  -- a code that begins with 00, where four bytes are there
  module _ {count color n : ℕ} (there : spot.at + 3 < length l) (escape : get_or l spot.at 0 ≡ 0)
      (is : found (run count color) n ≡ run_of (get_or l (spot.at + 1) 0) (get_or l (spot.at + 2) 0 ∷ get_or l (spot.at + 3) 0 ∷ [])) where
    pub storing-escape : {to : ℕ} {after : List ℕ} → length after ≡ length now → Filled now spot.out count color to after
        → Storing l after (record { at = spot.at + n; out = to })
    storing-escape same f =
        next count color n (omega (arith, (run-taken (get_or l (spot.at + 1) 0) (get_or l (spot.at + 2) 0) (get_or l (spot.at + 3) 0) is).1))
        (pixels-escape l spot.at there escape is) same f

  -- one pixel by itself
  pub storing-pixel : spot.at < length l → (get_or l spot.at 0 ≡ 0 → ⊥) → spot.out < length now
      → Storing l (set now spot.out (get_or l spot.at 0)) (further spot 1 1)
  storing-pixel here nonzero room =
      storing-run (code-pixel l spot.at here nonzero) (length-set now spot.out (get_or l spot.at 0))
      (fits now (set now spot.out (get_or l spot.at 0)) spot.out 1 (get_or l spot.at 0) 1 (omega arith) (omega arith) (λ h. absurd (omega arith))
      (one-in-front now spot.out (get_or l spot.at 0) room))

  pub storing-line : {n : ℕ} → code_of (drop spot.at l) ≡ found line_end n → Storing l now (record { at = spot.at + n; out = spot.out })
  storing-line e =
      record {
        within = (taken_at l spot.at s.within e).1;
        inside = s.inside;
        done = rw (← pixels-line l spot.at e) s.done;
      }

  -- nothing is still to come
  storing-all : bitmap_of (drop spot.at l) ≡ [] → Stored l now spot.out
  storing-all e =
      record {
        inside = s.inside;
        done =
            sym (take_all (length now) (take spot.out now) (rw (length-take-le spot.out now s.inside) s.inside))
            ∙ ap (take (length now)) (sym (append-nil (take spot.out now)) ∙ ap (λ (m : List ℕ). take spot.out now ++ m) (sym e))
            ∙ s.done;
      }

  pub storing-truncated : {k : ℕ} → code_of (drop spot.at l) ≡ truncated k → Stored l now spot.out
  storing-truncated e = storing-all (pixels-truncated l spot.at e)

  pub storing-end : code_of (drop spot.at l) ≡ none → Stored l now spot.out
  storing-end e = storing-all (pixels-none l spot.at e)

-- the same of a spot of that place
pub storing-past : {l now : List ℕ} {spot : Spot} {at : ℕ} → spot.at ≡ at → Storing l now (record { at = at; out = spot.out }) → Storing l now spot
storing-past {l} {now} {spot} e s = subst (λ (a : ℕ). Storing l now (record { at = a; out = spot.out })) (sym e) s

-- a run that is filled leaves what is behind it
pub filled-behind : (before after : List ℕ) (from count color : ℕ) → from + count ≤ length before
    → after ≡ take from before ++ (replicate count color ++ drop count (drop from before)) → drop (from + count) after ≡ drop (from + count) before
filled-behind before after from count color room is =
    ap (drop (from + count)) (is ∙ sym (append_assoc (take from before) (replicate count color) (drop count (drop from before))))
    ∙ drop_at (take from before ++ replicate count color) (drop count (drop from before)) (from + count) full
    ∙ drop-drop count from before
  where
    full : length (take from before ++ replicate count color) ≡ from + count
    full = rw (length-append, length-replicate, length-take-le from before (omega arith))

-- what a place leaves behind it, a later one does
pub behind-later : (now before after : List ℕ) {at to : ℕ} → at ≤ to → drop at now ≡ drop at before → drop to after ≡ drop to now
    → drop to after ≡ drop to before
behind-later now before after {at} {to} order kept e =
    e ∙ ap (λ (n : ℕ). drop n now) {x = to} {y = at + (to - at)} (omega arith) ∙ sym (drop-drop (to - at) at now)
    ∙ ap (drop (to - at)) kept
    ∙ drop-drop (to - at) at before ∙ ap (λ (n : ℕ). drop n before) {x = at + (to - at)} {y = to} (omega arith)
