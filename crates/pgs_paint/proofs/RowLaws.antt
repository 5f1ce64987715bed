-- The colours of a row of indices, stored a pixel a turn. Assumes nothing.
use mathlib.Core.Path.{◌≡◌, refl, sym, ap, ◌∙◌}
use mathlib.Core.List.{List, ◌++◌, append-nil}
use Prim.Native.Nat.{ℕ, ◌+◌, ◌*◌, ◌-◌, ◌≤◌, ◌<◌}
use native.Mathlib.Omega.{arith}
use lib.ListN.{length, get_or, take, drop, length-append, length-drop, drop_of_length-le}
use lib.Seq.{sets-eq, take_at, drop-append-add, drop-drop}
use Rattle.pgs_palette.specs.Table.{pixel_of, pixel_at}
use Rattle.pgs_palette.specs.declared.palette.Rgba8.{Rgba8}
use Rattle.pgs_palette.proofs.Laying.{stored-pixel, front-pixel}
use Rattle.pgs_plane.specs.Strips.{strip}
use Rattle.pgs_plane.specs.Placing.{table_color}
use Rattle.pgs_plane.proofs.StripLaws.{strip-more}

-- the colours of indices
abbrev pub colors : List ℕ → List ℕ → ℕ → List ℕ
colors t pixels k = table_color t (get_or pixels k 0)

-- those of a table are those of its front, where the indices are bytes
pub front-colors : (t pixels : List ℕ) (n : ℕ) → ((k : ℕ) → get_or pixels k 0 < 256) → strip (colors (take 1024 t) pixels) 0 n ≡ strip (colors t pixels) 0 n
front-colors t pixels n bytes = λ i. strip (λ k. pixel_of (front-pixel t (get_or pixels k 0) (bytes k) i)) 0 n

-- nothing is stored yet
pub row-begins : (t pixels start : List ℕ) → start ≡ strip (colors t pixels) 0 0 ++ drop (4 * 0) start
unfolding strip
row-begins t pixels start = refl

module _ (t pixels start row : List ℕ) (i : ℕ) (same : length row ≡ length start) (is : row ≡ strip (colors t pixels) 0 i ++ drop (4 * i) start) where
  -- all are stored
  pub row-ends : (n : ℕ) → i ≡ n → length start ≤ 4 * i → row ≡ strip (colors t pixels) 0 n
  row-ends n all none-left =
      is
      ∙ ap (λ (l : List ℕ). strip (colors t pixels) 0 i ++ l) (drop_of_length-le start none-left)
      ∙ append-nil (strip (colors t pixels) 0 i)
      ∙ ap (λ (m : ℕ). strip (colors t pixels) 0 m) all

  -- one pixel more
  pub pixel-stored : (c : Rgba8) → c ≡ pixel_at t (get_or pixels i 0) → 4 * i + 4 ≤ length start
      → take (4 * i) row ++ (pixel_of c ++ drop 4 (drop (4 * i) row)) ≡ strip (colors t pixels) 0 (i + 1) ++ drop (4 * (i + 1)) start
  pixel-stored c e room =
      let done = strip (colors t pixels) 0 i in
      let rest = drop (4 * i) start in
      let behind : length rest ≡ length start - 4 * i = length-drop (4 * i) start in
      let front : length done ≡ 4 * i = omega (arith, length-append done rest, ap length is) in
      stored-pixel row (4 * i) c (omega arith)
      ∙ sets-eq (pixel_of c) row (4 * i) (omega arith)
      ∙ (λ k. take (4 * i) (is k) ++ pixel_of (e k) ++ drop (4 * i + 4) (is k))
      ∙ (λ k. take_at done rest (4 * i) front k ++ colors t pixels i ++ drop (sym front k + 4) (done ++ rest))
      ∙ (λ k. done ++ colors t pixels i ++ (drop-append-add done rest 4 ∙ drop-drop 4 (4 * i) start) k)
      ∙ (λ k. strip-more (colors t pixels) i k ++ drop (next k) start)
    where
      next : 4 * i + 4 ≡ 4 * (i + 1)
      next = omega arith
