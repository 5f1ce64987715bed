-- The contract of `decode_rle` at each of its answers.
-- Assumes nothing.
use mathlib.Core.Path.{◌≡◌, refl, sym, ap, ap₂, ◌∙◌}
use mathlib.Core.List.{List, ◌++◌, append-nil}
use Prim.Native.Nat.{ℕ, ◌*◌, ◌-◌, ◌≤◌}
use native.Mathlib.Omega.{arith}
use lib.Dec.{leb}
use lib.ListN.{length, take, drop, replicate}
use lib.Seq.{length-take-le, take_all}
use borrow.Author.Tests.{le-leb}
use Rattle.pgs_base.specs.Outcome.{Verdict, accepted, verdict_of, and_then, unless, laid}
use Rattle.std.specs.Prelude.{Result, Ok, ⊤}
use Rattle.pgs_base.specs.declared.refusal.Refusal.{Refusal}
use Rattle.pgs_bitmap_check.specs.Bitmap.{reading_of, bitmap_of}
use Rattle.pgs_bitmap.specs.Decoding.{decode_verdict, Decoding}
use Rattle.pgs_bitmap_store.specs.Padding.{padded_to}
use Rattle.pgs_bitmap.proofs.BitmapArea.{bitmap-area}

-- where there is exactly room, nothing is left out and nothing is made 0
pub padded-whole : (pixels : List ℕ) (room : ℕ) → length pixels ≡ room → padded_to room pixels ≡ pixels
padded-whole pixels room e =
    ap₂ (λ (l : List ℕ) (n : ℕ). l ++ replicate n 0) {x = take room pixels} {y = pixels} {u = room - length pixels} {v = 0}
    (take_all room pixels (omega (arith, e))) (omega (arith, e))
    ∙ append-nil pixels

module _ (bytes : List ℕ) (width height : ℕ) (before : List ℕ) where
  -- with the verdict of the call in hand
  answer : (r : Result ⊤ Refusal) (after : List ℕ) (v : Verdict) → decode_verdict bytes width height (length before) ≡ v
      → verdict_of r ≡ v → after ≡ laid v (bitmap_of bytes) before → Decoding bytes width height before r after
  answer r after v e o s =
      record {
        answered = o ∙ sym e;
        stored = s ∙ ap (λ (u : Verdict). laid u (bitmap_of bytes) before) (sym e);
      }

  -- the bitmap's verdict, then 34
  verdict-is : (v : Verdict) → v ≡ (reading_of bytes width height).verdict
      → decode_verdict bytes width height (length before) ≡ and_then v (unless 34 (leb (width * height) (length before)))
  verdict-is v e = ap (λ (u : Verdict). and_then u (unless 34 (leb (width * height) (length before)))) (sym e)

  -- the bitmap fills the part that is lent for it, and comes back whole
  pub stored-bitmap : (part : List ℕ) → accepted ≡ (reading_of bytes width height).verdict → width * height ≤ length before
      → part ≡ padded_to (length (take (width * height) before)) (bitmap_of bytes) → Decoding bytes width height before (Ok tt) (part ++ drop (width * height) before)
  stored-bitmap part e h is =
      answer (Ok tt) (part ++ drop (width * height) before) accepted (verdict-is accepted e ∙ ap (unless 34) (le-leb _ _ h)) refl
      (rw (is, padded-whole (bitmap_of bytes) (length (take (width * height) before)) fills, bitmap-area bytes width height (sym e)))
    where
      fills : length (bitmap_of bytes) ≡ length (take (width * height) before)
      fills = bitmap-area bytes width height (sym e) ∙ sym (length-take-le (width * height) before h)
