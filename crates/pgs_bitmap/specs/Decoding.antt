-- What reading a bitmap answers, and what it leaves in the pixels lent to it: 01, 'Why a call is turned down'.
use Rattle.std.specs.Prelude.{◌≡◌, List, ℕ, ◌*◌, leb, length, Result, ⊤}
use Rattle.pgs_base.specs.Outcome.{Verdict, verdict_of, and_then, unless, laid}
use Rattle.pgs_base.specs.declared.refusal.Refusal.{Refusal}
use Rattle.pgs_bitmap_check.specs.Bitmap.{reading_of, bitmap_of}

-- "width times height bytes for a bitmap", and 34 comes last
abbrev pub decode_verdict : List ℕ → (width height room : ℕ) → Verdict
decode_verdict bytes width height room = and_then (reading_of bytes width height).verdict (unless 34 (leb (width * height) room))

-- the contract of `decode_rle`: its answer, and the pixels before and after it
pub record Decoding (bytes : List ℕ) (width height : ℕ) (before : List ℕ) (answer : Result ⊤ Refusal) (after : List ℕ) : Type 0 where
  pub answered : verdict_of answer ≡ decode_verdict bytes width height (length before)
  pub stored : after ≡ laid (decode_verdict bytes width height (length before)) (bitmap_of bytes) before
