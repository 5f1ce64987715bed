-- The definition of one code, at a place of the data: one law for each answer of the reader.
-- Assumes nothing.
use mathlib.Core.Path.{◌≡◌}
use mathlib.Core.List.{List, [], ◌∷◌}
use Prim.Native.Nat.{ℕ, ◌+◌, ◌%◌, ◌≤◌, ◌<◌}
use native.Mathlib.Omega.{arith}
use lib.ListN.{length, get_or, drop}
use borrow.Author.Tests.{lt-ltb, le-ltb, eq-eqb, ne_eqb}
use Rattle.pgs_run_length.specs.RunLength.{Code, run, line_end, FirstCode, found, code_of, escape_of, run_of, long_zero_run, short_color_run, long_color_run}
use Rattle.pgs_run_length.proofs.Places.{left-some, left-then}

-- the run by its second byte
module _ (second low : ℕ) (rest : List ℕ) (is-low : low ≡ second % 64) where
  pub run-short-zero : second < 0x40 → found (run low 0) 2 ≡ run_of second rest
  run-short-zero h = simp (lt-ltb _ _ h, is-low)

  pub run-long-zero : 0x40 ≤ second → second < 0x80 → long_zero_run low rest ≡ run_of second rest
  run-long-zero h k = simp (le-ltb _ _ h, lt-ltb _ _ k, is-low)

  pub run-short-color : 0x40 ≤ second → 0x80 ≤ second → second < 0xC0 → short_color_run low rest ≡ run_of second rest
  run-short-color h k m = simp (le-ltb _ _ h, le-ltb _ _ k, lt-ltb _ _ m, is-low)

  pub run-long-color : 0x40 ≤ second → 0x80 ≤ second → 0xC0 ≤ second → long_color_run low rest ≡ run_of second rest
  run-long-color h k m = simp (le-ltb _ _ h, le-ltb _ _ k, le-ltb _ _ m, is-low)

-- the code that begins with 00 at a place
module _ (l : List ℕ) (at : ℕ) where
  pub escape-line-end : at + 1 < length l → get_or l (at + 1) 0 ≡ 0 → found line_end 2 ≡ escape_of (drop (at + 1) l)
  escape-line-end h e = rw (left-some l (at + 1) h, eq-eqb _ _ e)

  escape-run : (f : FirstCode) → at + 1 < length l → (get_or l (at + 1) 0 ≡ 0 → ⊥) → f ≡ run_of (get_or l (at + 1) 0) (drop (at + 2) l)
      → f ≡ escape_of (drop (at + 1) l)
  escape-run f h e is = rw (left-then l (at + 1) (at + 2) h (omega arith), ne_eqb _ _ e) is

  -- the two bytes that are read for it
  abbrev two : List ℕ
  two = get_or l (at + 2) 0 ∷ get_or l (at + 3) 0 ∷ []

  -- four bytes are there
  pub escape-among : {code : Code} {n : ℕ} → at + 3 < length l → (get_or l (at + 1) 0 ≡ 0 → ⊥)
      → found code n ≡ run_of (get_or l (at + 1) 0) two → found code n ≡ escape_of (drop (at + 1) l)
  escape-among {code} {n} h e is =
      escape-run (found code n) (omega arith) e
      (rw (left-then l (at + 2) (at + 3) (omega arith) (omega arith), left-some l (at + 3) h) is)

-- the code at a place, by its first byte
module _ (l : List ℕ) (at : ℕ) (here : at < length l) where
  pub code-pixel : (get_or l at 0 ≡ 0 → ⊥) → code_of (drop at l) ≡ found (run 1 (get_or l at 0)) 1
  code-pixel e = rw (left-some l at here, ne_eqb _ _ e)

  pub code-escape : get_or l at 0 ≡ 0 → code_of (drop at l) ≡ escape_of (drop (at + 1) l)
  code-escape e = rw (left-some l at here, eq-eqb _ _ e)
