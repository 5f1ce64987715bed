-- The table of a set gives the colours that the definition gives. Assumes nothing.
use mathlib.Core.Path.{◌≡◌, refl, sym, ap, ◌∙◌}
use mathlib.Core.Bool.{Bool, true, false}
use mathlib.Core.List.{List, [], ◌∷◌, ◌++◌, append-nil}
use mathlib.Core.Option.{Option, none}
use Prim.Native.Nat.{ℕ, ◌+◌, ◌*◌, ◌≤◌}
use native.Mathlib.Omega.{arith}
use borrow.Author.Tests.{leb-true, leb-false}
use lib.Dec.{leb}
use lib.ListN.{length, get_or, get_or-eq_default, replicate, length-replicate, drop_of_length-le}
use Rattle.pgs_color.specs.Bytes.{rgb_of}
use Rattle.pgs_palette.specs.Palette.{Entry, lookup, color_of, entry_or, transparent}
use Rattle.pgs_palette.specs.Table.{laid, cleared, pixel_of}
use Rattle.pgs_palette.proofs.Laying.{shown, laid-length, cleared-length}
use Rattle.pgs_plane.specs.Placing.{table_color}
use Rattle.pgs_rendering.specs.Palettes.{color_shown, empty_table}

-- a table with no entry
module _ where
  pub empty-length : length empty_table ≡ 1024
  unfolding empty_table
  empty-length = length-replicate {A = ℕ} 1024 0

  pub empty-zeros : replicate 1024 0 ≡ empty_table
  unfolding empty_table
  empty-zeros = refl

  empty-cleared : cleared empty_table ≡ empty_table
  unfolding cleared empty_table
  empty-cleared =
      let h : length (replicate {A = ℕ} 1024 0) ≤ 1024 = omega (arith, empty-length) in
      ap (λ (l : List ℕ). replicate 1024 0 ++ l) (drop_of_length-le (replicate 1024 0) h) ∙ append-nil (replicate 1024 0)

-- where no entry has an id past 255, as in a list of bytes
table-shown : (es : List Entry) (t : List ℕ) → length t ≡ 1024 → ((i : ℕ) → 256 ≤ i → lookup es i ≡ none)
    → (i : ℕ) → table_color (laid rgb_of es (cleared t)) i ≡ color_shown rgb_of es i
table-shown es t size few i = go (leb 256 i) refl
  where
    room : 1024 ≤ length t
    room = omega (arith, size)

    long : length (laid rgb_of es (cleared t)) ≡ 1024
    long = laid-length rgb_of es (cleared t) (rw (cleared-length t room) room) ∙ cleared-length t room ∙ size

    past : (k : ℕ) → 1024 ≤ k → length (laid rgb_of es (cleared t)) ≤ k
    past k h = omega (arith, long)

    zeros : (k : ℕ) → 1024 ≤ k → get_or (laid rgb_of es (cleared t)) k 0 ≡ 0
    zeros k h = get_or-eq_default (laid rgb_of es (cleared t)) 0 (past k h)

    go : (b : Bool) → leb 256 i ≡ b → table_color (laid rgb_of es (cleared t)) i ≡ color_shown rgb_of es i
    go false e = ap pixel_of (shown rgb_of es t i room (leb-false 256 i e))
    go true e =
        let high : 256 ≤ i = leb-true 256 i e in
        (λ j. zeros (i * 4) (omega arith) j ∷ zeros (i * 4 + 1) (omega arith) j ∷ zeros (i * 4 + 2) (omega arith) j ∷ zeros (i * 4 + 3) (omega arith) j ∷ [])
        ∙ sym (ap (λ (o : Option Entry). pixel_of (entry_or (color_of rgb_of) transparent o)) (few i high))

-- so in a table with no entry
pub empty-shown : (es : List Entry) → ((i : ℕ) → 256 ≤ i → lookup es i ≡ none) → (i : ℕ) → table_color (laid rgb_of es empty_table) i ≡ color_shown rgb_of es i
empty-shown es few i =
    ap (λ (t : List ℕ). table_color (laid rgb_of es t) i) (sym empty-cleared) ∙ table-shown es empty_table empty-length few i
