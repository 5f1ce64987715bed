-- Entries laid over a palette table: one after the other is all of them, one entry is four stores, and what a pixel then shows.
-- Assumes nothing.
use mathlib.Core.Path.{◌≡◌, refl, sym, ap, ◌∙◌}
use mathlib.Core.Bool.{Bool}
use mathlib.Core.List.{List, [], ◌∷◌, ◌++◌, map, append_assoc}
use mathlib.Core.Option.{Option, none, some}
use Prim.Native.Nat.{ℕ, zero, suc, ◌+◌, ◌*◌, ◌≤◌, ◌<◌}
use native.Mathlib.Nat.{add-zero, zero-add, add-suc, le_refl, le_of_suc-le-suc, not-suc-le-zero}
use native.Mathlib.Numerals.{add-one}
use native.Mathlib.Omega.{arith}
use borrow.Author.Tests.{eq-eqb, ne_eqb}
use lib.Dec.{eqb, lit<}
use lib.ListN.{length, get_or, take, drop, set, replicate, length-append, length-drop, length-replicate, take-append-drop, get_or-replicate, get_or-append, drop_of_length-le}
use lib.Seq.{sets, sets-eq, take_at, drop_at, length-take-le, take-set-le, take-add, drop-drop, drop-set-add, get_or-append-add, get_or-take, drop-cons}
use Rattle.std.specs.Simd.{first_chunks}
use Rattle.pgs_base.specs.Outcome.{pick}
use Rattle.pgs_palette.specs.Palette.{Entry, entry_of, applying, or_else, lookup, Conversion, color_of, color_at, entry_or, transparent}
use Rattle.pgs_palette.specs.Table.{pixel_of, pixel_over, laid_from, laid, cleared, pixel_at}
use Rattle.pgs_palette.specs.declared.palette.Rgba8.{Rgba8}

-- ---- a run of stores, seen from the front of a list

drop-sets : (n : ℕ) (l : List ℕ) (i : ℕ) (vs : List ℕ) → drop n (sets l (n + i) vs) ≡ sets (drop n l) i vs
drop-sets n l i [] = refl
drop-sets n l i (v ∷ vs) =
    ap (λ (m : ℕ). drop n (sets (set l (n + i) v) m vs)) (sym (add-suc n i))
    ∙ drop-sets n (set l (n + i) v) (suc i) vs
    ∙ ap (λ (r : List ℕ). sets r (suc i) vs) (drop-set-add n l i v)

take-sets : (n : ℕ) (l : List ℕ) (i : ℕ) (vs : List ℕ) → n ≤ i → take n (sets l i vs) ≡ take n l
take-sets n l i [] h = refl
take-sets n l i (v ∷ vs) h = take-sets n (set l i v) (suc i) vs (omega arith) ∙ take-set-le n l i v h

-- the four bytes of a pixel, stored at a place
pub stored-pixel : (t : List ℕ) (at : ℕ) (c : Rgba8) → at + 4 ≤ length t → take at t ++ (pixel_of c ++ drop 4 (drop at t)) ≡ sets t at (pixel_of c)
stored-pixel t at c h =
    sym (append_assoc (take at t) (pixel_of c) (drop 4 (drop at t)))
    ∙ ap (λ (l : List ℕ). take at t ++ pixel_of c ++ l) (drop-drop 4 at t)
    ∙ sym (sets-eq (pixel_of c) t at h)

-- ---- looking up in two lists, one after the other

or-none : (o : Option Entry) → or_else o none ≡ o
or-none none = refl
or-none (some e) = refl

or_assoc : (a b c : Option Entry) → or_else (or_else a b) c ≡ or_else a (or_else b c)
or_assoc none b c = refl
or_assoc (some e) b c = refl

pub lookup-append : (xs ys : List Entry) (i : ℕ) → lookup (xs ++ ys) i ≡ or_else (lookup ys i) (lookup xs i)
lookup-append [] ys i = sym (or-none (lookup ys i))
lookup-append (e ∷ xs) ys i =
    ap (λ (o : Option Entry). or_else o (pick (eqb e.entry_id i) (some e) none)) (lookup-append xs ys i)
    ∙ or_assoc (lookup ys i) (lookup xs i) (pick (eqb e.entry_id i) (some e) none)

-- ---- one pixel

pixel-length : (convert : Conversion) (o : Option Entry) (old : List ℕ) → length old ≡ 4 → length (pixel_over convert o old) ≡ 4
pixel-length convert none old h = h
pixel-length convert (some e) old h = refl

pixel-or : (convert : Conversion) (a b : Option Entry) (old : List ℕ) → pixel_over convert (or_else a b) old ≡ pixel_over convert a (pixel_over convert b old)
pixel-or convert none b old = refl
pixel-or convert (some e) b old = refl

-- the front pixel of a table, and that there is one
front : (n : ℕ) (t : List ℕ) → suc n * 4 ≤ length t → length (take 4 t) ≡ 4
front n t h = length-take-le 4 t (omega arith)

rest : (n : ℕ) (t : List ℕ) → suc n * 4 ≤ length t → n * 4 ≤ length (drop 4 t)
rest n t h = rw length-drop (omega arith)

single : (e : Entry) (j : ℕ) → (e.entry_id ≡ j → ⊥) → lookup (e ∷ []) j ≡ none
single e j h = ap (λ (b : Bool). pick b (some e) none) (ne_eqb e.entry_id j h)

module _ (convert : Conversion) where
  -- ---- no entry for these indices

  untouched : (es : List Entry) (n i : ℕ) (t : List ℕ) → ((j : ℕ) → i ≤ j → lookup es j ≡ none) → laid_from convert es n i t ≡ t
  unfolding laid_from
  untouched es zero i t h = refl
  untouched es (suc n) i t h =
      ap (λ (o : Option Entry). pixel_over convert o (take 4 t) ++ laid_from convert es n (suc i) (drop 4 t)) (h i (le_refl i))
      ∙ ap (λ (l : List ℕ). take 4 t ++ l) (untouched es n (suc i) (drop 4 t) (λ j l. h j (omega arith)))
      ∙ take-append-drop 4 t

  -- ---- the length stays

  from-length : (es : List Entry) (n i : ℕ) (t : List ℕ) → n * 4 ≤ length t → length (laid_from convert es n i t) ≡ length t
  unfolding laid_from
  from-length es zero i t h = refl
  from-length es (suc n) i t h =
      let a = length-append (pixel_over convert (lookup es i) (take 4 t)) (laid_from convert es n (suc i) (drop 4 t)) in
      let b = pixel-length convert (lookup es i) (take 4 t) (front n t h) in
      let c = from-length es n (suc i) (drop 4 t) (rest n t h) in
      omega (arith, a, b, c, length-drop 4 t)

  -- ---- one list after the other

  from-append : (xs ys : List Entry) (n i : ℕ) (t : List ℕ) → n * 4 ≤ length t
      → laid_from convert (xs ++ ys) n i t ≡ laid_from convert ys n i (laid_from convert xs n i t)
  unfolding laid_from
  from-append xs ys zero i t h = refl
  from-append xs ys (suc n) i t h =
      let p = pixel_over convert (lookup xs i) (take 4 t) in
      let r = laid_from convert xs n (suc i) (drop 4 t) in
      let four = pixel-length convert (lookup xs i) (take 4 t) (front n t h) in
      λ k.
      (ap (λ (o : Option Entry). pixel_over convert o (take 4 t)) (lookup-append xs ys i)
      ∙ pixel-or convert (lookup ys i) (lookup xs i) (take 4 t)
      ∙ ap (λ (l : List ℕ). pixel_over convert (lookup ys i) l) (sym (take_at p r 4 four)))
      k
      ++ (from-append xs ys n (suc i) (drop 4 t) (rest n t h) ∙ ap (λ (l : List ℕ). laid_from convert ys n (suc i) l) (sym (drop_at p r 4 four))) k

  -- ---- what is behind the pixels stays

  from-front : (es : List Entry) (n i : ℕ) (t : List ℕ) → n * 4 ≤ length t
      → laid_from convert es n i (take (n * 4) t) ++ drop (n * 4) t ≡ laid_from convert es n i t
  unfolding laid_from
  from-front es zero i t h = take-append-drop (zero * 4) t
  from-front es (suc n) i t h =
      let a = take 4 t in
      let b = take (n * 4) (drop 4 t) in
      let four = front n t h in
      let all : suc n * 4 ≡ 4 + n * 4 = omega arith in
      ap (λ (l : List ℕ). laid_from convert es (suc n) i l ++ drop (suc n * 4) t) (ap (λ (m : ℕ). take m t) all ∙ take-add 4 (n * 4) t)
      ∙ (λ k. (pixel_over convert (lookup es i) (take_at a b 4 four k) ++ laid_from convert es n (suc i) (drop_at a b 4 four k)) ++ drop (suc n * 4) t)
      ∙ append_assoc (pixel_over convert (lookup es i) a) (laid_from convert es n (suc i) b) (drop (suc n * 4) t)
      ∙ ap (λ (l : List ℕ). pixel_over convert (lookup es i) a ++ (laid_from convert es n (suc i) b ++ l)) (ap (λ (m : ℕ). drop m t) all ∙ sym (drop-drop (n * 4) 4 t))
      ∙ ap (λ (l : List ℕ). pixel_over convert (lookup es i) a ++ l) (from-front es n (suc i) (drop 4 t) (rest n t h))

  -- ---- one entry is four stores

  one_entry : (e : Entry) (n i k : ℕ) (t : List ℕ) → n * 4 ≤ length t → e.entry_id ≡ i + k → k < n
      → laid_from convert (e ∷ []) n i t ≡ sets t (k * 4) (pixel_of (color_of convert e))
  unfolding laid_from
  one_entry e zero i k t h is below = absurd (not-suc-le-zero below)
  one_entry e (suc n) i zero t h is below =
      let px = pixel_of (color_of convert e) in
      ap (λ (b : Bool). pixel_over convert (pick b (some e) none) (take 4 t) ++ laid_from convert (e ∷ []) n (suc i) (drop 4 t)) (eq-eqb e.entry_id i (omega arith))
      ∙ ap (λ (l : List ℕ). px ++ l) (untouched (e ∷ []) n (suc i) (drop 4 t) (λ j l. single e j (omega arith)))
      ∙ sym (sets-eq px t 0 (omega arith))
  one_entry e (suc n) i (suc k) t h is below =
      let px = pixel_of (color_of convert e) in
      let s = sets t (4 + k * 4) px in
      let four : 4 + k * 4 ≡ suc k * 4 = omega arith in
      ap (λ (b : Bool). pixel_over convert (pick b (some e) none) (take 4 t) ++ laid_from convert (e ∷ []) n (suc i) (drop 4 t)) (ne_eqb e.entry_id i (omega arith))
      ∙ ap (λ (l : List ℕ). take 4 t ++ l) (one_entry e n (suc i) k (drop 4 t) (rest n t h) (omega arith) (le_of_suc-le-suc below) ∙ sym (drop-sets 4 t (k * 4) px))
      ∙ ap (λ (l : List ℕ). l ++ drop 4 s) (sym (take-sets 4 t (4 + k * 4) px (omega arith)))
      ∙ take-append-drop 4 s
      ∙ ap (λ (m : ℕ). sets t m px) four

-- ---- of a whole table

module _ (convert : Conversion) where
  pub laid_none : (t : List ℕ) → laid convert [] t ≡ t
  unfolding laid
  laid_none t = untouched convert [] 256 0 t (λ j l. refl)

  pub laid-length : (es : List Entry) (t : List ℕ) → 1024 ≤ length t → length (laid convert es t) ≡ length t
  unfolding laid
  laid-length es t h = from-length convert es 256 0 t h

  -- laid over the front alone
  pub laid-front : (es : List Entry) (t : List ℕ) → 1024 ≤ length t → laid convert es (take 1024 t) ++ drop 1024 t ≡ laid convert es t
  unfolding laid
  laid-front es t h = from-front convert es 256 0 t h

  -- the entries of two lists, one after the other
  pub laid-append : (xs ys : List Entry) (t : List ℕ) → 1024 ≤ length t → laid convert (xs ++ ys) t ≡ laid convert ys (laid convert xs t)
  unfolding laid
  laid-append xs ys t h = from-append convert xs ys 256 0 t h

  -- one entry
  pub laid_one : (e : Entry) (t : List ℕ) → 1024 ≤ length t → e.entry_id < 256 → laid convert (e ∷ []) t ≡ sets t (e.entry_id * 4) (pixel_of (color_of convert e))
  unfolding laid
  laid_one e t h below = one_entry convert e 256 0 e.entry_id t h (sym (zero-add e.entry_id)) below

  -- of the records from k on, the next one and then the others
  pub laid_next : (rows : List (List ℕ)) (k : ℕ) (d : List ℕ) (t whole : List ℕ) → k < length rows → 1024 ≤ length t
      → laid convert (map entry_of (drop k rows)) t ≡ whole
      → laid convert (map entry_of (drop (k + 1) rows)) (laid convert (entry_of (get_or rows k d) ∷ []) t) ≡ whole
  laid_next rows k d t whole below h e =
      sym (laid-append (entry_of (get_or rows k d) ∷ []) (map entry_of (drop (k + 1) rows)) t h)
      ∙ ap (λ (n : ℕ). laid convert (entry_of (get_or rows k d) ∷ map entry_of (drop n rows)) t) (add-one k)
      ∙ ap (λ (l : List (List ℕ)). laid convert (map entry_of l) t) (sym (drop-cons rows k d below))
      ∙ e

  -- with no record left
  pub laid_end : (rows : List (List ℕ)) (k : ℕ) (t whole : List ℕ) → length rows ≤ k → laid convert (map entry_of (drop k rows)) t ≡ whole → t ≡ whole
  laid_end rows k t whole past e =
      sym (laid_none t) ∙ ap (λ (l : List (List ℕ)). laid convert (map entry_of l) t) (sym (drop_of_length-le rows past)) ∙ e

  -- ---- which palette applies

  pub laid-other : (named palette : ℕ) (es : List Entry) (t : List ℕ) → (palette ≡ named → ⊥) → t ≡ laid convert (applying named palette es) t
  laid-other named palette es t h =
      sym (laid_none t) ∙ ap (λ (b : Bool). laid convert (pick b es []) t) (sym (ne_eqb palette named h))

  pub laid-named : (named palette : ℕ) (es : List Entry) (t after : List ℕ) → palette ≡ named → after ≡ laid convert es t
      → after ≡ laid convert (applying named palette es) t
  laid-named named palette es t after h e = e ∙ ap (λ (b : Bool). laid convert (pick b es []) t) (sym (eq-eqb palette named h))

-- ---- what a pixel shows

-- the byte j of the front pixel, and of a later one
front-byte : (t r : List ℕ) (j : ℕ) → 4 ≤ length t → j < 4 → get_or (take 4 t ++ r) j 0 ≡ get_or t j 0
front-byte t r j h below = get_or-append (take 4 t) r 0 j (rw (length-take-le 4 t h) below) ∙ get_or-take 4 t j 0 below

later-byte : (p r : List ℕ) (m n : ℕ) → length p ≡ 4 → m ≡ 4 + n → get_or (p ++ r) m 0 ≡ get_or r n 0
later-byte p r m n four is =
    let past : m ≡ length p + n = omega arith in
    ap (λ (k : ℕ). get_or (p ++ r) k 0) past ∙ get_or-append-add p r n 0

later-pixel : (p r : List ℕ) (k : ℕ) → length p ≡ 4 → pixel_at (p ++ r) (suc k) ≡ pixel_at r k
later-pixel p r k four =
    λ i.
    record {
      r = later-byte p r (suc k * 4) (k * 4) four (omega arith) i;
      g = later-byte p r (suc k * 4 + 1) (k * 4 + 1) four (omega arith) i;
      b = later-byte p r (suc k * 4 + 2) (k * 4 + 2) four (omega arith) i;
      a = later-byte p r (suc k * 4 + 3) (k * 4 + 3) four (omega arith) i;
    }

-- as the first of four bytes, and in what is behind them
pixel-of-four : (t : List ℕ) → pixel_at (take 4 t) 0 ≡ pixel_at t 0
pixel-of-four t =
    λ i.
    record {
      r = get_or-take 4 t 0 0 (lit< tt) i;
      g = get_or-take 4 t 1 0 (lit< tt) i;
      b = get_or-take 4 t 2 0 (lit< tt) i;
      a = get_or-take 4 t 3 0 (lit< tt) i;
    }

pixel-behind : (t : List ℕ) (k : ℕ) → 4 ≤ length t → pixel_at (drop 4 t) k ≡ pixel_at t (suc k)
pixel-behind t k h =
    sym (later-pixel (take 4 t) (drop 4 t) k (length-take-le 4 t h)) ∙ ap (λ (l : List ℕ). pixel_at l (suc k)) (take-append-drop 4 t)

-- the pixel of an index is the chunk of that number
pub chunk-pixel : (t : List ℕ) (n k : ℕ) (d : List ℕ) → n * 4 ≤ length t → k < n → pixel_at (get_or (first_chunks 4 n t) k d) 0 ≡ pixel_at t k
chunk-pixel t zero k d h below = absurd (not-suc-le-zero below)
chunk-pixel t (suc n) zero d h below = pixel-of-four t
chunk-pixel t (suc n) (suc k) d h below =
    chunk-pixel (drop 4 t) n k d (rest n t h) (le_of_suc-le-suc below) ∙ pixel-behind t k (omega arith)

-- the front of a table has the pixel of each index
pub front-pixel : (t : List ℕ) (i : ℕ) → i < 256 → pixel_at (take 1024 t) i ≡ pixel_at t i
front-pixel t i h =
    λ k.
    record {
      r = get_or-take 1024 t (i * 4) 0 (omega arith) k;
      g = get_or-take 1024 t (i * 4 + 1) 0 (omega arith) k;
      b = get_or-take 1024 t (i * 4 + 2) 0 (omega arith) k;
      a = get_or-take 1024 t (i * 4 + 3) 0 (omega arith) k;
    }

module _ (convert : Conversion) where
  first-pixel : (o : Option Entry) (t r : List ℕ) → 4 ≤ length t → pixel_at (pixel_over convert o (take 4 t) ++ r) 0 ≡ entry_or (color_of convert) (pixel_at t 0) o
  first-pixel none t r h =
      λ i.
      record {
        r = front-byte t r 0 h (lit< tt) i;
        g = front-byte t r 1 h (lit< tt) i;
        b = front-byte t r 2 h (lit< tt) i;
        a = front-byte t r 3 h (lit< tt) i;
      }
  first-pixel (some e) t r h = refl

  from-pixel : (es : List Entry) (n i k : ℕ) (t : List ℕ) → n * 4 ≤ length t → k < n
      → pixel_at (laid_from convert es n i t) k ≡ entry_or (color_of convert) (pixel_at t k) (lookup es (i + k))
  unfolding laid_from
  from-pixel es zero i k t h below = absurd (not-suc-le-zero below)
  from-pixel es (suc n) i zero t h below =
      first-pixel (lookup es i) t (laid_from convert es n (suc i) (drop 4 t)) (omega arith)
      ∙ ap (λ (j : ℕ). entry_or (color_of convert) (pixel_at t 0) (lookup es j)) (sym (add-zero i))
  from-pixel es (suc n) i (suc k) t h below =
      let here : suc i + k ≡ i + suc k = omega arith in
      later-pixel (pixel_over convert (lookup es i) (take 4 t)) (laid_from convert es n (suc i) (drop 4 t)) k (pixel-length convert (lookup es i) (take 4 t) (front n t h))
      ∙ from-pixel es n (suc i) k (drop 4 t) (rest n t h) (le_of_suc-le-suc below)
      ∙ ap (λ (c : Rgba8). entry_or (color_of convert) c (lookup es (suc i + k))) (pixel-behind t k (omega arith))
      ∙ ap (λ (j : ℕ). entry_or (color_of convert) (pixel_at t (suc k)) (lookup es j)) here

  -- the pixel of an index: its entry's colour, or what stood there
  pub laid-pixel : (es : List Entry) (t : List ℕ) (i : ℕ) → 1024 ≤ length t → i < 256
      → pixel_at (laid convert es t) i ≡ entry_or (color_of convert) (pixel_at t i) (lookup es i)
  unfolding laid
  laid-pixel es t i h below = from-pixel es 256 0 i t h below ∙ ap (λ (j : ℕ). entry_or (color_of convert) (pixel_at t i) (lookup es j)) (zero-add i)

zeros-length : (n : ℕ) (t : List ℕ) → n ≤ length t → length (replicate n 0 ++ drop n t) ≡ length t
zeros-length n t h = simp (length-append, length-replicate, length-drop) (omega arith)

zeros-byte : (n : ℕ) (r : List ℕ) (j : ℕ) → j < n → get_or (replicate n 0 ++ r) j 0 ≡ 0
zeros-byte n r j h = get_or-append (replicate n 0) r 0 j (rw length-replicate h) ∙ get_or-replicate n j 0 0 h

pub cleared-length : (t : List ℕ) → 1024 ≤ length t → length (cleared t) ≡ length t
unfolding cleared
cleared-length t h = zeros-length 1024 t h

pub cleared-pixel : (t : List ℕ) (i : ℕ) → i < 256 → pixel_at (cleared t) i ≡ transparent
unfolding cleared
cleared-pixel t i h =
    λ k.
    record {
      r = zeros-byte 1024 (drop 1024 t) (i * 4) (omega arith) k;
      g = zeros-byte 1024 (drop 1024 t) (i * 4 + 1) (omega arith) k;
      b = zeros-byte 1024 (drop 1024 t) (i * 4 + 2) (omega arith) k;
      a = zeros-byte 1024 (drop 1024 t) (i * 4 + 3) (omega arith) k;
    }

-- the pixel of an index in a table that was cleared before the entries were laid over it
pub shown : (convert : Conversion) (es : List Entry) (t : List ℕ) (i : ℕ) → 1024 ≤ length t → i < 256
    → pixel_at (laid convert es (cleared t)) i ≡ color_at convert es i
shown convert es t i h below =
    laid-pixel convert es (cleared t) i (rw (cleared-length t h) h) below
    ∙ ap (λ (c : Rgba8). entry_or (color_of convert) c (lookup es i)) (cleared-pixel t i below)
