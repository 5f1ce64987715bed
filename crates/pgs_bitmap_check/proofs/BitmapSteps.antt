-- Reading a bitmap from a place of its data on: one law for each thing that can stand there.
-- Assumes nothing.
use mathlib.Core.Path.{◌≡◌, refl, ◌∙◌, sym, ap, ap₂}
use mathlib.Core.Bool.{Bool, true, false}
use mathlib.Core.List.{List, [], ◌∷◌, ◌++◌}
use Prim.Native.Nat.{ℕ, ◌+◌, ◌≤◌, ◌<◌}
use native.Mathlib.Decide.{dec_lt}
use native.Mathlib.Omega.{arith}
use lib.ListN.{length, get_or, drop, replicate, length-drop}
use lib.Seq.{drop-drop}
use borrow.Author.Tests.{eqb-true, eqb-false, le-leb, lt-leb, lt-ltb, le-ltb, eq-eqb, ne_eqb}
use lib.Dec.{eqb}
use Rattle.pgs_base.specs.Outcome.{Verdict, refused, pick}
use Rattle.pgs_run_length.specs.RunLength.{Code, run, line_end, none, found, truncated, code_of, run_of, Codes, and_further, codes_of, pixels_of}
use Rattle.pgs_bitmap_check.specs.Bitmap.{Reading, counted, stopped, at_end, read_from, read_on, bitmap_of}
use Rattle.std.specs.Prelude.{Result, Ok, Err}
use Rattle.pgs_base.specs.Refusals.{number_of}
use Rattle.pgs_base.specs.declared.refusal.Refusal.{Refusal}
use Rattle.pgs_run_length.specs.declared.code.Run.{Run}
use Rattle.pgs_bitmap_check.specs.Progress.{further, verdict_from, IsInside, Reached, Ran, Ended}
use Rattle.pgs_base.specs.declared.dimensions.Dimensions.{Dimensions}
use Rattle.pgs_bitmap_check.specs.declared.bitmap.Place.{Place}
use Rattle.pgs_run_length.proofs.AllCodes.{taken-bounds, codes-are}
use Rattle.pgs_run_length.proofs.OneCode.{escape-line-end, escape-among, code-escape}

-- a code stands at the place: the codes from there on, and what comes of them
codes-after : (l : List ℕ) (at : ℕ) {code : Code} {n : ℕ} → code_of (drop at l) ≡ found code n
    → codes_of (drop at l) ≡ and_further (found code n) (codes_of (drop (at + n) l))
codes-after l at {code} {n} e =
    codes-are (drop at l) (found code n) e ∙ ap (λ (m : List ℕ). and_further (found code n) (codes_of m)) (drop-drop n at l)

-- the reading of a list of codes and what ended it
abbrev read-codes : (width height lines column : ℕ) → Codes → Reading
read-codes width height lines column all = read_from width height lines column all.codes all.ended

module _ (width height lines column : ℕ) (l : List ℕ) (at : ℕ) where
  -- reading on from the place
  abbrev here : Reading
  here = read_on width height lines column (drop at l)

  pub read-run : {count color n : ℕ} → code_of (drop at l) ≡ found (run count color) n → column + count ≤ width
      → here ≡ counted (read_on width height lines (column + count) (drop (at + n) l))
  read-run e h = ap (read-codes width height lines column) (codes-after l at e) ∙ simp (le-leb _ _ h)

  pub read-past-width : {count color n : ℕ} → code_of (drop at l) ≡ found (run count color) n → width < column + count
      → here ≡ stopped (refused 24)
  read-past-width e h = ap (read-codes width height lines column) (codes-after l at e) ∙ simp (lt-leb _ _ h)

  pub read-line : {n : ℕ} → code_of (drop at l) ≡ found line_end n → column ≡ width → lines < height
      → here ≡ counted (read_on width height (lines + 1) 0 (drop (at + n) l))
  read-line e h k = ap (read-codes width height lines column) (codes-after l at e) ∙ simp (eq-eqb _ _ h, lt-ltb _ _ k)

  pub read-short-line : {n : ℕ} → code_of (drop at l) ≡ found line_end n → (column ≡ width → ⊥) → here ≡ stopped (refused 29)
  read-short-line e h = ap (read-codes width height lines column) (codes-after l at e) ∙ simp (ne_eqb _ _ h)

  pub read-extra-line : {n : ℕ} → code_of (drop at l) ≡ found line_end n → column ≡ width → height ≤ lines → here ≡ stopped (refused 30)
  read-extra-line e h k = ap (read-codes width height lines column) (codes-after l at e) ∙ simp (eq-eqb _ _ h, le-ltb _ _ k)

  pub read-truncated : {k : ℕ} → code_of (drop at l) ≡ truncated k → here ≡ stopped (refused k)
  read-truncated {k} e = ap (read-codes width height lines column) (codes-are (drop at l) (truncated k) e)

  pub read-end : code_of (drop at l) ≡ none → here ≡ stopped (at_end width height lines column)
  read-end e = ap (read-codes width height lines column) (codes-are (drop at l) none e)

-- of equal runs the lengths are equal, and what they took
counts : {count color other shade n m : ℕ} → found (run count color) n ≡ found (run other shade) m → count ≡ other
counts e = cc

takes : {count color other shade n m : ℕ} → found (run count color) n ≡ found (run other shade) m → n ≡ m
takes e = cc

-- the pixels from a place on
module _ (l : List ℕ) (at : ℕ) where
  pub pixels-run : {count color n : ℕ} → code_of (drop at l) ≡ found (run count color) n
      → bitmap_of (drop at l) ≡ replicate count color ++ bitmap_of (drop (at + n) l)
  pixels-run e = ap (λ (all : Codes). pixels_of all.codes) (codes-after l at e)

  pub pixels-line : {n : ℕ} → code_of (drop at l) ≡ found line_end n → bitmap_of (drop at l) ≡ bitmap_of (drop (at + n) l)
  pixels-line e = ap (λ (all : Codes). pixels_of all.codes) (codes-after l at e)

  -- the code that begins with 00 where four bytes are there, by its run; an end of line is a run of no pixels here
  pub pixels-escape : {count color n : ℕ} → at + 3 < length l → get_or l at 0 ≡ 0
      → found (run count color) n ≡ run_of (get_or l (at + 1) 0) (get_or l (at + 2) 0 ∷ get_or l (at + 3) 0 ∷ [])
      → bitmap_of (drop at l) ≡ replicate count color ++ bitmap_of (drop (at + n) l)
  pixels-escape {count} {color} {n} there escape is = go (dec_lt 0 second)
    where
      second : ℕ
      second = get_or l (at + 1) 0

      go : Dec (0 < second) → bitmap_of (drop at l) ≡ replicate count color ++ bitmap_of (drop (at + n) l)
      go (yes p) = pixels-run (code-escape l at (omega arith) escape ∙ sym (escape-among l at there (λ e. omega (arith, p, e)) is))
      go (no p) =
          let e : get_or l (at + 1) 0 ≡ 0 = omega (arith, p) in
          let none : found (run count color) n ≡ found (run 0 0) 2
          = is ∙ ap (λ (s : ℕ). run_of s (get_or l (at + 2) 0 ∷ get_or l (at + 3) 0 ∷ [])) e in
          pixels-line (code-escape l at (omega arith) escape ∙ sym (escape-line-end l at (omega arith) e))
          ∙ ap₂ (λ (c m : ℕ). replicate c color ++ bitmap_of (drop (at + m) l)) (sym (counts none)) (sym (takes none))

  pub pixels-truncated : {k : ℕ} → code_of (drop at l) ≡ truncated k → bitmap_of (drop at l) ≡ []
  pixels-truncated {k} e = ap (λ (all : Codes). pixels_of all.codes) (codes-are (drop at l) (truncated k) e)

  pub pixels-none : code_of (drop at l) ≡ none → bitmap_of (drop at l) ≡ []
  pixels-none e = ap (λ (all : Codes). pixels_of all.codes) (codes-are (drop at l) none e)

-- what a code at the place took of the data
pub taken_at : (l : List ℕ) (at : ℕ) {code : Code} {n : ℕ} → at ≤ length l → code_of (drop at l) ≡ found code n
    → (0 < n) × (at + n ≤ length l)
taken_at l at within e =
    let b = taken-bounds (drop at l) e in
    (b.0, omega (arith, length-drop at l, b.1))

-- what a place is where the check has come to it
module _ {l : List ℕ} {size : Dimensions} {place : Place} {v : Verdict} where
  pub reached-run : {count color n : ℕ} → Reached l size place v → code_of (drop place.at l) ≡ found (run count color) n
      → place.column + count ≤ size.width → Reached l size (further place count n) v
  reached-run r e h =
      record {
        inside = record { within = (taken_at l place.at r.inside.within e).1; few = r.inside.few; narrow = h };
        same = sym (ap (λ (x : Reading). x.verdict) (read-run size.width size.height place.lines place.column l place.at e h)) ∙ r.same;
      }

  pub reached-line : {n : ℕ} → Reached l size place v → code_of (drop place.at l) ≡ found line_end n
      → place.column ≡ size.width → place.lines < size.height → Reached l size (record { lines = place.lines + 1; column = 0; at = place.at + n }) v
  reached-line r e h k =
      record {
        inside = record { within = (taken_at l place.at r.inside.within e).1; few = omega arith; narrow = omega arith };
        same = sym (ap (λ (x : Reading). x.verdict) (read-line size.width size.height place.lines place.column l place.at e h k)) ∙ r.same;
      }

  pub reached-truncated : {k : ℕ} → Reached l size place v → code_of (drop place.at l) ≡ truncated k → refused k ≡ v
  reached-truncated r e = sym (ap (λ (x : Reading). x.verdict) (read-truncated size.width size.height place.lines place.column l place.at e)) ∙ r.same

  pub reached-end : Reached l size place v → code_of (drop place.at l) ≡ none
      → at_end size.width size.height place.lines place.column ≡ v
  reached-end r e = sym (ap (λ (x : Reading). x.verdict) (read-end size.width size.height place.lines place.column l place.at e)) ∙ r.same

-- reading on from a place comes to what it comes to
reached_here : {l : List ℕ} {size : Dimensions} {place : Place} → IsInside l size place → Reached l size place (verdict_from l size place)
reached_here inside = record { inside = inside; same = refl }

-- one code further on: what reading on comes to there, it comes to here
pub reached-step : {l : List ℕ} {size : Dimensions} (place : Place) {to : Place} {v : Verdict} → verdict_from l size place ≡ v
    → Reached l size to (verdict_from l size place) → Reached l size to v
reached-step place before there = record { inside = there.inside; same = there.same ∙ before }

-- one code further on, reading on comes to what it comes to here
abbrev pub Stepped : List ℕ → Dimensions → Place → Result Place Refusal → Type 0
Stepped bytes size place (Ok to) = (place.at < to.at) × Reached bytes size to (verdict_from bytes size place)
Stepped bytes size place (Err why) = refused (number_of why) ≡ verdict_from bytes size place

-- the step after a code: a run, or the end of a line
module _ {l : List ℕ} {size : Dimensions} {place : Place} (inside : IsInside l size place) where
  pub ran-stepped : (a : Run) (step : Result Place Refusal) → code_of (drop place.at l) ≡ found (run a.count a.color) a.taken
      → Ran size place a step → Stepped l size place step
  ran-stepped a (Ok to) e ran =
      rw ran.1 (omega (arith, (taken_at l place.at inside.within e).0), reached-run (reached_here inside) e ran.0)
  ran-stepped a (Err why) e ran =
      ap refused ran.1
      ∙ sym (ap (λ (x : Reading). x.verdict) (read-past-width size.width size.height place.lines place.column l place.at e ran.0))

  pub ended-stepped : (step : Result Place Refusal) → code_of (drop place.at l) ≡ found line_end 2
      → Ended size place step → Stepped l size place step
  ended-stepped (Ok to) e ended = rw ended.2 (omega arith, reached-line (reached_here inside) e ended.0 ended.1)
  ended-stepped (Err why) e ended = go (eqb place.column size.width) refl
    where
      go : (full : Bool) → eqb place.column size.width ≡ full → refused (number_of why) ≡ verdict_from l size place
      go true f =
          ap refused (ended.1 ∙ ap (λ (b : Bool). pick b 30 29) f)
          ∙ sym (ap (λ (x : Reading). x.verdict)
          (read-extra-line size.width size.height place.lines place.column l place.at e (eqb-true _ _ f) (ended.0 (eqb-true _ _ f))))
      go false f =
          ap refused (ended.1 ∙ ap (λ (b : Bool). pick b 30 29) f)
          ∙ sym (ap (λ (x : Reading). x.verdict)
          (read-short-line size.width size.height place.lines place.column l place.at e (eqb-false _ _ f)))
