-- What is left of a list from a place on: the element there and what is left from the next place on.
-- Assumes nothing.
use mathlib.Core.Path.{◌≡◌, ◌∙◌, ap}
use mathlib.Core.List.{List, ◌∷◌}
use Prim.Native.Nat.{ℕ, ◌+◌, ◌<◌}
use native.Mathlib.Numerals.{add-one}
use lib.ListN.{length, get_or, drop}
use lib.Seq.{drop-cons}

pub left-some : (l : List ℕ) (at : ℕ) → at < length l → drop at l ≡ get_or l at 0 ∷ drop (at + 1) l
left-some l at h = rw (add-one, drop-cons l at 0 h)

-- the same, with the next place by another name
pub left-then : (l : List ℕ) (at next : ℕ) → at < length l → at + 1 ≡ next → drop at l ≡ get_or l at 0 ∷ drop next l
left-then l at next h e = left-some l at h ∙ ap (λ (n : ℕ). get_or l at 0 ∷ drop n l) e
