-- Laws of lists that lent parts need. Assumes nothing.
use mathlib.Core.Path.{◌≡◌}
use mathlib.Core.List.{List}
use Prim.Native.Nat.{ℕ, ◌+◌, ◌-◌, ◌≤◌}
use lib.ListN.{length, take, drop}
use Rattle.std.proofs.lemmas.List as lists

-- a part that goes to the end
pub to_end : {A : Type 0} (a : ℕ) (l : List A) → take (length l - a) (drop a l) ≡ drop a l
to_end a l = lists.take_rest l a

-- a part of the front
pub drop-take : {A : Type 0} (a n : ℕ) (l : List A) → a ≤ length l → drop a (take (a + n) l) ≡ take n (drop a l)
drop-take a n l h = lists.drop-take a n l
