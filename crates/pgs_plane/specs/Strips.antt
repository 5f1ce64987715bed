-- Lists in equal pieces, joined one after the other: a row is a strip of pixels, a plane a strip of rows.
use Rattle.std.specs.Prelude.{List, [], ◌++◌, ℕ, zero, suc, take, drop}

-- f a, f (a + 1), .., n of them
unfoldable pub strip : (ℕ → List ℕ) → (a n : ℕ) → List ℕ
strip f a zero = []
strip f a (suc n) = f a ++ strip f (suc a) n

-- the first n pieces of a list, of `size` elements each and numbered from a on, each made into g of its number and itself
unfoldable pub pieces : (ℕ → List ℕ → List ℕ) → (size a n : ℕ) → List ℕ → List ℕ
pieces g size a zero l = []
pieces g size a (suc n) l = g a (take size l) ++ pieces g size (suc a) n (drop size l)
