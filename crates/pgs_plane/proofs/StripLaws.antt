-- Laws of strips and of lists in equal pieces. Assumes nothing.
use mathlib.Core.Path.{◌≡◌, refl, sym, ap, ◌∙◌}
use mathlib.Core.List.{List, [], ◌++◌, append_assoc, append-nil}
use Prim.Native.Nat.{ℕ, zero, suc, ◌+◌, ◌*◌, ◌≤◌, ◌<◌}
use native.Mathlib.Nat.{add-zero, add-suc, suc-add, add_comm, mul-suc, mul-zero}
use native.Mathlib.Omega.{arith}
use lib.ListN.{length, take, drop, replicate, length-append, replicate-append-replicate}
use lib.Seq.{take-add, drop-drop, take_at, drop_at}
use Rattle.pgs_plane.specs.Strips.{strip, pieces}

-- one piece more
next : (s n : ℕ) → s * suc n ≡ s + s * n
next s n = mul-suc s n ∙ add_comm (s * n) s

-- ---- strips

-- two strips of equal pieces
pub strip-same : (f g : ℕ → List ℕ) (a b n : ℕ) → ((k : ℕ) → k < n → f (a + k) ≡ g (b + k)) → strip f a n ≡ strip g b n
unfolding strip
strip-same f g a b zero h = refl
strip-same f g a b (suc n) h =
    λ i.
    (rw (add-zero, add-zero) at (h 0 (omega arith))) i
    ++ strip-same f g (suc a) (suc b) n (λ k below. rw (suc-add, suc-add, ← add-suc, ← add-suc) (h (suc k) (omega arith))) i

pub strip-add : (f : ℕ → List ℕ) (a m n : ℕ) → strip f a (m + n) ≡ strip f a m ++ strip f (a + m) n
unfolding strip
strip-add f a zero n = simp (add-zero, zero-plus)
  where
    zero-plus : (n : ℕ) → zero + n ≡ n
    zero-plus n = omega arith
strip-add f a (suc m) n =
    ap (λ (k : ℕ). strip f a k) (suc-add m n)
    ∙ ap (λ (l : List ℕ). f a ++ l) (strip-add f (suc a) m n ∙ ap (λ (k : ℕ). strip f (suc a) m ++ strip f k n) {x = suc a + m} {y = a + suc m} (omega arith))
    ∙ sym (append_assoc (f a) (strip f (suc a) m) (strip f (a + suc m) n))

-- one piece more at the end
pub strip-more : (f : ℕ → List ℕ) (n : ℕ) → strip f 0 n ++ f n ≡ strip f 0 (n + 1)
unfolding strip
strip-more f n = sym (strip-add f 0 n 1 ∙ ap (λ (l : List ℕ). strip f 0 n ++ l) (one (0 + n) n (omega arith)))
  where
    one : (a b : ℕ) → a ≡ b → f a ++ [] ≡ f b
    one a b e = append-nil (f a) ∙ ap f e

pub strip-length : (f : ℕ → List ℕ) (s a n : ℕ) → ((k : ℕ) → length (f k) ≡ s) → length (strip f a n) ≡ s * n
unfolding strip
strip-length f s a zero h = sym (mul-zero s)
strip-length f s a (suc n) h = rw (length-append, h a, strip-length f s (suc a) n h) (sym (next s n))

-- a strip of one value
pub strip-replicate : (s a n v : ℕ) → strip (λ k. replicate s v) a n ≡ replicate (s * n) v
unfolding strip
strip-replicate s a zero v = ap (λ (k : ℕ). replicate k v) (sym (mul-zero s))
strip-replicate s a (suc n) v =
    ap (λ (l : List ℕ). replicate s v ++ l) (strip-replicate s (suc a) n v)
    ∙ replicate-append-replicate s (s * n) v
    ∙ ap (λ (k : ℕ). replicate k v) (sym (next s n))

-- ---- pieces

module _ (g : ℕ → List ℕ → List ℕ) (s : ℕ) where
  pub pieces-add : (a m n : ℕ) (l : List ℕ) → pieces g s a (m + n) l ≡ pieces g s a m l ++ pieces g s (a + m) n (drop (s * m) l)
  unfolding pieces
  pieces-add a zero n l =
      λ i. pieces g s (sym (add-zero a) i) (plus_none n i) (ap (λ (k : ℕ). drop k l) (sym (mul-zero s)) i)
    where
      plus_none : (n : ℕ) → zero + n ≡ n
      plus_none n = omega arith
  pieces-add a (suc m) n l =
      ap (λ (k : ℕ). pieces g s a k l) (suc-add m n)
      ∙ ap (λ (r : List ℕ). g a (take s l) ++ r) (pieces-add (suc a) m n (drop s l)
      ∙ ap (λ (r : List ℕ). pieces g s (suc a) m (drop s l) ++ pieces g s (suc a + m) n r) (drop-drop (s * m) s l ∙ ap (λ (k : ℕ). drop k l) (sym (next s m)))
      ∙ ap (λ (k : ℕ). pieces g s (suc a) m (drop s l) ++ pieces g s k n (drop (s * suc m) l)) {x = suc a + m} {y = a + suc m} (omega arith))
      ∙ sym (append_assoc (g a (take s l)) (pieces g s (suc a) m (drop s l)) (pieces g s (a + suc m) n (drop (s * suc m) l)))

  -- pieces that stay
  pub pieces_kept : (a n : ℕ) (l : List ℕ) → ((k : ℕ) → a ≤ k → k < a + n → (r : List ℕ) → g k (take s r) ≡ take s r)
      → pieces g s a n l ≡ take (s * n) l
  unfolding pieces
  pieces_kept a zero l h = ap (λ (k : ℕ). take k l) (sym (mul-zero s))
  pieces_kept a (suc n) l h =
      (λ i. h a (omega arith) (omega arith) l i ++ pieces_kept (suc a) n (drop s l) (λ k low high. h k (omega arith) (omega arith)) i)
      ∙ sym (take-add s (s * n) l)
      ∙ ap (λ (k : ℕ). take k l) (sym (next s n))

  -- pieces that are replaced
  pub pieces-new : (f : ℕ → List ℕ) (a b n : ℕ) (l : List ℕ) → ((k : ℕ) → k < n → (r : List ℕ) → g (a + k) r ≡ f (b + k))
      → pieces g s a n l ≡ strip f b n
  unfolding pieces strip
  pieces-new f a b zero l h = refl
  pieces-new f a b (suc n) l h =
      λ i.
      (rw (add-zero, add-zero) at (h 0 (omega arith) (take s l))) i
      ++ pieces-new f (suc a) (suc b) n (drop s l) (λ k below r. rw (suc-add, suc-add, ← add-suc, ← add-suc) (h (suc k) (omega arith) r)) i

  -- the pieces of a strip
  pub pieces-strip : (f : ℕ → List ℕ) (a n : ℕ) (rest : List ℕ) → ((k : ℕ) → length (f k) ≡ s)
      → pieces g s a n (strip f a n ++ rest) ≡ strip (λ k. g k (f k)) a n
  unfolding pieces strip
  pieces-strip f a zero rest h = refl
  pieces-strip f a (suc n) rest h =
      ap (λ (l : List ℕ). g a (take s l) ++ pieces g s (suc a) n (drop s l)) (append_assoc (f a) (strip f (suc a) n) rest)
      ∙ (λ i. g a (take_at (f a) (strip f (suc a) n ++ rest) s (h a) i) ++ pieces g s (suc a) n (drop_at (f a) (strip f (suc a) n ++ rest) s (h a) i))
      ∙ ap (λ (l : List ℕ). g a (f a) ++ l) (pieces-strip f (suc a) n rest h)
