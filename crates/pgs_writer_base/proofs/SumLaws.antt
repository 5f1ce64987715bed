-- The size of rows, summed up while the sums fit their field. Assumes nothing.
use Rattle.std.specs.Prelude.{Option, None, Some}
use Rattle.std.specs.Option.{MatchOption, ok_or}
use Rattle.std.specs.Iterator.{Yields, YieldsThen}
use Rattle.std.specs.List.{FoldsTo}
use Rattle.std.specs.Slice.Iter.{iter_steps}
use Rattle.std.proofs.Common.{Iter}
use denote.Ref.{Bor}
use mathlib.Core.Path.{◌≡◌, refl, ap, ◌∙◌}
use mathlib.Core.List.{List, [], ◌∷◌}
use Prim.Native.Nat.{ℕ, ◌+◌, ◌<◌}
use native.Mathlib.Omega.{arith}
use borrow.Author.Tests.{le-leb, lt-leb}
use lib.ListN.{length, length-append}
use Rattle.pgs_base.specs.Outcome.{outcome, outcome_of, unless}
use Rattle.pgs_base.specs.declared.refusal.Refusal.TheVariants.{NotEncodable}
use Rattle.pgs_encoding.specs.Layout.{Field, written, record_bytes}
use Rattle.pgs_writer_base.specs.Bodies.{is_body_size}

module _ {A : Type 0} (fields : A → List Field) where
  -- how many bytes a row takes, and those that are left
  abbrev pub size : Bor A → ℕ
  size x = length (written (fields x.now))

  abbrev pub total : Iter A → ℕ
  total s = length (record_bytes fields s.rest.now)

  -- the next row
  one-less : (s t : Iter A) (x : Bor A) → s.rest.now ≡ x.now ∷ t.rest.now → total s ≡ size x + total t
  one-less s t x e = ap (λ (l : List A). length (record_bytes fields l)) e ∙ length-append (written (fields x.now)) (record_bytes fields t.rest.now)

  -- a sum, if it fits
  abbrev pub Sum : ℕ → Bor A → Option ℕ → Type 0
  Sum n x v = MatchOption v (65535 < n + size x) (λ m. (m ≡ n + size x) × (m < 65536))

  module _ {F : Type 0} (called : F → ℕ → Bor A → Option ℕ → F → Type 0)
      (sums : (f : F) (n : ℕ) (x : Bor A) (v : Option ℕ) (h : F) → called f n x v h → Sum n x v) where
    abbrev Turn : F × ℕ → Bor A → F × ℕ → Type 0
    Turn p x q = (v : Option ℕ) × called p.0 p.1 x v q.0 × (v ≡ Some q.1)

    -- with the rows that are left, each sum comes to the whole
    summed : (xs : List (Bor A)) (s t : Iter A) (p q : F × ℕ) → Yields iter_steps s xs t → FoldsTo Turn p xs q → p.1 < 65536
        → (p.1 + total s ≡ q.1 + total t) × (q.1 < 65536)
    summed [] s t p q y f h = (λ i. (f i).1 + total (y i), omega (arith, h, ap (λ (k : F × ℕ). k.1) f))
    summed (x ∷ xs) s t p q y f h =
        let made : Sum p.1 x f.1.0 = sums p.0 p.1 x f.1.0 f.0.0 f.1.1 in
        let next = rw f.1.2 at made in
        let rest = summed xs y.0 t f.0 q y.2 f.2 next.1 in
        (omega (arith, rest.0, next.0, one-less s y.0 x y.1), rest.1)

    -- the last sum is the whole, or the next one does not fit
    ends : (E : Type 0) {n a : ℕ} (t u : Iter A) (j : F) (r : Option ℕ) (o : Option (Bor A)) → n ≡ a + total t → a < 65536 → iter_steps t o u
        → MatchOption o (r ≡ Some a) (λ x. (v : Option ℕ) × (h : F) × (e : E) × called j a x v h × (v ≡ None) × (r ≡ None))
        → outcome (ok_or r NotEncodable) ≡ outcome_of (unless 35 (is_body_size n)) n
    ends E {n} {a} t u j r None w h y m =
        let all : n ≡ a = omega (arith, w, none t.rest.now y.0) in
        rw (m, all) (simp (le-leb a 65535 (omega arith)))
      where
        none : (l : List A) → length l ≡ 0 → length (record_bytes fields l) ≡ 0
        none [] e = refl
        none (x ∷ l) e = absurd (omega arith)
    ends E {n} {a} t u j r (Some x) w h y m =
        let made : Sum a x m.0 = sums j a x m.0 m.1 m.3 in
        let over : 65535 < a + size x = rw m.4 at made in
        rw m.5 (simp (lt-leb n 65535 (omega (arith, w, over, one-less t u x y))))

    -- what comes of it
    pub size-outcome : {E : Type 0} {first n : ℕ} {f : F} {s u : Iter A} {r : Option ℕ} → first < 65536 → n ≡ first + total s
        → (xs : List (Bor A)) × (o : Option (Bor A)) × (j : F) × (a : ℕ) × YieldsThen iter_steps s xs o u
        × FoldsTo Turn (f, first) xs (j, a)
        × MatchOption o (r ≡ Some a) (λ x. (v : Option ℕ) × (h : F) × (e : E) × called j a x v h × (v ≡ None) × (r ≡ None))
        → outcome (ok_or r NotEncodable) ≡ outcome_of (unless 35 (is_body_size n)) n
    size-outcome {E} {first} {f = f} {s = s} {u = u} {r = r} h w ran =
        let sum = summed ran.0 s ran.4.0 (f, first) (ran.2, ran.3) ran.4.1 ran.5 h in
        ends E ran.4.0 u ran.2 r ran.1 (w ∙ sum.0) sum.1 ran.4.2 ran.6
