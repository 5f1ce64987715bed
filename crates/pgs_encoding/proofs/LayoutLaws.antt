-- Fields written and read back, and read and written back, over any layout; and the same for records of any kind. Assumes nothing.
use mathlib.Core.Path.{◌≡◌, refl, sym, ap, ◌∙◌}
use mathlib.Core.Bool.{true}
use mathlib.Core.List.{List, [], ◌∷◌, ◌++◌, append_assoc}
use Prim.Native.Nat.{ℕ, suc, ◌+◌, ◌*◌, ◌^◌, ◌≤◌, ◌<◌}
use native.Mathlib.Nat.{pow-succ', mul-le-mul_right}
use native.Mathlib.Omega.{arith}
use borrow.Author.Tests.{ltb-true, lt-ltb}
use lib.Dec.{ltb}
use lib.ListN.{length, take, drop, length-append, length-drop}
use lib.Seq.{take-add, drop-drop, length-take-le}
use Rattle.pgs_base.specs.Bytes.{big, num, bytes_of, Bytes}
use Rattle.pgs_base.proofs.Digits.{length-bytes, num-bytes, bytes-num, bytes_take, bytes_drop}
use Rattle.pgs_records.proofs.RecordLaws.{first_fits, rest-fits}
use Rattle.pgs_encoding.specs.Layout.{Field, written, all_fit}

-- the numbers of fields of these widths, from a place on
abbrev pub numbers_at : List ℕ → ℕ → List ℕ → List ℕ
numbers_at [] at l = []
numbers_at (w ∷ ws) at l = num w at l ∷ numbers_at ws (at + w) l

-- widths and numbers as fields
abbrev pub paired : List ℕ → List ℕ → List Field
paired [] ns = []
paired (w ∷ ws) [] = []
paired (w ∷ ws) (n ∷ ns) = (w, n) ∷ paired ws ns

abbrev pub widths : List Field → List ℕ
widths [] = []
widths (f ∷ fs) = f.0 ∷ widths fs

abbrev pub values : List Field → List ℕ
values [] = []
values (f ∷ fs) = f.1 ∷ values fs

-- how many bytes they take
abbrev pub total : List ℕ → ℕ
total [] = 0
total (w ∷ ws) = w + total ws

pub length-written : (fs : List Field) → length (written fs) ≡ total (widths fs)
length-written [] = refl
length-written (f ∷ fs) = rw (length-append, length-bytes f.0 f.1, length-written fs)

-- what is written is read back
pub read-fields : (fs : List Field) (p r : List ℕ) (at : ℕ) → length p ≡ at → all_fit fs ≡ true
    → numbers_at (widths fs) at (p ++ (written fs ++ r)) ≡ values fs
read-fields [] p r at e h = refl
read-fields (f ∷ fs) p r at e h =
    let b = bytes_of f.0 f.1 in
    let ok : f.1 < 256 ^ f.0 = ltb-true _ _ (first_fits (ltb f.1 (256 ^ f.0)) (all_fit fs) h) in
    let more : all_fit fs ≡ true = rest-fits (ltb f.1 (256 ^ f.0)) (all_fit fs) h in
    let first : num f.0 at (p ++ ((b ++ written fs) ++ r)) ≡ f.1
    = ap (λ (t : List ℕ). num f.0 at (p ++ t)) (append_assoc b (written fs) r) ∙ num-bytes f.0 f.1 p (written fs ++ r) e ok in
    let shape : p ++ ((b ++ written fs) ++ r) ≡ (p ++ b) ++ (written fs ++ r)
    = ap (λ (t : List ℕ). p ++ t) (append_assoc b (written fs) r) ∙ sym (append_assoc p b (written fs ++ r)) in
    let long : length (p ++ b) ≡ at + f.0 = rw (length-append, length-bytes f.0 f.1, e) in
    let rest : numbers_at (widths fs) (at + f.0) (p ++ ((b ++ written fs) ++ r)) ≡ values fs
    = ap (numbers_at (widths fs) (at + f.0)) shape ∙ read-fields fs (p ++ b) r (at + f.0) long more in
    λ k. first k ∷ rest k

-- what is read is written back
pub write-fields : (ws : List ℕ) (at : ℕ) (l : List ℕ) → Bytes l → at + total ws ≤ length l
    → written (paired ws (numbers_at ws at l)) ≡ take (total ws) (drop at l)
write-fields [] at l h q = refl
write-fields (w ∷ ws) at l h q =
    rw (bytes-num w at l h (omega arith), write-fields ws (at + w) l h (omega arith), take-add, drop-drop)

-- a number in w bytes is below 256 ^ w
big-bound : (l : List ℕ) → Bytes l → big l < 256 ^ length l
big-bound [] h = omega arith
big-bound (b ∷ l) h =
    let small : b < 256 = h 0 in
    let rest : big l < 256 ^ length l = big-bound l (λ (i : ℕ). h (suc i)) in
    rw (pow-succ' 256 (length l)) (bounded b (256 ^ length l) (big l) small rest)
  where
    bounded : (x p y : ℕ) → x < 256 → y < p → x * p + y < 256 * p
    bounded x p y hx hy = omega (arith, mul-le-mul_right p (le_pred hx))
      where
        le_pred : x < 256 → x ≤ 255
        le_pred k = omega arith

pub num-bound : (w at : ℕ) (l : List ℕ) → Bytes l → at + w ≤ length l → num w at l < 256 ^ w
unfolding num
num-bound w at l h q =
    let e : length (take w (drop at l)) ≡ w = length-take-le w (drop at l) (rw length-drop (omega arith)) in
    rw e at (big-bound (take w (drop at l)) (bytes_take w (drop at l) (bytes_drop at l h)))

-- what is read fits
pub fit-fields : (ws : List ℕ) (at : ℕ) (l : List ℕ) → Bytes l → at + total ws ≤ length l → all_fit (paired ws (numbers_at ws at l)) ≡ true
fit-fields [] at l h q = refl
fit-fields (w ∷ ws) at l h q =
    simp (lt-ltb (num w at l) (256 ^ w) (num-bound w at l h (omega arith))) (fit-fields ws (at + w) l h (omega arith))

-- fields before others
pub written-append : (fs gs : List Field) → written (fs ++ gs) ≡ written fs ++ written gs
written-append [] gs = refl
written-append (f ∷ fs) gs = rw (written-append fs gs, append_assoc)

pub fit_append : (fs gs : List Field) → all_fit fs ≡ true → all_fit gs ≡ true → all_fit (fs ++ gs) ≡ true
fit_append [] gs e q = q
fit_append (f ∷ fs) gs e q =
    let t = ltb f.1 (256 ^ f.0) in
    simp (first_fits t (all_fit fs) e) (fit_append fs gs (rest-fits t (all_fit fs) e) q)
