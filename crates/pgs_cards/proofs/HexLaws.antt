-- The loop that writes digits from the last one on. Assumes nothing.
use mathlib.Core.Path.{◌≡◌, refl, sym, ap, ◌∙◌}
use mathlib.Core.List.{List, [], ◌∷◌, ◌++◌, append-nil, append_assoc}
use Prim.Native.Nat.{ℕ, zero, suc, ◌-◌, ◌/◌, ◌%◌, ◌≤◌, ◌<◌}
use native.Mathlib.Omega.{arith}
use lib.ListN.{length, drop, set, length-set, length-append}
use lib.Seq.{drop-length, drop-cons, drop-set-lt, get_or-set_same}
use Rattle.pgs_cards.specs.Cards.{digit_of, hex}

pub hex-length : (w n : ℕ) → length (hex w n) ≡ w
unfolding hex
hex-length zero n = refl
hex-length (suc w) n = omega (arith, length-append (hex w (n / 16)) (digit_of (n % 16) ∷ []), hex-length w (n / 16))

-- the digits from i on are written, and `left` has those before
pub record Filling (start now : List ℕ) (n i left : ℕ) : Type 0 where
  pub within : i ≤ length now
  pub same : length now ≡ length start
  pub done : hex i left ++ drop i now ≡ hex (length start) n

pub filling : (start : List ℕ) (n : ℕ) → Filling start start n (length start) n
filling start n =
    record {
      within = omega arith;
      same = refl;
      done = ap (λ (l : List ℕ). hex (length start) n ++ l) (drop-length start) ∙ append-nil (hex (length start) n);
    }

pub fills-on : {start now : List ℕ} {n i left d : ℕ} → Filling start now n i left → 0 < i → d ≡ digit_of (left % 16)
    → Filling start (set now (i - 1) d) n (i - 1) (left / 16)
unfolding hex
fills-on {start} {now} {n} {i} {left} {d} f h e = go i f h
  where
    go : (i : ℕ) → Filling start now n i left → 0 < i → Filling start (set now (i - 1) d) n (i - 1) (left / 16)
    go zero f h = absurd (omega arith)
    go (suc k) f h =
        rw less
        (record {
          within = rw length-set (omega (arith, f.within));
          same = length-set now k d ∙ f.same;
          done =
              ap (λ (l : List ℕ). hex k (left / 16) ++ l) next
              ∙ sym (append_assoc (hex k (left / 16)) (digit_of (left % 16) ∷ []) (drop (suc k) now))
              ∙ f.done;
        })
      where
        less : suc k - 1 ≡ k
        less = omega arith

        next : drop k (set now k d) ≡ digit_of (left % 16) ∷ drop (suc k) now
        next =
            drop-cons (set now k d) k 0 (rw length-set (omega (arith, f.within)))
            ∙ (λ j. (get_or-set_same now k d 0 (omega (arith, f.within)) ∙ e) j ∷ drop-set-lt (suc k) now k d (omega arith) j)

pub filled-all : {start now : List ℕ} {n i left : ℕ} → Filling start now n i left → i ≤ 0 → now ≡ hex (length start) n
unfolding hex
filled-all {start} {now} {n} {i} {left} f h = go i f h
  where
    go : (i : ℕ) → Filling start now n i left → i ≤ 0 → now ≡ hex (length start) n
    go zero f h = f.done
    go (suc k) f h = absurd (omega arith)
