-- A list or a buffer that a loop fills from the front: after k cells `now` begins with what is stored, `rest` is still to come,
-- and past k it is as it was at the start. One record for every list and buffer of the project.
-- Assumes nothing.
use mathlib.Core.Path.{◌≡◌, refl, sym, ap, ◌∙◌}
use mathlib.Core.List.{List, [], ◌∷◌, ◌++◌, append_assoc, append-nil}
use Prim.Native.Nat.{ℕ, suc, ◌+◌, ◌≤◌, ◌<◌}
use native.Mathlib.Numerals.{add-one}
use native.Mathlib.Omega.{arith}
use lib.ListN.{length, take, drop, set, length-set, length-append, length-drop, take-append-drop}
use lib.Seq.{take-suc-set, take_all, drop-set-lt, take_at, drop_at, drop-drop, length-take-le}

pub record Front {A : Type 0} (start whole now rest : List A) (k : ℕ) : Type 0 where
  pub within : k ≤ length now
  pub same : length now ≡ length start
  pub done : take k now ++ rest ≡ whole
  pub kept : drop k now ≡ drop k start

-- nothing is stored yet
pub begins : {A : Type 0} (start whole : List A) → Front start whole start whole 0
begins start whole = record { within = omega arith; same = refl; done = refl; kept = refl }

module _ {A : Type 0} {start whole now : List A} {k : ℕ} where
  -- the next cell is stored
  pub stored : (a : A) {rest : List A} → Front start whole now (a ∷ rest) k → k < length now → Front start whole (set now k a) rest (k + 1)
  stored a {rest} f h =
      record {
        within = rw (length-set, add-one) h;
        same = length-set now k a ∙ f.same;
        done = rw (add-one, take-suc-set now k a h, append_assoc) f.done;
        kept = rw (add-one, drop-set-lt (suc k) now k a (omega arith), ← drop-one now k, f.kept, drop-one start k);
      }
    where
      drop-one : (l : List A) (i : ℕ) → drop 1 (drop i l) ≡ drop (suc i) l
      drop-one l i = drop-drop 1 i l ∙ ap (λ (n : ℕ). drop n l) (add-one i)

  -- a part that starts at the next cell came back as ys, and what was behind them
  pub parted : (ys : List A) {rest : List A} → Front start whole now (ys ++ rest) k → k + length ys ≤ length now
      → Front start whole (take k now ++ (ys ++ drop (length ys) (drop k now))) rest (k + length ys)
  parted ys {rest} f h =
      record {
        within = simp (length-append, head, length-drop) (omega arith);
        same = simp (length-append, head, length-drop) (omega (arith, f.same));
        done = rw (← append_assoc, take_at (take k now ++ ys) (drop (length ys) (drop k now)) (k + length ys) front, append_assoc) f.done;
        kept =
            rw (← append_assoc, drop_at (take k now ++ ys) (drop (length ys) (drop k now)) (k + length ys) front, f.kept)
            (drop-drop (length ys) k start);
      }
    where
      head : length (take k now) ≡ k
      head = length-take-le k now (omega arith)

      front : length (take k now ++ ys) ≡ k + length ys
      front = rw (length-append, head)

  -- all is stored
  pub filled : Front start whole now [] k → now ≡ whole ++ drop (length whole) start
  filled f =
      let p : take k now ≡ whole = rw append-nil at f.done in
      let n : length whole ≡ k = rw (← p) (length-take-le k now f.within) in
      rw (n, ← f.kept, ← p) (sym (take-append-drop k now))

-- a buffer as long as the whole that was gone through is the whole
pub filled-whole : {A : Type 0} {start whole now rest : List A} {k : ℕ} → Front start whole now rest k → length now ≤ k
    → length whole ≡ length start → now ≡ whole
filled-whole {now = now} {rest = rest} {k = k} f h e =
    let done : now ++ rest ≡ _ = rw (take_all k now h) at f.done in
    rw (none rest (omega (arith, ap length done, length-append now rest, f.same)), append-nil) at done
  where
    none : {A : Type 0} (l : List A) → length l ≡ 0 → l ≡ []
    none [] e = refl
    none (x ∷ l) e = absurd (omega arith)
