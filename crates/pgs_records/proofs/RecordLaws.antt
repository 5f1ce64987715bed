-- Laws of records in a body, and the loop that stores them in a caller's list: one set for windows, entries and placements.
-- Assumes nothing.
use mathlib.Core.Path.{◌≡◌, refl, sym, ap, ◌∙◌}
use mathlib.Core.Bool.{Bool, true, false}
use mathlib.Core.List.{List, ◌∷◌, map}
use Prim.Native.Nat.{ℕ, zero, suc, ◌+◌, ◌-◌, ◌*◌, ◌≤◌, ◌<◌}
use native.Mathlib.Omega.{arith}
use borrow.Author.Tests.{leb-true, leb-false, le-leb, lt-leb}
use lib.Dec.{leb}
use lib.ListN.{length, take, drop, set, get_or, length-drop, length-map}
use lib.Seq.{drop-drop}
use Rattle.pgs_base.specs.Bytes.{num}
use Rattle.pgs_base.specs.Outcome.{Verdict, Delivered, pick, gives, refuses, outcome_of, unless}
use Rattle.pgs_base.proofs.Decisions.{leb-same}
use Rattle.pgs_base.proofs.Outcomes.{delivered, delivered-refusal, gives_as, refuses-as}
use Rattle.pgs_base.proofs.Lists.{to_end}
use Rattle.pgs_base.proofs.Bytes.{num-byte}
use Rattle.pgs_base.proofs.Front.{Front, stored, filled-whole}
use Rattle.pgs_records.specs.Records.{records, records_fit, records_size}

pub records-length : {A : Type 0} (f : List ℕ → A) (size : List ℕ → ℕ) (n : ℕ) (l : List ℕ) → length (records f size n l) ≡ n
records-length f size zero l = refl
records-length f size (suc n) l = ap suc (records-length f size n (drop (size l) l))

-- a function of each record
pub map-records : {A B : Type 0} (g : A → B) (f : List ℕ → A) (size : List ℕ → ℕ) (n : ℕ) (l : List ℕ)
    → map g (records f size n l) ≡ records (λ (t : List ℕ). g (f t)) size n l
map-records g f size zero l = refl
map-records g f size (suc n) l = ap (λ (t : List _). g (f l) ∷ t) (map-records g f size n (drop (size l) l))

-- as many rows as records
pub rows-length : {A B : Type 0} (g : A → B) (f : List ℕ → A) (size : List ℕ → ℕ) (n : ℕ) (l : List ℕ) → length (map g (records f size n l)) ≡ n
rows-length g f size n l = length-map (records f size n l) g ∙ records-length f size n l

pub first_fits : (b r : Bool) → pick b r false ≡ true → b ≡ true
first_fits true r e = refl
first_fits false r e = e

pub rest-fits : (b r : Bool) → pick b r false ≡ true → r ≡ true
rest-fits true r e = e
rest-fits false r e = absurd-bool e
  where
    absurd-bool : false ≡ true → r ≡ true
    absurd-bool q = cc

-- records of a fixed size k
pub fit-fixed : (k n : ℕ) (l : List ℕ) → records_fit (λ (t : List ℕ). k) n l ≡ leb (k * n) (length l)
fit-fixed k zero l = sym (le-leb (k * zero) (length l) (omega arith))
fit-fixed k (suc n) l = go (leb k (length l)) refl (fit-fixed k n (drop k l))
  where
    go : (b : Bool) → leb k (length l) ≡ b → records_fit (λ (t : List ℕ). k) n (drop k l) ≡ leb (k * n) (length (drop k l))
        → records_fit (λ (t : List ℕ). k) (suc n) l ≡ leb (k * suc n) (length l)
    go true e ih =
        rw (e, ih, length-drop k l)
        (leb-same (k * n) (length l - k) (k * suc n) (length l) (λ p. omega (arith, leb-true k (length l) e)) (λ p. omega (arith, leb-true k (length l) e)))
    go false e ih = rw e (sym (lt-leb (k * suc n) (length l) (omega (arith, leb-false k (length l) e))))

pub size-fixed : (k n : ℕ) (l : List ℕ) → records_size (λ (t : List ℕ). k) n l ≡ k * n
size-fixed k zero l = omega arith
size-fixed k (suc n) l = omega (arith, size-fixed k n (drop k l))

-- one record more than those behind it
one_more : {n i : ℕ} → i < n → n - i ≡ suc (n - (i + 1))
one_more h = omega arith

-- of n records in l, i were tested and the others stand in `rest`
pub record Walking (size : List ℕ → ℕ) (l : List ℕ) (n i : ℕ) (rest : List ℕ) : Type 0 where
  pub within : length rest ≤ length l
  pub fit : records_fit size (n - i) rest ≡ records_fit size n l
  pub reach : length l - length rest + records_size size (n - i) rest ≡ records_size size n l

module _ (size : List ℕ → ℕ) (l : List ℕ) (n : ℕ) where
  module _ {i : ℕ} {rest : List ℕ} (s : Walking size l n i rest) where
    passed_one : i < n → size rest ≤ length rest → Walking size l n (i + 1) (drop (size rest) rest)
    passed_one h q =
        record {
          within = omega (arith, s.within, length-drop (size rest) rest);
          fit = sym passed ∙ s.fit;
          reach = omega (arith, reached, s.within, length-drop (size rest) rest);
        }
      where
        reached : length l - length rest + (size rest + records_size size (n - (i + 1)) (drop (size rest) rest)) ≡ records_size size n l
        reached = ap (λ (k : ℕ). length l - length rest + records_size size k rest) (sym (one_more h)) ∙ s.reach

        passed : records_fit size (n - i) rest ≡ records_fit size (n - (i + 1)) (drop (size rest) rest)
        passed = ap (λ (k : ℕ). records_fit size k rest) (one_more h) ∙ simp (le-leb (size rest) (length rest) q)

    -- the next record is whole: its k bytes are passed
    pub walk-on : {k : ℕ} {next : List ℕ} → i < n → k ≡ size rest → k ≤ length rest → next ≡ take (length rest - k) (drop k rest)
        → Walking size l n (i + 1) next
    walk-on {k} h e q w = rw (w, to_end k rest, e) (passed_one h (rw (← e) q))

-- i of n records are stored, and the others stand in `rest`
pub record Filling {A : Type 0} (f : List ℕ → A) (size : List ℕ → ℕ) (n : ℕ) (whole start now : List A) (i : ℕ) (rest : List ℕ) : Type 0 where
  pub fit : records_fit size (n - i) rest ≡ true
  pub front : Front start whole now (records f size (n - i) rest) i

module _ {A : Type 0} (f : List ℕ → A) (size : List ℕ → ℕ) (n : ℕ) where
  module _ {whole start now : List A} {i : ℕ} {rest : List ℕ} (s : Filling f size n whole start now i rest) (more : i < n) where
    fits : pick (leb (size rest) (length rest)) (records_fit size (n - (i + 1)) (drop (size rest) rest)) false ≡ true
    fits = rw (one_more more) at s.fit

    -- the next record is whole
    pub next_fits : size rest ≤ length rest
    next_fits = leb-true _ _ (first_fits (leb (size rest) (length rest)) _ fits)

    next : Front start whole now (f rest ∷ records f size (n - (i + 1)) (drop (size rest) rest)) i
    next = rw (one_more more) at s.front

    -- it is stored, and k bytes are passed
    pub turn : {a : A} {k : ℕ} → a ≡ f rest → k ≡ size rest → n ≤ length start
        → Filling f size n whole start (set now i a) (i + 1) (take (length rest - k) (drop k rest))
    turn {a} {k} e q room =
        rw (to_end k rest, q)
        (record {
          fit = rest-fits (leb (size rest) (length rest)) _ fits;
          front = stored {now = now} a (rw e next) (omega (arith, s.front.same));
        })

-- all are stored, each as a row
pub stored-rows : {A B : Type 0} (g : A → B) (f : List ℕ → A) (size : List ℕ → ℕ) (l : List ℕ) {start now : List B} {rest : List ℕ}
    → Filling (λ (t : List ℕ). g (f t)) size (length start) (records (λ (t : List ℕ). g (f t)) size (length start) l) start now (length start) rest
    → now ≡ map g (records f size (length start) l)
stored-rows g f size l {start} s =
    let r = λ (t : List ℕ). g (f t) in
    filled-whole s.front (omega (arith, s.front.same)) (records-length r size (length start) l) ∙ sym (map-records g f size (length start) l)

-- the byte at `at` of a body, and what stands behind it, by the part that begins there
module _ (at : ℕ) (b : List ℕ) {part : List ℕ} (e : part ≡ take (length b - at) (drop at b)) where
  pub counted-rest : take (length part - 1) (drop 1 part) ≡ drop (at + 1) b
  counted-rest = to_end 1 part ∙ ap (drop 1) (e ∙ to_end at b) ∙ drop-drop 1 at b

  pub counted-number : 1 ≤ length part → get_or part 0 0 ≡ num 1 at b
  unfolding num
  counted-number h = num-byte 0 part (omega arith) ∙ ap (num 1 0) (e ∙ to_end at b)

-- records of a fixed size k: whether they fit, and the bytes that they take
module _ (k n : ℕ) (l : List ℕ) where
  pub fixed-fit : {len : ℕ} → len ≡ k * n → len ≤ length l
      → gives len ≡ outcome_of (unless 4 (records_fit (λ (t : List ℕ). k) n l)) (records_size (λ (t : List ℕ). k) n l)
  fixed-fit e h = gives_as (simp (fit-fixed k n l, le-leb (k * n) (length l) (rw (← e) h))) (e ∙ sym (size-fixed k n l))

  pub fixed-cut : length l < k * n → refuses 4 ≡ outcome_of (unless 4 (records_fit (λ (t : List ℕ). k) n l)) (records_size (λ (t : List ℕ). k) n l)
  fixed-cut h = refuses-as _ (simp (fit-fixed k n l, lt-leb (k * n) (length l) h))

-- a call that fills a list, with another value beside it
module _ {A X Y : Type 0} {v : Verdict} {x : X} (y : Y) {new before now : List A} where
  pub delivered-as : {a : X} {b : Y} → b ≡ y → Delivered v x new before now (gives a) → Delivered v y new before now (gives b)
  delivered-as e d = record { answered = gives_as (delivered d) e; written = d.written }

  pub refused-as : {k : ℕ} → Delivered v x new before now (refuses k) → Delivered v y new before now (refuses k)
  refused-as d = record { answered = refuses-as y (delivered-refusal d); written = d.written }
