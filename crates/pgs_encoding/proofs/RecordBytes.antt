-- Records of any kind: read and written back, written and read back. Assumes nothing.
use mathlib.Core.Path.{◌≡◌, refl, sym, ap, ◌∙◌}
use mathlib.Core.Bool.{Bool, true, false}
use mathlib.Core.List.{List, [], ◌∷◌, ◌++◌, append_assoc, append-nil}
use Prim.Native.Nat.{ℕ, zero, suc, ◌+◌, ◌≤◌}
use native.Mathlib.Omega.{arith}
use borrow.Author.Tests.{leb-true, le-leb}
use lib.Dec.{leb}
use lib.ListN.{length, take, drop, length-append, length-drop}
use lib.Seq.{take-add, drop_at}
use Rattle.pgs_base.specs.Bytes.{Bytes}
use Rattle.pgs_base.proofs.Digits.{bytes_drop}
use Rattle.pgs_base.specs.Outcome.{pick}
use Rattle.pgs_records.specs.Records.{records, records_fit, records_size}
use Rattle.pgs_records.proofs.RecordLaws.{first_fits, rest-fits}
use Rattle.pgs_encoding.specs.Layout.{Field, written, all_fit, each, record_bytes}
use Rattle.pgs_encoding.proofs.LayoutLaws.{numbers_at, paired, widths, values, total, length-written, read-fields, write-fields, fit-fields}

-- a kind of records in a body
pub record RecordKind (A : Type 0) : Type 0 where
  -- the fields of a record, how it is read, how many bytes it takes there, and whether it can be written
  pub fields : A → List Field
  pub read : List ℕ → A
  pub size : List ℕ → ℕ
  pub test : A → Bool
  -- a record that was read: its own bytes are written back, and it passes the test
  pub kept : (l : List ℕ) → Bytes l → size l ≤ length l → (written (fields (read l)) ≡ take (size l) l) × (test (read l) ≡ true)
  -- one that passes the test is read back from its own bytes
  pub again : (a : A) (r : List ℕ) → test a ≡ true → (size (written (fields a) ++ r) ≡ length (written (fields a))) × (read (written (fields a) ++ r) ≡ a)

module _ {A : Type 0} (k : RecordKind A) where
  fits : (n : ℕ) (l : List ℕ) → records_fit k.size (suc n) l ≡ true → k.size l ≤ length l
  fits n l e = leb-true (k.size l) (length l) (first_fits (leb (k.size l) (length l)) (records_fit k.size n (drop (k.size l) l)) e)

  next : (n : ℕ) (l : List ℕ) → records_fit k.size (suc n) l ≡ true → records_fit k.size n (drop (k.size l) l) ≡ true
  next n l e = rest-fits (leb (k.size l) (length l)) (records_fit k.size n (drop (k.size l) l)) e

  -- records that were read are written back
  write-records : (n : ℕ) (l : List ℕ) → Bytes l → records_fit k.size n l ≡ true
      → record_bytes k.fields (records k.read k.size n l) ≡ take (records_size k.size n l) l
  write-records zero l h e = refl
  write-records (suc n) l h e =
      let first = (k.kept l h (fits n l e)).0 in
      let rest = write-records n (drop (k.size l) l) (bytes_drop (k.size l) l h) (next n l e) in
      (λ i. first i ++ rest i) ∙ sym (take-add (k.size l) (records_size k.size n (drop (k.size l) l)) l)

  -- and pass the test
  each-record : (n : ℕ) (l : List ℕ) → Bytes l → records_fit k.size n l ≡ true → each k.test (records k.read k.size n l) ≡ true
  each-record zero l h e = refl
  each-record (suc n) l h e =
      simp (k.kept l h (fits n l e)).1 (each-record n (drop (k.size l) l) (bytes_drop (k.size l) l h) (next n l e))

  -- they lie within the list
  records-within : (n : ℕ) (l : List ℕ) → records_fit k.size n l ≡ true → records_size k.size n l ≤ length l
  records-within zero l e = omega arith
  records-within (suc n) l e =
      omega (arith, records-within n (drop (k.size l) l) (next n l e), length-drop (k.size l) l, fits n l e)

  rest_of : (a : A) (r : List ℕ) → k.test a ≡ true → drop (k.size (written (k.fields a) ++ r)) (written (k.fields a) ++ r) ≡ r
  rest_of a r e = rw (k.again a r e).0 (drop_at (written (k.fields a)) r (length (written (k.fields a))) refl)

  -- records that were written are read back
  read-records : (as' : List A) (r : List ℕ) → each k.test as' ≡ true
      → records k.read k.size (length as') (record_bytes k.fields as' ++ r) ≡ as'
  read-records [] r e = refl
  read-records (a ∷ as') r e =
      let ok = first_fits (k.test a) (each k.test as') e in
      let more = rest-fits (k.test a) (each k.test as') e in
      let t = record_bytes k.fields as' ++ r in
      rw (append_assoc (written (k.fields a)) (record_bytes k.fields as') r, (k.again a t ok).1, rest_of a t ok)
      (ap (λ (t : List A). a ∷ t) (read-records as' r more))

  written-fit : (as' : List A) (r : List ℕ) → each k.test as' ≡ true
      → records_fit k.size (length as') (record_bytes k.fields as' ++ r) ≡ true
  written-fit [] r e = refl
  written-fit (a ∷ as') r e =
      let ok = first_fits (k.test a) (each k.test as') e in
      let more = rest-fits (k.test a) (each k.test as') e in
      let t = record_bytes k.fields as' ++ r in
      let room : k.size (written (k.fields a) ++ t) ≤ length (written (k.fields a) ++ t)
      = rw ((k.again a t ok).0, length-append) (omega arith) in
      rw (append_assoc (written (k.fields a)) (record_bytes k.fields as') r)
      (simp (le-leb (k.size (written (k.fields a) ++ t)) (length (written (k.fields a) ++ t)) room, rest_of a t ok) (written-fit as' r more))

-- records whose fields have these widths always, and are made of their numbers
module _ {A : Type 0} (fields : A → List Field) (made : List ℕ → A) (ws : List ℕ) (wide : (a : A) → widths (fields a) ≡ ws)
    (back : (a : A) → made (values (fields a)) ≡ a) (laid : (l : List ℕ) → fields (made (numbers_at ws 0 l)) ≡ paired ws (numbers_at ws 0 l)) where
  abbrev pub of_widths : RecordKind A
  of_widths =
      record {
        fields = fields;
        read = λ l. made (numbers_at ws 0 l);
        size = λ l. total ws;
        test = λ a. all_fit (fields a);
        kept = λ l h q. (ap written (laid l) ∙ write-fields ws 0 l h (omega arith), ap all_fit (laid l) ∙ fit-fields ws 0 l h (omega arith));
        again = λ a r e. (
          sym (length-written (fields a) ∙ ap total (wide a)),
          ap (λ (w : List ℕ). made (numbers_at w 0 (written (fields a) ++ r))) (sym (wide a)) ∙ ap made (read-fields (fields a) [] r 0 refl e) ∙ back a,
        );
      }

-- numbers and the records behind them, as they were read: they are written back
module _ {A : Type 0} (k : RecordKind A) (ws : List ℕ) (n : ℕ) (b : List ℕ) (h : Bytes b) (long : total ws ≤ length b)
    (fit : records_fit k.size n (drop (total ws) b) ≡ true) {fs : List Field} (e : fs ≡ paired ws (numbers_at ws 0 b)) where
  -- the records, and where they end
  abbrev list : List A
  list = records k.read k.size n (drop (total ws) b)

  abbrev end : ℕ
  end = total ws + records_size k.size n (drop (total ws) b)

  pub list-written : written fs ++ record_bytes k.fields list ≡ take end b
  list-written =
      let head : written fs ≡ take (total ws) b = ap written e ∙ write-fields ws 0 b h (omega (arith, long)) in
      let rest = write-records k n (drop (total ws) b) (bytes_drop (total ws) b h) fit in
      (λ i. head i ++ rest i) ∙ sym (take-add (total ws) (records_size k.size n (drop (total ws) b)) b)

  pub list-within : end ≤ length b
  list-within = omega (arith, records-within k n (drop (total ws) b) fit, length-drop (total ws) b, long)

  pub list-writable : pick (all_fit fs) (each k.test list) false ≡ true
  list-writable =
      ap (λ (t : Bool). pick t (each k.test list) false) (ap all_fit e ∙ fit-fields ws 0 b h (omega (arith, long)))
      ∙ each-record k n (drop (total ws) b) (bytes_drop (total ws) b h) fit

-- numbers and records that can be written, as they are read again
module _ {A : Type 0} (k : RecordKind A) (fs : List Field) (as' : List A) (ok : pick (all_fit fs) (each k.test as') false ≡ true) where
  abbrev body : List ℕ
  body = written fs ++ record_bytes k.fields as'

  pub numbers-again : numbers_at (widths fs) 0 body ≡ values fs
  numbers-again = read-fields fs [] (record_bytes k.fields as') 0 refl (first_fits (all_fit fs) (each k.test as') ok)

  pub numbers-within : total (widths fs) ≤ length body
  numbers-within = rw (length-append, length-written fs) (omega arith)

  -- what stands behind the numbers
  behind : drop (total (widths fs)) body ≡ record_bytes k.fields as' ++ []
  behind = drop_at (written fs) (record_bytes k.fields as') (total (widths fs)) (length-written fs) ∙ sym (append-nil (record_bytes k.fields as'))

  module _ {n : ℕ} (many : n ≡ length as') where
    pub records-again : records k.read k.size n (drop (total (widths fs)) body) ≡ as'
    records-again =
        (λ i. records k.read k.size (many i) (behind i)) ∙ read-records k as' [] (rest-fits (all_fit fs) (each k.test as') ok)

    pub fit-again : records_fit k.size n (drop (total (widths fs)) body) ≡ true
    fit-again = (λ i. records_fit k.size (many i) (behind i)) ∙ written-fit k as' [] (rest-fits (all_fit fs) (each k.test as') ok)
