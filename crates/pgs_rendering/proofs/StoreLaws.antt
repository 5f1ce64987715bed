-- A bitmap stored in the scratch, from data in the stream or before it in the scratch. Assumes nothing.
use mathlib.Core.Path.{◌≡◌, refl, sym, ap, ◌∙◌}
use mathlib.Core.Bool.{Bool, true, false, ◌&&◌}
use mathlib.Core.List.{List, ◌++◌, append_assoc}
use Prim.Native.Nat.{ℕ, ◌+◌, ◌-◌, ◌≤◌, ◌<◌}
use native.Mathlib.Omega.{arith}
use borrow.Author.Tests.{le-leb}
use lib.ListN.{length, take, drop, get_or, length-append, length-drop}
use lib.Seq.{drop-drop, drop_at, take_at, take_all, take-take, take-append-le, length-take-le}
use Rattle.pgs_base.specs.Outcome.{accepted, and_then, pick}
use Rattle.pgs_bitmap_check.specs.Bitmap.{reading_of, bitmap_of}
use Rattle.pgs_bitmap_store.specs.Padding.{padded_to}
use Rattle.pgs_bitmap.proofs.BitmapArea.{bitmap-area}
use Rattle.pgs_bitmap.proofs.DecodeAnswers.{padded-whole}
use Rattle.pgs_bitmap_within.specs.Within.{part_at, put_at, room_for, shown_from, stored_within}
use Rattle.pgs_reassembly.specs.Reassembly.{part_of, record_data}
use Rattle.pgs_reassembly.specs.declared.ObjectRecord.{ObjectRecord}
use Rattle.pgs_base.proofs.Lists.{drop-take}
use Rattle.pgs_base.proofs.Outcomes.{first-accepts, second_holds}
use Rattle.pgs_reassembly.proofs.Lists.{drop-next}
use Rattle.pgs_reassembly.proofs.ViewLaws.{part-whole}
use Rattle.pgs_set.proofs.Choices.{pick_first, pick_second}
use Rattle.pgs_rendering.specs.Records.{record_area, records_area, record_reading, records_reading, records_bitmaps, Held, Storable, AllStorable}
use Rattle.pgs_rendering.proofs.PaintLaws.{lent-part}
use Rattle.pgs_rendering.proofs.RecordLaws.{no_record}

-- data in the stream is shown with any scratch
shown-stream : (s x y : List ℕ) (r : ObjectRecord) → r.copied ≡ false → record_data s x r ≡ record_data s y r
shown-stream s x y r e = of-stream x ∙ sym (of-stream y)
  where
    of-stream : (z : List ℕ) → record_data s z r ≡ part_of r.place r.len s
    of-stream z = pick_second (part_of r.place r.len z) (part_of r.place r.len s) e

-- data in the scratch is a part of it
shown-scratch : (s x : List ℕ) (r : ObjectRecord) (at : ℕ) → Held at r → r.copied ≡ true → at ≤ length x → part_at x r.place r.len ≡ record_data s x r
shown-scratch s x r at held e room =
    let within = held e in
    sym (lent-part r.place r.len x)
    ∙ part-whole r.place r.len x (omega (arith, within)) (omega (arith, within))
    ∙ sym (pick_first (part_of r.place r.len x) (part_of r.place r.len s) e)

module _ (s : List ℕ) (r : ObjectRecord) (at : ℕ) (scratch : List ℕ) (st : Storable s r at scratch) where
  pub stored_stream : r.copied ≡ false → (other : List ℕ) {bytes part part' : List ℕ} (n : ℕ) → n ≡ record_area r
      → bytes ≡ record_data s other r → part ≡ take n (drop at scratch)
      → part' ≡ padded_to (length part) (bitmap_of bytes)
      → take at scratch ++ (part' ++ drop n (drop at scratch)) ≡ take at scratch ++ (bitmap_of (record_data s scratch r) ++ drop (at + record_area r) scratch)
  stored_stream e other {bytes} {part} n area eb ep d =
      ap (λ (l : List ℕ). take at scratch ++ (l ++ drop n (drop at scratch))) (d ∙ padded-whole (bitmap_of bytes) (length part) fills ∙ ap bitmap_of is)
      ∙ ap (λ (l : List ℕ). take at scratch ++ (bitmap_of (record_data s scratch r) ++ l)) (drop-drop n at scratch ∙ ap (λ (m : ℕ). drop (at + m) scratch) area)
    where
      is : bytes ≡ record_data s scratch r
      is = eb ∙ shown-stream s other scratch r e

      ok : (reading_of bytes r.size.width r.size.height).verdict ≡ accepted
      ok = ap (λ (b : List ℕ). (reading_of b r.size.width r.size.height).verdict) is ∙ st.reads

      inside : n ≤ length (drop at scratch)
      inside = omega (arith, length-drop at scratch, area, st.room)

      fills : length (bitmap_of bytes) ≡ length part
      fills = bitmap-area bytes r.size.width r.size.height ok ∙ sym (ap length ep ∙ length-take-le n (drop at scratch) inside ∙ area)

  pub stored-scratch : r.copied ≡ true → {scratch' : List ℕ} → scratch' ≡ stored_within scratch r.place r.len at
      → scratch' ≡ take at scratch ++ (bitmap_of (record_data s scratch r) ++ drop (at + record_area r) scratch)
  stored-scratch e d =
      d
      ∙ ap (λ (b : Bool). pick b (put_at at (length (shown_from (length scratch) at pixels)) (shown_from (length scratch) at pixels) scratch) scratch) met
      ∙ ap (λ (l : List ℕ). put_at at (length l) l scratch) whole
      ∙ ap (λ (n : ℕ). put_at at n pixels scratch) area
      ∙ ap (λ (b : List ℕ). put_at at (record_area r) (bitmap_of b) scratch) is
    where
      pixels : List ℕ
      pixels = bitmap_of (part_at scratch r.place r.len)

      is : part_at scratch r.place r.len ≡ record_data s scratch r
      is = shown-scratch s scratch r at st.held e (omega (arith, st.room))

      area : length pixels ≡ record_area r
      area =
          bitmap-area (part_at scratch r.place r.len) r.size.width r.size.height
          (ap (λ (b : List ℕ). (reading_of b r.size.width r.size.height).verdict) is ∙ st.reads)

      met : room_for (length scratch) r.place r.len at ≡ true
      met = λ j. le-leb (r.place + r.len) at (st.held e) j && le-leb at (length scratch) (omega (arith, st.room)) j

      whole : shown_from (length scratch) at pixels ≡ pixels
      whole = take_all (length scratch - at) pixels (omega (arith, area, st.room))

-- data before a place is shown alike by scratches that are alike before it
shown-same : (s x y : List ℕ) (r : ObjectRecord) (at : ℕ) → Held at r → take at x ≡ take at y → at ≤ length x → at ≤ length y → record_data s x r ≡ record_data s y r
shown-same s x y r at held e hx hy = go r.copied refl
  where
    go : (b : Bool) → r.copied ≡ b → record_data s x r ≡ record_data s y r
    go false q = shown-stream s x y r q
    go true q =
        let within = held q in
        sym (shown-scratch s x r at held q hx)
        ∙ sym (drop-take r.place r.len x (omega (arith, within)))
        ∙ ap (drop r.place)
        (sym (take-take (r.place + r.len) at x within)
        ∙ ap (take (r.place + r.len)) e
        ∙ take-take (r.place + r.len) at y within)
        ∙ drop-take r.place r.len y (omega (arith, within))
        ∙ shown-scratch s y r at held q hy

-- new bytes put at a place
module _ (l new : List ℕ) (at size : ℕ) (fits : at + size ≤ length l) (long : length new ≡ size) where
  head-long : length (take at l ++ new) ≡ at + size
  head-long = length-append (take at l) new ∙ (λ j. length-take-le at l inside j + long j)
    where
      inside : at ≤ length l
      inside = omega arith

  put-split : take at l ++ (new ++ drop (at + size) l) ≡ (take at l ++ new) ++ drop (at + size) l
  put-split = sym (append_assoc (take at l) new (drop (at + size) l))

  put-take : take (at + size) (take at l ++ (new ++ drop (at + size) l)) ≡ take at l ++ new
  put-take = ap (take (at + size)) put-split ∙ take_at (take at l ++ new) (drop (at + size) l) (at + size) head-long

  put-drop : drop (at + size) (take at l ++ (new ++ drop (at + size) l)) ≡ drop (at + size) l
  put-drop = ap (drop (at + size)) put-split ∙ drop_at (take at l ++ new) (drop (at + size) l) (at + size) head-long

  put_front : (from : ℕ) → from ≤ at → take from (take at l ++ (new ++ drop (at + size) l)) ≡ take from l
  put_front from h = take-append-le from (take at l) (new ++ drop (at + size) l) (rw (length-take-le at l (omega arith)) h) ∙ take-take from at l h

-- i bitmaps are stored, and the next one goes to `at`
pub record Storing (s : List ℕ) (rs : List ObjectRecord) (from : ℕ) (start now : List ℕ) (i at : ℕ) : Type 0 where
  pub within : i ≤ length rs
  pub place : at + records_area (drop i rs) ≡ from + records_area rs
  pub past : from ≤ at
  pub same : length now ≡ length start
  pub front : take from now ≡ take from start
  pub left : take at now ++ (records_bitmaps s start (drop i rs) ++ drop (from + records_area rs) now)
      ≡ take from start ++ (records_bitmaps s start rs ++ drop (from + records_area rs) start)
  pub reads : records_reading s start (drop i rs) ≡ accepted

module _ (s : List ℕ) (rs : List ObjectRecord) (from : ℕ) (start : List ℕ) (all : AllStorable s rs from start) where
  module _ {now : List ℕ} {i at : ℕ} (c : Storing s rs from start now i at) where
    module _ (m : i < length rs) where
      its-held : Held from (get_or rs i no_record)
      its-held = all.held i no_record m

      alike : record_data s now (get_or rs i no_record) ≡ record_data s start (get_or rs i no_record)
      alike = shown-same s now start (get_or rs i no_record) from its-held c.front (omega (arith, all.room, c.same)) (omega (arith, all.room))

      split : records_area (drop i rs) ≡ record_area (get_or rs i no_record) + records_area (drop (i + 1) rs)
      split = ap records_area (drop-next rs i no_record m)

      pub stores-within : at + record_area (get_or rs i no_record) ≤ length now
      stores-within = omega (arith, split, c.place, c.same, all.room)

      ok : and_then (record_reading s start (get_or rs i no_record)) (records_reading s start (drop (i + 1) rs)) ≡ accepted
      ok = ap (records_reading s start) (sym (drop-next rs i no_record m)) ∙ c.reads

      its-reading : record_reading s now (get_or rs i no_record) ≡ accepted
      its-reading =
          ap (λ (b : List ℕ). (reading_of b (get_or rs i no_record).size.width (get_or rs i no_record).size.height).verdict) alike
          ∙ first-accepts (record_reading s start (get_or rs i no_record)) (records_reading s start (drop (i + 1) rs)) ok

      pub stores_one : Storable s (get_or rs i no_record) at now
      stores_one =
          record {
            room = stores-within;
            held = λ a. let b = its-held a in omega (arith, b, c.past);
            reads = its-reading;
          }

      pub stores-on : {now' : List ℕ}
          → now' ≡ take at now ++ (bitmap_of (record_data s now (get_or rs i no_record)) ++ drop (at + record_area (get_or rs i no_record)) now)
          → length now' ≡ length now
          → Storing s rs from start now' (i + 1) (at + record_area (get_or rs i no_record))
      stores-on {now'} e long =
          record {
            within = omega arith;
            place = omega (arith, split, c.place);
            past = omega (arith, c.past);
            same = long ∙ c.same;
            front = ap (take from) e ∙ put_front now new at area fits size from c.past ∙ c.front;
            left = (λ j. first j ++ (records_bitmaps s start (drop (i + 1) rs) ++ behind j))
                ∙ append_assoc (take at now) new
                (records_bitmaps s start (drop (i + 1) rs) ++ drop (from + records_area rs) now)
                ∙ ap (λ (l : List ℕ). take at now ++ l)
                (sym (append_assoc new (records_bitmaps s start (drop (i + 1) rs)) (drop (from + records_area rs) now)))
                ∙ (λ j. take at now
                ++ ((bitmap_of (alike j) ++ records_bitmaps s start (drop (i + 1) rs)) ++ drop (from + records_area rs) now))
                ∙ ap
                (λ (l : List ObjectRecord). take at now ++ (records_bitmaps s start l ++ drop (from + records_area rs) now))
                (sym (drop-next rs i no_record m))
                ∙ c.left;
            reads = second_holds
                (record_reading s start (get_or rs i no_record)) (records_reading s start (drop (i + 1) rs)) ok;
          }
        where
          new : List ℕ
          new = bitmap_of (record_data s now (get_or rs i no_record))

          area : ℕ
          area = record_area (get_or rs i no_record)

          fits : at + area ≤ length now
          fits = stores-within

          size : length new ≡ area
          size = bitmap-area (record_data s now (get_or rs i no_record)) (get_or rs i no_record).size.width (get_or rs i no_record).size.height its-reading

          first : take (at + area) now' ≡ take at now ++ new
          first = ap (take (at + area)) e ∙ put-take now new at area fits size

          far : at + area + records_area (drop (i + 1) rs) ≡ from + records_area rs
          far = omega (arith, split, c.place)

          behind : drop (from + records_area rs) now' ≡ drop (from + records_area rs) now
          behind =
              ap (λ (n : ℕ). drop n now') (sym far)
              ∙ sym (drop-drop (records_area (drop (i + 1) rs)) (at + area) now')
              ∙ ap (drop (records_area (drop (i + 1) rs))) (ap (drop (at + area)) e ∙ put-drop now new at area fits size)
              ∙ drop-drop (records_area (drop (i + 1) rs)) (at + area) now
              ∙ ap (λ (n : ℕ). drop n now) far
