-- The customer's third demand, proved: `same-fields-same-cut`, `writes-of-a-stream`, `whole-stream`, `begins-there`. Assumes nothing.
use mathlib.Core.Path.{◌≡◌, refl, sym, ap, ◌∙◌, subst}
use mathlib.Core.Bool.{Bool, true, false}
use mathlib.Core.List.{List, [], ◌∷◌, ◌++◌, map, append_assoc}
use Prim.Native.Nat.{ℕ, zero, suc, ◌+◌, ◌-◌, ◌≤◌, ◌<◌}
use native.Mathlib.Nat.{zero-add}
use native.Mathlib.Omega.{arith}
use borrow.Author.Tests.{leb-true, leb-false, le-leb, lt-leb}
use lib.Dec.{leb}
use lib.ListN.{length, take, drop, get_or, replicate, length-append, length-drop, length-map, take-append-drop}
use lib.Seq.{take_at, drop_at, take_all, take-take, length-take-le, drop-drop}
use Rattle.pgs_base.specs.Bytes.{Bytes}
use Rattle.pgs_base.specs.Outcome.{Verdict, accepted, refused, unless, needing, laid}
use Rattle.pgs_segment.specs.Fields.{SegmentFields}
use Rattle.pgs_segment.specs.OneSegment.{used_by, fields_of}
use Rattle.pgs_stream.specs.Stream.{Reading, read_of, stream_fields, joined}
use Rattle.pgs_stream.proofs.ReadingLaws.{Each, Whole, own-fields, pieces_whole, pieces-bytes}
use Rattle.pgs_records.proofs.RecordLaws.{first_fits, rest-fits}
use Rattle.pgs_stream.proofs.StreamLaws.{read-on, read-stops, step-accepted}
use Rattle.pgs_encoding.specs.Cut.{cut_segment, cut_stream}
use Rattle.pgs_encoding.specs.Demand3.{Accepted, SameFieldsSameCut, accepted_of, begin, WritesOf, WritesOfAStream, WholeStream, BeginsThere}
use Rattle.pgs_encoding.specs.Encode.{encode}
use Rattle.pgs_encoding.specs.Layout.{each}
use Rattle.pgs_encoding.specs.Writable.{writable}
use Rattle.pgs_encoding.specs.Writes.{write_into, moved_by, Written, after, run}
use Rattle.pgs_encoding.proofs.SegmentBytes.{encode-read, read-writable, encode-used, encode-accepted, encode-fields}

-- whole segments, read and encoded again
cuts_are : (xs : List (List ℕ)) → Each Whole xs → Each Bytes xs → map cut_segment xs ≡ map encode (map fields_of xs)
cuts_are [] w h = refl
cuts_are (x ∷ xs) w h = let c = sym (encode-read x h.0 w.0) in let t = cuts_are xs w.1 h.1 in λ i. c i ∷ t i

all-writable : (xs : List (List ℕ)) → Each Whole xs → Each Bytes xs → each writable (map fields_of xs) ≡ true
all-writable [] w h = refl
all-writable (x ∷ xs) w h = simp (read-writable x h.0 w.0) (all-writable xs w.1 h.1)

-- segments that were encoded, end to end, are read back
read-encoded : (fs : List SegmentFields) → each writable fs ≡ true → stream_fields (joined (map encode fs)) ≡ fs
read-encoded [] e = ap (λ (r : Reading). map fields_of r.pieces) (read-stops [] refl)
read-encoded (f ∷ fs) e =
    let ok = first_fits (writable f) (each writable fs) e in
    let r = joined (map encode fs) in
    let l = encode f ++ r in
    let a = encode-accepted f ok r in
    let rest : drop (used_by l) l ≡ r = ap (λ (k : ℕ). drop k l) (encode-used f ok r) ∙ drop_at (encode f) r (length (encode f)) refl in
    let head : fields_of (take (used_by l) l) ≡ f = own-fields l a ∙ encode-fields f ok r in
    ap (λ (x : Reading). map fields_of x.pieces) (read-on l (step-accepted l a))
    ∙ ((λ i. head i ∷ stream_fields (rest i)) ∙ ap (λ (t : List SegmentFields). f ∷ t) (read-encoded fs (rest-fits (writable f) (each writable fs) e)))

module _ (s : List ℕ) (a : Accepted s) where
  stream-writable : each writable (stream_fields s) ≡ true
  stream-writable = all-writable (read_of s).pieces (pieces_whole s) (pieces-bytes s a.bytes)

  stream-cuts : map cut_segment (read_of s).pieces ≡ map encode (stream_fields s)
  stream-cuts = cuts_are (read_of s).pieces (pieces_whole s) (pieces-bytes s a.bytes)

  -- the cut stream is the encoding of the fields
  cut-is : cut_stream s ≡ joined (map encode (stream_fields s))
  cut-is = ap joined stream-cuts

pub same-fields-same-cut : SameFieldsSameCut
same-fields-same-cut s t a b = (
  (λ e. cut-is s a ∙ (ap (λ (fs : List SegmentFields). joined (map encode fs)) e ∙ sym (cut-is t b))),
  (λ e.
      sym (read-encoded (stream_fields s) (stream-writable s a))
      ∙ (ap stream_fields (sym (cut-is s a) ∙ (e ∙ cut-is t b)) ∙ read-encoded (stream_fields t) (stream-writable t b))),
)

-- the writes of byte lists, refused by 34 alone
abbrev put : List ℕ → List ℕ → Verdict
put c o = needing (length c) (length o)

abbrev puts : List (List ℕ) → ℕ → List ℕ → Written
puts [] a o = record { answers = []; position = a; output = o }
puts (c ∷ cs) a o =
    after (put c (drop a o)) (puts cs (a + moved_by (put c (drop a o)) (length c)) (take a o ++ laid (put c (drop a o)) c (drop a o)))

-- fields that can be written are never 35
run_is : (fs : List SegmentFields) (a : ℕ) (o : List ℕ) → each writable fs ≡ true → run fs a o ≡ puts (map encode fs) a o
run_is [] a o e = refl
run_is (f ∷ fs) a o e =
    let ok = first_fits (writable f) (each writable fs) e in
    let v : write_into f (drop a o) ≡ put (encode f) (drop a o) = simp ok in
    (λ i. after (v i) (run fs (a + moved_by (v i) (length (encode f))) (take a o ++ laid (v i) (encode f) (drop a o))))
    ∙ ap (after (put (encode f) (drop a o)))
    (run_is fs (a + moved_by (put (encode f) (drop a o)) (length (encode f))) (take a o ++ laid (put (encode f) (drop a o)) (encode f) (drop a o)) (rest-fits (writable f) (each writable fs) e))

-- the bytes that were written
abbrev done : Written → List (List ℕ) → List ℕ
done w cs = joined (accepted_of w.answers cs)

-- what writes from position a on come to
record From (cs : List (List ℕ)) (a : ℕ) (o : List ℕ) (w : Written) : Type 0 where
  answered : length w.answers ≡ length cs
  turn : (i : ℕ) → i < length cs
      → (a + begin w.answers cs i ≤ length o)
      × (get_or w.answers i accepted ≡ unless 34 (leb (length (get_or cs i [])) (length o - (a + begin w.answers cs i))))
  output : w.output ≡ take a o ++ (done w cs ++ drop (length (done w cs)) (drop a o))
  position : w.position ≡ a + length (done w cs)
  whole : a + length (joined cs) ≤ length o → w.answers ≡ replicate (length cs) accepted

-- after an accepted write of c at a
module _ (c : List ℕ) (a : ℕ) (o : List ℕ) (fits : a + length c ≤ length o) where
  front : length (take a o ++ c) ≡ a + length c
  front = rw (length-append, length-take-le a o (omega arith))

  shape : take a o ++ (c ++ drop (length c) (drop a o)) ≡ (take a o ++ c) ++ drop (length c) (drop a o)
  shape = sym (append_assoc (take a o) c (drop (length c) (drop a o)))

  stored-take : take (a + length c) (take a o ++ (c ++ drop (length c) (drop a o))) ≡ take a o ++ c
  stored-take = ap (take (a + length c)) shape ∙ take_at (take a o ++ c) (drop (length c) (drop a o)) (a + length c) front

  stored-drop : drop (a + length c) (take a o ++ (c ++ drop (length c) (drop a o))) ≡ drop (length c) (drop a o)
  stored-drop = ap (drop (a + length c)) shape ∙ drop_at (take a o ++ c) (drop (length c) (drop a o)) (a + length c) front

  stored-length : length (take a o ++ (c ++ drop (length c) (drop a o))) ≡ length o
  stored-length =
      rw (length-append, length-append, length-take-le a o (omega arith), length-drop, length-drop) (omega arith)

-- one more write, accepted
more-accepted : (c : List ℕ) (cs : List (List ℕ)) (a : ℕ) (o : List ℕ) (w : Written) → a + length c ≤ length o
    → From cs (a + length c) (take a o ++ (c ++ drop (length c) (drop a o))) w → From (c ∷ cs) a o (after accepted w)
more-accepted c cs a o w fits f =
    let n = stored-length c a o fits in
    record {
      answered = ap suc f.answered;
      turn = turns;
      output =
          f.output
          ∙ ((let p = stored-take c a o fits in let q = stored-drop c a o fits in λ i. p i ++ (done w cs ++ drop (length (done w cs)) (q i)))
          ∙ regroup);
      position = f.position ∙ rw length-append (omega arith);
      whole = λ h. ap (λ (t : List Verdict). accepted ∷ t) (f.whole (rw n (omega (arith, length-append c (joined cs)))));
    }
  where
    regroup : (take a o ++ c) ++ (done w cs ++ drop (length (done w cs)) (drop (length c) (drop a o)))
        ≡ take a o ++ ((c ++ done w cs) ++ drop (length (c ++ done w cs)) (drop a o))
    regroup =
        let d = drop-drop (length (done w cs)) (length c) (drop a o) in
        let l = sym (length-append c (done w cs)) in
        append_assoc (take a o) c _
        ∙ ap (λ (t : List ℕ). take a o ++ t)
        (sym (append_assoc c (done w cs) _) ∙ ap (λ (t : List ℕ). (c ++ done w cs) ++ t) (d ∙ ap (λ (k : ℕ). drop k (drop a o)) l))

    turns : (i : ℕ) → i < suc (length cs)
        → (a + begin (accepted ∷ w.answers) (c ∷ cs) i ≤ length o)
        × (get_or (accepted ∷ w.answers) i accepted ≡ unless 34 (leb (length (get_or (c ∷ cs) i [])) (length o - (a + begin (accepted ∷ w.answers) (c ∷ cs) i))))
    turns zero h = (omega arith, sym (ap (unless 34) (le-leb (length c) (length o - (a + 0)) (omega arith))))
    turns (suc j) h =
        let t = f.turn j (omega arith) in
        let n = stored-length c a o fits in
        let l = length-append c (joined (accepted_of (take j w.answers) (take j cs))) in
        let e : length (take a o ++ (c ++ drop (length c) (drop a o))) - (a + length c + begin w.answers cs j)
        ≡ length o - (a + length (c ++ joined (accepted_of (take j w.answers) (take j cs))))
        = omega arith in
        (omega (arith, t.0), t.1 ∙ ap (λ (k : ℕ). unless 34 (leb (length (get_or cs j [])) k)) e)

-- one more write, refused
more-refused : (c : List ℕ) (cs : List (List ℕ)) (a : ℕ) (o : List ℕ) (w : Written) → a ≤ length o → length o < a + length c
    → From cs a o w → From (c ∷ cs) a o (after (refused 34) w)
more-refused c cs a o w inside short f =
    record {
      answered = ap suc f.answered;
      turn = turns;
      output = f.output;
      position = f.position;
      whole = λ h. absurd (omega (arith, length-append c (joined cs)));
    }
  where
    turns : (i : ℕ) → i < suc (length cs)
        → (a + begin (refused 34 ∷ w.answers) (c ∷ cs) i ≤ length o)
        × (get_or (refused 34 ∷ w.answers) i accepted ≡ unless 34 (leb (length (get_or (c ∷ cs) i [])) (length o - (a + begin (refused 34 ∷ w.answers) (c ∷ cs) i))))
    turns zero h = (omega arith, sym (ap (unless 34) (lt-leb (length c) (length o - (a + 0)) (omega arith))))
    turns (suc j) h = f.turn j (omega arith)

-- any byte lists, from any position
from : (cs : List (List ℕ)) (a : ℕ) (o : List ℕ) → a ≤ length o → From cs a o (puts cs a o)
from [] a o h =
    record {
      answered = refl;
      turn = λ i q. absurd (omega arith);
      output = sym (take-append-drop a o);
      position = omega arith;
      whole = λ q. refl;
    }
from (c ∷ cs) a o h =
    go (leb (length c) (length (drop a o))) refl (λ (b : ℕ) (p : List ℕ) (q : b ≤ length p). from cs b p q)
  where
    next : Verdict → Written
    next v = after v (puts cs (a + moved_by v (length c)) (take a o ++ laid v c (drop a o)))

    go : (t : Bool) → leb (length c) (length (drop a o)) ≡ t → ((b : ℕ) (p : List ℕ) → b ≤ length p → From cs b p (puts cs b p)) → From (c ∷ cs) a o (puts (c ∷ cs) a o)
    go true e ih =
        let room : length c ≤ length (drop a o) = leb-true (length c) (length (drop a o)) e in
        let fits : a + length c ≤ length o = omega (arith, length-drop a o) in
        let v : put c (drop a o) ≡ accepted = ap (unless 34) e in
        subst (From (c ∷ cs) a o) (sym (ap next v))
        (more-accepted c cs a o (puts cs (a + length c) (take a o ++ (c ++ drop (length c) (drop a o)))) fits
        (ih (a + length c) (take a o ++ (c ++ drop (length c) (drop a o))) (rw (stored-length c a o fits) fits)))
    go false e ih =
        let none : length (drop a o) < length c = leb-false (length c) (length (drop a o)) e in
        let short : length o < a + length c = omega (arith, length-drop a o) in
        let v : put c (drop a o) ≡ refused 34 = ap (unless 34) e in
        let z : a + 0 ≡ a = omega arith in
        let same : after (refused 34) (puts cs (a + 0) (take a o ++ drop a o)) ≡ after (refused 34) (puts cs a o)
        = (let p = take-append-drop a o in λ i. after (refused 34) (puts cs (z i) (p i))) in
        subst (From (c ∷ cs) a o) (sym (ap next v ∙ same)) (more-refused c cs a o (puts cs a o) h short (ih a o h))

-- from the output's start
writes-of : (cs : List (List ℕ)) (o : List ℕ) → WritesOf cs o (puts cs 0 o)
writes-of cs o =
    let f = from cs 0 o (omega arith) in
    let w = puts cs 0 o in
    record {
      answered = f.answered;
      each = λ i h. (omega (arith, (f.turn i h).0), (f.turn i h).1 ∙ ap (λ (k : ℕ). unless 34 (leb (length (get_or cs i [])) (length o - k))) (zero-add (begin w.answers cs i)));
      output = f.output ∙ ap (λ (k : ℕ). done w cs ++ drop k o) (sym (f.position ∙ zero-add (length (done w cs))));
      position = f.position ∙ zero-add (length (done w cs));
      whole = λ h.
          let all = f.whole (omega arith) in
          (all, f.output ∙ ap (λ (l : List ℕ). l ++ drop (length l) o) (ap (λ (vs : List Verdict). joined (accepted_of vs cs)) all ∙ ap joined (every cs)));
    }
  where
    every : (xs : List (List ℕ)) → accepted_of (replicate (length xs) accepted) xs ≡ xs
    every [] = refl
    every (x ∷ xs) = ap (λ (t : List (List ℕ)). x ∷ t) (every xs)

-- the first n of a list
take-map : {A B : Type 0} (g : A → B) (n : ℕ) (l : List A) → take n (map g l) ≡ map g (take n l)
take-map g zero l = refl
take-map g (suc n) [] = refl
take-map g (suc n) (x ∷ l) = ap (λ (t : List _). g x ∷ t) (take-map g n l)

each_take : (n : ℕ) (fs : List SegmentFields) → each writable fs ≡ true → each writable (take n fs) ≡ true
each_take zero fs e = refl
each_take (suc n) [] e = refl
each_take (suc n) (f ∷ fs) e =
    simp (first_fits (writable f) (each writable fs) e) (each_take n fs (rest-fits (writable f) (each writable fs) e))

pub writes-of-a-stream : WritesOfAStream
writes-of-a-stream s a n o =
    let fs = take n (stream_fields s) in
    let cs : take n (map cut_segment (read_of s).pieces) ≡ map encode fs
    = ap (take n) (stream-cuts s a) ∙ take-map encode n (stream_fields s) in
    let same : run fs 0 o ≡ puts (map encode fs) 0 o = run_is fs 0 o (each_take n (stream_fields s) (stream-writable s a)) in
    let c = sym cs in
    let r = sym same in
    subst (λ (x : List (List ℕ) × Written). WritesOf x.0 o x.1) (λ i. (c i, r i)) (writes-of (map encode fs) o)

-- all the segments
pub whole-stream : WholeStream
whole-stream s a o h =
    let xs = (read_of s).pieces in
    let c = take_all (length xs) (map cut_segment xs) (rw length-map (omega arith)) in
    let f = take_all (length xs) (stream_fields s) (rw length-map (omega arith)) in
    let w = rw (c, f) at (writes-of-a-stream s a (length xs) o) in
    ((w.whole h).0 ∙ ap (λ (k : ℕ). replicate k accepted) (length-map xs cut_segment), (w.whole h).1)

-- a shorter list of writes begins as a longer one
fewer : (fs : List SegmentFields) (a : ℕ) (o : List ℕ) (i : ℕ) → (run (take i fs) a o).answers ≡ take i (run fs a o).answers
fewer fs a o zero = refl
fewer [] a o (suc i) = refl
fewer (f ∷ fs) a o (suc i) =
    ap (λ (vs : List Verdict). write_into f (drop a o) ∷ vs)
    (fewer fs (a + moved_by (write_into f (drop a o)) (length (encode f))) (take a o ++ laid (write_into f (drop a o)) (encode f) (drop a o)) i)

pub begins-there : BeginsThere
begins-there s a n i h o =
    let cs = map cut_segment (read_of s).pieces in
    let vs : (run (take i (stream_fields s)) 0 o).answers ≡ take i (run (take n (stream_fields s)) 0 o).answers
    = ap (λ (fs : List SegmentFields). (run fs 0 o).answers) (sym (take-take i n (stream_fields s) h)) ∙ fewer (take n (stream_fields s)) 0 o i in
    let es = sym (take-take i n cs h) in
    (writes-of-a-stream s a i o).position ∙ (λ j. length (joined (accepted_of (vs j) (es j))))
