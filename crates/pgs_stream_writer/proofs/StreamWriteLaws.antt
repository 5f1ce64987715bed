-- The loop that performs a list of writes: performing what is left from here ends where performing all ends. Assumes nothing.
use Rattle.std.specs.Prelude.{Result, Ok, Err}
use Rattle.pgs_base.specs.declared.refusal.Refusal.{Refusal}
use mathlib.Core.Path.{◌≡◌, refl, sym, ap, ◌∙◌}
use mathlib.Core.Bool.{Bool, true, false}
use mathlib.Core.List.{List, [], ◌∷◌, ◌++◌, map, append-nil}
use Prim.Native.Nat.{ℕ, zero, suc, ◌+◌, ◌-◌, ◌≤◌, ◌<◌}
use native.Mathlib.Omega.{arith}
use borrow.Author.Tests.{leb-true, leb-false}
use lib.Dec.{leb}
use lib.ListN.{length, take, drop, length-append, length-take, length-drop, drop_of_length-le}
use lib.Seq.{drop-drop, length-take-le}
use Rattle.pgs_base.proofs.Lists.{to_end}
use Rattle.pgs_base.proofs.Outcomes.{second_holds, holds, first-accepts, not-both, not-refused}
use Rattle.pgs_base.specs.Outcome.{Verdict, accepted, refused, Outcome, refuses, outcome, outcome_of, needing, laid, Delivered}
use Rattle.pgs_stream.proofs.ReadingLaws.{own-fields}
use Rattle.pgs_stream.proofs.StreamLaws.{read-on, read-stops, stopped-at}
use Rattle.pgs_segment.specs.Fields.{SegmentFields, body_of, body_verdict}
use Rattle.pgs_segment.specs.OneSegment.{segment_verdict, segment_type, body_at, used_by, fields_of}
use Rattle.pgs_segment.proofs.SegmentLaws.{accepted-body}
use Rattle.pgs_views.specs.Kinds.{type_of}
use Rattle.pgs_views.specs.declared.segment_type.SegmentType.{SegmentType}
use Rattle.pgs_writer_base.specs.Kinds.{segment_with}
use Rattle.pgs_stream.specs.Stream.{Reading, before, step_verdict, stopped_by, read_of, records_from, stream_fields, stream_verdict}
use Rattle.pgs_stream.specs.Segments.{placed, segments_from}
use Rattle.pgs_stream.specs.declared.segments.PlacedSegment.{PlacedSegment}
use Rattle.pgs_stream.proofs.SegmentLaws.{none-left, first-left, good-on}
use Rattle.pgs_segment.specs.Header.{header_fields, size_of}
use Rattle.pgs_encoding.specs.Encode.{encode}
use Rattle.pgs_stream_writer.specs.declared.stream.Writes.{Writes}
use Rattle.pgs_stream_writer.specs.StreamWrites.{stream_writes, accepted_in, writes_done, output_after}
use Rattle.pgs_encoding.specs.Writable.{write_verdict}
use Rattle.pgs_encoding.specs.Writes.{Written, write_into, moved_by, after, run}

-- some of n writes are done, k are left at most: `done` were accepted, these segments are left, and the next is written from `at` on
pub record Performing (s : List ℕ) (first n : ℕ) (start now : List ℕ) (k : ℕ) (xs : List PlacedSegment) (at done : ℕ) : Type 0 where
  pub from : ℕ
  pub good : stream_verdict (drop from s) ≡ accepted
  pub left : xs ≡ segments_from s from
  pub room : at ≤ length now
  pub same : length now ≡ length start
  pub few : done + k ≤ n
  pub position : (run (take k (stream_fields (drop from s))) at now).position ≡ (stream_writes n (drop first s) start).position
  pub output : (run (take k (stream_fields (drop from s))) at now).output ≡ (stream_writes n (drop first s) start).output
  pub number : done + accepted_in (run (take k (stream_fields (drop from s))) at now).answers ≡ accepted_in (stream_writes n (drop first s) start).answers

-- where no segments are left, no fields are
none-left-fields : (at : ℕ) (ps : List (List ℕ)) → records_from placed at ps ≡ [] → map fields_of ps ≡ []
none-left-fields at [] e = refl
none-left-fields at (p ∷ ps) e = absurd (omega (arith, ap (length {A = PlacedSegment}) e))

take-none : {A : Type 0} (k : ℕ) (xs : List A) → (0 < k → xs ≡ []) → take k xs ≡ []
take-none zero xs h = refl
take-none (suc k) xs h = ap (take (suc k)) (h (omega arith))

module _ (s : List ℕ) (first n : ℕ) (start : List ℕ) where
  module _ {now : List ℕ} {k : ℕ} {xs : List PlacedSegment} {at done : ℕ} (c : Performing s first n start now k xs at done) where
    -- all are done
    pub performed : (0 < k → xs ≡ []) → (writes_done (stream_writes n (drop first s) start) ≡ record { accepted = done; bytes = at }) × (now ≡ (stream_writes n (drop first s) start).output)
    performed h =
        let z : take k (stream_fields (drop c.from s)) ≡ []
        = take-none k (stream_fields (drop c.from s)) (λ q. none-left-fields c.from (read_of (drop c.from s)).pieces (sym c.left ∙ h q)) in
        let r : run (take k (stream_fields (drop c.from s))) at now ≡ record { answers = []; position = at; output = now }
        = ap (λ (fs : List SegmentFields). run fs at now) z in
        let a : done + 0 ≡ accepted_in (stream_writes n (drop first s) start).answers
        = sym (ap (λ (w : Written). done + accepted_in w.answers) r) ∙ c.number in
        let d : accepted_in (stream_writes n (drop first s) start).answers ≡ done = omega arith in
        let p = sym (sym (ap (λ (w : Written). w.position) r) ∙ c.position) in
        ((λ j. record { accepted = d j; bytes = p j }), sym (ap (λ (w : Written). w.output) r) ∙ c.output)

-- how many bytes a write took, 0 where it was refused
abbrev pub bytes_written : Result ℕ Refusal → ℕ
bytes_written (Ok n) = n
bytes_written (Err r) = 0

-- 1 where it was accepted
abbrev pub writes_accepted : Result ℕ Refusal → ℕ
writes_accepted (Ok n) = 1
writes_accepted (Err r) = 0

pub none-written : (a : Result ℕ Refusal) → ((n : ℕ) → a ≡ Ok n → ⊥) → (bytes_written a ≡ 0) × (writes_accepted a ≡ 0)
none-written (Ok n) h = absurd (h n refl)
none-written (Err r) h = (refl, refl)

-- what an answer says of the write's verdict
abbrev counted : Verdict → ℕ
counted accepted = 1
counted (refused k) = 0

module _ (n : ℕ) where
  answer-moves : (a : Result ℕ Refusal) (v : Verdict) → outcome a ≡ outcome_of v n → bytes_written a ≡ moved_by v n
  answer-moves (Ok k) accepted e = cc
  answer-moves (Ok k) (refused j) e = cc
  answer-moves (Err r) accepted e = cc
  answer-moves (Err r) (refused j) e = refl

  answer-counts : (a : Result ℕ Refusal) (v : Verdict) → outcome a ≡ outcome_of v n → writes_accepted a ≡ counted v
  answer-counts (Ok k) accepted e = refl
  answer-counts (Ok k) (refused j) e = cc
  answer-counts (Err r) accepted e = cc
  answer-counts (Err r) (refused j) e = refl

accepted-first : (v : Verdict) (vs : List Verdict) → accepted_in (v ∷ vs) ≡ counted v + accepted_in vs
accepted-first accepted vs = omega arith
accepted-first (refused k) vs = omega arith

-- a write keeps the output's length, and ends within it
module _ (f : SegmentFields) (o : List ℕ) where
  write-fits : (v : Verdict) → write_into f o ≡ v → (length (laid v (encode f) o) ≡ length o) × (moved_by v (length (encode f)) ≤ length o)
  write-fits accepted e =
      let h = leb-true (length (encode f)) (length o) (holds 34 (leb (length (encode f)) (length o)) (second_holds (write_verdict f) (needing (length (encode f)) (length o)) e)) in
      (rw (length-append, length-drop) (omega arith), h)
  write-fits (refused k) e = (refl, omega arith)

-- a part that goes to the end, put back
pub put_back : (o ys : List ℕ) (at : ℕ) → take at o ++ (ys ++ drop (length o - at) (drop at o)) ≡ take at o ++ ys
put_back o ys at =
    ap (λ (t : List ℕ). take at o ++ (ys ++ t)) (drop_of_length-le (drop at o) {i = length o - at} (rw length-drop (omega arith)))
    ∙ ap (λ (t : List ℕ). take at o ++ t) (append-nil ys)

abbrev pub first_of : PlacedSegment → List PlacedSegment → PlacedSegment
first_of z [] = z
first_of z (x ∷ xs) = x

abbrev rest_of : List PlacedSegment → List PlacedSegment
rest_of [] = []
rest_of (x ∷ xs) = xs

module _ (s : List ℕ) (first n : ℕ) (start : List ℕ) {now : List ℕ} {k : ℕ} {x : PlacedSegment} {xs ys : List PlacedSegment} {at done : ℕ}
    (c : Performing s first n start now k xs at done) (h : xs ≡ x ∷ ys)
  where
    -- a segment stands here
    more : c.from < length s
    more = go (leb (length s) c.from) refl
      where
        go : (b : Bool) → leb (length s) c.from ≡ b → c.from < length s
        go true e = absurd (omega (arith, ap (length {A = PlacedSegment}) (sym h ∙ c.left ∙ none-left s c.from (leb-true (length s) c.from e))))
        go false e = leb-false (length s) c.from e

    next-step : step_verdict (drop c.from s) ≡ accepted
    next-step =
        not-refused (step_verdict (drop c.from s))
        (λ j e. not-both c.good
        (ap (λ (r : Reading). stopped_by r.rest) (read-stops (drop c.from s) e)
        ∙ (stopped-at (drop c.from s) (rw length-drop (omega (arith, more))) ∙ e)))

    next-verdict : segment_verdict (drop c.from s) ≡ accepted
    next-verdict = first-accepts (segment_verdict (drop c.from s)) _ next-step

    -- it is the next of those that are left
    parts : x ∷ ys ≡ placed c.from (header_fields (drop c.from s)) ∷ segments_from s (c.from + used_by (drop c.from s))
    parts = sym h ∙ (c.left ∙ first-left s c.good more)

    is-placed : x ≡ placed c.from (header_fields (drop c.from s))
    is-placed = ap (first_of x) parts

    -- its kind and its body, as they are handed on: it is known to be whole, and its fields are those of the stream's segment
    module _ {t : SegmentType} {b : List ℕ} (e : t ≡ type_of x.header.segment_type) (q : b ≡ take (x.end - (x.at + 13)) (drop (x.at + 13) s)) where
      kind-is : t ≡ segment_type (drop c.from s)
      kind-is = e ∙ ap (λ (p : PlacedSegment). type_of p.header.segment_type) is-placed

      body-is : b ≡ body_at (drop c.from s)
      body-is =
          let size : c.from + (13 + size_of (drop c.from s)) - (c.from + 13) ≡ size_of (drop c.from s) = omega arith in
          let behind = sym (drop-drop 13 c.from s) in
          q
          ∙ (ap (λ (p : PlacedSegment). take (p.end - (p.at + 13)) (drop (p.at + 13) s)) is-placed
          ∙ (λ i. take (size i) (behind i)))

      pub next-whole : body_verdict t b ≡ accepted
      next-whole = (λ i. body_verdict (kind-is i) (body-is i)) ∙ accepted-body (drop c.from s) next-verdict

      pub next-short : length b ≤ x.header.segment_size
      next-short = omega (
        arith,
        ap (length {A = ℕ}) body-is,
        length-take (size_of (drop c.from s)) (drop 13 (drop c.from s)),
        ap (λ (p : PlacedSegment). p.header.segment_size) is-placed,
      )

      pub next-fields : segment_with x.header.pts x.header.dts t b ≡ fields_of (drop c.from s)
      next-fields = λ i. record { pts = (is-placed i).header.pts; dts = (is-placed i).header.dts; body = body_of (kind-is i) (body-is i) }

    left : read_of (drop c.from s) ≡ before (take (used_by (drop c.from s)) (drop c.from s)) (read_of (drop (used_by (drop c.from s)) (drop c.from s)))
    left = read-on (drop c.from s) next-step

    -- the fields that are left: this segment's before the others'
    fields-left : stream_fields (drop c.from s) ≡ fields_of (drop c.from s) ∷ stream_fields (drop (c.from + used_by (drop c.from s)) s)
    fields-left =
        ap (λ (x : Reading). map fields_of x.pieces) left
        ∙ (let f = own-fields (drop c.from s) next-verdict in
        let d = drop-drop (used_by (drop c.from s)) c.from s in
        λ j. f j ∷ stream_fields (d j))

    rest-left : (m : ℕ) → m + 1 ≡ k → take k (stream_fields (drop c.from s)) ≡ fields_of (drop c.from s) ∷ take m (stream_fields (drop (c.from + used_by (drop c.from s)) s))
    rest-left m less = let q : k ≡ suc m = omega (arith, less) in λ j. take (q j) (fields-left j)

    -- the write of this segment
    module _ (answer : Result ℕ Refusal) {ws : List ℕ}
        (d : Delivered (write_verdict (fields_of (drop c.from s))) (length (encode (fields_of (drop c.from s)))) (encode (fields_of (drop c.from s))) (drop at now) ws (outcome answer))
      where
        moves : bytes_written answer ≡ moved_by (write_into (fields_of (drop c.from s)) (drop at now)) (length (encode (fields_of (drop c.from s))))
        moves = answer-moves (length (encode (fields_of (drop c.from s)))) answer (write_into (fields_of (drop c.from s)) (drop at now)) d.answered

        counts : writes_accepted answer ≡ counted (write_into (fields_of (drop c.from s)) (drop at now))
        counts = answer-counts (length (encode (fields_of (drop c.from s)))) answer (write_into (fields_of (drop c.from s)) (drop at now)) d.answered

        -- the writes that are left are this one before the others
        run-left : (m : ℕ) → m + 1 ≡ k → run (take k (stream_fields (drop c.from s))) at now
            ≡ after (write_into (fields_of (drop c.from s)) (drop at now))
            (run (take m (stream_fields (drop (c.from + used_by (drop c.from s)) s))) (at + bytes_written answer) (take at now ++ ws))
        run-left m less =
            ap (λ (fs : List SegmentFields). run fs at now) (rest-left m less)
            ∙ (let e = sym d.written in
            let w = sym moves in
            λ j. after (write_into (fields_of (drop c.from s)) (drop at now)) (run (take m (stream_fields (drop (c.from + used_by (drop c.from s)) s))) (at + w j) (take at now ++ e j)))

        written-length : length (take at now ++ ws) ≡ length now
        written-length =
            let w = write-fits (fields_of (drop c.from s)) (drop at now) (write_into (fields_of (drop c.from s)) (drop at now)) refl in
            length-append (take at now) ws
            ∙ omega (arith, length-take-le at now c.room, ap length d.written, w.0, length-drop at now, c.room)

        pub ends-within : at + bytes_written answer ≤ length now
        ends-within =
            let w = write-fits (fields_of (drop c.from s)) (drop at now) (write_into (fields_of (drop c.from s)) (drop at now)) refl in
            omega (arith, moves, w.1, length-drop at now, c.room)

        pub counts-one : writes_accepted answer ≤ 1
        counts-one = at_most answer
          where
            at_most : (a : Result ℕ Refusal) → writes_accepted a ≤ 1
            at_most (Ok k) = omega arith
            at_most (Err r) = omega arith

        performs-on : {m : ℕ} → m + 1 ≡ k → Performing s first n start (take at now ++ ws) m ys (at + bytes_written answer) (done + writes_accepted answer)
        performs-on {m} less =
            record {
              from = c.from + used_by (drop c.from s);
              good = good-on s c.good more;
              left = ap rest_of parts;
              room = omega (arith, ends-within, written-length);
              same = written-length ∙ c.same;
              few = omega (arith, c.few, counts-one, less);
              position = sym (ap (λ (w : Written). w.position) (run-left m less)) ∙ c.position;
              output = sym (ap (λ (w : Written). w.output) (run-left m less)) ∙ c.output;
              number = omega (
                arith,
                c.number,
                counts,
                ap (λ (w : Written). accepted_in w.answers) (run-left m less),
                accepted-first (write_into (fields_of (drop c.from s)) (drop at now))
                    (run (take m (stream_fields (drop (c.from + used_by (drop c.from s)) s)))
                    (at + bytes_written answer) (take at now ++ ws)).answers,
              );
            }

    -- a write that took so many bytes, 0 where it was refused, and counts 1 where it was accepted
    pub performed-next : {m at' done' : ℕ} {f : SegmentFields} (answer : Result ℕ Refusal) {ws : List ℕ} → f ≡ fields_of (drop c.from s) → m + 1 ≡ k
        → Delivered (write_verdict f) (length (encode f)) (encode f) (take (length now - at) (drop at now)) ws (outcome answer)
        → at' ≡ at + bytes_written answer → done' ≡ done + writes_accepted answer
        → Performing s first n start (take at now ++ (ws ++ drop (length now - at) (drop at now))) m ys at' done'
    performed-next answer {ws} own less d e q = rw (put_back now ws at, e, q) (performs-on answer (rw (to_end at now, own) at d) less)

-- how the call ends, for an accepted stream and for a refused one
module _ (n : ℕ) (s o : List ℕ) where
  pub refused-writes : {k : ℕ} → stream_verdict s ≡ refused k
      → (◌≡◌ {A = Outcome Writes} (refuses k) (outcome_of (stream_verdict s) (writes_done (stream_writes n s o)))) × (o ≡ output_after (stream_verdict s) (stream_writes n s o) o)
  refused-writes e = rw e (refl, refl)
