-- The loop that writes the lines of a stream. Assumes nothing.
use mathlib.Core.Path.{◌≡◌, refl, sym, ap, ◌∙◌}
use mathlib.Core.Bool.{Bool, true, false}
use mathlib.Core.List.{List, [], ◌∷◌, ◌++◌}
use Prim.Native.Nat.{ℕ, zero, suc, ◌+◌, ◌-◌, ◌≤◌}
use native.Mathlib.Omega.{arith}
use lib.ListN.{length, take, drop, length-append}
use lib.Seq.{length-take-le}
use lib.Dec.{leb}
use borrow.Author.Tests.{leb-true, leb-false}
use Rattle.pgs_base.specs.Outcome.{accepted, Outcome, gives, refuses, outcome_of, pick}
use Rattle.pgs_base.proofs.Front.{Front, begins}
use Rattle.pgs_base.proofs.Outcomes.{first-accepts, second_holds, gave-value, not-both, turned_down}
use Rattle.pgs_segment.specs.Fields.{body_list, body_of, body_verdict, numbers_of}
use Rattle.pgs_segment.specs.Header.{pts_of}
use Rattle.pgs_ods.specs.OdsBody.{ods_of}
use Rattle.pgs_segment.specs.OneSegment.{segment_type, segment_verdict, body_at, used_by, fields_of, segment_of}
use Rattle.pgs_stream.specs.Stream.{read_of, step_verdict, stream_verdict}
use Rattle.pgs_stream.proofs.ReadingLaws.{own-fields}
use Rattle.pgs_set.proofs.Choices.{pick_first, pick_second}
use Rattle.pgs_reassembly.proofs.JoinLaws.{part-back}
use Rattle.pgs_set.proofs.WalkLaws.{step-here, pieces-here, pieces_end, within-here, good-after, type-of-piece, piece-length}
use Rattle.pgs_set.specs.Sets.{is_end, sets_of, sets_verdict}
use Rattle.pgs_set.specs.Walks.{pieces_at}
use Rattle.pgs_views.specs.declared.segment_type.SegmentType.{SegmentType}
use Rattle.pgs_views.specs.declared.segment_type.SegmentType.TheVariants.{Pds, Ods, Pcs, Wds, End, Other}
use Rattle.pgs_views.specs.Kinds.{type_of}
use Rattle.pgs_records.specs.declared.BodyList.{BodyList}
use Rattle.pgs_segment.specs.declared.segment.SegmentBody.{SegmentBody}
use Rattle.pgs_segment.proofs.SegmentLaws.{accepted-body}
use Rattle.pgs_stream.specs.Segments.{segments_from}
use Rattle.pgs_stream.specs.declared.segments.PlacedSegment.{PlacedSegment}
use Rattle.pgs_stream.proofs.SegmentLaws.{none-left, first-left}
use Rattle.pgs_reassembly.proofs.FragmentLaws.{body-lent}
use Rattle.pgs_set.proofs.SegmentLaws.{Stands, AllStand, stands-kind}
use Rattle.pgs_set.specs.declared.grouping.Grouping.TheVariants.{Outside}
use Rattle.pgs_cards.proofs.FoldLaws.{open_lines, lines_left_lem, opened-few}
use Rattle.pgs_cards.proofs.LineLaws.{line-length}
use Rattle.pgs_cards.specs.Cards.{card_lines, line_of, line_length}
use Rattle.pgs_cards.specs.Walks.{card_after}
use Rattle.pgs_cards.specs.declared.card.Card.{Card}

-- the lines to come behind the next segment, with the card c
abbrev behind : List ℕ → ℕ → Card → List ℕ
behind s at c = open_lines c (at + used_by (drop at s)) (pieces_at s (at + used_by (drop at s)))

-- the card after the next segment
abbrev grown : List ℕ → ℕ → Card → Card
grown s at c = card_after c at (pts_of (drop at s)) (segment_of (drop at s)).body

-- the lines to come, by the next segment
module _ (s : List ℕ) (at : ℕ) (c : Card) (ok : step_verdict (drop at s) ≡ accepted) where
  lines-here : open_lines c at (pieces_at s at) ≡ pick (is_end (segment_type (drop at s))) (line_of c ++ behind s at c) (behind s at (grown s at c))
  lines-here =
      ap (open_lines c at) (pieces-here s at ok)
      ∙ (λ j.
      pick (is_end (type-of-piece (drop at s) ok j)) (line_of c ++ open_lines c (at + piece-length (drop at s) ok j) (pieces_at s (at + used_by (drop at s))))
      (open_lines (card_after c at (own j).pts (numbers_of (own j).body)) (at + piece-length (drop at s) ok j) (pieces_at s (at + used_by (drop at s)))))
    where
      own : fields_of (take (used_by (drop at s)) (drop at s)) ≡ fields_of (drop at s)
      own = own-fields (drop at s) (first-accepts (segment_verdict (drop at s)) _ ok)

-- a segment is one object more at most
more-objects : (c : Card) (at pts : ℕ) (t : SegmentType) (b : List ℕ) → (card_after c at pts (numbers_of (body_of t b))).objects ≤ c.objects + 1
more-objects c at pts Pds b = omega arith
more-objects c at pts Ods b = omega (arith, opened-few (ods_of b))
more-objects c at pts Pcs b = omega arith
more-objects c at pts Wds b = omega arith
more-objects c at pts End b = omega arith
more-objects c at pts (Other v) b = omega arith

-- the body of a segment
abbrev pub read_body : List ℕ → PlacedSegment → SegmentBody
read_body s x = numbers_of (body_of (segment_type (drop x.at s)) (body_at (drop x.at s)))

-- what reading a body answers
abbrev pub answer : SegmentType → List ℕ → Outcome (SegmentBody × BodyList)
answer t b = outcome_of (body_verdict t b) (numbers_of (body_of t b), body_list t b)

-- the lines to come from these segments on, with the card c
abbrev pub lines_in : List ℕ → Card → List PlacedSegment → List ℕ
lines_in s c [] = []
lines_in s c (x ∷ xs) =
    pick (is_end (segment_type (drop x.at s))) (line_of c ++ lines_in s c xs) (lines_in s (card_after c x.at x.header.pts (read_body s x)) xs)

module _ (s : List ℕ) where
  -- the segments from a place on: they stand there, give the lines to come, and take a byte each at least
  record Known (at : ℕ) (xs : List PlacedSegment) : Type 0 where
    stand : AllStand s xs
    lines : (c : Card) → lines_in s c xs ≡ open_lines c at (pieces_at s at)
    few : at ≤ length s → at + length xs ≤ length s

  known-none : (at : ℕ) → length s ≤ at → Known at (segments_from s at)
  known-none at h =
      rw (none-left s at h)
      (record { stand = tt; lines = λ c. sym (ap (open_lines c at) (pieces_end s at h)); few = λ q. omega arith })

  known : (n at : ℕ) → stream_verdict (drop at s) ≡ accepted → length s ≤ at + n → Known at (segments_from s at)
  known zero at good h = known-none at (omega arith)
  known (suc n) at good h =
      go (leb (length s) at) refl
      (λ (g : stream_verdict (drop (at + used_by (drop at s)) s) ≡ accepted) (k : length s ≤ at + used_by (drop at s) + n). known n (at + used_by (drop at s)) g k)
    where
      go : (b : Bool) → leb (length s) at ≡ b
          → (stream_verdict (drop (at + used_by (drop at s)) s) ≡ accepted → length s ≤ at + used_by (drop at s) + n
          → Known (at + used_by (drop at s)) (segments_from s (at + used_by (drop at s))))
          → Known at (segments_from s at)
      go true e on = known-none at (leb-true (length s) at e)
      go false e on =
          let m = leb-false (length s) at e in
          let ok = step-here s at m good in
          let rest = on (good-after s at ok good) (omega arith) in
          rw (first-left s good m)
          (record {
            stand = (record { step = ok; its = refl }, rest.stand);
            lines = λ c.
                (λ j. pick (is_end (segment_type (drop at s))) (line_of c ++ rest.lines c j) (rest.lines (grown s at c) j))
                ∙ sym (lines-here s at c ok);
            few = λ q. omega (arith, rest.few (within-here s at ok));
          })

-- the lines of the sets that end before these segments are written, in k bytes, and the next line is the card's
pub record Writing (s start now : List ℕ) (c : Card) (xs : List PlacedSegment) (k : ℕ) : Type 0 where
  pub stand : AllStand s xs
  pub few : c.objects + length xs ≤ length s
  pub front : Front start (card_lines s) now (lines_in s c xs) k

module _ (s : List ℕ) where
  pub writing : (start : List ℕ) {c : Card} {xs : List PlacedSegment} → sets_verdict s ≡ accepted → c.objects ≡ 0 → xs ≡ segments_from s 0
      → Writing s start start c xs 0
  unfolding sets_of
  writing start {c} e q r =
      let here = known s (length s) 0 (first-accepts (stream_verdict s) _ e) (omega arith) in
      let all : lines_in s c (segments_from s 0) ≡ card_lines s
      = here.lines c ∙ lines_left_lem Outside c 0 (read_of s).pieces (second_holds (stream_verdict s) _ e) in
      rw r
      (record {
        stand = here.stand;
        few = omega (arith, here.few (omega arith), q);
        front = rw all (begins start (card_lines s));
      })

  module _ {start now : List ℕ} {c : Card} {x : PlacedSegment} {xs : List PlacedSegment} {k : ℕ} (w : Writing s start now c (x ∷ xs) k) where
    its : Stands s x
    its = w.stand.0

    -- what the body is read from
    lent : take (x.end - (x.at + 13)) (drop (x.at + 13) s) ≡ body_at (drop x.at s)
    lent = body-lent its

    module _ {t : SegmentType} (q : t ≡ type_of x.header.segment_type) where
      kind : t ≡ segment_type (drop x.at s)
      kind = q ∙ stands-kind its

      read : {o : Outcome (SegmentBody × BodyList)} → o ≡ answer t (take (x.end - (x.at + 13)) (drop (x.at + 13) s))
          → o ≡ answer (segment_type (drop x.at s)) (body_at (drop x.at s))
      read e = e ∙ (λ j. answer (kind j) (lent j))

      -- a body stands here
      pub never-refused : {n : ℕ} → refuses n ≡ answer t (take (x.end - (x.at + 13)) (drop (x.at + 13) s)) → ⊥
      never-refused {n} e =
          let l = drop x.at s in
          not-both (accepted-body l (first-accepts (segment_verdict l) _ its.step)) (turned_down (body_verdict (segment_type l) (body_at l)) _ (read e))

      module _ {a : Bool} (f : a ≡ is_end t) where
        closed : is_end (segment_type (drop x.at s)) ≡ a
        closed = sym (f ∙ ap is_end kind)

        -- no END: the card goes on
        module _ {b : SegmentBody} {p : BodyList} (e : ◌≡◌ {A = Outcome (SegmentBody × BodyList)} (gives (b, p)) (answer t (take (x.end - (x.at + 13)) (drop (x.at + 13) s)))) where
          body : b ≡ read_body s x
          body =
              let l = drop x.at s in
              ap (λ (y : SegmentBody × BodyList). y.0) (gave-value (body_verdict (segment_type l) (body_at l)) _ (read e))

          pub goes_on : {d : Card} → a ≡ false → d ≡ card_after c x.at x.header.pts b → Writing s start now d xs k
          goes_on {d} n r =
              let l = drop x.at s in
              rw (r ∙ ap (card_after c x.at x.header.pts) body)
              (record {
                stand = w.stand.1;
                few = omega (arith, w.few, more-objects c x.at x.header.pts (segment_type l) (body_at l));
                front = rw (pick_second _ _ (closed ∙ n)) at w.front;
              })

        -- an END: the line is written
        module _ (n : a ≡ true) (room : length (card_lines s) ≤ length start) where
          front : Front start (card_lines s) now (line_of c ++ lines_in s c xs) k
          front = rw (pick_first _ _ (closed ∙ n)) at w.front

          pub line-fits : k + line_length ≤ length now
          line-fits =
              omega (
                arith,
                w.front.same,
                ap length front.done,
                length-append (take k now) (line_of c ++ lines_in s c xs),
                length-take-le k now w.front.within,
                length-append (line_of c) (lines_in s c xs),
                line-length c,
              )

          pub line-put : {ys : List ℕ} → ys ≡ line_of c
              → Writing s start (take k now ++ (ys ++ drop (k + line_length - k) (drop k now))) c xs (k + line_length)
          line-put {ys} r =
              let m : k + line_length - k ≡ line_length = omega arith in
              rw (r, m)
              (record {
                stand = w.stand.1;
                few = omega (arith, w.few);
                front = part-back (line_of c) front (sym (line-length c)) line-fits;
              })
