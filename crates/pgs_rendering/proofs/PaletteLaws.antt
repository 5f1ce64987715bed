-- The table of a set: the entries of its palettes laid one after another. Assumes nothing.
use mathlib.Core.Path.{◌≡◌, refl, sym, ap, ◌∙◌}
use mathlib.Core.Bool.{Bool, true}
use mathlib.Core.List.{List, [], ◌∷◌, ◌++◌}
use Prim.Native.Nat.{ℕ, ◌+◌, ◌-◌, ◌≤◌}
use native.Mathlib.Omega.{arith}
use borrow.Author.Tests.{le-leb}
use lib.ListN.{length, take, drop}
use Rattle.pgs_base.specs.Bytes.{num}
use Rattle.pgs_views.specs.Kinds.{type_of}
use Rattle.pgs_base.specs.Outcome.{Verdict, accepted, pick}
use Rattle.pgs_base.proofs.Outcomes.{first-accepts}
use Rattle.pgs_segment.specs.Header.{header_fields}
use Rattle.pgs_segment.specs.OneSegment.{segment_type, segment_verdict, used_by, body_at}
use Rattle.pgs_stream.specs.Stream.{step_verdict}
use Rattle.pgs_stream.proofs.ReadingLaws.{own_body}
use Rattle.pgs_color.specs.Bytes.{rgb_of}
use Rattle.pgs_palette.specs.Palette.{Entry, applying}
use Rattle.pgs_palette.specs.Table.{laid, Updates}
use Rattle.pgs_palette.proofs.Laying.{laid_none, laid-length, laid-append}
use Rattle.pgs_set.specs.Sets.{is_end, through_end}
use Rattle.pgs_set.specs.Walks.{InSet, pieces_at}
use Rattle.pgs_stream.specs.Segments.{placed}
use Rattle.pgs_set.specs.Segments.{set_segments}
use Rattle.pgs_stream.specs.declared.segments.PlacedSegment.{PlacedSegment}
use Rattle.pgs_set.proofs.SetLaws.{inside-here}
use Rattle.pgs_set.proofs.SegmentLaws.{AllStand, by-segments}
use Rattle.pgs_reassembly.proofs.FragmentLaws.{lent-body}
use Rattle.pgs_set.proofs.WalkLaws.{pieces-here, type-of-piece}
use Rattle.pgs_rendering.specs.Palettes.{is_pds, entries_in, entries_named, entries_among}

-- a call that changed a table that is long enough
pub changed : {change : List ℕ → List ℕ} {v : Verdict} {t t' : List ℕ} → 1024 ≤ length t → Updates change v t t' → t' ≡ change t
changed {change} {t = t} h u = u.table ∙ ap (λ (b : Bool). pick b (change t) t) (le-leb 1024 (length t) h)

-- a call that lays them, if the palette is the named one
pub chunks-laid : (body : List ℕ) (named : ℕ) {first : ℕ} {es : List Entry} {v : Verdict} {t t' : List ℕ} → 1024 ≤ length t → first ≡ num 1 0 body
    → es ≡ entries_in body → Updates (laid rgb_of (applying named first es)) v t t' → t' ≡ laid rgb_of (entries_named named body) t
chunks-laid body named {t = t} room e q u = changed room u ∙ (λ j. laid rgb_of (applying named (e j) (q j)) t)

-- the palettes of a set: the entries of its segments, in order, by the bytes of their bodies
abbrev pub entries_behind : ℕ → List ℕ → List PlacedSegment → List Entry
entries_behind named s [] = []
entries_behind named s (x ∷ xs) =
    pick (is_pds (type_of x.header.segment_type)) (entries_named named (take (x.end - (x.at + 13)) (drop (x.at + 13) s))) [] ++ entries_behind named s xs

module _ (named : ℕ) (s : List ℕ) where
  -- the entries of the segments of an open set from a place on
  entries_at : ℕ → List Entry
  entries_at at = entries_among named (through_end (pieces_at s at))

  module _ (at : ℕ) (i : InSet s at) where
    ok : step_verdict (drop at s) ≡ accepted
    ok = inside-here s i

    -- the body of a segment as the code lends it
    lent : take (at + (13 + (header_fields (drop at s)).segment_size) - (at + 13)) (drop (at + 13) s) ≡ body_at (drop at s)
    lent = lent-body s at refl

    here : (xs : List PlacedSegment) → entries_behind named s (placed at (header_fields (drop at s)) ∷ xs)
        ≡ pick (is_pds (segment_type (drop at s))) (entries_named named (body_at (drop at s))) [] ++ entries_behind named s xs
    here xs = λ j. pick (is_pds (segment_type (drop at s))) (entries_named named (lent j)) [] ++ entries_behind named s xs

    entries-here : {b : Bool} → is_end (segment_type (drop at s)) ≡ b → entries_at at
        ≡ pick (is_pds (segment_type (drop at s))) (entries_named named (body_at (drop at s))) []
        ++ entries_among named (pick b [] (through_end (pieces_at s (at + used_by (drop at s)))))
    unfolding entries_at
    entries-here e =
        ap (λ (xs : List (List ℕ)). entries_among named (through_end xs)) (pieces-here s at ok)
        ∙ (λ j.
        pick (is_pds (type-of-piece (drop at s) ok j)) (entries_named named (own_body (drop at s) (first-accepts (segment_verdict (drop at s)) _ ok) j)) []
        ++ entries_among named (pick ((ap is_end (type-of-piece (drop at s) ok) ∙ e) j) [] (through_end (pieces_at s (at + used_by (drop at s))))))

  -- they are those of the list of its segments
  pub entries-listed : {at : ℕ} → InSet s at → entries_among named (through_end (pieces_at s at)) ≡ entries_behind named s (set_segments s at)
  unfolding entries_at
  entries-listed {at} i =
      by-segments s (λ (p : ℕ) (xs : List PlacedSegment). entries_at p ≡ entries_behind named s xs)
      (λ p k e. entries-here p k e ∙ sym (here p k []))
      (λ p k e on.
      entries-here p k e
      ∙ ap (λ (es : List Entry). pick (is_pds (segment_type (drop p s))) (entries_named named (body_at (drop p s))) [] ++ es) on
      ∙ sym (here p k (set_segments s (p + used_by (drop p s))))) at i

-- the palettes before `left` are laid over a table
pub record Tabling (named : ℕ) (s start : List ℕ) (all left : List PlacedSegment) (t : List ℕ) : Type 0 where
  pub stand : AllStand s left
  pub room : 1024 ≤ length t
  pub same : laid rgb_of (entries_behind named s left) t ≡ laid rgb_of (entries_behind named s all) start

module _ {named : ℕ} {s start : List ℕ} {all : List PlacedSegment} where
  pub tabling : AllStand s all → 1024 ≤ length start → {t : List ℕ} → t ≡ start → Tabling named s start all all t
  tabling a h e = record { stand = a; room = omega (arith, ap length e, h); same = ap (laid rgb_of (entries_behind named s all)) e }

  module _ {left : List PlacedSegment} {t : List ℕ} (c : Tabling named s start all left t) where
    module _ {x : PlacedSegment} {xs : List PlacedSegment} (e : left ≡ x ∷ xs) where
      its-left : Tabling named s start all (x ∷ xs) t
      its-left = rw e at c

      -- one more segment, of a palette or not
      pub tables-on : {t' : List ℕ}
          → t' ≡ laid rgb_of (pick (is_pds (type_of x.header.segment_type)) (entries_named named (take (x.end - (x.at + 13)) (drop (x.at + 13) s))) []) t
          → Tabling named s start all xs t'
      tables-on {t'} w =
          record {
            stand = its-left.stand.1;
            room = omega (arith, ap length w, laid-length rgb_of es t c.room, c.room);
            same = ap (laid rgb_of (entries_behind named s xs)) w ∙ sym (laid-append rgb_of es (entries_behind named s xs) t c.room) ∙ its-left.same;
          }
        where
          es : List Entry
          es = pick (is_pds (type_of x.header.segment_type)) (entries_named named (take (x.end - (x.at + 13)) (drop (x.at + 13) s))) []

      pub tables-pds : is_pds (type_of x.header.segment_type) ≡ true → {t' : List ℕ}
          → t' ≡ laid rgb_of (entries_named named (take (x.end - (x.at + 13)) (drop (x.at + 13) s))) t → Tabling named s start all xs t'
      tables-pds p w = tables-on (w ∙ ap (λ (b : Bool). laid rgb_of (pick b (entries_named named (take (x.end - (x.at + 13)) (drop (x.at + 13) s))) []) t) (sym p))

    pub tabled : left ≡ [] → t ≡ laid rgb_of (entries_behind named s all) start
    tabled e = sym (laid_none rgb_of t) ∙ ap (λ (l : List PlacedSegment). laid rgb_of (entries_behind named s l) t) (sym e) ∙ c.same
