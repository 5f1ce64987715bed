use Rattle.std.specs.Prelude.{Result, Ok, Err, Some}
use Rattle.std.specs.Result.{IsOk}
use Rattle.pgs_base.specs.Outcome.{accepted, outcome}
use Rattle.pgs_base.specs.declared.refusal.Refusal.{Refusal}
use Rattle.pgs_ods.specs.declared.ods.Ods.{Ods}
use Rattle.pgs_records.specs.declared.BodyList.{BodyList}
use Rattle.pgs_reassembly.specs.Objects.{is_ods}
use Rattle.pgs_reassembly.proofs.FragmentLaws.{read_as, body-lent, numbers-read, never-refused, head_read}
use Rattle.pgs_segment.specs.OneSegment.{segment_type, body_at}
use Rattle.pgs_stream.specs.Stream.{step_verdict}
use lib.ListN.{drop}
use mathlib.Core.List.{List}
use mathlib.Core.Path.{◌≡◌, refl, ap, sym, ◌∙◌}
use mathlib.Core.Bool.{true}
use Prim.Native.Nat.{ℕ}
use Rattle.pgs_set.proofs.Choices.{pick_first}
use Rattle.pgs_set.proofs.SegmentLaws.{Stands, stands-kind}
use Rattle.pgs_reassembly.specs.Tables.{holds_fragment}
use Rattle.pgs_object.proofs.chain.read_fragment.Goals.{Else-not-is_ods}
use Rattle.pgs_object.proofs.chain.read_fragment.Goals as goal

-- the segment stands in the stream, and is an ODS
itself : (c : Else-not-is_ods) → Stands c.args.s.now c.args.segment
itself c = record { step = c.requires.step; its = c.requires.stands }

holds : (c : Else-not-is_ods) → holds_fragment c.args.segment ≡ true
holds c = sym (c.is_ods.ensures ∙ ap is_ods c.kind.ensures) ∙ c.if-not-is_ods.false

kind : (c : Else-not-is_ods) → is_ods (segment_type (drop c.args.segment.at c.args.s.now)) ≡ true
kind c = sym (ap is_ods (stands-kind (itself c))) ∙ holds c

-- so that reading its body is no error
read_whole : (l : List ℕ) (r : Result (Ods × BodyList) Refusal) → step_verdict l ≡ accepted → is_ods (segment_type l) ≡ true
    → outcome r ≡ read_as (body_at l) → IsOk r
read_whole l (Ok x) ok k q = refl
read_whole l (Err w) ok k q = absurd (never-refused l ok k q)

pub unwrap-requires : goal.unwrap-requires
unwrap-requires c =
    let e = (goal.at.unwrap-requires c).Else-not-is_ods in
    read_whole (drop c.args.segment.at c.args.s.now) c.parse.result c.requires.step (kind e) (c.parse.ensures ∙ ap read_as (c.body.ensures ∙ body-lent (itself e)))

-- and its numbers are those of the fragment
pub returns : goal.returns
returns c =
    let l = drop c.args.segment.at c.args.s.now in
    let e = (goal.at.returns c).Else-not-is_ods in
    let read = ap outcome (sym c.unwrap.ensures) ∙ c.parse.ensures ∙ ap read_as (c.body.ensures ∙ body-lent (itself e)) in
    ap Some (head_read c.args.segment.at l (numbers-read (body_at l) read)) ∙ sym (pick_first _ _ (holds e))
