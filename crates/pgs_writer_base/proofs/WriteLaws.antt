-- How a write ends, for fields of any kind: 35, 34, or the whole segment. Assumes nothing.
use mathlib.Core.Path.{◌≡◌, ◌∙◌}
use mathlib.Core.Bool.{Bool, true, false}
use mathlib.Core.List.{List}
use Prim.Native.Nat.{ℕ, ◌^◌, ◌≤◌, ◌<◌}
use lib.ListN.{length}
use lib.Seq.{sets}
use Rattle.pgs_base.specs.Outcome.{gives, refuses, unless, Delivered}
use Rattle.pgs_base.proofs.Outcomes.{delivers-refusal, delivers-short, delivers-all}
use Rattle.pgs_segment.specs.Fields.{SegmentFields, kind_byte}
use Rattle.pgs_encoding.specs.Encode.{head_fields, body_bytes}
use Rattle.pgs_encoding.specs.Layout.{all_fit}
use Rattle.pgs_encoding.specs.Writable.{body_writable, writable}
use Rattle.pgs_writer_base.specs.declared.head.Timestamps.{Timestamps}
use Rattle.pgs_writer_base.proofs.FitLaws.{pick-neither}
use Rattle.pgs_writer_base.proofs.PutLaws.{sets-front}

-- the two times fit their fields
pub record TimesFit (t : Timestamps) : Type 0 where
  pub pts : t.pts < 2 ^ 32
  pub dts : t.dts < 2 ^ 32

-- a body that cannot be written
module _ (f : SegmentFields) where
  pub body_refused : body_writable f.body ≡ false → writable f ≡ false
  unfolding writable
  body_refused e = rw e (pick-neither (all_fit (head_fields f.pts f.dts (kind_byte f.body) (length (body_bytes f.body)))))

-- the three answers to a write of bytes, where the test t says whether it can be
module _ (bytes o : List ℕ) {t : Bool} where
  pub write-35 : t ≡ false → Delivered (unless 35 t) (length bytes) bytes o o (refuses 35)
  write-35 e = delivers-refusal (rw e)

  pub write-34 : t ≡ true → length o < length bytes → Delivered (unless 35 t) (length bytes) bytes o o (refuses 34)
  write-34 e h = delivers-short (rw e) h

  pub write-all : {o' : List ℕ} {n : ℕ} → t ≡ true → length bytes ≤ length o → n ≡ length bytes → o' ≡ sets o 0 bytes
      → Delivered (unless 35 t) (length bytes) bytes o o' (gives n)
  write-all e h q r = delivers-all (rw e) h q (r ∙ sets-front bytes o h)
