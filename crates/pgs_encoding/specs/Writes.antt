-- A list of writes into one output. 01, 'The cut stream': "Each write gets the fields read from its segment and the output from the
-- last accepted write's end on."
use Rattle.std.specs.Prelude.{ℕ, ◌+◌, List, [], ◌∷◌, ◌++◌, length, take, drop}
use Rattle.pgs_base.specs.Outcome.{Verdict, accepted, refused, laid, delivery}
use Rattle.pgs_segment.specs.Fields.{SegmentFields}
use Rattle.pgs_encoding.specs.Encode.{encode}
use Rattle.pgs_encoding.specs.Writable.{write_verdict}

-- one write of fields into an output: refused with 35 or 34, or accepted
abbrev pub write_into : SegmentFields → List ℕ → Verdict
write_into f o = delivery (write_verdict f) (encode f) o

-- how far a write moves on: its length where it is accepted
abbrev pub moved_by : Verdict → ℕ → ℕ
moved_by accepted n = n
moved_by (refused k) n = 0

-- after some writes: what each came to, where the last accepted one ended, and the output
pub record Written : Type 0 where
  pub answers : List Verdict
  pub position : ℕ
  pub output : List ℕ

-- a write's answer before those of the others
abbrev pub after : Verdict → Written → Written
after v r = record { answers = v ∷ r.answers; position = r.position; output = r.output }

-- the writes of fs in turn, from position a of the output o
abbrev pub run : List SegmentFields → ℕ → List ℕ → Written
run [] a o = record { answers = []; position = a; output = o }
run (f ∷ fs) a o =
    after (write_into f (drop a o))
    (run fs (a + moved_by (write_into f (drop a o)) (length (encode f)))
    (take a o ++ laid (write_into f (drop a o)) (encode f) (drop a o)))
