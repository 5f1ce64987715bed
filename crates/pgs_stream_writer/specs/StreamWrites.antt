-- The list of writes of a stream's segments, as a call performs it. Demand 3: "take any list of writes of such a stream's
-- segments, in turn from the first and as far as one likes, refused ones included, into one output of any length".
use Rattle.std.specs.Prelude.{ℕ, suc, List, [], ◌∷◌, take}
use Rattle.pgs_base.specs.Outcome.{Verdict, accepted, refused}
use Rattle.pgs_stream.specs.Stream.{stream_fields}
use Rattle.pgs_encoding.specs.Writes.{Written, run}
use Rattle.pgs_stream_writer.specs.declared.stream.Writes.{Writes}

-- the writes of the first n segments of a stream s into the output o, or of all where there are fewer
abbrev pub stream_writes : ℕ → List ℕ → List ℕ → Written
stream_writes n s o = run (take n (stream_fields s)) 0 o

-- how many writes were accepted
abbrev pub accepted_in : List Verdict → ℕ
accepted_in [] = 0
accepted_in (accepted ∷ vs) = suc (accepted_in vs)
accepted_in (refused k ∷ vs) = accepted_in vs

-- so many, and how many bytes they take
abbrev pub writes_done : Written → Writes
writes_done w = record { accepted = accepted_in w.answers; bytes = w.position }

-- the output: that of the writes, and as it was where the stream is refused
abbrev pub output_after : Verdict → Written → List ℕ → List ℕ
output_after accepted w o = w.output
output_after (refused k) w o = o
