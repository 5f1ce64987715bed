-- The customer's third demand, of the call that runs: what `write_segments` answers and leaves is `stream_writes`, of which
-- `specs/Demand3.antt` of pgs_encoding says everything. Assumes nothing.
use Prim.Native.Nat.{ℕ}
use mathlib.Core.List.{List, map}
use lib.ListN.{take}
use Rattle.pgs_encoding.specs.Cut.{cut_segment}
use Rattle.pgs_encoding.specs.Demand3.{Accepted, WritesOf}
use Rattle.pgs_encoding.proofs.Demand3.{writes-of-a-stream}
use Rattle.pgs_stream.specs.Stream.{read_of}
use Rattle.pgs_stream_writer.specs.StreamWrites.{stream_writes}

pub writes-of-the-call : (s : List ℕ) → Accepted s → (n : ℕ) (o : List ℕ)
    → WritesOf (take n (map cut_segment (read_of s).pieces)) o (stream_writes n s o)
writes-of-the-call = writes-of-a-stream
