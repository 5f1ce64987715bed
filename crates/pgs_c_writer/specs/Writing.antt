-- The calls `pgs_encode_ods`, `pgs_encode_end`, `pgs_encode_other` and `pgs_write_segments`. Each parameter that a call may change is
-- named as it was, and with a prime as it is.
use Rattle.std.specs.Prelude.{ℕ, ◌≡◌, Bool, false, List}
use Rattle.pgs_base.specs.Outcome.{pick}
use Rattle.pgs_calls.specs.Calls.{code_of, becomes}
use Rattle.pgs_cells_ods.specs.OdsCells.{ods_from, ods_cells_fit}
use Rattle.pgs_encoding.specs.Writable.{writable}
use Rattle.pgs_stream.specs.Stream.{stream_verdict}
use Rattle.pgs_stream_writer.specs.StreamWrites.{stream_writes, accepted_in, output_after}
use Rattle.pgs_writer_base.specs.Kinds.{ods_segment}

-- an ODS of cells and data: each cell fits its field, and the rest is the writer's
abbrev pub ods_cells_writable : ℕ → ℕ → List ℕ → List ℕ → Bool
ods_cells_writable pts dts cells bytes = pick (ods_cells_fit cells) (writable (ods_segment pts dts (ods_from cells) bytes)) false

-- the first n segments of a stream: the output, how many writes were accepted, and how many bytes they take
pub record WritesCall (s : List ℕ) (n : ℕ) (out out' : List ℕ) (count count' bytes bytes' r : ℕ) : Type 0 where
  pub code : r ≡ code_of (stream_verdict s)
  pub stored : out' ≡ output_after (stream_verdict s) (stream_writes n s out) out
  pub counted : count' ≡ becomes (stream_verdict s) (accepted_in (stream_writes n s out).answers) count
  pub reached : bytes' ≡ becomes (stream_verdict s) (stream_writes n s out).position bytes
