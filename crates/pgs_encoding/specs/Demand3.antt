-- What the customer's third demand says of the definitions. The customer's words stand beside each clause; `proofs/Demand3.antt` has
-- the proofs. The same definitions are cited by the contracts of the stream reader, the body readings and the writers.
use Rattle.std.specs.Prelude.{ℕ, ◌-◌, ◌≤◌, ◌<◌, ◌↔◌, ◌≡◌, List, [], ◌∷◌, ◌++◌, map, leb, length, take, drop, get_or, replicate}
use Rattle.pgs_base.specs.Bytes.{Bytes}
use Rattle.pgs_base.specs.Outcome.{Verdict, accepted, refused, unless}
use Rattle.pgs_stream.specs.Stream.{read_of, stream_verdict, stream_fields, segment_count, joined}
use Rattle.pgs_encoding.specs.Cut.{cut_segment, cut_stream}
use Rattle.pgs_encoding.specs.Writes.{Written, run}

-- a stream "whose segments are all accepted"
pub record Accepted (s : List ℕ) : Type 0 where
  pub bytes : Bytes s
  pub read : stream_verdict s ≡ accepted

-- "For every two streams whose segments are all accepted, at any length: they have the same number of segments, equal in every field,
-- stored sizes and tails left out, exactly when they are equal byte by byte as cut streams, each tail cut off and each size field set
-- to what remains."
abbrev pub SameFieldsSameCut : Type 0
SameFieldsSameCut = (s t : List ℕ) → Accepted s → Accepted t → (stream_fields s ≡ stream_fields t) ↔ (cut_stream s ≡ cut_stream t)

-- those whose write was accepted
abbrev pub accepted_of : List Verdict → List (List ℕ) → List (List ℕ)
accepted_of [] cs = []
accepted_of (v ∷ vs) [] = []
accepted_of (accepted ∷ vs) (c ∷ cs) = c ∷ accepted_of vs cs
accepted_of (refused k ∷ vs) (c ∷ cs) = accepted_of vs cs

-- where write i begins: "Each begins where the last accepted one ended, or at the output's start if there is none."
abbrev pub begin : List Verdict → List (List ℕ) → ℕ → ℕ
begin vs cs i = length (joined (accepted_of (take i vs) (take i cs)))

-- the writes of cut segments cs into the output o came to w
pub record WritesOf (cs : List (List ℕ)) (o : List ℕ) (w : Written) : Type 0 where
  -- an answer to each write
  pub answered : length w.answers ≡ length cs
  -- "a write is refused exactly when its cut segment doesn't fit in what is left"
  pub each : (i : ℕ) → i < length cs
      → (begin w.answers cs i ≤ length o) × (get_or w.answers i accepted ≡ unless 34 (leb (length (get_or cs i [])) (length o - begin w.answers cs i)))
  -- "After the list the output begins with the cut segments of the accepted writes, end to end, and its other bytes are as they were"
  pub output : w.output ≡ joined (accepted_of w.answers cs) ++ drop w.position o
  pub position : w.position ≡ length (joined (accepted_of w.answers cs))
  -- "and with room for the cut stream, writing all the segments gives it"
  pub whole : length (joined cs) ≤ length o
      → (w.answers ≡ replicate (length cs) accepted) × (w.output ≡ joined cs ++ drop (length (joined cs)) o)

-- "And take any list of writes of such a stream's segments, in turn from the first and as far as one likes, refused ones included, into
-- one output of any length"
abbrev pub WritesOfAStream : Type 0
WritesOfAStream =
    (s : List ℕ) → Accepted s → (n : ℕ) (o : List ℕ)
    → WritesOf (take n (map cut_segment (read_of s).pieces)) o (run (take n (stream_fields s)) 0 o)

-- the last clause by the cut stream itself: "with room for the cut stream, writing all the segments gives it"
abbrev pub WholeStream : Type 0
WholeStream =
    (s : List ℕ) → Accepted s → (o : List ℕ) → length (cut_stream s) ≤ length o
    → ((run (stream_fields s) 0 o).answers ≡ replicate (segment_count s) accepted)
    × ((run (stream_fields s) 0 o).output ≡ cut_stream s ++ drop (length (cut_stream s)) o)

-- where write i begins is where the i writes before it ended
abbrev pub BeginsThere : Type 0
BeginsThere =
    (s : List ℕ) → Accepted s → (n i : ℕ) → i ≤ n → (o : List ℕ)
    → (run (take i (stream_fields s)) 0 o).position
    ≡ begin (run (take n (stream_fields s)) 0 o).answers (take n (map cut_segment (read_of s).pieces)) i
