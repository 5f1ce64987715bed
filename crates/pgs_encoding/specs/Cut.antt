-- The cut stream, from the bytes alone. 01: "A cut segment is a segment's first 11 bytes, the kept body's length in 2, then the kept
-- body: of a PCS 11 bytes, the last being the count, and 8 per placement, 16 if its fourth byte is 40; of a WDS the count and 9 per
-- window; else all. In order they make the cut stream." What is cut off is the tail.
use Rattle.std.specs.Prelude.{ℕ, zero, suc, ◌+◌, ◌*◌, List, ◌++◌, map, eqb, length, take, drop, get_or}
use Rattle.pgs_base.specs.Bytes.{bytes_of}
use Rattle.pgs_base.specs.Outcome.{pick}
use Rattle.pgs_stream.specs.Stream.{read_of, joined}

-- the bytes of one placement: 8, 16 if its fourth byte is 40
abbrev pub kept_placement : List ℕ → ℕ
kept_placement l = pick (eqb (get_or l 3 0) 0x40) 16 8

-- and of n placements
abbrev pub kept_placements : ℕ → List ℕ → ℕ
kept_placements zero l = 0
kept_placements (suc n) l = kept_placement l + kept_placements n (drop (kept_placement l) l)

-- how many bytes of a body of this kind are kept
abbrev pub kept : ℕ → List ℕ → ℕ
kept kind b =
    pick (eqb kind 0x16) (11 + kept_placements (get_or b 10 0) (drop 11 b)) (pick (eqb kind 0x17) (1 + 9 * get_or b 0 0) (length b))

-- a segment x, cut; its kind is its byte 10 and its body follows 13 bytes
unfoldable pub cut_segment : List ℕ → List ℕ
cut_segment x =
    take 11 x ++ bytes_of 2 (kept (get_or x 10 0) (drop 13 x)) ++ take (kept (get_or x 10 0) (drop 13 x)) (drop 13 x)

-- the segments of a stream, cut, in order
abbrev pub cut_stream : List ℕ → List ℕ
cut_stream s = joined (map cut_segment (read_of s).pieces)
