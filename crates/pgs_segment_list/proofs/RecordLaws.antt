-- The records that the reading makes of heads are those of the rows. Assumes nothing.
use Rattle.std.proofs.Common.{◌≡◌, refl, ap, List, [], ◌∷◌, map, ℕ, ◌+◌, length}
use Rattle.pgs_segment.specs.Header.{header_fields}
use Rattle.pgs_stream.specs.Stream.{head_row, records_from, records_of, read_of}
use Rattle.pgs_segment_list.specs.Segments.{record_of, record_at, segment_records}

of-rows : (at : ℕ) (xs : List (List ℕ)) → records_from record_at at xs ≡ map record_of (records_from head_row at xs)
of-rows at [] = refl
of-rows at (x ∷ xs) = ap (◌∷◌ (record_at at (header_fields x))) (of-rows (at + length x) xs)

pub records-of-rows : (s : List ℕ) → records_of record_at s ≡ segment_records s
unfolding records_of segment_records
records-of-rows s = of-rows 0 (read_of s).pieces
