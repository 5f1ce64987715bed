-- Every starred sample: what the definitions answer is what the table says, by computing them.
use mathlib.Core.Path.{◌≡◌, refl}
use mathlib.Core.List.{map}
use lib.Ieee.{le, add, sub, mul, of_int, div, to_unsigned}
use Rattle.pgs_base.specs.Bytes.{num}
use Rattle.pgs_run_length.specs.RunLength.{codes_of}
use Rattle.pgs_stream.specs.Stream.{read_of}
use Rattle.pgs_set.specs.Sets.{sets_of}
use Rattle.pgs_reassembly.specs.Objects.{objects_of}
use Rattle.pgs_samples.specs.Samples.{Sample, answer_of, starred}

pub right : map (λ (s : Sample). answer_of s.question) starred ≡ map (λ (s : Sample). s.answer) starred
unfolding num codes_of read_of sets_of objects_of le add sub mul of_int div to_unsigned
right = refl
