-- A head is the same, whatever follows it. Assumes nothing.
use mathlib.Core.Path.{◌≡◌}
use mathlib.Core.List.{List}
use Prim.Native.Nat.{ℕ, ◌+◌, ◌≤◌}
use native.Mathlib.Omega.{arith}
use lib.ListN.{length, take}
use Rattle.pgs_base.specs.Bytes.{num}
use Rattle.pgs_base.proofs.Bytes.{num-take}
use Rattle.pgs_segment.specs.Header.{header_fields}

pub own-head : (n : ℕ) (l : List ℕ) → 13 ≤ n → n ≤ length l → header_fields (take n l) ≡ header_fields l
own-head n l h w =
    let field : (k p : ℕ) → p + k ≤ 13 → num k p (take n l) ≡ num k p l = λ k p q. num-take k p n l (omega arith) w in
    λ j. record {
      pts = field 4 2 (omega arith) j;
      dts = field 4 6 (omega arith) j;
      segment_type = field 1 10 (omega arith) j;
      segment_size = field 2 11 (omega arith) j;
    }
