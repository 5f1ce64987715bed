-- Fields that stand one after another: each is a width in bytes and a number.
use Rattle.std.specs.Prelude.{ℕ, ◌^◌, Bool, true, false, List, [], ◌∷◌, ◌++◌, ltb}
use Rattle.pgs_base.specs.Bytes.{bytes_of}
use Rattle.pgs_base.specs.Outcome.{pick}

-- a width, and the number
abbrev pub Field : Type 0
Field = ℕ × ℕ

-- their bytes
abbrev pub written : List Field → List ℕ
written [] = []
written (f ∷ fs) = bytes_of f.0 f.1 ++ written fs

-- whether each number fits its width
abbrev pub all_fit : List Field → Bool
all_fit [] = true
all_fit (f ∷ fs) = pick (ltb f.1 (256 ^ f.0)) (all_fit fs) false

-- whether a test holds of each element
abbrev pub each : {A : Type 0} → (A → Bool) → List A → Bool
each test [] = true
each test (a ∷ rest) = pick (test a) (each test rest) false

-- the bytes of records, end to end
abbrev pub record_bytes : {A : Type 0} → (A → List Field) → List A → List ℕ
record_bytes fields [] = []
record_bytes fields (a ∷ rest) = written (fields a) ++ record_bytes fields rest
