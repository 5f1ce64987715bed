-- The place of a fragment in its object. 01, module 3: "Flag 80 is first, 40 last, C0 both; any other is a middle fragment."
-- From US 2009/0185789, whose text is not at hand: 01 gives what is needed of it.
use Rattle.std.specs.Prelude.{ℕ, ◌≡◌, Bool, true, false, eqb}
use Rattle.pgs_base.specs.Outcome.{pick}
use Rattle.pgs_views.specs.declared.fragment_flag.FragmentFlag.{FragmentFlag}
use Rattle.pgs_views.specs.declared.fragment_flag.FragmentFlag.TheVariants.{First, Last, FirstAndLast, Other}

abbrev pub raw_fragment : FragmentFlag → ℕ
raw_fragment First = 0x80
raw_fragment Last = 0x40
raw_fragment FirstAndLast = 0xC0
raw_fragment (Other v) = v

abbrev pub fragment_of : ℕ → FragmentFlag
fragment_of v = pick (eqb v 0x80) First (pick (eqb v 0x40) Last (pick (eqb v 0xC0) FirstAndLast (Other v)))

-- "Each state and flag byte is kept, so that no two read alike": a byte that is read as a fragment flag is the flag's byte.
-- `proofs/Views.antt` has the proof
abbrev pub FragmentKept : Type 0
FragmentKept = (v : ℕ) → raw_fragment (fragment_of v) ≡ v

abbrev pub is_first : FragmentFlag → Bool
is_first First = true
is_first Last = false
is_first FirstAndLast = true
is_first (Other v) = false

abbrev pub is_last : FragmentFlag → Bool
is_last First = false
is_last Last = true
is_last FirstAndLast = true
is_last (Other v) = false
