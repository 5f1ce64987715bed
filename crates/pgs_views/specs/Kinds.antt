-- The kinds of segments. 01, module 2: "Kinds: 14 PDS, 15 ODS, 16 PCS, 17 WDS, 80 END; any other is kept with its byte."
-- From US 2009/0185789, whose text is not at hand: 01 gives what is needed of it.
use Rattle.std.specs.Prelude.{ℕ, ◌≡◌, Bool, true, false, eqb}
use Rattle.pgs_base.specs.Outcome.{pick}
use Rattle.pgs_views.specs.declared.segment_type.SegmentType.{SegmentType}
use Rattle.pgs_views.specs.declared.segment_type.SegmentType.TheVariants.{Pds, Ods, Pcs, Wds, End, Other}

abbrev pub raw_of : SegmentType → ℕ
raw_of Pds = 0x14
raw_of Ods = 0x15
raw_of Pcs = 0x16
raw_of Wds = 0x17
raw_of End = 0x80
raw_of (Other v) = v

abbrev pub type_of : ℕ → SegmentType
type_of v =
    pick (eqb v 0x14) Pds
    (pick (eqb v 0x15) Ods (pick (eqb v 0x16) Pcs (pick (eqb v 0x17) Wds (pick (eqb v 0x80) End (Other v)))))

-- "any other is kept with its byte": a byte that is read as a kind is the kind's byte. `proofs/Views.antt` has the proof
abbrev pub KindKept : Type 0
KindKept = (v : ℕ) → raw_of (type_of v) ≡ v

abbrev pub is_pds : SegmentType → Bool
is_pds Pds = true
is_pds Ods = false
is_pds Pcs = false
is_pds Wds = false
is_pds End = false
is_pds (Other v) = false

abbrev pub is_ods : SegmentType → Bool
is_ods Pds = false
is_ods Ods = true
is_ods Pcs = false
is_ods Wds = false
is_ods End = false
is_ods (Other v) = false

abbrev pub is_pcs : SegmentType → Bool
is_pcs Pds = false
is_pcs Ods = false
is_pcs Pcs = true
is_pcs Wds = false
is_pcs End = false
is_pcs (Other v) = false

abbrev pub is_end : SegmentType → Bool
is_end Pds = false
is_end Ods = false
is_end Pcs = false
is_end Wds = false
is_end End = true
is_end (Other v) = false
