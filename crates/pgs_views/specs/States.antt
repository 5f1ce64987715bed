-- The states of a composition. 01, module 3: "state 1 (00 normal, 40 acquisition point, 80 epoch start, others kept)".
-- From US 2009/0185789, whose text is not at hand: 01 gives what is needed of it.
use Rattle.std.specs.Prelude.{ℕ, ◌≡◌, eqb}
use Rattle.pgs_base.specs.Outcome.{pick}
use Rattle.pgs_views.specs.declared.composition_state.CompositionState.{CompositionState}
use Rattle.pgs_views.specs.declared.composition_state.CompositionState.TheVariants.{Normal, AcquisitionPoint, EpochStart, Other}

abbrev pub raw_state : CompositionState → ℕ
raw_state Normal = 0x00
raw_state AcquisitionPoint = 0x40
raw_state EpochStart = 0x80
raw_state (Other v) = v

abbrev pub state_of : ℕ → CompositionState
state_of v = pick (eqb v 0x00) Normal (pick (eqb v 0x40) AcquisitionPoint (pick (eqb v 0x80) EpochStart (Other v)))

-- 01, module 3: "Each state and flag byte is kept, so that no two read alike": a byte that is read as a state is the state's byte.
-- `proofs/Views.antt` has the proof
abbrev pub StateKept : Type 0
StateKept = (v : ℕ) → raw_state (state_of v) ≡ v
