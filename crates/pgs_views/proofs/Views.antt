-- A byte that is read as a kind, a state or a fragment flag is that byte again: no two read alike. Assumes nothing.
use mathlib.Core.Path.{◌≡◌, refl, sym, ◌∙◌}
use mathlib.Core.Bool.{Bool, true, false}
use Prim.Native.Nat.{ℕ}
use borrow.Author.Tests.{eqb-true}
use lib.Dec.{eqb}
use Rattle.pgs_views.specs.Fragments.{raw_fragment, FragmentKept}
use Rattle.pgs_views.specs.Kinds.{raw_of, KindKept}
use Rattle.pgs_base.specs.Outcome.{pick}
use Rattle.pgs_views.specs.States.{raw_state, StateKept}

-- one test of a view: where it holds the byte is k, and the rest is as it may be
tested : {A : Type 0} (raw : A → ℕ) (v k : ℕ) (a rest : A) → raw a ≡ k → raw rest ≡ v → raw (pick (eqb v k) a rest) ≡ v
tested raw v k a rest e q = go (eqb v k) refl
  where
    go : (t : Bool) → eqb v k ≡ t → raw (pick t a rest) ≡ v
    go true h = e ∙ sym (eqb-true v k h)
    go false h = q

pub raw-type : KindKept
raw-type v =
    tested raw_of v 0x14 _ _ refl
    (tested raw_of v 0x15 _ _ refl (tested raw_of v 0x16 _ _ refl (tested raw_of v 0x17 _ _ refl (tested raw_of v 0x80 _ _ refl refl))))

pub raw-state : StateKept
raw-state v = tested raw_state v 0x00 _ _ refl (tested raw_state v 0x40 _ _ refl (tested raw_state v 0x80 _ _ refl refl))

pub raw-fragment : FragmentKept
raw-fragment v = tested raw_fragment v 0x80 _ _ refl (tested raw_fragment v 0x40 _ _ refl (tested raw_fragment v 0xC0 _ _ refl refl))
