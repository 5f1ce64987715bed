-- What a call comes to. 01, 'Why a call is turned down': "A refusal returns its number only."
use Rattle.std.specs.Prelude.{ℕ, ◌≡◌, Bool, true, false, List, ◌++◌, length, drop, leb, Result, Ok, Err}
use Rattle.pgs_base.specs.Refusals.{number_of}
use Rattle.pgs_base.specs.declared.refusal.Refusal.{Refusal}

-- whether input is taken, or the number of why it is not
pub data Verdict : Type 0 where
  accepted : Verdict
  refused : ℕ → Verdict

-- the values of an accepted call, or the number of a refused one
pub data Outcome (A : Type 0) : Type 0 where
  gives : A → Outcome A
  refuses : ℕ → Outcome A

-- what a call's answer says: its values, or the number of why it was refused
abbrev pub outcome : {A : Type 0} → Result A Refusal → Outcome A
outcome (Ok a) = gives a
outcome (Err r) = refuses (number_of r)

-- what an answer says where its values do not matter, or where it has none
abbrev pub verdict_of : {A : Type 0} → Result A Refusal → Verdict
verdict_of (Ok a) = accepted
verdict_of (Err r) = refused (number_of r)

-- the values where the verdict accepts, else its number
abbrev pub outcome_of : {A : Type 0} → Verdict → A → Outcome A
outcome_of accepted a = gives a
outcome_of (refused k) a = refuses k

-- the first of two verdicts that refuses decides
abbrev pub and_then : Verdict → Verdict → Verdict
and_then accepted v = v
and_then (refused k) v = refused k

-- accepted where the test holds, else refused with this number
abbrev pub unless : ℕ → Bool → Verdict
unless k true = accepted
unless k false = refused k

-- the first where the test holds, else the second
abbrev pub pick : {A : Type 0} → Bool → A → A → A
pick true a b = a
pick false a b = b

abbrev pub is_accepted : Verdict → Bool
is_accepted accepted = true
is_accepted (refused k) = false

-- 34: "a lent buffer or list is too short"
abbrev pub needing : ℕ → ℕ → Verdict
needing need room = unless 34 (leb need room)

-- a lent list or buffer after a call that writes `new`. 01: "An accepted call changes only the bytes or records it needs", "A
-- refused call changes nothing, save painting refused by 24 to 33", which has a definition of its own
abbrev pub laid : {A : Type 0} → Verdict → List A → List A → List A
laid accepted new old = new ++ drop (length new) old
laid (refused k) new old = old

-- the verdict of a call that writes `new` to the front of a lent list or buffer that holds `before`. 01: "Everywhere else 34 is
-- last"; the need is the length of what is written
abbrev pub delivery : {A : Type 0} → Verdict → List A → List A → Verdict
delivery verdict new before = and_then verdict (needing (length new) (length before))

-- what such a call promises: it reads input of this verdict and answers `value`; the list or buffer then holds `after`
pub record Delivered {A X : Type 0} (verdict : Verdict) (value : X) (new before after : List A) (answer : Outcome X) : Type 0 where
  pub answered : answer ≡ outcome_of (delivery verdict new before) value
  pub written : after ≡ laid (delivery verdict new before) new before
