-- What a call through the C interface answers and leaves.
use Rattle.std.specs.Prelude.{ℕ, ◌≡◌, List}
use Rattle.pgs_base.specs.Outcome.{Verdict, accepted, refused, laid, delivery}

-- the number that is answered: 0 where the call is accepted
abbrev pub code_of : Verdict → ℕ
code_of accepted = 0
code_of (refused k) = k

-- a parameter after the call: its new value where the call is accepted, else what it was
abbrev pub becomes : {A : Type 0} → Verdict → A → A → A
becomes accepted new old = new
becomes (refused k) new old = old

-- each parameter that a call may change is named as it was, and with a prime as it is
-- a call that fills a list and sets a count
pub record ListCall {A : Type 0} (verdict : Verdict) (new list list' : List A) (n count count' r : ℕ) : Type 0 where
  pub code : r ≡ code_of (delivery verdict new list)
  pub listed : list' ≡ laid (delivery verdict new list) new list
  pub counted : count' ≡ becomes (delivery verdict new list) n count

-- and sets the numbers of a body too, as cells
pub record NumbersCall {A : Type 0} (verdict : Verdict) (new list list' : List A) (cells was now : List ℕ) (n count count' r : ℕ) : Type 0 where
  pub call : ListCall verdict new list list' n count count' r
  pub numbers : now ≡ becomes (delivery verdict new list) cells was
