-- What the program writes. No contract can say what is read or printed, so this speaks of the input and of the buffer that is printed.
use Rattle.std.specs.Prelude.{ℕ, ◌≡◌, List, length}
use Rattle.pgs_base.specs.Outcome.{accepted, laid}
use Rattle.pgs_cards.specs.Reports.{report_of}

-- the front of the buffer, of n bytes, is what is printed for the input s
pub record Reported (s out out' : List ℕ) (n : ℕ) : Type 0 where
  pub counted : n ≡ length (report_of s)
  pub written : out' ≡ laid accepted (report_of s) out
