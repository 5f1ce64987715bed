-- What an answer of `next_code` for what is left of a list from a place on says of the code at the place.
-- Assumes nothing.
use mathlib.Core.Path.{◌≡◌, sym, ap, ◌∙◌}
use mathlib.Core.List.{List}
use Prim.Native.Nat.{ℕ, ◌-◌}
use lib.ListN.{length, take, drop}
use Rattle.std.specs.Prelude.{Result, Option, None, Some, Ok, Err}
use Rattle.pgs_base.proofs.Lists.{to_end}
use Rattle.pgs_base.specs.Refusals.{number_of}
use Rattle.pgs_base.specs.declared.refusal.Refusal.{Refusal}
use Rattle.pgs_run_length.specs.RunLength.{none, truncated, code_of}
use Rattle.pgs_run_length.specs.NextCode.{first_code, code_at}
use Rattle.pgs_run_length.specs.declared.code.Code.{Code}

module _ (l : List ℕ) (at : ℕ) {answer : Result (Option Code) Refusal} (e : code_at answer ≡ code_of (take (length l - at) (drop at l))) where
  answered : {same : Result (Option Code) Refusal} → answer ≡ same → code_of (drop at l) ≡ code_at same
  answered is = ap code_of (sym (to_end at l)) ∙ sym e ∙ ap code_at is

  pub answered-code : {code same : Code} → answer ≡ Ok (Some code) → code ≡ same → code_of (drop at l) ≡ first_code (Ok same)
  answered-code is q = answered (is ∙ ap (λ (c : Code). Ok (Some c)) q)

  pub answered-none : answer ≡ Ok None → code_of (drop at l) ≡ none
  answered-none is = answered is

  pub answered-error : {why : Refusal} → answer ≡ Err why → code_of (drop at l) ≡ truncated (number_of why)
  answered-error is = answered is
