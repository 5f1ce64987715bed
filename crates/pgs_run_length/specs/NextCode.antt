-- The code that a call of this crate found, as the format has it.
use Rattle.std.specs.Prelude.{Result, Ok, Err, Option, None, Some}
use Rattle.pgs_base.specs.Refusals.{number_of}
use Rattle.pgs_base.specs.declared.refusal.Refusal.{Refusal}
use Rattle.pgs_run_length.specs.RunLength.{run, line_end, FirstCode, none, found, truncated}
use Rattle.pgs_run_length.specs.declared.code.Code.{Code}
use Rattle.pgs_run_length.specs.declared.code.Code.TheVariants.{Run, LineEnd}

abbrev pub first_code : Result Code Refusal → FirstCode
first_code (Ok (Run r)) = found (run r.count r.color) r.taken
first_code (Ok LineEnd) = found line_end 2
first_code (Err why) = truncated (number_of why)

-- and where there may be none
abbrev pub code_at : Result (Option Code) Refusal → FirstCode
code_at (Ok None) = none
code_at (Ok (Some code)) = first_code (Ok code)
code_at (Err why) = first_code (Err why)
