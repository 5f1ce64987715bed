-- The text fits, so it is never refused.
use Rattle.std.specs.Prelude.{Result, Ok, Err}
use Rattle.std.specs.Result.{IsOk}
use Rattle.pgs_base.specs.Outcome.{accepted, outcome, Delivered}
use Rattle.pgs_base.specs.declared.refusal.Refusal.{Refusal}
use Rattle.pgs_cards.specs.Reports.{input_limit, report_of}
use Rattle.setcards.proofs.PrintLaws.{never-short, reported}
use Prim.Native.Nat.{ℕ}
use lib.ListN.{length}
use mathlib.Core.List.{List}
use mathlib.Core.Path.{◌≡◌, refl, ap}
use Rattle.setcards.proofs.report.Goals as goal

written : (s : List ℕ) {out out' : List ℕ} (r : Result ℕ Refusal) → length out ≡ input_limit
    → Delivered accepted (length (report_of s)) (report_of s) out out' (outcome r) → IsOk r
written s (Ok n) h d = refl
written s (Err w) h d = absurd (never-short s h d)

pub unwrap-requires : goal.unwrap-requires
unwrap-requires c = written c.args.input.now c.write_report.result c.requires c.write_report.ensures

pub returns : goal.returns
returns c = reported c.args.input.now (rw (ap outcome c.unwrap.ensures) at c.write_report.ensures)
