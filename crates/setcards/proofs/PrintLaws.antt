-- The text fits the buffer. Assumes nothing.
use mathlib.Core.Path.{◌≡◌, sym, ap, ◌∙◌}
use mathlib.Core.List.{List}
use Prim.Native.Nat.{ℕ}
use native.Mathlib.Omega.{arith}
use borrow.Author.Tests.{le-leb}
use lib.ListN.{length}
use Rattle.pgs_base.specs.Outcome.{Verdict, accepted, refused, gives, refuses, laid, unless, Delivered}
use Rattle.pgs_base.proofs.Outcomes.{delivered, delivered-value, delivered-refusal}
use Rattle.pgs_cards.specs.Reports.{input_limit, report_of}
use Rattle.pgs_cards.proofs.ReportLaws.{report-short}
use Rattle.setcards.specs.Printing.{Reported}

module _ (s : List ℕ) {out out' : List ℕ} where
  -- it was written
  pub reported : {n : ℕ} → Delivered accepted (length (report_of s)) (report_of s) out out' (gives n) → Reported s out out' n
  reported d = record { counted = delivered-value d; written = d.written ∙ ap (λ (v : Verdict). laid v (report_of s) out) (delivered d) }

  -- it cannot be refused
  pub never-short : {k : ℕ} → length out ≡ input_limit → Delivered accepted (length (report_of s)) (report_of s) out out' (refuses k) → ⊥
  never-short {k} e d =
      let q : accepted ≡ refused k
      = sym (ap (unless 34) (le-leb (length (report_of s)) (length out) (omega (arith, report-short s)))) ∙ delivered-refusal d in
      let z : ◌≡◌ {A = ℕ} 0 1 = cc in omega arith
