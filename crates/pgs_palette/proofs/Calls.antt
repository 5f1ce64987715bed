-- Calls over a lent palette table that is long enough: its first 1,024 bytes are lent as an array, and what is behind them stays.
-- Assumes nothing.
use Rattle.std.proofs.Common.{◌≡◌, sym, ap, ◌∙◌, subst, ℕ, ◌≤◌, ◌<◌, Bool, List, ◌++◌, length, drop, replicate, Option, Some, take-append-drop}
use Rattle.std.specs.Option.{MatchOption}
use Rattle.std.specs.Array.{IsFirstChunk}
use denote.MutBor.{MutBor}
use borrow.Author.Tests.{le-leb}
use lib.Seq.{length-take-le}
use Rattle.pgs_base.specs.Outcome.{accepted, unless, pick}
use Rattle.pgs_color.specs.Bytes.{rgb_of}
use Rattle.pgs_palette.specs.Palette.{Entry, applying}
use Rattle.pgs_palette.specs.Table.{laid, cleared, Updates}
use Rattle.pgs_palette.proofs.Laying.{laid-front, laid-other, laid-named}

done : (change : List ℕ → List ℕ) (t after : List ℕ) → 1024 ≤ length t → after ≡ change t → Updates change accepted t after
done change t after h e = record { verdict = ap (unless 34) (sym (le-leb 1024 (length t) h)); table = e ∙ ap (λ (b : Bool). pick b (change t) t) (sym (le-leb 1024 (length t) h)) }

-- the array that was lent
pub lent : (t : List ℕ) {o : Option (MutBor (List ℕ))} {a : MutBor (List ℕ)}
    → MatchOption o (length t < 1024) (λ y. IsFirstChunk t y.now 1024) → o ≡ Some a → IsFirstChunk t a.now 1024
lent t cases is = subst (λ (o : Option (MutBor (List ℕ))). MatchOption o (length t < 1024) (λ y. IsFirstChunk t y.now 1024)) is cases

module _ {t now : List ℕ} (first : IsFirstChunk t now 1024) where
  -- zeros are stored in it
  pub cleared-call : {new : List ℕ} → new ≡ replicate (length now) 0 → Updates cleared accepted t (new ++ drop 1024 t)
  unfolding cleared
  cleared-call {new} e =
      let size : length now ≡ 1024 = ap length first.same ∙ length-take-le 1024 t first.enough in
      done cleared t (new ++ drop 1024 t) first.enough (ap (λ (l : List ℕ). l ++ drop 1024 t) (e ∙ ap (λ (n : ℕ). replicate n 0) size))

  -- the entries are laid over it, where the PCS names their palette
  pub laid-call : (es : List Entry) (named palette : ℕ) {new : List ℕ} → palette ≡ named → new ≡ laid rgb_of es now
      → Updates (laid rgb_of (applying named palette es)) accepted t (new ++ drop 1024 t)
  laid-call es named palette {new} h e =
      done (laid rgb_of (applying named palette es)) t (new ++ drop 1024 t) first.enough
      (laid-named rgb_of named palette es t (new ++ drop 1024 t) h
      (ap (λ (l : List ℕ). l ++ drop 1024 t) (e ∙ ap (laid rgb_of es) first.same) ∙ laid-front rgb_of es t first.enough))

  -- nothing is laid over it, where the PCS names another
  pub kept-call : (es : List Entry) (named palette : ℕ) → (palette ≡ named → ⊥) → Updates (laid rgb_of (applying named palette es)) accepted t (now ++ drop 1024 t)
  kept-call es named palette h =
      done (laid rgb_of (applying named palette es)) t (now ++ drop 1024 t) first.enough
      (ap (λ (l : List ℕ). l ++ drop 1024 t) first.same ∙ take-append-drop 1024 t ∙ laid-other rgb_of named palette es t h)
