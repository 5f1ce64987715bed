-- How long lines are, and the line that is written field by field. Assumes nothing.
use mathlib.Core.Path.{◌≡◌, refl, sym, ap, ◌∙◌}
use mathlib.Core.List.{List, [], ◌∷◌, ◌++◌, map, append-nil}
use Prim.Native.Nat.{ℕ, ◌+◌, ◌*◌, ◌≤◌}
use native.Mathlib.Omega.{arith}
use lib.ListN.{length, take, drop, set, length-append, length-map, drop_of_length-le}
use lib.Seq.{drop-drop}
use Rattle.pgs_base.proofs.Front.{Front, begins, stored, filled}
use Rattle.pgs_reassembly.proofs.JoinLaws.{part-back}
use Rattle.pgs_set.specs.Sets.{sets_of, set_count}
use Rattle.pgs_cards.proofs.HexLaws.{hex-length}
use Rattle.pgs_cards.specs.Cards.{card_lines, card_of, hex, line_of, line_length, lines_of}
use Rattle.pgs_cards.specs.declared.card.Card.{Card}

pub line-length : (c : Card) → length (line_of c) ≡ line_length
unfolding line_of
line-length c = simp (length-append, hex-length)

pub lines-length : (cs : List Card) → length (lines_of cs) ≡ length cs * line_length
lines-length [] = refl
lines-length (c ∷ cs) = omega (arith, length-append (line_of c) (lines_of cs), line-length c, lines-length cs)

-- one more field of w digits is written
module _ (w n : ℕ) {start whole now rest : List ℕ} {k : ℕ} (f : Front start whole now (hex w n ++ rest) k) where
  pub puts-on : k + w ≤ length now → {new : List ℕ} → new ≡ take k now ++ (hex w n ++ drop (k + w) now) → Front start whole new rest (k + w)
  puts-on h e =
      rw (e ∙ ap (λ (l : List ℕ). take k now ++ (hex w n ++ l)) (sym (drop-drop w k now))) (part-back (hex w n) f (sym (hex-length w n)) h)

-- a line is written from its front to its end
pub line-written : (c : Card) (l : List ℕ) → length l ≡ line_length → {l1 l2 l3 l4 l5 l6 l7 l8 : List ℕ}
    → l1 ≡ take 0 l ++ (hex 8 c.place ++ drop 8 l)
    → l2 ≡ take 8 l1 ++ (hex 8 c.pts ++ drop 16 l1)
    → l3 ≡ take 16 l2 ++ (hex 4 c.pcs.composition_number ++ drop 20 l2)
    → l4 ≡ take 20 l3 ++ (hex 2 c.pcs.composition_state ++ drop 22 l3)
    → l5 ≡ take 22 l4 ++ (hex 2 c.pcs.palette_id ++ drop 24 l4)
    → l6 ≡ take 24 l5 ++ (hex 2 c.objects ++ drop 26 l5)
    → l7 ≡ take 26 l6 ++ (hex 4 c.pcs.width ++ drop 30 l6)
    → l8 ≡ take 30 l7 ++ (hex 4 c.pcs.height ++ drop 34 l7)
    → set l8 34 10 ≡ line_of c
unfolding line_of
line-written c l e e1 e2 e3 e4 e5 e6 e7 e8 =
    let f0 = begins l (line_of c) in
    let f1 = puts-on 8 c.place f0 (omega arith) e1 in
    let f2 = puts-on 8 c.pts f1 (omega (arith, f1.same)) e2 in
    let f3 = puts-on 4 c.pcs.composition_number f2 (omega (arith, f2.same)) e3 in
    let f4 = puts-on 2 c.pcs.composition_state f3 (omega (arith, f3.same)) e4 in
    let f5 = puts-on 2 c.pcs.palette_id f4 (omega (arith, f4.same)) e5 in
    let f6 = puts-on 2 c.objects f5 (omega (arith, f5.same)) e6 in
    let f7 = puts-on 4 c.pcs.width f6 (omega (arith, f6.same)) e7 in
    let f8 = puts-on 4 c.pcs.height f7 (omega (arith, f7.same)) e8 in
    filled (stored 10 f8 (omega (arith, f8.same)))
    ∙ ap (λ (r : List ℕ). line_of c ++ r) (drop_of_length-le l {i = length (line_of c)} (omega (arith, line-length c)))
    ∙ append-nil (line_of c)

pub card-lines-length : (s : List ℕ) → length (card_lines s) ≡ set_count s * line_length
card-lines-length s = lines-length (map card_of (sets_of s)) ∙ ap (λ (n : ℕ). n * line_length) (length-map (sets_of s) card_of)
