-- The ids of palette entries are bytes, so that a table of 256 colours holds them all. Assumes nothing.
use mathlib.Core.Path.{◌≡◌, refl, ◌∙◌}
use mathlib.Core.Bool.{Bool, true, false}
use mathlib.Core.List.{List, [], ◌∷◌, map}
use mathlib.Core.Option.{none, some}
use Prim.Native.Nat.{ℕ, zero, suc, ◌≤◌, ◌<◌}
use native.Mathlib.Omega.{arith}
use borrow.Author.Tests.{ne_eqb}
use lib.Dec.{eqb}
use lib.ListN.{take, drop}
use Rattle.pgs_base.specs.Bytes.{big, num, Bytes}
use Rattle.pgs_base.specs.Outcome.{pick}
use Rattle.pgs_base.proofs.Digits.{bytes_take, bytes_drop}
use Rattle.pgs_palette.specs.Palette.{entry_of, lookup, or_else}
use Rattle.pgs_palette.proofs.Laying.{lookup-append}
use Rattle.pgs_segment.specs.Header.{size_of}
use Rattle.pgs_segment.specs.OneSegment.{segment_type, body_at}
use Rattle.pgs_pds.specs.PdsBody as pds
use Rattle.pgs_records.specs.Records.{records}
use Rattle.pgs_stream.proofs.ReadingLaws.{Each, pieces-bytes}
use Rattle.pgs_set.specs.Sets.{is_end, through_end}
use Rattle.pgs_set.specs.Walks.{pieces_at}
use Rattle.pgs_rendering.specs.Palettes.{is_pds, entries_in, entries_named, entries_among}

pub num-one : (at : ℕ) (l : List ℕ) → Bytes l → num 1 at l < 256
unfolding num
num-one at l h = go (drop at l) (bytes_drop at l h)
  where
    go : (t : List ℕ) → Bytes t → big (take 1 t) < 256
    go [] b = omega arith
    go (x ∷ t) b = omega (arith, b 0)

pub through-bytes : (xs : List (List ℕ)) → Each Bytes xs → Each Bytes (through_end xs)
through-bytes [] h = tt
through-bytes (x ∷ xs) h = (h.0, go (is_end (segment_type x)) (through-bytes xs h.1))
  where
    go : (b : Bool) → Each Bytes (through_end xs) → Each Bytes (pick b [] (through_end xs))
    go true ih = tt
    go false ih = ih

module _ (i : ℕ) (past : 256 ≤ i) where
  none_of : (n : ℕ) (l : List ℕ) → Bytes l → lookup (map entry_of (map pds.entry_row (records pds.entry_of pds.entry_size n l))) i ≡ none
  none_of zero l h = refl
  none_of (suc n) l h =
      λ j.
      or_else (none_of n (drop 5 l) (bytes_drop 5 l h) j)
      (pick (ne_eqb (num 1 0 l) i (λ e. omega (arith, num-one 0 l h)) j) (some (entry_of (pds.entry_row (pds.entry_of l)))) none)

  none_in : (body : List ℕ) → Bytes body → lookup (entries_in body) i ≡ none
  unfolding pds.entry_rows
  none_in body h = none_of (pds.entry_count body) (drop 2 body) (bytes_drop 2 body h)

  none_named : (named : ℕ) (body : List ℕ) → Bytes body → lookup (entries_named named body) i ≡ none
  none_named named body h = go (eqb (num 1 0 body) named) (none_in body h)
    where
      go : (b : Bool) → lookup (entries_in body) i ≡ none → lookup (pick b (entries_in body) []) i ≡ none
      go true e = e
      go false e = refl

  none-among : (named : ℕ) (xs : List (List ℕ)) → Each Bytes xs → lookup (entries_among named xs) i ≡ none
  none-among named [] h = refl
  none-among named (x ∷ xs) h =
      lookup-append (pick (is_pds (segment_type x)) (entries_named named (body_at x)) []) (entries_among named xs) i
      ∙ (λ j. or_else (none-among named xs h.1 j) (this (is_pds (segment_type x)) j))
    where
      bytes : Bytes (body_at x)
      bytes = bytes_take (size_of x) (drop 13 x) (bytes_drop 13 x h.0)

      this : (b : Bool) → lookup (pick b (entries_named named (body_at x)) []) i ≡ none
      this true = none_named named (body_at x) bytes
      this false = refl

-- no entry of a set has an id past 255
pub few-ids : (named : ℕ) (s : List ℕ) (from : ℕ) → Bytes s → (i : ℕ) → 256 ≤ i → lookup (entries_among named (through_end (pieces_at s from))) i ≡ none
few-ids named s from h i past =
    none-among i past named (through_end (pieces_at s from)) (through-bytes (pieces_at s from) (pieces-bytes (drop from s) (bytes_drop from s h)))
