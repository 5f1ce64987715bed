-- Windows, entries and placements: each is written back from what was read, and read back from what was written. Assumes nothing.
use Rattle.pgs_pcs.specs.declared.pcs.CompositionObjectCrop.{CompositionObjectCrop}
use Rattle.std.specs.Prelude.{Option, None, Some}
use mathlib.Core.Path.{◌≡◌, refl, sym, ap, ◌∙◌}
use mathlib.Core.Bool.{Bool, true, false}
use mathlib.Core.List.{List, [], ◌∷◌, ◌++◌}
use Prim.Native.Nat.{ℕ, ◌≤◌}
use native.Mathlib.Omega.{arith}
use borrow.Author.Tests.{not-true}
use lib.Dec.{eqb}
use lib.ListN.{length, take, get_or}
use Rattle.pgs_base.specs.Bytes.{Bytes}
use Rattle.pgs_pcs.specs.PcsBody.{cropped, cropping_of, placement_of, placement_size}
use Rattle.pgs_records.proofs.RecordLaws.{first_fits, rest-fits}
use Rattle.pgs_pcs.specs.declared.pcs.CompositionObject.{CompositionObject}
use Rattle.pgs_pds.specs.declared.pds.PaletteEntry.{PaletteEntry}
use Rattle.pgs_wds.specs.declared.wds.Window.{Window}
use Rattle.pgs_encoding.specs.Encode.{window_fields, entry_fields, placement_fields}
use Rattle.pgs_encoding.specs.Layout.{written, all_fit}
use Rattle.pgs_encoding.specs.Writable.{crop_where, placement_writable}
use Rattle.pgs_encoding.proofs.LayoutLaws.{values, length-written, read-fields, write-fields, fit-fields}
use Rattle.pgs_encoding.proofs.RecordBytes.{RecordKind, of_widths}

-- a window and an entry, of their numbers
abbrev window_made : List ℕ → Window
window_made n =
    record {
      window_id = get_or n 0 0;
      horizontal_position = get_or n 1 0;
      vertical_position = get_or n 2 0;
      width = get_or n 3 0;
      height = get_or n 4 0;
    }

abbrev entry_made : List ℕ → PaletteEntry
entry_made n = record { palette_entry_id = get_or n 0 0; y = get_or n 1 0; cr = get_or n 2 0; cb = get_or n 3 0; alpha = get_or n 4 0 }

abbrev pub windows : RecordKind Window
windows = of_widths window_fields window_made (1 ∷ 2 ∷ 2 ∷ 2 ∷ 2 ∷ []) (λ w. refl) (λ w. refl) (λ l. refl)

abbrev pub entries : RecordKind PaletteEntry
entries = of_widths entry_fields entry_made (1 ∷ 1 ∷ 1 ∷ 1 ∷ 1 ∷ []) (λ e. refl) (λ e. refl) (λ l. refl)

-- placements, with and without a crop
abbrev plain_widths : List ℕ
plain_widths = 2 ∷ 1 ∷ 1 ∷ 2 ∷ 2 ∷ []

abbrev cropped_widths : List ℕ
cropped_widths = 2 ∷ 1 ∷ 1 ∷ 2 ∷ 2 ∷ 2 ∷ 2 ∷ 2 ∷ 2 ∷ []

pub placement-kept : (l : List ℕ) → Bytes l → placement_size l ≤ length l
    → (written (placement_fields (placement_of l)) ≡ take (placement_size l) l) × (placement_writable (placement_of l) ≡ true)
placement-kept l h q = go (cropped l) refl
  where
    go : (t : Bool) → cropped l ≡ t
        → (written (placement_fields (placement_of l)) ≡ take (placement_size l) l) × (placement_writable (placement_of l) ≡ true)
    go true e =
        let room : 16 ≤ length l = rw e at q in
        (simp e (write-fields cropped_widths 0 l h (omega arith)), simp e (fit-fields cropped_widths 0 l h (omega arith)))
    go false e =
        let room : 8 ≤ length l = rw e at q in
        (simp e (write-fields plain_widths 0 l h (omega arith)), simp e (fit-fields plain_widths 0 l h (omega arith)))

pub placement-read : (p : CompositionObject) (r : List ℕ) → placement_writable p ≡ true
    → (placement_size (written (placement_fields p) ++ r) ≡ length (written (placement_fields p))) × (placement_of (written (placement_fields p) ++ r) ≡ p)
placement-read p r = go p.cropping
  where
    -- the numbers, with this crop
    made : List ℕ → Option CompositionObjectCrop → CompositionObject
    made n c =
        record {
          object_id = get_or n 0 0;
          window_id = get_or n 1 0;
          object_cropped_flag = get_or n 2 0;
          object_horizontal_position = get_or n 3 0;
          object_vertical_position = get_or n 4 0;
          cropping = c;
        }

    with_crop : Option CompositionObjectCrop → CompositionObject
    with_crop = made (values (placement_fields p))

    test : Bool
    test = eqb p.object_cropped_flag 0x40

    crop : List ℕ → Option CompositionObjectCrop
    crop n =
        Some
        (record { horizontal_position = get_or n 5 0; vertical_position = get_or n 6 0; width = get_or n 7 0; height = get_or n 8 0 })

    go : (c : Option CompositionObjectCrop) → placement_writable (with_crop c) ≡ true
        → (placement_size (written (placement_fields (with_crop c)) ++ r) ≡ length (written (placement_fields (with_crop c))))
        × (placement_of (written (placement_fields (with_crop c)) ++ r) ≡ with_crop c)
    go None ok =
        let fs = placement_fields (with_crop None) in
        let numbers = read-fields fs [] r 0 refl (rest-fits (crop_where test None) (all_fit fs) ok) in
        let flag : test ≡ false = not-true _ (first_fits (crop_where test None) (all_fit fs) ok) in
        let plain : cropped (written fs ++ r) ≡ false = ap (λ (n : List ℕ). eqb (get_or n 2 0) 0x40) numbers ∙ flag in
        let none : cropping_of (written fs ++ r) ≡ None = simp plain in
        (simp plain (sym (length-written fs)), ap (λ (n : List ℕ). made n (cropping_of (written fs ++ r))) numbers ∙ ap (made (values fs)) none)
    go (Some c) ok =
        let fs = placement_fields (with_crop (Some c)) in
        let numbers = read-fields fs [] r 0 refl (rest-fits (crop_where test (Some c)) (all_fit fs) ok) in
        let flag : test ≡ true = first_fits (crop_where test (Some c)) (all_fit fs) ok in
        let has : cropped (written fs ++ r) ≡ true = ap (λ (n : List ℕ). eqb (get_or n 2 0) 0x40) numbers ∙ flag in
        let one : cropping_of (written fs ++ r) ≡ Some c = simp has (ap crop numbers) in
        (simp has (sym (length-written fs)), ap (λ (n : List ℕ). made n (cropping_of (written fs ++ r))) numbers ∙ ap (made (values fs)) one)

abbrev pub placements : RecordKind CompositionObject
placements =
    record {
      fields = placement_fields;
      read = placement_of;
      size = placement_size;
      test = placement_writable;
      kept = placement-kept;
      again = placement-read;
    }
