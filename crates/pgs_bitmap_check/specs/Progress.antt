-- How far the check of a bitmap has come, for the contracts of private functions.
use Rattle.std.specs.Prelude.{◌≡◌, List, ℕ, ◌+◌, ◌≤◌, ◌<◌, length, drop, eqb, Result, Ok, Err}
use Rattle.pgs_base.specs.Outcome.{Verdict, refused, pick}
use Rattle.pgs_base.specs.Refusals.{number_of}
use Rattle.pgs_base.specs.declared.refusal.Refusal.{Refusal}
use Rattle.pgs_run_length.specs.declared.code.Run.{Run}
use Rattle.pgs_bitmap_check.specs.Bitmap.{read_on}
use Rattle.pgs_base.specs.declared.dimensions.Dimensions.{Dimensions}
use Rattle.pgs_bitmap_check.specs.declared.bitmap.Place.{Place}

-- so many pixels further on in a line, after so many bytes
abbrev pub further : Place → (pixels bytes : ℕ) → Place
further place pixels bytes = record { lines = place.lines; column = place.column + pixels; at = place.at + bytes }

-- what reading on from a place comes to
abbrev pub verdict_from : List ℕ → Dimensions → Place → Verdict
verdict_from bytes size place = (read_on size.width size.height place.lines place.column (drop place.at bytes)).verdict

-- a place of the data, in a line that is not past the width, with no more lines ended than there are to be
pub record IsInside (bytes : List ℕ) (size : Dimensions) (place : Place) : Type 0 where
  pub within : place.at ≤ length bytes
  pub few : place.lines ≤ size.height
  pub narrow : place.column ≤ size.width

-- The check has come to a place: reading on from there comes to the verdict v.
pub record Reached (bytes : List ℕ) (size : Dimensions) (place : Place) (v : Verdict) : Type 0 where
  pub inside : IsInside bytes size place
  pub same : verdict_from bytes size place ≡ v

-- the place after a run; 24 where it passes the width
abbrev pub Ran : Dimensions → Place → Run → Result Place Refusal → Type 0
Ran size place run (Ok to) = (place.column + run.count ≤ size.width) × (to ≡ further place run.count run.taken)
Ran size place run (Err why) = (size.width < place.column + run.count) × (number_of why ≡ 24)

-- the place after the end of a line; 29 where the line has not the width, else 30 where all lines are there
abbrev pub Ended : Dimensions → Place → Result Place Refusal → Type 0
Ended size place (Ok to) =
    (place.column ≡ size.width) × (place.lines < size.height) × (to ≡ record { lines = place.lines + 1; column = 0; at = place.at + 2 })
Ended size place (Err why) =
    (place.column ≡ size.width → size.height ≤ place.lines) × (number_of why ≡ pick (eqb place.column size.width) 30 29)

-- The same where the width is not tested yet: more pixels than it come to 24.
pub record Untested (bytes : List ℕ) (size : Dimensions) (place : Place) (v : Verdict) : Type 0 where
  pub within : place.at ≤ length bytes
  pub few : place.lines ≤ size.height
  pub same : place.column ≤ size.width → verdict_from bytes size place ≡ v
  pub past : size.width < place.column → refused 24 ≡ v

-- from a place on runs lead to another
pub record Onward (bytes : List ℕ) (from to : Place) : Type 0 where
  pub order : from.at ≤ to.at
  pub leads : (size : Dimensions) (v : Verdict) → Untested bytes size from v → Untested bytes size to v
