-- The steps of painting a display set. Private contracts cite these; that of `render` cites `Rendering`.
use Rattle.std.specs.Prelude.{◌≡◌, List, ℕ, ◌+◌, ◌*◌, ◌≤◌, length}
use Rattle.pgs_base.specs.Outcome.{Verdict, accepted, laid}
use Rattle.pgs_color.specs.Bytes.{rgb_of}
use Rattle.pgs_reassembly.specs.Objects.{Chain, chains_of, fragments_of, fragments_verdict, object_limit}
use Rattle.pgs_set.specs.Sets.{DisplaySet}
use Rattle.pgs_reassembly.specs.Reassembly.{joined_data, object_records}
use Rattle.pgs_reassembly.specs.declared.ObjectRecord.{ObjectRecord}
use Rattle.pgs_rendering.specs.Images.{look_in, area_of}
use Rattle.pgs_rendering.specs.Rendering.{composition_of, colors_in, picture_of, content_verdict, left_by}

-- the objects of a set
abbrev pub objects_in : DisplaySet → List Chain
objects_in d = chains_of (fragments_of d)

-- a set that 16 to 23 do not refuse, with the records of its objects
pub record Listed (d : DisplaySet) (rs : List ObjectRecord) : Type 0 where
  pub taken : fragments_verdict object_limit (fragments_of d) ≡ accepted
  pub objects : rs ≡ object_records (objects_in d)

-- joining the data and testing 24 to 33, with this verdict
pub record JoinedAndRead (d : DisplaySet) (scratch scratch' : List ℕ) (verdict : Verdict) : Type 0 where
  pub content : verdict ≡ content_verdict d (objects_in d)
  pub joined : scratch' ≡ laid accepted (joined_data (objects_in d)) scratch

-- what storing the bitmaps and painting need: 24 to 34 do not refuse the set, and its data is joined
pub record Ready (d : DisplaySet) (joined : ℕ) (scratch plane : List ℕ) : Type 0 where
  pub content : content_verdict d (objects_in d) ≡ accepted
  pub size : joined ≡ length (joined_data (objects_in d))
  pub begins : scratch ≡ laid accepted (joined_data (objects_in d)) scratch
  pub room : joined + area_of (objects_in d) ≤ length scratch
  pub plane_room : 4 * (composition_of d).width * (composition_of d).height ≤ length plane

-- the scratch and the plane after that
pub record Showing (d : DisplaySet) (scratch scratch' plane plane' : List ℕ) : Type 0 where
  pub stored : scratch' ≡ laid accepted (left_by accepted (objects_in d)) scratch
  pub shown : plane' ≡ laid accepted (picture_of (colors_in rgb_of d) (look_in (objects_in d)) d) plane
