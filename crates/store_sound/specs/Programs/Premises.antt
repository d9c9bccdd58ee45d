-- What theorems ask of a program's bases, and of limits within which programs are.
use Rattle.std.specs.Prelude.{◌≡◌, ◌≤◌, ◌-◌, ◌^◌, ℕ, true, Some, slice_get}
use Rattle.cc_base.specs.declared.limit_table.Limits.{Limits}
use Rattle.c_layout.specs.Models.{is_model}
use Rattle.c_layout.specs.declared.shapes.BaseInfo.{BaseInfo}
use Rattle.cfg.specs.declared.programs.Flow.{Flow}
use Rattle.cfg.specs.WellFormed.{is_well_formed}
use Rattle.store_objects.specs.LiveBases.{most_bases}
use Rattle.store_sound.specs.Operations.Shapes.{AreShaped, CountsOnce, SeesPadding, IsLaidOut}

-- sets of bases have a place for each base, and each value of the rows of a pool has a number of 64 bits
pub record AreHeld (limits : Limits) : Type 0 where
  pub bases : limits.bases ≤ most_bases
  pub pool : limits.pool ≤ 2 ^ 64 - 1

-- the bases of a program are such as the theorems on the store ask
pub record HasPremises (flow : Flow) : Type 0 where
  pub shaped : AreShaped flow.bases.items
  pub once : (b : ℕ) (base : BaseInfo) → slice_get flow.bases.items b ≡ Some base → CountsOnce flow.model base
  pub sized : (b : ℕ) (base : BaseInfo) → slice_get flow.bases.items b ≡ Some base → base.size ≤ 2 ^ 30
  pub model : is_model flow.model ≡ true
  pub padding : SeesPadding flow.model flow.bases.items
  pub laid : IsLaidOut flow flow.width
  -- temporaries stand at the end of a row, and each position in it is a number of 64 bits
  pub temps : flow.temps ≤ flow.width
  pub short : flow.width ≤ 2 ^ 64 - 1

abbrev pub MeetsPremises : Type 0
MeetsPremises = (limits : Limits) (flow : Flow) → AreHeld limits → is_well_formed limits flow ≡ true → HasPremises flow
