-- Arrays that are followed for their first zeros and share no byte.
use Rattle.std.specs.Prelude.{◌≡◌, ℕ, ◌+◌, ◌<◌, ◌≤◌, true, Option, Some, None, List, slice_get}
use Rattle.cc_base.specs.declared.limit_table.Limits.{Limits}
use Rattle.c_layout.specs.declared.shapes.BaseInfo.{BaseInfo}
use Rattle.c_layout.specs.declared.shapes.ZeroPart.{ZeroPart}
use Rattle.cfg.specs.WellFormed.{is_well_formed}
use Rattle.cfg.specs.declared.programs.Flow.{Flow}

-- the offset is that of a byte of an array from an offset on; one without a size is all of an instance from there on
abbrev pub IsByteFrom : ℕ → Option ℕ → ℕ → Type 0
IsByteFrom start None x = start ≤ x
IsByteFrom start (Some size) x = (start ≤ x) × (x < start + size)

abbrev pub HasByte : ZeroPart → ℕ → Type 0
HasByte part x = IsByteFrom part.offset part.size x

-- no two of the arrays have a byte in common
pub record AreApartTexts (parts : List ZeroPart) : Type 0 where
  pub one : (y z x : ℕ) (left right : ZeroPart) → slice_get parts y ≡ Some left → slice_get parts z ≡ Some right → HasByte left x → HasByte right x → y ≡ z

-- in each base
abbrev pub HasApartTexts : List BaseInfo → Type 0
HasApartTexts bases = (b : ℕ) (base : BaseInfo) → slice_get bases b ≡ Some base → AreApartTexts base.shape.zeros

abbrev pub WellFormedHasApartTexts : Type 0
WellFormedHasApartTexts = (limits : Limits) (flow : Flow) → is_well_formed limits flow ≡ true → HasApartTexts flow.bases.items
