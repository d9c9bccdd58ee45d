-- The numbers of what names of templates are of.
use Rattle.std.specs.Prelude.{◌<◌, ◌+◌, length}
use Rattle.c_layout.specs.CheckedUnits.{FunctionView, UnitView}
use Rattle.lower_templates.specs.Worklist.Pieces.{NameView, Local, Outcome, Static, Literal, Allocation}

-- a name is of what is there
abbrev pub IsNameThere : UnitView → FunctionView → NameView → Type 0
IsNameThere u f (Local n) = n < length f.locals + 1
IsNameThere u f Outcome = Unit {0}
IsNameThere u f (Static n) = n < length u.objects
IsNameThere u f (Literal n) = n < length u.literals
IsNameThere u f (Allocation target) = Unit {0}
