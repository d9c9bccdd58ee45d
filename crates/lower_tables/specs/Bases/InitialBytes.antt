-- The first bytes of the objects of static storage and the literals of a unit.
use Rattle.std.specs.Prelude.{ℕ, ◌+◌, List, [], ◌∷◌, ◌++◌, length}
use Rattle.c_layout.specs.Layout.{size_of_type}
use Rattle.c_layout.specs.CheckedUnits.{StaticView, LiteralView, UnitView}
use Rattle.c_layout.specs.declared.checked_tree.checked_units.StaticBase.TheVariants as shared
use Rattle.lower_templates.specs.Views.ProgramViews.{Stored, Spelled, InitialView}
use Rattle.lower_tables.specs.Bases.BaseTables.{TableView, known}

abbrev pub initial_object : UnitView → TableView → ℕ → StaticView → InitialView
initial_object u b n o = record { object = shared.Object n; size = size_of_type u.structs u.model.pointer o.ctype; base = known b.objects n; first = Stored o.stores }

-- a literal has a closing zero
abbrev pub initial_literal : TableView → ℕ → LiteralView → InitialView
initial_literal b n l = record { object = shared.Literal n; size = length l.bytes + 1; base = known b.literals n; first = Spelled l.bytes }

abbrev pub objects_from : UnitView → TableView → ℕ → List StaticView → List InitialView
objects_from u b n [] = []
objects_from u b n (o ∷ os) = initial_object u b n o ∷ objects_from u b (n + 1) os

abbrev pub literals_from : TableView → ℕ → List LiteralView → List InitialView
literals_from b n [] = []
literals_from b n (l ∷ ls) = initial_literal b n l ∷ literals_from b (n + 1) ls

-- all objects of static storage and then all literals of a unit, in order
abbrev pub initial_objects : UnitView → TableView → List InitialView
initial_objects u b = objects_from u b 0 u.objects ++ literals_from b 0 u.literals
