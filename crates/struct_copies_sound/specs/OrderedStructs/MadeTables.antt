-- Tables of structs that are made step by step, as declarations make them.
use Rattle.std.specs.Prelude.{◌≡◌, ℕ, Bool, true, not, ◌&&◌, nat_lt, cond, Option, Some, None, List, [], ◌∷◌, ◌++◌, length, set}
use Rattle.c_layout.specs.declared.data_model.Model.{Model}
use Rattle.c_layout.specs.StructViews.{StructView, no_struct, struct_at}
use Rattle.store_monotone.specs.Layouts.MadeLayouts.{Declared, layout_of, are_declarable}
use Rattle.analysis_preconditions.specs.StructNesting.OrderedStructs.{are_ordered}

-- a struct is declared, and nothing is known of it; or one of those gets members, of complete types
pub data Step : Type 0 where
  Declare : Step
  Complete : (index : ℕ) (members : List Declared) → Step

abbrev pub is_open : List StructView → ℕ → Bool
is_open structs index = nat_lt index (length structs) && not (struct_at structs index).complete

abbrev pub with_struct : List StructView → ℕ → Option StructView → Option (List StructView)
with_struct structs index None = None
with_struct structs index (Some s) = Some (set structs index s)

abbrev pub stepped : Model → List StructView → Step → Option (List StructView)
stepped m structs Declare = Some (structs ++ (no_struct ∷ []))
stepped m structs (Complete index members) = cond (is_open structs index && are_declarable m structs members) (with_struct structs index (layout_of structs m.pointer members)) None

abbrev pub and_then : (List StructView → Option (List StructView)) → Option (List StructView) → Option (List StructView)
and_then next None = None
and_then next (Some structs) = next structs

abbrev pub all_stepped : Model → List Step → List StructView → Option (List StructView)
all_stepped m [] structs = Some structs
all_stepped m (x ∷ xs) structs = and_then (all_stepped m xs) (stepped m structs x)

-- each table that is made so is ordered
abbrev pub MakesOrdered : Type 0
MakesOrdered = (m : Model) (steps : List Step) (structs : List StructView) → all_stepped m steps [] ≡ Some structs → are_ordered structs ≡ true
