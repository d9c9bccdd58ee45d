-- What the rules find in a checked unit hangs on its view.
use Rattle.std.specs.Prelude.{◌≡◌, List, [], ◌∷◌, ◌++◌, map, refl}
use Rattle.std.specs.List.{flat_map}
use Rattle.std.proofs.Common.{sym, ap, ap₂, ◌∙◌}
use Rattle.cc_base.specs.declared.diagnostics.Diag.{Diag}
use Rattle.c_layout.specs.CheckedTrees.{term_trees, statement_trees}
use Rattle.c_layout.specs.CheckedUnits.{FunctionView, function_view, UnitView, unit_view}
use Rattle.c_layout.specs.declared.checked_tree.checked_units.Checked.{Checked}
use Rattle.c_layout.specs.declared.checked_tree.checked_units.Function.{Function}
use Rattle.syntactic_rules.specs.StatementPlaces.{function_places, unit_places}
use Rattle.analysis_determined.proofs.syntactic_pairs.TreePlaces.{places_of_terms, places_of_statements}
use Rattle.analysis_determined.proofs.syntactic_pairs.SameTerms.{same_terms}
use Rattle.analysis_determined.proofs.syntactic_pairs.SameStatements.{same_statements}

abbrev places_of_functions : List FunctionView → List Diag
places_of_functions [] = []
places_of_functions (f ∷ fs) = places_of_statements (statement_trees f.body) ++ places_of_functions fs

abbrev places_of_unit : UnitView → List Diag
places_of_unit u = places_of_functions u.functions ++ places_of_terms (term_trees u.constants)

functions_alike : (fs : List Function) → flat_map function_places fs ≡ places_of_functions (map function_view fs)
functions_alike [] = refl
functions_alike (f ∷ fs) = ap₂ (λ (a b : List Diag). a ++ b) (same_statements f.body.items) (functions_alike fs)

unit_alike : (u : Checked) → unit_places u ≡ places_of_unit (unit_view u)
unit_alike u = ap₂ (λ (a b : List Diag). a ++ b) (functions_alike u.functions.items) (same_terms u.constants.items)

pub same_places : (c d : Checked) → unit_view c ≡ unit_view d → unit_places c ≡ unit_places d
same_places c d h = unit_alike c ∙ (ap places_of_unit h ∙ sym (unit_alike d))
