-- What the rules find in statements, by recursion over them, and in a unit.
use Rattle.std.specs.Prelude.{List, [], ◌++◌, map, Option, Some, None}
use Rattle.std.specs.List.{flat_map}
use Rattle.cc_base.specs.declared.diagnostics.Diag.{Diag}
use Rattle.c_layout.specs.declared.checked_tree.checked_terms.CheckedTerm.{CheckedTerm}
use Rattle.c_layout.specs.declared.checked_tree.checked_statements.InitStore.{InitStore}
use Rattle.c_layout.specs.declared.checked_tree.checked_statements.InitStore.TheVariants as store
use Rattle.c_layout.specs.declared.checked_tree.checked_statements.CheckedStatement.{CheckedStatement, CheckedStatement-F, fold-CheckedStatement}
use Rattle.c_layout.specs.declared.checked_tree.checked_units.Function.{Function}
use Rattle.c_layout.specs.declared.checked_tree.checked_units.Checked.{Checked}
use Rattle.syntactic_rules.specs.declared.term_places.Slot.TheVariants as slot
use Rattle.syntactic_rules.specs.Slots.{switched}
use Rattle.syntactic_rules.specs.Switches.{lacks_default}
use Rattle.syntactic_rules.specs.TermPlaces.{term_places, lvalue_places, terms_places}

-- a condition stands in a slot that needs no parentheses
abbrev pub condition_places : CheckedTerm → List Diag
condition_places e = term_places e (slot.Needs 0)

abbrev pub test_places : Option CheckedTerm → List Diag
test_places None = []
test_places (Some e) = condition_places e

abbrev pub optional_places : Option CheckedTerm → List Diag
optional_places None = []
optional_places (Some e) = term_places e slot.Outside

-- what a store of an initializer has
abbrev pub store_places : InitStore → List Diag
store_places (store.Value offset e) = term_places e slot.Outside
store_places (store.Copy offset l) = lvalue_places l
store_places (store.Spell offset room text) = []

abbrev pub stores_places : List InitStore → List Diag
stores_places = flat_map store_places

-- what the clauses of a `for` have besides the first one
abbrev pub clauses_places : Option CheckedTerm → Option CheckedTerm → List Diag
clauses_places test step = test_places test ++ optional_places step

abbrev pub same : List Diag → List Diag
same found = found

abbrev pub statement_step : CheckedStatement-F (List Diag) → List Diag
statement_step (CheckedStatement-F.Value e) = term_places e slot.Outside
statement_step CheckedStatement-F.Nothing = []
statement_step (CheckedStatement-F.Forget at object) = []
statement_step (CheckedStatement-F.Start at object e) = term_places e slot.Outside
statement_step (CheckedStatement-F.StartCopy at object l) = lvalue_places l
statement_step (CheckedStatement-F.StartList at object stores) = stores_places stores.items
statement_step (CheckedStatement-F.Block objects items) = flat_map same items.items
statement_step (CheckedStatement-F.If test body) = condition_places test ++ body.value
statement_step (CheckedStatement-F.IfElse test first second) = condition_places test ++ (first.value ++ second.value)
statement_step (CheckedStatement-F.While test body) = condition_places test ++ body.value
statement_step (CheckedStatement-F.Do body test) = body.value ++ condition_places test
statement_step (CheckedStatement-F.For objects first test step body) = flat_map same first.items ++ (clauses_places test step ++ body.value)
statement_step (CheckedStatement-F.Switch at e cases has_default values body) = switched at (lacks_default cases.items has_default values) ++ (term_places e slot.Outside ++ body.value)
statement_step (CheckedStatement-F.Case label body) = body.value
statement_step (CheckedStatement-F.Default body) = body.value
statement_step (CheckedStatement-F.Label label body) = body.value
statement_step (CheckedStatement-F.Goto label) = []
statement_step CheckedStatement-F.Break = []
statement_step CheckedStatement-F.Continue = []
statement_step (CheckedStatement-F.Return at e) = optional_places e

abbrev pub statement_places : CheckedStatement → List Diag
statement_places = fold-CheckedStatement (List Diag) statement_step

-- what statements have, in order
abbrev pub statements_places : List CheckedStatement → List Diag
statements_places items = flat_map same (map statement_places items)

-- what the body of a function has
abbrev pub function_places : Function → List Diag
function_places f = statements_places f.body.items

-- what a unit has: the bodies of its functions, and the expressions that no run evaluates
abbrev pub unit_places : Checked → List Diag
unit_places unit = flat_map function_places unit.functions.items ++ terms_places unit.constants.items
