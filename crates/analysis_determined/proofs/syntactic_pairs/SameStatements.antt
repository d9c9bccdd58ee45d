-- What the rules find in statements, they find in their trees.
use Rattle.std.specs.Prelude.{◌≡◌, ℤ, Bool, not, ◌&&◌, List, [], ◌∷◌, ◌++◌, map, Option, Some, None, Vec, refl}
use Rattle.std.specs.List.{flat_map}
use Rattle.std.specs.Option.{option_map}
use Rattle.std.specs.Global.{Global}
use Rattle.std.proofs.Common.{sym, ap, ap₂, subst, ◌∙◌}
use Rattle.cc_base.specs.declared.diagnostics.Diag.{Diag}
use Rattle.c_layout.specs.CheckedTrees.{StatementTree, store_tree, statement_trees, statement_tree, term_tree, lvalue_tree}
use Rattle.c_layout.specs.CheckedTrees as tree
use Rattle.c_layout.specs.declared.checked_tree.checked_terms.CheckedTerm.{CheckedTerm}
use Rattle.c_layout.specs.declared.checked_tree.checked_statements.CaseLabel.{CaseLabel}
use Rattle.c_layout.specs.declared.checked_tree.checked_statements.InitStore.{InitStore}
use Rattle.c_layout.specs.declared.checked_tree.checked_statements.InitStore.TheVariants as store
use Rattle.c_layout.specs.declared.checked_tree.checked_statements.CheckedStatement.{CheckedStatement, CheckedStatement-F, fold-roll-CheckedStatement, roll-CheckedStatement, map-CheckedStatement, ind-CheckedStatement}
use Rattle.syntactic_rules.specs.declared.term_places.Slot.TheVariants as slot
use Rattle.syntactic_rules.specs.Slots.{switched}
use Rattle.syntactic_rules.specs.Switches.{is_covered}
use Rattle.syntactic_rules.specs.StatementPlaces.{statement_places, statements_places, stores_places, test_places, optional_places}
use Rattle.syntactic_rules.specs.StatementPlaces as places
use Rattle.analysis_determined.proofs.syntactic_pairs.TreePlaces.{places_of_stores, places_of_test, places_of_optional, covers, places_of_statement, places_of_statements}
use Rattle.analysis_determined.proofs.syntactic_pairs.SameTerms.{same_term, same_lvalue}

-- ---- the tree of a statement, by its step

abbrev numbers : Vec ℤ Global → List ℤ
numbers v = v.items

abbrev statement_step : CheckedStatement-F StatementTree → StatementTree
statement_step (CheckedStatement-F.Value e) = tree.Value (term_tree e)
statement_step CheckedStatement-F.Nothing = tree.Nothing
statement_step (CheckedStatement-F.Forget at local) = tree.Forget at local
statement_step (CheckedStatement-F.Start at local e) = tree.Start at local (term_tree e)
statement_step (CheckedStatement-F.StartCopy at local l) = tree.StartCopy at local (lvalue_tree l)
statement_step (CheckedStatement-F.StartList at local stores) = tree.StartList at local (map store_tree stores.items)
statement_step (CheckedStatement-F.Block objects items) = tree.Block objects.items (statement_trees items.items)
statement_step (CheckedStatement-F.If c body) = tree.If (term_tree c) body.value
statement_step (CheckedStatement-F.IfElse c first second) = tree.IfElse (term_tree c) first.value second.value
statement_step (CheckedStatement-F.While c body) = tree.While (term_tree c) body.value
statement_step (CheckedStatement-F.Do body c) = tree.Do body.value (term_tree c)
statement_step (CheckedStatement-F.For objects first c step body) = tree.For objects.items (statement_trees first.items) (option_map term_tree c) (option_map term_tree step) body.value
statement_step (CheckedStatement-F.Switch at e labels has_default values body) = tree.Switch at (term_tree e) labels.items has_default (option_map numbers values) body.value
statement_step (CheckedStatement-F.Case label body) = tree.Case label body.value
statement_step (CheckedStatement-F.Default body) = tree.Default body.value
statement_step (CheckedStatement-F.Label label body) = tree.Label label body.value
statement_step (CheckedStatement-F.Goto label) = tree.Goto label
statement_step CheckedStatement-F.Break = tree.Break
statement_step CheckedStatement-F.Continue = tree.Continue
statement_step (CheckedStatement-F.Return at e) = tree.Return at (option_map term_tree e)

abbrev SameStatement : CheckedStatement → Type 0
SameStatement s = statement_places s ≡ places_of_statement (statement_tree s)

abbrev placed : CheckedStatement-F CheckedStatement → CheckedStatement-F (List Diag)
placed = map-CheckedStatement CheckedStatement (List Diag) statement_places

abbrev treed : CheckedStatement-F CheckedStatement → CheckedStatement-F StatementTree
treed = map-CheckedStatement CheckedStatement StatementTree statement_tree

statement_rolled : (z : CheckedStatement-F CheckedStatement) → places.statement_step (placed z) ≡ places_of_statement (statement_step (treed z)) → SameStatement (roll-CheckedStatement z)
statement_rolled z h =
    fold-roll-CheckedStatement (List Diag) places.statement_step z
    ∙ (h ∙ ap places_of_statement (sym (fold-roll-CheckedStatement StatementTree statement_step z)))

-- ---- parts of statements

stores_alike : (stores : List InitStore) → stores_places stores ≡ places_of_stores (map store_tree stores)
stores_alike [] = refl
stores_alike (store.Value offset e ∷ ss) = ap₂ (λ (a b : List Diag). a ++ b) (same_term e slot.Outside) (stores_alike ss)
stores_alike (store.Copy offset l ∷ ss) = ap₂ (λ (a b : List Diag). a ++ b) (same_lvalue l) (stores_alike ss)
stores_alike (store.Spell offset room text ∷ ss) = stores_alike ss

test_alike : (e : Option CheckedTerm) → test_places e ≡ places_of_test (option_map term_tree e)
test_alike None = refl
test_alike (Some e) = same_term e (slot.Needs 0)

optional_alike : (e : Option CheckedTerm) → optional_places e ≡ places_of_optional (option_map term_tree e)
optional_alike None = refl
optional_alike (Some e) = same_term e slot.Outside

covered_alike : (labels : List CaseLabel) (values : Option (Vec ℤ Global)) → is_covered labels values ≡ covers labels (option_map numbers values)
covered_alike labels None = refl
covered_alike labels (Some values) = refl

-- ---- a statement is alike where the statements in it are

module _ {S : Type 0} (p : S → CheckedStatement) (h : (e : S) → SameStatement (p e)) where
  abbrev statement_of : CheckedStatement-F S → CheckedStatement-F CheckedStatement
  statement_of = map-CheckedStatement S CheckedStatement p

  inner_alike : (xs : List S) → flat_map places.same (map statement_places (map p xs)) ≡ places_of_statements (statement_trees (map statement_tree (map p xs)))
  inner_alike [] = refl
  inner_alike (x ∷ xs) = ap₂ (λ (a b : List Diag). a ++ b) (h x) (inner_alike xs)

  statement_alike : (y : CheckedStatement-F S) → places.statement_step (placed (statement_of y)) ≡ places_of_statement (statement_step (treed (statement_of y)))
  statement_alike (CheckedStatement-F.Value e) = same_term e slot.Outside
  statement_alike CheckedStatement-F.Nothing = refl
  statement_alike (CheckedStatement-F.Forget at local) = refl
  statement_alike (CheckedStatement-F.Start at local e) = same_term e slot.Outside
  statement_alike (CheckedStatement-F.StartCopy at local l) = same_lvalue l
  statement_alike (CheckedStatement-F.StartList at local stores) = stores_alike stores.items
  statement_alike (CheckedStatement-F.Block objects items) = inner_alike items.items
  statement_alike (CheckedStatement-F.If c body) = ap₂ (λ (a b : List Diag). a ++ b) (same_term c (slot.Needs 0)) (h body.value)
  statement_alike (CheckedStatement-F.IfElse c first second) =
      ap₂ (λ (a b : List Diag). a ++ b) (same_term c (slot.Needs 0)) (ap₂ (λ (a b : List Diag). a ++ b) (h first.value) (h second.value))
  statement_alike (CheckedStatement-F.While c body) = ap₂ (λ (a b : List Diag). a ++ b) (same_term c (slot.Needs 0)) (h body.value)
  statement_alike (CheckedStatement-F.Do body c) = ap₂ (λ (a b : List Diag). a ++ b) (h body.value) (same_term c (slot.Needs 0))
  statement_alike (CheckedStatement-F.For objects first c step body) =
      ap₂ (λ (a b : List Diag). a ++ b) (inner_alike first.items)
      (ap₂ (λ (a b : List Diag). a ++ b) (ap₂ (λ (a b : List Diag). a ++ b) (test_alike c) (optional_alike step)) (h body.value))
  statement_alike (CheckedStatement-F.Switch at e labels has_default values body) =
      ap₂ (λ (a b : List Diag). a ++ b) (ap (λ (c : Bool). switched at (not has_default && not c)) (covered_alike labels.items values))
      (ap₂ (λ (a b : List Diag). a ++ b) (same_term e slot.Outside) (h body.value))
  statement_alike (CheckedStatement-F.Case label body) = h body.value
  statement_alike (CheckedStatement-F.Default body) = h body.value
  statement_alike (CheckedStatement-F.Label label body) = h body.value
  statement_alike (CheckedStatement-F.Goto label) = refl
  statement_alike CheckedStatement-F.Break = refl
  statement_alike CheckedStatement-F.Continue = refl
  statement_alike (CheckedStatement-F.Return at e) = optional_alike e

  statement_case : (y : CheckedStatement-F S) → SameStatement (roll-CheckedStatement (statement_of y))
  statement_case y = statement_rolled (statement_of y) (statement_alike y)

pub same_statement : (s : CheckedStatement) → SameStatement s
same_statement = ind-CheckedStatement SameStatement (λ x y is. subst (λ z. SameStatement (roll-CheckedStatement z)) is (statement_case (λ e. e.0) (λ e. e.1) y))

pub same_statements : (xs : List CheckedStatement) → statements_places xs ≡ places_of_statements (statement_trees (map statement_tree xs))
same_statements [] = refl
same_statements (x ∷ xs) = ap₂ (λ (a b : List Diag). a ++ b) (same_statement x) (same_statements xs)
