-- What is found of labels.
use Rattle.std.proofs.Common.{◌≡◌, ℕ, ◌+◌, ◌<◌, length, get_or, map, drop, sym, Bool, true, false, ◌&&◌, ◌||◌, List, [], ◌∷◌, ◌++◌, Option, Some, None, is_some, refl, ap, ◌∙◌}
use Rattle.std.proofs.lemmas.List.{at_drop_more}
use Rattle.c_layout.specs.CheckedTrees.{StatementTree, statement_tree, statement_trees}
use Rattle.c_layout.specs.declared.checked_tree.checked_statements.CheckedStatement.{CheckedStatement}
use Rattle.c_layout.specs.CheckedUnits.{UnitView}
use Rattle.semantics.specs.SourceMachine.Items.{Item, Statement}
use Rattle.semantics.specs.SourceMachine.StatementItems.{statements, list_statements}
use Rattle.semantics.specs.SourceMachine.LabelSearch as search
use Rattle.semantics.specs.SourceMachine.LabelSearch.{Sought, first, here_or, inside_switch, found, found_in, found_among}
use Rattle.interp_statements.specs.LabelViews.{looks_into_switches}

pub some_first : (a b : Option (List Item)) → is_some (first a b) ≡ (is_some a || is_some b)
some_first None b = refl
some_first (Some items) b = refl

pub some_here : (here : Bool) (items : List Item) (later : Option (List Item)) → is_some (here_or here items later) ≡ (here || is_some later)
some_here true items later = refl
some_here false items later = refl

pub some_inside : (l : Sought) (inside : Option (List Item)) → is_some (inside_switch l inside) ≡ (looks_into_switches l && is_some inside)
some_inside (search.label n) inside = refl
some_inside (search.case n) inside = refl
some_inside search.other inside = refl

pub same_statements : (ss : List StatementTree) → statements (statement_trees ss) ≡ list_statements ss
same_statements [] = refl
same_statements (s ∷ ss) = ap (λ items. Statement s ∷ items) (same_statements ss)

-- in the statements of a block as in those of a function
pub same_found : (u : UnitView) (l : Sought) (ss : List StatementTree) (rest : List Item) → found_in u l (statement_trees ss) rest ≡ found_among u l ss rest
unfolding found_in
same_found u l [] rest = refl
same_found u l (s ∷ ss) rest =
    ap (λ items. first (found u l s (items ++ rest)) (found_in u l (statement_trees ss) rest)) (same_statements ss)
    ∙ ap (first (found u l s (list_statements ss ++ rest))) (same_found u l ss rest)

-- whether a label stands in one of the statements from one on
pub among_at : (u : UnitView) (l : Sought) (all : List CheckedStatement) (k : ℕ) (s : CheckedStatement) (after : List Item) → k < length all → s ≡ get_or all k s → is_some (found_among u l (map statement_tree (drop k all)) after) ≡ (is_some (found u l (statement_tree s) (list_statements (map statement_tree (drop (k + 1) all)) ++ after)) || is_some (found_among u l (map statement_tree (drop (k + 1) all)) after))
among_at u l all k s after within e =
    let later = map statement_tree (drop (k + 1) all) in
    at_drop_more (λ ss. is_some (found_among u l (map statement_tree ss) after)) all k s within
    ∙ ap (λ x. is_some (first (found u l (statement_tree x) (list_statements later ++ after)) (found_among u l later after))) (sym e)
    ∙ some_first (found u l (statement_tree s) (list_statements later ++ after)) (found_among u l later after)

pub found_at : (u : UnitView) (l : Sought) (all : List CheckedStatement) (k : ℕ) (s : CheckedStatement) (after : List Item) → k < length all → s ≡ get_or all k s → found_among u l (map statement_tree (drop k all)) after ≡ first (found u l (statement_tree s) (list_statements (map statement_tree (drop (k + 1) all)) ++ after)) (found_among u l (map statement_tree (drop (k + 1) all)) after)
found_at u l all k s after within e =
    let later = map statement_tree (drop (k + 1) all) in
    at_drop_more (λ ss. found_among u l (map statement_tree ss) after) all k s within
    ∙ ap (λ x. first (found u l (statement_tree x) (list_statements later ++ after)) (found_among u l later after)) (sym e)
