-- The body of a function, as a list of statements and as a tree of them.
use Rattle.std.specs.Prelude.{◌≡◌, List, [], ◌∷◌, ◌++◌, refl}
use Rattle.std.proofs.Common.{ap, ◌∙◌}
use Rattle.c_layout.specs.CheckedTrees.{StatementTree, statement_trees}
use Rattle.c_layout.specs.CheckedUnits.{UnitView}
use Rattle.semantics.specs.SourceMachine.Items as item
use Rattle.semantics.specs.SourceMachine.Items.{Item}
use Rattle.semantics.specs.SourceMachine.LabelSearch.{Sought, first, found, found_in, found_among}
use Rattle.semantics.specs.SourceMachine.StatementItems.{statements, list_statements}

pub same_statements : (xs : List StatementTree) → statements (statement_trees xs) ≡ list_statements xs
same_statements [] = refl
same_statements (x ∷ xs) = ap (λ ys. item.Statement x ∷ ys) (same_statements xs)

pub same_found : (u : UnitView) (l : Sought) (xs : List StatementTree) (rest : List Item) → found_in u l (statement_trees xs) rest ≡ found_among u l xs rest
unfolding found found_in
same_found u l [] rest = refl
same_found u l (x ∷ xs) rest =
    ap (λ ys. first (found u l x (ys ++ rest)) (found_in u l (statement_trees xs) rest)) (same_statements xs)
    ∙ ap (λ later. first (found u l x (list_statements xs ++ rest)) later) (same_found u l xs rest)
