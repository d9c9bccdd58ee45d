-- Steps of statements one after another: what the answer to a step says of the rule of all.
use Rattle.std.proofs.Common.{◌≡◌, Result, Ok, subst, sym, ap}
use Rattle.cc_base.specs.declared.diagnostics.Place.{Place}
use Rattle.cc_base.specs.declared.refusals.Stop.{Stop}
use Rattle.c_layout.specs.SyntaxTrees.{Tree}
use Rattle.c_layout.specs.DeclarationTrees as syntax
use Rattle.c_layout.specs.CheckedTrees.{TermTree, StatementTree}
use Rattle.c_types_scopes.specs.Refusals.{Ruled}
use Rattle.c_types_scopes.specs.Answers.{Leads, after}
use Rattle.c_types_statement_rules.specs.StatementRules.Points.{Point}
use Rattle.c_types_statements.specs.Statements as spec
use Rattle.c_types_statements.specs.Statements.{Declaring}

-- the answer to an equal rule
pub as_well : {A V S : Type 0} (view : A → V) (rule other : Ruled (V × S)) (result : Result A Stop) (s : S) → other ≡ rule → Leads view rule result s → Leads view other result s
as_well view rule other result s same h = subst (λ r. Leads view r result s) (sym same) h

-- an `if` with `else` whose first part has types
pub branched : {A : Type 0} (view : A → StatementTree) (d : Declaring) (p p1 p2 : Point) (at : Place) (e : Tree) (t u : syntax.StatementTree) (v : TermTree × StatementTree) (result : Result A Stop)
    → spec.first_branch d p e t ≡ Ok (v, p1) → Leads view (spec.second_branch d at v p1 u) result p2
    → Leads view (spec.statement d p (syntax.IfElse at e t u)) result p2
branched view d p p1 p2 at e t u v result first gives =
    as_well view (spec.second_branch d at v p1 u) (spec.statement d p (syntax.IfElse at e t u)) result p2
    (ap (λ r. after r (λ w q. spec.second_branch d at w q u)) first) gives
