-- What the entry and the functions that are called want of their bodies.
use Rattle.std.proofs.Common.{◌≡◌, [], ◌∷◌, ◌++◌, refl, ap, ◌∙◌, append_assoc}
use Rattle.c_layout.specs.CheckedTrees.{statement_trees}
use Rattle.c_layout.specs.CheckedUnits.{FunctionView}
use Rattle.lower_templates.specs.Worklist.Plans.{Plan, with_work}
use Rattle.lower_templates.specs.Worklist.Works.{Job}
use Rattle.semantics.specs.SourceMachine.Items as item
use Rattle.semantics.specs.SourceMachine.StatementItems.{statements, body}
use Rattle.simulation_terms.proofs.scopes.FunctionBodies.{same_statements}
use Rattle.simulation_terms.proofs.scopes.Positions.{position}
use Rattle.simulation_statements.proofs.bodies.Bodies.{body_items}

pub work_names : (j : Job) (p : Plan) → (with_work j p).names ≡ p.names
unfolding with_work
work_names j p = refl

pub work_scopes : (j : Job) (p : Plan) → position (with_work j p) ≡ position p
unfolding with_work
work_scopes j p = refl

pub body_is : (f : FunctionView) → body_items f (item.EndBody ∷ []) ≡ body f
body_is f =
    ap (λ xs. item.Enters f.scope ∷ xs) (append_assoc (statements (statement_trees f.body)) (item.Leaves f.scope ∷ []) (item.EndBody ∷ []))
    ∙ ap (λ xs. item.Enters f.scope ∷ (xs ++ (item.Leaves f.scope ∷ (item.EndBody ∷ [])))) (same_statements f.body)
