-- Jumps stand where statements were looked at.
use Rattle.std.proofs.Common.{◌≡◌, Bool, true, false, ◌&&◌}
use Rattle.std.proofs.lemmas.Bool.{and_parts}
use Rattle.c_layout.specs.CheckedTrees as tree
use Rattle.c_layout.specs.CheckedTrees.{StatementTree, StatementTrees, statement_trees}
use Rattle.c_layout.specs.CheckedUnits.{FunctionView, UnitView}
use Rattle.lower_preconditions.specs.Units.LabelNumbers.{is_numbered}
use Rattle.lower_preconditions.specs.Units.ScopeObjects.{has_own_objects}
use Rattle.lower_preconditions.specs.Units.RegularTerms.{is_regular_term}
use Rattle.lower_preconditions.specs.Units.RegularStatements.{are_plain, are_regular_clauses, is_regular_switch, is_regular_statement, are_regular_statements}
use Rattle.source_items.specs.Returns.StandingJumps.{JumpsStand, AllJumpsStand}
use Rattle.simulation_layout.specs.JumpChecks.RegularJumps.{RegularJumpsStand}

second : (a b : Bool) → (a && b) ≡ true → b ≡ true
second a b e = (and_parts a b e).1

module _ (u : UnitView) (f : FunctionView) where
  mutual
    stand : (breaks loops : Bool) (i : StatementTree) → is_regular_statement u f breaks loops i ≡ true → JumpsStand breaks loops i
    stand breaks loops (tree.Block objects items) is = all_stand breaks loops items is
    stand breaks loops (tree.If e body) is = stand breaks loops body (second (is_regular_term u f true 0 e) (is_regular_statement u f breaks loops body) is)
    stand breaks loops (tree.IfElse e one other) is =
        let both = and_parts (is_regular_statement u f breaks loops one) (is_regular_statement u f breaks loops other) (second (is_regular_term u f true 0 e) (is_regular_statement u f breaks loops one && is_regular_statement u f breaks loops other) is) in
        (stand breaks loops one both.0, stand breaks loops other both.1)
    stand breaks loops (tree.While e body) is = stand true true body (second (is_regular_term u f true 0 e) (is_regular_statement u f true true body) is)
    stand breaks loops (tree.Do body e) is = stand true true body (second (is_regular_term u f true 0 e) (is_regular_statement u f true true body) is)
    stand breaks loops (tree.For objects first e step body) is =
        let clauses : Bool = are_regular_clauses u f e step in
        let parts = and_parts (are_plain first && (are_regular_statements u f false false first && clauses)) (is_regular_statement u f true true body) is in
        let before = and_parts (are_regular_statements u f false false first) clauses (second (are_plain first) (are_regular_statements u f false false first && clauses) parts.0) in
        (all_stand false false first before.0, stand true true body parts.1)
    stand breaks loops (tree.Switch at e labels has_default values body) is = stand true loops body (second (is_regular_switch u f e) (is_regular_statement u f true loops body) is)
    stand breaks loops (tree.Case n body) is = stand breaks loops body is
    stand breaks loops (tree.Default body) is = stand breaks loops body is
    stand breaks loops (tree.Label n body) is = stand breaks loops body is
    stand breaks loops tree.Break is = is
    stand breaks loops tree.Continue is = is
    stand breaks loops other is = tt

    all_stand : (breaks loops : Bool) (items : StatementTrees) → are_regular_statements u f breaks loops items ≡ true → AllJumpsStand breaks loops items
    all_stand breaks loops tree.NoMore is = tt
    all_stand breaks loops (tree.And first rest) is =
        let both = and_parts (is_regular_statement u f breaks loops first) (are_regular_statements u f breaks loops rest) is in
        (stand breaks loops first both.0, all_stand breaks loops rest both.1)

pub regular_stand : RegularJumpsStand
regular_stand u f is =
    let body : Bool = are_regular_statements u f false false (statement_trees f.body) in
    all_stand u f false false (statement_trees f.body) (second (has_own_objects f) body (second (is_numbered f) (has_own_objects f && body) is))
