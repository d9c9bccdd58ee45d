-- Items before which nothing changes: the open scopes, and what is behind the loop and the turn.
use Rattle.std.specs.Prelude.{◌≡◌, refl, Bool, true, false, List, [], ◌∷◌, ◌++◌, Option, Some, None}
use Rattle.c_layout.specs.CheckedTrees as tree
use Rattle.c_layout.specs.CheckedTrees.{TermTree, TermTrees, Typed, StatementTrees}
use Rattle.c_layout.specs.declared.syntax_tree.expressions.LogicalOp.TheVariants.{And, Or}
use Rattle.lower_conditions.specs.Conditions.{ReadView, read_by}
use Rattle.semantics.specs.SourceMachine.Items as item
use Rattle.semantics.specs.SourceMachine.Items.{Item}
use Rattle.semantics.specs.SourceMachine.ConditionItems as source
use Rattle.semantics.specs.SourceMachine.Scopes.{open_scopes, past_loop, past_iteration}
use Rattle.semantics.specs.SourceMachine.StatementItems.{statements}
use Rattle.semantics.specs.SourceMachine.TermItems.{arguments}
use Rattle.simulation_terms.specs.SimulationRelation.Activations.{Activation}

-- nothing is opened or left by some items, and no end of a loop or turn is among them
pub record IsQuiet (xs : List Item) : Type 0 where
  pub scopes : (items : List Item) → open_scopes (xs ++ items) ≡ open_scopes items
  pub after_loop : (items : List Item) → past_loop (xs ++ items) ≡ past_loop items
  pub after_turn : (items : List Item) → past_iteration (xs ++ items) ≡ past_iteration items

pub statements_quiet : (rest : StatementTrees) → IsQuiet (statements rest)
statements_quiet tree.NoMore = record { scopes = λ items. refl; after_loop = λ items. refl; after_turn = λ items. refl }
statements_quiet (tree.And first rest) = let x = statements_quiet rest in record { scopes = λ items. x.scopes items; after_loop = λ items. x.after_loop items; after_turn = λ items. x.after_turn items }

-- ---- conditions open and leave nothing

arguments_quiet : (args : TermTrees) (more : List Item) → IsQuiet more → IsQuiet (arguments args ++ more)
arguments_quiet tree.End more quiet = quiet
arguments_quiet (tree.More e rest) more quiet = let x = arguments_quiet rest more quiet in record { scopes = λ items. x.scopes items; after_loop = λ items. x.after_loop items; after_turn = λ items. x.after_turn items }

line_quiet : (x : ReadView) (wants : Bool) (held failed : item.Items) → IsQuiet (source.line_items x wants held failed)
line_quiet x true held failed = arguments_quiet x.call.arguments (item.ReadLine x.call.at failed held ∷ []) (record { scopes = λ items. refl; after_loop = λ items. refl; after_turn = λ items. refl })
line_quiet x false held failed = arguments_quiet x.call.arguments (item.ReadLine x.call.at held failed ∷ []) (record { scopes = λ items. refl; after_loop = λ items. refl; after_turn = λ items. refl })

leaf_quiet : (t : Activation) (is_test : Bool) (e : TermTree) (o : Option ReadView) (held failed : item.Items) → IsQuiet (source.leaf_by t.unit is_test e o held failed)
leaf_quiet t is_test e None held failed = record { scopes = λ items. refl; after_loop = λ items. refl; after_turn = λ items. refl }
leaf_quiet t is_test e (Some x) held failed = line_quiet x x.wants_line held failed

pub condition_quiet : (t : Activation) (is_test : Bool) (e : TermTree) (held failed : List Item) → IsQuiet (source.condition t.unit is_test e held failed)
condition_quiet t is_test (Typed at ctype parens fixed (tree.Logical And a b)) held failed = condition_quiet t is_test a (source.condition t.unit is_test b held failed) failed
condition_quiet t is_test (Typed at ctype parens fixed (tree.Logical Or a b)) held failed = condition_quiet t is_test a held (source.condition t.unit is_test b held failed)
condition_quiet t is_test (Typed at ctype parens fixed (tree.Not a)) held failed = condition_quiet t is_test a failed held
condition_quiet t is_test (Typed at ctype parens fixed (tree.Conditional c a b)) held failed = condition_quiet t true c (source.condition t.unit false a held failed) (source.condition t.unit false b held failed)
condition_quiet t is_test e held failed = leaf_quiet t is_test e (read_by e) (item.items_of held) (item.items_of failed)
