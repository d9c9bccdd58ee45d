-- The items of the loop stand in the pieces of its template, turn by turn.
use Rattle.std.specs.Prelude.{ℕ, zero, suc, true, List, [], ◌∷◌, Some, refl}
use Rattle.c_layout.specs.CheckedTrees as tree
use Rattle.lower_templates.specs.Worklist.Plans.{with_work, with_name, with_labels, with_scope, with_dispatch}
use Rattle.lower_templates.specs.Worklist.Scopes.{with_new_scope}
use Rattle.lower_functions.specs.Functions.Functions.{IsTemplate}
use Rattle.semantics.specs.SourceMachine.Items as item
use Rattle.semantics.specs.SourceMachine.Items.{Item}
use Rattle.semantics.specs.SourceMachine.SourceRuns.{body_of}
use Rattle.semantics.specs.SourceMachine.SourceStates.{function_at}
use Rattle.simulation_terms.specs.Instructions.Acts as acts
use Rattle.simulation_terms.specs.SimulationRelation.Simulates as simulates
use Rattle.simulation_terms.specs.SimulationRelation.Activations.{entry_of}
use Rattle.simulation_terms.specs.SimulationRelation.Simulates.{Simulates, AllSimulate, pieces}
use Rattle.simulation_terms.proofs.simulation_relation.Constructions.{gives_value, gives_unused, gives_address, gives_statement, gives_turn_end, gives_loop_end, gives_drop, gives_no_enters, gives_no_leaves, gives_step, gives_store, gives_object, gives_change, gives_enter, gives_leave, gives_return, gives_hop, gives_choice, gives_end}
use Rattle.simulation_terms.proofs.small_steps.TurnsSimulate.{runs_agree}
use Rattle.worked_examples.specs.OneLoop.Units.{at}
use Rattle.worked_examples.proofs.one_loop.NoCalls.{not_called}
use Rattle.worked_examples.specs.OneLoop.Loop.{is_less, counts, loop, quotient, main, past_loop, in_body, in_test, of_main, templates, IsFollowed}

module _ (b : ℕ) where
  abbrev at_end : List Item
  at_end = item.Leaves (0 ∷ []) ∷ (item.EndBody ∷ [])

  abbrev to_return : List Item
  to_return = item.Statement (tree.Return (at 39) (Some quotient)) ∷ at_end

  abbrev to_loop : List Item
  to_loop = item.ForIteration (Some (is_less b)) (Some counts) tree.Nothing ∷ (item.LoopEnd ∷ (item.Leaves [] ∷ to_return))

  returns : (n : ℕ) → Simulates (entry_of (templates b)) n 0 to_return past_loop
  returns n =
      gives_statement n 0 _ at_end _
      (gives_value n 0 quotient _ _
      (gives_value n 0 _ _ _ (gives_step n 0 1 _ _ _ _ _ (acts.constant 0 _ _)
      (gives_value n 1 _ _ _ (gives_address n 1 _ _ _ (gives_object n 1 8 _ _ 0 _ _ refl (gives_step n 2 2 _ _ _ _ _ (acts.load 1 _)
      (gives_step n 2 1 _ _ _ _ _ (acts.binary_left 0 _ _)
      (gives_drop n 0 _ _
      (gives_return n 0 (main b) _ _ refl
      (gives_leave n 0 7 0 [] _ _ refl (gives_no_leaves n 0 _ _ (gives_end n 0 _ _ refl)))))))))))))

  -- behind the body the object is counted up, and control goes back
  turns_back : (n : ℕ) → Simulates (entry_of (templates b)) n 0 to_loop (in_test b) → Simulates (entry_of (templates b)) n 0 (item.Statement tree.Nothing ∷ (item.IterationEnd ∷ (item.Unused counts ∷ (item.Hop ∷ to_loop)))) in_body
  turns_back n back =
      simulates.by_mark n 0 4 _ _
      (gives_statement n 0 tree.Nothing _ _
      (gives_turn_end n 0 _ _
      (gives_unused n 0 counts _ _
      (gives_address n 0 _ _ _ (gives_object n 0 6 _ _ 0 _ _ refl (gives_step n 1 2 _ _ _ _ _ (acts.load_over 0 _)
      (gives_step n 2 2 _ _ _ _ _ (acts.binary_one 1 _ _)
      (gives_store n 0 _ _ _ _
      (gives_hop n 0 2 _ _ (in_test b) refl back)))))))))

  loops : (n : ℕ) → Simulates (entry_of (templates b)) n 0 to_loop (in_test b)
  loops zero = simulates.enough 0 to_loop (in_test b)
  loops (suc n) =
      simulates.in_for n 0 (Some (is_less b)) (Some counts) tree.Nothing _ _
      (gives_value n 0 (is_less b) _ _
      (gives_value n 0 _ _ _ (gives_address n 0 _ _ _ (gives_object n 0 5 _ _ 0 _ _ refl (gives_step n 1 1 _ _ _ _ _ (acts.load 0 _)
      (gives_value n 1 _ _ _ (gives_step n 1 2 _ _ _ _ _ (acts.constant 1 _ _)
      (gives_step n 2 1 _ _ _ _ _ (acts.compare 0 _)
      (gives_choice n 0 3 5 _ _ _ _ _ _ _ _ _ in_body past_loop
      (simulates.some _ _ _ (simulates.object _ 4 refl) (simulates.number _)) refl refl
      (turns_back n (loops n))
      (gives_loop_end n 0 _ _ (gives_no_leaves n 0 _ _ (returns n))))))))))))

  starts : (n : ℕ) → Simulates (entry_of (templates b)) n 0 (body_of (function_at (templates b).unit (templates b).unit.entry)) (pieces (entry_of (templates b)))
  starts n =
      gives_enter n 0 0 0 [] _ _ refl (gives_no_enters n 0 _ _
      (gives_statement n 0 _ _ _ (gives_change n 0 2 0 _ item.Forget _ _ refl
      (gives_statement n 0 (loop b) _ _ (gives_no_enters n 0 _ _
      (gives_statement n 0 _ _ _ (simulates.by_mark n 0 1 _ _
      (gives_unused n 0 _ _ _ (gives_address n 0 _ _ _ (gives_object n 0 3 _ _ 0 _ _ refl
      (gives_value n 1 _ _ _ (gives_step n 1 2 _ _ _ _ _ (acts.constant 1 _ _)
      (gives_store n 0 _ _ _ _ (simulates.by_mark n 0 2 _ _ (loops n)))))))))))))))

  made : IsTemplate [] 8 4 (main b) true (of_main b)
  unfolding with_work with_name with_labels with_scope with_dispatch with_new_scope
  made = record { turns = 60; ended = refl; comes_to = refl }

-- the function calls none
no_calls : (b : ℕ) → AllSimulate (templates b)
no_calls b h g f caller callers reached calls is n = absurd (not_called g (of_main b).pieces tt calls)

pub followed : (b : ℕ) → IsFollowed b
followed b = record { template = made b; runs = runs_agree (templates b) (no_calls b) (starts b) }
