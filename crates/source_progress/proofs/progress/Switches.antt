-- A switch leads to a label that is there.
use Rattle.std.proofs.Common.{List, [], ◌∷◌, length, None, arith}
use Rattle.c_layout.specs.CheckedTrees.{StatementTree}
use Rattle.c_layout.specs.CheckedUnits.{UnitView}
use Rattle.c_layout.specs.declared.checked_tree.checked_statements.CaseLabel.{CaseLabel}
use Rattle.memory_model.specs.Memory.Scalars.{Scalar, integer, pointer}
use Rattle.semantics.specs.SourceMachine.LabelSearch as sought
use Rattle.semantics.specs.SourceMachine.LabelSearch.{Sought, found, case_of}
use Rattle.semantics.specs.SourceMachine.SourceStates.{State}
use Rattle.semantics.specs.SourceMachine.BranchSteps.{landing, land, select}
use Rattle.source_items.specs.Operations.Kinds.{Kind, Number, AreOf}
use Rattle.source_items.specs.Operations.GoingReplies.{NotStuck}
use Rattle.source_items.specs.StackKinds.KindedStatements.{HasCases}
use Rattle.source_items.proofs.stack_kinds.SwitchLandings.{IsCase, is_case, lands}
use Rattle.source_progress.proofs.progress.Replies.{step_there}

module _ (u : UnitView) (labels : List CaseLabel) (statement : StatementTree) (cases : HasCases u labels statement) where
  land_steps : (l : Sought) (s : State) → IsCase (length labels) l → NotStuck (land u statement l s)
  land_steps l s is = step_there s (landing l (found u l statement s.control) s.control) _ (lands u labels statement cases l s.control is) (λ to. tt)

  pub select_steps : (s : State) (ks : List Kind) (vs : List Scalar) → AreOf (Number ∷ ks) vs → NotStuck (select u None labels statement s vs)
  select_steps s ks [] are = absurd are
  select_steps s ks (integer n l ∷ vs) are = land_steps (case_of labels 0 n) (record s { values = vs }) (is_case labels (length labels) 0 n (omega arith))
  select_steps s ks (pointer p ∷ vs) are = absurd are.0
