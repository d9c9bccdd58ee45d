-- Switches by the newest value.
use Rattle.std.proofs.Common.{◌≡◌, ℤ, List, [], ◌∷◌, Option, Result, sym, ap, ◌∙◌}
use Rattle.c_layout.specs.CheckedTrees.{StatementTree}
use Rattle.c_layout.specs.CheckedUnits.{UnitView}
use Rattle.c_layout.specs.declared.checked_tree.checked_statements.CaseLabel.{CaseLabel}
use Rattle.lower_conditions.specs.declared.branch_tests.NamedObject.{NamedObject}
use Rattle.memory_model.specs.Memory.Labels.{Labels}
use Rattle.memory_model.specs.Memory.Scalars.{Scalar, integer}
use Rattle.memory_model.specs.Effects.Worlds.{World, goes, behind}
use Rattle.interp_accesses.specs.declared.worlds.Halt.{Halt}
use Rattle.semantics.specs.SourceMachine.BranchSteps.{on_case, land, select}
use Rattle.semantics.specs.SourceMachine.LabelSearch.{Sought, case_of}
use Rattle.semantics.specs.SourceMachine.SourceStates.{State}
use Rattle.interp_steps.specs.MachineItems.Moves.{Moves}
use Rattle.interp_steps.specs.declared.machine_items.machines.Machine.{Machine}
use Rattle.interp_steps.proofs.machine_items.ToldTurns.{moves_same}

pub selects_by : (u : UnitView) (o : Option NamedObject) (labels : List CaseLabel) (body : StatementTree) (s : State) (vs rest : List Scalar) (n : ℤ) (seen : Labels) (l : Sought) → vs ≡ integer n seen ∷ rest → l ≡ case_of labels 0 n → select u o labels body s vs ≡ behind (on_case u o l n (record s { values = rest })) (λ t w. land u body l t)
selects_by u o labels body s vs rest n seen l e same =
    ap (select u o labels body s) e
    ∙ ap (λ k. behind (on_case u o k n (record s { values = rest })) (λ t w. land u body k t)) (sym same)

-- a label is selected, and what follows there is landed on
pub selected : (u : UnitView) (o : Option NamedObject) (body : StatementTree) (s t : State) (n : ℤ) (l : Sought) (w : World) (r : Result (Unit {0}) Halt) (m : Machine) → on_case u o l n s ≡ goes t w → Moves u (land u body l t) r m → Moves u (behind (on_case u o l n s) (λ t w. land u body l t)) r m
selected u o body s t n l w r m e p = moves_same u (land u body l t) (behind (on_case u o l n s) (λ t w. land u body l t)) r m (sym (ap (λ z. behind z (λ t w. land u body l t)) e)) p
