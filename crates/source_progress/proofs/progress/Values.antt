-- Steps on values that are there because their kinds are.
use Rattle.std.proofs.Common.{◌≡◌, ℕ, zero, suc, Bool, true, false, not, List, [], ◌∷◌, ◌++◌, Some, None, refl, subst}
use Rattle.std.specs.List.{slice_get}
use Rattle.c_layout.specs.CheckedUnits.{FunctionView, UnitView}
use Rattle.lower_templates.specs.Worklist.TermKinds.{scalar_of}
use Rattle.lower_functions.specs.Functions.Functions.{local_type}
use Rattle.memory_model.specs.Memory.Scalars.{Scalar, is_false}
use Rattle.memory_model.specs.Effects.Accesses.{store}
use Rattle.memory_model.specs.Effects.LibraryCalls.{fgets}
use Rattle.semantics.specs.SourceMachine.Items.{Items}
use Rattle.semantics.specs.SourceMachine.SourceStates.{State}
use Rattle.semantics.specs.SourceMachine.BranchSteps.{choose_by, choose, read_line}
use Rattle.semantics.specs.SourceMachine.CallSteps.{bind_value}
use Rattle.semantics.specs.SourceMachine.SourceSteps.{again}
use Rattle.source_items.specs.Operations.Kinds.{Kind, Number, Address, IsOf, AreOf}
use Rattle.source_items.specs.Operations.GoingReplies.{NotStuck}
use Rattle.source_items.specs.Operations.OperationLaws.{StoresHaveSteps, LinesHaveSteps}
use Rattle.source_items.specs.StackKinds.KindedTerms.{local_kind}
use Rattle.source_progress.proofs.progress.Replies.{steps_behind, step_at}

-- a value of the kind that lies so deep
pub record Found (k : Kind) (vs : List Scalar) (depth : ℕ) : Type 0 where
  pub value : Scalar
  pub is : slice_get vs depth ≡ Some value
  pub of_kind : IsOf k value

none_some : {A : Type 0} (x : A) → None ≡ Some x → ⊥
none_some x e = cc

same_some : {A : Type 0} (x y : A) → Some x ≡ Some y → x ≡ y
same_some x y e = cc

pub found_at : (k : Kind) (ks more : List Kind) (vs : List Scalar) (depth : ℕ) → slice_get ks depth ≡ Some k → AreOf (ks ++ more) vs → Found k vs depth
found_at k [] more vs depth is are = absurd (none_some k is)
found_at k (j ∷ ks) more [] depth is are = absurd are
found_at k (j ∷ ks) more (v ∷ vs) zero is are = record { value = v; is = refl; of_kind = subst (λ k. IsOf k v) (same_some j k is) are.0 }
found_at k (j ∷ ks) more (v ∷ vs) (suc depth) is are =
    let deeper : Found k vs depth = found_at k ks more vs depth is are.1 in
    record { value = deeper.value; is = deeper.is; of_kind = deeper.of_kind }

pub again_steps : (s : State) (k : Kind) (ks : List Kind) (vs : List Scalar) → AreOf (k ∷ ks) vs → NotStuck (again s vs)
again_steps s k ks [] are = absurd are
again_steps s k ks (v ∷ vs) are = tt

module _ (u : UnitView) (s : State) where
  chosen_steps : (b : Bool) (held failed : Items) (s : State) → NotStuck (choose_by u None b held failed s)
  chosen_steps true held failed s = tt
  chosen_steps false held failed s = tt

  pub choose_steps : (held failed : Items) (k : Kind) (ks : List Kind) (vs : List Scalar) → AreOf (k ∷ ks) vs → NotStuck (choose u None held failed s vs)
  choose_steps held failed k ks [] are = absurd are
  choose_steps held failed k ks (v ∷ vs) are = chosen_steps (not (is_false v)) held failed (record s { values = vs })

  pub line_steps : LinesHaveSteps → (none some : Items) (ks : List Kind) (vs : List Scalar) → AreOf (Address ∷ (Number ∷ (Address ∷ ks))) vs → NotStuck (read_line u none some s vs)
  line_steps lines none some ks [] are = absurd are
  line_steps lines none some ks (stream ∷ []) are = absurd are.1
  line_steps lines none some ks (stream ∷ (count ∷ [])) are = absurd are.1.1
  line_steps lines none some ks (stream ∷ (count ∷ (text ∷ vs))) are = steps_behind (fgets u.model (text ∷ (count ∷ (stream ∷ []))) s.world) _ (lines u.model text count stream s.world are.1.1.0 are.1.0 are.0).1 (λ v w. tt)

  -- a parameter is stored to
  pub bind_steps : StoresHaveSteps → (f : FunctionView) (n depth : ℕ) (ks more : List Kind) (vs : List Scalar) → slice_get ks depth ≡ Some (local_kind f n) → AreOf (Address ∷ (ks ++ more)) vs → NotStuck (bind_value u s f n depth vs)
  bind_steps stores f n depth ks more [] is are = absurd are
  bind_steps stores f n depth ks more (p ∷ vs) is are =
      let v : Found (local_kind f n) vs depth = found_at (local_kind f n) ks more vs depth is are.1 in
      step_at s (slice_get vs depth) v.value _ v.is (steps_behind (store u.model (scalar_of (local_type f n)) p v.value s.world) _ (stores u.model (scalar_of (local_type f n)) p v.value s.world are.0 v.of_kind).1 (λ _ w. tt))
