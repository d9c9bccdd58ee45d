-- Instructions on integers are told.
use Rattle.std.proofs.Common.{◌≡◌, ℕ, ◌<◌, ◌^◌, ◌-◌, Bool, true, false, not, cond, ◌||◌, ◌&&◌, Option, Some, None, List, ◌++◌, arith, subst, sym, refl, ap, ap₂, ◌∙◌, ◌*◌, inl, inr}
use Rattle.std.specs.Prelude.{ℤ, pos, negsuc, ◌≤ℤ◌, int_le}
use Rattle.std.specs.Ordering.{int_eq}
use Rattle.std.proofs.lemmas.Int.{ints}
use Rattle.std.proofs.lemmas.Bool.{cases_Bool, and_parts, or_left, or_right, ltb-true, true≢false}
use Rattle.std.proofs.Math.Bool.{and_self}
use lib.Signed.{≤ℤ_refl}
use Rattle.cc_base.specs.Lattices.{LatticeOf}
use Rattle.cc_base.specs.IntegerTypes.{is_size, in_type, wrap_into, least_of, greatest_of}
use Rattle.cc_base.specs.IntegerDomains.{IntegersOf, BoundLaws, RangeLaws}
use Rattle.cc_base.specs.IntegerLaws.{SoundLaws}
use Rattle.cc_base.specs.MachineArithmetic.{binary_result, unary_result, holds}
use Rattle.cc_base.specs.Truths.{tri_of, can_hold, can_fail}
use Rattle.cc_base.specs.declared.diagnostics.Rule.{Rule}
use Rattle.cc_base.specs.declared.int_types.IntType.{IntType}
use Rattle.cc_base.specs.declared.integer_operators.IntOp.{IntOp}
use Rattle.cc_base.specs.declared.integer_operators.IntOp.TheVariants.{Add, Sub, Mul, Div, Rem, And, Or, Xor, Shl, Shr}
use Rattle.cc_base.specs.declared.integer_operators.Rel.{Rel}
use Rattle.cc_base.specs.declared.integer_operators.Rel.TheVariants.{Ne}
use Rattle.cc_base.specs.declared.integer_operators.Tri.{Tri}
use Rattle.cc_base.specs.declared.integer_operators.Tri.TheVariants.{Yes, Never}
use Rattle.cc_base.specs.declared.integer_operators.UnOp.{UnOp}
use Rattle.interval_domain.specs.Intervals.IntervalNumbers.{by_size}
use Rattle.cfg.specs.ModelKinds.{is_int_type}
use Rattle.cfg.specs.WellFormed.{names_of, is_number, is_scalar, has_temp, has_amount, fits_operation}
use Rattle.cfg.specs.declared.machine_instructions.Amount.{Amount}
use Rattle.cfg.specs.declared.machine_instructions.Amount.TheVariants as amount
use Rattle.cfg.specs.declared.machine_instructions.Scalar as declared
use Rattle.cfg.specs.declared.machine_instructions.Scalar.TheVariants as of
use Rattle.cfg.specs.declared.machine_instructions.Operation.{Operation}
use Rattle.cfg.specs.declared.machine_instructions.Operation.TheVariants as op
use Rattle.cfg.specs.declared.programs.Flow.{Flow}
use Rattle.pointer_domain.specs.BaseSets.{bases_empty}
use Rattle.pointer_domain.specs.PointerTables.{is_any}
use Rattle.pointer_domain.specs.declared.pointer_sets.Pointers.{Pointers}
use Rattle.value_domain.specs.declared.values.values.Value.{Value}
use Rattle.value_domain.specs.declared.values.row_cells.Cell.{Cell}
use Rattle.value_domain.specs.Values.LabelSets as set
use Rattle.value_domain.specs.declared.values.label_sets.Labels.{Labels as SetLabels}
use Rattle.value_domain.specs.Values.ValueTables.{number_value, pointer_value, truth_value, value_arith, value_unary, value_convert, value_truth, ranges_leave, negated_leave, range_fits}
use Rattle.domain_theorems.proofs.values.EqualityStands.{has_some}
use Rattle.store_cells.specs.ByteWrites.{null_pointer}
use Rattle.store_objects.specs.LiveBases.{only_base}
use Rattle.transfer_checks.specs.IntegerChecks.{unary_violations, binary_violations, ranges_violate, overflow_violations}
use Rattle.transfer_checks.specs.Temporaries.{temp_value, amount_value, put_temp}
use Rattle.transfer_checks.specs.ViolationSets.{no_violations}
use Rattle.transfer_checks.specs.declared.violation_sets.Violations.{Violations}
use Rattle.transfer_instructions.specs.Values.IntegerSteps.{constant_step, binary_step, unary_step, compare_step, not_step, put_converted, converted_pointer, convert_value, convert_step}
use Rattle.transfer_instructions.specs.Values.ResultTemps.{negated, put_number, put_truth, put_pointer}
use Rattle.transfer_instructions.specs.Instructions.OperationGroups.{is_on_values}
use Rattle.transfer_instructions.specs.Instructions.Steps.{operate}
use Rattle.transfer_instructions.specs.Instructions.StepViolations.{operation_violations}
use Rattle.memory_model.specs.Memory.Labels.{Labels, no_labels, operated_labels, negated_labels, converted_labels}
use Rattle.memory_model.specs.Memory.Bytes.{MachinePointer, null, into}
use Rattle.memory_model.specs.Memory.Instances.{Memory, Life, live, ended, freed, life_at}
use Rattle.memory_model.specs.Memory.Scalars.{Scalar, integer, pointer, is_false}
use Rattle.memory_model.specs.Effects.Worlds.{Stuck, Reply, goes, stops, violating}
use Rattle.memory_model.specs.Effects.IntegerEffects.{truth, plain_one, is_outside, result_of, binary_faults, why_none, computed, binary_numbers, unary_math, overflow_faults, unary_number, pointer_from, convert}
use Rattle.lower_templates.specs.Worklist.Acts.{act}
use Rattle.lower_templates.specs.Views.ProgramViews.{flow_view}
use Rattle.semantics.specs.CfgMachine.FlowStates.{ProgramState}
use Rattle.semantics.specs.CfgMachine.FlowActs.{giving, with_amount}
use Rattle.semantics.specs.CfgMachine.FlowSteps.{act_step}
use Rattle.store_sound.specs.Concretization.SeenLabels.{as_set}
use Rattle.store_sound.specs.Concretization.ValueMeaning.{Naming}
use Rattle.store_sound.specs.Concretization.SoundMemory.{IsPointerIn, IsScalarIn}
use Rattle.store_sound.specs.Concretization.Coverage.{state_of}
use Rattle.store_sound.specs.Operations.Scalars.{IsOfKind}
use Rattle.store_sound.specs.Programs.Premises.{HasPremises}
use Rattle.store_sound.proofs.operations.Sets.{only_has}
use Rattle.transfer_sound.specs.Values.OperandTypes.{HasNumberOf, HasKind, HasOperands}
use Rattle.transfer_sound.specs.Values.SoundSteps.{IsReached}
use Rattle.transfer_sound.proofs.values.BinarySteps.{same_operated, left_is}
use Rattle.transfer_sound.proofs.values.NearScalars.{IsNearNumber}
use Rattle.transfer_sound.proofs.values.TypeRanges.{type_near}
use Rattle.transfer_sound.proofs.values.ResultRows.{truth_near}
use Rattle.transfer_sound.proofs.values.ValueSteps.{is_near, same_negated, size_of, negation_is}
use Rattle.transfer_exact.specs.Values.SingleNumbers.{IsOne, IsNone}
use Rattle.transfer_exact.specs.Values.ExactNumbers.{FitsRight, truth_of, IsResult, ExactLaws}
use Rattle.transfer_exact.specs.Values.SingleValues.{ExactByLife, ExactPointer, ExactNumber, ExactPointing, ExactScalar}
use Rattle.transfer_exact.specs.Values.SingleRows.{ExactState}
use Rattle.transfer_exact.specs.Values.SingleSteps.{IsDefined, IsExact, StepIsExact}
use Rattle.transfer_exact.specs.Values.SingleLaws.{FitsAmount, HasRight}
use Rattle.transfer_exact.proofs.values.NearExact.{near_one}
use Rattle.transfer_exact.proofs.values.PutExact.{IsExactResult}
use Rattle.transfer_exact.proofs.values.Violated.{AreViolated, none_violated, behind_violated}
use Rattle.transfer_exact.proofs.values.Told.{stop_told, if_some_told, number_told, result_told}
use Rattle.transfer_exact.proofs.values.Faults.{faults_violated, unary_violated}

-- 1 is a number of each type
one_in : (k : IntType) → is_size k.bytes ≡ true → in_type k (pos 1) ≡ true
one_in k size = elim (cases_Bool k.signed) [
  | inl e ↦ subst (λ b. (int_le (cond b (negsuc (2 ^ (8 * k.bytes - 1) - 1)) (pos 0)) (pos 1) && int_le (pos 1) (cond b (pos (2 ^ (8 * k.bytes - 1) - 1)) (pos (2 ^ (8 * k.bytes) - 1)))) ≡ true) (sym e)
      (by_size (λ m. (int_le (negsuc (2 ^ (8 * m - 1) - 1)) (pos 1) && int_le (pos 1) (pos (2 ^ (8 * m - 1) - 1))) ≡ true) refl refl refl refl k.bytes size)
  | inr e ↦ subst (λ b. (int_le (cond b (negsuc (2 ^ (8 * k.bytes - 1) - 1)) (pos 0)) (pos 1) && int_le (pos 1) (cond b (pos (2 ^ (8 * k.bytes - 1) - 1)) (pos (2 ^ (8 * k.bytes) - 1)))) ≡ true) (sym e)
      (by_size (λ m. (int_le (pos 0) (pos 1) && int_le (pos 1) (pos (2 ^ (8 * m) - 1))) ≡ true) refl refl refl refl k.bytes size)
]

one_fits : (o : IntOp) (k : IntType) → is_size k.bytes ≡ true → FitsRight o k (pos 1)
one_fits Add k size = one_in k size
one_fits Sub k size = one_in k size
one_fits Mul k size = one_in k size
one_fits Div k size = one_in k size
one_fits Rem k size = one_in k size
one_fits And k size = one_in k size
one_fits Or k size = one_in k size
one_fits Xor k size = one_in k size
one_fits Shl k size = tt
one_fits Shr k size = tt

-- ---- truth values

pub negated_truth : (b : Bool) → negated (truth_of b) ≡ truth_of (not b)
negated_truth true = refl
negated_truth false = refl

module _ {I : Type 0} (l : LatticeOf I) (n : IntegersOf I) (entered : ℕ → Option ℕ) (memory : Memory) where
  pub tells_number : (x : I) (labels : SetLabels) (z : ℤ) (la : Labels) → IsOne n x z → labels ≡ as_set la → ExactNumber n entered memory (number_value l x labels) z la
  tells_number x labels z la e f = record { number = e; labels_are = f; apart = record { bases = refl; null = refl; ended = refl }; determinate = refl }

module _ {I : Type 0} {l : LatticeOf I} {n : IntegersOf I} {gamma : I → ℤ → Type 0} (q : BoundLaws l n gamma) (entered : ℕ → Option ℕ) (memory : Memory) where
  pub tells_truth : (b : Bool) → ExactScalar n entered memory (truth_value l n (truth_of b)) (truth b)
  tells_truth true = tells_number l n entered memory (n.one (pos 1)) set.no_labels (pos 1) no_labels (q.one_bounds (pos 1)) refl
  tells_truth false = tells_number l n entered memory (n.one (pos 0)) set.no_labels (pos 0) no_labels (q.one_bounds (pos 0)) refl

  pub tells_pointer : (x : Pointers I) (p : MachinePointer) → ExactPointer n entered memory x p → ExactPointing n entered memory (pointer_value l x) p
  tells_pointer x p h = record { apart = q.least_bounds; points = h; determinate = refl }

module _ {I : Type 0} {l : LatticeOf I} {n : IntegersOf I} {gamma : I → ℤ → Type 0} (q : BoundLaws l n gamma) (c : SoundLaws l n gamma) (x : ExactLaws n) (entered : ℕ → Option ℕ) (memory : Memory) where
  -- the truth of a value that tells a scalar
  by_parts : (v : Value I) (t : Tri) (empty is_null has_ended : Bool) → n.compare Ne v.num (n.one (pos 0)) ≡ t → bases_empty v.pointer.bases ≡ empty → v.pointer.null ≡ is_null → v.pointer.ended ≡ has_ended
      → value_truth n v ≡ tri_of (can_hold t || (not empty || has_ended)) (can_fail t || is_null)
  by_parts v t empty is_null has_ended a b d e = rw (a, b, d, e) refl

  number_parts : (b : Bool) → tri_of (can_hold (truth_of b) || (not true || false)) (can_fail (truth_of b) || false) ≡ truth_of b
  number_parts true = refl
  number_parts false = refl

  never_compared : (v : Value I) → IsNone n v.num → n.compare Ne v.num (n.one (pos 0)) ≡ Never
  never_compared v e = (c.compare_never Ne v.num (n.one (pos 0))).1 (inl (q.only_least v.num e))

  life_truth : (v : Value I) (life : Life) (i offset lo hi : ℕ) → IsNone n v.num → ExactByLife n entered v.pointer life i offset lo hi → value_truth n v ≡ Yes
  life_truth v live i offset lo hi e h = by_parts v Never false false false (never_compared v e) (ap bases_empty h.bases ∙ has_some (only_base h.base) h.base (only_has h.base h.few)) h.null h.ended
  life_truth v ended i offset lo hi e h = by_parts v Never true false true (never_compared v e) h.bases h.null h.ended
  life_truth v freed i offset lo hi e h = absurd h

  pub truth_told : (v : Value I) (s : Scalar) → ExactScalar n entered memory v s → value_truth n v ≡ truth_of (not (is_false s))
  truth_told v (integer z labels) h =
      by_parts v (truth_of (not (int_eq z (pos 0)))) true false false (x.compare Ne v.num (n.one (pos 0)) z (pos 0) h.number (q.one_bounds (pos 0))) h.apart.bases h.apart.null h.apart.ended
      ∙ number_parts (not (int_eq z (pos 0)))
  truth_told v (pointer null) h = by_parts v Never true true false (never_compared v h.apart) h.points.bases h.points.null h.points.ended
  truth_told v (pointer (into i offset lo hi)) h = life_truth v (life_at memory i) i offset lo hi h.apart h.points

-- ---- rows of results

module _ {I : Type 0} (n : IntegersOf I) (flow : Flow) (row : List (Cell I)) (to : ℕ) where
  pub number_put : (x : Value I) (z : ℤ) → IsOne n x.num z → put_number n flow row to x ≡ Some (put_temp flow row to x)
  unfolding put_number
  number_put x z e = rw e refl

  pub nothing_put : (x : Value I) → IsNone n x.num → put_number n flow row to x ≡ None
  unfolding put_number
  nothing_put x e = rw e refl

module _ {I : Type 0} (l : LatticeOf I) (n : IntegersOf I) (flow : Flow) (row : List (Cell I)) (to : ℕ) where
  pub truth_put : (b : Bool) → put_truth l n flow row to (truth_of b) ≡ Some (put_temp flow row to (truth_value l n (truth_of b)))
  unfolding put_truth
  truth_put true = refl
  truth_put false = refl

  life_there : (entered : ℕ → Option ℕ) (x : Pointers I) (life : Life) (i offset lo hi : ℕ) → ExactByLife n entered x life i offset lo hi → (is_any x || x.ended) ≡ true
  life_there entered x live i offset lo hi h = or_left (is_any x) x.ended (or_left (not (bases_empty x.bases)) x.null (ap (λ z. not (bases_empty z)) h.bases ∙ ap not (has_some (only_base h.base) h.base (only_has h.base h.few))))
  life_there entered x ended i offset lo hi h = or_right (is_any x) x.ended h.ended
  life_there entered x freed i offset lo hi h = absurd h

  there : (entered : ℕ → Option ℕ) (memory : Memory) (x : Pointers I) (p : MachinePointer) → ExactPointer n entered memory x p → (is_any x || x.ended) ≡ true
  there entered memory x null h = or_left (is_any x) x.ended (or_right (not (bases_empty x.bases)) x.null h.null)
  there entered memory x (into i offset lo hi) h = life_there entered x (life_at memory i) i offset lo hi h

  pub pointer_put : (entered : ℕ → Option ℕ) (memory : Memory) (x : Pointers I) (p : MachinePointer) → ExactPointer n entered memory x p → put_pointer l flow row to x ≡ Some (put_temp flow row to (pointer_value l x))
  unfolding put_pointer
  pointer_put entered memory x p h = rw (there entered memory x p h) refl

module _ {I : Type 0} {l : LatticeOf I} {n : IntegersOf I} {gamma : I → ℤ → Type 0} (q : BoundLaws l n gamma) (c : SoundLaws l n gamma) (ranges : RangeLaws l n) (x : ExactLaws n) (flow : Flow) (p : HasPremises flow) (naming : Naming) (row : List (Cell I)) (s : ProgramState) (r : IsReached l n gamma flow naming row s) (t : ExactState l n flow row (state_of s)) where
  abbrev Defined : Operation → Type 0
  Defined o = IsDefined (act_step (flow_view flow) (act o) s)

  abbrev Exact : Operation → Type 0
  Exact o = Defined o → StepIsExact l n flow row o s

  -- what a right operand is
  abbrev FitsBy : Amount → Scalar → Type 0
  FitsBy (amount.Temp u) v = s.temps u ≡ Some v
  FitsBy amount.One v = plain_one ≡ v

  few_temp : (t : ℕ) → has_temp (names_of flow) t ≡ true → t < flow.temps
  few_temp t h = ltb-true t flow.temps h

  number_result : (v : Value I) (z : ℤ) (labels : Labels) → IsNearNumber z → ExactNumber n s.bases s.world.memory v z labels → IsExactResult q flow p s.bases s.world.memory v (integer z labels)
  number_result v z labels near h = record { tells = h; near = near; within = tt }

  -- ---- constants

  constant_told : (to : ℕ) (z : ℤ) (k : IntType) → fits_operation (names_of flow) (op.Constant to z k) ≡ true → Exact (op.Constant to z k)
  unfolding operate constant_step operation_violations
  constant_told to z k fits d =
      let a = and_parts (has_temp (names_of flow) to) (is_number z && is_int_type flow.model k) fits in
      let b = and_parts (is_number z) (is_int_type flow.model k) a.1 in
      let v = number_value l (n.one z) set.no_labels in
      result_told q flow p naming row s r t to (few_temp to a.0) v (integer z no_labels) s.world
      (number_result v z no_labels (is_near z b.0) (tells_number l n s.bases s.world.memory (n.one z) set.no_labels z no_labels (q.one_bounds z) refl)) refl _ no_violations
      (number_put n flow row to v z (q.one_bounds z)) (none_violated s.world.violated)

  -- ---- comparisons

  truth_good : (to : ℕ) → to < flow.temps → (tri : Tri) (b : Bool) → tri ≡ truth_of b → IsExact l n flow (put_truth l n flow row to tri) no_violations (giving s to (goes (truth b) s.world))
  truth_good to few tri b e =
      result_told q flow p naming row s r t to few (truth_value l n (truth_of b)) (truth b) s.world
      (record { tells = tells_truth q s.bases s.world.memory b; near = truth_near b; within = tt }) refl _ no_violations
      (ap (put_truth l n flow row to) e ∙ truth_put l n flow row to b) (none_violated s.world.violated)

  compare_told : (to : ℕ) (rel : Rel) (left right : ℕ) → fits_operation (names_of flow) (op.Compare to rel left right) ≡ true → Exact (op.Compare to rel left right)
  unfolding operate compare_step operation_violations
  compare_told to rel left right fits d =
      let few = few_temp to (and_parts (has_temp (names_of flow) to) (has_temp (names_of flow) left && has_temp (names_of flow) right) fits).0 in
      if_some_told l n flow _ no_violations s (s.temps left) _ d (λ v e d.
      if_some_told l n flow _ no_violations s (s.temps right) _ d (λ w f d.
      number_told l n flow _ no_violations s to v s.world _ d (λ a la g d.
      number_told l n flow _ no_violations s to w s.world _ d (λ b lb h d.
      let y = subst (ExactScalar n s.bases s.world.memory (temp_value l n flow row left)) g (t.temps left v e) in
      let z = subst (ExactScalar n s.bases s.world.memory (temp_value l n flow row right)) h (t.temps right w f) in
      truth_good to few _ (holds rel a b) (x.compare rel (temp_value l n flow row left).num (temp_value l n flow row right).num a b y.number z.number)))))

  not_told : (to from : ℕ) (k : declared.Scalar) → fits_operation (names_of flow) (op.Not to from k) ≡ true → Exact (op.Not to from k)
  unfolding operate not_step operation_violations
  not_told to from k fits d =
      let few = few_temp to (and_parts (has_temp (names_of flow) to) (has_temp (names_of flow) from && is_scalar flow.model k) fits).0 in
      if_some_told l n flow _ no_violations s (s.temps from) _ d (λ v e d.
      truth_good to few _ (is_false v) (ap negated (truth_told q c x s.bases s.world.memory (temp_value l n flow row from) v (t.temps from v e)) ∙ (negated_truth (not (is_false v)) ∙ ap truth_of (twice (is_false v)))))
    where
      twice : (b : Bool) → not (not b) ≡ b
      twice true = refl
      twice false = refl

  -- ---- results of operators

  -- a result that there is has its number in a temporary; where there is none, the run stops
  computed_told : (to : ℕ) → to < flow.temps → (k : IntType) → is_size k.bytes ≡ true → (v : Value I) (w : Violations) (faults : List Rule) (labels : Labels) (result : Option ℤ) → AreViolated w faults → IsResult n v.num result → ((z : ℤ) → result ≡ Some z → IsExactResult q flow p s.bases s.world.memory v (integer z labels))
      → IsExact l n flow (cond (is_size k.bytes) (put_number n flow row to v) None) (cond (is_size k.bytes) w no_violations) (giving s to (computed faults result labels s.world))
  computed_told to few k size v w faults labels None h none f =
      let row_is : cond (is_size k.bytes) (put_number n flow row to v) None ≡ None = rw (size, nothing_put n flow row to v none) refl in
      stop_told l n flow _ _ (why_none faults) (violating s.world faults) row_is (subst (λ b. AreViolated (cond b w no_violations) (s.world.violated ++ faults)) (sym size) (behind_violated w s.world.violated faults h))
  computed_told to few k size v w faults labels (Some z) h one f =
      let row_is : cond (is_size k.bytes) (put_number n flow row to v) None ≡ Some (put_temp flow row to v) = rw (size, number_put n flow row to v z one) refl in
      result_told q flow p naming row s r t to few v (integer z labels) (violating s.world faults) (f z refl) refl _ _ row_is
      (subst (λ b. AreViolated (cond b w no_violations) (s.world.violated ++ faults)) (sym size) (behind_violated w s.world.violated faults h))

  -- ---- operators on two integers

  amount_told : (after : Option (List (Cell I))) (w : Violations) (by : Amount) (use_it : Scalar → Reply ProgramState) → IsDefined (with_amount s by use_it) → ((v : Scalar) → ExactScalar n s.bases s.world.memory (amount_value l n flow row by) v → FitsBy by v → IsDefined (use_it v) → IsExact l n flow after w (use_it v)) → IsExact l n flow after w (with_amount s by use_it)
  amount_told after w (amount.Temp u) use_it d h = if_some_told l n flow after w s (s.temps u) use_it d (λ v e d. h v (t.temps u v e) e d)
  amount_told after w amount.One use_it d h =
      h plain_one (record { number = near_one q (n.one (pos 1)) (pos 1) (record { from = omega (arith, ints); to = omega (arith, ints) }) (q.one_bounds (pos 1)); labels_are = refl; apart = record { bases = refl; null = refl; ended = refl }; determinate = refl }) refl d

  near_result : (k : IntType) (y : I) (z : ℤ) → is_size k.bytes ≡ true → ((a b : ℤ) → n.bounds y ≡ Some (a, b) → (least_of k ≤ℤ a) × (b ≤ℤ greatest_of k)) → IsOne n y z → IsNearNumber z
  near_result k y z size fits one = let f = fits z z one in type_near k z z z size f.0 f.1 (≤ℤ_refl z) (≤ℤ_refl z)

  binary_good : (to : ℕ) → to < flow.temps → (o : IntOp) (k : IntType) → is_size k.bytes ≡ true → (v w : Value I) (a b : ℤ) (la lb : Labels) → ExactNumber n s.bases s.world.memory v a la → ExactNumber n s.bases s.world.memory w b lb → in_type k a ≡ true → FitsRight o k b
      → IsExact l n flow (cond (is_size k.bytes) (put_number n flow row to (value_arith l n o v w k)) None) (cond (is_size k.bytes) (binary_violations n o k v w) no_violations) (giving s to (binary_numbers o k a la b lb s.world))
  binary_good to few o k size v w a b la lb f g inside fit =
      let violated : AreViolated (binary_violations n o k v w) (binary_faults o k a b) = subst (λ y. AreViolated y (binary_faults o k a b)) (sym (ap₂ (ranges_violate o k) f.number g.number)) (faults_violated k a b o inside) in
      let exact = x.arith o k v.num w.num a b size f.number g.number inside fit in
      computed_told to few k size (value_arith l n o v w k) (binary_violations n o k v w) (binary_faults o k a b) _ (binary_result o k a b) violated exact (λ z e.
      let one : IsOne n (n.arith o v.num w.num k) z = subst (IsResult n (n.arith o v.num w.num k)) e exact in
      let labels = ap₂ (λ y u. set.operated_labels o y u k (ranges_leave o k (n.bounds v.num) (n.bounds w.num))) f.labels_are g.labels_are
      ∙ (ap (set.operated_labels o (as_set la) (as_set lb) k) (ap₂ (ranges_leave o k) f.number g.number ∙ sym (left_is o k a b z inside e)) ∙ sym (same_operated o la lb k (is_outside k (result_of o a b)))) in
      number_result (value_arith l n o v w k) z (operated_labels o la lb k (is_outside k (result_of o a b)))
      (near_result k (n.arith o v.num w.num k) z size (λ i j u. ranges.arith_fits o v.num w.num k i j size u) one)
      (tells_number l n s.bases s.world.memory (n.arith o v.num w.num k) _ z _ one labels))

  right_fits : (o : IntOp) (k : IntType) (by : Amount) (v : Scalar) (z : ℤ) (la : Labels) → is_size k.bytes ≡ true → FitsAmount o k by s.temps → FitsBy by v → v ≡ integer z la → FitsRight o k z
  right_fits o k (amount.Temp u) v z la size h e g = h z la (e ∙ ap Some g)
  right_fits o k amount.One v z la size h e g = let d : pos 1 ≡ z = ap number_in (e ∙ g) in subst (FitsRight o k) d (one_fits o k size)
    where
      number_in : Scalar → ℤ
      number_in (integer z la) = z
      number_in (pointer at) = pos 0

  binary_told : (to : ℕ) (o : IntOp) (left : ℕ) (right : Amount) (k : IntType) → fits_operation (names_of flow) (op.Binary to o left right k) ≡ true → HasNumberOf k (s.temps left) → FitsAmount o k right s.temps → Exact (op.Binary to o left right k)
  unfolding operate binary_step operation_violations
  binary_told to o left right k fits typed also d =
      let a = and_parts (has_temp (names_of flow) to) (has_temp (names_of flow) left && (has_amount (names_of flow) right && is_int_type flow.model k)) fits in
      let b = and_parts (has_temp (names_of flow) left) (has_amount (names_of flow) right && is_int_type flow.model k) a.1 in
      let size = size_of flow k (and_parts (has_amount (names_of flow) right) (is_int_type flow.model k) b.1).1 in
      if_some_told l n flow _ _ s (s.temps left) _ d (λ v e d.
      amount_told _ _ right _ d (λ w sw fit d.
      number_told l n flow _ _ s to v s.world _ d (λ z la g d.
      number_told l n flow _ _ s to w s.world _ d (λ u lb h d.
      binary_good to (few_temp to a.0) o k size (temp_value l n flow row left) (amount_value l n flow row right) z u la lb
      (subst (ExactScalar n s.bases s.world.memory (temp_value l n flow row left)) g (t.temps left v e)) (subst (ExactScalar n s.bases s.world.memory (amount_value l n flow row right)) h sw)
      (typed z la (e ∙ ap Some g)) (right_fits o k right w u lb size also fit h)))))

  -- ---- operators on one integer

  unary_good : (to : ℕ) → to < flow.temps → (o : UnOp) (k : IntType) → is_size k.bytes ≡ true → (v : Value I) (a : ℤ) (la : Labels) → ExactNumber n s.bases s.world.memory v a la → in_type k a ≡ true
      → IsExact l n flow (cond (is_size k.bytes) (put_number n flow row to (value_unary l n o v k)) None) (cond (is_size k.bytes) (unary_violations n o k v) no_violations) (giving s to (unary_number o k a la s.world))
  unary_good to few o k size v a la f inside =
      let violated : AreViolated (unary_violations n o k v) (overflow_faults k (unary_math o a)) = subst (λ y. AreViolated y (overflow_faults k (unary_math o a))) (sym (ap (λ y. overflow_violations (k.signed && negated_leave o k y)) f.number)) (unary_violated k a a o) in
      let exact = x.unary o k v.num a size f.number inside in
      computed_told to few k size (value_unary l n o v k) (unary_violations n o k v) (overflow_faults k (unary_math o a)) _ (unary_result o k a) violated exact (λ z e.
      let one : IsOne n (n.unary o v.num k) z = subst (IsResult n (n.unary o v.num k)) e exact in
      let labels = ap (λ y. set.negated_labels o y k (negated_leave o k (n.bounds v.num))) f.labels_are
      ∙ (ap (set.negated_labels o (as_set la) k) (ap (negated_leave o k) f.number ∙ sym (negation_is o k a)) ∙ sym (same_negated o la k (is_outside k (unary_math o a)))) in
      number_result (value_unary l n o v k) z (negated_labels o la k (is_outside k (unary_math o a)))
      (near_result k (n.unary o v.num k) z size (λ i j u. ranges.unary_fits o v.num k i j size u) one)
      (tells_number l n s.bases s.world.memory (n.unary o v.num k) _ z _ one labels))

  unary_told : (to : ℕ) (o : UnOp) (from : ℕ) (k : IntType) → fits_operation (names_of flow) (op.Unary to o from k) ≡ true → HasNumberOf k (s.temps from) → Exact (op.Unary to o from k)
  unfolding operate unary_step operation_violations
  unary_told to o from k fits typed d =
      let a = and_parts (has_temp (names_of flow) to) (has_temp (names_of flow) from && is_int_type flow.model k) fits in
      let size = size_of flow k (and_parts (has_temp (names_of flow) from) (is_int_type flow.model k) a.1).1 in
      if_some_told l n flow _ _ s (s.temps from) _ d (λ v e d.
      number_told l n flow _ _ s to v s.world _ d (λ z la g d.
      unary_good to (few_temp to a.0) o k size (temp_value l n flow row from) z la (subst (ExactScalar n s.bases s.world.memory (temp_value l n flow row from)) g (t.temps from v e)) (typed z la (e ∙ ap Some g))))

  -- ---- conversions

  to_integer : (to : ℕ) → to < flow.temps → (k : IntType) → is_size k.bytes ≡ true → (y : Value I) (v : Scalar) → ExactScalar n s.bases s.world.memory y v → IsDefined (giving s to (convert (of.Int k) v s.world)) → IsExact l n flow (put_converted l n flow row to y k) no_violations (giving s to (convert (of.Int k) v s.world))
  unfolding put_converted
  to_integer to few k size y v f d = number_told l n flow _ _ s to v s.world _ d (λ z la g d.
      let h = subst (ExactScalar n s.bases s.world.memory y) g f in
      let one = x.convert k y.num z size h.number in
      let row_is : cond (is_size k.bytes) (put_number n flow row to (value_convert l n y k)) None ≡ Some (put_temp flow row to (value_convert l n y k)) = rw (size, number_put n flow row to (value_convert l n y k) (wrap_into k z) one) refl in
      let labels = ap₂ (λ u w. set.converted_labels u k w) h.labels_are (ap (range_fits k) h.number ∙ and_self (in_type k z)) in
      result_told q flow p naming row s r t to few (value_convert l n y k) (integer (wrap_into k z) (converted_labels la k (in_type k z))) s.world
      (number_result (value_convert l n y k) (wrap_into k z) (converted_labels la k (in_type k z))
      (near_result k (n.convert y.num k) (wrap_into k z) size (λ i j u. ranges.convert_fits y.num k i j size u) one)
      (tells_number l n s.bases s.world.memory (n.convert y.num k) _ (wrap_into k z) _ one labels))
      refl _ no_violations row_is (none_violated s.world.violated))

  pub pointer_good : (to : ℕ) → to < flow.temps → (y : Pointers I) (at : MachinePointer) → ExactPointer n s.bases s.world.memory y at → IsPointerIn s.world.memory at → IsExact l n flow (put_pointer l flow row to y) no_violations (giving s to (goes (pointer at) s.world))
  pointer_good to few y at h within =
      result_told q flow p naming row s r t to few (pointer_value l y) (pointer at) s.world (record { tells = tells_pointer q s.bases s.world.memory y at h; near = tt; within = within }) refl _ no_violations
      (pointer_put l n flow row to s.bases s.world.memory y at h) (none_violated s.world.violated)

  null_good : (to : ℕ) → to < flow.temps → (b : Bool) → IsDefined (giving s to (cond b (goes (pointer null) s.world) (stops Stuck s.world))) → IsExact l n flow (put_pointer l flow row to (null_pointer l)) no_violations (giving s to (cond b (goes (pointer null) s.world) (stops Stuck s.world)))
  null_good to few true d = pointer_good to few (null_pointer l) null (record { bases = refl; null = refl; ended = refl }) tt
  null_good to few false d = absurd (d s.world refl)

  to_pointer : (to : ℕ) → to < flow.temps → (from : declared.Scalar) (y : Value I) (v : Scalar) → IsOfKind from v → ExactScalar n s.bases s.world.memory y v → IsScalarIn s.world.memory v → IsDefined (giving s to (pointer_from v s.world)) → IsExact l n flow (put_pointer l flow row to (converted_pointer l from y)) no_violations (giving s to (pointer_from v s.world))
  to_pointer to few (of.Int k) y (integer z labels) typed h within d = null_good to few (int_eq z (pos 0)) d
  to_pointer to few (of.Int k) y (pointer at) typed h within d = absurd (true≢false (sym typed))
  to_pointer to few of.Pointer y (integer z labels) typed h within d = absurd (true≢false (sym typed))
  to_pointer to few of.Pointer y (pointer at) typed h within d = pointer_good to few y.pointer at h.points within

  convert_told : (to from : ℕ) (old new : declared.Scalar) → fits_operation (names_of flow) (op.Convert to from old new) ≡ true → HasKind old (s.temps from) → Exact (op.Convert to from old new)
  unfolding operate convert_step convert_value operation_violations
  convert_told to from old (of.Int k) fits typed d =
      let a = and_parts (has_temp (names_of flow) to) (has_temp (names_of flow) from && (is_scalar flow.model old && is_int_type flow.model k)) fits in
      let b = and_parts (has_temp (names_of flow) from) (is_scalar flow.model old && is_int_type flow.model k) a.1 in
      let size = size_of flow k (and_parts (is_scalar flow.model old) (is_int_type flow.model k) b.1).1 in
      if_some_told l n flow _ no_violations s (s.temps from) _ d (λ v e d. to_integer to (few_temp to a.0) k size (temp_value l n flow row from) v (t.temps from v e) d)
  convert_told to from old of.Pointer fits typed d =
      let a = and_parts (has_temp (names_of flow) to) (has_temp (names_of flow) from && (is_scalar flow.model old && true)) fits in
      if_some_told l n flow _ no_violations s (s.temps from) _ d (λ v e d. to_pointer to (few_temp to a.0) old (temp_value l n flow row from) v (typed v e) (t.temps from v e) (r.stands_for.held.within from v e) d)

  -- ---- all of them

  pub value_step_told : (o : Operation) → is_on_values o ≡ true → fits_operation (names_of flow) o ≡ true → HasOperands o s.temps → HasRight o s.temps → Exact o
  value_step_told (op.Constant to z k) is fits typed right = constant_told to z k fits
  value_step_told (op.Binary to o left by k) is fits typed right = binary_told to o left by k fits typed right
  value_step_told (op.Unary to o from k) is fits typed right = unary_told to o from k fits typed
  value_step_told (op.Compare to rel left by) is fits typed right = compare_told to rel left by fits
  value_step_told (op.Not to from k) is fits typed right = not_told to from k fits
  value_step_told (op.Convert to from old new) is fits typed right = convert_told to from old new fits typed
  value_step_told o is fits typed right = absurd (true≢false (sym is))
