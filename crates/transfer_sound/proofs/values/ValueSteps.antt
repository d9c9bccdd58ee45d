-- Instructions on integers are sound.
use Rattle.std.proofs.Common.{◌≡◌, ℕ, ◌<◌, ◌^◌, ◌-◌, Bool, true, false, not, cond, ◌&&◌, Option, Some, None, List, [], ◌++◌, arith, subst, sym, refl, ap, ◌∙◌}
use Rattle.std.specs.Prelude.{ℤ, pos, negsuc, neg_ℤ, ◌≤ℤ◌, int_le}
use Rattle.std.specs.Ordering.{int_eq}
use lib.Signed.{≤ℤ_refl}
use Rattle.std.proofs.lemmas.Int.{ints}
use Rattle.std.proofs.lemmas.Bool.{and_parts, and_from, ltb-true, true≢false}
use Rattle.std.proofs.Math.Bool.{or_self}
use Rattle.cc_base.specs.Lattices.{LatticeOf}
use Rattle.cc_base.specs.IntegerTypes.{is_size, in_type, wrap_into}
use Rattle.cc_base.specs.IntegerDomains.{IntegersOf, BoundLaws, RangeLaws}
use Rattle.cc_base.specs.IntegerLaws.{SoundLaws}
use Rattle.cc_base.specs.MachineArithmetic.{binary_result, unary_result, holds}
use Rattle.cc_base.specs.declared.diagnostics.Rule.{Rule}
use Rattle.cc_base.specs.declared.diagnostics.Rule.TheVariants as rule
use Rattle.cc_base.specs.declared.int_types.IntType.{IntType}
use Rattle.cc_base.specs.declared.integer_operators.IntOp.{IntOp}
use Rattle.cc_base.specs.declared.integer_operators.Rel.{Rel}
use Rattle.cc_base.specs.declared.integer_operators.Tri.{Tri}
use Rattle.cc_base.specs.declared.integer_operators.UnOp.{UnOp}
use Rattle.cc_base.specs.declared.integer_operators.UnOp.TheVariants.{Neg, Compl}
use Rattle.cfg.specs.ModelKinds.{is_int_type}
use Rattle.cfg.specs.WellFormed.{names_of, is_number, is_scalar, has_temp, has_amount, fits_operation}
use Rattle.cfg.specs.declared.machine_instructions.Amount.{Amount}
use Rattle.cfg.specs.declared.machine_instructions.Amount.TheVariants as amount
use Rattle.cfg.specs.declared.machine_instructions.Scalar as declared
use Rattle.cfg.specs.declared.machine_instructions.Scalar.TheVariants as of
use Rattle.cfg.specs.declared.machine_instructions.Operation.{Operation}
use Rattle.cfg.specs.declared.machine_instructions.Operation.TheVariants as op
use Rattle.cfg.specs.declared.programs.Flow.{Flow}
use Rattle.pointer_domain.specs.declared.pointer_sets.Pointers.{Pointers}
use Rattle.value_domain.specs.declared.values.values.Value.{Value}
use Rattle.value_domain.specs.declared.values.row_cells.Cell.{Cell}
use Rattle.value_domain.specs.Values.LabelSets as set
use Rattle.value_domain.specs.Values.LabelSets.{labels_leq}
use Rattle.value_domain.specs.Values.ValueTables.{number_value, pointer_value, value_arith, value_unary, value_convert, value_truth, negated_leave}
use Rattle.domain_theorems.proofs.values.LabelStands.{label_meaning}
use Rattle.domain_theorems.proofs.values.ValueStands.{single}
use Rattle.domain_theorems.proofs.values.Leaving.{negated_more}
use Rattle.store_cells.specs.ByteWrites.{null_pointer}
use Rattle.transfer_checks.specs.IntegerChecks.{unary_violations, binary_violations}
use Rattle.transfer_checks.specs.Temporaries.{temp_value, amount_value, put_temp}
use Rattle.transfer_checks.specs.ViolationSets.{no_violations}
use Rattle.transfer_checks.specs.declared.violation_sets.Violations.{Violations}
use Rattle.transfer_system.specs.IntegerSteps.{constant_step, binary_step, unary_step, compare_step, not_step, put_converted, converted_pointer, convert_value, convert_step}
use Rattle.transfer_system.specs.ResultTemps.{negated, put_number, put_pointer}
use Rattle.transfer_system.specs.OperationGroups.{is_on_values}
use Rattle.transfer_system.specs.Steps.{operate}
use Rattle.transfer_system.specs.StepViolations.{operation_violations}
use Rattle.memory_model.specs.Memory.Labels.{Labels, no_labels, negated_labels, converted_labels}
use Rattle.memory_model.specs.Memory.Bytes.{MachinePointer, null}
use Rattle.memory_model.specs.Memory.Scalars.{Scalar, integer, pointer, is_false}
use Rattle.memory_model.specs.Effects.Worlds.{Stuck, Reply, goes, stops, violating}
use Rattle.memory_model.specs.Effects.IntegerEffects.{truth, plain_one, is_outside, binary_faults, why_none, computed, binary_numbers, unary_math, overflow_faults, unary_number, pointer_from, convert, fault_if}
use Rattle.semantics.specs.CfgMachine.FlowStates.{ProgramState}
use Rattle.semantics.specs.CfgMachine.FlowActs.{giving, with_amount}
use Rattle.store_sound.specs.Concretization.SeenLabels.{as_set}
use Rattle.store_sound.specs.Concretization.ValueMeaning.{Naming, InGammaScalar, InGammaPointer}
use Rattle.store_sound.specs.Concretization.SoundMemory.{IsPointerIn, IsScalarIn}
use Rattle.store_sound.specs.Operations.Scalars.{IsOfKind}
use Rattle.store_sound.specs.Programs.Premises.{HasPremises}
use Rattle.transfer_sound.specs.Values.OperandTypes.{HasNumberOf, HasKind, HasOperands}
use Rattle.transfer_sound.specs.Values.SoundSteps.{IsReached, IsStoodFor, StepIsSound}
use Rattle.transfer_sound.proofs.values.Admitted.{AreAdmitted, none_admitted, one_admitted, same_admitted}
use Rattle.transfer_sound.proofs.values.NearScalars.{IsNearNumber, near_number_stands}
use Rattle.transfer_sound.proofs.values.PutTemps.{IsResult}
use Rattle.transfer_sound.proofs.values.Replies.{stop_good, if_some_good, number_good, cond_good, result_good}
use Rattle.transfer_sound.proofs.values.Truths.{negated_holds, negated_fails, true_holds, false_fails}
use Rattle.transfer_sound.proofs.values.ResultRows.{truth_near, number_row, TruthRow, truth_row, pointer_row}
use Rattle.transfer_sound.proofs.values.TypeRanges.{value_near}
use Rattle.transfer_sound.proofs.values.BinarySteps.{labels_told, faults_admitted}

-- ---- labels of operators on one integer

pub same_negated : (o : UnOp) (s : Labels) (k : IntType) (leaves : Bool) → as_set (negated_labels o s k leaves) ≡ set.negated_labels o (as_set s) k leaves
same_negated Neg s k leaves = refl
same_negated Compl s k leaves = refl

pub negation_is : (o : UnOp) (k : IntType) (a : ℤ) → is_outside k (unary_math o a) ≡ negated_leave o k (Some (a, a))
negation_is Neg k a = sym (or_self (not (in_type k (neg_ℤ a))))
negation_is Compl k a = refl

pub is_near : (z : ℤ) → is_number z ≡ true → IsNearNumber z
is_near z h =
    let p = and_parts (int_le (negsuc (2 ^ 63 - 1)) z) (int_le z (pos (2 ^ 64 - 1))) h in
    let f = low z p.0 in
    let g = high z p.1 in
    record { from = omega (arith, ints, f); to = omega (arith, ints, g) }
  where
    low : (z : ℤ) → int_le (negsuc (2 ^ 63 - 1)) z ≡ true → negsuc (2 ^ 63 - 1) ≤ℤ z
    low z h = grind (arith, ints)

    high : (z : ℤ) → int_le z (pos (2 ^ 64 - 1)) ≡ true → z ≤ℤ pos (2 ^ 64 - 1)
    high z h = grind (arith, ints)

pub size_of : (f : Flow) (k : IntType) → is_int_type f.model k ≡ true → is_size k.bytes ≡ true
size_of f k h = (and_parts (is_size k.bytes) _ h).0

module _ {I : Type 0} {l : LatticeOf I} {n : IntegersOf I} {gamma : I → ℤ → Type 0} (q : BoundLaws l n gamma) (c : SoundLaws l n gamma) (ranges : RangeLaws l n) (flow : Flow) (p : HasPremises flow) (naming : Naming) (row : List (Cell I)) (s : ProgramState) (r : IsReached l n gamma flow naming row s) where
  abbrev Sound : Operation → Type 0
  Sound o = StepIsSound l n gamma flow row o s

  -- what a temporary has
  temp_stands : (t : ℕ) (v : Scalar) → s.temps t ≡ Some v → InGammaScalar gamma naming s.world.memory (temp_value l n flow row t) v
  temp_stands t v e = r.stands_for.temps t v e

  number_result : (x : Value I) (z : ℤ) (labels : Labels) → IsNearNumber z → gamma x.num z → labels_leq (as_set labels) x.labels ≡ true → IsResult q flow p naming s.world.memory x (integer z labels)
  number_result x z labels near h k = record { stands_for = (h, k); near = near; within = tt }

  few_temp : (t : ℕ) → has_temp (names_of flow) t ≡ true → t < flow.temps
  few_temp t h = ltb-true t flow.temps h

  -- ---- constants

  constant_sound : (to : ℕ) (z : ℤ) (k : IntType) → fits_operation (names_of flow) (op.Constant to z k) ≡ true → Sound (op.Constant to z k)
  unfolding operate constant_step operation_violations
  constant_sound to z k fits =
      let a = and_parts (has_temp (names_of flow) to) (is_number z && is_int_type flow.model k) fits in
      let b = and_parts (is_number z) (is_int_type flow.model k) a.1 in
      let x = number_value l (n.one z) set.no_labels in
      let h = q.one_stands z in
      result_good q flow p naming row s r to (few_temp to a.0) x (integer z no_labels) s.world (number_result x z no_labels (is_near z b.0) h refl) refl _ no_violations (number_row q flow row to x z h) (same_admitted no_violations s.world.violated [] r.begun (none_admitted no_violations))

  -- ---- comparisons

  truth_good : (to : ℕ) → to < flow.temps → (after : Option (List (Cell I))) (tri : Tri) (b : Bool) (t : TruthRow q flow row to naming s.world.memory tri b) → after ≡ Some (put_temp flow row to t.value) → IsStoodFor l n gamma flow after no_violations (giving s to (goes (truth b) s.world))
  truth_good to few after tri b t e = result_good q flow p naming row s r to few t.value (truth b) s.world (record { stands_for = t.stands_for; near = truth_near b; within = tt }) refl after no_violations e (same_admitted no_violations s.world.violated [] r.begun (none_admitted no_violations))

  compare_sound : (to : ℕ) (rel : Rel) (left right : ℕ) → fits_operation (names_of flow) (op.Compare to rel left right) ≡ true → Sound (op.Compare to rel left right)
  unfolding operate compare_step operation_violations
  compare_sound to rel left right fits =
      let few = few_temp to (and_parts (has_temp (names_of flow) to) (has_temp (names_of flow) left && has_temp (names_of flow) right) fits).0 in
      if_some_good l n gamma flow _ no_violations s r.begun (s.temps left) _ (λ v e.
      if_some_good l n gamma flow _ no_violations s r.begun (s.temps right) _ (λ w f.
      number_good l n gamma flow _ no_violations s to v s.world _ r.begun (λ a la g.
      number_good l n gamma flow _ no_violations s to w s.world _ r.begun (λ b lb h.
      let x = subst (InGammaScalar gamma naming s.world.memory (temp_value l n flow row left)) g (temp_stands left v e) in
      let y = subst (InGammaScalar gamma naming s.world.memory (temp_value l n flow row right)) h (temp_stands right w f) in
      let t = truth_row q flow row to naming s.world.memory (n.compare rel (temp_value l n flow row left).num (temp_value l n flow row right).num) (holds rel a b)
      (λ i. c.compare_holds rel (temp_value l n flow row left).num (temp_value l n flow row right).num a b x.0 y.0 i)
      (λ i. c.compare_fails rel (temp_value l n flow row left).num (temp_value l n flow row right).num a b x.0 y.0 i) in
      truth_good to few _ _ (holds rel a b) t t.is))))

  not_sound : (to from : ℕ) (k : declared.Scalar) → fits_operation (names_of flow) (op.Not to from k) ≡ true → Sound (op.Not to from k)
  unfolding operate not_step operation_violations
  not_sound to from k fits =
      let few = few_temp to (and_parts (has_temp (names_of flow) to) (has_temp (names_of flow) from && is_scalar flow.model k) fits).0 in
      if_some_good l n gamma flow _ no_violations s r.begun (s.temps from) _ (λ v e.
      let x = temp_value l n flow row from in
      let t = truth_row q flow row to naming s.world.memory (negated (value_truth n x)) (is_false v)
      (λ i. negated_holds (value_truth n x) ∙ false_fails q c naming s.world.memory x v (temp_stands from v e) i)
      (λ i. negated_fails (value_truth n x) ∙ true_holds q c naming s.world.memory x v (temp_stands from v e) i) in
      truth_good to few _ _ (is_false v) t t.is)

  -- ---- results of operators

  faults_begun : (v : Violations) (faults : List Rule) → AreAdmitted v faults → AreAdmitted v (s.world.violated ++ faults)
  faults_begun v faults h = same_admitted v (s.world.violated ++ faults) faults (ap (λ z. z ++ faults) r.begun) h

  -- a result that there is has its number in a temporary; where there is none, the run stops
  computed_good : (to : ℕ) → to < flow.temps → (k : IntType) → is_size k.bytes ≡ true → (x : Value I) (v : Violations) (faults : List Rule) (labels : Labels) (result : Option ℤ) → AreAdmitted v faults → ((z : ℤ) → result ≡ Some z → IsResult q flow p naming s.world.memory x (integer z labels))
      → IsStoodFor l n gamma flow (cond (is_size k.bytes) (put_number n flow row to x) None) (cond (is_size k.bytes) v no_violations) (giving s to (computed faults result labels s.world))
  computed_good to few k size x v faults labels None h f = stop_good l n gamma flow _ _ (why_none faults) (violating s.world faults) (faults_begun _ faults (subst (λ b. AreAdmitted (cond b v no_violations) faults) (sym size) h))
  computed_good to few k size x v faults labels (Some z) h f =
      let d = f z refl in
      let row_is : cond (is_size k.bytes) (put_number n flow row to x) None ≡ Some (put_temp flow row to x) = rw (size, number_row q flow row to x z d.stands_for.0) refl in
      result_good q flow p naming row s r to few x (integer z labels) (violating s.world faults) d refl _ _ row_is (faults_begun _ faults (subst (λ b. AreAdmitted (cond b v no_violations) faults) (sym size) h))

  -- ---- operators on two integers

  amount_good : (after : Option (List (Cell I))) (v : Violations) (by : Amount) (use_it : Scalar → Reply ProgramState) → ((w : Scalar) → InGammaScalar gamma naming s.world.memory (amount_value l n flow row by) w → IsStoodFor l n gamma flow after v (use_it w)) → IsStoodFor l n gamma flow after v (with_amount s by use_it)
  amount_good after v (amount.Temp t) use_it h = if_some_good l n gamma flow after v s r.begun (s.temps t) use_it (λ w e. h w (temp_stands t w e))
  amount_good after v amount.One use_it h = h plain_one (near_number_stands q (n.one (pos 1)) (pos 1) (record { from = omega (arith, ints); to = omega (arith, ints) }) (q.one_stands (pos 1)), refl)

  binary_good : (to : ℕ) → to < flow.temps → (o : IntOp) (k : IntType) → is_size k.bytes ≡ true → (x y : Value I) (a b : ℤ) (la lb : Labels) → InGammaScalar gamma naming s.world.memory x (integer a la) → InGammaScalar gamma naming s.world.memory y (integer b lb) → in_type k a ≡ true
      → IsStoodFor l n gamma flow (cond (is_size k.bytes) (put_number n flow row to (value_arith l n o x y k)) None) (cond (is_size k.bytes) (binary_violations n o k x y) no_violations) (giving s to (binary_numbers o k a la b lb s.world))
  binary_good to few o k size x y a b la lb f g inside =
      computed_good to few k size (value_arith l n o x y k) (binary_violations n o k x y) (binary_faults o k a b) _ (binary_result o k a b) (faults_admitted q c k x y a b f.0 g.0 inside o)
      (λ z e. let h = c.arith_stands o k x.num y.num a b z size f.0 g.0 inside e in
      number_result (value_arith l n o x y k) z _ (value_near q k (n.arith o x.num y.num k) z size (λ i j u. ranges.arith_fits o x.num y.num k i j size u) h) h (labels_told q o k x y la lb a b z f.0 g.0 f.1 g.1 inside e))

  binary_sound : (to : ℕ) (o : IntOp) (left : ℕ) (right : Amount) (k : IntType) → fits_operation (names_of flow) (op.Binary to o left right k) ≡ true → HasNumberOf k (s.temps left) → Sound (op.Binary to o left right k)
  unfolding operate binary_step operation_violations
  binary_sound to o left right k fits typed =
      let a = and_parts (has_temp (names_of flow) to) (has_temp (names_of flow) left && (has_amount (names_of flow) right && is_int_type flow.model k)) fits in
      let b = and_parts (has_temp (names_of flow) left) (has_amount (names_of flow) right && is_int_type flow.model k) a.1 in
      let size = size_of flow k (and_parts (has_amount (names_of flow) right) (is_int_type flow.model k) b.1).1 in
      if_some_good l n gamma flow _ _ s r.begun (s.temps left) _ (λ v e.
      amount_good _ _ right _ (λ w sw.
      number_good l n gamma flow _ _ s to v s.world _ r.begun (λ z la g.
      number_good l n gamma flow _ _ s to w s.world _ r.begun (λ u lb h.
      binary_good to (few_temp to a.0) o k size (temp_value l n flow row left) (amount_value l n flow row right) z u la lb
      (subst (InGammaScalar gamma naming s.world.memory (temp_value l n flow row left)) g (temp_stands left v e)) (subst (InGammaScalar gamma naming s.world.memory (amount_value l n flow row right)) h sw) (typed z la (e ∙ ap Some g))))))

  -- ---- operators on one integer

  unary_admitted : (o : UnOp) (k : IntType) (x : Value I) (a : ℤ) → gamma x.num a → AreAdmitted (unary_violations n o k x) (overflow_faults k (unary_math o a))
  unary_admitted o k x a h = fault_good (k.signed && is_outside k (unary_math o a)) (λ e.
      let d = and_parts k.signed (is_outside k (unary_math o a)) e in
      and_from _ _ d.0 (negated_more o k (Some (a, a)) (n.bounds x.num) (≤ℤ_refl a) (single q x.num a h) (sym (negation_is o k a) ∙ d.1)))
    where
      fault_good : (b : Bool) → (b ≡ true → (unary_violations n o k x).intoflow ≡ true) → AreAdmitted (unary_violations n o k x) (fault_if b rule.Intoflow)
      fault_good true f = one_admitted (unary_violations n o k x) rule.Intoflow (f refl)
      fault_good false f = none_admitted (unary_violations n o k x)

  unary_good : (to : ℕ) → to < flow.temps → (o : UnOp) (k : IntType) → is_size k.bytes ≡ true → (x : Value I) (a : ℤ) (la : Labels) → InGammaScalar gamma naming s.world.memory x (integer a la) → in_type k a ≡ true
      → IsStoodFor l n gamma flow (cond (is_size k.bytes) (put_number n flow row to (value_unary l n o x k)) None) (cond (is_size k.bytes) (unary_violations n o k x) no_violations) (giving s to (unary_number o k a la s.world))
  unary_good to few o k size x a la f inside =
      computed_good to few k size (value_unary l n o x k) (unary_violations n o k x) (overflow_faults k (unary_math o a)) _ (unary_result o k a) (unary_admitted o k x a f.0)
      (λ z e. let h = c.unary_stands o k x.num a z size f.0 inside e in
      let told = (label_meaning q).unary o k x (as_set la) a f.0 f.1 in
      let same = same_negated o la k (is_outside k (unary_math o a)) ∙ ap (set.negated_labels o (as_set la) k) (negation_is o k a) in
      number_result (value_unary l n o x k) z _ (value_near q k (n.unary o x.num k) z size (λ i j u. ranges.unary_fits o x.num k i j size u) h) h (subst (λ y. labels_leq y (value_unary l n o x k).labels ≡ true) (sym same) told))

  unary_sound : (to : ℕ) (o : UnOp) (from : ℕ) (k : IntType) → fits_operation (names_of flow) (op.Unary to o from k) ≡ true → HasNumberOf k (s.temps from) → Sound (op.Unary to o from k)
  unfolding operate unary_step operation_violations
  unary_sound to o from k fits typed =
      let a = and_parts (has_temp (names_of flow) to) (has_temp (names_of flow) from && is_int_type flow.model k) fits in
      let size = size_of flow k (and_parts (has_temp (names_of flow) from) (is_int_type flow.model k) a.1).1 in
      if_some_good l n gamma flow _ _ s r.begun (s.temps from) _ (λ v e.
      number_good l n gamma flow _ _ s to v s.world _ r.begun (λ z la g.
      unary_good to (few_temp to a.0) o k size (temp_value l n flow row from) z la (subst (InGammaScalar gamma naming s.world.memory (temp_value l n flow row from)) g (temp_stands from v e)) (typed z la (e ∙ ap Some g))))

  -- ---- conversions

  to_integer : (to : ℕ) → to < flow.temps → (k : IntType) → is_size k.bytes ≡ true → (x : Value I) (v : Scalar) → InGammaScalar gamma naming s.world.memory x v → IsStoodFor l n gamma flow (put_converted l n flow row to x k) no_violations (giving s to (convert (of.Int k) v s.world))
  unfolding put_converted
  to_integer to few k size x v f = number_good l n gamma flow _ _ s to v s.world _ r.begun (λ z la g.
      let d = subst (InGammaScalar gamma naming s.world.memory x) g f in
      let h = c.convert_stands k x.num z size d.0 in
      let row_is : cond (is_size k.bytes) (put_number n flow row to (value_convert l n x k)) None ≡ Some (put_temp flow row to (value_convert l n x k)) = rw (size, number_row q flow row to (value_convert l n x k) (wrap_into k z) h) refl in
      result_good q flow p naming row s r to few (value_convert l n x k) (integer (wrap_into k z) (converted_labels la k (in_type k z))) s.world
      (number_result (value_convert l n x k) (wrap_into k z) (converted_labels la k (in_type k z)) (value_near q k (n.convert x.num k) (wrap_into k z) size (λ i j u. ranges.convert_fits x.num k i j size u) h) h ((label_meaning q).convert k x (as_set la) z d.0 d.1))
      refl _ no_violations row_is (same_admitted no_violations s.world.violated [] r.begun (none_admitted no_violations)))

  pointer_good : (to : ℕ) → to < flow.temps → (x : Pointers I) (at : MachinePointer) → InGammaPointer gamma naming s.world.memory x at → IsPointerIn s.world.memory at → IsStoodFor l n gamma flow (put_pointer l flow row to x) no_violations (giving s to (goes (pointer at) s.world))
  pointer_good to few x at h within =
      result_good q flow p naming row s r to few (pointer_value l x) (pointer at) s.world (record { stands_for = h; near = tt; within = within }) refl _ no_violations (pointer_row q flow row to naming s.world.memory x at h) (same_admitted no_violations s.world.violated [] r.begun (none_admitted no_violations))

  to_pointer : (to : ℕ) → to < flow.temps → (from : declared.Scalar) (x : Value I) (v : Scalar) → IsOfKind from v → InGammaScalar gamma naming s.world.memory x v → IsScalarIn s.world.memory v → IsStoodFor l n gamma flow (put_pointer l flow row to (converted_pointer l from x)) no_violations (giving s to (pointer_from v s.world))
  to_pointer to few (of.Int k) x (integer z labels) typed h within = cond_good l n gamma flow _ no_violations s to (int_eq z (pos 0)) (goes (pointer null) s.world) (stops Stuck s.world)
      (λ e. pointer_good to few (null_pointer l) null refl tt) (λ e. stop_good l n gamma flow _ no_violations Stuck s.world (same_admitted no_violations s.world.violated [] r.begun (none_admitted no_violations)))
  to_pointer to few (of.Int k) x (pointer at) typed h within = absurd (true≢false (sym typed))
  to_pointer to few of.Pointer x (integer z labels) typed h within = absurd (true≢false (sym typed))
  to_pointer to few of.Pointer x (pointer at) typed h within = pointer_good to few x.pointer at h within

  convert_sound : (to from : ℕ) (old new : declared.Scalar) → fits_operation (names_of flow) (op.Convert to from old new) ≡ true → HasKind old (s.temps from) → Sound (op.Convert to from old new)
  unfolding operate convert_step convert_value operation_violations
  convert_sound to from old (of.Int k) fits typed =
      let a = and_parts (has_temp (names_of flow) to) (has_temp (names_of flow) from && (is_scalar flow.model old && is_int_type flow.model k)) fits in
      let b = and_parts (has_temp (names_of flow) from) (is_scalar flow.model old && is_int_type flow.model k) a.1 in
      let size = size_of flow k (and_parts (is_scalar flow.model old) (is_int_type flow.model k) b.1).1 in
      if_some_good l n gamma flow _ no_violations s r.begun (s.temps from) _ (λ v e. to_integer to (few_temp to a.0) k size (temp_value l n flow row from) v (temp_stands from v e))
  convert_sound to from old of.Pointer fits typed =
      let a = and_parts (has_temp (names_of flow) to) (has_temp (names_of flow) from && (is_scalar flow.model old && true)) fits in
      if_some_good l n gamma flow _ no_violations s r.begun (s.temps from) _ (λ v e. to_pointer to (few_temp to a.0) old (temp_value l n flow row from) v (typed v e) (temp_stands from v e) (r.stands_for.held.within from v e))

  -- ---- all of them

  pub value_step_sound : (o : Operation) → is_on_values o ≡ true → fits_operation (names_of flow) o ≡ true → HasOperands o s.temps → Sound o
  value_step_sound (op.Constant to z k) is fits typed = constant_sound to z k fits
  value_step_sound (op.Binary to o left right k) is fits typed = binary_sound to o left right k fits typed
  value_step_sound (op.Unary to o from k) is fits typed = unary_sound to o from k fits typed
  value_step_sound (op.Compare to rel left right) is fits typed = compare_sound to rel left right fits
  value_step_sound (op.Not to from k) is fits typed = not_sound to from k fits
  value_step_sound (op.Convert to from old new) is fits typed = convert_sound to from old new fits typed
  value_step_sound o is fits typed = absurd (true≢false (sym is))
