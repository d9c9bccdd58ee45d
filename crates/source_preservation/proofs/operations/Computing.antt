-- Operators on numbers and pointers, and conversions, on values of their marks.
use Rattle.std.proofs.Common.{◌≡◌, ◌⊎◌, ◌≤◌, ℕ, suc, Bool, true, false, not, cond, ◌||◌, Option, Some, None, List, [], ◌∷◌, ◌++◌, arith, refl, sym, subst, ap, ◌∙◌, inl, inr}
use Rattle.std.specs.Prelude.{ℤ, pos, negsuc, ◌≤ℤ◌, ◌-ℤ◌, int_div}
use Rattle.std.specs.Ordering.{int_eq}
use Rattle.std.proofs.Math.Nat.{div-le_self}
use Rattle.std.proofs.lemmas.Int.{ints}
use Rattle.cc_base.specs.IntegerTypes.{in_type, wrap_into}
use Rattle.cc_base.specs.MachineArithmetic.{binary_result, unary_result, holds}
use Rattle.cc_base.specs.declared.int_types.IntType.{IntType}
use Rattle.cc_base.specs.declared.integer_operators.IntOp.{IntOp}
use Rattle.cc_base.specs.declared.integer_operators.UnOp.{UnOp}
use Rattle.cc_base.specs.declared.integer_operators.Rel.{Rel}
use Rattle.cc_base.specs.declared.integer_operators.Rel.TheVariants.{Eq, Ne}
use Rattle.cc_base.specs.declared.diagnostics.Rule.{Rule}
use Rattle.cc_base.specs.declared.diagnostics.Rule.TheVariants as rule
use Rattle.c_layout.specs.CheckedUnits.{UnitView}
use Rattle.lower_conditions.specs.declared.branch_tests.NamedObject.{NamedObject}
use Rattle.cfg.specs.declared.machine_instructions.Scalar as declared
use Rattle.cfg.specs.declared.machine_instructions.Scalar.TheVariants as of
use Rattle.memory_model.specs.Memory.Labels.{Labels, no_labels}
use Rattle.memory_model.specs.Memory.Bytes.{MachinePointer, null, into}
use Rattle.memory_model.specs.Memory.Scalars.{Scalar, integer, pointer, is_false}
use Rattle.memory_model.specs.Effects.Worlds.{World, Reply, goes, stops, unless}
use Rattle.memory_model.specs.Effects.LibraryChecks.{most_size}
use Rattle.memory_model.specs.Effects.IntegerEffects.{truth, plain_one, computed, binary, unary, compare_numbers, negation, convert}
use Rattle.memory_model.specs.Effects.PointerEffects.{narrow, shift, offset_of, elements_between, is_ended, share_instance, are_equal, pointers_compared, difference, compare}
use Rattle.semantics.specs.SourceMachine.Items.{NamedTest}
use Rattle.semantics.specs.SourceMachine.Operations as op
use Rattle.semantics.specs.SourceMachine.Operations.{Order, LeftFirst, perform}
use Rattle.source_items.specs.Operations.GoingReplies.{NotStuck}
use Rattle.source_items.specs.Operations.Kinds.{Number, Address, IsOf}
use Rattle.source_items.specs.Operations.OperationLaws.{OperationsHaveSteps, OperationsKeepKinds}
use Rattle.source_preservation.specs.ValueTyping.Marks.{Mark, Ranged, Exactly, Pointing, Null, Loaded, Tested, IsBounded, Has, AreWellTyped}
use Rattle.source_preservation.specs.ValueTyping.ProperMemory.{IsProperMemory}
use Rattle.source_preservation.specs.ValueTyping.MarkOperations.{IsKind, IsScalar, HasTruths, Replaces, IsConstant, number_of_truth, operands, Computes, ranged, exact, ComputesOne, Negates, any, ComparesAs, Compares, tested, AreWithNull, null_test_of, ComparesPointers, ConvertsTo, pointer_and_count}
use Rattle.source_preservation.specs.ValueTyping.MarkLaws.{Comes, Leaves}
use Rattle.source_preservation.specs.Memory.GoingWorlds.{WhenGoing, IsProperScalar}
use Rattle.source_preservation.proofs.memory.Computing.{binary_keeps, unary_keeps, difference_keeps, compare_keeps, narrow_gives, shift_gives}
use Rattle.source_preservation.proofs.memory.Calling.{pointing_proper}
use Rattle.source_preservation.proofs.ranges.TypeRanges.{between_ends, truth_in, one_in, wrapped_in}
use Rattle.source_preservation.proofs.ranges.Results.{binary_in, unary_in}
use Rattle.source_preservation.proofs.ranges.ObjectValues.{integer_object, pointer_object}
use Rattle.source_preservation.proofs.ranges.Agreements.{side_integer, compared_numbers, compared_null, are_null_and, null_integer}
use Rattle.source_preservation.proofs.operations.Keeping.{unpushed, kind_given, Makes, makes, one_made, two_made, replacing, pushed_made}

-- ---- what is given

-- a result that there is
computed_is : (faults : List Rule) (o : Option ℤ) (labels : Labels) (w after : World) (v : Scalar) → computed faults o labels w ≡ goes v after → (n : ℤ) × (o ≡ Some n) × (v ≡ integer n labels)
computed_is faults None labels w after v e = cc
computed_is faults (Some n) labels w after v e = (n, refl, cc)

some_same : (a b : ℤ) → Some a ≡ Some b → a ≡ b
some_same a b e = cc

-- a truth value in a type
truth_has : (kind : IntType) (b : Bool) → HasTruths kind → in_type kind (cond b (pos 1) (pos 0)) ≡ true
truth_has kind b h = truth_in kind b h

-- the quotient of a distance that is a size
quotient_low : (x : ℤ) (size most : ℕ) → negsuc most ≤ℤ x → x ≤ℤ pos most → negsuc most ≤ℤ int_div x (pos size)
quotient_low (pos a) size most lo hi = omega (arith, ints)
quotient_low (negsuc a) size most lo hi = let d = div-le_self (suc a) size in omega (arith, ints, d)

quotient_high : (x : ℤ) (size most : ℕ) → negsuc most ≤ℤ x → x ≤ℤ pos most → int_div x (pos size) ≤ℤ pos most
quotient_high (pos a) size most lo hi = let d = div-le_self a size in omega (arith, ints, d)
quotient_high (negsuc a) size most lo hi = omega (arith, ints)

unless_goes : (w after : World) (b : Bool) (r : Rule) (reply : Reply Scalar) (v : Scalar) → unless w b r reply ≡ goes v after → reply ≡ goes v after
unless_goes w after true r reply v e = cc
unless_goes w after false r reply v e = e

goes_value : (v x : Scalar) (w after : World) → goes x w ≡ goes v after → v ≡ x
goes_value v x w after e = cc

-- the value of a comparison of pointers is a truth value
pointers_truth : (rel : Rel) (p q : MachinePointer) (w after : World) (v : Scalar) → pointers_compared rel p q w ≡ goes v after → (b : Bool) × (v ≡ truth b)
pointers_truth Eq p q w after v e = (are_equal p q, goes_value v _ w after (unless_goes w after (is_ended w.memory p || is_ended w.memory q) rule.Nullref _ v e))
pointers_truth Ne p q w after v e = (not (are_equal p q), goes_value v _ w after (unless_goes w after (is_ended w.memory p || is_ended w.memory q) rule.Nullref _ v e))
pointers_truth rel p q w after v e = (holds rel (pos (offset_of p)) (pos (offset_of q)), goes_value v _ w after (unless_goes w after (not (share_instance p q)) rule.Ptrobj _ v (unless_goes w after (is_ended w.memory p || is_ended w.memory q) rule.Nullref _ v e)))

module _ (steps : OperationsHaveSteps) (keeps : OperationsKeepKinds) (u : UnitView) (names : ℕ → Option ℕ) (w : World) (proper : IsProperMemory u.model w.memory) where
  -- ---- operators on numbers

  binary_steps : (sign : IntOp) (kind : IntType) (a b : ℤ) (s t : Labels) → NotStuck (binary sign kind (integer a s) (integer b t) w)
  binary_steps sign kind a b s t = unpushed [] (binary sign kind (integer a s) (integer b t) w) (steps u (op.Binary LeftFirst sign kind) (Number ∷ (Number ∷ [])) (Number ∷ []) [] (integer b t ∷ (integer a s ∷ [])) w refl ([], refl, refl) (tt, (tt, tt)))

  binary_made : (sign : IntOp) (kind : IntType) (g : Mark) (a b : ℤ) (s t : Labels) → ((n : ℤ) (labels : Labels) → binary_result sign kind a b ≡ Some n → Has u.model names w.memory g (integer n labels)) → Makes u names w g (binary sign kind (integer a s) (integer b t) w)
  binary_made sign kind g a b s t h = makes u names w g (binary sign kind (integer a s) (integer b t) w) (binary_steps sign kind a b s t) (binary_keeps sign kind (integer a s) (integer b t) w) (λ v after e. let r = computed_is _ _ _ w after v e in subst (Has u.model names w.memory g) (sym r.2) (h r.0 _ r.1))

  binary_ranged : (sign : IntOp) (kind count : IntType) (a b : Scalar) → IsKind u.model kind → Has u.model names w.memory (Ranged kind) a → Has u.model names w.memory (Ranged count) b → Makes u names w (Ranged kind) (binary sign kind a b w)
  binary_ranged sign kind count (integer a s) (integer b t) is one two = binary_made sign kind (Ranged kind) a b s t (λ n labels e. binary_in sign kind a b n is.size one e)
  binary_ranged sign kind count (integer a s) (pointer q) is one two = absurd two
  binary_ranged sign kind count (pointer p) b is one two = absurd one

  binary_exact : (sign : IntOp) (kind : IntType) (x y z : ℤ) (a b : Scalar) → binary_result sign kind x y ≡ Some z → Has u.model names w.memory (Exactly x) a → Has u.model names w.memory (Exactly y) b → Makes u names w (Exactly z) (binary sign kind a b w)
  binary_exact sign kind x y z (integer a s) (integer b t) is one two = binary_made sign kind (Exactly z) a b s t (λ n labels e. some_same n z (sym e ∙ (ap (λ a. binary_result sign kind a b) one ∙ (ap (binary_result sign kind x) two ∙ is))))
  binary_exact sign kind x y z (integer a s) (pointer q) is one two = absurd two
  binary_exact sign kind x y z (pointer p) b is one two = absurd one

  unary_made : (sign : UnOp) (kind : IntType) (g : Mark) (a : ℤ) (s : Labels) → ((n : ℤ) (labels : Labels) → unary_result sign kind a ≡ Some n → Has u.model names w.memory g (integer n labels)) → Makes u names w g (unary sign kind (integer a s) w)
  unary_made sign kind g a s h = makes u names w g (unary sign kind (integer a s) w) (unpushed [] (unary sign kind (integer a s) w) (steps u (op.Unary sign kind) (Number ∷ []) (Number ∷ []) [] (integer a s ∷ []) w refl ([], refl, refl) (tt, tt))) (unary_keeps sign kind (integer a s) w) (λ v after e. let r = computed_is _ _ _ w after v e in subst (Has u.model names w.memory g) (sym r.2) (h r.0 _ r.1))

  unary_ranged : (sign : UnOp) (kind : IntType) (a : Scalar) → IsKind u.model kind → Has u.model names w.memory (Ranged kind) a → Makes u names w (Ranged kind) (unary sign kind a w)
  unary_ranged sign kind (integer a s) is one = unary_made sign kind (Ranged kind) a s (λ n labels e. unary_in sign kind a n is.size one e)
  unary_ranged sign kind (pointer p) is one = absurd one

  unary_exact : (sign : UnOp) (kind : IntType) (x z : ℤ) (a : Scalar) → unary_result sign kind x ≡ Some z → Has u.model names w.memory (Exactly x) a → Makes u names w (Exactly z) (unary sign kind a w)
  unary_exact sign kind x z (integer a s) is one = unary_made sign kind (Exactly z) a s (λ n labels e. some_same n z (sym e ∙ (ap (unary_result sign kind) one ∙ is)))
  unary_exact sign kind x z (pointer p) is one = absurd one

  negation_any : (k : Mark) (kind : IntType) (v : Scalar) → HasTruths kind → Has u.model names w.memory k v → Makes u names w (Ranged kind) (negation v w)
  negation_any k kind v truths has = (truth_has kind (is_false v) truths, refl)

  negation_exact : (n : ℤ) (v : Scalar) → Has u.model names w.memory (Exactly n) v → Makes u names w (Exactly (number_of_truth (int_eq n (pos 0)))) (negation v w)
  negation_exact n (integer a s) has = (ap (λ n. number_of_truth (int_eq n (pos 0))) has, refl)
  negation_exact n (pointer p) has = absurd has

  -- ---- comparisons of numbers

  compare_ranged : (rel : Rel) (x y kind : IntType) (a b : Scalar) → HasTruths kind → Has u.model names w.memory (Ranged x) a → Has u.model names w.memory (Ranged y) b → Makes u names w (Ranged kind) (compare_numbers rel a b w)
  compare_ranged rel x y kind (integer a s) (integer b t) truths one two = (truth_has kind (holds rel a b) truths, refl)
  compare_ranged rel x y kind (integer a s) (pointer q) truths one two = absurd two
  compare_ranged rel x y kind (pointer p) b truths one two = absurd one

  compare_exact : (rel : Rel) (x y : ℤ) (a b : Scalar) → Has u.model names w.memory (Exactly x) a → Has u.model names w.memory (Exactly y) b → Makes u names w (Exactly (number_of_truth (holds rel x y))) (compare_numbers rel a b w)
  compare_exact rel x y (integer a s) (integer b t) one two = (ap (λ a. number_of_truth (holds rel a b)) one ∙ ap (λ b. number_of_truth (holds rel x b)) two, refl)
  compare_exact rel x y (integer a s) (pointer q) one two = absurd two
  compare_exact rel x y (pointer p) b one two = absurd one

  -- both are sides of the test
  side_left : (rel : Rel) (left right : Mark) (test : NamedTest) (p : MachinePointer) → ComparesAs u.model rel left right test → Has u.model names w.memory left (pointer p) → ⊥
  side_left rel left right test p c has = elim c.sides [
    | inl d ↦ side_integer u.model names w.memory c.common left test.left p d.0 has
    | inr d ↦ side_integer u.model names w.memory c.common left test.right p d.0 has
  ]

  side_right : (rel : Rel) (left right : Mark) (test : NamedTest) (p : MachinePointer) → ComparesAs u.model rel left right test → Has u.model names w.memory right (pointer p) → ⊥
  side_right rel left right test p c has = elim c.sides [
    | inl d ↦ side_integer u.model names w.memory c.common right test.right p d.1 has
    | inr d ↦ side_integer u.model names w.memory c.common right test.left p d.1 has
  ]

  compare_tested : (rel : Rel) (left right : Mark) (test : NamedTest) (a b : Scalar) → ComparesAs u.model rel left right test → Has u.model names w.memory left a → Has u.model names w.memory right b → Makes u names w (Tested test) (compare_numbers rel a b w)
  compare_tested rel left right test (integer a s) (integer b t) c one two = (compared_numbers u.model names w.memory rel left right test a b s t proper c one two, refl)
  compare_tested rel left right test (integer a s) (pointer q) c one two = absurd (side_right rel left right test q c two)
  compare_tested rel left right test (pointer p) b c one two = absurd (side_left rel left right test p c one)

  -- ---- comparisons of pointers

  pointers_made : (rel : Rel) (g : Mark) (p q : MachinePointer) → ((v : Scalar) (after : World) → pointers_compared rel p q w ≡ goes v after → Has u.model names w.memory g v) → Makes u names w g (compare rel (pointer p) (pointer q) w)
  pointers_made rel g p q h = makes u names w g (compare rel (pointer p) (pointer q) w) (unpushed [] (compare rel (pointer p) (pointer q) w) (steps u (op.ComparePointers rel) (Address ∷ (Address ∷ [])) (Number ∷ []) [] (pointer q ∷ (pointer p ∷ [])) w refl ([], refl, refl) (tt, (tt, tt)))) (compare_keeps rel (pointer p) (pointer q) w) h

  pointers_any : (rel : Rel) (kind : IntType) (a b : Scalar) → HasTruths kind → Has u.model names w.memory Pointing a → Has u.model names w.memory Pointing b → Makes u names w (Ranged kind) (compare rel a b w)
  pointers_any rel kind (integer a s) b truths one two = absurd one
  pointers_any rel kind (pointer p) (integer b t) truths one two = absurd two
  pointers_any rel kind (pointer p) (pointer q) truths one two = pointers_made rel (Ranged kind) p q (λ v after e. let r = pointers_truth rel p q w after v e in subst (Has u.model names w.memory (Ranged kind)) (sym r.1) (truth_has kind r.0 truths))

  pointers_tested : (rel : Rel) (o : NamedObject) (left right : Mark) (a b : Scalar) → o.kind ≡ of.Pointer → AreWithNull o left right → Has u.model names w.memory left a → Has u.model names w.memory right b → Makes u names w (Tested (null_test_of o rel)) (compare rel a b w)
  pointers_tested rel o left right (integer a s) b is are one two = absurd ((null_integer u.model names w.memory o left right a s is are).0 one)
  pointers_tested rel o left right (pointer p) (integer b t) is are one two = absurd ((null_integer u.model names w.memory o left right b t is are).1 two)
  pointers_tested rel o left right (pointer p) (pointer q) is are one two = pointers_made rel (Tested (null_test_of o rel)) p q (λ v after e. compared_null u.model names w.memory o rel p q w after v (are_null_and u.model names w.memory o left right p q are one two) e)

  -- ---- distances

  offset_small : (p : MachinePointer) → IsBounded u.model p → offset_of p ≤ most_size u.model
  offset_small null bounded = omega arith
  offset_small (into i offset lo hi) bounded = bounded.below

  between_in : (kind : IntType) (p q : MachinePointer) (size : ℕ) → in_type kind (pos (most_size u.model)) ≡ true → in_type kind (negsuc (most_size u.model)) ≡ true → IsBounded u.model p → IsBounded u.model q → in_type kind (elements_between p q size) ≡ true
  between_in kind p q size most least one two =
      let a = offset_small p one in
      let b = offset_small q two in
      let x : ℤ = pos (offset_of p) -ℤ pos (offset_of q) in
      let lo : negsuc (most_size u.model) ≤ℤ (pos (offset_of p) -ℤ pos (offset_of q)) = omega (arith, ints, a, b) in
      let hi : (pos (offset_of p) -ℤ pos (offset_of q)) ≤ℤ pos (most_size u.model) = omega (arith, ints, a, b) in
      between_ends kind (negsuc (most_size u.model)) (elements_between p q size) (pos (most_size u.model)) least most (quotient_low x size (most_size u.model) lo hi) (quotient_high x size (most_size u.model) lo hi)

  difference_made : (kind : IntType) (size : ℕ) (a b : Scalar) → in_type kind (pos (most_size u.model)) ≡ true → in_type kind (negsuc (most_size u.model)) ≡ true → Has u.model names w.memory Pointing a → Has u.model names w.memory Pointing b → Makes u names w (Ranged kind) (difference a b size w)
  difference_made kind size (integer a s) b most least one two = absurd one
  difference_made kind size (pointer p) (integer b t) most least one two = absurd two
  difference_made kind size (pointer p) (pointer q) most least one two = makes u names w (Ranged kind) (difference (pointer p) (pointer q) size w) (unpushed [] (difference (pointer p) (pointer q) size w) (steps u (op.Difference size) (Address ∷ (Address ∷ [])) (Number ∷ []) [] (pointer q ∷ (pointer p ∷ [])) w refl ([], refl, refl) (tt, (tt, tt)))) (difference_keeps (pointer p) (pointer q) size w) (λ v after e.
      let g = unless_goes w after (not (share_instance p q)) rule.Ptrobj (goes (integer (elements_between p q size) no_labels) w) v (unless_goes w after (is_ended w.memory p || is_ended w.memory q) rule.Nullref _ v e) in
      subst (Has u.model names w.memory (Ranged kind)) (sym (goes_value v (integer (elements_between p q size) no_labels) w after g)) (between_in kind p q size most least one two))

  -- ---- pointers that are moved

  pointer_made : (r : Reply Scalar) → NotStuck r → WhenGoing (λ v after. IsProperScalar u.model v × (after.memory ≡ w.memory)) r → ((v : Scalar) (after : World) → r ≡ goes v after → IsOf Address v) → Makes u names w Pointing r
  pointer_made (goes v after) defined given is = (pointing_proper u.model names w.memory v (is v after refl) given.0, given.1)
  pointer_made (stops why after) defined given is = defined

  narrow_made : (offset size : ℕ) (p : Scalar) → Has u.model names w.memory Pointing p → Makes u names w Pointing (narrow p offset size w)
  narrow_made offset size (integer n labels) has = absurd has
  narrow_made offset size (pointer p) has =
      let r : Reply Scalar = narrow (pointer p) offset size w in
      pointer_made r (unpushed [] r (steps u (op.Narrow offset size) (Address ∷ []) (Address ∷ []) [] (pointer p ∷ []) w refl ([], refl, refl) (tt, tt))) (narrow_gives u.model (pointer p) offset size w has) (λ v after e. kind_given Address [] [] r v after (keeps u (op.Narrow offset size) (Address ∷ []) (Address ∷ []) [] (pointer p ∷ []) w ([], refl, refl) (tt, tt)) e)

  shift_moved : (size : ℕ) (back : Bool) (p : MachinePointer) (n : ℤ) (labels : Labels) → IsBounded u.model p → Makes u names w Pointing (shift (pointer p) (integer n labels) size back w)
  shift_moved size back p n labels bounded =
      let r : Reply Scalar = shift (pointer p) (integer n labels) size back w in
      pointer_made r (unpushed [] r (steps u (op.Shift LeftFirst size back) (Number ∷ (Address ∷ [])) (Address ∷ []) [] (integer n labels ∷ (pointer p ∷ [])) w refl ([], refl, refl) (tt, (tt, tt)))) (shift_gives u.model (pointer p) (integer n labels) size back w bounded) (λ v after e. kind_given Address [] [] r v after (keeps u (op.Shift LeftFirst size back) (Number ∷ (Address ∷ [])) (Address ∷ []) [] (integer n labels ∷ (pointer p ∷ [])) w ([], refl, refl) (tt, (tt, tt))) e)

  shift_made : (kind : IntType) (size : ℕ) (back : Bool) (p n : Scalar) → Has u.model names w.memory Pointing p → Has u.model names w.memory (Ranged kind) n → Makes u names w Pointing (shift p n size back w)
  shift_made kind size back (integer a s) n one two = absurd one
  shift_made kind size back (pointer p) (integer n labels) one two = shift_moved size back p n labels one
  shift_made kind size back (pointer p) (pointer q) one two = absurd two

  one_shifted : (size : ℕ) (back : Bool) (p : Scalar) → Has u.model names w.memory Pointing p → Makes u names w Pointing (shift p plain_one size back w)
  one_shifted size back (integer a s) has = absurd has
  one_shifted size back (pointer p) has = shift_moved size back p (pos 1) no_labels has

  -- ---- conversions

  convert_integer : (kind : IntType) (old new : Mark) (v : Scalar) → IsKind u.model kind → ConvertsTo u.model (of.Int kind) old new → Has u.model names w.memory old v → Makes u names w new (convert (of.Int kind) v w)
  convert_integer kind (Ranged old) new (integer n labels) is c has = subst (λ new. Makes u names w new (convert (of.Int kind) (integer n labels) w)) (sym c) (wrapped_in kind n is.size, refl)
  convert_integer kind (Ranged old) new (pointer p) is c has = absurd has
  convert_integer kind (Exactly k) new (integer n labels) is c has = subst (λ new. Makes u names w new (convert (of.Int kind) (integer n labels) w)) (sym c) (ap (wrap_into kind) has, refl)
  convert_integer kind (Exactly k) new (pointer p) is c has = absurd has
  convert_integer kind (Loaded o) new (integer n labels) is c has = subst (λ new. Makes u names w new (convert (of.Int kind) (integer n labels) w)) (sym c.2) (record { from = n; value = has; is = refl }, refl)
  convert_integer kind (Loaded o) new (pointer p) is c has = absurd (integer_object u.model names w.memory o c.0 p c.1 has)
  convert_integer kind old new v is c has = absurd c

  null_made : (new : Mark) → (new ≡ Null) ⊎ (new ≡ Pointing) → Makes u names w new (goes (pointer null) w)
  null_made new (inl e) = subst (λ new. Makes u names w new (goes (pointer null) w)) (sym e) (refl, refl)
  null_made new (inr e) = subst (λ new. Makes u names w new (goes (pointer null) w)) (sym e) (tt, refl)

  convert_pointer : (old new : Mark) (v : Scalar) → ConvertsTo u.model of.Pointer old new → Has u.model names w.memory old v → Makes u names w new (convert of.Pointer v w)
  convert_pointer Pointing new (integer n labels) c has = absurd has
  convert_pointer Pointing new (pointer p) c has = subst (λ new. Makes u names w new (goes (pointer p) w)) (sym c) (has, refl)
  convert_pointer Null new (integer n labels) c has = absurd has
  convert_pointer Null new (pointer p) c has = subst (λ new. Makes u names w new (goes (pointer p) w)) (sym c) (has, refl)
  convert_pointer (Exactly k) new (integer n labels) c has = subst (λ n. Makes u names w new (convert of.Pointer (integer n labels) w)) (sym (has ∙ c.0)) (null_made new c.1)
  convert_pointer (Exactly k) new (pointer p) c has = absurd has
  convert_pointer (Loaded o) new (integer n labels) c has = absurd (pointer_object u.model names w.memory o n c.0 has)
  convert_pointer (Loaded o) new (pointer p) c has = subst (λ new. Makes u names w new (goes (pointer p) w)) (sym c.1) (has, refl)
  convert_pointer old new v c has = absurd c

  convert_made : (kind : declared.Scalar) (old new : Mark) (v : Scalar) → IsScalar u.model kind → ConvertsTo u.model kind old new → Has u.model names w.memory old v → Makes u names w new (convert kind v w)
  convert_made (of.Int kind) old new v is c has = convert_integer kind old new v is c has
  convert_made of.Pointer old new v is c has = convert_pointer old new v c has

  constant_has : (n : ℤ) (k : Mark) (labels : Labels) → IsConstant n k → Has u.model names w.memory k (integer n labels)
  constant_has n (Ranged kind) labels is = is
  constant_has n (Exactly k) labels is = sym is
  constant_has n k labels is = absurd is

  -- ---- operations

  module _ (before after : List Mark) (own rest : List Scalar) (are : AreWellTyped u.model names w.memory before own) where
    pub constant_performed : (n : ℤ) (k : Mark) → IsConstant n k → Replaces [] (k ∷ []) before after → Comes (Leaves u names w.memory after rest) (perform u (op.Constant n) (own ++ rest) w)
    constant_performed n k is o = replacing u names w before after own rest (perform u (op.Constant n) (own ++ rest) w) are [] (k ∷ []) o (λ below are. pushed_made u names w k below own rest (goes (integer n no_labels) w) are (constant_has n k no_labels is, refl))

    pub narrow_performed : (offset size : ℕ) → Replaces (Pointing ∷ []) (Pointing ∷ []) before after → Comes (Leaves u names w.memory after rest) (perform u (op.Narrow offset size) (own ++ rest) w)
    narrow_performed offset size o = replacing u names w before after own rest _ are (Pointing ∷ []) (Pointing ∷ []) o (λ below are. one_made u names w Pointing Pointing below own rest _ (λ v has. narrow_made offset size v has) are)

    pub shift_performed : (order : Order) (size : ℕ) (back : Bool) (kind : IntType) → Replaces (pointer_and_count order kind) (Pointing ∷ []) before after → Comes (Leaves u names w.memory after rest) (perform u (op.Shift order size back) (own ++ rest) w)
    shift_performed order size back kind o = replacing u names w before after own rest _ are (pointer_and_count order kind) (Pointing ∷ []) o (λ below are. two_made u names w order Pointing (Ranged kind) Pointing below own rest _ (λ a b one two. shift_made kind size back a b one two) are)

    pub one_shift_performed : (size : ℕ) (back : Bool) → Replaces (Pointing ∷ []) (Pointing ∷ []) before after → Comes (Leaves u names w.memory after rest) (perform u (op.ShiftByOne size back) (own ++ rest) w)
    one_shift_performed size back o = replacing u names w before after own rest _ are (Pointing ∷ []) (Pointing ∷ []) o (λ below are. one_made u names w Pointing Pointing below own rest _ (λ v has. one_shifted size back v has) are)

    pub binary_performed : (order : Order) (sign : IntOp) (kind : IntType) → Computes u.model order sign kind before after → Comes (Leaves u names w.memory after rest) (perform u (op.Binary order sign kind) (own ++ rest) w)
    binary_performed order sign kind (ranged count is counts o) = replacing u names w before after own rest _ are (operands order (Ranged kind) (Ranged count)) (Ranged kind ∷ []) o (λ below are. two_made u names w order (Ranged kind) (Ranged count) (Ranged kind) below own rest (binary sign kind) (λ a b one two. binary_ranged sign kind count a b is one two) are)
    binary_performed order sign kind (exact x y z is o) = replacing u names w before after own rest _ are (operands order (Exactly x) (Exactly y)) (Exactly z ∷ []) o (λ below are. two_made u names w order (Exactly x) (Exactly y) (Exactly z) below own rest (binary sign kind) (λ a b one two. binary_exact sign kind x y z a b is one two) are)

    pub one_binary_performed : (sign : IntOp) (kind : IntType) → IsKind u.model kind → Replaces (Ranged kind ∷ []) (Ranged kind ∷ []) before after → Comes (Leaves u names w.memory after rest) (perform u (op.BinaryByOne sign kind) (own ++ rest) w)
    one_binary_performed sign kind is o = replacing u names w before after own rest _ are (Ranged kind ∷ []) (Ranged kind ∷ []) o (λ below are. one_made u names w (Ranged kind) (Ranged kind) below own rest _ (λ v has. binary_ranged sign kind kind v plain_one is has (one_in kind is.size)) are)

    pub unary_performed : (sign : UnOp) (kind : IntType) → ComputesOne u.model sign kind before after → Comes (Leaves u names w.memory after rest) (perform u (op.Unary sign kind) (own ++ rest) w)
    unary_performed sign kind (ranged is o) = replacing u names w before after own rest _ are (Ranged kind ∷ []) (Ranged kind ∷ []) o (λ below are. one_made u names w (Ranged kind) (Ranged kind) below own rest (unary sign kind) (λ v has. unary_ranged sign kind v is has) are)
    unary_performed sign kind (exact x z is o) = replacing u names w before after own rest _ are (Exactly x ∷ []) (Exactly z ∷ []) o (λ below are. one_made u names w (Exactly x) (Exactly z) below own rest (unary sign kind) (λ v has. unary_exact sign kind x z v is has) are)

    pub compare_performed : (rel : Rel) → Compares u.model rel before after → Comes (Leaves u names w.memory after rest) (perform u (op.Compare rel) (own ++ rest) w)
    compare_performed rel (ranged x y kind truths o) = replacing u names w before after own rest _ are (Ranged y ∷ (Ranged x ∷ [])) (Ranged kind ∷ []) o (λ below are. two_made u names w LeftFirst (Ranged x) (Ranged y) (Ranged kind) below own rest (compare_numbers rel) (λ a b one two. compare_ranged rel x y kind a b truths one two) are)
    compare_performed rel (exact x y o) = replacing u names w before after own rest _ are (Exactly y ∷ (Exactly x ∷ [])) (Exactly (number_of_truth (holds rel x y)) ∷ []) o (λ below are. two_made u names w LeftFirst (Exactly x) (Exactly y) (Exactly (number_of_truth (holds rel x y))) below own rest (compare_numbers rel) (λ a b one two. compare_exact rel x y a b one two) are)
    compare_performed rel (tested left right test c o) = replacing u names w before after own rest _ are (right ∷ (left ∷ [])) (Tested test ∷ []) o (λ below are. two_made u names w LeftFirst left right (Tested test) below own rest (compare_numbers rel) (λ a b one two. compare_tested rel left right test a b c one two) are)

    pub negation_performed : Negates before after → Comes (Leaves u names w.memory after rest) (perform u op.Not (own ++ rest) w)
    negation_performed (any k kind truths o) = replacing u names w before after own rest _ are (k ∷ []) (Ranged kind ∷ []) o (λ below are. one_made u names w k (Ranged kind) below own rest negation (λ v has. negation_any k kind v truths has) are)
    negation_performed (exact n o) = replacing u names w before after own rest _ are (Exactly n ∷ []) (Exactly (number_of_truth (int_eq n (pos 0))) ∷ []) o (λ below are. one_made u names w (Exactly n) (Exactly (number_of_truth (int_eq n (pos 0)))) below own rest negation (λ v has. negation_exact n v has) are)

    pub difference_performed : (size : ℕ) (kind : IntType) → in_type kind (pos (most_size u.model)) ≡ true → in_type kind (negsuc (most_size u.model)) ≡ true → Replaces (Pointing ∷ (Pointing ∷ [])) (Ranged kind ∷ []) before after → Comes (Leaves u names w.memory after rest) (perform u (op.Difference size) (own ++ rest) w)
    difference_performed size kind most least o = replacing u names w before after own rest _ are (Pointing ∷ (Pointing ∷ [])) (Ranged kind ∷ []) o (λ below are. two_made u names w LeftFirst Pointing Pointing (Ranged kind) below own rest _ (λ a b one two. difference_made kind size a b most least one two) are)

    pub pointers_performed : (rel : Rel) → ComparesPointers rel before after → Comes (Leaves u names w.memory after rest) (perform u (op.ComparePointers rel) (own ++ rest) w)
    pointers_performed rel (any kind truths o) = replacing u names w before after own rest _ are (Pointing ∷ (Pointing ∷ [])) (Ranged kind ∷ []) o (λ below are. two_made u names w LeftFirst Pointing Pointing (Ranged kind) below own rest (compare rel) (λ a b one two. pointers_any rel kind a b truths one two) are)
    pointers_performed rel (tested x left right is with_null o) = replacing u names w before after own rest _ are (right ∷ (left ∷ [])) (Tested (null_test_of x rel) ∷ []) o (λ below are. two_made u names w LeftFirst left right (Tested (null_test_of x rel)) below own rest (compare rel) (λ a b one two. pointers_tested rel x left right a b is with_null one two) are)

    pub convert_performed : (kind : declared.Scalar) (old new : Mark) → IsScalar u.model kind → ConvertsTo u.model kind old new → Replaces (old ∷ []) (new ∷ []) before after → Comes (Leaves u names w.memory after rest) (perform u (op.Convert kind) (own ++ rest) w)
    convert_performed kind old new is c o = replacing u names w before after own rest _ are (old ∷ []) (new ∷ []) o (λ below are. one_made u names w old new below own rest (convert kind) (λ v has. convert_made kind old new v is c has) are)
