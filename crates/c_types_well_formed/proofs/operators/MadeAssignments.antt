-- Assignments make what is made.
use Rattle.std.proofs.Common.{◌≡◌, ℕ, Bool, true, false, not, ◌&&◌, Option, Some, None, Ok, Err, refl, sym, subst, ap}
use Rattle.std.proofs.lemmas.Bool.{and_from}
use Rattle.cc_base.specs.declared.diagnostics.Place.{Place}
use Rattle.cc_base.specs.declared.int_types.IntType.{IntType}
use Rattle.c_layout.specs.CheckedTrees as tree
use Rattle.c_layout.specs.CheckedTrees.{TermTree, Typed, LvalueTree}
use Rattle.c_layout.specs.CheckedUnits.{UnitView}
use Rattle.c_layout.specs.Types.{Ty, Int, Pointer, Array, Struct, Void}
use Rattle.c_layout.specs.declared.syntax_tree.expressions.AssignOp.{AssignOp}
use Rattle.c_layout.specs.declared.syntax_tree.expressions.AssignOp.TheVariants as assign
use Rattle.c_layout.specs.declared.syntax_tree.expressions.BinaryOp.{BinaryOp}
use Rattle.c_layout.specs.declared.syntax_tree.expressions.BinaryOp.TheVariants as op
use Rattle.c_types_rules.specs.Rules.IntegerKinds.{promoted, common}
use Rattle.c_types_scopes.specs.Known.{Known, size_of}
use Rattle.c_types_scopes.specs.Refusals.{Ruled}
use Rattle.c_types_operands.specs.Operands.{OperandView, term_of, own_lvalue, lvalue_type, term_type, is_scalar, is_void, is_struct}
use Rattle.c_types_operands.specs.Conversions.{integer_as, assigned}
use Rattle.c_types_operands.specs.PointerArithmetic.{target_size}
use Rattle.c_types_operands.specs.declared.arithmetic.KindPair.{KindPair}
use Rattle.c_types_operators.specs.Assignments.{source_of_size, complete_source, copied_from, copied, simple_by, simple, integer_compound, pointer_step, moved_pointer, compound_kind, compound_number, compound_move, compound_as, compound_of, assigned_to, assignment_by, assignment_to, assignment}
use Rattle.lower_expressions.specs.Assignments.{number_operator}
use Rattle.lower_templates.specs.Worklist.TermKinds.{meaning}
use Rattle.source_preservation.specs.Checks.LookedTypes.{counts_as, is_such, is_scalar_type, is_address, is_integer, same_mark, steps_in}
use Rattle.source_preservation.specs.Checks.LookedTerms.{is_well_typed_term, is_well_typed_place}
use Rattle.source_preservation.proofs.checks.Truths.{no_some}
use Rattle.c_types_well_formed.specs.WellFormed.ModelTypes.{IsKindOf, IsGround}
use Rattle.c_types_well_formed.specs.WellFormed.MadeTerms.{IsMade, IsMadePlace, IsGiven, Gives, IsMadeOperand, Makes}
use Rattle.c_types_well_formed.proofs.decided_tests.ModelKinds.{scalar_there}
use Rattle.c_types_well_formed.proofs.decided_tests.MadeTests.{no_tests, assign_tests}
use Rattle.c_types_well_formed.proofs.rules.ModelKinds.{mark_same}
use Rattle.c_types_well_formed.proofs.rules.GroundKinds.{number_scalar, number_integer, number_known, promoted_there, common_there}
use Rattle.c_types_well_formed.proofs.rules.MadeArithmetic.{counts_self}
use Rattle.c_types_well_formed.proofs.rules.MadeConversions.{scalar_well_typed, integer_given, conversions_give}
use Rattle.c_types_well_formed.proofs.rules.MadeNodes.{node_made, makes_if}
use Rattle.c_types_well_formed.proofs.rules.MadePlaces.{own_made, source_made, place_address, place_kind, steps_there}
use Rattle.c_types_well_formed.proofs.rules.MadeValues.{value_made}

nothing_moved : (k : Known) (sign : BinaryOp) (t : Ty) → target_size k t ≡ None → moved_pointer k sign t ≡ None
nothing_moved k op.Add t none = ap (λ size. pointer_step false size) none
nothing_moved k op.Subtract t none = ap (λ size. pointer_step true size) none
nothing_moved k sign t none = refl

module _ (u : UnitView) (k : Known) (ground : IsGround u k) where
  module _ (at : Place) (left : LvalueTree) (place : IsMadePlace u left) where
    -- ---- of structs

    copy_made : (source : LvalueTree) → IsMadePlace u source → Makes u (copied_from at left (Some source))
    copy_made source made = record { well_typed = and_from (is_well_typed_place u left) (is_well_typed_place u source) place.well_typed made.well_typed; typed = place.typed }

    copied_made : (x : OperandView) → IsMadeOperand u x → Makes u (copied k at left x)
    copied_made x made = by (size_of k (lvalue_type left)) (complete_source k x (lvalue_type left)) refl
      where
        sized : (size : Option ℕ) (l : LvalueTree) → source_of_size x (lvalue_type left) size ≡ Some l → IsMadePlace u l
        sized None l is = no_some l is
        sized (Some size) l is = source_made u x (lvalue_type left) l made is

        by : (size : Option ℕ) (o : Option LvalueTree) → source_of_size x (lvalue_type left) size ≡ o → Makes u (copied_from at left o)
        by size None is = tt
        by size (Some source) is = copy_made source (sized size source is)

    -- ---- of scalars

    assign_well_typed : (e : TermTree) (used : Bool) → IsGiven u e (lvalue_type left) → is_well_typed_term u used (Typed at (lvalue_type left) 0 None (tree.Assign left e)) ≡ true
    assign_well_typed e used given =
        let t : Ty = lvalue_type left in
        and_from (is_well_typed_place u left) (is_well_typed_term u true e && (is_scalar_type u t && (same_mark (term_type e) t && same_mark t t))) place.well_typed
        (and_from (is_well_typed_term u true e) (is_scalar_type u t && (same_mark (term_type e) t && same_mark t t)) given.well_typed
        (and_from (is_scalar_type u t) (same_mark (term_type e) t && same_mark t t) (scalar_there u t ground.proper place.typed)
        (and_from (same_mark (term_type e) t) (same_mark t t) (subst (λ s. same_mark s t ≡ true) (sym given.same) (mark_same t)) (mark_same t))))

    assign_made : (r : Ruled TermTree) → Gives u (lvalue_type left) r → Makes u (simple_by at left r)
    assign_made (Ok e) given =
        node_made u at (lvalue_type left) 0 (tree.Assign left e) refl refl (assign_well_typed e (not (is_void (lvalue_type left))) given) place.typed
        (λ scalar is_test. assign_tests u k ground at (lvalue_type left) 0 None is_test left e (assign_well_typed e true given) place.typed)
    assign_made (Err f) given = tt

    simple_made : (x : OperandView) → IsMadeOperand u x → Makes u (simple k at left x)
    simple_made x made = assign_made (assigned k at (term_of x) (lvalue_type left)) (conversions_give u k ground at (term_of x) (lvalue_type left) (value_made u k ground x made) place.typed)

    assigned_made : (x : OperandView) → IsMadeOperand u x → Makes u (assigned_to k at left x)
    assigned_made x made = makes_if u (is_struct (lvalue_type left)) _ _ (λ h. copied_made x made) (λ h. makes_if u (is_scalar (lvalue_type left)) _ _ (λ s. simple_made x made) (λ s. tt))

    -- ---- compound assignments

    module _ (right : TermTree) (x : IsMade u right) where
      number_made : (sign : BinaryOp) (a b computed kind : IntType) → lvalue_type left ≡ Int a → term_type right ≡ Int b → IsKindOf u.model computed → IsKindOf u.model kind → counts_as (number_operator (meaning sign)) computed kind ≡ true → Makes u (compound_number k at sign (record { left = computed; right = kind }) left right)
      number_made sign a b computed kind s t known other counts =
          let e : TermTree = integer_as k right kind in
          let given : IsGiven u (integer_as k right kind) (Int kind) = integer_given u k ground.proper right b kind x t other in
          node_made u at (lvalue_type left) 0 (tree.Compound sign (Int computed) left (integer_as k right kind)) refl refl
          (and_from (is_well_typed_place u left) (is_well_typed_term u true e && (is_such (λ count. counts_as (number_operator (meaning sign)) computed count) (term_type e) && steps_in u computed (lvalue_type left) (lvalue_type left))) place.well_typed
          (and_from (is_well_typed_term u true e) (is_such (λ count. counts_as (number_operator (meaning sign)) computed count) (term_type e) && steps_in u computed (lvalue_type left) (lvalue_type left)) given.well_typed
          (and_from (is_such (λ count. counts_as (number_operator (meaning sign)) computed count) (term_type e)) (steps_in u computed (lvalue_type left) (lvalue_type left)) (subst (λ r. is_such (λ count. counts_as (number_operator (meaning sign)) computed count) r ≡ true) (sym given.same) counts)
          (steps_there u k ground (lvalue_type left) a computed s (place_kind u left a place s) known))))
          place.typed
          (λ scalar is_test. no_tests u k ground at (lvalue_type left) 0 None is_test (tree.Compound sign (Int computed) left (integer_as k right kind)) refl)

      move_made : (down : Bool) (size : ℕ) (t : Ty) (b : IntType) → lvalue_type left ≡ Pointer t → term_type right ≡ Int b → Makes u (compound_move at down size left right)
      move_made down size t b s r =
          node_made u at (lvalue_type left) 0 (tree.CompoundShift down size left right) refl refl
          (and_from (is_well_typed_place u left) (is_well_typed_term u true right && (is_integer (term_type right) && (is_address (lvalue_type left) && is_address (lvalue_type left)))) place.well_typed
          (and_from (is_well_typed_term u true right) (is_integer (term_type right) && (is_address (lvalue_type left) && is_address (lvalue_type left))) (scalar_well_typed u right x (number_scalar right b r))
          (and_from (is_integer (term_type right)) (is_address (lvalue_type left) && is_address (lvalue_type left)) (number_integer right b r)
          (and_from (is_address (lvalue_type left)) (is_address (lvalue_type left)) (place_address u left t s) (place_address u left t s)))))
          place.typed
          (λ scalar is_test. no_tests u k ground at (lvalue_type left) 0 None is_test (tree.CompoundShift down size left right) refl)

      -- an integer
      module _ (a b : IntType) (s : lvalue_type left ≡ Int a) (t : term_type right ≡ Int b) where
        abbrev kinds : KindPair
        kinds = record { left = a; right = b }

        before : IsKindOf u.model a
        before = place_kind u left a place s

        behind : IsKindOf u.model b
        behind = number_known u k ground right b x t

        in_common : (sign : BinaryOp) → Makes u (compound_number k at sign (record { left = common k.numbers a b; right = common k.numbers a b }) left right)
        in_common sign = number_made sign a b (common k.numbers a b) (common k.numbers a b) s t (common_there u k ground a b before behind) (common_there u k ground a b before behind) (counts_self (number_operator (meaning sign)) (common k.numbers a b))

        integer_made : (sign : BinaryOp) → Makes u (compound_as k at sign left right (Some (integer_compound k sign kinds)))
        integer_made op.ShiftLeft = number_made op.ShiftLeft a b (promoted k.numbers a) (promoted k.numbers b) s t (promoted_there u k ground a before) (promoted_there u k ground b behind) refl
        integer_made op.ShiftRight = number_made op.ShiftRight a b (promoted k.numbers a) (promoted k.numbers b) s t (promoted_there u k ground a before) (promoted_there u k ground b behind) refl
        integer_made sign = in_common sign

      -- a pointer
      module _ (p : Ty) (b : IntType) (s : lvalue_type left ≡ Pointer p) (t : term_type right ≡ Int b) where
        stepped : (sign : BinaryOp) (down : Bool) (size : Option ℕ) → Makes u (compound_as k at sign left right (pointer_step down size))
        stepped sign down None = tt
        stepped sign down (Some size) = move_made down size p b s t

        pointer_made : (sign : BinaryOp) → Makes u (compound_as k at sign left right (moved_pointer k sign (Pointer p)))
        pointer_made op.Add = stepped op.Add false (size_of k p)
        pointer_made op.Subtract = stepped op.Subtract true (size_of k p)
        pointer_made sign = tt

      unmoved : (sign : BinaryOp) (s : Ty) → moved_pointer k sign s ≡ None → Makes u (compound_as k at sign left right (moved_pointer k sign s))
      unmoved sign s none = subst (λ o. Makes u (compound_as k at sign left right o)) (sym none) tt

      by_types : (sign : BinaryOp) (s t : Ty) → lvalue_type left ≡ s → term_type right ≡ t → Makes u (compound_as k at sign left right (compound_kind k sign s t))
      by_types sign (Int a) (Int b) is other = integer_made a b is other sign
      by_types sign (Pointer p) (Int b) is other = pointer_made p b is other sign
      by_types sign (Int a) t is other = tt
      by_types sign (Pointer p) t is other = tt
      by_types sign (Array t n) (Int b) is other = unmoved sign (Array t n) (nothing_moved k sign (Array t n) refl)
      by_types sign (Struct i) (Int b) is other = unmoved sign (Struct i) (nothing_moved k sign (Struct i) refl)
      by_types sign Void (Int b) is other = unmoved sign Void (nothing_moved k sign Void refl)
      by_types sign s t is other = tt

      compound_made : (sign : BinaryOp) → Makes u (compound_of k at sign left right)
      compound_made sign = by_types sign (lvalue_type left) (term_type right) refl refl

    by_operator : (how : AssignOp) (x : OperandView) → IsMadeOperand u x → Makes u (assignment_by k at how left x)
    by_operator assign.Simple x made = assigned_made x made
    by_operator (assign.Compound sign) x made = compound_made (term_of x) (value_made u k ground x made) sign

  pub assignment_made : (at : Place) (how : AssignOp) (x y : OperandView) → IsMadeOperand u x → IsMadeOperand u y → Makes u (assignment k at how x y)
  assignment_made at how x y p q = by (own_lvalue x) refl
    where
      by : (o : Option LvalueTree) → own_lvalue x ≡ o → Makes u (assignment_to k at how y o)
      by None is = tt
      by (Some left) is = by_operator at left (own_made u x left p is) how y q
