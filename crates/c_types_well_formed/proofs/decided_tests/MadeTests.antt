-- The tests of conditions that typing makes are decided.
use Rattle.std.proofs.Common.{◌≡◌, ◌⊎◌, inl, inr, ℕ, ℤ, pos, Bool, true, false, ◌&&◌, ◌||◌, Option, Some, None, refl, ap, sym, subst, ◌∙◌}
use Rattle.std.proofs.lemmas.Bool.{and_from, or_left, or_right}
use Rattle.std.proofs.lemmas.Bool.Decides.{Decides-int_eq}
use Rattle.cc_base.specs.declared.diagnostics.Place.{Place}
use Rattle.cc_base.specs.declared.int_types.IntType.{IntType}
use Rattle.cc_base.specs.declared.integer_operators.Rel.TheVariants.{Ne}
use Rattle.c_layout.specs.Models.{is_model}
use Rattle.c_layout.specs.Types.{Ty, Int, Pointer, Array, Struct, Void}
use Rattle.c_layout.specs.CheckedTrees as tree
use Rattle.c_layout.specs.CheckedTrees.{TermTree, FormTree, Typed, LvalueTree}
use Rattle.c_layout.specs.CheckedUnits.{UnitView}
use Rattle.c_layout.specs.declared.data_model.Model.{Model}
use Rattle.c_layout.specs.declared.checked_tree.checked_terms.ConversionKind.TheVariants.{Implicit, Cast}
use Rattle.c_layout.specs.declared.syntax_tree.expressions.BinaryOp.{BinaryOp}
use Rattle.c_layout.specs.declared.syntax_tree.expressions.LogicalOp.{LogicalOp}
use Rattle.c_layout.specs.declared.syntax_tree.expressions.LogicalOp.TheVariants.{And, Or}
use Rattle.c_types_scopes.specs.Known.{Known}
use Rattle.c_types_operands.specs.Operands.{term_type, term_constant, is_scalar, is_null}
use Rattle.c_types_operands.specs.Conversions.{noted, in_type, integer_as}
use Rattle.lower_conditions.specs.declared.branch_tests.NamedObject.{NamedObject}
use Rattle.lower_conditions.specs.Tests.{named_or_assigned, compared_with_null}
use Rattle.lower_templates.specs.Worklist.TermKinds.{meaning, relation, scalar_of, common_with_int, is_void_pointer, is_zero, is_zero_cast}
use Rattle.lower_templates.specs.declared.worklist.term_kinds.OperatorMeaning.{OperatorMeaning}
use Rattle.lower_templates.specs.declared.worklist.term_kinds.OperatorMeaning.TheVariants as meant
use Rattle.cfg.specs.declared.machine_instructions.Scalar.{Scalar}
use Rattle.cfg.specs.declared.machine_instructions.Scalar.TheVariants as of
use Rattle.semantics.specs.SourceMachine.Items as item
use Rattle.semantics.specs.SourceMachine.Items.{NamedSide, NamedTest}
use Rattle.semantics.specs.SourceMachine.TermTests.{operator_test, null_test, zero_test_of, zero_test}
use Rattle.source_preservation.specs.ValueTyping.Marks.{Mark, Loaded}
use Rattle.source_preservation.specs.ValueTyping.MarkOperations.{null_test_of}
use Rattle.source_preservation.specs.Checks.LookedTypes.{is_kind, is_wider, is_address}
use Rattle.source_preservation.specs.Checks.LookedTests.{same_side, same_relation, same_common, same_test, zero_test_in, decides_alone, decides}
use Rattle.source_preservation.specs.Checks.LookedTerms as look
use Rattle.source_preservation.specs.Checks.LookedTerms.{exact, quiet, operand, has_test, is_well_typed_term, has_tests}
use Rattle.source_preservation.proofs.checks.Truths.{never, both_true}
use Rattle.c_types_well_formed.specs.WellFormed.ModelTypes.{IsKindOf, IsTypeOf, IsGround}
use Rattle.c_types_well_formed.specs.WellFormed.MadeTerms.{IsMade, is_implicit}
use Rattle.c_types_well_formed.proofs.decided_tests.ModelKinds.{same_kind_self, kind_there, zero_kind, zero_wider}
use Rattle.c_types_well_formed.proofs.decided_tests.Rewrapped.{noted_constant, noted_exact}
use Rattle.c_types_well_formed.proofs.decided_tests.ConvertedOperands.{in_type_by, in_own}
use Rattle.c_types_well_formed.proofs.decided_tests.NamedOperands.{zero_is, quiet_side, operand_quiet, operand_stored, IsLoaded, IsAssigned, names}
use Rattle.c_types_well_formed.proofs.decided_tests.IntegerSides as integers
use Rattle.c_types_well_formed.proofs.decided_tests.IntegerSides.{same_object_self, same_relation_self, integer_side, operators_decided}
use Rattle.c_types_well_formed.proofs.decided_tests.PointerSides as pointers
use Rattle.c_types_well_formed.proofs.decided_tests.PointerSides.{IsPointerSide, pointer_side, pointers_decided}

-- forms of terms that are no tests, whatever their operands are
abbrev pub is_number_meant : OperatorMeaning → Bool
is_number_meant (meant.Number sign) = true
is_number_meant (meant.Truth rel) = false

abbrev pub is_untested : FormTree → Bool
is_untested (tree.Load l) = false
is_untested (tree.Convert Implicit e) = false
is_untested (tree.Not e) = false
is_untested (tree.Integer sign a b) = is_number_meant (meaning sign)
is_untested (tree.Compare sign a b) = false
is_untested (tree.Logical sign a b) = false
is_untested (tree.Conditional c a b) = false
is_untested (tree.Assign l a) = false
is_untested f = true

-- ---- objects alone

same_test_self : (t : NamedTest) → same_test t t ≡ true
same_test_self t = and_from (same_side t.left t.left) _ (sides t.left) (and_from (same_relation t.rel t.rel) _ (same_relation_self t.rel) (and_from (same_side t.right t.right) _ (sides t.right) (commons t.common)))
  where
    sides : (s : NamedSide) → same_side s s ≡ true
    sides (item.named o) = same_object_self o
    sides (item.number n) = (Decides-int_eq n n).1 refl
    sides item.nothing = refl

    commons : (c : Option IntType) → same_common c c ≡ true
    commons None = refl
    commons (Some kind) = same_kind_self kind

-- whether a test of a value alone is decided
abbrev alone : UnitView → Option Mark → Option NamedTest → Bool
alone u mark None = true
alone u mark (Some test) = decides u mark test

type_kind : (m : Model) (kind : IntType) (t : Ty) → of.Int kind ≡ scalar_of t → IsTypeOf m t → IsKindOf m kind
type_kind m kind (Int a) is h = subst (IsKindOf m) (sym (same is)) h
  where
    same : of.Int kind ≡ of.Int a → kind ≡ a
    same is = cc
type_kind m kind (Pointer t) is h = absurd (let no : ⊥ = cc in no)
type_kind m kind (Array t n) is h = absurd (let no : ⊥ = cc in no)
type_kind m kind (Struct i) is h = absurd (let no : ⊥ = cc in no)
type_kind m kind Void is h = absurd (let no : ⊥ = cc in no)

module _ (u : UnitView) (proper : is_model u.model ≡ true) where
  zero_decided : (o : NamedObject) (t : Ty) → IsTypeOf u.model t → (s : Scalar) → o.kind ≡ s → s ≡ scalar_of t → alone u (Some (Loaded o)) (zero_test_of u o s) ≡ true
  zero_decided o t typed (of.Int kind) is same =
      let h = type_kind u.model kind t same typed in
      let common : IntType = common_with_int kind u.model.int in
      let test : NamedTest = zero_test_in o common in
      subst (λ s. decides_alone u o s test ≡ true) (sym is)
      (and_from (is_kind u.model kind) _ (kind_there u.model proper kind h) (and_from (is_kind u.model common) _ (kind_there u.model proper common (zero_kind u.model proper kind h)) (and_from (is_wider kind common) _ (zero_wider u.model proper kind h) (same_test_self test))))
  zero_decided o t typed of.Pointer is same = subst (λ s. decides_alone u o s (null_test_of o Ne) ≡ true) (sym is) (same_test_self (null_test_of o Ne))

  -- a term that is an object, or assigns to one
  alone_decided : (used : Bool) (e : TermTree) → is_implicit e ≡ false → is_well_typed_term u used e ≡ true → IsTypeOf u.model (term_type e) → alone u (operand u e) (zero_test u (named_or_assigned e)) ≡ true
  alone_decided used e bare well_typed typed = by (named_or_assigned e) refl
    where
      known : (o : NamedObject) → operand u e ≡ Some (Loaded o) → o.kind ≡ scalar_of (term_type e) → alone u (operand u e) (zero_test_of u o o.kind) ≡ true
      known o is kind = subst (λ mark. alone u mark (zero_test_of u o o.kind) ≡ true) (sym is) (zero_decided o (term_type e) typed o.kind refl kind)

      either : (o : NamedObject) → IsLoaded u e o ⊎ IsAssigned u e o → alone u (operand u e) (zero_test_of u o o.kind) ≡ true
      either o (inl y) = known o (operand_quiet u e (Loaded o) (quiet_side u e (Loaded o) y.side)) y.kind
      either o (inr y) = known o (operand_stored u e (Loaded o) y.side y.number y.null y.stored) y.kind

      by : (p : Option NamedObject) → named_or_assigned e ≡ p → alone u (operand u e) (zero_test u p) ≡ true
      by None is = refl
      by (Some o) is = either o (names u used e o bare well_typed is)

-- ---- terms

module _ (u : UnitView) (k : Known) (ground : IsGround u k) (at : Place) (t : Ty) (parens : ℕ) (c : Option ℤ) where
  number_tests : (is_test : Bool) (op : BinaryOp) (a b : TermTree) (how : OperatorMeaning) → is_number_meant how ≡ true → has_test u (Typed at t parens c (tree.Integer op a b)) (operator_test how a b) ≡ true
  number_tests is_test op a b (meant.Number sign) h = refl
  number_tests is_test op a b (meant.Truth rel) h = never h

  pub no_tests : (is_test : Bool) (f : FormTree) → is_untested f ≡ true → has_tests u is_test (Typed at t parens c f) ≡ true
  no_tests is_test (tree.Load l) h = never h
  no_tests is_test (tree.Convert Implicit e) h = never h
  no_tests is_test (tree.Not e) h = never h
  no_tests is_test (tree.Compare sign a b) h = never h
  no_tests is_test (tree.Logical sign a b) h = never h
  no_tests is_test (tree.Conditional e a b) h = never h
  no_tests is_test (tree.Assign l a) h = never h
  no_tests true (tree.Integer sign a b) h = number_tests true sign a b (meaning sign) h
  no_tests false (tree.Integer sign a b) h = refl
  no_tests true (tree.Convert Cast e) h = refl
  no_tests false (tree.Convert Cast e) h = refl
  no_tests true f h = refl
  no_tests false f h = refl

  -- an object alone
  pub load_tests : (is_test : Bool) (l : LvalueTree) → is_well_typed_term u true (Typed at t parens c (tree.Load l)) ≡ true → IsTypeOf u.model t → has_tests u is_test (Typed at t parens c (tree.Load l)) ≡ true
  load_tests false l well_typed typed = refl
  load_tests true l well_typed typed = by (zero_test u (named_or_assigned (Typed at t parens c (tree.Load l)))) ∙ alone_decided u ground.proper true (Typed at t parens c (tree.Load l)) refl well_typed typed
    where
      by : (p : Option NamedTest) → has_test u (Typed at t parens c (tree.Load l)) p ≡ alone u (operand u (Typed at t parens c (tree.Load l))) p
      by None = refl
      by (Some test) = refl

  pub assign_tests : (is_test : Bool) (l : LvalueTree) (a : TermTree) → is_well_typed_term u true (Typed at t parens c (tree.Assign l a)) ≡ true → IsTypeOf u.model t → has_tests u is_test (Typed at t parens c (tree.Assign l a)) ≡ true
  assign_tests false l a well_typed typed = refl
  assign_tests true l a well_typed typed = by (zero_test u (named_or_assigned (Typed at t parens c (tree.Assign l a)))) ∙ alone_decided u ground.proper true (Typed at t parens c (tree.Assign l a)) refl well_typed typed
    where
      by : (p : Option NamedTest) → has_test u (Typed at t parens c (tree.Assign l a)) p ≡ alone u (operand u (Typed at t parens c (tree.Assign l a))) p
      by None = refl
      by (Some test) = refl

  -- any operator on two integers in one type
  pub integer_tests : (is_test : Bool) (op : BinaryOp) (kind a b : IntType) (left right : TermTree) → IsKindOf u.model kind → term_type left ≡ Int a → term_type right ≡ Int b → IsMade u left → IsMade u right → has_tests u is_test (Typed at t parens c (tree.Integer op (integer_as k left kind) (integer_as k right kind))) ≡ true
  integer_tests false op kind a b left right h s r x y = refl
  integer_tests true op kind a b left right h s r x y =
      by (operator_test (meaning op) (integer_as k left kind) (integer_as k right kind))
      ∙ operators_decided u kind (kind_there u.model ground.proper kind h) (integer_as k left kind) (integer_as k right kind) (integer_side u k ground left kind a h s x) (integer_side u k ground right kind b h r y) (meaning op)
    where
      by : (p : Option NamedTest) → has_test u (Typed at t parens c (tree.Integer op (integer_as k left kind) (integer_as k right kind))) p ≡ integers.compared u kind (kind_there u.model ground.proper kind h) (meaning op) (operand u (integer_as k left kind)) (quiet u (integer_as k right kind)) p
      by None = refl
      by (Some test) = refl

  compare_tests : (is_test : Bool) (op : BinaryOp) (l r : TermTree) → IsPointerSide u l → IsPointerSide u r → has_tests u is_test (Typed at t parens c (tree.Compare op l r)) ≡ true
  compare_tests false op l r x y = refl
  compare_tests true op l r x y = by (null_test (compared_with_null l r) (relation op)) ∙ pointers_decided u l r x y (relation op)
    where
      by : (p : Option NamedTest) → has_test u (Typed at t parens c (tree.Compare op l r)) p ≡ pointers.compared (relation op) (operand u l) (quiet u r) p
      by None = refl
      by (Some test) = refl

  own_side : (e : TermTree) → is_address (term_type e) ≡ true → IsMade u e → IsPointerSide u e
  own_side e s x = subst (IsPointerSide u) (in_own k e) (pointer_side u k e (term_type e) (or_left (is_address (term_type e)) (is_null e) s) s x)

  -- two pointers, or a pointer and a null pointer constant, which may be converted
  pub pointer_tests : (is_test : Bool) (op : BinaryOp) (left right : TermTree) → is_address (term_type left) ≡ true → is_address (term_type right) ≡ true → IsMade u left → IsMade u right → has_tests u is_test (Typed at t parens c (tree.Compare op left right)) ≡ true
  pointer_tests is_test op left right s r x y = compare_tests is_test op left right (own_side left s x) (own_side right r y)

  pub left_pointer_tests : (is_test : Bool) (op : BinaryOp) (left right : TermTree) → is_address (term_type left) ≡ true → (is_address (term_type right) || is_null right) ≡ true → IsMade u left → IsMade u right → has_tests u is_test (Typed at t parens c (tree.Compare op left (in_type k right (term_type left)))) ≡ true
  left_pointer_tests is_test op left right s r x y = compare_tests is_test op left (in_type k right (term_type left)) (own_side left s x) (pointer_side u k right (term_type left) r s y)

  pub right_pointer_tests : (is_test : Bool) (op : BinaryOp) (left right : TermTree) → (is_address (term_type left) || is_null left) ≡ true → is_address (term_type right) ≡ true → IsMade u left → IsMade u right → has_tests u is_test (Typed at t parens c (tree.Compare op (in_type k left (term_type right)) right)) ≡ true
  right_pointer_tests is_test op left right s r x y = compare_tests is_test op (in_type k left (term_type right)) right (pointer_side u k left (term_type right) s r x) (own_side right r y)

  pub not_tests : (is_test : Bool) (e : TermTree) → is_scalar (term_type e) ≡ true → IsMade u e → has_tests u is_test (Typed at t parens c (tree.Not e)) ≡ true
  not_tests is_test e s x = x.tests s is_test

  pub logical_tests : (is_test : Bool) (op : LogicalOp) (left right : TermTree) → is_scalar (term_type left) ≡ true → is_scalar (term_type right) ≡ true → IsMade u left → IsMade u right → has_tests u is_test (Typed at t parens c (tree.Logical op left right)) ≡ true
  logical_tests is_test And left right s r x y = and_from (has_tests u is_test left) (has_tests u is_test right) (x.tests s is_test) (y.tests r is_test)
  logical_tests is_test Or left right s r x y = and_from (has_tests u is_test left) (has_tests u is_test right) (x.tests s is_test) (y.tests r is_test)

  -- the arms may be converted
  pub choice_tests : (is_test : Bool) (condition first second : TermTree) → is_scalar (term_type condition) ≡ true → IsMade u condition → has_tests u false first ≡ true → has_tests u false second ≡ true → has_tests u is_test (Typed at t parens c (tree.Conditional condition first second)) ≡ true
  choice_tests is_test condition first second s x a b = and_from (has_tests u true condition) (has_tests u false first && has_tests u false second) (x.tests s true) (and_from (has_tests u false first) (has_tests u false second) a b)

-- an arm of `?:`, which is no test itself
pub arm_tests : (u : UnitView) (k : Known) (e : TermTree) (to : Ty) → is_scalar (term_type e) ≡ true → IsMade u e → has_tests u false (in_type k e to) ≡ true
arm_tests u k e to s x = in_type_by k e to (λ l. has_tests u false l ≡ true) (λ same. x.tests s false) refl

-- a null pointer constant that is cast
pub cast_null : (u : UnitView) (k : Known) (at : Place) (t : Ty) (parens : ℕ) (c : Option ℤ) (e : TermTree) → IsMade u e → is_zero_cast t (Some (noted k t e)) ≡ true → look.is_null u.model (Typed at t parens c (tree.Convert Cast (noted k t e))) ≡ true
cast_null u k at t parens c e x h =
    let v = both_true (is_void_pointer t) (is_zero (term_constant (noted k t e))) h in
    let zero : term_constant e ≡ Some (pos 0) = sym (noted_constant k t e) ∙ zero_is (term_constant (noted k t e)) v.1 in
    let known : exact u.model (noted k t e) ≡ Some (pos 0) = noted_exact k t u.model e ∙ (x.constant (pos 0) zero).number in
    and_from (is_address t) (look.is_null u.model (noted k t e) || look.is_exact_zero u.model (noted k t e)) (pointer t v.0) (or_right (look.is_null u.model (noted k t e)) (look.is_exact_zero u.model (noted k t e)) (ap is_zero known))
  where
    pointer : (t : Ty) → is_void_pointer t ≡ true → is_address t ≡ true
    pointer (Pointer t) h = refl
    pointer (Int kind) h = never h
    pointer (Array t n) h = never h
    pointer (Struct i) h = never h
    pointer Void h = never h
