-- `sizeof` and casts make what is made.
use Rattle.std.proofs.Common.{◌≡◌, inl, ℕ, ℤ, pos, Bool, true, false, not, cond, Option, Some, None, refl, subst}
use Rattle.std.proofs.lemmas.Bool.{and_from}
use Rattle.cc_base.specs.declared.diagnostics.Place.{Place}
use Rattle.c_layout.specs.CheckedTrees as tree
use Rattle.c_layout.specs.CheckedTrees.{TermTree, Typed}
use Rattle.c_layout.specs.CheckedUnits.{UnitView}
use Rattle.c_layout.specs.Types.{Ty, Int, Pointer, Array, Struct, Void}
use Rattle.c_layout.specs.declared.checked_tree.checked_terms.ConversionKind.TheVariants as kind
use Rattle.c_types_rules.specs.Rules.IntegerKinds.{kind_of, size_rank}
use Rattle.c_types_rules.specs.Rules.TypeConversions as types
use Rattle.c_types_rules.specs.declared.rules.type_conversions.Conversion.{Conversion}
use Rattle.c_types_rules.specs.declared.rules.type_conversions.Conversion.TheVariants as conversion
use Rattle.c_types_scopes.specs.Known.{Known, size_of}
use Rattle.c_types_operands.specs.Operands.{OperandView, ValueView, value_of, term_type, term_constant, is_scalar, is_void, is_null}
use Rattle.c_types_operands.specs.Conversions.{noted, unused}
use Rattle.c_types_operators.specs.SizesAndCasts.{size_operand, is_named_pointer, sized_term, size_by, size_of_operand, size_of_type, cast_value, cast_fixed, scalar_cast, cast_by, value_cast, discarded, cast_of, cast}
use Rattle.lower_templates.specs.Worklist.TermKinds.{scalar_of}
use Rattle.cfg.specs.declared.machine_instructions.Scalar.{Scalar}
use Rattle.cfg.specs.declared.machine_instructions.Scalar.TheVariants as of
use Rattle.source_preservation.specs.Checks.LookedTypes.{converts}
use Rattle.source_preservation.specs.Checks.LookedTerms.{is_well_typed_term}
use Rattle.source_preservation.proofs.checks.Truths.{never, no_some}
use Rattle.c_types_well_formed.specs.WellFormed.ModelTypes.{IsTypeOf, IsGround}
use Rattle.c_types_well_formed.specs.WellFormed.MadeTerms.{IsExactly, IsMade, IsMadeOperand, Makes}
use Rattle.c_types_well_formed.proofs.decided_tests.MadeNumbers.{if_fixed, cast_number, size_number}
use Rattle.c_types_well_formed.proofs.decided_tests.ModelKinds.{scalar_there}
use Rattle.c_types_well_formed.proofs.decided_tests.MadeTests.{no_tests, cast_null}
use Rattle.c_types_well_formed.proofs.rules.GroundKinds.{size_there, size_has}
use Rattle.c_types_well_formed.proofs.rules.MadeConversions.{scalar_well_typed, IsConverted, converted_well_typed, ConvertsAs, cast_as, converting}
use Rattle.c_types_well_formed.proofs.rules.MadeNodes.{term_made, node_made, makes_if}
use Rattle.c_types_well_formed.proofs.rules.MadeValues.{value_made}
use Rattle.c_types_well_formed.proofs.rules.UnusedTerms.{unused_well_typed}

converts_self : (a : Scalar) → converts a a ≡ true
converts_self (of.Int kind) = refl
converts_self of.Pointer = refl

module _ (u : UnitView) (k : Known) (ground : IsGround u k) where
  -- ---- sizes

  size_made : (at : Place) (t : Ty) (size : ℕ) (operand : Option TermTree) (is_pointer : Bool) → size_of k t ≡ Some size → IsMadeOperand u (size_operand k at size operand is_pointer)
  size_made at t size (Some e) is_pointer is =
      let to : Ty = Int (kind_of k.numbers (size_rank k.numbers) false) in
      term_made u at to 0 (Some (pos size)) (tree.Sizeof size e is_pointer) refl refl (size_has u k ground t size is) (size_there u k ground false)
      (λ n same. size_number u k ground at (Some (pos size)) n t size (Some e) is_pointer is same)
      (λ scalar is_test. no_tests u k ground at to 0 (Some (pos size)) is_test (tree.Sizeof size e is_pointer) refl)
  size_made at t size None is_pointer is =
      let to : Ty = Int (kind_of k.numbers (size_rank k.numbers) false) in
      term_made u at to 0 (Some (pos size)) (tree.SizeofType size is_pointer) refl refl (size_has u k ground t size is) (size_there u k ground false)
      (λ n same. size_number u k ground at (Some (pos size)) n t size None is_pointer is same)
      (λ scalar is_test. no_tests u k ground at to 0 (Some (pos size)) is_test (tree.SizeofType size is_pointer) refl)

  sized_made : (at : Place) (t : Ty) (operand : Option TermTree) (is_pointer : Bool) → Makes u (size_by k at operand is_pointer (size_of k t))
  sized_made at t operand is_pointer = by (size_of k t) refl
    where
      by : (o : Option ℕ) → size_of k t ≡ o → Makes u (size_by k at operand is_pointer o)
      by None is = tt
      by (Some size) is = size_made at t size operand is_pointer is

  pub operand_size_made : (at : Place) (x : OperandView) → Makes u (size_of_operand k at x)
  operand_size_made at x = sized_made at (term_type (sized_term x.form)) (Some (sized_term x.form)) (is_named_pointer x.form)

  pub type_size_made : (at : Place) (t : Ty) → Makes u (size_of_type k at t)
  type_size_made at t = sized_made at t None false

  -- ---- casts

  module _ (at : Place) (v : ValueView) (x : IsMade u v.term) where
    abbrev constant : Ty → Option ℤ
    constant to = cond (cast_fixed to v.fixed) (cast_value to (term_constant v.term)) None

    cast_constant : (to : Ty) (n : ℤ) → IsTypeOf u.model to → constant to ≡ Some n → IsExactly u (Typed at to 0 (constant to) (tree.Convert kind.Cast (noted k to v.term))) n
    cast_constant (Int kind) n known is = cast_number u k ground at (constant (Int kind)) n kind v.term known x (if_fixed v.fixed (cast_value (Int kind) (term_constant v.term)) n is).1
    cast_constant (Pointer t) n known is = no_some n is
    cast_constant (Array t count) n known is = no_some n is
    cast_constant (Struct i) n known is = no_some n is
    cast_constant Void n known is = no_some n is

    converted_made : (to : Ty) → IsTypeOf u.model to → is_scalar (term_type v.term) ≡ true → IsConverted u v.term to → IsMadeOperand u (scalar_cast k at to v)
    converted_made to known scalar how = record {
      well_typed = converted_well_typed u k kind.Cast at v.term to (not (is_void to)) (scalar_well_typed u v.term x scalar) (scalar_there u to ground.proper known) how;
      typed = known;
      bare = refl;
      constant = λ n is. cast_constant to n known is;
      null = λ h. cast_null u k at to 0 (constant to) v.term x h;
      tests = λ s is_test. no_tests u k ground at to 0 (constant to) is_test (tree.Convert kind.Cast (noted k to v.term)) refl;
    }

    value_cast_made : (to : Ty) → IsTypeOf u.model to → Makes u (value_cast k at to v)
    value_cast_made to known = by (types.cast (term_type v.term) (is_null v.term) to) (cast_as (term_type v.term) (is_null v.term) to)
      where
        by : (c : Conversion) → ConvertsAs (term_type v.term) (is_null v.term) to c → Makes u (cast_by k at to v c)
        by conversion.Same h = converted_made to known h.0 (inl (subst (λ t. converts (scalar_of t) (scalar_of (term_type v.term)) ≡ true) h.1 (converts_self (scalar_of (term_type v.term)))))
        by conversion.Converted h = converted_made to known h.scalar (converting u k v.term to x h)
        by conversion.Crossing h = tt
        by conversion.Nothing h = tt

    discard_made : IsMadeOperand u (discarded at v.term)
    discard_made = node_made u at Void 0 (tree.Discard (unused v.term)) refl refl (and_from (is_well_typed_term u false (unused v.term)) true (unused_well_typed u (not (is_void (term_type v.term))) v.term x.well_typed) refl) tt (λ scalar is_test. never scalar)

    cast_of_made : (to : Ty) → IsTypeOf u.model to → Makes u (cast_of k at to v)
    cast_of_made to known = makes_if u (is_void to) _ _ (λ h. discard_made) (λ h. value_cast_made to known)

  pub cast_made : (at : Place) (t : Ty) (x : OperandView) → IsTypeOf u.model t → IsMadeOperand u x → Makes u (cast k at t x)
  cast_made at t x known made = cast_of_made at (value_of x) (value_made u k ground x made) t known
