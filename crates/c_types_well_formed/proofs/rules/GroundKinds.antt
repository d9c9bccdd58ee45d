-- The integer types that rules of typing take of a data model are those of the unit's model.
use Rattle.std.proofs.Common.{◌≡◌, ℕ, ◌≤◌, pos, negsuc, Bool, true, false, ◌&&◌, Some, refl, sym, subst, ap}
use Rattle.cc_base.specs.IntegerTypes.{in_type}
use Rattle.cc_base.specs.declared.int_types.IntType.{IntType}
use Rattle.c_layout.specs.Layout.{most_bytes}
use Rattle.c_layout.specs.CheckedTrees.{TermTree}
use Rattle.c_layout.specs.CheckedUnits.{UnitView}
use Rattle.c_layout.specs.Types.{Ty, Int, Pointer}
use Rattle.c_types_rules.specs.Rules.IntegerKinds.{kind_of, promoted, common, size_rank}
use Rattle.c_types_rules.specs.Rules.TypeSizes.{sized}
use Rattle.c_types_rules.specs.declared.rules.integer_kinds.Rank.TheVariants as rank
use Rattle.c_types_scopes.specs.Known.{Known, size_of}
use Rattle.c_types_operands.specs.Operands.{term_type, is_scalar}
use Rattle.c_types_operands.specs.Arithmetic.{int_kind, integer_kinds}
use Rattle.c_types_operands.specs.declared.arithmetic.KindPair.{KindPair}
use Rattle.memory_model.specs.Effects.LibraryChecks.{most_size}
use Rattle.source_preservation.specs.Checks.LookedTypes.{is_kind, has_truths, is_address, is_integer, subtracts}
use Rattle.source_preservation.proofs.checks.Truths.{no_some, some_is}
use Rattle.c_types_well_formed.specs.WellFormed.ModelTypes.{IsKindOf, IsTypeOf, IsGround}
use Rattle.c_types_well_formed.specs.WellFormed.MadeTerms.{IsMade}
use Rattle.c_types_well_formed.proofs.constant_folding.SizeNumbers.{size_fits, sized_small}
use Rattle.c_types_well_formed.proofs.decided_tests.ModelKinds as kinds
use Rattle.c_types_well_formed.proofs.rules.ModelKinds.{model_numbers, kind_known, promoted_known, difference_fits}

-- the integer types of two types
pub kinds_are : (s t : Ty) (p : KindPair) → integer_kinds s t ≡ Some p → (s ≡ Int p.left) × (t ≡ Int p.right)
kinds_are (Int a) (Int b) p h = let e = some_is _ p h in (ap (λ (q : KindPair). Int q.left) e, ap (λ (q : KindPair). Int q.right) e)
kinds_are s t p h = no_some p h

pub number_scalar : (e : TermTree) (kind : IntType) → term_type e ≡ Int kind → is_scalar (term_type e) ≡ true
number_scalar e kind typed = subst (λ t. is_scalar t ≡ true) (sym typed) refl

pub pointer_scalar : (e : TermTree) (t : Ty) → term_type e ≡ Pointer t → is_scalar (term_type e) ≡ true
pointer_scalar e t typed = subst (λ s. is_scalar s ≡ true) (sym typed) refl

pub pointer_address : (e : TermTree) (t : Ty) → term_type e ≡ Pointer t → is_address (term_type e) ≡ true
pointer_address e t typed = subst (λ s. is_address s ≡ true) (sym typed) refl

pub number_integer : (e : TermTree) (kind : IntType) → term_type e ≡ Int kind → is_integer (term_type e) ≡ true
number_integer e kind typed = subst (λ t. is_integer t ≡ true) (sym typed) refl

module _ (u : UnitView) (k : Known) (ground : IsGround u k) where
  pub number_known : (e : TermTree) (kind : IntType) → IsMade u e → term_type e ≡ Int kind → IsKindOf u.model kind
  number_known e kind made typed = subst (λ t. IsTypeOf u.model t) typed made.typed

  pub target_known : (e : TermTree) (t : Ty) → IsMade u e → term_type e ≡ Pointer t → IsTypeOf u.model t
  target_known e t made typed = subst (λ s. IsTypeOf u.model s) typed made.typed

  pub kind_there : (kind : IntType) → IsKindOf u.model kind → is_kind u.model kind ≡ true
  kind_there kind known = kinds.kind_there u.model ground.proper kind known

  pub promoted_there : (kind : IntType) → IsKindOf u.model kind → IsKindOf u.model (promoted k.numbers kind)
  promoted_there kind known = subst (λ m. IsKindOf u.model (promoted m kind)) ground.same (promoted_known u.model kind known)

  pub common_there : (a b : IntType) → IsKindOf u.model a → IsKindOf u.model b → IsKindOf u.model (common k.numbers a b)
  common_there a b p q = subst (λ m. IsKindOf u.model (common m a b)) ground.same (kinds.common_kind u.model ground.proper a b p q)

  pub int_there : IsKindOf u.model (int_kind k)
  int_there = subst (λ m. IsKindOf u.model (kind_of m rank.Int true)) ground.same (kind_known u.model rank.Int true)

  pub int_truths : has_truths (int_kind k) ≡ true
  int_truths = kinds.kind_truths u.model ground.proper (int_kind k) int_there

  pub size_there : (signed : Bool) → IsKindOf u.model (kind_of k.numbers (size_rank k.numbers) signed)
  size_there signed = subst (λ m. IsKindOf u.model (kind_of m (size_rank m) signed)) ground.same (kind_known u.model (size_rank u.model) signed)

  pub difference_there : subtracts u (Int (kind_of k.numbers (size_rank k.numbers) true)) ≡ true
  difference_there = subst (λ m. (in_type (kind_of m (size_rank m) true) (pos (most_size u.model)) && in_type (kind_of m (size_rank m) true) (negsuc (most_size u.model))) ≡ true) ground.same (difference_fits u.model (model_numbers u.model ground.proper))

  -- a size is one of the type of sizes
  pub size_has : (t : Ty) (size : ℕ) → size_of k t ≡ Some size → in_type (kind_of k.numbers (size_rank k.numbers) false) (pos size) ≡ true
  size_has t size h =
      let small : size ≤ most_bytes = sized_small u.model ground.proper k.structs t size (subst (λ m. sized k.structs m.pointer t ≡ Some size) (sym ground.same) h) in
      subst (λ m. in_type (kind_of m (size_rank m) false) (pos size) ≡ true) ground.same (size_fits u.model ground.proper size small)
