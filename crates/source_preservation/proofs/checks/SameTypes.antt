-- What looks at types say.
use Rattle.std.proofs.Common.{◌≡◌, ◌==◌, ℤ, pos, negsuc, Bool, true, ◌&&◌, refl, ap, ◌∙◌}
use Rattle.std.proofs.lemmas.Bool.{eqb-true}
use Rattle.cc_base.specs.IntegerTypes.{is_size, least_of, greatest_of, in_type}
use Rattle.cc_base.specs.declared.int_types.IntType.{IntType}
use Rattle.cc_base.specs.declared.integer_operators.IntOp.{IntOp}
use Rattle.cc_base.specs.declared.integer_operators.IntOp.TheVariants.{Shl, Shr}
use Rattle.c_layout.specs.Leaves.{class_of}
use Rattle.c_layout.specs.Types.{Ty, Int, same_kind, same_type}
use Rattle.c_layout.specs.CheckedUnits.{UnitView}
use Rattle.c_types_rules.proofs.SameTypes.{kind_is, type_is}
use Rattle.c_layout.specs.declared.data_model.Model.{Model}
use Rattle.lower_templates.specs.Worklist.TermKinds.{scalar_of}
use Rattle.lower_templates.specs.declared.worklist.term_kinds.OperatorMeaning.{OperatorMeaning}
use Rattle.lower_templates.specs.declared.worklist.term_kinds.OperatorMeaning.TheVariants as meant
use Rattle.cfg.specs.declared.machine_instructions.Scalar.{Scalar}
use Rattle.cfg.specs.declared.machine_instructions.Scalar.TheVariants as of
use Rattle.memory_model.specs.Memory.ScalarSizes.{class_bytes}
use Rattle.memory_model.specs.Effects.LibraryChecks.{most_size}
use Rattle.source_preservation.specs.ValueTyping.Marks.{Pointing, mark_of, mark_of_type}
use Rattle.source_preservation.specs.ValueTyping.MarkOperations.{IsKind, IsScalar, IsWider, HasTruths, CountsAs, ConvertsTo}
use Rattle.source_preservation.specs.WellTyped.WellTypedTerms.{IsScalarType, IsInteger, IsTruth, Combines, AddsTo, Subtracts, StepsIn, Compounds}
use Rattle.source_preservation.specs.Checks.LookedTypes.{is_kind, is_wider, has_truths, counts_as, is_scalar, is_pointer, same_scalar, is_scalar_type, is_address, same_mark, is_such, is_integer, has_number, is_truth, subtracts, combines, adds_to, steps_in, compounds, converts}
use Rattle.source_preservation.proofs.checks.Truths.{never, both_true, both, three, one_of}

-- ---- the same types

pub scalar_is : (a b : Scalar) → same_scalar a b ≡ true → a ≡ b
scalar_is (of.Int a) (of.Int b) h = ap of.Int (kind_is a b h)
scalar_is (of.Int a) of.Pointer h = never h
scalar_is of.Pointer (of.Int b) h = never h
scalar_is of.Pointer of.Pointer h = refl

pub mark_is : (t s : Ty) → same_mark t s ≡ true → mark_of_type t ≡ mark_of_type s
mark_is t s h = ap mark_of (scalar_is (scalar_of t) (scalar_of s) h)

pub pointer_is : (a : Scalar) → is_pointer a ≡ true → a ≡ of.Pointer
pointer_is (of.Int kind) h = never h
pointer_is of.Pointer h = refl

pub address_is : (t : Ty) → is_address t ≡ true → mark_of_type t ≡ Pointing
address_is t h = ap mark_of (pointer_is (scalar_of t) h)

-- ---- integer types

pub kind_there : (m : Model) (kind : IntType) → is_kind m kind ≡ true → IsKind m kind
kind_there m kind h = let x = both_true (is_size kind.bytes) (class_bytes m (class_of kind) == kind.bytes) h in record { size = x.0; bytes = eqb-true (class_bytes m (class_of kind)) kind.bytes x.1 }

pub wider : (narrow wide : IntType) → is_wider narrow wide ≡ true → IsWider narrow wide
wider narrow wide h = let x = both_true (in_type wide (least_of narrow)) (in_type wide (greatest_of narrow)) h in record { least = x.0; greatest = x.1 }

truths : (kind : IntType) → has_truths kind ≡ true → HasTruths kind
truths kind h = let x = both_true (in_type kind (pos 0)) (in_type kind (pos 1)) h in record { zero = x.0; one = x.1 }

counted : (sign : IntOp) (kind count : IntType) → counts_as sign kind count ≡ true → CountsAs sign kind count
counted Shl kind count h = tt
counted Shr kind count h = tt
counted other kind count h = kind_is count kind h

pub scalar_there : (m : Model) (a : Scalar) → is_scalar m a ≡ true → IsScalar m a
scalar_there m (of.Int kind) h = kind_there m kind h
scalar_there m of.Pointer h = tt

pub scalar_type : (u : UnitView) (t : Ty) → is_scalar_type u t ≡ true → IsScalarType u t
scalar_type u t h = scalar_there u.model (scalar_of t) h

-- ---- types of integers

pub such : (look : IntType → Bool) (t : Ty) → is_such look t ≡ true → (kind : IntType) × (t ≡ Int kind) × (look kind ≡ true)
such look (Int kind) h = (kind, refl, h)
such look other h = never h

pub integer : (t : Ty) → is_integer t ≡ true → (kind : IntType) × (t ≡ Int kind)
integer t h = let x = such (λ kind. true) t h in (x.0, x.1)

pub number : (n : ℤ) (t : Ty) → has_number n t ≡ true → (kind : IntType) × (t ≡ Int kind) × (in_type kind n ≡ true)
number n t h = such (λ kind. in_type kind n) t h

pub integer_there : (u : UnitView) (t : Ty) → is_such (λ kind. is_kind u.model kind) t ≡ true → (kind : IntType) × IsInteger u t kind
integer_there u t h = let x = such (λ kind. is_kind u.model kind) t h in (x.0, (x.1, kind_there u.model x.0 x.2))

pub truth : (t : Ty) → is_truth t ≡ true → IsTruth t
truth t h = let x = such has_truths t h in (x.0, x.1, truths x.0 x.2)

pub subtracted : (u : UnitView) (t : Ty) → subtracts u t ≡ true → Subtracts u t
subtracted u t h =
    let x = such (λ kind. in_type kind (pos (most_size u.model)) && in_type kind (negsuc (most_size u.model))) t h in
    let y = both_true (in_type x.0 (pos (most_size u.model))) (in_type x.0 (negsuc (most_size u.model))) x.2 in
    (x.0, x.1, y.0, y.1)

-- ---- operators

pub combined : (u : UnitView) (how : OperatorMeaning) (a b t : Ty) → combines u how a b t ≡ true → Combines u how a b t
combined u (meant.Number sign) a b t h =
    let x = such (λ kind. is_kind u.model kind && (is_such (λ left. same_kind left kind) a && is_such (λ count. counts_as sign kind count) b)) t h in
    let y = both_true (is_kind u.model x.0) (is_such (λ left. same_kind left x.0) a && is_such (λ count. counts_as sign x.0 count) b) x.2 in
    let z = both_true (is_such (λ left. same_kind left x.0) a) (is_such (λ count. counts_as sign x.0 count) b) y.1 in
    let left = such (λ left. same_kind left x.0) a z.0 in
    let right = such (λ count. counts_as sign x.0 count) b z.1 in
    (x.0, right.0, (x.1, kind_there u.model x.0 y.0), left.1 ∙ ap Int (kind_is left.0 x.0 left.2), right.1, counted sign x.0 right.0 right.2)
combined u (meant.Truth rel) a b t h =
    let x = three (is_integer a) (is_integer b) (is_truth t) (integer a) (integer b) (truth t) h in
    (x.0.0, x.1.0, x.0.1, x.1.1, x.2)

pub added : (a b : Ty) → adds_to a b ≡ true → AddsTo a b
added a b h = one_of (is_address a && is_integer b) (is_integer a && is_address b) (both (is_address a) (is_integer b) (address_is a) (integer b)) (both (is_integer a) (is_address b) (integer a) (address_is b)) h

pub stepped : (u : UnitView) (kind : IntType) (l t : Ty) → steps_in u kind l t ≡ true → StepsIn u kind l t
stepped u kind l t h =
    let x = three (is_such (λ old. is_kind u.model old) l) (is_kind u.model kind) (same_type t l) (integer_there u l) (kind_there u.model kind) (type_is t l) h in
    record { old = x.0.0; lvalue = x.0.1; is_kind = x.1; is = x.2 }

pub compounded : (u : UnitView) (sign : IntOp) (kind : IntType) (l a t : Ty) → compounds u sign kind l a t ≡ true → Compounds u sign kind l a t
compounded u sign kind l a t h =
    let x = both (is_such (λ count. counts_as sign kind count) a) (steps_in u kind l t) (such (λ count. counts_as sign kind count) a) (stepped u kind l t) h in
    record { old = x.1.old; count = x.0.0; lvalue = x.1.lvalue; is_kind = x.1.is_kind; right = x.0.1; counts = counted sign kind x.0.0 x.0.2; is = x.1.is }

pub converted : (m : Model) (t s : Scalar) → converts t s ≡ true → ConvertsTo m t (mark_of s) (mark_of t)
converted m (of.Int new) (of.Int old) h = refl
converted m (of.Int new) of.Pointer h = never h
converted m of.Pointer (of.Int old) h = never h
converted m of.Pointer of.Pointer h = refl
