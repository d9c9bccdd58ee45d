-- Types that compare equal are equal, and a term that is assigned to a type has it.
use Rattle.std.proofs.Common.{◌≡◌, Bool, true, false, Ok, Err, refl, ap}
use Rattle.std.specs.Prelude.{cond}
use Rattle.cc_base.specs.declared.diagnostics.Place.{Place}
use Rattle.cc_base.specs.declared.int_types.IntType.{IntType}
use Rattle.c_layout.specs.Types.{Ty, Int, Pointer, Array, Struct, Void, same_kind, same_type}
use Rattle.c_layout.specs.CheckedTrees.{TermTree}
use Rattle.c_types_rules.proofs.SameTypes.{kind_is, type_is}
use Rattle.c_types_rules.specs.Rules.TypeConversions as types
use Rattle.c_types_rules.specs.Rules.TypeConversions.{is_void}
use Rattle.c_types_rules.specs.declared.rules.type_conversions.Conversion.{Conversion}
use Rattle.c_types_rules.specs.declared.rules.type_conversions.Conversion.TheVariants as conversion
use Rattle.c_types_scopes.specs.Known.{Known}
use Rattle.c_types_scopes.specs.Refusals.{Ruled}
use Rattle.c_types_operands.specs.Operands.{term_type, is_scalar, is_null}
use Rattle.c_types_operands.specs.Conversions.{assigned_by, assigned}

-- what is assigned is a scalar of the type
abbrev pub IsOfType : Ty → Ruled TermTree → Type 0
IsOfType to (Ok e) = (is_scalar to ≡ true) × (term_type e ≡ to)
IsOfType to (Err f) = Unit {0}

by_conversion : (k : Known) (at : Place) (e : TermTree) (to : Ty) (c : Conversion) → is_scalar to ≡ true → (c ≡ conversion.Same → term_type e ≡ to) → IsOfType to (assigned_by k at e to c)
by_conversion k at e to conversion.Same scalar same = (scalar, same refl)
by_conversion k at e to conversion.Converted scalar same = (scalar, refl)
by_conversion k at e to conversion.Crossing scalar same = tt
by_conversion k at e to conversion.Nothing scalar same = tt

kinds_same : (a b : IntType) (c : Bool) → same_kind a b ≡ c → cond c conversion.Same conversion.Converted ≡ conversion.Same → Int a ≡ Int b
kinds_same a b true is h = ap Int (kind_is a b is)
kinds_same a b false is h = absurd (cc)

pointers_same : (t u : Ty) (b c d : Bool) → same_type t u ≡ b → cond b conversion.Same (cond c conversion.Converted (cond d conversion.Converted conversion.Nothing)) ≡ conversion.Same → Pointer t ≡ Pointer u
pointers_same t u true c d is h = ap Pointer (type_is t u is)
pointers_same t u false true d is h = absurd (cc)
pointers_same t u false false true is h = absurd (cc)
pointers_same t u false false false is h = absurd (cc)

null_apart : (b : Bool) (t : Ty) (k : IntType) → cond b conversion.Converted conversion.Crossing ≡ conversion.Same → Int k ≡ Pointer t
null_apart true t k h = absurd (cc)
null_apart false t k h = absurd (cc)

same_of : (from : Ty) (null : Bool) (to : Ty) → types.assigned from null to ≡ conversion.Same → from ≡ to
same_of (Int a) null (Int b) h = kinds_same a b (same_kind a b) refl h
same_of (Int a) null (Pointer t) h = null_apart null t a h
same_of (Pointer t) null (Pointer u) h = pointers_same t u (same_type t u) (is_void t) (is_void u) refl h
same_of (Pointer t) null (Int b) h = absurd (cc)
same_of (Int a) null (Array t n) h = absurd (cc)
same_of (Int a) null (Struct i) h = absurd (cc)
same_of (Int a) null Void h = absurd (cc)
same_of (Pointer t) null (Array u n) h = absurd (cc)
same_of (Pointer t) null (Struct i) h = absurd (cc)
same_of (Pointer t) null Void h = absurd (cc)
same_of (Array t n) null to h = absurd (cc)
same_of (Struct i) null to h = absurd (cc)
same_of Void null to h = absurd (cc)

nothing_by : (k : Known) (at : Place) (e : TermTree) (to : Ty) (c : Conversion) → c ≡ conversion.Nothing → IsOfType to (assigned_by k at e to c)
nothing_by k at e to conversion.Same h = absurd (cc)
nothing_by k at e to conversion.Converted h = absurd (cc)
nothing_by k at e to conversion.Crossing h = tt
nothing_by k at e to conversion.Nothing h = tt

-- to no other types
unassigned : (from : Ty) (null : Bool) (to : Ty) → is_scalar to ≡ false → types.assigned from null to ≡ conversion.Nothing
unassigned from null (Int k) h = absurd (cc)
unassigned from null (Pointer t) h = absurd (cc)
unassigned (Int a) null (Array t n) h = refl
unassigned (Int a) null (Struct i) h = refl
unassigned (Int a) null Void h = refl
unassigned (Pointer a) null (Array t n) h = refl
unassigned (Pointer a) null (Struct i) h = refl
unassigned (Pointer a) null Void h = refl
unassigned (Array a m) null (Array t n) h = refl
unassigned (Array a m) null (Struct i) h = refl
unassigned (Array a m) null Void h = refl
unassigned (Struct a) null (Array t n) h = refl
unassigned (Struct a) null (Struct i) h = refl
unassigned (Struct a) null Void h = refl
unassigned Void null (Array t n) h = refl
unassigned Void null (Struct i) h = refl
unassigned Void null Void h = refl

pub assigned_typed : (k : Known) (at : Place) (e : TermTree) (to : Ty) → IsOfType to (assigned k at e to)
assigned_typed k at e to = by_scalar (is_scalar to) refl
  where
    by_scalar : (b : Bool) → is_scalar to ≡ b → IsOfType to (assigned k at e to)
    by_scalar true scalar = by_conversion k at e to (types.assigned (term_type e) (is_null e) to) scalar (λ same. same_of (term_type e) (is_null e) to same)
    by_scalar false other = nothing_by k at e to (types.assigned (term_type e) (is_null e) to) (unassigned (term_type e) (is_null e) to other)
