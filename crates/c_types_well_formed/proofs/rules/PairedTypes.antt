-- Two types that come to one type of pointers, and terms that do.
use Rattle.std.proofs.Common.{◌≡◌, ◌⊎◌, inl, inr, Bool, true, false, ◌||◌, cond, refl, sym, subst, ◌∙◌}
use Rattle.std.proofs.lemmas.Bool.{or_left, or_right}
use Rattle.cc_base.specs.declared.int_types.IntType.{IntType}
use Rattle.c_layout.specs.CheckedTrees.{TermTree}
use Rattle.c_layout.specs.CheckedUnits.{UnitView}
use Rattle.c_layout.specs.Types.{Ty, Int, Pointer, same_type}
use Rattle.c_types_rules.specs.Rules.TypeConversions.{is_void, paired_types}
use Rattle.c_types_rules.specs.declared.rules.type_conversions.Pairing.{Pairing}
use Rattle.c_types_rules.specs.declared.rules.type_conversions.Pairing.TheVariants as pair
use Rattle.c_types_scopes.specs.Known.{Known}
use Rattle.c_types_operands.specs.Operands.{term_type, is_scalar, is_null}
use Rattle.c_types_operands.specs.Conversions.{in_type}
use Rattle.source_preservation.specs.Checks.LookedTypes.{is_address}
use Rattle.c_types_well_formed.specs.WellFormed.ModelTypes.{IsTypeOf, IsGround}
use Rattle.c_types_well_formed.specs.WellFormed.MadeTerms.{IsMade, IsGiven}
use Rattle.c_types_well_formed.proofs.rules.GroundKinds.{number_scalar, pointer_scalar, pointer_address}
use Rattle.c_types_well_formed.proofs.rules.MadeConversions.{IsConverted, type_given, pointer_converted, zero_converted}

abbrev pub IsPointer : Ty → Type 0
IsPointer t = (target : Ty) × (t ≡ Pointer target)

-- a pointer, or a null pointer constant of an integer type
abbrev pub ComesToPointer : Ty → Bool → Type 0
ComesToPointer t null = IsPointer t ⊎ ((kind : IntType) × (t ≡ Int kind) × (null ≡ true))

abbrev pub PairedAs : Ty → Bool → Ty → Bool → Pairing → Type 0
PairedAs s left_null t right_null pair.AsLeft = IsPointer s × ComesToPointer t right_null
PairedAs s left_null t right_null pair.AsRight = ComesToPointer s left_null × IsPointer t
PairedAs s left_null t right_null pair.Integers = Unit {0}
PairedAs s left_null t right_null pair.Crosses = Unit {0}
PairedAs s left_null t right_null pair.Apart = Unit {0}

number_left : (a : IntType) (null other : Bool) (t : Ty) → PairedAs (Int a) null (Pointer t) other (cond null pair.AsRight pair.Crosses)
number_left a true other t = (inr (a, refl, refl), (t, refl))
number_left a false other t = tt

number_right : (t : Ty) (other null : Bool) (b : IntType) → PairedAs (Pointer t) other (Int b) null (cond null pair.AsLeft pair.Crosses)
number_right t other true b = ((t, refl), inr (b, refl, refl))
number_right t other false b = tt

both_pointers : (s t : Ty) (left_null right_null same left_void right_void : Bool) → PairedAs (Pointer s) left_null (Pointer t) right_null (cond same pair.AsLeft (cond left_null pair.AsRight (cond right_null pair.AsLeft (cond left_void pair.AsLeft (cond right_void pair.AsRight pair.Apart)))))
both_pointers s t m n true v w = ((s, refl), inl (t, refl))
both_pointers s t true n false v w = (inl (s, refl), (t, refl))
both_pointers s t false true false v w = ((s, refl), inl (t, refl))
both_pointers s t false false false true w = ((s, refl), inl (t, refl))
both_pointers s t false false false false true = (inl (s, refl), (t, refl))
both_pointers s t false false false false false = tt

pub paired_as : (s : Ty) (left_null : Bool) (t : Ty) (right_null : Bool) → PairedAs s left_null t right_null (paired_types s left_null t right_null)
paired_as (Int a) m (Int b) n = tt
paired_as (Int a) m (Pointer t) n = number_left a m n t
paired_as (Pointer s) m (Int b) n = number_right s m n b
paired_as (Pointer s) m (Pointer t) n = both_pointers s t m n (same_type s t) (is_void s) (is_void t)
paired_as s m t n = tt

-- ---- terms

pub comes_scalar : (e : TermTree) → ComesToPointer (term_type e) (is_null e) → is_scalar (term_type e) ≡ true
comes_scalar e (inl p) = pointer_scalar e p.0 p.1
comes_scalar e (inr z) = number_scalar e z.0 z.1

pub comes_null : (e : TermTree) → ComesToPointer (term_type e) (is_null e) → (is_address (term_type e) || is_null e) ≡ true
comes_null e (inl p) = or_left (is_address (term_type e)) (is_null e) (pointer_address e p.0 p.1)
comes_null e (inr z) = or_right (is_address (term_type e)) (is_null e) z.2

module _ (u : UnitView) (k : Known) (ground : IsGround u k) where
  comes_converted : (e : TermTree) (target : Ty) → IsMade u e → ComesToPointer (term_type e) (is_null e) → IsConverted u e (Pointer target)
  comes_converted e target made (inl p) = pointer_converted u k ground.proper e p.0 target p.1
  comes_converted e target made (inr z) = zero_converted u k ground.proper e z.0 target made z.1 z.2

  pub pointer_given : (e : TermTree) (to target : Ty) → to ≡ Pointer target → IsMade u e → ComesToPointer (term_type e) (is_null e) → IsTypeOf u.model to → IsGiven u (in_type k e to) to
  pointer_given e to target is made comes known = type_given u k ground.proper e to made (comes_scalar e comes) known (subst (λ t. IsConverted u e t) (sym is) (comes_converted e target made comes))

  pub given_address : (e : TermTree) (to target : Ty) → to ≡ Pointer target → IsGiven u e to → is_address (term_type e) ≡ true
  given_address e to target is given = pointer_address e target (given.same ∙ is)
