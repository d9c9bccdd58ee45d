-- The value of a named object, converted or not, selects the case of the object's value.
use Rattle.std.specs.Prelude.{◌≡◌, ℕ, ℤ, true, Option, Some}
use Rattle.std.specs.Ordering.{int_eq}
use Rattle.std.proofs.Common.{arith, refl, subst, sym, ap, ◌∙◌}
use Rattle.std.proofs.lemmas.Int.{ints}
use Rattle.cc_base.specs.declared.int_types.IntType.{IntType}
use Rattle.c_layout.specs.CheckedUnits.{UnitView}
use Rattle.c_layout.specs.declared.data_model.Model.{Model}
use Rattle.lower_conditions.specs.declared.branch_tests.NamedObject.{NamedObject}
use Rattle.cfg.specs.declared.machine_instructions.Scalar.TheVariants as of
use Rattle.memory_model.specs.Memory.Labels.{Labels}
use Rattle.memory_model.specs.Memory.Instances.{Memory}
use Rattle.memory_model.specs.Memory.Scalars.{Scalar, integer, pointer}
use Rattle.memory_model.specs.Effects.Tests.{object, side_scalar, is_number}
use Rattle.semantics.specs.SourceMachine.SourceStates.{instance_of}
use Rattle.source_preservation.specs.ValueTyping.Marks.{Mark, Loaded, Converted, IsNumber, Has}
use Rattle.source_preservation.specs.ValueTyping.ProperMemory.{IsProperMemory}
use Rattle.source_preservation.specs.WellTyped.WellTypedStatements.{Matches}
use Rattle.source_preservation.proofs.ranges.ObjectValues.{integer_object}
use Rattle.source_preservation.proofs.ranges.Agreements.{converted_is}

-- the value is a number, and that of an integer object that is named
pub record IsMatched (m : Model) (names : ℕ → Option ℕ) (memory : Memory) (o : NamedObject) (v : Scalar) : Type 0 where
  pub number : ℤ
  pub labels : Labels
  pub is : v ≡ integer number labels
  pub kind : IntType
  pub is_kind : o.kind ≡ of.Int kind
  pub instance : ℕ
  pub named : instance_of names o.object ≡ Some instance
  pub same : is_number number (side_scalar m memory (object instance (of.Int kind))) ≡ true

equal_self : (n : ℤ) → int_eq n n ≡ true
equal_self n = grind (arith, ints)

module _ (m : Model) (names : ℕ → Option ℕ) (memory : Memory) (o : NamedObject) (kind : IntType) (is : o.kind ≡ of.Int kind) where
  number_matched : (n : ℤ) (labels : Labels) → IsNumber m names memory o n → IsMatched m names memory o (integer n labels)
  number_matched n labels value = record {
    number = n;
    labels = labels;
    is = refl;
    kind = kind;
    is_kind = is;
    instance = value.instance;
    named = value.named;
    same = ap (λ k. is_number n (side_scalar m memory (object value.instance k))) (sym is) ∙ (ap (is_number n) value.is ∙ equal_self n);
  }

  loaded_matched : (v : Scalar) → Has m names memory (Loaded o) v → IsMatched m names memory o v
  loaded_matched (integer n labels) has = number_matched n labels has
  loaded_matched (pointer p) has = absurd (integer_object m names memory o kind p is has)

pub matched : (u : UnitView) (names : ℕ → Option ℕ) (memory : Memory) (o : NamedObject) (mark : Mark) (v : Scalar) → IsProperMemory u.model memory → Matches u o mark → Has u.model names memory mark v → IsMatched u.model names memory o v
matched u names memory o (Loaded p) v proper d has = loaded_matched u.model names memory o d.1.0 d.1.1 v (subst (λ p. Has u.model names memory (Loaded p) v) d.0 has)
matched u names memory o (Converted p wide) (integer n labels) proper d has = number_matched u.model names memory o d.1.0 d.1.1 n labels (converted_is u.model names memory o d.1.0 wide n proper d.1.2 d.1.3 d.1.4 d.1.1 (subst (λ p. Has u.model names memory (Converted p wide) (integer n labels)) d.0 has))
matched u names memory o (Converted p wide) (pointer q) proper d has = absurd has
matched u names memory o mark v proper d has = absurd d
