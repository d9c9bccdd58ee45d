-- A value that decides a test agrees with it.
use Rattle.std.specs.Prelude.{◌≡◌, ℕ, Option}
use Rattle.std.proofs.Common.{refl, subst, sym}
use Rattle.c_layout.specs.CheckedUnits.{UnitView}
use Rattle.lower_conditions.specs.declared.branch_tests.NamedObject.{NamedObject}
use Rattle.cfg.specs.declared.machine_instructions.Scalar as declared
use Rattle.cfg.specs.declared.machine_instructions.Scalar.TheVariants as of
use Rattle.memory_model.specs.Memory.Instances.{Memory}
use Rattle.memory_model.specs.Memory.Scalars.{Scalar}
use Rattle.semantics.specs.SourceMachine.Items.{NamedTest}
use Rattle.source_preservation.specs.ValueTyping.Marks.{Mark, Loaded, Converted, Tested, Has, Agrees}
use Rattle.source_preservation.specs.ValueTyping.ProperMemory.{IsProperMemory}
use Rattle.source_preservation.specs.WellTyped.WellTypedTerms.{DecidesAlone, Decides}
use Rattle.source_preservation.proofs.ranges.Agreements.{loaded_agrees, converted_agrees, pointer_agrees}

module _ (u : UnitView) (names : ℕ → Option ℕ) (memory : Memory) (test : NamedTest) (v : Scalar) (proper : IsProperMemory u.model memory) where
  loaded_decides : (o : NamedObject) (kind : declared.Scalar) → o.kind ≡ kind → DecidesAlone u o kind test → Has u.model names memory (Loaded o) v → Agrees u.model names memory test v
  loaded_decides o (of.Int kind) is d has = subst (λ test. Agrees u.model names memory test v) (sym d.4) (loaded_agrees u.model names memory o kind d.0 v proper d.1 d.2 d.3 is has)
  loaded_decides o of.Pointer is d has = subst (λ test. Agrees u.model names memory test v) (sym d) (pointer_agrees u.model names memory o v is has)

  by_mark : (mark : Mark) → Decides u mark test → Has u.model names memory mark v → Agrees u.model names memory test v
  by_mark (Tested t) d has = subst (λ test. Agrees u.model names memory test v) (sym d) has
  by_mark (Loaded o) d has = loaded_decides o o.kind refl d has
  by_mark (Converted o wide) d has = subst (λ test. Agrees u.model names memory test v) (sym d.4.4) (converted_agrees u.model names memory o d.0 wide d.4.0 v proper d.4.1 d.2 d.3 d.4.2 d.4.3 d.1 has)
  by_mark mark d has = absurd d

-- so the run goes on where it goes by the value
pub decided : (u : UnitView) (names : ℕ → Option ℕ) (memory : Memory) (mark : Mark) (test : NamedTest) (v : Scalar) → IsProperMemory u.model memory → Decides u mark test → Has u.model names memory mark v → Agrees u.model names memory test v
decided u names memory mark test v proper decides has = by_mark u names memory test v proper mark decides has
