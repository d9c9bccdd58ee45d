-- Loads and stores grow with the row, and leave own rows of consistent pointer parts.
use Rattle.std.specs.Prelude.{ℕ, Option}
use Rattle.cc_base.specs.Lattices.{LatticeOf}
use Rattle.cc_base.specs.IntegerDomains.{IntegersOf}
use Rattle.cfg.specs.declared.programs.Flow.{Flow}
use Rattle.cfg.specs.declared.machine_instructions.Scalar.{Scalar}
use Rattle.pointer_domain.specs.declared.base_sets.Bases.{Bases}
use Rattle.transfer_system.specs.MemorySteps.{load_violations, load_step, store_violations, store_step, copy_violations}
use Rattle.transfer_monotone.specs.Values.StepLaws.{Rises, Violates}

module _ {I : Type 0} (l : LatticeOf I) (n : IntegersOf I) (all : Bases) (flow : Flow) where
  -- loads and stores
  pub record MemoryStepsRise : Type 0 where
    pub load : (to pointer : ℕ) (kind : Scalar) → Rises l n all flow (λ row. load_step l n flow row to pointer kind)
    pub store : (pointer value : ℕ) (kind : Scalar) (kept : Option (ℕ × ℕ)) → Rises l n all flow (λ row. store_step l n flow row pointer value kind kept)

  -- the rules that they, and copies of structs, may violate
  pub record MemoryChecksRise : Type 0 where
    pub load : (pointer : ℕ) (kind : Scalar) → Violates l n all flow (λ row. load_violations l n flow row pointer kind)
    pub store : (pointer : ℕ) (kind : Scalar) → Violates l n all flow (λ row. store_violations l n flow row pointer kind)
    pub copy : (to from index : ℕ) → Violates l n all flow (λ row. copy_violations l n flow row to from index)
