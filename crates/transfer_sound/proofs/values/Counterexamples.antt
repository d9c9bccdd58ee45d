-- What the law on steps would say of operands that are not such as it supposes is false.
use Rattle.std.specs.Prelude.{◌≡◌, ℤ, pos, ◌≤ℤ◌, false, Some, None, [], ◌∷◌, refl}
use Rattle.std.proofs.Common.{arith}
use Rattle.std.proofs.lemmas.Int.{ints}
use Rattle.cc_base.specs.Lattices.{LatticeOf}
use Rattle.cc_base.specs.IntegerDomains.{IntegersOf, BoundLaws, RangeLaws}
use Rattle.cc_base.specs.MachineArithmetic.{binary_result}
use Rattle.cc_base.specs.declared.int_types.IntType.{IntType}
use Rattle.cc_base.specs.declared.integer_operators.IntOp.TheVariants.{Rem}
use Rattle.cfg.specs.declared.programs.Flow.{Flow}
use Rattle.pointer_domain.specs.declared.pointer_sets.Pointers.{Pointers}
use Rattle.transfer_system.specs.PointerSteps.{has_difference}
use Rattle.memory_model.specs.Memory.Labels.{no_labels}
use Rattle.memory_model.specs.Memory.Bytes.{indeterminate, into}
use Rattle.memory_model.specs.Memory.Instances.{automatic, live}
use Rattle.memory_model.specs.Memory.Scalars.{integer}
use Rattle.memory_model.specs.Effects.PointerEffects.{pointer_difference}
use Rattle.memory_model.specs.Effects.Worlds.{World, goes}

-- ---- 300 % 1000 as an operation on unsigned chars

abbrev byte : IntType
byte = record { bytes = 1; signed = false; rank = 1 }

machine_gives : binary_result Rem byte (pos 300) (pos 1000) ≡ Some (pos 300)
machine_gives = refl

-- the analysis has no number outside the type of the operation
analysis_lacks : {I : Type 0} {l : LatticeOf I} {n : IntegersOf I} {gamma : I → ℤ → Type 0} → BoundLaws l n gamma → RangeLaws l n → (x y : I) → gamma (n.arith Rem x y byte) (pos 300) → ⊥
analysis_lacks q r x y h =
    let i = q.inside _ (pos 300) h in
    let f = r.arith_fits Rem x y byte i.0 i.1 refl i.2 in
    let top : i.1 ≤ℤ pos 255 = f.1 in
    let from = i.4 in
    omega (arith, ints, top, from)

-- ---- a difference of pointers in elements of no size

abbrev world : World
world = record { memory = record { storage = automatic; life = live; bytes = record { content = indeterminate; tag = None } ∷ [] } ∷ []; draws = []; violated = [] }

machine_goes_on : pointer_difference 0 (into 0 1 0 1) (into 0 0 0 1) world ≡ goes (integer (pos 0) no_labels) world
machine_goes_on = refl

analysis_stops : {I : Type 0} (flow : Flow) (p q : Pointers I) → has_difference flow p q 0 ≡ false
analysis_stops flow p q = refl
