-- The laws of the store over a program's bases.
use Rattle.std.specs.Prelude.{ℕ, ◌^◌, ◌+◌, ◌<◌, ℤ, List, [], ◌∷◌, length, replicate, refl}
use Rattle.cc_base.specs.Lattices.{LatticeOf, OrderLaws}
use Rattle.cc_base.specs.IntegerDomains.{IntegersOf, BoundLaws, RangeLaws}
use Rattle.cc_base.specs.IntegerLaws.{MonotoneLaws}
use Rattle.c_layout.specs.declared.data_model.Model.{Model}
use Rattle.c_layout.specs.declared.shapes.BaseInfo.{BaseInfo}
use Rattle.pointer_domain.specs.declared.base_sets.Bases.{Bases}
use Rattle.value_domain.specs.declared.values.row_cells.Cell.TheVariants.{Value}
use Rattle.domain_theorems.proofs.values.Parts.{pointer_parts}
use Rattle.store_monotone.specs.Operations.TopCells.{top_value}
use Rattle.store_monotone.specs.Operations.TopRows.{top_row}
use Rattle.store_monotone.specs.Operations.Placements.{EachFrom, IsPlaced, IsRegular}
use Rattle.store_monotone.specs.Operations.StoreLaws.{IsLayout, IsLoadMonotone, IsStoreMonotone, IsFreeMonotone, IsForgetMonotone, IsClearMonotone, IsLeaveMonotone, IsSpellMonotone, IsRenewMonotone, IsStoreConsistent, IsSpellConsistent, IsRenewConsistent}
use Rattle.store_monotone.proofs.operations.Loads.{load_monotone}
use Rattle.store_monotone.proofs.operations.Stores.{store_monotone}
use Rattle.store_monotone.proofs.operations.Freeing.{free_monotone}
use Rattle.store_monotone.proofs.operations.TopRows.{all_placed}
use Rattle.store_monotone.proofs.operations.ObjectLives.{row_greatest, forget_monotone, clear_monotone, leave_monotone}
use Rattle.store_monotone.proofs.operations.Spelling.{spell_monotone}
use Rattle.store_monotone.proofs.operations.Allocations.{renew_monotone}
use Rattle.store_monotone.proofs.operations.ConsistentStores.{store_kept}
use Rattle.store_monotone.proofs.operations.ConsistentSpelling.{spell_even}
use Rattle.store_monotone.proofs.operations.ConsistentAllocations.{renew_even}

pub both_each : {K : Type 0} (P Q : K → ℕ → Type 0) (at : ℕ) (ks : List K) → EachFrom P at ks → EachFrom Q at ks → EachFrom (λ k i. P k i × Q k i) at ks
both_each P Q at [] e f = tt
both_each P Q at (k ∷ ks) e f = ((e.0, f.0), both_each P Q (at + 1) ks e.1 f.1)

module _ {I : Type 0} {l : LatticeOf I} {n : IntegersOf I} {stands : I → ℤ → Type 0} (o : OrderLaws l) (b : BoundLaws l n stands) (m : Model) (bases : List BaseInfo) (k : IsLayout m bases) (all : Bases) (temps : ℕ) (h : length (top_row n all bases temps) < 2 ^ 64) where
  placed : EachFrom (λ base number. IsPlaced n all (top_row n all bases temps) base) 0 bases
  placed = all_placed n all (top_row n all bases temps) [] (replicate temps (Value (top_value n all))) 0 bases refl h k.placed

  pub each : EachFrom (λ base number. IsPlaced n all (top_row n all bases temps) base × IsRegular m base) 0 bases
  each = both_each (λ base number. IsPlaced n all (top_row n all bases temps) base) (λ base number. IsRegular m base) 0 bases placed k.regular

  pub loads : MonotoneLaws l n → IsLoadMonotone l n m bases all temps
  loads g r s j p q e class signed = load_monotone o b g m all (top_row n all bases temps) r s j bases each p q e class signed

  pub stores : RangeLaws l n → MonotoneLaws l n → IsStoreMonotone l n m bases all temps
  stores f g r s j p q e class signed v w i t = store_monotone o b f g m all (top_row n all bases temps) bases each r s j class signed v w i t p q e

  pub frees : IsFreeMonotone l n m bases all temps
  frees r s j p q e a = free_monotone o b all (top_row n all bases temps) bases placed r s j p q (pointer_parts l p q e) a

  pub forgets : IsForgetMonotone l n m bases all temps
  forgets r s j number = forget_monotone o b all (top_row n all bases temps) bases placed number r s j

  pub clears : IsClearMonotone l n m bases all temps
  clears r s j number = clear_monotone o b all (top_row n all bases temps) bases placed number r s j

  pub leaves : IsLeaveMonotone l n m bases all temps
  leaves r s j e number = leave_monotone o b all (top_row n all bases temps) bases placed number r s j (row_greatest n all bases temps) e

  pub spells : IsSpellMonotone l n m bases all temps
  spells r s j number offset room text k e = spell_monotone o b all (top_row n all bases temps) offset text e bases placed number room k r s j

  pub renews : RangeLaws l n → MonotoneLaws l n → IsRenewMonotone l n m bases all temps
  renews f g r s j c newest older has places x y k t fresh more w i = renew_monotone o b all (top_row n all bases temps) f g m bases placed (row_greatest n all bases temps) newest older has h places r s j c x y k t fresh more w i

  pub stores_consistent : RangeLaws l n → IsStoreConsistent l n m bases all temps
  stores_consistent f r own even p class signed v t w c = store_kept o b all (top_row n all bases temps) f m bases placed class signed v (w, c) t r (record { own = own; even = even }) p

  pub spells_consistent : IsSpellConsistent l n m bases all temps
  spells_consistent r own even number offset room text e = spell_even o b all (top_row n all bases temps) offset text e bases placed number room r (record { own = own; even = even })

  pub renews_consistent : RangeLaws l n → MonotoneLaws l n → IsRenewConsistent l n m bases all temps
  renews_consistent f g r own even newest older has places size fresh = renew_even o b all (top_row n all bases temps) f g m bases placed (row_greatest n all bases temps) newest older has places size fresh r (record { own = own; even = even })
