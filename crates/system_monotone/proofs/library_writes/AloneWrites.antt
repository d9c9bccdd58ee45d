-- Writes to the only instance of a base.
use Rattle.std.specs.Prelude.{◌≡◌, ◌⊎◌, ℕ, ◌==◌, Bool, true, false, List, refl}
use Rattle.std.proofs.Common.{sym, subst, ap, inl, inr}
use Rattle.std.proofs.lemmas.Bool.{and_parts, eqb-true}
use Rattle.c_layout.specs.declared.shapes.BaseInfo.{BaseInfo}
use Rattle.pointer_domain.specs.declared.base_sets.Bases.{Bases}
use Rattle.pointer_domain.specs.BaseSets.{bases_within, bases_empty, bases_count}
use Rattle.domain_theorems.proofs.values.Bases.{one_base, no_count}
use Rattle.store_objects.specs.LiveBases.{has_base, is_one_instance, single_bases}

-- a write to some base, and one to more bases
module _ (bases : List BaseInfo) (set more : Bases) (within : bases_within set more ≡ true) (some : bases_empty set ≡ false) where
  same_bases : is_one_instance bases more ≡ true → set ≡ more
  same_bases e =
      let p = and_parts (bases_count more == 1) (bases_within more (single_bases bases)) e in
      one_base set more within (λ (z : bases_count set ≡ 0). (let y = no_count set z in cc)) (eqb-true (bases_count more) 1 p.0)

  made : (number : ℕ) → has_base more number ≡ true → (now : Bool) → (now ≡ false → (true ≡ false) ⊎ (has_base set number ≡ false)) → set ≡ more → now ≡ true
  made number e true d same = refl
  made number e false d same = elim (d refl) [
    | inl t ↦ absurd (cc)
    | inr t ↦ absurd (let u : has_base set number ≡ has_base more number = ap (λ t. has_base t number) same in cc)
  ]

  -- where the larger one is to one instance, the smaller one is made, to the same one
  pub made_alone : (number : ℕ) → has_base more number ≡ true → (now : Bool) → (now ≡ false → (true ≡ false) ⊎ (has_base set number ≡ false)) → is_one_instance bases more ≡ true → (now ≡ true) × (is_one_instance bases set ≡ true)
  made_alone number e now d z = (made number e now d (same_bases z), subst (λ t. is_one_instance bases t ≡ true) (sym (same_bases z)) z)
