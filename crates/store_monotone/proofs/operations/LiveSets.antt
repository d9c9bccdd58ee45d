-- Sets of bases with more live ones.
use Rattle.std.specs.Prelude.{◌≡◌, ℕ, Bool, true, false, nat_lt, refl}
use Rattle.std.proofs.lemmas.Bool.{and_parts, and_from}
use Rattle.pointer_domain.specs.BaseSets.{bases_has, bases_within, bases_union, bases_count}
use Rattle.pointer_domain.specs.BaseFacts.{within_has}
use Rattle.pointer_domain.specs.BaseLattice.{bases_order}
use Rattle.pointer_domain.specs.declared.base_sets.Bases.{Bases}
use Rattle.store_objects.specs.LiveBases.{has_base, only_base, with_base_if}
use Rattle.domain_theorems.proofs.values.Bases as sets
use Rattle.domain_theorems.proofs.values.BaseChanges.{has_none}

-- a set that has a base and lies within a set of one base is that set
pub one_base : (s t : Bases) (n : ℕ) → bases_within s t ≡ true → bases_has s n ≡ true → bases_count t ≡ 1 → s ≡ t
one_base s t n h k e = sets.one_base s t h (λ (z : bases_count s ≡ 0). has_none s n (sets.no_count s z) k) e

pub has_monotone : (s t : Bases) (n : ℕ) → bases_within s t ≡ true → has_base s n ≡ true → has_base t n ≡ true
has_monotone s t n h k = let p = and_parts (nat_lt n 1016) (bases_has s n) k in and_from _ _ p.0 (within_has s t n h p.1)

pub union_monotone : (s t u v : Bases) → bases_within s u ≡ true → bases_within t v ≡ true → bases_within (bases_union s t) (bases_union u v) ≡ true
union_monotone s t u v h k =
    bases_order.join_least s t (bases_union u v) (bases_order.transitive s u (bases_union u v) h (bases_order.join_left u v)) (bases_order.transitive t v (bases_union u v) k (bases_order.join_right u v))

pub with_if_monotone : (a b : Bool) (n : ℕ) (s t : Bases) → (a ≡ true → b ≡ true) → bases_within s t ≡ true → bases_within (with_base_if a n s) (with_base_if b n t) ≡ true
with_if_monotone false false n s t h k = k
with_if_monotone false true n s t h k = bases_order.transitive s t (bases_union t (only_base n)) k (bases_order.join_left t (only_base n))
with_if_monotone true false n s t h k = absurd (let e : false ≡ true = h refl in cc)
with_if_monotone true true n s t h k = union_monotone s (only_base n) t (only_base n) k (bases_order.reflexive (only_base n))
