-- Static initializers are values of the program, with consistent pointer parts.
use Rattle.std.specs.Prelude.{◌≡◌, ℕ, zero, suc, ◌<◌, ◌≤◌, ◌-◌, ◌^◌, ◌&&◌, ℤ, pos, negsuc, neg_ℤ, ◌≤ℤ◌, ◌-ℤ◌, int_le, int_lt, nat_le, nat_lt, Bool, true, false, cond, Option, Some, None, List, [], ◌∷◌, length, slice_get, refl}
use Rattle.std.specs.Int.{int_min, int_max}
use Rattle.std.specs.List.{list_all}
use Rattle.std.proofs.Common.{arith, sym, subst}
use Rattle.std.proofs.lemmas.Int.{ints, clamps}
use Rattle.std.proofs.lemmas.Bool.{and_parts, cond-true, cond_both, leb-true, lt-ltb, not-true, or_parts}
use Rattle.cc_base.specs.Lattices.{LatticeOf, OrderLaws}
use Rattle.cc_base.specs.LatticeParts.{flag_leq}
use Rattle.cc_base.specs.NumberRanges.{Range, range_met}
use Rattle.cc_base.specs.IntegerDomains.{IntegersOf, BoundLaws}
use Rattle.c_layout.specs.declared.checked_tree.checked_units.StaticBase.{StaticBase}
use Rattle.c_layout.specs.declared.checked_tree.checked_units.StaticValue.{StaticValue}
use Rattle.c_layout.specs.declared.checked_tree.checked_units.StaticValue.TheVariants.{Number, Null, Address}
use Rattle.c_layout.specs.declared.shapes.BaseInfo.{BaseInfo}
use Rattle.cfg.specs.BaseShapes.{is_extent}
use Rattle.cfg.specs.StaticStarts.{number_of, fits_target, fits_value, object_count}
use Rattle.cfg.specs.WellFormed.{kind_at, is_initial, fits_initial_base, is_initial_object}
use Rattle.cfg.specs.declared.programs.Flow.{Flow}
use Rattle.cfg.specs.declared.programs.InitialObject.{InitialObject}
use Rattle.pointer_domain.specs.declared.base_sets.Bases.{Bases}
use Rattle.pointer_domain.specs.declared.pointer_sets.Pointers.{Pointers}
use Rattle.pointer_domain.specs.BaseFacts.{with_has_same}
use Rattle.pointer_domain.specs.BaseLattice.{bases_order}
use Rattle.pointer_domain.specs.BaseSets.{no_base, bases_with, bases_has, bases_empty, bases_within}
use Rattle.pointer_domain.specs.PointerLattice.{no_pointer, pointer_order}
use Rattle.value_domain.specs.Values.LabelSets.{no_labels, labels_order}
use Rattle.value_domain.specs.Values.ValueTables.{number_value, pointer_value}
use Rattle.value_domain.specs.declared.values.values.Value.{Value}
use Rattle.domain_theorems.proofs.values.EqualityStands.{has_some}
use Rattle.domain_theorems.proofs.values.Parts.{pointer_parts, pointers_below}
use Rattle.domain_theorems.proofs.values.Ranges.{RangeBelow}
use Rattle.store_cells.specs.ByteWrites.{null_pointer}
use Rattle.store_objects.specs.LiveBases.{most_bases, only_base}
use Rattle.store_cells.specs.NearValues.{is_near, near_part, near_number, near_value}
use Rattle.store_monotone.specs.Operations.TopCells.{top_number, top_value}
use Rattle.store_monotone.proofs.operations.AddedRanges.{below_of_bounds}
use Rattle.store_monotone.proofs.operations.Consistent.{even_bare, from_some}
use Rattle.store_monotone.proofs.operations.NearCells.{near_pointer_is, near_value_is}
use Rattle.transfer_system.specs.StartRows.{same_object, with_size, base_in, pointer_into, static_pointer, static_value}
use Rattle.system_monotone.specs.LaidOut.{IsLaidOut}
use Rattle.system_monotone.specs.RisingRows.{PointersRise, ValuesRise}
use Rattle.system_monotone.proofs.IntegerSteps.{one_near}
use Rattle.system_monotone.proofs.PointerSteps.{one_some}
use Rattle.system_monotone.proofs.Results.{number_rises, pointer_rises}
use Rattle.system_monotone.proofs.Touches.{range_near}
use Rattle.system_monotone.proofs.systems.WellFormed.{all_at}

-- ---- ranges

abbrev NearRange : Range
NearRange = Some (negsuc (2 ^ 64 - 1), pos (2 ^ 64))

not_less : (a c : ℤ) → int_lt a c ≡ false → c ≤ℤ a
not_less a c h = grind (arith, ints)

near_within : (r : Range) → is_near r ≡ true → RangeBelow r NearRange
near_within None h = tt
near_within (Some p) h =
    let c = or_parts (int_lt p.0 (neg_ℤ (pos (2 ^ 64)))) (int_lt (pos (2 ^ 64)) p.1) (not-true _ h) in
    let low = not_less p.0 (neg_ℤ (pos (2 ^ 64))) c.0 in
    let high = not_less (pos (2 ^ 64)) p.1 c.1 in
    (omega (arith, ints), omega (arith, ints))

met_within : (r : Range) → RangeBelow (range_met r (neg_ℤ (pos (2 ^ 64))) (pos (2 ^ 64))) NearRange
met_within None = tt
met_within (Some p) =
    let lo = int_max p.0 (neg_ℤ (pos (2 ^ 64))) in
    let hi = int_min p.1 (pos (2 ^ 64)) in
    cond_both (int_le lo hi) (Some (lo, hi)) None (λ r. RangeBelow r NearRange)
    (λ t. (omega (arith, ints, clamps), omega (arith, ints, clamps))) (λ t. tt)

pub flag_true : (p : Bool) → flag_leq p true ≡ true
flag_true true = refl
flag_true false = refl

-- ---- objects and their bases

some_base : (base : ℕ) → base < 1016 → bases_empty (only_base base) ≡ false
some_base base h =
    has_some (only_base base) base
    (subst (λ s. bases_has s base ≡ true)
    (sym (cond-true (nat_lt base most_bases) (bases_with no_base base) no_base (lt-ltb base 1016 h)))
    (with_has_same no_base base))

kind_below : (bases : List BaseInfo) (base : ℕ) → is_initial (kind_at bases base) ≡ true → base < length bases
kind_below [] base h = absurd (cc)
kind_below (x ∷ bases) zero h = omega arith
kind_below (x ∷ bases) (suc base) h = let r = kind_below bases base h in omega arith

sized_below : (bases : List BaseInfo) (base : Option ℕ) (size : ℕ) → fits_initial_base bases base ≡ true → (p : ℕ × ℕ)
    → with_size base size ≡ Some p → p.0 < length bases
sized_below bases None size h p e = absurd (cc)
sized_below bases (Some base) size h p e =
    subst (λ (z : ℕ). z < length bases) (same (base, size) p e) (kind_below bases base h)
  where
    same : (q p : ℕ × ℕ) → Some q ≡ Some p → q.0 ≡ p.0
    same q p e = cc

-- the base in which an object is found is one of the program
found_below : (bases : List BaseInfo) (objects : List InitialObject)
    → list_all (is_initial_object bases) objects ≡ true → (object : StaticBase) (p : ℕ × ℕ)
    → base_in objects object ≡ Some p → p.0 < length bases
found_below bases [] h object p e = absurd (cc)
found_below bases (x ∷ objects) h object p e =
    let a = and_parts (is_initial_object bases x) (list_all (is_initial_object bases) objects) h in
    let c = and_parts (is_extent x.size) (fits_initial_base bases x.base) a.0 in
    by_object (same_object x.object object) c.1 (λ q. found_below bases objects a.1 object p q) e
  where
    by_object : (t : Bool) → fits_initial_base bases x.base ≡ true
        → (base_in objects object ≡ Some p → p.0 < length bases)
        → cond t (with_size x.base x.size) (base_in objects object) ≡ Some p → p.0 < length bases
    by_object true f g e = sized_below bases x.base x.size f p e
    by_object false f g e = g e

-- an address lies within its bounds, and these within an object
record Lies (at lo hi : ℕ) : Type 0 where
  low : lo ≤ at
  high : at ≤ hi
  short : hi ≤ 2 ^ 30

target_lies : (based : Bool) (object : StaticBase) (at lo hi : ℕ) (found : Option InitialObject)
    → ((x : InitialObject) → found ≡ Some x → x.size ≤ 2 ^ 30) → fits_target based object at lo hi found ≡ true
    → Lies at lo hi
target_lies based object at lo hi None s h = absurd (cc)
target_lies based object at lo hi (Some x) s h =
    let a = and_parts _ (nat_le lo at && (nat_le at hi && nat_le hi x.size)) h in
    let c = and_parts (nat_le lo at) (nat_le at hi && nat_le hi x.size) a.1 in
    let d = and_parts (nat_le at hi) (nat_le hi x.size) c.1 in
    let most = s x refl in
    let last = leb-true hi x.size d.1 in
    record { low = leb-true lo at c.0; high = leb-true at hi d.0; short = omega arith }

module _ {I : Type 0} {l : LatticeOf I} {n : IntegersOf I} {stands : I → ℤ → Type 0} (o : OrderLaws l)
    (b : BoundLaws l n stands) (all : Bases) where
  -- ---- what is near

  near_top : (x : I) → l.leq (near_number l n x) (top_number n) ≡ true
  near_top x = cond_both (is_near (n.bounds x)) x (near_part l n x) (λ y. l.leq y (top_number n) ≡ true)
      (λ e. below_of_bounds o b x (negsuc (2 ^ 64 - 1)) (pos (2 ^ 64)) (near_within (n.bounds x) e))
      (λ e. range_near o b all (range_met (n.bounds x) (neg_ℤ (pos (2 ^ 64))) (pos (2 ^ 64))) (met_within (n.bounds x)))

  near_number_is : (x : I) → near_value l n (number_value l x no_labels) ≡ number_value l (near_number l n x) no_labels
  near_number_is x =
      let e = near_pointer_is o b (no_pointer l) all
      (pointer_parts l (no_pointer l) (top_value n all).pointer
      ((pointer_order o).least_below (top_value n all).pointer)) in
      λ i. record (number_value l (near_number l n x) no_labels) { pointer = e i }

  abbrev IsOwn : Value I → Type 0
  IsOwn v = ValuesRise l n all v v

  abbrev IsOwnPointer : Pointers I → Type 0
  IsOwnPointer p = PointersRise l n all p p

  number_own : (x : I) → IsOwn (near_value l n (number_value l x no_labels))
  number_own x = subst IsOwn (sym (near_number_is x))
      (number_rises o b all (near_number l n x) (near_number l n x) no_labels no_labels
      (o.reflexive (near_number l n x)) (near_top x) (labels_order.reflexive no_labels))

  near_own : (p : Pointers I) → IsOwnPointer p → IsOwn (near_value l n (pointer_value l p))
  near_own p h = let v = pointer_rises o b all p p h in subst IsOwn
      (sym (near_value_is o b (pointer_value l p) all v.own)) v

  null_own : IsOwnPointer (null_pointer l)
  null_own = record {
    below = (pointer_order o).reflexive (null_pointer l);
    own = pointers_below l (null_pointer l) (top_value n all).pointer
        (record {
          bases = bases_order.least_below all;
          lo = o.least_below (top_number n);
          rel = o.least_below
              (top_number n);
          len = o.least_below (top_number n);
          part = refl;
          null = refl;
          ended = refl;
        });
    even = (even_bare o b true false).1;
  }

  into_own : (base size at lo hi : ℕ) → bases_within (only_base base) all ≡ true → base < 1016 → Lies at lo hi
      → IsOwnPointer (pointer_into n base size at lo hi)
  into_own base size at lo hi named few lies =
      let low = lies.low in
      let high = lies.high in
      let short = lies.short in
      record {
        below = (pointer_order o).reflexive (pointer_into n base size at lo hi);
        own = pointers_below l (pointer_into n base size at lo hi) (top_value n all).pointer (record {
          bases = named;
          lo = one_near o b (pos lo) (omega (arith, ints)) (omega (arith, ints));
          rel = one_near o b (pos at -ℤ pos lo) (omega (arith, ints)) (omega (arith, ints));
          len = one_near o b (pos hi -ℤ pos lo) (omega (arith, ints)) (omega (arith, ints));
          part = flag_true (pointer_into n base size at lo hi).part;
          null = refl;
          ended = refl;
        });
        even = from_some o b (pointer_into n base size at lo hi) (some_base base few)
            (record {
              lo = one_some o b (pos lo);
              rel = one_some o b (pos at -ℤ pos lo);
              len = one_some o b
                  (pos hi -ℤ pos lo);
            });
      }

  module _ (flow : Flow) (k : IsLaidOut all flow) (few : length flow.bases.items ≤ 1016)
      (objects : list_all (is_initial_object flow.bases.items) flow.initial.items ≡ true) where
    address_own : (found : Option (ℕ × ℕ)) (at lo hi : ℕ)
        → ((p : ℕ × ℕ) → found ≡ Some p → p.0 < length flow.bases.items) → Lies at lo hi
        → IsOwnPointer (static_pointer l n found at lo hi)
    address_own None at lo hi h lies = null_own
    address_own (Some p) at lo hi h lies = let j = h p refl in into_own p.0 p.1 at lo hi (k.named p.0 j)
        (omega arith) lies

    object_short : (i : ℕ) (x : InitialObject) → slice_get flow.initial.items i ≡ Some x → x.size ≤ 2 ^ 30
    object_short i x e = leb-true x.size (2 ^ 30)
        (and_parts (is_extent x.size) (fits_initial_base flow.bases.items x.base)
        (all_at (is_initial_object flow.bases.items) flow.initial.items objects i x e)).0

    pub static_own : (based : Bool) (v : StaticValue)
        → fits_value flow.model flow.initial.items (object_count flow.initial.items) based v ≡ true
        → IsOwn (near_value l n (static_value l n flow.initial.items v))
    static_own based (Number number kind) h = number_own (n.one number)
    static_own based Null h = near_own (null_pointer l) null_own
    static_own based (Address object at lo hi) h =
        let place = number_of (object_count flow.initial.items) object in
        near_own (static_pointer l n (base_in flow.initial.items object) at lo hi)
        (address_own (base_in flow.initial.items object) at lo hi
        (λ p e. found_below flow.bases.items flow.initial.items objects object p e)
        (target_lies based object at lo hi (slice_get flow.initial.items place) (λ x e. object_short place x e) h))
