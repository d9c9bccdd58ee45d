-- Ranges from a number on, and what is made of them.
use Rattle.std.specs.Prelude.{◌≡◌, ◌⊎◌, ℕ, ◌*◌, ◌-◌, ◌^◌, ◌==◌, ◌||◌, ℤ, pos, negsuc, ◌≤ℤ◌, int_le, Bool, true, false, cond, Some, None, refl}
use Rattle.std.specs.Int.{int_min, int_max}
use Rattle.std.proofs.Common.{arith, sym, subst, inl, inr}
use Rattle.std.proofs.lemmas.Int.{ints, clamps}
use Rattle.std.proofs.lemmas.Bool.{cond_both, or_cases, eqb-true}
use Rattle.cc_base.specs.Lattices.{LatticeOf, OrderLaws}
use Rattle.cc_base.specs.NumberRanges.{Range, range_met}
use Rattle.cc_base.specs.IntegerTypes.{is_size, least_of, greatest_of}
use Rattle.cc_base.specs.IntegerDomains.{IntegersOf, BoundLaws, RangeLaws, between_or_least, of_range}
use Rattle.cc_base.specs.declared.int_types.IntType.{IntType}
use Rattle.cc_base.specs.declared.integer_operators.IntOp.{IntOp}
use Rattle.cc_base.specs.declared.integer_operators.UnOp.{UnOp}
use Rattle.cc_base.specs.declared.integer_operators.Rel.{Rel}
use Rattle.store_cells.specs.NearValues.{is_near, near_part, near_number}
use Rattle.row_bounds.specs.Stores.Floors.{least_number, IsFrom}

-- the laws of a domain of integers, and a floor that is at most the least number of any type
pub record FloorLaws {I : Type 0} (l : LatticeOf I) (n : IntegersOf I) (stands : I → ℤ → Type 0) (floor : ℤ) : Type 0 where
  pub order : OrderLaws l
  pub bounds : BoundLaws l n stands
  pub ranges : RangeLaws l n
  pub low : floor ≤ℤ least_number

-- ---- types

abbrev Sizes : ℕ → Type 0
Sizes bytes = (bytes ≡ 1) ⊎ ((bytes ≡ 2) ⊎ ((bytes ≡ 4) ⊎ (bytes ≡ 8)))

sizes : (bytes : ℕ) → is_size bytes ≡ true → Sizes bytes
sizes bytes h = elim (or_cases (bytes == 1) ((bytes == 2) || ((bytes == 4) || (bytes == 8))) h) [
  | inl e ↦ inl (eqb-true bytes 1 e)
  | inr t ↦ elim (or_cases (bytes == 2) ((bytes == 4) || (bytes == 8)) t) [
    | inl e ↦ inr (inl (eqb-true bytes 2 e))
    | inr u ↦ elim (or_cases (bytes == 4) (bytes == 8) u) [ inl e ↦ inr (inr (inl (eqb-true bytes 4 e))) | inr e ↦ inr (inr (inr (eqb-true bytes 8 e))) ]
  ]
]

abbrev HasLeast : Bool → ℕ → Type 0
HasLeast signed bytes = least_number ≤ℤ cond signed (negsuc (2 ^ (8 * bytes - 1) - 1)) (pos 0)

least_at : (signed : Bool) (bytes : ℕ) → Sizes bytes → HasLeast signed bytes
least_at false bytes h = omega (arith, ints)
least_at true bytes (inl e) = subst (HasLeast true) (sym e) (omega (arith, ints))
least_at true bytes (inr (inl e)) = subst (HasLeast true) (sym e) (omega (arith, ints))
least_at true bytes (inr (inr (inl e))) = subst (HasLeast true) (sym e) (omega (arith, ints))
least_at true bytes (inr (inr (inr e))) = subst (HasLeast true) (sym e) (omega (arith, ints))

-- the numbers of a type are at least the least number of any
pub type_least : (kind : IntType) → is_size kind.bytes ≡ true → least_number ≤ℤ least_of kind
type_least kind h = least_at kind.signed kind.bytes (sizes kind.bytes h)

-- ---- ranges

pub lower_from : (a c : ℤ) (r : Range) → a ≤ℤ c → IsFrom c r → IsFrom a r
lower_from a c None h k = tt
lower_from a c (Some p) h k = omega (arith, ints)

pub met_keeps : (a : ℤ) (r : Range) (c d : ℤ) → IsFrom a r → IsFrom a (range_met r c d)
met_keeps a None c d h = tt
met_keeps a (Some p) c d h = cond_both (int_le (int_max p.0 c) (int_min p.1 d)) (Some (int_max p.0 c, int_min p.1 d)) None (IsFrom a) (λ e. omega (arith, ints, clamps)) (λ e. tt)

pub met_from : (a : ℤ) (r : Range) (c d : ℤ) → a ≤ℤ c → IsFrom a (range_met r c d)
met_from a None c d h = tt
met_from a (Some p) c d h = cond_both (int_le (int_max p.0 c) (int_min p.1 d)) (Some (int_max p.0 c, int_min p.1 d)) None (IsFrom a) (λ e. omega (arith, ints, clamps)) (λ e. tt)

le_true : (a c : ℤ) → int_le a c ≡ true → a ≤ℤ c
le_true a c h = grind (arith, ints)

-- ---- values of a domain

module _ {I : Type 0} {l : LatticeOf I} {n : IntegersOf I} {stands : I → ℤ → Type 0} {floor : ℤ} (k : FloorLaws l n stands floor) where
  pub least_from : (a : ℤ) → IsFrom a (n.bounds l.least)
  least_from a = subst (IsFrom a) (sym k.bounds.least_bounds) tt

  pub one_from : (a c : ℤ) → a ≤ℤ c → IsFrom a (n.bounds (n.one c))
  one_from a c h = subst (IsFrom a) (sym (k.bounds.one_bounds c)) h

  pub between_from : (a c d : ℤ) → a ≤ℤ c → IsFrom a (n.bounds (between_or_least l n c d))
  between_from a c d h = cond_both (int_le c d) (n.between c d) l.least (λ x. IsFrom a (n.bounds x))
      (λ e. subst (IsFrom a) (sym (k.bounds.between_bounds c d (le_true c d e))) h) (λ e. least_from a)

  pub range_from : (a : ℤ) (r : Range) → IsFrom a r → IsFrom a (n.bounds (of_range l n r))
  range_from a None h = least_from a
  range_from a (Some p) h = between_from a p.0 p.1 h

  pub smaller_from : (a : ℤ) (x y : I) → l.leq x y ≡ true → IsFrom a (n.bounds y) → IsFrom a (n.bounds x)
  smaller_from a x y h m = by_range (n.bounds x) refl
    where
      by_range : (r : Range) → n.bounds x ≡ r → IsFrom a r
      by_range None e = tt
      by_range (Some p) e =
          let w = k.bounds.wider x y p.0 p.1 h e in
          let m : a ≤ℤ w.0 = subst (IsFrom a) w.2 m in
          let s : w.0 ≤ℤ p.0 = w.3 in
          omega (arith, ints)

  pub join_from : (a : ℤ) (x y : I) → IsFrom a (n.bounds x) → IsFrom a (n.bounds y) → IsFrom a (n.bounds (l.join x y))
  join_from a x y h m = by_ranges (n.bounds x) (n.bounds y) refl refl
    where
      least_of_both : (x y : I) → n.bounds x ≡ None → l.leq x y ≡ true
      least_of_both x y e = subst (λ z. l.leq z y ≡ true) (sym (k.bounds.only_least x e)) (k.order.least_below y)

      by_ranges : (r s : Range) → n.bounds x ≡ r → n.bounds y ≡ s → IsFrom a (n.bounds (l.join x y))
      by_ranges None s e f = smaller_from a (l.join x y) y (k.order.join_least x y y (least_of_both x y e) (k.order.reflexive y)) m
      by_ranges (Some p) None e f = smaller_from a (l.join x y) x (k.order.join_least x y x (k.order.reflexive x) (least_of_both y x f)) h
      by_ranges (Some p) (Some q) e f =
          let c = int_min p.0 q.0 in
          let d = int_max p.1 q.1 in
          let h : a ≤ℤ p.0 = subst (IsFrom a) e h in
          let m : a ≤ℤ q.0 = subst (IsFrom a) f m in
          let o : p.0 ≤ℤ p.1 = k.bounds.proper x p.0 p.1 e in
          smaller_from a (l.join x y) (n.between c d)
          (k.order.join_least x y (n.between c d) (k.bounds.below_between x p.0 p.1 c d e (omega (arith, ints, clamps)) (omega (arith, ints, clamps))) (k.bounds.below_between y q.0 q.1 c d f (omega (arith, ints, clamps)) (omega (arith, ints, clamps))))
          (subst (IsFrom a) (sym (k.bounds.between_bounds c d (omega (arith, ints, clamps)))) (omega (arith, ints, clamps)))

  pub near_from : (a : ℤ) (x : I) → IsFrom a (n.bounds x) → IsFrom a (n.bounds (near_number l n x))
  near_from a x h = cond_both (is_near (n.bounds x)) x (near_part l n x) (λ y. IsFrom a (n.bounds y)) (λ e. h) (λ e. range_from a (range_met (n.bounds x) _ _) (met_keeps a (n.bounds x) _ _ h))

  -- ---- results in a type

  type_from : (kind : IntType) (x : I) → is_size kind.bytes ≡ true → ((a c : ℤ) → n.bounds x ≡ Some (a, c) → (least_of kind ≤ℤ a) × (c ≤ℤ greatest_of kind)) → IsFrom floor (n.bounds x)
  type_from kind x s h = by_range (n.bounds x) refl
    where
      by_range : (r : Range) → n.bounds x ≡ r → IsFrom floor r
      by_range None e = tt
      by_range (Some p) e = let t = (h p.0 p.1 e).0 in let u = type_least kind s in let v = k.low in omega (arith, ints)

  pub arith_from : (op : IntOp) (x y : I) (kind : IntType) → is_size kind.bytes ≡ true → IsFrom floor (n.bounds (n.arith op x y kind))
  arith_from op x y kind s = type_from kind (n.arith op x y kind) s (λ a c e. k.ranges.arith_fits op x y kind a c s e)

  pub unary_from : (op : UnOp) (x : I) (kind : IntType) → is_size kind.bytes ≡ true → IsFrom floor (n.bounds (n.unary op x kind))
  unary_from op x kind s = type_from kind (n.unary op x kind) s (λ a c e. k.ranges.unary_fits op x kind a c s e)

  pub convert_from : (x : I) (kind : IntType) → is_size kind.bytes ≡ true → IsFrom floor (n.bounds (n.convert x kind))
  convert_from x kind s = type_from kind (n.convert x kind) s (λ a c e. k.ranges.convert_fits x kind a c s e)

  pub refined_from : (a : ℤ) (rel : Rel) (x y : I) → IsFrom a (n.bounds x) → IsFrom a (n.bounds (n.refine rel x y))
  refined_from a rel x y h = smaller_from a (n.refine rel x y) x (k.ranges.refine_below rel x y) h

  -- numbers that the floor lies below
  pub low_from : (c : ℤ) → least_number ≤ℤ c → IsFrom floor (n.bounds (n.one c))
  low_from c h = let v = k.low in one_from floor c (omega (arith, ints))

  pub whole_from : (kind : IntType) → is_size kind.bytes ≡ true → IsFrom floor (n.bounds (between_or_least l n (least_of kind) (greatest_of kind)))
  whole_from kind s = let u = type_least kind s in let v = k.low in between_from floor (least_of kind) (greatest_of kind) (omega (arith, ints))

  pub count_low : (r : Range) → IsFrom (pos 0) r → IsFrom floor r
  count_low r h = let v = k.low in lower_from floor (pos 0) r (omega (arith, ints)) h
