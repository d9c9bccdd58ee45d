-- What joins of found values give.
use Rattle.std.proofs.Common.{◌≡◌, Bool, true, false, Option, Some, None, subst, refl}
use Rattle.cc_base.specs.Lattices.{LatticeOf, OrderLaws}
use Rattle.value_domain.specs.Values.Values.{value_lattice, value_order}
use Rattle.value_domain.specs.declared.values.values.Value.{Value}
use Rattle.store_cells.specs.CellReads.{joined, joined_with}
use Rattle.store.specs.Loads.{joined_if}
use Rattle.store_sound.specs.Operations.Gives.{Gives}

module _ {I : Type 0} {l : LatticeOf I} (o : OrderLaws l) {P : Value I → Type 0} (up : (x y : Value I) → (value_lattice l).leq x y ≡ true → P x → P y) where
  with_left : (x : Value I) (b : Option (Value I)) → P x → P (joined_with l x b)
  with_left x None h = h
  with_left x (Some y) h = up x _ ((value_order o).join_left x y) h

  with_right : (x y : Value I) → P y → P (joined_with l x (Some y))
  with_right x y h = up y _ ((value_order o).join_right x y) h

  pub given_left : (a b : Option (Value I)) → Gives P a → Gives P (joined l a b)
  given_left None b g = let e = g.is in cc
  given_left (Some x) b g = record { value = joined_with l x b; is = refl; good = with_left x b (subst P (cc g.is) g.good) }

  given_right : (a : Option (Value I)) (y : Value I) → P y → Gives P (joined l a (Some y))
  given_right None y h = record { value = y; is = refl; good = h }
  given_right (Some x) y h = record { value = joined_with l x (Some y); is = refl; good = with_right x y h }

  pub given_by_right : (a b : Option (Value I)) → Gives P b → Gives P (joined l a b)
  given_by_right a None g = let e = g.is in cc
  given_by_right a (Some y) g = given_right a y (subst P (cc g.is) g.good)

  pub if_keeps : (wanted : Bool) (found : Option (Value I)) (v : Value I) → Gives P found → Gives P (joined_if l wanted found v)
  if_keeps true found v g = given_left found (Some v) g
  if_keeps false found v g = g

  pub if_gives : (wanted : Bool) (found : Option (Value I)) (v : Value I) → wanted ≡ true → P v → Gives P (joined_if l wanted found v)
  if_gives true found v e h = given_right found v h
  if_gives false found v e h = cc
