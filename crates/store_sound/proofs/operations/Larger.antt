-- A larger value stands for what a smaller one stands for.
use Rattle.std.proofs.Common.{◌≡◌, ℕ, Bool, true, false, refl}
use Rattle.std.specs.Prelude.{ℤ}
use Rattle.std.proofs.lemmas.Bool.{and_parts}
use Rattle.cc_base.specs.Lattices.{LatticeOf}
use Rattle.cc_base.specs.LatticeParts.{flag_leq}
use Rattle.cc_base.specs.IntegerDomains.{IntegersOf, BoundLaws}
use Rattle.c_layout.specs.declared.leaf_lists.Class.{Class}
use Rattle.pointer_domain.specs.BaseSets.{bases_within}
use Rattle.pointer_domain.specs.BaseFacts.{within_has}
use Rattle.pointer_domain.specs.PointerLattice.{pointers_leq}
use Rattle.pointer_domain.specs.declared.pointer_sets.Pointers.{Pointers}
use Rattle.value_domain.specs.Values.Values.{value_lattice}
use Rattle.value_domain.specs.Values.LabelSets.{labels_leq, labels_order}
use Rattle.value_domain.specs.declared.values.values.Value.{Value}
use Rattle.memory_model.specs.Memory.Bytes.{MachinePointer, null, into, Content, indeterminate, number, part}
use Rattle.memory_model.specs.Memory.Instances.{Memory, Life, live, ended, freed, life_at}
use Rattle.memory_model.specs.Memory.Scalars.{Scalar, integer, pointer}
use Rattle.store_sound.specs.Concretization.SeenLabels.{as_set}
use Rattle.store_sound.specs.Concretization.ValueMeaning.{Naming, InGammaInto, InGammaByLife, InGammaPointer, InGammaScalar, InGammaContent}

pub record PointerBelow {I : Type 0} (l : LatticeOf I) (x y : Pointers I) : Type 0 where
  pub bases : bases_within x.bases y.bases ≡ true
  pub lo : l.leq x.lo y.lo ≡ true
  pub rel : l.leq x.rel y.rel ≡ true
  pub len : l.leq x.len y.len ≡ true
  pub part : y.part ≡ false → x.part ≡ false
  pub null : x.null ≡ true → y.null ≡ true
  pub ended : x.ended ≡ true → y.ended ≡ true

pub flag_up : (a b : Bool) → flag_leq a b ≡ true → a ≡ true → b ≡ true
flag_up true b h e = h
flag_up false b h e = cc

flag_down : (a b : Bool) → flag_leq a b ≡ true → b ≡ false → a ≡ false
flag_down true b h e = cc
flag_down false b h e = refl

pub pointer_below : {I : Type 0} (l : LatticeOf I) (x y : Pointers I) → pointers_leq l x y ≡ true → PointerBelow l x y
pointer_below l x y h =
    let a = and_parts _ _ h in
    let b = and_parts _ _ a.1 in
    let c = and_parts _ _ b.1 in
    let d = and_parts _ _ c.1 in
    let e = and_parts _ _ d.1 in
    let f = and_parts _ _ e.1 in
    record { bases = a.0; lo = b.0; rel = c.0; len = d.0; part = flag_down x.part y.part e.0; null = flag_up x.null y.null f.0; ended = flag_up x.ended y.ended f.1 }

pub record ValueBelow {I : Type 0} (l : LatticeOf I) (x y : Value I) : Type 0 where
  pub num : l.leq x.num y.num ≡ true
  pub pointer : PointerBelow l x.pointer y.pointer
  pub indeterminate : x.indeterminate ≡ true → y.indeterminate ≡ true
  pub labels : labels_leq x.labels y.labels ≡ true

pub value_below : {I : Type 0} (l : LatticeOf I) (x y : Value I) → (value_lattice l).leq x y ≡ true → ValueBelow l x y
value_below l x y h =
    let a = and_parts _ _ h in
    let b = and_parts _ _ a.1 in
    let c = and_parts _ _ b.1 in
    record { num = a.0; pointer = pointer_below l x.pointer y.pointer b.0; indeterminate = flag_up x.indeterminate y.indeterminate c.0; labels = c.1 }

module _ {I : Type 0} {l : LatticeOf I} {n : IntegersOf I} {gamma : I → ℤ → Type 0} (q : BoundLaws l n gamma) (naming : Naming) (memory : Memory) where
  into_larger : (x y : Pointers I) (i offset lo hi : ℕ) → PointerBelow l x y → InGammaInto gamma naming memory x i offset lo hi → InGammaInto gamma naming memory y i offset lo hi
  into_larger x y i offset lo hi b s = record {
    base = s.base;
    named = s.named;
    among = within_has x.bases y.bases s.base b.bases s.among;
    lower = q.larger x.lo y.lo _ b.lo s.lower;
    relative = q.larger x.rel y.rel _ b.rel s.relative;
    room = q.larger x.len y.len _ b.len s.room;
    whole = λ e. s.whole (b.part e);
  }

  life_larger : (x y : Pointers I) (life : Life) (i offset lo hi : ℕ) → PointerBelow l x y → InGammaByLife gamma naming memory x life i offset lo hi → InGammaByLife gamma naming memory y life i offset lo hi
  life_larger x y live i offset lo hi b s = into_larger x y i offset lo hi b s
  life_larger x y ended i offset lo hi b s = b.ended s
  life_larger x y freed i offset lo hi b s = into_larger x y i offset lo hi b s

  pub pointer_larger : (x y : Pointers I) (p : MachinePointer) → PointerBelow l x y → InGammaPointer gamma naming memory x p → InGammaPointer gamma naming memory y p
  pointer_larger x y null b s = b.null s
  pointer_larger x y (into i offset lo hi) b s = life_larger x y (life_at memory i) i offset lo hi b s

  pub scalar_larger : (x y : Value I) (v : Scalar) → ValueBelow l x y → InGammaScalar gamma naming memory x v → InGammaScalar gamma naming memory y v
  scalar_larger x y (integer z labels) b s = (q.larger x.num y.num z b.num s.0, labels_order.transitive (as_set labels) x.labels y.labels s.1 b.labels)
  scalar_larger x y (pointer p) b s = pointer_larger x.pointer y.pointer p b.pointer s

  pub content_larger : (x y : Value I) (class : Class) (content : Content) → ValueBelow l x y → InGammaContent gamma naming memory x class content → InGammaContent gamma naming memory y class content
  content_larger x y class indeterminate b s = b.indeterminate s
  content_larger x y class (number k labels) b s = (labels_order.transitive (as_set labels) x.labels y.labels s.0 b.labels, λ e. b.pointer.null (s.1 e))
  content_larger x y class (part p k) b s = pointer_larger x.pointer y.pointer p b.pointer s
