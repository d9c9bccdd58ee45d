-- What the write of one leaf keeps and makes, in one.
use Rattle.std.proofs.Common.{◌≡◌, ℕ, true}
use Rattle.std.specs.Prelude.{ℤ}
use Rattle.cc_base.specs.Lattices.{LatticeOf, OrderLaws}
use Rattle.cc_base.specs.IntegerDomains.{IntegersOf, BoundLaws}
use Rattle.c_layout.specs.declared.leaf_lists.Leaf.{Leaf}
use Rattle.c_layout.specs.declared.shapes.BaseInfo.{BaseInfo}
use Rattle.value_domain.specs.Values.Values.{value_lattice}
use Rattle.value_domain.specs.declared.values.values.Value.{Value}
use Rattle.store_sound.proofs.operations.Larger.{value_below, content_larger}
use Rattle.store_sound.proofs.operations.NearParts.{near_parts}
use Rattle.struct_copies_sound.specs.Cells.LeafWrites.{IsReplacedAt, Fact, of_number, of_content, IsTold, LeafWritesStand}
use Rattle.struct_copies_sound.proofs.cells.LeafWritten.{BringsNear, IsHit, all_keeps}
use Rattle.struct_copies_sound.proofs.cells.LeafMade.{own_makes, class_makes, other_makes, byte_makes}

-- a larger value has each of these facts too
pub told_up : {I : Type 0} {l : LatticeOf I} {n : IntegersOf I} {gamma : I → ℤ → Type 0} (o : OrderLaws l) (q : BoundLaws l n gamma) (fact : Fact) (x y : Value I) → (value_lattice l).leq x y ≡ true → IsTold l n gamma fact x → IsTold l n gamma fact y
told_up {I} {l} o q (of_number z) x y h s = q.larger x.num y.num z (value_below l x y h).num s
told_up {I} {l} o q (of_content naming memory class content) x y h s = content_larger q naming memory x y class content (value_below l x y h) s

pub leaf_writes_stand : {I : Type 0} {l : LatticeOf I} {n : IntegersOf I} {gamma : I → ℤ → Type 0} (o : OrderLaws l) (q : BoundLaws l n gamma) → LeafWritesStand l n gamma
leaf_writes_stand {I} {l} {n} {gamma} o q m bases set access v alone near fact p size there = record {
  keeps = λ none row long good. (all_keeps o q m bases set access v alone brings (told_up o q fact) p size there (λ b j base leaf hit. none b j base leaf (replaced b j base leaf hit)) row (record { long = long; good = good })).good;
  own = λ b j base leaf at has among here only reached good row long. (own_makes o q m bases set access v alone brings (told_up o q fact) p size there b base at has j leaf among here (λ c i other y hit. only c i other y (replaced c i other y hit)) reached good row long).good;
  class = λ none b base at has here reached good row long. (class_makes o q m bases set access v alone brings (told_up o q fact) p size there b base at has (λ c i other y hit. none c i other y (replaced c i other y hit)) here reached good row long).good;
  other = λ none char b j base leaf at has among here touched good row long. (other_makes o q m bases set access v alone brings (told_up o q fact) p size there b base at has (λ c i other y hit. none c i other y (replaced c i other y hit)) char j leaf among here touched good row long).good;
  byte = λ none char b c base at has heap few here good row long. (byte_makes o q m bases set access v alone brings (told_up o q fact) p size there b base at has (λ d i other y hit. none d i other y (replaced d i other y hit)) char heap c few here good row long).good;
}
  where
    brings : BringsNear l n m access v
    brings = record { own = λ signed. near_parts (near signed) }

    replaced : (b j : ℕ) (base : BaseInfo) (leaf : Leaf) → IsHit o q m bases set access v alone brings (told_up o q fact) p size there b j base leaf → IsReplacedAt bases set access alone p b j base leaf
    replaced b j base leaf hit = record { at = hit.at; among = hit.among; in_set = hit.in_set; reached = hit.reached; strong = hit.strong; here = hit.here }
