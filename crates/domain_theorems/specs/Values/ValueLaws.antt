-- The operations on values grow with their operands, and so do the labels of their results.
use Rattle.std.specs.Prelude.{◌≡◌, true}
use Rattle.cc_base.specs.Lattices.{LatticeOf}
use Rattle.cc_base.specs.IntegerDomains.{IntegersOf}
use Rattle.cc_base.specs.IntegerTypes.{is_size}
use Rattle.cc_base.specs.IntegerLaws.{tri_leq}
use Rattle.cc_base.specs.declared.int_types.IntType.{IntType}
use Rattle.cc_base.specs.declared.integer_operators.IntOp.{IntOp}
use Rattle.cc_base.specs.declared.integer_operators.UnOp.{UnOp}
use Rattle.cc_base.specs.declared.integer_operators.Rel.{Rel}
use Rattle.cc_base.specs.declared.integer_operators.Tri.{Tri}
use Rattle.value_domain.specs.declared.values.label_sets.Labels.{Labels}
use Rattle.value_domain.specs.declared.values.values.Value.{Value}
use Rattle.value_domain.specs.Values.LabelSets.{labels_leq, dropped_labels}
use Rattle.value_domain.specs.Values.Values.{value_lattice}
use Rattle.value_domain.specs.Values.ValueTables.{value_arith, value_unary, value_convert, value_truth, truth_value}

pub record ValueLaws {I : Type 0} (l : LatticeOf I) (n : IntegersOf I) : Type 0 where
  pub arith : (op : IntOp) (k : IntType) (x y u v : Value I) → is_size k.bytes ≡ true → (value_lattice l).leq x u ≡ true → (value_lattice l).leq y v ≡ true → (value_lattice l).leq (value_arith l n op x y k) (value_arith l n op u v k) ≡ true
  pub unary : (op : UnOp) (k : IntType) (x u : Value I) → is_size k.bytes ≡ true → (value_lattice l).leq x u ≡ true → (value_lattice l).leq (value_unary l n op x k) (value_unary l n op u k) ≡ true
  pub convert : (k : IntType) (x u : Value I) → is_size k.bytes ≡ true → (value_lattice l).leq x u ≡ true → (value_lattice l).leq (value_convert l n x k) (value_convert l n u k) ≡ true
  pub truth : (x u : Value I) → (value_lattice l).leq x u ≡ true → tri_leq (value_truth n x) (value_truth n u) ≡ true
  pub of_truth : (s t : Tri) → tri_leq s t ≡ true → (value_lattice l).leq (truth_value l n s) (truth_value l n t) ≡ true
  pub dropped : (rel : Rel) (k : IntType) (s t : Labels) → labels_leq s t ≡ true → labels_leq (dropped_labels rel s k) (dropped_labels rel t k) ≡ true
