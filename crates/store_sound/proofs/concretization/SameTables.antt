-- The machine has tables of its own; those of the analysis say the same.
use Rattle.std.specs.Prelude.{◌≡◌, refl, Bool}
use Rattle.cc_base.specs.declared.int_types.IntType.{IntType}
use Rattle.cc_base.specs.declared.integer_operators.IntOp.{IntOp}
use Rattle.cc_base.specs.declared.integer_operators.IntOp.TheVariants.{Add, Sub, Mul, Div, Rem, And, Or, Xor, Shl, Shr}
use Rattle.cc_base.specs.declared.integer_operators.UnOp.{UnOp}
use Rattle.cc_base.specs.declared.integer_operators.UnOp.TheVariants.{Neg, Compl}
use Rattle.cc_base.specs.declared.integer_operators.Rel.{Rel}
use Rattle.cc_base.specs.declared.integer_operators.Rel.TheVariants.{Lt, Le, Gt, Ge, Eq, Ne}
use Rattle.c_layout.specs.declared.data_model.Model.{Model}
use Rattle.c_layout.specs.declared.leaf_lists.Class.{Class}
use Rattle.c_layout.specs.declared.leaf_lists.Class.TheVariants.{Char, Short, Int, Long, LongLong, Pointer}
use Rattle.value_domain.specs.Values.LabelSets as set
use Rattle.store_cells.specs.ScalarTypes as table
use Rattle.store_cells.specs.ClassNumbers as numbers
use Rattle.memory_model.specs.Memory.ScalarSizes.{class_bytes, class_number}
use Rattle.memory_model.specs.Memory.Labels.{Labels, no_labels, input_labels, labels_join, is_unlabelled, converted_labels, operated_labels, negated_labels, dropped_labels}
use Rattle.store_sound.specs.Concretization.SeenLabels.{as_set}

-- ---- classes

same_bytes : (m : Model) (c : Class) → class_bytes m c ≡ table.class_bytes m c
same_bytes m Char = refl
same_bytes m Short = refl
same_bytes m Int = refl
same_bytes m Long = refl
same_bytes m LongLong = refl
same_bytes m Pointer = refl

same_numbers : (c : Class) → class_number c ≡ numbers.class_number c
same_numbers Char = refl
same_numbers Short = refl
same_numbers Int = refl
same_numbers Long = refl
same_numbers LongLong = refl
same_numbers Pointer = refl

-- ---- labels

same_none : as_set no_labels ≡ set.no_labels
same_none = refl

same_input : (kind : IntType) → as_set (input_labels kind) ≡ set.input_labels kind
same_input kind = refl

same_join : (s t : Labels) → as_set (labels_join s t) ≡ set.labels_join (as_set s) (as_set t)
same_join s t = refl

same_unlabelled : (s : Labels) → is_unlabelled s ≡ set.is_unlabelled (as_set s)
same_unlabelled s = refl

same_converted : (s : Labels) (to : IntType) (fits : Bool) → as_set (converted_labels s to fits) ≡ set.converted_labels (as_set s) to fits
same_converted s to fits = refl

same_operated : (op : IntOp) (s t : Labels) (kind : IntType) (leaves : Bool) → as_set (operated_labels op s t kind leaves) ≡ set.operated_labels op (as_set s) (as_set t) kind leaves
same_operated Add s t kind leaves = refl
same_operated Sub s t kind leaves = refl
same_operated Mul s t kind leaves = refl
same_operated Div s t kind leaves = refl
same_operated Rem s t kind leaves = refl
same_operated And s t kind leaves = refl
same_operated Or s t kind leaves = refl
same_operated Xor s t kind leaves = refl
same_operated Shl s t kind leaves = refl
same_operated Shr s t kind leaves = refl

same_negated : (op : UnOp) (s : Labels) (kind : IntType) (leaves : Bool) → as_set (negated_labels op s kind leaves) ≡ set.negated_labels op (as_set s) kind leaves
same_negated Neg s kind leaves = refl
same_negated Compl s kind leaves = refl

same_dropped : (rel : Rel) (s : Labels) (common : IntType) → as_set (dropped_labels rel s common) ≡ set.dropped_labels rel (as_set s) common
same_dropped Lt s common = refl
same_dropped Le s common = refl
same_dropped Gt s common = refl
same_dropped Ge s common = refl
same_dropped Eq s common = refl
same_dropped Ne s common = refl
