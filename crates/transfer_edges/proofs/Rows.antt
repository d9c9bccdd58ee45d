-- Worked rows of the definitions.
use Rattle.std.specs.Prelude.{◌≡◌, refl, pos, true, false, Some, None, [], ◌∷◌}
use Rattle.cc_base.specs.declared.integer_operators.Rel.TheVariants.{Lt, Gt, Eq}
use Rattle.cc_base.specs.declared.integer_operators.Tri.TheVariants.{Yes, No, Both, Never}
use Rattle.cfg.specs.declared.flow_edges.Side.TheVariants.{Object, Number, Null}
use Rattle.cfg.specs.declared.machine_instructions.Scalar.TheVariants as scalar
use Rattle.cfg.specs.declared.machine_instructions.Operation.TheVariants as op
use Rattle.value_domain.specs.Values.LabelSets.{no_labels, all_labels}
use Rattle.transfer_edges.specs.Refinements.{mirrored, is_same_object, named_by, common_labels}
use Rattle.transfer_edges.specs.Edges.{truth_can_be, includes, is_other_than, deciding_operand}

-- `3 < x` is `x > 3`
turned : mirrored Lt ≡ Gt
turned = refl

-- `x == x` names one object, `x == 3` does not
same : is_same_object (Object 4 scalar.Pointer) (Object 4 scalar.Pointer) ≡ true
same = refl

number_is_none : is_same_object (Object 4 scalar.Pointer) (Number (pos 4)) ≡ false
number_is_none = refl

-- a test of a pointer against a null constant names it
named : named_by (Object 4 scalar.Pointer) Null ≡ Some 4
named = refl

not_named : named_by (Object 4 scalar.Pointer) (Number (pos 0)) ≡ None
not_named = refl

common : common_labels all_labels no_labels ≡ no_labels
common = refl

-- a condition that is only true has no false edge
only_true : truth_can_be Yes false ≡ false
only_true = refl

both_ways : truth_can_be Both false ≡ true
both_ways = refl

-- values from 2 to 4 can be the label 4, and not 5
label_is_met : includes (Some (pos 2, pos 4)) (pos 4) ≡ true
label_is_met = refl

label_is_missed : includes (Some (pos 2, pos 4)) (pos 5) ≡ false
label_is_missed = refl

-- the one value 3 with a label 3 has no other edge; with labels 1 and 2, or values 3 and 4, there is one
one_label : is_other_than (Some (pos 3, pos 3)) (pos 1 ∷ (pos 3 ∷ [])) ≡ false
one_label = refl

no_label : is_other_than (Some (pos 3, pos 3)) (pos 1 ∷ (pos 2 ∷ [])) ≡ true
no_label = refl

two_values : is_other_than (Some (pos 3, pos 4)) (pos 3 ∷ (pos 4 ∷ [])) ≡ true
two_values = refl

-- a branch chooses by its temporary, a jump by none
branch : deciding_operand (op.Branch 7 scalar.Pointer) ≡ Some 7
branch = refl

jump : deciding_operand op.Jump ≡ None
jump = refl
