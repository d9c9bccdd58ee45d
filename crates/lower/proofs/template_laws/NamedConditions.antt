-- Conditions name what is there.
use Rattle.std.proofs.Common.{◌≡◌, ℕ, ℤ, Bool, true, false, List, [], ◌∷◌, ◌++◌, length, Option, Some, None, refl, sym, subst}
use Rattle.std.proofs.lemmas.List.{append-nil}
use Rattle.cc_base.specs.declared.integer_operators.Rel.{Rel}
use Rattle.cc_base.specs.declared.int_types.IntType.{IntType}
use Rattle.c_layout.specs.Types.{Ty}
use Rattle.c_layout.specs.CheckedTrees as tree
use Rattle.c_layout.specs.CheckedTrees.{TermTree, FormTree, Typed}
use Rattle.lower_conditions.specs.Conditions.{condition, test_if, tested_branch, known_by}
use Rattle.lower_conditions.specs.Tests.{Tested, named, constant_of, MaybeSided, side_of, right_side, object_test, test_with, turned_object_test, turned_test, relation_test_of, named_or_assigned, compared_with_null, null_test, zero_test_of, own_test_of, operator_test, test_of_form, test_of, opposite_of}
use Rattle.lower_conditions.specs.declared.branch_tests.NamedObject.{NamedObject}
use Rattle.cfg.specs.declared.flow_edges.Side.{Side}
use Rattle.cfg.specs.declared.flow_edges.Side.TheVariants as side
use Rattle.cfg.specs.declared.flow_edges.Test.{Test}
use Rattle.cfg.specs.declared.machine_instructions.Scalar.{Scalar}
use Rattle.cfg.specs.declared.machine_instructions.Scalar.TheVariants as scalar
use Rattle.lower_templates.specs.Worklist.Acts.{Branch}
use Rattle.lower_templates.specs.Worklist.Pieces.{NameView, End}
use Rattle.lower_templates.specs.Worklist.Works as jobs
use Rattle.lower_templates.specs.Worklist.Plans.{Plan, with_work, name_of_object}
use Rattle.lower_templates.specs.Worklist.Settings.{SettingView}
use Rattle.lower_templates.specs.Worklist.TermKinds.{meaning, integer_type, term_type, term_at, scalar_of, relation}
use Rattle.lower_templates.specs.declared.worklist.pending_works.Decision.{Decision}
use Rattle.lower_templates.specs.declared.worklist.term_kinds.OperatorMeaning.{OperatorMeaning}
use Rattle.lower_templates.specs.declared.worklist.term_kinds.OperatorMeaning.TheVariants.{Number, Truth}
use Rattle.lower_expressions.specs.Branches.{branch_exits}
use Rattle.lower_functions.proofs.TermPlans.{kept_value}
use Rattle.lower_functions.proofs.ConditionPlans.{kept_on_leaves}
use Rattle.lower.specs.TemplateLaws.NamedBases.{named_in_side, named_in_test, named_on_exits}
use Rattle.lower.proofs.template_laws.NamedLists.{IsKnown, known_none, known_append, known_name, known_fresh, known_work, Balanced, bal_known, bal_name}
use Rattle.lower.proofs.template_laws.NamedWorks.{balanced, object_site}

-- what is planned behind a test, whose bases are known
record TestKnown (w : Option Ty → ℕ) (start : List NameView) (t : Tested) : Type 0 where
  after : Balanced w start t.after
  known : IsKnown w t.after.names (named_in_test t.test)

abbrev in_maybe : Option Side → List ℕ
in_maybe None = []
in_maybe (Some s) = named_in_side s

record SideKnown (w : Option Ty → ℕ) (start : List NameView) (s : MaybeSided) : Type 0 where
  after : Balanced w start s.after
  known : IsKnown w s.after.names (in_maybe s.side)

no_test : {w : Option Ty → ℕ} {start : List NameView} (p : Plan) → Balanced w start p → TestKnown w start (record { test = None; after = p })
no_test {w = w} p bal = record { after = bal; known = known_none w p.names }

object_known : {w : Option Ty → ℕ} {start : List NameView} (o : NamedObject) (rel : Rel) (right : Side) (common : Option IntType) (p : Plan) → IsKnown w p.names (named_in_side right) → Balanced w start p → TestKnown w start (object_test o rel right common p)
object_known {w = w} o rel right common p known bal =
    let x = name_of_object o.object in
    record {
      after = bal_name x p (object_site w o.object) bal;
      known = known_append w _ (length p.names ∷ []) (named_in_side right) (known_fresh x p (object_site w o.object)) (known_name x (named_in_side right) p known);
    }

side_known : {w : Option Ty → ℕ} {start : List NameView} (o : Option NamedObject) (constant : Option ℤ) (p : Plan) → Balanced w start p → SideKnown w start (side_of o constant p)
side_known {w = w} (Some o) constant p bal = let x = name_of_object o.object in record { after = bal_name x p (object_site w o.object) bal; known = known_fresh x p (object_site w o.object) }
side_known {w = w} None None p bal = record { after = bal; known = known_none w p.names }
side_known {w = w} None (Some n) p bal = record { after = bal; known = known_none w p.names }

with_side_known : {w : Option Ty → ℕ} {start : List NameView} (o : NamedObject) (rel : Rel) (common : IntType) (right : Option Side) (p : Plan) → IsKnown w p.names (in_maybe right) → Balanced w start p → TestKnown w start (test_with o rel common right p)
with_side_known o rel common None p known bal = no_test p bal
with_side_known o rel common (Some right) p known bal = object_known o rel right (Some common) p known bal

turned_object_known : {w : Option Ty → ℕ} {start : List NameView} (n : ℤ) (rel : Rel) (o : Option NamedObject) (common : IntType) (p : Plan) → Balanced w start p → TestKnown w start (turned_object_test n rel o common p)
turned_object_known n rel None common p bal = no_test p bal
turned_object_known {w = w} n rel (Some o) common p bal = object_known o _ (side.Number n) (Some common) p (known_none w p.names) bal

turned_known : {w : Option Ty → ℕ} {start : List NameView} (n : Option ℤ) (rel : Rel) (right : TermTree) (common : IntType) (p : Plan) → Balanced w start p → TestKnown w start (turned_test n rel right common p)
turned_known None rel right common p bal = no_test p bal
turned_known (Some n) rel right common p bal = turned_object_known n rel (named right) common p bal

relation_known : {w : Option Ty → ℕ} {start : List NameView} (o : Option NamedObject) (left : TermTree) (rel : Rel) (right : TermTree) (p : Plan) → Balanced w start p → TestKnown w start (relation_test_of o left rel right p)
relation_known (Some o) left rel right p bal =
    let r = side_known (named right) (constant_of right) p bal in with_side_known o rel (integer_type (term_type left)) (right_side right p).side (right_side right p).after r.known r.after
relation_known None left rel right p bal = turned_known (constant_of left) rel right (integer_type (term_type left)) p bal

null_known : {w : Option Ty → ℕ} {start : List NameView} (o : Option NamedObject) (rel : Rel) (p : Plan) → Balanced w start p → TestKnown w start (null_test o rel p)
null_known None rel p bal = no_test p bal
null_known {w = w} (Some o) rel p bal = object_known o rel side.Null None p (known_none w p.names) bal

zero_known : {w : Option Ty → ℕ} {start : List NameView} (o : NamedObject) (kind : Scalar) (bytes : ℕ) (p : Plan) → Balanced w start p → TestKnown w start (zero_test_of o kind bytes p)
zero_known {w = w} o (scalar.Int kind) bytes p bal = object_known o _ _ _ p (known_none w p.names) bal
zero_known {w = w} o scalar.Pointer bytes p bal = object_known o _ side.Null None p (known_none w p.names) bal

own_known : {w : Option Ty → ℕ} {start : List NameView} (o : Option NamedObject) (bytes : ℕ) (p : Plan) → Balanced w start p → TestKnown w start (own_test_of o bytes p)
own_known None bytes p bal = no_test p bal
own_known (Some o) bytes p bal = zero_known o o.kind bytes p bal

operator_known : {w : Option Ty → ℕ} {start : List NameView} (m : OperatorMeaning) (left right : TermTree) (p : Plan) → Balanced w start p → TestKnown w start (operator_test m left right p)
operator_known (Truth rel) left right p bal = relation_known (named_or_assigned left) left rel right p bal
operator_known (Number sign) left right p bal = no_test p bal

form_known : {w : Option Ty → ℕ} {start : List NameView} (s : SettingView) (e : TermTree) (form : FormTree) (p : Plan) → Balanced w start p → TestKnown w start (test_of_form s e form p)
form_known s e (tree.Integer sign left right) p bal = operator_known (meaning sign) left right p bal
form_known s e (tree.Compare sign left right) p bal = null_known (compared_with_null left right) (relation sign) p bal
form_known s e _ p bal = own_known (named_or_assigned e) s.int_bytes p bal

test_known : {w : Option Ty → ℕ} {start : List NameView} (s : SettingView) (e : TermTree) (p : Plan) → Balanced w start p → TestKnown w start (test_of s e p)
test_known s (Typed at t parens constant form) p bal = form_known s (Typed at t parens constant form) form p bal

test_if_known : {w : Option Ty → ℕ} {start : List NameView} (s : SettingView) (e : TermTree) (b : Bool) (p : Plan) → Balanced w start p → TestKnown w start (test_if s e b p)
test_if_known s e true p bal = test_known s e p bal
test_if_known s e false p bal = no_test p bal

-- the opposite test names the same
same_opposite : (t : Option Test) → named_in_test (opposite_of t) ≡ named_in_test t
same_opposite None = refl
same_opposite (Some t) = refl

-- both edges of a branch
both_known : (w : Option Ty → ℕ) (names : List NameView) (t : Option Test) → IsKnown w names (named_in_test t) → IsKnown w names (named_in_test t ++ (named_in_test (opposite_of t) ++ []))
both_known w names t known = known_append w names (named_in_test t) _ known (subst (IsKnown w names) (sym (append-nil (named_in_test (opposite_of t)))) (subst (IsKnown w names) (sym (same_opposite t)) known))

bal_tested : {w : Option Ty → ℕ} {start : List NameView} (e : TermTree) (d : Decision) (found : Tested) → TestKnown w start found → Balanced w start (tested_branch e d found)
bal_tested {w = w} {start = start} e d found t =
    let valued = with_work (jobs.Value e d.depth) found.after in
    let exits = branch_exits d.targets (known_by found.test) in
    bal_known (jobs.Ready (End (record { at = term_at e; does = Branch d.depth (scalar_of (term_type e)) }) exits)) valued
    (known_work (jobs.Value e d.depth) (named_on_exits exits) found.after (both_known w found.after.names found.test t.known))
    (kept_value (balanced w start) e d.depth found.after t.after)

pub bal_condition_works : {w : Option Ty → ℕ} {start : List NameView} (s : SettingView) (e : TermTree) (d : Decision) (p : Plan) → Balanced w start p → Balanced w start (condition s e d p)
bal_condition_works {w = w} {start = start} s e d p bal = kept_on_leaves (balanced w start) (λ t c x q b. bal_tested c x (test_if t c x.is_test q) (test_if_known t c x.is_test q b)) s e d p bal
