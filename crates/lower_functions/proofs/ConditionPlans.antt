-- What conditions plan keeps what is closed under it.
use Rattle.std.proofs.Common.{ℕ, ◌+◌, ℤ, Bool, true, false, Option, Some, None, refl}
use Rattle.cc_base.specs.declared.integer_operators.Rel.{Rel}
use Rattle.cc_base.specs.declared.int_types.IntType.{IntType}
use Rattle.c_layout.specs.CheckedTrees as tree
use Rattle.c_layout.specs.CheckedTrees.{TermTree, FormTree, Typed}
use Rattle.c_layout.specs.declared.checked_tree.checked_terms.ObjectRef.{ObjectRef}
use Rattle.cfg.specs.declared.flow_edges.Side.{Side}
use Rattle.cfg.specs.declared.machine_instructions.Scalar.{Scalar}
use Rattle.cfg.specs.declared.machine_instructions.Scalar.TheVariants as scalar
use Rattle.lower_templates.specs.Worklist.Plans.{Plan, with_name, name_of_object}
use Rattle.lower_templates.specs.Worklist.Settings.{SettingView}
use Rattle.lower_templates.specs.Worklist.TermKinds.{meaning, integer_type, term_type, relation}
use Rattle.lower_templates.specs.declared.worklist.pending_works.Decision.{Decision}
use Rattle.lower_templates.specs.declared.worklist.term_kinds.OperatorMeaning.{OperatorMeaning}
use Rattle.lower_templates.specs.declared.worklist.term_kinds.OperatorMeaning.TheVariants.{Number, Truth}
use Rattle.lower_conditions.specs.Conditions.{condition, condition_of_form, leaf_of, tested_branch, test_if, read_by, ReadView}
use Rattle.lower_conditions.specs.Tests.{named, constant_of, side_of, right_side, test_with, turned_object_test, turned_test, relation_test_of, named_or_assigned, compared_with_null, null_test, zero_test_of, own_test_of, operator_test, test_of_form, test_of}
use Rattle.lower_conditions.specs.declared.branch_tests.NamedObject.{NamedObject}
use Rattle.lower_functions.proofs.PlanClosures.{TermClosed, ConditionClosed}
use Rattle.lower_functions.proofs.TermPlans.{kept_value, kept_decision, kept_mark, kept_line}

-- leaves are what each property says of a branch on a test
module _ {P : Plan → Type 0} (c : TermClosed P) (leaf : (s : SettingView) (e : TermTree) (d : Decision) (p : Plan) → P p → P (tested_branch e d (test_if s e d.is_test p))) where
  kept_leaf : (s : SettingView) (e : TermTree) (d : Decision) (r : Option ReadView) (p : Plan) → P p → P (leaf_of s e d r p)
  kept_leaf s e d (Some r) p k = kept_line c r.call.at r.call.arguments d.depth None _ _ p k
  kept_leaf s e d None p k = leaf s e d p k

  kept_decided : (s : SettingView) (e : TermTree) (form : FormTree) (d : Decision) (p : Plan) → P p → P (condition_of_form s e form d p)
  kept_decided s e (tree.Logical sign left right) d p k = kept_decision c right _ _ (kept_mark c (p.labels + 1) _ (kept_decision c left _ _ (kept_mark c p.labels _ (c.labels 2 p k))))
  kept_decided s e (tree.Not inner) d p k = kept_decision c inner _ p k
  kept_decided s e (tree.Conditional test first second) d p k =
      kept_decision c second _ _ (kept_mark c (p.labels + 2) _ (kept_decision c first _ _ (kept_mark c (p.labels + 1) _ (kept_decision c test _ _ (kept_mark c p.labels _ (c.labels 3 p k))))))
  kept_decided s e _ d p k = kept_leaf s e d (read_by e) p k

  pub kept_on_leaves : (s : SettingView) (e : TermTree) (d : Decision) (p : Plan) → P p → P (condition s e d p)
  kept_on_leaves s (Typed at t parens constant form) d p k = kept_decided s (Typed at t parens constant form) form d p k

-- tests name objects, and nothing else
module _ (P : Plan → Type 0) (name : (o : ObjectRef) (p : Plan) → P p → P (with_name (name_of_object o) p)) where
  kept_side : (o : Option NamedObject) (constant : Option ℤ) (p : Plan) → P p → P (side_of o constant p).after
  kept_side (Some o) constant p k = name o.object p k
  kept_side None constant p k = k

  kept_test_with : (o : NamedObject) (rel : Rel) (common : IntType) (right : Option Side) (p : Plan) → P p → P (test_with o rel common right p).after
  kept_test_with o rel common None p k = k
  kept_test_with o rel common (Some right) p k = name o.object p k

  kept_turned_object : (n : ℤ) (rel : Rel) (o : Option NamedObject) (common : IntType) (p : Plan) → P p → P (turned_object_test n rel o common p).after
  kept_turned_object n rel None common p k = k
  kept_turned_object n rel (Some o) common p k = name o.object p k

  kept_turned : (n : Option ℤ) (rel : Rel) (right : TermTree) (common : IntType) (p : Plan) → P p → P (turned_test n rel right common p).after
  kept_turned None rel right common p k = k
  kept_turned (Some n) rel right common p k = kept_turned_object n rel (named right) common p k

  kept_relation : (o : Option NamedObject) (left : TermTree) (rel : Rel) (right : TermTree) (p : Plan) → P p → P (relation_test_of o left rel right p).after
  kept_relation (Some o) left rel right p k = kept_test_with o rel (integer_type (term_type left)) (right_side right p).side (right_side right p).after (kept_side (named right) (constant_of right) p k)
  kept_relation None left rel right p k = kept_turned (constant_of left) rel right (integer_type (term_type left)) p k

  kept_null : (o : Option NamedObject) (rel : Rel) (p : Plan) → P p → P (null_test o rel p).after
  kept_null None rel p k = k
  kept_null (Some o) rel p k = name o.object p k

  kept_zero : (o : NamedObject) (kind : Scalar) (bytes : ℕ) (p : Plan) → P p → P (zero_test_of o kind bytes p).after
  kept_zero o (scalar.Int kind) bytes p k = name o.object p k
  kept_zero o scalar.Pointer bytes p k = name o.object p k

  kept_own : (o : Option NamedObject) (bytes : ℕ) (p : Plan) → P p → P (own_test_of o bytes p).after
  kept_own None bytes p k = k
  kept_own (Some o) bytes p k = kept_zero o o.kind bytes p k

  kept_operator : (m : OperatorMeaning) (left right : TermTree) (p : Plan) → P p → P (operator_test m left right p).after
  kept_operator (Truth rel) left right p k = kept_relation (named_or_assigned left) left rel right p k
  kept_operator (Number sign) left right p k = k

  kept_test_form : (s : SettingView) (e : TermTree) (form : FormTree) (p : Plan) → P p → P (test_of_form s e form p).after
  kept_test_form s e (tree.Integer sign left right) p k = kept_operator (meaning sign) left right p k
  kept_test_form s e (tree.Compare sign left right) p k = kept_null (compared_with_null left right) (relation sign) p k
  kept_test_form s e _ p k = kept_own (named_or_assigned e) s.int_bytes p k

  kept_test : (s : SettingView) (e : TermTree) (p : Plan) → P p → P (test_of s e p).after
  kept_test s (Typed at t parens constant form) p k = kept_test_form s (Typed at t parens constant form) form p k

  pub kept_test_if : (s : SettingView) (e : TermTree) (b : Bool) (p : Plan) → P p → P (test_if s e b p).after
  kept_test_if s e true p k = kept_test s e p k
  kept_test_if s e false p k = k

module _ {P : Plan → Type 0} (c : ConditionClosed P) where
  kept_tested : (s : SettingView) (e : TermTree) (d : Decision) (p : Plan) → P p → P (tested_branch e d (test_if s e d.is_test p))
  kept_tested s e d p k = c.branch _ _ _ refl (tt, (tt, tt)) (kept_value c.terms e d.depth _ (kept_test_if P c.name s e d.is_test p k))

  pub kept_condition : (s : SettingView) (e : TermTree) (d : Decision) (p : Plan) → P p → P (condition s e d p)
  kept_condition s e d p k = kept_on_leaves c.terms kept_tested s e d p k
