-- What conditions plan names what their trees name.
use Rattle.std.proofs.Common.{ℕ, ℤ, Bool, true, false, cond, Option, Some, None}
use Rattle.cc_base.specs.declared.diagnostics.Place.{Place}
use Rattle.cc_base.specs.declared.integer_operators.Rel.{Rel}
use Rattle.cc_base.specs.declared.int_types.IntType.{IntType}
use Rattle.c_layout.specs.CheckedTrees as tree
use Rattle.c_layout.specs.CheckedTrees.{TermTree, FormTree, Typed, LvalueTree, LvalueFormTree, Designates}
use Rattle.c_layout.specs.declared.checked_tree.checked_terms.ConversionKind.TheVariants.{Implicit}
use Rattle.c_layout.specs.declared.syntax_tree.expressions.BinaryOp.{BinaryOp}
use Rattle.c_layout.specs.declared.syntax_tree.expressions.BinaryOp.TheVariants as binary
use Rattle.lower_conditions.specs.Conditions.{condition, condition_of_form, leaf_of, test_if, read_by, read_by_form, read_test, compared_read, line_call, line_call_in, line_call_in_form, line_call_beside, LineCallView, ReadView}
use Rattle.lower_conditions.specs.Tests as tests
use Rattle.lower_conditions.specs.Tests.{named, named_form, named_lvalue, constant_of, side_of, right_side, test_with, turned_object_test, turned_test, relation_test_of, named_or_assigned, compared_with_null, null_test, zero_test_of, own_test_of, operator_test, test_of_form, test_of}
use Rattle.lower_conditions.specs.declared.branch_tests.NamedObject.{NamedObject}
use Rattle.lower_expressions.specs.Calls.{reads_line}
use Rattle.cfg.specs.declared.flow_edges.Side.{Side}
use Rattle.cfg.specs.declared.machine_instructions.Scalar.{Scalar}
use Rattle.cfg.specs.declared.machine_instructions.Scalar.TheVariants as scalar
use Rattle.lower_templates.specs.Worklist.Pieces.{NameView}
use Rattle.lower_templates.specs.Worklist.Plans.{Plan, name_of_object}
use Rattle.lower_templates.specs.Worklist.Settings.{SettingView}
use Rattle.lower_templates.specs.Worklist.TermKinds.{meaning, integer_type, scalar_of, term_type, term_form, relation, peeled, loaded, assigned, is_null_constant}
use Rattle.lower_templates.specs.declared.worklist.pending_works.Decision.{Decision}
use Rattle.lower_templates.specs.declared.worklist.term_kinds.OperatorMeaning.{OperatorMeaning}
use Rattle.lower_templates.specs.declared.worklist.term_kinds.OperatorMeaning.TheVariants.{Number, Truth}
use Rattle.lower_template_theorems.specs.Names.NamedTrees.{NamesTerm, NamesForm, NamesTerms, NamesLvalue, NamesPlace}
use Rattle.lower_template_theorems.proofs.names.NamingWorks.{IsNaming, names_name, names_argued, works}

-- ---- what is named in a test

-- an object that is named is such
abbrev pub NamesObject : (NameView → Type 0) → Option NamedObject → Type 0
NamesObject Q None = Unit {0}
NamesObject Q (Some o) = Q (name_of_object o.object)

abbrev NamesFound : (NameView → Type 0) → Option LvalueTree → Type 0
NamesFound Q None = Unit {0}
NamesFound Q (Some l) = NamesLvalue Q l

module _ (Q : NameView → Type 0) where
  object_in : (kind : Scalar) (form : LvalueFormTree) → NamesPlace Q form → NamesObject Q (named_form kind form)
  object_in kind (tree.Object o) is = is
  object_in kind other is = tt

  object_at : (l : LvalueTree) → NamesLvalue Q l → NamesObject Q (named_lvalue l)
  object_at (Designates at t parens form) is = object_in (scalar_of t) form is

  object_found : (l : Option LvalueTree) → NamesFound Q l → NamesObject Q (tests.named_by l)
  object_found None is = tt
  object_found (Some l) is = object_at l is

  peeled_names : (e : TermTree) → NamesTerm Q e → NamesTerm Q (peeled e)
  peeled_names (Typed at t parens constant (tree.Convert Implicit e)) is = peeled_names e is
  peeled_names (Typed at t parens constant form) is = is

  form_names : (e : TermTree) → NamesTerm Q e → NamesForm Q (term_form e)
  form_names (Typed at t parens constant form) is = is

  loaded_names : (form : FormTree) → NamesForm Q form → NamesFound Q (loaded form)
  loaded_names (tree.Load l) is = is
  loaded_names other is = tt

  assigned_names : (form : FormTree) → NamesForm Q form → NamesFound Q (assigned form)
  assigned_names (tree.Assign l e) is = is.0
  assigned_names other is = tt

  pub named_names : (e : TermTree) → NamesTerm Q e → NamesObject Q (named e)
  named_names e is = object_found (loaded (term_form (peeled e))) (loaded_names (term_form (peeled e)) (form_names (peeled e) (peeled_names e is)))

  or_names : (a b : Option NamedObject) → NamesObject Q a → NamesObject Q b → NamesObject Q (tests.or_else a b)
  or_names (Some o) b x y = x
  or_names None b x y = y

  either_names : (e : TermTree) → NamesTerm Q e → NamesObject Q (named_or_assigned e)
  either_names e is = or_names (named e) _ (named_names e is) (object_found (assigned (term_form (peeled e))) (assigned_names (term_form (peeled e)) (form_names (peeled e) (peeled_names e is))))

  cond_names : (b : Bool) (x y : Option NamedObject) → NamesObject Q x → NamesObject Q y → NamesObject Q (cond b x y)
  cond_names true x y a b = a
  cond_names false x y a b = b

  null_names : (left right : TermTree) → NamesTerm Q left → NamesTerm Q right → NamesObject Q (compared_with_null left right)
  null_names left right a b = cond_names (is_null_constant right) _ _ (either_names left a) (cond_names (is_null_constant left) _ None (named_names right b) tt)

-- ---- a line that is read

abbrev NamesRead : (NameView → Type 0) → Option ReadView → Type 0
NamesRead Q None = Unit {0}
NamesRead Q (Some r) = NamesTerms Q r.call.arguments

abbrev NamesCall : (NameView → Type 0) → Option LineCallView → Type 0
NamesCall Q None = Unit {0}
NamesCall Q (Some c) = NamesTerms Q c.arguments

module _ (Q : NameView → Type 0) where
  call_cond : (b : Bool) (x y : Option LineCallView) → NamesCall Q x → NamesCall Q y → NamesCall Q (cond b x y)
  call_cond true x y a b = a
  call_cond false x y a b = b

  call_form : (at : Place) (form : FormTree) → NamesForm Q form → NamesCall Q (line_call_in_form at form)
  call_form at (tree.Library function args target) is = call_cond (reads_line function) _ None is tt
  call_form at other is = tt

  call_in : (e : TermTree) → NamesTerm Q e → NamesCall Q (line_call_in e)
  call_in (Typed at t parens constant form) is = call_form at form is

  call_names : (e : TermTree) → NamesTerm Q e → NamesCall Q (line_call e)
  call_names e is = call_in (peeled e) (peeled_names Q e is)

  beside_names : (left right : TermTree) → NamesTerm Q left → NamesTerm Q right → NamesCall Q (line_call_beside left right)
  beside_names left right a b = call_cond (is_null_constant right) _ _ (call_names left a) (call_cond (is_null_constant left) _ None (call_names right b) tt)

  read_names : (c : Option LineCallView) (wants_line : Bool) → NamesCall Q c → NamesRead Q (read_test c wants_line)
  read_names None wants_line is = tt
  read_names (Some c) wants_line is = is

  compared_names : (sign : BinaryOp) (left right : TermTree) → NamesTerm Q left → NamesTerm Q right → NamesRead Q (compared_read sign left right)
  compared_names binary.Equal left right a b = read_names (line_call_beside left right) false (beside_names left right a b)
  compared_names binary.NotEqual left right a b = read_names (line_call_beside left right) true (beside_names left right a b)
  compared_names other left right a b = tt

  read_form : (e : TermTree) (form : FormTree) → NamesTerm Q e → NamesForm Q form → NamesRead Q (read_by_form e form)
  read_form e (tree.Compare sign left right) whole is = compared_names sign left right is.0 is.1
  read_form e other whole is = read_names (line_call e) true (call_names e whole)

  read_by_names : (e : TermTree) → NamesTerm Q e → NamesRead Q (read_by e)
  read_by_names (Typed at t parens constant form) is = read_form (Typed at t parens constant form) form is is

-- ---- tests

names_side : {Q : NameView → Type 0} (o : Option NamedObject) (constant : Option ℤ) (p : Plan) → NamesObject Q o → IsNaming Q p → IsNaming Q (side_of o constant p).after
names_side (Some o) constant p is known = names_name (name_of_object o.object) p is known
names_side None constant p is known = known

names_test_with : {Q : NameView → Type 0} (o : NamedObject) (rel : Rel) (common : IntType) (right : Option Side) (p : Plan) → Q (name_of_object o.object) → IsNaming Q p → IsNaming Q (test_with o rel common right p).after
names_test_with o rel common None p is known = known
names_test_with o rel common (Some right) p is known = names_name (name_of_object o.object) p is known

names_turned_object : {Q : NameView → Type 0} (n : ℤ) (rel : Rel) (o : Option NamedObject) (common : IntType) (p : Plan) → NamesObject Q o → IsNaming Q p → IsNaming Q (turned_object_test n rel o common p).after
names_turned_object n rel None common p is known = known
names_turned_object n rel (Some o) common p is known = names_name (name_of_object o.object) p is known

names_turned : {Q : NameView → Type 0} (n : Option ℤ) (rel : Rel) (right : TermTree) (common : IntType) (p : Plan) → NamesTerm Q right → IsNaming Q p → IsNaming Q (turned_test n rel right common p).after
names_turned None rel right common p is known = known
names_turned {Q = Q} (Some n) rel right common p is known = names_turned_object n rel (named right) common p (named_names Q right is) known

names_relation : {Q : NameView → Type 0} (o : Option NamedObject) (left : TermTree) (rel : Rel) (right : TermTree) (p : Plan) → NamesObject Q o → NamesTerm Q right → IsNaming Q p → IsNaming Q (relation_test_of o left rel right p).after
names_relation {Q = Q} (Some o) left rel right p is other known = names_test_with o rel (integer_type (term_type left)) (right_side right p).side (right_side right p).after is (names_side (named right) (constant_of right) p (named_names Q right other) known)
names_relation None left rel right p is other known = names_turned (constant_of left) rel right (integer_type (term_type left)) p other known

names_null : {Q : NameView → Type 0} (o : Option NamedObject) (rel : Rel) (p : Plan) → NamesObject Q o → IsNaming Q p → IsNaming Q (null_test o rel p).after
names_null None rel p is known = known
names_null (Some o) rel p is known = names_name (name_of_object o.object) p is known

names_zero : {Q : NameView → Type 0} (o : NamedObject) (kind : Scalar) (bytes : ℕ) (p : Plan) → Q (name_of_object o.object) → IsNaming Q p → IsNaming Q (zero_test_of o kind bytes p).after
names_zero o (scalar.Int kind) bytes p is known = names_name (name_of_object o.object) p is known
names_zero o scalar.Pointer bytes p is known = names_name (name_of_object o.object) p is known

names_own : {Q : NameView → Type 0} (o : Option NamedObject) (bytes : ℕ) (p : Plan) → NamesObject Q o → IsNaming Q p → IsNaming Q (own_test_of o bytes p).after
names_own None bytes p is known = known
names_own (Some o) bytes p is known = names_zero o o.kind bytes p is known

names_operator : {Q : NameView → Type 0} (m : OperatorMeaning) (left right : TermTree) (p : Plan) → NamesTerm Q left → NamesTerm Q right → IsNaming Q p → IsNaming Q (operator_test m left right p).after
names_operator {Q = Q} (Truth rel) left right p first second known = names_relation (named_or_assigned left) left rel right p (either_names Q left first) second known
names_operator (Number sign) left right p first second known = known

names_test_form : {Q : NameView → Type 0} (s : SettingView) (e : TermTree) (form : FormTree) (p : Plan) → NamesTerm Q e → NamesForm Q form → IsNaming Q p → IsNaming Q (test_of_form s e form p).after
names_test_form s e (tree.Integer sign left right) p whole (first, second) known = names_operator (meaning sign) left right p first second known
names_test_form {Q = Q} s e (tree.Compare sign left right) p whole (first, second) known = names_null (compared_with_null left right) (relation sign) p (null_names Q left right first second) known
names_test_form {Q = Q} s e _ p whole is known = names_own (named_or_assigned e) s.int_bytes p (either_names Q e whole) known

names_test : {Q : NameView → Type 0} (s : SettingView) (e : TermTree) (p : Plan) → NamesTerm Q e → IsNaming Q p → IsNaming Q (test_of s e p).after
names_test s (Typed at t parens constant form) p is known = names_test_form s (Typed at t parens constant form) form p is is known

names_test_if : {Q : NameView → Type 0} (s : SettingView) (e : TermTree) (b : Bool) (p : Plan) → NamesTerm Q e → IsNaming Q p → IsNaming Q (test_if s e b p).after
names_test_if s e true p is known = names_test s e p is known
names_test_if s e false p is known = known

names_leaf : {Q : NameView → Type 0} (s : SettingView) (e : TermTree) (d : Decision) (r : Option ReadView) (p : Plan) → NamesTerm Q e → NamesRead Q r → IsNaming Q p → IsNaming Q (leaf_of s e d r p)
names_leaf s e d (Some r) p whole is known = search (works, names_argued) depth 30
names_leaf s e d None p whole is known = let tested = names_test_if s e d.is_test p whole known in search works depth 30

names_condition_form : {Q : NameView → Type 0} (s : SettingView) (e : TermTree) (form : FormTree) (d : Decision) (p : Plan) → NamesTerm Q e → NamesForm Q form → IsNaming Q p → IsNaming Q (condition_of_form s e form d p)
names_condition_form s e (tree.Logical sign left right) d p whole (first, second) known = search works depth 30
names_condition_form s e (tree.Not inner) d p whole is known = search works depth 30
names_condition_form s e (tree.Conditional test first second) d p whole (one, two, three) known = search works depth 30
names_condition_form {Q = Q} s e _ d p whole is known = names_leaf s e d (read_by e) p whole (read_by_names Q e whole) known

pub names_condition_works : {Q : NameView → Type 0} (s : SettingView) (e : TermTree) (d : Decision) (p : Plan) → NamesTerm Q e → IsNaming Q p → IsNaming Q (condition s e d p)
names_condition_works s (Typed at t parens constant form) d p is known = names_condition_form s (Typed at t parens constant form) form d p is is known
