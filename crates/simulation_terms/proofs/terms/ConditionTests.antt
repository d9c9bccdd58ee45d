-- The tests of conditions name the same objects in both machines.
use Rattle.std.proofs.Common.{◌≡◌, ℤ, pos, Bool, true, false, length, Option, Some, None, refl, sym, subst, ◌∙◌}
use Rattle.cc_base.specs.declared.integer_operators.Rel.{Rel}
use Rattle.cc_base.specs.declared.integer_operators.Rel.TheVariants.{Lt, Le, Gt, Ge, Eq, Ne}
use Rattle.cc_base.specs.declared.int_types.IntType.{IntType}
use Rattle.c_layout.specs.CheckedTrees as tree
use Rattle.c_layout.specs.CheckedTrees.{TermTree, FormTree, Typed}
use Rattle.cfg.specs.declared.flow_edges.Side.{Side}
use Rattle.cfg.specs.declared.flow_edges.Side.TheVariants as side
use Rattle.cfg.specs.declared.machine_instructions.Scalar as declared
use Rattle.cfg.specs.declared.machine_instructions.Scalar.TheVariants as scalar
use Rattle.lower_templates.specs.Worklist.Pieces.{NameView}
use Rattle.lower_templates.specs.Worklist.Plans.{Plan, with_name, name_of_object}
use Rattle.lower_templates.specs.Worklist.Settings.{SettingView}
use Rattle.lower_templates.specs.Worklist.TermKinds as kinds
use Rattle.lower_templates.specs.Worklist.TermKinds.{meaning, relation, integer_type, term_type, common_with_int}
use Rattle.lower_templates.specs.declared.worklist.term_kinds.OperatorMeaning.{OperatorMeaning}
use Rattle.lower_templates.specs.declared.worklist.term_kinds.OperatorMeaning.TheVariants.{Number, Truth}
use Rattle.lower_conditions.specs.Conditions as conditions
use Rattle.lower_conditions.specs.Tests as lowered
use Rattle.lower_conditions.specs.Tests.{Tested, opposite_of, named, named_or_assigned, constant_of, compared_with_null}
use Rattle.lower_conditions.specs.declared.branch_tests.NamedObject.{NamedObject}
use Rattle.lower_template_theorems.specs.Growth.Growth.{Grows}
use Rattle.lower_template_theorems.proofs.growth.Growth.{grows_not, grows_on, grows_name}
use Rattle.memory_model.specs.Effects.Tests as tests
use Rattle.semantics.specs.SourceMachine.Items as item
use Rattle.semantics.specs.SourceMachine.Items.{NamedSide, NamedTest}
use Rattle.semantics.specs.SourceMachine.TermTests as source
use Rattle.simulation_terms.specs.SimulationRelation.Activations.{Activation}
use Rattle.simulation_terms.specs.SimulationRelation.Simulates as simulates
use Rattle.simulation_terms.specs.SimulationRelation.Simulates.{Names, SameSide, SameTest}
use Rattle.simulation_terms.specs.Worklists.TemplateParts.{IsOfUnit, IsKnown}
use Rattle.simulation_terms.proofs.worklists.Runs.{known_before, known_name}

opposites_same : (rel : Rel) → tests.opposite rel ≡ kinds.opposite rel
opposites_same Lt = refl
opposites_same Le = refl
opposites_same Gt = refl
opposites_same Ge = refl
opposites_same Eq = refl
opposites_same Ne = refl

turned_same : (rel : Rel) → tests.turned rel ≡ kinds.turned rel
turned_same Lt = refl
turned_same Le = refl
turned_same Gt = refl
turned_same Ge = refl
turned_same Eq = refl
turned_same Ne = refl

-- a name that was given away is known behind it
pub name_there : (t : Activation) (x : NameView) (p q : Plan) → Grows (with_name x p) q → IsKnown t q → Names t (length p.names) x
unfolding with_name
name_there t x p q g known = known_name t (with_name x p) p.names x (known_before t (with_name x p) q g known) refl

pub keeps_jobs : (x : NameView) (p : Plan) → (with_name x p).jobs ≡ p.jobs
unfolding with_name
keeps_jobs x p = refl

module _ (s : SettingView) (t : Activation) (fits : IsOfUnit t s) where
  -- only names are given away, and where they are known both tests are the same
  pub record Same (x : Option NamedTest) (found : Tested) (p : Plan) : Type 0 where
    pub jobs : found.after.jobs ≡ p.jobs
    pub tests : (q : Plan) → Grows found.after q → IsKnown t q → SameTest t x found.test (opposite_of found.test)

  untested : (p : Plan) → Same None (lowered.tested None p) p
  untested p = record { jobs = refl; tests = λ q g known. simulates.none }

  same_object : (o : NamedObject) (rel : Rel) (named_right : NamedSide) (right : Side) (common : Option IntType) (p q : Plan) → Grows (with_name (name_of_object o.object) p) q → IsKnown t q → SameSide t named_right right
      → SameTest t (Some (source.test_between o rel named_right common)) (lowered.object_test o rel right common p).test (opposite_of (lowered.object_test o rel right common p).test)
  same_object o rel named_right right common p q g known same =
      let left = side.Object (length p.names) o.kind in
      subst (λ r. SameTest t (Some (source.test_between o rel named_right common)) (Some (record { left = left; rel = rel; right = right; common = common })) (Some (record { left = left; rel = r; right = right; common = common }))) (opposites_same rel)
      (simulates.some (source.test_between o rel named_right common) left right (simulates.object o (length p.names) (name_there t (name_of_object o.object) p q g known)) same)

  of_object : (o : NamedObject) (rel : Rel) (named_right : NamedSide) (right : Side) (common : Option IntType) (p : Plan) → SameSide t named_right right → Same (Some (source.test_between o rel named_right common)) (lowered.object_test o rel right common p) p
  of_object o rel named_right right common p same = record { jobs = keeps_jobs (name_of_object o.object) p; tests = λ q g known. same_object o rel named_right right common p q g known same }

  of_relation : (o : NamedObject) (rel : Rel) (common : IntType) (right : Option NamedObject) (value : Option ℤ) (p : Plan) → Same (source.test_with o rel common (source.right_side right value)) (lowered.test_with o rel common (lowered.side_of right value p).side (lowered.side_of right value p).after) p
  of_relation o rel common None None p = untested p
  of_relation o rel common None (Some n) p = of_object o rel (item.number n) (side.Number n) (Some common) p (simulates.number n)
  of_relation o rel common (Some other) value p =
      let first = with_name (name_of_object other.object) p in
      record {
        jobs = keeps_jobs (name_of_object o.object) first ∙ keeps_jobs (name_of_object other.object) p;
        tests = λ q g known. same_object o rel (item.named other) (side.Object (length p.names) other.kind) (Some common) first q g known
            (simulates.object other (length p.names) (name_there t (name_of_object other.object) p q (grows_on first (with_name (name_of_object o.object) first) q (grows_name (name_of_object o.object) first (grows_not first)) g) known));
      }

  of_turned_object : (n : ℤ) (rel : Rel) (o : Option NamedObject) (common : IntType) (p : Plan) → Same (source.turned_test (Some n) rel o common) (lowered.turned_object_test n rel o common p) p
  of_turned_object n rel None common p = untested p
  of_turned_object n rel (Some o) common p = subst (λ r. Same (Some (source.test_between o (tests.turned rel) (item.number n) (Some common))) (lowered.object_test o r (side.Number n) (Some common) p) p) (turned_same rel)
      (of_object o (tests.turned rel) (item.number n) (side.Number n) (Some common) p (simulates.number n))

  of_no_number : (rel : Rel) (o : Option NamedObject) (common : IntType) (right : TermTree) (p : Plan) → Same (source.turned_test None rel o common) (lowered.turned_test None rel right common p) p
  of_no_number rel None common right p = untested p
  of_no_number rel (Some o) common right p = untested p

  of_turned : (n : Option ℤ) (rel : Rel) (right : TermTree) (common : IntType) (p : Plan) → Same (source.turned_test n rel (named right) common) (lowered.turned_test n rel right common p) p
  of_turned None rel right common p = of_no_number rel (named right) common right p
  of_turned (Some n) rel right common p = of_turned_object n rel (named right) common p

  of_integers : (o : Option NamedObject) (left : TermTree) (rel : Rel) (right : TermTree) (p : Plan) → Same (source.relation_test o left rel right) (lowered.relation_test_of o left rel right p) p
  of_integers (Some o) left rel right p = of_relation o rel (integer_type (term_type left)) (named right) (constant_of right) p
  of_integers None left rel right p = of_turned (constant_of left) rel right (integer_type (term_type left)) p

  of_operator : (m : OperatorMeaning) (left right : TermTree) (p : Plan) → Same (source.operator_test m left right) (lowered.operator_test m left right p) p
  of_operator (Truth rel) left right p = of_integers (named_or_assigned left) left rel right p
  of_operator (Number sign) left right p = untested p

  of_null : (o : Option NamedObject) (rel : Rel) (p : Plan) → Same (source.null_test o rel) (lowered.null_test o rel p) p
  of_null None rel p = untested p
  of_null (Some o) rel p = of_object o rel item.nothing side.Null None p simulates.nothing

  of_zero_kind : (o : NamedObject) (kind : declared.Scalar) (p : Plan) → Same (source.zero_test_of t.unit o kind) (lowered.zero_test_of o kind s.int_bytes p) p
  of_zero_kind o (scalar.Int kind) p =
      subst (λ bytes. Same (Some (source.test_between o Ne (item.number (pos 0)) (Some (common_with_int kind t.unit.model.int)))) (lowered.object_test o Ne (side.Number (pos 0)) (Some (common_with_int kind bytes)) p) p) (sym fits.int)
      (of_object o Ne (item.number (pos 0)) (side.Number (pos 0)) (Some (common_with_int kind t.unit.model.int)) p (simulates.number (pos 0)))
  of_zero_kind o scalar.Pointer p = of_object o Ne item.nothing side.Null None p simulates.nothing

  of_zero : (o : Option NamedObject) (p : Plan) → Same (source.zero_test t.unit o) (lowered.own_test_of o s.int_bytes p) p
  of_zero None p = untested p
  of_zero (Some o) p = of_zero_kind o o.kind p

  of_form : (e : TermTree) (form : FormTree) (p : Plan) → Same (source.test_of_form t.unit e form) (lowered.test_of_form s e form p) p
  of_form e (tree.Integer sign left right) p = of_operator (meaning sign) left right p
  of_form e (tree.Compare sign left right) p = of_null (compared_with_null left right) (relation sign) p
  of_form e other p = of_zero (named_or_assigned e) p

  of_term : (e : TermTree) (p : Plan) → Same (source.test_of t.unit e) (lowered.test_of s e p) p
  of_term (Typed at ctype parens constant form) p = of_form (Typed at ctype parens constant form) form p

  pub tested_alike : (e : TermTree) (is_test : Bool) (p : Plan) → Same (source.test_if t.unit is_test e) (conditions.test_if s e is_test p) p
  tested_alike e true p = of_term e p
  tested_alike e false p = untested p
