-- The items of terms and conditions come to a step.
use Rattle.std.proofs.Common.{◌≡◌, ℕ, ℤ, Bool, true, false, cond, List, [], ◌∷◌, ◌++◌, Option, Some, None, refl, ap, sym, subst}
use Rattle.cc_base.specs.declared.diagnostics.Place.{Place}
use Rattle.cc_base.specs.declared.int_types.IntType.{IntType}
use Rattle.c_layout.specs.Types.{Ty, same_kind}
use Rattle.c_layout.specs.CheckedUnits.{UnitView}
use Rattle.c_layout.specs.CheckedTrees as tree
use Rattle.c_layout.specs.CheckedTrees.{TermTree, TermTrees, Typed, LvalueTree, Designates}
use Rattle.c_layout.specs.declared.checked_tree.checked_terms.ConversionKind.TheVariants.{Implicit, Cast}
use Rattle.c_layout.specs.declared.library_functions.LibFn.{LibFn}
use Rattle.c_layout.specs.declared.syntax_tree.expressions.BinaryOp.{BinaryOp}
use Rattle.c_layout.specs.declared.syntax_tree.expressions.BinaryOp.TheVariants.{Equal, NotEqual}
use Rattle.c_layout.specs.declared.syntax_tree.expressions.LogicalOp.{LogicalOp}
use Rattle.c_layout.specs.declared.syntax_tree.expressions.LogicalOp.TheVariants.{And, Or}
use Rattle.cfg.specs.declared.machine_instructions.Scalar as declared
use Rattle.cfg.specs.declared.machine_instructions.Scalar.TheVariants as scalar
use Rattle.lower_templates.specs.Worklist.TermKinds.{lvalue_at, is_null_constant}
use Rattle.lower_expressions.specs.Assignments.{keeps_old}
use Rattle.lower_expressions.specs.Calls.{gives, reads_line}
use Rattle.lower_conditions.specs.Conditions.{LineCallView, ReadView, read_by, read_test, line_call, line_call_of, line_call_beside, compared_read}
use Rattle.semantics.specs.SourceMachine.Items as item
use Rattle.semantics.specs.SourceMachine.Items.{Item, items_of}
use Rattle.semantics.specs.SourceMachine.Operations as op
use Rattle.semantics.specs.SourceMachine.TermItems as operands
use Rattle.semantics.specs.SourceMachine.TermItems.{arguments, argument_count, converted, if_used, left_if, kept, store_step, address_items}
use Rattle.semantics.specs.SourceMachine.ConditionItems as source
use Rattle.semantics.specs.SourceMachine.ConditionItems.{term_items, condition, leaf, leaf_by, line_items}
use Rattle.semantics.specs.SourceMachine.SourceStates.{Frame}
use Rattle.simulation_terms.proofs.terms.PlainForms.{some_none, some_same, read_from}
use Rattle.simulation_units.proofs.returns.QuietLists as quiet
use Rattle.simulation_units.proofs.returns.QuietLists.{Normalized, AllSettle, value, unused, address, drop, again, both, if_is_used}

module _ (u : UnitView) (g : ℕ) (callers : List Frame) where
  -- what is proved of a term
  pub record About (e : TermTree) : Type 0 where
    pub used : AllSettle u g callers (term_items u true e)
    pub only : AllSettle u g callers (term_items u false e)
    pub decided : (is_test : Bool) (held failed : List Item) → AllSettle u g callers (condition u is_test e held failed)
    pub reads : (c : LineCallView) → line_call e ≡ Some c → AllSettle u g callers (arguments c.arguments)

  abbrev AboutPlace : LvalueTree → Type 0
  AboutPlace l = AllSettle u g callers (address_items u l)

  abbrev AboutAll : TermTrees → Type 0
  AboutAll args = AllSettle u g callers (arguments args)

  -- ---- one item before others

  gives_value : (e : TermTree) (items : List Item) → About e → AllSettle u g callers items → AllSettle u g callers (item.Value e ∷ items)
  gives_value e items about later = quiet.more (item.Value e) items (value u g callers e about.used) later

  gives_unused : (e : TermTree) (items : List Item) → About e → AllSettle u g callers items → AllSettle u g callers (item.Unused e ∷ items)
  gives_unused e items about later = quiet.more (item.Unused e) items (unused u g callers e about.only) later

  gives_address : (l : LvalueTree) (items : List Item) → AboutPlace l → AllSettle u g callers items → AllSettle u g callers (item.Address l ∷ items)
  gives_address l items about later = quiet.more (item.Address l) items (address u g callers l about) later

  gives_step : (at : Place) (operation : op.Operation) (items : List Item) → AllSettle u g callers (item.Do at operation ∷ items)
  gives_step at operation items = quiet.first (item.Do at operation) items refl

  -- ---- conditions

  line_settles : (r : ReadView) (held failed : item.Items) → AboutAll r.call.arguments → AllSettle u g callers (line_items r r.wants_line held failed)
  line_settles r held failed about = by r.wants_line
    where
      by : (b : Bool) → AllSettle u g callers (line_items r b held failed)
      by true = both u g callers (arguments r.call.arguments) (item.ReadLine r.call.at failed held ∷ []) about (quiet.first _ _ refl)
      by false = both u g callers (arguments r.call.arguments) (item.ReadLine r.call.at held failed ∷ []) about (quiet.first _ _ refl)

  leaf_settles : (is_test : Bool) (e : TermTree) (held failed : List Item) → AllSettle u g callers (term_items u true e) → ((r : ReadView) → read_by e ≡ Some r → AboutAll r.call.arguments) → AllSettle u g callers (leaf u is_test e held failed)
  leaf_settles is_test e held failed all reads = by (read_by e) reads
    where
      by : (o : Option ReadView) → ((r : ReadView) → o ≡ Some r → AboutAll r.call.arguments) → AllSettle u g callers (leaf_by u is_test e o (items_of held) (items_of failed))
      by None reads = quiet.more (item.Value e) _ (value u g callers e all) (quiet.first _ _ refl)
      by (Some r) reads = line_settles r (items_of held) (items_of failed) (reads r refl)

  -- a term that is no call of a line and no comparison with one
  plain : (e : TermTree) → line_call e ≡ None → read_by e ≡ None → ((is_test : Bool) (held failed : List Item) → condition u is_test e held failed ≡ leaf u is_test e held failed) → AllSettle u g callers (term_items u true e) → AllSettle u g callers (term_items u false e) → About e
  plain e no_call no_read items all only = record {
    used = all;
    only = only;
    decided = λ is_test held failed. subst (AllSettle u g callers) (sym (items is_test held failed)) (leaf_settles is_test e held failed all (λ r is. absurd (some_none r (read_by e) no_read is)));
    reads = λ c is. absurd (some_none c (line_call e) no_call is);
  }

  -- one whose items are the same, and dropped where its value is not used
  plainly : (e : TermTree) (items : List Item) → line_call e ≡ None → read_by e ≡ None → ((is_test : Bool) (held failed : List Item) → condition u is_test e held failed ≡ leaf u is_test e held failed) → term_items u true e ≡ if_used true items → term_items u false e ≡ if_used false items → AllSettle u g callers items → About e
  plainly e items no_call no_read is_leaf is_used is_only all = plain e no_call no_read is_leaf (subst (AllSettle u g callers) (sym is_used) (if_is_used u g callers true items all)) (subst (AllSettle u g callers) (sym is_only) (if_is_used u g callers false items all))

  -- ---- forms

  module _ (at : Place) (ctype : Ty) (parens : ℕ) (constant : Option ℤ) where
    abbrev E : tree.FormTree → TermTree
    E form = Typed at ctype parens constant form

    logical_settles : (sign : LogicalOp) (a b : TermTree) → About a → AllSettle u g callers (source.logical sign a b)
    logical_settles And a b about = gives_value a _ about (quiet.first _ _ refl)
    logical_settles Or a b about = gives_value a _ about (quiet.first _ _ refl)

    logical_decided : (sign : LogicalOp) (a b : TermTree) → About a → (is_test : Bool) (held failed : List Item) → AllSettle u g callers (condition u is_test (E (tree.Logical sign a b)) held failed)
    logical_decided And a b about is_test held failed = about.decided is_test _ _
    logical_decided Or a b about is_test held failed = about.decided is_test _ _

    of_logical : (sign : LogicalOp) (a b : TermTree) → About a → About (E (tree.Logical sign a b))
    of_logical sign a b about = record {
      used = if_is_used u g callers true (source.logical sign a b) (logical_settles sign a b about);
      only = if_is_used u g callers false (source.logical sign a b) (logical_settles sign a b about);
      decided = logical_decided sign a b about;
      reads = λ c is. absurd (some_none c None refl is);
    }

    of_not : (a : TermTree) → About a → About (E (tree.Not a))
    of_not a about = record {
      used = gives_value a _ about (gives_step at op.Not []);
      only = if_is_used u g callers false (item.Value a ∷ (item.Do at op.Not ∷ [])) (gives_value a _ about (gives_step at op.Not []));
      decided = λ is_test held failed. about.decided is_test failed held;
      reads = λ c is. absurd (some_none c None refl is);
    }

    of_conditional : (c a b : TermTree) → About c → About (E (tree.Conditional c a b))
    of_conditional c a b about = record {
      used = about.decided true _ _;
      only = about.decided true _ _;
      decided = λ is_test held failed. about.decided true _ _;
      reads = λ c is. absurd (some_none c None refl is);
    }

    compared : (sign : BinaryOp) (a b : TermTree) (r : ReadView) → compared_read sign a b ≡ Some r → line_call_beside a b ≡ Some r.call
    compared Equal a b r e = read_from (line_call_beside a b) false r e
    compared NotEqual a b r e = read_from (line_call_beside a b) true r e
    compared other a b r e = absurd (some_none r None refl e)

    beside : (a b : TermTree) → About a → About b → (c : LineCallView) → line_call_beside a b ≡ Some c → AboutAll c.arguments
    beside a b first second c e = by (is_null_constant b) (is_null_constant a) e
      where
        by : (right left : Bool) → cond right (line_call a) (cond left (line_call b) None) ≡ Some c → AboutAll c.arguments
        by true left e = first.reads c e
        by false true e = second.reads c e
        by false false e = absurd (some_none c None refl e)

    of_compare : (sign : BinaryOp) (a b : TermTree) → About a → About b → About (E (tree.Compare sign a b))
    of_compare sign a b first second =
        let all = gives_value a _ first (gives_value b _ second (gives_step at _ [])) in
        record {
          used = all;
          only = if_is_used u g callers false _ all;
          decided = λ is_test held failed. leaf_settles is_test (E (tree.Compare sign a b)) held failed all (λ r is. beside a b first second r.call (compared sign a b r is));
          reads = λ c is. absurd (some_none c None refl is);
        }

    of_conversion : (a : TermTree) → About a → About (E (tree.Convert Implicit a))
    of_conversion a about =
        let all = gives_value a _ about (gives_step at _ []) in
        record {
          used = all;
          only = if_is_used u g callers false _ all;
          decided = λ is_test held failed. leaf_settles is_test (E (tree.Convert Implicit a)) held failed all (λ r is. about.reads r.call (read_from (line_call a) true r is));
          reads = about.reads;
        }

    left_settles : (gives used : Bool) (items : List Item) → AllSettle u g callers items → AllSettle u g callers (left_if gives used items)
    left_settles true used items all = if_is_used u g callers used items all
    left_settles false used items all = all

    of_call : (function : ℕ) (args : TermTrees) (is_used : Bool) → AboutAll args → About (E (tree.Call function args is_used))
    of_call function args is_used about =
        let all = both u g callers (arguments args) (item.Invoke at function (argument_count args) is_used ∷ []) about (quiet.first _ _ refl) in
        plain (E (tree.Call function args is_used)) refl refl (λ is_test held failed. refl) (left_settles is_used true _ all) (left_settles is_used false _ all)

    of_library : (function : LibFn) (args : TermTrees) (target : Option Ty) → AboutAll args → About (E (tree.Library function args target))
    of_library function args target about =
        let e = E (tree.Library function args target) in
        let all = both u g callers (arguments args) (item.Do at (op.Library function (argument_count args) target) ∷ []) about (gives_step at _ []) in
        record {
          used = left_settles (gives function) true _ all;
          only = left_settles (gives function) false _ all;
          decided = λ is_test held failed. leaf_settles is_test e held failed (left_settles (gives function) true _ all) (λ r is. line_arguments r.call (read_from (line_call_of at function args) true r is));
          reads = line_arguments;
        }
      where
        line_arguments : (c : LineCallView) → line_call_of at function args ≡ Some c → AboutAll c.arguments
        line_arguments c is = by (reads_line function) is
          where
            by : (b : Bool) → cond b (Some (record { at = at; arguments = args })) None ≡ Some c → AboutAll c.arguments
            by true is = subst (λ (c : LineCallView). AboutAll c.arguments) (some_same (record { at = at; arguments = args }) c is) about
            by false is = absurd (some_none c None refl is)

  -- ---- all terms

  assigns : (l : LvalueTree) (a : TermTree) → AboutPlace l → About a → AllSettle u g callers (operands.assignment l a)
  assigns l a place about = gives_address l _ place (gives_value a _ about (gives_step _ _ []))

  mutual
    pub terms : (e : TermTree) → About e
    terms (Typed at ctype parens constant (tree.Number m)) = plainly (Typed at ctype parens constant (tree.Number m)) _ refl refl (λ is_test held failed. refl) refl refl (gives_step at _ [])
    terms (Typed at ctype parens constant (tree.SizeofType k is_pointer)) = plainly (Typed at ctype parens constant (tree.SizeofType k is_pointer)) _ refl refl (λ is_test held failed. refl) refl refl (gives_step at _ [])
    terms (Typed at ctype parens constant (tree.Sizeof k operand is_pointer)) = plainly (Typed at ctype parens constant (tree.Sizeof k operand is_pointer)) _ refl refl (λ is_test held failed. refl) refl refl (gives_step at _ [])
    terms (Typed at ctype parens constant (tree.Load l)) = plainly (Typed at ctype parens constant (tree.Load l)) _ refl refl (λ is_test held failed. refl) refl refl (gives_address l _ (places l) (gives_step _ _ []))
    terms (Typed at ctype parens constant (tree.AddressOf l)) = plainly (Typed at ctype parens constant (tree.AddressOf l)) _ refl refl (λ is_test held failed. refl) refl refl (gives_address l [] (places l) quiet.none)
    terms (Typed at ctype parens constant (tree.Decay l)) = plainly (Typed at ctype parens constant (tree.Decay l)) _ refl refl (λ is_test held failed. refl) refl refl (gives_address l _ (places l) (gives_step _ _ []))
    terms (Typed at ctype parens constant (tree.Convert Implicit a)) = of_conversion at ctype parens constant a (terms a)
    terms (Typed at ctype parens constant (tree.Convert Cast a)) = plainly (Typed at ctype parens constant (tree.Convert Cast a)) _ refl refl (λ is_test held failed. refl) refl refl (gives_value a _ (terms a) (gives_step at _ []))
    terms (Typed at ctype parens constant (tree.Discard a)) = plain (Typed at ctype parens constant (tree.Discard a)) refl refl (λ is_test held failed. refl) (gives_unused a [] (terms a) quiet.none) (gives_unused a [] (terms a) quiet.none)
    terms (Typed at ctype parens constant (tree.Plus a)) = plainly (Typed at ctype parens constant (tree.Plus a)) _ refl refl (λ is_test held failed. refl) refl refl (gives_value a [] (terms a) quiet.none)
    terms (Typed at ctype parens constant (tree.Minus a)) = plainly (Typed at ctype parens constant (tree.Minus a)) _ refl refl (λ is_test held failed. refl) refl refl (gives_value a _ (terms a) (gives_step at _ []))
    terms (Typed at ctype parens constant (tree.Complement a)) = plainly (Typed at ctype parens constant (tree.Complement a)) _ refl refl (λ is_test held failed. refl) refl refl (gives_value a _ (terms a) (gives_step at _ []))
    terms (Typed at ctype parens constant (tree.Not a)) = of_not at ctype parens constant a (terms a)
    terms (Typed at ctype parens constant (tree.Integer sign a b)) = plainly (Typed at ctype parens constant (tree.Integer sign a b)) _ refl refl (λ is_test held failed. refl) refl refl (gives_value a _ (terms a) (gives_value b _ (terms b) (gives_step at _ [])))
    terms (Typed at ctype parens constant (tree.Shift back size a b)) = plainly (Typed at ctype parens constant (tree.Shift back size a b)) _ refl refl (λ is_test held failed. refl) refl refl (gives_value a _ (terms a) (gives_value b _ (terms b) (gives_step at _ [])))
    terms (Typed at ctype parens constant (tree.Difference size a b)) = plainly (Typed at ctype parens constant (tree.Difference size a b)) _ refl refl (λ is_test held failed. refl) refl refl (gives_value a _ (terms a) (gives_value b _ (terms b) (gives_step at _ [])))
    terms (Typed at ctype parens constant (tree.Compare sign a b)) = of_compare at ctype parens constant sign a b (terms a) (terms b)
    terms (Typed at ctype parens constant (tree.Logical sign a b)) = of_logical at ctype parens constant sign a b (terms a)
    terms (Typed at ctype parens constant (tree.Conditional c a b)) = of_conditional at ctype parens constant c a b (terms c)
    terms (Typed at ctype parens constant (tree.Comma a b)) = plain (Typed at ctype parens constant (tree.Comma a b)) refl refl (λ is_test held failed. refl) (gives_unused a _ (terms a) (gives_value b [] (terms b) quiet.none)) (gives_unused a _ (terms a) (gives_unused b [] (terms b) quiet.none))
    terms (Typed at ctype parens constant (tree.Assign l a)) = plainly (Typed at ctype parens constant (tree.Assign l a)) _ refl refl (λ is_test held failed. refl) refl refl (assigns l a (places l) (terms a))
    terms (Typed at ctype parens constant (tree.Compound sign kind l a)) = plainly (Typed at ctype parens constant (tree.Compound sign kind l a)) _ refl refl (λ is_test held failed. refl) refl refl (gives_address l _ (places l) (gives_value a _ (terms a) (gives_step _ _ _)))
    terms (Typed at ctype parens constant (tree.CompoundShift back size l a)) = plainly (Typed at ctype parens constant (tree.CompoundShift back size l a)) _ refl refl (λ is_test held failed. refl) refl refl (gives_address l _ (places l) (gives_value a _ (terms a) (gives_step _ _ _)))
    terms (Typed at ctype parens constant (tree.Step sign time kind l)) = plain (Typed at ctype parens constant (tree.Step sign time kind l)) refl refl (λ is_test held failed. refl) (gives_address l _ (places l) (gives_step _ _ _)) (gives_address l _ (places l) (gives_step _ _ _))
    terms (Typed at ctype parens constant (tree.StepPointer sign time size l)) = plain (Typed at ctype parens constant (tree.StepPointer sign time size l)) refl refl (λ is_test held failed. refl) (gives_address l _ (places l) (gives_step _ _ _)) (gives_address l _ (places l) (gives_step _ _ _))
    terms (Typed at ctype parens constant (tree.Struct l)) = plainly (Typed at ctype parens constant (tree.Struct l)) _ refl refl (λ is_test held failed. refl) refl refl (gives_address l [] (places l) quiet.none)
    terms (Typed at ctype parens constant (tree.Call function args is_used)) = of_call at ctype parens constant function args is_used (lists args)
    terms (Typed at ctype parens constant (tree.Library function args target)) = of_library at ctype parens constant function args target (lists args)

    pub places : (l : LvalueTree) → AboutPlace l
    places (Designates at ctype parens (tree.Object o)) = quiet.first _ _ refl
    places (Designates at ctype parens (tree.Literal i)) = quiet.first _ _ refl
    places (Designates at ctype parens (tree.Target e)) = gives_value e [] (terms e) quiet.none
    places (Designates at ctype parens (tree.Member outer offset)) = gives_address outer _ (places outer) (gives_step at _ [])
    places (Designates at ctype parens (tree.Copied target source)) = gives_address target _ (places target) (gives_address source _ (places source) (gives_step _ _ []))
    places (Designates at ctype parens (tree.Then left right)) = gives_unused left _ (terms left) (gives_address right [] (places right) quiet.none)

    pub lists : (args : TermTrees) → AboutAll args
    lists tree.End = quiet.none
    lists (tree.More e rest) = gives_value e _ (terms e) (lists rest)
