-- The tree and the checked unit as values in memory, and what they are without it.
use Rattle.std.specs.Prelude.{◌≡◌, ℕ, ℤ, pos, false, List, [], ◌∷◌, Option, Some, None, codes}
use Rattle.std.specs.Global.{Vec, Box}
use Rattle.std.proofs.Common.{arith, ap, sym, ◌∙◌}
use Rattle.cc_base.specs.declared.diagnostics.Place.{Place}
use Rattle.cc_base.specs.declared.int_types.IntType.{IntType}
use Rattle.c_layout.specs.Models.{lp64}
use Rattle.c_layout.specs.Types as types
use Rattle.c_layout.specs.Types.{Ty, view}
use Rattle.c_layout.specs.SyntaxTrees as syntax
use Rattle.c_layout.specs.SyntaxTrees.{Tree, tree_of, tree_step}
use Rattle.c_layout.specs.DeclarationTrees as declaration
use Rattle.c_layout.specs.DeclarationTrees.{ExternalTree, StatementTree, SpecTree, spec_tree, statement_tree, unit_tree}
use Rattle.c_layout.specs.CheckedTrees as checked
use Rattle.c_layout.specs.CheckedTrees.{FormTree, TermTree, Typed, term_tree}
use Rattle.c_layout.specs.CheckedUnits.{UnitView, unit_view}
use Rattle.c_layout.specs.declared.struct_table.StructType.{StructType}
use Rattle.c_layout.specs.declared.type_terms.CType.{CType, fold-roll-CType}
use Rattle.c_layout.specs.declared.type_terms.CType.TheVariants as ctype
use Rattle.c_layout.specs.declared.type_terms.CType.TheOpen as ctype_layer
use Rattle.c_layout.specs.declared.syntax_tree.declarations.External.TheVariants as external
use Rattle.c_layout.specs.declared.syntax_tree.declarations.Parameters.TheVariants as parameters
use Rattle.c_layout.specs.declared.syntax_tree.declarations.Tree7.{Tree7}
use Rattle.c_layout.specs.declared.syntax_tree.declarations.TypeWord.{TypeWord}
use Rattle.c_layout.specs.declared.syntax_tree.declarations.TypeWord.TheVariants as type_word
use Rattle.c_layout.specs.declared.syntax_tree.declarations.SpecWord.{SpecWord, SpecWord-F, fold-roll-SpecWord}
use Rattle.c_layout.specs.declared.syntax_tree.declarations.SpecWord.TheVariants as word
use Rattle.c_layout.specs.declared.syntax_tree.statements.Statement.{Statement, Statement-F, fold-roll-Statement}
use Rattle.c_layout.specs.declared.syntax_tree.statements.Statement.TheVariants as statement
use Rattle.c_layout.specs.declared.syntax_tree.expressions.Constant.{Constant}
use Rattle.c_layout.specs.declared.syntax_tree.expressions.Expr.{Expr, fold-roll-Expr}
use Rattle.c_layout.specs.declared.syntax_tree.expressions.Expr.TheVariants as variant
use Rattle.c_layout.specs.declared.syntax_tree.expressions.Expr.TheOpen.{Expr-F}
use Rattle.c_layout.specs.declared.syntax_tree.expressions.BinaryOp.{BinaryOp}
use Rattle.c_layout.specs.declared.syntax_tree.expressions.BinaryOp.TheVariants as binary
use Rattle.c_layout.specs.declared.checked_tree.checked_terms.TermForm.{TermForm, TermForm-F, roll-TermForm, fold-roll-TermForm}
use Rattle.c_layout.specs.declared.checked_tree.checked_terms.TermForm.TheVariants as form
use Rattle.c_layout.specs.declared.checked_tree.checked_terms.CheckedTerm.{CheckedTerm, fold-roll-CheckedTerm}
use Rattle.c_layout.specs.declared.checked_tree.checked_statements.CheckedStatement.{CheckedStatement, CheckedStatement-F, fold-roll-CheckedStatement}
use Rattle.c_layout.specs.declared.checked_tree.checked_statements.CheckedStatement.TheVariants as checked_statement
use Rattle.c_layout.specs.declared.checked_tree.checked_units.Checked.{Checked}
use Rattle.c_layout.specs.declared.checked_tree.checked_units.Function.{Function}
use Rattle.cli_examples.specs.Units.WorkedPlaces.{at}
use Rattle.cli_examples.specs.Units.WorkedTrees.{int, constant, quotient, tree_with, number_term, quotient_term, checked_unit}
use Rattle.cli_examples.proofs.units.Built.{made, none, boxed}

-- ---- what single values are

constant_tree : (p : Place) (c : Constant) → tree_of (variant.Constant p c) ≡ syntax.Number p c
constant_tree p c = ap (λ (e : Expr). tree_of e) (sym (variant.rolls-Constant p c)) ∙ fold-roll-Expr Tree tree_step (Expr-F.Constant p c)

binary_tree : (p : Place) (op : BinaryOp) (a b : Box Expr) → tree_of (variant.Binary p op a b) ≡ syntax.Binary p op (tree_of a.value) (tree_of b.value)
binary_tree p op a b = ap (λ (e : Expr). tree_of e) (sym (variant.rolls-Binary p op a b)) ∙ fold-roll-Expr Tree tree_step (Expr-F.Binary p op a b)

word_tree : (p : Place) (w : TypeWord) → spec_tree (word.Type p w) ≡ declaration.TypeOf p w
word_tree p w = ap (λ (x : SpecWord). spec_tree x) (sym (word.rolls-Type p w)) ∙ fold-roll-SpecWord _ _ _ _ (SpecWord-F.Type p w)

return_tree : (p : Place) (e : Option Expr) → statement_tree (statement.Return p e) ≡ declaration.Return p (elim e [ None ↦ None | Some x ↦ Some (tree_of x) ])
return_tree p e = ap (λ (x : Statement). statement_tree x) (sym (statement.rolls-Return p e)) ∙ fold-roll-Statement _ _ (Statement-F.Return p e)

int_view : (k : IntType) → view (ctype.Int k) ≡ types.Int k
int_view k = ap (λ (t : CType). view t) (sym (ctype.rolls-Int k)) ∙ fold-roll-CType _ _ (ctype_layer.CType-F.Int k)

number_is : (p : Place) (t : CType) (n : ℤ) (c : Option ℤ) → term_tree (record { place = p; ctype = t; parens = 0; constant = c; form = form.Number n }) ≡ Typed p (view t) 0 c (checked.Number n)
number_is p t n c =
    ap (λ (f : TermForm). term_tree (record { place = p; ctype = t; parens = 0; constant = c; form = f })) (sym (form.rolls-Number n))
    ∙ (fold-roll-CheckedTerm _ _ _ _ _ _ _ _ (record { place = p; ctype = t; parens = 0; constant = c; form = roll-TermForm (TermForm-F.Number n) })
    ∙ ap (λ (f : FormTree). Typed p (view t) 0 c f) (fold-roll-TermForm _ _ _ _ _ _ _ _ (TermForm-F.Number n)))

integer_is : (p : Place) (t : CType) (op : BinaryOp) (a b : Box CheckedTerm) (c : Option ℤ)
    → term_tree (record { place = p; ctype = t; parens = 0; constant = c; form = form.Integer op a b }) ≡ Typed p (view t) 0 c (checked.Integer op (term_tree a.value) (term_tree b.value))
integer_is p t op a b c =
    ap (λ (f : TermForm). term_tree (record { place = p; ctype = t; parens = 0; constant = c; form = f })) (sym (form.rolls-Integer op a b))
    ∙ (fold-roll-CheckedTerm _ _ _ _ _ _ _ _ (record { place = p; ctype = t; parens = 0; constant = c; form = roll-TermForm (TermForm-F.Integer op a b) })
    ∙ ap (λ (f : FormTree). Typed p (view t) 0 c f) (fold-roll-TermForm _ _ _ _ _ _ _ _ (TermForm-F.Integer op a b)))

return_checked : (p : Place) (e : Option CheckedTerm) → checked.statement_tree (checked_statement.Return p e) ≡ checked.Return p (elim e [ None ↦ None | Some x ↦ Some (term_tree x) ])
return_checked p e = ap (λ (x : CheckedStatement). checked.statement_tree x) (sym (checked_statement.rolls-Return p e)) ∙ fold-roll-CheckedStatement _ _ (CheckedStatement-F.Return p e)

-- ---- the tree

module _ {Y : Type 0} (some : Vec Y) where
  abbrev number_value : ℕ → ℕ → Expr
  number_value column value = variant.Constant (at column) (constant value)

  abbrev quotient_value : Expr
  quotient_value = variant.Binary (at 24) binary.Divide (boxed some (number_value 23 1)) (boxed some (number_value 25 0))

  quotient_value_is : tree_of quotient_value ≡ quotient 0
  quotient_value_is =
      binary_tree (at 24) binary.Divide (boxed some (number_value 23 1)) (boxed some (number_value 25 0))
      ∙ (ap (λ (x : Tree). syntax.Binary (at 24) binary.Divide x (tree_of (number_value 25 0))) (constant_tree (at 23) (constant 1))
      ∙ ap (λ (y : Tree). syntax.Binary (at 24) binary.Divide (syntax.Number (at 23) (constant 1)) y) (constant_tree (at 25) (constant 0)))

  abbrev return_value : Statement
  return_value = statement.Return (at 16) (Some quotient_value)

  return_value_is : statement_tree return_value ≡ declaration.Return (at 16) (Some (quotient 0))
  return_value_is = return_tree (at 16) (Some quotient_value) ∙ ap (λ (e : Tree). declaration.Return (at 16) (Some e)) quotient_value_is

  abbrev pub tree : Tree7
  tree = record {
    externals = made some (external.Function (at 1) (made some (word.Type (at 1) type_word.Int ∷ []) (omega arith))
        (record { stars = none some; name = record { place = at 5; text = codes "main" }; parameters = parameters.Void }) (made some (return_value ∷ []) (omega arith)) ∷ []) (omega arith);
  }

  abbrev defined : SpecTree → StatementTree → List ExternalTree
  defined w s = declaration.Defined (at 1) (w ∷ []) (record { stars = []; name = record { at = at 5; text = codes "main" }; parameters = declaration.OnlyVoid }) (s ∷ []) ∷ []

  pub tree_is : unit_tree tree ≡ tree_with 0
  tree_is =
      ap (λ (w : SpecTree). defined w (statement_tree return_value)) (word_tree (at 1) type_word.Int)
      ∙ ap (λ (s : StatementTree). defined (declaration.TypeOf (at 1) type_word.Int) s) return_value_is

  -- ---- the checked unit

  abbrev pub int_type : CType
  int_type = ctype.Int int

  abbrev pub number_checked : ℕ → ℕ → CheckedTerm
  number_checked column value = record { place = at column; ctype = int_type; parens = 0; constant = Some (pos value); form = form.Number (pos value) }

  number_checked_is : (column value : ℕ) → term_tree (number_checked column value) ≡ number_term column value
  number_checked_is column value =
      number_is (at column) int_type (pos value) (Some (pos value)) ∙ ap (λ (t : Ty). Typed (at column) t 0 (Some (pos value)) (checked.Number (pos value))) (int_view int)

  abbrev pub quotient_checked : CheckedTerm
  quotient_checked = record { place = at 24; ctype = int_type; parens = 0; constant = None; form = form.Integer binary.Divide (boxed some (number_checked 23 1)) (boxed some (number_checked 25 0)) }

  abbrev divides : Ty → TermTree → TermTree → TermTree
  divides t x y = Typed (at 24) t 0 None (checked.Integer binary.Divide x y)

  quotient_checked_is : term_tree quotient_checked ≡ quotient_term
  quotient_checked_is =
      integer_is (at 24) int_type binary.Divide (boxed some (number_checked 23 1)) (boxed some (number_checked 25 0)) None
      ∙ (ap (λ (t : Ty). divides t (term_tree (number_checked 23 1)) (term_tree (number_checked 25 0))) (int_view int)
      ∙ (ap (λ (x : TermTree). divides (types.Int int) x (term_tree (number_checked 25 0))) (number_checked_is 23 1)
      ∙ ap (λ (y : TermTree). divides (types.Int int) (number_term 23 1) y) (number_checked_is 25 0)))

  abbrev pub return_statement : CheckedStatement
  return_statement = checked_statement.Return (at 16) (Some quotient_checked)

  return_statement_is : checked.statement_tree return_statement ≡ checked.Return (at 16) (Some quotient_term)
  return_statement_is = return_checked (at 16) (Some quotient_checked) ∙ ap (λ (e : TermTree). checked.Return (at 16) (Some e)) quotient_checked_is

  abbrev pub function : Function
  function = record {
    name = codes "main";
    place = at 5;
    result = int_type;
    parameters = 0;
    locals = none some;
    scope = none some;
    body = made some (return_statement ∷ []) (omega arith);
    labels = 0;
  }

  abbrev stream : StructType
  stream = record { fields = none some; complete = false; size = 0; align = 1; leaves = 0; plain_leaves = 0 }

  abbrev pub unit : Checked
  unit = record {
    functions = made some (function ∷ []) (omega arith);
    constants = none some;
    objects = none some;
    structs = record { items = made some (stream ∷ []) (omega arith) };
    literals = none some;
    entry = 0;
    model = lp64;
  }

  abbrev unit_with : Ty → checked.StatementTree → UnitView
  unit_with t s = record checked_unit { functions = record { name = codes "main"; at = at 5; returns = t; parameters = 0; locals = []; scope = []; body = s ∷ []; labels = 0 } ∷ [] }

  pub unit_is : unit_view unit ≡ checked_unit
  unit_is = ap (λ (t : Ty). unit_with t (checked.statement_tree return_statement)) (int_view int) ∙ ap (λ (s : checked.StatementTree). unit_with (types.Int int) s) return_statement_is
