-- Trees whose constants have types of the data model, with their values, and whose literals are of bytes.
use Rattle.std.specs.Prelude.{◌≡◌, ℕ, true, List}
use Rattle.cc_base.specs.IntegerTypes.{in_type}
use Rattle.c_layout.specs.SyntaxTrees as syntax
use Rattle.c_layout.specs.SyntaxTrees.{Tree, Trees}
use Rattle.c_layout.specs.declared.data_model.Model.{Model}
use Rattle.c_layout.specs.declared.syntax_tree.expressions.Constant.{Constant}
use Rattle.c_types_primary.specs.Primaries.{constant_value}
use Rattle.c_layout.specs.ByteTexts.{are_bytes}
use Rattle.c_types_well_formed.specs.WellFormed.ModelTypes.{IsKindOf}

pub record IsProperConstant (m : Model) (c : Constant) : Type 0 where
  pub kind : IsKindOf m c.kind
  pub fits : in_type c.kind (constant_value c) ≡ true

abbrev pub IsProperLiteral : List ℕ → Type 0
IsProperLiteral bytes = are_bytes bytes ≡ true

abbrev mutual
  pub IsProperTree : Model → Tree → Type 0
  IsProperTree m (syntax.Name at text) = Unit {0}
  IsProperTree m (syntax.Number at c) = IsProperConstant m c
  IsProperTree m (syntax.Literal at bytes) = IsProperLiteral bytes
  IsProperTree m (syntax.Paren at e) = IsProperTree m e
  IsProperTree m (syntax.Subscript at a b) = IsProperTree m a × IsProperTree m b
  IsProperTree m (syntax.Call at name es) = AreProperTrees m es
  IsProperTree m (syntax.Member at e name) = IsProperTree m e
  IsProperTree m (syntax.Arrow at e name) = IsProperTree m e
  IsProperTree m (syntax.Postfix at op e) = IsProperTree m e
  IsProperTree m (syntax.Prefix at op e) = IsProperTree m e
  IsProperTree m (syntax.Unary at op e) = IsProperTree m e
  IsProperTree m (syntax.SizeofExpr at e) = IsProperTree m e
  IsProperTree m (syntax.SizeofType at n es) = AreProperTrees m es
  IsProperTree m (syntax.Cast at n es e) = AreProperTrees m es × IsProperTree m e
  IsProperTree m (syntax.Binary at op a b) = IsProperTree m a × IsProperTree m b
  IsProperTree m (syntax.Logical at op a b) = IsProperTree m a × IsProperTree m b
  IsProperTree m (syntax.Conditional at a b c) = IsProperTree m a × (IsProperTree m b × IsProperTree m c)
  IsProperTree m (syntax.Assign at op a b) = IsProperTree m a × IsProperTree m b
  IsProperTree m (syntax.Comma at a b) = IsProperTree m a × IsProperTree m b

  pub AreProperTrees : Model → Trees → Type 0
  AreProperTrees m syntax.End = Unit {0}
  AreProperTrees m (syntax.More e es) = IsProperTree m e × AreProperTrees m es
