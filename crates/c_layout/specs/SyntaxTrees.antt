-- Trees of expressions, as contracts see them: without the memory in which they stand.
use Rattle.std.specs.Prelude.{ℕ, List, [], ◌∷◌, map}
use Rattle.cc_base.specs.declared.diagnostics.Place.{Place}
use Rattle.c_layout.specs.declared.syntax_tree.expressions.Constant.{Constant}
use Rattle.c_layout.specs.declared.syntax_tree.expressions.StepOp.{StepOp}
use Rattle.c_layout.specs.declared.syntax_tree.expressions.UnaryOp.{UnaryOp}
use Rattle.c_layout.specs.declared.syntax_tree.expressions.BinaryOp.{BinaryOp}
use Rattle.c_layout.specs.declared.syntax_tree.expressions.LogicalOp.{LogicalOp}
use Rattle.c_layout.specs.declared.syntax_tree.expressions.AssignOp.{AssignOp}
use Rattle.c_layout.specs.declared.syntax_tree.expressions.TypeNameWord.{TypeNameWord}
use Rattle.c_layout.specs.declared.syntax_tree.expressions.Brackets.{Brackets}
use Rattle.c_layout.specs.declared.syntax_tree.expressions.AbstractLayer.{AbstractLayer}
use Rattle.c_layout.specs.declared.syntax_tree.expressions.TypeName.{TypeName}
use Rattle.c_layout.specs.declared.syntax_tree.expressions.Expr.{Expr, fold-Expr}
use Rattle.c_layout.specs.declared.syntax_tree.expressions.Expr.TheOpen.{Expr-F}

-- the stars before and the brackets behind one level of parentheses
pub record LayerView : Type 0 where
  pub stars : List ℕ
  pub arrays : List Brackets

-- a type name: its words and its layers, from the outermost to the innermost
pub record TypeNameView : Type 0 where
  pub words : List TypeNameWord
  pub layers : List LayerView

mutual
  pub data Tree : Type 0 where
    Name : (at : Place) (text : List ℕ) → Tree
    Number : (at : Place) (value : Constant) → Tree
    Literal : (at : Place) (bytes : List ℕ) → Tree
    Paren : (at : Place) (inner : Tree) → Tree
    Subscript : (at : Place) (array index : Tree) → Tree
    Call : (at : Place) (name : List ℕ) (arguments : Trees) → Tree
    Member : (at : Place) (object : Tree) (name : List ℕ) → Tree
    Arrow : (at : Place) (pointer : Tree) (name : List ℕ) → Tree
    Postfix : (at : Place) (op : StepOp) (operand : Tree) → Tree
    Prefix : (at : Place) (op : StepOp) (operand : Tree) → Tree
    Unary : (at : Place) (op : UnaryOp) (operand : Tree) → Tree
    SizeofExpr : (at : Place) (operand : Tree) → Tree
    SizeofType : (at : Place) (type_name : TypeNameView) (lengths : Trees) → Tree
    Cast : (at : Place) (type_name : TypeNameView) (lengths : Trees) (operand : Tree) → Tree
    Binary : (at : Place) (op : BinaryOp) (left right : Tree) → Tree
    Logical : (at : Place) (op : LogicalOp) (left right : Tree) → Tree
    Conditional : (at : Place) (condition first second : Tree) → Tree
    Assign : (at : Place) (op : AssignOp) (left right : Tree) → Tree
    Comma : (at : Place) (first second : Tree) → Tree

  pub data Trees : Type 0 where
    End : Trees
    More : (first : Tree) (rest : Trees) → Trees

abbrev pub trees : List Tree → Trees
trees [] = End
trees (t ∷ ts) = More t (trees ts)

abbrev pub layer_view : AbstractLayer → LayerView
layer_view l = record { stars = l.stars.items; arrays = l.arrays.items }

abbrev pub type_name_view : TypeName → TypeNameView
type_name_view t = record { words = t.words.items; layers = map layer_view t.layers.items }

abbrev pub tree_step : Expr-F Tree → Tree
tree_step (Expr-F.Name p text) = Name p text
tree_step (Expr-F.Constant p c) = Number p c
tree_step (Expr-F.Literal p text) = Literal p text
tree_step (Expr-F.Paren p e) = Paren p e.value
tree_step (Expr-F.Subscript p a b) = Subscript p a.value b.value
tree_step (Expr-F.Call p name args) = Call p name (trees args.items)
tree_step (Expr-F.Member p e name) = Member p e.value name
tree_step (Expr-F.Arrow p e name) = Arrow p e.value name
tree_step (Expr-F.Postfix p op e) = Postfix p op e.value
tree_step (Expr-F.Prefix p op e) = Prefix p op e.value
tree_step (Expr-F.Unary p op e) = Unary p op e.value
tree_step (Expr-F.SizeofExpr p e) = SizeofExpr p e.value
tree_step (Expr-F.SizeofType p t lengths) = SizeofType p (type_name_view t) (trees lengths.items)
tree_step (Expr-F.Cast p t lengths e) = Cast p (type_name_view t) (trees lengths.items) e.value
tree_step (Expr-F.Binary p op a b) = Binary p op a.value b.value
tree_step (Expr-F.Logical p op a b) = Logical p op a.value b.value
tree_step (Expr-F.Conditional p a b c) = Conditional p a.value b.value c.value
tree_step (Expr-F.Assign p op a b) = Assign p op a.value b.value
tree_step (Expr-F.Comma p a b) = Comma p a.value b.value

-- the tree that an expression is
abbrev pub tree_of : Expr → Tree
tree_of = fold-Expr Tree tree_step

-- the place of an expression: that of its operator
abbrev pub place_of : Tree → Place
place_of (Name at t) = at
place_of (Number at c) = at
place_of (Literal at t) = at
place_of (Paren at e) = at
place_of (Subscript at a b) = at
place_of (Call at n a) = at
place_of (Member at e n) = at
place_of (Arrow at e n) = at
place_of (Postfix at op e) = at
place_of (Prefix at op e) = at
place_of (Unary at op e) = at
place_of (SizeofExpr at e) = at
place_of (SizeofType at t l) = at
place_of (Cast at t l e) = at
place_of (Binary at op a b) = at
place_of (Logical at op a b) = at
place_of (Conditional at a b c) = at
place_of (Assign at op a b) = at
place_of (Comma at a b) = at
