-- Trees whose declarations in functions are items of blocks, or first clauses of `for`: none is the body of a statement.
use Rattle.std.specs.Prelude.{◌≡◌, true, is_none, List, [], ◌∷◌}
use Rattle.c_layout.specs.DeclarationTrees as syntax
use Rattle.c_layout.specs.DeclarationTrees.{StatementTree, StatementTrees, ExternalTree, Declared, Defined, statement_trees}
use Rattle.c_types_statements.specs.Statements.{declaration_of}

abbrev pub IsNoDeclaration : StatementTree → Type 0
IsNoDeclaration t = is_none (declaration_of t) ≡ true

abbrev mutual
  pub DeclaresInBlocks : StatementTree → Type 0
  DeclaresInBlocks (syntax.Declaration l) = Unit {0}
  DeclaresInBlocks (syntax.Label n t) = IsNoDeclaration t × DeclaresInBlocks t
  DeclaresInBlocks (syntax.Case at e t) = IsNoDeclaration t × DeclaresInBlocks t
  DeclaresInBlocks (syntax.Default at t) = IsNoDeclaration t × DeclaresInBlocks t
  DeclaresInBlocks (syntax.Block at ts) = DeclareInBlocks ts
  DeclaresInBlocks (syntax.Expression at e) = Unit {0}
  DeclaresInBlocks (syntax.If at e t) = IsNoDeclaration t × DeclaresInBlocks t
  DeclaresInBlocks (syntax.IfElse at e t u) = (IsNoDeclaration t × DeclaresInBlocks t) × (IsNoDeclaration u × DeclaresInBlocks u)
  DeclaresInBlocks (syntax.Switch at e t) = IsNoDeclaration t × DeclaresInBlocks t
  DeclaresInBlocks (syntax.While at e t) = IsNoDeclaration t × DeclaresInBlocks t
  DeclaresInBlocks (syntax.Do at t e) = IsNoDeclaration t × DeclaresInBlocks t
  DeclaresInBlocks (syntax.For at f e step t) = IsNoDeclaration t × DeclaresInBlocks t
  DeclaresInBlocks (syntax.Goto at n) = Unit {0}
  DeclaresInBlocks (syntax.Continue at) = Unit {0}
  DeclaresInBlocks (syntax.Break at) = Unit {0}
  DeclaresInBlocks (syntax.Return at e) = Unit {0}

  pub DeclareInBlocks : StatementTrees → Type 0
  DeclareInBlocks syntax.NoStatement = Unit {0}
  DeclareInBlocks (syntax.MoreStatements t ts) = DeclaresInBlocks t × DeclareInBlocks ts

abbrev pub ExternalInBlocks : ExternalTree → Type 0
ExternalInBlocks (Declared at words ds) = Unit {0}
ExternalInBlocks (Defined at words f body) = DeclareInBlocks (statement_trees body)

abbrev pub UnitInBlocks : List ExternalTree → Type 0
UnitInBlocks [] = Unit {0}
UnitInBlocks (e ∷ es) = ExternalInBlocks e × UnitInBlocks es
