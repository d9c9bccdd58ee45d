-- In trees that the grammar derives declarations of functions' bodies are items of blocks.
use Rattle.std.proofs.Common.{◌≡◌, ℕ, Bool, true, false, List, [], ◌∷◌, refl}
use Rattle.std.specs.Prelude.{take, drop, is_none}
use Rattle.c_layout.specs.DeclarationTrees as tree
use Rattle.c_layout.specs.DeclarationTrees.{StatementTree, StatementTrees, ExternalTree, Declared, Defined, Prototype, statement_trees}
use Rattle.c_parser_tokens.specs.declared.terminals.Terminal.{Terminal}
use Rattle.c_parser_declarations.specs.Grammar.StorageClasses.{is_typedef}
use Rattle.c_parser.specs.Statements.{DeriveStatement, DeriveStatements, is_statement}
use Rattle.c_parser.specs.Externals.{with_declared, in_force, IsExternal, ArePieces}
use Rattle.c_parser.specs.Pieces.{piece_length}
use Rattle.c_types_well_formed_units.specs.Scoped.BlockDeclarations.{IsNoDeclaration, DeclaresInBlocks, DeclareInBlocks, ExternalInBlocks, UnitInBlocks}

no_declaration : (s : StatementTree) → is_statement s ≡ true → IsNoDeclaration s
no_declaration (tree.Declaration l) h = absurd (let d : ⊥ = cc in d)
no_declaration (tree.Label n s) h = refl
no_declaration (tree.Case at e s) h = refl
no_declaration (tree.Default at s) h = refl
no_declaration (tree.Block at ss) h = refl
no_declaration (tree.Expression at e) h = refl
no_declaration (tree.If at e s) h = refl
no_declaration (tree.IfElse at e s t) h = refl
no_declaration (tree.Switch at e s) h = refl
no_declaration (tree.While at e s) h = refl
no_declaration (tree.Do at s e) h = refl
no_declaration (tree.For at first e step s) h = refl
no_declaration (tree.Goto at n) h = refl
no_declaration (tree.Continue at) h = refl
no_declaration (tree.Break at) h = refl
no_declaration (tree.Return at e) h = refl

mutual
  in_blocks : (s : StatementTree) (known : List (List ℕ)) (ts rest : List Terminal) → DeriveStatement s known ts rest → DeclaresInBlocks s
  in_blocks (tree.Declaration l) known ts rest is = tt
  in_blocks (tree.Label n s) known ts rest (a, b, named, colon, some, inner) = (no_declaration s some, in_blocks s known b rest inner)
  in_blocks (tree.Case at e s) known ts rest (place, a, b, c, word, value, colon, some, inner) = (no_declaration s some, in_blocks s known c rest inner)
  in_blocks (tree.Default at s) known ts rest (place, a, b, word, colon, some, inner) = (no_declaration s some, in_blocks s known b rest inner)
  in_blocks (tree.Block at items) known ts rest (place, a, b, opens, inside, shut) = all_in_blocks items known a b inside
  in_blocks (tree.Expression at e) known ts rest is = tt
  in_blocks (tree.If at e s) known ts rest (place, a, b, word, value, some, inner) = (no_declaration s some, in_blocks s known b rest inner)
  in_blocks (tree.IfElse at e s t) known ts rest (place, a, b, c, d, word, value, some, shut, first, other, more, second) = ((no_declaration s some, in_blocks s known b c first), (no_declaration t more, in_blocks t known d rest second))
  in_blocks (tree.Switch at e s) known ts rest (place, a, b, word, value, some, inner) = (no_declaration s some, in_blocks s known b rest inner)
  in_blocks (tree.While at e s) known ts rest (place, a, b, word, value, some, inner) = (no_declaration s some, in_blocks s known b rest inner)
  in_blocks (tree.Do at s e) known ts rest (place, a, b, c, d, word, some, inner, loops, value, ends) = (no_declaration s some, in_blocks s known a b inner)
  in_blocks (tree.For at first e step s) known ts rest (place, a, b, c, d, f, g, i, word, opens, begins, test, ends, steps, shut, some, inner) = (no_declaration s some, in_blocks s known i rest inner)
  in_blocks (tree.Goto at n) known ts rest is = tt
  in_blocks (tree.Continue at) known ts rest is = tt
  in_blocks (tree.Break at) known ts rest is = tt
  in_blocks (tree.Return at e) known ts rest is = tt

  all_in_blocks : (ss : StatementTrees) (known : List (List ℕ)) (ts rest : List Terminal) → DeriveStatements ss known ts rest → DeclareInBlocks ss
  all_in_blocks tree.NoStatement known ts rest is = tt
  all_in_blocks (tree.MoreStatements s ss) known ts rest (a, one, more) = (in_blocks s known ts a one, all_in_blocks ss known a rest more)

external_in_blocks : (known : List (List ℕ)) (e : ExternalTree) (ts rest : List Terminal) → IsExternal known e ts rest → ExternalInBlocks e
external_in_blocks known (Declared at words ds) ts rest is = tt
external_in_blocks known (Defined at words f body) ts rest (place, a, b, spec, head, block) = all_in_blocks (statement_trees body) (with_declared (is_typedef words) known (Prototype f)) block.inside block.last block.derive

pub pieces_in_blocks : (es : List ExternalTree) (known : List (List ℕ)) (ts rest : List Terminal) → ArePieces es known ts rest → UnitInBlocks es
pieces_in_blocks [] known ts rest is = tt
pieces_in_blocks (e ∷ es) known ts rest (one, more) = (external_in_blocks known e (take (piece_length ts) ts) [] one.derives, pieces_in_blocks es (in_force known e) (drop (piece_length ts) ts) rest more)
