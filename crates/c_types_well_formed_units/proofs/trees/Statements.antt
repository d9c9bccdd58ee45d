-- Statements and units over proper terminals are proper.
use Rattle.std.proofs.Common.{◌≡◌, ℕ, zero, suc, Bool, List, [], ◌∷◌, Option, Some, None}
use Rattle.std.specs.Prelude.{take, drop}
use Rattle.c_layout.specs.SyntaxTrees.{Tree}
use Rattle.c_layout.specs.DeclarationTrees as tree
use Rattle.c_layout.specs.DeclarationTrees.{ForFirstView, InitDeclaratorView, StatementTree, StatementTrees, ExternalTree, Declared, Defined, Prototype, statement_trees}
use Rattle.c_layout.specs.declared.data_model.Model.{Model}
use Rattle.c_parser_tokens.specs.declared.terminals.Terminal.{Terminal}
use Rattle.c_parser_tokens.specs.declared.terminals.Keyword.TheVariants as k
use Rattle.c_parser_tokens.specs.declared.terminals.Punctuator.TheVariants as p
use Rattle.c_parser_declarations.specs.Grammar.StorageClasses.{is_typedef}
use Rattle.c_parser.specs.Statements.{Maybe, Condition, FirstClause, DeriveStatement, DeriveStatements, IsBlock}
use Rattle.c_parser.specs.Externals.{with_declared, in_force, IsFileDeclarator, Further, FileDeclarators, IsExternal, ArePieces}
use Rattle.c_parser.specs.Pieces.{piece_length}
use Rattle.c_types_well_formed.specs.WellFormed.ProperTrees.{IsProperTree}
use Rattle.c_types_well_formed.specs.WellFormed.ProperStatements.{IsProperIf, IsProperFirst, IsProperStatement, AreProperStatements, AreProperInitDeclarators, IsProperExternal, AreProperExternals}
use Rattle.c_types_well_formed_units.specs.Trees.ByteTokens.{AreProperTerminals}
use Rattle.c_types_well_formed_units.proofs.trees.Fronts as front
use Rattle.c_types_well_formed_units.proofs.trees.Expressions.{derived}
use Rattle.c_types_well_formed_units.proofs.trees.Declarations.{specified, function, initializes, local}

module _ (m : Model) where
  -- ---- statements

  maybe : (known : List (List ℕ)) (e : Option Tree) (ts rest : List Terminal) → Maybe known e ts rest → AreProperTerminals m ts → IsProperIf m e × AreProperTerminals m rest
  maybe known None ts rest is h = (tt, front.same m ts rest is h)
  maybe known (Some e) ts rest is h = derived m e known 0 ts rest is h

  condition : (known : List (List ℕ)) (e : Tree) (ts rest : List Terminal) → Condition known e ts rest → AreProperTerminals m ts → IsProperTree m e × AreProperTerminals m rest
  condition known e ts rest (a, b, opens, is, shut) h =
      let x = derived m e known 0 a b is (front.sign m p.LeftParenthesis ts a opens h) in
      (x.0, front.sign m p.RightParenthesis b rest shut x.1)

  first_clause : (known : List (List ℕ)) (f : ForFirstView) (ts rest : List Terminal) → FirstClause known f ts rest → AreProperTerminals m ts → IsProperFirst m f × AreProperTerminals m rest
  first_clause known tree.NoClause ts rest is h = (tt, front.sign m p.Semicolon ts rest is h)
  first_clause known (tree.Clause e) ts rest (a, is, ends) h =
      let x = derived m e known 0 ts a is h in
      (x.0, front.sign m p.Semicolon a rest ends x.1)
  first_clause known (tree.Declares l) ts rest is h = local m known l ts rest is h

  mutual
    statement : (s : StatementTree) (known : List (List ℕ)) (ts rest : List Terminal) → DeriveStatement s known ts rest → AreProperTerminals m ts → IsProperStatement m s × AreProperTerminals m rest
    statement (tree.Declaration l) known ts rest is h = local m known l ts rest is h
    statement (tree.Label n s) known ts rest (a, b, named, colon, some, inner) h = statement s known b rest inner (front.sign m p.Colon a b colon (front.name m known n.at n.text ts a named h))
    statement (tree.Case at e s) known ts rest (place, a, b, c, word, value, colon, some, inner) h =
        let x = derived m e known 2 a b value (front.word m k.Case ts a word h) in
        let y = statement s known c rest inner (front.sign m p.Colon b c colon x.1) in
        ((x.0, y.0), y.1)
    statement (tree.Default at s) known ts rest (place, a, b, word, colon, some, inner) h = statement s known b rest inner (front.sign m p.Colon a b colon (front.word m k.Default ts a word h))
    statement (tree.Block at items) known ts rest (place, a, b, opens, inside, shut) h =
        let x = statements items known a b inside (front.sign m p.LeftBrace ts a opens h) in
        (x.0, front.sign m p.RightBrace b rest shut x.1)
    statement (tree.Expression at e) known ts rest (place, a, value, ends) h =
        let x = maybe known e ts a value h in
        (x.0, front.sign m p.Semicolon a rest ends x.1)
    statement (tree.If at e s) known ts rest (place, a, b, word, value, some, inner) h =
        let x = condition known e a b value (front.word m k.If ts a word h) in
        let y = statement s known b rest inner x.1 in
        ((x.0, y.0), y.1)
    statement (tree.IfElse at e s t) known ts rest (place, a, b, c, d, word, value, some, shut, first, other, more, second) h =
        let x = condition known e a b value (front.word m k.If ts a word h) in
        let y = statement s known b c first x.1 in
        let z = statement t known d rest second (front.word m k.Else c d other y.1) in
        ((x.0, (y.0, z.0)), z.1)
    statement (tree.Switch at e s) known ts rest (place, a, b, word, value, some, inner) h =
        let x = condition known e a b value (front.word m k.Switch ts a word h) in
        let y = statement s known b rest inner x.1 in
        ((x.0, y.0), y.1)
    statement (tree.While at e s) known ts rest (place, a, b, word, value, some, inner) h =
        let x = condition known e a b value (front.word m k.While ts a word h) in
        let y = statement s known b rest inner x.1 in
        ((x.0, y.0), y.1)
    statement (tree.Do at s e) known ts rest (place, a, b, c, d, word, some, inner, loops, value, ends) h =
        let x = statement s known a b inner (front.word m k.Do ts a word h) in
        let y = condition known e c d value (front.word m k.While b c loops x.1) in
        ((x.0, y.0), front.sign m p.Semicolon d rest ends y.1)
    statement (tree.For at first e step s) known ts rest (place, a, b, c, d, f, g, i, word, opens, begins, test, ends, steps, shut, some, inner) h =
        let x = first_clause known first b c begins (front.sign m p.LeftParenthesis a b opens (front.word m k.For ts a word h)) in
        let y = maybe known e c d test x.1 in
        let z = maybe known step f g steps (front.sign m p.Semicolon d f ends y.1) in
        let v = statement s known i rest inner (front.sign m p.RightParenthesis g i shut z.1) in
        ((x.0, (y.0, (z.0, v.0))), v.1)
    statement (tree.Goto at n) known ts rest (place, a, b, word, named, ends) h = (tt, front.sign m p.Semicolon b rest ends (front.name m known n.at n.text a b named (front.word m k.Goto ts a word h)))
    statement (tree.Continue at) known ts rest (place, a, word, ends) h = (tt, front.sign m p.Semicolon a rest ends (front.word m k.Continue ts a word h))
    statement (tree.Break at) known ts rest (place, a, word, ends) h = (tt, front.sign m p.Semicolon a rest ends (front.word m k.Break ts a word h))
    statement (tree.Return at e) known ts rest (place, a, b, word, value, ends) h =
        let x = maybe known e a b value (front.word m k.Return ts a word h) in
        (x.0, front.sign m p.Semicolon b rest ends x.1)

    statements : (ss : StatementTrees) (known : List (List ℕ)) (ts rest : List Terminal) → DeriveStatements ss known ts rest → AreProperTerminals m ts → AreProperStatements m ss × AreProperTerminals m rest
    statements tree.NoStatement known ts rest is h = (tt, front.same m ts rest is h)
    statements (tree.MoreStatements s ss) known ts rest (a, one, more) h =
        let x = statement s known ts a one h in
        let y = statements ss known a rest more x.1 in
        ((x.0, y.0), y.1)

  -- ---- units

  further : (gives : Bool) (ds : List InitDeclaratorView) (known : List (List ℕ)) (ts rest : List Terminal) → Further gives ds known ts rest → AreProperTerminals m ts → AreProperInitDeclarators m ds × AreProperTerminals m rest
  further gives [] known ts rest is h = (tt, front.same m ts rest is h)
  further gives (d ∷ ds) known ts rest (a, b, comma, one, more) h =
      let x = initializes m known (with_declared gives known d) d a b one (front.sign m p.Comma ts a comma h) in
      let y = further gives ds (with_declared gives known d) b rest more x.1 in
      ((x.0, y.0), y.1)

  file_declarators : (gives : Bool) (ds : List InitDeclaratorView) (known : List (List ℕ)) (ts rest : List Terminal) → FileDeclarators gives ds known ts rest → AreProperTerminals m ts → AreProperInitDeclarators m ds × AreProperTerminals m rest
  file_declarators gives [] known ts rest is h = (tt, front.same m ts rest is h)
  file_declarators gives (d ∷ ds) known ts rest (a, one, more) h =
      let x = initializes m known (with_declared gives known d) d ts a one h in
      let y = further gives ds (with_declared gives known d) a rest more x.1 in
      ((x.0, y.0), y.1)

  external : (known : List (List ℕ)) (e : ExternalTree) (ts rest : List Terminal) → IsExternal known e ts rest → AreProperTerminals m ts → IsProperExternal m e
  external known (Declared at words ds) ts rest (place, a, b, spec, declares, ends) h =
      let x = specified m known words ts a spec h in
      let y = file_declarators (is_typedef words) ds known a b declares x.1 in
      (x.0, y.0)
  external known (Defined at words f body) ts rest (place, a, b, spec, head, block) h =
      let x = specified m known words ts a spec h in
      let y = function m known f a b head x.1 in
      let z = statements (statement_trees body) (with_declared (is_typedef words) known (Prototype f)) block.inside block.last block.derive (front.sign m p.LeftBrace b block.inside block.opens y.1) in
      (x.0, (y.0, z.0))

  taken : (n : ℕ) (ts : List Terminal) → AreProperTerminals m ts → AreProperTerminals m (take n ts)
  taken zero ts h = tt
  taken (suc n) [] h = tt
  taken (suc n) (t ∷ ts) h = (h.0, taken n ts h.1)

  dropped : (n : ℕ) (ts : List Terminal) → AreProperTerminals m ts → AreProperTerminals m (drop n ts)
  dropped zero ts h = h
  dropped (suc n) [] h = tt
  dropped (suc n) (t ∷ ts) h = dropped n ts h.1

  pub pieces : (es : List ExternalTree) (known : List (List ℕ)) (ts rest : List Terminal) → ArePieces es known ts rest → AreProperTerminals m ts → AreProperExternals m es
  pieces [] known ts rest is h = tt
  pieces (e ∷ es) known ts rest (one, more) h = (external known e (take (piece_length ts) ts) [] one.derives (taken (piece_length ts) ts h), pieces es (in_force known e) (drop (piece_length ts) ts) rest more (dropped (piece_length ts) ts h))
