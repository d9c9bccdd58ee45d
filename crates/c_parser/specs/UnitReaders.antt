-- The readers of external declarations (6.9), pieces and units as definitions.
use Rattle.std.specs.Prelude.{ℕ, zero, suc, Bool, cond, max, length, List, [], ◌∷◌, ◌++◌, take, drop, Option, Some, None}
use Rattle.cc_base.specs.declared.diagnostics.Place.{Place}
use Rattle.c_layout.specs.DeclarationTrees.{SpecTrees, StatementTree, FunctionDeclaratorView, InitDeclaratorView, Object, Initialized, Prototype, ExternalTree, Declared, Defined}
use Rattle.c_parser_tokens.specs.declared.terminals.Terminal.{Terminal}
use Rattle.c_parser_expression_grammar.specs.Fronts.{first_symbol, first_place, behind_first}
use Rattle.c_parser_declarations.specs.Grammar.StorageClasses.{is_typedef}
use Rattle.c_parser.specs.Externals.{with_declared, in_force}
use Rattle.c_parser.specs.Pieces.{piece_length}
use Rattle.c_parser_expression_grammar.specs.Readings.{is_comma, is_left_brace}
use Rattle.c_parser_declarations.specs.Grammar.Items.{Item, GotItem, item_of, after_item, one_more}
use Rattle.c_parser_declarations.specs.Grammar.DeclarationReaders.{file_declarator, initialized}
use Rattle.c_parser_declarations.specs.Grammar.ParameterReaders.{words_list}
use Rattle.c_parser_declarations.specs.Grammar.SpecifierReaders.{raised, is_semicolon, specifiers}
use Rattle.c_parser.specs.StatementReaders.{block, statement_inside}

-- ---- declarations. `b` is the budget of what stands inside, `gives` says that declarators give typedef names.

abbrev pub no_declarator : Item (List InitDeclaratorView)
no_declarator ts = cond (is_semicolon (first_symbol ts)) (Some (item_of [] 0 (behind_first ts))) None

-- a declarator with its initializer, and what is read behind both, with these names in force
abbrev pub completed_with : ℕ → List (List ℕ) → (List (List ℕ) → Item (List InitDeclaratorView)) → GotItem InitDeclaratorView → Option (GotItem (List InitDeclaratorView))
completed_with b named more d = after_item (initialized named b d) (λ x. after_item (more named x.rest) (one_more x))

-- the declarator's own name may be in force in its initializer
abbrev pub completed : Bool → ℕ → List (List ℕ) → (List (List ℕ) → Item (List InitDeclaratorView)) → GotItem InitDeclaratorView → Option (GotItem (List InitDeclaratorView))
completed gives b known more d = completed_with b (with_declared gives known d.item) more d

-- the declarators behind the first one, each behind a comma, with the `;`
abbrev pub further : Bool → ℕ → ℕ → List (List ℕ) → Item (List InitDeclaratorView)
further gives b zero known ts = no_declarator ts
further gives b (suc turns) known ts =
    cond (is_comma (first_symbol ts)) (after_item (file_declarator known b (behind_first ts)) (completed gives b known (further gives b turns))) (no_declarator ts)

-- all of them, behind the first one without its initializer, whose name is in force already
abbrev pub declarators_named : Bool → ℕ → List (List ℕ) → GotItem InitDeclaratorView → Option (GotItem (List InitDeclaratorView))
declarators_named gives b named d = completed_with b named (λ names ts. further gives b (length ts) names ts) d

abbrev pub declarators_behind : Bool → ℕ → List (List ℕ) → GotItem InitDeclaratorView → Option (GotItem (List InitDeclaratorView))
declarators_behind gives b known d = declarators_named gives b (with_declared gives known d.item) d

abbrev pub declaration_of : ℕ → Place → GotItem SpecTrees → GotItem (List InitDeclaratorView) → Option (GotItem ExternalTree)
declaration_of b at ws ds = raised (suc b) (Declared at (words_list ws.item) ds.item) (max ws.height ds.height) ds.rest

abbrev pub declaration_named : ℕ → List (List ℕ) → Place → GotItem SpecTrees → GotItem InitDeclaratorView → Option (GotItem ExternalTree)
declaration_named b named at ws d = after_item (declarators_named (is_typedef (words_list ws.item)) b named d) (declaration_of b at ws)

abbrev pub declaration : ℕ → List (List ℕ) → Place → GotItem SpecTrees → GotItem InitDeclaratorView → Option (GotItem ExternalTree)
declaration b known at ws d = declaration_named b (with_declared (is_typedef (words_list ws.item)) known d.item) at ws d

-- ---- definitions of functions

abbrev pub defined : ℕ → Place → GotItem SpecTrees → FunctionDeclaratorView → ℕ → GotItem (List StatementTree) → Option (GotItem ExternalTree)
defined b at ws f h body = raised (suc b) (Defined at (words_list ws.item) f body.item) (max (max ws.height h) body.height) body.rest

abbrev pub definition_of : ℕ → List (List ℕ) → Place → GotItem SpecTrees → InitDeclaratorView → ℕ → Item ExternalTree
definition_of b known at ws (Prototype f) h ts = after_item (block known b (statement_inside known b) ts) (defined b at ws f h)
definition_of b known at ws (Object d) h ts = None
definition_of b known at ws (Initialized d equals i) h ts = None

-- the declarator's name is in force in the body, where it is a typedef name
abbrev pub definition : ℕ → List (List ℕ) → Place → GotItem SpecTrees → GotItem InitDeclaratorView → Option (GotItem ExternalTree)
definition b known at ws d = definition_of b (with_declared (is_typedef (words_list ws.item)) known d.item) at ws d.item d.height d.rest

-- ---- external declarations

abbrev pub behind_declarator : ℕ → List (List ℕ) → Place → GotItem SpecTrees → GotItem InitDeclaratorView → Option (GotItem ExternalTree)
behind_declarator b known at ws d = cond (is_left_brace (first_symbol d.rest)) (definition b known at ws d) (declaration b known at ws d)

abbrev pub behind_specifiers : ℕ → List (List ℕ) → Place → GotItem SpecTrees → Option (GotItem ExternalTree)
behind_specifiers b known at ws =
    cond (is_semicolon (first_symbol ws.rest)) (raised (suc b) (Declared at (words_list ws.item) []) ws.height (behind_first ws.rest))
    (after_item (file_declarator known b ws.rest) (behind_declarator b known at ws))

abbrev pub external : List (List ℕ) → ℕ → Item ExternalTree
external known zero ts = None
external known (suc b) ts = after_item (specifiers known b ts) (behind_specifiers b known (first_place ts))

-- ---- pieces and units

abbrev pub complete : ExternalTree → List Terminal → Option ExternalTree
complete e [] = Some e
complete e (t ∷ ts) = None

-- the external declaration that a piece is
abbrev pub piece : List (List ℕ) → List Terminal → Option ExternalTree
piece known ts = after_item (external known 256 ts) (λ g. complete g.item g.rest)

abbrev pub with_external : ExternalTree → Option (List ExternalTree) → Option (List ExternalTree)
with_external e None = None
with_external e (Some es) = Some (e ∷ es)

abbrev pub after_piece : Option ExternalTree → (ExternalTree → Option (List ExternalTree)) → Option (List ExternalTree)
after_piece None more = None
after_piece (Some e) more = with_external e (more e)

-- the external declarations that the pieces of these terminals are, of which there are so many at most
abbrev pub pieces : ℕ → List (List ℕ) → List Terminal → Option (List ExternalTree)
pieces turns known [] = Some []
pieces zero known (t ∷ ts) = None
pieces (suc turns) known (t ∷ ts) =
    after_piece (piece known (take (piece_length (t ∷ ts)) (t ∷ ts))) (λ e. pieces turns (in_force known e) (drop (piece_length (t ∷ ts)) (t ∷ ts)))

abbrev pub unit : List Terminal → Option (List ExternalTree)
unit ts = pieces (length ts) [] ts

abbrev pub behind_piece : Option ExternalTree → List Terminal → (ExternalTree → List Terminal) → List Terminal
behind_piece None ts more = ts
behind_piece (Some e) ts more = more e

-- what is left at the first piece that is not read; nothing where all are
abbrev pub unread_pieces : ℕ → List (List ℕ) → List Terminal → List Terminal
unread_pieces turns known [] = []
unread_pieces zero known (t ∷ ts) = t ∷ ts
unread_pieces (suc turns) known (t ∷ ts) =
    behind_piece (piece known (take (piece_length (t ∷ ts)) (t ∷ ts))) (t ∷ ts) (λ e. unread_pieces turns (in_force known e) (drop (piece_length (t ∷ ts)) (t ∷ ts)))

abbrev pub unread : List Terminal → List Terminal
unread ts = unread_pieces (length ts) [] ts

-- ---- within a budget of its own

-- what is read within a budget of one less, if there is one
abbrev pub within : {X : Type 0} → ℕ → (ℕ → Option X) → Option X
within zero read = None
within (suc b) read = read b

abbrev pub definition_within : ℕ → List (List ℕ) → Place → GotItem SpecTrees → InitDeclaratorView → ℕ → Item ExternalTree
definition_within b known at ws (Prototype f) h ts = within b (λ c. definition_of c known at ws (Prototype f) h ts)
definition_within b known at ws (Object d) h ts = None
definition_within b known at ws (Initialized d equals i) h ts = None

-- items behind others that were read
abbrev pub behind_items : {X : Type 0} → List X → Option (GotItem (List X)) → Option (GotItem (List X))
behind_items xs None = None
behind_items xs (Some g) = Some (item_of (xs ++ g.item) g.height g.rest)
