-- Lists of initializers in braces (6.7.9p16 to p21). The expressions of a list are typed in reading order, each in the state
-- that the one before it leaves; the first one that is refused refuses the list. What no rule lets an expression initialize
-- is a fault that is kept until all have types.
use Rattle.std.specs.Prelude.{ℕ, cond, List, [], ◌∷◌, length, Option, Some, None, Ok, Err}
use Rattle.cc_base.specs.declared.diagnostics.Place.{Place}
use Rattle.c_layout.specs.SyntaxTrees.{Tree}
use Rattle.c_layout.specs.DeclarationTrees as tree
use Rattle.c_layout.specs.DeclarationTrees.{InitializerTree, InitializerTrees}
use Rattle.c_types_scopes.specs.Answers.{after}
use Rattle.c_types_scopes.specs.Refusals.{Ruled}
use Rattle.c_types_scopes.specs.States.{State}
use Rattle.c_types_operands.specs.Operands.{OperandView, is_scalar}
use Rattle.c_types_expressions.specs.Expressions.Expressions.{typed}
use Rattle.c_types_initializers.specs.Subobjects.{SubobjectView, OpenView, entered, next, passed}
use Rattle.c_types_initializers.specs.Literals.{bare_literal, character_room, only_literal}
use Rattle.c_types_initializers.specs.ListStores.{FillingView, with_type_fault, with_scalar, with_text, takes_text, sought, stored_next}

-- ---- one expression

abbrev pub scalar_in : Place → SubobjectView → FillingView → OperandView → State → Ruled (FillingView × State)
scalar_in equals sub v x s = Ok (with_scalar s.known equals sub x v, s)

-- a scalar by an expression
abbrev pub fill_scalar : State → Place → SubobjectView → FillingView → Tree → Ruled (FillingView × State)
fill_scalar s equals sub v e = after (typed s e) (scalar_in equals sub v)

abbrev pub value_in : Place → List OpenView → FillingView → OperandView → State → Ruled ((List OpenView × FillingView) × State)
value_in equals had v x t = Ok (stored_next t.known equals x had v, t)

-- an expression that is no literal
abbrev pub fill_value : State → Place → List OpenView → FillingView → Tree → Ruled ((List OpenView × FillingView) × State)
fill_value s equals had v e = after (typed s e) (value_in equals had v)

abbrev pub text_in : State → Place → SubobjectView → FillingView → Tree → List ℕ → Option ℕ → Ruled (FillingView × State)
text_in s equals sub v e bytes (Some room) = Ok (with_text v sub.offset room bytes, s)
text_in s equals sub v e bytes None = fill_scalar s equals sub v e

-- a literal in an array of characters; in a scalar it is an expression as others
abbrev pub fill_text : State → Place → SubobjectView → FillingView → Tree → List ℕ → Ruled (FillingView × State)
fill_text s equals sub v e bytes = text_in s equals sub v e bytes (character_room sub.ctype)

-- in the subobject that was sought, if there is one
abbrev pub fill_found : State → Place → FillingView → Tree → List ℕ → Option SubobjectView → Ruled (FillingView × State)
fill_found s equals v e bytes None = Ok (with_type_fault v equals, s)
fill_found s equals v e bytes (Some sub) = fill_text s equals sub v e bytes

-- the aggregates that are open, beside the stores
abbrev pub beside : List OpenView → Ruled (FillingView × State) → Ruled ((List OpenView × FillingView) × State)
beside had (Ok p) = Ok ((had, p.0), p.1)
beside had (Err f) = Err f

abbrev pub literal_at : State → Place → FillingView → Tree → List ℕ → Option SubobjectView × List OpenView → Ruled ((List OpenView × FillingView) × State)
literal_at s equals v e bytes found = beside found.1 (fill_found s equals v e bytes found.0)

-- a literal
abbrev pub fill_literal : State → Place → List OpenView → FillingView → Tree → List ℕ → Ruled ((List OpenView × FillingView) × State)
fill_literal s equals had v e bytes = literal_at s equals v e bytes (sought s.known takes_text had)

abbrev pub single_by : State → Place → List OpenView → FillingView → Tree → Option (List ℕ) → Ruled ((List OpenView × FillingView) × State)
single_by s equals had v e (Some bytes) = fill_literal s equals had v e bytes
single_by s equals had v e None = fill_value s equals had v e

-- an item without braces: it initializes the next subobject that it may initialize as a whole
abbrev pub fill_single : State → Place → List OpenView → FillingView → Tree → Ruled ((List OpenView × FillingView) × State)
fill_single s equals had v e = single_by s equals had v e (bare_literal e)

-- ---- lists that initialize nothing

abbrev pub typed_alone : OperandView → State → Ruled (Unit {0} × State)
typed_alone x t = Ok (tt, t)

abbrev mutual
  -- an item of which only the expressions are typed
  pub typed_item : State → InitializerTree → Ruled (Unit {0} × State)
  typed_item s (tree.Single e) = after (typed s e) typed_alone
  typed_item s (tree.Braces at items) = typed_items s items

  pub typed_items : State → InitializerTrees → Ruled (Unit {0} × State)
  typed_items s tree.NoInitializer = Ok (tt, s)
  typed_items s (tree.MoreInitializers i items) = after (typed_item s i) (λ u t. typed_items t items)

abbrev pub with_refusal : Place → FillingView → Unit {0} → State → Ruled (FillingView × State)
with_refusal equals v u t = Ok (with_type_fault v equals, t)

-- a list for which no rule applies
abbrev pub refuse_list : State → Place → FillingView → InitializerTrees → Ruled (FillingView × State)
refuse_list s equals v items = after (typed_items s items) (with_refusal equals v)

-- ---- one object

abbrev pub item_value : InitializerTree → Option Tree
item_value (tree.Single e) = Some e
item_value (tree.Braces at items) = None

-- the expression of a list with one expression
abbrev pub only_value : InitializerTrees → Option Tree
only_value tree.NoInitializer = None
only_value (tree.MoreInitializers i tree.NoInitializer) = item_value i
only_value (tree.MoreInitializers i (tree.MoreInitializers j items)) = None

abbrev pub by_only : State → Place → SubobjectView → FillingView → InitializerTrees → Option Tree → Ruled (FillingView × State)
by_only s equals sub v items (Some e) = fill_scalar s equals sub v e
by_only s equals sub v items None = refuse_list s equals v items

-- a scalar by a list: one expression
abbrev pub fill_from_list : State → Place → SubobjectView → FillingView → InitializerTrees → Ruled (FillingView × State)
fill_from_list s equals sub v items = by_only s equals sub v items (only_value items)

abbrev pub one_passed : FillingView → State → Ruled ((ℕ × FillingView) × State)
one_passed v t = Ok ((1, v), t)

abbrev pub all_passed : List OpenView × FillingView → State → Ruled ((ℕ × FillingView) × State)
all_passed p t = Ok ((passed p.0, p.1), t)

abbrev pub uncounted : ℕ × FillingView → State → Ruled (FillingView × State)
uncounted p t = Ok (p.1, t)

-- an array of characters by one literal, or else item by item
abbrev pub characters_or : State → SubobjectView → FillingView → ℕ → Option (List ℕ) → Ruled ((ℕ × FillingView) × State) → Ruled ((ℕ × FillingView) × State)
characters_or s sub v room (Some bytes) items = Ok ((length bytes, with_text v sub.offset room bytes), s)
characters_or s sub v room None items = items

abbrev pub whole_or : State → SubobjectView → FillingView → InitializerTrees → Option ℕ → Ruled ((ℕ × FillingView) × State) → Ruled ((ℕ × FillingView) × State)
whole_or s sub v list (Some room) items = characters_or s sub v room (only_literal list) items
whole_or s sub v list None items = items

-- an object by a list, of which it is known what it does item by item
abbrev pub fill_by : State → Place → SubobjectView → FillingView → InitializerTrees → Ruled ((ℕ × FillingView) × State) → Ruled ((ℕ × FillingView) × State)
fill_by s equals sub v list items = cond (is_scalar sub.ctype) (after (fill_from_list s equals sub v list) one_passed) (whole_or s sub v list (character_room sub.ctype) items)

-- a list in a list: it initializes the next subobject, whatever its type
abbrev pub braces_in : State → Place → List OpenView → FillingView → InitializerTrees → (SubobjectView → Ruled ((ℕ × FillingView) × State)) → Option SubobjectView → Ruled ((List OpenView × FillingView) × State)
braces_in s equals left v list filled None = beside left (refuse_list s equals v list)
braces_in s equals left v list filled (Some sub) = beside left (after (filled sub) uncounted)

-- ---- the way down

abbrev mutual
  -- an item of a list: the aggregates that are open behind it, and the stores
  pub fill_item : State → Place → List OpenView → FillingView → InitializerTree → Ruled ((List OpenView × FillingView) × State)
  fill_item s equals had v (tree.Single e) = fill_single s equals had v e
  fill_item s equals had v (tree.Braces at list) = braces_in s equals (next s.known had).1 v list (λ sub. fill_by s equals sub v list (after (fill_items s equals (entered sub ∷ []) v list) all_passed)) (next s.known had).0

  -- items in order
  pub fill_items : State → Place → List OpenView → FillingView → InitializerTrees → Ruled ((List OpenView × FillingView) × State)
  fill_items s equals had v tree.NoInitializer = Ok ((had, v), s)
  fill_items s equals had v (tree.MoreInitializers i list) = after (fill_item s equals had v i) (λ p t. fill_items t equals p.0 p.1 list)

-- an aggregate item by item; how many of its subobjects are passed then
abbrev pub fill_aggregate : State → Place → SubobjectView → FillingView → InitializerTrees → Ruled ((ℕ × FillingView) × State)
fill_aggregate s equals sub v list = after (fill_items s equals (entered sub ∷ []) v list) all_passed

-- an object by a list in braces; how many of its subobjects the list reaches
abbrev pub fill : State → Place → SubobjectView → FillingView → InitializerTrees → Ruled ((ℕ × FillingView) × State)
fill s equals sub v list = fill_by s equals sub v list (fill_aggregate s equals sub v list)
