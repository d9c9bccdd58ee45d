-- Trees of declarations and statements, as contracts see them: without the memory in which they stand.
use Rattle.std.specs.Prelude.{ℕ, List, [], ◌∷◌, map, Option, Some, None, Vec}
use Rattle.std.specs.Option.{option_map}
use Rattle.std.specs.Global.{Global}
use Rattle.cc_base.specs.declared.diagnostics.Place.{Place}
use Rattle.c_layout.specs.SyntaxTrees.{Tree, tree_of}
use Rattle.c_layout.specs.declared.syntax_tree.expressions.Name.{Name}
use Rattle.c_layout.specs.declared.syntax_tree.declarations.TypeWord.{TypeWord}
use Rattle.c_layout.specs.declared.syntax_tree.declarations.Storage.{Storage}
use Rattle.c_layout.specs.declared.syntax_tree.declarations.SpecWord.{SpecWord, SpecWord-F, fold-SpecWord}
use Rattle.c_layout.specs.declared.syntax_tree.declarations.Member.{Member, Member-F, fold-Member}
use Rattle.c_layout.specs.declared.syntax_tree.declarations.Enumerator.{Enumerator}
use Rattle.c_layout.specs.declared.syntax_tree.declarations.ArraySuffix.{ArraySuffix}
use Rattle.c_layout.specs.declared.syntax_tree.declarations.DeclaratorLayer.{DeclaratorLayer}
use Rattle.c_layout.specs.declared.syntax_tree.declarations.Declarator.{Declarator}
use Rattle.c_layout.specs.declared.syntax_tree.declarations.Parameter.{Parameter}
use Rattle.c_layout.specs.declared.syntax_tree.declarations.Parameters.{Parameters}
use Rattle.c_layout.specs.declared.syntax_tree.declarations.Parameters.TheVariants as parameters
use Rattle.c_layout.specs.declared.syntax_tree.declarations.FunctionDeclarator.{FunctionDeclarator}
use Rattle.c_layout.specs.declared.syntax_tree.declarations.Initializer.{Initializer, Initializer-F, fold-Initializer}
use Rattle.c_layout.specs.declared.syntax_tree.declarations.InitDeclarator.{InitDeclarator}
use Rattle.c_layout.specs.declared.syntax_tree.declarations.InitDeclarator.TheVariants as declarator
use Rattle.c_layout.specs.declared.syntax_tree.declarations.External.{External}
use Rattle.c_layout.specs.declared.syntax_tree.declarations.External.TheVariants as external
use Rattle.c_layout.specs.declared.syntax_tree.declarations.Tree7.{Tree7}
use Rattle.c_layout.specs.declared.syntax_tree.statements.Local.{Local}
use Rattle.c_layout.specs.declared.syntax_tree.statements.ForFirst.{ForFirst}
use Rattle.c_layout.specs.declared.syntax_tree.statements.ForFirst.TheVariants as first
use Rattle.c_layout.specs.declared.syntax_tree.statements.Statement.{Statement, Statement-F, fold-Statement}

pub record NameView : Type 0 where
  pub at : Place
  pub text : List ℕ

abbrev pub name_view : Name → NameView
name_view n = record { at = n.place; text = n.text }

-- square brackets, with their length where one is given
pub record SuffixView : Type 0 where
  pub at : Place
  pub length : Option Tree

abbrev pub suffix_view : ArraySuffix → SuffixView
suffix_view a = record { at = a.place; length = option_map tree_of a.length }

-- the stars before and the brackets behind one level of parentheses
pub record DeclaratorLayerView : Type 0 where
  pub stars : List ℕ
  pub arrays : List SuffixView

abbrev pub declarator_layer_view : DeclaratorLayer → DeclaratorLayerView
declarator_layer_view l = record { stars = l.stars.items; arrays = map suffix_view l.arrays.items }

-- a declarator or, without a name, an abstract one: its layers from the outermost to the innermost
pub record DeclaratorView : Type 0 where
  pub layers : List DeclaratorLayerView
  pub name : Option NameView

abbrev pub declarator_view : Declarator → DeclaratorView
declarator_view d = record { layers = map declarator_layer_view d.layers.items; name = option_map name_view d.name }

pub record EnumeratorView : Type 0 where
  pub name : NameView
  pub value : Option Tree

abbrev pub enumerator_view : Enumerator → EnumeratorView
enumerator_view e = record { name = name_view e.name; value = option_map tree_of e.value }

mutual
  pub data SpecTree : Type 0 where
    StorageWord : (at : Place) (word : Storage) → SpecTree
    Qualifier : (at : Place) → SpecTree
    TypeOf : (at : Place) (word : TypeWord) → SpecTree
    StructTag : (at : Place) (tag : Option NameView) → SpecTree
    StructBody : (at : Place) (tag : Option NameView) (members : MemberTrees) → SpecTree
    EnumTag : (at : Place) (tag : Option NameView) → SpecTree
    EnumBody : (at : Place) (tag : Option NameView) (enumerators : List EnumeratorView) → SpecTree
    TypedefName : (name : NameView) → SpecTree

  pub data SpecTrees : Type 0 where
    NoWord : SpecTrees
    MoreWords : (first : SpecTree) (rest : SpecTrees) → SpecTrees

  pub data MemberTree : Type 0 where
    Members : (words : SpecTrees) (declarators : List DeclaratorView) → MemberTree

  pub data MemberTrees : Type 0 where
    NoMember : MemberTrees
    MoreMembers : (first : MemberTree) (rest : MemberTrees) → MemberTrees

abbrev pub spec_trees : List SpecTree → SpecTrees
spec_trees [] = NoWord
spec_trees (w ∷ ws) = MoreWords w (spec_trees ws)

abbrev pub member_trees : List MemberTree → MemberTrees
member_trees [] = NoMember
member_trees (m ∷ ms) = MoreMembers m (member_trees ms)

abbrev struct_tree : Place → Option NameView → Option (Vec MemberTree Global) → SpecTree
struct_tree at tag None = StructTag at tag
struct_tree at tag (Some members) = StructBody at tag (member_trees members.items)

abbrev enum_tree : Place → Option NameView → Option (Vec Enumerator Global) → SpecTree
enum_tree at tag None = EnumTag at tag
enum_tree at tag (Some enumerators) = EnumBody at tag (map enumerator_view enumerators.items)

abbrev spec_step : SpecWord-F SpecTree MemberTree → SpecTree
spec_step (SpecWord-F.Storage at word) = StorageWord at word
spec_step (SpecWord-F.Qualifier at) = Qualifier at
spec_step (SpecWord-F.Type at word) = TypeOf at word
spec_step (SpecWord-F.Struct at tag members) = struct_tree at (option_map name_view tag) members
spec_step (SpecWord-F.Enum at tag enumerators) = enum_tree at (option_map name_view tag) enumerators
spec_step (SpecWord-F.Typedef name) = TypedefName (name_view name)

abbrev member_step : Member-F SpecTree MemberTree → MemberTree
member_step m = Members (spec_trees m.words.items) (map declarator_view m.declarators.items)

-- the tree that a word of specifiers is
abbrev pub spec_tree : SpecWord → SpecTree
spec_tree = fold-SpecWord SpecTree MemberTree spec_step member_step

abbrev pub member_tree : Member → MemberTree
member_tree = fold-Member SpecTree MemberTree spec_step member_step

pub record ParameterView : Type 0 where
  pub at : Place
  pub words : List SpecTree
  pub declarator : Option DeclaratorView

abbrev pub parameter_view : Parameter → ParameterView
parameter_view p = record { at = p.place; words = map spec_tree p.words.items; declarator = option_map declarator_view p.declarator }

pub data ParametersView : Type 0 where
  NoParameters : ParametersView
  OnlyVoid : ParametersView
  ParameterList : (items : List ParameterView) → ParametersView

abbrev pub parameters_view : Parameters → ParametersView
parameters_view parameters.Empty = NoParameters
parameters_view parameters.Void = OnlyVoid
parameters_view (parameters.List items) = ParameterList (map parameter_view items.items)

pub record FunctionDeclaratorView : Type 0 where
  pub stars : List ℕ
  pub name : NameView
  pub parameters : ParametersView

abbrev pub function_declarator_view : FunctionDeclarator → FunctionDeclaratorView
function_declarator_view f = record { stars = f.stars.items; name = name_view f.name; parameters = parameters_view f.parameters }

mutual
  pub data InitializerTree : Type 0 where
    Single : (value : Tree) → InitializerTree
    Braces : (at : Place) (items : InitializerTrees) → InitializerTree

  pub data InitializerTrees : Type 0 where
    NoInitializer : InitializerTrees
    MoreInitializers : (first : InitializerTree) (rest : InitializerTrees) → InitializerTrees

abbrev pub initializer_trees : List InitializerTree → InitializerTrees
initializer_trees [] = NoInitializer
initializer_trees (i ∷ is) = MoreInitializers i (initializer_trees is)

abbrev initializer_step : Initializer-F InitializerTree → InitializerTree
initializer_step (Initializer-F.Value e) = Single (tree_of e)
initializer_step (Initializer-F.Braces at items) = Braces at (initializer_trees items.items)

abbrev pub initializer_tree : Initializer → InitializerTree
initializer_tree = fold-Initializer InitializerTree initializer_step

-- a declarator with its initializer
pub data InitDeclaratorView : Type 0 where
  Object : (declarator : DeclaratorView) → InitDeclaratorView
  Initialized : (declarator : DeclaratorView) (equals : Place) (initializer : InitializerTree) → InitDeclaratorView
  Prototype : (declarator : FunctionDeclaratorView) → InitDeclaratorView

abbrev pub init_declarator_view : InitDeclarator → InitDeclaratorView
init_declarator_view (declarator.Object d) = Object (declarator_view d)
init_declarator_view (declarator.Initialized d equals i) = Initialized (declarator_view d) equals (initializer_tree i)
init_declarator_view (declarator.Function f) = Prototype (function_declarator_view f)

-- a declaration in a block or in a `for`
pub record LocalView : Type 0 where
  pub at : Place
  pub words : List SpecTree
  pub declarators : List InitDeclaratorView

abbrev pub local_view : Local → LocalView
local_view l = record { at = l.place; words = map spec_tree l.words.items; declarators = map init_declarator_view l.declarators.items }

-- the first clause of a `for`
pub data ForFirstView : Type 0 where
  NoClause : ForFirstView
  Clause : (value : Tree) → ForFirstView
  Declares : (local : LocalView) → ForFirstView

abbrev pub for_first_view : ForFirst → ForFirstView
for_first_view first.Nothing = NoClause
for_first_view (first.Value e) = Clause (tree_of e)
for_first_view (first.Declaration l) = Declares (local_view l)

mutual
  pub data StatementTree : Type 0 where
    Declaration : (local : LocalView) → StatementTree
    Label : (name : NameView) (body : StatementTree) → StatementTree
    Case : (at : Place) (value : Tree) (body : StatementTree) → StatementTree
    Default : (at : Place) (body : StatementTree) → StatementTree
    Block : (at : Place) (items : StatementTrees) → StatementTree
    Expression : (at : Place) (value : Option Tree) → StatementTree
    If : (at : Place) (condition : Tree) (body : StatementTree) → StatementTree
    IfElse : (at : Place) (condition : Tree) (first second : StatementTree) → StatementTree
    Switch : (at : Place) (value : Tree) (body : StatementTree) → StatementTree
    While : (at : Place) (condition : Tree) (body : StatementTree) → StatementTree
    Do : (at : Place) (body : StatementTree) (condition : Tree) → StatementTree
    For : (at : Place) (first : ForFirstView) (condition step : Option Tree) (body : StatementTree) → StatementTree
    Goto : (at : Place) (label : NameView) → StatementTree
    Continue : (at : Place) → StatementTree
    Break : (at : Place) → StatementTree
    Return : (at : Place) (value : Option Tree) → StatementTree

  pub data StatementTrees : Type 0 where
    NoStatement : StatementTrees
    MoreStatements : (first : StatementTree) (rest : StatementTrees) → StatementTrees

abbrev pub statement_trees : List StatementTree → StatementTrees
statement_trees [] = NoStatement
statement_trees (s ∷ ss) = MoreStatements s (statement_trees ss)

abbrev statement_step : Statement-F StatementTree → StatementTree
statement_step (Statement-F.Local l) = Declaration (local_view l)
statement_step (Statement-F.Label name s) = Label (name_view name) s.value
statement_step (Statement-F.Case at e s) = Case at (tree_of e) s.value
statement_step (Statement-F.Default at s) = Default at s.value
statement_step (Statement-F.Block at items) = Block at (statement_trees items.items)
statement_step (Statement-F.Value at e) = Expression at (option_map tree_of e)
statement_step (Statement-F.If at c s) = If at (tree_of c) s.value
statement_step (Statement-F.IfElse at c s t) = IfElse at (tree_of c) s.value t.value
statement_step (Statement-F.Switch at e s) = Switch at (tree_of e) s.value
statement_step (Statement-F.While at c s) = While at (tree_of c) s.value
statement_step (Statement-F.Do at s c) = Do at s.value (tree_of c)
statement_step (Statement-F.For at f c step s) = For at (for_first_view f) (option_map tree_of c) (option_map tree_of step) s.value
statement_step (Statement-F.Goto at name) = Goto at (name_view name)
statement_step (Statement-F.Continue at) = Continue at
statement_step (Statement-F.Break at) = Break at
statement_step (Statement-F.Return at e) = Return at (option_map tree_of e)

-- the tree that a statement is
abbrev pub statement_tree : Statement → StatementTree
statement_tree = fold-Statement StatementTree statement_step

-- an external declaration
pub data ExternalTree : Type 0 where
  Declared : (at : Place) (words : List SpecTree) (declarators : List InitDeclaratorView) → ExternalTree
  Defined : (at : Place) (words : List SpecTree) (declarator : FunctionDeclaratorView) (body : List StatementTree) → ExternalTree

abbrev pub external_tree : External → ExternalTree
external_tree (external.Declaration at words declarators) = Declared at (map spec_tree words.items) (map init_declarator_view declarators.items)
external_tree (external.Function at words f body) = Defined at (map spec_tree words.items) (function_declarator_view f) (map statement_tree body.items)

-- the tree of a translation unit
abbrev pub unit_tree : Tree7 → List ExternalTree
unit_tree t = map external_tree t.externals.items
