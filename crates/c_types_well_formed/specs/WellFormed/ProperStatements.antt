-- Trees of declarations and statements whose expressions are proper.
use Rattle.std.specs.Prelude.{List, [], ◌∷◌, Option, Some, None}
use Rattle.c_layout.specs.SyntaxTrees.{Tree}
use Rattle.c_layout.specs.DeclarationTrees as syntax
use Rattle.c_layout.specs.DeclarationTrees.{SuffixView, DeclaratorLayerView, DeclaratorView, EnumeratorView, SpecTree, SpecTrees, MemberTree, MemberTrees, ParameterView, ParametersView, FunctionDeclaratorView, InitializerTree, InitializerTrees, InitDeclaratorView, LocalView, ForFirstView, StatementTree, StatementTrees, ExternalTree, spec_trees, statement_trees}
use Rattle.c_layout.specs.declared.data_model.Model.{Model}
use Rattle.c_types_well_formed.specs.WellFormed.ProperTrees.{IsProperTree}

abbrev pub IsProperIf : Model → Option Tree → Type 0
IsProperIf m None = Unit {0}
IsProperIf m (Some e) = IsProperTree m e

-- ---- declarators

abbrev pub AreProperSuffixes : Model → List SuffixView → Type 0
AreProperSuffixes m [] = Unit {0}
AreProperSuffixes m (a ∷ more) = IsProperIf m a.length × AreProperSuffixes m more

abbrev pub AreProperLayers : Model → List DeclaratorLayerView → Type 0
AreProperLayers m [] = Unit {0}
AreProperLayers m (l ∷ inner) = AreProperSuffixes m l.arrays × AreProperLayers m inner

abbrev pub AreProperDeclarators : Model → List DeclaratorView → Type 0
AreProperDeclarators m [] = Unit {0}
AreProperDeclarators m (d ∷ ds) = AreProperLayers m d.layers × AreProperDeclarators m ds

abbrev pub IsProperDeclaratorIf : Model → Option DeclaratorView → Type 0
IsProperDeclaratorIf m None = Unit {0}
IsProperDeclaratorIf m (Some d) = AreProperLayers m d.layers

-- ---- specifiers

abbrev pub AreProperEnumerators : Model → List EnumeratorView → Type 0
AreProperEnumerators m [] = Unit {0}
AreProperEnumerators m (e ∷ es) = IsProperIf m e.value × AreProperEnumerators m es

abbrev mutual
  pub IsProperSpec : Model → SpecTree → Type 0
  IsProperSpec m (syntax.StorageWord at word) = Unit {0}
  IsProperSpec m (syntax.Qualifier at) = Unit {0}
  IsProperSpec m (syntax.TypeOf at word) = Unit {0}
  IsProperSpec m (syntax.StructTag at tag) = Unit {0}
  IsProperSpec m (syntax.StructBody at tag members) = AreProperMembers m members
  IsProperSpec m (syntax.EnumTag at tag) = Unit {0}
  IsProperSpec m (syntax.EnumBody at tag es) = AreProperEnumerators m es
  IsProperSpec m (syntax.TypedefName name) = Unit {0}

  pub AreProperSpecs : Model → SpecTrees → Type 0
  AreProperSpecs m syntax.NoWord = Unit {0}
  AreProperSpecs m (syntax.MoreWords w ws) = IsProperSpec m w × AreProperSpecs m ws

  pub IsProperMember : Model → MemberTree → Type 0
  IsProperMember m (syntax.Members words ds) = AreProperSpecs m words × AreProperDeclarators m ds

  pub AreProperMembers : Model → MemberTrees → Type 0
  AreProperMembers m syntax.NoMember = Unit {0}
  AreProperMembers m (syntax.MoreMembers x xs) = IsProperMember m x × AreProperMembers m xs

abbrev pub AreProperWords : Model → List SpecTree → Type 0
AreProperWords m words = AreProperSpecs m (spec_trees words)

-- ---- function declarators

abbrev pub IsProperParameter : Model → ParameterView → Type 0
IsProperParameter m p = AreProperWords m p.words × IsProperDeclaratorIf m p.declarator

abbrev pub AreProperItems : Model → List ParameterView → Type 0
AreProperItems m [] = Unit {0}
AreProperItems m (p ∷ ps) = IsProperParameter m p × AreProperItems m ps

abbrev pub AreProperParameters : Model → ParametersView → Type 0
AreProperParameters m syntax.NoParameters = Unit {0}
AreProperParameters m syntax.OnlyVoid = Unit {0}
AreProperParameters m (syntax.ParameterList ps) = AreProperItems m ps

abbrev pub IsProperFunction : Model → FunctionDeclaratorView → Type 0
IsProperFunction m f = AreProperParameters m f.parameters

-- ---- initializers

abbrev mutual
  pub IsProperInitializer : Model → InitializerTree → Type 0
  IsProperInitializer m (syntax.Single e) = IsProperTree m e
  IsProperInitializer m (syntax.Braces at list) = AreProperInitializers m list

  pub AreProperInitializers : Model → InitializerTrees → Type 0
  AreProperInitializers m syntax.NoInitializer = Unit {0}
  AreProperInitializers m (syntax.MoreInitializers i list) = IsProperInitializer m i × AreProperInitializers m list

-- ---- declarations

abbrev pub IsProperInitDeclarator : Model → InitDeclaratorView → Type 0
IsProperInitDeclarator m (syntax.Object d) = AreProperLayers m d.layers
IsProperInitDeclarator m (syntax.Initialized d equals i) = AreProperLayers m d.layers × IsProperInitializer m i
IsProperInitDeclarator m (syntax.Prototype f) = IsProperFunction m f

abbrev pub AreProperInitDeclarators : Model → List InitDeclaratorView → Type 0
AreProperInitDeclarators m [] = Unit {0}
AreProperInitDeclarators m (d ∷ ds) = IsProperInitDeclarator m d × AreProperInitDeclarators m ds

abbrev pub IsProperLocal : Model → LocalView → Type 0
IsProperLocal m l = AreProperWords m l.words × AreProperInitDeclarators m l.declarators

-- ---- statements

abbrev pub IsProperFirst : Model → ForFirstView → Type 0
IsProperFirst m syntax.NoClause = Unit {0}
IsProperFirst m (syntax.Clause e) = IsProperTree m e
IsProperFirst m (syntax.Declares l) = IsProperLocal m l

abbrev mutual
  pub IsProperStatement : Model → StatementTree → Type 0
  IsProperStatement m (syntax.Declaration l) = IsProperLocal m l
  IsProperStatement m (syntax.Label name s) = IsProperStatement m s
  IsProperStatement m (syntax.Case at e s) = IsProperTree m e × IsProperStatement m s
  IsProperStatement m (syntax.Default at s) = IsProperStatement m s
  IsProperStatement m (syntax.Block at ss) = AreProperStatements m ss
  IsProperStatement m (syntax.Expression at e) = IsProperIf m e
  IsProperStatement m (syntax.If at c s) = IsProperTree m c × IsProperStatement m s
  IsProperStatement m (syntax.IfElse at c s t) = IsProperTree m c × (IsProperStatement m s × IsProperStatement m t)
  IsProperStatement m (syntax.Switch at e s) = IsProperTree m e × IsProperStatement m s
  IsProperStatement m (syntax.While at c s) = IsProperTree m c × IsProperStatement m s
  IsProperStatement m (syntax.Do at s c) = IsProperStatement m s × IsProperTree m c
  IsProperStatement m (syntax.For at f c step s) = IsProperFirst m f × (IsProperIf m c × (IsProperIf m step × IsProperStatement m s))
  IsProperStatement m (syntax.Goto at name) = Unit {0}
  IsProperStatement m (syntax.Continue at) = Unit {0}
  IsProperStatement m (syntax.Break at) = Unit {0}
  IsProperStatement m (syntax.Return at e) = IsProperIf m e

  pub AreProperStatements : Model → StatementTrees → Type 0
  AreProperStatements m syntax.NoStatement = Unit {0}
  AreProperStatements m (syntax.MoreStatements s ss) = IsProperStatement m s × AreProperStatements m ss

-- ---- units

abbrev pub IsProperExternal : Model → ExternalTree → Type 0
IsProperExternal m (syntax.Declared at words ds) = AreProperWords m words × AreProperInitDeclarators m ds
IsProperExternal m (syntax.Defined at words f body) = AreProperWords m words × (IsProperFunction m f × AreProperStatements m (statement_trees body))

abbrev pub AreProperExternals : Model → List ExternalTree → Type 0
AreProperExternals m [] = Unit {0}
AreProperExternals m (e ∷ es) = IsProperExternal m e × AreProperExternals m es
