-- Specifiers, declarators and function heads keep what typing knows, and give types of the data model.
use Rattle.std.specs.Prelude.{Bool, List}
use Rattle.cc_base.specs.declared.diagnostics.Place.{Place}
use Rattle.c_layout.specs.DeclarationTrees.{DeclaratorLayerView, SpecTrees, FunctionDeclaratorView}
use Rattle.c_types_scopes.specs.DeclaredTypes.{DeclaredView}
use Rattle.c_types_scopes.specs.States.{State}
use Rattle.c_types_declarations.specs.Declarators.{declared_type}
use Rattle.c_types_declarations.specs.FunctionHeads.{HeadView, function_head}
use Rattle.c_types_declarations.specs.Specifiers.{SpecifiedView}
use Rattle.c_types_declarations.specs.SpecifierTrees.{specifiers}
use Rattle.c_types_well_formed.specs.WellFormed.KnownTypes.{HasTypes}
use Rattle.c_types_well_formed.specs.WellFormed.ModelTypes.{IsTypeOf, Each}
use Rattle.c_types_well_formed.specs.WellFormed.ProperStatements.{AreProperLayers, AreProperSpecs, IsProperFunction}
use Rattle.c_types_well_formed.specs.WellFormed.TypingLaws.{LeadsOn}

abbrev pub HasSpecified : SpecifiedView → State → Type 0
HasSpecified b t = IsTypeOf t.known.numbers b.declared.ctype

abbrev pub HasDeclared : DeclaredView → State → Type 0
HasDeclared d t = IsTypeOf t.known.numbers d.ctype

-- the result and the parameters of a function
pub record HasHead (h : HeadView) (t : State) : Type 0 where
  pub result : IsTypeOf t.known.numbers h.declared.ctype
  pub parameters : Each (IsTypeOf t.known.numbers) h.parameters

abbrev pub SpecifiersKeep : Type 0
SpecifiersKeep = (s : State) (at : Place) (alone : Bool) (words : SpecTrees) → HasTypes s → AreProperSpecs s.known.numbers words → LeadsOn s HasSpecified (specifiers s at alone words)

abbrev pub DeclaratorsKeep : Type 0
DeclaratorsKeep = (s : State) (at : Place) (d : DeclaredView) (layers : List DeclaratorLayerView) → HasTypes s → IsTypeOf s.known.numbers d.ctype → AreProperLayers s.known.numbers layers → LeadsOn s HasDeclared (declared_type s at d layers)

abbrev pub HeadsKeep : Type 0
HeadsKeep = (s : State) (d : DeclaredView) (f : FunctionDeclaratorView) → HasTypes s → IsTypeOf s.known.numbers d.ctype → IsProperFunction s.known.numbers f → LeadsOn s HasHead (function_head s d f)
