-- Heads of functions keep what typing knows, and their results and parameters have types of the data model.
use Rattle.std.proofs.Common.{ℕ, List, [], ◌∷◌, Option, Some, None, Ok, Err, length, refl, sym}
use Rattle.std.specs.Prelude.{Bool, false}
use Rattle.cc_base.specs.declared.diagnostics.Place.{Place}
use Rattle.c_layout.specs.Types.{Ty, Int, Pointer, Array, Struct, Void}
use Rattle.c_layout.specs.DeclarationTrees.{NameView, DeclaratorView, ParameterView, ParametersView, NoParameters, OnlyVoid, ParameterList, FunctionDeclaratorView, spec_trees}
use Rattle.c_layout.specs.declared.data_model.Model.{Model}
use Rattle.c_layout.specs.declared.syntax_tree.declarations.Storage.{Storage}
use Rattle.c_types_scopes.specs.Answers.{after}
use Rattle.c_types_scopes.specs.DeclaredTypes.{DeclaredView}
use Rattle.c_types_scopes.specs.Names.{number_in, found_here}
use Rattle.c_types_scopes.specs.Refusals.{Ruled, type_fault}
use Rattle.c_types_scopes.specs.States.{State, with_name, with_local}
use Rattle.c_types_scopes.specs.declared.meanings.Meaning.{Meaning}
use Rattle.c_types_scopes.specs.declared.meanings.Meaning.TheVariants as meaning
use Rattle.c_types_operands.specs.Operands.{is_scalar}
use Rattle.c_types_expressions.specs.Expressions.Expressions.{before}
use Rattle.c_types_declarations.specs.Declarators.{pointers, declared_type}
use Rattle.c_types_declarations.specs.FunctionHeads as heads
use Rattle.c_types_declarations.specs.FunctionHeads.{HeadView}
use Rattle.c_types_declarations.specs.Parameters as parameters
use Rattle.c_types_declarations.specs.Specifiers.{SpecifiedView}
use Rattle.c_types_declarations.specs.SpecifierTrees.{specifiers}
use Rattle.c_types_declarations.specs.StructBodies.{is_stored}
use Rattle.c_types_well_formed.specs.WellFormed.KnownTypes.{HasTypes, IsMeaning}
use Rattle.c_types_well_formed.specs.WellFormed.ModelTypes.{IsTypeOf, Each}
use Rattle.c_types_well_formed.specs.WellFormed.ProperStatements.{IsProperDeclaratorIf, IsProperParameter, AreProperItems, AreProperParameters, IsProperFunction}
use Rattle.c_types_well_formed.specs.WellFormed.TypingLaws.{Keeps, LeadsOn}
use Rattle.c_types_well_formed.proofs.terms.Parts.{each_none, each_first, in_model}
use Rattle.c_types_well_formed.proofs.terms.Steps.{IsAt, keeps_same, keeps_twice, at_later, onward, then, weaker, stays, cond_on, Holds, named_keeps}
use Rattle.c_types_well_formed.proofs.terms.TypeNames.{IsDeclaredOf, Anything}
use Rattle.c_types_well_formed.specs.Types.TypeLaws.{HeadsKeep, HasHead}
use Rattle.c_types_well_formed.proofs.types.Changes.{meaning_keeps, local_keeps, without_locals_keeps}
use Rattle.c_types_well_formed.proofs.types.Declaring.{cond_holds, stepped_holds, declared_on}
use Rattle.c_types_well_formed.proofs.types.Specifying.{specifiers_on}

-- ---- parameters

adjusted_is : (m : Model) (d : DeclaredView) (t : Ty) → IsTypeOf m t → IsDeclaredOf m d → IsDeclaredOf m (parameters.adjusted_of d t)
adjusted_is m d (Array t count) h g = h
adjusted_is m d (Int kind) h g = g
adjusted_is m d (Pointer t) h g = g
adjusted_is m d (Struct i) h g = g
adjusted_is m d Void h g = g

parameter_holds : (m : Model) (at : Place) (d : DeclaredView) → IsDeclaredOf m d → Holds (IsDeclaredOf m) (parameters.as_parameter at d)
parameter_holds m at d h = cond_holds (IsDeclaredOf m) (is_scalar (parameters.adjusted d).ctype) (Ok (parameters.adjusted d)) (type_fault at) (adjusted_is m d d.ctype h h) tt

local_is : (s : State) (i : ℕ) → IsMeaning s.known (meaning.Local i)
local_is s i = λ n e. absurd (cc)

pub declared_local_keeps : (name : ℕ) (n : NameView) (d : DeclaredView) (s : State) → HasTypes s → IsTypeOf s.known.numbers d.ctype → Keeps s (parameters.declared_local name n d s)
declared_local_keeps name n d s h typed =
    keeps_twice s (with_local s n.text n.at d) (parameters.declared_local name n d s) (local_keeps s n.text n.at d h typed)
    (meaning_keeps (with_local s n.text n.at d) name (meaning.Local (length s.body.locals)) (local_keeps s n.text n.at d h typed).types (local_is s (length s.body.locals)))

module _ (m : Model) where
  abbrev IsOf : DeclaredView → State → Type 0
  IsOf d t = IsDeclaredOf m d

  parameter_of_on : (name : ℕ) (n : NameView) (d : DeclaredView) (s : State) (o : Option Meaning) → IsAt m s → IsDeclaredOf m d → LeadsOn s Anything (parameters.parameter_of name n d s o)
  parameter_of_on name n d s (Some x) a h = tt
  parameter_of_on name n d s None a h = (declared_local_keeps name n d s a.types (in_model m s.known.numbers d.ctype (sym a.same) h), tt)

  named_on : (n : Option NameView) (d : DeclaredView) (s : State) → IsAt m s → IsDeclaredOf m d → LeadsOn s Anything (parameters.named_parameter n d s)
  named_on None d s a h = (keeps_same s a.types, tt)
  named_on (Some n) d s a h =
      onward s (with_name s n.text) Anything (parameters.declare_parameter n d s) (named_keeps s n.text a.types)
      (parameter_of_on (number_in s.scopes.names n.text) n d (with_name s n.text) (found_here s.scopes (number_in s.scopes.names n.text)) (at_later m s (with_name s n.text) a (named_keeps s n.text a.types)) h)

  typed_as_on : (t : Ty) (s : State) (r : Ruled (Unit {0} × State)) → IsTypeOf m t → LeadsOn s Anything r → LeadsOn s (λ t v. IsTypeOf m t) (parameters.typed_as t r)
  typed_as_on t s (Ok p) typed h = (h.0, typed)
  typed_as_on t s (Err f) typed h = tt

  finish_on : (at : Place) (stored : Option Storage) (n : Option NameView) (d : DeclaredView) (s : State) → IsAt m s → IsDeclaredOf m d → LeadsOn s (λ t v. IsTypeOf m t) (parameters.finish_parameter at stored n d s)
  finish_on at stored n d s a h = cond_on s (λ t v. IsTypeOf m t) (is_stored stored) (type_fault at) (parameters.typed_as d.ctype (parameters.named_parameter n d s)) tt (typed_as_on d.ctype s (parameters.named_parameter n d s) h (named_on n d s a h))

  type_on : (s : State) (at : Place) (base : DeclaredView) (d : Option DeclaratorView) → IsAt m s → IsDeclaredOf m base → IsProperDeclaratorIf m d → LeadsOn s IsOf (heads.parameter_type s at base d)
  type_on s at base None a h proper = stays s IsOf (parameters.as_parameter at base) a.types (parameter_holds m at base h)
  type_on s at base (Some d) a h proper =
      then s IsOf IsOf (declared_type s at base d.layers) (heads.as_parameter_in at) (declared_on m s at base d.layers a h proper)
      (λ x t k g. stays t IsOf (parameters.as_parameter at x) k.types (parameter_holds m at x g))

  add_on : (s : State) (p : ParameterView) → IsAt m s → IsProperParameter m p → LeadsOn s (λ t v. IsTypeOf m t) (heads.add_parameter s p)
  add_on s p a proper =
      then s (λ (b : SpecifiedView) t. IsDeclaredOf m b.declared) (λ t v. IsTypeOf m t) (specifiers s p.at false (spec_trees p.words)) (heads.specified_parameter p) (specifiers_on m s p.at false (spec_trees p.words) a proper.0) (λ b t k h.
      then t IsOf (λ t v. IsTypeOf m t) (heads.parameter_type t (parameters.parameter_place p) b.declared p.declarator) (parameters.finish_parameter (parameters.parameter_place p) b.storage (parameters.parameter_name p))
      (type_on t (parameters.parameter_place p) b.declared p.declarator (at_later m s t a k) h proper.1)
      (λ d v k1 g. finish_on (parameters.parameter_place p) b.storage (parameters.parameter_name p) d v (at_later m t v (at_later m s t a k) k1) g))

  abbrev AreOf : List Ty → State → Type 0
  AreOf ts v = Each (IsTypeOf m) ts

  all_on : (ps : List ParameterView) (s : State) → IsAt m s → AreProperItems m ps → LeadsOn s AreOf (heads.add_parameters s ps)
  all_on [] s a proper = (keeps_same s a.types, each_none (IsTypeOf m))
  all_on (p ∷ ps) s a proper =
      then s (λ t v. IsTypeOf m t) AreOf (heads.add_parameter s p) (λ t s1. after (heads.add_parameters s1 ps) (before t)) (add_on s p a proper.0) (λ t s1 k typed.
      then s1 AreOf AreOf (heads.add_parameters s1 ps) (before t) (all_on ps s1 (at_later m s s1 a k) proper.1) (λ ts v k1 all. (keeps_same v k1.types, each_first (IsTypeOf m) t ts typed all)))

  parameters_on : (s : State) (ps : ParametersView) → IsAt m s → AreProperParameters m ps → LeadsOn s AreOf (heads.parameters_of s ps)
  parameters_on s NoParameters a proper = (keeps_same s a.types, each_none (IsTypeOf m))
  parameters_on s OnlyVoid a proper = (keeps_same s a.types, each_none (IsTypeOf m))
  parameters_on s (ParameterList ps) a proper = all_on ps s a proper

  -- ---- results

  result_holds : (at : Place) (e : Option ℕ) (r : Ruled Ty) → Holds (IsTypeOf m) r → Holds (IsDeclaredOf m) (parameters.result_of at e r)
  result_holds at e (Err f) h = tt
  result_holds at e (Ok t) h = cond_holds (IsDeclaredOf m) (parameters.is_result t) (Ok (record { ctype = t; enumeration = e })) (type_fault at) h tt

  abbrev IsHeadOf : HeadView → Type 0
  IsHeadOf h = IsDeclaredOf m h.declared × Each (IsTypeOf m) h.parameters

  head_holds : (ts : List Ty) (named : Bool) (r : Ruled DeclaredView) → Each (IsTypeOf m) ts → Holds (IsDeclaredOf m) r → Holds IsHeadOf (heads.head_of ts named r)
  head_holds ts named (Ok d) all h = (h, all)
  head_holds ts named (Err f) all h = tt

  pub head_on : (s : State) (d : DeclaredView) (f : FunctionDeclaratorView) → IsAt m s → IsDeclaredOf m d → IsProperFunction m f → LeadsOn s (λ h v. IsHeadOf h) (heads.function_head s d f)
  head_on s d f a h proper =
      let open_keeps = without_locals_keeps s a.types in
      onward s (parameters.without_locals s) (λ h v. IsHeadOf h) (heads.function_head s d f) open_keeps
      (then (parameters.without_locals s) AreOf (λ h v. IsHeadOf h) (heads.parameters_of (parameters.without_locals s) f.parameters) (heads.headed d f) (parameters_on (parameters.without_locals s) f.parameters (at_later m s (parameters.without_locals s) a open_keeps) proper)
      (λ ts t k all. stays t (λ h v. IsHeadOf h) (heads.head_by t.known d f ts) k.types
      (head_holds ts (parameters.are_named f.parameters) (parameters.result_type t.known f.name.at d (length f.stars)) all
      (result_holds f.name.at (parameters.enumeration_of d (length f.stars)) (parameters.pointed_type t.known f.name.at d (length f.stars)) (stepped_holds m t.known f.name.at d.ctype (pointers (length f.stars)) h)))))

pub heads_keep : HeadsKeep
heads_keep s d f h typed proper =
    weaker s (λ x v. IsHeadOf s.known.numbers x) HasHead (heads.function_head s d f)
    (λ x t k g. record { result = in_model s.known.numbers t.known.numbers x.declared.ctype (sym k.model) g.0; parameters = λ i p is. in_model s.known.numbers t.known.numbers p (sym k.model) (g.1 i p is) })
    (head_on s.known.numbers s d f (record { same = refl; types = h }) typed proper)
