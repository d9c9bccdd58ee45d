-- Types with what their declarations say beside them, and what was declared, as contracts see them.
use Rattle.std.specs.Prelude.{ℕ, Bool, true, false, ◌==◌, cond, List, [], ◌∷◌, map, length, Option, None}
use Rattle.c_layout.specs.Types.{Ty, view, same_type}
use Rattle.c_types_scopes.specs.declared.declared_types.DeclaredType.{DeclaredType}
use Rattle.c_types_scopes.specs.declared.declared_types.ObjectDeclaration.{ObjectDeclaration}
use Rattle.c_types_scopes.specs.declared.declared_types.Signature.{Signature}

-- a type, and the enumerated type that its declaration names
pub record DeclaredView : Type 0 where
  pub ctype : Ty
  pub enumeration : Option ℕ

abbrev pub declared_view : DeclaredType → DeclaredView
declared_view d = record { ctype = view d.ctype; enumeration = d.enumeration }

abbrev pub plain : Ty → DeclaredView
plain t = record { ctype = t; enumeration = None }

-- an object that was declared: its number where the unit defines it, and whether a declaration had an initializer
pub record ObjectView : Type 0 where
  pub declared : DeclaredView
  pub number : Option ℕ
  pub initialized : Bool

abbrev pub object_view : ObjectDeclaration → ObjectView
object_view o = record { declared = declared_view o.declared; number = o.number; initialized = o.initialized }

-- a function that was declared: its number where the unit defines it, and whether its definition was met
pub record SignatureView : Type 0 where
  pub result : DeclaredView
  pub parameters : List Ty
  pub number : Option ℕ
  pub is_defined : Bool

abbrev pub signature_view : Signature → SignatureView
signature_view s = record { result = declared_view s.result; parameters = map view s.parameters.items; number = s.number; is_defined = s.is_defined }

unfoldable pub each_same : List Ty → List Ty → Bool
each_same [] us = true
each_same (t ∷ ts) [] = false
each_same (t ∷ ts) (u ∷ us) = cond (same_type t u) (each_same ts us) false

-- whether two lists have the same types
abbrev pub same_types : List Ty → List Ty → Bool
same_types ts us = cond (length ts == length us) (each_same ts us) false

-- whether a function has this result and these parameters
abbrev pub is_same_signature : SignatureView → Ty → List Ty → Bool
is_same_signature s t ts = cond (same_type s.result.ctype t) (same_types s.parameters ts) false
