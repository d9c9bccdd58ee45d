-- What typing knows has types of the data model, and its literals and stores are such as memory has.
use Rattle.std.specs.Prelude.{◌≡◌, ℤ, true}
use Rattle.cc_base.specs.IntegerTypes.{in_type}
use Rattle.c_layout.specs.Models.{is_model}
use Rattle.c_layout.specs.StructViews.{FieldView, StructView}
use Rattle.c_layout.specs.CheckedUnits.{LocalView, StaticView, LiteralView}
use Rattle.c_layout.specs.declared.data_model.Model.{Model}
use Rattle.c_types_scopes.specs.DeclaredTypes.{DeclaredView, ObjectView, SignatureView}
use Rattle.c_types_scopes.specs.Known.{Known}
use Rattle.c_types_scopes.specs.States.{State}
use Rattle.c_types_scopes.specs.declared.meanings.Meaning.{Meaning}
use Rattle.c_types_scopes.specs.declared.meanings.Meaning.TheVariants as meaning
use Rattle.c_types_operands.specs.Arithmetic.{int_kind}
use Rattle.c_types_well_formed.specs.WellFormed.ModelTypes.{IsTypeOf, Each}
use Rattle.c_types_well_formed.specs.WellFormed.ProperStores.{IsShortLiteral, AreProperStores}

abbrev pub HasResult : Model → SignatureView → Type 0
HasResult m f = IsTypeOf m f.result.ctype

abbrev pub HasParameters : Model → SignatureView → Type 0
HasParameters m f = Each (IsTypeOf m) f.parameters

abbrev pub HasFields : Model → StructView → Type 0
HasFields m s = Each (λ (f : FieldView). IsTypeOf m f.ctype) s.fields

-- the value of an enumerator is one of int
abbrev pub IsMeaning : Known → Meaning → Type 0
IsMeaning k m = (n : ℤ) → m ≡ meaning.Enumerator n → in_type (int_kind k) n ≡ true

pub record HasTypes (s : State) : Type 0 where
  pub proper : is_model s.known.numbers ≡ true
  pub objects : Each (λ (o : ObjectView). IsTypeOf s.known.numbers o.declared.ctype) s.objects
  pub locals : Each (λ (l : LocalView). IsTypeOf s.known.numbers l.ctype) s.body.locals
  pub statics : Each (λ (o : StaticView). IsTypeOf s.known.numbers o.ctype) s.statics
  pub typedefs : Each (λ (d : DeclaredView). IsTypeOf s.known.numbers d.ctype) s.typedefs
  pub literals : Each (λ (l : LiteralView). IsShortLiteral l) s.literals
  pub stores : Each (λ (o : StaticView). AreProperStores o.stores) s.statics
  pub results : Each (HasResult s.known.numbers) s.functions
  pub parameters : Each (HasParameters s.known.numbers) s.functions
  pub fields : Each (HasFields s.known.numbers) s.types.structs
  pub meanings : Each (IsMeaning s.known) s.scopes.meanings
