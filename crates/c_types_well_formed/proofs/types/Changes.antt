-- Changes of what typing knows that keep its types of the data model.
use Rattle.std.proofs.Common.{ℕ, zero, suc, List, [], ◌∷◌, Option, refl, subst}
use Rattle.std.specs.Prelude.{ℤ, slice_set}
use Rattle.std.proofs.lemmas.Option.{same_Some}
use Rattle.cc_base.specs.declared.diagnostics.Place.{Place}
use Rattle.c_layout.specs.StructViews.{StructView, no_struct}
use Rattle.c_types_scopes.specs.DeclaredTypes.{DeclaredView}
use Rattle.c_types_scopes.specs.States.{State, with_local}
use Rattle.c_types_scopes.specs.declared.meanings.Meaning.{Meaning}
use Rattle.c_types_scopes.specs.declared.meanings.Tag.{Tag}
use Rattle.c_types_declarations.specs.ContextSteps.{with_struct, with_body, with_member, with_complete, with_tag, with_meaning}
use Rattle.c_types_declarations.specs.Parameters.{without_locals}
use Rattle.c_types_well_formed.specs.WellFormed.KnownTypes.{HasTypes, HasFields, IsMeaning}
use Rattle.c_types_well_formed.specs.WellFormed.ModelTypes.{IsTypeOf, Each}
use Rattle.c_types_well_formed.specs.WellFormed.TypingLaws.{Keeps}
use Rattle.c_types_well_formed.proofs.terms.Parts.{none_of, each_none, each_more}
use Rattle.c_types_well_formed.proofs.terms.Steps.{keeps_by}

pub each_set : {V : Type 0} (P : V → Type 0) (xs : List V) (k : ℕ) (v : V) → Each P xs → P v → Each P (slice_set xs k v)
each_set P [] k v h p i x is = absurd (none_of x is)
each_set P (y ∷ xs) zero v h p zero x is = subst P (same_Some v x is) p
each_set P (y ∷ xs) zero v h p (suc i) x is = h (suc i) x is
each_set P (y ∷ xs) (suc k) v h p zero x is = h zero x is
each_set P (y ∷ xs) (suc k) v h p (suc i) x is = each_set P xs k v (λ j. h (suc j)) p i x is

pub struct_keeps : (s : State) → HasTypes s → Keeps s (with_struct s)
struct_keeps s h = keeps_by s (with_struct s) refl refl refl refl refl (record {
  proper = h.proper;
  objects = h.objects;
  locals = h.locals;
  statics = h.statics;
  typedefs = h.typedefs;
  literals = h.literals;
  stores = h.stores;
  results = h.results;
  parameters = h.parameters;
  fields = each_more (HasFields s.known.numbers) s.types.structs no_struct h.fields (each_none (λ f. IsTypeOf s.known.numbers f.ctype));
  meanings = h.meanings;
})

pub body_keeps : (s : State) (owner : ℕ) → HasTypes s → Keeps s (with_body s owner)
body_keeps s owner h = keeps_by s (with_body s owner) refl refl refl refl refl (record { proper = h.proper; objects = h.objects; locals = h.locals; statics = h.statics; typedefs = h.typedefs; literals = h.literals; stores = h.stores; results = h.results; parameters = h.parameters; fields = h.fields; meanings = h.meanings })

pub member_keeps : (s : State) (owner name field : ℕ) (e : Option ℕ) → HasTypes s → Keeps s (with_member s owner name field e)
member_keeps s owner name field e h = keeps_by s (with_member s owner name field e) refl refl refl refl refl (record { proper = h.proper; objects = h.objects; locals = h.locals; statics = h.statics; typedefs = h.typedefs; literals = h.literals; stores = h.stores; results = h.results; parameters = h.parameters; fields = h.fields; meanings = h.meanings })

pub complete_keeps : (s : State) (owner : ℕ) (made : StructView) → HasTypes s → HasFields s.known.numbers made → Keeps s (with_complete s owner made)
complete_keeps s owner made h fields = keeps_by s (with_complete s owner made) refl refl refl refl refl (record {
  proper = h.proper;
  objects = h.objects;
  locals = h.locals;
  statics = h.statics;
  typedefs = h.typedefs;
  literals = h.literals;
  stores = h.stores;
  results = h.results;
  parameters = h.parameters;
  fields = each_set (HasFields s.known.numbers) s.types.structs owner made h.fields fields;
  meanings = h.meanings;
})

pub tag_keeps : (s : State) (name : ℕ) (t : Tag) → HasTypes s → Keeps s (with_tag s name t)
tag_keeps s name t h = keeps_by s (with_tag s name t) refl refl refl refl refl (record { proper = h.proper; objects = h.objects; locals = h.locals; statics = h.statics; typedefs = h.typedefs; literals = h.literals; stores = h.stores; results = h.results; parameters = h.parameters; fields = h.fields; meanings = h.meanings })

pub meaning_keeps : (s : State) (name : ℕ) (m : Meaning) → HasTypes s → IsMeaning s.known m → Keeps s (with_meaning s name m)
meaning_keeps s name m h is = keeps_by s (with_meaning s name m) refl refl refl refl refl (record {
  proper = h.proper;
  objects = h.objects;
  locals = h.locals;
  statics = h.statics;
  typedefs = h.typedefs;
  literals = h.literals;
  stores = h.stores;
  results = h.results;
  parameters = h.parameters;
  fields = h.fields;
  meanings = each_more (IsMeaning s.known) s.scopes.meanings m h.meanings is;
})

pub enumerations_keep : (s : State) (x : List (List ℤ)) → HasTypes s → Keeps s (record s { enumerations = x })
enumerations_keep s x h = keeps_by s (record s { enumerations = x }) refl refl refl refl refl (record { proper = h.proper; objects = h.objects; locals = h.locals; statics = h.statics; typedefs = h.typedefs; literals = h.literals; stores = h.stores; results = h.results; parameters = h.parameters; fields = h.fields; meanings = h.meanings })

pub local_keeps : (s : State) (text : List ℕ) (at : Place) (d : DeclaredView) → HasTypes s → IsTypeOf s.known.numbers d.ctype → Keeps s (with_local s text at d)
local_keeps s text at d h typed = keeps_by s (with_local s text at d) refl refl refl refl refl (record {
  proper = h.proper;
  objects = h.objects;
  locals = each_more (λ l. IsTypeOf s.known.numbers l.ctype) s.body.locals (record { name = text; at = at; ctype = d.ctype }) h.locals typed;
  statics = h.statics;
  typedefs = h.typedefs;
  literals = h.literals;
  stores = h.stores;
  results = h.results;
  parameters = h.parameters;
  fields = h.fields;
  meanings = h.meanings;
})

pub without_locals_keeps : (s : State) → HasTypes s → Keeps s (without_locals s)
without_locals_keeps s h = keeps_by s (without_locals s) refl refl refl refl refl (record {
  proper = h.proper;
  objects = h.objects;
  locals = each_none (λ l. IsTypeOf s.known.numbers l.ctype);
  statics = h.statics;
  typedefs = h.typedefs;
  literals = h.literals;
  stores = h.stores;
  results = h.results;
  parameters = h.parameters;
  fields = h.fields;
  meanings = h.meanings;
})
