-- Bodies of structs keep what typing knows, and their members have types of the data model.
use Rattle.std.proofs.Common.{◌+◌, ℕ, List, [], ◌∷◌, Option, Some, None, Ok, Err, length, subst, sym}
use Rattle.std.specs.Prelude.{Bool, true, false, nat_le, cond}
use Rattle.cc_base.specs.declared.diagnostics.Place.{Place}
use Rattle.c_layout.specs.Layout.{most_bytes, round_up}
use Rattle.c_layout.specs.StructViews.{FieldView, StructView}
use Rattle.c_layout.specs.StructLayouts.{Partial, added, finished}
use Rattle.c_layout.specs.DeclarationTrees.{NameView, DeclaratorLayerView, DeclaratorView}
use Rattle.c_layout.specs.declared.data_model.Model.{Model}
use Rattle.c_layout.specs.declared.syntax_tree.declarations.Storage.{Storage}
use Rattle.c_types_scopes.specs.Answers.{after}
use Rattle.c_types_scopes.specs.DeclaredTypes.{DeclaredView}
use Rattle.c_types_scopes.specs.Known.{size_of}
use Rattle.c_types_scopes.specs.Names.{number_in, found_tag_here}
use Rattle.c_types_scopes.specs.Refusals.{Ruled, redeclared, type_fault}
use Rattle.c_types_scopes.specs.States.{State, with_name}
use Rattle.c_types_scopes.specs.StructTables as types
use Rattle.c_types_scopes.specs.declared.meanings.Tag.{Tag}
use Rattle.c_types_scopes.specs.declared.meanings.Tag.TheVariants as tag
use Rattle.c_types_declarations.specs.ContextSteps.{with_struct, with_body, with_member}
use Rattle.c_types_declarations.specs.Declarators.{declared_type}
use Rattle.c_types_declarations.specs.Specifiers.{SpecifiedView}
use Rattle.c_types_declarations.specs.StructBodies as bodies
use Rattle.c_types_declarations.specs.declared.struct_bodies.OpenBody.{OpenBody}
use Rattle.c_types_well_formed.specs.WellFormed.KnownTypes.{HasTypes}
use Rattle.c_types_well_formed.specs.WellFormed.ModelTypes.{IsTypeOf, Each}
use Rattle.c_types_well_formed.specs.WellFormed.ProperStatements.{AreProperLayers, AreProperDeclarators}
use Rattle.c_types_well_formed.specs.WellFormed.TypingLaws.{LeadsOn}
use Rattle.c_types_well_formed.proofs.terms.Parts.{HoldsIf, each_more}
use Rattle.c_types_well_formed.proofs.terms.Steps.{IsAt, keeps_same, keeps_twice, at_later, onward, then, cond_on, named_keeps}
use Rattle.c_types_well_formed.proofs.terms.TypeNames.{IsDeclaredOf, Anything}
use Rattle.c_types_well_formed.proofs.types.Changes.{struct_keeps, body_keeps, member_keeps, complete_keeps, tag_keeps}
use Rattle.c_types_well_formed.proofs.types.Declaring.{declared_on}

abbrev IsFieldOf : Model → FieldView → Type 0
IsFieldOf m f = IsTypeOf m f.ctype

-- the members that are laid out so far
abbrev pub HasLaid : Model → Partial → Type 0
HasLaid m p = Each (IsFieldOf m) p.fields

-- ---- tags

alone_of_on : (at : Place) (name : ℕ) (s : State) (t : Option Tag) → HasTypes s → LeadsOn s Anything (bodies.alone_of at name s t)
alone_of_on at name s (Some (tag.Struct number)) h = (keeps_same s h, tt)
alone_of_on at name s (Some (tag.Enumeration number)) h = tt
alone_of_on at name s None h = (keeps_twice s (with_struct s) (bodies.new_tag name s).1 (struct_keeps s h) (tag_keeps (with_struct s) name (tag.Struct (length s.types.structs)) (struct_keeps s h).types), tt)

pub alone_on : (t : NameView) (s : State) → HasTypes s → LeadsOn s Anything (bodies.alone_tag t s)
alone_on t s h = onward s (with_name s t.text) Anything (bodies.alone_tag t s) (named_keeps s t.text h) (alone_of_on t.at (number_in s.scopes.names t.text) (with_name s t.text) (found_tag_here s.scopes (number_in s.scopes.names t.text)) (named_keeps s t.text h).types)

owned_on : (s : State) (at : Place) (r : Ruled (ℕ × State)) → LeadsOn s Anything r → LeadsOn s Anything (bodies.owned_at at r)
owned_on s at (Ok p) h = (h.0, tt)
owned_on s at (Err f) h = tt

owner_on : (at : Place) (t : Option NameView) (s : State) → HasTypes s → LeadsOn s Anything (bodies.owner_of at t s)
owner_on at None s h = (struct_keeps s h, tt)
owner_on at (Some t) s h = owned_on s t.at (bodies.alone_tag t s) (alone_on t s h)

begun_on : (b : Bool) (owner : ℕ) (at : Place) (s : State) → HasTypes s → LeadsOn s Anything (Ok (bodies.begun_by b owner at s))
begun_on true owner at s h = (struct_keeps s h, tt)
begun_on false owner at s h = (keeps_same s h, tt)

begun_body_on : (s : State) (at : Place) (t : Option NameView) → HasTypes s → LeadsOn s Anything (bodies.begun_body s at t)
begun_body_on s at t h = then s Anything Anything (bodies.owner_of at t s) bodies.begun_of (owner_on at t s h) (λ o u k any.
    onward u (with_body u o.0) Anything (bodies.begun_of o u) (body_keeps u o.0 k.types) (begun_on (types.has_body u.types o.0) o.0 o.1 (with_body u o.0) (body_keeps u o.0 k.types).types))

-- ---- members

module _ (m : Model) where
  abbrev Laid : Partial → State → Type 0
  Laid p t = HasLaid m p

  beside_on : (p : Partial) (s : State) (r : Ruled (Unit {0} × State)) → HasLaid m p → LeadsOn s Anything r → LeadsOn s Laid (bodies.beside p r)
  beside_on p s (Ok q) laid h = (h.0, laid)
  beside_on p s (Err f) laid h = tt

  named_member_on : (at : Place) (owner name field : ℕ) (e : Option ℕ) (s : State) → HasTypes s → LeadsOn s Anything (bodies.named_by at owner name field e s)
  named_member_on at owner name field e s h = cond_on s Anything (types.has_member s.types owner name) (redeclared at) (Ok (tt, with_member s owner name field e)) tt (member_keeps s owner name field e h, tt)

  name_member_on : (owner : ℕ) (n : NameView) (field : ℕ) (e : Option ℕ) (s : State) → HasTypes s → LeadsOn s Anything (bodies.name_member owner n field e s)
  name_member_on owner n field e s h = onward s (with_name s n.text) Anything (bodies.name_member owner n field e s) (named_keeps s n.text h) (named_member_on n.at owner (number_in s.scopes.names n.text) field e (with_name s n.text) (named_keeps s n.text h).types)

  field_on : (owner : ℕ) (n : NameView) (d : DeclaredView) (field : ℕ) (p : Partial) (s : State) (size : Option ℕ) → HasTypes s → IsDeclaredOf m d → HasLaid m p → LeadsOn s Laid (bodies.field_by owner n d field p s size)
  field_on owner n d field p s None h typed laid = tt
  field_on owner n d field p s (Some size) h typed laid =
      beside_on (added s.known.structs s.known.numbers.pointer p n.text d.ctype) s (bodies.name_member owner n field d.enumeration s)
      (each_more (IsFieldOf m) p.fields _ laid typed) (name_member_on owner n field d.enumeration s h)

  add_field_on : (owner : ℕ) (stored : Option Storage) (n : NameView) (d : DeclaredView) (field : ℕ) (p : Partial) (s : State) → HasTypes s → IsDeclaredOf m d → HasLaid m p → LeadsOn s Laid (bodies.add_field owner stored n d field p s)
  add_field_on owner stored n d field p s h typed laid = cond_on s Laid (bodies.is_stored stored) (type_fault n.at) (bodies.field_by owner n d field p s (size_of s.known d.ctype)) tt (field_on owner n d field p s (size_of s.known d.ctype) h typed laid)

  member_on : (owner : ℕ) (base : SpecifiedView) (layers : List DeclaratorLayerView) (field : ℕ) (p : Partial) (s : State) (n : Option NameView) → IsAt m s → IsDeclaredOf m base.declared → AreProperLayers m layers → HasLaid m p → LeadsOn s Laid (bodies.add_named owner base layers field p s n)
  member_on owner base layers field p s None a typed proper laid = (keeps_same s a.types, laid)
  member_on owner base layers field p s (Some n) a typed proper laid =
      then s (λ d t. IsDeclaredOf m d) Laid (declared_type s n.at base.declared layers) (λ d t. bodies.add_field owner base.storage n d field p t) (declared_on m s n.at base.declared layers a typed proper)
      (λ d t k declared. add_field_on owner base.storage n d field p t k.types declared laid)

  -- members of one declaration
  pub members_on : (ds : List DeclaratorView) (owner : ℕ) (base : SpecifiedView) (count : ℕ) (p : Partial) (s : State) → IsAt m s → IsDeclaredOf m base.declared → AreProperDeclarators m ds → HasLaid m p → LeadsOn s (λ (q : ℕ × Partial) t. HasLaid m q.1) (bodies.declared_members owner base ds count p s)
  members_on [] owner base count p s a typed proper laid = (keeps_same s a.types, laid)
  members_on (d ∷ ds) owner base count p s a typed proper laid =
      then s Laid (λ (q : ℕ × Partial) t. HasLaid m q.1) (bodies.add_member owner base d count p s) (λ q t. bodies.declared_members owner base ds (count + 1) q t) (member_on owner base d.layers count p s d.name a typed proper.0 laid)
      (λ q t k more. members_on ds owner base (count + 1) q t (at_later m s t a k) typed proper.1 more)

  -- ---- bodies

  finished_holds : (p : Partial) → HasLaid m p → HoldsIf (λ (v : StructView). Each (IsFieldOf m) v.fields) (finished p)
  finished_holds p laid = by (nat_le (round_up p.end p.align) most_bytes)
    where
      by : (b : Bool) → HoldsIf (λ (v : StructView). Each (IsFieldOf m) v.fields) (cond b (Some (record { fields = p.fields; complete = true; size = round_up p.end p.align; align = p.align; leaves = p.leaves; plain_leaves = p.plain_leaves })) None)
      by true = laid
      by false = tt

  completed_on : (at : Place) (owner : ℕ) (made : Option StructView) (s : State) → IsAt m s → HoldsIf (λ (v : StructView). Each (IsFieldOf m) v.fields) made → LeadsOn s Anything (bodies.completed at owner made s)
  completed_on at owner None s a laid = tt
  completed_on at owner (Some made) s a laid = (complete_keeps s owner made a.types (subst (λ x. Each (IsFieldOf x) made.fields) (sym a.same) laid), tt)

  ended_on : (b : OpenBody) (p : Partial) (s : State) → IsAt m s → HasLaid m p → LeadsOn s Anything (bodies.ended b p s)
  ended_on b p s a laid = cond_on s Anything b.is_repeated (redeclared b.at) (bodies.completed b.at b.owner (finished p) s) tt (completed_on b.at b.owner (finished p) s a (finished_holds p laid))

  -- a body whose members are laid out
  pub body_on : (s : State) (at : Place) (t : Option NameView) (lay : State → ℕ → Ruled (Partial × State)) → IsAt m s → ((s1 : State) (n : ℕ) → IsAt m s1 → LeadsOn s1 Laid (lay s1 n)) → LeadsOn s Anything (after (bodies.begun_body s at t) (λ b s1. after (lay s1 b.number) (bodies.ended b)))
  body_on s at t lay a h = then s Anything Anything (bodies.begun_body s at t) (λ b s1. after (lay s1 b.number) (bodies.ended b)) (begun_body_on s at t a.types) (λ b s1 k any.
      then s1 Laid Anything (lay s1 b.number) (bodies.ended b) (h s1 b.number (at_later m s s1 a k)) (λ p u k1 laid. ended_on b p u (at_later m s1 u (at_later m s s1 a k) k1) laid))
