-- Declarations and definitions at file scope: each function that was declared with a number is there, or is to come.
use Rattle.std.proofs.Common.{zero, suc, ◌≡◌, ◌≤◌, ◌+◌, ℕ, Bool, true, false, List, [], ◌∷◌, ◌++◌, length, map, slice_get, Option, Some, None, Ok, Err, arith, refl, ap, subst, sym, ◌∙◌}
use Rattle.std.specs.Prelude.{cond}
use Rattle.std.proofs.lemmas.Option.{same_Some}
use Rattle.cc_base.specs.declared.diagnostics.Place.{Place}
use Rattle.c_layout.specs.Types.{Ty}
use Rattle.c_layout.specs.CheckedUnits.{LocalView, FunctionView}
use Rattle.c_layout.specs.DeclarationTrees as syntax
use Rattle.c_layout.specs.DeclarationTrees.{NameView, SpecTree, InitDeclaratorView, Object, Initialized, Prototype, FunctionDeclaratorView, StatementTrees, spec_trees, statement_trees}
use Rattle.c_layout.specs.declared.data_model.Model.{Model}
use Rattle.c_types_scopes.specs.Answers.{after}
use Rattle.c_types_scopes.specs.DeclaredTypes.{SignatureView}
use Rattle.c_types_scopes.specs.Definitions.{DefinitionsView, function_of}
use Rattle.c_types_scopes.specs.Names.{number_in, found_here}
use Rattle.c_types_scopes.specs.Refusals.{Ruled, type_fault}
use Rattle.c_types_scopes.specs.ScopeTables as table
use Rattle.c_types_scopes.specs.States.{State, with_name}
use Rattle.c_types_scopes.specs.declared.meanings.Meaning.{Meaning}
use Rattle.c_types_scopes.specs.declared.meanings.Meaning.TheVariants as meaning
use Rattle.c_types_declarations.specs.FunctionHeads as heads
use Rattle.c_types_declarations.specs.FunctionHeads.{HeadView}
use Rattle.c_types_declarations.specs.SpecifierTrees.{specifiers}
use Rattle.c_types_declarations.specs.Specifiers.{SpecifiedView}
use Rattle.c_types_statements.specs.LocalDeclarations.{are_none, is_empty}
use Rattle.c_types.specs.FileScope.ExternalDeclarations as external
use Rattle.c_types.specs.FileScope.FunctionDeclarations as functions
use Rattle.c_types.specs.declared.file_scope.function_declarations.FunctionSlot.{FunctionSlot}
use Rattle.c_types.specs.Units.FunctionDefinitions as definitions
use Rattle.c_types_theorems.proofs.entries.Leading.{Leads, cond_leads, then}
use Rattle.source_preservation.specs.Checks.LookedTypes.{same_mark}
use Rattle.lower_functions.specs.Functions.Functions.{local_type, type_or}
use Rattle.c_types_well_formed.specs.WellFormed.UnitParts.{IsHeadOf}
use Rattle.c_types_well_formed.proofs.rules.ModelKinds.{mark_same}
use Rattle.c_types_well_formed_units.proofs.parameters.Longer.{Longer, longer_by, longer_twice, last_item}
use Rattle.c_types_well_formed_units.proofs.heads.Numbering.{IsNumbering, IsComing}
use Rattle.c_types_well_formed_units.specs.Parameters.BodyObjects.{local_ctype, types_of}
use Rattle.c_types_well_formed_units.proofs.parameters.Growing.{ScopeView, scope, opened, IsMeaningful, AreFew, IsRenewed, GoesOn, Grows, on_same, on_twice, on_closed, grows_closed, means_by, means_longer, means_more, means_renewed, renewed_longer, none_declared, function_found}
use Rattle.c_types_well_formed_units.proofs.parameters.Heads.{Heads, function_heads, IsFunctionOf, HasBody, body_goes}
use Rattle.c_types_well_formed_units.proofs.heads.Functions.{HasFunctions, functions_longer, functions_new, functions_defined, renewed_changed, Stands, IsSigned, Signs, signed_signs, IsMet, Meets, judged_meets}
use Rattle.c_types_statement_rules.specs.Objects.Changes.{changed}
use Rattle.c_types_well_formed_units.proofs.parameters.Objects.{G, named, words_lead, typedef_leads, object_declarator_leads, initialized_declarator_leads}

-- ---- states at file scope

-- between external declarations, by the functions that were made so far
pub record IsFile (d : DefinitionsView) (first : List (List ℕ)) (m : Model) (made : List FunctionView) (s : State) : Type 0 where
  pub names : Longer first s.scopes.names
  pub definitions : s.definitions ≡ d
  pub model : s.known.numbers ≡ m
  pub marks : s.scopes.ordinary.marks ≡ []
  pub means : IsMeaningful (scope s)
  pub few : AreFew s.objects s.statics
  pub functions : HasFunctions d made s.scopes.ordinary.entries s.functions

on_functions : (v : ScopeView) (fs : List SignatureView) → GoesOn v (record v { functions = fs })
on_functions v fs = (let g = on_same v in record { names = g.names; marks = refl; entries = g.entries; meanings = g.meanings; definitions = refl; model = refl; few = λ h. h })

renewed_twice : (fs gs hs : List SignatureView) → IsRenewed fs gs → IsRenewed gs hs → IsRenewed fs hs
renewed_twice fs gs hs a b = record { each = λ i f is. (let x = a.each i f is in let y = b.each i x.0 x.1 in (y.0, y.1, y.2 ∙ x.2)) }

typed_at : (ls : List LocalView) (i : ℕ) (t : Ty) → slice_get (map local_ctype ls) i ≡ Some t → (l : LocalView) × (slice_get ls i ≡ Some l) × (l.ctype ≡ t)
typed_at [] i t is = absurd (cc)
typed_at (l ∷ ls) zero t is = (l, refl, same_Some l.ctype t is)
typed_at (l ∷ ls) (suc i) t is = typed_at ls i t is

module _ (d : DefinitionsView) (names : List (List ℕ)) (m : Model) (good : IsNumbering d) where
  abbrev File : List FunctionView → State → Type 0
  File made s = IsFile d names m made s

  file_grows : (made : List FunctionView) (s t : State) → Grows (scope s) (scope t) → File made s → File made t
  file_grows made s t g h = record {
    names = longer_twice names s.scopes.names t.scopes.names h.names g.on.names;
    definitions = g.on.definitions ∙ h.definitions;
    model = g.on.model ∙ h.model;
    marks = g.on.marks ∙ h.marks;
    means = g.means h.means;
    few = g.on.few h.few;
    functions = subst (HasFunctions d made t.scopes.ordinary.entries) (sym g.functions) (functions_longer d made s.scopes.ordinary.entries t.scopes.ordinary.entries s.functions g.on.entries h.functions);
  }

  -- ---- the place of a function among those declared

  new_file : (made : List FunctionView) (name : ℕ) (s : State) → found_here s.scopes name ≡ None → File made s → File made (functions.with_new_function s name)
  new_file made name s none h =
      let new = functions.new_signature (function_of s.definitions name) in
      let fs = s.functions ++ new ∷ [] in
      record {
        names = h.names;
        definitions = h.definitions;
        model = h.model;
        marks = h.marks;
        means = means_more s.scopes.ordinary s.scopes.meanings fs s.definitions name (meaning.Function (length s.functions)) (new, last_item s.functions new, refl) (means_renewed s.scopes.ordinary s.scopes.meanings s.functions fs s.definitions (renewed_longer s.functions fs (longer_by s.functions (new ∷ []))) h.means);
        few = h.few;
        functions = subst (λ z. HasFunctions d made (functions.with_new_function s name).scopes.ordinary.entries (s.functions ++ functions.new_signature (function_of z name) ∷ [])) (sym h.definitions)
            (functions_new d made s.scopes.ordinary.entries s.functions good name (length s.scopes.meanings) (none_declared s name h.marks h.means none) h.functions);
      }

  abbrev StandsIn : List FunctionView → ℕ → FunctionSlot × State → Type 0
  StandsIn made name p = File made p.1 × Stands d name p.0.number p.1.functions p.0.before

  stands_by : (made : List FunctionView) (name : ℕ) (s : State) (o : Option Meaning) → found_here s.scopes name ≡ o → File made s → StandsIn made name (functions.slot_by name (functions.name_before_by o) s)
  stands_by made name s None is h =
      let new = functions.new_signature (function_of s.definitions name) in
      (new_file made name s is h, (new, last_item s.functions new, ap (λ z. function_of z name) h.definitions, refl))
  stands_by made name s (Some (meaning.Function i)) is h =
      let f = function_found s name i h.marks h.means is in
      (h, (f.0, f.1, f.2 ∙ ap (λ z. function_of z name) h.definitions))
  stands_by made name s (Some (meaning.Static n)) is h = (h, tt)
  stands_by made name s (Some (meaning.Local n)) is h = (h, tt)
  stands_by made name s (Some (meaning.Typedef n)) is h = (h, tt)
  stands_by made name s (Some (meaning.Enumerator v)) is h = (h, tt)

  slot_stands : (made : List FunctionView) (n : NameView) (s : State) → File made s → StandsIn made (number_in s.scopes.names n.text) (functions.function_slot n s)
  slot_stands made n s h =
      let t = with_name s n.text in
      let name = number_in s.scopes.names n.text in
      stands_by made name t (found_here t.scopes name) refl (file_grows made s t (named s n.text).0 h)

  -- ---- prototypes

  signed_file : (made : List FunctionView) (name number : ℕ) (h : HeadView) (s t : State) → File made s → IsSigned d made s.scopes.ordinary.entries name number h s t → File made t
  signed_file made name number h s t file signed = subst (File made) (sym signed.same) (record {
    names = file.names;
    definitions = file.definitions;
    model = file.model;
    marks = file.marks;
    means = means_renewed s.scopes.ordinary s.scopes.meanings s.functions signed.fs s.definitions signed.renewed file.means;
    few = file.few;
    functions = signed.all;
  })

  abbrev KeepsFile : {V : Type 0} → List FunctionView → State → Ruled (V × State) → Type 0
  KeepsFile made s r = Leads (λ t u. File made t → File made u) s r

  grown : {V : Type 0} (made : List FunctionView) (s : State) (r : Ruled (V × State)) → Leads G s r → KeepsFile made s r
  grown made s (Ok p) g = λ h. file_grows made s p.1 g.0 h
  grown made s (Err f) g = tt

  keeps_step : {U V : Type 0} (made : List FunctionView) (s : State) (r : Ruled (U × State)) (next : U → State → Ruled (V × State)) → KeepsFile made s r → ((u : U) (t : State) → KeepsFile made t (next u t)) → KeepsFile made s (after r next)
  keeps_step made s r next = then (λ t u. File made t → File made u) (λ t u v g h file. h (g file)) s r next

  abbrev FileAfter : {V : Type 0} → List FunctionView → Ruled (V × State) → Type 0
  FileAfter made (Ok p) = File made p.1
  FileAfter made (Err f) = Unit {0}

  keeps_after : {V : Type 0} (made : List FunctionView) (s : State) (r : Ruled (V × State)) → (File made s → FileAfter made r) → KeepsFile made s r
  keeps_after made s (Ok p) h = h
  keeps_after made s (Err f) h = tt

  signed_after : (made : List FunctionView) (name number : ℕ) (h : HeadView) (s : State) (r : Ruled (Unit {0} × State)) → File made s → Signs d made s.scopes.ordinary.entries name number h s r → FileAfter made r
  signed_after made name number h s (Ok p) file signed = signed_file made name number h s p.1 file signed
  signed_after made name number h s (Err f) file signed = tt

  prototype_after : (made : List FunctionView) (n : NameView) (name : ℕ) (p : FunctionSlot × State) → StandsIn made name p → (r : Ruled (HeadView × State)) → Heads (functions.in_scope p.1) r → FileAfter made (after r (λ h t. functions.signed n p.0.number p.0.before h (functions.out_of_scope t)))
  prototype_after made n name p stands (Ok h) g =
      let t = functions.out_of_scope h.1 in
      let grows = grows_closed (scope p.1) (scope h.1) g.0 in
      let file = file_grows made p.1 t grows stands.0 in
      signed_after made name p.0.number h.0 t (functions.signed n p.0.number p.0.before h.0 t) file
      (signed_signs d made t.scopes.ordinary.entries name p.0.number h.0 n p.0.before t file.functions (subst (λ fs. Stands d name p.0.number fs p.0.before) (sym grows.functions) stands.1))
  prototype_after made n name p stands (Err f) g = tt

  prototype_keeps : (made : List FunctionView) (s : State) (b : SpecifiedView) (f : FunctionDeclaratorView) → KeepsFile made s (functions.prototype s b f)
  prototype_keeps made s b f =
      let p = functions.function_slot f.name s in
      keeps_after made s (functions.prototype s b f) (λ file. prototype_after made f.name (number_in s.scopes.names f.name.text) p (slot_stands made f.name s file) (heads.function_head (functions.in_scope p.1) b.declared f) (function_heads (functions.in_scope p.1) b.declared f))

  -- ---- declarations

  declarator_keeps : (made : List FunctionView) (s : State) (b : SpecifiedView) (at : Place) (e : InitDeclaratorView) → KeepsFile made s (external.object_declarator s b at e)
  declarator_keeps made s b at (Object e) = by_name e.name
    where
      by_name : (n : Option NameView) → KeepsFile made s (external.plain_named s b at n e.layers)
      by_name None = tt
      by_name (Some n) = grown made s (external.plain_object s b n e.layers) (object_declarator_leads s b n e.layers)
  declarator_keeps made s b at (Initialized e equals i) = by_name e.name
    where
      by_name : (n : Option NameView) → KeepsFile made s (external.initialized_named s b at n e.layers equals i)
      by_name None = tt
      by_name (Some n) = grown made s (external.initialized_object s b n e.layers equals i) (initialized_declarator_leads s b n e.layers equals i)
  declarator_keeps made s b at (Prototype f) = prototype_keeps made s b f

  declarators_keep : (made : List FunctionView) (es : List InitDeclaratorView) (s : State) (b : SpecifiedView) (at : Place) → KeepsFile made s (external.declarators s b at es)
  declarators_keep made [] s b at = λ h. h
  declarators_keep made (e ∷ es) s b at =
      keeps_step made s (external.declarator s b at e) _
      (cond_leads (λ t u. File made t → File made u) s (external.is_typedef b.storage) (external.typedef_declarator s b at e) (external.object_declarator s b at e) (grown made s (external.typedef_declarator s b at e) (typedef_leads s b at e)) (declarator_keeps made s b at e))
      (λ u t. declarators_keep made es t b at)

  pub declaration_keeps : (made : List FunctionView) (s : State) (at : Place) (words : List SpecTree) (es : List InitDeclaratorView) → KeepsFile made s (external.external_declaration s at words es)
  declaration_keeps made s at words es =
      keeps_step made s (specifiers s at (are_none es) (spec_trees words)) (external.declared_by at es) (grown made s (specifiers s at (are_none es) (spec_trees words)) (words_lead s at (are_none es) words))
      (λ b t. cond_leads (λ v u. File made v → File made u) t (is_empty es b) _ (external.declarators t b at es) tt (declarators_keep made es t b at))

  -- ---- heads of definitions

  record IsHeaded (made : List FunctionView) (s : State) (name number : ℕ) (h : HeadView) (t : State) : Type 0 where
    fs : List SignatureView
    all : HasFunctions d made s.scopes.ordinary.entries fs
    renewed : IsRenewed s.functions fs
    f : SignatureView
    there : slice_get fs number ≡ Some f
    undefined : f.is_defined ≡ false
    numbered : f.number ≡ function_of d name
    result : f.result.ctype ≡ h.declared.ctype
    parameters : f.parameters ≡ h.parameters
    functions : t.functions ≡ changed functions.defined_signature number fs
    on : GoesOn (opened (scope s)) (scope t)
    typed : types_of t ≡ h.parameters

  abbrev Headed : List FunctionView → State → ℕ → ℕ → Ruled (HeadView × State) → Type 0
  Headed made s name number (Ok p) = IsHeaded made s name number p.0 p.1
  Headed made s name number (Err f) = Unit {0}

  head_done : (made : List FunctionView) (s : State) (name number known : ℕ) (h : HeadView) (t u : State) → Grows (opened (scope s)) (scope t) → (h.are_named ≡ true → types_of t ≡ h.parameters) → IsMet d made s.scopes.ordinary.entries name number h t u → IsHeaded made s name number h (definitions.with_number known u)
  head_done made s name number known h t u g typed met =
      subst (λ z. IsHeaded made s name number h (definitions.with_number known z)) (sym met.same)
      (subst (λ z. IsHeaded made s name number h (definitions.with_number known (functions.with_defined z number))) (sym met.signed.same) (record {
        fs = met.signed.fs;
        all = met.signed.all;
        renewed = subst (λ fs. IsRenewed fs met.signed.fs) g.functions met.signed.renewed;
        f = met.signed.f;
        there = met.signed.there;
        undefined = met.undefined;
        numbered = met.signed.numbered;
        result = met.signed.result;
        parameters = met.signed.parameters;
        functions = refl;
        on = on_twice (opened (scope s)) (scope t) (record (scope t) { functions = changed functions.defined_signature number met.signed.fs }) g.on (on_functions (scope t) (changed functions.defined_signature number met.signed.fs));
        typed = typed met.named;
      }))

  met_headed : (made : List FunctionView) (s : State) (name number known : ℕ) (h : HeadView) (t : State) → Grows (opened (scope s)) (scope t) → (h.are_named ≡ true → types_of t ≡ h.parameters) → (r : Ruled (Unit {0} × State)) → Meets d made s.scopes.ordinary.entries name number h t r → Headed made s name number (after r (definitions.numbered known h))
  met_headed made s name number known h t g typed (Ok p) met = head_done made s name number known h t p.1 g typed met
  met_headed made s name number known h t g typed (Err f) met = tt

  head_headed : (made : List FunctionView) (n : NameView) (name : ℕ) (p : FunctionSlot × State) → StandsIn made name p → (r : Ruled (HeadView × State)) → Heads (functions.in_scope p.1) r → Headed made p.1 name p.0.number (after r (definitions.head_in n p.0))
  head_headed made n name p stands (Ok h) g =
      let same : p.1.functions ≡ h.1.functions = sym g.0.functions in
      met_headed made p.1 name p.0.number p.0.known h.0 h.1 g.0 g.1 (functions.judged_head n p.0.number p.0.before h.0 h.1)
      (judged_meets d made p.1.scopes.ordinary.entries name p.0.number h.0 n p.0.before h.1 (subst (HasFunctions d made p.1.scopes.ordinary.entries) same stands.0.functions) (subst (λ fs. Stands d name p.0.number fs p.0.before) same stands.1))
  head_headed made n name p stands (Err f) g = tt

  -- ---- definitions

  -- the function is there with the head that was declared
  function_head_of : (f : SignatureView) (h : HeadView) (locals : List LocalView) (fn : FunctionView) → f.result.ctype ≡ h.declared.ctype → f.parameters ≡ h.parameters → map local_ctype locals ≡ h.parameters → IsFunctionOf h locals fn → IsHeadOf f fn
  function_head_of f h locals fn result same typed of = record {
    returns = of.returns ∙ sym result;
    counted = of.counted ∙ ap length (sym same);
    parameters = λ i t is.
        let l = typed_at locals i t (ap (λ ts. slice_get ts i) (typed ∙ sym same) ∙ is) in
        let x = of.like.each i l.0 l.1 in
        let at : local_type fn i ≡ t = ap (λ o. type_or o fn.returns) x.1 ∙ (x.2 ∙ l.2) in
        subst (λ z. same_mark t z ≡ true) (sym at) (mark_same t);
  }

  defined_file : (made : List FunctionView) (s : State) (name number j : ℕ) (h : HeadView) (t u : State) (fn : FunctionView) → File made s → function_of d name ≡ Some j → j ≤ length made → IsHeaded made s name number h t → Grows (scope t) (scope u) → IsFunctionOf h t.body.locals fn → File (made ++ fn ∷ []) (functions.out_of_scope u)
  defined_file made s name number j h t u fn file is early x g of =
      let fs = changed functions.defined_signature number x.fs in
      let on = on_twice (opened (scope s)) (scope t) (scope u) x.on g.on in
      let c = on_closed (scope s) (scope u) on in
      let same : u.functions ≡ fs = g.functions ∙ x.functions in
      let renewed = renewed_twice s.functions x.fs fs x.renewed (renewed_changed functions.defined_signature number x.fs (λ f. refl)) in
      let least = x.all.coming number j x.f x.there (x.numbered ∙ is) x.undefined in
      let place : j ≡ length made = omega (arith, least, early) in
      let head = function_head_of x.f h t.body.locals fn x.result x.parameters x.typed of in
      let all = functions_defined d made s.scopes.ordinary.entries x.fs number x.f fn x.there x.undefined (x.numbered ∙ (is ∙ ap Some place)) head x.all in record {
        names = longer_twice names s.scopes.names u.scopes.names file.names c.1.names;
        definitions = c.1.definitions ∙ file.definitions;
        model = c.1.model ∙ file.model;
        marks = c.1.marks ∙ file.marks;
        means = means_by s.scopes.ordinary (table.closed u.scopes.ordinary) u.scopes.meanings u.scopes.meanings fs u.functions s.definitions u.definitions c.0 refl same on.definitions
            (means_longer s.scopes.ordinary s.scopes.meanings u.scopes.meanings fs s.definitions on.meanings (means_renewed s.scopes.ordinary s.scopes.meanings s.functions fs s.definitions renewed file.means));
        few = c.1.few file.few;
        functions = subst (λ z. HasFunctions d (made ++ fn ∷ []) z.entries u.functions) (sym c.0) (subst (HasFunctions d (made ++ fn ∷ []) s.scopes.ordinary.entries) (sym same) all);
      }

  abbrev pub Defines : List FunctionView → Ruled (FunctionView × State) → Type 0
  Defines made (Ok p) = File (made ++ p.0 ∷ []) p.1
  Defines made (Err f) = Unit {0}

  body_defines : (made : List FunctionView) (s : State) (name number j : ℕ) (h : HeadView) (t : State) → File made s → function_of d name ≡ Some j → j ≤ length made → IsHeaded made s name number h t → (r : Ruled (FunctionView × State)) → HasBody h t r → Defines made (after r definitions.ended)
  body_defines made s name number j h t file is early x (Ok p) g = defined_file made s name number j h t p.1 p.0 file is early x g.0 g.1
  body_defines made s name number j h t file is early x (Err f) g = tt

  head_defines : (made : List FunctionView) (n : NameView) (ts : StatementTrees) (s : State) (name number j : ℕ) → File made s → function_of d name ≡ Some j → j ≤ length made → (r : Ruled (HeadView × State)) → Headed made s name number r → Defines made (after (after r (definitions.with_body n ts)) definitions.ended)
  head_defines made n ts s name number j file is early (Ok p) x = body_defines made s name number j p.0 p.1 file is early x (definitions.with_body n ts p.0 p.1) (body_goes n ts p.0 p.1)
  head_defines made n ts s name number j file is early (Err f) x = tt

  cond_defines : (made : List FunctionView) (b : Bool) (x y : Ruled (FunctionView × State)) → Defines made x → Defines made y → Defines made (cond b x y)
  cond_defines made true x y g h = g
  cond_defines made false x y g h = h

  words_define : (made : List FunctionView) (s : State) (f : FunctionDeclaratorView) (ts : StatementTrees) → File made s → IsComing d names (length made) f.name.text → (r : Ruled (SpecifiedView × State)) → Leads G s r → Defines made (after r (definitions.defined_by f ts))
  words_define made s f ts file coming (Ok p) g =
      let t = p.1 in
      let at_words = file_grows made s t g.0 file in
      let slot = functions.function_slot f.name t in
      let name = number_in t.scopes.names f.name.text in
      let stands = slot_stands made f.name t at_words in
      cond_defines made (external.is_typedef p.0.storage) (type_fault f.name.at) (definitions.defined f ts p.0 t) tt
      (head_defines made f.name ts slot.1 name slot.0.number coming.number stands.0 (coming.is t.scopes.names at_words.names) coming.early (definitions.defined_head t p.0 f)
      (head_headed made f.name name slot stands (heads.function_head (functions.in_scope slot.1) p.0.declared f) (function_heads (functions.in_scope slot.1) p.0.declared f)))
  words_define made s f ts file coming (Err e) g = tt

  pub definition_defines : (made : List FunctionView) (s : State) (at : Place) (words : List SpecTree) (f : FunctionDeclaratorView) (body : List syntax.StatementTree) → File made s → IsComing d names (length made) f.name.text → Defines made (definitions.function_definition s at words f body)
  definition_defines made s at words f body file coming = words_define made s f (statement_trees body) file coming (specifiers s at false (spec_trees words)) (words_lead s at false words)
