-- What typing knows at the end of a unit is part of it.
use Rattle.std.proofs.Common.{◌≡◌, ◌<◌, ◌+◌, ℕ, zero, suc, Bool, true, false, List, [], ◌∷◌, length, map, slice_get, Option, Some, None, Ok, Err, arith, refl, ap, subst, sym, ◌∙◌}
use Rattle.std.specs.Prelude.{is_some}
use Rattle.std.proofs.lemmas.Bool.{le-leb}
use Rattle.std.proofs.lemmas.List.{length-append, length-map}
use Rattle.cc_base.specs.declared.diagnostics.Place.{Place}
use Rattle.c_layout.specs.CheckedUnits.{FunctionView}
use Rattle.c_layout.specs.DeclarationTrees.{ExternalTree, Declared, Defined}
use Rattle.c_layout.specs.declared.data_model.Model.{Model}
use Rattle.c_types_scopes.specs.Answers.{after}
use Rattle.c_types_scopes.specs.DeclaredTypes.{SignatureView}
use Rattle.c_types_scopes.specs.Definitions.{DefinitionsView, function_of}
use Rattle.c_types_scopes.specs.Refusals.{Ruled}
use Rattle.c_types_scopes.specs.States.{State, first_state}
use Rattle.c_types_statement_rules.specs.Objects.UnitObjects as ends
use Rattle.c_types.specs.FileScope.ExternalDeclarations.{external_declaration}
use Rattle.c_types.specs.Units.Streams.{with_stream}
use Rattle.c_types.specs.Units.UnitDefinitions.{with_externals}
use Rattle.c_types.specs.Units.FunctionDefinitions.{function_definition}
use Rattle.c_types.specs.Units.UnitChecks as checks
use Rattle.c_types_theorems.proofs.entries.Leading.{Leads}
use Rattle.c_types_theorems.proofs.entries.Entries.{same_value}
use Rattle.c_types_well_formed.specs.WellFormed.UnitParts.{IsPartOf, IsThere}
use Rattle.c_types_well_formed_units.specs.Heads.HeadLaws.{UnitsHaveHeads}
use Rattle.c_types_well_formed_units.proofs.parameters.Longer.{longer_same}
use Rattle.c_types_well_formed_units.proofs.heads.Numbering.{IsNumbering, externals_prepare, AllCome, Comes, behind, externals_come}
use Rattle.c_types_well_formed_units.proofs.parameters.Growing.{few_by}
use Rattle.c_types_well_formed_units.proofs.heads.Files.{IsFile, declaration_keeps, Defines, definition_defines}

there_within : {A : Type 0} (xs : List A) (n : ℕ) → n < length xs → is_some (slice_get xs n) ≡ true
there_within [] n less = absurd (omega (arith, less))
there_within (x ∷ xs) zero less = refl
there_within (x ∷ xs) (suc n) less = there_within xs n (omega (arith, less))

-- ---- external declarations

-- the functions of a unit whose definitions are all made
abbrev AllMade : DefinitionsView → List FunctionView → Type 0
AllMade d made = (k j : ℕ) → function_of d k ≡ Some j → j < length made

module _ (d : DefinitionsView) (names : List (List ℕ)) (m : Model) (good : IsNumbering d) where
  -- the functions behind an external declaration, and how many there are
  abbrev Makes : ℕ → Ruled (List FunctionView × State) → Type 0
  Makes count (Ok p) = IsFile d names m p.0 p.1 × (length p.0 ≡ count)
  Makes count (Err f) = Unit {0}

  kept_makes : (made : List FunctionView) (r : Ruled (Unit {0} × State)) (s : State) → IsFile d names m made s → Leads (λ t u. IsFile d names m made t → IsFile d names m made u) s r → Makes (length made) (after r (checks.functions_kept made))
  kept_makes made (Ok p) s file h = (h file, refl)
  kept_makes made (Err f) s file h = tt

  defined_makes : (made : List FunctionView) (r : Ruled (FunctionView × State)) → Defines d names m good made r → Makes (length made + 1) (after r (checks.with_function made))
  defined_makes made (Ok p) h = (h, length-append made (p.0 ∷ []))
  defined_makes made (Err f) h = tt

  external_makes : (s : State) (made : List FunctionView) (e : ExternalTree) → IsFile d names m made s → Comes d names (length made) e → Makes (behind (length made) e) (checks.external s made e)
  external_makes s made (Declared at words ds) file comes = kept_makes made (external_declaration s at words ds) s file (declaration_keeps d names m good made s at words ds)
  external_makes s made (Defined at words f body) file comes = defined_makes made (function_definition s at words f body) (definition_defines d names m good made s at words f body file comes)

  abbrev Ends : Ruled (List FunctionView × State) → Type 0
  Ends (Ok p) = IsFile d names m p.0 p.1 × AllMade d p.0
  Ends (Err f) = Unit {0}

  further : (es : List ExternalTree) (count : ℕ) (r : Ruled (List FunctionView × State)) → ((t : State) (more : List FunctionView) → IsFile d names m more t → AllCome d names (length more) es → Ends (checks.externals t more es)) → AllCome d names count es → Makes count r → Ends (after r (λ more t. checks.externals t more es))
  further es count (Ok p) h come made = h p.1 p.0 made.0 (subst (λ n. AllCome d names n es) (sym made.1) come)
  further es count (Err f) h come made = tt

  externals_end : (es : List ExternalTree) (s : State) (made : List FunctionView) → IsFile d names m made s → AllCome d names (length made) es → Ends (checks.externals s made es)
  externals_end [] s made file come = (file, come)
  externals_end (e ∷ es) s made file come = further es (behind (length made) e) (checks.external s made e) (λ t more g h. externals_end es t more g h) come.1 (external_makes s made e file come.0)

  -- ---- the end of a unit

  objects_end : (made : List FunctionView) (s : State) (past : Option Place) → Ends (Ok (made, s)) → Ends (after (ends.judged_bounds past (ends.with_bounded (ends.with_completed s))) (checks.functions_kept made))
  objects_end made s (Some at) h = tt
  objects_end made s None h =
      let t = ends.with_bounded (ends.with_completed s) in
      let long : length t.statics ≡ length s.statics = length-map (map ends.completed_object s.statics) (ends.bounded_object (ends.object_sizes (ends.with_completed s))) ∙ length-map s.statics ends.completed_object in (
        record {
          names = h.0.names;
          definitions = h.0.definitions;
          model = h.0.model;
          marks = h.0.marks;
          means = h.0.means;
          few = few_by s.objects s.objects s.statics t.statics refl long h.0.few;
          functions = h.0.functions;
        },
        h.1,
      )

  unit_ends : (r : Ruled (List FunctionView × State)) → Ends r → Ends (after r checks.finished)
  unit_ends (Ok p) h = objects_end p.0 p.1 (ends.first_past (ends.object_sizes (ends.with_completed p.1)) (ends.with_bounded (ends.with_completed p.1)).statics p.1.initializers) h
  unit_ends (Err f) h = tt

  there : (made : List FunctionView) (s : State) (entry : ℕ) → IsFile d names m made s → AllMade d made → (i : ℕ) (f : SignatureView) (n : ℕ) → slice_get s.functions i ≡ Some f → f.number ≡ Some n → IsThere (checks.unit_of m made s entry) f n
  there made s entry file all i f n is number = by_defined f.is_defined refl
    where
      by_defined : (b : Bool) → f.is_defined ≡ b → IsThere (checks.unit_of m made s entry) f n
      by_defined true defined = let g = file.functions.met i n f is number defined in record { function = g.0; found = g.1; head = g.2 }
      by_defined false undefined = absurd (
          let least = file.functions.coming i n f is number undefined in
          let name = file.functions.named i n f is number in
          let less = all name.0 n name.1 in
          omega (arith, least, less))

  part_of : (made : List FunctionView) (s : State) (entry : ℕ) → IsFile d names m made s → AllMade d made → IsPartOf s (checks.unit_of m made s entry)
  part_of made s entry file all = record {
    model = sym file.model;
    objects = λ i o n is number. there_within s.statics n (file.few.each i n o is number);
    literals = le-leb (length s.literals) (length s.literals) (omega arith);
    functions = there made s entry file all;
  }

  ended : (r : Ruled (List FunctionView × State)) (made : List FunctionView) (s : State) (entry : ℕ) → Ends r → r ≡ Ok (made, s) → IsPartOf s (checks.unit_of m made s entry)
  ended (Ok p) made s entry h e = subst (λ q. IsPartOf q.1 (checks.unit_of m q.0 q.1 entry)) (same_value p (made, s) e) (part_of p.0 p.1 entry h.0 h.1)
  ended (Err f) made s entry h e = absurd (cc)

-- ---- the beginning

none_of : {A : Type 0} (x : A) → None ≡ Some x → ⊥
none_of x h = cc

none_numbered : (m : Model) → IsNumbering (with_stream (first_state m)).definitions
none_numbered m = record { below = λ k j is. absurd (none_of j is); apart = λ k l j is at. absurd (none_of j is) }

abbrev begun : Model → List ExternalTree → State
begun m es = with_externals es (with_stream (first_state m))

none_within : {A : Type 0} (i : ℕ) (x : A) → (let xs : List A = [] in slice_get xs i) ≡ Some x → ⊥
none_within i x h = cc

begins : (m : Model) (es : List ExternalTree) → IsFile (begun m es).definitions (begun m es).scopes.names m [] (begun m es)
begins m es =
    let s = with_stream (first_state m) in
    let t = begun m es in
    let p = externals_prepare es s (none_numbered m) in
    let no_entry : t.scopes.ordinary.entries ≡ [] = ap (λ z. z.entries) p.table in
    let no_function : t.functions ≡ [] = p.functions in
    let no_object : t.objects ≡ [] = p.objects in record {
      names = longer_same t.scopes.names;
      definitions = refl;
      model = p.model;
      marks = ap (λ z. z.marks) p.table;
      means = record { each = λ i e is. absurd (none_within i e (ap (λ l. slice_get l i) (sym no_entry) ∙ is)) };
      few = record { each = λ i n o is number. absurd (none_within i o (ap (λ l. slice_get l i) (sym no_object) ∙ is)) };
      functions = record {
        named = λ i n f is number. absurd (none_within i f (ap (λ l. slice_get l i) (sym no_function) ∙ is));
        apart = λ i j n f g isf isg nf ng. absurd (none_within i f (ap (λ l. slice_get l i) (sym no_function) ∙ isf));
        met = λ i n f is number defined. absurd (none_within i f (ap (λ l. slice_get l i) (sym no_function) ∙ is));
        coming = λ i n f is number undefined. absurd (none_within i f (ap (λ l. slice_get l i) (sym no_function) ∙ is));
        done = λ n less. absurd (omega (arith, less));
      };
    }

pub units_have_heads : UnitsHaveHeads
units_have_heads m es made s entry is =
    let d = (begun m es).definitions in
    let names = (begun m es).scopes.names in
    let none = none_numbered m in
    let good = (externals_prepare es (with_stream (first_state m)) none).numbering none in
    let come = externals_come es (with_stream (first_state m)) none in
    ended d names m good (checks.typed_unit (first_state m) es) made s entry (unit_ends d names m good (checks.externals (begun m es) [] es) (externals_end d names m good es (begun m es) [] (begins m es) come)) is
