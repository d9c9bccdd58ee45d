-- What typing makes of initializers is marked.
use Rattle.std.proofs.Common.{◌≡◌, ℕ, List, [], ◌∷◌, ◌++◌, Option, Some, None, Ok, Err, slice_get, refl, ap, subst, sym, ◌∙◌}
use Rattle.std.specs.Prelude.{Bool, true, false, cond}
use Rattle.cc_base.specs.declared.diagnostics.Place.{Place}
use Rattle.cc_base.specs.declared.refusals.Fault.{Fault}
use Rattle.c_layout.specs.Types.{Ty, same_type}
use Rattle.c_layout.specs.SyntaxTrees.{Tree}
use Rattle.c_layout.specs.DeclarationTrees as tree
use Rattle.c_layout.specs.DeclarationTrees.{InitializerTree, InitializerTrees}
use Rattle.c_layout.specs.CheckedTrees as made
use Rattle.c_layout.specs.CheckedTrees.{TermTree, LvalueTree, StoreTree, StoreValue, StoreCopy, StoreText}
use Rattle.c_layout.specs.CheckedUnits.{UnitView}
use Rattle.c_layout.specs.declared.data_model.Model.{Model}
use Rattle.c_types_scopes.specs.Refusals.{Ruled, type_fault}
use Rattle.c_types_scopes.specs.Answers.{after, kept}
use Rattle.c_types_scopes.specs.Known.{Known}
use Rattle.c_types_scopes.specs.States.{State}
use Rattle.c_types_operands.specs.Operands.{OperandView, OperandForm, AsValue, AsLvalue, lvalue_type, term_of, is_scalar, is_struct}
use Rattle.c_types_operands.specs.Operands as operands
use Rattle.c_types_operands.specs.Conversions.{assigned}
use Rattle.c_types_operators.specs.Assignments.{struct_source, source_form}
use Rattle.c_types_expressions.specs.Expressions.Expressions.{typed}
use Rattle.c_types_initializers.specs.Subobjects.{SubobjectView, OpenView, entered, next, subobject}
use Rattle.c_types_initializers.specs.Literals.{bare_literal, character_room, only_literal, literal_length}
use Rattle.c_types_initializers.specs.ListStores.{FillingView, nothing, scalar_of, copy_of, with_found, takes_value, takes_text, sought}
use Rattle.c_types_initializers.specs.Initialized.{InitializedView, scalar_by, struct_by, by_operand, spelled, filled_by}
use Rattle.c_types_expressions.specs.BracedLists.BracedLists as lists
use Rattle.c_types_expressions.specs.BracedLists.Initializers as spec
use Rattle.lower_templates.specs.Worklist.TermKinds.{term_type}
use Rattle.source_preservation.specs.Checks.LookedTypes.{is_scalar_type}
use Rattle.source_preservation.specs.Checks.LookedTerms.{is_well_typed_term, is_well_typed_place}
use Rattle.c_layout.specs.ByteTexts.{are_bytes}
use Rattle.c_types_well_formed.specs.WellFormed.ModelTypes.{IsTypeOf}
use Rattle.c_types_well_formed.specs.WellFormed.MadeTerms.{IsMade, IsMadeOperand, IsMadeForm, Gives}
use Rattle.c_types_well_formed.specs.WellFormed.UnitParts.{IsPartOf}
use Rattle.c_types_well_formed.specs.WellFormed.ProperTrees.{IsProperTree}
use Rattle.c_types_well_formed.specs.WellFormed.ProperStatements.{IsProperInitializer, AreProperInitializers}
use Rattle.c_types_well_formed.specs.WellFormed.TypingLaws.{MakesOperand}
use Rattle.c_types_well_formed.proofs.decided_tests.ModelKinds.{scalar_there}
use Rattle.c_types_well_formed.proofs.stores.Texts.{IsText, bare_text, only_text}
use Rattle.c_types_well_formed.proofs.layouts.Expressing.{expressions_lay}
use Rattle.c_types_well_formed.specs.Initializers.ReadyStates.{IsReady, Goes}
use Rattle.c_types_well_formed.specs.Initializers.PartLaws.{HasLaws}
use Rattle.c_types_well_formed.specs.Initializers.WellTypedInitializers.{AreValued, IsValued, IsInitial}
use Rattle.c_types_well_formed.proofs.initializers.Going.{unit_type, ground, then, cond_goes, led_goes}
use Rattle.c_types_well_formed.proofs.initializers.Going as going
use Rattle.c_types_well_formed.proofs.initializers.TypedSubobjects.{FieldsTyped, AreTyped, length_typed, next_typed, sought_typed}

-- ---- stores

valued_more : (u : UnitView) (xs : List StoreTree) (x : StoreTree) → AreValued u xs → IsValued u x → AreValued u (xs ++ x ∷ [])
valued_more u [] x all one = (one, tt)
valued_more u (y ∷ xs) x all one = (all.0, valued_more u xs x all.1 one)

-- a value of a scalar type, where it is not refused
abbrev pub GivesScalar : UnitView → Ruled TermTree → Type 0
GivesScalar u (Ok e) = (is_well_typed_term u true e ≡ true) × (is_scalar_type u (term_type e) ≡ true)
GivesScalar u (Err f) = Unit {0}

same_term_type : (e : TermTree) → term_type e ≡ operands.term_type e
same_term_type (made.Typed at t parens constant f) = refl

given_scalar : (u : UnitView) (to : Ty) (r : Ruled TermTree) → is_scalar_type u to ≡ true → Gives u to r → GivesScalar u r
given_scalar u to (Ok e) scalar h = (h.well_typed, ap (is_scalar_type u) (same_term_type e ∙ h.same) ∙ scalar)
given_scalar u to (Err f) scalar h = tt

-- ---- what a value stores

scalar_valued : (u : UnitView) (v : FillingView) (offset : ℕ) (r : Ruled TermTree) → GivesScalar u r → AreValued u v.stores → AreValued u (scalar_of v offset r).stores
scalar_valued u v offset (Ok e) h all = valued_more u v.stores (StoreValue offset e) all h
scalar_valued u v offset (Err f) h all = all

abbrev IsWellTypedSource : UnitView → Option LvalueTree → Type 0
IsWellTypedSource u None = Unit {0}
IsWellTypedSource u (Some l) = is_well_typed_place u l ≡ true

source_well_typed : (u : UnitView) (f : OperandForm) (t : Ty) → IsMadeForm u f → IsWellTypedSource u (source_form f t)
source_well_typed u (AsValue e) t h = tt
source_well_typed u (AsLvalue l) t h = by_type (same_type (lvalue_type l) t)
  where
    by_type : (b : Bool) → IsWellTypedSource u (cond b (Some l) None)
    by_type true = h.well_typed
    by_type false = tt

copy_valued : (u : UnitView) (v : FillingView) (at : Place) (offset : ℕ) (l : Option LvalueTree) → IsWellTypedSource u l → AreValued u v.stores → AreValued u (copy_of v at offset l).stores
copy_valued u v at offset None h all = all
copy_valued u v at offset (Some l) h all = valued_more u v.stores (StoreCopy offset l) all h

value_valued : (u : UnitView) (k : Known) (at : Place) (s : SubobjectView) (o : OperandView) (v : FillingView) (b : Bool) → GivesScalar u (assigned k at (term_of o) s.ctype) → IsMadeOperand u o → AreValued u v.stores
    → AreValued u (cond b (scalar_of v s.offset (assigned k at (term_of o) s.ctype)) (copy_of v at s.offset (struct_source o s.ctype))).stores
value_valued u k at s o v true scalar h all = scalar_valued u v s.offset (assigned k at (term_of o) s.ctype) scalar all
value_valued u k at s o v false scalar h all = copy_valued u v at s.offset (struct_source o s.ctype) (source_well_typed u o.form s.ctype h) all

found_valued : (u : UnitView) (k : Known) (at : Place) (o : OperandView) (v : FillingView) (found : Option SubobjectView) → ((s : SubobjectView) → found ≡ Some s → GivesScalar u (assigned k at (term_of o) s.ctype)) → IsMadeOperand u o → AreValued u v.stores → AreValued u (with_found k at o v found).stores
found_valued u k at o v None scalar h all = all
found_valued u k at o v (Some s) scalar h all = value_valued u k at s o v (is_scalar s.ctype) (scalar s refl) h all

-- ---- literals

abbrev IsProperOnly : Model → Option Tree → Type 0
IsProperOnly m None = Unit {0}
IsProperOnly m (Some e) = IsProperTree m e

only_proper : (m : Model) (list : InitializerTrees) → AreProperInitializers m list → IsProperOnly m (lists.only_value list)
only_proper m tree.NoInitializer h = tt
only_proper m (tree.MoreInitializers (tree.Single e) tree.NoInitializer) h = h.0
only_proper m (tree.MoreInitializers (tree.Braces at items) tree.NoInitializer) h = tt
only_proper m (tree.MoreInitializers i (tree.MoreInitializers j items)) h = tt

module _ (laws : HasLaws) (m : Model) where
  pub fields_typed : (s : State) → IsReady m s → FieldsTyped m s.known
  fields_typed s h i j v f there at = subst (λ n. IsTypeOf n f.ctype) h.numbers (h.types.fields i v (ap (λ l. slice_get l i) (sym h.layouts.settled) ∙ there) j f at)

  -- an expression that is evaluated
  pub typed_goes : (s : State) (e : Tree) → IsReady m s → IsProperTree m e → Goes m s going.nothing IsMadeOperand (typed s e)
  typed_goes s e h proper = led_goes m s MakesOperand going.nothing IsMadeOperand (typed s e) h (laws.expressions s e h.types h.evaluated (subst (λ n. IsProperTree n e) (sym h.numbers) proper)) (expressions_lay s e h.layouts) (λ x t numbers g. (tt, g))

  pub value_made : (t : State) (u : UnitView) (x : OperandView) → IsReady m t → IsPartOf t u → IsMadeOperand u x → IsMade u (term_of x)
  value_made t u x h part g = laws.values u t.known (ground m t u h part) x g

  pub term_given : (t : State) (u : UnitView) (at : Place) (e : TermTree) (to : Ty) → IsReady m t → IsPartOf t u → IsTypeOf m to → IsMade u e → GivesScalar u (assigned t.known at e to)
  term_given t u at e to h part to_typed g =
      let base = ground m t u h part in
      let there : IsTypeOf u.model to = unit_type m t u to h part to_typed in
      given_scalar u to (assigned t.known at e to) (scalar_there u to base.proper there) (laws.conversions u t.known base at e to g there)

  scalar_given : (t : State) (u : UnitView) (at : Place) (x : OperandView) (to : Ty) → IsReady m t → IsPartOf t u → IsTypeOf m to → IsMadeOperand u x → GivesScalar u (assigned t.known at (term_of x) to)
  scalar_given t u at x to h part to_typed g = term_given t u at (term_of x) to h part to_typed (value_made t u x h part g)

  -- ---- steps that fill

  abbrev Fills : State → FillingView → Ruled (FillingView × State) → Type 0
  Fills s v r = Goes m s going.nothing (λ u w. AreValued u v.stores → AreValued u w.stores) r

  abbrev Counts : State → FillingView → Ruled ((ℕ × FillingView) × State) → Type 0
  Counts s v r = Goes m s (λ (p : ℕ × FillingView). Unit {0}) (λ u p. AreValued u v.stores → AreValued u p.1.stores) r

  abbrev Reads : State → FillingView → Ruled ((List OpenView × FillingView) × State) → Type 0
  Reads s v r = Goes m s (λ (p : List OpenView × FillingView). AreTyped m p.0) (λ u p. AreValued u v.stores → AreValued u p.1.stores) r

  scalar_fills : (s : State) (equals : Place) (sub : SubobjectView) (v : FillingView) (e : Tree) → IsReady m s → IsProperTree m e → IsTypeOf m sub.ctype → Fills s v (lists.fill_scalar s equals sub v e)
  scalar_fills s equals sub v e h proper t = then m s going.nothing IsMadeOperand going.nothing (λ u w. AreValued u v.stores → AreValued u w.stores) (typed s e) (lists.scalar_in equals sub v) (typed_goes s e h proper)
      (λ x s1 ready n. (ready, tt, λ u part. (part, λ g all. scalar_valued u v sub.offset (assigned s1.known equals (term_of x) sub.ctype) (scalar_given s1 u equals x sub.ctype ready part t g) all)))

  value_reads : (s : State) (equals : Place) (had : List OpenView) (v : FillingView) (e : Tree) → IsReady m s → IsProperTree m e → AreTyped m had → Reads s v (lists.fill_value s equals had v e)
  value_reads s equals had v e h proper opened = then m s going.nothing IsMadeOperand (λ (p : List OpenView × FillingView). AreTyped m p.0) (λ u p. AreValued u v.stores → AreValued u p.1.stores) (typed s e) (lists.value_in equals had v) (typed_goes s e h proper)
      (λ x s1 ready n.
      let found = sought s1.known (takes_value x) had in
      let f = sought_typed m s1.known (fields_typed s1 ready) (takes_value x) had opened in (
        ready,
        f.opened,
        λ u part. (part, λ g all. found_valued u s1.known equals x v found.0 (λ sub is. scalar_given s1 u equals x sub.ctype ready part (f.found sub is) g) g all),
      ))

  text_fills : (s : State) (equals : Place) (sub : SubobjectView) (v : FillingView) (e : Tree) (bytes : List ℕ) (room : Option ℕ) → IsReady m s → IsProperTree m e → are_bytes bytes ≡ true → IsTypeOf m sub.ctype → Fills s v (lists.text_in s equals sub v e bytes room)
  text_fills s equals sub v e bytes (Some room) h proper plain t = (h, tt, λ u part. (part, λ all. valued_more u v.stores (StoreText sub.offset room bytes) all plain))
  text_fills s equals sub v e bytes None h proper plain t = scalar_fills s equals sub v e h proper t

  found_fills : (s : State) (equals : Place) (v : FillingView) (e : Tree) (bytes : List ℕ) (found : Option SubobjectView) → IsReady m s → IsProperTree m e → are_bytes bytes ≡ true → ((x : SubobjectView) → found ≡ Some x → IsTypeOf m x.ctype) → Fills s v (lists.fill_found s equals v e bytes found)
  found_fills s equals v e bytes None h proper plain t = (h, tt, λ u part. (part, λ all. all))
  found_fills s equals v e bytes (Some sub) h proper plain t = text_fills s equals sub v e bytes (character_room sub.ctype) h proper plain (t sub refl)

  beside_reads : (s : State) (left : List OpenView) (v : FillingView) (r : Ruled (FillingView × State)) → AreTyped m left → Fills s v r → Reads s v (lists.beside left r)
  beside_reads s left v (Ok p) opened h = (h.0, opened, h.2)
  beside_reads s left v (Err f) opened h = tt

  single_reads : (s : State) (equals : Place) (had : List OpenView) (v : FillingView) (e : Tree) (bytes : Option (List ℕ)) → IsReady m s → IsProperTree m e → IsText bytes → AreTyped m had → Reads s v (lists.single_by s equals had v e bytes)
  single_reads s equals had v e (Some bytes) h proper plain opened =
      let found = sought s.known takes_text had in
      let f = sought_typed m s.known (fields_typed s h) takes_text had opened in
      beside_reads s found.1 v (lists.fill_found s equals v e bytes found.0) f.opened (found_fills s equals v e bytes found.0 h proper plain f.found)
  single_reads s equals had v e None h proper plain opened = value_reads s equals had v e h proper opened

  -- ---- lists that initialize nothing

  abbrev no_law : UnitView → Unit {0} → Type 0
  no_law u x = Unit {0}

  mutual
    item_goes : (s : State) (i : InitializerTree) → IsReady m s → IsProperInitializer m i → Goes m s going.nothing no_law (lists.typed_item s i)
    item_goes s (tree.Single e) h proper = then m s going.nothing IsMadeOperand going.nothing no_law (typed s e) lists.typed_alone (typed_goes s e h proper) (λ x t ready n. (ready, tt, λ u part. (part, λ g. tt)))
    item_goes s (tree.Braces at items) h proper = items_go s items h proper

    items_go : (s : State) (items : InitializerTrees) → IsReady m s → AreProperInitializers m items → Goes m s going.nothing no_law (lists.typed_items s items)
    items_go s tree.NoInitializer h proper = (h, tt, λ u part. (part, tt))
    items_go s (tree.MoreInitializers i items) h proper = then m s going.nothing no_law going.nothing no_law (lists.typed_item s i) (λ x t. lists.typed_items t items) (item_goes s i h proper.0) (λ x t ready n. of_rest t (lists.typed_items t items) (items_go t items ready proper.1))
      where
        of_rest : (t : State) (r : Ruled (Unit {0} × State)) → Goes m t going.nothing no_law r → Goes m t going.nothing (λ u x. Unit {0} → Unit {0}) r
        of_rest t (Ok p) g = (g.0, tt, λ u part. ((g.2 u part).0, λ x. tt))
        of_rest t (Err f) g = tt

  refused_fills : (s : State) (equals : Place) (v : FillingView) (items : InitializerTrees) → IsReady m s → AreProperInitializers m items → Fills s v (lists.refuse_list s equals v items)
  refused_fills s equals v items h proper = then m s going.nothing no_law going.nothing (λ u w. AreValued u v.stores → AreValued u w.stores) (lists.typed_items s items) (lists.with_refusal equals v) (items_go s items h proper) (λ x t ready n. (ready, tt, λ u part. (part, λ g all. all)))

  -- ---- one object

  only_fills : (s : State) (equals : Place) (sub : SubobjectView) (v : FillingView) (items : InitializerTrees) (e : Option Tree) → IsReady m s → AreProperInitializers m items → IsProperOnly m e → IsTypeOf m sub.ctype → Fills s v (lists.by_only s equals sub v items e)
  only_fills s equals sub v items (Some e) h proper only t = scalar_fills s equals sub v e h only t
  only_fills s equals sub v items None h proper only t = refused_fills s equals v items h proper

  characters_count : (s : State) (sub : SubobjectView) (v : FillingView) (room : ℕ) (text : Option (List ℕ)) (r : Ruled ((ℕ × FillingView) × State)) → IsReady m s → IsText text → Counts s v r → Counts s v (lists.characters_or s sub v room text r)
  characters_count s sub v room (Some bytes) r h plain g = (h, tt, λ u part. (part, λ all. valued_more u v.stores (StoreText sub.offset room bytes) all plain))
  characters_count s sub v room None r h plain g = g

  whole_count : (s : State) (sub : SubobjectView) (v : FillingView) (list : InitializerTrees) (room : Option ℕ) (r : Ruled ((ℕ × FillingView) × State)) → IsReady m s → AreProperInitializers m list → Counts s v r → Counts s v (lists.whole_or s sub v list room r)
  whole_count s sub v list (Some room) r h proper g = characters_count s sub v room (only_literal list) r h (only_text m list proper) g
  whole_count s sub v list None r h proper g = g

  one_count : (s : State) (v : FillingView) (r : Ruled (FillingView × State)) → Fills s v r → Counts s v (after r lists.one_passed)
  one_count s v (Ok p) h = h
  one_count s v (Err f) h = tt

  fill_by_counts : (s : State) (equals : Place) (sub : SubobjectView) (v : FillingView) (list : InitializerTrees) (r : Ruled ((ℕ × FillingView) × State)) → IsReady m s → AreProperInitializers m list → IsTypeOf m sub.ctype → Counts s v r → Counts s v (lists.fill_by s equals sub v list r)
  fill_by_counts s equals sub v list r h proper t g =
      cond_goes m s (λ (p : ℕ × FillingView). Unit {0}) (λ u p. AreValued u v.stores → AreValued u p.1.stores) (is_scalar sub.ctype) (after (lists.fill_from_list s equals sub v list) lists.one_passed) (lists.whole_or s sub v list (character_room sub.ctype) r)
      (one_count s v (lists.fill_from_list s equals sub v list) (only_fills s equals sub v list (lists.only_value list) h proper (only_proper m list proper) t))
      (whole_count s sub v list (character_room sub.ctype) r h proper g)

  uncounted_fills : (s : State) (v : FillingView) (r : Ruled ((ℕ × FillingView) × State)) → Counts s v r → Fills s v (after r lists.uncounted)
  uncounted_fills s v (Ok p) h = h
  uncounted_fills s v (Err f) h = tt

  braces_read : (s : State) (equals : Place) (left : List OpenView) (v : FillingView) (list : InitializerTrees) (filling : SubobjectView → Ruled ((ℕ × FillingView) × State)) (found : Option SubobjectView) → IsReady m s → AreProperInitializers m list → AreTyped m left → ((x : SubobjectView) → found ≡ Some x → Counts s v (filling x)) → Reads s v (lists.braces_in s equals left v list filling found)
  braces_read s equals left v list filling None h proper opened g = beside_reads s left v (lists.refuse_list s equals v list) opened (refused_fills s equals v list h proper)
  braces_read s equals left v list filling (Some sub) h proper opened g = beside_reads s left v (after (filling sub) lists.uncounted) opened (uncounted_fills s v (filling sub) (g sub refl))

  all_count : (s : State) (v : FillingView) (r : Ruled ((List OpenView × FillingView) × State)) → Reads s v r → Counts s v (after r lists.all_passed)
  all_count s v (Ok p) h = (h.0, tt, h.2)
  all_count s v (Err f) h = tt

  -- ---- the way down

  further : (s : State) (v : FillingView) (r : Ruled ((List OpenView × FillingView) × State)) (next : List OpenView × FillingView → State → Ruled ((List OpenView × FillingView) × State)) → Reads s v r → ((p : List OpenView × FillingView) (t : State) → IsReady m t → AreTyped m p.0 → Reads t p.1 (next p t)) → Reads s v (after r next)
  further s v (Ok p) next h go = on (next p.0 p.1) (go p.0 p.1 h.0 h.1)
    where
      on : (r : Ruled ((List OpenView × FillingView) × State)) → Reads p.1 p.0.1 r → Reads s v r
      on (Ok q) i = (i.0, i.1, λ u part. (let a = i.2 u part in let b = h.2 u a.0 in (b.0, λ all. a.1 (b.1 all))))
      on (Err f) i = tt
  further s v (Err f) next h go = tt

  mutual
    fill_item_reads : (i : InitializerTree) (s : State) (equals : Place) (had : List OpenView) (v : FillingView) → IsReady m s → IsProperInitializer m i → AreTyped m had → Reads s v (lists.fill_item s equals had v i)
    fill_item_reads (tree.Single e) s equals had v h proper opened = single_reads s equals had v e (bare_literal e) h proper (bare_text m e proper) opened
    fill_item_reads (tree.Braces at list) s equals had v h proper opened =
        let f = next_typed m s.known (fields_typed s h) had opened in
        braces_read s equals (next s.known had).1 v list (λ sub. lists.fill_by s equals sub v list (lists.fill_aggregate s equals sub v list)) (next s.known had).0 h proper f.opened
        (λ sub is.
        let t = f.found sub is in
        fill_by_counts s equals sub v list (lists.fill_aggregate s equals sub v list) h proper t
        (all_count s v (lists.fill_items s equals (entered sub ∷ []) v list) (fill_items_read list s equals (entered sub ∷ []) v h proper (t, tt))))

    fill_items_read : (items : InitializerTrees) (s : State) (equals : Place) (had : List OpenView) (v : FillingView) → IsReady m s → AreProperInitializers m items → AreTyped m had → Reads s v (lists.fill_items s equals had v items)
    fill_items_read tree.NoInitializer s equals had v h proper opened = (h, opened, λ u part. (part, λ all. all))
    fill_items_read (tree.MoreInitializers i list) s equals had v h proper opened =
        further s v (lists.fill_item s equals had v i) (λ p t. lists.fill_items t equals p.0 p.1 list) (fill_item_reads i s equals had v h proper.0 opened) (λ p t ready more. fill_items_read list t equals p.0 p.1 ready proper.1 more)

  fill_counts : (s : State) (equals : Place) (sub : SubobjectView) (v : FillingView) (list : InitializerTrees) → IsReady m s → AreProperInitializers m list → IsTypeOf m sub.ctype → Counts s v (lists.fill s equals sub v list)
  fill_counts s equals sub v list h proper t =
      fill_by_counts s equals sub v list (lists.fill_aggregate s equals sub v list) h proper t
      (all_count s v (lists.fill_items s equals (entered sub ∷ []) v list) (fill_items_read list s equals (entered sub ∷ []) v h proper (t, tt)))

  -- ---- initializers

  -- what an initializer does, and the type that it gives its object
  abbrev pub Initializes : State → Ruled ((InitializedView × Ty) × State) → Type 0
  Initializes s r = Goes m s (λ (p : InitializedView × Ty). IsTypeOf m p.1) (λ u p. IsInitial u p.0) r

  abbrev Sets : UnitView → Ruled InitializedView → Type 0
  Sets u (Ok v) = IsInitial u v
  Sets u (Err f) = Unit {0}

  scalar_sets : (u : UnitView) (r : Ruled TermTree) → GivesScalar u r → Sets u (scalar_by r)
  scalar_sets u (Ok e) h = h
  scalar_sets u (Err f) h = tt

  struct_sets : (u : UnitView) (at : Place) (l : Option LvalueTree) → IsWellTypedSource u l → Sets u (struct_by at l)
  struct_sets u at None h = tt
  struct_sets u at (Some l) h = h

  or_struct_sets : (u : UnitView) (at : Place) (l : Option LvalueTree) (b : Bool) → IsWellTypedSource u l → Sets u (cond b (struct_by at l) (type_fault at))
  or_struct_sets u at l true h = struct_sets u at l h
  or_struct_sets u at l false h = tt

  operand_sets : (u : UnitView) (k : Known) (at : Place) (t : Ty) (x : OperandView) (b : Bool) → GivesScalar u (assigned k at (term_of x) t) → IsMadeOperand u x → Sets u (cond b (scalar_by (assigned k at (term_of x) t)) (cond (is_struct t) (struct_by at (struct_source x t)) (type_fault at)))
  operand_sets u k at t x true scalar g = scalar_sets u (assigned k at (term_of x) t) scalar
  operand_sets u k at t x false scalar g = or_struct_sets u at (struct_source x t) (is_struct t) (source_well_typed u x.form t g)

  value_goes : (s : State) (equals : Place) (t : Ty) (e : Tree) → IsReady m s → IsProperTree m e → IsTypeOf m t → Goes m s going.nothing IsInitial (spec.by_value s equals t e)
  value_goes s equals t e h proper to = then m s going.nothing IsMadeOperand going.nothing IsInitial (typed s e) (spec.by_operand_in equals t) (typed_goes s e h proper)
      (λ x s1 ready n. of_rule x s1 ready (by_operand s1.known equals t x) (λ u part g. operand_sets u s1.known equals t x (is_scalar t) (scalar_given s1 u equals x t ready part to g) g))
    where
      of_rule : (x : OperandView) (s1 : State) → IsReady m s1 → (r : Ruled InitializedView) → ((u : UnitView) → IsPartOf s1 u → IsMadeOperand u x → Sets u r) → Goes m s1 going.nothing (λ u v. IsMadeOperand u x → IsInitial u v) (kept s1 r)
      of_rule x s1 ready (Ok v) g = (ready, tt, λ u part. (part, λ a. g u part a))
      of_rule x s1 ready (Err f) g = tt

  term_goes : (s : State) (equals : Place) (t : Ty) (e : Tree) → IsReady m s → IsProperTree m e → IsTypeOf m t → Initializes s (spec.by_term s equals t e)
  term_goes s equals t e h proper to = then m s going.nothing IsInitial (λ (p : InitializedView × Ty). IsTypeOf m p.1) (λ u p. IsInitial u p.0) (spec.by_value s equals t e) (spec.of_type t) (value_goes s equals t e h proper to) (λ v s1 ready n. (ready, to, λ u part. (part, λ g. g)))

  spelled_goes : (s : State) (t : Ty) (room : ℕ) (bytes : List ℕ) → IsReady m s → are_bytes bytes ≡ true → IsTypeOf m t → Initializes s (Ok (spelled t room bytes, s))
  spelled_goes s t room bytes h plain to = (h, length_typed m t (literal_length bytes) to, λ u part. (part, (plain, tt)))

  text_goes : (s : State) (equals : Place) (t : Ty) (room : ℕ) (e : Tree) (text : Option (List ℕ)) → IsReady m s → IsProperTree m e → IsText text → IsTypeOf m t → Initializes s (spec.by_text s equals t room e text)
  text_goes s equals t room e (Some bytes) h proper plain to = spelled_goes s t room bytes h plain to
  text_goes s equals t room e None h proper plain to = term_goes s equals t e h proper to

  expression_goes : (s : State) (equals : Place) (t : Ty) (e : Tree) (room : Option ℕ) → IsReady m s → IsProperTree m e → IsTypeOf m t → Initializes s (spec.by_expression_in s equals t e room)
  expression_goes s equals t e (Some room) h proper to = text_goes s equals t room e (bare_literal e) h proper (bare_text m e proper) to
  expression_goes s equals t e None h proper to = term_goes s equals t e h proper to

  items_initialize : (s : State) (equals : Place) (t : Ty) (list : InitializerTrees) → IsReady m s → AreProperInitializers m list → IsTypeOf m t → Initializes s (spec.by_items s equals t list)
  items_initialize s equals t list h proper to = then m s (λ (p : ℕ × FillingView). Unit {0}) (λ u p. AreValued u [] → AreValued u p.1.stores) (λ (p : InitializedView × Ty). IsTypeOf m p.1) (λ u p. IsInitial u p.0) (lists.fill s equals (subobject t 0) nothing list) (spec.filled_in t) (fill_counts s equals (subobject t 0) nothing list h proper to)
      (λ p s1 ready n. of_fault p s1 ready p.1.fault)
    where
      of_fault : (p : ℕ × FillingView) (s1 : State) → IsReady m s1 → (fault : Option Fault) → Goes m s1 (λ (q : InitializedView × Ty). IsTypeOf m q.1) (λ u q. (AreValued u [] → AreValued u p.1.stores) → IsInitial u q.0) (kept s1 (filled_by p.1 t p.0 fault))
      of_fault p s1 ready (Some f) = tt
      of_fault p s1 ready None = (ready, length_typed m t p.0 to, λ u part. (part, λ g. g tt))

  braced_goes : (s : State) (equals : Place) (t : Ty) (room : ℕ) (list : InitializerTrees) (text : Option (List ℕ)) → IsReady m s → AreProperInitializers m list → IsText text → IsTypeOf m t → Initializes s (spec.by_braced_text s equals t room list text)
  braced_goes s equals t room list (Some bytes) h proper plain to = spelled_goes s t room bytes h plain to
  braced_goes s equals t room list None h proper plain to = items_initialize s equals t list h proper to

  list_goes : (s : State) (equals : Place) (t : Ty) (list : InitializerTrees) (room : Option ℕ) → IsReady m s → AreProperInitializers m list → IsTypeOf m t → Initializes s (spec.by_list_in s equals t list room)
  list_goes s equals t list (Some room) h proper to = braced_goes s equals t room list (only_literal list) h proper (only_text m list proper) to
  list_goes s equals t list None h proper to = items_initialize s equals t list h proper to

  pub initializer_goes : (s : State) (equals : Place) (t : Ty) (i : InitializerTree) → IsReady m s → IsProperInitializer m i → IsTypeOf m t → Initializes s (spec.initializer_of s equals t i)
  initializer_goes s equals t (tree.Single e) h proper to = expression_goes s equals t e (character_room t) h proper to
  initializer_goes s equals t (tree.Braces at list) h proper to = list_goes s equals t list (character_room t) h proper to
