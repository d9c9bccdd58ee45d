-- Initializers name what lives.
use Rattle.std.proofs.Common.{◌≡◌, ℕ, Bool, true, false, List, [], ◌∷◌, ◌++◌, Option, Some, None, Ok, Err, refl}
use Rattle.std.specs.Prelude.{cond}
use Rattle.std.specs.List.{list_all}
use Rattle.cc_base.specs.declared.diagnostics.Place.{Place}
use Rattle.cc_base.specs.declared.refusals.Fault.{Fault}
use Rattle.c_layout.specs.Types.{Ty}
use Rattle.c_layout.specs.CheckedTrees.{TermTree, LvalueTree, StoreTree, StoreValue, StoreCopy, StoreText}
use Rattle.c_layout.specs.DeclarationTrees as tree
use Rattle.c_layout.specs.DeclarationTrees.{InitializerTree, InitializerTrees}
use Rattle.c_layout.specs.SyntaxTrees.{Tree}
use Rattle.c_types_scopes.specs.Answers.{after}
use Rattle.c_types_scopes.specs.Known.{Known}
use Rattle.c_types_scopes.specs.Refusals.{Ruled, type_fault}
use Rattle.c_types_scopes.specs.States.{State}
use Rattle.c_types_operands.specs.Conversions.{assigned}
use Rattle.c_types_operands.specs.Operands.{OperandView, is_scalar, is_struct, term_of}
use Rattle.c_types_operators.specs.Assignments.{struct_source}
use Rattle.c_types_expressions.specs.Expressions.Expressions.{typed}
use Rattle.c_types_initializers.specs.Initialized.{InitializedView, by_operand, filled, filled_by, scalar_by, struct_by}
use Rattle.c_types_initializers.specs.ListStores as stores
use Rattle.c_types_initializers.specs.ListStores.{FillingView, nothing, sought, takes_text, takes_value}
use Rattle.c_types_initializers.specs.Literals.{bare_literal, character_room, only_literal}
use Rattle.c_types_initializers.specs.Subobjects.{SubobjectView, OpenView, entered, next, subobject}
use Rattle.c_types_expressions.specs.BracedLists.BracedLists as lists
use Rattle.c_types_expressions.specs.BracedLists.Initializers as spec
use Rattle.c_types_theorems.proofs.entries.Initializing.{initializer_leads, items_lead}
use Rattle.source_preservation.proofs.checks.Truths.{both_true}
use Rattle.source_preservation.specs.UnitChecks.LookedScopes.{is_scoped_store}
use Rattle.c_types_well_formed_units.specs.Scoped.ScopedLaws.{Yields}
use Rattle.c_types_well_formed_units.specs.Scoped.ScopedOperands.{Scoped, ScopedInitial, ScopedMade}
use Rattle.c_types_well_formed_units.specs.Scoped.SeenObjects.{SeesAt, Stays}
use Rattle.c_types_well_formed_units.proofs.scoped.Numbers.{two}
use Rattle.c_types_well_formed_units.proofs.scoped.Rules.{MakesTerm, IfPlace, value_scoped, assigned_scoped, source_scoped}
use Rattle.c_types_well_formed_units.proofs.scoped.Seen.{Gives, Judged, leads_gives, steps_stay, yields}
use Rattle.c_types_well_formed_units.proofs.scoped.Typed.{and_then, ruled, typed_scoped}

module _ (alive : List ℕ) where
  abbrev Fills : FillingView → Type 0
  Fills v = list_all (is_scoped_store alive) v.stores ≡ true

  abbrev Beside : {A : Type 0} → A × FillingView → Type 0
  Beside p = Fills p.1

  all_more : (xs : List StoreTree) (x : StoreTree) → list_all (is_scoped_store alive) xs ≡ true → is_scoped_store alive x ≡ true → list_all (is_scoped_store alive) (xs ++ x ∷ []) ≡ true
  all_more [] x g h = two (is_scoped_store alive x) true h refl
  all_more (y ∷ xs) x g h =
      let p = both_true (is_scoped_store alive y) (list_all (is_scoped_store alive) xs) g in
      two (is_scoped_store alive y) (list_all (is_scoped_store alive) (xs ++ x ∷ [])) p.0 (all_more xs x p.1 h)

  store_more : (v : FillingView) (x : StoreTree) → Fills v → is_scoped_store alive x ≡ true → Fills (stores.with_store v x)
  store_more v x g h = all_more v.stores x g h

  cond_fills : (b : Bool) (x y : FillingView) → Fills x → Fills y → Fills (cond b x y)
  cond_fills true x y g h = g
  cond_fills false x y g h = h

  scalar_fills : (v : FillingView) (offset : ℕ) (r : Ruled TermTree) → Fills v → MakesTerm alive r → Fills (stores.scalar_of v offset r)
  scalar_fills v offset (Ok e) g h = store_more v (StoreValue offset e) g h
  scalar_fills v offset (Err f) g h = g

  with_scalar : (k : Known) (at : Place) (sub : SubobjectView) (x : OperandView) (v : FillingView) → Scoped alive x → Fills v → Fills (stores.with_scalar k at sub x v)
  with_scalar k at sub x v h g = scalar_fills v sub.offset (assigned k at (term_of x) sub.ctype) g (assigned_scoped alive k at (term_of x) sub.ctype (value_scoped alive x h))

  copy_fills : (v : FillingView) (at : Place) (offset : ℕ) (o : Option LvalueTree) → Fills v → IfPlace alive o → Fills (stores.copy_of v at offset o)
  copy_fills v at offset None g h = g
  copy_fills v at offset (Some l) g h = store_more v (StoreCopy offset l) g h

  with_found : (k : Known) (at : Place) (x : OperandView) (v : FillingView) (o : Option SubobjectView) → Scoped alive x → Fills v → Fills (stores.with_found k at x v o)
  with_found k at x v None h g = g
  with_found k at x v (Some sub) h g =
      cond_fills (is_scalar sub.ctype) (stores.with_scalar k at sub x v) (stores.with_struct at sub x v) (with_scalar k at sub x v h g)
      (copy_fills v at sub.offset (struct_source x sub.ctype) g (source_scoped alive x sub.ctype h))

  -- ---- one expression

  fill_scalar : (s : State) (equals : Place) (sub : SubobjectView) (v : FillingView) (e : Tree) → SeesAt alive s → Fills v → Gives alive Fills (lists.fill_scalar s equals sub v e)
  fill_scalar s equals sub v e sees g = and_then alive (Scoped alive) Fills (typed s e) (lists.scalar_in equals sub v) (typed_scoped alive s e sees) (λ x t later h. (later, with_scalar t.known equals sub x v h g))

  fill_value : (s : State) (equals : Place) (had : List OpenView) (v : FillingView) (e : Tree) → SeesAt alive s → Fills v → Gives alive Beside (lists.fill_value s equals had v e)
  fill_value s equals had v e sees g = and_then alive (Scoped alive) Beside (typed s e) (lists.value_in equals had v) (typed_scoped alive s e sees) (λ x t later h. (later, with_found t.known equals x v (sought t.known (takes_value x) had).0 h g))

  text_in : (s : State) (equals : Place) (sub : SubobjectView) (v : FillingView) (e : Tree) (bytes : List ℕ) (room : Option ℕ) → SeesAt alive s → Fills v → Gives alive Fills (lists.text_in s equals sub v e bytes room)
  text_in s equals sub v e bytes (Some room) sees g = (sees, store_more v (StoreText sub.offset room bytes) g refl)
  text_in s equals sub v e bytes None sees g = fill_scalar s equals sub v e sees g

  fill_found : (s : State) (equals : Place) (v : FillingView) (e : Tree) (bytes : List ℕ) (o : Option SubobjectView) → SeesAt alive s → Fills v → Gives alive Fills (lists.fill_found s equals v e bytes o)
  fill_found s equals v e bytes None sees g = (sees, g)
  fill_found s equals v e bytes (Some sub) sees g = text_in s equals sub v e bytes (character_room sub.ctype) sees g

  beside : (had : List OpenView) (r : Ruled (FillingView × State)) → Gives alive Fills r → Gives alive Beside (lists.beside had r)
  beside had (Ok p) h = h
  beside had (Err f) h = tt

  single_by : (s : State) (equals : Place) (had : List OpenView) (v : FillingView) (e : Tree) (text : Option (List ℕ)) → SeesAt alive s → Fills v → Gives alive Beside (lists.single_by s equals had v e text)
  single_by s equals had v e (Some bytes) sees g = let found = sought s.known takes_text had in beside found.1 (lists.fill_found s equals v e bytes found.0) (fill_found s equals v e bytes found.0 sees g)
  single_by s equals had v e None sees g = fill_value s equals had v e sees g

  -- ---- one object

  refuse_list : (s : State) (equals : Place) (v : FillingView) (items : InitializerTrees) → SeesAt alive s → Fills v → Gives alive Fills (lists.refuse_list s equals v items)
  refuse_list s equals v items sees g = and_then alive (λ (u : Unit {0}). Unit {0}) Fills (lists.typed_items s items) (lists.with_refusal equals v) (leads_gives alive s (lists.typed_items s items) (items_lead Stays steps_stay s items) sees) (λ u t later h. (later, g))

  by_only : (s : State) (equals : Place) (sub : SubobjectView) (v : FillingView) (items : InitializerTrees) (o : Option Tree) → SeesAt alive s → Fills v → Gives alive Fills (lists.by_only s equals sub v items o)
  by_only s equals sub v items (Some e) sees g = fill_scalar s equals sub v e sees g
  by_only s equals sub v items None sees g = refuse_list s equals v items sees g

  characters_or : (s : State) (sub : SubobjectView) (v : FillingView) (room : ℕ) (o : Option (List ℕ)) (r : Ruled ((ℕ × FillingView) × State)) → SeesAt alive s → Fills v → Gives alive Beside r → Gives alive Beside (lists.characters_or s sub v room o r)
  characters_or s sub v room (Some bytes) r sees g h = (sees, store_more v (StoreText sub.offset room bytes) g refl)
  characters_or s sub v room None r sees g h = h

  whole_or : (s : State) (sub : SubobjectView) (v : FillingView) (list : InitializerTrees) (o : Option ℕ) (r : Ruled ((ℕ × FillingView) × State)) → SeesAt alive s → Fills v → Gives alive Beside r → Gives alive Beside (lists.whole_or s sub v list o r)
  whole_or s sub v list (Some room) r sees g h = characters_or s sub v room (only_literal list) r sees g h
  whole_or s sub v list None r sees g h = h

  cond_gives : (b : Bool) (x y : Ruled ((ℕ × FillingView) × State)) → Gives alive Beside x → Gives alive Beside y → Gives alive Beside (cond b x y)
  cond_gives true x y g h = g
  cond_gives false x y g h = h

  fill_by : (s : State) (equals : Place) (sub : SubobjectView) (v : FillingView) (list : InitializerTrees) (r : Ruled ((ℕ × FillingView) × State)) → SeesAt alive s → Fills v → Gives alive Beside r → Gives alive Beside (lists.fill_by s equals sub v list r)
  fill_by s equals sub v list r sees g h =
      cond_gives (is_scalar sub.ctype) (after (lists.fill_from_list s equals sub v list) lists.one_passed) (lists.whole_or s sub v list (character_room sub.ctype) r)
      (and_then alive Fills Beside (lists.fill_from_list s equals sub v list) lists.one_passed (by_only s equals sub v list (lists.only_value list) sees g) (λ w t later p. (later, p)))
      (whole_or s sub v list (character_room sub.ctype) r sees g h)

  braces_in : (s : State) (equals : Place) (left : List OpenView) (v : FillingView) (list : InitializerTrees) (filling : SubobjectView → Ruled ((ℕ × FillingView) × State)) (o : Option SubobjectView) → SeesAt alive s → Fills v → ((sub : SubobjectView) → Gives alive Beside (filling sub)) → Gives alive Beside (lists.braces_in s equals left v list filling o)
  braces_in s equals left v list filling None sees g h = beside left (lists.refuse_list s equals v list) (refuse_list s equals v list sees g)
  braces_in s equals left v list filling (Some sub) sees g h = beside left (after (filling sub) lists.uncounted) (and_then alive Beside Fills (filling sub) lists.uncounted (h sub) (λ p t later q. (later, q)))

  -- ---- the way down

  mutual
    fill_item : (s : State) (equals : Place) (had : List OpenView) (v : FillingView) (i : InitializerTree) → SeesAt alive s → Fills v → Gives alive Beside (lists.fill_item s equals had v i)
    fill_item s equals had v (tree.Single e) sees g = single_by s equals had v e (bare_literal e) sees g
    fill_item s equals had v (tree.Braces at list) sees g =
        braces_in s equals (next s.known had).1 v list _ (next s.known had).0 sees g
        (λ sub. fill_by s equals sub v list (lists.fill_aggregate s equals sub v list) sees g (and_then alive Beside Beside (lists.fill_items s equals (entered sub ∷ []) v list) lists.all_passed (fill_items s equals (entered sub ∷ []) v list sees g) (λ p t later h. (later, h))))

    fill_items : (s : State) (equals : Place) (had : List OpenView) (v : FillingView) (items : InitializerTrees) → SeesAt alive s → Fills v → Gives alive Beside (lists.fill_items s equals had v items)
    fill_items s equals had v tree.NoInitializer sees g = (sees, g)
    fill_items s equals had v (tree.MoreInitializers i list) sees g = and_then alive Beside Beside (lists.fill_item s equals had v i) _ (fill_item s equals had v i sees g) (λ p t later h. fill_items t equals p.0 p.1 list later h)

  fill : (s : State) (equals : Place) (sub : SubobjectView) (v : FillingView) (list : InitializerTrees) → SeesAt alive s → Fills v → Gives alive Beside (lists.fill s equals sub v list)
  fill s equals sub v list sees g = fill_by s equals sub v list (lists.fill_aggregate s equals sub v list) sees g (and_then alive Beside Beside (lists.fill_items s equals (entered sub ∷ []) v list) lists.all_passed (fill_items s equals (entered sub ∷ []) v list sees g) (λ p t later h. (later, h)))

  -- ---- initializers

  scalar_by_scoped : (r : Ruled TermTree) → MakesTerm alive r → Judged (ScopedInitial alive) (scalar_by r)
  scalar_by_scoped (Ok e) h = h
  scalar_by_scoped (Err f) h = tt

  struct_by_scoped : (at : Place) (o : Option LvalueTree) → IfPlace alive o → Judged (ScopedInitial alive) (struct_by at o)
  struct_by_scoped at None h = tt
  struct_by_scoped at (Some l) h = h

  cond_judged : (b : Bool) (x y : Ruled InitializedView) → Judged (ScopedInitial alive) x → Judged (ScopedInitial alive) y → Judged (ScopedInitial alive) (cond b x y)
  cond_judged true x y g h = g
  cond_judged false x y g h = h

  operand_scoped : (k : Known) (at : Place) (t : Ty) (x : OperandView) → Scoped alive x → Judged (ScopedInitial alive) (by_operand k at t x)
  operand_scoped k at t x h =
      cond_judged (is_scalar t) (scalar_by (assigned k at (term_of x) t)) (cond (is_struct t) (struct_by at (struct_source x t)) (type_fault at)) (scalar_by_scoped (assigned k at (term_of x) t) (assigned_scoped alive k at (term_of x) t (value_scoped alive x h)))
      (cond_judged (is_struct t) (struct_by at (struct_source x t)) (type_fault at) (struct_by_scoped at (struct_source x t) (source_scoped alive x t h)) tt)

  by_term : (s : State) (equals : Place) (t : Ty) (e : Tree) → SeesAt alive s → Gives alive (ScopedMade alive) (spec.by_term s equals t e)
  by_term s equals t e sees =
      and_then alive (ScopedInitial alive) (ScopedMade alive) (spec.by_value s equals t e) (spec.of_type t)
      (and_then alive (Scoped alive) (ScopedInitial alive) (typed s e) (spec.by_operand_in equals t) (typed_scoped alive s e sees) (λ x u later h. ruled alive (ScopedInitial alive) u (by_operand u.known equals t x) later (operand_scoped u.known equals t x h)))
      (λ made u later h. (later, h))

  by_text : (s : State) (equals : Place) (t : Ty) (room : ℕ) (e : Tree) (text : Option (List ℕ)) → SeesAt alive s → Gives alive (ScopedMade alive) (spec.by_text s equals t room e text)
  by_text s equals t room e (Some bytes) sees = (sees, refl)
  by_text s equals t room e None sees = by_term s equals t e sees

  by_expression : (s : State) (equals : Place) (t : Ty) (e : Tree) (room : Option ℕ) → SeesAt alive s → Gives alive (ScopedMade alive) (spec.by_expression_in s equals t e room)
  by_expression s equals t e (Some room) sees = by_text s equals t room e (bare_literal e) sees
  by_expression s equals t e None sees = by_term s equals t e sees

  filled_scoped : (v : FillingView) (t : Ty) (passed : ℕ) (o : Option Fault) → Fills v → Judged (ScopedMade alive) (filled_by v t passed o)
  filled_scoped v t passed (Some f) h = tt
  filled_scoped v t passed None h = h

  by_items : (s : State) (equals : Place) (t : Ty) (list : InitializerTrees) → SeesAt alive s → Gives alive (ScopedMade alive) (spec.by_items s equals t list)
  by_items s equals t list sees = and_then alive Beside (ScopedMade alive) (lists.fill s equals (subobject t 0) nothing list) (spec.filled_in t) (fill s equals (subobject t 0) nothing list sees refl) (λ p u later h. ruled alive (ScopedMade alive) u (filled p.1 t p.0) later (filled_scoped p.1 t p.0 p.1.fault h))

  by_braced : (s : State) (equals : Place) (t : Ty) (room : ℕ) (list : InitializerTrees) (text : Option (List ℕ)) → SeesAt alive s → Gives alive (ScopedMade alive) (spec.by_braced_text s equals t room list text)
  by_braced s equals t room list (Some bytes) sees = (sees, refl)
  by_braced s equals t room list None sees = by_items s equals t list sees

  by_list : (s : State) (equals : Place) (t : Ty) (list : InitializerTrees) (room : Option ℕ) → SeesAt alive s → Gives alive (ScopedMade alive) (spec.by_list_in s equals t list room)
  by_list s equals t list (Some room) sees = by_braced s equals t room list (only_literal list) sees
  by_list s equals t list None sees = by_items s equals t list sees

  initializer_scoped : (s : State) (equals : Place) (t : Ty) (i : InitializerTree) → SeesAt alive s → Gives alive (ScopedMade alive) (spec.initializer_of s equals t i)
  initializer_scoped s equals t (tree.Single e) sees = by_expression s equals t e (character_room t) sees
  initializer_scoped s equals t (tree.Braces at list) sees = by_list s equals t list (character_room t) sees

-- an initializer names what names of its state may mean
pub initializer_yields : (s : State) (equals : Place) (t : Ty) (i : InitializerTree) → Yields s ScopedMade (spec.initializer_of s equals t i)
initializer_yields s equals t i = yields s ScopedMade (spec.initializer_of s equals t i) (initializer_leads Stays steps_stay s equals t i) (λ alive sees. initializer_scoped alive s equals t i sees)
