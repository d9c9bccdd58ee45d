-- What typing an initializer leads to, by what the steps of its expressions do.
use Rattle.std.proofs.Common.{ℕ, List, [], ◌∷◌, Option, Some, None, Ok, Err}
use Rattle.cc_base.specs.declared.diagnostics.Place.{Place}
use Rattle.c_layout.specs.Types.{Ty}
use Rattle.c_layout.specs.SyntaxTrees.{Tree}
use Rattle.c_layout.specs.DeclarationTrees as tree
use Rattle.c_layout.specs.DeclarationTrees.{InitializerTree, InitializerTrees}
use Rattle.c_types_scopes.specs.Refusals.{Ruled}
use Rattle.c_types_scopes.specs.Answers.{after, kept}
use Rattle.c_types_scopes.specs.States.{State}
use Rattle.c_types_operands.specs.Operands.{is_scalar}
use Rattle.c_types_expressions.specs.Expressions.Expressions.{typed}
use Rattle.c_types_initializers.specs.Subobjects.{SubobjectView, OpenView, entered, next, subobject}
use Rattle.c_types_initializers.specs.Literals.{bare_literal, character_room, only_literal}
use Rattle.c_types_initializers.specs.ListStores.{FillingView, nothing, takes_text, sought}
use Rattle.c_types_initializers.specs.Initialized.{by_operand, filled}
use Rattle.c_types_expressions.specs.BracedLists.BracedLists as lists
use Rattle.c_types_expressions.specs.BracedLists.Initializers as spec
use Rattle.c_types_theorems.proofs.entries.Leading.{Leads, kept_leads, cond_leads, then}
use Rattle.c_types_theorems.proofs.entries.Expressing.{HasSteps, typed_leads}

module _ (R : State → State → Type 0) (has : HasSteps R) where
  step : {U V : Type 0} (s : State) (r : Ruled (U × State)) (next : U → State → Ruled (V × State)) → Leads R s r → ((u : U) (t : State) → Leads R t (next u t)) → Leads R s (after r next)
  step s r next = then R has.trans s r next

  stays : {V : Type 0} (s : State) (rule : Ruled V) → Leads R s (kept s rule)
  stays s rule = kept_leads R s s rule (has.same s)

  -- ---- one expression

  scalar_leads : (s : State) (equals : Place) (sub : SubobjectView) (v : FillingView) (e : Tree) → Leads R s (lists.fill_scalar s equals sub v e)
  scalar_leads s equals sub v e = step s (typed s e) (lists.scalar_in equals sub v) (typed_leads R has s e) (λ x t. has.same t)

  value_leads : (s : State) (equals : Place) (had : List OpenView) (v : FillingView) (e : Tree) → Leads R s (lists.fill_value s equals had v e)
  value_leads s equals had v e = step s (typed s e) (lists.value_in equals had v) (typed_leads R has s e) (λ x t. has.same t)

  text_leads : (s : State) (equals : Place) (sub : SubobjectView) (v : FillingView) (e : Tree) (bytes : List ℕ) (room : Option ℕ) → Leads R s (lists.text_in s equals sub v e bytes room)
  text_leads s equals sub v e bytes (Some room) = has.same s
  text_leads s equals sub v e bytes None = scalar_leads s equals sub v e

  found_leads : (s : State) (equals : Place) (v : FillingView) (e : Tree) (bytes : List ℕ) (sub : Option SubobjectView) → Leads R s (lists.fill_found s equals v e bytes sub)
  found_leads s equals v e bytes None = has.same s
  found_leads s equals v e bytes (Some sub) = text_leads s equals sub v e bytes (character_room sub.ctype)

  beside_leads : (s : State) (had : List OpenView) (r : Ruled (FillingView × State)) → Leads R s r → Leads R s (lists.beside had r)
  beside_leads s had (Ok p) h = h
  beside_leads s had (Err f) h = tt

  single_leads : (s : State) (equals : Place) (had : List OpenView) (v : FillingView) (e : Tree) (bytes : Option (List ℕ)) → Leads R s (lists.single_by s equals had v e bytes)
  single_leads s equals had v e (Some bytes) =
      let found = sought s.known takes_text had in
      beside_leads s found.1 (lists.fill_found s equals v e bytes found.0) (found_leads s equals v e bytes found.0)
  single_leads s equals had v e None = value_leads s equals had v e

  -- ---- lists that initialize nothing

  mutual
    item_leads : (s : State) (i : InitializerTree) → Leads R s (lists.typed_item s i)
    item_leads s (tree.Single e) = step s (typed s e) lists.typed_alone (typed_leads R has s e) (λ x t. has.same t)
    item_leads s (tree.Braces at items) = items_lead s items

    pub items_lead : (s : State) (items : InitializerTrees) → Leads R s (lists.typed_items s items)
    items_lead s tree.NoInitializer = has.same s
    items_lead s (tree.MoreInitializers i items) = step s (lists.typed_item s i) _ (item_leads s i) (λ u t. items_lead t items)

  refused_leads : (s : State) (equals : Place) (v : FillingView) (items : InitializerTrees) → Leads R s (lists.refuse_list s equals v items)
  refused_leads s equals v items = step s (lists.typed_items s items) (lists.with_refusal equals v) (items_lead s items) (λ u t. has.same t)

  -- ---- one object

  only_leads : (s : State) (equals : Place) (sub : SubobjectView) (v : FillingView) (items : InitializerTrees) (e : Option Tree) → Leads R s (lists.by_only s equals sub v items e)
  only_leads s equals sub v items (Some e) = scalar_leads s equals sub v e
  only_leads s equals sub v items None = refused_leads s equals v items

  characters_lead : (s : State) (sub : SubobjectView) (v : FillingView) (room : ℕ) (text : Option (List ℕ)) (r : Ruled ((ℕ × FillingView) × State)) → Leads R s r → Leads R s (lists.characters_or s sub v room text r)
  characters_lead s sub v room (Some bytes) r h = has.same s
  characters_lead s sub v room None r h = h

  whole_leads : (s : State) (sub : SubobjectView) (v : FillingView) (list : InitializerTrees) (room : Option ℕ) (r : Ruled ((ℕ × FillingView) × State)) → Leads R s r → Leads R s (lists.whole_or s sub v list room r)
  whole_leads s sub v list (Some room) r h = characters_lead s sub v room (only_literal list) r h
  whole_leads s sub v list None r h = h

  fill_by_leads : (s : State) (equals : Place) (sub : SubobjectView) (v : FillingView) (list : InitializerTrees) (r : Ruled ((ℕ × FillingView) × State)) → Leads R s r → Leads R s (lists.fill_by s equals sub v list r)
  fill_by_leads s equals sub v list r h =
      cond_leads R s (is_scalar sub.ctype) _ (lists.whole_or s sub v list (character_room sub.ctype) r)
      (step s (lists.fill_from_list s equals sub v list) lists.one_passed (only_leads s equals sub v list (lists.only_value list)) (λ w t. has.same t))
      (whole_leads s sub v list (character_room sub.ctype) r h)

  braces_lead : (s : State) (equals : Place) (left : List OpenView) (v : FillingView) (list : InitializerTrees) (filling : SubobjectView → Ruled ((ℕ × FillingView) × State)) (sub : Option SubobjectView) → ((x : SubobjectView) → Leads R s (filling x)) → Leads R s (lists.braces_in s equals left v list filling sub)
  braces_lead s equals left v list filling None h = beside_leads s left (lists.refuse_list s equals v list) (refused_leads s equals v list)
  braces_lead s equals left v list filling (Some sub) h = beside_leads s left (after (filling sub) lists.uncounted) (step s (filling sub) lists.uncounted (h sub) (λ p t. has.same t))

  -- ---- the way down

  mutual
    fill_item_leads : (s : State) (equals : Place) (had : List OpenView) (v : FillingView) (i : InitializerTree) → Leads R s (lists.fill_item s equals had v i)
    fill_item_leads s equals had v (tree.Single e) = single_leads s equals had v e (bare_literal e)
    fill_item_leads s equals had v (tree.Braces at list) =
        braces_lead s equals (next s.known had).1 v list _ (next s.known had).0
        (λ sub. fill_by_leads s equals sub v list (lists.fill_aggregate s equals sub v list) (step s (lists.fill_items s equals (entered sub ∷ []) v list) lists.all_passed (fill_items_lead s equals (entered sub ∷ []) v list) (λ p t. has.same t)))

    fill_items_lead : (s : State) (equals : Place) (had : List OpenView) (v : FillingView) (items : InitializerTrees) → Leads R s (lists.fill_items s equals had v items)
    fill_items_lead s equals had v tree.NoInitializer = has.same s
    fill_items_lead s equals had v (tree.MoreInitializers i list) = step s (lists.fill_item s equals had v i) _ (fill_item_leads s equals had v i) (λ p t. fill_items_lead t equals p.0 p.1 list)

  fill_leads : (s : State) (equals : Place) (sub : SubobjectView) (v : FillingView) (list : InitializerTrees) → Leads R s (lists.fill s equals sub v list)
  fill_leads s equals sub v list = fill_by_leads s equals sub v list (lists.fill_aggregate s equals sub v list) (step s (lists.fill_items s equals (entered sub ∷ []) v list) lists.all_passed (fill_items_lead s equals (entered sub ∷ []) v list) (λ p t. has.same t))

  -- ---- initializers

  term_leads : (s : State) (equals : Place) (t : Ty) (e : Tree) → Leads R s (spec.by_term s equals t e)
  term_leads s equals t e = step s (spec.by_value s equals t e) (spec.of_type t) (step s (typed s e) (spec.by_operand_in equals t) (typed_leads R has s e) (λ x u. stays u (by_operand u.known equals t x))) (λ made u. has.same u)

  spelled_leads : (s : State) (equals : Place) (t : Ty) (room : ℕ) (e : Tree) (text : Option (List ℕ)) → Leads R s (spec.by_text s equals t room e text)
  spelled_leads s equals t room e (Some bytes) = has.same s
  spelled_leads s equals t room e None = term_leads s equals t e

  expression_leads : (s : State) (equals : Place) (t : Ty) (e : Tree) (room : Option ℕ) → Leads R s (spec.by_expression_in s equals t e room)
  expression_leads s equals t e (Some room) = spelled_leads s equals t room e (bare_literal e)
  expression_leads s equals t e None = term_leads s equals t e

  by_items_lead : (s : State) (equals : Place) (t : Ty) (list : InitializerTrees) → Leads R s (spec.by_items s equals t list)
  by_items_lead s equals t list = step s (lists.fill s equals (subobject t 0) nothing list) (spec.filled_in t) (fill_leads s equals (subobject t 0) nothing list) (λ p u. stays u (filled p.1 t p.0))

  braced_leads : (s : State) (equals : Place) (t : Ty) (room : ℕ) (list : InitializerTrees) (text : Option (List ℕ)) → Leads R s (spec.by_braced_text s equals t room list text)
  braced_leads s equals t room list (Some bytes) = has.same s
  braced_leads s equals t room list None = by_items_lead s equals t list

  list_leads : (s : State) (equals : Place) (t : Ty) (list : InitializerTrees) (room : Option ℕ) → Leads R s (spec.by_list_in s equals t list room)
  list_leads s equals t list (Some room) = braced_leads s equals t room list (only_literal list)
  list_leads s equals t list None = by_items_lead s equals t list

  pub initializer_leads : (s : State) (equals : Place) (t : Ty) (i : InitializerTree) → Leads R s (spec.initializer_of s equals t i)
  initializer_leads s equals t (tree.Single e) = expression_leads s equals t e (character_room t)
  initializer_leads s equals t (tree.Braces at list) = list_leads s equals t list (character_room t)
