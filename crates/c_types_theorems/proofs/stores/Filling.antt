-- The stores of nested lists stand at parts of the outermost object.
use Rattle.std.proofs.Common.{◌≡◌, ◌≤◌, ℕ, List, [], ◌∷◌, Option, Some, None, Ok, Err, arith, refl, inl}
use Rattle.cc_base.specs.declared.diagnostics.Place.{Place}
use Rattle.c_layout.specs.SyntaxTrees.{Tree}
use Rattle.c_layout.specs.DeclarationTrees as tree
use Rattle.c_layout.specs.DeclarationTrees.{InitializerTree, InitializerTrees}
use Rattle.c_types_scopes.specs.Answers.{after}
use Rattle.c_types_scopes.specs.Known.{Known}
use Rattle.c_types_scopes.specs.Refusals.{Ruled}
use Rattle.c_types_scopes.specs.States.{State}
use Rattle.c_types_operands.specs.Operands.{OperandView}
use Rattle.c_types_expressions.specs.Expressions.Expressions.{typed}
use Rattle.c_types_initializers.specs.Subobjects.{SubobjectView, OpenView, entered, next, passed}
use Rattle.c_types_initializers.specs.Literals.{bare_literal}
use Rattle.c_types_initializers.specs.ListStores.{FillingView, takes_value, takes_text, sought}
use Rattle.c_types_expressions.specs.BracedLists.BracedLists as lists
use Rattle.c_types_theorems.proofs.entries.Leading.{Leads}
use Rattle.c_types_theorems.proofs.entries.Expressing.{typed_leads}
use Rattle.c_types_theorems.specs.Stores.PlacedStores.{ArePlaced, IsSettled}
use Rattle.c_types_theorems.proofs.stores.Growing.{Extends, extends_same, extends_twice, Grows, steps_grow}
use Rattle.c_types_theorems.proofs.stores.Cursors.{HasParts, AreOpen, open_grown, next_found, sought_found}
use Rattle.c_types_theorems.proofs.stores.Lists.{all_placed, found_placed, Fills, stores_grown, found_fills, refused_fills, Counts, fill_by_counts}

-- the aggregates that are opened then, and what is stored
abbrev pub Reads : (from : Known) (root : SubobjectView) (H : ℕ → Known → SubobjectView → Type 0) (has : HasParts from root H) → State → Ruled ((List OpenView × FillingView) × State) → Type 0
Reads from root H has s (Ok p) = IsSettled p.1 × Extends s.known p.1.known × AreOpen from root H has p.1.known p.0.0 × ArePlaced (H (passed p.0.0) p.1.known) p.0.1.stores
Reads from root H has s (Err f) = Unit {0}

module _ (from : Known) (root : SubobjectView) (H : ℕ → Known → SubobjectView → Type 0) (has : HasParts from root H) where
  raised : (b c : ℕ) (k : Known) (v : FillingView) → b ≤ c → ArePlaced (H b k) v.stores → ArePlaced (H c k) v.stores
  raised b c k v more h = all_placed (H b k) (H c k) (λ s. has.raised b c k s more) v.stores h

  beside_reads : (s : State) (left : List OpenView) (r : Ruled (FillingView × State)) → AreOpen from root H has s.known left → Fills (H (passed left)) s r → Reads from root H has s (lists.beside left r)
  beside_reads s left (Ok p) opened h = (h.0, h.1, open_grown from root H has s.known p.1.known left h.1 opened, h.2)
  beside_reads s left (Err f) opened h = tt

  single_reads : (s : State) (equals : Place) (had : List OpenView) (v : FillingView) (e : Tree) (bytes : Option (List ℕ)) → IsSettled s → Extends from s.known → AreOpen from root H has s.known had → ArePlaced (H (passed had) s.known) v.stores → Reads from root H has s (lists.single_by s equals had v e bytes)
  single_reads s equals had v e (Some bytes) is later opened all =
      let found = sought s.known takes_text had in
      let f = sought_found from root H has s.known later takes_text had opened in
      beside_reads s found.1 (lists.fill_found s equals v e bytes found.0) f.opened
      (found_fills (H (passed found.1)) (λ k more x. has.grown (passed found.1) k more x) s equals v e bytes found.0 is (λ x e. (f.found x e).0) (raised (passed had) (passed found.1) s.known v f.more all))
  single_reads s equals had v e None is later opened all = of_typed (typed s e) (typed_leads Grows steps_grow s e)
    where
      of_typed : (r : Ruled (OperandView × State)) → Leads Grows s r → Reads from root H has s (after r (lists.value_in equals had v))
      of_typed (Ok p) g =
          let a = g is in
          let k : Known = p.1.known in
          let found = sought k (takes_value p.0) had in
          let f = sought_found from root H has k (extends_twice from s.known k later a.1) (takes_value p.0) had (open_grown from root H has s.known k had a.1 opened) in
          (a.0, a.1, f.opened, found_placed (H (passed found.1) k) k equals p.0 v found.0 (λ x e. (f.found x e).0) (raised (passed had) (passed found.1) k v f.more (stores_grown (H (passed had)) (λ k more x. has.grown (passed had) k more x) s.known k a.1 v.stores all)))
      of_typed (Err f) g = tt

  uncounted_fills : (P : Known → SubobjectView → Type 0) (grown : (k later : Known) (x : SubobjectView) → Extends k later → P k x → P later x) (s : State) (r : Ruled ((ℕ × FillingView) × State)) → Counts P grown s r → Fills P s (after r lists.uncounted)
  uncounted_fills P grown s (Ok p) h = h
  uncounted_fills P grown s (Err f) h = tt

  grown_at : (b : ℕ) (k later : Known) (x : SubobjectView) → Extends k later → H b k x → H b later x
  grown_at b k later x g h = has.grown b k later x g h

  braces_read : (s : State) (equals : Place) (left : List OpenView) (v : FillingView) (list : InitializerTrees) (filling : SubobjectView → Ruled ((ℕ × FillingView) × State)) (found : Option SubobjectView) → IsSettled s → AreOpen from root H has s.known left → ArePlaced (H (passed left) s.known) v.stores
      → ((x : SubobjectView) → found ≡ Some x → Counts (H (passed left)) (grown_at (passed left)) s (filling x)) → Reads from root H has s (lists.braces_in s equals left v list filling found)
  braces_read s equals left v list filling None is opened all h = beside_reads s left (lists.refuse_list s equals v list) opened (refused_fills (H (passed left)) (grown_at (passed left)) s equals v list is all)
  braces_read s equals left v list filling (Some sub) is opened all h = beside_reads s left (after (filling sub) lists.uncounted) opened (uncounted_fills (H (passed left)) (grown_at (passed left)) s (filling sub) (h sub refl))

  -- a subobject as the object of a list of its own
  inner_parts : (b : ℕ) (k : Known) (sub : SubobjectView) → H b k sub → HasParts k sub (λ c. H b)
  inner_parts b k sub part = record {
    raised = λ c d l s more h. h;
    grown = λ c l later s g h. has.grown b l later s g h;
    inner = λ c l s x n h is. has.inner b l s x n h is;
    first = λ l n x few g is. has.inner b l sub x n (has.grown b k l sub g part) is;
  }

  -- what a list of its own stores
  items_counted : (b : ℕ) (s : State) (sub : SubobjectView) (part : H b s.known sub) (r : Ruled ((List OpenView × FillingView) × State)) → Reads s.known sub (λ c. H b) (inner_parts b s.known sub part) s r → Counts (H b) (grown_at b) s (after r lists.all_passed)
  items_counted b s sub part (Ok p) h = (h.0, h.1, h.3)
  items_counted b s sub part (Err f) h = tt

  further : (s : State) (r : Ruled ((List OpenView × FillingView) × State)) (next : List OpenView × FillingView → State → Ruled ((List OpenView × FillingView) × State)) → Reads from root H has s r
      → ((p : List OpenView × FillingView) (t : State) → IsSettled t → Extends s.known t.known → AreOpen from root H has t.known p.0 → ArePlaced (H (passed p.0) t.known) p.1.stores → Reads from root H has t (next p t)) → Reads from root H has s (after r next)
  further s (Ok p) next h go = on (next p.0 p.1) (go p.0 p.1 h.0 h.1 h.2 h.3)
    where
      on : (r : Ruled ((List OpenView × FillingView) × State)) → Reads from root H has p.1 r → Reads from root H has s r
      on (Ok q) i = (i.0, extends_twice s.known p.1.known q.1.known h.1 i.1, i.2, i.3)
      on (Err f) i = tt
  further s (Err f) next h go = tt

mutual
  item_reads : (i : InitializerTree) (from : Known) (root : SubobjectView) (H : ℕ → Known → SubobjectView → Type 0) (has : HasParts from root H) (s : State) (equals : Place) (had : List OpenView) (v : FillingView) → IsSettled s → Extends from s.known → AreOpen from root H has s.known had → ArePlaced (H (passed had) s.known) v.stores → Reads from root H has s (lists.fill_item s equals had v i)
  item_reads (tree.Single e) from root H has s equals had v is later opened all = single_reads from root H has s equals had v e (bare_literal e) is later opened all
  item_reads (tree.Braces at list) from root H has s equals had v is later opened all =
      let left : List OpenView = (next s.known had).1 in
      let f = next_found from root H has s.known later had opened in
      let placed = raised from root H has (passed had) (passed left) s.known v f.more all in
      braces_read from root H has s equals left v list (λ sub. lists.fill_by s equals sub v list (lists.fill_aggregate s equals sub v list)) (next s.known had).0 is f.opened placed
      (λ sub e.
      let part = (f.found sub e).0 in
      fill_by_counts (H (passed left)) (grown_at from root H has (passed left)) s equals sub v list (lists.fill_aggregate s equals sub v list) is (inl part) placed
      (items_counted from root H has (passed left) s sub part (lists.fill_items s equals (entered sub ∷ []) v list)
      (items_read list s.known sub (λ c. H (passed left)) (inner_parts from root H has (passed left) s.known sub part) s equals (entered sub ∷ []) v is (extends_same s.known) (refl, refl, omega arith) placed)))

  pub items_read : (items : InitializerTrees) (from : Known) (root : SubobjectView) (H : ℕ → Known → SubobjectView → Type 0) (has : HasParts from root H) (s : State) (equals : Place) (had : List OpenView) (v : FillingView) → IsSettled s → Extends from s.known → AreOpen from root H has s.known had → ArePlaced (H (passed had) s.known) v.stores → Reads from root H has s (lists.fill_items s equals had v items)
  items_read tree.NoInitializer from root H has s equals had v is later opened all = (is, extends_same s.known, opened, all)
  items_read (tree.MoreInitializers i list) from root H has s equals had v is later opened all =
      further from root H has s (lists.fill_item s equals had v i) (λ p t. lists.fill_items t equals p.0 p.1 list) (item_reads i from root H has s equals had v is later opened all)
      (λ p t settled more opened stored. items_read list from root H has t equals p.0 p.1 settled (extends_twice from s.known t.known later more) opened stored)
