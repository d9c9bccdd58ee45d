-- Statements one after the other, scopes, initializers and returns sit where their objects live.
use Rattle.std.proofs.Common.{◌≡◌, ℕ, Bool, true, false, not, cond, ◌&&◌, ◌||◌, List, [], ◌∷◌, ◌++◌, Option, Some, None, append_assoc, refl, ap, sym, subst, ◌∙◌}
use Rattle.cc_base.specs.declared.diagnostics.Place.{Place}
use Rattle.c_layout.specs.CheckedTrees as tree
use Rattle.c_layout.specs.CheckedTrees.{TermTree, StatementTree, StatementTrees, statement_trees, StoreTree, StoreValue, StoreCopy, StoreText}
use Rattle.c_layout.specs.CheckedUnits.{FunctionView}
use Rattle.lower_templates.specs.Worklist.TermKinds.{is_void}
use Rattle.lower_functions.specs.Functions.Functions.{numbers_from}
use Rattle.semantics.specs.SourceMachine.Items as item
use Rattle.semantics.specs.SourceMachine.Items.{Item}
use Rattle.semantics.specs.SourceMachine.Scopes.{is_in, all_of, open_scopes}
use Rattle.semantics.specs.SourceMachine.SourceStates.{result_object}
use Rattle.semantics.specs.SourceMachine.StatementItems.{statements, stored, all_stored, returned, list_statements}
use Rattle.source_items.specs.Returns.EndedObjects.{own_objects}
use Rattle.source_items.specs.Returns.StandingJumps.{JumpsStand, AllJumpsStand}
use Rattle.source_items.specs.Liveness.Lives.{Lives, with_those, without_those, lives, kept_objects, AreNew, IsInBody}
use Rattle.source_items.specs.Liveness.ScopedStatements.{ScopedStore, ScopedStores, ScopedReturn, ScopedStatement, ScopedStatements}
use Rattle.source_items.specs.Liveness.Livings.{Encloses, Stands, Sit}
use Rattle.source_items.proofs.stack_kinds.LeadingStatements.{listed_statements}
use Rattle.source_items.proofs.liveness.Members.{apart, left_or, right_or, self_in, is_in-append}
use Rattle.source_items.proofs.liveness.Inlinings.{scope_opens, parts}
use Rattle.source_items.proofs.liveness.Sitting.{Leads, Adds, adds_both}

module _ (f : FunctionView) (first : Bool) where
  -- ---- statements one after the other

  pub statements_keep : (items : StatementTrees) (rest : List Item) → lives f first (statements items ++ rest) ≡ lives f first rest
  statements_keep tree.NoMore rest = refl
  statements_keep (tree.And s ss) rest = statements_keep ss rest

  pub list_keeps : (ss : List StatementTree) (rest : List Item) → lives f first (list_statements ss ++ rest) ≡ lives f first rest
  list_keeps [] rest = refl
  list_keeps (s ∷ ss) rest = list_keeps ss rest

  one_more : (breaks continues : Bool) (s : StatementTree) (rest : List Item) → Encloses f first breaks continues rest → Encloses f first breaks continues (item.Statement s ∷ rest)
  one_more breaks continues s rest e = record { here = e.here; at_break = e.at_break; at_continue = e.at_continue }

  pub statements_enclose : (breaks continues : Bool) (items : StatementTrees) (rest : List Item) → Encloses f first breaks continues rest → Encloses f first breaks continues (statements items ++ rest)
  statements_enclose breaks continues tree.NoMore rest e = e
  statements_enclose breaks continues (tree.And s ss) rest e = one_more breaks continues s (statements ss ++ rest) (statements_enclose breaks continues ss rest e)

  pub standing : (breaks continues : Bool) (s : StatementTree) (rest : List Item) → JumpsStand breaks continues s → ScopedStatement f (lives f first rest) s → Encloses f first breaks continues rest → Stands f first s rest
  standing breaks continues s rest jumps scoped e = record { breaks = breaks; continues = continues; jumps = jumps; scoped = scoped; enclosed = e }

  -- where as much lives
  pub scoped_as : (s : StatementTree) (alive also : Lives) → also ≡ alive → ScopedStatement f alive s → ScopedStatement f also s
  scoped_as s alive also same scoped = subst (λ a. ScopedStatement f a s) (sym same) scoped

  pub statements_sit : (breaks continues : Bool) (items : StatementTrees) (rest : List Item) → AllJumpsStand breaks continues items → ScopedStatements f (lives f first rest) items → Encloses f first breaks continues rest → Sit f first rest → Sit f first (statements items ++ rest)
  statements_sit breaks continues tree.NoMore rest jumps scoped e sit = sit
  statements_sit breaks continues (tree.And s ss) rest jumps scoped e sit = (standing breaks continues s (statements ss ++ rest) jumps.0 (scoped_as s (lives f first rest) _ (statements_keep ss rest) scoped.0) (statements_enclose breaks continues ss rest e), statements_sit breaks continues ss rest jumps.1 scoped.1 e sit)

  pub list_sits : (breaks continues : Bool) (ss : List StatementTree) (rest : List Item) → AllJumpsStand breaks continues (statement_trees ss) → ScopedStatements f (lives f first rest) (statement_trees ss) → Encloses f first breaks continues rest → Sit f first rest → Sit f first (list_statements ss ++ rest)
  list_sits breaks continues ss rest jumps scoped e sit = subst (λ items. Sit f first (items ++ rest)) (sym (listed_statements ss)) (statements_sit breaks continues (statement_trees ss) rest jumps scoped e sit)

  -- ---- scopes

  pub scope_encloses : (breaks continues : Bool) (objects : List ℕ) (rest : List Item) → AreNew objects (lives f first rest) → Encloses f first breaks continues rest → Encloses f first breaks continues (item.Leaves objects ∷ rest)
  scope_encloses breaks continues objects rest new e = record { here = scope_opens (kept_objects f first) (lives f first rest) (open_scopes rest) objects new e.here; at_break = e.at_break; at_continue = e.at_continue }

  pub no_loop : (rest : List Item) → IsInBody f first rest → Encloses f first false false rest
  no_loop rest here = record { here = here; at_break = λ e. absurd (apart e); at_continue = λ e. absurd (apart e) }

  -- in the place of an item before the rest
  abbrev pub Replaces : List Item → List Item → Type 0
  Replaces items rest = ((n : ℕ) → lives f first items n ≡ lives f first rest n) × Sit f first items

  pub replacing : (items rest : List Item) → Leads f first items rest → Replaces (items ++ rest) rest
  replacing items rest leads = ((λ n. ap (λ alive. alive n) leads.0), leads.1)

  -- what is entered before items where it lives beside all that lived
  pub scope_replaces : (objects : List ℕ) (items rest : List Item) → AreNew objects (lives f first rest) → lives f first items ≡ with_those objects (lives f first rest) → Sit f first items → Replaces (item.Enters objects ∷ items) rest
  scope_replaces objects items rest new keeps sit = (same, ((new.0, alive), sit))
    where
      by : (a b : Bool) → (a ≡ true → b ≡ false) → (not a && (a || b)) ≡ b
      by true b h = sym (h refl)
      by false b h = refl

      same : (n : ℕ) → without_those objects (lives f first items) n ≡ lives f first rest n
      same n = ap (λ alive. without_those objects alive n) keeps ∙ by (is_in n objects) (lives f first rest n) (new.1 n)

      alive : (n : ℕ) → is_in n objects ≡ true → lives f first items n ≡ true
      alive n e = ap (λ alive. alive n) keeps ∙ left_or (is_in n objects) (lives f first rest n) e

  pub block_replaces : (breaks continues : Bool) (objects : List ℕ) (items : StatementTrees) (rest : List Item) → AllJumpsStand breaks continues items → AreNew objects (lives f first rest) → ScopedStatements f (with_those objects (lives f first rest)) items → Encloses f first breaks continues rest → Sit f first rest → Replaces (item.Enters objects ∷ ((statements items ++ item.Leaves objects ∷ []) ++ rest)) rest
  block_replaces breaks continues objects items rest jumps new scoped e sit =
      let end : List Item = item.Leaves objects ∷ rest in
      let all : Sit f first (statements items ++ end) = statements_sit breaks continues items end jumps scoped (scope_encloses breaks continues objects rest new e) (new, sit) in
      subst (λ xs. Replaces (item.Enters objects ∷ xs) rest) (sym (append_assoc (statements items) (item.Leaves objects ∷ []) rest)) (scope_replaces objects (statements items ++ end) rest new (statements_keep items end) all)

  -- ---- stores

  stored_adds : (at : Place) (local : ℕ) (x : StoreTree) → Adds f first (λ alive. (alive local ≡ true) × ScopedStore alive x) (stored at local x)
  stored_adds at local (StoreValue offset e) = λ rest s sit. (refl, (s.0, (s.1, (tt, (tt, sit)))))
  stored_adds at local (StoreCopy offset l) = λ rest s sit. (refl, (s.0, (s.1, (tt, (tt, sit)))))
  stored_adds at local (StoreText offset room text) = λ rest s sit. (refl, (s.0, sit))

  pub all_stored_add : (at : Place) (local : ℕ) (xs : List StoreTree) → Adds f first (λ alive. (alive local ≡ true) × ScopedStores alive xs) (all_stored at local xs)
  all_stored_add at local [] rest s sit = (refl, sit)
  all_stored_add at local (x ∷ xs) rest s sit = adds_both f first (λ alive. (alive local ≡ true) × ScopedStore alive x × ScopedStores alive xs) (stored at local x) (all_stored at local xs) (λ rest s sit. stored_adds at local x rest (s.0, s.1) sit) (λ rest s sit. all_stored_add at local xs rest (s.0, s.2) sit) rest (s.0, s.1.0, s.1.1) sit

-- ---- returns

result_own : (f : FunctionView) → is_void f.returns ≡ false → is_in (result_object f) (own_objects f) ≡ true
result_own f is =
    let r : ℕ = result_object f in
    let ns : List ℕ = numbers_from 0 f.parameters in
    ap (λ b. is_in r (cond b ns (ns ++ r ∷ []))) is ∙ is_in-append r ns (r ∷ []) ∙ right_or (is_in r ns) (is_in r (r ∷ [])) (self_in r [])

-- the result of a function that was called lives in its whole body
result_lives : (f : FunctionView) (rest : List Item) → is_void f.returns ≡ false → IsInBody f false rest → lives f false rest (result_object f) ≡ true
result_lives f rest is here = parts (own_objects f) (lives f false rest) (open_scopes rest) here (result_object f) ∙ right_or (is_in (result_object f) (all_of (open_scopes rest))) (is_in (result_object f) (own_objects f)) (result_own f is)

pub returned_leads : (f : FunctionView) (first : Bool) (at : Place) (e : Option TermTree) (rest : List Item) → ScopedReturn f (lives f first rest) e → IsInBody f first rest → Sit f first rest → Leads f first (returned first at e) rest
returned_leads f first at None rest scoped here sit = (refl, sit)
returned_leads f true at (Some e) rest scoped here sit = (refl, (scoped.0, (tt, sit)))
returned_leads f false at (Some e) rest scoped here sit = (refl, (result_lives f rest scoped.1 here, (scoped.0, (tt, (tt, sit)))))
