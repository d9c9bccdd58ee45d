-- Entries of a stack that no jump looks for.
use Rattle.std.proofs.Common.{◌≡◌, ℕ, Bool, true, false, List, [], map, refl}
use Rattle.std.specs.Borrow.{Bor}
use Rattle.c_layout.specs.CheckedTrees as tree
use Rattle.c_layout.specs.CheckedTrees.{TermTree, Typed, StatementTree, term_tree, term_trees, statement_tree, store_tree}
use Rattle.c_layout.specs.CheckedUnits.{UnitView}
use Rattle.cc_base.specs.declared.diagnostics.Place.{Place}
use Rattle.lower_functions.specs.Functions.Functions.{numbers_from}
use Rattle.semantics.specs.SourceMachine.Scopes.{open_scopes, past_loop, past_iteration}
use Rattle.interp_stack.specs.StackViews.{StackView, on_item, on_term, on_statement, on_line}
use Rattle.interp_stack.specs.declared.items.Item7.{Item7}
use Rattle.interp_stack.specs.declared.items.Item7.TheVariants as held
use Rattle.interp_stack.specs.declared.items.Use7.{Use7}
use Rattle.interp_stack.specs.declared.items.Use7.TheVariants as use_of
use Rattle.interp_stack.specs.declared.items.Way7.{Way7}
use Rattle.interp_stack.specs.declared.items.Way7.TheVariants as way
use Rattle.interp_stack.proofs.Plain.{Plain, none, one, plain_scopes, plain_loop, plain_turn, plain_arguments, plain_drops, plain_statements, plain_bindings, plain_stores}

-- ---- entries by their parts

plain_term : (u : UnitView) (how : Use7) (e : TermTree) (s : StackView) → Plain (on_term u how e s).items s.items
plain_term u use_of.Value e s = one (refl, refl, refl) none
plain_term u use_of.Unused e s = one (refl, refl, refl) none
plain_term u (use_of.Choose is_test) e s = one (refl, refl, refl) none
plain_term u (use_of.AndThen is_test) e s = none
plain_term u (use_of.OrElse is_test) e s = none
plain_term u use_of.Pick (Typed at t parens fixed (tree.Conditional c a b)) s = none
plain_term u use_of.Pick (Typed at t parens fixed form) s = none
plain_term u (use_of.After arm) e s = none

plain_statement : (how : Way7) (x : StatementTree) (s : StackView) → Plain (on_statement how x s).items s.items
plain_statement way.Whole x s = one (refl, refl, refl) none
plain_statement way.Turn (tree.While c body) s = one (refl, refl, refl) none
plain_statement way.Turn (tree.Do body c) s = one (refl, refl, refl) none
plain_statement way.Turn (tree.For objects first c step body) s = one (refl, refl, refl) none
plain_statement way.Turn x s = one (refl, refl, refl) none
plain_statement way.Select (tree.Switch at e labels has_default enumerators body) s = one (refl, refl, refl) none
plain_statement way.Select x s = one (refl, refl, refl) none
plain_statement (way.After next) x s = none

plain_line : (at : Place) (wants : Bool) (s : StackView) → Plain (on_line at wants s).items s.items
plain_line at true s = one (refl, refl, refl) none
plain_line at false s = one (refl, refl, refl) none

-- the end of a scope, of a turn or of a loop
abbrev pub is_mark : Item7 → Bool
is_mark held.IterationEnd = true
is_mark held.LoopEnd = true
is_mark (held.Leaves objects) = true
is_mark held.LeavesBelow = true
is_mark i = false

plain_entry : (u : UnitView) (i : Item7) (s : StackView) → is_mark i ≡ false → Plain (on_item u i s).items s.items
plain_entry u (held.Term how e) s h = plain_term u how (term_tree e.now) s
plain_entry u (held.Values es) s h = plain_arguments (term_trees (map term_tree es.now)) s.items
plain_entry u (held.Address l) s h = one (refl, refl, refl) none
plain_entry u (held.Do at operation) s h = one (refl, refl, refl) none
plain_entry u (held.Truth holds) s h = one (refl, refl, refl) none
plain_entry u held.Again s h = one (refl, refl, refl) none
plain_entry u held.Drop s h = one (refl, refl, refl) none
plain_entry u (held.Drops count) s h = plain_drops count s.items
plain_entry u (held.Object at object offset) s h = one (refl, refl, refl) none
plain_entry u (held.Literal at index) s h = one (refl, refl, refl) none
plain_entry u (held.Outcome at) s h = one (refl, refl, refl) none
plain_entry u (held.OnObject at local how) s h = one (refl, refl, refl) none
plain_entry u (held.Stores at local stores) s h = plain_stores at local (map store_tree stores.now) s.items
plain_entry u (held.ReadLine at wants_line) s h = plain_line at wants_line s
plain_entry u held.AfterNothing s h = none
plain_entry u (held.AfterTruth holds) s h = none
plain_entry u held.Negated s h = none
plain_entry u (held.Statement how x) s h = plain_statement how (statement_tree x.now) s
plain_entry u (held.Statements xs) s h = plain_statements (map statement_tree xs.now) s.items
plain_entry u held.IterationEnd s h = cc
plain_entry u held.LoopEnd s h = cc
plain_entry u (held.Enters objects) s h = one (refl, refl, refl) none
plain_entry u (held.Leaves objects) s h = cc
plain_entry u held.EntersBelow s h = one (refl, refl, refl) none
plain_entry u held.LeavesBelow s h = cc
plain_entry u (held.Also object) s h = none
plain_entry u (held.AlsoFrom from count) s h = none
plain_entry u held.Hop s h = one (refl, refl, refl) none
plain_entry u (held.GoTo label) s h = one (refl, refl, refl) none
plain_entry u held.BreakOut s h = one (refl, refl, refl) none
plain_entry u held.NextIteration s h = one (refl, refl, refl) none
plain_entry u held.LeaveFunction s h = one (refl, refl, refl) none
plain_entry u held.EndBody s h = one (refl, refl, refl) none
plain_entry u (held.Invoke at function count used) s h = one (refl, refl, refl) none
plain_entry u (held.Binds at from left count) s h = plain_bindings at count (numbers_from from left) s.items
plain_entry u (held.Bind at parameter depth) s h = one (refl, refl, refl) none
plain_entry u (held.LeaveOutcome at) s h = one (refl, refl, refl) none

-- ---- what jumps look for

pub entry_loop : (u : UnitView) (i : Item7) (s : StackView) → (i ≡ held.LoopEnd → ⊥) → past_loop (on_item u i s).items ≡ past_loop s.items
entry_loop u held.LoopEnd s h = absurd (h refl)
entry_loop u held.IterationEnd s h = refl
entry_loop u (held.Leaves objects) s h = refl
entry_loop u held.LeavesBelow s h = refl
entry_loop u i s h = plain_loop (plain_entry u i s refl)

pub entry_turn : (u : UnitView) (i : Item7) (s : StackView) → (i ≡ held.IterationEnd → ⊥) → past_iteration (on_item u i s).items ≡ past_iteration s.items
entry_turn u held.IterationEnd s h = absurd (h refl)
entry_turn u held.LoopEnd s h = refl
entry_turn u (held.Leaves objects) s h = refl
entry_turn u held.LeavesBelow s h = refl
entry_turn u i s h = plain_turn (plain_entry u i s refl)

-- an entry with scopes or objects
abbrev pub is_scope : Item7 → Bool
is_scope (held.Leaves objects) = true
is_scope held.LeavesBelow = true
is_scope (held.Also object) = true
is_scope (held.AlsoFrom from count) = true
is_scope i = false

pub entry_scopes : (u : UnitView) (i : Item7) (s : StackView) → is_scope i ≡ false → open_scopes (on_item u i s).items ≡ open_scopes s.items
entry_scopes u held.IterationEnd s h = refl
entry_scopes u held.LoopEnd s h = refl
entry_scopes u (held.Leaves objects) s h = cc
entry_scopes u held.LeavesBelow s h = cc
entry_scopes u i s h = plain_scopes (plain_entry u i s refl)

pub term_objects : (u : UnitView) (how : Use7) (e : TermTree) (s : StackView) → (on_term u how e s).objects ≡ []
term_objects u use_of.Pick (Typed at t parens fixed (tree.Conditional c a b)) s = refl
term_objects u use_of.Pick (Typed at t parens fixed form) s = refl
term_objects u how e s = refl

pub entry_objects : (u : UnitView) (i : Item7) (s : StackView) → is_scope i ≡ false → (on_item u i s).objects ≡ []
entry_objects u (held.Term how e) s h = term_objects u how (term_tree e.now) s
entry_objects u (held.Statement way.Whole x) s h = refl
entry_objects u (held.Statement way.Turn x) s h = refl
entry_objects u (held.Statement way.Select x) s h = refl
entry_objects u (held.Statement (way.After next) x) s h = refl
entry_objects u (held.ReadLine at true) s h = refl
entry_objects u (held.ReadLine at false) s h = refl
entry_objects u (held.Also object) s h = cc
entry_objects u (held.AlsoFrom from count) s h = cc
entry_objects u i s h = refl

pub no_scope : (i : Item7) → ((objects : Bor (List ℕ)) → i ≡ held.Leaves objects → ⊥) → (i ≡ held.LeavesBelow → ⊥) → ((object : ℕ) → i ≡ held.Also object → ⊥) → ((from count : ℕ) → i ≡ held.AlsoFrom from count → ⊥) → is_scope i ≡ false
no_scope (held.Leaves objects) own below single more = absurd (own objects refl)
no_scope held.LeavesBelow own below single more = absurd (below refl)
no_scope (held.Also object) own below single more = absurd (single object refl)
no_scope (held.AlsoFrom from count) own below single more = absurd (more from count refl)
no_scope i own below single more = refl
