-- The scopes of a function have the objects that its blocks name.
use Rattle.std.proofs.Common.{ℕ, zero, suc, List, [], ◌∷◌, ◌++◌, length}
use Rattle.c_layout.specs.CheckedTrees as tree
use Rattle.c_layout.specs.CheckedTrees.{StatementTree, StatementTrees, statement_trees}
use Rattle.c_layout.specs.CheckedUnits.{FunctionView}
use Rattle.lower_templates.specs.Worklist.Pieces.{NameView}
use Rattle.lower_templates.specs.Worklist.Scopes.{ScopeView, TreeView, scope_at, with_new_scope, with_choice, with_case, with_default, with_label, scoped, all_scoped, no_scopes, function_scopes}
use Rattle.lower_template_theorems.specs.Names.NamedTrees.{NamesLocals, NamesStatement, NamesStatements, NamesFunction}

abbrev NameScopes : (NameView → Type 0) → List ScopeView → Type 0
NameScopes Q [] = Unit {0}
NameScopes Q (x ∷ xs) = NamesLocals Q x.objects × NameScopes Q xs

record HasSuch (Q : NameView → Type 0) (t : TreeView) : Type 0 where
  scopes : NameScopes Q t.scopes

one_more : (Q : NameView → Type 0) (xs : List ScopeView) (x : ScopeView) → NameScopes Q xs → NamesLocals Q x.objects → NameScopes Q (xs ++ x ∷ [])
one_more Q [] x is one = (one, tt)
one_more Q (y ∷ xs) x (first, is) one = (first, one_more Q xs x is one)

with_new : {Q : NameView → Type 0} (around : ℕ) (objects : List ℕ) (t : TreeView) → NamesLocals Q objects → HasSuch Q t → HasSuch Q (with_new_scope around objects t)
unfolding with_new_scope
with_new {Q = Q} around objects t one has = record { scopes = one_more Q t.scopes (record { around = around; objects = objects }) has.scopes one }

with_switch : {Q : NameView → Type 0} (count : ℕ) (t : TreeView) → HasSuch Q t → HasSuch Q (with_choice count t)
unfolding with_choice
with_switch count t has = record { scopes = has.scopes }

with_case_of : {Q : NameView → Type 0} (choice n scope : ℕ) (t : TreeView) → HasSuch Q t → HasSuch Q (with_case choice n scope t)
unfolding with_case
with_case_of choice n scope t has = record { scopes = has.scopes }

with_default_of : {Q : NameView → Type 0} (choice scope : ℕ) (t : TreeView) → HasSuch Q t → HasSuch Q (with_default choice scope t)
unfolding with_default
with_default_of choice scope t has = record { scopes = has.scopes }

with_label_of : {Q : NameView → Type 0} (n scope : ℕ) (t : TreeView) → HasSuch Q t → HasSuch Q (with_label n scope t)
unfolding with_label
with_label_of n scope t has = record { scopes = has.scopes }

mutual
  in_scopes : {Q : NameView → Type 0} (i : StatementTree) (s c : ℕ) (t : TreeView) → NamesStatement Q i → HasSuch Q t → HasSuch Q (scoped i s c t)
  in_scopes (tree.Block objects items) s c t (one, two) has = all_in_scopes items (length t.scopes) c (with_new_scope s objects t) two (with_new s objects t one has)
  in_scopes (tree.If e body) s c t (one, two) has = in_scopes body s c t two has
  in_scopes (tree.IfElse e first second) s c t (one, two, three) has = in_scopes second s c (scoped first s c t) three (in_scopes first s c t two has)
  in_scopes (tree.While e body) s c t (one, two) has = in_scopes body s c t two has
  in_scopes (tree.Do body e) s c t (one, two) has = in_scopes body s c t one has
  in_scopes (tree.For objects first e step body) s c t (one, two, three, four, five) has =
      in_scopes body (length t.scopes) c (all_scoped first (length t.scopes) c (with_new_scope s objects t)) five (all_in_scopes first (length t.scopes) c (with_new_scope s objects t) two (with_new s objects t one has))
  in_scopes (tree.Switch at e labels has_default values body) s c t (one, two) has = in_scopes body s (length t.choices) (with_choice (length labels) t) two (with_switch (length labels) t has)
  in_scopes (tree.Case n body) s c t is has = in_scopes body s c (with_case c n s t) is (with_case_of c n s t has)
  in_scopes (tree.Default body) s c t is has = in_scopes body s c (with_default c s t) is (with_default_of c s t has)
  in_scopes (tree.Label n body) s c t is has = in_scopes body s c (with_label n s t) is (with_label_of n s t has)
  in_scopes other s c t is has = has

  all_in_scopes : {Q : NameView → Type 0} (items : StatementTrees) (s c : ℕ) (t : TreeView) → NamesStatements Q items → HasSuch Q t → HasSuch Q (all_scoped items s c t)
  all_in_scopes tree.NoMore s c t is has = has
  all_in_scopes (tree.And first rest) s c t (one, two) has = all_in_scopes rest s c (scoped first s c t) two (in_scopes first s c t one has)

locals_at : (Q : NameView → Type 0) (xs : List ScopeView) (n : ℕ) → NameScopes Q xs → NamesLocals Q (scope_at xs n).objects
locals_at Q [] n is = tt
locals_at Q (x ∷ xs) zero is = is.0
locals_at Q (x ∷ xs) (suc n) is = locals_at Q xs n is.1

none_yet : (Q : NameView → Type 0) (labels : ℕ) → HasSuch Q (no_scopes labels)
none_yet Q labels = record { scopes = tt }

-- each scope of a function
pub scopes_of : (Q : NameView → Type 0) (f : FunctionView) → NamesFunction Q f → (n : ℕ) → NamesLocals Q (scope_at (function_scopes f).scopes n).objects
scopes_of Q f named n =
    let outer = with_new 0 [] (no_scopes f.labels) tt (none_yet Q f.labels) in
    let inner = with_new 0 f.scope (with_new_scope 0 [] (no_scopes f.labels)) named.scope outer in
    locals_at Q (function_scopes f).scopes n (all_in_scopes (statement_trees f.body) 1 0 (with_new_scope 0 f.scope (with_new_scope 0 [] (no_scopes f.labels))) named.body inner).scopes
