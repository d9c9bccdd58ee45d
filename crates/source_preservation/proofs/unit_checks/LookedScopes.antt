-- Units that pass the look name only what lives.
use Rattle.std.proofs.Common.{◌≡◌, ◌≤◌, ◌⊎◌, inl, inr, ℕ, ◌==◌, Bool, true, false, not, ◌||◌, nat_le, List, [], ◌∷◌, ◌++◌, length, Option, Some, None, is_some, refl, ap, sym, subst, ◌∙◌}
use Rattle.std.specs.List.{list_all}
use Rattle.std.proofs.lemmas.Bool.{eqb-true, leb-true}
use Rattle.c_layout.specs.CheckedTrees as tree
use Rattle.c_layout.specs.CheckedTrees.{TermTree, TermTrees, Typed, LvalueTree, Designates, StatementTree, StatementTrees, statement_trees, StoreTree, StoreValue, StoreCopy, StoreText}
use Rattle.c_layout.specs.CheckedUnits.{FunctionView}
use Rattle.c_layout.specs.declared.checked_tree.checked_terms.ObjectRef.{ObjectRef}
use Rattle.c_layout.specs.declared.checked_tree.checked_terms.ObjectRef.TheVariants as ref
use Rattle.lower_templates.specs.Worklist.TermKinds.{is_void}
use Rattle.semantics.specs.SourceMachine.Scopes.{is_in}
use Rattle.semantics.specs.SourceMachine.SourceStates.{function_at}
use Rattle.source_items.specs.Liveness.Lives.{Lives, with_those, kept_objects, kept, AreDistinct, AreNew}
use Rattle.source_items.specs.Liveness.ScopedTerms.{IsThere, ScopedPlace, ScopedTerm, ScopedArguments, ScopedIf}
use Rattle.source_items.specs.Liveness.ScopedStatements.{ScopedStore, ScopedStores, ScopedReturn, ScopedStatement, ScopedStatements, ScopedFunction}
use Rattle.source_preservation.specs.UnitChecks.LookedScopes.{lives_in, is_scoped_term, is_scoped_place, are_scoped_terms, is_scoped_if, are_distinct, are_apart, are_new, is_scoped_store, is_scoped_return, is_scoped_statement, are_scoped_statements, is_scoped_body, is_scoped_function}
use Rattle.source_preservation.specs.UnitChecks.LookLaws.{LooksScope}
use Rattle.source_preservation.proofs.checks.Truths.{never, there, is_false, either_true, both_true, both, three, five, all_at}

-- a list has just the objects that live
abbrev IsList : Lives → List ℕ → Type 0
IsList alive list = (n : ℕ) → alive n ≡ is_in n list

-- ---- terms

module _ (alive : Lives) (list : List ℕ) (same : IsList alive list) where
  lives : (n : ℕ) → is_in n list ≡ true → alive n ≡ true
  lives n h = same n ∙ h

  object : (o : ObjectRef) → lives_in list o ≡ true → IsThere alive o
  object (ref.Static n) h = tt
  object (ref.Local n) h = lives n h

  mutual
    term : (e : TermTree) → is_scoped_term list e ≡ true → ScopedTerm alive e
    term (Typed at t parens fixed (tree.Number n)) h = tt
    term (Typed at t parens fixed (tree.SizeofType n is_pointer)) h = tt
    term (Typed at t parens fixed (tree.Sizeof n operand is_pointer)) h = tt
    term (Typed at t parens fixed (tree.Load l)) h = place l h
    term (Typed at t parens fixed (tree.AddressOf l)) h = place l h
    term (Typed at t parens fixed (tree.Decay l)) h = place l h
    term (Typed at t parens fixed (tree.Convert sort a)) h = term a h
    term (Typed at t parens fixed (tree.Discard a)) h = term a h
    term (Typed at t parens fixed (tree.Plus a)) h = term a h
    term (Typed at t parens fixed (tree.Minus a)) h = term a h
    term (Typed at t parens fixed (tree.Complement a)) h = term a h
    term (Typed at t parens fixed (tree.Not a)) h = term a h
    term (Typed at t parens fixed (tree.Integer sign a b)) h = both _ _ (λ x. term a x) (λ x. term b x) h
    term (Typed at t parens fixed (tree.Shift back size a b)) h = both _ _ (λ x. term a x) (λ x. term b x) h
    term (Typed at t parens fixed (tree.Difference size a b)) h = both _ _ (λ x. term a x) (λ x. term b x) h
    term (Typed at t parens fixed (tree.Compare sign a b)) h = both _ _ (λ x. term a x) (λ x. term b x) h
    term (Typed at t parens fixed (tree.Logical sign a b)) h = both _ _ (λ x. term a x) (λ x. term b x) h
    term (Typed at t parens fixed (tree.Conditional c a b)) h = three _ _ _ (λ x. term c x) (λ x. term a x) (λ x. term b x) h
    term (Typed at t parens fixed (tree.Comma a b)) h = both _ _ (λ x. term a x) (λ x. term b x) h
    term (Typed at t parens fixed (tree.Assign l a)) h = both _ _ (λ x. place l x) (λ x. term a x) h
    term (Typed at t parens fixed (tree.Compound sign kind l a)) h = both _ _ (λ x. place l x) (λ x. term a x) h
    term (Typed at t parens fixed (tree.CompoundShift back size l a)) h = both _ _ (λ x. place l x) (λ x. term a x) h
    term (Typed at t parens fixed (tree.Step sign time kind l)) h = place l h
    term (Typed at t parens fixed (tree.StepPointer sign time size l)) h = place l h
    term (Typed at t parens fixed (tree.Struct l)) h = place l h
    term (Typed at t parens fixed (tree.Call function args is_used)) h = terms args h
    term (Typed at t parens fixed (tree.Library function args allocated)) h = terms args h

    place : (l : LvalueTree) → is_scoped_place list l ≡ true → ScopedPlace alive l
    place (Designates at t parens (tree.Object o)) h = object o h
    place (Designates at t parens (tree.Literal n)) h = tt
    place (Designates at t parens (tree.Target e)) h = term e h
    place (Designates at t parens (tree.Member outer offset)) h = place outer h
    place (Designates at t parens (tree.Copied target source)) h = both _ _ (λ x. place target x) (λ x. place source x) h
    place (Designates at t parens (tree.Then left right)) h = both _ _ (λ x. term left x) (λ x. place right x) h

    terms : (args : TermTrees) → are_scoped_terms list args ≡ true → ScopedArguments alive args
    terms tree.End h = tt
    terms (tree.More e rest) h = both _ _ (λ x. term e x) (λ x. terms rest x) h

  if_scoped : (o : Option TermTree) → is_scoped_if list o ≡ true → ScopedIf alive o
  if_scoped None h = tt
  if_scoped (Some e) h = term e h

  store : (x : StoreTree) → is_scoped_store list x ≡ true → ScopedStore alive x
  store (StoreValue offset e) h = term e h
  store (StoreCopy offset l) h = place l h
  store (StoreText offset room text) h = tt

  stores : (xs : List StoreTree) → list_all (is_scoped_store list) xs ≡ true → ScopedStores alive xs
  stores [] h = tt
  stores (x ∷ xs) h = both (is_scoped_store list x) (list_all (is_scoped_store list) xs) (store x) (λ y. stores xs y) h

  returned : (f : FunctionView) (o : Option TermTree) → is_scoped_return f list o ≡ true → ScopedReturn f alive o
  returned f None h = tt
  returned f (Some e) h = both (is_scoped_term list e) (not (is_void f.returns)) (term e) (is_false (is_void f.returns)) h

-- ---- scopes

distinct : (objects : List ℕ) → are_distinct objects ≡ true → AreDistinct objects
distinct [] h = tt
distinct (n ∷ ns) h = both (not (is_in n ns)) (are_distinct ns) (is_false (is_in n ns)) (λ x. distinct ns x) h

apart : (list objects : List ℕ) → are_apart list objects ≡ true → (n : ℕ) → is_in n objects ≡ true → is_in n list ≡ false
apart list [] h n is = never is
apart list (k ∷ ks) h n is = by (either_true (n == k) (is_in n ks) is) (λ later. apart list ks x.1 n later)
  where
    x : (not (is_in k list) ≡ true) × (are_apart list ks ≡ true)
    x = both_true (not (is_in k list)) (are_apart list ks) h

    by : ((n == k) ≡ true) ⊎ (is_in n ks ≡ true) → (is_in n ks ≡ true → is_in n list ≡ false) → is_in n list ≡ false
    by (inl here) behind = subst (λ m. is_in m list ≡ false) (sym (eqb-true n k here)) (is_false (is_in k list) x.0)
    by (inr later) behind = behind later

new : (alive : Lives) (list objects : List ℕ) → IsList alive list → are_new objects list ≡ true → AreNew objects alive
new alive list objects same h = both (are_distinct objects) (are_apart list objects) (distinct objects) (λ x n is. same n ∙ apart list objects x n is) h

in_either : (n : ℕ) (xs ys : List ℕ) → (is_in n xs || is_in n ys) ≡ is_in n (xs ++ ys)
in_either n [] ys = refl
in_either n (x ∷ xs) ys = by (n == x) (in_either n xs ys)
  where
    by : (here : Bool) → (is_in n xs || is_in n ys) ≡ is_in n (xs ++ ys) → ((here || is_in n xs) || is_in n ys) ≡ (here || is_in n (xs ++ ys))
    by true e = refl
    by false e = e

-- the objects of a scope live too
with_scope : (alive : Lives) (list objects : List ℕ) → IsList alive list → IsList (with_those objects alive) (objects ++ list)
with_scope alive list objects same n = ap (λ b. is_in n objects || b) (same n) ∙ in_either n objects list

-- ---- statements

module _ (f : FunctionView) where
  mutual
    statement : (alive : Lives) (list : List ℕ) (i : StatementTree) → IsList alive list → is_scoped_statement f list i ≡ true → ScopedStatement f alive i
    statement alive list (tree.Value e) same h = term alive list same e h
    statement alive list (tree.Forget at local) same h = lives alive list same local h
    statement alive list (tree.Start at local e) same h = both (is_in local list) (is_scoped_term list e) (lives alive list same local) (term alive list same e) h
    statement alive list (tree.StartCopy at local l) same h = both (is_in local list) (is_scoped_place list l) (lives alive list same local) (place alive list same l) h
    statement alive list (tree.StartList at local xs) same h = both (is_in local list) (list_all (is_scoped_store list) xs) (lives alive list same local) (stores alive list same xs) h
    statement alive list (tree.Block objects items) same h =
        both (are_new objects list) (are_scoped_statements f (objects ++ list) items) (new alive list objects same) (λ x. statements (with_those objects alive) (objects ++ list) items (with_scope alive list objects same) x) h
    statement alive list (tree.If c body) same h = both (is_scoped_term list c) (is_scoped_statement f list body) (term alive list same c) (λ x. statement alive list body same x) h
    statement alive list (tree.IfElse c first second) same h = three (is_scoped_term list c) (is_scoped_statement f list first) (is_scoped_statement f list second) (term alive list same c) (λ x. statement alive list first same x) (λ x. statement alive list second same x) h
    statement alive list (tree.While c body) same h = both (is_scoped_term list c) (is_scoped_statement f list body) (term alive list same c) (λ x. statement alive list body same x) h
    statement alive list (tree.Do body c) same h = both (is_scoped_term list c) (is_scoped_statement f list body) (term alive list same c) (λ x. statement alive list body same x) h
    statement alive list (tree.For objects first c step body) same h =
        let inner : Lives = with_those objects alive in
        let longer : List ℕ = objects ++ list in
        let within : IsList inner longer = with_scope alive list objects same in
        five (are_new objects list) (are_scoped_statements f longer first) (is_scoped_if longer c) (is_scoped_if longer step) (is_scoped_statement f longer body) (new alive list objects same) (λ x. statements inner longer first within x) (if_scoped inner longer within c) (if_scoped inner longer within step) (λ x. statement inner longer body within x) h
    statement alive list (tree.Switch at e labels has_default enumerators body) same h = both (is_scoped_term list e) (is_scoped_statement f list body) (term alive list same e) (λ x. statement alive list body same x) h
    statement alive list (tree.Case n body) same h = statement alive list body same h
    statement alive list (tree.Default body) same h = statement alive list body same h
    statement alive list (tree.Label n body) same h = statement alive list body same h
    statement alive list (tree.Return at e) same h = returned alive list same f e h
    statement alive list other same h = tt

    statements : (alive : Lives) (list : List ℕ) (items : StatementTrees) → IsList alive list → are_scoped_statements f list items ≡ true → ScopedStatements f alive items
    statements alive list tree.NoMore same h = tt
    statements alive list (tree.And first rest) same h = both (is_scoped_statement f list first) (are_scoped_statements f list rest) (λ x. statement alive list first same x) (λ x. statements alive list rest same x) h

-- ---- functions and units

body : (f : FunctionView) (is_entry : Bool) → f.parameters ≤ length f.locals → is_scoped_body f (kept_objects f is_entry) ≡ true → ScopedFunction f is_entry
body f is_entry parameters h =
    let list : List ℕ = kept_objects f is_entry in
    let same : IsList (kept f is_entry) list = λ n. refl in
    let x = both (are_new f.scope list) (are_scoped_statements f (f.scope ++ list) (statement_trees f.body)) (new (kept f is_entry) list f.scope same) (statements f (with_those f.scope (kept f is_entry)) (f.scope ++ list) (statement_trees f.body) (with_scope (kept f is_entry) list f.scope same)) h in
    record { parameters = parameters; scope = x.0; body = x.1 }

function : (f : FunctionView) → is_scoped_function f ≡ true → (is_entry : Bool) → ScopedFunction f is_entry
function f h true = let x = three (nat_le f.parameters (length f.locals)) (is_scoped_body f (kept_objects f true)) (is_scoped_body f (kept_objects f false)) (leb-true f.parameters (length f.locals)) (λ e. e) (λ e. e) h in body f true x.0 x.1
function f h false = let x = three (nat_le f.parameters (length f.locals)) (is_scoped_body f (kept_objects f true)) (is_scoped_body f (kept_objects f false)) (leb-true f.parameters (length f.locals)) (λ e. e) (λ e. e) h in body f false x.0 x.2

pub looks_scope : LooksScope
looks_scope u h =
    let x = both_true (list_all is_scoped_function u.functions) (is_some (function_at u u.entry)) h in
    let entry = there (function_at u u.entry) x.1 in
    record { functions = λ g f is. function f (all_at is_scoped_function u.functions g f x.0 is); entry = entry.0; is_entry = entry.1 }
