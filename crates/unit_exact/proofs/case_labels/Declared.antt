-- Declarations of blocks add no switches to the statements of their block.
use Rattle.std.proofs.Common.{◌≡◌, ℕ, Bool, true, false, List, [], ◌∷◌, ◌++◌, length, Option, Some, None, Ok, Err, refl}
use Rattle.std.specs.Prelude.{cond}
use Rattle.std.proofs.lemmas.Bool.{and_parts, and_from}
use Rattle.cc_base.specs.declared.diagnostics.Place.{Place}
use Rattle.c_layout.specs.Types.{Ty}
use Rattle.c_layout.specs.CheckedTrees.{StatementTree, statement_trees}
use Rattle.c_layout.specs.DeclarationTrees.{NameView, DeclaratorLayerView, InitializerTree, InitDeclaratorView, Object, Initialized, Prototype, LocalView, spec_trees}
use Rattle.c_types_scopes.specs.Answers.{after}
use Rattle.c_types_scopes.specs.DeclaredTypes.{DeclaredView}
use Rattle.c_types_scopes.specs.Refusals.{Ruled, type_fault}
use Rattle.c_types_scopes.specs.States.{State}
use Rattle.c_types_initializers.specs.Initialized.{InitializedView, ByTerm, ByLvalue, ByStores}
use Rattle.c_types_expressions.specs.BracedLists.Initializers.{initializer_of}
use Rattle.c_types_declarations.specs.SpecifierTrees.{specifiers}
use Rattle.c_types_declarations.specs.Specifiers.{SpecifiedView}
use Rattle.c_types_statement_rules.specs.Objects.LocalObjects.{PartsView, with_object, with_automatic, with_local_type, start, is_static}
use Rattle.c_types_statements.specs.LocalDeclarations as locals
use Rattle.c_types_statements.specs.StaticInitializers.{has_size}
use Rattle.unit_exact.specs.CaseLabels.DistinctCases.{has_distinct_cases, have_distinct_cases}

-- the switches in the statements of a block so far have distinct cases
abbrev pub HasParts : PartsView → Type 0
HasParts parts = have_distinct_cases (statement_trees parts.statements) ≡ true

-- what a step of typing gives is such
abbrev pub Gives : {V : Type 0} → (V → Type 0) → Ruled (V × State) → Type 0
Gives P (Ok p) = P p.0
Gives P (Err f) = Unit {0}

pub behind : {U V : Type 0} (P : V → Type 0) (r : Ruled (U × State)) (next : U → State → Ruled (V × State)) → ((u : U) (t : State) → Gives P (next u t)) → Gives P (after r next)
behind P (Ok p) next h = h p.0 p.1
behind P (Err f) next h = tt

pub then : {U V : Type 0} (P : U → Type 0) (Q : V → Type 0) (r : Ruled (U × State)) (next : U → State → Ruled (V × State)) → Gives P r → ((u : U) (t : State) → P u → Gives Q (next u t)) → Gives Q (after r next)
then P Q (Ok p) next g h = h p.0 p.1 g
then P Q (Err f) next g h = tt

one_more : (xs : List StatementTree) (x : StatementTree) → have_distinct_cases (statement_trees xs) ≡ true → has_distinct_cases x ≡ true → have_distinct_cases (statement_trees (xs ++ x ∷ [])) ≡ true
one_more [] x all one = and_from (has_distinct_cases x) true one refl
one_more (y ∷ xs) x all one =
    let p = and_parts (has_distinct_cases y) (have_distinct_cases (statement_trees xs)) all in
    and_from (has_distinct_cases y) (have_distinct_cases (statement_trees (xs ++ x ∷ []))) p.0 (one_more xs x p.1 one)

pub with_one : (parts : PartsView) (made : StatementTree) → HasParts parts → has_distinct_cases made ≡ true → HasParts (record parts { statements = parts.statements ++ made ∷ [] })
with_one parts made all one = one_more parts.statements made all one

started : (at : Place) (k : ℕ) (v : InitializedView) → has_distinct_cases (start at k v) ≡ true
started at k (ByTerm e) = refl
started at k (ByLvalue l) = refl
started at k (ByStores xs) = refl

plain_by : (n : NameView) (d : DeclaredView) (parts : PartsView) (b : Ruled Bool) (s : State) → HasParts parts → Gives HasParts (locals.plain_by n d parts b s)
plain_by n d parts (Ok true) s h = h
plain_by n d parts (Ok false) s h = with_one (with_object parts (length s.body.locals)) _ h refl
plain_by n d parts (Err f) s h = tt

automatic_by : (at equals : Place) (k : ℕ) (parts : PartsView) (m : InitializedView × Ty) (t : State) → HasParts parts → Gives HasParts (locals.start_automatic at equals k parts m t)
automatic_by at equals k parts m t h = by_size (has_size t.known m.1)
  where
    by_size : (b : Bool) → Gives HasParts (cond b (Ok (locals.started at k m.0 parts, with_local_type k m.1 t)) (type_fault equals))
    by_size true = with_one parts (start at k m.0) h (started at k m.0)
    by_size false = tt

initialized_by : (n : NameView) (d : DeclaredView) (equals : Place) (i : InitializerTree) (parts : PartsView) (b : Ruled Bool) (s : State) → HasParts parts → Gives HasParts (locals.initialized_by n d equals i parts b s)
initialized_by n d equals i parts (Ok true) s h = behind HasParts (locals.initialized_static n d equals i s) (locals.parts_kept parts) (λ u t. h)
initialized_by n d equals i parts (Ok false) s h =
    behind HasParts (initializer_of (with_automatic n d s) equals d.ctype i) (locals.start_automatic n.at equals (length s.body.locals) (with_object parts (length s.body.locals)))
    (λ m t. automatic_by n.at equals (length s.body.locals) (with_object parts (length s.body.locals)) m t h)
initialized_by n d equals i parts (Err f) s h = tt

plain_named : (s : State) (base : SpecifiedView) (at : Place) (n : Option NameView) (layers : List DeclaratorLayerView) (parts : PartsView) → HasParts parts → Gives HasParts (locals.plain_named s base at n layers parts)
plain_named s base at None layers parts h = tt
plain_named s base at (Some n) layers parts h = behind HasParts (locals.object_type s base n layers false) (locals.plain_in base.storage n parts) (λ d t. plain_by n d parts (is_static base.storage n.at) t h)

initialized_named : (s : State) (base : SpecifiedView) (at : Place) (n : Option NameView) (layers : List DeclaratorLayerView) (equals : Place) (i : InitializerTree) (parts : PartsView) → HasParts parts → Gives HasParts (locals.initialized_named s base at n layers equals i parts)
initialized_named s base at None layers equals i parts h = tt
initialized_named s base at (Some n) layers equals i parts h = behind HasParts (locals.object_type s base n layers true) (locals.initialized_in base.storage n equals i parts) (λ d t. initialized_by n d equals i parts (is_static base.storage n.at) t h)

declarator : (s : State) (base : SpecifiedView) (at : Place) (d : InitDeclaratorView) (parts : PartsView) → HasParts parts → Gives HasParts (locals.declarator s base at d parts)
declarator s base at (Object d) parts h = plain_named s base at d.name d.layers parts h
declarator s base at (Initialized d equals i) parts h = initialized_named s base at d.name d.layers equals i parts h
declarator s base at (Prototype f) parts h = tt

declarators : (ds : List InitDeclaratorView) (s : State) (base : SpecifiedView) (at : Place) (parts : PartsView) → HasParts parts → Gives HasParts (locals.declarators s base at ds parts)
declarators [] s base at parts h = h
declarators (d ∷ ds) s base at parts h = then HasParts HasParts (locals.declarator s base at d parts) (λ q t. locals.declarators t base at ds q) (declarator s base at d parts h) (λ q t g. declarators ds t base at q g)

-- a declaration in a block or in a `for`
pub declared : (s : State) (l : LocalView) (parts : PartsView) → HasParts parts → Gives HasParts (locals.local_declaration s l parts)
declared s l parts h = behind HasParts (specifiers s l.at (locals.are_none l.declarators) (spec_trees l.words)) (locals.declared_by l parts) (λ base t. by_empty base t (locals.is_empty l.declarators base))
  where
    by_empty : (base : SpecifiedView) (t : State) (b : Bool) → Gives HasParts (cond b (type_fault l.at) (locals.declarators t base l.at l.declarators parts))
    by_empty base t true = tt
    by_empty base t false = declarators l.declarators t base l.at parts h
