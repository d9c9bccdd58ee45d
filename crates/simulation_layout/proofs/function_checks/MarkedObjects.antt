-- What marks say of objects.
use Rattle.std.proofs.Common.{◌≡◌, ◌≤◌, ◌<◌, ◌⊎◌, inl, inr, ℕ, zero, suc, ◌+◌, ◌-◌, ◌==◌, Bool, true, false, ◌&&◌, ◌||◌, cond, nat_le, List, [], ◌∷◌, ◌++◌, length, replicate, slice_get, slice_set, get_or, is_some, Option, Some, None, refl, arith, ap, sym, subst, ◌∙◌, length-append}
use Rattle.std.proofs.lemmas.Bool.{eqb-true, eq-eqb, leb-true}
use Rattle.std.proofs.lemmas.List.{get_or-set_same, get_or-set_other, length-set, length-replicate, get_or-replicate, get_or_append_left}
use Rattle.std.proofs.lemmas.Option.{option_and_then_some, get_or_from_slice_get, slice_get_within}
use Rattle.std.specs.Option.{option_and_then}
use Rattle.c_layout.specs.CheckedTrees as tree
use Rattle.c_layout.specs.CheckedTrees.{StatementTree, StatementTrees, statement_trees}
use Rattle.c_layout.specs.CheckedUnits.{FunctionView}
use Rattle.lower_functions.specs.Functions.Functions.{numbers_from}
use Rattle.lower_preconditions.specs.Units.ScopeObjects.{marked_by, marked, all_marked, scopes_marked, all_scopes_marked, so_many_marked, parameters_marked, function_marked, has_own_objects}
use Rattle.semantics.specs.SourceMachine.Scopes.{is_in}
use Rattle.simulation_terms.specs.Scopes.SuitedStatements.{AreNew}
use Rattle.simulation_layout.proofs.function_checks.CountedLabels.{both_true}
use Rattle.simulation_layout.specs.FunctionChecks.NewObjects.{HasNewObjects, HaveNewObjects, HasOwnScopes}

-- ---- truths

some_is : {A : Type 0} (x y : A) → Some x ≡ Some y → x ≡ y
some_is x y e = cc

never : {A : Type 0} {P : Type 0} (x : A) → None ≡ Some x → P
never x e = absurd (no e)
  where
    no : None ≡ Some x → ⊥
    no e = cc

pub clash : {P : Type 0} (b : Bool) → b ≡ true → b ≡ false → P
clash b e f = absurd (no (sym e ∙ f))
  where
    no : true ≡ false → ⊥
    no e = cc

pub either_true : (a b : Bool) → (a || b) ≡ true → (a ≡ true) ⊎ (b ≡ true)
either_true true b e = inl refl
either_true false b e = inr e

pub left_true : (a b : Bool) → a ≡ true → (a || b) ≡ true
left_true true b e = refl
left_true false b e = clash false e refl

pub right_true : (a b : Bool) → b ≡ true → (a || b) ≡ true
right_true true b e = refl
right_true false b e = e

-- ---- lists

pub in_one : (xs ys : List ℕ) (k : ℕ) → is_in k (xs ++ ys) ≡ true → (is_in k xs ≡ true) ⊎ (is_in k ys ≡ true)
in_one [] ys k e = inr e
in_one (x ∷ xs) ys k e = by (λ later. in_one xs ys k later) (either_true (k == x) (is_in k (xs ++ ys)) e)
  where
    on : (is_in k xs ≡ true) ⊎ (is_in k ys ≡ true) → (is_in k (x ∷ xs) ≡ true) ⊎ (is_in k ys ≡ true)
    on (inl here) = inl (right_true (k == x) (is_in k xs) here)
    on (inr there) = inr there

    by : (is_in k (xs ++ ys) ≡ true → (is_in k xs ≡ true) ⊎ (is_in k ys ≡ true)) → ((k == x) ≡ true) ⊎ (is_in k (xs ++ ys) ≡ true) → (is_in k (x ∷ xs) ≡ true) ⊎ (is_in k ys ≡ true)
    by further (inl here) = inl (left_true (k == x) (is_in k xs) here)
    by further (inr later) = on (further later)

pub first_in : (x : ℕ) (xs : List ℕ) → is_in x (x ∷ xs) ≡ true
first_in x xs = left_true (x == x) (is_in x xs) (eq-eqb x x refl)

-- a list is new where none of its objects is known
pub are_new : (xs known : List ℕ) → ((k : ℕ) → is_in k xs ≡ true → is_in k known ≡ false) → AreNew xs known
are_new [] known new = tt
are_new (x ∷ xs) known new = (new x (first_in x xs), are_new xs known (λ k e. new k (right_true (k == x) (is_in k xs) e)))

-- ---- marks

-- an object that is not there counts as marked
abbrev pub is_marked : ℕ → List Bool → Bool
is_marked k seen = get_or seen k true

-- of some marks others are left, and these objects were free before and are marked then
pub record Marks (xs : List ℕ) (seen after : List Bool) : Type 0 where
  pub free : (k : ℕ) → is_in k xs ≡ true → is_marked k seen ≡ false
  pub taken : (k : ℕ) → is_in k xs ≡ true → is_marked k after ≡ true
  pub kept : (k : ℕ) → is_marked k seen ≡ true → is_marked k after ≡ true
  pub there : (k : ℕ) → is_in k xs ≡ true → k < length seen
  pub long : length after ≡ length seen

pub none : (seen after : List Bool) → seen ≡ after → Marks [] seen after
none seen after e = subst (λ a. Marks [] seen a) e (record { free = λ k f. clash false f refl; taken = λ k f. clash false f refl; kept = λ k f. f; there = λ k f. clash false f refl; long = refl })

was_free : (k : ℕ) (seen after : List Bool) → (is_marked k seen ≡ true → is_marked k after ≡ true) → is_marked k after ≡ false → is_marked k seen ≡ false
was_free k seen after kept free = by (is_marked k seen) refl
  where
    by : (b : Bool) → is_marked k seen ≡ b → is_marked k seen ≡ false
    by true e = clash (is_marked k after) (kept e) free
    by false e = e

pub then : (xs ys : List ℕ) (seen middle after : List Bool) → Marks xs seen middle → Marks ys middle after → Marks (xs ++ ys) seen after
then xs ys seen middle after one other = record {
  free = λ k e. free k (in_one xs ys k e);
  taken = λ k e. taken k (in_one xs ys k e);
  kept = λ k e. other.kept k (one.kept k e);
  there = λ k e. there k (in_one xs ys k e);
  long = other.long ∙ one.long;
}
  where
    free : (k : ℕ) → (is_in k xs ≡ true) ⊎ (is_in k ys ≡ true) → is_marked k seen ≡ false
    free k (inl e) = one.free k e
    free k (inr e) = was_free k seen middle (one.kept k) (other.free k e)

    taken : (k : ℕ) → (is_in k xs ≡ true) ⊎ (is_in k ys ≡ true) → is_marked k after ≡ true
    taken k (inl e) = other.kept k (one.taken k e)
    taken k (inr e) = other.taken k e

    there : (k : ℕ) → (is_in k xs ≡ true) ⊎ (is_in k ys ≡ true) → k < length seen
    there k (inl e) = one.there k e
    there k (inr e) = subst (λ m. k < m) one.long (other.there k e)

set_marks : (n : ℕ) (seen : List Bool) → slice_get seen n ≡ Some false → Marks (n ∷ []) seen (slice_set seen n true)
set_marks n seen is = record {
  free = λ k e. subst (λ i. is_marked i seen ≡ false) (sym (same k e)) (get_or_from_slice_get seen n false true is);
  taken = λ k e. subst (λ i. is_marked i (slice_set seen n true) ≡ true) (sym (same k e)) (get_or-set_same seen n true true within);
  kept = λ k e. kept k (k == n) refl e;
  there = λ k e. subst (λ i. i < length seen) (sym (same k e)) within;
  long = length-set seen n true;
}
  where
    within : n < length seen
    within = slice_get_within seen n false is

    same : (k : ℕ) → is_in k (n ∷ []) ≡ true → k ≡ n
    same k e = by (either_true (k == n) false e)
      where
        by : ((k == n) ≡ true) ⊎ (false ≡ true) → k ≡ n
        by (inl e) = eqb-true k n e
        by (inr e) = clash false e refl

    kept : (k : ℕ) (b : Bool) → (k == n) ≡ b → is_marked k seen ≡ true → is_marked k (slice_set seen n true) ≡ true
    kept k true e marked = subst (λ i. is_marked i (slice_set seen n true) ≡ true) (sym (eqb-true k n e)) (get_or-set_same seen n true true within)
    kept k false e marked = get_or-set_other seen n k true true (λ same. clash (k == n) (eq-eqb k n same) e) ∙ marked

pub marks_one : (n : ℕ) (seen after : List Bool) → marked n seen ≡ Some after → Marks (n ∷ []) seen after
marks_one n seen after e = by (slice_get seen n) refl e
  where
    by : (o : Option Bool) → slice_get seen n ≡ o → marked_by n seen o ≡ Some after → Marks (n ∷ []) seen after
    by None is e = never after e
    by (Some true) is e = never after e
    by (Some false) is e = subst (λ a. Marks (n ∷ []) seen a) (some_is (slice_set seen n true) after e) (set_marks n seen is)

pub marks_all : (xs : List ℕ) (seen after : List Bool) → all_marked xs seen ≡ Some after → Marks xs seen after
marks_all [] seen after e = none seen after (some_is seen after e)
marks_all (n ∷ ns) seen after e = option_and_then_some (all_marked ns) (marked n seen) after e (λ middle one other. then (n ∷ []) ns seen middle after (marks_one n seen middle one) (marks_all ns middle after other))

-- ---- known objects

abbrev pub AllMarked : List ℕ → List Bool → Type 0
AllMarked known seen = (k : ℕ) → is_in k known ≡ true → is_marked k seen ≡ true

pub new_there : (xs known : List ℕ) (seen after : List Bool) → Marks xs seen after → AllMarked known seen → AreNew xs known
new_there xs known seen after m all = are_new xs known (λ k e. by k e (is_in k known) refl)
  where
    by : (k : ℕ) → is_in k xs ≡ true → (b : Bool) → is_in k known ≡ b → is_in k known ≡ false
    by k e true is = clash (is_marked k seen) (all k is) (m.free k e)
    by k e false is = is

pub more_known : (xs known : List ℕ) (seen after : List Bool) → Marks xs seen after → AllMarked known seen → AllMarked (xs ++ known) after
more_known xs known seen after m all k e = by (in_one xs known k e)
  where
    by : (is_in k xs ≡ true) ⊎ (is_in k known ≡ true) → is_marked k after ≡ true
    by (inl here) = m.taken k here
    by (inr there) = m.kept k (all k there)

-- ---- statements

-- behind a statement some marks are kept, and its scopes have new objects
record Scoped (i : StatementTree) (known : List ℕ) (seen after : List Bool) : Type 0 where
  kept : AllMarked known after
  new : HasNewObjects known i

record AllScoped (is : StatementTrees) (known : List ℕ) (seen after : List Bool) : Type 0 where
  kept : AllMarked known after
  new : HaveNewObjects known is

still : (known : List ℕ) (seen after : List Bool) → AllMarked known seen → Some seen ≡ Some after → AllMarked known after
still known seen after all e = subst (AllMarked known) (some_is seen after e) all

less_known : (xs known : List ℕ) (seen : List Bool) → AllMarked (xs ++ known) seen → AllMarked known seen
less_known xs known seen all k e = all k (in_second xs known k e)
  where
    in_second : (xs ys : List ℕ) (k : ℕ) → is_in k ys ≡ true → is_in k (xs ++ ys) ≡ true
    in_second [] ys k e = e
    in_second (x ∷ xs) ys k e = right_true (k == x) (is_in k (xs ++ ys)) (in_second xs ys k e)

mutual
  scoped : (i : StatementTree) (known : List ℕ) (seen after : List Bool) → AllMarked known seen → scopes_marked i seen ≡ Some after → Scoped i known seen after
  scoped (tree.Block objects items) known seen after all is = option_and_then_some (all_scopes_marked items) (all_marked objects seen) after is (λ middle one other.
      let m = marks_all objects seen middle one in
      let x = all_scoped items (objects ++ known) middle after (more_known objects known seen middle m all) other in
      record { kept = less_known objects known after x.kept; new = (new_there objects known seen middle m all, x.new) })
  scoped (tree.If e body) known seen after all is = let x = scoped body known seen after all is in record { kept = x.kept; new = x.new }
  scoped (tree.IfElse e first second) known seen after all is = option_and_then_some (scopes_marked second) (scopes_marked first seen) after is (λ middle one other.
      let x = scoped first known seen middle all one in
      let y = scoped second known middle after x.kept other in
      record { kept = y.kept; new = (x.new, y.new) })
  scoped (tree.While e body) known seen after all is = let x = scoped body known seen after all is in record { kept = x.kept; new = x.new }
  scoped (tree.Do body e) known seen after all is = let x = scoped body known seen after all is in record { kept = x.kept; new = x.new }
  scoped (tree.For objects first e step body) known seen after all is = option_and_then_some (scopes_marked body) (option_and_then (all_scopes_marked first) (all_marked objects seen)) after is (λ begun one other.
      option_and_then_some (all_scopes_marked first) (all_marked objects seen) begun one (λ middle zeroth second.
      let m = marks_all objects seen middle zeroth in
      let x = all_scoped first (objects ++ known) middle begun (more_known objects known seen middle m all) second in
      let y = scoped body (objects ++ known) begun after x.kept other in
      record { kept = less_known objects known after y.kept; new = (new_there objects known seen middle m all, x.new, y.new) }))
  scoped (tree.Switch at e labels has_default values body) known seen after all is = let x = scoped body known seen after all is in record { kept = x.kept; new = x.new }
  scoped (tree.Case n body) known seen after all is = let x = scoped body known seen after all is in record { kept = x.kept; new = x.new }
  scoped (tree.Default body) known seen after all is = let x = scoped body known seen after all is in record { kept = x.kept; new = x.new }
  scoped (tree.Label n body) known seen after all is = let x = scoped body known seen after all is in record { kept = x.kept; new = x.new }
  scoped other known seen after all is = record { kept = still known seen after all is; new = tt }

  all_scoped : (is : StatementTrees) (known : List ℕ) (seen after : List Bool) → AllMarked known seen → all_scopes_marked is seen ≡ Some after → AllScoped is known seen after
  all_scoped tree.NoMore known seen after all is = record { kept = still known seen after all is; new = tt }
  all_scoped (tree.And first rest) known seen after all is = option_and_then_some (all_scopes_marked rest) (scopes_marked first seen) after is (λ middle one other.
      let x = scoped first known seen middle all one in
      let y = all_scoped rest known middle after x.kept other in
      record { kept = y.kept; new = (x.new, y.new) })

-- ---- functions

below_first : (first n k : ℕ) → is_in k (numbers_from first n) ≡ true → k < first + n
below_first first zero k e = clash false e refl
below_first first (suc n) k e = by (λ later. below_first (first + 1) n k later) (either_true (k == first) (is_in k (numbers_from (first + 1) n)) e)
  where
    next : k < (first + 1) + n → k < first + suc n
    next less = omega (arith, less)

    here : k ≡ first → k < first + suc n
    here e = omega (arith, e)

    by : (is_in k (numbers_from (first + 1) n) ≡ true → k < (first + 1) + n) → ((k == first) ≡ true) ⊎ (is_in k (numbers_from (first + 1) n) ≡ true) → k < first + suc n
    by further (inl e) = here (eqb-true k first e)
    by further (inr e) = next (further e)

from_zero : (k n : ℕ) → k < 0 + n → k < n
from_zero k n less = omega (arith, less)

parameters_known : (n others : ℕ) → AllMarked (numbers_from 0 n) (so_many_marked n others)
parameters_known n others k e =
    let less : k < n = from_zero k n (below_first 0 n k e) in
    get_or_append_left (replicate n true) (replicate others false) true k (subst (λ m. k < m) (sym (length-replicate n true)) less) ∙ get_or-replicate n k true true less

-- the marks of the outermost block, and those behind all scopes
pub record FunctionMarks (f : FunctionView) : Type 0 where
  pub few : f.parameters ≤ length f.locals
  pub middle : List Bool
  pub after : List Bool
  pub outermost : all_marked f.scope (parameters_marked f) ≡ Some middle
  pub inside : all_scopes_marked (statement_trees f.body) middle ≡ Some after

pub function_marks : (f : FunctionView) → has_own_objects f ≡ true → FunctionMarks f
function_marks f e = let x = both_true (nat_le f.parameters (length f.locals)) (is_some (function_marked f)) e in by (leb-true f.parameters (length f.locals) x.0) (function_marked f) refl x.1
  where
    by : f.parameters ≤ length f.locals → (o : Option (List Bool)) → function_marked f ≡ o → is_some o ≡ true → FunctionMarks f
    by few None is e = clash false e refl
    by few (Some after) is e = option_and_then_some (all_scopes_marked (statement_trees f.body)) (all_marked f.scope (parameters_marked f)) after is (λ middle one other. record { few = few; middle = middle; after = after; outermost = one; inside = other })

pub scopes_own : (f : FunctionView) → has_own_objects f ≡ true → HasOwnScopes f
scopes_own f e =
    let x = function_marks f e in
    let m = marks_all f.scope (parameters_marked f) x.middle x.outermost in
    let known = parameters_known f.parameters (length f.locals - f.parameters) in
    record {
      parameters = x.few;
      scope = new_there f.scope (numbers_from 0 f.parameters) (parameters_marked f) x.middle m known;
      body = (all_scoped (statement_trees f.body) (f.scope ++ numbers_from 0 f.parameters) x.middle x.after (more_known f.scope (numbers_from 0 f.parameters) (parameters_marked f) x.middle m known) x.inside).new;
    }
