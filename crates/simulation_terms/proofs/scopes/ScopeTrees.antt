-- The scopes of statements stand in the tree of their function's scopes.
use Rattle.std.proofs.Common.{◌≡◌, ◌<◌, ℕ, suc, ◌+◌, List, [], ◌∷◌, ◌++◌, length, get_or, refl, arith, ap, sym, subst, ◌∙◌, append_assoc, length-append}
use Rattle.std.proofs.lemmas.List.{append-nil}
use Rattle.std.proofs.Math.Seq.{get_or-append_seam}
use Rattle.c_layout.specs.CheckedTrees as tree
use Rattle.c_layout.specs.CheckedTrees.{StatementTree, StatementTrees, statement_trees}
use Rattle.c_layout.specs.CheckedUnits.{FunctionView}
use Rattle.lower_templates.specs.Worklist.Scopes.{ScopeView, TreeView, no_scope, with_new_scope, with_choice, with_case, with_default, with_label, scoped, all_scoped, no_scopes, function_scopes}
use Rattle.lower_templates.specs.Worklist.Settings.{SettingView}
use Rattle.simulation_terms.specs.Scopes.Scopes.{scopes_in, all_scopes_in, IsScope, HasScopes, AllHaveScopes}

-- ---- scopes are only added

pub record More (count : ℕ) (t u : TreeView) : Type 0 where
  pub more : List ScopeView
  pub is : u.scopes ≡ t.scopes ++ more
  pub many : length more ≡ count

none_more : (t u : TreeView) → u.scopes ≡ t.scopes → More 0 t u
none_more t u e = record { more = []; is = e ∙ sym (append-nil t.scopes); many = refl }

on_more : (a b : ℕ) (t u v : TreeView) → More a t u → More b u v → More (a + b) t v
on_more a b t u v x y = record {
  more = x.more ++ y.more;
  is = y.is ∙ ap (λ xs. xs ++ y.more) x.is ∙ append_assoc t.scopes x.more y.more;
  many = length-append x.more y.more ∙ ap (λ k. k + length y.more) x.many ∙ ap (λ k. a + k) y.many;
}

as_many : (a b : ℕ) (t u : TreeView) → a ≡ b → More a t u → More b t u
as_many a b t u e x = subst (λ k. More k t u) e x

one_more : (around : ℕ) (objects : List ℕ) (t : TreeView) → More 1 t (with_new_scope around objects t)
unfolding with_new_scope
one_more around objects t = record { more = record { around = around; objects = objects } ∷ []; is = refl; many = refl }

choice_more : (count : ℕ) (t : TreeView) → (with_choice count t).scopes ≡ t.scopes
unfolding with_choice
choice_more count t = refl

case_more : (c n k : ℕ) (t : TreeView) → (with_case c n k t).scopes ≡ t.scopes
unfolding with_case
case_more c n k t = refl

default_more : (c k : ℕ) (t : TreeView) → (with_default c k t).scopes ≡ t.scopes
unfolding with_default
default_more c k t = refl

label_more : (n k : ℕ) (t : TreeView) → (with_label n k t).scopes ≡ t.scopes
unfolding with_label
label_more n k t = refl

from_same : (count : ℕ) (t u v : TreeView) → u.scopes ≡ t.scopes → More count u v → More count t v
from_same count t u v e x = record { more = x.more; is = x.is ∙ ap (λ xs. xs ++ x.more) e; many = x.many }

one_and : (a : ℕ) → 1 + a ≡ suc a
one_and a = omega arith

one_and_both : (a b : ℕ) → (1 + a) + b ≡ suc (a + b)
one_and_both a b = omega arith

mutual
  pub scoped_more : (i : StatementTree) (k c : ℕ) (t : TreeView) → More (scopes_in i) t (scoped i k c t)
  scoped_more (tree.Value e) k c t = none_more t t refl
  scoped_more tree.Nothing k c t = none_more t t refl
  scoped_more (tree.Forget at local) k c t = none_more t t refl
  scoped_more (tree.Start at local e) k c t = none_more t t refl
  scoped_more (tree.StartCopy at local l) k c t = none_more t t refl
  scoped_more (tree.StartList at local stores) k c t = none_more t t refl
  scoped_more (tree.Block objects items) k c t =
      as_many (1 + all_scopes_in items) (suc (all_scopes_in items)) t (scoped (tree.Block objects items) k c t) (one_and (all_scopes_in items))
      (on_more 1 (all_scopes_in items) t (with_new_scope k objects t) (scoped (tree.Block objects items) k c t) (one_more k objects t) (all_more items (length t.scopes) c (with_new_scope k objects t)))
  scoped_more (tree.If e body) k c t = scoped_more body k c t
  scoped_more (tree.IfElse e first second) k c t = on_more (scopes_in first) (scopes_in second) t (scoped first k c t) (scoped second k c (scoped first k c t)) (scoped_more first k c t) (scoped_more second k c (scoped first k c t))
  scoped_more (tree.While e body) k c t = scoped_more body k c t
  scoped_more (tree.Do body e) k c t = scoped_more body k c t
  scoped_more (tree.For objects first e step body) k c t =
      let inside = with_new_scope k objects t in
      let begun = all_scoped first (length t.scopes) c inside in
      as_many ((1 + all_scopes_in first) + scopes_in body) (suc (all_scopes_in first + scopes_in body)) t (scoped (tree.For objects first e step body) k c t) (one_and_both (all_scopes_in first) (scopes_in body))
      (on_more (1 + all_scopes_in first) (scopes_in body) t begun (scoped (tree.For objects first e step body) k c t) (on_more 1 (all_scopes_in first) t inside begun (one_more k objects t) (all_more first (length t.scopes) c inside)) (scoped_more body (length t.scopes) c begun))
  scoped_more (tree.Switch at e labels has_default values body) k c t = from_same (scopes_in body) t (with_choice (length labels) t) (scoped body k (length t.choices) (with_choice (length labels) t)) (choice_more (length labels) t) (scoped_more body k (length t.choices) (with_choice (length labels) t))
  scoped_more (tree.Case n body) k c t = from_same (scopes_in body) t (with_case c n k t) (scoped body k c (with_case c n k t)) (case_more c n k t) (scoped_more body k c (with_case c n k t))
  scoped_more (tree.Default body) k c t = from_same (scopes_in body) t (with_default c k t) (scoped body k c (with_default c k t)) (default_more c k t) (scoped_more body k c (with_default c k t))
  scoped_more (tree.Label n body) k c t = from_same (scopes_in body) t (with_label n k t) (scoped body k c (with_label n k t)) (label_more n k t) (scoped_more body k c (with_label n k t))
  scoped_more (tree.Goto n) k c t = none_more t t refl
  scoped_more tree.Break k c t = none_more t t refl
  scoped_more tree.Continue k c t = none_more t t refl
  scoped_more (tree.Return at e) k c t = none_more t t refl

  pub all_more : (items : StatementTrees) (k c : ℕ) (t : TreeView) → More (all_scopes_in items) t (all_scoped items k c t)
  all_more tree.NoMore k c t = none_more t t refl
  all_more (tree.And first rest) k c t = on_more (scopes_in first) (all_scopes_in rest) t (scoped first k c t) (all_scoped rest k c (scoped first k c t)) (scoped_more first k c t) (all_more rest k c (scoped first k c t))

-- ---- and stand where they were added

-- the scopes of a setting begin with those of a tree
record Begins (s : SettingView) (t : TreeView) : Type 0 where
  rest : List ScopeView
  all : s.scopes.scopes ≡ t.scopes ++ rest

begins_before : (s : SettingView) (count : ℕ) (t u : TreeView) → More count t u → Begins s u → Begins s t
begins_before s count t u x b = record { rest = x.more ++ b.rest; all = b.all ∙ ap (λ xs. xs ++ b.rest) x.is ∙ append_assoc t.scopes x.more b.rest }

new_scope : (s : SettingView) (k : ℕ) (objects : List ℕ) (t : TreeView) → k < length t.scopes → Begins s (with_new_scope k objects t) → IsScope s (length t.scopes) k objects
unfolding with_new_scope
new_scope s k objects t less b =
    let x : ScopeView = record { around = k; objects = objects } in
    let all = b.all ∙ append_assoc t.scopes (x ∷ []) b.rest in
    let here : get_or s.scopes.scopes (length t.scopes) no_scope ≡ x = ap (λ xs. get_or xs (length t.scopes) no_scope) all ∙ get_or-append_seam t.scopes x b.rest no_scope in
    record { there = within (length t.scopes) (length b.rest) (length s.scopes.scopes) (ap (λ xs. length xs) all ∙ length-append t.scopes (x ∷ b.rest)); inside = ap (λ (y : ScopeView). y.around) here; holds = ap (λ (y : ScopeView). y.objects) here; later = less }
  where
    within : (a b c : ℕ) → c ≡ a + suc b → a < c
    within a b c e = omega (arith, e)

pub length_new : (k : ℕ) (objects : List ℕ) (t : TreeView) → length (with_new_scope k objects t).scopes ≡ suc (length t.scopes)
length_new k objects t = let x = one_more k objects t in ap (λ xs. length xs) x.is ∙ length-append t.scopes x.more ∙ ap (λ n. length t.scopes + n) x.many ∙ plus_one (length t.scopes)
  where
    plus_one : (a : ℕ) → a + 1 ≡ suc a
    plus_one a = omega arith

pub length_more : (count : ℕ) (t u : TreeView) → More count t u → length u.scopes ≡ length t.scopes + count
length_more count t u x = ap (λ xs. length xs) x.is ∙ length-append t.scopes x.more ∙ ap (λ n. length t.scopes + n) x.many

still : (a b count c : ℕ) → a < b → c ≡ b + count → a < c
still a b count c less e = omega (arith, less, e)

just_below : (a b : ℕ) → b ≡ suc a → a < b
just_below a b e = omega (arith, e)

module _ (s : SettingView) where
  mutual
    has : (i : StatementTree) (k c : ℕ) (t : TreeView) → k < length t.scopes → Begins s (scoped i k c t) → HasScopes s i k (length t.scopes)
    has (tree.Value e) k c t less b = tt
    has tree.Nothing k c t less b = tt
    has (tree.Forget at local) k c t less b = tt
    has (tree.Start at local e) k c t less b = tt
    has (tree.StartCopy at local l) k c t less b = tt
    has (tree.StartList at local stores) k c t less b = tt
    has (tree.Block objects items) k c t less b =
        let n = length t.scopes in
        let inside = with_new_scope k objects t in (
          new_scope s k objects t less (begins_before s (all_scopes_in items) inside (scoped (tree.Block objects items) k c t) (all_more items n c inside) b),
          subst (λ m. AllHaveScopes s items n m) (length_new k objects t) (all_have items n c inside (just_below n (length inside.scopes) (length_new k objects t)) b),
        )
    has (tree.If e body) k c t less b = has body k c t less b
    has (tree.IfElse e first second) k c t less b =
        let u = scoped first k c t in
        let x = scoped_more first k c t in (
          has first k c t less (begins_before s (scopes_in second) u (scoped second k c u) (scoped_more second k c u) b),
          subst (λ m. HasScopes s second k m) (length_more (scopes_in first) t u x) (has second k c u (still k (length t.scopes) (scopes_in first) (length u.scopes) less (length_more (scopes_in first) t u x)) b),
        )
    has (tree.While e body) k c t less b = has body k c t less b
    has (tree.Do body e) k c t less b = has body k c t less b
    has (tree.For objects first e step body) k c t less b =
        let n = length t.scopes in
        let inside = with_new_scope k objects t in
        let begun = all_scoped first n c inside in
        let x = all_more first n c inside in
        let b1 = begins_before s (scopes_in body) begun (scoped body n c begun) (scoped_more body n c begun) b in
        let long = length_more (all_scopes_in first) inside begun x ∙ ap (λ m. m + all_scopes_in first) (length_new k objects t) in (
          new_scope s k objects t less (begins_before s (all_scopes_in first) inside begun x b1),
          subst (λ m. AllHaveScopes s first n m) (length_new k objects t) (all_have first n c inside (just_below n (length inside.scopes) (length_new k objects t)) b1),
          subst (λ m. HasScopes s body n m) long (has body n c begun (still n (length inside.scopes) (all_scopes_in first) (length begun.scopes) (just_below n (length inside.scopes) (length_new k objects t)) (length_more (all_scopes_in first) inside begun x)) b),
        )
    has (tree.Switch at e labels has_default values body) k c t less b =
        let u = with_choice (length labels) t in
        let same = ap (λ xs. length xs) (choice_more (length labels) t) in
        subst (λ m. HasScopes s body k m) same (has body k (length t.choices) u (subst (λ m. k < m) (sym same) less) b)
    has (tree.Case n body) k c t less b =
        let same = ap (λ xs. length xs) (case_more c n k t) in
        subst (λ m. HasScopes s body k m) same (has body k c (with_case c n k t) (subst (λ m. k < m) (sym same) less) b)
    has (tree.Default body) k c t less b =
        let same = ap (λ xs. length xs) (default_more c k t) in
        subst (λ m. HasScopes s body k m) same (has body k c (with_default c k t) (subst (λ m. k < m) (sym same) less) b)
    has (tree.Label n body) k c t less b =
        let same = ap (λ xs. length xs) (label_more n k t) in
        subst (λ m. HasScopes s body k m) same (has body k c (with_label n k t) (subst (λ m. k < m) (sym same) less) b)
    has (tree.Goto n) k c t less b = tt
    has tree.Break k c t less b = tt
    has tree.Continue k c t less b = tt
    has (tree.Return at e) k c t less b = tt

    all_have : (items : StatementTrees) (k c : ℕ) (t : TreeView) → k < length t.scopes → Begins s (all_scoped items k c t) → AllHaveScopes s items k (length t.scopes)
    all_have tree.NoMore k c t less b = tt
    all_have (tree.And first rest) k c t less b =
        let u = scoped first k c t in
        let x = scoped_more first k c t in (
          has first k c t less (begins_before s (all_scopes_in rest) u (all_scoped rest k c u) (all_more rest k c u) b),
          subst (λ m. AllHaveScopes s rest k m) (length_more (scopes_in first) t u x) (all_have rest k c u (still k (length t.scopes) (scopes_in first) (length u.scopes) less (length_more (scopes_in first) t u x)) b),
        )

  -- ---- the scopes of a function

  pub record OfFunction (f : FunctionView) : Type 0 where
    pub outermost : IsScope s 1 0 f.scope
    pub body : AllHaveScopes s (statement_trees f.body) 1 2

  pub of_function : (f : FunctionView) → s.scopes ≡ function_scopes f → OfFunction f
  of_function f e =
      let start = no_scopes f.labels in
      let outer = with_new_scope 0 [] start in
      let inner = with_new_scope 0 f.scope outer in
      let body = statement_trees f.body in
      let all : Begins s (all_scoped body 1 0 inner) = record { rest = []; all = ap (λ (x : TreeView). x.scopes) e ∙ sym (append-nil (function_scopes f).scopes) } in
      let one : length outer.scopes ≡ 1 = length_new 0 [] start in
      let two : length inner.scopes ≡ 2 = length_new 0 f.scope outer ∙ ap (λ n. suc n) one in
      let before = begins_before s (all_scopes_in body) inner (all_scoped body 1 0 inner) (all_more body 1 0 inner) all in
      record {
        outermost = subst (λ n. IsScope s n 0 f.scope) one (new_scope s 0 f.scope outer (just_below 0 (length outer.scopes) one) before);
        body = subst (λ m. AllHaveScopes s body 1 m) two (all_have body 1 0 inner (just_below 1 (length inner.scopes) two) all);
      }
