-- Steps of typing one after another: what the answer to a step says of the rule of all.
use Rattle.std.proofs.Common.{◌≡◌, ℕ, ◌+◌, ◌-◌, ◌^◌, min, List, [], ◌∷◌, map, Option, Some, None, option_map, slice_get, Result, Ok, Err, refl, ap, subst, sym, ◌∙◌, arith, Bor}
use Rattle.std.specs.Int.{w32, saturate_unsigned}
use Rattle.std.specs.Prelude.{pos}
use Rattle.cc_base.specs.declared.diagnostics.Place.{Place}
use Rattle.cc_base.specs.declared.refusals.Stop.{Stop}
use Rattle.cc_base.specs.declared.refusals.Stop.TheVariants as stop
use Rattle.c_types_scopes.specs.Refusals.{Ruled}
use Rattle.c_types_scopes.specs.Answers.{Gives, Leads, after, kept}
use Rattle.c_types_scopes.specs.States.{State}
use Rattle.c_layout.specs.SyntaxTrees.{Tree, Trees, tree_of, trees}
use Rattle.c_layout.specs.declared.syntax_tree.expressions.Expr.{Expr}
use Rattle.c_types_primary.specs.Calls.{call}
use Rattle.c_types_primary.specs.declared.calls.Callee.{Callee}
use Rattle.c_types_expressions.specs.Expressions.Leaves.{noted_callee, first_tree}
use Rattle.c_layout.specs.SyntaxTrees as syntax
use Rattle.c_types_operands.specs.Operands.{OperandView}
use Rattle.c_types_operators.specs.SizesAndCasts.{size_of_operand}
use Rattle.c_types_expressions.specs.Expressions.Expressions as spec

-- a rule that changes nothing
pub led : {A V S : Type 0} (view : A → V) (rule : Ruled V) (result : Result A Stop) (s : S) → Gives view rule result → Leads view (kept s rule) result s
led view rule (Ok a) s h = ap (kept s) h
led view rule (Err (stop.Refused f)) s h = ap (kept s) h
led view rule (Err stop.Memory) s h = tt
led view rule (Err stop.NotHeld) s h = h
led view rule (Err stop.ReadFault) s h = h

-- the answer to an equal rule
pub as_well : {A V S : Type 0} (view : A → V) (rule other : Ruled (V × S)) (result : Result A Stop) (s : S) → other ≡ rule → Leads view rule result s → Leads view other result s
as_well view rule other result s same h = subst (λ r. Leads view r result s) (sym same) h

-- ---- `sizeof` of an expression

one_up : (n : ℕ) → min (n + 1) (2 ^ 32 - 1) ≡ saturate_unsigned w32 (pos (n + 1))
one_up n = omega arith

pub entered : (s : State) (n : ℕ) → n ≡ min (s.unevaluated + 1) (2 ^ 32 - 1) → spec.inside s ≡ record s { unevaluated = n }
entered s n h = ap (λ (m : ℕ). record s { unevaluated = m }) (sym (h ∙ one_up s.unevaluated))

pub operand_sized : {A : Type 0} (view : A → OperandView) (s now then : State) (at : Place) (e : Tree) (x : OperandView) (result : Result A Stop)
    → spec.inside s ≡ now → spec.typed now e ≡ Ok (x, then) → Gives view (size_of_operand then.known at x) result
    → Leads view (spec.typed s (syntax.SizeofExpr at e)) result (spec.outside s then)
operand_sized view s now then at e x result inside typed gives =
    as_well view (kept (spec.outside s then) (size_of_operand then.known at x)) (spec.typed s (syntax.SizeofExpr at e)) result (spec.outside s then)
    (ap (λ u. after (spec.typed u e) (λ y t. kept (spec.outside s t) (size_of_operand t.known at y))) inside
    ∙ ap (λ r. after r (λ y t. kept (spec.outside s t) (size_of_operand t.known at y))) typed)
    (led view (size_of_operand then.known at x) result (spec.outside s then) gives)

-- ---- calls

named_first : (r : Option (Bor Expr)) → option_map (λ (e : Bor Expr). tree_of e.now) r ≡ option_map tree_of (option_map (λ (e : Bor Expr). e.now) r)
named_first None = refl
named_first (Some e) = refl

first_of : (es : List Expr) → option_map tree_of (slice_get es 0) ≡ first_tree (trees (map tree_of es))
first_of [] = refl
first_of (e ∷ es) = refl

pub first_is : (r : Option (Bor Expr)) (es : List Expr) → option_map (λ (e : Bor Expr). e.now) r ≡ slice_get es 0 → option_map (λ (e : Bor Expr). tree_of e.now) r ≡ first_tree (trees (map tree_of es))
first_is r es h = named_first r ∙ ap (option_map tree_of) h ∙ first_of es

pub call_ruled : {A : Type 0} (view : A → OperandView) (s s1 s2 : State) (at : Place) (text : List ℕ) (es : Trees) (k : Callee) (xs : List OperandView) (format : Option Tree) (result : Result A Stop)
    → noted_callee s at text ≡ Ok (k, s1) → spec.operands s1 es ≡ Ok (xs, s2) → format ≡ first_tree es
    → Gives view (call s2 at k format xs) result → Leads view (spec.typed s (syntax.Call at text es)) result s2
call_ruled view s s1 s2 at text es k xs format result noted operands first gives =
    as_well view (kept s2 (call s2 at k format xs)) (spec.typed s (syntax.Call at text es)) result s2
    (ap (λ r. after r (λ callee t1. after (spec.operands t1 es) (λ ys t. kept t (call t at callee (first_tree es) ys)))) noted
    ∙ ap (λ r. after r (λ ys t. kept t (call t at k (first_tree es) ys))) operands
    ∙ ap (λ f. kept s2 (call s2 at k f xs)) (sym first))
    (led view (call s2 at k format xs) result s2 gives)
