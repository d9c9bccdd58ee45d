-- Expressions keep what typing knows, and those that are evaluated are made.
use Rattle.std.proofs.Common.{◌≡◌, ℕ, List, Option, Some, None, Ok, Err, refl, ap, subst, sym, ◌∙◌}
use Rattle.std.specs.Prelude.{true, is_some}
use Rattle.cc_base.specs.declared.diagnostics.Place.{Place}
use Rattle.c_layout.specs.CheckedUnits.{UnitView}
use Rattle.c_layout.specs.SyntaxTrees as syntax
use Rattle.c_layout.specs.SyntaxTrees.{Tree, Trees, TypeNameView}
use Rattle.c_layout.specs.declared.checked_tree.checked_terms.StepTime.TheVariants as time
use Rattle.c_layout.specs.declared.data_model.Model.{Model}
use Rattle.c_types_scopes.specs.Answers.{after, kept}
use Rattle.c_types_scopes.specs.Refusals.{Ruled}
use Rattle.c_types_scopes.specs.States.{State, is_evaluated}
use Rattle.c_types_operands.specs.Comparisons.{binary}
use Rattle.c_types_operands.specs.Indirections.{indirection, subscript}
use Rattle.c_types_operands.specs.Operands.{OperandView, term_of}
use Rattle.c_types_operators.specs.Assignments.{assignment}
use Rattle.c_types_operators.specs.Choices.{logical, conditional, comma}
use Rattle.c_types_operators.specs.SizesAndCasts.{size_of_operand, size_of_type, cast}
use Rattle.c_types_operators.specs.UnaryOperators.{unary, step}
use Rattle.c_types_primary.specs.Calls.{call, literal_bytes, noted, noted_call, number_of_function}
use Rattle.c_types_primary.specs.Members.{member, arrow}
use Rattle.c_types_primary.specs.TypeNames as names
use Rattle.c_types_primary.specs.declared.calls.Callee.{Callee}
use Rattle.c_types_primary.specs.declared.calls.Callee.TheVariants as callee
use Rattle.c_types_expressions.specs.Expressions.Expressions as spec
use Rattle.c_types_expressions.specs.Expressions.Leaves.{named, callee_of, noted_callee, first_tree}
use Rattle.c_types_scopes.specs.Known.{size_of}
use Rattle.c_types_primary.specs.Primaries as primaries
use Rattle.c_types_well_formed.specs.WellFormed.KnownTypes.{HasTypes}
use Rattle.c_types_well_formed.specs.WellFormed.MadeLaws.{OperatorsMakeFor, OperatorsMake, ValuesAreMade, ConversionsGive}
use Rattle.c_types_well_formed.specs.WellFormed.MadeTerms.{IsMadeOperand, Makes}
use Rattle.c_types_well_formed.specs.WellFormed.ProperTrees.{IsProperConstant, IsProperLiteral, IsProperTree, AreProperTrees}
use Rattle.c_types_well_formed.specs.WellFormed.TypingLaws.{Keeps, LeadsOn, MakesOperand, ExpressionsKeep}
use Rattle.c_types_well_formed.specs.WellFormed.UnitParts.{IsPartOf}
use Rattle.c_types_well_formed.specs.WellFormed.ModelTypes.{IsTypeOf}
use Rattle.c_types_well_formed.specs.Terms.TermLaws.{RulesMakeExpressions, LengthsKeep}
use Rattle.c_types_well_formed.proofs.terms.Arguments.{AreMade}
use Rattle.c_types_well_formed.proofs.terms.Calls.{IsText, text_wrapped, IsSpelled, call_made}
use Rattle.c_types_well_formed.proofs.terms.Primaries.{name_made, constant_made, literal_made, literal_step, member_made, arrow_made}
use Rattle.c_types_well_formed.proofs.terms.Steps.{IsAt, keeps_same, keeps_twice, at_later, evaluated_still, ground, then, weaker, Holds, constant_keeps, called_keeps}
use Rattle.c_types_well_formed.proofs.terms.TypeNames.{Anything, type_name_on}

-- ---- literals in parentheses

abbrev IsTextOf : Tree → OperandView × State → Type 0
IsTextOf e p = (bytes : List ℕ) → literal_bytes e ≡ Some bytes → IsText p.0.form

hold_all : {V : Type 0} (P : V → Type 0) (r : Ruled V) → ((v : V) → P v) → Holds P r
hold_all P (Ok v) h = h v
hold_all P (Err f) h = tt

enclosed_text : (at : Place) (e : Tree) (r : Ruled (OperandView × State)) → Holds (IsTextOf e) r → Holds (IsTextOf (syntax.Paren at e)) (after r spec.enclosed)
enclosed_text at e (Ok p) h = λ bytes is. text_wrapped p.0.form (h bytes is)
enclosed_text at e (Err f) h = tt

not_spelled : (e : Tree) (s : State) → ((bytes : List ℕ) → literal_bytes e ≡ Some bytes → ⊥) → Holds (IsTextOf e) (spec.typed s e)
not_spelled e s h = hold_all (IsTextOf e) (spec.typed s e) (λ p bytes is. absurd (h bytes is))

literal_text : (at : Place) (bytes : List ℕ) (s : State) (size : Option ℕ) → Holds (IsTextOf (syntax.Literal at bytes)) (primaries.literal_of_size s at bytes size)
literal_text at bytes s None = tt
literal_text at bytes s (Some size) = λ more is. tt

text_on : (e : Tree) (s : State) → Holds (IsTextOf e) (spec.typed s e)
text_on (syntax.Literal at bytes) s = literal_text at bytes s (size_of s.known (primaries.literal_type s.known bytes))
text_on (syntax.Paren at e) s = enclosed_text at e (spec.typed s e) (text_on e s)
text_on (syntax.Name at text) s = not_spelled (syntax.Name at text) s (λ bytes is. cc)
text_on (syntax.Number at c) s = not_spelled (syntax.Number at c) s (λ bytes is. cc)
text_on (syntax.Subscript at a b) s = not_spelled (syntax.Subscript at a b) s (λ bytes is. cc)
text_on (syntax.Call at name es) s = not_spelled (syntax.Call at name es) s (λ bytes is. cc)
text_on (syntax.Member at e name) s = not_spelled (syntax.Member at e name) s (λ bytes is. cc)
text_on (syntax.Arrow at e name) s = not_spelled (syntax.Arrow at e name) s (λ bytes is. cc)
text_on (syntax.Postfix at op e) s = not_spelled (syntax.Postfix at op e) s (λ bytes is. cc)
text_on (syntax.Prefix at op e) s = not_spelled (syntax.Prefix at op e) s (λ bytes is. cc)
text_on (syntax.Unary at op e) s = not_spelled (syntax.Unary at op e) s (λ bytes is. cc)
text_on (syntax.SizeofExpr at e) s = not_spelled (syntax.SizeofExpr at e) s (λ bytes is. cc)
text_on (syntax.SizeofType at n es) s = not_spelled (syntax.SizeofType at n es) s (λ bytes is. cc)
text_on (syntax.Cast at n es e) s = not_spelled (syntax.Cast at n es e) s (λ bytes is. cc)
text_on (syntax.Binary at op a b) s = not_spelled (syntax.Binary at op a b) s (λ bytes is. cc)
text_on (syntax.Logical at op a b) s = not_spelled (syntax.Logical at op a b) s (λ bytes is. cc)
text_on (syntax.Conditional at a b c) s = not_spelled (syntax.Conditional at a b c) s (λ bytes is. cc)
text_on (syntax.Assign at op a b) s = not_spelled (syntax.Assign at op a b) s (λ bytes is. cc)
text_on (syntax.Comma at a b) s = not_spelled (syntax.Comma at a b) s (λ bytes is. cc)

-- ---- under `sizeof`

inside_types : (s : State) → HasTypes s → HasTypes (spec.inside s)
inside_types s h = record { proper = h.proper; objects = h.objects; locals = h.locals; statics = h.statics; typedefs = h.typedefs; literals = h.literals; stores = h.stores; results = h.results; parameters = h.parameters; fields = h.fields; meanings = h.meanings }

outside_types : (s t : State) → HasTypes t → HasTypes (spec.outside s t)
outside_types s t h = record { proper = h.proper; objects = h.objects; locals = h.locals; statics = h.statics; typedefs = h.typedefs; literals = h.literals; stores = h.stores; results = h.results; parameters = h.parameters; fields = h.fields; meanings = h.meanings }

part_outside : (s t : State) (u : UnitView) → IsPartOf (spec.outside s t) u → IsPartOf t u
part_outside s t u p = record { model = p.model; objects = p.objects; literals = p.literals; functions = p.functions }

part_inside : (s : State) (u : UnitView) → IsPartOf (spec.inside s) u → IsPartOf s u
part_inside s u p = record { model = p.model; objects = p.objects; literals = p.literals; functions = p.functions }

keeps_outside : (s t : State) → Keeps (spec.inside s) t → Keeps s (spec.outside s t)
keeps_outside s t k = record { model = k.model; unevaluated = refl; types = outside_types s t k.types; parts = λ u p. part_inside s u (k.parts u (part_outside s t u p)) }

-- ---- calls are noted

noted_call_keeps : (s : State) (at : Place) (n : Option ℕ) → HasTypes s → Keeps s (noted_call s at n)
noted_call_keeps s at None h = keeps_same s h
noted_call_keeps s at (Some n) h = called_keeps s n at h

noted_keeps : (s : State) (at : Place) (c : Callee) → HasTypes s → Keeps s (noted s at c)
noted_keeps s at (callee.Own declared) h = noted_call_keeps s at (number_of_function s.functions declared) h
noted_keeps s at (callee.Library f) h = keeps_same s h
noted_keeps s at callee.Other h = keeps_same s h
noted_keeps s at callee.Unknown h = keeps_same s h

callee_on : (s : State) (at : Place) (text : List ℕ) → HasTypes s → LeadsOn s Anything (noted_callee s at text)
unfolding noted_callee
callee_on s at text h = (noted_keeps s at (callee_of s text) h, tt)

name_on : (s : State) (u : UnitView) (at : Place) (text : List ℕ) → HasTypes s → is_evaluated s ≡ true → IsPartOf s u → Makes u (named s at text)
unfolding named
name_on s u at text h ev p = name_made s u at text h ev p

-- what else a step gives
held : {V : Type 0} (s : State) (P : V → State → Type 0) (Q : V × State → Type 0) (r : Ruled (V × State)) → LeadsOn s P r → Holds Q r → LeadsOn s (λ v t. P v t × Q (v, t)) r
held s P Q (Ok p) g h = (g.0, (g.1, h))
held s P Q (Err f) g h = tt

-- ---- the way down; that rules make what is made is known or not

module _ (E : Type 0) (operators : E → OperatorsMake) (values : E → ValuesAreMade) (conversions : E → ConversionsGive) where
  abbrev Runs : State → Type 0
  Runs s = E × (is_evaluated s ≡ true)

  -- an operand that is made if it is evaluated
  abbrev Is : State → OperandView → State → Type 0
  Is s o t = Runs s → MakesOperand o t

  laws : (t : State) (u : UnitView) → E → HasTypes t → IsPartOf t u → OperatorsMakeFor u t.known
  laws t u e h p = operators e u t.known (ground t u h p)

  rule : (s t : State) (r : Ruled OperandView) → HasTypes t → (Runs s → (u : UnitView) → IsPartOf t u → Makes u r) → LeadsOn t (Is s) (kept t r)
  rule s t (Ok o) h made = (keeps_same t h, made)
  rule s t (Err f) h made = tt

  abbrev Law1 : (State → OperandView → Ruled OperandView) → Type 0
  Law1 f = (t : State) (u : UnitView) → E → HasTypes t → IsPartOf t u → (x : OperandView) → IsMadeOperand u x → Makes u (f t x)

  abbrev Law2 : (State → OperandView → OperandView → Ruled OperandView) → Type 0
  Law2 f = (t : State) (u : UnitView) → E → HasTypes t → IsPartOf t u → (x y : OperandView) → IsMadeOperand u x → IsMadeOperand u y → Makes u (f t x y)

  one : (s : State) (r : Ruled (OperandView × State)) (f : State → OperandView → Ruled OperandView) → Law1 f → LeadsOn s (Is s) r → LeadsOn s (Is s) (after r (λ x t. kept t (f t x)))
  one s r f law a = then s (Is s) (Is s) r (λ x t. kept t (f t x)) a (λ x t k made. rule s t (f t x) k.types (λ run u p. law t u run.0 k.types p x (made run u p)))

  still : (s t : State) → Keeps s t → Runs s → Runs t
  still s t k run = (run.0, evaluated_still s t k run.1)

  two : (s : State) (r : Ruled (OperandView × State)) (second : State → Ruled (OperandView × State)) (f : State → OperandView → OperandView → Ruled OperandView) → Law2 f → LeadsOn s (Is s) r → ((s1 : State) → Keeps s s1 → LeadsOn s1 (Is s1) (second s1)) → LeadsOn s (Is s) (after r (λ x s1. after (second s1) (λ y t. kept t (f t x y))))
  two s r second f law a b =
      then s (Is s) (Is s) r (λ x s1. after (second s1) (λ y t. kept t (f t x y))) a (λ x s1 k made.
      then s1 (Is s1) (Is s) (second s1) (λ y t. kept t (f t x y)) (b s1 k) (λ y t k1 made1.
      rule s t (f t x y) k1.types (λ run u p. law t u run.0 k1.types p x y (made run u (k1.parts u p)) (made1 (still s s1 k run) u p))))

  sized : (s t : State) (r : Ruled OperandView) → Keeps s (spec.outside s t) → (E → (u : UnitView) → IsPartOf (spec.outside s t) u → Makes u r) → LeadsOn s (Is s) (kept (spec.outside s t) r)
  sized s t (Ok o) k made = (k, λ run u p. made run.0 u p)
  sized s t (Err f) k made = tt

  sizeof_on : (s : State) (at : Place) (P : OperandView → State → Type 0) (r : Ruled (OperandView × State)) → LeadsOn (spec.inside s) P r → LeadsOn s (Is s) (after r (λ x t. kept (spec.outside s t) (size_of_operand t.known at x)))
  sizeof_on s at P (Ok p) h = sized s p.1 (size_of_operand p.1.known at p.0) (keeps_outside s p.1 h.0) (λ e u part. (laws p.1 u e h.0.types (part_outside s p.1 u part)).size_of_operand at p.0)
  sizeof_on s at P (Err f) h = tt

  abbrev AreOf : State → Trees → List OperandView → State → Type 0
  AreOf s es xs t = (Runs s → (u : UnitView) → IsPartOf t u → AreMade u xs) × IsSpelled (first_tree es) xs

  length_by : (s : State) (e : Tree) → LeadsOn s (Is s) (spec.typed s e) → LeadsOn s Anything (spec.length s e)
  length_by s e h = then s (Is s) Anything (spec.typed s e) spec.counted h (λ x t k made. (constant_keeps t (term_of x) k.types, tt))

  type_named_by : (m : Model) (s : State) (at : Place) (n : TypeNameView) (es : Trees) → IsAt m s → LeadsOn s Anything (spec.lengths s es) → LeadsOn s (λ t v. IsTypeOf m t) (spec.type_named s at n es)
  type_named_by m s at n es a h = then s Anything (λ t v. IsTypeOf m t) (spec.lengths s es) (λ ns s1. names.named_type s1 at n ns) h (λ ns s1 k any. type_name_on m s1 at n ns (at_later m s s1 a k))

  literal_on : (s : State) (at : Place) (bytes : List ℕ) → HasTypes s → IsProperLiteral bytes → (size : Option ℕ) → size_of s.known (primaries.literal_type s.known bytes) ≡ size → LeadsOn s (Is s) (primaries.literal_of_size s at bytes size)
  literal_on s at bytes types plain None is = tt
  literal_on s at bytes types plain (Some size) is = (literal_step s at bytes types plain (ap is_some is), λ run u p. literal_made s at bytes u types run.1 p)

  mutual
    expression : (m : Model) (s : State) (e : Tree) → IsAt m s → IsProperTree m e → LeadsOn s (Is s) (spec.typed s e)
    expression m s (syntax.Name at text) a proper = rule s s (named s at text) a.types (λ run u p. name_on s u at text a.types run.1 p)
    expression m s (syntax.Number at c) a proper = (keeps_same s a.types, λ run u p. constant_made s u at c p (subst (λ x. IsProperConstant x c) (sym a.same) proper))
    expression m s (syntax.Literal at bytes) a proper = literal_on s at bytes a.types proper (size_of s.known (primaries.literal_type s.known bytes)) refl
    expression m s (syntax.Paren at e) a proper = then s (Is s) (Is s) (spec.typed s e) spec.enclosed (expression m s e a proper) (λ x t k made. (keeps_same t k.types, λ run u p. (laws t u run.0 k.types p).parenthesized x (made run u p)))
    expression m s (syntax.Subscript at i j) a proper = two s (spec.typed s i) (λ s1. spec.typed s1 j) (λ t x y. subscript t.known at x y) (λ t u e h p x y. (laws t u e h p).subscript at x y) (expression m s i a proper.0) (λ s1 k. expression m s1 j (at_later m s s1 a k) proper.1)
    expression m s (syntax.Call at name es) a proper =
        then s Anything (Is s) (noted_callee s at name) (λ c s1. after (spec.operands s1 es) (λ xs t. kept t (call t at c (first_tree es) xs))) (callee_on s at name a.types) (λ c s1 k any.
        then s1 (AreOf s1 es) (Is s) (spec.operands s1 es) (λ xs t. kept t (call t at c (first_tree es) xs)) (arguments m s1 es (at_later m s s1 a k) proper) (λ xs t k1 made.
        rule s t (call t at c (first_tree es) xs) k1.types (λ run u p. call_made t u k1.types (evaluated_still s t (keeps_twice s s1 t k k1) run.1) p (values run.0) (conversions run.0) at c (first_tree es) xs (made.0 (still s s1 k run) u p) made.1)))
    expression m s (syntax.Member at e name) a proper = one s (spec.typed s e) (λ t x. member t at x name) (λ t u e1 h p x made. member_made t u h p at x name made) (expression m s e a proper)
    expression m s (syntax.Arrow at e name) a proper = one s (spec.typed s e) (λ t x. arrow t at x name) (λ t u e1 h p x made. arrow_made t u h p at (indirection t.known at (term_of x)) name ((laws t u e1 h p).indirection at x made)) (expression m s e a proper)
    expression m s (syntax.Postfix at op e) a proper = one s (spec.typed s e) (λ t x. step t.known at op time.Postfix x) (λ t u e1 h p x. (laws t u e1 h p).step at op time.Postfix x) (expression m s e a proper)
    expression m s (syntax.Prefix at op e) a proper = one s (spec.typed s e) (λ t x. step t.known at op time.Prefix x) (λ t u e1 h p x. (laws t u e1 h p).step at op time.Prefix x) (expression m s e a proper)
    expression m s (syntax.Unary at op e) a proper = one s (spec.typed s e) (λ t x. unary t.known at op x) (λ t u e1 h p x. (laws t u e1 h p).unary at op x) (expression m s e a proper)
    expression m s (syntax.SizeofExpr at e) a proper = sizeof_on s at (Is (spec.inside s)) (spec.typed (spec.inside s) e) (expression m (spec.inside s) e (record { same = a.same; types = inside_types s a.types }) proper)
    expression m s (syntax.SizeofType at n es) a proper =
        then s (λ t v. IsTypeOf m t) (Is s) (spec.type_named s at n es) (λ t v. kept v (size_of_type v.known at t)) (type_named_by m s at n es a (lengths_on m s es a proper))
        (λ t v k typed. rule s v (size_of_type v.known at t) k.types (λ run u p. (laws v u run.0 k.types p).size_of_type at t))
    expression m s (syntax.Cast at n es e) a proper =
        then s (λ t v. IsTypeOf m t) (Is s) (spec.type_named s at n es) (λ t s1. after (spec.typed s1 e) (λ x v. kept v (cast v.known at t x))) (type_named_by m s at n es a (lengths_on m s es a proper.0)) (λ t s1 k typed.
        then s1 (Is s1) (Is s) (spec.typed s1 e) (λ x v. kept v (cast v.known at t x)) (expression m s1 e (at_later m s s1 a k) proper.1) (λ x v k1 made.
        rule s v (cast v.known at t x) k1.types (λ run u p. (laws v u run.0 k1.types p).cast at t x (subst (λ z. IsTypeOf z t) (sym (p.model ∙ (k1.model ∙ (k.model ∙ a.same)))) typed) (made (still s s1 k run) u p))))
    expression m s (syntax.Binary at op i j) a proper = two s (spec.typed s i) (λ s1. spec.typed s1 j) (λ t x y. binary t.known at op x y) (λ t u e h p x y. (laws t u e h p).binary at op x y) (expression m s i a proper.0) (λ s1 k. expression m s1 j (at_later m s s1 a k) proper.1)
    expression m s (syntax.Logical at op i j) a proper = two s (spec.typed s i) (λ s1. spec.typed s1 j) (λ t x y. logical t.known at op x y) (λ t u e h p x y. (laws t u e h p).logical at op x y) (expression m s i a proper.0) (λ s1 k. expression m s1 j (at_later m s s1 a k) proper.1)
    expression m s (syntax.Conditional at c i j) a proper =
        then s (Is s) (Is s) (spec.typed s c) (λ x s1. after (spec.typed s1 i) (λ y s2. after (spec.typed s2 j) (λ z t. kept t (conditional t.known at x y z)))) (expression m s c a proper.0) (λ x s1 k made.
        then s1 (Is s1) (Is s) (spec.typed s1 i) (λ y s2. after (spec.typed s2 j) (λ z t. kept t (conditional t.known at x y z))) (expression m s1 i (at_later m s s1 a k) proper.1.0) (λ y s2 k1 made1.
        then s2 (Is s2) (Is s) (spec.typed s2 j) (λ z t. kept t (conditional t.known at x y z)) (expression m s2 j (at_later m s1 s2 (at_later m s s1 a k) k1) proper.1.1) (λ z t k2 made2.
        rule s t (conditional t.known at x y z) k2.types (λ run u p. (laws t u run.0 k2.types p).conditional at x y z (made run u (k1.parts u (k2.parts u p))) (made1 (still s s1 k run) u (k2.parts u p)) (made2 (still s s2 (keeps_twice s s1 s2 k k1) run) u p)))))
    expression m s (syntax.Assign at op i j) a proper = two s (spec.typed s i) (λ s1. spec.typed s1 j) (λ t x y. assignment t.known at op x y) (λ t u e h p x y. (laws t u e h p).assignment at op x y) (expression m s i a proper.0) (λ s1 k. expression m s1 j (at_later m s s1 a k) proper.1)
    expression m s (syntax.Comma at i j) a proper = two s (spec.typed s i) (λ s1. spec.typed s1 j) (λ t x y. Ok (comma at x y)) (λ t u e h p x y. (laws t u e h p).comma at x y) (expression m s i a proper.0) (λ s1 k. expression m s1 j (at_later m s s1 a k) proper.1)

    arguments : (m : Model) (s : State) (es : Trees) → IsAt m s → AreProperTrees m es → LeadsOn s (AreOf s es) (spec.operands s es)
    arguments m s syntax.End a proper = (keeps_same s a.types, (λ run u p. tt, tt))
    arguments m s (syntax.More e es) a proper =
        then s (λ x t. Is s x t × IsTextOf e (x, t)) (AreOf s (syntax.More e es)) (spec.typed s e) (λ x s1. after (spec.operands s1 es) (spec.before x)) (held s (Is s) (IsTextOf e) (spec.typed s e) (expression m s e a proper.0) (text_on e s)) (λ x s1 k made.
        then s1 (AreOf s1 es) (AreOf s (syntax.More e es)) (spec.operands s1 es) (spec.before x) (arguments m s1 es (at_later m s s1 a k) proper.1) (λ xs t k1 made1.
        (keeps_same t k1.types, (λ run u p. (made.0 run u (k1.parts u p), made1.0 (still s s1 k run) u p), made.1))))

    lengths_on : (m : Model) (s : State) (es : Trees) → IsAt m s → AreProperTrees m es → LeadsOn s Anything (spec.lengths s es)
    lengths_on m s syntax.End a proper = (keeps_same s a.types, tt)
    lengths_on m s (syntax.More e es) a proper =
        then s Anything Anything (spec.length s e) (λ n s1. after (spec.lengths s1 es) (spec.before n)) (length_by s e (expression m s e a proper.0)) (λ n s1 k any.
        then s1 Anything Anything (spec.lengths s1 es) (spec.before n) (lengths_on m s1 es (at_later m s s1 a k) proper.1) (λ ns t k1 any1. (keeps_same t k1.types, tt)))

pub expressions_are_made : RulesMakeExpressions
expressions_are_made operators values conversions s e h ev proper =
    weaker s (Is (Unit {0}) (λ x. operators) (λ x. values) (λ x. conversions) s) MakesOperand (spec.typed s e) (λ o t k made. made (tt, ev))
    (expression (Unit {0}) (λ x. operators) (λ x. values) (λ x. conversions) s.known.numbers s e (record { same = refl; types = h }) proper)

any_expression : (m : Model) (s : State) (e : Tree) → IsAt m s → IsProperTree m e → LeadsOn s (Is ⊥ (λ x. absurd x) (λ x. absurd x) (λ x. absurd x) s) (spec.typed s e)
any_expression = expression ⊥ (λ x. absurd x) (λ x. absurd x) (λ x. absurd x)

pub expressions_keep : ExpressionsKeep
expressions_keep s e h proper = weaker s (Is ⊥ (λ x. absurd x) (λ x. absurd x) (λ x. absurd x) s) (λ o t. Unit {0}) (spec.typed s e) (λ o t k made. tt) (any_expression s.known.numbers s e (record { same = refl; types = h }) proper)

pub lengths_keep : LengthsKeep
lengths_keep s e h proper = length_by ⊥ (λ x. absurd x) (λ x. absurd x) (λ x. absurd x) s e (any_expression s.known.numbers s e (record { same = refl; types = h }) proper)
