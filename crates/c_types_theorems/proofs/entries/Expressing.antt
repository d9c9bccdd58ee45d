-- What typing an expression leads to, by what its steps do.
use Rattle.std.proofs.Common.{ℕ, List, [], ◌∷◌, Option, Some, None, Ok, Err}
use Rattle.cc_base.specs.declared.diagnostics.Place.{Place}
use Rattle.c_layout.specs.CheckedTrees.{TermTree}
use Rattle.c_layout.specs.SyntaxTrees as syntax
use Rattle.c_layout.specs.SyntaxTrees.{Tree, Trees, LayerView, TypeNameView}
use Rattle.c_layout.specs.declared.syntax_tree.expressions.Name.{Name}
use Rattle.c_layout.specs.declared.syntax_tree.expressions.TypeNameWord.{TypeNameWord}
use Rattle.c_layout.specs.declared.syntax_tree.expressions.TypeNameWord.TheVariants as word
use Rattle.c_types_scopes.specs.Refusals.{Ruled}
use Rattle.c_types_scopes.specs.Answers.{after, kept}
use Rattle.c_types_scopes.specs.DeclaredTypes.{DeclaredView}
use Rattle.c_types_scopes.specs.Names.{number_in, found_tag}
use Rattle.c_types_scopes.specs.Known.{size_of}
use Rattle.c_types_scopes.specs.States.{State, with_name, with_literal, with_constant, with_call}
use Rattle.c_types_scopes.specs.declared.meanings.Tag.{Tag}
use Rattle.c_types_scopes.specs.declared.meanings.Tag.TheVariants as tag
use Rattle.c_types_primary.specs.Calls as calls
use Rattle.c_types_primary.specs.declared.calls.Callee.{Callee}
use Rattle.c_types_primary.specs.declared.calls.Callee.TheVariants as callee
use Rattle.c_types_primary.specs.Primaries as primaries
use Rattle.c_types_primary.specs.TypeNames as names
use Rattle.c_types_primary.specs.TypeNames.{WordsView, with_struct_tag}
use Rattle.c_types_expressions.specs.Expressions.Leaves.{callee_of, noted_callee}
use Rattle.c_types_expressions.specs.Expressions.Expressions as spec
use Rattle.c_types_theorems.proofs.entries.Leading.{Leads, kept_leads, onward, then}

-- a relation in which the steps of expressions stand
pub record HasSteps (R : State → State → Type 0) : Type 0 where
  pub same : (s : State) → R s s
  pub trans : (s t u : State) → R s t → R t u → R s u
  pub named : (s : State) (text : List ℕ) → R s (with_name s text)
  pub literal : (s : State) (at : Place) (bytes : List ℕ) → R s (with_literal s at bytes)
  pub constant : (s : State) (e : TermTree) → R s (with_constant s e)
  pub called : (s : State) (callee : ℕ) (at : Place) → R s (with_call s callee at)
  pub unevaluated : (s : State) (n : ℕ) → R s (record s { unevaluated = n })
  pub tagged : (s : State) (name : ℕ) → R s (with_struct_tag s name)

module _ (R : State → State → Type 0) (has : HasSteps R) where
  step : {U V : Type 0} (s : State) (r : Ruled (U × State)) (next : U → State → Ruled (V × State)) → Leads R s r → ((u : U) (t : State) → Leads R t (next u t)) → Leads R s (after r next)
  step s r next = then R has.trans s r next

  stays : {V : Type 0} (s : State) (rule : Ruled V) → Leads R s (kept s rule)
  stays s rule = kept_leads R s s rule (has.same s)

  -- ---- calls

  noted_leads : (s : State) (at : Place) (c : Callee) → R s (calls.noted s at c)
  noted_leads s at (callee.Own declared) = by_number (calls.number_of_function s.functions declared)
    where
      by_number : (n : Option ℕ) → R s (calls.noted_call s at n)
      by_number None = has.same s
      by_number (Some n) = has.called s n at
  noted_leads s at (callee.Library f) = has.same s
  noted_leads s at callee.Other = has.same s
  noted_leads s at callee.Unknown = has.same s

  callee_leads : (s : State) (at : Place) (text : List ℕ) → Leads R s (noted_callee s at text)
  unfolding noted_callee
  callee_leads s at text = noted_leads s at (callee_of s text)

  -- ---- type names

  struct_by_leads : (s : State) (n : Name) (name : ℕ) (found : Option Tag) → Leads R s (names.struct_by s n name found)
  struct_by_leads s n name (Some (tag.Struct number)) = has.same s
  struct_by_leads s n name (Some (tag.Enumeration number)) = tt
  struct_by_leads s n name None = has.tagged s name

  pub struct_tag_leads : (s : State) (n : Name) → Leads R s (names.struct_tag s n)
  struct_tag_leads s n = onward R has.trans s (with_name s n.text) (names.struct_tag s n) (has.named s n.text) (struct_by_leads (with_name s n.text) n (number_in s.scopes.names n.text) (found_tag s.scopes (number_in s.scopes.names n.text)))

  pub enumeration_tag_leads : (s : State) (at : Place) (n : Name) → Leads R s (names.enumeration_tag s at n)
  enumeration_tag_leads s at n = kept_leads R s (with_name s n.text) (names.enumeration_numbered (with_name s n.text) at n (number_in s.scopes.names n.text)) (has.named s n.text)

  as_struct_leads : (s : State) (r : Ruled (ℕ × State)) → Leads R s r → Leads R s (names.as_struct r)
  as_struct_leads s (Ok p) h = h
  as_struct_leads s (Err f) h = tt

  as_enumeration_leads : (s : State) (r : Ruled (ℕ × State)) → Leads R s r → Leads R s (names.as_enumeration r)
  as_enumeration_leads s (Ok p) h = h
  as_enumeration_leads s (Err f) h = tt

  word_leads : (s : State) (at : Place) (w : TypeNameWord) → Leads R s (names.word_type s at w)
  word_leads s at (word.Storage p class) = stays s (names.storage_word at class)
  word_leads s at (word.Qualifier p) = has.same s
  word_leads s at (word.Type p w) = has.same s
  word_leads s at (word.Struct p n) = as_struct_leads s (names.struct_tag s n) (struct_tag_leads s n)
  word_leads s at (word.Enum p n) = as_enumeration_leads s (names.enumeration_tag s p n) (enumeration_tag_leads s p n)
  word_leads s at (word.Typedef n) = stays s (names.typedef_word s n)

  said_leads : (s : State) (said : WordsView) (w : TypeNameWord) (r : Ruled (Option DeclaredView × State)) → Leads R s r → Leads R s (names.with_said_by said w r)
  said_leads s said w (Ok p) h = h
  said_leads s said w (Err f) h = tt

  words_lead : (ws : List TypeNameWord) (s : State) (at : Place) (said : WordsView) → Leads R s (names.words_from s at said ws)
  unfolding names.words_from
  words_lead [] s at said = has.same s
  words_lead (w ∷ more) s at said = step s (names.one_word s at said w) (λ said1 s1. names.words_from s1 at said1 more) (said_leads s said w (names.word_type s at w) (word_leads s at w)) (λ said1 s1. words_lead more s1 at said1)

  pub type_name_leads : (s : State) (at : Place) (n : TypeNameView) (lengths : List (Option ℕ)) → Leads R s (names.named_type s at n lengths)
  type_name_leads s at n lengths =
      step s (names.words_type s at n.words) (names.shaped_in at n.layers lengths)
      (step s (names.words_from s at names.nothing_said n.words) (names.words_end at) (words_lead n.words s at names.nothing_said) (λ said t. stays t (names.said_type t.known at said.counts said.named)))
      (λ u t. stays t (names.shaped t.known at n.layers lengths u))

  literal_leads : (s : State) (at : Place) (bytes : List ℕ) (size : Option ℕ) → Leads R s (primaries.literal_of_size s at bytes size)
  literal_leads s at bytes None = tt
  literal_leads s at bytes (Some size) = has.literal s at bytes

  -- ---- the way down

  mutual
    pub typed_leads : (s : State) (e : Tree) → Leads R s (spec.typed s e)
    typed_leads s (syntax.Name at text) = stays s _
    typed_leads s (syntax.Number at c) = has.same s
    typed_leads s (syntax.Literal at bytes) = literal_leads s at bytes (size_of s.known (primaries.literal_type s.known bytes))
    typed_leads s (syntax.Paren at e) = step s (spec.typed s e) _ (typed_leads s e) (λ x t. has.same t)
    typed_leads s (syntax.Subscript at a b) = step s (spec.typed s a) _ (typed_leads s a) (λ x s1. step s1 (spec.typed s1 b) _ (typed_leads s1 b) (λ y t. stays t _))
    typed_leads s (syntax.Call at name es) = step s (noted_callee s at name) _ (callee_leads s at name) (λ c s1. step s1 (spec.operands s1 es) _ (operands_lead s1 es) (λ xs t. stays t _))
    typed_leads s (syntax.Member at e name) = step s (spec.typed s e) _ (typed_leads s e) (λ x t. stays t _)
    typed_leads s (syntax.Arrow at e name) = step s (spec.typed s e) _ (typed_leads s e) (λ x t. stays t _)
    typed_leads s (syntax.Postfix at op e) = step s (spec.typed s e) _ (typed_leads s e) (λ x t. stays t _)
    typed_leads s (syntax.Prefix at op e) = step s (spec.typed s e) _ (typed_leads s e) (λ x t. stays t _)
    typed_leads s (syntax.Unary at op e) = step s (spec.typed s e) _ (typed_leads s e) (λ x t. stays t _)
    typed_leads s (syntax.SizeofExpr at e) = onward R has.trans s (spec.inside s) (spec.typed s (syntax.SizeofExpr at e)) (has.unevaluated s _) (step (spec.inside s) (spec.typed (spec.inside s) e) _ (typed_leads (spec.inside s) e) (λ x t. kept_leads R t (spec.outside s t) _ (has.unevaluated t s.unevaluated)))
    typed_leads s (syntax.SizeofType at n es) = step s (spec.type_named s at n es) _ (step s (spec.lengths s es) _ (lengths_lead s es) (λ ns s1. type_name_leads s1 at n ns)) (λ u t. stays t _)
    typed_leads s (syntax.Cast at n es e) = step s (spec.type_named s at n es) _ (step s (spec.lengths s es) _ (lengths_lead s es) (λ ns s1. type_name_leads s1 at n ns)) (λ u s2. step s2 (spec.typed s2 e) _ (typed_leads s2 e) (λ x t. stays t _))
    typed_leads s (syntax.Binary at op a b) = step s (spec.typed s a) _ (typed_leads s a) (λ x s1. step s1 (spec.typed s1 b) _ (typed_leads s1 b) (λ y t. stays t _))
    typed_leads s (syntax.Logical at op a b) = step s (spec.typed s a) _ (typed_leads s a) (λ x s1. step s1 (spec.typed s1 b) _ (typed_leads s1 b) (λ y t. stays t _))
    typed_leads s (syntax.Conditional at a b c) = step s (spec.typed s a) _ (typed_leads s a) (λ x s1. step s1 (spec.typed s1 b) _ (typed_leads s1 b) (λ y s2. step s2 (spec.typed s2 c) _ (typed_leads s2 c) (λ z t. stays t _)))
    typed_leads s (syntax.Assign at op a b) = step s (spec.typed s a) _ (typed_leads s a) (λ x s1. step s1 (spec.typed s1 b) _ (typed_leads s1 b) (λ y t. stays t _))
    typed_leads s (syntax.Comma at a b) = step s (spec.typed s a) _ (typed_leads s a) (λ x s1. step s1 (spec.typed s1 b) _ (typed_leads s1 b) (λ y t. has.same t))

    pub operands_lead : (s : State) (es : Trees) → Leads R s (spec.operands s es)
    operands_lead s syntax.End = has.same s
    operands_lead s (syntax.More e es) = step s (spec.typed s e) _ (typed_leads s e) (λ x s1. step s1 (spec.operands s1 es) _ (operands_lead s1 es) (λ xs t. has.same t))

    pub lengths_lead : (s : State) (es : Trees) → Leads R s (spec.lengths s es)
    lengths_lead s syntax.End = has.same s
    lengths_lead s (syntax.More e es) = step s (spec.length s e) _ (step s (spec.typed s e) spec.counted (typed_leads s e) (λ x t. has.constant t _)) (λ n s1. step s1 (spec.lengths s1 es) _ (lengths_lead s1 es) (λ ns t. has.same t))

  pub length_leads : (s : State) (e : Tree) → Leads R s (spec.length s e)
  length_leads s e = step s (spec.typed s e) spec.counted (typed_leads s e) (λ x t. has.constant t _)
