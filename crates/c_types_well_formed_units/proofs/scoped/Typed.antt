-- Expressions name what lives.
use Rattle.std.proofs.Common.{◌≡◌, ℕ, Bool, true, false, List, [], ◌∷◌, length, slice_get, Option, Some, None, Ok, Err, refl}
use Rattle.std.specs.Prelude.{cond, ◌==◌}
use Rattle.cc_base.specs.declared.diagnostics.Place.{Place}
use Rattle.cc_base.specs.declared.int_types.IntType.{IntType}
use Rattle.c_layout.specs.Types.{Ty}
use Rattle.c_layout.specs.CheckedTrees.{TermTree, LvalueTree, term_trees}
use Rattle.c_layout.specs.CheckedUnits.{LocalView}
use Rattle.c_layout.specs.SyntaxTrees as syntax
use Rattle.c_layout.specs.SyntaxTrees.{Tree, Trees, TypeNameView}
use Rattle.c_layout.specs.declared.checked_tree.checked_terms.StepTime.TheVariants as time
use Rattle.c_layout.specs.declared.library_functions.LibFn.{LibFn}
use Rattle.c_types_scopes.specs.Answers.{after, kept}
use Rattle.c_types_scopes.specs.DeclaredTypes.{ObjectView, SignatureView}
use Rattle.c_types_scopes.specs.Known.{Known, size_of}
use Rattle.c_types_scopes.specs.Refusals.{Ruled, type_fault, undeclared, format_fault}
use Rattle.c_types_scopes.specs.LibraryTypes.{library_result, library_parameters}
use Rattle.c_types_scopes.specs.Names.{known_in}
use Rattle.c_types_scopes.specs.States.{State, is_evaluated, with_literal}
use Rattle.c_types_scopes.specs.StructTables as structs
use Rattle.c_types_scopes.specs.StructTables.{MemberView}
use Rattle.c_types_scopes.specs.declared.meanings.Meaning.{Meaning}
use Rattle.c_types_scopes.specs.declared.meanings.Meaning.TheVariants as meaning
use Rattle.c_types_operands.specs.Operands.{OperandForm, AsValue, AsLvalue, OperandView, term_of, term_type, lvalue_type}
use Rattle.c_types_operands.specs.Indirections.{indirection}
use Rattle.c_types_operators.specs.UnaryOperators.{promoted_kind}
use Rattle.c_types_primary.specs.Primaries as primaries
use Rattle.c_types_primary.specs.Primaries.{library_named, meaning_of}
use Rattle.c_types_primary.specs.Members as members
use Rattle.c_types_primary.specs.Calls as calls
use Rattle.c_types_primary.specs.Lists.{if_first}
use Rattle.c_library.specs.Formats.PrintfFormats.{wanted_by}
use Rattle.c_types_primary.specs.TypeNames.{named_type}
use Rattle.c_types_primary.specs.declared.calls.Callee.{Callee}
use Rattle.c_types_primary.specs.declared.calls.Callee.TheVariants as callee
use Rattle.c_library.specs.declared.formats.printf_formats.Wanted.{Wanted}
use Rattle.c_types_expressions.specs.Expressions.Leaves.{named, callee_of, noted_callee, first_tree}
use Rattle.c_types_expressions.specs.Expressions.Expressions as spec
use Rattle.c_types_theorems.proofs.entries.Expressing.{typed_leads, lengths_lead, type_name_leads}
use Rattle.c_types_theorems.proofs.entries.Leading.{then}
use Rattle.semantics.specs.SourceMachine.Scopes.{is_in}
use Rattle.source_preservation.specs.UnitChecks.LookedScopes.{is_scoped_term, are_scoped_terms}
use Rattle.c_types_well_formed_units.specs.Scoped.ScopedLaws.{Yields}
use Rattle.c_types_well_formed_units.specs.Scoped.ScopedOperands.{ScopedTerm, ScopedPlace, ScopedForm, Scoped}
use Rattle.c_types_well_formed_units.specs.Scoped.SeenObjects.{SeesAt, Stays}
use Rattle.c_types_well_formed_units.proofs.scoped.Numbers.{two}
use Rattle.c_types_well_formed_units.proofs.scoped.Rules.{Makes, MakesTerm, parenthesized_scoped, value_scoped, integer_scoped, assigned_scoped, binary_scoped, indirection_scoped, subscript_scoped, step_scoped, unary_scoped, size_of_operand_scoped, size_of_type_scoped, cast_scoped, logical_scoped, conditional_scoped, comma_scoped, assignment_scoped}
use Rattle.c_types_well_formed_units.proofs.scoped.Seen.{Gives, Judged, local_lives, leads_gives, steps_stay, stays_twice, stays_sees, yields}

abbrev pub AllScoped : List ℕ → List OperandView → Type 0
AllScoped alive [] = Unit {0}
AllScoped alive (x ∷ xs) = Scoped alive x × AllScoped alive xs

abbrev ScopedTerms : List ℕ → List TermTree → Type 0
ScopedTerms alive es = are_scoped_terms alive (term_trees es) ≡ true

module _ (alive : List ℕ) where
  -- ---- steps

  pub and_then : {U V : Type 0} (P : U → Type 0) (Q : V → Type 0) (r : Ruled (U × State)) (next : U → State → Ruled (V × State)) → Gives alive P r → ((u : U) (t : State) → SeesAt alive t → P u → Gives alive Q (next u t)) → Gives alive Q (after r next)
  and_then P Q (Ok p) next g h = h p.0 p.1 g.0 g.1
  and_then P Q (Err f) next g h = tt

  pub ruled : {V : Type 0} (P : V → Type 0) (t : State) (rule : Ruled V) → SeesAt alive t → Judged P rule → Gives alive P (kept t rule)
  ruled P t (Ok v) sees h = (sees, h)
  ruled P t (Err f) sees h = tt

  -- ---- names, members

  object_by : (s : State) (at : Place) (o : Option ObjectView) → Makes alive (primaries.static_by s at o)
  object_by s at None = tt
  object_by s at (Some o) = by_missing (primaries.is_missing s o.number)
    where
      by_missing : (b : Bool) → Makes alive (cond b (undeclared at) (Ok (primaries.defined_object at o)))
      by_missing true = tt
      by_missing false = refl

  local_by : (s : State) (at : Place) (k : ℕ) (o : Option LocalView) → is_in k alive ≡ true → Makes alive (primaries.local_by s at k o)
  local_by s at k None h = tt
  local_by s at k (Some o) h = h

  undeclared_by : (at : Place) (o : Option LibFn) → Makes alive (primaries.not_declared at o)
  undeclared_by at None = tt
  undeclared_by at (Some f) = tt

  meant : (s : State) (at : Place) (text : List ℕ) (m : Option Meaning) → ((k : ℕ) → m ≡ Some (meaning.Local k) → is_in k alive ≡ true) → Makes alive (primaries.named s at text m)
  meant s at text (Some (meaning.Static n)) h = object_by s at (slice_get s.objects n)
  meant s at text (Some (meaning.Local k)) h = local_by s at k (slice_get s.body.locals k) (h k refl)
  meant s at text (Some (meaning.Enumerator n)) h = refl
  meant s at text (Some (meaning.Function n)) h = tt
  meant s at text (Some (meaning.Typedef n)) h = tt
  meant s at text None h = undeclared_by at (library_named text)

  named_scoped : (s : State) (at : Place) (text : List ℕ) → SeesAt alive s → Makes alive (named s at text)
  unfolding named
  named_scoped s at text sees = meant s at text (meaning_of s text) (λ k is. local_lives alive s text k sees is)

  member_found : (at : Place) (l : LvalueTree) (o : Option MemberView) → ScopedPlace alive l → Makes alive (members.member_found at l o)
  member_found at l None h = tt
  member_found at l (Some m) h = h

  member_known : (s : State) (at : Place) (l : LvalueTree) (owner : ℕ) (o : Option ℕ) → ScopedPlace alive l → Makes alive (members.member_known s at l owner o)
  member_known s at l owner None h = tt
  member_known s at l owner (Some name) h = member_found at l (structs.member s.types owner name) h

  selected_of : (s : State) (at : Place) (l : LvalueTree) (text : List ℕ) (o : Option ℕ) → ScopedPlace alive l → Makes alive (members.selected_of s at l text o)
  selected_of s at l text None h = tt
  selected_of s at l text (Some owner) h = member_known s at l owner (known_in s.scopes.names text) h

  member_by : (s : State) (at : Place) (f : OperandForm) (text : List ℕ) → ScopedForm alive f → Makes alive (members.member_by s at f text)
  member_by s at (AsLvalue l) text h = selected_of s at l text (members.complete_struct s.types (lvalue_type l)) h
  member_by s at (AsValue e) text h = tt

  member_scoped : (s : State) (at : Place) (o : OperandView) (text : List ℕ) → Scoped alive o → Makes alive (members.member s at o text)
  member_scoped s at o text h = member_by s at o.form text h

  at_target : (s : State) (at : Place) (r : Ruled OperandView) (text : List ℕ) → Makes alive r → Makes alive (members.at_target s at r text)
  at_target s at (Ok o) text h = member_scoped s at o text h
  at_target s at (Err f) text h = tt

  arrow_scoped : (s : State) (at : Place) (o : OperandView) (text : List ℕ) → Scoped alive o → Makes alive (members.arrow s at o text)
  arrow_scoped s at o text h = at_target s at (indirection s.known at (term_of o)) text (indirection_scoped alive s.known at (term_of o) (value_scoped alive o h))

  -- ---- calls

  cond_makes : (b : Bool) (x y : Ruled OperandView) → Makes alive x → Makes alive y → Makes alive (cond b x y)
  cond_makes true x y g h = g
  cond_makes false x y g h = h

  cond_terms : (b : Bool) (x y : Ruled (List TermTree)) → Judged (ScopedTerms alive) x → Judged (ScopedTerms alive) y → Judged (ScopedTerms alive) (cond b x y)
  cond_terms true x y g h = g
  cond_terms false x y g h = h

  first_scoped : (r : Ruled TermTree) (rs : Ruled (List TermTree)) → MakesTerm alive r → Judged (ScopedTerms alive) rs → Judged (ScopedTerms alive) (if_first r rs)
  first_scoped (Ok e) (Ok es) g h = two (is_scoped_term alive e) (are_scoped_terms alive (term_trees es)) g h
  first_scoped (Ok e) (Err f) g h = tt
  first_scoped (Err f) rs g h = tt

  each_converted : (k : Known) (at : Place) (xs : List OperandView) (ts : List Ty) → AllScoped alive xs → Judged (ScopedTerms alive) (calls.each_converted k at xs ts)
  unfolding calls.each_converted
  each_converted k at [] ts h = refl
  each_converted k at (x ∷ xs) [] h = tt
  each_converted k at (x ∷ xs) (t ∷ ts) h = first_scoped (calls.converted_argument k at x t) (calls.each_converted k at xs ts) (assigned_scoped alive k at (term_of x) t (value_scoped alive x h.0)) (each_converted k at xs ts h.1)

  converted_scoped : (k : Known) (at : Place) (xs : List OperandView) (ts : List Ty) → AllScoped alive xs → Judged (ScopedTerms alive) (calls.converted_arguments k at xs ts)
  converted_scoped k at xs ts h = cond_terms (length xs == length ts) (calls.each_converted k at xs ts) (type_fault at) (each_converted k at xs ts h) tt

  called_with : (at : Place) (f : SignatureView) (r : Ruled (List TermTree)) → Judged (ScopedTerms alive) r → Makes alive (calls.called_with at f r)
  called_with at f (Ok es) h = h
  called_with at f (Err e) h = tt

  own_by : (s : State) (at : Place) (xs : List OperandView) (o : Option SignatureView) → AllScoped alive xs → Makes alive (calls.own_by s at xs o)
  own_by s at xs None h = tt
  own_by s at xs (Some f) h = cond_makes (primaries.is_missing s f.number) (undeclared at) (calls.own_with s.known at f xs) tt (called_with at f (calls.converted_arguments s.known at xs f.parameters) (converted_scoped s.known at xs f.parameters h))

  promoted_by : (k : Known) (e : TermTree) (o : Option IntType) → ScopedTerm alive e → ScopedTerm alive (calls.promoted_by k e o)
  promoted_by k e None h = h
  promoted_by k e (Some kind) h = integer_scoped alive k e kind h

  if_wanted : (b : Bool) (at : Place) (e : TermTree) → ScopedTerm alive e → MakesTerm alive (cond b (Ok e) (format_fault at))
  if_wanted true at e h = h
  if_wanted false at e h = tt

  each_formatted : (k : Known) (at : Place) (ws : List Wanted) (xs : List OperandView) → AllScoped alive xs → Judged (ScopedTerms alive) (calls.each_formatted k at ws xs)
  unfolding calls.each_formatted
  each_formatted k at ws [] h = refl
  each_formatted k at [] (x ∷ xs) h = tt
  each_formatted k at (w ∷ ws) (x ∷ xs) h =
      let e : TermTree = calls.promoted_argument k (term_of x) in
      first_scoped (calls.formatted k at w x) (calls.each_formatted k at ws xs) (if_wanted (calls.is_wanted k w (term_type e)) at e (promoted_by k (term_of x) (promoted_kind k (term_type (term_of x))) (value_scoped alive x h.0))) (each_formatted k at ws xs h.1)

  formatted_scoped : (k : Known) (at : Place) (ws : List Wanted) (xs : List OperandView) → AllScoped alive xs → Judged (ScopedTerms alive) (calls.formatted_arguments k at ws xs)
  formatted_scoped k at ws xs h = cond_terms (length xs == length ws) (calls.each_formatted k at ws xs) (format_fault at) (each_formatted k at ws xs h) tt

  printed : (k : Known) (at : Place) (e : TermTree) (r : Ruled (List TermTree)) → ScopedTerm alive e → Judged (ScopedTerms alive) r → Makes alive (calls.printed k at e r)
  printed k at e (Ok es) g h = two (is_scoped_term alive e) (are_scoped_terms alive (term_trees es)) g h
  printed k at e (Err f) g h = tt

  printf_with : (k : Known) (at : Place) (ws : List Wanted) (xs : List OperandView) → AllScoped alive xs → Makes alive (calls.printf_with k at ws xs)
  printf_with k at ws [] h = tt
  printf_with k at ws (x ∷ xs) h = printed k at (term_of x) (calls.formatted_arguments k at ws xs) (value_scoped alive x h.0) (formatted_scoped k at ws xs h.1)

  printf_wanting : (k : Known) (at : Place) (xs : List OperandView) (o : Option (List Wanted)) → AllScoped alive xs → Makes alive (calls.printf_wanting k at xs o)
  printf_wanting k at xs None h = tt
  printf_wanting k at xs (Some ws) h = printf_with k at ws xs h

  printf_spelled : (k : Known) (at : Place) (xs : List OperandView) (o : Option (List ℕ)) → AllScoped alive xs → Makes alive (calls.printf_spelled k at xs o)
  printf_spelled k at xs None h = tt
  printf_spelled k at xs (Some bytes) h = printf_wanting k at xs (wanted_by bytes) h

  printf_call : (k : Known) (at : Place) (o : Option Tree) (xs : List OperandView) → AllScoped alive xs → Makes alive (calls.printf_call k at o xs)
  printf_call k at None xs h = tt
  printf_call k at (Some e) xs h = printf_spelled k at xs (calls.literal_bytes e) h

  library_with : (at : Place) (t : Ty) (f : LibFn) (r : Ruled (List TermTree)) → Judged (ScopedTerms alive) r → Makes alive (calls.library_with at t f r)
  library_with at t f (Ok es) h = h
  library_with at t f (Err e) h = tt

  call_scoped : (s : State) (at : Place) (c : Callee) (o : Option Tree) (xs : List OperandView) → AllScoped alive xs → Makes alive (calls.call s at c o xs)
  call_scoped s at (callee.Own n) o xs h = own_by s at xs (slice_get s.functions n) h
  call_scoped s at (callee.Library f) o xs h =
      cond_makes (calls.takes_format f) (calls.printf_call s.known at o xs) (calls.library_call s at f xs) (printf_call s.known at o xs h)
      (library_with at (library_result s.known.numbers s.stream f) f (calls.converted_arguments s.known at xs (library_parameters s.known.numbers s.stream f)) (converted_scoped s.known at xs (library_parameters s.known.numbers s.stream f) h))
  call_scoped s at callee.Other o xs h = tt
  call_scoped s at callee.Unknown o xs h = tt

  -- ---- the way down

  abbrev Any : {V : Type 0} → V → Type 0
  Any v = Unit {0}

  callee_leads : (s : State) (at : Place) (text : List ℕ) → SeesAt alive s → Gives alive Any (noted_callee s at text)
  unfolding noted_callee
  callee_leads s at text sees = (of_callee (callee_of s text), tt)
    where
      of_call : (b : Bool) (x : State) → SeesAt alive x → SeesAt alive (cond b x s)
      of_call true x h = h
      of_call false x h = sees

      of_number : (o : Option ℕ) → SeesAt alive (calls.noted_call s at o)
      of_number None = sees
      of_number (Some n) = of_call (is_evaluated s) _ sees

      of_callee : (c : Callee) → SeesAt alive (calls.noted s at c)
      of_callee (callee.Own n) = of_number (calls.number_of_function s.functions n)
      of_callee (callee.Library f) = sees
      of_callee callee.Other = sees
      of_callee callee.Unknown = sees

  type_named_leads : (s : State) (at : Place) (n : TypeNameView) (es : Trees) → SeesAt alive s → Gives alive Any (spec.type_named s at n es)
  type_named_leads s at n es sees = leads_gives alive s (spec.type_named s at n es) (then Stays stays_twice s (spec.lengths s es) (λ ns s1. named_type s1 at n ns) (lengths_lead Stays steps_stay s es) (λ ns s1. type_name_leads Stays steps_stay s1 at n ns)) sees

  literal_scoped : (s : State) (at : Place) (bytes : List ℕ) → SeesAt alive s → (size : Option ℕ) → Gives alive (Scoped alive) (primaries.literal_of_size s at bytes size)
  literal_scoped s at bytes sees None = tt
  literal_scoped s at bytes sees (Some size) = (stays_sees alive s (with_literal s at bytes) (steps_stay.literal s at bytes) sees, refl)

  mutual
    pub typed_scoped : (s : State) (e : Tree) → SeesAt alive s → Gives alive (Scoped alive) (spec.typed s e)
    typed_scoped s (syntax.Name at text) sees = ruled (Scoped alive) s (named s at text) sees (named_scoped s at text sees)
    typed_scoped s (syntax.Number at c) sees = (sees, refl)
    typed_scoped s (syntax.Literal at bytes) sees = literal_scoped s at bytes sees (size_of s.known (primaries.literal_type s.known bytes))
    typed_scoped s (syntax.Paren at e) sees = and_then (Scoped alive) (Scoped alive) (spec.typed s e) _ (typed_scoped s e sees) (λ x t after h. (after, parenthesized_scoped alive x h))
    typed_scoped s (syntax.Subscript at a b) sees = and_then (Scoped alive) (Scoped alive) (spec.typed s a) _ (typed_scoped s a sees) (λ x s1 sees1 g. and_then (Scoped alive) (Scoped alive) (spec.typed s1 b) _ (typed_scoped s1 b sees1) (λ y t after h. ruled (Scoped alive) t _ after (subscript_scoped alive t.known at x y g h)))
    typed_scoped s (syntax.Call at name es) sees = and_then Any (Scoped alive) (noted_callee s at name) _ (callee_leads s at name sees) (λ c s1 sees1 g. and_then (AllScoped alive) (Scoped alive) (spec.operands s1 es) _ (operands_scoped s1 es sees1) (λ xs t after h. ruled (Scoped alive) t _ after (call_scoped t at c (first_tree es) xs h)))
    typed_scoped s (syntax.Member at e name) sees = and_then (Scoped alive) (Scoped alive) (spec.typed s e) _ (typed_scoped s e sees) (λ x t after h. ruled (Scoped alive) t _ after (member_scoped t at x name h))
    typed_scoped s (syntax.Arrow at e name) sees = and_then (Scoped alive) (Scoped alive) (spec.typed s e) _ (typed_scoped s e sees) (λ x t after h. ruled (Scoped alive) t _ after (arrow_scoped t at x name h))
    typed_scoped s (syntax.Postfix at op e) sees = and_then (Scoped alive) (Scoped alive) (spec.typed s e) _ (typed_scoped s e sees) (λ x t after h. ruled (Scoped alive) t _ after (step_scoped alive t.known at op time.Postfix x h))
    typed_scoped s (syntax.Prefix at op e) sees = and_then (Scoped alive) (Scoped alive) (spec.typed s e) _ (typed_scoped s e sees) (λ x t after h. ruled (Scoped alive) t _ after (step_scoped alive t.known at op time.Prefix x h))
    typed_scoped s (syntax.Unary at op e) sees = and_then (Scoped alive) (Scoped alive) (spec.typed s e) _ (typed_scoped s e sees) (λ x t after h. ruled (Scoped alive) t _ after (unary_scoped alive t.known at op x h))
    typed_scoped s (syntax.SizeofExpr at e) sees = and_then (Scoped alive) (Scoped alive) (spec.typed (spec.inside s) e) _ (typed_scoped (spec.inside s) e sees) (λ x t after h. ruled (Scoped alive) (spec.outside s t) _ after (size_of_operand_scoped alive t.known at x))
    typed_scoped s (syntax.SizeofType at n es) sees = and_then Any (Scoped alive) (spec.type_named s at n es) _ (type_named_leads s at n es sees) (λ u t after g. ruled (Scoped alive) t _ after (size_of_type_scoped alive t.known at u))
    typed_scoped s (syntax.Cast at n es e) sees = and_then Any (Scoped alive) (spec.type_named s at n es) _ (type_named_leads s at n es sees) (λ u s2 sees2 g. and_then (Scoped alive) (Scoped alive) (spec.typed s2 e) _ (typed_scoped s2 e sees2) (λ x t after h. ruled (Scoped alive) t _ after (cast_scoped alive t.known at u x h)))
    typed_scoped s (syntax.Binary at op a b) sees = and_then (Scoped alive) (Scoped alive) (spec.typed s a) _ (typed_scoped s a sees) (λ x s1 sees1 g. and_then (Scoped alive) (Scoped alive) (spec.typed s1 b) _ (typed_scoped s1 b sees1) (λ y t after h. ruled (Scoped alive) t _ after (binary_scoped alive t.known at op x y g h)))
    typed_scoped s (syntax.Logical at op a b) sees = and_then (Scoped alive) (Scoped alive) (spec.typed s a) _ (typed_scoped s a sees) (λ x s1 sees1 g. and_then (Scoped alive) (Scoped alive) (spec.typed s1 b) _ (typed_scoped s1 b sees1) (λ y t after h. ruled (Scoped alive) t _ after (logical_scoped alive t.known at op x y g h)))
    typed_scoped s (syntax.Conditional at a b c) sees = and_then (Scoped alive) (Scoped alive) (spec.typed s a) _ (typed_scoped s a sees) (λ x s1 sees1 f. and_then (Scoped alive) (Scoped alive) (spec.typed s1 b) _ (typed_scoped s1 b sees1) (λ y s2 sees2 g. and_then (Scoped alive) (Scoped alive) (spec.typed s2 c) _ (typed_scoped s2 c sees2) (λ z t after h. ruled (Scoped alive) t _ after (conditional_scoped alive t.known at x y z f g h))))
    typed_scoped s (syntax.Assign at op a b) sees = and_then (Scoped alive) (Scoped alive) (spec.typed s a) _ (typed_scoped s a sees) (λ x s1 sees1 g. and_then (Scoped alive) (Scoped alive) (spec.typed s1 b) _ (typed_scoped s1 b sees1) (λ y t after h. ruled (Scoped alive) t _ after (assignment_scoped alive t.known at op x y g h)))
    typed_scoped s (syntax.Comma at a b) sees = and_then (Scoped alive) (Scoped alive) (spec.typed s a) _ (typed_scoped s a sees) (λ x s1 sees1 g. and_then (Scoped alive) (Scoped alive) (spec.typed s1 b) _ (typed_scoped s1 b sees1) (λ y t after h. (after, comma_scoped alive at x y g h)))

    operands_scoped : (s : State) (es : Trees) → SeesAt alive s → Gives alive (AllScoped alive) (spec.operands s es)
    operands_scoped s syntax.End sees = (sees, tt)
    operands_scoped s (syntax.More e es) sees = and_then (Scoped alive) (AllScoped alive) (spec.typed s e) _ (typed_scoped s e sees) (λ x s1 sees1 g. and_then (AllScoped alive) (AllScoped alive) (spec.operands s1 es) _ (operands_scoped s1 es sees1) (λ xs t after h. (after, (g, h))))

-- an expression of a state names what its names may mean
pub typed_yields : (s : State) (e : Tree) → Yields s Scoped (spec.typed s e)
typed_yields s e = yields s Scoped (spec.typed s e) (typed_leads Stays steps_stay s e) (λ alive sees. typed_scoped alive s e sees)
