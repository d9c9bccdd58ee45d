-- What items end, with others before them.
use Rattle.std.proofs.Common.{◌≡◌, ◌⊎◌, inl, inr, ℕ, Bool, true, false, cond, List, [], ◌∷◌, ◌++◌, append_assoc}
use Rattle.c_layout.specs.CheckedUnits.{FunctionView}
use Rattle.lower_templates.specs.Worklist.TermKinds.{is_void}
use Rattle.lower_functions.specs.Functions.Functions.{numbers_from}
use Rattle.semantics.specs.SourceMachine.Items as item
use Rattle.semantics.specs.SourceMachine.Items.{Item}
use Rattle.semantics.specs.SourceMachine.Scopes.{is_in, all_of, inwards, open_scopes, left_between, entered_between}
use Rattle.semantics.specs.SourceMachine.CallSteps.{with_result}
use Rattle.semantics.specs.SourceMachine.SourceStates.{result_object}
use Rattle.source_items.specs.Returns.EndedObjects.{own_objects, ended_by, ended, AreAmong, EndOwn}
use Rattle.source_items.proofs.returns.Members.{of_both, among_left, among_right, both_among, among_more, each_among, none_among, all_among, among_through, without_among, known_or_not, inwards_among}

module _ (f : FunctionView) where
  pub ended_more : (xs items : List Item) → AreAmong (ended f items) (ended f (xs ++ items))
  ended_more [] items = all_among (ended f items)
  ended_more (x ∷ xs) items = among_more (ended_by f x) (ended f items) (ended f (xs ++ items)) (ended_more xs items)

  pub own_more : (xs items : List Item) → EndOwn f items → EndOwn f (xs ++ items)
  own_more xs items own = among_through (own_objects f) (ended f items) (ended f (xs ++ items)) own (ended_more xs items)

  -- ---- open scopes

  open_among : (items : List Item) → AreAmong (all_of (open_scopes items)) (ended f items)
  open_among [] = none_among []
  open_among (item.Leaves objects ∷ items) = each_among objects (all_of (open_scopes items)) (ended f items) (open_among items)
  open_among (i ∷ items) = among_more (ended_by f i) (all_of (open_scopes items)) (ended f items) (open_among items)

  result_own : (b : Bool) (ns : List ℕ) → AreAmong (cond b [] ([] ++ result_object f ∷ [])) (cond b ns (ns ++ result_object f ∷ []))
  result_own true ns = none_among ns
  result_own false ns = among_right ns (result_object f ∷ [])

  outcome_own : AreAmong (with_result f []) (own_objects f)
  outcome_own = result_own (is_void f.returns) (numbers_from 0 f.parameters)

  -- what is ended is in open scopes, or is a parameter or the result
  pub ended_among : (items : List Item) → AreAmong (ended f items) (all_of (open_scopes items) ++ own_objects f)
  ended_among [] n e = none_among (own_objects f) n e
  ended_among (item.Leaves objects ∷ items) n e = by (of_both n objects (ended f items) e) (ended_among items n)
    where
      by : (is_in n objects ≡ true) ⊎ (is_in n (ended f items) ≡ true) → (is_in n (ended f items) ≡ true → is_in n (all_of (open_scopes items) ++ own_objects f) ≡ true) → is_in n ((objects ++ all_of (open_scopes items)) ++ own_objects f) ≡ true
      by (inl is) later = among_left (objects ++ all_of (open_scopes items)) (own_objects f) n (among_left objects (all_of (open_scopes items)) n is)
      by (inr is) later = rw append_assoc (among_more objects (all_of (open_scopes items) ++ own_objects f) _ (all_among _) n (later is))
  ended_among (item.EndBody ∷ items) n e =
      let all : List ℕ = all_of (open_scopes items) ++ own_objects f in
      both_among (own_objects f) (ended f items) all (among_right (all_of (open_scopes items)) (own_objects f)) (ended_among items) n e
  ended_among (item.LeaveOutcome at ∷ items) n e =
      let all : List ℕ = all_of (open_scopes items) ++ own_objects f in
      let own : AreAmong (own_objects f) all = among_right (all_of (open_scopes items)) (own_objects f) in
      both_among (with_result f []) (ended f items) all (among_through (with_result f []) (own_objects f) all outcome_own own) (ended_among items) n e
  ended_among (i ∷ items) n e = ended_among items n e

  -- ---- jumps

  pub entered_among : (from to : List Item) → AreAmong (entered_between from to) (ended f to)
  entered_among from to n e = open_among to n (inwards_among (open_scopes to) n (without_among (all_of (open_scopes from)) (inwards (open_scopes to)) n e))

  -- what was ended from one place on is left on the way to another place, or ended from there on
  pub left_or_ended : (from to : List Item) → EndOwn f to → AreAmong (ended f from) (left_between from to ++ ended f to)
  left_or_ended from to own n e = by (of_both n (all_of (open_scopes from)) (own_objects f) (ended_among from n e))
    where
      after : is_in n (left_between from to ++ all_of (open_scopes to)) ≡ true → is_in n (left_between from to ++ ended f to) ≡ true
      after e = each_among (left_between from to) (all_of (open_scopes to)) (ended f to) (open_among to) n e

      by : (is_in n (all_of (open_scopes from)) ≡ true) ⊎ (is_in n (own_objects f) ≡ true) → is_in n (left_between from to ++ ended f to) ≡ true
      by (inl is) = after (known_or_not (all_of (open_scopes to)) (all_of (open_scopes from)) n is)
      by (inr is) = among_more (left_between from to) (own_objects f) (ended f to) own n is
