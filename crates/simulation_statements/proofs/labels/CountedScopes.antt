-- A label that has a scope is counted, one that is counted is found, and declarations and expressions have none.
use Rattle.std.proofs.Common.{◌≡◌, ◌≤◌, ℕ, suc, ◌+◌, Bool, true, false, cond, List, ◌++◌, Option, Some, None, refl, arith}
use Rattle.c_layout.specs.CheckedTrees as tree
use Rattle.c_layout.specs.CheckedTrees.{StatementTree, StatementTrees}
use Rattle.c_layout.specs.CheckedUnits.{UnitView, FunctionView}
use Rattle.semantics.specs.SourceMachine.Items.{Item}
use Rattle.semantics.specs.SourceMachine.LabelSearch as sought
use Rattle.semantics.specs.SourceMachine.LabelSearch.{Sought, is_label, is_case, is_other, found, found_in}
use Rattle.semantics.proofs.source_machine.CountedLabels.{is_deep, counted, all_counted, ClausesLack, AllClausesLack, Reached, found_there, all_found_there}
use Rattle.simulation_terms.specs.Scopes.Scopes.{scopes_in, all_scopes_in}
use Rattle.simulation_terms.specs.Scopes.SuitedStatements.{Enclosure, by_loop, by_switch, IsPlain, ArePlain, SuitsIn, AllSuitIn}
use Rattle.simulation_statements.specs.Labels.FoundLabels.{IsThere}
use Rattle.simulation_statements.specs.Labels.LabelScopes.{either, this_or, inside_switch, stands_in, all_stand_in}

-- ---- in one of two places

pub never : {A : Type 0} (x : A) → None ≡ Some x → ⊥
never x e = cc

more_left : (a b : ℕ) → 1 ≤ a → 1 ≤ a + b
more_left a b e = omega (arith, e)

more_right : (a b : ℕ) → 1 ≤ b → 1 ≤ a + b
more_right a b e = omega (arith, e)

no_sum : (a b : ℕ) → a ≡ 0 → b ≡ 0 → a + b ≡ 0
no_sum a b x y = omega (arith, x, y)

either_counted : (a b : ℕ) (x y : Option ℕ) (number : ℕ) → either x y ≡ Some number → ((j : ℕ) → x ≡ Some j → 1 ≤ a) → ((j : ℕ) → y ≡ Some j → 1 ≤ b) → 1 ≤ a + b
either_counted a b (Some j) y number e one other = more_left a b (one j refl)
either_counted a b None y number e one other = more_right a b (other number e)

this_counted : (is : Bool) (k a : ℕ) (x : Option ℕ) (number : ℕ) → this_or is k x ≡ Some number → ((j : ℕ) → x ≡ Some j → 1 ≤ a) → 1 ≤ cond is 1 0 + a
this_counted true k a x number e later = more_left 1 a (omega arith)
this_counted false k a x number e later = more_right 0 a (later number e)

inside_counted : (l : Sought) (a : ℕ) (x : Option ℕ) (number : ℕ) → inside_switch l x ≡ Some number → ((j : ℕ) → x ≡ Some j → 1 ≤ a) → 1 ≤ cond (is_deep l) a 0
inside_counted (sought.label n) a x number e inside = inside number e
inside_counted (sought.case n) a x number e inside = absurd (never number e)
inside_counted sought.other a x number e inside = absurd (never number e)

-- ---- statements

module _ (l : Sought) where
  mutual
    pub scope_counted : (i : StatementTree) (k c number : ℕ) → stands_in l i k c ≡ Some number → 1 ≤ counted l i
    scope_counted (tree.Block objects items) k c number is = all_scopes_counted items c (suc c) number is
    scope_counted (tree.If e body) k c number is = scope_counted body k c number is
    scope_counted (tree.IfElse e first second) k c number is =
        either_counted (counted l first) (counted l second) (stands_in l first k c) (stands_in l second k (c + scopes_in first)) number is (λ j e. scope_counted first k c j e) (λ j e. scope_counted second k (c + scopes_in first) j e)
    scope_counted (tree.While e body) k c number is = scope_counted body k c number is
    scope_counted (tree.Do body e) k c number is = scope_counted body k c number is
    scope_counted (tree.For objects first e step body) k c number is = more_right (all_counted l first) (counted l body) (scope_counted body c (suc c + all_scopes_in first) number is)
    scope_counted (tree.Switch at e labels has_default values body) k c number is = inside_counted l (counted l body) (stands_in l body k c) number is (λ j e. scope_counted body k c j e)
    scope_counted (tree.Case n body) k c number is = this_counted (is_case l n) k (counted l body) (stands_in l body k c) number is (λ j e. scope_counted body k c j e)
    scope_counted (tree.Default body) k c number is = this_counted (is_other l) k (counted l body) (stands_in l body k c) number is (λ j e. scope_counted body k c j e)
    scope_counted (tree.Label n body) k c number is = this_counted (is_label l n) k (counted l body) (stands_in l body k c) number is (λ j e. scope_counted body k c j e)
    scope_counted i k c number is = absurd (never number is)

    pub all_scopes_counted : (items : StatementTrees) (k c number : ℕ) → all_stand_in l items k c ≡ Some number → 1 ≤ all_counted l items
    all_scopes_counted tree.NoMore k c number is = absurd (never number is)
    all_scopes_counted (tree.And first rest) k c number is =
        either_counted (counted l first) (all_counted l rest) (stands_in l first k c) (all_stand_in l rest k (c + scopes_in first)) number is (λ j e. scope_counted first k c j e) (λ j e. all_scopes_counted rest k (c + scopes_in first) j e)

  plain_lacks : (i : StatementTree) → IsPlain i → counted l i ≡ 0
  plain_lacks (tree.Value e) plain = refl
  plain_lacks tree.Nothing plain = refl
  plain_lacks (tree.Forget at object) plain = refl
  plain_lacks (tree.Start at object e) plain = refl
  plain_lacks (tree.StartCopy at object x) plain = refl
  plain_lacks (tree.StartList at object stores) plain = refl
  plain_lacks i plain = absurd plain

  pub plains_lack : (items : StatementTrees) → ArePlain items → all_counted l items ≡ 0
  plains_lack tree.NoMore plain = refl
  plains_lack (tree.And one rest) plain = no_sum (counted l one) (all_counted l rest) (plain_lacks one plain.0) (plains_lack rest plain.1)

  module _ (u : UnitView) (f : FunctionView) where
    mutual
      clauses_lack : (i : StatementTree) (enclosed : Enclosure) (known : List ℕ) → SuitsIn u f enclosed known i → ClausesLack l i
      clauses_lack (tree.Block objects items) enclosed known suits = all_clauses_lack items enclosed (objects ++ known) suits.1
      clauses_lack (tree.If e body) enclosed known suits = clauses_lack body enclosed known suits.1
      clauses_lack (tree.IfElse e one two) enclosed known suits = (clauses_lack one enclosed known suits.1, clauses_lack two enclosed known suits.2)
      clauses_lack (tree.While e body) enclosed known suits = clauses_lack body by_loop known suits.1
      clauses_lack (tree.Do body e) enclosed known suits = clauses_lack body by_loop known suits.0
      clauses_lack (tree.For objects begin e step body) enclosed known suits = (plains_lack begin suits.5, clauses_lack body by_loop (objects ++ known) suits.4)
      clauses_lack (tree.Switch at e cases has_default values body) enclosed known suits = clauses_lack body (by_switch enclosed) known suits.4
      clauses_lack (tree.Case n body) enclosed known suits = clauses_lack body enclosed known suits
      clauses_lack (tree.Default body) enclosed known suits = clauses_lack body enclosed known suits
      clauses_lack (tree.Label n body) enclosed known suits = clauses_lack body enclosed known suits
      clauses_lack i enclosed known suits = tt

      all_clauses_lack : (items : StatementTrees) (enclosed : Enclosure) (known : List ℕ) → AllSuitIn u f enclosed known items → AllClausesLack l items
      all_clauses_lack tree.NoMore enclosed known suits = tt
      all_clauses_lack (tree.And one rest) enclosed known suits = (clauses_lack one enclosed known suits.0, all_clauses_lack rest enclosed known suits.1)

    there : (o : Option (List Item)) → Reached o → IsThere o
    there o reached = record { to = reached.0; is = reached.1 }

    pub suited_found : (i : StatementTree) (enclosed : Enclosure) (known : List ℕ) (rest : List Item) → SuitsIn u f enclosed known i → 1 ≤ counted l i → IsThere (found u l i rest)
    suited_found i enclosed known rest suits some = there (found u l i rest) (found_there u l i rest (clauses_lack i enclosed known suits) some)

    pub all_suited_found : (items : StatementTrees) (enclosed : Enclosure) (known : List ℕ) (rest : List Item) → AllSuitIn u f enclosed known items → 1 ≤ all_counted l items → IsThere (found_in u l items rest)
    all_suited_found items enclosed known rest suits some = there (found_in u l items rest) (all_found_there u l items rest (all_clauses_lack items enclosed known suits) some)
