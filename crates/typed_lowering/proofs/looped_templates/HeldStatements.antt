-- Statements whose terms are plain, and whose jumps have their loops, switches and labels.
use Rattle.std.proofs.Common.{◌≡◌, ℕ, suc, ◌+◌, Bool, true, false, List, ◌++◌, length, Option, Some, None, sym}
use Rattle.c_layout.specs.CheckedTrees as tree
use Rattle.c_layout.specs.CheckedTrees.{StatementTree, StatementTrees}
use Rattle.c_layout.specs.CheckedUnits.{FunctionView, UnitView}
use Rattle.typed_lowering.specs.LoopedUnits.LoopedStatements.{is_looped_statement, are_looped_statements}
use Rattle.typed_programs.specs.PlainUnits.PlainTerms.{is_plain_term, is_plain_place, is_plain_option}
use Rattle.typed_programs.specs.PlainUnits.PlainStatements.{are_plain_stores}
use Rattle.typed_programs.specs.PlainWorklists.SwitchLabels.{HasDefault}
use Rattle.typed_programs.proofs.plain_worklists.LeadingWorks.{both}
use Rattle.lower_functions.specs.Statements.Switches.{choice_at}
use Rattle.lower_templates.specs.Worklist.Settings.{SettingView}
use Rattle.semantics.specs.SourceMachine.LabelSearch as sought
use Rattle.simulation_statements.specs.SwitchLabels.Choices.{HasChoices, AllHaveChoices}
use Rattle.simulation_statements.specs.Labels.LabelScopes.{stands_in}
use Rattle.simulation_statements.proofs.switch_tables.CountedLabels.{default_counted}
use Rattle.simulation_terms.specs.Scopes.Scopes.{scopes_in, all_scopes_in, switches_in, all_switches_in}
use Rattle.simulation_terms.specs.Scopes.SuitedStatements.{Enclosure, not_enclosed, by_loop, by_switch, HasCases, HasLabel, SuitsIn, AllSuitIn}

module _ (calls : ℕ → Bool) (s : SettingView) (f : FunctionView) where
  abbrev mutual
    -- a statement in a loop or switch or not, and in a loop or not, behind which so many switches began
    pub IsHeld : Bool → Bool → ℕ → StatementTree → Type 0
    IsHeld breaks loops b (tree.Value e) = is_plain_term calls e ≡ true
    IsHeld breaks loops b tree.Nothing = Unit {0}
    IsHeld breaks loops b (tree.Forget at local) = Unit {0}
    IsHeld breaks loops b (tree.Start at local e) = is_plain_term calls e ≡ true
    IsHeld breaks loops b (tree.StartCopy at local l) = is_plain_place calls l ≡ true
    IsHeld breaks loops b (tree.StartList at local stores) = are_plain_stores calls stores ≡ true
    IsHeld breaks loops b (tree.Block objects items) = AreHeld breaks loops b items
    IsHeld breaks loops b (tree.If e body) = (is_plain_term calls e ≡ true) × IsHeld breaks loops b body
    IsHeld breaks loops b (tree.IfElse e first second) = (is_plain_term calls e ≡ true) × IsHeld breaks loops b first × IsHeld breaks loops (b + switches_in first) second
    IsHeld breaks loops b (tree.While e body) = (is_plain_term calls e ≡ true) × IsHeld true true b body
    IsHeld breaks loops b (tree.Do body e) = (is_plain_term calls e ≡ true) × IsHeld true true b body
    IsHeld breaks loops b (tree.For objects first e step body) = (is_plain_option calls e ≡ true) × (is_plain_option calls step ≡ true) × AreHeld false false b first × IsHeld true true (b + all_switches_in first) body
    IsHeld breaks loops b (tree.Switch at e labels has_default values body) = (is_plain_term calls e ≡ true) × HasCases (length labels) body × HasDefault (choice_at s b).fallback body × IsHeld true loops (suc b) body
    IsHeld breaks loops b (tree.Case n body) = IsHeld breaks loops b body
    IsHeld breaks loops b (tree.Default body) = IsHeld breaks loops b body
    IsHeld breaks loops b (tree.Label n body) = IsHeld breaks loops b body
    IsHeld breaks loops b (tree.Goto n) = HasLabel f n
    IsHeld breaks loops b tree.Break = breaks ≡ true
    IsHeld breaks loops b tree.Continue = loops ≡ true
    IsHeld breaks loops b (tree.Return at e) = is_plain_option calls e ≡ true

    pub AreHeld : Bool → Bool → ℕ → StatementTrees → Type 0
    AreHeld breaks loops b tree.NoMore = Unit {0}
    AreHeld breaks loops b (tree.And first rest) = IsHeld breaks loops b first × AreHeld breaks loops (b + switches_in first) rest

default_there : (body : StatementTree) (k c : ℕ) (o : Option ℕ) → o ≡ stands_in sought.other body k c → HasDefault o body
default_there body k c None e = tt
default_there body k c (Some scope) e = default_counted body k c scope (sym e)

module _ (calls : ℕ → Bool) (s : SettingView) (u : UnitView) (f : FunctionView) where
  mutual
    held : (i : StatementTree) (enclosed : Enclosure) (known : List ℕ) (k c b : ℕ) → is_looped_statement calls i ≡ true → SuitsIn u f enclosed known i → HasChoices s i k c b → IsHeld calls s f enclosed.breaks enclosed.continues b i
    held (tree.Value e) enclosed known k c b looped suits has = looped
    held tree.Nothing enclosed known k c b looped suits has = tt
    held (tree.Forget at local) enclosed known k c b looped suits has = tt
    held (tree.Start at local e) enclosed known k c b looped suits has = looped
    held (tree.StartCopy at local l) enclosed known k c b looped suits has = looped
    held (tree.StartList at local stores) enclosed known k c b looped suits has = looped
    held (tree.Block objects items) enclosed known k c b looped suits has = all_held items enclosed (objects ++ known) c (suc c) b looped suits.1 has
    held (tree.If e body) enclosed known k c b looped suits has = let x = both _ _ looped in (x.0, held body enclosed known k c b x.1 suits.1 has)
    held (tree.IfElse e first second) enclosed known k c b looped suits has =
        let x = both _ _ looped in
        let y = both _ _ x.1 in
        (x.0, held first enclosed known k c b y.0 suits.1 has.0, held second enclosed known k (c + scopes_in first) (b + switches_in first) y.1 suits.2 has.1)
    held (tree.While e body) enclosed known k c b looped suits has = let x = both _ _ looped in (x.0, held body by_loop known k c b x.1 suits.1 has)
    held (tree.Do body e) enclosed known k c b looped suits has = let x = both _ _ looped in (x.0, held body by_loop known k c b x.1 suits.0 has)
    held (tree.For objects first e step body) enclosed known k c b looped suits has =
        let x = both _ _ looped in
        let y = both _ _ x.1 in
        let z = both _ _ y.0 in
        (z.0, z.1, all_held first not_enclosed (objects ++ known) c (suc c) b x.0 suits.1 has.0, held body by_loop (objects ++ known) c (suc c + all_scopes_in first) (b + all_switches_in first) y.1 suits.4 has.1)
    held (tree.Switch at e labels has_default values body) enclosed known k c b looped suits has =
        let x = both _ _ looped in
        (x.0, suits.3, default_there body k c (choice_at s b).fallback has.0.fallback, held body (by_switch enclosed) known k c (suc b) x.1 suits.4 has.1)
    held (tree.Case n body) enclosed known k c b looped suits has = held body enclosed known k c b looped suits has
    held (tree.Default body) enclosed known k c b looped suits has = held body enclosed known k c b looped suits has
    held (tree.Label n body) enclosed known k c b looped suits has = held body enclosed known k c b looped suits has
    held (tree.Goto n) enclosed known k c b looped suits has = suits
    held tree.Break enclosed known k c b looped suits has = suits
    held tree.Continue enclosed known k c b looped suits has = suits
    held (tree.Return at e) enclosed known k c b looped suits has = looped

    pub all_held : (items : StatementTrees) (enclosed : Enclosure) (known : List ℕ) (k c b : ℕ) → are_looped_statements calls items ≡ true → AllSuitIn u f enclosed known items → AllHaveChoices s items k c b → AreHeld calls s f enclosed.breaks enclosed.continues b items
    all_held tree.NoMore enclosed known k c b looped suits has = tt
    all_held (tree.And first rest) enclosed known k c b looped suits has =
        let x = both _ _ looped in
        (held first enclosed known k c b x.0 suits.0 has.0, all_held rest enclosed known k (c + scopes_in first) (b + switches_in first) x.1 suits.1 has.1)
