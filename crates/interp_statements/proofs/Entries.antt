-- Entries that say what follows a condition, and others.
use Rattle.std.proofs.Common.{◌≡◌, Bool, true, false, [], refl}
use Rattle.std.specs.Borrow.{Bor}
use Rattle.c_layout.specs.declared.checked_tree.checked_terms.CheckedTerm.{CheckedTerm}
use Rattle.c_layout.specs.declared.checked_tree.checked_statements.CheckedStatement.{CheckedStatement}
use Rattle.c_layout.specs.CheckedTrees.{TermTree, StatementTree, term_tree, statement_tree}
use Rattle.c_layout.specs.CheckedUnits.{UnitView}
use Rattle.interp_stack.specs.StackViews.{StackView, on_item, on_term, on_statement}
use Rattle.interp_stack.specs.declared.items.Item7.{Item7}
use Rattle.interp_stack.specs.declared.items.Item7.TheVariants as held
use Rattle.interp_stack.specs.declared.items.Use7.{Use7}
use Rattle.interp_stack.specs.declared.items.Use7.TheVariants as use_of
use Rattle.interp_stack.specs.declared.items.Way7.{Way7}
use Rattle.interp_stack.specs.declared.items.Way7.TheVariants as way
use Rattle.interp_statements.specs.Choices.{is_target, is_target_term, is_target_statement}

target_term : (u : UnitView) (how : Use7) (e : TermTree) (s : StackView) → is_target_term how ≡ true → (on_term u how e s).items ≡ s.items
target_term u (use_of.After arm) e s h = refl
target_term u how e s h = cc

target_statement : (how : Way7) (x : StatementTree) (s : StackView) → is_target_statement how ≡ true → (on_statement how x s).items ≡ s.items
target_statement (way.After next) x s h = refl
target_statement how x s h = cc

pub target_items : (u : UnitView) (i : Item7) (s : StackView) → is_target i ≡ true → (on_item u i s).items ≡ s.items
target_items u held.AfterNothing s h = refl
target_items u (held.AfterTruth holds) s h = refl
target_items u (held.Term how e) s h = target_term u how (term_tree e.now) s h
target_items u (held.Statement how x) s h = target_statement how (statement_tree x.now) s h
target_items u i s h = cc

-- what has parts of conditions
abbrev pub is_part : Item7 → Bool
is_part held.AfterNothing = true
is_part (held.AfterTruth holds) = true
is_part held.Negated = true
is_part (held.Term how e) = true
is_part (held.Statement how x) = true
is_part i = false

pub no_ways : (u : UnitView) (i : Item7) (s : StackView) → is_part i ≡ false → ((on_item u i s).yes ≡ []) × ((on_item u i s).no ≡ [])
no_ways u held.AfterNothing s h = cc
no_ways u (held.AfterTruth holds) s h = cc
no_ways u held.Negated s h = cc
no_ways u (held.Term how e) s h = cc
no_ways u (held.Statement how x) s h = cc
no_ways u (held.ReadLine at true) s h = (refl, refl)
no_ways u (held.ReadLine at false) s h = (refl, refl)
no_ways u i s h = (refl, refl)

pub no_part : (i : Item7) → (i ≡ held.AfterNothing → ⊥) → ((holds : Bool) → i ≡ held.AfterTruth holds → ⊥) → (i ≡ held.Negated → ⊥) → ((how : Use7) (e : Bor CheckedTerm) → i ≡ held.Term how e → ⊥) → ((how : Way7) (x : Bor CheckedStatement) → i ≡ held.Statement how x → ⊥) → is_part i ≡ false
no_part held.AfterNothing a b n c d = absurd (a refl)
no_part (held.AfterTruth holds) a b n c d = absurd (b holds refl)
no_part held.Negated a b n c d = absurd (n refl)
no_part (held.Term how e) a b n c d = absurd (c how e refl)
no_part (held.Statement how x) a b n c d = absurd (d how x refl)
no_part i a b n c d = refl
