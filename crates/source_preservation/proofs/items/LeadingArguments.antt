-- Arguments leave their values, the last one newest.
use Rattle.std.proofs.Common.{◌≡◌, ℕ, suc, ◌+◌, Bool, List, [], ◌∷◌, ◌++◌, reverse, length, Option, append_assoc, refl, ap, sym, ◌∙◌, arith}
use Rattle.std.proofs.lemmas.List.{reverse-append}
use Rattle.c_layout.specs.CheckedTrees as tree
use Rattle.c_layout.specs.CheckedTrees.{TermTrees}
use Rattle.c_layout.specs.CheckedUnits.{UnitView, FunctionView}
use Rattle.semantics.specs.SourceMachine.TermItems.{arguments, argument_count}
use Rattle.source_preservation.specs.ValueTyping.Marks.{Mark, AreStable}
use Rattle.source_preservation.specs.WellTyped.WellTypedTerms.{term_mark, argument_marks, HaveParameters, WellTypedTerms}
use Rattle.source_preservation.specs.WellTyped.WellTypedItems.{by_type, parameter_marks}
use Rattle.source_items.proofs.stack_kinds.ItemWalks.{Leads}
use Rattle.source_preservation.proofs.items.Leading.{marks, stable_above}

abbrev pub stacked : TermTrees → List Mark → List Mark
stacked tree.End ks = ks
stacked (tree.More e rest) ks = stacked rest (term_mark e ∷ ks)

pub arguments_lead : (u : UnitView) (f : FunctionView) (called : Option Bool) (args : TermTrees) (ks : List Mark) → WellTypedTerms u args → AreStable ks → Leads (marks u f called) (arguments args) ks (stacked args ks)
arguments_lead u f called tree.End ks well_typed stable rest = refl
arguments_lead u f called (tree.More e args) ks well_typed stable rest = (term_mark e ∷ ks, by_type well_typed.0 stable refl, arguments_lead u f called args (term_mark e ∷ ks) well_typed.1 (stable_above e ks stable) rest)

pub stacked_reverse : (args : TermTrees) (ks : List Mark) → stacked args ks ≡ reverse (argument_marks args) ++ ks
stacked_reverse tree.End ks = refl
stacked_reverse (tree.More e args) ks = stacked_reverse args (term_mark e ∷ ks) ∙ (sym (append_assoc (reverse (argument_marks args)) (term_mark e ∷ []) ks) ∙ ap (λ xs. xs ++ ks) (sym (reverse-append (term_mark e ∷ []) (argument_marks args))))

pub marks_counted : (args : TermTrees) → length (argument_marks args) ≡ argument_count args
marks_counted tree.End = refl
marks_counted (tree.More e args) =
    let next : suc (argument_count args) ≡ argument_count args + 1 = omega arith in
    ap suc (marks_counted args) ∙ next

module _ (f : FunctionView) where
  pub stacked_parameters : (n : ℕ) (args : TermTrees) (ks : List Mark) → HaveParameters f n args → stacked args (parameter_marks f n ++ ks) ≡ parameter_marks f f.parameters ++ ks
  stacked_parameters n tree.End ks have = ap (λ m. parameter_marks f m ++ ks) have
  stacked_parameters n (tree.More e args) ks have =
      let next : suc n ≡ n + 1 = omega arith in
      ap (λ k. stacked args (k ∷ (parameter_marks f n ++ ks))) have.0 ∙ (ap (λ m. stacked args (parameter_marks f m ++ ks)) next ∙ stacked_parameters (n + 1) args ks have.1)

  pub parameters_counted : (n : ℕ) (args : TermTrees) → HaveParameters f n args → n + argument_count args ≡ f.parameters
  parameters_counted n tree.End have = let same : n + 0 ≡ n = omega arith in same ∙ have
  parameters_counted n (tree.More e args) have =
      let same : n + (argument_count args + 1) ≡ (n + 1) + argument_count args = omega arith in
      same ∙ parameters_counted (n + 1) args have.1
