-- Arguments leave their values, the last one newest.
use Rattle.std.proofs.Common.{◌≡◌, ℕ, suc, ◌+◌, Bool, List, [], ◌∷◌, ◌++◌, reverse, length, Option, append_assoc, refl, ap, sym, ◌∙◌, arith}
use Rattle.std.proofs.lemmas.List.{reverse-append}
use Rattle.c_layout.specs.CheckedTrees as tree
use Rattle.c_layout.specs.CheckedTrees.{TermTrees}
use Rattle.c_layout.specs.CheckedUnits.{UnitView, FunctionView}
use Rattle.semantics.specs.SourceMachine.TermItems.{arguments, argument_count}
use Rattle.source_items.specs.Operations.Kinds.{Kind}
use Rattle.source_items.specs.StackKinds.KindedTerms.{term_kind, argument_kinds, HaveParameters, KindedTerms}
use Rattle.source_items.specs.StackKinds.KindedItems.{parameter_kinds}
use Rattle.source_items.proofs.stack_kinds.ItemWalks.{Leads}
use Rattle.source_items.proofs.stack_kinds.Leading.{kinds}

abbrev pub stacked : TermTrees → List Kind → List Kind
stacked tree.End ks = ks
stacked (tree.More e rest) ks = stacked rest (term_kind e ∷ ks)

pub arguments_lead : (u : UnitView) (f : FunctionView) (called : Option Bool) (args : TermTrees) (ks : List Kind) → KindedTerms u args → Leads (kinds u f called) (arguments args) ks (stacked args ks)
arguments_lead u f called tree.End ks kinded rest = refl
arguments_lead u f called (tree.More e args) ks kinded rest = (term_kind e ∷ ks, (kinded.0, refl), arguments_lead u f called args (term_kind e ∷ ks) kinded.1 rest)

pub stacked_reverse : (args : TermTrees) (ks : List Kind) → stacked args ks ≡ reverse (argument_kinds args) ++ ks
stacked_reverse tree.End ks = refl
stacked_reverse (tree.More e args) ks = stacked_reverse args (term_kind e ∷ ks) ∙ (sym (append_assoc (reverse (argument_kinds args)) (term_kind e ∷ []) ks) ∙ ap (λ xs. xs ++ ks) (sym (reverse-append (term_kind e ∷ []) (argument_kinds args))))

pub kinds_counted : (args : TermTrees) → length (argument_kinds args) ≡ argument_count args
kinds_counted tree.End = refl
kinds_counted (tree.More e args) =
    let next : suc (argument_count args) ≡ argument_count args + 1 = omega arith in
    ap suc (kinds_counted args) ∙ next

module _ (f : FunctionView) where
  pub stacked_parameters : (n : ℕ) (args : TermTrees) (ks : List Kind) → HaveParameters f n args → stacked args (parameter_kinds f n ++ ks) ≡ parameter_kinds f f.parameters ++ ks
  stacked_parameters n tree.End ks have = ap (λ m. parameter_kinds f m ++ ks) have
  stacked_parameters n (tree.More e args) ks have =
      let next : suc n ≡ n + 1 = omega arith in
      ap (λ k. stacked args (k ∷ (parameter_kinds f n ++ ks))) have.0 ∙ (ap (λ m. stacked args (parameter_kinds f m ++ ks)) next ∙ stacked_parameters (n + 1) args ks have.1)

  pub parameters_counted : (n : ℕ) (args : TermTrees) → HaveParameters f n args → n + argument_count args ≡ f.parameters
  parameters_counted n tree.End have = let same : n + 0 ≡ n = omega arith in same ∙ have
  parameters_counted n (tree.More e args) have =
      let same : n + (argument_count args + 1) ≡ (n + 1) + argument_count args = omega arith in
      same ∙ parameters_counted (n + 1) args have.1
