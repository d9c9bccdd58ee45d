-- Items that lead from kinds of values to others.
use Rattle.std.proofs.Common.{◌≡◌, Bool, true, List, ◌∷◌, Option, ap, sym}
use Rattle.c_layout.specs.CheckedTrees.{TermTree}
use Rattle.c_layout.specs.CheckedUnits.{UnitView, FunctionView}
use Rattle.semantics.specs.SourceMachine.Items as item
use Rattle.semantics.specs.SourceMachine.Items.{Item}
use Rattle.source_items.specs.Operations.Kinds.{Kind}
use Rattle.source_items.specs.StackKinds.KindedTerms.{term_kind, KindedTerm}
use Rattle.source_items.specs.StackKinds.KindedItems.{Effect, AllDo, Does}
use Rattle.source_items.proofs.stack_kinds.ItemWalks.{Walk}

abbrev pub kinds : UnitView → FunctionView → Option Bool → Walk
kinds u f called = record {
  Tag = Kind;
  Effect = Effect u f called;
  Does = Does u f called;
  AllDo = AllDo u f called;
  next = λ i items before mid after effect does. (mid, effect, does);
  none = λ rest before after same. same;
  none_is = λ rest before after same. same;
  more = λ i items rest before mid after effect all. (mid, effect, all);
  more_is = λ i items rest before after all. all;
}

pub valued : (u : UnitView) (f : FunctionView) (called : Option Bool) (e : TermTree) (k : Kind) (rest : List Item) (ks : List Kind) → KindedTerm u true e → term_kind e ≡ k → Effect u f called (item.Value e) rest ks (k ∷ ks)
valued u f called e k rest ks kinded is = (kinded, ap (λ k. k ∷ ks) (sym is))
