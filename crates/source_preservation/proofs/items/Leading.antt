-- Items that lead from marks of values to others.
use Rattle.std.proofs.Common.{◌≡◌, Bool, true, List, ◌∷◌, Option, ap, sym}
use Rattle.c_layout.specs.CheckedTrees.{TermTree}
use Rattle.c_layout.specs.CheckedUnits.{UnitView, FunctionView}
use Rattle.lower_templates.specs.Worklist.TermKinds.{term_type}
use Rattle.semantics.specs.SourceMachine.Items as item
use Rattle.semantics.specs.SourceMachine.Items.{Item}
use Rattle.source_items.proofs.stack_kinds.ItemWalks.{Walk}
use Rattle.source_preservation.specs.ValueTyping.Marks.{Mark, AreStable}
use Rattle.source_preservation.specs.WellTyped.WellTypedTerms.{term_mark, WellTypedTerm}
use Rattle.source_preservation.specs.WellTyped.WellTypedItems.{by_type, Effect, AllDo, Does}
use Rattle.source_preservation.proofs.items.TypeMarks.{stable_type}

abbrev pub marks : UnitView → FunctionView → Option Bool → Walk
marks u f called = record {
  Tag = Mark;
  Effect = Effect u f called;
  Does = Does u f called;
  AllDo = AllDo u f called;
  next = λ i items before mid after effect does. (mid, effect, does);
  none = λ rest before after same. same;
  none_is = λ rest before after same. same;
  more = λ i items rest before mid after effect all. (mid, effect, all);
  more_is = λ i items rest before after all. all;
}

pub stable_above : (e : TermTree) (ks : List Mark) → AreStable ks → AreStable (term_mark e ∷ ks)
stable_above e ks stable = (stable_type (term_type e), stable)

pub valued : (u : UnitView) (f : FunctionView) (called : Option Bool) (e : TermTree) (k : Mark) (rest : List Item) (ks : List Mark) → WellTypedTerm u true e → term_mark e ≡ k → AreStable ks → Effect u f called (item.Value e) rest ks (k ∷ ks)
valued u f called e k rest ks well_typed is stable = by_type well_typed stable (ap (λ k. k ∷ ks) (sym is))
