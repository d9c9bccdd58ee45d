-- A condition that reads a line takes a pointer, a number and a pointer.
use Rattle.std.proofs.Common.{◌≡◌, pos, Bool, true, List, [], ◌∷◌, Option, Some, None, inl, inr, refl, ap, sym, subst, ◌∙◌}
use Rattle.cc_base.specs.declared.diagnostics.Place.{Place}
use Rattle.cc_base.specs.declared.int_types.IntType.{IntType}
use Rattle.c_layout.specs.CheckedTrees as tree
use Rattle.c_layout.specs.CheckedTrees.{TermTree, TermTrees, Typed}
use Rattle.c_layout.specs.CheckedUnits.{UnitView}
use Rattle.c_layout.specs.Types.{Ty}
use Rattle.c_layout.specs.declared.checked_tree.checked_terms.ConversionKind.TheVariants.{Implicit}
use Rattle.c_layout.specs.declared.library_functions.LibFn.{LibFn}
use Rattle.c_layout.specs.declared.library_functions.LibFn.TheVariants.{Fgets}
use Rattle.lower_conditions.specs.Conditions.{LineCallView, line_call_of, line_call_in, line_call, ReadView, read_by}
use Rattle.source_items.proofs.stack_kinds.FoundItems.{IfSome}
use Rattle.source_items.proofs.stack_kinds.LineCalls.{read_tested, read_compared}
use Rattle.source_items.specs.Operations.Kinds.{Kind, Number, Address}
use Rattle.source_preservation.specs.ValueTyping.Marks.{Mark, Ranged, Pointing}
use Rattle.source_preservation.specs.ValueTyping.MarkOperations.{AreOfKinds}
use Rattle.source_preservation.specs.WellTyped.WellTypedTerms.{argument_marks, CallsLibrary, WellTypedTerm, WellTypedTerms}
use Rattle.source_preservation.proofs.items.ExactConditions.{no_line}

-- a call that reads a line takes a pointer, a number and a pointer
pub record ReadsLine (u : UnitView) (args : TermTrees) : Type 0 where
  pub well_typed : WellTypedTerms u args
  pub count : IntType
  pub are : argument_marks args ≡ Pointing ∷ (Ranged count ∷ (Pointing ∷ []))

abbrev LineCalled : UnitView → Option LineCallView → Type 0
LineCalled u = IfSome (λ c. ReadsLine u c.arguments)

abbrev pub LineRead : UnitView → Option ReadView → Type 0
LineRead u = IfSome (λ r. ReadsLine u r.call.arguments)

-- ---- marks of kinds

no_kinds : (k : Kind) (ks : List Kind) → [] ≡ k ∷ ks → ⊥
no_kinds k ks e = cc

no_number : (ks more : List Kind) → Address ∷ ks ≡ Number ∷ more → ⊥
no_number ks more e = cc

others : (k : Kind) (ks more : List Kind) → k ∷ ks ≡ k ∷ more → more ≡ ks
others k ks more e = cc

no_marks : (marks : List Mark) → AreOfKinds marks [] → marks ≡ []
no_marks [] are = refl
no_marks (Ranged kind ∷ marks) are = absurd (no_kinds Number are.0 are.1)
no_marks (Pointing ∷ marks) are = absurd (no_kinds Address are.0 are.1)
no_marks (k ∷ marks) are = absurd are

pointer_first : (marks : List Mark) (ks : List Kind) → AreOfKinds marks (Address ∷ ks) → (more : List Mark) × (marks ≡ Pointing ∷ more) × AreOfKinds more ks
pointer_first [] ks are = absurd (no_kinds Address ks (sym are))
pointer_first (Ranged kind ∷ marks) ks are = absurd (no_number ks are.0 are.1)
pointer_first (Pointing ∷ marks) ks are = (marks, refl, subst (AreOfKinds marks) (others Address ks are.0 are.1) are.2)
pointer_first (k ∷ marks) ks are = absurd are

number_first : (marks : List Mark) (ks : List Kind) → AreOfKinds marks (Number ∷ ks) → (kind : IntType) × (more : List Mark) × (marks ≡ Ranged kind ∷ more) × AreOfKinds more ks
number_first [] ks are = absurd (no_kinds Number ks (sym are))
number_first (Ranged kind ∷ marks) ks are = (kind, marks, refl, subst (AreOfKinds marks) (others Number ks are.0 are.1) are.2)
number_first (Pointing ∷ marks) ks are = absurd (no_number are.0 ks (sym are.1))
number_first (k ∷ marks) ks are = absurd are

three_marks : (marks : List Mark) → AreOfKinds marks (Address ∷ (Number ∷ (Address ∷ []))) → (kind : IntType) × (marks ≡ Pointing ∷ (Ranged kind ∷ (Pointing ∷ [])))
three_marks marks are =
    let text = pointer_first marks (Number ∷ (Address ∷ [])) are in
    let count = number_first text.0 (Address ∷ []) text.2 in
    let stream = pointer_first count.1 [] count.3 in
    (count.0, text.1 ∙ ap (λ more. Pointing ∷ more) (count.2 ∙ ap (λ more. Ranged count.0 ∷ more) (stream.1 ∙ ap (λ more. Pointing ∷ more) (no_marks stream.0 stream.2))))

-- ---- calls in conditions

module _ (u : UnitView) where
  reads_line : (used : Bool) (t : Ty) (args : TermTrees) → WellTypedTerms u args → CallsLibrary u used t Fgets args → ReadsLine u args
  reads_line used t args well_typed calls =
      let three = three_marks (argument_marks args) (subst (AreOfKinds (argument_marks args)) calls.accepts calls.are) in
      record { well_typed = well_typed; count = three.0; are = three.1 }

  library_called : (used : Bool) (t : Ty) (at : Place) (function : LibFn) (args : TermTrees) → WellTypedTerms u args → CallsLibrary u used t function args → LineCalled u (line_call_of at function args)
  library_called used t at Fgets args well_typed calls = reads_line used t args well_typed calls
  library_called used t at other args well_typed calls = tt

  called_in : (used : Bool) (e : TermTree) → WellTypedTerm u used e → LineCalled u (line_call_in e)
  called_in used (Typed at t parens fixed (tree.Library function args allocated)) well_typed = library_called used t at function args well_typed.0 well_typed.1
  called_in used (Typed at t parens fixed form) well_typed = tt

  nothing_called : (o : Option LineCallView) → o ≡ None → LineCalled u o
  nothing_called None is = tt
  nothing_called (Some c) is = let no : ⊥ = cc in absurd no

  line_called : (e : TermTree) → WellTypedTerm u true e → LineCalled u (line_call e)
  line_called (Typed at t parens fixed (tree.Convert Implicit a)) well_typed = elim well_typed.1 [ inl m ↦ line_called a m.0 | inr exact ↦ nothing_called (line_call a) (no_line u.model a (pos 0) exact.1) ]
  line_called e well_typed = called_in true e well_typed

  pub line_read : (e : TermTree) → WellTypedTerm u true e → LineRead u (read_by e)
  line_read (Typed at t parens fixed (tree.Compare sign left right)) well_typed = read_compared (λ c. ReadsLine u c.arguments) sign left right (line_called left well_typed.0) (line_called right well_typed.1)
  line_read e well_typed = read_tested (λ c. ReadsLine u c.arguments) (line_call e) true (line_called e well_typed)
