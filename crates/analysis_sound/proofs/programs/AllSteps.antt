-- All instructions are sound where those are on which it is open.
use Rattle.std.proofs.Common.{◌≡◌, ℕ, true, Option, Some, None, subst, refl, sym, inl, inr}
use Rattle.std.specs.Prelude.{ℤ}
use Rattle.cc_base.specs.Lattices.{LatticeOf, OrderLaws}
use Rattle.cc_base.specs.IntegerDomains.{IntegersOf, BoundLaws, RangeLaws}
use Rattle.cc_base.specs.IntegerLaws.{SoundLaws}
use Rattle.cc_base.specs.declared.limit_table.Limits.{Limits}
use Rattle.c_layout.specs.declared.library_functions.LibFn.{LibFn}
use Rattle.c_layout.specs.declared.library_functions.LibFn.TheVariants as f
use Rattle.cfg.specs.WellFormed.{names_of, fits_operation, is_well_formed}
use Rattle.cfg.specs.declared.flow_edges.EdgeKind.{EdgeKind}
use Rattle.cfg.specs.declared.flow_edges.EdgeKind.TheVariants as kind
use Rattle.cfg.specs.declared.flow_edges.Test.{Test}
use Rattle.cfg.specs.declared.machine_instructions.Operation.{Operation}
use Rattle.cfg.specs.declared.machine_instructions.Operation.TheVariants as op
use Rattle.cfg.specs.declared.programs.Flow.{Flow}
use Rattle.store_sound.specs.Programs.Premises.{HasPremises}
use Rattle.transfer_sound.specs.Values.OperandTypes.{HasOperands}
use Rattle.transfer_sound.specs.Values.SoundSteps.{StepIsSound, AreSound}
use Rattle.transfer_sound.proofs.values.ValueSteps.{value_step_sound}
use Rattle.transfer_sound.proofs.values.PointerSteps.{pointer_step_sound}
use Rattle.transfer_sound.proofs.memory.LoadSteps.{load_sound}
use Rattle.transfer_sound.proofs.memory.StoreSteps.{store_sound}
use Rattle.transfer_sound.proofs.objects.Forgetting.{forget_sound}
use Rattle.transfer_sound.proofs.clear.Clearing.{clear_sound}
use Rattle.library_sound.proofs.spelling.SpellSteps.{spell_step_sound}
use Rattle.transfer_sound.proofs.enter.Entering.{enter_sound}
use Rattle.transfer_sound.proofs.leave.Leaving.{leave_sound}
use Rattle.library_sound.proofs.calls.ResultCalls.{result_call_sound}
use Rattle.library_sound.proofs.strings.StringCalls.{string_call_sound}
use Rattle.library_sound.proofs.prints.PrintCalls.{print_call_sound}
use Rattle.struct_copies_sound.proofs.FreeCalls.{free_call_sound}
use Rattle.library_sound.proofs.texts.TextSteps.{text_call_sound}
use Rattle.library_sound.proofs.fills.FillSteps.{fill_call_sound}
use Rattle.struct_copies_sound.proofs.copies.CopySteps.{copy_sound}
use Rattle.struct_copies_sound.proofs.CopySteps.{copy_call_sound}
use Rattle.library_sound.proofs.bounded_texts.BoundedSteps.{bounded_call_sound}
use Rattle.library_sound.proofs.appends.ApartTexts.{well_formed_apart}
use Rattle.library_sound.proofs.appends.AppendSteps.{append_call_sound}
use Rattle.struct_copies_sound.proofs.AllocationSteps.{allocation_call_sound}
use Rattle.struct_copies_sound.proofs.ReallocationCalls.{reallocation_call_sound}
use Rattle.library_sound.specs.Lines.LineEnds.{IsLineEnd}
use Rattle.library_sound.proofs.lines.LineEnds.{line_end_sound}
use Rattle.transfer_sound.specs.Induction.SoundEnds.{IsDoneIn, GoesOn, EndsBlock, EndIsSound, StepsGoOnSoundly, EndsGoOnSoundly}
use Rattle.transfer_sound.specs.Edges.EdgeSteps.{IsPlainEnd, TestIsSound, CaseIsSound, KindIsSound, TestsAreSound}
use Rattle.transfer_sound.proofs.edges.EdgeSteps.{end_sound}
use Rattle.transfer_sound.proofs.tests.IntegerTests.{test_sound}
use Rattle.transfer_sound.proofs.tests.PointerTests.{pointer_test_sound}
use Rattle.transfer_sound.proofs.tests.NullTests.{null_test_sound}
use Rattle.transfer_sound.proofs.tests.CaseSteps.{case_sound}
use Rattle.analysis_sound.specs.Programs.OpenSteps.{IsOpenStep, SpellsOverCharacters, AllocatesAtSites, CopiesListed, TestIsProved, CaseIsProved, KindIsProved, OpenTestsAreSound}

module _ {I : Type 0} {l : LatticeOf I} {n : IntegersOf I} {gamma : I → ℤ → Type 0} (o : OrderLaws l) (q : BoundLaws l n gamma) (c : SoundLaws l n gamma) (ranges : RangeLaws l n) (flow : Flow) (p : HasPremises flow) where
  module _ (limits : Limits) (good : is_well_formed limits flow ≡ true) (texts : SpellsOverCharacters flow) (sites : AllocatesAtSites flow) (copies : CopiesListed flow) (open_sound : AreSound l n gamma flow (λ o. IsOpenStep o × IsDoneIn flow o)) where
    pub steps_go_on : StepsGoOnSoundly l n gamma flow
    steps_go_on naming row s i goes fits typed r = by_operation i goes.0 goes.1 fits typed
      where
        by_name : (to : Option ℕ) (name : LibFn) (arguments : _) (site size : Option ℕ) → IsDoneIn flow (op.Library to name arguments site size) → fits_operation (names_of flow) (op.Library to name arguments site size) ≡ true → HasOperands (op.Library to name arguments site size) s.temps → StepIsSound l n gamma flow row (op.Library to name arguments site size) s
        by_name to f.Getchar arguments site size d e t = result_call_sound o q c flow p naming row s r to f.Getchar arguments site size tt e
        by_name to f.Putchar arguments site size d e t = result_call_sound o q c flow p naming row s r to f.Putchar arguments site size tt e
        by_name to f.Exit arguments site size d e t = result_call_sound o q c flow p naming row s r to f.Exit arguments site size tt e
        by_name to f.Abort arguments site size d e t = result_call_sound o q c flow p naming row s r to f.Abort arguments site size tt e
        by_name to f.Isalpha arguments site size d e t = result_call_sound o q c flow p naming row s r to f.Isalpha arguments site size tt e
        by_name to f.Isdigit arguments site size d e t = result_call_sound o q c flow p naming row s r to f.Isdigit arguments site size tt e
        by_name to f.Isspace arguments site size d e t = result_call_sound o q c flow p naming row s r to f.Isspace arguments site size tt e
        by_name to f.Isupper arguments site size d e t = result_call_sound o q c flow p naming row s r to f.Isupper arguments site size tt e
        by_name to f.Islower arguments site size d e t = result_call_sound o q c flow p naming row s r to f.Islower arguments site size tt e
        by_name to f.Isalnum arguments site size d e t = result_call_sound o q c flow p naming row s r to f.Isalnum arguments site size tt e
        by_name to f.Toupper arguments site size d e t = result_call_sound o q c flow p naming row s r to f.Toupper arguments site size tt e
        by_name to f.Tolower arguments site size d e t = result_call_sound o q c flow p naming row s r to f.Tolower arguments site size tt e
        by_name to f.Strlen arguments site size d e t = string_call_sound o q flow p naming row s r to f.Strlen arguments site size tt e
        by_name to f.Strcmp arguments site size d e t = string_call_sound o q flow p naming row s r to f.Strcmp arguments site size tt e
        by_name to f.Puts arguments site size d e t = string_call_sound o q flow p naming row s r to f.Puts arguments site size tt e
        by_name to f.Printf arguments site size d e t = print_call_sound o q flow p naming row s r to f.Printf arguments site size tt e
        by_name to f.Free arguments site size d e t = free_call_sound o q flow p naming row s r to f.Free arguments site size tt e
        by_name to f.Strcpy arguments site size d e t = text_call_sound o q c flow p naming row s r to f.Strcpy arguments site size tt e
        by_name to f.Memset arguments site size d e t = fill_call_sound o q flow p naming row s r to f.Memset arguments site size tt e t
        by_name to f.Malloc arguments None size d e t = absurd (sites to f.Malloc arguments size d (inl tt))
        by_name to f.Malloc arguments (Some newest) size d e t = allocation_call_sound o q flow limits good p naming row s r to f.Malloc arguments newest size tt e t
        by_name to f.Calloc arguments None size d e t = absurd (sites to f.Calloc arguments size d (inl tt))
        by_name to f.Calloc arguments (Some newest) size d e t = allocation_call_sound o q flow limits good p naming row s r to f.Calloc arguments newest size tt e t
        by_name to f.Realloc arguments None size d e t = absurd (sites to f.Realloc arguments size d (inr tt))
        by_name to f.Realloc arguments (Some newest) size d e t = reallocation_call_sound o q c ranges flow limits good p naming row s r to f.Realloc arguments newest size tt e t
        by_name to f.Memcpy arguments site size d e t = copy_call_sound o q flow p naming row s r to f.Memcpy arguments site size tt e t
        by_name to f.Memmove arguments site size d e t = copy_call_sound o q flow p naming row s r to f.Memmove arguments site size tt e t
        by_name to f.Strncpy arguments site size d e t = bounded_call_sound o q c flow p naming row s r to f.Strncpy arguments site size tt e t
        by_name to f.Strcat arguments site size d e t = append_call_sound o q c flow p (well_formed_apart limits flow good) naming row s r to f.Strcat arguments site size tt e
        by_name to f.Fgets arguments site size d e t = open_sound naming row s (op.Library to f.Fgets arguments site size) (tt, d) e t r

        by_operation : (i : Operation) → GoesOn i → IsDoneIn flow i → fits_operation (names_of flow) i ≡ true → HasOperands i s.temps → StepIsSound l n gamma flow row i s
        by_operation (op.Constant to number kind) h d f t = value_step_sound q c ranges flow p naming row s r (op.Constant to number kind) refl f t
        by_operation (op.Binary to operator left right kind) h d f t = value_step_sound q c ranges flow p naming row s r (op.Binary to operator left right kind) refl f t
        by_operation (op.Unary to operator operand kind) h d f t = value_step_sound q c ranges flow p naming row s r (op.Unary to operator operand kind) refl f t
        by_operation (op.Compare to rel left right) h d f t = value_step_sound q c ranges flow p naming row s r (op.Compare to rel left right) refl f t
        by_operation (op.Not to operand kind) h d f t = value_step_sound q c ranges flow p naming row s r (op.Not to operand kind) refl f t
        by_operation (op.Convert to operand from kind) h d f t = value_step_sound q c ranges flow p naming row s r (op.Convert to operand from kind) refl f t
        by_operation (op.Address to base offset) h d f t = pointer_step_sound o q c flow p naming row s r (op.Address to base offset) refl f t
        by_operation (op.Narrow to pointer offset size) h d f t = pointer_step_sound o q c flow p naming row s r (op.Narrow to pointer offset size) refl f t
        by_operation (op.Shift to pointer amount scale backwards) h d f t = pointer_step_sound o q c flow p naming row s r (op.Shift to pointer amount scale backwards) refl f t
        by_operation (op.Difference to left right size) h d f t = pointer_step_sound o q c flow p naming row s r (op.Difference to left right size) refl f t
        by_operation (op.ComparePointers to rel left right) h d f t = pointer_step_sound o q c flow p naming row s r (op.ComparePointers to rel left right) refl f t
        by_operation (op.Load to from kind) h d f t = load_sound o q c flow p naming row s r to from kind f
        by_operation (op.Store to from kind kept) h d f t = store_sound o q c ranges flow p naming row s r to from kind kept f
        by_operation (op.Forget base) h d f t = forget_sound q flow p naming row s r base f
        by_operation (op.Copy to from index) h d f t = copy_sound o q c ranges flow p (copies to from index d) naming row s r to from index f
        by_operation (op.Library to name arguments site size) h d f t = by_name to name arguments site size d f t
        by_operation (op.Enter base) h d f t = enter_sound q flow p naming row s r base f
        by_operation (op.Leave base) h d f t = leave_sound flow p naming row s r base f
        by_operation (op.Clear base) h d f t = clear_sound q flow p limits good naming row s r base f
        by_operation (op.Spell base offset room text) h d f t = spell_step_sound o q flow p limits good naming row s r (op.Spell base offset room text) (texts base offset room text d) f
        by_operation op.Jump h d f t = cc
        by_operation (op.Branch temp kind) h d f t = cc
        by_operation (op.Switch temp kind) h d f t = cc
        by_operation (op.ReadLine to text count stream) h d f t = cc
        by_operation op.Stop h d f t = cc

  module _ (limits : Limits) (tests : TestsAreSound l n gamma flow) where
    pub ends_go_on : EndsGoOnSoundly l n gamma flow limits
    ends_go_on good naming row s i last ends r = by_operation i.operation refl
      where
        plain : IsPlainEnd i.operation → EndIsSound l n gamma flow row i.operation s
        plain is = end_sound q c flow p naming row s r limits good tests i last is

        by_operation : (x : Operation) → i.operation ≡ x → EndIsSound l n gamma flow row i.operation s
        by_operation op.Jump e = plain (subst IsPlainEnd (sym e) tt)
        by_operation (op.Branch temp kind) e = plain (subst IsPlainEnd (sym e) tt)
        by_operation (op.Switch temp kind) e = plain (subst IsPlainEnd (sym e) tt)
        by_operation op.Stop e = plain (subst IsPlainEnd (sym e) tt)
        by_operation (op.ReadLine to text count stream) e = line_end_sound o q flow p naming row s r limits good i last (subst IsLineEnd (sym e) tt)
        by_operation (op.Constant to number kind) e = absurd (subst EndsBlock e ends refl)
        by_operation (op.Binary to operator left right kind) e = absurd (subst EndsBlock e ends refl)
        by_operation (op.Unary to operator operand kind) e = absurd (subst EndsBlock e ends refl)
        by_operation (op.Compare to rel left right) e = absurd (subst EndsBlock e ends refl)
        by_operation (op.Not to operand kind) e = absurd (subst EndsBlock e ends refl)
        by_operation (op.Convert to operand from kind) e = absurd (subst EndsBlock e ends refl)
        by_operation (op.Address to base offset) e = absurd (subst EndsBlock e ends refl)
        by_operation (op.Narrow to pointer offset size) e = absurd (subst EndsBlock e ends refl)
        by_operation (op.Shift to pointer amount scale backwards) e = absurd (subst EndsBlock e ends refl)
        by_operation (op.Difference to left right size) e = absurd (subst EndsBlock e ends refl)
        by_operation (op.ComparePointers to rel left right) e = absurd (subst EndsBlock e ends refl)
        by_operation (op.Load to from kind) e = absurd (subst EndsBlock e ends refl)
        by_operation (op.Store to from kind kept) e = absurd (subst EndsBlock e ends refl)
        by_operation (op.Copy to from index) e = absurd (subst EndsBlock e ends refl)
        by_operation (op.Library to name arguments site size) e = absurd (subst EndsBlock e ends refl)
        by_operation (op.Enter base) e = absurd (subst EndsBlock e ends refl)
        by_operation (op.Leave base) e = absurd (subst EndsBlock e ends refl)
        by_operation (op.Forget base) e = absurd (subst EndsBlock e ends refl)
        by_operation (op.Clear base) e = absurd (subst EndsBlock e ends refl)
        by_operation (op.Spell base offset room text) e = absurd (subst EndsBlock e ends refl)

  -- ---- tests

  test_proved : (t : Option Test) → TestIsProved flow t → TestIsSound l n gamma flow t
  test_proved None h = tt
  test_proved (Some t) h = elim h [
    | inl f ↦ λ naming row s r. test_sound o q c flow p naming row s r t f
    | inr g ↦ elim g [
      | inl f ↦ λ naming row s r. pointer_test_sound flow naming row s r t f
      | inr f ↦ λ naming row s r. null_test_sound q flow p naming row s r t f
    ]
  ]

  case_proved : (value : ℤ) (b : Option ℕ) → CaseIsProved flow b → CaseIsSound l n gamma flow value b
  case_proved value None h = tt
  case_proved value (Some b) h = λ naming row s r. case_sound o q flow p naming row s r value b h

  kind_proved : (k : EdgeKind) → KindIsProved flow k → KindIsSound l n gamma flow k
  kind_proved (kind.When truth test kept) h = test_proved test h
  kind_proved (kind.Case test) h = case_proved test.value test.object h
  kind_proved kind.Jump h = tt
  kind_proved (kind.Other values) h = tt
  kind_proved kind.NoLine h = tt
  kind_proved kind.Line h = tt

  pub tests_sound : OpenTestsAreSound l n gamma flow → TestsAreSound l n gamma flow
  tests_sound h number e is = elim (h number e is) [ inl f ↦ kind_proved e.kind f | inr f ↦ f ]
