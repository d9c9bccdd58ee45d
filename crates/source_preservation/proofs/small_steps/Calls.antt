-- Functions begin with the values of arguments, and those that wait go on with the values of results.
use Rattle.std.proofs.Common.{◌≡◌, ℕ, Bool, true, false, cond, List, [], ◌∷◌, ◌++◌, append_assoc, Option, Some, None, refl, ap, sym, subst, ◌∙◌}
use Rattle.cc_base.specs.declared.diagnostics.Place.{Place}
use Rattle.c_layout.specs.CheckedUnits.{UnitView, FunctionView}
use Rattle.lower_templates.specs.Worklist.TermKinds.{is_void}
use Rattle.memory_model.specs.Memory.Instances.{Memory}
use Rattle.memory_model.specs.Memory.Scalars.{Scalar}
use Rattle.memory_model.specs.Effects.NumberedTables.{empty_table}
use Rattle.semantics.specs.SourceMachine.Items as item
use Rattle.semantics.specs.SourceMachine.StatementItems.{body}
use Rattle.semantics.specs.SourceMachine.CallSteps.{prologue, waiting, back_to}
use Rattle.semantics.specs.SourceMachine.SourceStates.{Frame, State}
use Rattle.source_items.specs.Returns.StandingJumps.{UnitJumpsStand}
use Rattle.source_items.specs.StackKinds.KindedItems.{called_by}
use Rattle.source_preservation.specs.ValueTyping.Marks.{Mark, mark_of_type, AreFree, AreWellTyped}
use Rattle.source_preservation.specs.WellTyped.WellTypedStatements.{WellTypedUnit}
use Rattle.source_preservation.specs.WellTyped.WellTypedItems.{left_marks, parameter_marks, Invokes}
use Rattle.source_preservation.specs.WellTyped.WellTypedStates.{Goes, Wait, caller, Runs}
use Rattle.source_preservation.proofs.items.TypeMarks.{free_type}
use Rattle.source_items.proofs.stack_kinds.ItemWalks.{does_from}
use Rattle.source_preservation.proofs.items.Leading.{marks}
use Rattle.source_preservation.proofs.items.Calls.{parameters_free, prologue_does}
use Rattle.source_preservation.proofs.small_steps.Keeping.{frees_kept, none_some, Parts, parts, both_well_typed}
use Rattle.source_preservation.proofs.small_steps.Changes.{RunsAt}

-- what a function leaves holds whatever becomes of memory and of names
left_free : (f : FunctionView) (called : Option Bool) → AreFree (left_marks f called)
left_free f None = tt
left_free f (Some used) = by (is_void f.returns) used
  where
    by : (v used : Bool) → AreFree (cond v [] (cond used (mark_of_type f.returns ∷ []) []))
    by true used = tt
    by false true = (free_type f.returns, tt)
    by false false = tt

-- ---- functions that wait

-- the first of the functions that wait
record Waiting (u : UnitView) (memory : Memory) (given : List Mark) (c : Frame) (cs : List Frame) (values : List Scalar) : Type 0 where
  pub marks : List Mark
  pub left : List Mark
  pub own : List Scalar
  pub rest : List Scalar
  pub is : values ≡ own ++ rest
  pub are : AreWellTyped u.model c.names memory marks own
  pub goes : Goes u memory c.function (called_by cs) c.names c.control (given ++ marks) left
  pub wait : Wait u memory left cs rest

waits : (u : UnitView) (memory : Memory) (given : List Mark) (c : Frame) (cs : List Frame) (values : List Scalar) → Wait u memory given (c ∷ cs) values → Waiting u memory given c cs values
waits u memory given c cs values (caller d ds marks left own rest is stable are goes wait) = record { marks = marks; left = left; own = own; rest = rest; is = is; are = are; goes = goes; wait = wait }

-- it goes on with the values that are left
pub back : (u : UnitView) (s : State) (c : Frame) (cs : List Frame) → Runs u (record s { control = []; frames = c ∷ cs }) → Runs u (back_to s c cs)
back u s c cs r =
    let w : Waiting u s.world.memory r.left c cs r.rest = waits u s.world.memory r.left c cs r.rest r.wait in
    let here : AreWellTyped u.model s.names s.world.memory r.left r.own = subst (λ ks. AreWellTyped u.model s.names s.world.memory ks r.own) r.goes.does r.are in
    let free : AreFree r.left = subst AreFree (sym r.goes.leaves) (left_free r.goes.function (Some c.used)) in
    record {
      marks = r.left ++ w.marks;
      left = w.left;
      own = r.own ++ w.own;
      rest = w.rest;
      values = r.values ∙ ap (λ xs. r.own ++ xs) w.is ∙ sym (append_assoc r.own w.own w.rest);
      are = both_well_typed u.model c.names s.world.memory r.left w.marks r.own w.own (frees_kept u.model s.names c.names s.world.memory s.world.memory r.left r.own free here) w.are;
      goes = w.goes;
      wait = w.wait;
      proper = r.proper;
      statics = r.statics;
    }

-- a function begins with the newest values
pub begun : (u : UnitView) → WellTypedUnit u → UnitJumpsStand u → (s : State) (at : Place) (g count : ℕ) (used : Bool) (r : RunsAt u (item.Invoke at g count used) s) → Runs u (record { function = g; names = empty_table; control = prologue r.goes.does.1.function count ++ body r.goes.does.1.function; values = s.values; frames = waiting s at used ∷ s.frames; world = s.world })
begun u well_typed stand s at g count used r =
    let i : Invokes u g count used r.marks r.goes.does.0 = r.goes.does.1 in
    let memory : Memory = s.world.memory in
    let given : List Mark = left_marks i.function (Some used) in
    let taken : List Mark = parameter_marks i.function count in
    let p : Parts u.model s.names memory taken i.below r.own = parts u.model s.names memory taken i.below r.own (subst (λ ks. AreWellTyped u.model s.names memory ks r.own) i.taken r.are) in
    record {
      marks = taken;
      left = given;
      own = p.newest;
      rest = p.others ++ r.rest;
      values = r.values ∙ ap (λ xs. xs ++ r.rest) p.is ∙ append_assoc p.newest p.others r.rest;
      are = frees_kept u.model s.names empty_table memory memory taken p.newest (parameters_free i.function count) p.are_newest;
      goes = record {
        function = i.function;
        is = i.is;
        room = λ n i named. absurd (none_some i named);
        leaves = refl;
        does = prologue_does u i.function (Some used) (well_typed.functions g i.function i.is) count i.counted (stand g i.function i.is);
      };
      wait = caller (waiting s at used) s.frames i.below r.left p.others r.rest refl i.stable p.are_others (record {
        function = r.goes.function;
        is = r.goes.is;
        room = r.goes.room;
        leaves = r.goes.leaves;
        does = does_from (marks u r.goes.function (called_by s.frames)) s.control (given ++ i.below) r.goes.does.0 r.left (sym i.given) r.goes.does.2;
      }) r.wait;
      proper = r.proper;
      statics = r.statics;
    }
