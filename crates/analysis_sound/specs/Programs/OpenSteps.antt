-- On which instructions the analysis is not yet proved sound, and that each run is covered where it is sound on them.
use Rattle.std.specs.Prelude.{◌≡◌, ◌⊎◌, ℕ, ℤ, true, List, Option, Some, None, slice_get}
use Rattle.cc_base.specs.Lattices.{LatticeOf}
use Rattle.cc_base.specs.IntegerDomains.{IntegersOf}
use Rattle.cc_base.specs.declared.limit_table.Limits.{Limits}
use Rattle.c_layout.specs.CheckedUnits.{UnitView}
use Rattle.c_layout.specs.declared.library_functions.LibFn.{LibFn}
use Rattle.c_layout.specs.declared.library_functions.LibFn.TheVariants as f
use Rattle.cfg.specs.WellFormed.{is_well_formed}
use Rattle.cfg.specs.declared.flow_edges.Edge.{Edge}
use Rattle.cfg.specs.declared.flow_edges.EdgeKind.{EdgeKind}
use Rattle.cfg.specs.declared.flow_edges.EdgeKind.TheVariants as kind
use Rattle.cfg.specs.declared.flow_edges.Test.{Test}
use Rattle.cfg.specs.declared.machine_instructions.Operation.{Operation}
use Rattle.cfg.specs.declared.machine_instructions.Operation.TheVariants as op
use Rattle.cfg.specs.declared.programs.Flow.{Flow}
use Rattle.value_domain.specs.declared.values.row_cells.Cell.{Cell}
use Rattle.store_sound.specs.Concretization.Coverage.{EachRunIsCovered}
use Rattle.store_sound.specs.Programs.Premises.{AreHeld}
use Rattle.transfer_sound.specs.Values.SoundSteps.{AreSound}
use Rattle.struct_copies_sound.specs.AllocationCalls.{Allocates}
use Rattle.struct_copies_sound.specs.ReallocationCalls.{Reallocates}
use Rattle.library_sound.specs.Spelling.SpellSteps.{SpellsBytes}
use Rattle.struct_copies_sound.specs.Structs.StructTables.{HasStructs}
use Rattle.transfer_sound.specs.Induction.SoundEnds.{IsDoneIn}
use Rattle.transfer_sound.specs.Induction.Covering.{Begins, Carries, HasTypedRuns, row_before, Admits}
use Rattle.transfer_sound.specs.Edges.EdgeSteps.{KindIsSound}
use Rattle.transfer_sound.specs.Tests.ScalarObjects.{IsIntegerTest, IsPointerTest, IsNullTest, IsCaseObject}

-- `fgets` as any other call, which no program has: its calls end their blocks
abbrev pub IsOpenCall : LibFn → Type 0
IsOpenCall f.Fgets = Unit {0}
IsOpenCall _ = ⊥

abbrev pub IsOpenStep : Operation → Type 0
IsOpenStep (op.Library to name arguments site size) = IsOpenCall name
IsOpenStep _ = ⊥

-- each text that the program spells lies over characters
abbrev pub SpellsOverCharacters : Flow → Type 0
SpellsOverCharacters flow = (base offset room : ℕ) (text : List ℕ) → IsDoneIn flow (op.Spell base offset room text) → SpellsBytes flow base offset room text

-- each call that allocates has a site
abbrev pub AllocatesAtSites : Flow → Type 0
AllocatesAtSites flow = (to : Option ℕ) (name : LibFn) (arguments : _) (size : Option ℕ) → IsDoneIn flow (op.Library to name arguments None size) → Allocates name ⊎ Reallocates name → ⊥

-- where a struct is copied, the leaves of each struct by number are those of its type, and share no bytes
abbrev pub CopiesListed : Flow → Type 0
CopiesListed flow = (to from index : ℕ) → IsDoneIn flow (op.Copy to from index) → HasStructs flow

-- tests of integers of two objects or numbers, tests of pointers, and cases of an integer object
abbrev pub TestIsProved : Flow → Option Test → Type 0
TestIsProved flow None = Unit {0}
TestIsProved flow (Some test) = IsIntegerTest flow test ⊎ IsPointerTest test ⊎ IsNullTest flow test

abbrev pub CaseIsProved : Flow → Option ℕ → Type 0
CaseIsProved flow None = Unit {0}
CaseIsProved flow (Some base) = IsCaseObject flow base

abbrev pub KindIsProved : Flow → EdgeKind → Type 0
KindIsProved flow (kind.When truth test kept) = TestIsProved flow test
KindIsProved flow (kind.Case test) = CaseIsProved flow test.object
KindIsProved flow _ = Unit {0}

module _ {I : Type 0} (l : LatticeOf I) (n : IntegersOf I) (gamma : I → ℤ → Type 0) (flow : Flow) where
  -- edges are sound where their tests are not among those that are proved
  abbrev pub OpenTestsAreSound : Type 0
  OpenTestsAreSound = (number : ℕ) (e : Edge) → slice_get flow.edges.items number ≡ Some e → KindIsProved flow e.kind ⊎ KindIsSound l n gamma flow e.kind

  -- where the analysis is sound on what is open and the program does, each run is covered by a map that begins with
  -- it and carries it on
  abbrev pub CoversButForOpenSteps : Type 0
  CoversButForOpenSteps = (limits : Limits) → AreHeld limits → is_well_formed limits flow ≡ true → SpellsOverCharacters flow → AllocatesAtSites flow → CopiesListed flow → AreSound l n gamma flow (λ o. IsOpenStep o × IsDoneIn flow o) → OpenTestsAreSound
      → (u : UnitView) (rows : List (Option (List (Cell I)))) → Begins l n gamma flow u rows → Carries l n gamma flow rows → HasTypedRuns flow u → EachRunIsCovered l n gamma flow (row_before l n flow rows) (Admits l n flow rows) u
