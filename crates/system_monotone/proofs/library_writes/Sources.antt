-- The texts that calls read, in rising rows.
use Rattle.std.specs.Prelude.{ℕ, ℤ, pos, Option, Some, List}
use Rattle.cc_base.specs.Lattices.{LatticeOf, OrderLaws}
use Rattle.cc_base.specs.IntegerDomains.{IntegersOf, BoundLaws, RangeLaws}
use Rattle.cc_base.specs.IntegerLaws.{MonotoneLaws}
use Rattle.cc_base.specs.NumberRanges.{Range, range_difference}
use Rattle.cfg.specs.declared.programs.Flow.{Flow}
use Rattle.pointer_domain.specs.declared.base_sets.Bases.{Bases}
use Rattle.pointer_domain.specs.declared.pointer_sets.Pointers.{Pointers}
use Rattle.pointer_domain.specs.PointerTables.{rooms}
use Rattle.value_domain.specs.Strings.FirstZeros.{the_end}
use Rattle.value_domain.specs.declared.values.row_cells.Cell.{Cell}
use Rattle.domain_theorems.proofs.values.Parts.{pointer_parts}
use Rattle.domain_theorems.proofs.values.Ranges.{RangeBelow}
use Rattle.store_monotone.specs.Operations.TopRows.{top_row}
use Rattle.store_monotone.proofs.operations.Together.{each}
use Rattle.transfer_checks.specs.declared.library_arguments.Argument.{Argument}
use Rattle.transfer_checks.specs.declared.string_scans.Scanned.{Scanned}
use Rattle.transfer_checks.specs.LibraryArguments.{touched_window, within_bases}
use Rattle.transfer_library_plans.specs.Calls.{Call}
use Rattle.transfer_library_plans.specs.Outputs.{argument_at, scan_at}
use Rattle.transfer_library.specs.StringCalls.{source_characters, two_given}
use Rattle.transfer_system.specs.CallSteps.{call_of}
use Rattle.transfer_monotone.proofs.edges.MemorySteps.{row_near}
use Rattle.transfer_monotone.specs.Values.RisingRows.{PointersRise}
use Rattle.transfer_monotone.specs.Values.LaidOut.{IsLaidOut}
use Rattle.transfer_monotone.specs.Values.StepLaws.{FlowRows}
use Rattle.transfer_monotone.proofs.library.Trails.{TrailsBelow}
use Rattle.transfer_monotone.proofs.library.GivenPointers.{within_rises}
use Rattle.transfer_monotone.proofs.library.Scans.{ScansBelow, clamped_in, scan_empty}
use Rattle.transfer_monotone.proofs.library.StringResults.{argument_more, found_more, given_more, none_below}
use Rattle.system_monotone.specs.LibraryWrites.TextOrder.{CharactersBelow}
use Rattle.system_monotone.proofs.library_writes.SourceBytes.{characters_more}
use Rattle.system_monotone.proofs.library_writes.WriteTargets.{touched_rises}

module _ {I : Type 0} (n : IntegersOf I) where
  -- there is room from nothing to the end
  pub rooms_in : (p : Pointers I) → RangeBelow (rooms n p) (Some (pos 0, the_end))
  rooms_in p = clamped_in (range_difference (n.bounds p.len) (n.bounds p.rel))

module _ {I : Type 0} {l : LatticeOf I} {n : IntegersOf I} {stands : I → ℤ → Type 0} (o : OrderLaws l) (b : BoundLaws l n stands) (g : MonotoneLaws l n) (r : RangeLaws l n) (all : Bases) (flow : Flow) (k : IsLaidOut all flow) (arguments : List ℕ) (wanted : Option ℕ) where
  abbrev pub call : Call
  call = call_of flow arguments wanted

  abbrev pub given : List (Cell I) → ℕ → Argument I
  given row at = argument_at l n call row at

  abbrev pub found : List (Cell I) → ℕ → Scanned I
  found row at = scan_at l n call row (given row at)

  -- the pointers into the bases in which a string goes on
  abbrev pub string_at : List (Cell I) → ℕ → Pointers I
  string_at row at = within_bases l n (given row at).rest (found row at).bases

  module _ (p q : List (Cell I)) (h : FlowRows l n all flow p q) where
    pub rest_more : (at : ℕ) → PointersRise l n all (given p at).rest (given q at).rest
    rest_more at = (argument_more o b g r all flow k arguments wanted p q h at).rest

    pub scans_more : (at : ℕ) → ScansBelow l n all (found p at) (found q at)
    scans_more at = found_more o b g r all flow k arguments wanted p q h at

    pub string_more : (at : ℕ) → PointersRise l n all (string_at p at) (string_at q at)
    string_more at = let j = scans_more at in within_rises o b all (given p at).rest (given q at).rest (rest_more at) (found p at).bases (found q at).bases j.bases j.own (λ e. scan_empty l n flow.bases.items p (given p at).rest e)

    pub two_below : TrailsBelow (two_given (given p 0) (given p 1)) (two_given (given q 0) (given q 1))
    two_below = given_more o b g r all flow k arguments wanted p q h _ _ (given_more o b g r all flow k arguments wanted p q h _ _ (none_below o b g r all flow k arguments wanted p q h) 0) 1

    pub source_more : (s t : Pointers I) → PointersRise l n all s t → (x u : Range) → RangeBelow x u → CharactersBelow l n (source_characters l n call p s x) (source_characters l n call q t u)
    source_more s t j x u i = characters_more o b r g flow.model all (top_row n all flow.bases.items flow.temps) p q h.below flow.bases.items (each o b flow.model flow.bases.items k.layout all flow.temps (row_near o b g r all flow k))
        s.bases t.bases (pointer_parts l s t j.below).bases (touched_window n s x) (touched_window n t u) (touched_rises o b all s t j x u i)
