-- The blocks and edges of programs with the same view are alike.
use Rattle.std.specs.Prelude.{◌≡◌, ℕ, ◌-◌, Bool, false, Option, Some, None, List, [], map, option_map, length, slice_get, slice_index_or, refl}
use Rattle.std.proofs.Common.{sym, ap, ◌∙◌}
use Rattle.std.proofs.lemmas.List.{length-map}
use Rattle.std.proofs.lemmas.Option.{slice_get-map}
use Rattle.std.proofs.Math.ListN.{get_or-map}
use Rattle.cfg.specs.declared.programs.Flow.{Flow}
use Rattle.cfg.specs.declared.basic_blocks.BasicBlock.{BasicBlock}
use Rattle.lower_templates.specs.Worklist.Acts.{Step, step}
use Rattle.lower_templates.specs.Views.ProgramViews.{BlockView, FlowView, block, edge, flow_view}
use Rattle.transfer_system.specs.Edges.{last_of}
use Rattle.transfer_system.specs.System.BlockPasses.{instructions_in}
use Rattle.transfer_system.specs.System.FlowMachines.{head_in, edge_at, no_edge}
use Rattle.analysis_determined.specs.UnrolledDiagnostics.SameParts.{SameParts}
use Rattle.analysis_determined.proofs.unrolled_diagnostics.UnrolledPrograms.{last_is}

-- ---- blocks by their views

abbrev steps_of : Option BlockView → List Step
steps_of None = []
steps_of (Some b) = b.steps

abbrev head_of : Option BlockView → Bool
head_of None = false
head_of (Some b) = b.is_head

steps_are : (b : Option BasicBlock) → map step (instructions_in b) ≡ steps_of (option_map block b)
steps_are None = refl
steps_are (Some b) = refl

head_is : (b : Option BasicBlock) → head_in b ≡ head_of (option_map block b)
head_is None = refl
head_is (Some b) = refl

module _ (f g : Flow) (h : flow_view f ≡ flow_view g) where
  pub same_parts : SameParts f g
  same_parts = record {
    model = ap (λ (v : FlowView). v.model) h;
    bases = ap (λ (v : FlowView). v.bases) h;
    temps = ap (λ (v : FlowView). v.temps) h;
    width = ap (λ (v : FlowView). v.width) h;
    structs = ap (λ (v : FlowView). v.structs) h;
    initial = ap (λ (v : FlowView). v.initial) h;
    parameters = ap (λ (v : FlowView). v.parameters) h;
  }

  -- ---- blocks

  pub block_count : length f.blocks.items ≡ length g.blocks.items
  block_count = sym (length-map f.blocks.items block) ∙ (ap (λ (v : FlowView). length v.blocks) h ∙ length-map g.blocks.items block)

  block_same : (number : ℕ) → option_map block (slice_get f.blocks.items number) ≡ option_map block (slice_get g.blocks.items number)
  block_same number =
      sym (slice_get-map block f.blocks.items number)
      ∙ (ap (λ (v : FlowView). slice_get v.blocks number) h ∙ slice_get-map block g.blocks.items number)

  pub steps_same : (number : ℕ) → map step (instructions_in (slice_get f.blocks.items number)) ≡ map step (instructions_in (slice_get g.blocks.items number))
  steps_same number =
      steps_are (slice_get f.blocks.items number)
      ∙ (ap steps_of (block_same number) ∙ sym (steps_are (slice_get g.blocks.items number)))

  pub last_same : (number : ℕ) → option_map step (last_of (slice_get f.blocks.items number)) ≡ option_map step (last_of (slice_get g.blocks.items number))
  last_same number =
      last_is (slice_get f.blocks.items number)
      ∙ (ap (λ (ss : List Step). slice_get ss (length ss - 1)) (steps_same number) ∙ sym (last_is (slice_get g.blocks.items number)))

  pub head_same : (number : ℕ) → head_in (slice_get f.blocks.items number) ≡ head_in (slice_get g.blocks.items number)
  head_same number =
      head_is (slice_get f.blocks.items number)
      ∙ (ap head_of (block_same number) ∙ sym (head_is (slice_get g.blocks.items number)))

  -- ---- edges

  pub edge_count : length f.edges.items ≡ length g.edges.items
  edge_count = sym (length-map f.edges.items edge) ∙ (ap (λ (v : FlowView). length v.edges) h ∙ length-map g.edges.items edge)

  pub edge_same : (number : ℕ) → option_map edge (slice_get f.edges.items number) ≡ option_map edge (slice_get g.edges.items number)
  edge_same number =
      sym (slice_get-map edge f.edges.items number)
      ∙ (ap (λ (v : FlowView). slice_get v.edges number) h ∙ slice_get-map edge g.edges.items number)

  pub edge_view_same : (number : ℕ) → edge (edge_at f.edges.items number) ≡ edge (edge_at g.edges.items number)
  edge_view_same number =
      sym (get_or-map edge f.edges.items number no_edge)
      ∙ (ap (λ (v : FlowView). slice_index_or v.edges number (edge no_edge)) h ∙ get_or-map edge g.edges.items number no_edge)
