-- What a program has of what was counted before it was made.
use Rattle.std.specs.Prelude.{◌≡◌, ◌<◌, ◌≤◌, ℕ, ◌+◌, ◌^◌, List, [], ◌∷◌, length, Option, Some, None}
use Rattle.cc_base.specs.declared.limit_table.Limits.{Limits}
use Rattle.c_layout.specs.Types.{Ty}
use Rattle.c_layout.specs.Leaves.{leaves_of}
use Rattle.c_layout.specs.StructLayouts.{leaf_count}
use Rattle.c_layout.specs.CheckedUnits.{StaticView, UnitView}
use Rattle.cfg.specs.WellFormed.{all_cells}
use Rattle.lower_templates.specs.Worklist.Pieces.{TemplateView}
use Rattle.lower_objects.specs.Counts.Extents.{capped}
use Rattle.lower_tables.specs.declared.counts.count_limits.UnitCounts.{UnitCounts}
use Rattle.lower_templates.specs.Views.ProgramViews.{BlockView, FlowView}

-- how many instructions blocks have
abbrev pub all_instructions : List BlockView → ℕ
all_instructions [] = 0
all_instructions (b ∷ bs) = length b.steps + all_instructions bs

-- a program has the blocks and the instructions that were counted, up to 10^18 of each
pub record IsAsCounted (counts : UnitCounts) (f : FlowView) : Type 0 where
  pub blocks : capped (length f.blocks) ≡ counts.blocks
  pub instructions : capped (all_instructions f.blocks) ≡ counts.instructions

-- it has just so many, and no more than the limits, where these are below 10^18
pub record IsWithin (limits : Limits) (counts : UnitCounts) (f : FlowView) : Type 0 where
  pub blocks : limits.blocks < 10 ^ 18 → (length f.blocks ≡ counts.blocks) × (length f.blocks ≤ limits.blocks)
  pub instructions : limits.instructions < 10 ^ 18 → (all_instructions f.blocks ≡ counts.instructions) × (all_instructions f.blocks ≤ limits.instructions)

-- a program has just the bases and the cells that were counted
pub record HasJust (counts : UnitCounts) (f : FlowView) : Type 0 where
  pub bases : length f.bases ≡ counts.bases
  pub cells : all_cells f.bases ≡ counts.cells

-- the stores of all initializers
abbrev pub all_stores : List StaticView → ℕ
all_stores [] = 0
all_stores (o ∷ os) = length o.stores + all_stores os

abbrev pub names_of : Option TemplateView → ℕ
names_of None = 0
names_of (Some t) = length t.names

abbrev pub all_names : List (Option TemplateView) → ℕ
all_names [] = 0
all_names (t ∷ ts) = names_of t + all_names ts

-- how often templates and initializers name something
abbrev pub all_mentions : UnitView → List (Option TemplateView) → ℕ
all_mentions u ts = all_names ts + all_stores u.objects

-- each type has as many leaves as the counts of its structs say
abbrev pub AreRecorded : UnitView → Type 0
AreRecorded u = (t : Ty) → length (leaves_of u.structs u.model.pointer t) ≡ leaf_count u.structs t

-- a program has no more bases and cells than were counted, up to 10^18 of each
pub record HasNoMore (u : UnitView) (counts : UnitCounts) (f : FlowView) : Type 0 where
  pub bases : capped (length f.bases) ≤ counts.bases
  pub cells : AreRecorded u → capped (all_cells f.bases) ≤ counts.cells

-- and no more than the limits, where these are below 10^18
pub record HasFew (u : UnitView) (limits : Limits) (f : FlowView) : Type 0 where
  pub bases : limits.bases < 10 ^ 18 → length f.bases ≤ limits.bases
  pub cells : AreRecorded u → limits.cells < 10 ^ 18 → all_cells f.bases ≤ limits.cells
