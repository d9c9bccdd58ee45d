-- Parts of what a well-formed program is, which what lowering makes has.
use Rattle.std.specs.Prelude.{◌≡◌, ◌<◌, ℕ, zero, suc, ◌+◌, Bool, false, ◌&&◌, ◌==◌, nat_le, List, [], ◌∷◌, ◌++◌, length}
use Rattle.std.specs.List.{list_any}
use Rattle.c_layout.specs.declared.shapes.BaseInfo.{BaseInfo}
use Rattle.cfg.specs.WellFormed.{base_values, all_values}
use Rattle.lower_templates.specs.Views.ProgramViews.{BlockView, EdgeView, FlowView}

-- the values of bases follow each other in a row
abbrev pub Follow : ℕ → List BaseInfo → Type 0
Follow first [] = Unit {0}
Follow first (b ∷ bs) = (b.first ≡ first) × Follow (first + base_values b) bs

abbrev pub AllFrom : ℕ → List EdgeView → Type 0
AllFrom at [] = Unit {0}
AllFrom at (e ∷ es) = (e.from ≡ at) × AllFrom at es

-- the edges of blocks from a number on, one block after another: those of the first have the numbers from
-- `first` on
abbrev pub Leave : ℕ → ℕ → List BlockView → List EdgeView → Type 0
Leave at first [] es = es ≡ []
Leave at first (b ∷ bs) es = (own : List EdgeView) × (rest : List EdgeView) × (es ≡ own ++ rest) × (b.first_edge ≡ first) × (b.edges ≡ length own) × AllFrom at own × Leave (at + 1) (first + length own) bs rest

-- an edge from the same or a later block
abbrev pub goes_back : ℕ → EdgeView → Bool
goes_back n e = (e.to == n) && nat_le n e.from

abbrev pub head_at : List BlockView → ℕ → Bool
head_at [] n = false
head_at (b ∷ bs) zero = b.is_head
head_at (b ∷ bs) (suc n) = head_at bs n

-- each edge leads to one of so many blocks
abbrev pub AllLead : ℕ → List EdgeView → Type 0
AllLead count [] = Unit {0}
AllLead count (e ∷ es) = (e.to < count) × AllLead count es

-- bases follow each other in a row, and the temporaries stand behind them; edges are numbered by the
-- blocks that they leave; a block is a head exactly where an edge from the same or a later block enters it
pub record IsWellMade (f : FlowView) : Type 0 where
  pub follow : Follow 0 f.bases
  pub width : f.width ≡ all_values f.bases + f.temps
  pub leave : Leave 0 0 f.blocks f.edges
  pub heads : (n : ℕ) → n < length f.blocks → head_at f.blocks n ≡ list_any (goes_back n) f.edges
