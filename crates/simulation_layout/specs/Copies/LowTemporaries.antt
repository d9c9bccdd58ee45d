-- Programs whose temporaries have numbers below the last one, at which numbers stop.
use Rattle.std.specs.Prelude.{◌≡◌, ◌<◌, ℕ, ◌-◌, ◌^◌, ℤ, List, [], ◌∷◌, ◌++◌, Option, Some, None, slice_get}
use Rattle.cfg.specs.declared.machine_instructions.Amount.{Amount}
use Rattle.cfg.specs.declared.machine_instructions.Amount.TheVariants as amount
use Rattle.lower_templates.specs.Worklist.Acts as acts
use Rattle.lower_templates.specs.Worklist.Acts.{Act, Step}
use Rattle.lower_templates.specs.Worklist.Pieces.{Way, Always, When, Case, Other, NoLine, Line}
use Rattle.lower_templates.specs.Views.ProgramViews.{BlockView, EdgeView, FlowView}

abbrev pub IsLow : ℕ → Type 0
IsLow t = t < 2 ^ 32 - 1

abbrev pub AreLow : List ℕ → Type 0
AreLow [] = Unit {0}
AreLow (t ∷ ts) = IsLow t × AreLow ts

abbrev pub IsAmountLow : Amount → Type 0
IsAmountLow (amount.Temp t) = IsLow t
IsAmountLow amount.One = Unit {0}

abbrev pub IsKeptLow : Option (ℕ × ℕ) → Type 0
IsKeptLow None = Unit {0}
IsKeptLow (Some p) = IsLow p.0 × IsLow p.1

abbrev pub IsResultLow : Option ℕ → Type 0
IsResultLow None = Unit {0}
IsResultLow (Some t) = IsLow t

-- the temporaries that an instruction names
abbrev pub IsActLow : Act → Type 0
IsActLow (acts.Constant to value kind) = IsLow to
IsActLow (acts.Address to base offset) = IsLow to
IsActLow (acts.Load to from kind) = IsLow to × IsLow from
IsActLow (acts.Store to from kind kept) = IsLow to × IsLow from × IsKeptLow kept
IsActLow (acts.Copy to from index) = IsLow to × IsLow from
IsActLow (acts.Narrow to from offset size) = IsLow to × IsLow from
IsActLow (acts.Shift to from by size backward) = IsLow to × IsLow from × IsAmountLow by
IsActLow (acts.Binary to sign left right kind) = IsLow to × IsLow left × IsAmountLow right
IsActLow (acts.Unary to sign from kind) = IsLow to × IsLow from
IsActLow (acts.Compare to sign left right) = IsLow to × IsLow left × IsLow right
IsActLow (acts.Not to from kind) = IsLow to × IsLow from
IsActLow (acts.Difference to left right size) = IsLow to × IsLow left × IsLow right
IsActLow (acts.ComparePointers to sign left right) = IsLow to × IsLow left × IsLow right
IsActLow (acts.Convert to from old new) = IsLow to × IsLow from
IsActLow (acts.Library to function arguments newest size) = IsResultLow to × AreLow arguments
IsActLow (acts.Enter base) = Unit {0}
IsActLow (acts.Leave base) = Unit {0}
IsActLow (acts.Forget base) = Unit {0}
IsActLow (acts.Clear base) = Unit {0}
IsActLow (acts.Spell base offset room text) = Unit {0}
IsActLow acts.Jump = Unit {0}
IsActLow (acts.Branch from kind) = IsLow from
IsActLow (acts.Switch from kind) = IsLow from
IsActLow (acts.ReadLine to text count stream) = IsResultLow to × IsLow text × IsLow count × IsLow stream
IsActLow acts.Stop = Unit {0}

abbrev pub IsPutLow : Option (ℕ × ℤ) → Type 0
IsPutLow None = Unit {0}
IsPutLow (Some p) = IsLow p.0

-- and those into which an edge puts a number
abbrev pub IsWayLow : Way → Type 0
IsWayLow Always = Unit {0}
IsWayLow (When truth test puts) = IsPutLow puts
IsWayLow (Case test) = Unit {0}
IsWayLow (Other values) = Unit {0}
IsWayLow NoLine = Unit {0}
IsWayLow Line = Unit {0}

-- a program in which each temporary that is named has a lower number than the last one
pub record HasLowTemps (f : FlowView) : Type 0 where
  pub steps : (n at : ℕ) (b : BlockView) (s : Step) → slice_get f.blocks n ≡ Some b → slice_get b.steps at ≡ Some s → IsActLow s.does
  pub edges : (n : ℕ) (e : EdgeView) → slice_get f.edges n ≡ Some e → IsWayLow e.taken
