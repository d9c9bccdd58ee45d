-- Instructions of a copy: its temporaries are counted from its first one, and a base stands for the template's own one.
use Rattle.std.specs.Prelude.{ℕ, ◌+◌, ℤ, map, Option, Some, None}
use Rattle.std.specs.Option.{option_map}
use Rattle.cfg.specs.declared.machine_instructions.Amount.{Amount}
use Rattle.cfg.specs.declared.machine_instructions.Amount.TheVariants as amount
use Rattle.lower_templates.specs.Worklist.Acts as acts
use Rattle.lower_templates.specs.Worklist.Acts.{Act}

abbrev pub shift : ℕ → ℕ → ℕ
shift d t = t + d

abbrev pub amount_shifted : ℕ → Amount → Amount
amount_shifted d (amount.Temp t) = amount.Temp (shift d t)
amount_shifted d amount.One = amount.One

abbrev pub kept_shifted : ℕ → Option (ℕ × ℕ) → Option (ℕ × ℕ)
kept_shifted d None = None
kept_shifted d (Some p) = Some (shift d p.0, shift d p.1)

abbrev pub put_shifted : ℕ → Option (ℕ × ℤ) → Option (ℕ × ℤ)
put_shifted d None = None
put_shifted d (Some p) = Some (shift d p.0, p.1)

abbrev pub base_shifted : ℕ → Option ℕ → Option ℕ
base_shifted b None = None
base_shifted b (Some own) = Some b

-- the base of the template that an instruction names
abbrev pub named_base : Act → Option ℕ
named_base (acts.Address to base offset) = Some base
named_base (acts.Library to function arguments newest size) = newest
named_base (acts.Enter base) = Some base
named_base (acts.Leave base) = Some base
named_base (acts.Forget base) = Some base
named_base (acts.Clear base) = Some base
named_base (acts.Spell base offset room text) = Some base
named_base a = None

abbrev pub shifted : ℕ → ℕ → Act → Act
shifted d b (acts.Constant to value kind) = acts.Constant (shift d to) value kind
shifted d b (acts.Address to base offset) = acts.Address (shift d to) b offset
shifted d b (acts.Load to from kind) = acts.Load (shift d to) (shift d from) kind
shifted d b (acts.Store to from kind kept) = acts.Store (shift d to) (shift d from) kind (kept_shifted d kept)
shifted d b (acts.Copy to from index) = acts.Copy (shift d to) (shift d from) index
shifted d b (acts.Narrow to from offset size) = acts.Narrow (shift d to) (shift d from) offset size
shifted d b (acts.Shift to from by size backward) = acts.Shift (shift d to) (shift d from) (amount_shifted d by) size backward
shifted d b (acts.Binary to sign left right kind) = acts.Binary (shift d to) sign (shift d left) (amount_shifted d right) kind
shifted d b (acts.Unary to sign from kind) = acts.Unary (shift d to) sign (shift d from) kind
shifted d b (acts.Compare to sign left right) = acts.Compare (shift d to) sign (shift d left) (shift d right)
shifted d b (acts.Not to from kind) = acts.Not (shift d to) (shift d from) kind
shifted d b (acts.Difference to left right size) = acts.Difference (shift d to) (shift d left) (shift d right) size
shifted d b (acts.ComparePointers to sign left right) = acts.ComparePointers (shift d to) sign (shift d left) (shift d right)
shifted d b (acts.Convert to from old new) = acts.Convert (shift d to) (shift d from) old new
shifted d b (acts.Library to function arguments newest size) = acts.Library (option_map (shift d) to) function (map (shift d) arguments) (base_shifted b newest) size
shifted d b (acts.Enter base) = acts.Enter b
shifted d b (acts.Leave base) = acts.Leave b
shifted d b (acts.Forget base) = acts.Forget b
shifted d b (acts.Clear base) = acts.Clear b
shifted d b (acts.Spell base offset room text) = acts.Spell b offset room text
shifted d b acts.Jump = acts.Jump
shifted d b (acts.Branch from kind) = acts.Branch (shift d from) kind
shifted d b (acts.Switch from kind) = acts.Switch (shift d from) kind
shifted d b (acts.ReadLine to text count stream) = acts.ReadLine (option_map (shift d) to) (shift d text) (shift d count) (shift d stream)
shifted d b acts.Stop = acts.Stop
