-- Operations put in at a call: temporaries are counted from the call's first one, and a base stands for
-- the template's own one.
use Rattle.std.specs.Prelude.{ℕ, ℤ, List, map, Option, Some, None}
use Rattle.std.specs.Option.{option_map}
use Rattle.c_layout.specs.declared.library_functions.LibFn.{LibFn}
use Rattle.cfg.specs.declared.machine_instructions.Amount.{Amount}
use Rattle.cfg.specs.declared.machine_instructions.Amount.TheVariants as amount
use Rattle.lower_templates.specs.Worklist.Acts as acts
use Rattle.lower_templates.specs.Worklist.Acts.{Act}
use Rattle.lower_templates.specs.Worklist.Works.{behind}

-- the temporary that stands as far behind the call's first one
abbrev pub temp : ℕ → ℕ → ℕ
temp d t = behind t d

abbrev pub amount_moved : ℕ → Amount → Amount
amount_moved d (amount.Temp t) = amount.Temp (temp d t)
amount_moved d amount.One = amount.One

abbrev pub kept_moved : ℕ → Option (ℕ × ℕ) → Option (ℕ × ℕ)
kept_moved d None = None
kept_moved d (Some p) = Some (temp d p.0, temp d p.1)

abbrev pub put_moved : ℕ → Option (ℕ × ℤ) → Option (ℕ × ℤ)
put_moved d None = None
put_moved d (Some p) = Some (temp d p.0, p.1)

abbrev pub named : ℕ → Option ℕ → Option ℕ
named b None = None
named b (Some own) = Some b

abbrev pub library : ℕ → ℕ → Option ℕ → LibFn → List ℕ → Option ℕ → Option ℕ → Act
library d b to function arguments newest size = acts.Library (option_map (temp d) to) function (map (temp d) arguments) (named b newest) size

abbrev pub spelled : ℕ → ℕ → ℕ → List ℕ → Act
spelled b offset room text = acts.Spell b offset room text

-- the base of the template that an operation names
abbrev pub own_base : Act → Option ℕ
own_base (acts.Constant to value kind) = None
own_base (acts.Address to base offset) = Some base
own_base (acts.Load to from kind) = None
own_base (acts.Store to from kind kept) = None
own_base (acts.Copy to from index) = None
own_base (acts.Narrow to from offset size) = None
own_base (acts.Shift to from by size backward) = None
own_base (acts.Binary to sign left right kind) = None
own_base (acts.Unary to sign from kind) = None
own_base (acts.Compare to sign left right) = None
own_base (acts.Not to from kind) = None
own_base (acts.Difference to left right size) = None
own_base (acts.ComparePointers to sign left right) = None
own_base (acts.Convert to from old new) = None
own_base (acts.Library to function arguments newest size) = newest
own_base (acts.Enter base) = Some base
own_base (acts.Leave base) = Some base
own_base (acts.Forget base) = Some base
own_base (acts.Clear base) = Some base
own_base (acts.Spell base offset room text) = Some base
own_base acts.Jump = None
own_base (acts.Branch from kind) = None
own_base (acts.Switch from kind) = None
own_base (acts.ReadLine to text count stream) = None
own_base acts.Stop = None

abbrev pub moved : ℕ → ℕ → Act → Act
moved d b (acts.Constant to value kind) = acts.Constant (temp d to) value kind
moved d b (acts.Address to base offset) = acts.Address (temp d to) b offset
moved d b (acts.Load to from kind) = acts.Load (temp d to) (temp d from) kind
moved d b (acts.Store to from kind kept) = acts.Store (temp d to) (temp d from) kind (kept_moved d kept)
moved d b (acts.Copy to from index) = acts.Copy (temp d to) (temp d from) index
moved d b (acts.Narrow to from offset size) = acts.Narrow (temp d to) (temp d from) offset size
moved d b (acts.Shift to from by size backward) = acts.Shift (temp d to) (temp d from) (amount_moved d by) size backward
moved d b (acts.Binary to sign left right kind) = acts.Binary (temp d to) sign (temp d left) (amount_moved d right) kind
moved d b (acts.Unary to sign from kind) = acts.Unary (temp d to) sign (temp d from) kind
moved d b (acts.Compare to sign left right) = acts.Compare (temp d to) sign (temp d left) (temp d right)
moved d b (acts.Not to from kind) = acts.Not (temp d to) (temp d from) kind
moved d b (acts.Difference to left right size) = acts.Difference (temp d to) (temp d left) (temp d right) size
moved d b (acts.ComparePointers to sign left right) = acts.ComparePointers (temp d to) sign (temp d left) (temp d right)
moved d b (acts.Convert to from old new) = acts.Convert (temp d to) (temp d from) old new
moved d b (acts.Library to function arguments newest size) = library d b to function arguments newest size
moved d b (acts.Enter base) = acts.Enter b
moved d b (acts.Leave base) = acts.Leave b
moved d b (acts.Forget base) = acts.Forget b
moved d b (acts.Clear base) = acts.Clear b
moved d b (acts.Spell base offset room text) = spelled b offset room text
moved d b acts.Jump = acts.Jump
moved d b (acts.Branch from kind) = acts.Branch (temp d from) kind
moved d b (acts.Switch from kind) = acts.Switch (temp d from) kind
moved d b (acts.ReadLine to text count stream) = acts.ReadLine (option_map (temp d) to) (temp d text) (temp d count) (temp d stream)
moved d b acts.Stop = acts.Stop
