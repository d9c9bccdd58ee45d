-- What does not hang on where a call's arguments stand holds of operations with one view.
use Rattle.std.specs.Prelude.{◌≡◌, ℕ, Option}
use Rattle.std.specs.Global.{Vec}
use Rattle.std.proofs.Common.{subst}
use Rattle.c_layout.specs.declared.library_functions.LibFn.{LibFn}
use Rattle.cfg.specs.declared.machine_instructions.Operation.{Operation}
use Rattle.cfg.specs.declared.machine_instructions.Operation.TheVariants as op
use Rattle.lower_templates.specs.Worklist.Acts.{Act, act}
use Rattle.lower_templates.specs.Worklist.Acts as acts

module _ (P : Operation → Type 0) (any : (to : Option ℕ) (name : LibFn) (a b : Vec ℕ) (newest size : Option ℕ) → P (op.Library to name a newest size) → P (op.Library to name b newest size)) where
  -- of each operation with the view
  abbrev Of : Act → Type 0
  Of (acts.Constant to value kind) = P (op.Constant to value kind)
  Of (acts.Address to base offset) = P (op.Address to base offset)
  Of (acts.Load to from kind) = P (op.Load to from kind)
  Of (acts.Store to from kind kept) = P (op.Store to from kind kept)
  Of (acts.Copy to from index) = P (op.Copy to from index)
  Of (acts.Narrow to from offset size) = P (op.Narrow to from offset size)
  Of (acts.Shift to from by size backward) = P (op.Shift to from by size backward)
  Of (acts.Binary to sign left right kind) = P (op.Binary to sign left right kind)
  Of (acts.Unary to sign from kind) = P (op.Unary to sign from kind)
  Of (acts.Compare to sign left right) = P (op.Compare to sign left right)
  Of (acts.Not to from kind) = P (op.Not to from kind)
  Of (acts.Difference to left right size) = P (op.Difference to left right size)
  Of (acts.ComparePointers to sign left right) = P (op.ComparePointers to sign left right)
  Of (acts.Convert to from old new) = P (op.Convert to from old new)
  Of (acts.Library to function arguments newest size) = (v : Vec ℕ) → P (op.Library to function v newest size)
  Of (acts.Enter base) = P (op.Enter base)
  Of (acts.Leave base) = P (op.Leave base)
  Of (acts.Forget base) = P (op.Forget base)
  Of (acts.Clear base) = P (op.Clear base)
  Of (acts.Spell base offset room text) = P (op.Spell base offset room text)
  Of acts.Jump = P op.Jump
  Of (acts.Branch from kind) = P (op.Branch from kind)
  Of (acts.Switch from kind) = P (op.Switch from kind)
  Of (acts.ReadLine to text count stream) = P (op.ReadLine to text count stream)
  Of acts.Stop = P op.Stop

  to_view : (p : Operation) → P p → Of (act p)
  to_view (op.Constant to value kind) h = h
  to_view (op.Address to base offset) h = h
  to_view (op.Load to from kind) h = h
  to_view (op.Store to from kind kept) h = h
  to_view (op.Copy to from index) h = h
  to_view (op.Narrow to from offset size) h = h
  to_view (op.Shift to from by size backward) h = h
  to_view (op.Binary to sign left right kind) h = h
  to_view (op.Unary to sign from kind) h = h
  to_view (op.Compare to sign left right) h = h
  to_view (op.Not to from kind) h = h
  to_view (op.Difference to left right size) h = h
  to_view (op.ComparePointers to sign left right) h = h
  to_view (op.Convert to from old new) h = h
  to_view (op.Library to function arguments newest size) h = λ v. any to function arguments v newest size h
  to_view (op.Enter base) h = h
  to_view (op.Leave base) h = h
  to_view (op.Forget base) h = h
  to_view (op.Clear base) h = h
  to_view (op.Spell base offset room text) h = h
  to_view op.Jump h = h
  to_view (op.Branch from kind) h = h
  to_view (op.Switch from kind) h = h
  to_view (op.ReadLine to text count stream) h = h
  to_view op.Stop h = h

  of_view : (q : Operation) → Of (act q) → P q
  of_view (op.Constant to value kind) h = h
  of_view (op.Address to base offset) h = h
  of_view (op.Load to from kind) h = h
  of_view (op.Store to from kind kept) h = h
  of_view (op.Copy to from index) h = h
  of_view (op.Narrow to from offset size) h = h
  of_view (op.Shift to from by size backward) h = h
  of_view (op.Binary to sign left right kind) h = h
  of_view (op.Unary to sign from kind) h = h
  of_view (op.Compare to sign left right) h = h
  of_view (op.Not to from kind) h = h
  of_view (op.Difference to left right size) h = h
  of_view (op.ComparePointers to sign left right) h = h
  of_view (op.Convert to from old new) h = h
  of_view (op.Library to function arguments newest size) h = h arguments
  of_view (op.Enter base) h = h
  of_view (op.Leave base) h = h
  of_view (op.Forget base) h = h
  of_view (op.Clear base) h = h
  of_view (op.Spell base offset room text) h = h
  of_view op.Jump h = h
  of_view (op.Branch from kind) h = h
  of_view (op.Switch from kind) h = h
  of_view (op.ReadLine to text count stream) h = h
  of_view op.Stop h = h

  pub alike : (p q : Operation) → act p ≡ act q → P p → P q
  alike p q e h = of_view q (subst Of e (to_view p h))
