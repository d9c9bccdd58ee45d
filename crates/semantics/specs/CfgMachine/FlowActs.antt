-- What the instructions do that do not end their block.
use Rattle.std.specs.Prelude.{ℕ, List, Option, Some, None, slice_get}
use Rattle.c_layout.specs.Types.{Struct}
use Rattle.c_layout.specs.Layout.{size_of_type}
use Rattle.c_layout.specs.Leaves.{leaves_of}
use Rattle.c_layout.specs.declared.leaf_lists.Leaf.{Leaf}
use Rattle.c_layout.specs.declared.shapes.BaseInfo.{BaseInfo}
use Rattle.cfg.specs.declared.machine_instructions.Amount.{Amount}
use Rattle.cfg.specs.declared.machine_instructions.Amount.TheVariants as amount
use Rattle.memory_model.specs.Memory.Labels.{no_labels}
use Rattle.memory_model.specs.Memory.Bytes.{into}
use Rattle.memory_model.specs.Memory.Scalars.{Scalar, integer, pointer}
use Rattle.memory_model.specs.Effects.NumberedTables.{put_at, clear_at}
use Rattle.memory_model.specs.Effects.Worlds.{World, Reply, goes, behind}
use Rattle.memory_model.specs.Effects.Accesses.{load, store}
use Rattle.memory_model.specs.Effects.StructCopies.{copy_struct}
use Rattle.memory_model.specs.Effects.PointerEffects.{narrow, shift, difference, compare}
use Rattle.memory_model.specs.Effects.IntegerEffects.{plain_one, binary, unary, compare_numbers, negation, convert}
use Rattle.memory_model.specs.Effects.ObjectEffects.{next_instance, entered, left, forgotten, cleared, spelled}
use Rattle.memory_model.specs.Effects.LibraryCalls.{library}
use Rattle.lower_templates.specs.Worklist.Acts as act
use Rattle.lower_templates.specs.Worklist.Acts.{Act}
use Rattle.lower_templates.specs.Views.ProgramViews.{FlowView}
use Rattle.semantics.specs.CfgMachine.FlowStates.{ProgramState, stuck_at, with_temp, with_temps, with_instance, put, next, base_size}

-- ---- results

abbrev pub giving : ProgramState → ℕ → Reply Scalar → Reply ProgramState
giving s to reply = behind reply (λ v w. next (put s to v w))

abbrev pub making : ProgramState → World → Reply ProgramState
making s w = next (record s { world = w })

-- the value that was stored may be kept in another temporary
abbrev pub keeping : ProgramState → Option (ℕ × ℕ) → Reply ProgramState
keeping s None = next s
keeping s (Some kept) = with_temp s kept.1 (λ v. next (put s kept.0 v s.world))

abbrev pub storing : ProgramState → Option (ℕ × ℕ) → Reply Scalar → Reply ProgramState
storing s kept reply = behind reply (λ v w. keeping (record s { world = w }) kept)

abbrev pub put_result : ProgramState → Option ℕ → Option Scalar → World → Reply ProgramState
put_result s (Some to) (Some v) w = next (put s to v w)
put_result s None None w = making s w
put_result s to v w = stuck_at s

abbrev pub calling : ProgramState → Option ℕ → Reply (Option Scalar) → Reply ProgramState
calling s to reply = behind reply (put_result s to)

-- ---- operands

abbrev pub with_amount : ProgramState → Amount → (Scalar → Reply ProgramState) → Reply ProgramState
with_amount s (amount.Temp t) use_it = with_temp s t use_it
with_amount s amount.One use_it = use_it plain_one

abbrev pub on_one : ProgramState → ℕ → ℕ → (Scalar → World → Reply Scalar) → Reply ProgramState
on_one s to from effect = with_temp s from (λ v. giving s to (effect v s.world))

abbrev pub on_two : ProgramState → ℕ → ℕ → ℕ → (Scalar → Scalar → World → Reply Scalar) → Reply ProgramState
on_two s to left right effect = with_temp s left (λ a. with_temp s right (λ b. giving s to (effect a b s.world)))

-- ---- objects

-- a pointer to a byte of an object, into the whole of it
abbrev pub addressing : FlowView → ProgramState → ℕ → ℕ → ℕ → Reply ProgramState
addressing f s to base offset = with_instance s base (λ i. giving s to (goes (pointer (into i offset 0 (base_size f base))) s.world))

abbrev pub enter : FlowView → ProgramState → ℕ → Option BaseInfo → Reply ProgramState
enter f s base None = stuck_at s
enter f s base (Some b) = making (record s { bases = put_at s.bases base (next_instance s.world) }) (entered f.model b.shape.cells b.size s.world)

-- an object that is not there gets a fresh instance, which its base names from now on
abbrev pub entering : FlowView → ProgramState → ℕ → Option ℕ → Reply ProgramState
entering f s base None = enter f s base (slice_get f.bases base)
entering f s base (Some i) = stuck_at s

abbrev pub leaving : ProgramState → ℕ → Reply ProgramState
leaving s base = with_instance s base (λ i. making (record s { bases = clear_at s.bases base }) (left i s.world))

abbrev pub changing : ProgramState → ℕ → (ℕ → World → World) → Reply ProgramState
changing s base change = with_instance s base (λ i. making s (change i s.world))

-- ---- structs

abbrev pub struct_leaves : FlowView → ℕ → List Leaf
struct_leaves f n = leaves_of f.structs f.model.pointer (Struct n)

abbrev pub struct_size : FlowView → ℕ → ℕ
struct_size f n = size_of_type f.structs f.model.pointer (Struct n)

-- ---- instructions

abbrev pub perform : FlowView → Act → ProgramState → Reply ProgramState
perform f (act.Constant to value kind) s = giving s to (goes (integer value no_labels) s.world)
perform f (act.Address to base offset) s = addressing f s to base offset
perform f (act.Load to from kind) s = on_one s to from (load f.model kind)
perform f (act.Store to from kind kept) s = with_temp s to (λ p. with_temp s from (λ v. storing s kept (store f.model kind p v s.world)))
perform f (act.Copy to from index) s = on_two s to to from (copy_struct f.model (struct_leaves f index) (struct_size f index))
perform f (act.Narrow to from offset size) s = on_one s to from (λ p w. narrow p offset size w)
perform f (act.Shift to from by size backward) s = with_temp s from (λ p. with_amount s by (λ n. giving s to (shift p n size backward s.world)))
perform f (act.Binary to sign left right kind) s = with_temp s left (λ a. with_amount s right (λ b. giving s to (binary sign kind a b s.world)))
perform f (act.Unary to sign from kind) s = on_one s to from (unary sign kind)
perform f (act.Compare to sign left right) s = on_two s to left right (compare_numbers sign)
perform f (act.Not to from kind) s = on_one s to from negation
perform f (act.Difference to left right size) s = on_two s to left right (λ p q w. difference p q size w)
perform f (act.ComparePointers to sign left right) s = on_two s to left right (compare sign)
perform f (act.Convert to from old new) s = on_one s to from (convert new)
perform f (act.Library to function arguments newest size) s = with_temps s arguments (λ vs. calling s to (library f.model size function vs s.world))
perform f (act.Enter base) s = entering f s base (s.bases base)
perform f (act.Leave base) s = leaving s base
perform f (act.Forget base) s = changing s base forgotten
perform f (act.Clear base) s = changing s base cleared
perform f (act.Spell base offset room text) s = changing s base (λ i w. spelled i offset room text w)
perform f other s = stuck_at s
