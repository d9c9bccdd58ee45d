-- When the analysis's step that spells a text into an object is sound.
use Rattle.std.specs.Prelude.{◌≡◌, ℕ, ◌+◌, ◌<◌, ◌≤◌, ℤ, true, false, List, Some, slice_get}
use Rattle.cc_base.specs.Lattices.{LatticeOf}
use Rattle.cc_base.specs.IntegerDomains.{IntegersOf}
use Rattle.cc_base.specs.declared.limit_table.Limits.{Limits}
use Rattle.c_layout.specs.declared.leaf_lists.Class.TheVariants.{Char}
use Rattle.c_layout.specs.declared.shapes.BaseInfo.{BaseInfo}
use Rattle.c_layout.specs.declared.shapes.ZeroPart.{ZeroPart}
use Rattle.cfg.specs.WellFormed.{is_well_formed}
use Rattle.cfg.specs.declared.machine_instructions.Operation.{Operation}
use Rattle.cfg.specs.declared.machine_instructions.Operation.TheVariants as op
use Rattle.cfg.specs.declared.programs.Flow.{Flow}
use Rattle.transfer_sound.specs.StoreLaws.{AreBytes}
use Rattle.memory_model.specs.Memory.Tags.{tag_of, tag_at}
use Rattle.store_sound.specs.Programs.Premises.{HasPremises}
use Rattle.transfer_sound.specs.Values.SoundSteps.{AreSound}

-- all bytes of some room are those of leaves of characters
abbrev pub AreCharacters : Flow → BaseInfo → ℕ → ℕ → Type 0
AreCharacters flow info offset room = (x : ℕ) → offset ≤ x → x < offset + room → tag_at flow.model info.shape.cells x ≡ tag_of Char 0

-- bytes are spelled into room for at least one of them, all of it in leaves of characters
pub record SpellsBytes (flow : Flow) (base offset room : ℕ) (text : List ℕ) : Type 0 where
  pub some : 0 < room
  pub bytes : AreBytes text
  pub over : (info : BaseInfo) → slice_get flow.bases.items base ≡ Some info → AreCharacters flow info offset room

-- a text is spelled, over characters alone
abbrev pub SpellsCharacters : Flow → Operation → Type 0
SpellsCharacters flow (op.Spell base offset room text) = SpellsBytes flow base offset room text
SpellsCharacters flow _ = ⊥

-- where room is an array whose first zero is followed, a text that is spelled into it lies over characters
abbrev pub FollowedArraysAreCharacters : Flow → Type 0
FollowedArraysAreCharacters flow = HasPremises flow → (b z : ℕ) (info : BaseInfo) (part : ZeroPart) (room : ℕ) → slice_get flow.bases.items b ≡ Some info → info.shape.heap ≡ false → slice_get info.shape.zeros z ≡ Some part → part.size ≡ Some room → AreCharacters flow info part.offset room

module _ {I : Type 0} (l : LatticeOf I) (n : IntegersOf I) (gamma : I → ℤ → Type 0) (flow : Flow) where
  abbrev pub SpellStepsAreSound : Type 0
  SpellStepsAreSound = (limits : Limits) → is_well_formed limits flow ≡ true → HasPremises flow → AreSound l n gamma flow (SpellsCharacters flow)
