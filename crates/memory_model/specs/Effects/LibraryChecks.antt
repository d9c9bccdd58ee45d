-- What calls of the library check before they do anything (7.1.4).
use Rattle.std.specs.Prelude.{ℕ, zero, suc, ◌-◌, ◌*◌, ◌^◌, ℤ, unsigned_abs, not, ◌&&◌, nat_lt, List, [], ◌∷◌}
use Rattle.cc_base.specs.declared.diagnostics.Rule.TheVariants as rule
use Rattle.c_layout.specs.declared.data_model.Model.{Model}
use Rattle.memory_model.specs.Memory.Labels.{Labels, is_unlabelled}
use Rattle.memory_model.specs.Memory.Bytes.{MachinePointer, null, into, Content, indeterminate, number, part, Byte}
use Rattle.memory_model.specs.Memory.Instances.{Life, live, ended, freed, bytes_at, life_at}
use Rattle.memory_model.specs.Effects.Worlds.{World, Left, Reply, goes, stops, noted, unless, stopped_by}
use Rattle.memory_model.specs.Effects.ScalarBytes.{region, contents}
use Rattle.memory_model.specs.Effects.Touches.{Spot, is_literal, storage_at}

-- ---- sizes

-- a size, which is not negative
abbrev pub size_of : ℤ → ℕ
size_of n = unsigned_abs n

-- a size that has a label
abbrev pub with_size : World → Labels → World
with_size w labels = noted w (not (is_unlabelled labels)) rule.Taintsink

-- the greatest number of the type of differences of pointers
abbrev pub most_size : Model → ℕ
most_size m = 2 ^ (8 * m.pointer - 1) - 1

-- ---- pointers

-- what a pointer to a live instance reaches: the bytes up to its upper bound
pub record Reach : Type 0 where
  pub spot : Spot
  pub room : ℕ

abbrev pub reached_by : World → Life → ℕ → ℕ → ℕ → Reply Reach
reached_by w live i offset hi = goes (record { spot = record { instance = i; offset = offset }; room = hi - offset }) w
reached_by w ended i offset hi = stopped_by w rule.Nullref
reached_by w freed i offset hi = stopped_by w rule.Accfree

abbrev pub reached : MachinePointer → World → Reply Reach
reached null w = stopped_by w rule.Nullref
reached (into i offset lo hi) w = reached_by w (life_at w.memory i) i offset hi

abbrev pub bytes_from : World → Reach → ℕ → List Byte
bytes_from w r size = region (bytes_at w.memory r.spot.instance) r.spot.offset size

-- ---- strings

pub data Scanned : Type 0 where
  -- a zero byte behind so many characters
  ends : (characters : ℕ) → Scanned
  -- no zero byte before an indeterminate one or the end
  unended : Scanned
  -- a part of a pointer, which is no character
  broken : Scanned

abbrev pub one_further : Scanned → Scanned
one_further (ends n) = ends (suc n)
one_further unended = unended
one_further broken = broken

abbrev pub scanned : List Content → Scanned
scanned [] = unended
scanned (indeterminate ∷ cs) = unended
scanned (number zero labels ∷ cs) = ends 0
scanned (number (suc n) labels ∷ cs) = one_further (scanned cs)
scanned (part p k ∷ cs) = broken

abbrev pub measured : World → Scanned → Reply ℕ
measured w (ends n) = goes n w
measured w unended = stopped_by w rule.Nonnullcs
measured w broken = stops Left w

-- the length of the string that a pointer points to
abbrev pub string_length : Reach → World → Reply ℕ
string_length r w = measured w (scanned (contents (bytes_from w r r.room)))

-- the characters among the first so many bytes; a zero byte ends them
abbrev pub scanned_first : ℕ → List Content → Scanned
scanned_first zero cs = ends 0
scanned_first (suc n) [] = unended
scanned_first (suc n) (indeterminate ∷ cs) = unended
scanned_first (suc n) (number zero labels ∷ cs) = ends 0
scanned_first (suc n) (number (suc c) labels ∷ cs) = one_further (scanned_first n cs)
scanned_first (suc n) (part p k ∷ cs) = broken

abbrev pub length_within : ℕ → Reach → World → Reply ℕ
length_within n r w = measured w (scanned_first n (contents (bytes_from w r r.room)))

-- ---- room

-- so many bytes are touched, as far as the pointer reaches
abbrev pub fitting : ℕ → Reach → World → Reply Reach
fitting size r w = unless w (nat_lt r.room size) rule.Libptr (goes r w)

-- so many bytes are written
abbrev pub writable : ℕ → Reach → World → Reply Reach
writable size r w = unless w (nat_lt 0 size && is_literal (storage_at w.memory r.spot.instance)) rule.Strmod (goes r w)
