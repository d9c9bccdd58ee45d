-- Calls of the few functions that plain programs call leave memory as it is.
use Rattle.std.proofs.Common.{◌≡◌, ℕ, true, List, Option, Some}
use Rattle.c_layout.specs.declared.data_model.Model.{Model}
use Rattle.c_layout.specs.declared.library_functions.LibFn.{LibFn}
use Rattle.c_layout.specs.declared.library_functions.LibFn.TheVariants as f
use Rattle.memory_model.specs.Memory.Scalars.{Scalar}
use Rattle.memory_model.specs.Effects.LibraryCalls.{putchar, character_call, with_result, library}
use Rattle.memory_model.specs.Effects.Worlds.{World, Reply, goes}
use Rattle.typed_programs.specs.PlainUnits.PlainTerms.{is_plain_library}
use Rattle.source_preservation.specs.Memory.GoingWorlds.{Keeps, Same, Tells, Told}
use Rattle.source_preservation.proofs.memory.Calling.{putchar_tells, character_call_tells}
use Rattle.source_preservation.proofs.memory.Replies.{when_behind}

module _ (w : World) where
  result_keeps : (r : Reply Scalar) → Tells w.memory r → Keeps w.memory (with_result r)
  result_keeps r h = when_behind (Told w.memory) (Same {A = Option Scalar} w.memory) r (λ v w. goes (Some v) w) h (λ v after is. is.1)

  character_keeps : (name : LibFn) (vs : List Scalar) → Keeps w.memory (with_result (character_call name vs w))
  character_keeps name vs = result_keeps (character_call name vs w) (character_call_tells name vs w)

pub library_keeps : (m : Model) (size : Option ℕ) (name : LibFn) → is_plain_library name ≡ true → (vs : List Scalar) (w : World) → Keeps w.memory (library m size name vs w)
library_keeps m size f.Putchar plain vs w = result_keeps w (putchar vs w) (putchar_tells vs w)
library_keeps m size f.Exit plain vs w = tt
library_keeps m size f.Abort plain vs w = tt
library_keeps m size f.Isalpha plain vs w = character_keeps w f.Isalpha vs
library_keeps m size f.Isdigit plain vs w = character_keeps w f.Isdigit vs
library_keeps m size f.Isspace plain vs w = character_keeps w f.Isspace vs
library_keeps m size f.Isupper plain vs w = character_keeps w f.Isupper vs
library_keeps m size f.Islower plain vs w = character_keeps w f.Islower vs
library_keeps m size f.Isalnum plain vs w = character_keeps w f.Isalnum vs
library_keeps m size f.Toupper plain vs w = character_keeps w f.Toupper vs
library_keeps m size f.Tolower plain vs w = character_keeps w f.Tolower vs
library_keeps m size _ plain vs w = absurd (cc)
