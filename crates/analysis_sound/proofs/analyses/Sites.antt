-- A call that allocates has a site.
use Rattle.std.proofs.Common.{◌≡◌, true, false, not, ◌||◌, None, sym, ◌⊎◌, inl, inr}
use Rattle.std.proofs.lemmas.Bool.{true≢false}
use Rattle.c_layout.specs.LibrarySignatures.{signature_of}
use Rattle.c_layout.specs.declared.library_functions.LibFn.{LibFn}
use Rattle.c_layout.specs.declared.library_functions.LibFn.TheVariants as f
use Rattle.cfg.specs.declared.machine_instructions.Operation.TheVariants as op
use Rattle.cfg.specs.declared.programs.Flow.{Flow}
use Rattle.analysis_preconditions.specs.Objects.Sites.{has_site, has_sites}
use Rattle.struct_copies_sound.specs.AllocationCalls.{Allocates}
use Rattle.struct_copies_sound.specs.ReallocationCalls.{Reallocates}
use Rattle.analysis_sound.specs.Programs.OpenSteps.{AllocatesAtSites}
use Rattle.analysis_sound.proofs.analyses.Instructions.{done_in}

none_without : (name : LibFn) → (not (signature_of name).allocates || false) ≡ true → Allocates name ⊎ Reallocates name → ⊥
none_without f.Malloc h a = true≢false (sym h)
none_without f.Calloc h a = true≢false (sym h)
none_without f.Realloc h a = true≢false (sym h)
none_without _ h a = elim a [ inl e ↦ absurd e | inr e ↦ absurd e ]

pub sites_there : (flow : Flow) → has_sites flow ≡ true → AllocatesAtSites flow
sites_there flow h to name arguments size d = none_without name (done_in flow has_site h (op.Library to name arguments None size) d)
