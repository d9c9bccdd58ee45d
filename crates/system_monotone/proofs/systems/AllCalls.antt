-- The calls of a program grow with the row, and so do its copies of structs where the leaves of its structs share no bytes.
use Rattle.std.specs.Prelude.{◌≡◌, ℤ, true, refl}
use Rattle.cc_base.specs.Lattices.{LatticeOf, OrderLaws}
use Rattle.cc_base.specs.IntegerDomains.{IntegersOf, BoundLaws, RangeLaws}
use Rattle.cc_base.specs.IntegerLaws.{MonotoneLaws}
use Rattle.c_layout.specs.declared.library_functions.LibFn.{LibFn}
use Rattle.c_layout.specs.declared.library_functions.LibFn.TheVariants as f
use Rattle.cfg.specs.declared.programs.Flow.{Flow}
use Rattle.cfg.specs.declared.flow_edges.EdgeKind.{EdgeKind}
use Rattle.cfg.specs.declared.flow_edges.EdgeKind.TheVariants as kind
use Rattle.cfg.specs.declared.machine_instructions.Operation.{Operation}
use Rattle.cfg.specs.declared.machine_instructions.Operation.TheVariants as op
use Rattle.cfg.specs.WellFormed.{is_laid_out}
use Rattle.pointer_domain.specs.declared.base_sets.Bases.{Bases}
use Rattle.transfer_checks.specs.ViolationSets.{no_violations}
use Rattle.transfer_library.specs.Planning.{plan_call}
use Rattle.transfer_monotone.specs.Values.LaidOut.{IsLaidOut}
use Rattle.transfer_monotone.proofs.values.ViolationOrder.{same_below}
use Rattle.transfer_monotone.specs.Edges.CallLaws.{CallRises, CopyRises}
use Rattle.transfer_monotone.specs.Edges.ProgramLaws.{IsRising, IsRisingEdge, AreRising}
use Rattle.transfer_monotone.specs.Library.Sites.{HasSites}
use Rattle.transfer_monotone.proofs.library.ResultCalls.{IsPlanned, planned_call, getchar_rises, putchar_call, exit_rises, abort_rises}
use Rattle.transfer_monotone.proofs.library.CharacterCalls.{isalpha_rises, isdigit_rises, isspace_rises, isupper_rises, islower_rises, isalnum_rises, toupper_rises, tolower_rises}
use Rattle.transfer_monotone.proofs.library.AllocationCalls.{malloc_rises}
use Rattle.transfer_monotone.proofs.library.Products.{calloc_rises}
use Rattle.transfer_monotone.proofs.library.Releases.{realloc_rises, free_rises}
use Rattle.transfer_monotone.proofs.library.StringResults.{strlen_rises, strcmp_rises, puts_rises, printf_rises}
use Rattle.system_monotone.proofs.library_writes.TextCopyCalls.{strcpy_rises, strncpy_rises}
use Rattle.system_monotone.proofs.library_writes.AppendCalls.{strcat_rises}
use Rattle.system_monotone.proofs.library_writes.LineCalls.{lines_rise}
use Rattle.system_monotone.proofs.library_writes.FillCalls.{memset_rises}
use Rattle.system_monotone.proofs.library_writes.CopyCalls.{memcpy_rises, memmove_rises}
use Rattle.system_monotone.proofs.struct_copies.StructCopies.{copies_rise}
use Rattle.system_monotone.specs.Systems.CopiedStructs.{is_copy, CopiesSpread}

module _ {I : Type 0} {l : LatticeOf I} {n : IntegersOf I} {stands : I → ℤ → Type 0} (o : OrderLaws l) (b : BoundLaws l n stands) (g : MonotoneLaws l n) (r : RangeLaws l n) (all : Bases) (flow : Flow) (k : IsLaidOut all flow) where
  -- a call of `fgets` that ends no block does not go on
  fgets_planned : IsPlanned o b g r all flow k f.Fgets
  unfolding plan_call
  fgets_planned = record { rises = λ arguments wanted x y h. record { checks = same_below no_violations; effect = tt }; results = λ arguments wanted x. tt }

  module _ (sites : HasSites all flow) where
    each_call : (function : LibFn) → CallRises l n all flow function
    each_call f.Malloc = malloc_rises o b g r all flow k sites
    each_call f.Calloc = calloc_rises o b g r all flow k sites
    each_call f.Realloc = realloc_rises o b g r all flow k sites
    each_call f.Free = free_rises o b g r all flow k
    each_call f.Memcpy = memcpy_rises o b g r all flow k
    each_call f.Memmove = memmove_rises o b g r all flow k
    each_call f.Memset = memset_rises o b g r all flow k
    each_call f.Strlen = strlen_rises o b g r all flow k
    each_call f.Strcpy = strcpy_rises o b g r all flow k
    each_call f.Strncpy = strncpy_rises o b g r all flow k
    each_call f.Strcat = strcat_rises o b g r all flow k
    each_call f.Strcmp = strcmp_rises o b g r all flow k
    each_call f.Getchar = getchar_rises o b g r all flow k
    each_call f.Putchar = putchar_call o b g r all flow k
    each_call f.Puts = puts_rises o b g r all flow k
    each_call f.Printf = printf_rises o b g r all flow k
    each_call f.Fgets = planned_call o b g r all flow k f.Fgets fgets_planned
    each_call f.Exit = exit_rises o b g r all flow k
    each_call f.Abort = abort_rises o b g r all flow k
    each_call f.Isalpha = isalpha_rises o b g r all flow k
    each_call f.Isdigit = isdigit_rises o b g r all flow k
    each_call f.Isspace = isspace_rises o b g r all flow k
    each_call f.Isupper = isupper_rises o b g r all flow k
    each_call f.Islower = islower_rises o b g r all flow k
    each_call f.Isalnum = isalnum_rises o b g r all flow k
    each_call f.Toupper = toupper_rises o b g r all flow k
    each_call f.Tolower = tolower_rises o b g r all flow k

    each_operation : (p : Operation) → (is_copy p ≡ true → CopyRises l n all flow) → IsRising l n all flow p
    each_operation (op.Library to function arguments newest wanted) copies = each_call function
    each_operation (op.ReadLine to line count stream) copies = lines_rise o b g r all flow k
    each_operation (op.Copy to from index) copies = copies refl
    each_operation _ copies = tt

    each_edge : (e : EdgeKind) → IsRisingEdge l n all flow e
    each_edge kind.Line = lines_rise o b g r all flow k
    each_edge _ = tt

    pub all_rise : is_laid_out flow ≡ true → CopiesSpread flow → AreRising l n all flow
    all_rise laid spread = record {
      instructions = λ block at c i p q. each_operation i.operation (λ e. copies_rise o b g r all flow k laid (spread block at c i p q e));
      edges = λ number e p. each_edge e.kind;
    }
