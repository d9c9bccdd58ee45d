-- The plan of each library function.
use Rattle.std.specs.Prelude.{List}
use Rattle.cc_base.specs.Lattices.{LatticeOf}
use Rattle.cc_base.specs.IntegerDomains.{IntegersOf}
use Rattle.c_layout.specs.declared.library_functions.LibFn.{LibFn}
use Rattle.c_layout.specs.declared.library_functions.LibFn.TheVariants as f
use Rattle.value_domain.specs.declared.values.row_cells.Cell.{Cell}
use Rattle.transfer_library_plans.specs.Calls.{Call}
use Rattle.transfer_library_plans.specs.declared.call_plans.Effect.TheVariants as effect
use Rattle.transfer_library_plans.specs.declared.call_plans.Plan.{Plan}
use Rattle.transfer_library_plans.specs.Plans.{harmless}
use Rattle.transfer_library_plans.specs.Arguments.{argument_value}
use Rattle.transfer_library_plans.specs.Allocations.{plan_malloc, plan_calloc, plan_realloc, plan_free}
use Rattle.transfer_library.specs.MemoryCalls.{plan_copy, plan_fill}
use Rattle.transfer_library_plans.specs.Outputs.{plan_getchar, plan_putchar, plan_puts, plan_printf, plan_strlen, plan_strcmp}
use Rattle.transfer_library.specs.StringCalls.{plan_strcpy, plan_strncpy, plan_strcat}
use Rattle.transfer_library_plans.specs.Characters.{plan_character}

module _ {I : Type 0} where
  -- a call that tests or maps a character
  abbrev pub plan_test : LatticeOf I → IntegersOf I → LibFn → Call → List (Cell I) → Plan I
  plan_test l n function call row = plan_character l n function (argument_value l n call row 0)

  -- what a call may violate in a row, and what it does
  unfoldable pub plan_call : LatticeOf I → IntegersOf I → LibFn → Call → List (Cell I) → Plan I
  plan_call l n f.Malloc call row = plan_malloc l n call row
  plan_call l n f.Calloc call row = plan_calloc l n call row
  plan_call l n f.Realloc call row = plan_realloc l n call row
  plan_call l n f.Free call row = plan_free l n call row
  plan_call l n f.Memcpy call row = plan_copy l n call row
  plan_call l n f.Memmove call row = plan_copy l n call row
  plan_call l n f.Memset call row = plan_fill l n call row
  plan_call l n f.Strlen call row = plan_strlen l n call row
  plan_call l n f.Strcpy call row = plan_strcpy l n call row
  plan_call l n f.Strncpy call row = plan_strncpy l n call row
  plan_call l n f.Strcat call row = plan_strcat l n call row
  plan_call l n f.Strcmp call row = plan_strcmp l n call row
  plan_call l n f.Getchar call row = plan_getchar l n call.flow.model
  plan_call l n f.Putchar call row = plan_putchar l n call.flow.model (argument_value l n call row 0)
  plan_call l n f.Puts call row = plan_puts l n call row
  plan_call l n f.Printf call row = plan_printf l n call row
  plan_call l n f.Fgets call row = harmless effect.Unreached
  plan_call l n f.Exit call row = harmless effect.Unreached
  plan_call l n f.Abort call row = harmless effect.Unreached
  plan_call l n f.Isalpha call row = plan_test l n f.Isalpha call row
  plan_call l n f.Isdigit call row = plan_test l n f.Isdigit call row
  plan_call l n f.Isspace call row = plan_test l n f.Isspace call row
  plan_call l n f.Isupper call row = plan_test l n f.Isupper call row
  plan_call l n f.Islower call row = plan_test l n f.Islower call row
  plan_call l n f.Isalnum call row = plan_test l n f.Isalnum call row
  plan_call l n f.Toupper call row = plan_test l n f.Toupper call row
  plan_call l n f.Tolower call row = plan_test l n f.Tolower call row
