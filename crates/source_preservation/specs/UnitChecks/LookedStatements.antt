-- Looks at statements: conditions and what switches select by, initializers, and values that are returned.
use Rattle.std.specs.Prelude.{Bool, true, false, not, ◌&&◌, nat_le, List, Option, Some, None}
use Rattle.std.specs.List.{list_all}
use Rattle.c_layout.specs.ByteTexts.{are_bytes}
use Rattle.c_layout.specs.CheckedTrees as tree
use Rattle.c_layout.specs.CheckedTrees.{TermTree, StatementTree, StatementTrees, StoreTree, StoreValue, StoreCopy, StoreText}
use Rattle.c_layout.specs.CheckedUnits.{FunctionView, UnitView}
use Rattle.lower_conditions.specs.declared.branch_tests.NamedObject.{NamedObject}
use Rattle.lower_conditions.specs.Tests.{named}
use Rattle.lower_templates.specs.Worklist.TermKinds.{is_void, term_type}
use Rattle.cfg.specs.declared.machine_instructions.Scalar.{Scalar}
use Rattle.cfg.specs.declared.machine_instructions.Scalar.TheVariants as of
use Rattle.cc_base.specs.declared.int_types.IntType.{IntType}
use Rattle.memory_model.specs.Effects.LibraryChecks.{most_size}
use Rattle.source_preservation.specs.ValueTyping.Marks.{Mark, Loaded, Converted}
use Rattle.source_preservation.specs.Checks.LookedTypes.{is_kind, is_wider, is_scalar_type, is_integer}
use Rattle.source_preservation.specs.Checks.LookedTests.{same_object}
use Rattle.source_preservation.specs.Checks.LookedTerms.{is_well_typed_term, is_well_typed_place, is_well_typed_condition, side}

-- ---- conditions and switches

abbrev pub is_well_typed_if : UnitView → Option TermTree → Bool
is_well_typed_if u None = true
is_well_typed_if u (Some c) = is_well_typed_condition u true c

abbrev pub is_well_typed_step : UnitView → Option TermTree → Bool
is_well_typed_step u None = true
is_well_typed_step u (Some e) = is_well_typed_term u false e

abbrev pub is_of_kind : UnitView → Scalar → Bool
is_of_kind u (of.Int kind) = is_kind u.model kind
is_of_kind u of.Pointer = false

abbrev pub is_within : UnitView → IntType → Scalar → Bool
is_within u wide (of.Int kind) = is_kind u.model kind && (is_kind u.model wide && is_wider kind wide)
is_within u wide of.Pointer = false

abbrev pub matches : UnitView → NamedObject → Option Mark → Bool
matches u o (Some (Loaded p)) = same_object p o && is_of_kind u o.kind
matches u o (Some (Converted p wide)) = same_object p o && is_within u wide o.kind
matches u o mark = false

-- what a switch selects by
abbrev pub selects_by : UnitView → TermTree → Option NamedObject → Bool
selects_by u e None = is_well_typed_term u true e && is_integer (term_type e)
selects_by u e (Some o) = matches u o (side u e)

-- ---- initializers

abbrev pub is_well_typed_store : UnitView → StoreTree → Bool
is_well_typed_store u (StoreValue offset e) = is_well_typed_term u true e && (is_scalar_type u (term_type e) && nat_le offset (most_size u.model))
is_well_typed_store u (StoreCopy offset l) = is_well_typed_place u l && nat_le offset (most_size u.model)
is_well_typed_store u (StoreText offset room text) = are_bytes text

-- ---- statements

abbrev pub is_well_typed_return : UnitView → FunctionView → Option TermTree → Bool
is_well_typed_return u f None = true
is_well_typed_return u f (Some e) = is_well_typed_term u true e && (is_scalar_type u (term_type e) && not (is_void f.returns))

-- labels apart
abbrev mutual
  pub is_well_typed_statement : UnitView → FunctionView → StatementTree → Bool
  is_well_typed_statement u f (tree.Value e) = is_well_typed_term u false e
  is_well_typed_statement u f tree.Nothing = true
  is_well_typed_statement u f (tree.Forget at local) = true
  is_well_typed_statement u f (tree.Start at local e) = is_well_typed_term u true e && is_scalar_type u (term_type e)
  is_well_typed_statement u f (tree.StartCopy at local l) = is_well_typed_place u l
  is_well_typed_statement u f (tree.StartList at local stores) = list_all (is_well_typed_store u) stores
  is_well_typed_statement u f (tree.Block objects items) = are_well_typed_statements u f items
  is_well_typed_statement u f (tree.If c body) = is_well_typed_condition u true c && is_well_typed_statement u f body
  is_well_typed_statement u f (tree.IfElse c first second) = is_well_typed_condition u true c && (is_well_typed_statement u f first && is_well_typed_statement u f second)
  is_well_typed_statement u f (tree.While c body) = is_well_typed_condition u true c && is_well_typed_statement u f body
  is_well_typed_statement u f (tree.Do body c) = is_well_typed_condition u true c && is_well_typed_statement u f body
  is_well_typed_statement u f (tree.For objects first c step body) = are_well_typed_statements u f first && (is_well_typed_if u c && (is_well_typed_step u step && is_well_typed_statement u f body))
  is_well_typed_statement u f (tree.Switch at e labels has_default enumerators body) = selects_by u e (named e) && is_well_typed_statement u f body
  is_well_typed_statement u f (tree.Case n body) = is_well_typed_statement u f body
  is_well_typed_statement u f (tree.Default body) = is_well_typed_statement u f body
  is_well_typed_statement u f (tree.Label n body) = is_well_typed_statement u f body
  is_well_typed_statement u f (tree.Goto n) = true
  is_well_typed_statement u f tree.Break = true
  is_well_typed_statement u f tree.Continue = true
  is_well_typed_statement u f (tree.Return at e) = is_well_typed_return u f e

  pub are_well_typed_statements : UnitView → FunctionView → StatementTrees → Bool
  are_well_typed_statements u f tree.NoMore = true
  are_well_typed_statements u f (tree.And first rest) = is_well_typed_statement u f first && are_well_typed_statements u f rest
