-- The works of a statement by its form.
use Rattle.std.specs.Prelude.{ℕ}
use Rattle.c_layout.specs.CheckedTrees as tree
use Rattle.c_layout.specs.CheckedTrees.{StatementTree}
use Rattle.lower_templates.specs.Worklist.Works.{Unused}
use Rattle.lower_templates.specs.Worklist.Plans.{Plan, with_work}
use Rattle.lower_templates.specs.Worklist.Settings.{SettingView}
use Rattle.lower_templates.specs.declared.worklist.pending_works.Surroundings.{Surroundings}
use Rattle.lower_functions.specs.Statements.ScopeJumps.{leap}
use Rattle.lower_functions.specs.Statements.PlainStatements.{forget, start_scalar, start_struct, start_list, block}
use Rattle.lower_functions.specs.Statements.Loops.{selection, two_way_selection, while_loop, do_loop, for_loop}
use Rattle.lower_functions.specs.Statements.Switches.{switch}
use Rattle.lower_functions.specs.Statements.Jumps.{labelled, case_labelled, default_labelled, go, giving}

abbrev pub statement : SettingView → StatementTree → Surroundings → Plan → Plan
statement s (tree.Value e) around p = with_work (Unused e 0) p
statement s tree.Nothing around p = p
statement s (tree.Forget at object) around p = forget at object p
statement s (tree.Start at object e) around p = start_scalar at object 0 e p
statement s (tree.StartCopy at object l) around p = start_struct at object 0 l p
statement s (tree.StartList at object stores) around p = start_list at object stores p
statement s (tree.Block objects items) around p = block s objects items around p
statement s (tree.If e body) around p = selection e body around p
statement s (tree.IfElse e body other) around p = two_way_selection s e body other around p
statement s (tree.While e body) around p = while_loop s e body around p
statement s (tree.Do body e) around p = do_loop body e around p
statement s (tree.For objects first test step body) around p = for_loop s objects first test step body around p
statement s (tree.Switch at e labels has_default enumerators body) around p = switch s at e labels body around p
statement s (tree.Case n body) around p = case_labelled n body around p
statement s (tree.Default body) around p = default_labelled body around p
statement s (tree.Label n body) around p = labelled n body around p
statement s (tree.Goto n) around p = go s n around p
statement s tree.Break around p = leap s around.scope around.on_break p
statement s tree.Continue around p = leap s around.scope around.on_continue p
statement s (tree.Return at e) around p = giving s at e around p
