-- One tree, one checked unit and one program.
use Rattle.std.proofs.Common.{◌≡◌, ◌∙◌, List, Result, Ok, ap, subst}
use Rattle.cc_base.specs.Standard.{standard_limits}
use Rattle.cc_base.specs.declared.refusals.Fault.{Fault}
use Rattle.c_layout.specs.CheckedUnits.{UnitView, unit_view}
use Rattle.c_layout.specs.DeclarationTrees.{ExternalTree, unit_tree}
use Rattle.c_layout.specs.declared.unit_tokens.Unit7.{Unit7}
use Rattle.c_layout.specs.declared.syntax_tree.declarations.Tree7.{Tree7}
use Rattle.c_layout.specs.declared.checked_tree.checked_units.Checked.{Checked}
use Rattle.c_parser_theorems.proofs.unique_units.Uniting as uniting
use Rattle.c_types.specs.Units.UnitChecks.{check}
use Rattle.lower.specs.Inlining.Lowerings.{IsLowering}
use Rattle.lower.proofs.inlining.OneLowering.{one_program}
use Rattle.cfg.specs.declared.programs.Flow.{Flow}
use Rattle.lower_templates.specs.Views.ProgramViews.{flow_view}
use Rattle.cli_units.specs.Judging.{SettingView, IsParsed, IsTyped, IsLowered}
use Rattle.cli_theorems.specs.Units.Accepted.{HasProgram}

pub one_parse : (unit : Unit7) (a b : Tree7) → IsParsed unit a → IsParsed unit b → unit_tree a ≡ unit_tree b
one_parse unit a b is also = uniting.one_tree unit.model unit.tokens (unit_tree a) (unit_tree b) is also

ok_same : {x y : UnitView} {r : Result UnitView Fault} → r ≡ Ok x → r ≡ Ok y → x ≡ y
ok_same {x} {y} {r} is also = cc

pub one_checked : (unit : Unit7) (s : SettingView) (a b : Tree7) (c d : Checked) → IsParsed unit a → IsParsed unit b → IsTyped s a c → IsTyped s b d → unit_view c ≡ unit_view d
one_checked unit s a b c d is also typed again =
    ok_same typed.checks (ap (λ (es : List ExternalTree). check s.model s.entry es) (one_parse unit a b is also) ∙ again.checks)

-- checked units that look alike have one program
pub one_flow : (c d : Checked) (f g : Flow) → unit_view c ≡ unit_view d → IsLowered c f → IsLowered d g → flow_view f ≡ flow_view g
one_flow c d f g same is also =
    one_program (unit_view d) standard_limits (flow_view f) (flow_view g) (subst (λ (u : UnitView). IsLowering u standard_limits (flow_view f)) same is.lowers) also.lowers

pub one_program_of : (unit : Unit7) (s : SettingView) (a b : HasProgram unit s) → flow_view a.flow ≡ flow_view b.flow
one_program_of unit s a b = one_flow a.checked b.checked a.flow b.flow (one_checked unit s a.tree b.tree a.checked b.checked a.parsed b.parsed a.typed b.typed) a.lowered b.lowered
