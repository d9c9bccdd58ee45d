-- What has a program is not refused, unless for turns of its loops.
use Rattle.std.proofs.Common.{◌≡◌, ◌∙◌, ◌⊎◌, ℕ, List, Option, Some, None, Result, Ok, Err, ap, inl, inr, sym, subst}
use Rattle.cc_base.specs.Standard.{standard_limits}
use Rattle.cc_base.specs.declared.refusals.Fault.{Fault}
use Rattle.cc_base.specs.declared.refusals.Refusal.{Refusal}
use Rattle.cc_base.specs.declared.refusals.Refusal.TheVariants as refusal
use Rattle.cc_base.specs.declared.refusals.Stop.TheVariants as stop
use Rattle.c_layout.specs.CheckedUnits.{UnitView, unit_view}
use Rattle.c_layout.specs.DeclarationTrees.{ExternalTree, unit_tree}
use Rattle.c_layout.specs.declared.unit_tokens.Unit7.{Unit7}
use Rattle.c_layout.specs.declared.syntax_tree.declarations.Tree7.{Tree7}
use Rattle.c_layout.specs.declared.checked_tree.checked_units.Checked.{Checked}
use Rattle.c_types.specs.Units.UnitChecks.{check}
use Rattle.lower.specs.Inlining.Lowerings as lowering
use Rattle.lower.specs.Inlining.Lowerings.{IsLowering}
use Rattle.lower.proofs.inlining.OneLowering.{no_refusal}
use Rattle.cfg.specs.declared.programs.Flow.{Flow}
use Rattle.lower_templates.specs.Views.ProgramViews.{FlowView, flow_view}
use Rattle.loop_unrolling.specs.SplitCounts.{Splits}
use Rattle.cli_units.specs.Stages.{stage_of}
use Rattle.cli_units.specs.Judging.{SettingView, Judgement, IsParsed, IsLowered, IsJudged, IsUnrolledPast, IsPast, RefusesAt, RefusesUnit}
use Rattle.cli_theorems.specs.Units.Accepted.{IsShort, HasProgram, FitsUnrolled, IsAccepted, PassesUnrolled}
use Rattle.cli_theorems.proofs.units.OneParse.{one_parse, one_checked, one_flow}
use Rattle.cli_theorems.proofs.units.Grammar.{never_refused}

not_both : {u : UnitView} {why : Fault} {r : Result UnitView Fault} → r ≡ Ok u → r ≡ Err why → ⊥
not_both {u} {why} {r} is also = let h : Ok u ≡ Err why = sym is ∙ also in absurd (cc h)

typed_apart : (unit : Unit7) (s : SettingView) (p : HasProgram unit s) (why : Fault) (tree : Tree7) → IsParsed unit tree → check s.model s.entry (unit_tree tree) ≡ Err why → ⊥
typed_apart unit s p why tree parsed refused =
    not_both p.typed.checks (ap (λ (es : List ExternalTree). check s.model s.entry es) (one_parse unit p.tree tree p.parsed parsed) ∙ refused)

turned : (turns : Option ℕ) (c d : Checked) (flow : Flow) (why : Fault) → unit_view c ≡ unit_view d → IsLowered c flow → IsUnrolledPast turns d why → PassesUnrolled turns flow why
turned None c d flow why same lowered past = past
turned (Some turns) c d flow why same lowered (other, also, splits) =
    subst (λ (f : FlowView). Splits standard_limits turns f (stop.Refused why)) (sym (one_flow c d flow other same lowered also)) splits

past_limits : (turns : Option ℕ) (c d : Checked) (flow : Flow) (why : Fault) → unit_view c ≡ unit_view d → IsLowered c flow → lowering.Refuses (unit_view d) standard_limits (stop.Refused why) ⊎ IsUnrolledPast turns d why → PassesUnrolled turns flow why
past_limits turns c d flow why same lowered (inl refused) =
    absurd (no_refusal (unit_view d) standard_limits (flow_view flow) why (subst (λ (u : UnitView). IsLowering u standard_limits (flow_view flow)) same lowered.lowers) refused)
past_limits turns c d flow why same lowered (inr past) = turned turns c d flow why same lowered past

counted : (unit : Unit7) (s : SettingView) (p : HasProgram unit s) (why : Fault) (tree : Tree7) → IsParsed unit tree → IsPast s tree why → PassesUnrolled s.turns p.flow why
counted unit s p why tree parsed past =
    past_limits s.turns p.checked past.checked p.flow why (one_checked unit s p.tree tree p.checked past.checked p.parsed parsed p.typed past.typed) p.lowered past.past

of_typing : (unit : Unit7) (s : SettingView) (p : HasProgram unit s) (why : Fault) → (tree : Tree7) × IsParsed unit tree × (check s.model s.entry (unit_tree tree) ≡ Err why) → PassesUnrolled s.turns p.flow why
of_typing unit s p why (tree, parsed, is) = absurd (typed_apart unit s p why tree parsed is)

of_counting : (unit : Unit7) (s : SettingView) (p : HasProgram unit s) (why : Fault) → (tree : Tree7) × IsParsed unit tree × IsPast s tree why → PassesUnrolled s.turns p.flow why
of_counting unit s p why (tree, parsed, past) = counted unit s p why tree parsed past

by_refusal : (unit : Unit7) (s : SettingView) (p : HasProgram unit s) (why : Fault) (r : Refusal) → IsShort unit → RefusesAt unit s why (stage_of r) → PassesUnrolled s.turns p.flow why
by_refusal unit s p why refusal.NumberForm short refused = absurd (never_refused unit p.tree why short p.parsed refused)
by_refusal unit s p why (refusal.Unsupported word) short refused = absurd (never_refused unit p.tree why short p.parsed refused)
by_refusal unit s p why refusal.Syntax short refused = absurd (never_refused unit p.tree why short p.parsed refused)
by_refusal unit s p why refusal.Undeclared short refused = of_typing unit s p why refused
by_refusal unit s p why refusal.Redeclared short refused = of_typing unit s p why refused
by_refusal unit s p why refusal.TypeFault short refused = of_typing unit s p why refused
by_refusal unit s p why refusal.PointerInteger short refused = of_typing unit s p why refused
by_refusal unit s p why refusal.ConstantNeeded short refused = of_typing unit s p why refused
by_refusal unit s p why refusal.FormatFault short refused = of_typing unit s p why refused
by_refusal unit s p why refusal.NoEntry short refused = of_typing unit s p why refused
by_refusal unit s p why refusal.Recursion short refused = of_typing unit s p why refused
by_refusal unit s p why (refusal.TooLarge what count limit) short refused = of_counting unit s p why refused
by_refusal unit s p why _ short refused = absurd refused

pub refused_for_turns : (unit : Unit7) (s : SettingView) (p : HasProgram unit s) (why : Fault) → IsShort unit → RefusesUnit unit s why → PassesUnrolled s.turns p.flow why
refused_for_turns unit s p why short refused = by_refusal unit s p why why.refusal short refused

none_some : {x : Option Refusal} {r : Refusal} → x ≡ None → x ≡ Some r → ⊥
none_some {x} {r} is also = cc

fits_apart : (turns : Option ℕ) (flow : Flow) (why : Fault) → FitsUnrolled turns flow → PassesUnrolled turns flow why → ⊥
fits_apart None flow why fits past = past
fits_apart (Some turns) flow why fits (at, past) = none_some fits past

pub accepted_not_refused : (unit : Unit7) (s : SettingView) (why : Fault) → IsShort unit → IsAccepted unit s → RefusesUnit unit s why → ⊥
accepted_not_refused unit s why short a refused = fits_apart s.turns a.program.flow why a.fits (refused_for_turns unit s a.program why short refused)

no_turns : (turns : Option ℕ) (flow : Flow) (why : Fault) → turns ≡ None → PassesUnrolled turns flow why → ⊥
no_turns None flow why is past = past
no_turns (Some turns) flow why is past = absurd (cc is)

pub program_of : (unit : Unit7) (s : SettingView) (j : Judgement) → IsJudged unit s j → HasProgram unit s
program_of unit s j is = record { tree = is.tree; parsed = is.parsed; checked = is.checked; typed = is.typed; flow = is.flow; lowered = is.lowered }

pub judged_not_refused : (unit : Unit7) (s : SettingView) (j : Judgement) (why : Fault) → IsShort unit → s.turns ≡ None → IsJudged unit s j → RefusesUnit unit s why → ⊥
unfolding program_of
judged_not_refused unit s j why short none is refused = no_turns s.turns is.flow why none (refused_for_turns unit s (program_of unit s j is) why short refused)
