-- A plain unit is lowered to a plain program.
use Rattle.std.proofs.Common.{◌≡◌, ◌<◌, ℕ, zero, suc, ◌==◌, true, false, ◌&&◌, List, [], ◌∷◌, map, length, Option, Some, None, slice_get, refl, ap, sym, subst, ◌∙◌}
use Rattle.std.specs.List.{list_all}
use Rattle.std.proofs.lemmas.Bool.{and_parts, eqb-true}
use Rattle.cc_base.specs.declared.limit_table.Limits.{Limits}
use Rattle.c_layout.specs.CheckedTrees.{statement_trees}
use Rattle.c_layout.specs.CheckedUnits.{FunctionView, UnitView}
use Rattle.c_layout.specs.declared.leaf_lists.Leaf.{Leaf}
use Rattle.c_layout.specs.declared.library_functions.LibFn.{LibFn}
use Rattle.c_layout.specs.declared.library_functions.LibFn.TheVariants.{Isalpha, Isdigit, Isspace, Isupper, Islower, Isalnum, Toupper, Tolower, Putchar, Exit, Abort}
use Rattle.c_layout.specs.declared.shapes.BaseInfo.{BaseInfo}
use Rattle.cfg.specs.declared.basic_blocks.BasicBlock.{BasicBlock}
use Rattle.cfg.specs.declared.flow_edges.Edge.{Edge}
use Rattle.cfg.specs.declared.machine_instructions.Instruction.{Instruction}
use Rattle.cfg.specs.declared.machine_instructions.Operation.{Operation}
use Rattle.cfg.specs.declared.machine_instructions.Operation.TheVariants as op
use Rattle.cfg.specs.declared.programs.Flow.{Flow}
use Rattle.lower_templates.specs.Views.ProgramViews.{FlowView, block, edge}
use Rattle.lower_tables.specs.Counts.Preparations.{IsPrepared}
use Rattle.lower_objects.specs.declared.counts.function_counts.FunctionCounts.{FunctionCounts}
use Rattle.lower_template_theorems.specs.LabelDefinitions.MarkedLabels.{LabelsAreMarkedBelow}
use Rattle.lower_templates.specs.Worklist.Acts.{act, step}
use Rattle.lower_templates.specs.Worklist.Pieces.{TemplateView}
use Rattle.lower_preconditions.specs.Units.LabelNumbers.{is_numbered}
use Rattle.lower_preconditions.specs.Units.ScopeObjects.{has_own_objects}
use Rattle.lower_preconditions.specs.Units.RegularStatements.{are_regular_statements}
use Rattle.lower_preconditions.specs.Units.RegularUnits.{is_regular_function}
use Rattle.simulation_layout.specs.FunctionChecks.LabelsOnce.{FunctionsAreLabelled}
use Rattle.simulation_layout.specs.FunctionChecks.UnitParts.{FunctionsAreRegular}
use Rattle.lower.specs.Inlining.Lowerings.{inputs}
use Rattle.lower.specs.Inlining.Inlinings.{joined, whole, program}
use Rattle.typed_programs.specs.PlainUnits.PlainTerms.{is_plain_library}
use Rattle.typed_programs.specs.PlainUnits.ShortArrays.{has_short_arrays, is_short_local, has_short_objects}
use Rattle.typed_programs.specs.PlainUnits.PlainStatements.{are_plain_statements}
use Rattle.typed_programs.specs.PlainUnits.PlainUnits.{no_label, is_plain_function, is_plain_from, takes_nothing, is_plain_unit}
use Rattle.typed_programs.specs.PlainWorklists.LeadingPieces.{is_plain_act}
use Rattle.typed_programs.specs.PlainTemplates.LeadingTemplates.{TemplatesLeadOn}
use Rattle.transfer_system.specs.System.FlowMachines.{is_head_at}
use Rattle.typed_programs.specs.SingleLaws.{IsPlainFunction}
use Rattle.typed_programs.specs.SingleRuns.{IsPlainOperation}
use Rattle.diagnose.specs.Diagnostics.AdmittedRules.{instructions_in}
use Rattle.simulation_units.specs.Preconditions.RegularFunctions.{RegularFunctionsSuit}
use Rattle.simulation_units.specs.Units.UnitRuns.{IsProgramOf}
use Rattle.typed_lowering.specs.PlainPrograms.PlainBases.{AreAlone, ArePlainBases}
use Rattle.typed_lowering.specs.PlainPrograms.PlainPrograms.{IsPlainFlow}
use Rattle.typed_lowering.proofs.plain_programs.NormalizedLeads.{normalized_leads, normalized_below}
use Rattle.typed_lowering.proofs.plain_programs.LeadingInlinings.{ArePlainSteps, ArePlainBlocks, AllEdges, IsPlainTemplate, ArePlainTemplates, lead_whole}
use Rattle.typed_lowering.proofs.plain_programs.LeadingPrograms.{IsForward, LeadsAhead, leads_ahead}
use Rattle.typed_lowering.proofs.plain_programs.StandingLabels.{function_labels_stand}

-- all that is composed
pub record Laws : Type 0 where
  pub suit : RegularFunctionsSuit
  pub regular : FunctionsAreRegular
  pub labelled : FunctionsAreLabelled
  pub marked : LabelsAreMarkedBelow
  pub lead : TemplatesLeadOn

-- ---- from views to programs

plain_function : (name : LibFn) → is_plain_library name ≡ true → IsPlainFunction name
plain_function Isalpha e = tt
plain_function Isdigit e = tt
plain_function Isspace e = tt
plain_function Isupper e = tt
plain_function Islower e = tt
plain_function Isalnum e = tt
plain_function Toupper e = tt
plain_function Tolower e = tt
plain_function Putchar e = tt
plain_function Exit e = tt
plain_function Abort e = tt
plain_function other e = absurd (cc)

plain_operation : (o : Operation) → is_plain_act (act o) ≡ true → IsPlainOperation o
plain_operation (op.Library to name arguments newest size) e = plain_function name e
plain_operation (op.ReadLine to text count stream) e = absurd (cc)
plain_operation other e = tt

plain_step : (is : List Instruction) (at : ℕ) (i : Instruction) → ArePlainSteps (map step is) → slice_get is at ≡ Some i → is_plain_act (act i.operation) ≡ true
plain_step [] at i plain e = absurd (cc)
plain_step (x ∷ is) zero i (one, plain) e = subst (λ (i : Instruction). is_plain_act (act i.operation) ≡ true) (same x i e) one
  where
    same : (x i : Instruction) → Some x ≡ Some i → x ≡ i
    same x i e = cc
plain_step (x ∷ is) (suc at) i (one, plain) e = plain_step is at i plain e

plain_block : (bs : List BasicBlock) (n at : ℕ) (i : Instruction) → ArePlainBlocks (map block bs) → slice_get (instructions_in (slice_get bs n)) at ≡ Some i → is_plain_act (act i.operation) ≡ true
plain_block [] n at i plain e = absurd (cc)
plain_block (b ∷ bs) zero at i (one, plain) e = plain_step b.instructions.items at i one.steps e
plain_block (b ∷ bs) (suc n) at i (one, plain) e = plain_block bs n at i plain e

no_head : (bs : List BasicBlock) → ArePlainBlocks (map block bs) → (n : ℕ) → is_head_at bs n ≡ false
no_head [] plain n = refl
no_head (b ∷ bs) (one, plain) zero = one.head
no_head (b ∷ bs) (one, plain) (suc n) = no_head bs plain n

onwards : (es : List Edge) (j : ℕ) (e : Edge) → AllEdges IsForward (map edge es) → slice_get es j ≡ Some e → e.from < e.to
onwards [] j e all is = absurd (cc)
onwards (x ∷ es) zero e (one, all) is = subst (λ (e : Edge). e.from < e.to) (same x e is) one
  where
    same : (x e : Edge) → Some x ≡ Some e → x ≡ e
    same x e is = cc
onwards (x ∷ es) (suc j) e (one, all) is = onwards es j e all is

alone_at : (ls : List Leaf) (j : ℕ) (leaf : Leaf) → AreAlone ls → slice_get ls j ≡ Some leaf → leaf.count ≡ 1
alone_at [] j leaf all is = absurd (cc)
alone_at (x ∷ ls) zero leaf (one, all) is = subst (λ (l : Leaf). l.count ≡ 1) (same x leaf is) one
  where
    same : (x l : Leaf) → Some x ≡ Some l → x ≡ l
    same x l is = cc
alone_at (x ∷ ls) (suc j) leaf (one, all) is = alone_at ls j leaf all is

alone_in : (bs : List BaseInfo) (b j : ℕ) (base : BaseInfo) (leaf : Leaf) → ArePlainBases bs → slice_get bs b ≡ Some base → slice_get base.shape.cells j ≡ Some leaf → leaf.count ≡ 1
alone_in [] b j base leaf all is at = absurd (cc)
alone_in (x ∷ bs) zero j base leaf (one, all) is at = alone_at base.shape.cells j leaf (subst (λ (b : BaseInfo). AreAlone b.shape.cells) (same x base is) one.cells) at
  where
    same : (x b : BaseInfo) → Some x ≡ Some b → x ≡ b
    same x b is = cc
alone_in (x ∷ bs) (suc b) j base leaf (one, all) is at = alone_in bs b j base leaf all is at

no_heap_in : (bs : List BaseInfo) (b : ℕ) (base : BaseInfo) → ArePlainBases bs → slice_get bs b ≡ Some base → base.shape.heap ≡ false
no_heap_in [] b base all is = absurd (cc)
no_heap_in (x ∷ bs) zero base (one, all) is = subst (λ (b : BaseInfo). b.shape.heap ≡ false) (same x base is) one.no_heap
  where
    same : (x b : BaseInfo) → Some x ≡ Some b → x ≡ b
    same x b is = cc
no_heap_in (x ∷ bs) (suc b) base (one, all) is = no_heap_in bs b base all is

-- ---- templates

joined_there : (o : Option (Option TemplateView)) (t : TemplateView) → joined o ≡ Some t → o ≡ Some (Some t)
joined_there None t e = absurd (cc)
joined_there (Some x) t e = ap Some e

same_function : (f g : FunctionView) → Some f ≡ Some g → f ≡ g
same_function f g e = cc

numbered : (u : UnitView) (f : FunctionView) → is_regular_function u f ≡ true → is_numbered f ≡ true
numbered u f e = (and_parts (is_numbered f) (has_own_objects f && are_regular_statements u f false false (statement_trees f.body)) e).0

are_templates : Laws → (u : UnitView) (limits : Limits) (flow : Flow) → IsProgramOf u limits flow → (ts : List (Option TemplateView)) (table : List (Option FunctionCounts)) → IsPrepared u ts table → ArePlainTemplates u ts
are_templates laws u limits flow o ts table prepared g depth f t is_f is_t plain =
    let k = prepared.are_normalized g t (joined_there (slice_get ts g) t is_t) in
    let same = same_function k.function f (sym k.is_template.stands ∙ is_f) in
    let regular = laws.regular u g k.function o.regular k.is_template.stands in
    let labelled = laws.labelled k.function (numbered u k.function regular) in
    let once = laws.marked u.structs u.model.pointer u.model.int k.function (g == u.entry) k.template k.is_template.is_template labelled k.few in
    let stand = function_labels_stand u k.function (g == u.entry) k.template k.is_template.is_template k.few labelled (laws.suit u k.function regular) in
    let own : is_plain_function u (is_plain_from u depth) k.function ≡ true = subst (λ f. is_plain_function u (is_plain_from u depth) f ≡ true) (sym same) plain in
    let leads = laws.lead (is_plain_from u depth) u.structs u.model.pointer u.model.int k.function (g == u.entry) k.template k.is_template.is_template labelled k.few stand (statements k.function own) in
    subst (IsPlainTemplate u depth) (sym k.settles) (record { leads = normalized_leads k.table k.template once (is_plain_from u depth) leads; room = normalized_below k.table k.template once })
  where
    statements : (f : FunctionView) → is_plain_function u (is_plain_from u depth) f ≡ true → are_plain_statements (is_plain_from u depth) no_label false (statement_trees f.body) ≡ true
    statements f e = (and_parts (list_all (is_short_local u.structs) f.locals && has_short_arrays u.structs f.returns) (are_plain_statements (is_plain_from u depth) no_label false (statement_trees f.body)) e).1

-- ---- programs

no_inputs : (f : FunctionView) (n : ℕ) → n ≡ 0 → inputs f n ≡ []
no_inputs f n e = ap (inputs f) e

takes_none : (o : Option FunctionView) (f : FunctionView) → o ≡ Some f → takes_nothing o ≡ true → f.parameters ≡ 0
takes_none None f is e = absurd (cc)
takes_none (Some g) f is e = ap (λ (h : FunctionView). h.parameters) (sym (same_function g f is)) ∙ eqb-true g.parameters 0 e

pub plain_flow : Laws → (u : UnitView) (limits : Limits) (flow : Flow) → IsProgramOf u limits flow → is_plain_unit u ≡ true → IsPlainFlow flow
plain_flow laws u limits flow o plain =
    let is = o.is in
    let first = and_parts (takes_nothing (slice_get u.functions u.entry)) (has_short_objects u && is_plain_from u (length u.functions) u.entry) plain in
    let rest = and_parts (has_short_objects u) (is_plain_from u (length u.functions) u.entry) first.1 in
    let templates = are_templates laws u limits flow o is.templates is.is_counted.table is.is_counted.is_prepared in
    let p = program u is.templates is.entry.at in
    let leads : LeadsAhead p = leads_ahead u (whole u is.templates is.entry.at) (lead_whole u is.templates templates rest.0 (length u.functions) is.entry.at rest.1) is.ends in
    let blocks : ArePlainBlocks (map block flow.blocks.items) = subst ArePlainBlocks (sym (ap (λ (v : FlowView). v.blocks) is.opens)) leads.blocks in
    let edges : AllEdges IsForward (map edge flow.edges.items) = subst (AllEdges IsForward) (sym (ap (λ (v : FlowView). v.edges) is.opens)) leads.edges in
    let bases : ArePlainBases flow.bases.items = subst ArePlainBases (sym (ap (λ (v : FlowView). v.bases) is.opens)) leads.bases in
    record {
      plain = record { apart = λ b j base leaf there at. alone_in flow.bases.items b j base leaf bases there at; no_heap = λ b base there. no_heap_in flow.bases.items b base bases there };
      parameters = ap (λ (v : FlowView). v.parameters) is.opens ∙ no_inputs is.entry is.entry.parameters (takes_none (slice_get u.functions u.entry) is.entry is.is_counted.is_entry first.0);
      calls = λ x done. subst IsPlainOperation done.does (plain_operation done.instruction.operation (plain_block flow.blocks.items done.block done.at done.instruction blocks done.is));
      headless = no_head flow.blocks.items blocks;
      onwards = λ j e there. onwards flow.edges.items j e edges there;
    }
