-- The report of the held bytes, and that they have no other.
use Rattle.std.proofs.Common.{◌≡◌, ◌∙◌, ◌⊎◌, inl, inr, refl, sym, ap, subst, arith, ℕ, true, List, [], ◌∷◌, Some, None, Ok, length, codes}
use Rattle.std.specs.Fmt.{digits}
use Rattle.std.specs.List.Sorted.{IsStrictlySortedBy}
use Rattle.cc_base.specs.DiagnosticOrder.{IsOrderedSet}
use Rattle.cc_base.specs.Standard.{standard_limits}
use Rattle.cc_base.specs.declared.diagnostics.Diag.{Diag}
use Rattle.c_layout.specs.Models.{lp64}
use Rattle.c_layout.specs.CheckedUnits.{UnitView, unit_view}
use Rattle.c_layout.specs.DeclarationTrees.{ExternalTree}
use Rattle.c_parser.specs.Externals.{IsUnit}
use Rattle.c_types.specs.Units.UnitChecks.{check}
use Rattle.lower.specs.Inlining.Lowerings.{IsLowering}
use Rattle.lower_preconditions.specs.Objects.PlainObjects.{has_plain_objects}
use Rattle.lower_preconditions.specs.Units.RegularUnits.{is_regular_unit}
use Rattle.c_layout.specs.ByteTexts.{have_byte_texts}
use Rattle.cfg.specs.declared.programs.Flow.{Flow}
use Rattle.lower_templates.specs.Views.ProgramViews.{FlowView, flow_view}
use Rattle.cli_texts.specs.Reports.{Bytes, report_of}
use Rattle.cli_units.specs.Judging.{SettingView, judging, Judgement, IsJudged, IsParsed, IsTyped, IsLooked, IsLowered, IsFound, cell_count}
use Rattle.c_preproc.specs.Causes.{Seen}
use Rattle.cli_words.specs.Words.Requests as asked
use Rattle.cli_words.specs.Words.Requests.{CommandView}
use Rattle.cli_answers.specs.Outcomes as outcome
use Rattle.cli_answers.specs.Outcomes.{Took, PutOnce, Answers}
use Rattle.cli_answers.specs.Verdicts.{report_status, IsVerdict, IsLater}
use Rattle.cli_theorems.specs.Units.Told.{IsAcceptedCheck, ToldReport}
use Rattle.cli_theorems.specs.Reports.OneReports.{OneReport, OneVerdict}
use Rattle.typed_lowering.specs.PlainUnits.{is_plain_unit}
use Rattle.typed_lowering.specs.Units.PlainUnits.{IsPlainUnit}
use Rattle.typed_lowering.specs.Conversions.TypedUnits.{is_typed_unit}
use Rattle.cli_examples.specs.Outcomes.WorkedAnswers.{IsExpandedFromHeld, IsNamedModel}
use Rattle.cli_examples.specs.Analyses.WorkedAnalyses.{Map, thresholds, IsWorkedProgram}
use Rattle.cli_examples.specs.Units.WorkedTexts.{held, name, tokens_with, expanded}
use Rattle.cli_examples.specs.Units.WorkedTrees.{checked_unit}
use Rattle.cli_examples.specs.Units.WorkedUnits.{IsParsedTo, IsCheckedTo}
use Rattle.cli_examples.proofs.units.WorkedValues.{tree, tree_is, unit, unit_is}
use Rattle.cli_examples.proofs.reports.TextPlaces.{no_places}
use Rattle.cli_examples.specs.Reports.WorkedReports.{command, seen, lines, text, IsReportOf, verdict, IsToldAlone}

abbrev setting : SettingView
setting = judging lp64 (codes "main") None

alone_ordered : IsOrderedSet lines lines
unfolding IsStrictlySortedBy
alone_ordered = record { ascending = (tt, tt); kept = λ d h. h; made = λ d h. h }

none_ordered : IsOrderedSet [] []
unfolding IsStrictlySortedBy
none_ordered = record { ascending = tt; kept = λ d h. h; made = λ d h. h }

text_is : report_of (name ∷ []) name lines ≡ text
unfolding digits
text_is = refl

bytes : have_byte_texts expanded.tokens ≡ true
bytes = refl

plain : has_plain_objects checked_unit ≡ true
plain = refl

plain_look : is_plain_unit checked_unit ≡ true
plain_look = refl

typed_look : is_typed_unit checked_unit ≡ true
typed_look = refl

regular : is_regular_unit checked_unit ≡ true
regular = refl

module _ (some : Flow) (parsed_to : IsParsedTo) (checked_to : IsCheckedTo) (larger : Map) (flow : Flow) (worked : IsWorkedProgram flow larger) where
  parsed : IsParsed expanded (tree some.blocks)
  parsed = subst (λ (es : List ExternalTree). IsUnit lp64 (tokens_with (codes "0")) es) (sym (tree_is some.blocks)) parsed_to.there

  typed : IsTyped setting (tree some.blocks) (unit some.blocks)
  typed = record {
    checks = ap (λ (es : List ExternalTree). check lp64 (codes "main") es) (tree_is some.blocks) ∙ (checked_to.there ∙ ap (λ (u : UnitView). Ok u) (sym (unit_is some.blocks)));
    model = refl;
  }

  looked : IsLooked expanded setting
  looked = record { proper = refl; model = refl; bytes = bytes }

  lowered : IsLowered (unit some.blocks) flow
  lowered = record {
    lowers = subst (λ (u : UnitView). IsLowering u standard_limits (flow_view flow)) (sym (unit_is some.blocks)) worked.lowered.there;
    model = ap (λ (f : FlowView). f.model) worked.lowered.there.opens;
  }

  found : IsFound (unit some.blocks) flow flow lines
  found = record {
    texts = [];
    by_texts = subst (λ (pairs : List Diag). IsOrderedSet pairs []) (sym (no_places some.blocks)) none_ordered;
    list = thresholds;
    thresholds = worked.listed.there;
    ascending = refl;
    runs = lines;
    by_runs = worked.found.there;
    both = refl;
  }

  abbrev judgement : Judgement
  judgement = record { pairs = lines; bases = length flow.bases.items; cells = cell_count flow }

  judged : IsJudged expanded setting judgement
  judged = record {
    tree = tree some.blocks;
    parsed = parsed;
    checked = unit some.blocks;
    typed = typed;
    looked = looked;
    plain = ap (λ (u : UnitView). has_plain_objects u) (unit_is some.blocks) ∙ plain;
    regular = ap (λ (u : UnitView). is_regular_unit u) (unit_is some.blocks) ∙ regular;
    flow = flow;
    lowered = lowered;
    made = worked.well_formed;
    analysed = flow;
    turned = refl;
    well_formed = worked.well_formed;
    found = found;
    bases = refl;
    cells = refl;
  }

  module _ (from_held : IsExpandedFromHeld) (named : IsNamedModel) where
    report : IsReportOf (name ∷ []) lines
    report = record { expanded = expanded; is_expanded = from_held.there; found = judgement; judged = judged; listed = alone_ordered }

    plain_unit : IsPlainUnit (unit_view report.judged.checked) report.judged.flow
    unfolding report judged
    plain_unit = record { look = ap (λ (u : UnitView). is_plain_unit u) (unit_is some.blocks) ∙ plain_look; types = inl (ap (λ (u : UnitView). is_typed_unit u) (unit_is some.blocks) ∙ typed_look) }

    accepted : IsAcceptedCheck seen command
    accepted = record {
      held = held;
      told = refl;
      model = lp64;
      given = inl refl;
      taken = record {
        names = name ∷ [];
        expanded = expanded;
        is_expanded = from_held.there;
        accepted = record {
          program = record { tree = tree some.blocks; parsed = parsed; checked = unit some.blocks; typed = typed; flow = flow; lowered = lowered };
          fits = tt;
        };
      };
    }

    is_later : IsLater seen seen
    is_later = record { files = refl; faults = omega arith; faults_now = refl; taken = omega arith; taken_now = refl }

    called_for : IsVerdict seen (asked.Check command) verdict
    called_for = inr (record { chosen = lp64; has_model = named.there (Some held); later = seen; is_later = is_later; answered = (refl, refl, report) })

    there : (sink : Took) → PutOnce sink text → Answers seen (asked.Check command) sink 1
    there sink put = record {
      outcome = outcome.told 1 text;
      by_status = refl;
      happened = (record { verdict = verdict; called_for = called_for; by_status = refl; by_text = sym text_is }, put);
    }

    module _ (one_report : OneReport) (one_verdict : OneVerdict)
        (answered : (sink : Took) (status : ℕ) → Answers seen (asked.Check command) sink status → ToldReport seen command lp64 sink status ⊎ ((status ≡ 5) ⊎ ((status ≡ 6) ⊎ (status ≡ 7)))) where
      no_other : (names : List Bytes) (diags : List Diag) → IsReportOf names diags → (names ≡ name ∷ []) × (diags ≡ lines)
      no_other names diags is = one_report held [] lp64 name setting names (name ∷ []) diags lines is report

      told_alone : (sink : Took) (status : ℕ) → ToldReport seen command lp64 sink status → (status ≡ 1) × PutOnce sink text
      told_alone sink status t =
          let same = no_other t.names t.diags t.is_report in (
            t.by_status ∙ ap (λ (ds : List Diag). report_status ds) same.1,
            subst (λ (x : Bytes). PutOnce sink x) (ap (λ (ns : List Bytes). report_of ns name t.diags) same.0 ∙ (ap (λ (ds : List Diag). report_of (name ∷ []) name ds) same.1 ∙ text_is)) t.put,
          )

      by_answer : (sink : Took) (status : ℕ) → ToldReport seen command lp64 sink status ⊎ ((status ≡ 5) ⊎ ((status ≡ 6) ⊎ (status ≡ 7)))
          → ((status ≡ 1) × PutOnce sink text) ⊎ ((status ≡ 5) ⊎ ((status ≡ 6) ⊎ (status ≡ 7)))
      by_answer sink status (inl t) = inl (told_alone sink status t)
      by_answer sink status (inr fault) = inr fault

      not_zero : (sink : Took) (status : ℕ) → status ≡ 0 → ((status ≡ 1) × PutOnce sink text) ⊎ ((status ≡ 5) ⊎ ((status ≡ 6) ⊎ (status ≡ 7))) → ⊥
      not_zero sink status zero_is (inl (e, put)) = omega (arith, zero_is, e)
      not_zero sink status zero_is (inr (inl e)) = omega (arith, zero_is, e)
      not_zero sink status zero_is (inr (inr (inl e))) = omega (arith, zero_is, e)
      not_zero sink status zero_is (inr (inr (inr e))) = omega (arith, zero_is, e)

      pub told_alone_is : IsToldAlone
      told_alone_is = record {
        report = report;
        no_other = no_other;
        called_for = called_for;
        nothing_else = λ v is. one_verdict seen command accepted v verdict is called_for;
        there = there;
        alone = λ sink status a. by_answer sink status (answered sink status a);
        not_silent = λ sink a. not_zero sink 0 refl (by_answer sink 0 (answered sink 0 a));
        plain = plain_unit;
      }

abbrev AreAnswered : Type 0
AreAnswered =
    (s : Seen) (c : CommandView) (a : IsAcceptedCheck s c) (sink : Took) (status : ℕ) → Answers s (asked.Check c) sink status →
    ToldReport s c a.model sink status ⊎ ((status ≡ 5) ⊎ ((status ≡ 6) ⊎ (status ≡ 7)))

pub told_of : (some : Flow) → IsParsedTo → IsCheckedTo → (flow : Flow) × (larger : Map) × IsWorkedProgram flow larger → IsExpandedFromHeld → IsNamedModel → OneReport → OneVerdict → AreAnswered → IsToldAlone
unfolding accepted
told_of some parsed_to checked_to (flow, larger, worked) from_held named one_report one_verdict answered =
    told_alone_is some parsed_to checked_to larger flow worked from_held named one_report one_verdict
    (λ sink status a. answered seen command (accepted some parsed_to checked_to larger flow worked from_held named) sink status a)
