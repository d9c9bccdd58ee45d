-- All turns of the opening, from the entry on.
use Rattle.std.proofs.Common.{◌≡◌, ◌≤◌, ℕ, zero, suc, ◌-◌, ◌^◌, cond, nat_lt, List, [], ◌∷◌, length, Option, Some, None, slice_get, refl, arith, ap, sym, subst, ◌∙◌}
use Rattle.std.proofs.lemmas.Bool.{le-ltb}
use Rattle.cc_base.specs.declared.diagnostics.Place.{Place}
use Rattle.c_layout.specs.CheckedUnits.{FunctionView, UnitView}
use Rattle.c_layout.specs.Types.{Ty}
use Rattle.lower.specs.Inlining.Inlinings as o
use Rattle.lower.specs.Inlining.Inlinings.{Made, CopyView, Inlined, placed}
use Rattle.typed_programs.specs.PlainWorklists.LeadingPieces.{AllTo}
use Rattle.lower_functions.specs.Functions.Functions.{local_type}
use Rattle.lower_templates.specs.Worklist.Acts.{Step}
use Rattle.lower_templates.specs.Worklist.Pieces.{ExitView, PieceView, Do, DoIfUsed, End, Mark, Call, TemplateView}
use Rattle.lower_templates.specs.declared.worklist.template_pieces.OwnCall.{OwnCall}
use Rattle.typed_programs.specs.Types.TypedStates.{Temporaries}
use Rattle.typed_lowering.specs.Conversions.KnownValues.{type_known, nothing}
use Rattle.typed_lowering.specs.Conversions.ProgramLaws.{AreThere, AreTypedFunctions}
use Rattle.typed_lowering.specs.Conversions.TypedBases.{HasTypes, HasOwnTypes, NamesAreTyped}
use Rattle.typed_lowering.specs.Conversions.TypedPieces.{State, parameters_known, result_known, IsTypedCall, IsTypedPiece, AreTypedPieces}
use Rattle.typed_lowering.proofs.conversions.KeptKnowledge.{kept_same}
use Rattle.typed_lowering.proofs.inlined_programs.LiftedKnowledge.{lifted, kept_entry, passed_lifted, returned_lifted}
use Rattle.typed_lowering.proofs.inlined_programs.TypedBlocks.{normalized_first}
use Rattle.typed_lowering.proofs.inlined_programs.TypedCalls.{none_known, replicate_long, opens_entered}
use Rattle.typed_lowering.proofs.inlined_programs.TypedCopies.{lead_lifted, behind_copy, HasNames, IsOwnLabel, IsTypedCopy, IsStanding, AreStanding, Holds, enter, Opens}
use Rattle.typed_lowering.proofs.inlined_programs.TypedLabels.{standing_marked, opens_marked}
use Rattle.typed_lowering.proofs.inlined_programs.TypedTurns.{IsNext, entered_from, opens_done, opens_if_used, opens_closed}

module _ (u : UnitView) (ts : List (Option TemplateView)) (laws : NamesAreTyped) (own : HasOwnTypes u) where
  abbrev Open : Inlined → Type 0
  Open = Opens u ts

  -- a copy whose next piece is no label goes on behind it
  module _ (q : PieceView) (qs : List PieceView) (c : CopyView) (stack : List CopyView) (m : Made) (there : AreThere u ts (q ∷ qs) → AreThere u ts qs) where
    next_of : (k : Open (o.inlined (o.with_rest (q ∷ qs) c ∷ stack) m)) → IsNext u ts laws own stack k.types k.at k.standing.0.outer k.standing.0.labels k.now k.standing.0.state k.standing.0.copy.pieces.0 (placed m (o.with_rest qs c))
    next_of k =
        let x = k.standing.0 in
        record {
          can = record { bases = k.bases; names = record { locals = x.names.locals; there = x.names.there; objects = x.names.objects; own = x.names.own } };
          copy = record { pieces = x.copy.pieces.2; own = x.copy.own.1; there = there x.copy.there };
          others = k.standing.1;
          weaker = x.weaker;
          holds = k.holds;
        }

  -- a copy is finished
  opens_finished : (c : CopyView) (stack : List CopyView) (m : Made) → Open (o.inlined (o.with_rest [] c ∷ stack) m) → Open (o.inlined stack m)
  opens_finished c stack m k =
      let x = k.standing.0 in
      let result = result_known c.used c.function in
      record {
        types = k.types;
        at = k.at;
        now = behind_copy x.outer c;
        bases = k.bases;
        standing = k.standing.1;
        holds = enter u ts k.types k.at k.now m (lifted c.depth x.outer result) k.holds (lead_lifted k.now x.state c.depth x.outer result x.weaker x.copy.pieces);
      }

  -- ---- turns

  module _ (functions : AreTypedFunctions u ts) where
    module _ (qs : List PieceView) (c : CopyView) (stack : List CopyView) (m : Made) (types : List Ty) (at : ℕ → Temporaries) (outer : Temporaries) (labels : ℕ → Temporaries) (now s : State) where
      abbrev copy : CopyView
      copy = o.with_rest qs c

      abbrev Next : State → Type 0
      Next after = IsNext u ts laws own stack types at outer labels now s after (placed m copy)

      abbrev IsTyped : PieceView → State → Type 0
      IsTyped q after = IsTypedPiece u c.function c.used c.names labels s q after

      turn_done : (x : Step) (after : State) → Next after → IsTyped (Do x) after → Open (o.turn u ts (Do x) copy stack m)
      turn_done x None k is = absurd is
      turn_done x (Some after) k is = opens_done u ts laws own stack types at outer labels now s (placed m copy) x.at x.does after k is

      turn_ended : (x : Step) (exits : List ExitView) (after : State) → Next after → AllTo (IsOwnLabel u ts at (length m.labels) outer labels copy) exits → IsTyped (End x exits) after → Open (o.turn u ts (End x exits) copy stack m)
      turn_ended x exits (Some after) k to is = absurd is
      turn_ended x exits None k to is = opens_closed u ts laws own stack types at outer labels now s (placed m copy) x exits k to is

      call_made : (call : OwnCall) (after : Temporaries) → Next (Some after) → IsTypedCall u c.function c.used c.names labels s call after → AreThere u ts (Call call ∷ qs) → Open (o.with_call u ts (o.inner call copy) (copy ∷ stack) m)
      call_made call after k is there =
          let f = is.callee in
          let (g, t, stands_too, has) = there.0 in
          let inner = o.inner call copy in
          let h = entered_from u ts laws own stack types at outer labels now s (placed m copy) (Some after) is.before k is.leads in
          let now_known = lifted c.depth outer is.before in
          let standing : AreStanding u ts types at (length m.labels) (behind_copy now_known (o.copied inner (length m.labels) f t)) (copy ∷ stack) = (record { outer = outer; labels = labels; state = Some after; weaker = returned_lifted f call.used call.depth c.depth outer is.before after is.behind; copy = k.copy; names = k.can.names }, k.others) in
          let opens = opens_entered u ts inner (copy ∷ stack) m f t types at now_known now_known (functions call.function f t is.stands has) k.can.bases h (passed_lifted f call.depth c.depth outer is.before is.arguments) standing in
          subst (λ z. Open (o.entered inner (copy ∷ stack) m z (o.template_at ts call.function))) (sym is.stands)
          (subst (λ z. Open (o.entered inner (copy ∷ stack) m (Some f) z)) (sym has) opens)

      turn_called : (call : OwnCall) (after : State) → Next after → IsTyped (Call call) after → AreThere u ts (Call call ∷ qs) → Open (o.turn u ts (Call call) copy stack m)
      turn_called call None k is there = absurd is
      turn_called call (Some after) k is there = call_made call after k is there

    turn_marked : (label : ℕ) (qs : List PieceView) (c : CopyView) (stack : List CopyView) (m : Made) → Open (o.inlined (o.with_rest (Mark label ∷ qs) c ∷ stack) m) → Open (o.turn u ts (Mark label) (o.with_rest qs c) stack m)
    turn_marked label qs c stack m k = by x.copy.pieces.0 x.copy.pieces.1 x.copy.pieces.2
      where
        x : IsStanding u ts k.types k.at (length m.labels) k.now (o.with_rest (Mark label ∷ qs) c)
        x = k.standing.0

        by : (after : State) → IsTypedPiece u c.function c.used c.names x.labels x.state (Mark label) after → AreTypedPieces u c.function c.used c.names x.labels after qs (Some (result_known c.used c.function)) → Open (o.turn u ts (Mark label) (o.with_rest qs c) stack m)
        by None is rest = absurd is
        by (Some after) is rest =
            let own_label = x.copy.own.0 in
            let there = lifted c.depth x.outer (x.labels label) in
            let copy : IsTypedCopy u ts k.at (length m.labels) x.outer x.labels (Some after) (o.with_rest qs c) = record { pieces = rest; own = x.copy.own.1; there = x.copy.there } in
            let names : HasNames u ts k.types (o.with_rest qs c) = record { locals = x.names.locals; there = x.names.there; objects = x.names.objects; own = x.names.own } in
            let standing = standing_marked u ts label qs c stack m k.types k.at x.outer x.labels after copy names k.standing.1 is.1 in
            let h = enter u ts k.types k.at k.now m there k.holds (lead_lifted k.now x.state c.depth x.outer (x.labels label) x.weaker is.0) in
            opens_marked u ts label qs c stack m k.types k.at x.outer x.labels after k.bases own_label.0 own_label.1 h standing

    opens_turn : (q : PieceView) (qs : List PieceView) (c : CopyView) (stack : List CopyView) (m : Made) → Open (o.inlined (o.with_rest (q ∷ qs) c ∷ stack) m) → Open (o.turn u ts q (o.with_rest qs c) stack m)
    opens_turn (Do x) qs c stack m k =
        let y = k.standing.0 in
        turn_done qs c stack m k.types k.at y.outer y.labels k.now y.state x y.copy.pieces.0 (next_of (Do x) qs c stack m (λ a. a) k) y.copy.pieces.1
    opens_turn (DoIfUsed x) qs c stack m k =
        let y = k.standing.0 in
        opens_if_used u ts laws own stack k.types k.at y.outer y.labels k.now y.state (placed m (o.with_rest qs c)) c.at x.does y.copy.pieces.0 c.used (next_of (DoIfUsed x) qs c stack m (λ a. a) k) y.copy.pieces.1
    opens_turn (End x exits) qs c stack m k =
        let y = k.standing.0 in
        turn_ended qs c stack m k.types k.at y.outer y.labels k.now y.state x exits y.copy.pieces.0 (next_of (End x exits) qs c stack m (λ a. a) k) y.copy.own.0 y.copy.pieces.1
    opens_turn (Mark label) qs c stack m k = turn_marked label qs c stack m k
    opens_turn (Call call) qs c stack m k =
        let y = k.standing.0 in
        turn_called qs c stack m k.types k.at y.outer y.labels k.now y.state call y.copy.pieces.0 (next_of (Call call) qs c stack m (λ a. a.1) k) y.copy.pieces.1 y.copy.there

    opens_next : (qs : List PieceView) (c : CopyView) (stack : List CopyView) (m : Made) → Open (o.inlined (o.with_rest qs c ∷ stack) m) → Open (o.next_piece u ts qs c stack m)
    opens_next [] c stack m k = opens_finished c stack m k
    opens_next (q ∷ qs) c stack m k = opens_turn q qs c stack m k

    opens_run : (n : ℕ) (stack : List CopyView) (m : Made) → Open (o.inlined stack m) → Open (o.run u ts n stack m)
    opens_run zero stack m k = k
    opens_run (suc n) [] m k = k
    opens_run (suc n) (c ∷ stack) m k = opens_run n (o.next u ts c stack m).stack (o.next u ts c stack m).program (opens_next c.rest c stack m k)

    -- ---- the entry

    first_types : HasTypes u [] (o.nothing_made u).bases
    first_types = record {
      numbered = refl;
      all_objects = replicate_long (length u.objects) None;
      all_literals = replicate_long (length u.literals) None;
      made = λ n t b is there. absurd (no_some t is);
      objects = λ i n x is there. absurd (no_some n (sym (none_known (length u.objects) i) ∙ is));
      literals = λ i n x is there. absurd (no_some n (sym (none_known (length u.literals) i) ∙ is));
    }
      where
        no_some : {A : Type 0} (x : A) → None ≡ Some x → ⊥
        no_some x e = cc

    first_holds : Holds u ts [] (λ l. nothing) nothing (o.nothing_made u)
    first_holds = record { count = 0; first = λ n. nothing; last = λ n. nothing; made = record { counted = refl; done = λ n b is. absurd (no b is); current = kept_same nothing; leading = tt; normalized = λ l. normalized_first (λ k. nothing) 0 (λ n. nothing) [] l (λ t. refl) refl; begins = λ t. refl } }
      where
        no : {A : Type 0} (x : A) → None ≡ Some x → ⊥
        no x e = cc

    no_parameters : (f : FunctionView) → f.parameters ≡ 0 → (t : ℕ) → parameters_known f t ≡ None
    no_parameters f none t = ap (λ n. cond (nat_lt t n) (type_known (local_type f t)) None) none ∙ ap (λ b. cond b (type_known (local_type f t)) None) (le-ltb t 0 (at_least t))
      where
        at_least : (t : ℕ) → 0 ≤ t
        at_least t = omega arith

    entry_entered : (at : Place) (f : FunctionView) (t : TemplateView) → slice_get u.functions u.entry ≡ Some f → f.parameters ≡ 0 → o.template_at ts u.entry ≡ Some t → Open (o.inlined (o.copied (o.entry_call at u.entry) 0 f t ∷ []) (o.with_labels t.labels (o.nothing_made u)))
    entry_entered at f t is none has = opens_entered u ts (o.entry_call at u.entry) [] (o.nothing_made u) f t [] (λ l. nothing) nothing nothing (functions u.entry f t is has) first_types first_holds (kept_entry (parameters_known f) (no_parameters f none)) tt

    run_entered : (f : FunctionView) (c : CopyView) (m : Made) → c.function ≡ f → f.parameters ≡ 0 → Open (o.inlined (c ∷ []) m) → Open (o.entry_run u ts (c ∷ []) m)
    run_entered f c m same none k = subst (λ n. Open (o.all_run u ts [] (o.with_parameters u n (placed m c)))) (sym (ap (λ (g : FunctionView). g.parameters) same ∙ none)) (opens_run (2 ^ 64 - 1) (c ∷ []) m k)

    pub opens_whole : (at : Place) (f : FunctionView) → slice_get u.functions u.entry ≡ Some f → f.parameters ≡ 0 → Open (o.whole u ts at)
    opens_whole at f is none = subst (λ z. Open (o.unresolved u ts (o.entered (o.entry_call at u.entry) [] (o.nothing_made u) z (o.template_at ts u.entry)))) (sym is) (by (o.template_at ts u.entry) refl)
      where
        by : (t : Option TemplateView) → o.template_at ts u.entry ≡ t → Open (o.unresolved u ts (o.entered (o.entry_call at u.entry) [] (o.nothing_made u) (Some f) t))
        by None has = record { types = []; at = λ l. nothing; now = Some nothing; bases = first_types; standing = tt; holds = first_holds }
        by (Some t) has = run_entered f (o.copied (o.entry_call at u.entry) 0 f t) (o.with_labels t.labels (o.nothing_made u)) refl none (entry_entered at f t is none has)
