-- A block begins at a label: before it no more is known than at the label.
use Rattle.std.proofs.Common.{◌≡◌, ◌<◌, ℕ, suc, ◌+◌, ◌-◌, Bool, true, false, cond, List, [], ◌∷◌, ◌++◌, length, Option, Some, refl, arith, sym, subst}
use Rattle.std.specs.List.{slice_set}
use Rattle.std.proofs.lemmas.List.{length-set}
use Rattle.cc_base.specs.declared.diagnostics.Place.{Place}
use Rattle.c_layout.specs.CheckedUnits.{UnitView}
use Rattle.c_layout.specs.Types.{Ty}
use Rattle.lower.specs.Inlining.Inlinings as o
use Rattle.lower.specs.Inlining.Inlinings.{Made, CopyView, placed, is_none}
use Rattle.lower_templates.specs.Worklist.Acts as acts
use Rattle.lower_templates.specs.Worklist.Acts.{Step}
use Rattle.lower_templates.specs.Worklist.Pieces.{PieceView, Always, TemplateView}
use Rattle.typed_programs.specs.Types.TypedPrograms.{IsKept}
use Rattle.typed_programs.specs.Types.TypedStates.{Temporaries}
use Rattle.typed_lowering.specs.Conversions.TypedActs as typed
use Rattle.typed_lowering.specs.Conversions.TypedBases.{HasTypes}
use Rattle.typed_lowering.proofs.conversions.KeptKnowledge.{kept_same}
use Rattle.typed_lowering.proofs.inlined_programs.LiftedKnowledge.{lifted, kept_lifted}
use Rattle.typed_lowering.proofs.inlined_programs.TypedBlocks.{changed, changed_here, IsTypedEdge, IsTypedMade, made_step, made_edge, made_closing, made_ended, made_labelled}
use Rattle.typed_lowering.proofs.inlined_programs.TypedCopies.{behind_copy, HasNames, IsTypedCopy, AreStanding, Holds, Opens}

none_ready : (ss : List Step) → is_none ss ≡ true → ss ≡ []
none_ready [] is = refl
none_ready (s ∷ ss) is = absurd (cc)

below_next : (n : ℕ) → n < suc n
below_next n = omega arith

module _ (u : UnitView) (ts : List (Option TemplateView)) where
  module _ (types : List Ty) (at : ℕ → Temporaries) (label : ℕ) (now : Temporaries) (known : at label ≡ now) where
    holds_labelled : (m : Made) → label < length m.labels → m.ready ≡ [] → Holds u ts types at now m → Holds u ts types at now (o.labelled label m)
    holds_labelled m room none h =
        let first = changed h.first h.count now in
        let made = made_labelled u at h.count h.first h.last m.blocks m.edges m.labels types now m.ready label none room known h.made in
        record { count = h.count; first = first; last = h.last; made = subst (λ n. IsTypedMade u types at h.count h.count first h.last now m.blocks m.edges (slice_set m.labels label n) m.ready) (sym h.made.counted) made }

    jump_typed : (count block : ℕ) (last : ℕ → Temporaries) (labels : List ℕ) → block ≡ count → label < length labels → IsTypedEdge at (suc count) (changed last count now) labels (o.edge_to block label Always)
    jump_typed count block last labels is room = record {
      there = subst (λ n. n < suc count) (sym is) (below_next count);
      room = room;
      way = subst (λ k. IsKept k (at label)) (sym (changed_here last count now block is)) (subst (IsKept now) (sym known) (kept_same now));
    }

    -- a jump to the label ends the block before
    holds_jumped : (place : Place) (m : Made) → label < length m.labels → Holds u ts types at now m → Holds u ts types at now (o.jumped place label m)
    holds_jumped place m room h =
        let jump = o.instruction place acts.Jump in
        let steps = m.ready ++ jump ∷ [] in
        let last = changed h.last h.count now in
        let new = o.edge_to (length m.blocks) label Always in
        let edges = m.edges ++ new ∷ [] in
        let here : last h.count ≡ now = changed_here h.last h.count now h.count refl in
        let stepped = made_step u at h.count h.count h.first h.last m.blocks m.edges m.labels types now now m.ready jump (λ more grows low. typed.jumps (kept_same now)) h.made in
        let closing = made_closing u at h.count h.first h.last m.blocks m.edges m.labels types now steps stepped in
        let edged = made_edge u at h.count (suc h.count) h.first last m.blocks m.edges m.labels types now steps new (jump_typed h.count (length m.blocks) h.last m.labels h.made.counted room) closing in
        let block = o.ended_block steps (length m.edges) (length edges - length m.edges) in
        record { count = suc h.count; first = changed h.first (suc h.count) now; last = last; made = made_ended u at h.count h.first last m.blocks edges m.labels types now steps block refl (subst (IsKept now) (sym here) (kept_same now)) now edged }

  module _ (label : ℕ) (qs : List PieceView) (c : CopyView) (stack : List CopyView) (m : Made) (types : List Ty) (at : ℕ → Temporaries) (outer : Temporaries) (labels : ℕ → Temporaries) (after : Temporaries) where
    abbrev known_there : Temporaries
    known_there = lifted c.depth outer (labels label)

    abbrev target : ℕ
    target = label + c.labels

    pub standing_marked : IsTypedCopy u ts at (length m.labels) outer labels (Some after) (o.with_rest qs c) → HasNames u ts types (o.with_rest qs c) → AreStanding u ts types at (length m.labels) (behind_copy outer c) stack → IsKept (labels label) after → (n : ℕ) → AreStanding u ts types at (length (slice_set m.labels target n)) (Some known_there) (o.with_rest qs c ∷ stack)
    standing_marked copy names others kept n =
        subst (λ count. AreStanding u ts types at count (Some known_there) (o.with_rest qs c ∷ stack)) (sym (length-set m.labels target n))
        (record { outer = outer; labels = labels; state = Some after; weaker = kept_lifted c.depth outer (labels label) after kept; copy = copy; names = names }, others)

    pub opens_marked : HasTypes u types m.bases → target < length m.labels → at target ≡ known_there → Holds u ts types at known_there m
        → ((n : ℕ) → AreStanding u ts types at (length (slice_set m.labels target n)) (Some known_there) (o.with_rest qs c ∷ stack)) → Opens u ts (o.back_in stack (o.with_mark label (placed m (o.with_rest qs c))))
    opens_marked bases room known h standing = by (is_none m.ready) refl
      where
        by : (b : Bool) → is_none m.ready ≡ b → Opens u ts (o.inlined (o.with_rest qs c ∷ stack) (o.labelled target (cond b m (o.jumped c.at target m))))
        by true is = record {
          types = types;
          at = at;
          now = Some known_there;
          bases = bases;
          standing = standing (length m.blocks);
          holds = holds_labelled types at target known_there known m room (none_ready m.ready is) h;
        }
        by false is =
            let jumped = o.jumped c.at target m in
            record {
              types = types;
              at = at;
              now = Some known_there;
              bases = bases;
              standing = standing (length jumped.blocks);
              holds = holds_labelled types at target known_there known jumped room refl (holds_jumped types at target known_there known c.at m room h);
            }
