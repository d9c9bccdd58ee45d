-- A program that is opened has types: what is known before each instruction, and along each edge.
use Rattle.std.proofs.Common.{◌≡◌, ◌<◌, ℕ, zero, suc, Bool, true, false, cond, nat_le, List, [], ◌∷◌, length, get_or, Option, Some, None, slice_get, refl, arith, ap, sym, subst, ◌∙◌}
use Rattle.std.specs.List.{Contains}
use Rattle.std.proofs.lemmas.Option.{same_Some, slice_get-get_or}
use Rattle.c_layout.specs.CheckedUnits.{UnitView}
use Rattle.c_layout.specs.Types.{Ty}
use Rattle.lower.specs.Inlining.Inlinings as o
use Rattle.lower.specs.Inlining.Inlinings.{Made, Inlined}
use Rattle.lower_templates.specs.Worklist.Acts.{Step}
use Rattle.lower_templates.specs.Worklist.Pieces.{TemplateView}
use Rattle.typed_programs.specs.Types.TypedPrograms.{IsKept, IsTypedWay}
use Rattle.typed_programs.specs.Types.TypedStates.{Temporaries}
use Rattle.lower_templates.specs.Views.ProgramViews.{BlockView, EdgeView}
use Rattle.typed_lowering.specs.Conversions.KnownValues.{nothing}
use Rattle.typed_lowering.specs.Conversions.ProgramLaws.{steps_of, steps_in, HasLowSteps, IsTypedInlining}
use Rattle.typed_lowering.specs.Conversions.TypedActs.{IsTypedAct}
use Rattle.typed_lowering.specs.Conversions.TypedPieces.{State}
use Rattle.typed_lowering.proofs.conversions.KeptKnowledge.{way_between}
use Rattle.typed_lowering.specs.InlinedPrograms.TypedInlinings.{TypedNamesMakeTypedInlinings}
use Rattle.typed_lowering.proofs.inlined_programs.TypedBlocks.{AllEdges, grows_same, IsTypedEdge, StepKeeps, AreTypedSteps}
use Rattle.typed_lowering.proofs.inlined_programs.TypedCopies.{Holds, HoldsIn, Opens}
use Rattle.typed_lowering.proofs.inlined_programs.TypedRuns.{opens_whole}

-- ---- heads

head_steps : (bs : List BlockView) (head n : ℕ) → steps_of (slice_get (o.head_set bs head) n) ≡ steps_of (slice_get bs n)
head_steps [] head n = refl
head_steps (b ∷ bs) zero zero = refl
head_steps (b ∷ bs) zero (suc n) = refl
head_steps (b ∷ bs) (suc head) zero = refl
head_steps (b ∷ bs) (suc head) (suc n) = head_steps bs head n

head_if_steps : (c : Bool) (bs : List BlockView) (head n : ℕ) → steps_of (slice_get (cond c (o.head_set bs head) bs) n) ≡ steps_of (slice_get bs n)
head_if_steps true bs head n = head_steps bs head n
head_if_steps false bs head n = refl

-- heads have the same instructions
heads_steps : (es : List EdgeView) (bs : List BlockView) (n : ℕ) → steps_of (slice_get (o.with_heads es bs) n) ≡ steps_of (slice_get bs n)
heads_steps [] bs n = refl
heads_steps (e ∷ es) bs n = heads_steps es (o.head_if e bs) n ∙ head_if_steps (nat_le e.to e.from) bs e.to n

-- ---- edges

one_edge : (P : EdgeView → Type 0) (es : List EdgeView) (k : ℕ) (d : EdgeView) → AllEdges P es → k < length es → P (get_or es k d)
one_edge P [] k d all less = absurd (omega (arith, less))
one_edge P (e ∷ es) zero d (one, all) less = one
one_edge P (e ∷ es) (suc k) d (one, all) less = one_edge P es k d all (omega (arith, less))

each_edge : (P : EdgeView → Type 0) (es : List EdgeView) → AllEdges P es → (e : EdgeView) → Contains es e → P e
each_edge P es all e (k, less, is) = subst P is (one_edge P es k e all less)

resolved_edges : (P Q : EdgeView → Type 0) (labels : List ℕ) → ((e : EdgeView) → P e → Q (o.resolved_edge labels e)) → (es : List EdgeView) → AllEdges P es → AllEdges Q (o.resolved labels es)
resolved_edges P Q labels more [] all = tt
resolved_edges P Q labels more (e ∷ es) (one, all) = (more e one, resolved_edges P Q labels more es all)

module _ (u : UnitView) (types : List Ty) where
  -- ---- what is known before each instruction of a block

  walked : (before : Temporaries) (ss : List Step) (after : Temporaries) → AreTypedSteps u types before ss after → ℕ → Temporaries
  walked before [] after w at = before
  walked before (s ∷ ss) after w zero = before
  walked before (s ∷ ss) after (next, one, rest) (suc at) = walked next ss after rest at

  walked_first : (before : Temporaries) (ss : List Step) (after : Temporaries) (w : AreTypedSteps u types before ss after) → walked before ss after w 0 ≡ before
  unfolding walked
  walked_first before [] after w = refl
  walked_first before (s ∷ ss) after (next, one, rest) = refl

  walked_last : (before : Temporaries) (ss : List Step) (after : Temporaries) (w : AreTypedSteps u types before ss after) → IsKept (walked before ss after w (length ss)) after
  unfolding walked
  walked_last before [] after w = w
  walked_last before (s ∷ ss) after (next, one, rest) = walked_last next ss after rest

  walked_step : (before : Temporaries) (ss : List Step) (after : Temporaries) (w : AreTypedSteps u types before ss after) (at : ℕ) (x : Step) → slice_get ss at ≡ Some x → StepKeeps u types (walked before ss after w at) (walked before ss after w (suc at)) x.does
  unfolding walked
  walked_step before [] after w at x is = absurd (cc)
  walked_step before (s ∷ ss) after (next, one, rest) zero x is =
      subst (λ k. StepKeeps u types before k x.does) (sym (walked_first next ss after rest)) (subst (λ (y : Step). StepKeeps u types before next y.does) (same_Some s x is) one)
  walked_step before (s ∷ ss) after (next, one, rest) (suc at) x is = walked_step next ss after rest at x is

  -- ---- and of all blocks

  module _ (first last : ℕ → Temporaries) (blocks : List BlockView) (done : (n : ℕ) (b : BlockView) → slice_get blocks n ≡ Some b → AreTypedSteps u types (first n) b.steps (last n)) where
    known_in : (n : ℕ) (b : Option BlockView) → slice_get blocks n ≡ b → ℕ → Temporaries
    known_in n None is at = first n
    known_in n (Some b) is at = walked (first n) b.steps (last n) (done n b is) at

    known : ℕ → ℕ → Temporaries
    known n = known_in n (slice_get blocks n) refl

    first_in : (n : ℕ) (b : Option BlockView) (is : slice_get blocks n ≡ b) → known_in n b is 0 ≡ first n
    unfolding known_in
    first_in n None is = refl
    first_in n (Some b) is = walked_first (first n) b.steps (last n) (done n b is)

    known_first : (n : ℕ) → known n 0 ≡ first n
    unfolding known
    known_first n = first_in n (slice_get blocks n) refl

    last_in : (n : ℕ) (b : Option BlockView) (is : slice_get blocks n ≡ b) → n < length blocks → IsKept (known_in n b is (length (steps_of b))) (last n)
    unfolding known_in
    last_in n None is less = absurd (none (slice_get-get_or blocks n nothing_there less))
      where
        nothing_there : BlockView
        nothing_there = record { steps = []; first_edge = 0; edges = 0; is_head = false }

        none : slice_get blocks n ≡ Some (get_or blocks n nothing_there) → ⊥
        none some = cc
    last_in n (Some b) is less = walked_last (first n) b.steps (last n) (done n b is)

    known_last : (n : ℕ) → n < length blocks → IsKept (known n (length (steps_of (slice_get blocks n)))) (last n)
    unfolding known
    known_last n less = last_in n (slice_get blocks n) refl less

    step_in : (n : ℕ) (b : Option BlockView) (is : slice_get blocks n ≡ b) (at : ℕ) (x : Step) → slice_get (steps_of b) at ≡ Some x → StepKeeps u types (known_in n b is at) (known_in n b is (suc at)) x.does
    unfolding known_in
    step_in n None is at x there = absurd (cc)
    step_in n (Some b) is at x there = walked_step (first n) b.steps (last n) (done n b is) at x there

    known_step : (n at : ℕ) (x : Step) → slice_get (steps_of (slice_get blocks n)) at ≡ Some x → StepKeeps u types (known n at) (known n (suc at)) x.does
    unfolding known
    known_step n at x there = step_in n (slice_get blocks n) refl at x there

-- ---- the law

module _ (u : UnitView) (ts : List (Option TemplateView)) where
  module _ (x : Inlined) (k : Opens u ts x) (now : Temporaries) (h : Holds u ts k.types k.at now x.program) where
    abbrev m : Made
    m = x.program

    abbrev all : ℕ → ℕ → Temporaries
    all = known u k.types h.first h.last m.blocks h.made.done

    abbrev steps : ℕ → List Step
    steps n = steps_in (o.finished m) n

    same_steps : (n : ℕ) → steps n ≡ steps_of (slice_get m.blocks n)
    same_steps n = heads_steps (o.resolved m.labels m.edges) m.blocks n

    abbrev IsResolved : EdgeView → Type 0
    IsResolved e = IsTypedWay e.taken (all e.from (length (steps e.from))) (all e.to 0)

    normalized : (l : ℕ) → IsKept (k.at l) (all (get_or m.labels l 0) 0)
    normalized l = subst (IsKept (k.at l)) (sym (known_first u k.types h.first h.last m.blocks h.made.done (get_or m.labels l 0))) (h.made.normalized l).kept

    edge_typed : (e : EdgeView) → IsTypedEdge k.at h.count h.last m.labels e → IsResolved (o.resolved_edge m.labels e)
    edge_typed e is =
        let less = subst (λ n. e.from < n) (sym h.made.counted) is.there in
        let before = subst (λ ss. IsKept (all e.from (length ss)) (h.last e.from)) (sym (same_steps e.from)) (known_last u k.types h.first h.last m.blocks h.made.done e.from less) in
        way_between e.taken (all e.from (length (steps e.from))) (h.last e.from) (k.at e.to) (all (get_or m.labels e.to 0) 0) before (normalized e.to) is.way

    step_typed : HasLowSteps (o.finished m) → (n at : ℕ) (s : Step) → slice_get (steps n) at ≡ Some s → IsTypedAct u.structs u.model.pointer (slice_get k.types) (all n at) (all n (suc at)) s.does
    step_typed low n at s there = known_step u k.types h.first h.last m.blocks h.made.done n at s (subst (λ ss. slice_get ss at ≡ Some s) (same_steps n) there) (slice_get k.types) (grows_same (slice_get k.types)) (low n at s there)

    typed_finished : HasLowSteps (o.finished m) → IsTypedInlining u (o.finished m)
    typed_finished low = record {
      types = k.types;
      bases = k.bases;
      known = all;
      begins = λ t. ap (λ z. z t) (known_first u k.types h.first h.last m.blocks h.made.done 0) ∙ h.made.begins t;
      steps = step_typed low;
      edges = each_edge IsResolved (o.resolved m.labels m.edges) (resolved_edges (IsTypedEdge k.at h.count h.last m.labels) IsResolved m.labels edge_typed m.edges h.made.leading);
    }

  typed_inlining : (x : Inlined) → Opens u ts x → HasLowSteps (o.finished x.program) → IsTypedInlining u (o.finished x.program)
  typed_inlining x k low = by k.now k.holds
    where
      by : (now : State) → HoldsIn u ts k.types k.at now x.program → IsTypedInlining u (o.finished x.program)
      by None h = typed_finished x k nothing (h nothing) low
      by (Some now) h = typed_finished x k now h low

pub typed_inlinings : TypedNamesMakeTypedInlinings
typed_inlinings laws u ts at own functions f is none low = typed_inlining u ts (o.whole u ts at) (opens_whole u ts laws own functions at f is none) low
