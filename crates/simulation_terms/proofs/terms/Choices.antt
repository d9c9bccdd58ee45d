-- `?:` as a term.
use Rattle.std.proofs.Common.{◌≡◌, ◌≤◌, ◌<◌, ℕ, suc, ◌+◌, ◌-◌, ◌^◌, Bool, cond, List, [], ◌∷◌, ◌++◌, arith, ap, sym, subst}
use Rattle.cc_base.specs.declared.diagnostics.Place.{Place}
use Rattle.c_layout.specs.CheckedTrees.{TermTree}
use Rattle.lower_templates.specs.Worklist.Acts as act
use Rattle.lower_templates.specs.Worklist.Pieces.{PieceView, End, Mark}
use Rattle.lower_templates.specs.Worklist.Plans.{Plan, with_work, with_labels}
use Rattle.lower_templates.specs.Worklist.Settings.{SettingView}
use Rattle.lower_templates.specs.Worklist.Works as jobs
use Rattle.lower_templates.specs.Worklist.Works.{Job}
use Rattle.lower_expressions.specs.Branches as lowered
use Rattle.semantics.specs.SourceMachine.Items as item
use Rattle.semantics.specs.SourceMachine.Items.{Item}
use Rattle.semantics.specs.SourceMachine.ConditionItems as source
use Rattle.simulation_terms.specs.SimulationRelation.Activations.{Activation}
use Rattle.simulation_terms.specs.SimulationRelation.Simulates as simulates
use Rattle.simulation_terms.specs.SimulationRelation.Simulates.{own, Leads, Simulates}
use Rattle.simulation_terms.proofs.simulation_relation.Constructions.{gives_hop}
use Rattle.simulation_terms.specs.Worklists.TemplateParts.{IsOfUnit, Stands}
use Rattle.simulation_terms.proofs.worklists.Runs.{Runs, stands_behind, stands_after}
use Rattle.simulation_terms.proofs.worklists.About.{Decided}
use Rattle.simulation_terms.proofs.worklists.Laying.{from_piece, from_none, from_work, led, known_between}

-- a jump
abbrev pub jumping : Place → ℕ → PieceView
jumping at to = End (record { at = at; does = act.Jump }) (lowered.jump_exits to)

-- how many values are pending behind an arm
abbrev pub behind_arm : Bool → ℕ → ℕ
behind_arm used d = cond used (suc d) d

-- a condition, a work, and another one
abbrev pub two_way_jobs : Place → TermTree → Job → Job → ℕ → ℕ → List Job
two_way_jobs at c first second d l =
    jobs.Ready (Mark l) ∷ (jobs.Condition c (lowered.decided (record { yes = l + 1; no = l + 2 }) d) ∷ (jobs.Ready (Mark (l + 1)) ∷ (first ∷ (jobs.Ready (jumping at (l + 3)) ∷ (jobs.Ready (Mark (l + 2)) ∷ (second ∷ (jobs.Ready (Mark (l + 3)) ∷ [])))))))

abbrev pub conditional_jobs : Place → TermTree → TermTree → TermTree → ℕ → Bool → ℕ → List Job
conditional_jobs at c a b d used l = two_way_jobs at c (lowered.arm a d used) (lowered.arm b d used) d l

pub conditional_planned : (s : SettingView) (c a b : TermTree) (d : ℕ) (used : Bool) (p : Plan) → p.jobs ≡ [] → (lowered.conditional s c a b d used p).jobs ≡ conditional_jobs s.at c a b d used p.labels
unfolding with_work with_labels
conditional_planned s c a b d used p none =
    ap (λ js. (((((((js ++ jobs.Ready (Mark p.labels) ∷ []) ++ jobs.Condition c (lowered.decided (record { yes = p.labels + 1; no = p.labels + 2 }) d) ∷ []) ++ jobs.Ready (Mark (p.labels + 1)) ∷ []) ++ lowered.arm a d used ∷ []) ++ jobs.Ready (jumping s.at (p.labels + 3)) ∷ []) ++ jobs.Ready (Mark (p.labels + 2)) ∷ []) ++ lowered.arm b d used ∷ []) ++ jobs.Ready (Mark (p.labels + 3)) ∷ []) none

first_less : (l : ℕ) → l + 1 < l + 4
first_less l = omega arith

second_less : (l : ℕ) → l + 2 < l + 4
second_less l = omega arith

third_less : (l : ℕ) → l + 3 < l + 4
third_less l = omega arith

itself : (l : ℕ) → l ≤ l
itself l = omega arith

module _ (s : SettingView) (t : Activation) (fits : IsOfUnit t s) (n : ℕ) where
  -- a jump of the function
  pub hops : (d l : ℕ) (items : List Item) (w there : List PieceView) → Leads t l there → Simulates t n d items there → Simulates t n d (item.Hop ∷ items) (jumping s.at l ∷ w)
  hops d l items w there to f = subst (λ at. Simulates t n d (item.Hop ∷ items) (jumping at l ∷ w)) (sym fits.place) (gives_hop n d l items w there to f)

  abbrev Arms : TermTree → ℕ → Bool → Type 0
  Arms e d used = Runs s t n (lowered.arm e d used ∷ []) (source.arm used e ∷ []) d (behind_arm used d)

  pub conditional_runs : (c a b : TermTree) (d : ℕ) (used : Bool) (l : ℕ) → Decided s t n c (lowered.decided (record { yes = l + 1; no = l + 2 }) d) → Arms a d used → Arms b d used → l + 4 ≤ 2 ^ 32 - 1 → Runs s t n (conditional_jobs s.at c a b d used l) (source.conditional t.unit used c a b) d (behind_arm used d)
  conditional_runs c a b d used l decides first second few = record {
    from = λ p none ps r m known items rest stands f.
        let q = jumping s.at (l + 3) in
        let G : List PieceView → Type 0 = λ w. Stands t w → Simulates t n d (source.conditional t.unit used c a b ++ items) w in
        from_piece s r rest p (Mark l) _ ps G m
        (λ b1 m1. from_work s r rest p (jobs.Condition c (lowered.decided (record { yes = l + 1; no = l + 2 }) d)) _ b1 (λ w. G (Mark l ∷ w)) none m1
        (λ fc pc b2 mc none_c m2. from_piece s r rest pc (Mark (l + 1)) _ b2 (λ w. G (Mark l ∷ (fc ++ w))) m2
        (λ b3 m3. from_work s r rest pc (lowered.arm a d used) _ b3 (λ w. G (Mark l ∷ (fc ++ Mark (l + 1) ∷ w))) none_c m3
        (λ fa pa b4 ma none_a m4. from_piece s r rest pa q _ b4 (λ w. G (Mark l ∷ (fc ++ Mark (l + 1) ∷ (fa ++ w)))) m4
        (λ b5 m5. from_piece s r rest pa (Mark (l + 2)) _ b5 (λ w. G (Mark l ∷ (fc ++ Mark (l + 1) ∷ (fa ++ q ∷ w)))) m5
        (λ b6 m6. from_work s r rest pa (lowered.arm b d used) _ b6 (λ w. G (Mark l ∷ (fc ++ Mark (l + 1) ∷ (fa ++ q ∷ (Mark (l + 2) ∷ w))))) none_a m6
        (λ fb pb b7 mb none_b m7. from_piece s r rest pb (Mark (l + 3)) [] b7 (λ w. G (Mark l ∷ (fc ++ Mark (l + 1) ∷ (fa ++ q ∷ (Mark (l + 2) ∷ (fb ++ w)))))) m7
        (λ b8 m8. from_none s r rest pb b8 (λ w. G (Mark l ∷ (fc ++ Mark (l + 1) ∷ (fa ++ q ∷ (Mark (l + 2) ∷ (fb ++ Mark (l + 3) ∷ w)))))) m8
        (λ stands.
        let at_c = stands_after t (Mark l) (fc ++ Mark (l + 1) ∷ (fa ++ q ∷ (Mark (l + 2) ∷ (fb ++ Mark (l + 3) ∷ rest)))) stands in
        let at_yes = stands_behind t fc (Mark (l + 1) ∷ (fa ++ q ∷ (Mark (l + 2) ∷ (fb ++ Mark (l + 3) ∷ rest)))) at_c in
        let at_a = stands_after t (Mark (l + 1)) (fa ++ q ∷ (Mark (l + 2) ∷ (fb ++ Mark (l + 3) ∷ rest))) at_yes in
        let at_no = stands_after t q (Mark (l + 2) ∷ (fb ++ Mark (l + 3) ∷ rest)) (stands_behind t fa (q ∷ (Mark (l + 2) ∷ (fb ++ Mark (l + 3) ∷ rest))) at_a) in
        let at_b = stands_after t (Mark (l + 2)) (fb ++ Mark (l + 3) ∷ rest) at_no in
        let at_last = stands_behind t fb (Mark (l + 3) ∷ rest) at_b in
        let to_yes = led s t fits (l + 1) (l + 4) (l + 4) (fa ++ q ∷ (Mark (l + 2) ∷ (fb ++ Mark (l + 3) ∷ rest))) (first_less l) (itself (l + 4)) few at_yes in
        let to_no = led s t fits (l + 2) (l + 4) (l + 4) (fb ++ Mark (l + 3) ∷ rest) (second_less l) (itself (l + 4)) few at_no in
        let to_last = led s t fits (l + 3) (l + 4) (l + 4) rest (third_less l) (itself (l + 4)) few at_last in
        let on_no = second.from pa none_a fb pb mb (known_between s t pb _ _ r m7 known) items (Mark (l + 3) ∷ rest) at_b (simulates.by_mark n (behind_arm used d) (l + 3) items rest f) in
        let on_yes = first.from pc none_c fa pa ma (known_between s t pa _ _ r m4 known) (item.Hop ∷ items) (q ∷ (Mark (l + 2) ∷ (fb ++ Mark (l + 3) ∷ rest))) at_a (hops (behind_arm used d) (l + 3) items (Mark (l + 2) ∷ (fb ++ Mark (l + 3) ∷ rest)) rest to_last f) in
        simulates.by_mark n d l _ _
        (decides p none fc pc mc (known_between s t pc _ _ r m2 known) (source.arm used a ∷ (item.Hop ∷ [])) (source.arm used b ∷ []) items (Mark (l + 1) ∷ (fa ++ q ∷ (Mark (l + 2) ∷ (fb ++ Mark (l + 3) ∷ rest)))) (fa ++ q ∷ (Mark (l + 2) ∷ (fb ++ Mark (l + 3) ∷ rest))) (fb ++ Mark (l + 3) ∷ rest) at_c to_yes to_no on_yes on_no)))))))))) stands;
  }
