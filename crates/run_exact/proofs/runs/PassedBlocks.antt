-- The rows along a run as a map from blocks to rows: what holds of it where the run stands, and how one instruction
-- carries it on.
use Rattle.std.proofs.Common.{◌≡◌, ℕ, zero, suc, ◌+◌, ◌<◌, ◌≤◌, true, Option, Some, None, List, [], ◌∷◌, ◌++◌, length, take, arith, subst, sym, refl, ap, ◌∙◌, inl, inr}
use Rattle.std.specs.Prelude.{slice_get, ℤ}
use Rattle.std.specs.List.{Contains}
use Rattle.std.proofs.lemmas.Bool.{cases_eq, cases_lt}
use Rattle.std.proofs.lemmas.Option.{same_Some}
use Rattle.std.proofs.lemmas.List.Elements.{Contains-append_left, Contains-append_right}
use Rattle.cc_base.specs.InductiveMap.{IsOwn, step}
use Rattle.cc_base.specs.Lattices.{LatticeOf, OrderLaws}
use Rattle.cc_base.specs.IntegerDomains.{IntegersOf}
use Rattle.cc_base.specs.Machine.{Machine}
use Rattle.cc_base.specs.Rows.{reached_leq}
use Rattle.cc_base.specs.RowLaws.{reached_leq-refl, reached_leq-trans}
use Rattle.cc_base.specs.declared.diagnostics.Rule.{Rule}
use Rattle.cfg.specs.declared.flow_edges.Edge.{Edge}
use Rattle.cfg.specs.declared.machine_instructions.Instruction.{Instruction}
use Rattle.cfg.specs.declared.programs.Flow.{Flow}
use Rattle.value_domain.specs.declared.values.row_cells.Cell.{Cell}
use Rattle.value_domain.specs.Values.Cells.{cell_lattice, cell_order}
use Rattle.transfer_edges.specs.Edges.{edge}
use Rattle.transfer_checks.specs.ViolationSets.{violates}
use Rattle.transfer_instructions.specs.Instructions.Steps.{operate}
use Rattle.transfer_instructions.specs.Instructions.StepViolations.{operation_violations}
use Rattle.transfer_system.specs.BoundedRows.OwnRows.{is_own_row}
use Rattle.transfer_system.specs.System.BlockPasses as passes
use Rattle.transfer_system.specs.System.BlockPasses.{block_end, edge_behind, edge_end}
use Rattle.transfer_system.specs.System.FlowMachines.{edge_at, start_of, through, flow_machine}
use Rattle.diagnose.specs.Diagnostics.AdmittedRules.{instructions_of, row_behind}
use Rattle.memory_model.specs.Effects.NumberedTables.{put_at, empty_table}
use Rattle.memory_model.specs.Effects.Worlds.{Violation}
use Rattle.semantics.specs.CfgMachine.FlowStates.{ProgramState}
use Rattle.store_sound.specs.Concretization.Coverage.{state_of}
use Rattle.store_sound.specs.Concretization.RowMeaning.{InGamma}
use Rattle.store_sound.specs.Concretization.ValueMeaning.{Naming}
use Rattle.transfer_sound.specs.Values.SoundSteps.{AreShort, InGammaAfter}
use Rattle.transfer_sound.specs.Induction.Covering.{rows_behind}
use Rattle.transfer_sound.proofs.induction.AdmittedPairs.{none_behind}
use Rattle.transfer_sound.proofs.invariant_maps.EdgeEnds.{edge_there}
use Rattle.transfer_exact.specs.Values.SingleRows.{ExactState}
use Rattle.transfer_exact.specs.Values.SingleSteps.{ExactAfter}
use Rattle.run_exact.proofs.runs.Tables.{put_here, put_else}

get_below : {X : Type 0} (xs : List X) (k : ℕ) (x : X) → slice_get xs k ≡ Some x → k < length xs
get_below [] k x e = cc
get_below (y ∷ ys) zero x e = omega arith
get_below (y ∷ ys) (suc k) x e = let r = get_below ys k x e in omega (arith, r)

at_edge : (es : List Edge) (number : ℕ) → number < length es → slice_get es number ≡ Some (edge_at es number)
at_edge [] number h = absurd (omega (arith, h))
at_edge (x ∷ es) zero h = refl
at_edge (x ∷ es) (suc number) h = at_edge es number (omega (arith, h))

abbrev pub Table : Type 0 → Type 0
Table I = ℕ → Option (List (Cell I))

module _ {I : Type 0} (l : LatticeOf I) (n : IntegersOf I) (flow : Flow) where
  -- ---- rows of one block

  one_behind : (reached : Option (List (Cell I))) (is : List Instruction) (k : ℕ) (i : Instruction) (row : List (Cell I)) → slice_get is k ≡ Some i → rows_behind l n flow reached (take k is) ≡ Some row → rows_behind l n flow reached (take (suc k) is) ≡ operate l n flow row i.operation
  one_behind reached [] k i row e h = cc
  one_behind reached (x ∷ xs) zero i row e h = let d : x ≡ i = cc in ap (λ z. row_behind l n flow z reached) d ∙ ap (row_behind l n flow i) h
  one_behind reached (x ∷ xs) (suc k) i row e h = one_behind (row_behind l n flow x reached) xs k i row e h

  none_later : (reached : Option (List (Cell I))) (is : List Instruction) (j k : ℕ) → j ≤ k → rows_behind l n flow reached (take j is) ≡ None → rows_behind l n flow reached (take k is) ≡ None
  none_later reached is zero k le h = subst (λ z. rows_behind l n flow z (take k is) ≡ None) (sym h) (none_behind l n flow (take k is))
  none_later reached is (suc j) zero le h = absurd (omega (arith, le))
  none_later reached [] (suc j) (suc k) le h = h
  none_later reached (x ∷ xs) (suc j) (suc k) le h = none_later (row_behind l n flow x reached) xs j k (omega (arith, le)) h

  take_all : {X : Type 0} (xs : List X) → take (length xs) xs ≡ xs
  take_all [] = refl
  take_all (x ∷ xs) = ap (λ ys. x ∷ ys) (take_all xs)

  same_behind : (is : List Instruction) (x : Option (List (Cell I))) → rows_behind l n flow x is ≡ passes.rows_behind l n flow x is
  same_behind [] x = refl
  same_behind (i ∷ is) None = same_behind is None
  same_behind (i ∷ is) (Some row) = same_behind is (passes.row_behind l n flow i (Some row))

  ended : (block : ℕ) (start : List (Cell I)) (k : ℕ) → k ≡ length (instructions_of flow block) → block_end l n flow block start ≡ rows_behind l n flow (Some start) (take k (instructions_of flow block))
  unfolding block_end
  ended block start k e = sym (ap (λ z. rows_behind l n flow (Some start) (take z (instructions_of flow block))) e ∙ (ap (rows_behind l n flow (Some start)) (take_all (instructions_of flow block)) ∙ same_behind (instructions_of flow block) (Some start)))

  -- ---- what is found

  -- what an instruction of a block may break in the row before it is found
  abbrev pub IsFoundAt : Table I → List Violation → ℕ → ℕ → Type 0
  IsFoundAt rows found b k = (i : Instruction) (row : List (Cell I)) (r : Rule) → slice_get (instructions_of flow b) k ≡ Some i → rows_behind l n flow (rows b) (take k (instructions_of flow b)) ≡ Some row → violates (operation_violations l n flow row i.operation) r ≡ true → Contains found (record { at = i.place; rule = r })

  more_found : (rows : Table I) (found more : List Violation) (b k : ℕ) → IsFoundAt rows found b k → IsFoundAt rows (found ++ more) b k
  more_found rows found more b k h i row r is before breaks = Contains-append_left found more (record { at = i.place; rule = r }) (h i row r is before breaks)

  same_found : (rows other : Table I) (found : List Violation) (b k : ℕ) → rows b ≡ other b → IsFoundAt rows found b k → IsFoundAt other found b k
  same_found rows other found b k e h i row r is before breaks = h i row r is (ap (λ z. rows_behind l n flow z (take k (instructions_of flow b))) e ∙ before) breaks

  -- what an instruction may break in this row is found
  abbrev pub IsFoundHere : List Violation → List (Cell I) → Instruction → Type 0
  IsFoundHere more row i = (r : Rule) → violates (operation_violations l n flow row i.operation) r ≡ true → Contains more (record { at = i.place; rule = r })

  found_here : (rows : Table I) (found more : List Violation) (b k : ℕ) (i : Instruction) (row : List (Cell I)) → slice_get (instructions_of flow b) k ≡ Some i → rows_behind l n flow (rows b) (take k (instructions_of flow b)) ≡ Some row → IsFoundHere more row i → IsFoundAt rows (found ++ more) b k
  found_here rows found more b k i row is before h j other r js behind breaks =
      let a : i ≡ j = same_Some i j (sym is ∙ js) in
      let c : other ≡ row = same_Some other row (sym behind ∙ before) in
      Contains-append_right found more (record { at = j.place; rule = r })
      (subst (λ z. Contains more (record { at = z.place; rule = r })) a (h r (subst (λ z. violates (operation_violations l n flow row z.operation) r ≡ true) (sym a) (subst (λ z. violates (operation_violations l n flow z j.operation) r ≡ true) c breaks))))

  -- ---- the row behind

  module _ (gamma : I → ℤ → Type 0) where
    -- the row behind stands for the state behind and tells it
    pub record IsBoth (after : Option (List (Cell I))) (s : ProgramState) : Type 0 where
      pub row : List (Cell I)
      pub is : after ≡ Some row
      pub long : length row ≡ flow.width
      pub naming : Naming
      pub stands_for : InGamma l n gamma flow naming row (state_of s)
      pub short : AreShort flow.model s.world.memory
      pub tells : ExactState l n flow row (state_of s)

    pub both : (after : Option (List (Cell I))) (s : ProgramState) → InGammaAfter l n gamma flow after s → ExactAfter l n flow after s → IsBoth after s
    both after s a b =
        let same : b.row ≡ a.row = same_Some b.row a.row (sym b.is ∙ a.is) in
        record { row = a.row; is = a.is; long = a.long; naming = a.naming; stands_for = a.stands_for; short = a.short; tells = subst (λ z. ExactState l n flow z (state_of s)) same b.tells }

    module _ (list : List ℤ) where
      abbrev pub machine : Machine (Cell I)
      machine = flow_machine l n flow list

      abbrev pub order : LatticeOf (Cell I)
      order = cell_lattice l

      -- an inductive map, as a table, that admits what is found alone
      pub record IsClosed (rows : Table I) (found : List Violation) : Type 0 where
        pub own : (b : ℕ) → IsOwn machine (rows b)
        pub entry : reached_leq order (Some machine.start) (rows 0) ≡ true
        pub beyond : (b : ℕ) → length flow.blocks.items ≤ b → rows b ≡ None
        pub edges : (e : ℕ) → e < machine.edges → reached_leq order (step machine e (rows (machine.source e))) (rows (machine.target e)) ≡ true
        pub all : (b k : ℕ) → IsFoundAt rows found b k

      -- where the run stands at an instruction of a block, behind which there are no rows yet
      pub record IsPassed (rows : Table I) (b at : ℕ) (s : ProgramState) (found : List Violation) : Type 0 where
        pub start : List (Cell I)
        pub here : rows b ≡ Some start
        pub own : (c : ℕ) → IsOwn machine (rows c)
        pub entry : reached_leq order (Some machine.start) (rows 0) ≡ true
        pub beyond : (c : ℕ) → b < c → rows c ≡ None
        pub edges : (e : ℕ) → e < machine.edges → (machine.source e ≡ b → ⊥) → reached_leq order (step machine e (rows (machine.source e))) (rows (machine.target e)) ≡ true
        pub before : IsBoth (rows_behind l n flow (rows b) (take at (instructions_of flow b))) s
        pub others : (c k : ℕ) → (c ≡ b → ⊥) → IsFoundAt rows found c k
        pub passed : (k : ℕ) → k < at → IsFoundAt rows found b k

      -- ---- the start

      pub first_at : (start : List (Cell I)) (c : ℕ) → (c ≡ 0 → ⊥) → put_at (empty_table {A = List (Cell I)}) 0 start c ≡ None
      first_at start c ne = put_else empty_table 0 start c ne

      pub begun_passed : (o : OrderLaws l) → is_own_row l n list flow.bases.items flow.width machine.start ≡ true → (s : ProgramState) → IsBoth (Some machine.start) s → IsPassed (put_at empty_table 0 machine.start) 0 0 s []
      begun_passed o own s h =
          let rows : Table I = put_at empty_table 0 machine.start in
          let here : rows 0 ≡ Some machine.start = put_here empty_table 0 machine.start in
          record {
            start = machine.start;
            here = here;
            own = λ c. elim (cases_eq c 0) [
              | inl e ↦ subst (λ z. IsOwn machine z) (sym (ap rows e ∙ here)) own
              | inr e ↦ subst (λ z. IsOwn machine z) (sym (first_at machine.start c e)) tt
            ];
            entry = subst (λ z. reached_leq order (Some machine.start) z ≡ true) (sym here) (reached_leq-refl order (cell_order o) (Some machine.start));
            beyond = λ c lt. first_at machine.start c (λ e. omega (arith, lt, e));
            edges = λ e lt ne. subst (λ z. reached_leq order (step machine e z) (rows (machine.target e)) ≡ true) (sym (first_at machine.start (machine.source e) ne)) refl;
            before = subst (λ z. IsBoth z s) (sym here) h;
            others = λ c k ne i row r is before breaks. let z : rows_behind l n flow None (take k (instructions_of flow c)) ≡ Some row = subst (λ y. rows_behind l n flow y (take k (instructions_of flow c)) ≡ Some row) (first_at machine.start c ne) before in let y = sym (none_behind l n flow (take k (instructions_of flow c))) ∙ z in cc;
            passed = λ k lt. absurd (omega (arith, lt));
          }

      -- ---- one instruction

      module _ (rows : Table I) (b at : ℕ) (s : ProgramState) (found : List Violation) (p : IsPassed rows b at s found) (i : Instruction) (is : slice_get (instructions_of flow b) at ≡ Some i) (more : List Violation) (told : IsFoundHere more p.before.row i) where
        here_found : IsFoundAt rows (found ++ more) b at
        here_found = found_here rows found more b at i p.before.row is p.before.is told

        so_far : (k : ℕ) → k < suc at → IsFoundAt rows (found ++ more) b k
        so_far k lt = elim (cases_lt k at) [
          | inl a ↦ more_found rows found more b k (p.passed k a)
          | inr a ↦ (let e : at ≡ k = omega (arith, lt, a) in subst (λ z. IsFoundAt rows (found ++ more) b z) e here_found)
        ]

        elsewhere : (c k : ℕ) → (c ≡ b → ⊥) → IsFoundAt rows (found ++ more) c k
        elsewhere c k ne = more_found rows found more c k (p.others c k ne)

        behind : rows_behind l n flow (rows b) (take (suc at) (instructions_of flow b)) ≡ operate l n flow p.before.row i.operation
        behind = one_behind (rows b) (instructions_of flow b) at i p.before.row is p.before.is

        -- the run goes on in its block
        pub on_passed : (t : ProgramState) → IsBoth (operate l n flow p.before.row i.operation) t → IsPassed rows b (suc at) t (found ++ more)
        on_passed t h = record {
          start = p.start;
          here = p.here;
          own = p.own;
          entry = p.entry;
          beyond = p.beyond;
          edges = p.edges;
          before = subst (λ z. IsBoth z t) (sym behind) h;
          others = elsewhere;
          passed = so_far;
        }

        -- ---- the edges of the block

        module _ (leaves : (number : ℕ) (row : List (Cell I)) → is_own_row l n list flow.bases.items flow.width row ≡ true → through l n flow list number row ≡ edge_end l n flow (edge_at flow.edges.items number).from number row) where
          start_own : is_own_row l n list flow.bases.items flow.width p.start ≡ true
          start_own = subst (λ z. IsOwn machine z) p.here (p.own b)

          along : (number : ℕ) (x : Option (List (Cell I))) → (edge_at flow.edges.items number).from ≡ b → block_end l n flow b p.start ≡ x → step machine number (rows (machine.source number)) ≡ edge_behind l n flow number x
          unfolding edge_end
          along number x from e =
              ap (λ z. step machine number (rows z)) from ∙ (ap (step machine number) p.here ∙ (leaves number p.start start_own ∙ (ap (λ z. edge_behind l n flow number (block_end l n flow z p.start)) from ∙ ap (edge_behind l n flow number) e)))

          -- ---- the run stops

          stops_none : operate l n flow p.before.row i.operation ≡ None → (k : ℕ) → at < k → rows_behind l n flow (rows b) (take k (instructions_of flow b)) ≡ None
          stops_none e k lt = none_later (rows b) (instructions_of flow b) (suc at) k (omega (arith, lt)) (behind ∙ e)

          pub stopped_closed : b < length flow.blocks.items → operate l n flow p.before.row i.operation ≡ None → IsClosed rows (found ++ more)
          stopped_closed there e =
              let small = get_below (instructions_of flow b) at i is in
              let end : block_end l n flow b p.start ≡ None = ended b p.start (length (instructions_of flow b)) refl ∙ (ap (λ z. rows_behind l n flow z (take (length (instructions_of flow b)) (instructions_of flow b))) (sym p.here) ∙ stops_none e (length (instructions_of flow b)) small) in
              record {
                own = p.own;
                entry = p.entry;
                beyond = λ c le. p.beyond c (omega (arith, there, le));
                edges = λ number lt. elim (cases_eq (machine.source number) b) [
                  | inl from ↦ subst (λ z. reached_leq order z (rows (machine.target number)) ≡ true) (sym (along number None from end)) refl
                  | inr from ↦ p.edges number lt from
                ];
                all = λ c k. elim (cases_eq c b) [
                  | inr ne ↦ elsewhere c k ne
                  | inl same ↦ subst (λ z. IsFoundAt rows (found ++ more) z k) (sym same) (elim (cases_lt k (suc at)) [
                    | inl lt ↦ so_far k lt
                    | inr le ↦ (λ j row r js before breaks. let z = sym (stops_none e k (omega (arith, le))) ∙ before in cc)
                  ])
                ];
              }

          -- ---- the run goes on in another block

          module _ (o : OrderLaws l) (last : suc at ≡ length (instructions_of flow b)) (stays : operate l n flow p.before.row i.operation ≡ Some p.before.row)
              (number : ℕ) (e : Edge) (edge_is : slice_get flow.edges.items number ≡ Some e) (from : e.from ≡ b) (forward : e.from < e.to) (t : ProgramState) (h : IsBoth (edge l n flow p.before.row number) t)
              (apart : (other : ℕ) (d : Edge) → slice_get flow.edges.items other ≡ Some d → d.from ≡ b → (other ≡ number → ⊥) → edge l n flow p.before.row other ≡ None)
              (owns : (block number : ℕ) (row x : List (Cell I)) → is_own_row l n list flow.bases.items flow.width row ≡ true → edge_end l n flow block number row ≡ Some x → is_own_row l n list flow.bases.items flow.width x ≡ true) where
            ahead : b < e.to
            ahead = omega (arith, from, forward)

            pub next : Table I
            next = put_at rows e.to h.row

            next_here : next e.to ≡ Some h.row
            unfolding next
            next_here = put_here rows e.to h.row

            pub next_else : (c : ℕ) → (c ≡ e.to → ⊥) → next c ≡ rows c
            unfolding next
            next_else c ne = put_else rows e.to h.row c ne

            end_is : block_end l n flow b p.start ≡ Some p.before.row
            end_is = ended b p.start (suc at) last ∙ (ap (λ z. rows_behind l n flow z (take (suc at) (instructions_of flow b))) (sym p.here) ∙ (behind ∙ stays))

            own_next : is_own_row l n list flow.bases.items flow.width h.row ≡ true
            unfolding edge_end
            own_next = owns b number p.start h.row start_own (ap (edge_behind l n flow number) end_is ∙ h.is)

            grows : (c : ℕ) → reached_leq order (rows c) (next c) ≡ true
            grows c = elim (cases_eq c e.to) [
              | inl same ↦ (let none : rows c ≡ None = p.beyond c (omega (arith, same, ahead)) in subst (λ z. reached_leq order z (next c) ≡ true) (sym none) refl)
              | inr ne ↦ subst (λ z. reached_leq order (rows c) z ≡ true) (sym (next_else c ne)) (reached_leq-refl order (cell_order o) (rows c))
            ]

            old_edge : (number : ℕ) → reached_leq order (step machine number (rows (machine.source number))) (rows (machine.target number)) ≡ true → reached_leq order (step machine number (rows (machine.source number))) (next (machine.target number)) ≡ true
            old_edge number below = reached_leq-trans order (cell_order o) (step machine number (rows (machine.source number))) (rows (machine.target number)) (next (machine.target number)) below (grows (machine.target number))

            here_edge : (other : ℕ) → other < machine.edges → (edge_at flow.edges.items other).from ≡ b → reached_leq order (step machine other (rows (machine.source other))) (next (machine.target other)) ≡ true
            here_edge other lt leaving =
                let there = at_edge flow.edges.items other lt in
                let made : step machine other (rows (machine.source other)) ≡ edge l n flow p.before.row other = along other (Some p.before.row) leaving end_is in
                elim (cases_eq other number) [
                  | inl same ↦
                      (let it : edge_at flow.edges.items other ≡ e = same_Some (edge_at flow.edges.items other) e (sym there ∙ (ap (slice_get flow.edges.items) same ∙ edge_is)) in
                      let to : machine.target other ≡ e.to = ap (λ (z : Edge). z.to) it in
                      let got : step machine other (rows (machine.source other)) ≡ Some h.row = made ∙ (ap (edge l n flow p.before.row) same ∙ h.is) in
                      let goal : reached_leq order (Some h.row) (next e.to) ≡ true = subst (λ z. reached_leq order (Some h.row) z ≡ true) (sym next_here) (reached_leq-refl order (cell_order o) (Some h.row)) in
                      subst (λ z. reached_leq order (step machine other (rows (machine.source other))) (next z) ≡ true) (sym to) (subst (λ z. reached_leq order z (next e.to) ≡ true) (sym got) goal))
                  | inr ne ↦ subst (λ z. reached_leq order z (next (machine.target other)) ≡ true) (sym (made ∙ apart other (edge_at flow.edges.items other) there leaving ne)) refl
                ]

            pub next_passed : IsPassed next e.to 0 t (found ++ more)
            next_passed = record {
              start = h.row;
              here = next_here;
              own = λ c. elim (cases_eq c e.to) [
                | inl same ↦ subst (λ z. IsOwn machine z) (sym (ap next same ∙ next_here)) own_next
                | inr ne ↦ subst (λ z. IsOwn machine z) (sym (next_else c ne)) (p.own c)
              ];
              entry = reached_leq-trans order (cell_order o) (Some machine.start) (rows 0) (next 0) p.entry (grows 0);
              beyond = λ c lt. next_else c (λ same. omega (arith, lt, same)) ∙ p.beyond c (omega (arith, lt, ahead));
              edges = λ other lt ne. subst (λ z. reached_leq order (step machine other z) (next (machine.target other)) ≡ true) (sym (next_else (machine.source other) ne)) (elim (cases_eq (machine.source other) b) [
                | inl leaving ↦ here_edge other lt leaving
                | inr away ↦ old_edge other (p.edges other lt away)
              ]);
              before = subst (λ z. IsBoth z t) (sym next_here) (record { row = h.row; is = refl; long = h.long; naming = h.naming; stands_for = h.stands_for; short = h.short; tells = h.tells });
              others = λ c k ne. same_found rows next (found ++ more) c k (sym (next_else c ne)) (elim (cases_eq c b) [
                | inr away ↦ elsewhere c k away
                | inl same ↦ subst (λ z. IsFoundAt rows (found ++ more) z k) (sym same) (elim (cases_lt k (suc at)) [
                  | inl lt ↦ so_far k lt
                  | inr le ↦ (λ j row r js before breaks. let small = get_below (instructions_of flow b) k j js in absurd (omega (arith, le, small, last)))
                ])
              ]);
              passed = λ k lt. absurd (omega (arith, lt));
            }
