-- A map of a program, put at every copy, is one of the program with turns unrolled.
use Rattle.std.specs.Prelude.{◌≡◌, ℕ, zero, suc, ◌*◌, ◌<◌, ◌≤◌, ℤ, Bool, true, nat_lt, Option, Some, None, List, [], ◌∷◌, option_map, length, slice_get, replicate, refl}
use Rattle.std.specs.List.{list_all}
use Rattle.std.proofs.Common.{arith, sym, subst, subst₂, ap, ap₂, ◌∙◌, inl, inr}
use Rattle.std.proofs.lemmas.Bool.{cases_lt, and_parts, ltb-true}
use Rattle.std.proofs.lemmas.List.{length-map, get_or_past}
use Rattle.std.proofs.lemmas.Option.{slice_get-get_or, get_or_from_slice_get}
use Rattle.cc_base.specs.Lattices.{LatticeOf}
use Rattle.cc_base.specs.IntegerDomains.{IntegersOf}
use Rattle.cc_base.specs.InductiveMap.{row_at, IsOwn, IsRoundedOrNone, IsInductive}
use Rattle.cc_base.specs.InductiveMap as maps
use Rattle.cc_base.specs.Rows.{reached_leq}
use Rattle.cfg.specs.declared.programs.Flow.{Flow}
use Rattle.cfg.specs.declared.flow_edges.Edge.{Edge}
use Rattle.lower_templates.specs.Worklist.Acts.{step}
use Rattle.lower_templates.specs.Views.ProgramViews.{EdgeView, block, edge, flow_view}
use Rattle.value_domain.specs.declared.values.row_cells.Cell.{Cell}
use Rattle.value_domain.specs.declared.values.row_cells.Cell.TheVariants.{Nothing}
use Rattle.value_domain.specs.Values.Cells.{cell_lattice}
use Rattle.transfer_system.specs.StartRows.{start_row}
use Rattle.transfer_system.specs.Edges as edges
use Rattle.transfer_system.specs.BoundedRows.OwnRows.{is_own_row}
use Rattle.transfer_system.specs.BoundedRows.FittedRows.{row_fit, reached_fit}
use Rattle.transfer_system.specs.System.BlockPasses.{instructions_of, block_end, edge_behind, edge_end}
use Rattle.transfer_system.specs.System.FlowMachines.{edge_at, known_start, start_of, through, flow_machine, is_head_at}
use Rattle.transfer_system.specs.System.SystemChecks.{is_sound_edge, is_in_order, is_few, is_system}
use Rattle.loop_unrolling.specs.Turns.{copies, last_copy, number_in, copy_behind, all_copies, split}
use Rattle.analysis_determined.specs.UnrolledDiagnostics.SameParts.{SameParts}
use Rattle.analysis_determined.proofs.unrolled_runs.CopiedLists.{placed, copies_length, copy_at}
use Rattle.analysis_determined.proofs.unrolled_diagnostics.SameInstructions.{rows_same}
use Rattle.analysis_determined.proofs.unrolled_diagnostics.SameEdges.{follow_same}
use Rattle.analysis_determined.proofs.unrolled_diagnostics.SameStarts.{start_same}
use Rattle.analysis_determined.proofs.unrolled_diagnostics.UnrolledPrograms.{same_parts, size, edge_size, block_count, steps_same, last_same, head_there, edge_count, EdgeCopy, edge_of, behind_below}

all_at : {X : Type 0} (f : X → Bool) (xs : List X) → list_all f xs ≡ true → (i : ℕ) (x : X) → slice_get xs i ≡ Some x → f x ≡ true
all_at f [] h i x e = absurd (cc)
all_at f (y ∷ xs) h zero x e = subst (λ z. f z ≡ true) (same y x e) (and_parts (f y) (list_all f xs) h).0
  where
    same : {X : Type 0} (y x : X) → Some y ≡ Some x → y ≡ x
    same y x e = cc
all_at f (y ∷ xs) h (suc i) x e = all_at f xs (and_parts (f y) (list_all f xs) h).1 i x e

module _ {I : Type 0} (l : LatticeOf I) (n : IntegersOf I) (list : List ℤ) (turns : ℕ) (f g : Flow) (h : flow_view g ≡ split turns (flow_view f)) where
  abbrev same : SameParts f g
  same = same_parts turns f g h

  abbrev many : ℕ
  many = size turns f g h

  -- ---- rows behind blocks and edges

  block_same : (k j : ℕ) → k < copies turns → j < many → (row : List (Cell I)) → block_end l n g (number_in many k j) row ≡ block_end l n f j row
  unfolding block_end
  block_same k j p q row = rows_same l n f g same (instructions_of f j) (instructions_of g (number_in many k j)) (steps_same turns f g h k j p q) (Some row)

  module _ (valid : is_system f ≡ true) where
    sound_at : (j : ℕ) (x : Edge) → slice_get f.edges.items j ≡ Some x → is_sound_edge f.blocks.items x ≡ true
    sound_at j x e =
        let a = and_parts (nat_lt 0 (length f.blocks.items)) _ valid in
        let b = and_parts (is_few (length f.blocks.items)) _ a.1 in
        let c = and_parts (is_few (length f.edges.items)) _ b.1 in
        let d = and_parts (list_all (is_sound_edge f.blocks.items) f.edges.items) (is_in_order 0 f.edges.items) c.1 in
        all_at (is_sound_edge f.blocks.items) f.edges.items d.0 j x e

    from_below : (j : ℕ) (x : Edge) → slice_get f.edges.items j ≡ Some x → x.from < many
    from_below j x e =
        let s : many ≡ length f.blocks.items = length-map f.blocks.items block in
        let a = ltb-true x.from (length f.blocks.items) (and_parts (nat_lt x.from (length f.blocks.items)) _ (sound_at j x e)).0 in
        omega arith

    to_below : (j : ℕ) (x : Edge) → slice_get f.edges.items j ≡ Some x → x.to < many
    to_below j x e =
        let s : many ≡ length f.blocks.items = length-map f.blocks.items block in
        let a = and_parts (nat_lt x.from (length f.blocks.items)) _ (sound_at j x e) in
        let b = ltb-true x.to (length f.blocks.items) (and_parts (nat_lt x.to (length f.blocks.items)) _ a.1).0 in
        omega arith

    module _ (k j : ℕ) (p : k < copies turns) (q : j < edge_size turns f g h) where
      abbrev whole : Edge
      whole = edge_at f.edges.items j

      abbrev turned : Edge
      turned = edge_at g.edges.items (number_in (edge_size turns f g h) k j)

      abbrev known : EdgeCopy turns f g h k j
      known = edge_of turns f g h k j p q

      from_is : turned.from ≡ number_in many k whole.from
      from_is = ap (λ (v : EdgeView). v.from) known.alike

      to_is : turned.to ≡ number_in many (copy_behind (last_copy turns) k whole.from whole.to) whole.to
      to_is = ap (λ (v : EdgeView). v.to) known.alike

      followed_same : (row : List (Cell I)) → edges.edge l n g row (number_in (edge_size turns f g h) k j) ≡ edges.edge l n f row j
      unfolding edges.edge
      followed_same row =
          ap (edges.follow_if l n g row) known.there
          ∙ (follow_same l n f g same row whole.from turned.from whole.kind turned.kind (sym (ap (λ (v : EdgeView). v.taken) known.alike))
          (last_same turns f g h k whole.from p (from_below j whole known.here) ∙ ap (λ z. option_map step (edges.last_instruction g z)) (sym from_is))
          ∙ ap (edges.follow_if l n f row) (sym known.here))

      behind_same : (x : Option (List (Cell I))) → edge_behind l n g (number_in (edge_size turns f g h) k j) x ≡ edge_behind l n f j x
      behind_same None = refl
      behind_same (Some row) = followed_same row

      end_same : (row : List (Cell I)) → edge_end l n g turned.from (number_in (edge_size turns f g h) k j) row ≡ edge_end l n f whole.from j row
      unfolding edge_end
      end_same row =
          behind_same (block_end l n g turned.from row)
          ∙ ap (edge_behind l n f j) (ap (λ z. block_end l n g z row) from_is ∙ block_same k whole.from p (from_below j whole known.here) row)

      through_same : (row : List (Cell I)) → through l n g list (number_in (edge_size turns f g h) k j) row ≡ through l n f list j row
      unfolding through
      through_same row =
          ap₂ (λ bs w. reached_fit l n list bs w (edge_end l n g turned.from (number_in (edge_size turns f g h) k j) row)) (sym same.bases) (sym same.width)
          ∙ ap (reached_fit l n list f.bases.items f.width) (end_same row)

      pub passed_same : (x : Option (List (Cell I))) → maps.step (flow_machine l n g list) (number_in (edge_size turns f g h) k j) x ≡ maps.step (flow_machine l n f list) j x
      passed_same None = refl
      passed_same (Some row) = through_same row

  -- ---- the start

  start_is : start_of l n g list ≡ start_of l n f list
  unfolding start_of
  start_is =
      ap₂ (λ bs w. row_fit l n list bs w (known_start w (start_row l n g (replicate w Nothing)))) (sym same.bases) (sym same.width)
      ∙ ap (λ x. row_fit l n list f.bases.items f.width (known_start f.width x)) (start_same l n f g same (replicate f.width Nothing))

  -- ---- maps

  module _ (rows : List (Option (List (Cell I)))) (long : length rows ≡ many) where
    -- the map at every copy
    abbrev pub at_copies : List (Option (List (Cell I)))
    at_copies = all_copies (λ k. rows) (copies turns)

    copied_long : length at_copies ≡ copies turns * many
    copied_long = copies_length (λ k. rows) many (λ k. long) (copies turns)

    pub row_of : (k j : ℕ) → k < copies turns → j < many → row_at at_copies (number_in many k j) ≡ row_at rows j
    row_of k j p q =
        get_or_from_slice_get at_copies (number_in many k j) (row_at rows j) None
        (copy_at (λ i. rows) many (λ i. long) (copies turns) k j p q ∙ slice_get-get_or rows j None (omega arith))

    row_past : (b : ℕ) → copies turns * many ≤ b → row_at at_copies b ≡ None
    row_past b p = let e = copied_long in get_or_past at_copies b None (omega arith)

    -- what holds of no row and of each row of the map
    each_row : (P : ℕ → Option (List (Cell I)) → Type 0) → ((b : ℕ) → P b None) → ((k j : ℕ) → k < copies turns → j < many → P (number_in many k j) (row_at rows j)) → (b : ℕ) → P b (row_at at_copies b)
    each_row P none some b = elim (cases_lt b (copies turns * many)) [
      | inl p ↦ within p
      | inr p ↦ subst (P b) (sym (row_past b p)) (none b)
    ]
      where
        within : b < copies turns * many → P b (row_at at_copies b)
        within p =
            let z = placed many (copies turns) b p in
            subst (λ c. P c (row_at at_copies c)) (sym z.is) (subst (P (number_in many z.copy z.place)) (sym (row_of z.copy z.place z.in_copies z.in_copy)) (some z.copy z.place z.in_copies z.in_copy))

    module _ (valid : is_system f ≡ true) (p : IsInductive (cell_lattice l) (flow_machine l n f list) rows) where
      own_same : (x : Option (List (Cell I))) → IsOwn (flow_machine l n f list) x → IsOwn (flow_machine l n g list) x
      own_same None q = tt
      own_same (Some row) q = subst₂ (λ bs w. is_own_row l n list bs w row ≡ true) same.bases same.width q

      rounded_same : (x : Option (List (Cell I))) → IsRoundedOrNone (cell_lattice l) (flow_machine l n f list) x → IsRoundedOrNone (cell_lattice l) (flow_machine l n g list) x
      rounded_same None q = tt
      rounded_same (Some row) q = q

      some_block : 0 < many
      some_block =
          let s : many ≡ length f.blocks.items = length-map f.blocks.items block in
          let a = ltb-true 0 (length f.blocks.items) (and_parts (nat_lt 0 (length f.blocks.items)) _ valid).0 in
          omega arith

      none_rounded : (b : ℕ) → is_head_at g.blocks.items b ≡ true → IsRoundedOrNone (cell_lattice l) (flow_machine l n g list) None
      none_rounded b e = tt

      entry_same : reached_leq (cell_lattice l) (Some (start_of l n g list)) (row_at at_copies 0) ≡ true
      entry_same =
          let z : number_in many 0 0 ≡ 0 = omega arith in
          subst₂ (λ s x. reached_leq (cell_lattice l) (Some s) x ≡ true) (sym start_is) (sym (row_of 0 0 (omega arith) some_block) ∙ ap (row_at at_copies) z) p.entry

      edge_below : (j : ℕ) → j < edge_size turns f g h → j < length f.edges.items
      edge_below j q = let s : edge_size turns f g h ≡ length f.edges.items = length-map f.edges.items edge in omega arith

      edge_same : (k j : ℕ) → k < copies turns → j < edge_size turns f g h → reached_leq (cell_lattice l)
          (maps.step (flow_machine l n g list) (number_in (edge_size turns f g h) k j) (row_at at_copies (edge_at g.edges.items (number_in (edge_size turns f g h) k j)).from))
          (row_at at_copies (edge_at g.edges.items (number_in (edge_size turns f g h) k j)).to) ≡ true
      edge_same k j a c =
          let e = edge_of turns f g h k j a c in
          let from = row_of k (edge_at f.edges.items j).from a (from_below valid j (edge_at f.edges.items j) e.here) in
          let to = row_of (copy_behind (last_copy turns) k (edge_at f.edges.items j).from (edge_at f.edges.items j).to) (edge_at f.edges.items j).to (behind_below turns f g h k (edge_at f.edges.items j).from (edge_at f.edges.items j).to a) (to_below valid j (edge_at f.edges.items j) e.here) in
          let source : row_at at_copies (edge_at g.edges.items (number_in (edge_size turns f g h) k j)).from ≡ row_at rows (edge_at f.edges.items j).from = ap (row_at at_copies) (from_is valid k j a c) ∙ from in
          let target : row_at at_copies (edge_at g.edges.items (number_in (edge_size turns f g h) k j)).to ≡ row_at rows (edge_at f.edges.items j).to = ap (row_at at_copies) (to_is valid k j a c) ∙ to in
          subst₂ (λ x y. reached_leq (cell_lattice l) x y ≡ true)
          (sym (ap (maps.step (flow_machine l n g list) (number_in (edge_size turns f g h) k j)) source ∙ passed_same valid k j a c (row_at rows (edge_at f.edges.items j).from)))
          (sym target) (p.edge j (edge_below j c))

      pub copies_inductive : IsInductive (cell_lattice l) (flow_machine l n g list) at_copies
      copies_inductive = record {
        size = copied_long ∙ sym (block_count turns f g h);
        own = each_row (λ b x. IsOwn (flow_machine l n g list) x) (λ b. tt) (λ k j a c. own_same (row_at rows j) (p.own j));
        entry = entry_same;
        edge = λ e q.
            let s = edge_count turns f g h in
            let z = placed (edge_size turns f g h) (copies turns) e (omega arith) in
            subst (λ b. reached_leq (cell_lattice l) (maps.step (flow_machine l n g list) b (row_at at_copies (edge_at g.edges.items b).from)) (row_at at_copies (edge_at g.edges.items b).to) ≡ true)
            (sym z.is) (edge_same z.copy z.place z.in_copies z.in_copy);
        rounded = each_row (λ b x. is_head_at g.blocks.items b ≡ true → IsRoundedOrNone (cell_lattice l) (flow_machine l n g list) x) none_rounded
            (λ k j a c e. rounded_same (row_at rows j) (p.rounded j (head_there turns f g h k j a c e)));
      }
