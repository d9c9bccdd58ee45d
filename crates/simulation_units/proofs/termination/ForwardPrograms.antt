-- The edges of a well-formed program without loops go on.
use Rattle.std.proofs.Common.{◌≡◌, ◌<◌, ℕ, zero, suc, ◌+◌, ◌==◌, Bool, true, false, ◌&&◌, ◌||◌, nat_lt, List, [], ◌∷◌, length, take, drop, map, Option, Some, None, slice_get, refl, arith, ap, sym, subst, ◌∙◌}
use Rattle.std.specs.List.{list_all, list_any}
use Rattle.std.proofs.lemmas.Bool.{ltb-true, eqb-true}
use Rattle.cc_base.specs.declared.limit_table.Limits.{Limits}
use Rattle.cc_base.specs.RowLaws.{and_left, and_right}
use Rattle.cfg.specs.BaseShapes.{same_truth}
use Rattle.cfg.specs.WellFormed.{names_of, fits_operation, is_body, On, is_block, are_blocks, all_leave, goes_back, is_few, is_well_formed}
use Rattle.cfg.specs.FlowSystems.{is_head_at, is_sound_edge, is_in_order, well_formed_system}
use Rattle.cfg.specs.declared.basic_blocks.BasicBlock.{BasicBlock}
use Rattle.cfg.specs.declared.flow_edges.Edge.{Edge}
use Rattle.cfg.specs.declared.programs.Flow.{Flow}
use Rattle.lower_templates.specs.Views.ProgramViews.{edge, block, flow_view}
use Rattle.semantics.specs.CfgMachine.FlowSteps.{block_or}
use Rattle.simulation_units.specs.Termination.BoundedTemplates.{EnterLater, EdgesGoOn}
use Rattle.simulation_units.specs.Termination.EndedRuns.{HasNoLoops}

-- ---- lists

take_map : {A B : Type 0} (f : A → B) (n : ℕ) (xs : List A) → take n (map f xs) ≡ map f (take n xs)
take_map f zero xs = refl
take_map f (suc n) [] = refl
take_map f (suc n) (x ∷ xs) = ap (λ ys. f x ∷ ys) (take_map f n xs)

drop_map : {A B : Type 0} (f : A → B) (n : ℕ) (xs : List A) → drop n (map f xs) ≡ map f (drop n xs)
drop_map f zero xs = refl
drop_map f (suc n) [] = refl
drop_map f (suc n) (x ∷ xs) = drop_map f n xs

drop_none : (n : ℕ) (es : List Edge) → es ≡ [] → drop n es ≡ []
drop_none zero [] is = refl
drop_none (suc n) [] is = refl
drop_none n (e ∷ es) is = absurd (by is)
  where
    by : e ∷ es ≡ [] → ⊥
    by is = cc

drop_more : (a b : ℕ) (es : List Edge) → drop b (drop a es) ≡ drop (a + b) es
drop_more zero b es = ap (λ n. drop n es) (is b)
  where
    is : (b : ℕ) → b ≡ 0 + b
    is b = omega arith
drop_more (suc a) b [] = drop_none b [] refl ∙ sym (drop_none (suc a + b) [] refl)
drop_more (suc a) b (e ∷ es) = drop_more a b es ∙ ap (λ n. drop n (e ∷ es)) (is a b)
  where
    is : (a b : ℕ) → suc (a + b) ≡ suc a + b
    is a b = omega arith

all_take : (f : Edge → Bool) (n : ℕ) (es : List Edge) → list_all f es ≡ true → list_all f (take n es) ≡ true
all_take f zero es all = refl
all_take f (suc n) [] all = refl
all_take f (suc n) (e ∷ es) all = by (f e) all (λ rest. all_take f n es rest)
  where
    by : (b : Bool) → (b && list_all f es) ≡ true → (list_all f es ≡ true → list_all f (take n es) ≡ true) → (b && list_all f (take n es)) ≡ true
    by true all go = go all
    by false all go = all

all_drop : (f : Edge → Bool) (n : ℕ) (es : List Edge) → list_all f es ≡ true → list_all f (drop n es) ≡ true
all_drop f zero es all = all
all_drop f (suc n) [] all = refl
all_drop f (suc n) (e ∷ es) all = all_drop f n es (and_right (f e) _ all)

-- ---- edges

module _ (flow : Flow) (none : HasNoLoops flow) where
  abbrev edges : List Edge
  edges = flow.edges.items

  abbrev blocks : List BasicBlock
  blocks = flow.blocks.items

  no_head : (a b : Bool) → (a || b) ≡ true → b ≡ false → a ≡ true
  no_head true b h e = refl
  no_head false b h e = absurd (by (sym h ∙ e))
    where
      by : true ≡ false → ⊥
      by e = cc

  enter_later : (at : ℕ) (own : List Edge) → all_leave (length blocks) at own ≡ true → list_all (is_sound_edge blocks) own ≡ true → EnterLater at (map edge own)
  enter_later at [] leave sound = tt
  enter_later at (e ∷ es) leave sound =
      let here = and_left ((e.from == at) && nat_lt e.to (length blocks)) _ leave in
      let from : e.from ≡ at = eqb-true e.from at (and_left (e.from == at) _ here) in
      let first = and_left (is_sound_edge blocks e) _ sound in
      let last = and_right (nat_lt e.to (length blocks)) (nat_lt e.from e.to || is_head_at blocks e.to) (and_right (nat_lt e.from (length blocks)) _ first) in
      let less : e.from < e.to = ltb-true e.from e.to (no_head (nat_lt e.from e.to) (is_head_at blocks e.to) last (none e.to)) in
      (subst (λ n. n < e.to) from less, enter_later at es (and_right ((e.from == at) && nat_lt e.to (length blocks)) _ leave) (and_right (is_sound_edge blocks e) _ sound))

  abbrev own : Option BasicBlock → List Edge
  own None = []
  own (Some b) = take b.edges (drop b.first_edge edges)

  all_later : (at first : ℕ) (bs : List BasicBlock) (rest : List Edge) → rest ≡ drop first edges → list_all (is_sound_edge blocks) rest ≡ true → are_blocks (names_of flow) (length blocks) edges at first bs rest ≡ true → (k : ℕ) → EnterLater (at + k) (map edge (own (slice_get bs k)))
  all_later at first [] rest same sound are k = tt
  all_later at first (b ∷ bs) rest same sound are zero =
      let here = and_left ((b.first_edge == first) && is_block (names_of flow) (length blocks) edges at b (take b.edges rest)) _ are in
      let starts : b.first_edge ≡ first = eqb-true b.first_edge first (and_left (b.first_edge == first) _ here) in
      let body = and_right (list_all (λ i. fits_operation (names_of flow) i.operation) b.instructions.items) _ (and_right (b.first_edge == first) _ here) in
      let count = and_right (is_body On b.instructions.items (take b.edges rest)) _ body in
      let last = and_right (length (take b.edges rest) == b.edges) _ count in
      let leave = and_left (all_leave (length blocks) at (take b.edges rest)) (same_truth b.is_head (list_any (goes_back at) edges)) last in
      let is : take b.edges rest ≡ take b.edges (drop b.first_edge edges) = ap (take b.edges) (same ∙ ap (λ n. drop n edges) (sym starts)) in
      let block_is : at ≡ at + 0 = omega arith in
      subst (λ n. EnterLater n (map edge (take b.edges (drop b.first_edge edges)))) block_is
      (subst (λ es. EnterLater at (map edge es)) is (enter_later at (take b.edges rest) leave (all_take (is_sound_edge blocks) b.edges rest sound)))
  all_later at first (b ∷ bs) rest same sound are (suc k) =
      let further = and_right ((b.first_edge == first) && is_block (names_of flow) (length blocks) edges at b (take b.edges rest)) _ are in
      subst (λ n. EnterLater n (map edge (own (slice_get bs k)))) (counts at k)
      (all_later (at + 1) (first + b.edges) bs (drop b.edges rest) (ap (drop b.edges) same ∙ drop_more first b.edges edges) (all_drop (is_sound_edge blocks) b.edges rest sound) further k)
    where
      counts : (at k : ℕ) → at + 1 + k ≡ at + suc k
      counts at k = omega arith

  own_there : (bs : List BasicBlock) (k : ℕ) → take (block_or (slice_get (map block bs) k)).edges (drop (block_or (slice_get (map block bs) k)).first_edge (map edge edges)) ≡ map edge (own (slice_get bs k))
  own_there [] k = refl
  own_there (b ∷ bs) zero = ap (take b.edges) (drop_map edge b.first_edge edges) ∙ take_map edge b.edges (drop b.first_edge edges)
  own_there (b ∷ bs) (suc k) = own_there bs k

  pub edges_go_on : (limits : Limits) → is_well_formed limits flow ≡ true → EdgesGoOn (flow_view flow)
  edges_go_on limits good k =
      let are = and_left (are_blocks (names_of flow) (length blocks) edges 0 0 blocks edges) _ (and_right (nat_lt 0 (length blocks)) _ good) in
      let system = and_right (is_few (length edges)) _ (and_right (is_few (length blocks)) _ (and_right (nat_lt 0 (length blocks)) _ (well_formed_system limits flow good))) in
      let sound = and_left (list_all (is_sound_edge blocks) edges) (is_in_order 0 edges) system in
      subst (λ es. EnterLater k es) (sym (own_there blocks k)) (subst (λ n. EnterLater n (map edge (own (slice_get blocks k)))) (is k) (all_later 0 0 blocks edges refl sound are k))
    where
      is : (k : ℕ) → 0 + k ≡ k
      is k = omega arith
