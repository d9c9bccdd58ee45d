-- A well-formed program is a system of equations: its edges are between blocks that are there, they are
-- numbered by the blocks that they leave, and what an edge from the same or a later block enters is a head.
use Rattle.std.proofs.Common.{◌≡◌, ◌<◌, ◌≤◌, ◌⊎◌, inl, inr, ℕ, zero, suc, ◌+◌, ◌==◌, ◌++◌, Bool, true, false, ◌&&◌, ◌||◌, nat_le, nat_lt, List, [], ◌∷◌, length, take, drop, Option, Some, None, slice_get, refl, arith, ap, sym, ◌∙◌}
use Rattle.std.specs.List.{list_all, list_any}
use Rattle.std.proofs.lemmas.Bool.{le-leb, ltb-true, lt-ltb, eqb-true, eq-eqb}
use Rattle.std.proofs.lemmas.Bool.Decides.{leb_tells}
use Rattle.cc_base.specs.declared.limit_table.Limits.{Limits}
use Rattle.cc_base.specs.RowLaws.{and_left, and_right, and_both}
use Rattle.cfg.specs.declared.basic_blocks.BasicBlock.{BasicBlock}
use Rattle.cfg.specs.declared.flow_edges.Edge.{Edge}
use Rattle.cfg.specs.declared.programs.Flow.{Flow}
use Rattle.cfg.specs.BaseShapes.{same_truth}
use Rattle.cfg.specs.WellFormed.{Names, names_of, fits_operation, fits_edge, is_body, On, is_block, are_blocks, are_placed, all_values, is_initial_object, is_parameter, is_within, all_leave, goes_back, is_few, are_few, is_well_formed}

abbrev pub head_in : Option BasicBlock → Bool
head_in None = false
head_in (Some block) = block.is_head

abbrev pub is_head_at : List BasicBlock → ℕ → Bool
is_head_at blocks number = head_in (slice_get blocks number)

-- an edge between blocks that are there, which enters a head where it goes back
abbrev pub is_sound_edge : List BasicBlock → Edge → Bool
is_sound_edge blocks e = nat_lt e.from (length blocks) && (nat_lt e.to (length blocks) && (nat_lt e.from e.to || is_head_at blocks e.to))

-- edges numbered by the blocks that they leave, from a block on
abbrev pub is_in_order : ℕ → List Edge → Bool
is_in_order least [] = true
is_in_order least (e ∷ es) = nat_le least e.from && is_in_order e.from es

abbrev pub is_system : Flow → Bool
is_system flow =
    nat_lt 0 (length flow.blocks.items)
    && (is_few (length flow.blocks.items)
    && (is_few (length flow.edges.items)
    && (list_all (is_sound_edge flow.blocks.items) flow.edges.items
    && is_in_order 0 flow.edges.items)))

-- ---- edges of one block, and those of the blocks behind it

in_order_behind : (at least : ℕ) (own rest : List Edge) (blocks : ℕ) → all_leave blocks at own ≡ true → least ≤ at → ((l : ℕ) → l ≤ at → is_in_order l rest ≡ true) → is_in_order least (own ++ rest) ≡ true
in_order_behind at least [] rest blocks h le behind = behind least le
in_order_behind at least (e ∷ es) rest blocks h le behind =
    let here = and_left ((e.from == at) && nat_lt e.to blocks) _ h in
    let from : e.from ≡ at = eqb-true _ _ (and_left _ _ here) in
    and_both _ _ (le-leb least e.from (omega (arith, le, from))) (in_order_behind at e.from es rest blocks (and_right ((e.from == at) && nat_lt e.to blocks) _ h) (omega (arith, from)) behind)

all_joined : (f : Edge → Bool) (own rest : List Edge) → list_all f own ≡ true → list_all f rest ≡ true → list_all f (own ++ rest) ≡ true
all_joined f [] rest h k = k
all_joined f (e ∷ es) rest h k = and_both (f e) _ (and_left (f e) _ h) (all_joined f es rest (and_right (f e) _ h) k)

split_at : (k : ℕ) (es : List Edge) → take k es ++ drop k es ≡ es
split_at zero es = refl
split_at (suc k) [] = refl
split_at (suc k) (e ∷ es) = ap (λ t. e ∷ t) (split_at k es)

-- ---- all edges

record Own (n : Names) (blocks : ℕ) (edges : List Edge) (at : ℕ) (b : BasicBlock) (own : List Edge) : Type 0 where
  leave : all_leave blocks at own ≡ true
  head : same_truth b.is_head (list_any (goes_back at) edges) ≡ true

own_edges : (n : Names) (blocks : ℕ) (edges : List Edge) (at : ℕ) (b : BasicBlock) (own : List Edge) → is_block n blocks edges at b own ≡ true → Own n blocks edges at b own
own_edges n blocks edges at b own h =
    let body = and_right (list_all (λ i. fits_operation n i.operation) b.instructions.items) _ h in
    let count = and_right (is_body On b.instructions.items own) _ body in
    let last = and_right (length own == b.edges) _ count in
    record { leave = and_left (all_leave blocks at own) _ last; head = and_right (all_leave blocks at own) _ last }

-- from a block before an end to one that is there
abbrev lies_within : ℕ → ℕ → Edge → Bool
lies_within blocks end e = nat_lt e.from end && nat_lt e.to blocks

module _ (n : Names) (blocks : ℕ) (edges : List Edge) where
  block_of : (at first : ℕ) (b : BasicBlock) (bs : List BasicBlock) (rest : List Edge) → are_blocks n blocks edges at first (b ∷ bs) rest ≡ true → Own n blocks edges at b (take b.edges rest)
  block_of at first b bs rest h = own_edges n blocks edges at b (take b.edges rest) (and_right (b.first_edge == first) _ (and_left _ _ h))

  behind_of : (at first : ℕ) (b : BasicBlock) (bs : List BasicBlock) (rest : List Edge) → are_blocks n blocks edges at first (b ∷ bs) rest ≡ true → are_blocks n blocks edges (at + 1) (first + b.edges) bs (drop b.edges rest) ≡ true
  behind_of at first b bs rest h = and_right ((b.first_edge == first) && is_block n blocks edges at b (take b.edges rest)) _ h

  none_left : (at first : ℕ) (rest : List Edge) → are_blocks n blocks edges at first [] rest ≡ true → rest ≡ []
  none_left at first [] h = refl
  none_left at first (e ∷ es) h = absurd (let none = eqb-true _ _ h in omega (arith, none))

  in_order : (at first : ℕ) (bs : List BasicBlock) (rest : List Edge) → are_blocks n blocks edges at first bs rest ≡ true → (least : ℕ) → least ≤ at → is_in_order least rest ≡ true
  in_order at first [] rest h least le = ap (is_in_order least) (none_left at first rest h)
  in_order at first (b ∷ bs) rest h least le =
      let behind : (l : ℕ) → l ≤ at → is_in_order l (drop b.edges rest) ≡ true = λ l below. in_order (at + 1) (first + b.edges) bs (drop b.edges rest) (behind_of at first b bs rest h) l (omega (arith, below)) in
      sym (ap (is_in_order least) (split_at b.edges rest))
      ∙ in_order_behind at least (take b.edges rest) (drop b.edges rest) blocks ((block_of at first b bs rest h).leave) le behind

  own_within : (at end : ℕ) (own : List Edge) → at < end → all_leave blocks at own ≡ true → list_all (lies_within blocks end) own ≡ true
  own_within at end [] less h = refl
  own_within at end (e ∷ es) less h =
      let here = and_left ((e.from == at) && nat_lt e.to blocks) _ h in
      let from : e.from ≡ at = eqb-true _ _ (and_left _ _ here) in
      and_both (lies_within blocks end e) _ (and_both (nat_lt e.from end) _ (lt-ltb e.from end (omega (arith, less, from))) (and_right (e.from == at) _ here)) (own_within at end es less (and_right ((e.from == at) && nat_lt e.to blocks) _ h))

  all_within : (at first end : ℕ) (bs : List BasicBlock) (rest : List Edge) → at + length bs ≡ end → are_blocks n blocks edges at first bs rest ≡ true → list_all (lies_within blocks end) rest ≡ true
  all_within at first end [] rest all h = ap (list_all (lies_within blocks end)) (none_left at first rest h)
  all_within at first end (b ∷ bs) rest all h =
      sym (ap (list_all (lies_within blocks end)) (split_at b.edges rest))
      ∙ all_joined (lies_within blocks end) (take b.edges rest) (drop b.edges rest)
      (own_within at end (take b.edges rest) (omega (arith, all)) ((block_of at first b bs rest h).leave))
      (all_within (at + 1) (first + b.edges) end bs (drop b.edges rest) (omega (arith, all)) (behind_of at first b bs rest h))

  head_same : (a b : Bool) → same_truth a b ≡ true → b ≡ true → a ≡ true
  head_same true b h is = refl
  head_same false true h is = h
  head_same false false h is = is

  -- a block to which an edge goes back is a head
  head_there : (at first : ℕ) (bs : List BasicBlock) (rest : List Edge) → are_blocks n blocks edges at first bs rest ≡ true → (number k : ℕ) → number ≡ at + k → k < length bs → list_any (goes_back number) edges ≡ true → is_head_at bs k ≡ true
  head_there at first [] rest h number k there less back = absurd (omega (arith, less))
  head_there at first (b ∷ bs) rest h number zero there less back =
      let same : at ≡ number = omega (arith, there) in
      head_same b.is_head _ ((block_of at first b bs rest h).head) (ap (λ m. list_any (goes_back m) edges) same ∙ back)
  head_there at first (b ∷ bs) rest h number (suc k) there less back =
      head_there (at + 1) (first + b.edges) bs (drop b.edges rest) (behind_of at first b bs rest h) number k (omega (arith, there)) (omega (arith, less)) back

-- ---- the edges that go back

or_left : (a b : Bool) → a ≡ true → (a || b) ≡ true
or_left true b is = refl
or_left false b is = cc

or_right : (a b : Bool) → b ≡ true → (a || b) ≡ true
or_right true b is = refl
or_right false b is = is

goes_back_to : (e : Edge) → e.to ≤ e.from → goes_back e.to e ≡ true
goes_back_to e le = and_both (e.to == e.to) _ (eq-eqb e.to e.to refl) (le-leb e.to e.from le)

module _ (bs : List BasicBlock) (all : List Edge) (heads : (k : ℕ) → k < length bs → list_any (goes_back k) all ≡ true → is_head_at bs k ≡ true) where
  head_or_on : (e : Edge) → nat_lt e.to (length bs) ≡ true → list_any (goes_back e.to) all ≡ true ⊎ (e.from < e.to) → (nat_lt e.from e.to || is_head_at bs e.to) ≡ true
  head_or_on e there (inl back) = or_right (nat_lt e.from e.to) _ (heads e.to (ltb-true _ _ there) back)
  head_or_on e there (inr on) = or_left (nat_lt e.from e.to) _ (lt-ltb e.from e.to on)

  back_or_on : (e : Edge) (es : List Edge) → ((to : ℕ) → list_any (goes_back to) (e ∷ es) ≡ true → list_any (goes_back to) all ≡ true) → ((nat_le e.to e.from ≡ true) × (e.to ≤ e.from)) ⊎ ((nat_le e.to e.from ≡ false) × (e.from < e.to)) → list_any (goes_back e.to) all ≡ true ⊎ (e.from < e.to)
  back_or_on e es more (inl (back, le)) = inl (more e.to (or_left (goes_back e.to e) _ (goes_back_to e le)))
  back_or_on e es more (inr (ahead, less)) = inr less

  all_sound : (rest : List Edge) → ((to : ℕ) → list_any (goes_back to) rest ≡ true → list_any (goes_back to) all ≡ true) → list_all (lies_within (length bs) (length bs)) rest ≡ true → list_all (is_sound_edge bs) rest ≡ true
  all_sound [] more h = refl
  all_sound (e ∷ es) more h =
      let here = and_left (lies_within (length bs) (length bs) e) _ h in
      let from : nat_lt e.from (length bs) ≡ true = and_left _ _ here in
      let to : nat_lt e.to (length bs) ≡ true = and_right (nat_lt e.from (length bs)) _ here in
      and_both (is_sound_edge bs e) _
      (and_both (nat_lt e.from (length bs)) _ from (and_both (nat_lt e.to (length bs)) _ to (head_or_on e to (back_or_on e es more (leb_tells e.to e.from)))))
      (all_sound es (λ to back. more to (or_right (goes_back to e) _ back)) (and_right (lies_within (length bs) (length bs) e) _ h))

blocks_of : (f : Flow) → are_blocks (names_of f) (length f.blocks.items) f.edges.items 0 0 f.blocks.items f.edges.items ≡ true → (list_all (is_sound_edge f.blocks.items) f.edges.items && is_in_order 0 f.edges.items) ≡ true
blocks_of f h =
    let bs : List BasicBlock = f.blocks.items in
    let es : List Edge = f.edges.items in
    let heads : (k : ℕ) → k < length bs → list_any (goes_back k) es ≡ true → is_head_at bs k ≡ true = λ k less back. head_there (names_of f) (length bs) es 0 0 bs es h k k (omega arith) less back in
    let within : list_all (lies_within (length bs) (length bs)) es ≡ true = all_within (names_of f) (length bs) es 0 0 (length bs) bs es (omega arith) h in
    and_both (list_all (is_sound_edge bs) es) _ (all_sound bs es heads es (λ to back. back) within) (in_order (names_of f) (length bs) es 0 0 bs es h 0 (omega arith))

-- a well-formed program is a system
pub well_formed_system : (limits : Limits) (f : Flow) → is_well_formed limits f ≡ true → is_system f ≡ true
well_formed_system limits f h =
    let some : nat_lt 0 (length f.blocks.items) ≡ true = and_left _ _ h in
    let h1 = and_right (nat_lt 0 (length f.blocks.items)) _ h in
    let blocks : are_blocks (names_of f) (length f.blocks.items) f.edges.items 0 0 f.blocks.items f.edges.items ≡ true = and_left _ _ h1 in
    let h2 = and_right (are_blocks (names_of f) (length f.blocks.items) f.edges.items 0 0 f.blocks.items f.edges.items) _ h1 in
    let h3 = and_right (list_all (λ e. fits_edge (names_of f) e.kind) f.edges.items) _ h2 in
    let h4 = and_right (are_placed 0 f.bases.items) _ h3 in
    let h5 = and_right (f.width == all_values f.bases.items + f.temps) _ h4 in
    let h6 = and_right (list_all (is_initial_object f.bases.items) f.initial.items) _ h5 in
    let h7 = and_right (list_all (is_parameter f.model f.bases.items) f.parameters.items) _ h6 in
    let h8 = and_right (is_within limits f) _ h7 in
    let few : are_few f ≡ true = and_left (are_few f) _ h8 in
    and_both (nat_lt 0 (length f.blocks.items)) _ some
    (and_both (is_few (length f.blocks.items)) _ (and_left (is_few (length f.blocks.items)) _ few)
    (and_both (is_few (length f.edges.items)) _ (and_right (is_few (length f.blocks.items)) _ few) (blocks_of f blocks)))
