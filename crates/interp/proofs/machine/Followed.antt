-- Conditions that go on by a value.
use Rattle.std.proofs.Common.{◌≡◌, Bool, true, false, not, cond, List, [], ◌∷◌, ◌++◌, Option, Result, refl, sym, ap, subst, ◌∙◌}
use Rattle.cc_base.specs.declared.diagnostics.Place.{Place}
use Rattle.c_layout.specs.CheckedUnits.{UnitView}
use Rattle.memory_model.specs.Memory.Scalars.{Scalar, is_false}
use Rattle.memory_model.specs.Effects.LibraryCalls.{fgets}
use Rattle.memory_model.specs.Effects.Worlds.{World, goes, behind}
use Rattle.interp_accesses.specs.declared.worlds.Halt.{Halt}
use Rattle.semantics.specs.SourceMachine.BranchSteps.{testing, choose_by, choose, read_line}
use Rattle.semantics.specs.SourceMachine.Items.{NamedTest, Item, items_of, listed}
use Rattle.semantics.specs.SourceMachine.ObjectSteps.{on}
use Rattle.semantics.specs.SourceMachine.SourceStates.{State, first_do}
use Rattle.semantics.specs.SourceMachine.SourceSteps.{turn_by}
use Rattle.interp_stack.specs.StackViews.{StackView, on_line}
use Rattle.interp_steps.specs.MachineItems.Moves.{Moves, holds_on}
use Rattle.interp_steps.specs.declared.machine_items.machines.Machine.{Machine}

listed_items : (xs : List Item) → listed (items_of xs) ≡ xs
listed_items [] = refl
listed_items (x ∷ xs) = ap (λ ys. x ∷ ys) (listed_items xs)

-- ---- conditions

chosen_by : (u : UnitView) (test : Option NamedTest) (holds : Bool) (held failed : List Item) (s t : State) (w : World) → testing u s test holds ≡ goes t w → choose_by u test holds (items_of held) (items_of failed) s ≡ on (first_do (cond holds held failed) t)
chosen_by u test true held failed s t w e = ap (λ r. behind r (λ z v. on (first_do (listed (items_of held)) z))) e ∙ ap (λ xs. on (first_do xs t)) (listed_items held)
chosen_by u test false held failed s t w e = ap (λ r. behind r (λ z v. on (first_do (listed (items_of failed)) z))) e ∙ ap (λ xs. on (first_do xs t)) (listed_items failed)

pub chosen : (u : UnitView) (test : Option NamedTest) (held failed items : List Item) (s t : State) (v : Scalar) (vs rest : List Scalar) (holds : Bool) (w : World) → vs ≡ v ∷ rest → holds ≡ not (is_false v) → testing u (record s { values = rest }) test holds ≡ goes t w → items ≡ cond holds held failed ++ t.control → choose u test (items_of held) (items_of failed) s vs ≡ goes (record t { control = items }) t.world
chosen u test held failed items s t v vs rest holds w e h tested is =
    ap (choose u test (items_of held) (items_of failed) s) e
    ∙ ap (λ b. choose_by u test b (items_of held) (items_of failed) (record s { values = rest })) (sym h)
    ∙ chosen_by u test holds held failed (record s { values = rest }) t w tested
    ∙ ap (λ xs. goes (record t { control = xs }) t.world) (sym is)

-- another test that is the same one
pub same_test : (u : UnitView) (s : State) (a b : Option NamedTest) (holds : Bool) (r : Result (Unit {0}) Halt) (n : Machine) → a ≡ b → Moves u (testing u s a holds) r n → Moves u (testing u s b holds) r n
same_test u s a b holds r n e p = subst (λ t. Moves u (testing u s t holds) r n) e p

-- ---- lines

line_by : (b : Bool) (held failed : List Item) (s : State) (rest : List Scalar) (w : World) → on (first_do (listed (cond b (items_of failed) (items_of held))) (record s { values = rest; world = w })) ≡ goes (record s { control = cond b failed held ++ s.control; values = rest; world = w }) w
line_by true held failed s rest w = ap (λ xs. goes (record s { control = xs ++ s.control; values = rest; world = w }) w) (listed_items failed)
line_by false held failed s rest w = ap (λ xs. goes (record s { control = xs ++ s.control; values = rest; world = w }) w) (listed_items held)

line_read : (u : UnitView) (held failed items : List Item) (s : State) (stream size text v : Scalar) (vs rest : List Scalar) (w : World) → vs ≡ stream ∷ (size ∷ (text ∷ rest)) → fgets u.model (text ∷ (size ∷ (stream ∷ []))) s.world ≡ goes v w → items ≡ cond (is_false v) failed held ++ s.control → read_line u (items_of failed) (items_of held) s vs ≡ goes (record s { control = items; values = rest; world = w }) w
line_read u held failed items s stream size text v vs rest w e read is =
    ap (read_line u (items_of failed) (items_of held) s) e
    ∙ ap (λ r. behind r (λ x z. on (first_do (listed (cond (is_false x) (items_of failed) (items_of held))) (record s { values = rest; world = z })))) read
    ∙ line_by (is_false v) held failed s rest w
    ∙ ap (λ xs. goes (record s { control = xs; values = rest; world = w }) w) (sym is)

other_way : (b : Bool) (held failed : List Item) → cond (not b) held failed ≡ cond b failed held
other_way true held failed = refl
other_way false held failed = refl

-- the turn of a condition on a line, by whether the condition holds
pub line_turn : (u : UnitView) (at : Place) (wants holds : Bool) (st : StackView) (s : State) (items : List Item) (stream size text v : Scalar) (vs rest : List Scalar) (w : World) → s.values ≡ vs → vs ≡ stream ∷ (size ∷ (text ∷ rest)) → fgets u.model (text ∷ (size ∷ (stream ∷ []))) s.world ≡ goes v w → holds ≡ holds_on wants (is_false v) → items ≡ cond holds st.yes st.no ++ st.items → (turn_by u s (on_line at wants st).items).reply ≡ goes (record s { control = items; values = rest; world = w }) w
line_turn u at true holds st s items stream size text v vs rest w k e read h is =
    ap (read_line u (items_of st.no) (items_of st.yes) (record s { control = st.items })) k
    ∙ line_read u st.yes st.no items (record s { control = st.items }) stream size text v vs rest w e read
    (is ∙ ap (λ b. cond b st.yes st.no ++ st.items) h ∙ ap (λ xs. xs ++ st.items) (other_way (is_false v) st.yes st.no))
line_turn u at false holds st s items stream size text v vs rest w k e read h is =
    ap (read_line u (items_of st.yes) (items_of st.no) (record s { control = st.items })) k
    ∙ line_read u st.no st.yes items (record s { control = st.items }) stream size text v vs rest w e read
    (is ∙ ap (λ b. cond b st.yes st.no ++ st.items) h)
