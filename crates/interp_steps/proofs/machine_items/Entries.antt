-- The entries of a stack that is gone over from its newest one on.
use Rattle.std.proofs.Common.{◌≡◌, ℕ, zero, suc, ◌+◌, ◌-◌, ◌<◌, ◌≤◌, ◌==◌, List, [], ◌∷◌, ◌++◌, length, get_or, take, drop, map, reverse, Vec, vec_len, Global, Bool, true, false, Option, Some, None, Result, Ok, Err, IfOk, refl, sym, ap, ◌∙◌, arith, append_assoc}
use Rattle.std.proofs.lemmas.List.{at_drop_more, take_more, append-nil, map-append, reverse-append, length-reverse, length-map}
use Rattle.std.proofs.lemmas.Bool.Decides.{nat_tests}
use Rattle.std.proofs.lemmas.Grind.{common_steps}
use Rattle.lower_functions.specs.Functions.Functions.{numbers_from}
use Rattle.interp_accesses.specs.declared.worlds.Halt.{Halt}
use Rattle.interp_steps.specs.MachineItems.MachineViews.{with_next, hop_if, frame_view}
use Rattle.interp_steps.specs.declared.machine_items.machines.Frame7.{Frame7}
use Rattle.interp_steps.specs.MachineItems.Asked.{first_of}
use Rattle.semantics.specs.SourceMachine.Items as item
use Rattle.semantics.specs.SourceMachine.Items.{Item}
use Rattle.c_layout.specs.CheckedUnits.{UnitView}
use Rattle.semantics.specs.SourceMachine.Scopes.{all_of}
use Rattle.semantics.specs.SourceMachine.SourceStates.{Frame}
use Rattle.semantics.specs.SourceMachine.SourceSteps.{is_entry}
use Rattle.interp_stack.specs.StackViews.{StackView, nothing_left, with_items, added, on_item, standing}
use Rattle.interp_stack.specs.declared.items.Item7.{Item7}
use Rattle.interp_stack.proofs.Stacks.{standing_more}

-- an entry below others
pub entry_below : (u : UnitView) (xs : List Item7) (k : ℕ) (i : Item7) → 0 < k → k ≤ length xs → i ≡ get_or xs (k - 1) i → standing u (take k xs) ≡ on_item u i (standing u (take (k - 1) xs))
entry_below u xs k i positive within is =
    let below : k - 1 < length xs = omega arith in
    let next : k - 1 + 1 ≡ k = omega arith in
    ap (λ n. standing u (take n xs)) (sym next)
    ∙ ap (standing u) (take_more xs (k - 1) i below)
    ∙ standing_more u (take (k - 1) xs) (get_or xs (k - 1) i)
    ∙ ap (λ j. on_item u j (standing u (take (k - 1) xs))) (sym is)

-- objects of scopes, one scope more
pub scope_more : (scopes : List (Vec ℕ Global)) (k : ℕ) (scope : Vec ℕ Global) (objects below : List ℕ) → 0 < k → k ≤ length scopes → scope ≡ get_or scopes (k - 1) scope → objects ≡ scope.items → objects ++ (all_of (map (λ (v : Vec ℕ Global). v.items) (drop k scopes)) ++ below) ≡ all_of (map (λ (v : Vec ℕ Global). v.items) (drop (k - 1) scopes)) ++ below
scope_more scopes k scope objects below positive within is same =
    let first : k - 1 < length scopes = omega arith in
    let next : k - 1 + 1 ≡ k = omega arith in
    ap (λ os. os ++ (all_of (map (λ (v : Vec ℕ Global). v.items) (drop k scopes)) ++ below)) same
    ∙ sym (append_assoc scope.items (all_of (map (λ (v : Vec ℕ Global). v.items) (drop k scopes))) below)
    ∙ sym (at_drop_more (λ ss. all_of (map (λ (v : Vec ℕ Global). v.items) ss) ++ below) scopes (k - 1) scope first
    ∙ ap (λ (w : Vec ℕ Global). (w.items ++ all_of (map (λ (v : Vec ℕ Global). v.items) (drop (k - 1 + 1) scopes))) ++ below) (sym is)
    ∙ ap (λ n. (scope.items ++ all_of (map (λ (v : Vec ℕ Global). v.items) (drop n scopes))) ++ below) next)

-- an entry that is put back
pub kept_objects : (r : Result (Option ℕ) Halt) (old : List ℕ) (s new : StackView) → old ≡ s.objects → IfOk r (λ next. next ≡ None) → IfOk r (λ _. s.objects ≡ []) → IfOk r (λ next. old ≡ with_next next new.objects)
kept_objects (Ok next) old s new e n p = e ∙ p ∙ sym (ap (λ o. with_next o new.objects) n)
kept_objects (Err h) old s new e n p = tt

pub kept_items : (r : Result (Option ℕ) Halt) (old : List Item) (s new : StackView) → old ≡ s.items → IfOk r (λ _. new ≡ s) → IfOk r (λ _. old ≡ new.items)
kept_items (Ok next) old s new e p = e ∙ ap (λ (t : StackView). t.items) (sym p)
kept_items (Err h) old s new e p = tt

-- what follows the body of a function on an empty stack
abbrev behind : Bool → List Item → StackView
behind hops end = added (hop_if hops) (added end nothing_left)

pub behind_body_is : (hops : Bool) (end : List Item) (ns : List ℕ) → with_items (item.Leaves (ns ++ (behind hops end).objects) ∷ []) (behind hops end) ≡ with_items (item.Leaves ns ∷ (hop_if hops ++ end)) nothing_left
behind_body_is true [] ns = ap (λ ms. with_items (item.Leaves ms ∷ (hop_if true ++ [])) nothing_left) (append-nil ns)
behind_body_is true (e ∷ es) ns = ap (λ ms. with_items (item.Leaves ms ∷ (hop_if true ++ (e ∷ es))) nothing_left) (append-nil ns)
behind_body_is false [] ns = ap (λ ms. with_items (item.Leaves ms ∷ []) nothing_left) (append-nil ns)
behind_body_is false (e ∷ es) ns = ap (λ ms. with_items (item.Leaves ms ∷ (e ∷ es)) nothing_left) (append-nil ns)

-- the same where the entry is known
pub entry_is : (u : UnitView) (xs : List Item7) (k : ℕ) (d i : Item7) → 0 < k → k ≤ length xs → get_or xs (k - 1) d ≡ i → standing u (take k xs) ≡ on_item u i (standing u (take (k - 1) xs))
entry_is u xs k d i positive within is =
    let below : k - 1 < length xs = omega arith in
    let next : k - 1 + 1 ≡ k = omega arith in
    ap (λ n. standing u (take n xs)) (sym next)
    ∙ ap (standing u) (take_more xs (k - 1) d below)
    ∙ standing_more u (take (k - 1) xs) (get_or xs (k - 1) d)
    ∙ ap (λ j. on_item u j (standing u (take (k - 1) xs))) is

pub added_none : (items : List Item) → (added items nothing_left).items ≡ items
added_none [] = refl
added_none (i ∷ is) = append-nil (i ∷ is)

pub added_no_object : (items : List Item) → (added items nothing_left).objects ≡ []
added_no_object [] = refl
added_no_object (i ∷ is) = refl

-- the first of some numbers
pub first_number : (from count : ℕ) (ns : List ℕ) → 0 < count → first_of (numbers_from from count ++ ns) ≡ Some from
first_number from zero ns h = absurd (omega arith)
first_number from (suc n) ns h = refl

-- a function more that waits
pub frames_more : (u : UnitView) (fs : List Frame7) (f : Frame7) → reverse (map (frame_view u) (fs ++ f ∷ [])) ≡ frame_view u f ∷ reverse (map (frame_view u) fs)
frames_more u fs f = ap reverse (map-append (frame_view u) fs (f ∷ [])) ∙ reverse-append (map (frame_view u) fs) (frame_view u f ∷ [])

-- whether none waits
entry_by_length : (fs : List Frame) (n : ℕ) → length fs ≡ n → (n == 0) ≡ is_entry fs
entry_by_length [] n e = ap (λ k. k == 0) (sym e)
entry_by_length (f ∷ fs) n e = let above : 0 < n = omega arith in grind (arith, nat_tests)

pub frames_empty : (u : UnitView) (fs : Vec Frame7 Global) → (vec_len fs == 0) ≡ is_entry (reverse (map (frame_view u) fs.items))
frames_empty u fs =
    let long : vec_len fs ≡ length fs.items = grind (arith, common_steps) in
    entry_by_length (reverse (map (frame_view u) fs.items)) (vec_len fs) (length-reverse (map (frame_view u) fs.items) ∙ length-map fs.items (frame_view u) ∙ sym long)
