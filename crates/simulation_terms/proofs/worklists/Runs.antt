-- Works and their items, one after the other.
use Rattle.std.proofs.Common.{◌≡◌, ◌<◌, ◌≤◌, ℕ, suc, ◌+◌, ◌-◌, ◌^◌, true, false, List, [], ◌∷◌, ◌++◌, length, Some, slice_get, refl, arith, ap, sym, subst, ◌∙◌, append_assoc, length-append}
use Rattle.std.proofs.lemmas.List.{append-nil, get_or_append_left}
use Rattle.std.proofs.lemmas.Option.{slice_get-get_or, slice_get_within, get_or_from_slice_get}
use Rattle.std.proofs.Math.Seq.{get_or-append_seam}
use Rattle.cc_base.specs.declared.diagnostics.Place.{Place}
use Rattle.lower_templates.specs.Worklist.Acts.{Act}
use Rattle.lower_templates.specs.Worklist.Pieces.{NameView, PieceView}
use Rattle.lower_templates.specs.Worklist.Plans.{Plan, with_work}
use Rattle.lower_templates.specs.Worklist.Settings.{SettingView}
use Rattle.lower_templates.specs.Worklist.Works as jobs
use Rattle.lower_templates.specs.Worklist.Works.{Job, behind}
use Rattle.lower_functions.specs.Functions.Turns.{planless}
use Rattle.lower_template_theorems.specs.Worklists.Derivations.{is_piece, parts, Makes, nothing, piece, work}
use Rattle.lower_template_theorems.proofs.worklists.Derivations.{parted}
use Rattle.lower_template_theorems.specs.Growth.Growth.{Grows}
use Rattle.lower_template_theorems.proofs.growth.GrowingWorks.{grows, jobs_none}
use Rattle.semantics.specs.SourceMachine.Items as item
use Rattle.semantics.specs.SourceMachine.Items.{Item}
use Rattle.semantics.specs.SourceMachine.Operations.{Operation}
use Rattle.simulation_terms.specs.Instructions.Acts.{IsAct}
use Rattle.simulation_terms.specs.SimulationRelation.Activations.{Activation}
use Rattle.simulation_terms.specs.SimulationRelation.Simulates.{Names, Simulates, at_place}
use Rattle.simulation_terms.proofs.simulation_relation.Constructions.{gives_step, gives_drop}
use Rattle.simulation_terms.specs.Worklists.TemplateParts.{IsKnown, Stands}

-- ---- numbers of temporaries

pub next_temp : (d : ℕ) → d + 1 ≤ 2 ^ 32 - 1 → suc d ≡ behind d 1
next_temp d le = omega (arith, le)

pub second_temp : (d : ℕ) → d + 2 ≤ 2 ^ 32 - 1 → suc (suc d) ≡ behind d 2
second_temp d le = omega (arith, le)

-- ---- names

kept_there : (xs ys : List NameView) (i : ℕ) (x : NameView) → slice_get xs i ≡ Some x → slice_get (xs ++ ys) i ≡ Some x
kept_there xs ys i x e =
    let inside = slice_get_within xs i x e in
    let more = length-append xs ys in
    let within : i < length (xs ++ ys) = omega (arith, inside, more) in
    slice_get-get_or (xs ++ ys) i x within ∙ ap Some (get_or_append_left xs ys x i inside ∙ get_or_from_slice_get xs i x x e)

pub known_before : (t : Activation) (p r : Plan) → Grows p r → IsKnown t r → IsKnown t p
known_before t p r g known = record { names = λ base name e. known.names base name (subst (λ xs. slice_get xs base ≡ Some name) (sym g.names) (kept_there p.names g.more_names base name e)); labels = fewer p.labels r.labels g.labels known.labels }
  where
    fewer : (m n : ℕ) → m ≤ n → n ≤ 2 ^ 32 - 1 → m ≤ 2 ^ 32 - 1
    fewer m n a b = omega (arith, a, b)

pub last_there : (xs : List NameView) (x : NameView) → slice_get (xs ++ x ∷ []) (length xs) ≡ Some x
last_there xs x =
    let more = length-append xs (x ∷ []) in
    let within : length xs < length (xs ++ x ∷ []) = omega (arith, more) in
    slice_get-get_or (xs ++ x ∷ []) (length xs) x within ∙ ap Some (get_or-append_seam xs x [] x)

-- a name in a list of which all names are known
pub known_name : (t : Activation) (p : Plan) (xs : List NameView) (x : NameView) → IsKnown t p → p.names ≡ xs ++ x ∷ [] → Names t (length xs) x
known_name t p xs x known e = known.names (length xs) x (subst (λ ys. slice_get ys (length xs) ≡ Some x) (sym e) (last_there xs x))

-- ---- places in the template

pub stands_behind : (t : Activation) (xs ys : List PieceView) → Stands t (xs ++ ys) → Stands t ys
stands_behind t xs ys stands = record { front = stands.front ++ xs; all = stands.all ∙ sym (append_assoc stands.front xs ys) }

pub stands_after : (t : Activation) (x : PieceView) (ys : List PieceView) → Stands t (x ∷ ys) → Stands t ys
stands_after t x ys stands = stands_behind t (x ∷ []) ys stands

-- ---- plans of some works

pub one_job : (a : Job) (p : Plan) → p.jobs ≡ [] → (with_work a p).jobs ≡ a ∷ []
unfolding with_work
one_job a p none = ap (λ js. js ++ a ∷ []) none

pub two_jobs : (a b : Job) (p : Plan) → p.jobs ≡ [] → (with_work b (with_work a p)).jobs ≡ a ∷ (b ∷ [])
unfolding with_work
two_jobs a b p none = ap (λ js. (js ++ a ∷ []) ++ b ∷ []) none

pub three_jobs : (a b c : Job) (p : Plan) → p.jobs ≡ [] → (with_work c (with_work b (with_work a p))).jobs ≡ a ∷ (b ∷ (c ∷ []))
unfolding with_work
three_jobs a b c p none = ap (λ js. ((js ++ a ∷ []) ++ b ∷ []) ++ c ∷ []) none

module _ (s : SettingView) where
  -- a work gives way to its parts
  pub opened : (p : Plan) (j : Job) (ps : List PieceView) (r : Plan) → is_piece j ≡ false → Makes s p (j ∷ []) ps r → Makes s (planless (parts s j p)) (parts s j p).jobs ps r
  opened p _ _ r other (piece _ q _ qs _ m) = absurd (no other)
    where
      no : true ≡ false → ⊥
      no e = cc
  opened p _ _ r other (work _ j _ ps q _ _ also m (nothing _)) = subst (λ xs. Makes s (planless (parts s j p)) (parts s j p).jobs xs q) (sym (append-nil ps)) m

  -- no works come to no pieces
  pub none_made : (p : Plan) (ps : List PieceView) (r : Plan) → Makes s p [] ps r → ps ≡ []
  none_made _ _ _ (nothing _) = refl

  -- a piece comes first
  pub record Headed (p : Plan) (q : PieceView) (js : List Job) (ps : List PieceView) (r : Plan) : Type 0 where
    pub back : List PieceView
    pub is : ps ≡ q ∷ back
    pub made : Makes s p js back r

  pub headed : (p : Plan) (q : PieceView) (js : List Job) (ps : List PieceView) (r : Plan) → Makes s p (jobs.Ready q ∷ js) ps r → Headed p q js ps r
  headed p q js _ r (piece _ _ _ qs _ m) = record { back = qs; is = refl; made = m }
  headed p q js _ r (work _ _ _ _ _ _ _ other m k) = absurd (no other)
    where
      no : true ≡ false → ⊥
      no e = cc

  module _ (t : Activation) (n : ℕ) where
    -- where works come to pieces, items follow in these, whatever comes behind
    abbrev pub RunsFrom : Plan → List Job → List Item → ℕ → ℕ → Type 0
    RunsFrom p js is d next = (ps : List PieceView) (r : Plan) → Makes s p js ps r → IsKnown t r → (items : List Item) (rest : List PieceView) → Stands t (ps ++ rest) → Simulates t n next items rest → Simulates t n d (is ++ items) (ps ++ rest)

    pub record Runs (js : List Job) (is : List Item) (d next : ℕ) : Type 0 where
      pub from : (p : Plan) → p.jobs ≡ [] → RunsFrom p js is d next

    pub joined : (d : ℕ) (items : List Item) (ps front back rest : List PieceView) → ps ≡ front ++ back → Simulates t n d items (front ++ (back ++ rest)) → Simulates t n d items (ps ++ rest)
    joined d items ps front back rest e f = subst (λ xs. Simulates t n d items (xs ++ rest)) (sym e) (subst (λ xs. Simulates t n d items xs) (sym (append_assoc front back rest)) f)

    pub split : (ps front back rest : List PieceView) → ps ≡ front ++ back → Stands t (ps ++ rest) → Stands t (front ++ (back ++ rest))
    split ps front back rest e stands = subst (Stands t) (append_assoc front back rest) (subst (λ xs. Stands t (xs ++ rest)) e stands)

    -- some works, and then others
    pub then_from : (js ks : List Job) (is hs : List Item) (d middle next : ℕ) (p : Plan) → p.jobs ≡ [] → RunsFrom p js is d middle → Runs ks hs middle next → RunsFrom p (js ++ ks) (is ++ hs) d next
    then_from js ks is hs d middle next p none first second ps r m known items rest stands f =
        let x = parted s p js ks ps r m in
        let here = split ps x.front x.back rest x.all stands in
        let grown = grows s x.between ks x.back r x.second in
        let later = second.from x.between (jobs_none s p js x.front x.between x.first none) x.back r x.second known items rest (stands_behind t x.front (x.back ++ rest) here) f in
        let all = first x.front x.between x.first (known_before t x.between r grown known) (hs ++ items) (x.back ++ rest) here later in
        joined d ((is ++ hs) ++ items) ps x.front x.back rest x.all (subst (λ xs. Simulates t n d xs (x.front ++ (x.back ++ rest))) (sym (append_assoc is hs items)) all)

    pub then : (js ks : List Job) (is hs : List Item) (d middle next : ℕ) → Runs js is d middle → Runs ks hs middle next → Runs (js ++ ks) (is ++ hs) d next
    then js ks is hs d middle next first second = record { from = λ p none. then_from js ks is hs d middle next p none (first.from p none) second }

    -- some works, and then a piece behind which nothing follows here
    pub then_ends : (js : List Job) (is : List Item) (d middle : ℕ) (p : Plan) → p.jobs ≡ [] → RunsFrom p js is d middle → (q : PieceView) (ps : List PieceView) (r : Plan) → Makes s p (js ++ jobs.Ready q ∷ []) ps r → IsKnown t r → (items : List Item) (rest : List PieceView) → Stands t (ps ++ rest)
        → ((w : List PieceView) → Simulates t n middle items (q ∷ w)) → Simulates t n d (is ++ items) (ps ++ rest)
    then_ends js is d middle p none first q ps r m known items rest stands last =
        let x = parted s p js (jobs.Ready q ∷ []) ps r m in
        let y = headed x.between q [] x.back r x.second in
        let here = split ps x.front x.back rest x.all stands in
        let grown = grows s x.between (jobs.Ready q ∷ []) x.back r x.second in
        let later = subst (λ xs. Simulates t n middle items (xs ++ rest)) (sym y.is) (last (y.back ++ rest)) in
        joined d (is ++ items) ps x.front x.back rest x.all (first x.front x.between x.first (known_before t x.between r grown known) items (x.back ++ rest) here later)

    -- one piece
    pub piece_first : (q : PieceView) (is : List Item) (d next : ℕ) → ((items : List Item) (rest : List PieceView) → Simulates t n next items rest → Simulates t n d (is ++ items) (q ∷ rest)) → Runs (jobs.Ready q ∷ []) is d next
    piece_first q is d next gives = record { from = λ p none ps r m known items rest stands f. let x = headed p q [] ps r m in subst (λ xs. Simulates t n d (is ++ items) (xs ++ rest)) (sym (x.is ∙ ap (λ xs. q ∷ xs) (none_made p x.back r x.made))) (gives items rest f) }

    -- one piece, of which is known where it stands
    pub piece_stands : (q : PieceView) (is : List Item) (d next : ℕ) → ((items : List Item) (rest : List PieceView) → Stands t (q ∷ rest) → Simulates t n next items rest → Simulates t n d (is ++ items) (q ∷ rest)) → Runs (jobs.Ready q ∷ []) is d next
    piece_stands q is d next gives = record {
      from = λ p none ps r m known items rest stands f.
          let x = headed p q [] ps r m in
          let alone = x.is ∙ ap (λ xs. q ∷ xs) (none_made p x.back r x.made) in
          subst (λ xs. Simulates t n d (is ++ items) (xs ++ rest)) (sym alone) (gives items rest (subst (λ xs. Stands t (xs ++ rest)) alone stands) f);
    }

    -- an instruction
    pub does : (d next : ℕ) (at : Place) (operation : Operation) (a : Act) → IsAct operation a d next → Runs (jobs.Ready (at_place at a) ∷ []) (item.Do at operation ∷ []) d next
    does d next at operation a is = piece_first (at_place at a) (item.Do at operation ∷ []) d next (λ items rest f. gives_step n d next at operation a items rest is f)

    -- what is given is dropped
    pub dropped : (js : List Job) (is : List Item) (d : ℕ) → Runs js is d (suc d) → Runs js (is ++ item.Drop ∷ []) d d
    dropped js is d runs = record {
      from = λ p none ps r m known items rest stands f.
          subst (λ xs. Simulates t n d xs (ps ++ rest)) (sym (append_assoc is (item.Drop ∷ []) items)) (runs.from p none ps r m known (item.Drop ∷ items) rest stands (gives_drop n d items rest f));
    }

    -- an item gives way to others
    abbrev pub Unfolds : Item → List Item → ℕ → Type 0
    Unfolds i is d = (items : List Item) (ps : List PieceView) → Simulates t n d (is ++ items) ps → Simulates t n d (i ∷ items) ps

    -- and a work to its parts
    pub unfolds : (j : Job) (i : Item) (is : List Item) (d next : ℕ) → is_piece j ≡ false → Unfolds i is d → ((p : Plan) → p.jobs ≡ [] → RunsFrom (planless (parts s j p)) (parts s j p).jobs is d next) → Runs (j ∷ []) (i ∷ []) d next
    unfolds j i is d next other gives inner = record { from = λ p none ps r m known items rest stands f. gives items (ps ++ rest) (inner p none ps r (opened p j ps r other m) known items rest stands f) }

    -- which are the same for each plan
    pub consists : (j : Job) (js : List Job) (i : Item) (is : List Item) (d next : ℕ) → is_piece j ≡ false → Unfolds i is d → ((p : Plan) → p.jobs ≡ [] → (parts s j p).jobs ≡ js) → Runs js is d next → Runs (j ∷ []) (i ∷ []) d next
    consists j js i is d next other gives same runs = unfolds j i is d next other gives (λ p none. subst (λ ks. RunsFrom (planless (parts s j p)) ks is d next) (sym (same p none)) (runs.from (planless (parts s j p)) refl))
