-- What names mean in the scopes that are open: which local objects they may name, and how that changes.
use Rattle.std.proofs.Common.{◌≡◌, ◌≤◌, ◌+◌, ◌-◌, ◌⊎◌, inl, inr, ℕ, Bool, true, false, List, [], ◌∷◌, ◌++◌, length, take, slice_get, Option, Some, None, option_map, Ok, Err, arith, refl, ap, subst, sym, ◌∙◌, append_assoc}
use Rattle.std.specs.Prelude.{cond}
use Rattle.std.proofs.Math.Seq.{take-append_seam}
use Rattle.std.proofs.lemmas.List.{append-nil, length-append}
use Rattle.std.proofs.lemmas.Option.{same_Some}
use Rattle.c_types_scopes.specs.declared.meanings.Meaning.{Meaning}
use Rattle.c_types_scopes.specs.declared.meanings.Meaning.TheVariants as meaning
use Rattle.c_types_scopes.specs.declared.scope_table.NameDeclaration.{NameDeclaration}
use Rattle.c_types_scopes.specs.Names as names
use Rattle.c_types_scopes.specs.Names.{known_in}
use Rattle.c_types_scopes.specs.Refusals.{Ruled}
use Rattle.c_types_scopes.specs.ScopeTables as table
use Rattle.c_types_scopes.specs.ScopeTables.{TableView, newest}
use Rattle.c_types_scopes.specs.States.{State, is_evaluated}
use Rattle.c_types_primary.specs.Primaries.{meaning_of, meaning_by}
use Rattle.c_types_theorems.proofs.entries.Expressing.{HasSteps}
use Rattle.c_types_theorems.proofs.entries.Leading.{Leads}
use Rattle.c_types_theorems.proofs.entries.Specifying.{HasSpecifiers}
use Rattle.c_types_theorems.proofs.units.Kept.{appended_is, front_stays}
use Rattle.semantics.specs.SourceMachine.Scopes.{is_in}
use Rattle.source_preservation.proofs.checks.Truths.{never}
use Rattle.source_items.specs.Returns.EndedObjects.{AreAmong}
use Rattle.c_types_well_formed_units.specs.Scoped.ScopedLaws.{Yields}
use Rattle.c_types_well_formed_units.specs.Scoped.SeenObjects.{AreNew, IsSeen, Sees, SeesAt, FollowsBy, count, Follows, Stays}
use Rattle.c_types_well_formed_units.proofs.scoped.Numbers.{none_new, both_new, in_front, in_back}

seen_more : (had alive : List ℕ) (m : Meaning) → AreAmong had alive → IsSeen had m → IsSeen alive m
seen_more had alive (meaning.Local k) more h = more k h
seen_more had alive (meaning.Static n) more h = tt
seen_more had alive (meaning.Function n) more h = tt
seen_more had alive (meaning.Typedef n) more h = tt
seen_more had alive (meaning.Enumerator v) more h = tt

pub sees_more : (had alive : List ℕ) (entries : List NameDeclaration) (meanings : List Meaning) → AreAmong had alive → Sees had entries meanings → Sees alive entries meanings
sees_more had alive entries meanings more h = record { each = λ i d is. (let m = h.each i d is in (m.0, m.1, seen_more had alive m.0 more m.2)) }

pub sees_meanings : (alive : List ℕ) (entries : List NameDeclaration) (meanings others : List Meaning) → Sees alive entries meanings → Sees alive entries (meanings ++ others)
sees_meanings alive entries meanings others h = record { each = λ i d is. (let m = h.each i d is in (m.0, front_stays meanings others d.meaning m.0 m.1, m.2)) }

-- ---- names that are found

found_lives : (alive : List ℕ) (entries : List NameDeclaration) (meanings : List Meaning) (k : ℕ) → Sees alive entries meanings → (o : Option ℕ) → names.meaning_of meanings (table.meaning_at entries o) ≡ Some (meaning.Local k) → is_in k alive ≡ true
found_lives alive entries meanings k sees None h = absurd (cc)
found_lives alive entries meanings k sees (Some i) h = at_entry (slice_get entries i) refl h
  where
    at_entry : (o : Option NameDeclaration) → slice_get entries i ≡ o → names.meaning_of meanings (option_map table.meaning o) ≡ Some (meaning.Local k) → is_in k alive ≡ true
    at_entry None is e = absurd (cc)
    at_entry (Some d) is e = let m = sees.each i d is in subst (IsSeen alive) (same_Some m.0 (meaning.Local k) (sym m.1 ∙ e)) m.2

-- a name means a local object only if that lives
pub local_lives : (alive : List ℕ) (s : State) (text : List ℕ) (k : ℕ) → SeesAt alive s → meaning_of s text ≡ Some (meaning.Local k) → is_in k alive ≡ true
local_lives alive s text k sees h = by_number (known_in s.scopes.names text) h
  where
    by_number : (o : Option ℕ) → meaning_by s o ≡ Some (meaning.Local k) → is_in k alive ≡ true
    by_number None e = absurd (cc)
    by_number (Some n) e = found_lives alive s.scopes.ordinary.entries s.scopes.meanings k sees (newest s.scopes.ordinary.entries n) e

-- ---- steps in a scope

pub stays_so : (had : TableView) (meant : List Meaning) (few many : ℕ) → few ≤ many → FollowsBy had meant few had meant many []
stays_so had meant few many more = record {
  marks = refl;
  more = [];
  entries = sym (append-nil had.entries);
  others = [];
  meanings = sym (append-nil meant);
  count = more;
  sees = λ alive all h. h;
  news = none_new few many;
}

pub stays_same : (s : State) → Stays s s
stays_same s = stays_so s.scopes.ordinary s.scopes.meanings (count s) (count s) (omega arith)

pub follows_twice : (a b c : TableView) (x y z : List Meaning) (n m k : ℕ) (first second : List ℕ) → FollowsBy a x n b y m first → FollowsBy b y m c z k second → FollowsBy a x n c z k (first ++ second)
follows_twice a b c x y z n m k first second g h = record {
  marks = h.marks ∙ g.marks;
  more = g.more ++ h.more;
  entries = h.entries ∙ (ap (λ l. l ++ h.more) g.entries ∙ append_assoc a.entries g.more h.more);
  others = g.others ++ h.others;
  meanings = h.meanings ∙ (ap (λ l. l ++ h.others) g.meanings ∙ append_assoc x g.others h.others);
  count = (let p = g.count in let q = h.count in omega (arith, p, q));
  sees = λ alive all sees. h.sees alive (λ i is. all i (in_back i first second is)) (g.sees alive (λ i is. all i (in_front i first second is)) sees);
  news = both_new first second n m k g.count h.count g.news h.news;
}

pub follows_stays : (s t u : State) (new : List ℕ) → Follows s t new → Stays t u → Follows s u new
follows_stays s t u new g h = subst (λ n. Follows s u n) (append-nil new) (follows_twice s.scopes.ordinary t.scopes.ordinary u.scopes.ordinary s.scopes.meanings t.scopes.meanings u.scopes.meanings (count s) (count t) (count u) new [] g h)

pub stays_follows : (s t u : State) (new : List ℕ) → Stays s t → Follows t u new → Follows s u new
stays_follows s t u new g h = follows_twice s.scopes.ordinary t.scopes.ordinary u.scopes.ordinary s.scopes.meanings t.scopes.meanings u.scopes.meanings (count s) (count t) (count u) [] new g h

pub stays_twice : (s t u : State) → Stays s t → Stays t u → Stays s u
stays_twice s t u g h = stays_follows s t u [] g h

-- ---- a name more

newest_is : {A : Type 0} (xs : List A) (y : A) → slice_get (xs ++ y ∷ []) (length xs) ≡ Some y
newest_is [] y = refl
newest_is (z ∷ xs) y = newest_is xs y

declaration_seen : (alive : List ℕ) (entries : List NameDeclaration) (meanings : List Meaning) (name : ℕ) (m : Meaning) → IsSeen alive m → Sees alive entries meanings → Sees alive (entries ++ record { name = name; meaning = length meanings } ∷ []) (meanings ++ m ∷ [])
declaration_seen alive entries meanings name m seen h = record { each = λ i d is. by_place i d (appended_is entries (record { name = name; meaning = length meanings }) i d is) }
  where
    by_place : (i : ℕ) (d : NameDeclaration) → (slice_get entries i ≡ Some d) ⊎ ((i ≡ length entries) × (d ≡ record { name = name; meaning = length meanings })) → (x : Meaning) × (slice_get (meanings ++ m ∷ []) d.meaning ≡ Some x) × IsSeen alive x
    by_place i d (inl old) = let x = h.each i d old in (x.0, front_stays meanings (m ∷ []) d.meaning x.0 x.1, x.2)
    by_place i d (inr new) = (m, ap (λ e. slice_get (meanings ++ m ∷ []) e.meaning) new.1 ∙ newest_is meanings m, seen)

-- a name is declared, which may be that of a new object
pub declares : (had : TableView) (meant : List Meaning) (few many name : ℕ) (m : Meaning) (new : List ℕ) → few ≤ many → AreNew new few many → ((alive : List ℕ) → AreAmong new alive → IsSeen alive m)
    → FollowsBy had meant few (table.declared_in had name (length meant)) (meant ++ m ∷ []) many new
declares had meant few many name m new more news seen = record {
  marks = refl;
  more = record { name = name; meaning = length meant } ∷ [];
  entries = refl;
  others = m ∷ [];
  meanings = refl;
  count = more;
  sees = λ alive all h. declaration_seen alive had.entries meant name m (seen alive all) h;
  news = news;
}

-- ---- scopes

last_is : {A : Type 0} (xs : List A) (x : A) → slice_get (xs ++ x ∷ []) (length (xs ++ x ∷ []) - 1) ≡ Some x
last_is xs x = ap (slice_get (xs ++ x ∷ [])) (let l = length-append xs (x ∷ []) in let e : length (xs ++ x ∷ []) - 1 ≡ length xs = omega (arith, l) in e) ∙ newest_is xs x

but_last : {A : Type 0} (xs : List A) (x : A) → take (length (xs ++ x ∷ []) - 1) (xs ++ x ∷ []) ≡ xs
but_last xs x = ap (λ n. take n (xs ++ x ∷ [])) (let l = length-append xs (x ∷ []) in let e : length (xs ++ x ∷ []) - 1 ≡ length xs = omega (arith, l) in e) ∙ take-append_seam xs (x ∷ [])

closed_is : (entries more : List NameDeclaration) (marks : List ℕ) → table.closed (record { entries = entries ++ more; marks = marks ++ length entries ∷ [] }) ≡ record { entries = entries; marks = marks }
closed_is entries more marks =
    ap (table.closed_to (record { entries = entries ++ more; marks = marks ++ length entries ∷ [] })) (last_is marks (length entries))
    ∙ (ap (λ l. let t : TableView = record { entries = l; marks = take (length (marks ++ length entries ∷ []) - 1) (marks ++ length entries ∷ []) } in t) (take-append_seam entries more)
    ∙ ap (λ l. let t : TableView = record { entries = entries; marks = l } in t) (but_last marks (length entries)))

table_is : (had has : TableView) (more : List NameDeclaration) → has.marks ≡ had.marks ++ length had.entries ∷ [] → has.entries ≡ had.entries ++ more → table.closed has ≡ had
table_is had has more marks entries =
    let same : has ≡ record { entries = had.entries ++ more; marks = had.marks ++ length had.entries ∷ [] } = ap (λ l. let t : TableView = record { entries = l; marks = has.marks } in t) entries ∙ ap (λ l. let t : TableView = record { entries = had.entries ++ more; marks = l } in t) marks in
    ap table.closed same ∙ closed_is had.entries more had.marks

-- behind a scope names mean what they meant before it
pub closes : (had : TableView) (meant : List Meaning) (few : ℕ) (has : TableView) (means : List Meaning) (many : ℕ) (new : List ℕ) → FollowsBy (table.opened had) meant few has means many new → FollowsBy had meant few (table.closed has) means many []
closes had meant few has means many new g = subst (λ t. FollowsBy had meant few t means many []) (sym (table_is had has g.more g.marks g.entries)) (record {
  marks = refl;
  more = [];
  entries = sym (append-nil had.entries);
  others = g.others;
  meanings = g.meanings;
  count = g.count;
  sees = λ alive all h. subst (Sees alive had.entries) (sym g.meanings) (sees_meanings alive had.entries meant g.others h);
  news = none_new few many;
})

-- ---- steps of expressions and specifiers

either : (s : State) (b : Bool) (x y : State) → Stays s x → Stays s y → Stays s (cond b x y)
either s true x y g h = g
either s false x y g h = h

pub steps_stay : HasSteps Stays
steps_stay = record {
  same = stays_same;
  trans = stays_twice;
  named = λ s text. stays_same s;
  literal = λ s at bytes. either s (is_evaluated s) _ s (stays_same s) (stays_same s);
  constant = λ s e. stays_same s;
  called = λ s callee at. either s (is_evaluated s) _ s (stays_same s) (stays_same s);
  unevaluated = λ s n. stays_same s;
  tagged = λ s name. stays_same s;
}

pub specifiers_stay : HasSpecifiers Stays
specifiers_stay = record {
  steps = steps_stay;
  tagged = λ s name t. stays_same s;
  enumerated = λ s name value. declares s.scopes.ordinary s.scopes.meanings (count s) (count s) name (meaning.Enumerator value) [] (omega arith) (none_new (count s) (count s)) (λ alive all. tt);
  struct_more = λ s. stays_same s;
  body = λ s owner. stays_same s;
  member = λ s owner name field e. stays_same s;
  completed = λ s t owner p made first laid g. g;
  enumerations = λ s x. stays_same s;
}

-- ---- what a step makes

-- what a step leads to sees the same objects, and what it makes has a property
abbrev pub Gives : {V : Type 0} → List ℕ → (V → Type 0) → Ruled (V × State) → Type 0
Gives alive P (Ok p) = SeesAt alive p.1 × P p.0
Gives alive P (Err f) = Unit {0}

abbrev pub Judged : {V : Type 0} → (V → Type 0) → Ruled V → Type 0
Judged P (Ok v) = P v
Judged P (Err f) = Unit {0}

pub yields : {V : Type 0} (s : State) (P : List ℕ → V → Type 0) (r : Ruled (V × State)) → Leads Stays s r → ((alive : List ℕ) → SeesAt alive s → Gives alive (P alive) r) → Yields s P r
yields s P (Ok p) g h = (g, λ alive sees. (h alive sees).1)
yields s P (Err f) g h = tt

pub stays_sees : (alive : List ℕ) (s t : State) → Stays s t → SeesAt alive s → SeesAt alive t
stays_sees alive s t g sees = g.sees alive (λ k none. never none) sees

pub leads_gives : {V : Type 0} (alive : List ℕ) (s : State) (r : Ruled (V × State)) → Leads Stays s r → SeesAt alive s → Gives alive (λ (v : V). Unit {0}) r
leads_gives alive s (Ok p) g sees = (stays_sees alive s p.1 g sees, tt)
leads_gives alive s (Err f) g sees = tt
