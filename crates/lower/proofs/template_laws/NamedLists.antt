-- Lists of the bases that pieces name.
use Rattle.std.proofs.Common.{◌≡◌, ◌≤◌, ℕ, ◌+◌, List, [], ◌∷◌, ◌++◌, length, get_or, map, Option, refl, arith, ap, sym, subst, ◌∙◌, length-append, append_assoc}
use Rattle.std.proofs.lemmas.List.{map-append, append-nil, get_or_append_left}
use Rattle.std.proofs.Math.Seq.{get_or-append_seam}
use Rattle.c_layout.specs.Types.{Ty}
use Rattle.lower_templates.specs.Worklist.Pieces.{NameView, Outcome, PieceView}
use Rattle.lower_templates.specs.Worklist.Works.{Job}
use Rattle.lower_templates.specs.Worklist.Plans.{Plan, with_work, with_name, with_labels, with_scope, with_dispatch}
use Rattle.lower_templates.specs.declared.worklist.template_builder.Dispatch.{Dispatch}
use Rattle.lower.specs.TemplateLaws.NamedBases.{named_in, named_in_all, AllBelow, site_weight, all_sites, sites_named}
use Rattle.lower.proofs.template_laws.PlainWorks.{shadow}

pub all_append : (xs ys : List PieceView) → named_in_all (xs ++ ys) ≡ named_in_all xs ++ named_in_all ys
all_append [] ys = refl
all_append (x ∷ xs) ys = ap (λ ns. named_in x ++ ns) (all_append xs ys) ∙ sym (append_assoc (named_in x) (named_in_all xs) (named_in_all ys))

pub below_append : (count : ℕ) (xs ys : List ℕ) → AllBelow count xs → AllBelow count ys → AllBelow count (xs ++ ys)
below_append count [] ys a b = b
below_append count (x ∷ xs) ys (one, a) b = (one, below_append count xs ys a b)

pub below_left : (count : ℕ) (xs ys : List ℕ) → AllBelow count (xs ++ ys) → AllBelow count xs
below_left count [] ys a = tt
below_left count (x ∷ xs) ys (one, a) = (one, below_left count xs ys a)

pub below_right : (count : ℕ) (xs ys : List ℕ) → AllBelow count (xs ++ ys) → AllBelow count ys
below_right count [] ys a = a
below_right count (x ∷ xs) ys (one, a) = below_right count xs ys a

pub below_more : (count more : ℕ) (xs : List ℕ) → count ≤ more → AllBelow count xs → AllBelow more xs
below_more count more [] le a = tt
below_more count more (x ∷ xs) le (one, a) = (omega arith, below_more count more xs le a)

pub sites_append : (w : Option Ty → ℕ) (xs ys : List NameView) → all_sites w (xs ++ ys) ≡ all_sites w xs + all_sites w ys
sites_append w [] ys = let e : all_sites w ys ≡ 0 + all_sites w ys = omega arith in e
sites_append w (x ∷ xs) ys = let e = sites_append w xs ys in omega (arith, e)

pub named_append : (w : Option Ty → ℕ) (names : List NameView) (xs ys : List ℕ) → sites_named w names (xs ++ ys) ≡ sites_named w names xs + sites_named w names ys
named_append w names [] ys = let e : sites_named w names ys ≡ 0 + sites_named w names ys = omega arith in e
named_append w names (x ∷ xs) ys = let e = named_append w names xs ys in omega (arith, e)

-- names that come behind change nothing of what is named
pub same_sites : (w : Option Ty → ℕ) (names more : List NameView) (ns : List ℕ) → AllBelow (length names) ns → sites_named w (names ++ more) ns ≡ sites_named w names ns
same_sites w names more [] below = refl
same_sites w names more (n ∷ ns) (one, below) =
    let here : get_or (names ++ more) n Outcome ≡ get_or names n Outcome = get_or_append_left names more Outcome n one in
    ap (λ x. site_weight w x + sites_named w (names ++ more) ns) here ∙ ap (λ k. site_weight w (get_or names n Outcome) + k) (same_sites w names more ns below)

-- bases that are no sites
pub record IsKnown (w : Option Ty → ℕ) (names : List NameView) (ns : List ℕ) : Type 0 where
  pub below : AllBelow (length names) ns
  pub sites : sites_named w names ns ≡ 0

pub known_none : (w : Option Ty → ℕ) (names : List NameView) → IsKnown w names []
known_none w names = record { below = tt; sites = refl }

pub known_append : (w : Option Ty → ℕ) (names : List NameView) (xs ys : List ℕ) → IsKnown w names xs → IsKnown w names ys → IsKnown w names (xs ++ ys)
known_append w names xs ys a b = record {
  below = below_append (length names) xs ys a.below b.below;
  sites = named_append w names xs ys ∙ both (sites_named w names xs) (sites_named w names ys) a.sites b.sites;
}
  where
    both : (m n : ℕ) → m ≡ 0 → n ≡ 0 → m + n ≡ 0
    both m n p q = omega arith

more_names : (names more : List NameView) → length names ≤ length (names ++ more)
more_names names more = let e = length-append names more in omega (arith, e)

pub known_more : (w : Option Ty → ℕ) (names more : List NameView) (ns : List ℕ) → IsKnown w names ns → IsKnown w (names ++ more) ns
known_more w names more ns k = record { below = below_more (length names) (length (names ++ more)) ns (more_names names more) k.below; sites = same_sites w names more ns k.below ∙ k.sites }

-- the last name
last_below : (names : List NameView) (x : NameView) → AllBelow (length (names ++ x ∷ [])) (length names ∷ [])
last_below names x = let e = length-append names (x ∷ []) in (omega (arith, e), tt)

last_site : (w : Option Ty → ℕ) (names : List NameView) (x : NameView) → sites_named w (names ++ x ∷ []) (length names ∷ []) ≡ site_weight w x + 0
last_site w names x = let here : get_or (names ++ x ∷ []) (length names) Outcome ≡ x = get_or-append_seam names x [] Outcome in ap (λ y. site_weight w y + 0) here

pub known_last : (w : Option Ty → ℕ) (names : List NameView) (x : NameView) → site_weight w x ≡ 0 → IsKnown w (names ++ x ∷ []) (length names ∷ [])
known_last w names x none = record { below = last_below names x; sites = last_site w names x ∙ ap (λ k. k + 0) none }

abbrev pub named_in_jobs : List Job → List ℕ
named_in_jobs js = named_in_all (map shadow js)

-- what is planned names what is there, and each site that was named anew once
pub record Balanced (w : Option Ty → ℕ) (old : List NameView) (p : Plan) : Type 0 where
  pub grown : List NameView
  pub grows : p.names ≡ old ++ grown
  pub below : AllBelow (length p.names) (named_in_jobs p.jobs)
  pub sites : sites_named w p.names (named_in_jobs p.jobs) ≡ all_sites w grown

one_job : (js : List Job) (j : Job) → named_in_jobs (js ++ j ∷ []) ≡ named_in_jobs js ++ named_in (shadow j)
one_job js j = ap named_in_all (map-append shadow js (j ∷ [])) ∙ all_append (map shadow js) (shadow j ∷ []) ∙ ap (λ ns. named_in_jobs js ++ ns) (append-nil (named_in (shadow j)))

nothing_more : (m n k : ℕ) → m ≡ k → n ≡ 0 → m + n ≡ k
nothing_more m n k p q = omega arith

pub bal_known : {w : Option Ty → ℕ} {old : List NameView} (j : Job) (p : Plan) → IsKnown w p.names (named_in (shadow j)) → Balanced w old p → Balanced w old (with_work j p)
unfolding with_work
bal_known {w = w} j p known b =
    let all = sym (one_job p.jobs j) in
    record {
      grown = b.grown;
      grows = b.grows;
      below = subst (AllBelow (length p.names)) all (below_append (length p.names) (named_in_jobs p.jobs) (named_in (shadow j)) b.below known.below);
      sites = ap (sites_named w p.names) (sym all) ∙ named_append w p.names (named_in_jobs p.jobs) (named_in (shadow j)) ∙ nothing_more _ _ _ b.sites known.sites;
    }

pub bal_silent : {w : Option Ty → ℕ} {old : List NameView} (j : Job) (p : Plan) → named_in (shadow j) ≡ [] → Balanced w old p → Balanced w old (with_work j p)
bal_silent {w = w} j p none b = bal_known j p (subst (IsKnown w p.names) (sym none) (known_none w p.names)) b

pub bal_name : {w : Option Ty → ℕ} {old : List NameView} (x : NameView) (p : Plan) → site_weight w x ≡ 0 → Balanced w old p → Balanced w old (with_name x p)
unfolding with_name
bal_name {w = w} {old = old} x p none b = record {
  grown = b.grown ++ x ∷ [];
  grows = ap (λ ns. ns ++ x ∷ []) b.grows ∙ append_assoc old b.grown (x ∷ []);
  below = below_more (length p.names) (length (p.names ++ x ∷ [])) (named_in_jobs p.jobs) (more_names p.names (x ∷ [])) b.below;
  sites = same_sites w p.names (x ∷ []) (named_in_jobs p.jobs) b.below ∙ b.sites ∙ sym (sites_append w b.grown (x ∷ []) ∙ nothing_more (all_sites w b.grown) _ _ refl (ap (λ k. k + 0) none));
}

-- a base that is named anew, and a work that names it
pub bal_fresh : {w : Option Ty → ℕ} {old : List NameView} (x : NameView) (j : Job) (p : Plan) → named_in (shadow j) ≡ length p.names ∷ [] → Balanced w old p → Balanced w old (with_work j (with_name x p))
unfolding with_work with_name
bal_fresh {w = w} {old = old} x j p is b =
    let names = p.names ++ x ∷ [] in
    let all = one_job p.jobs j ∙ ap (λ ns. named_in_jobs p.jobs ++ ns) is in
    let before = below_more (length p.names) (length names) (named_in_jobs p.jobs) (more_names p.names (x ∷ [])) b.below in
    record {
      grown = b.grown ++ x ∷ [];
      grows = ap (λ ns. ns ++ x ∷ []) b.grows ∙ append_assoc old b.grown (x ∷ []);
      below = subst (AllBelow (length names)) (sym all) (below_append (length names) (named_in_jobs p.jobs) (length p.names ∷ []) before (last_below p.names x));
      sites = ap (sites_named w names) all
          ∙ named_append w names (named_in_jobs p.jobs) (length p.names ∷ [])
          ∙ sum _ _ _ _ (same_sites w p.names (x ∷ []) (named_in_jobs p.jobs) b.below ∙ b.sites) (last_site w p.names x)
          ∙ sym (sites_append w b.grown (x ∷ []));
    }
  where
    sum : (a b c d : ℕ) → a ≡ c → b ≡ d → a + b ≡ c + d
    sum a b c d p q = omega arith

pub bal_labels : {w : Option Ty → ℕ} {old : List NameView} (count : ℕ) (p : Plan) → Balanced w old p → Balanced w old (with_labels count p)
unfolding with_labels
bal_labels count p b = record { grown = b.grown; grows = b.grows; below = b.below; sites = b.sites }

pub bal_scope : {w : Option Ty → ℕ} {old : List NameView} (p : Plan) → Balanced w old p → Balanced w old (with_scope p)
unfolding with_scope
bal_scope p b = record { grown = b.grown; grows = b.grows; below = b.below; sites = b.sites }

pub bal_dispatch : {w : Option Ty → ℕ} {old : List NameView} (d : Dispatch) (p : Plan) → Balanced w old p → Balanced w old (with_dispatch d p)
unfolding with_dispatch
bal_dispatch d p b = record { grown = b.grown; grows = b.grows; below = b.below; sites = b.sites }

-- what is known stays so, whatever is planned
pub known_name : {w : Option Ty → ℕ} (x : NameView) (ns : List ℕ) (p : Plan) → IsKnown w p.names ns → IsKnown w (with_name x p).names ns
unfolding with_name
known_name {w = w} x ns p k = known_more w p.names (x ∷ []) ns k

pub known_fresh : {w : Option Ty → ℕ} (x : NameView) (p : Plan) → site_weight w x ≡ 0 → IsKnown w (with_name x p).names (length p.names ∷ [])
unfolding with_name
known_fresh {w = w} x p none = known_last w p.names x none

pub known_work : {w : Option Ty → ℕ} (j : Job) (ns : List ℕ) (p : Plan) → IsKnown w p.names ns → IsKnown w (with_work j p).names ns
unfolding with_work
known_work j ns p k = k
