-- External declarations, over what was found for their parts.
use Rattle.std.proofs.Common.{◌≡◌, ℕ, ◌+◌, ◌≤◌, Bool, true, false, List, [], ◌∷◌, ◌++◌, max, refl, sym, subst, ap, ◌∙◌, arith}
use Rattle.cc_base.specs.declared.diagnostics.Place.{Place}
use Rattle.c_layout.specs.DeclarationTrees.{InitDeclaratorView, Object, Initialized, Prototype, FunctionDeclaratorView, SpecTree, spec_trees, StatementTree, statement_trees, ExternalTree, Declared, Defined}
use Rattle.c_parser_tokens.specs.declared.terminals.Terminal.{Terminal}
use Rattle.c_parser_tokens.specs.declared.terminals.Punctuator.TheVariants as p
use Rattle.c_parser_expression_grammar.specs.Fronts.{first_place, IsSign}
use Rattle.c_parser_declarations.specs.Grammar.Declarations.{IsDeclared, IsInitialized, bare, name_of, init_height, function_height}
use Rattle.c_parser_declarations.specs.Grammar.Findings.{FoundSpec, FoundBare, FoundTail}
use Rattle.c_parser_declarations.specs.Grammar.Lists.{highest}
use Rattle.c_parser_declarations.specs.Grammar.Specifiers.{IsSpec, spec_height}
use Rattle.c_parser_declarations.specs.Grammar.StorageClasses.{is_typedef}
use Rattle.c_parser_declarations.proofs.readers.InitDeclarators as lower
use Rattle.c_parser.specs.Externals.{with_name, with_declared, with_all, IsFileDeclarator, Further, IsExternal, external_height}
use Rattle.c_parser.specs.Findings.{FoundBlock, FoundFurther, FoundLast, Begins, FoundBehind, FoundNamed, FoundExternal}
use Rattle.c_parser.specs.Statements.{IsBlock}

-- ---- names

bare_name : (d : InitDeclaratorView) → name_of (bare d) ≡ name_of d
bare_name (Object d) = refl
bare_name (Initialized d equals i) = refl
bare_name (Prototype f) = refl

by_name : (gives : Bool) (known : List (List ℕ)) (d e : InitDeclaratorView) → name_of d ≡ name_of e → with_declared gives known d ≡ with_declared gives known e
by_name true known d e same = ap (with_name known) same
by_name false known d e same = refl

-- an initializer changes no name
pub same_names : (gives : Bool) (known : List (List ℕ)) (d before : InitDeclaratorView) → bare d ≡ before → with_declared gives known d ≡ with_declared gives known before
same_names gives known d before alone = by_name gives known d before (sym (bare_name d) ∙ ap name_of alone)

-- ---- declarators

-- a declarator and its initializer are a declarator with its initializer
joined : (gives : Bool) (known inside : List (List ℕ)) (d before : InitDeclaratorView) (ts a rest : List Terminal) →
    inside ≡ with_declared gives known before → bare d ≡ before → IsDeclared known before ts a → IsInitialized inside d a rest → IsFileDeclarator gives known d ts rest
joined gives known inside d before ts a rest inside-is alone declared initialized = record {
  behind = a;
  declarator = lower.joined d before known ts a alone declared;
  initializer = subst (λ (names : List (List ℕ)). IsInitialized names d a rest) (inside-is ∙ sym (same_names gives known d before alone)) initialized;
}

further_more : (gives : Bool) (ds : List InitDeclaratorView) (d : InitDeclaratorView) (known : List (List ℕ)) (ts a b rest : List Terminal) →
    Further gives ds known ts a → IsSign p.Comma a b → IsFileDeclarator gives (with_all gives known ds) d b rest → Further gives (ds ++ (d ∷ [])) known ts rest
further_more gives [] d known ts a b rest so comma one = (b, rest, subst (λ (at : List Terminal). IsSign p.Comma at b) so comma, one, refl)
further_more gives (e ∷ es) d known ts a b rest so comma one = (so.0, so.1, so.2, so.3, further_more gives es d (with_declared gives known e) so.1 a b rest so.4 comma one)

all_more : (gives : Bool) (ds : List InitDeclaratorView) (d : InitDeclaratorView) (known : List (List ℕ)) → with_all gives known (ds ++ (d ∷ [])) ≡ with_declared gives (with_all gives known ds) d
all_more gives [] d known = refl
all_more gives (e ∷ es) d known = all_more gives es d (with_declared gives known e)

high_more : (ds : List InitDeclaratorView) (d : InitDeclaratorView) → highest init_height (ds ++ (d ∷ [])) ≡ max (highest init_height ds) (init_height d)
high_more [] d = omega arith
high_more (e ∷ es) d = let inner : highest init_height (es ++ (d ∷ [])) ≡ max (highest init_height es) (init_height d) = high_more es d in omega (arith, inner)

append_one : (before more : List InitDeclaratorView) (d : InitDeclaratorView) → (before ++ more) ++ (d ∷ []) ≡ before ++ (more ++ (d ∷ []))
append_one [] more d = refl
append_one (e ∷ es) more d = ap (λ (ds : List InitDeclaratorView). e ∷ ds) (append_one es more d)

pub one_further : {gives : Bool} {known inside behind : List (List ℕ)} {budget g h j low : ℕ} {before all next : List InitDeclaratorView} {d first : InitDeclaratorView} {ts a b c rest : List Terminal} →
    FoundFurther gives known inside budget before all g ts a → IsSign p.Comma a b → FoundBare inside budget first low b c → behind ≡ with_declared gives inside first →
    FoundTail behind budget first low d j c rest → next ≡ all ++ (d ∷ []) → h ≡ max g j → FoundFurther gives known behind budget before next h ts rest
one_further {gives} {known} {inside} {behind} {budget} {g} {h} {j} {low} {before} {all} {next} {d} {first} {ts} {a} {b} {c} {rest} so comma start behind-is tail next-is h-is =
    let alone : bare d ≡ first = tail.alone start.alone in
    let one : IsFileDeclarator gives inside d b rest = joined gives inside behind d first b c rest behind-is alone start.derives (tail.initializer start.alone) in
    let high : j ≡ init_height d = tail.height start.height in
    let low-enough : j ≤ budget = tail.within start.within in
    record {
      more = so.more ++ (d ∷ []);
      all_is = next-is ∙ (ap (λ (ds : List InitDeclaratorView). ds ++ (d ∷ [])) so.all_is ∙ append_one before so.more d);
      derive = further_more gives so.more d known ts a b rest so.derive comma (subst (λ (names : List (List ℕ)). IsFileDeclarator gives names d b rest) so.names one);
      names = behind-is ∙ (sym (same_names gives inside d first alone) ∙ (ap (λ (names : List (List ℕ)). with_declared gives names d) so.names ∙ sym (all_more gives so.more d known)));
      height = h-is ∙ (ap (λ (n : ℕ). max n j) so.height ∙ (ap (λ (n : ℕ). max (highest init_height so.more) n) high ∙ sym (high_more so.more d)));
      within = omega (arith, h-is, so.within, low-enough);
    }

-- ---- external declarations

three : (f g m x y z : ℕ) → f ≡ x → g ≡ y → m ≡ z → max (max f g) m + 1 ≡ max x (max y z) + 1
three f g m x y z f-is g-is m-is = omega (arith, f-is, g-is, m-is)

pub declared : {known behind : List (List ℕ)} {budget c g h j m low : ℕ} {at : Place} (words : List SpecTree) {d first : InitDeclaratorView} {before all : List InitDeclaratorView} {ts a rest : List Terminal} →
    FoundTail known c first low d j ts a → before ≡ d ∷ [] → FoundLast (is_typedef words) known behind c before all m a rest → h ≡ max (max g j) m + 1 → h ≤ budget →
    FoundBehind known behind budget at words g first low (Declared at words all) h ts rest
declared {known} {behind} {budget} {c} {g} {h} {j} {m} {low} {at} words {d} {first} {before} {all} {ts} {a} {rest} tail before-is last h-is within =
    let gives : Bool = is_typedef words in
    let more : List InitDeclaratorView = last.further.more in
    let all-is : all ≡ d ∷ more = last.further.all_is ∙ ap (λ (ds : List InitDeclaratorView). ds ++ more) before-is in
    record {
      goes = λ (outer : List (List ℕ)) (start : List Terminal) (b : Begins outer known at words first start ts).
          let alone : bare d ≡ first = tail.alone b.alone in
          let names : known ≡ with_declared gives outer d = b.names ∙ sym (same_names gives outer d first alone) in
          let one : IsFileDeclarator gives outer d b.behind a = joined gives outer known d first b.behind ts a b.names alone b.declarator (tail.initializer b.alone) in
          let others : Further gives more (with_declared gives outer d) a last.last = subst (λ (ns : List (List ℕ)). Further gives more ns a last.last) names last.further.derive in
          subst (λ (ds : List InitDeclaratorView). IsExternal outer (Declared at words ds) start rest) (sym all-is)
          (b.place, b.behind, last.last, b.spec, (a, one, others), last.ends);
      names = λ (outer : List (List ℕ)) (start : List Terminal) (b : Begins outer known at words first start ts).
          let alone : bare d ≡ first = tail.alone b.alone in
          let names : known ≡ with_declared gives outer d = b.names ∙ sym (same_names gives outer d first alone) in
          last.further.names ∙ (ap (λ (ns : List (List ℕ)). with_all gives ns more) names ∙ ap (λ (ds : List InitDeclaratorView). with_all gives outer ds) (sym all-is));
      height = λ (least-is : g ≡ spec_height (spec_trees words)) (low-is : low ≡ init_height first).
          h-is ∙ (three g j m (spec_height (spec_trees words)) (init_height d) (highest init_height more) least-is (tail.height low-is) last.further.height
          ∙ ap (λ (ds : List InitDeclaratorView). external_height (Declared at words ds)) (sym all-is));
      within = within;
    }

pub defined : {known : List (List ℕ)} {budget c g h j low : ℕ} {at : Place} (words : List SpecTree) {f : FunctionDeclaratorView} {first : InitDeclaratorView} (body : List StatementTree) {ts rest : List Terminal} →
    first ≡ Prototype f → FoundBlock known c body j ts rest → h ≡ max (max g low) j + 1 → h ≤ budget → FoundBehind known known budget at words g first low (Defined at words f body) h ts rest
defined {known} {budget} {c} {g} {h} {j} {low} {at} words {f} {first} body {ts} {rest} first-is found h-is within =
    let gives : Bool = is_typedef words in
    rw first-is (record {
      goes = λ (outer : List (List ℕ)) (start : List Terminal) (b : Begins outer known at words (Prototype f) start ts).
          (b.place, b.behind, ts, b.spec, b.declarator, subst (λ (ns : List (List ℕ)). IsBlock ns (statement_trees body) ts rest) b.names found.block);
      names = λ (outer : List (List ℕ)) (start : List Terminal) (b : Begins outer known at words (Prototype f) start ts). b.names;
      height = λ (least-is : g ≡ spec_height (spec_trees words)) (low-is : low ≡ function_height f).
          h-is ∙ (ap (λ (n : ℕ). max (max n low) j + 1) least-is ∙ (ap (λ (n : ℕ). max (max (spec_height (spec_trees words)) n) j + 1) low-is
          ∙ ap (λ (n : ℕ). max (max (spec_height (spec_trees words)) (function_height f)) n + 1) found.height));
      within = within;
    })

pub named : {known inside behind : List (List ℕ)} {budget c g h low : ℕ} {at : Place} (words : List SpecTree) {first : InitDeclaratorView} {e : ExternalTree} {ts a rest : List Terminal} →
    FoundBare known c first low ts a → inside ≡ with_declared (is_typedef words) known first → FoundBehind inside behind budget at words g first low e h a rest →
    FoundNamed known behind budget at words g e h ts rest
named {known} {inside} {behind} {budget} {c} {g} {h} {low} {at} words {first} {e} {ts} {a} {rest} start inside-is found =
    let begins : (front : List Terminal) → at ≡ first_place front → IsSpec known (spec_trees words) front ts → Begins known inside at words first front a =
    λ (front : List Terminal) (place : at ≡ first_place front) (spec : IsSpec known (spec_trees words) front ts).
    record { behind = ts; place = place; spec = spec; declarator = start.derives; alone = start.alone; names = inside-is } in
    record {
      goes = λ (front : List Terminal) (place : at ≡ first_place front) (spec : IsSpec known (spec_trees words) front ts). found.goes known front (begins front place spec);
      names = λ (front : List Terminal) (place : at ≡ first_place front) (spec : IsSpec known (spec_trees words) front ts). found.names known front (begins front place spec);
      height = λ (least-is : g ≡ spec_height (spec_trees words)). found.height least-is start.height;
      within = found.within;
    }

pub whole : {known behind : List (List ℕ)} {budget c g h : ℕ} {at : Place} (words : List SpecTree) {e : ExternalTree} {ts a rest : List Terminal} →
    at ≡ first_place ts → FoundSpec known c (spec_trees words) g ts a → FoundNamed known behind budget at words g e h a rest → FoundExternal known behind budget e h ts rest
whole {known} {behind} {budget} {c} {g} {h} {at} words {e} {ts} {a} {rest} place spec found =
    record { derives = found.goes ts place spec.derives; names = found.names ts place spec.derives; height = found.height spec.height; within = found.within }
