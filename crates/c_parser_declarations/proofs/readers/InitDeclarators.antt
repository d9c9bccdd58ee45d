-- Declarators with initializers, at file scope and in blocks.
use Rattle.std.proofs.Common.{◌≡◌, ℕ, ◌+◌, ◌≤◌, true, List, [], ◌∷◌, max, refl, sym, subst, ap, ◌∙◌, arith}
use Rattle.cc_base.specs.declared.diagnostics.Place.{Place}
use Rattle.c_layout.specs.DeclarationTrees.{DeclaratorView, FunctionDeclaratorView, InitializerTree, InitDeclaratorView, Object, Initialized, Prototype, SpecTree, spec_trees}
use Rattle.std.specs.List.{list_all}
use Rattle.c_parser_tokens.specs.declared.terminals.Terminal.{Terminal}
use Rattle.c_parser_tokens.specs.declared.terminals.Punctuator.TheVariants as p
use Rattle.c_parser_expression_grammar.specs.Fronts.{first_place, IsSign}
use Rattle.c_parser_expression_grammar.specs.TypeNames.{Stars}
use Rattle.c_parser_declarations.specs.Grammar.Declarations.{IsDeclared, IsInitialized, bare, init_height, local_init_height, IsLocalDeclarator, LocalDeclarators, is_local_word}
use Rattle.c_parser_declarations.specs.Grammar.Declarators.{declarator_height}
use Rattle.c_parser_declarations.specs.Grammar.Findings.{FoundSpec, FoundListed, FoundNamed, FoundNamedBehind, FoundFunctionBehind, FoundInitializer, FoundBareBehind, FoundBare, FoundAssigned, FoundLocalTail, FoundTail, FoundLocalDeclarator, FoundLocalDeclarators, FoundLocal}
use Rattle.c_parser_declarations.specs.Grammar.Initializers.{initializer_height}
use Rattle.c_parser_declarations.specs.Grammar.Lists.{Listed}
use Rattle.c_parser_declarations.specs.Grammar.Specifiers.{spec_height}

pub object : {known : List (List ℕ)} {budget : ℕ} {stars : List ℕ} (d : DeclaratorView) {h : ℕ} {ts rest : List Terminal} →
    FoundNamedBehind known budget stars d h ts rest → FoundBareBehind known budget stars (Object d) h ts rest
object {known} {budget} {stars} d {h} {ts} {rest} found = record {
  goes = λ (start : List Terminal) (s : Stars stars start ts). record { derives = found.goes start s; named = found.named };
  alone = refl;
  height = found.height;
  within = found.within;
}

pub whole : {known : List (List ℕ)} {budget : ℕ} {stars : List ℕ} {d : InitDeclaratorView} {h : ℕ} {ts a rest : List Terminal} →
    Stars stars ts a → FoundBareBehind known budget stars d h a rest → FoundBare known budget d h ts rest
whole {known} {budget} {stars} {d} {h} {ts} {a} {rest} s found = record { derives = found.goes ts s; alone = found.alone; height = found.height; within = found.within }

-- ---- with initializers

pub assigned : {known : List (List ℕ)} {budget j h low : ℕ} {at : Place} (d : DeclaratorView) (i : InitializerTree) {ts a rest : List Terminal} →
    at ≡ first_place ts → IsSign p.Assign ts a → FoundInitializer known budget i j a rest → h ≡ max low j → FoundAssigned known budget d low (Initialized d at i) h ts rest
assigned {known} {budget} {j} {h} {low} {at} d i {ts} {a} {rest} place sign found h-is = record {
  equals = at;
  value = i;
  is = refl;
  initializer = (place, a, sign, found.derives);
  height = h-is ∙ ap (λ (n : ℕ). max low n) found.height;
  within = λ (b : low ≤ budget). omega (arith, h-is, found.within, b);
}

-- what derives the declarator alone derives it before its initializer
of_bare : (i : InitDeclaratorView) (known : List (List ℕ)) (ts rest : List Terminal) → IsDeclared known (bare i) ts rest → IsDeclared known i ts rest
of_bare (Object d) known ts rest derives = derives
of_bare (Initialized d equals i) known ts rest derives = derives
of_bare (Prototype f) known ts rest derives = derives

pub joined : (i before : InitDeclaratorView) (known : List (List ℕ)) (ts rest : List Terminal) → bare i ≡ before → IsDeclared known before ts rest → IsDeclared known i ts rest
joined i before known ts rest alone derives = of_bare i known ts rest (subst (λ (d : InitDeclaratorView). IsDeclared known d ts rest) (sym alone) derives)

pub local : {known : List (List ℕ)} {budget b c g h j : ℕ} {at : Place} (ws : List SpecTree) (ds : List InitDeclaratorView) {ts a rest : List Terminal} →
    at ≡ first_place ts → FoundSpec known b (spec_trees ws) g ts a → list_all is_local_word ws ≡ true → FoundLocalDeclarators known c ds j a rest → h ≡ max g j + 1 → h ≤ budget →
    FoundLocal known budget (record { at = at; words = ws; declarators = ds }) h ts rest
local {known} {budget} {b} {c} {g} {h} {j} {at} ws ds {ts} {a} {rest} place spec are-local found h-is within = record {
  derives = record { behind = a; last = found.last; place = place; spec = spec.derives; local = are-local; declarators = found.derive; ends = found.ends };
  height = h-is ∙ (ap (λ (n : ℕ). max n j + 1) spec.height ∙ ap (λ (n : ℕ). max (spec_height (spec_trees ws)) n + 1) found.high_is);
  within = within;
}
