-- Words of specifiers and members of structures, read one after another.
use Rattle.std.proofs.Common.{◌≡◌, ℕ, suc, ◌+◌, ◌≤◌, ◌==◌, true, cond, List, [], ◌∷◌, ◌++◌, length, max, Option, is_some, refl, sym, subst, ap, ◌∙◌, arith}
use native.Mathlib.Numerals.{unary_clauses}
use Rattle.std.proofs.lemmas.Grind.{common_steps}
use Rattle.cc_base.specs.declared.diagnostics.Place.{Place}
use Rattle.c_layout.specs.DeclarationTrees.{NameView, DeclaratorView, SpecTree, SpecTrees, MemberTree, StorageWord, Qualifier, TypeOf, StructTag, StructBody, EnumTag, EnumBody, TypedefName, Members, spec_trees, member_trees}
use Rattle.c_parser_tokens.specs.declared.terminals.Terminal.{Terminal}
use Rattle.c_parser_tokens.specs.declared.terminals.Keyword.TheVariants as k
use Rattle.c_parser_tokens.specs.declared.terminals.Punctuator.TheVariants as p
use Rattle.c_parser_expression_grammar.specs.declared.specifier_words.SpecifierCounts.{SpecifierCounts}
use Rattle.c_parser_expression_grammar.specs.Fronts.{first_place, IsSign, IsWord}
use Rattle.c_parser_expression_grammar.specs.TypeNames.{is_one_type, no_words}
use Rattle.c_parser_declarations.specs.Grammar.Declarators.{declarator_height}
use Rattle.c_parser_declarations.specs.Grammar.Findings.{FoundWord, FoundWords, FoundSpec, FoundMember, FoundChain, FoundMembers, FoundListed, PlainWord}
use Rattle.c_parser_declarations.specs.Grammar.Specifiers.{Tag, IsNamed, DeriveWord, DeriveWords, DeriveMember, DeriveMembers, has_member, counted, counts_after, listed_height, word_height, words_height, member_height, members_height, spec_height}

pub plain_found : (w : SpecTree) (known : List (List ℕ)) (budget : ℕ) (ts rest : List Terminal) → PlainWord w ts rest → FoundWord known budget w 0 ts rest
plain_found (StorageWord at class) known budget ts rest d = record { derives = d; height = refl; within = omega arith }
plain_found (Qualifier at) known budget ts rest d = record { derives = d; height = refl; within = omega arith }
plain_found (TypeOf at named) known budget ts rest d = record { derives = d; height = refl; within = omega arith }
plain_found (StructTag at tag) known budget ts rest d = absurd d
plain_found (StructBody at tag ms) known budget ts rest d = absurd d
plain_found (EnumTag at tag) known budget ts rest d = absurd d
plain_found (EnumBody at tag es) known budget ts rest d = absurd d
plain_found (TypedefName n) known budget ts rest d = absurd d

words_more : (ws : List SpecTree) (w : SpecTree) (known : List (List ℕ)) (ts a b : List Terminal) → DeriveWords (spec_trees ws) known ts a → DeriveWord w known a b → DeriveWords (spec_trees (ws ++ (w ∷ []))) known ts b
words_more [] w known ts a b d one = (b, subst (λ (start : List Terminal). DeriveWord w known start b) d one, refl)
words_more (v ∷ vs) w known ts a b d one = (d.0, d.1, words_more vs w known d.0 a b d.2 one)

counts_more : (ws : List SpecTree) (w : SpecTree) (c : SpecifierCounts) → counts_after (spec_trees (ws ++ (w ∷ []))) c ≡ counted (counts_after (spec_trees ws) c) w
counts_more [] w c = refl
counts_more (v ∷ vs) w c = counts_more vs w (counted c v)

high_more : (ws : List SpecTree) (w : SpecTree) → words_height (spec_trees (ws ++ (w ∷ []))) ≡ max (words_height (spec_trees ws)) (word_height w)
high_more [] w = omega arith
high_more (v ∷ vs) w = let inner : words_height (spec_trees (vs ++ (w ∷ []))) ≡ max (words_height (spec_trees vs)) (word_height w) = high_more vs w in omega (arith, inner)

pub one_word : {known : List (List ℕ)} {budget g h k : ℕ} {ws vs : List SpecTree} {w : SpecTree} {c d : SpecifierCounts} {ts a rest : List Terminal} →
    FoundWords known budget ws c g ts a → FoundWord known budget w k a rest → d ≡ counted c w → vs ≡ ws ++ (w ∷ []) → h ≡ max g k → FoundWords known budget vs d h ts rest
one_word {known} {budget} {g} {h} {k} {ws} {vs} {w} {c} {d} {ts} {a} {rest} so one d-is vs-is h-is =
    rw vs-is (record {
      derive = words_more ws w known ts a rest so.derive one.derives;
      counts_is = d-is ∙ (ap (λ (n : SpecifierCounts). counted n w) so.counts_is ∙ sym (counts_more ws w no_words));
      high_is = rw (high_more ws w, h-is, so.high_is, one.height);
      within = omega (arith, h-is, so.within, one.within);
    })

two_or_more : (n parts : ℕ) → parts + 1 ≡ cond (suc (suc n) == 1) parts (parts + 1)
two_or_more n parts = first_of (simp unary_clauses, grind (arith, common_steps))

listed_by : (ws : List SpecTree) (parts : ℕ) → listed_height (spec_trees ws) parts ≡ cond (length ws == 1) parts (parts + 1)
listed_by [] parts = refl
listed_by (w ∷ []) parts = refl
listed_by (w ∷ (v ∷ vs)) parts = two_or_more (length vs) parts

pub whole : {known : List (List ℕ)} {budget g h n : ℕ} {ws vs : List SpecTree} {c : SpecifierCounts} {ts rest : List Terminal} →
    FoundWords known budget ws c g ts rest → vs ≡ ws → is_one_type c ≡ true → n ≡ length ws → h ≡ cond (n == 1) g (g + 1) → (g ≤ budget → h ≤ budget) → FoundSpec known budget (spec_trees vs) h ts rest
whole {known} {budget} {g} {h} {n} {ws} {vs} {c} {ts} {rest} so vs-is one n-is h-is within =
    rw vs-is (record {
      derives = record { derive = so.derive; one_type = rw so.counts_is at one };
      height = h-is ∙ (ap (λ (m : ℕ). cond (m == 1) g (g + 1)) n-is ∙ (sym (listed_by ws g) ∙ ap (λ (m : ℕ). listed_height (spec_trees ws) m) so.high_is));
      within = within so.within;
    })

pub member : {known : List (List ℕ)} {budget b c g h k : ℕ} {m : MemberTree} {ws : SpecTrees} {ds : List DeclaratorView} {ts a d rest : List Terminal} →
    FoundSpec known b ws g ts a → FoundListed (IsNamed known) declarator_height c ds k a d → IsSign p.Semicolon d rest → m ≡ Members ws ds → h ≡ max g k + 1 → h ≤ budget → FoundMember known budget m h ts rest
member {known} {budget} {b} {c} {g} {h} {k} {m} {ws} {ds} {ts} {a} {d} {rest} spec list ends m-is h-is within =
    rw m-is (record {
      derives = (a, d, spec.derives.one_type, spec.derives.derive, list.derive, ends);
      height = h-is ∙ (ap (λ (n : ℕ). max n k + 1) spec.height ∙ ap (λ (n : ℕ). max (spec_height ws) n + 1) list.high_is);
      within = within;
    })

members_more : (ms : List MemberTree) (m : MemberTree) (known : List (List ℕ)) (ts a b : List Terminal) → DeriveMembers (member_trees ms) known ts a → DeriveMember m known a b → DeriveMembers (member_trees (ms ++ (m ∷ []))) known ts b
members_more [] m known ts a b d one = (b, subst (λ (start : List Terminal). DeriveMember m known start b) d one, refl)
members_more (v ∷ vs) m known ts a b d one = (d.0, d.1, members_more vs m known d.0 a b d.2 one)

members_high : (ms : List MemberTree) (m : MemberTree) → members_height (member_trees (ms ++ (m ∷ []))) ≡ max (members_height (member_trees ms)) (member_height m)
members_high [] m = omega arith
members_high (v ∷ vs) m = let inner : members_height (member_trees (vs ++ (m ∷ []))) ≡ max (members_height (member_trees vs)) (member_height m) = members_high vs m in omega (arith, inner)

some_member : (ms : List MemberTree) (m : MemberTree) → has_member (member_trees (ms ++ (m ∷ []))) ≡ true
some_member [] m = refl
some_member (v ∷ vs) m = refl

pub one_member : {known : List (List ℕ)} {budget g h k : ℕ} {ms ns : List MemberTree} {m : MemberTree} {ts a c rest : List Terminal} →
    FoundChain known budget ms g ts a → FoundMember known budget m k a c → rest ≡ c → ns ≡ ms ++ (m ∷ []) → h ≡ max g k → FoundChain known budget ns h ts rest
one_member {known} {budget} {g} {h} {k} {ms} {ns} {m} {ts} {a} {c} {rest} so one same ns-is h-is =
    rw (ns-is, same) (record {
      derive = members_more ms m known ts a c so.derive one.derives;
      high_is = rw (members_high ms m, h-is, so.high_is, one.height);
      within = omega (arith, h-is, so.within, one.within);
    })

pub last_member : {known : List (List ℕ)} {budget g h k : ℕ} {ms ns : List MemberTree} {m : MemberTree} {ts a c rest : List Terminal} →
    FoundChain known budget ms g ts a → FoundMember known budget m k a c → IsSign p.RightBrace c rest → ns ≡ ms ++ (m ∷ []) → h ≡ max g k → FoundMembers known budget ns h ts rest
last_member {known} {budget} {g} {h} {k} {ms} {ns} {m} {ts} {a} {c} {rest} so one closes ns-is h-is =
    rw ns-is (record {
      last = c;
      some = some_member ms m;
      derive = members_more ms m known ts a c so.derive one.derives;
      closes = closes;
      high_is = rw (members_high ms m, h-is, so.high_is, one.height);
      within = omega (arith, h-is, so.within, one.within);
    })

pub struct_body : {known : List (List ℕ)} {budget b g h : ℕ} {w : SpecTree} {at : Place} (tag : Option NameView) {ms : List MemberTree} {ts a c d rest : List Terminal} →
    at ≡ first_place ts → IsWord k.Struct ts a → Tag known tag a c → IsSign p.LeftBrace c d → FoundMembers known b ms g d rest → w ≡ StructBody at tag (member_trees ms) → h ≡ g + 1 → h ≤ budget → FoundWord known budget w h ts rest
struct_body {known} {budget} {b} {g} {h} {w} {at} tag {ms} {ts} {a} {c} {d} {rest} place word tagged opens body w-is h-is within =
    rw w-is (record {
      derives = (place, body.some, a, c, d, body.last, word, tagged, opens, body.derive, body.closes);
      height = h-is ∙ ap (λ (n : ℕ). n + 1) body.high_is;
      within = within;
    })

pub struct_tag : {known : List (List ℕ)} {budget h : ℕ} {w : SpecTree} {at : Place} (tag : Option NameView) {ts a c rest : List Terminal} →
    at ≡ first_place ts → IsWord k.Struct ts a → Tag known tag a c → is_some tag ≡ true → rest ≡ c → w ≡ StructTag at tag → h ≡ 1 → h ≤ budget → FoundWord known budget w h ts rest
struct_tag {known} {budget} {h} {w} {at} tag {ts} {a} {c} {rest} place word tagged some same w-is h-is within =
    rw (w-is, same) (record { derives = (place, some, a, word, tagged); height = h-is; within = within })
