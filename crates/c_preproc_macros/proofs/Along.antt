-- What the loops of the code keep.
use Rattle.std.proofs.Common.{◌≡◌, ℕ, zero, suc, ◌+◌, ◌-◌, ◌<◌, ◌≤◌, true, false, cond, List, [], ◌∷◌, ◌++◌, length, drop, map, get_or, slice_get, Option, Some, None, option_map, nat_eq, Vec, Global, Bor, MatchOption, option_copied, unwrap_or, vec_items, refl, sym, ◌∙◌, ap, arith}
use Rattle.std.proofs.Math.Seq.{drop-cons}
use Rattle.std.proofs.lemmas.Option.{slice_get-map}
use Rattle.std.specs.Map.{lookup}
use Rattle.c_preproc_macros.specs.declared.lexeme.Lexeme.{Lexeme}
use Rattle.c_preproc_macros.specs.declared.macro_table.Macro.{Macro}
use Rattle.c_preproc_macros.specs.declared.macro_table.Part.{Part}
use Rattle.c_preproc_macros.specs.declared.pending_list.Item.{Item}
use Rattle.c_preproc_macros.specs.declared.pending_list.Item.TheVariants.{Unread}
use Rattle.c_preproc_macros.specs.Expanding.{look, nth_list, part_of, put}
use Rattle.c_preproc_macros.specs.Pending.{counts_of, counts_with, note_of, pushed}
use Rattle.c_preproc_macros.specs.Rules.{rule_of}

-- the rule of a name
pub look-map : (es : List (ℕ × Macro)) (n : ℕ) → look (map (λ e. (e.0, rule_of e.1)) es) n ≡ option_map rule_of (lookup (nat_eq n) es)
look-map [] n = refl
look-map (e ∷ es) n =
    elim (nat_eq n e.0) as (λ b. cond b (Some (rule_of e.1)) (look (map (λ e. (e.0, rule_of e.1)) es) n) ≡ option_map rule_of (cond b (Some e.1) (lookup (nat_eq n) es))) [
      | true ↦ refl
      | false ↦ look-map es n
    ]

pub rule_got : (r : Option (Bor Macro)) (es : List (ℕ × Macro)) (n : ℕ) → option_copied r ≡ lookup (nat_eq n) es
    → MatchOption r (look (map (λ e. (e.0, rule_of e.1)) es) n ≡ None) (λ m. look (map (λ e. (e.0, rule_of e.1)) es) n ≡ Some (rule_of m.now))
rule_got None es n e = look-map es n ∙ ap (option_map rule_of) (sym e)
rule_got (Some m) es n e = look-map es n ∙ ap (option_map rule_of) (sym e)

-- the argument with a number
pub nth_list-none : (xs : List (Vec Lexeme Global)) (k : ℕ) → length xs ≤ k → [] ≡ nth_list (map vec_items xs) k
nth_list-none [] k h = refl
nth_list-none (x ∷ xs) zero h = absurd (omega arith)
nth_list-none (x ∷ xs) (suc k) h = nth_list-none xs k (omega arith)

pub nth_list-some : (xs : List (Vec Lexeme Global)) (k : ℕ) (v : Vec Lexeme Global) → k < length xs → v ≡ get_or xs k v → v.items ≡ nth_list (map vec_items xs) k
nth_list-some [] k v h e = absurd (omega arith)
nth_list-some (x ∷ xs) zero v h e = ap vec_items e
nth_list-some (x ∷ xs) (suc k) v h e = nth_list-some xs k v (omega arith) e

-- the spelling with a number
abbrev pub text_in : Option (Bor (Vec ℕ Global)) → List ℕ
text_in None = []
text_in (Some v) = v.now.items

pub text_got : (r : Option (Bor (Vec ℕ Global))) (keys : List (Vec ℕ Global)) (n : ℕ) → option_copied r ≡ slice_get keys n → text_in r ≡ unwrap_or (slice_get (map vec_items keys) n) []
text_got None keys n e = ap (λ o. unwrap_or (option_map vec_items o) []) e ∙ ap (λ o. unwrap_or o []) (sym (slice_get-map vec_items keys n))
text_got (Some v) keys n e = ap (λ o. unwrap_or (option_map vec_items o) []) e ∙ ap (λ o. unwrap_or o []) (sym (slice_get-map vec_items keys n))
