-- Macros as they were defined: a table by names, entry by entry.
use Rattle.std.proofs.Common.{◌≡◌, ℕ, true, false, cond, List, [], ◌∷◌, length, map, position, swap_remove, Option, Some, None, option_map, option_copied, nat_eq, Bor, vec_len, vec_items, Vec, Global, refl, sym, ◌∙◌, ap, arith}
use Rattle.std.proofs.lemmas.Grind.{common_steps}
use Rattle.std.specs.Map.{lookup, keys_of}
use Rattle.std.specs.Option.{option_map_or}
use Rattle.indexmap.specs.IndexMap.{insert_entry, swap_remove_entry}
use Rattle.indexmap.proofs.SetLemmas.{map-swap_remove}
use Rattle.c_preproc_macros.specs.declared.macro_table.Macro.{Macro}
use Rattle.c_preproc_macros.specs.declared.macro_table.Macros.{Macros}
use Rattle.c_preproc_macros.specs.Rules.{Defined, defined_of, macros_of, rule_of, rules_of, rule_in, rules_in, defined_in}

abbrev pub entry_of : ℕ × Macro → ℕ × Defined
entry_of e = (e.0, defined_of e.1)

pub looked-up : (es : List (ℕ × Macro)) (n : ℕ) → defined_in (map (λ e. (e.0, defined_of e.1)) es) n ≡ option_map defined_of (lookup (nat_eq n) es)
looked-up [] n = refl
looked-up (e ∷ es) n =
    elim (nat_eq n e.0) as (λ b. cond b (Some (defined_of e.1)) (defined_in (map (λ e. (e.0, defined_of e.1)) es) n) ≡ option_map defined_of (cond b (Some e.1) (lookup (nat_eq n) es))) [
      | true ↦ refl
      | false ↦ looked-up es n
    ]

pub macro_got : (r : Option (Bor Macro)) (es : List (ℕ × Macro)) (n : ℕ) → option_copied r ≡ lookup (nat_eq n) es → option_map (λ m. defined_of m.now) r ≡ defined_in (map (λ e. (e.0, defined_of e.1)) es) n
macro_got None es n e = ap (option_map defined_of) e ∙ sym (looked-up es n)
macro_got (Some m) es n e = ap (option_map defined_of) e ∙ sym (looked-up es n)

pub map-insert_entry : (es : List (ℕ × Macro)) (n : ℕ) (m : Macro) → map entry_of (insert_entry nat_eq es n m) ≡ insert_entry nat_eq (map entry_of es) n (defined_of m)
map-insert_entry [] n m = refl
map-insert_entry (e ∷ es) n m =
    elim (nat_eq n e.0) as (λ b. map entry_of (cond b ((e.0, m) ∷ es) (e ∷ insert_entry nat_eq es n m)) ≡ cond b ((e.0, defined_of m) ∷ map entry_of es) (entry_of e ∷ insert_entry nat_eq (map entry_of es) n (defined_of m))) [
      | true ↦ refl
      | false ↦ ap (λ l. entry_of e ∷ l) (map-insert_entry es n m)
    ]

map-keys : (es : List (ℕ × Macro)) → keys_of (map entry_of es) ≡ keys_of es
map-keys [] = refl
map-keys (e ∷ es) = ap (λ l. e.0 ∷ l) (map-keys es)

swapped : (e : ℕ × Macro) (es : List (ℕ × Macro)) (o : Option ℕ) → map entry_of (option_map_or (λ i. swap_remove (e ∷ es) i e) o (e ∷ es)) ≡ option_map_or (λ i. swap_remove (map entry_of (e ∷ es)) i (entry_of e)) o (map entry_of (e ∷ es))
swapped e es None = refl
swapped e es (Some i) = map-swap_remove entry_of (e ∷ es) i e (omega arith)

pub map-swap_remove_entry : (es : List (ℕ × Macro)) (n : ℕ) → map entry_of (swap_remove_entry (nat_eq n) es) ≡ swap_remove_entry (nat_eq n) (map entry_of es)
map-swap_remove_entry [] n = refl
map-swap_remove_entry (e ∷ es) n =
    swapped e es (position (nat_eq n) (keys_of (e ∷ es)))
    ∙ ap (λ ks. option_map_or (λ i. swap_remove (map entry_of (e ∷ es)) i (entry_of e)) (position (nat_eq n) ks) (map entry_of (e ∷ es))) (sym (map-keys (e ∷ es)))

vec_len-is : (v : Vec ℕ Global) → vec_len v ≡ length (vec_items v)
vec_len-is v = grind (arith, common_steps)

lengths : (o : Option (Vec ℕ Global)) → option_map length (option_map vec_items o) ≡ option_map vec_len o
lengths None = refl
lengths (Some v) = ap Some (sym (vec_len-is v))

-- what expansion sees of a table
pub rules-are : (macros : Macros) → rules_of macros ≡ rules_in (macros_of macros)
rules-are macros = go macros.table.entries
  where
    go : (es : List (ℕ × Macro)) → map (λ e. (e.0, rule_of e.1)) es ≡ rules_in (map (λ e. (e.0, defined_of e.1)) es)
    go [] = refl
    go (e ∷ es) = ap (λ r. (e.0, r) ∷ map (λ e. (e.0, rule_of e.1)) es) (ap (λ k. record { parameters = k; body = e.1.body.items }) (sym (lengths e.1.parameters))) ∙ ap (λ l. (e.0, rule_in (defined_of e.1)) ∷ l) (go es)
