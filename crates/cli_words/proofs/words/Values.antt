-- What the values of words and options are as texts.
use Rattle.std.proofs.Common.{◌≡◌, List, [], ℕ, map, Option, Some, None, Bor, refl, option_map}
use Rattle.clap.specs.Matches.{first_value, matched_of, raw_values}
use Rattle.clap.specs.Walk.{rows_of, first_of}
use Rattle.clap.specs.declared.parser.matches.Found.{Found}
use Rattle.clap.proofs.WalkLemmas.{first_value-rows, raw_values-rows}
use Rattle.cli_words.specs.Words.Requests.{text_in, texts_in, turns_named}

pub text_given : (o : Option (Bor (List ℕ))) (t : Bor (List ℕ)) (f : Found) (id : List ℕ) → option_map (λ s. s.now) o ≡ first_value f id → o ≡ Some t → t.now ≡ text_in (rows_of f) id
text_given o t f id e h = rw (← first_value-rows f id, ← e, h) refl

pub no_text : (o : Option (Bor (List ℕ))) (f : Found) (id : List ℕ) → option_map (λ s. s.now) o ≡ first_value f id → o ≡ None → ◌≡◌ {A = List ℕ} [] (text_in (rows_of f) id)
no_text o f id e h = rw (← first_value-rows f id, ← e, h) refl

pub name_given : (o : Option (Bor (List ℕ))) (t : Bor (List ℕ)) (f : Found) (id : List ℕ) → option_map (λ s. s.now) o ≡ first_value f id → o ≡ Some t → ◌≡◌ {A = Option (List ℕ)} (Some t.now) (first_of id (rows_of f))
name_given o t f id e h = rw (← first_value-rows f id, ← e, h) refl

pub no_name : (o : Option (Bor (List ℕ))) (f : Found) (id : List ℕ) → option_map (λ s. s.now) o ≡ first_value f id → o ≡ None → ◌≡◌ {A = Option (List ℕ)} None (first_of id (rows_of f))
no_name o f id e h = rw (← first_value-rows f id, ← e, h) refl

pub turns_given : (o : Option (Bor (List ℕ))) (t : Bor (List ℕ)) (f : Found) (id : List ℕ) → option_map (λ s. s.now) o ≡ first_value f id → o ≡ Some t → turns_named (Some t.now) ≡ turns_named (first_of id (rows_of f))
turns_given o t f id e h = rw (← first_value-rows f id, ← e, h) refl

pub no_turns : (o : Option (Bor (List ℕ))) (f : Found) (id : List ℕ) → option_map (λ s. s.now) o ≡ first_value f id → o ≡ None → turns_named None ≡ turns_named (first_of id (rows_of f))
no_turns o f id e h = rw (← first_value-rows f id, ← e, h) refl

pub texts_given : (o : Option (Bor (List (Bor (List ℕ))))) (names : Bor (List (Bor (List ℕ)))) (f : Found) (id : List ℕ) → option_map (λ s. map (λ v. v.now) s.now) o ≡ option_map raw_values (matched_of f id) → o ≡ Some names → map (λ v. v.now) names.now ≡ texts_in (rows_of f) id
texts_given o names f id e h = rw (← raw_values-rows f id, ← e, h) refl

pub no_texts : (o : Option (Bor (List (Bor (List ℕ))))) (f : Found) (id : List ℕ) → option_map (λ s. map (λ v. v.now) s.now) o ≡ option_map raw_values (matched_of f id) → o ≡ None → ◌≡◌ {A = List (List ℕ)} [] (texts_in (rows_of f) id)
no_texts o f id e h = rw (← raw_values-rows f id, ← e, h) refl
