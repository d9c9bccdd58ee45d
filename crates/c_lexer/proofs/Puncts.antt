-- The table of punctuators and the tests that read them agree.
use Rattle.std.proofs.Common.{◌≡◌, ◌≤◌, ℕ, zero, suc, Bool, true, false, ◌&&◌, ◌||◌, ◌==◌, List, [], ◌∷◌, length, take, refl, sym, ◌∙◌, ap, subst, arith, if◌then◌else◌, codes}
use Rattle.std.specs.List.{list_any}
use Rattle.std.specs.Cmp.Lexicographic.{same_text}
use Rattle.std.proofs.lemmas.Bool.{eqb-true}
use Rattle.c_lexer.specs.declared.byte_class.Class.{Class}
use Rattle.c_lexer.specs.declared.byte_class.Class.TheVariants.{Dot, Slash, Less, Other}
use Rattle.c_lexer.specs.ByteClasses.{begins_digit, class_of}
use Rattle.c_lexer.specs.Punctuators.{is_single, is_doubled, is_assigned, shifted_length, punctuator_length, is_punctuator, punctuators, same_bytes}
use Rattle.c_lexer.specs.Reading.{rest_of, head_of}
use Rattle.c_lexer.specs.Cutting.{Front}
use Rattle.c_lexer.proofs.Sizes.{cond_both, both_true}

-- a fact of each punctuator
abbrev Each : (List ℕ → Type 0) → List (List ℕ) → Type 0
Each P [] = Unit {0}
Each P (x ∷ xs) = P x × Each P xs

or_both : (p q : Bool) (A : Type 0) → (p || q) ≡ true → (p ≡ true → A) → (q ≡ true → A) → A
or_both true q A h f g = f refl
or_both false q A h f g = g h

any_gives : (t : List ℕ) (A : Type 0) (xs : List (List ℕ)) → Each (λ e. t ≡ e → A) xs → list_any (same_bytes t) xs ≡ true → A
any_gives t A [] fs h = absurd (cc)
any_gives t A (x ∷ xs) fs h = or_both (same_bytes t x) (list_any (same_bytes t) xs) A h (λ i. fs.0 (same_text t x (sym i))) (λ i. any_gives t A xs fs.1 i)

-- the classes of the bytes that begin punctuators
abbrev pub is_mark : Class → Bool
is_mark Dot = true
is_mark Slash = true
is_mark Less = true
is_mark Other = true
is_mark k = false

abbrev first_is_mark : List ℕ → Bool
first_is_mark [] = true
first_is_mark (b ∷ t) = is_mark (class_of b)

first_marks : (t : List ℕ) → Each (λ e. t ≡ e → first_is_mark t ≡ true) punctuators
unfolding class_of
first_marks t = (
  λ e. ap first_is_mark e,
  (
    λ e. ap first_is_mark e,
    (
      λ e. ap first_is_mark e,
      (
        λ e. ap first_is_mark e,
        (
          λ e. ap first_is_mark e,
          (
            λ e. ap first_is_mark e,
            (
              λ e. ap first_is_mark e,
              (
                λ e. ap first_is_mark e,
                (
                  λ e. ap first_is_mark e,
                  (
                    λ e. ap first_is_mark e,
                    (
                      λ e. ap first_is_mark e,
                      (
                        λ e. ap first_is_mark e,
                        (
                          λ e. ap first_is_mark e,
                          (
                            λ e. ap first_is_mark e,
                            (
                              λ e. ap first_is_mark e,
                              (
                                λ e. ap first_is_mark e,
                                (
                                  λ e. ap first_is_mark e,
                                  (
                                    λ e. ap first_is_mark e,
                                    (
                                      λ e. ap first_is_mark e,
                                      (
                                        λ e. ap first_is_mark e,
                                        (
                                          λ e. ap first_is_mark e,
                                          (
                                            λ e. ap first_is_mark e,
                                            (
                                              λ e. ap first_is_mark e,
                                              (
                                                λ e. ap first_is_mark e,
                                                (
                                                  λ e. ap first_is_mark e,
                                                  (
                                                    λ e. ap first_is_mark e,
                                                    (
                                                      λ e. ap first_is_mark e,
                                                      (
                                                        λ e. ap first_is_mark e,
                                                        (
                                                          λ e. ap first_is_mark e,
                                                          (
                                                            λ e. ap first_is_mark e,
                                                            (
                                                              λ e. ap first_is_mark e,
                                                              (
                                                                λ e. ap first_is_mark e,
                                                                (
                                                                  λ e. ap first_is_mark e,
                                                                  (
                                                                    λ e. ap first_is_mark e,
                                                                    (
                                                                      λ e. ap first_is_mark e,
                                                                      (
                                                                        λ e. ap first_is_mark e,
                                                                        (
                                                                          λ e. ap first_is_mark e,
                                                                          (
                                                                            λ e. ap first_is_mark e,
                                                                            (
                                                                              λ e. ap first_is_mark e,
                                                                              (
                                                                                λ e. ap first_is_mark e,
                                                                                (
                                                                                  λ e. ap first_is_mark e,
                                                                                  (
                                                                                    λ e. ap first_is_mark e,
                                                                                    (
                                                                                      λ e. ap first_is_mark e,
                                                                                      (
                                                                                        λ e. ap first_is_mark e,
                                                                                        (
                                                                                          λ e. ap first_is_mark e,
                                                                                          (
                                                                                            λ e. ap first_is_mark e,
                                                                                            (
                                                                                              λ e. ap first_is_mark e,
                                                                                              (
                                                                                                λ e. ap first_is_mark e,
                                                                                                tt,
                                                                                              ),
                                                                                            ),
                                                                                          ),
                                                                                        ),
                                                                                      ),
                                                                                    ),
                                                                                  ),
                                                                                ),
                                                                              ),
                                                                            ),
                                                                          ),
                                                                        ),
                                                                      ),
                                                                    ),
                                                                  ),
                                                                ),
                                                              ),
                                                            ),
                                                          ),
                                                        ),
                                                      ),
                                                    ),
                                                  ),
                                                ),
                                              ),
                                            ),
                                          ),
                                        ),
                                      ),
                                    ),
                                  ),
                                ),
                              ),
                            ),
                          ),
                        ),
                      ),
                    ),
                  ),
                ),
              ),
            ),
          ),
        ),
      ),
    ),
  ),
)

pub punct_class : (b : ℕ) (t : List ℕ) → is_punctuator (b ∷ t) ≡ true → is_mark (class_of b) ≡ true
unfolding is_punctuator
punct_class b t h = any_gives (b ∷ t) (first_is_mark (b ∷ t) ≡ true) punctuators (first_marks (b ∷ t)) h

-- no digit stands behind the dot of a punctuator
abbrev no_digit : List ℕ → Bool
no_digit [] = true
no_digit (b ∷ t) = if begins_digit t then false else true

no_digits : (t : List ℕ) → Each (λ e. t ≡ e → no_digit t ≡ true) punctuators
no_digits t = (
  λ e. ap no_digit e,
  (
    λ e. ap no_digit e,
    (
      λ e. ap no_digit e,
      (
        λ e. ap no_digit e,
        (
          λ e. ap no_digit e,
          (
            λ e. ap no_digit e,
            (
              λ e. ap no_digit e,
              (
                λ e. ap no_digit e,
                (
                  λ e. ap no_digit e,
                  (
                    λ e. ap no_digit e,
                    (
                      λ e. ap no_digit e,
                      (
                        λ e. ap no_digit e,
                        (
                          λ e. ap no_digit e,
                          (
                            λ e. ap no_digit e,
                            (
                              λ e. ap no_digit e,
                              (
                                λ e. ap no_digit e,
                                (
                                  λ e. ap no_digit e,
                                  (
                                    λ e. ap no_digit e,
                                    (
                                      λ e. ap no_digit e,
                                      (
                                        λ e. ap no_digit e,
                                        (
                                          λ e. ap no_digit e,
                                          (
                                            λ e. ap no_digit e,
                                            (
                                              λ e. ap no_digit e,
                                              (
                                                λ e. ap no_digit e,
                                                (
                                                  λ e. ap no_digit e,
                                                  (
                                                    λ e. ap no_digit e,
                                                    (
                                                      λ e. ap no_digit e,
                                                      (
                                                        λ e. ap no_digit e,
                                                        (
                                                          λ e. ap no_digit e,
                                                          (
                                                            λ e. ap no_digit e,
                                                            (
                                                              λ e. ap no_digit e,
                                                              (
                                                                λ e. ap no_digit e,
                                                                (
                                                                  λ e. ap no_digit e,
                                                                  (
                                                                    λ e. ap no_digit e,
                                                                    (
                                                                      λ e. ap no_digit e,
                                                                      (
                                                                        λ e. ap no_digit e,
                                                                        (
                                                                          λ e. ap no_digit e,
                                                                          (
                                                                            λ e. ap no_digit e,
                                                                            (
                                                                              λ e. ap no_digit e,
                                                                              (
                                                                                λ e. ap no_digit e,
                                                                                (
                                                                                  λ e. ap no_digit e,
                                                                                  (
                                                                                    λ e. ap no_digit e,
                                                                                    (
                                                                                      λ e. ap no_digit e,
                                                                                      (
                                                                                        λ e. ap no_digit e,
                                                                                        (
                                                                                          λ e. ap no_digit e,
                                                                                          (
                                                                                            λ e. ap no_digit e,
                                                                                            (
                                                                                              λ e. ap no_digit e,
                                                                                              (
                                                                                                λ e. ap no_digit e,
                                                                                                tt,
                                                                                              ),
                                                                                            ),
                                                                                          ),
                                                                                        ),
                                                                                      ),
                                                                                    ),
                                                                                  ),
                                                                                ),
                                                                              ),
                                                                            ),
                                                                          ),
                                                                        ),
                                                                      ),
                                                                    ),
                                                                  ),
                                                                ),
                                                              ),
                                                            ),
                                                          ),
                                                        ),
                                                      ),
                                                    ),
                                                  ),
                                                ),
                                              ),
                                            ),
                                          ),
                                        ),
                                      ),
                                    ),
                                  ),
                                ),
                              ),
                            ),
                          ),
                        ),
                      ),
                    ),
                  ),
                ),
              ),
            ),
          ),
        ),
      ),
    ),
  ),
)

pub punct_no_digit : (b : ℕ) (t : List ℕ) → is_punctuator (b ∷ t) ≡ true → begins_digit t ≡ false
unfolding is_punctuator
punct_no_digit b t h = unless (begins_digit t) (any_gives (b ∷ t) (no_digit (b ∷ t) ≡ true) punctuators (no_digits (b ∷ t)) h)
  where
    unless : (p : Bool) → (if p then false else true) ≡ true → p ≡ false
    unless true k = absurd (cc)
    unless false k = refl

-- nothing longer than what is read
two_or_one : (t : Bool) → 1 ≤ (if t then 2 else 1)
two_or_one true = omega arith
two_or_one false = omega arith

three_or_one : (t : Bool) → 1 ≤ (if t then 3 else 1)
three_or_one true = omega arith
three_or_one false = omega arith

three_or_two : (t : Bool) → 2 ≤ (if t then 3 else 2)
three_or_two true = omega arith
three_or_two false = omega arith

shifted_one : (p q r : Bool) → 1 ≤ (if p then (if q then 3 else 2) else if r then 2 else 1)
shifted_one true true r = omega arith
shifted_one true false r = omega arith
shifted_one false q true = omega arith
shifted_one false q false = omega arith

-- an entry of the table that stands at the front is no longer than what is read there
abbrev IsReached : List ℕ → Type 0
IsReached e = (b : ℕ) (z : List ℕ) → Front e (b ∷ z) → length e ≤ punctuator_length b (head_of z) (head_of (rest_of z))

reach-0 : IsReached (codes "[")
unfolding punctuator_length
reach-0 b z f = rw (sym f.0) (omega arith)

reach-1 : IsReached (codes "]")
unfolding punctuator_length
reach-1 b z f = rw (sym f.0) (omega arith)

reach-2 : IsReached (codes "(")
unfolding punctuator_length
reach-2 b z f = rw (sym f.0) (omega arith)

reach-3 : IsReached (codes ")")
unfolding punctuator_length
reach-3 b z f = rw (sym f.0) (omega arith)

reach-4 : IsReached (codes "{")
unfolding punctuator_length
reach-4 b z f = rw (sym f.0) (omega arith)

reach-5 : IsReached (codes "}")
unfolding punctuator_length
reach-5 b z f = rw (sym f.0) (omega arith)

reach-6 : IsReached (codes ".")
unfolding punctuator_length
reach-6 b z f = rw (sym f.0) (three_or_one (head_of z == 46 && head_of (rest_of z) == 46))

reach-7 : IsReached (codes "->")
unfolding punctuator_length
reach-7 b [] f = absurd (f.1)
reach-7 b (x ∷ z) f = rw (sym f.0) (rw (sym f.1.0) (omega arith))

reach-8 : IsReached (codes "++")
unfolding punctuator_length
reach-8 b [] f = absurd (f.1)
reach-8 b (x ∷ z) f = rw (sym f.0) (rw (sym f.1.0) (omega arith))

reach-9 : IsReached (codes "--")
unfolding punctuator_length
reach-9 b [] f = absurd (f.1)
reach-9 b (x ∷ z) f = rw (sym f.0) (rw (sym f.1.0) (omega arith))

reach-10 : IsReached (codes "&")
unfolding punctuator_length
reach-10 b z f = rw (sym f.0) (two_or_one (head_of z == 38 || head_of z == 61))

reach-11 : IsReached (codes "*")
unfolding punctuator_length
reach-11 b z f = rw (sym f.0) (two_or_one (head_of z == 61))

reach-12 : IsReached (codes "+")
unfolding punctuator_length
reach-12 b z f = rw (sym f.0) (two_or_one (head_of z == 43 || head_of z == 61))

reach-13 : IsReached (codes "-")
unfolding punctuator_length
reach-13 b z f = rw (sym f.0) (two_or_one (head_of z == 62 || head_of z == 45 || head_of z == 61))

reach-14 : IsReached (codes "~")
unfolding punctuator_length
reach-14 b z f = rw (sym f.0) (omega arith)

reach-15 : IsReached (codes "!")
unfolding punctuator_length
reach-15 b z f = rw (sym f.0) (two_or_one (head_of z == 61))

reach-16 : IsReached (codes "/")
unfolding punctuator_length
reach-16 b z f = rw (sym f.0) (two_or_one (head_of z == 61))

reach-17 : IsReached (codes "%")
unfolding punctuator_length
reach-17 b z f = rw (sym f.0) (two_or_one (head_of z == 61))

reach-18 : IsReached (codes "<<")
unfolding punctuator_length
reach-18 b [] f = absurd (f.1)
reach-18 b (x ∷ z) f = rw (sym f.0) (rw (sym f.1.0) (three_or_two (head_of z == 61)))

reach-19 : IsReached (codes ">>")
unfolding punctuator_length
reach-19 b [] f = absurd (f.1)
reach-19 b (x ∷ z) f = rw (sym f.0) (rw (sym f.1.0) (three_or_two (head_of z == 61)))

reach-20 : IsReached (codes "<")
unfolding punctuator_length
reach-20 b z f = rw (sym f.0) (shifted_one (head_of z == 60) (head_of (rest_of z) == 61) (head_of z == 61))

reach-21 : IsReached (codes ">")
unfolding punctuator_length
reach-21 b z f = rw (sym f.0) (shifted_one (head_of z == 62) (head_of (rest_of z) == 61) (head_of z == 61))

reach-22 : IsReached (codes "<=")
unfolding punctuator_length
reach-22 b [] f = absurd (f.1)
reach-22 b (x ∷ z) f = rw (sym f.0) (rw (sym f.1.0) (omega arith))

reach-23 : IsReached (codes ">=")
unfolding punctuator_length
reach-23 b [] f = absurd (f.1)
reach-23 b (x ∷ z) f = rw (sym f.0) (rw (sym f.1.0) (omega arith))

reach-24 : IsReached (codes "==")
unfolding punctuator_length
reach-24 b [] f = absurd (f.1)
reach-24 b (x ∷ z) f = rw (sym f.0) (rw (sym f.1.0) (omega arith))

reach-25 : IsReached (codes "!=")
unfolding punctuator_length
reach-25 b [] f = absurd (f.1)
reach-25 b (x ∷ z) f = rw (sym f.0) (rw (sym f.1.0) (omega arith))

reach-26 : IsReached (codes "^")
unfolding punctuator_length
reach-26 b z f = rw (sym f.0) (two_or_one (head_of z == 61))

reach-27 : IsReached (codes "|")
unfolding punctuator_length
reach-27 b z f = rw (sym f.0) (two_or_one (head_of z == 124 || head_of z == 61))

reach-28 : IsReached (codes "&&")
unfolding punctuator_length
reach-28 b [] f = absurd (f.1)
reach-28 b (x ∷ z) f = rw (sym f.0) (rw (sym f.1.0) (omega arith))

reach-29 : IsReached (codes "||")
unfolding punctuator_length
reach-29 b [] f = absurd (f.1)
reach-29 b (x ∷ z) f = rw (sym f.0) (rw (sym f.1.0) (omega arith))

reach-30 : IsReached (codes "?")
unfolding punctuator_length
reach-30 b z f = rw (sym f.0) (omega arith)

reach-31 : IsReached (codes ":")
unfolding punctuator_length
reach-31 b z f = rw (sym f.0) (omega arith)

reach-32 : IsReached (codes ";")
unfolding punctuator_length
reach-32 b z f = rw (sym f.0) (omega arith)

reach-33 : IsReached (codes "...")
unfolding punctuator_length
reach-33 b [] f = absurd (f.1)
reach-33 b (x ∷ []) f = absurd (f.1.1)
reach-33 b (x ∷ (y ∷ z)) f = rw (sym f.0) (rw (sym f.1.0) (rw (sym f.1.1.0) (omega arith)))

reach-34 : IsReached (codes "=")
unfolding punctuator_length
reach-34 b z f = rw (sym f.0) (two_or_one (head_of z == 61))

reach-35 : IsReached (codes "*=")
unfolding punctuator_length
reach-35 b [] f = absurd (f.1)
reach-35 b (x ∷ z) f = rw (sym f.0) (rw (sym f.1.0) (omega arith))

reach-36 : IsReached (codes "/=")
unfolding punctuator_length
reach-36 b [] f = absurd (f.1)
reach-36 b (x ∷ z) f = rw (sym f.0) (rw (sym f.1.0) (omega arith))

reach-37 : IsReached (codes "%=")
unfolding punctuator_length
reach-37 b [] f = absurd (f.1)
reach-37 b (x ∷ z) f = rw (sym f.0) (rw (sym f.1.0) (omega arith))

reach-38 : IsReached (codes "+=")
unfolding punctuator_length
reach-38 b [] f = absurd (f.1)
reach-38 b (x ∷ z) f = rw (sym f.0) (rw (sym f.1.0) (omega arith))

reach-39 : IsReached (codes "-=")
unfolding punctuator_length
reach-39 b [] f = absurd (f.1)
reach-39 b (x ∷ z) f = rw (sym f.0) (rw (sym f.1.0) (omega arith))

reach-40 : IsReached (codes "<<=")
unfolding punctuator_length
reach-40 b [] f = absurd (f.1)
reach-40 b (x ∷ []) f = absurd (f.1.1)
reach-40 b (x ∷ (y ∷ z)) f = rw (sym f.0) (rw (sym f.1.0) (rw (sym f.1.1.0) (omega arith)))

reach-41 : IsReached (codes ">>=")
unfolding punctuator_length
reach-41 b [] f = absurd (f.1)
reach-41 b (x ∷ []) f = absurd (f.1.1)
reach-41 b (x ∷ (y ∷ z)) f = rw (sym f.0) (rw (sym f.1.0) (rw (sym f.1.1.0) (omega arith)))

reach-42 : IsReached (codes "&=")
unfolding punctuator_length
reach-42 b [] f = absurd (f.1)
reach-42 b (x ∷ z) f = rw (sym f.0) (rw (sym f.1.0) (omega arith))

reach-43 : IsReached (codes "^=")
unfolding punctuator_length
reach-43 b [] f = absurd (f.1)
reach-43 b (x ∷ z) f = rw (sym f.0) (rw (sym f.1.0) (omega arith))

reach-44 : IsReached (codes "|=")
unfolding punctuator_length
reach-44 b [] f = absurd (f.1)
reach-44 b (x ∷ z) f = rw (sym f.0) (rw (sym f.1.0) (omega arith))

reach-45 : IsReached (codes ",")
unfolding punctuator_length
reach-45 b z f = rw (sym f.0) (omega arith)

reach-46 : IsReached (codes "#")
unfolding punctuator_length
reach-46 b z f = rw (sym f.0) (two_or_one (head_of z == 35))

reach-47 : IsReached (codes "##")
unfolding punctuator_length
reach-47 b [] f = absurd (f.1)
reach-47 b (x ∷ z) f = rw (sym f.0) (rw (sym f.1.0) (omega arith))

reached_by : (t : List ℕ) (b : ℕ) (z : List ℕ) → Front t (b ∷ z) → Each (λ e. t ≡ e → length t ≤ punctuator_length b (head_of z) (head_of (rest_of z))) punctuators
reached_by t b z f = (
  reach-at (codes "[") reach-0,
  (
    reach-at (codes "]") reach-1,
    (
      reach-at (codes "(") reach-2,
      (
        reach-at (codes ")") reach-3,
        (
          reach-at (codes "{") reach-4,
          (
            reach-at (codes "}") reach-5,
            (
              reach-at (codes ".") reach-6,
              (
                reach-at (codes "->") reach-7,
                (
                  reach-at (codes "++") reach-8,
                  (
                    reach-at (codes "--") reach-9,
                    (
                      reach-at (codes "&") reach-10,
                      (
                        reach-at (codes "*") reach-11,
                        (
                          reach-at (codes "+") reach-12,
                          (
                            reach-at (codes "-") reach-13,
                            (
                              reach-at (codes "~") reach-14,
                              (
                                reach-at (codes "!") reach-15,
                                (
                                  reach-at (codes "/") reach-16,
                                  (
                                    reach-at (codes "%") reach-17,
                                    (
                                      reach-at (codes "<<") reach-18,
                                      (
                                        reach-at (codes ">>") reach-19,
                                        (
                                          reach-at (codes "<") reach-20,
                                          (
                                            reach-at (codes ">") reach-21,
                                            (
                                              reach-at (codes "<=") reach-22,
                                              (
                                                reach-at (codes ">=") reach-23,
                                                (
                                                  reach-at (codes "==") reach-24,
                                                  (
                                                    reach-at (codes "!=") reach-25,
                                                    (
                                                      reach-at (codes "^") reach-26,
                                                      (
                                                        reach-at (codes "|") reach-27,
                                                        (
                                                          reach-at (codes "&&") reach-28,
                                                          (
                                                            reach-at (codes "||") reach-29,
                                                            (
                                                              reach-at (codes "?") reach-30,
                                                              (
                                                                reach-at (codes ":") reach-31,
                                                                (
                                                                  reach-at (codes ";") reach-32,
                                                                  (
                                                                    reach-at (codes "...") reach-33,
                                                                    (
                                                                      reach-at (codes "=") reach-34,
                                                                      (
                                                                        reach-at (codes "*=") reach-35,
                                                                        (
                                                                          reach-at (codes "/=") reach-36,
                                                                          (
                                                                            reach-at (codes "%=") reach-37,
                                                                            (
                                                                              reach-at (codes "+=") reach-38,
                                                                              (
                                                                                reach-at (codes "-=") reach-39,
                                                                                (
                                                                                  reach-at (codes "<<=") reach-40,
                                                                                  (
                                                                                    reach-at (codes ">>=") reach-41,
                                                                                    (
                                                                                      reach-at (codes "&=") reach-42,
                                                                                      (
                                                                                        reach-at (codes "^=") reach-43,
                                                                                        (
                                                                                          reach-at (codes "|=") reach-44,
                                                                                          (
                                                                                            reach-at (codes ",") reach-45,
                                                                                            (
                                                                                              reach-at (codes "#") reach-46,
                                                                                              (
                                                                                                reach-at (codes "##") reach-47,
                                                                                                tt,
                                                                                              ),
                                                                                            ),
                                                                                          ),
                                                                                        ),
                                                                                      ),
                                                                                    ),
                                                                                  ),
                                                                                ),
                                                                              ),
                                                                            ),
                                                                          ),
                                                                        ),
                                                                      ),
                                                                    ),
                                                                  ),
                                                                ),
                                                              ),
                                                            ),
                                                          ),
                                                        ),
                                                      ),
                                                    ),
                                                  ),
                                                ),
                                              ),
                                            ),
                                          ),
                                        ),
                                      ),
                                    ),
                                  ),
                                ),
                              ),
                            ),
                          ),
                        ),
                      ),
                    ),
                  ),
                ),
              ),
            ),
          ),
        ),
      ),
    ),
  ),
)
  where
    reach-at : (e : List ℕ) → IsReached e → t ≡ e → length t ≤ punctuator_length b (head_of z) (head_of (rest_of z))
    reach-at e r p = rw p (r b z (subst (λ v. Front v (b ∷ z)) p f))

pub punct_below : (b : ℕ) (t z : List ℕ) → is_punctuator (b ∷ t) ≡ true → Front t z → suc (length t) ≤ punctuator_length b (head_of z) (head_of (rest_of z))
unfolding is_punctuator
punct_below b t z h f = any_gives (b ∷ t) (suc (length t) ≤ punctuator_length b (head_of z) (head_of (rest_of z))) punctuators (reached_by (b ∷ t) b z (refl, f)) h

-- what is read is in the table
abbrev pub Spelled : ℕ → List ℕ → ℕ → Type 0
Spelled b z zero = Unit {0}
Spelled b z (suc m) = is_punctuator (b ∷ take m z) ≡ true

take_one : (c : ℕ) (z : List ℕ) → (0 == c) ≡ false → (head_of z == c) ≡ true → take 1 z ≡ c ∷ []
take_one c [] g h = absurd (cc)
take_one c (x ∷ z) g h = ap (λ v. v ∷ []) (eqb-true x c h)

take_two : (c d : ℕ) (z : List ℕ) → (0 == c) ≡ false → (0 == d) ≡ false → (head_of z == c) ≡ true → (head_of (rest_of z) == d) ≡ true → take 2 z ≡ c ∷ (d ∷ [])
take_two c d [] g k h l = absurd (cc)
take_two c d (x ∷ []) g k h l = absurd (cc)
take_two c d (x ∷ (y ∷ z)) g k h l = ap (λ v. v ∷ (y ∷ [])) (eqb-true x c h) ∙ ap (λ v. c ∷ (v ∷ [])) (eqb-true y d l)

single_is : (b : ℕ) → is_single b ≡ true → is_punctuator (b ∷ []) ≡ true
unfolding is_punctuator
single_is b h = or_both (b == 91 || b == 93 || b == 40 || b == 41 || b == 123 || b == 125 || b == 126 || b == 63 || b == 58 || b == 59) (b == 44) (is_punctuator (b ∷ []) ≡ true) h (λ i11. or_both (b == 91 || b == 93 || b == 40 || b == 41 || b == 123 || b == 125 || b == 126 || b == 63 || b == 58) (b == 59) (is_punctuator (b ∷ []) ≡ true) i11 (λ i10. or_both (b == 91 || b == 93 || b == 40 || b == 41 || b == 123 || b == 125 || b == 126 || b == 63) (b == 58) (is_punctuator (b ∷ []) ≡ true) i10 (λ i9. or_both (b == 91 || b == 93 || b == 40 || b == 41 || b == 123 || b == 125 || b == 126) (b == 63) (is_punctuator (b ∷ []) ≡ true) i9 (λ i8. or_both (b == 91 || b == 93 || b == 40 || b == 41 || b == 123 || b == 125) (b == 126) (is_punctuator (b ∷ []) ≡ true) i8 (λ i7. or_both (b == 91 || b == 93 || b == 40 || b == 41 || b == 123) (b == 125) (is_punctuator (b ∷ []) ≡ true) i7 (λ i6. or_both (b == 91 || b == 93 || b == 40 || b == 41) (b == 123) (is_punctuator (b ∷ []) ≡ true) i6 (λ i5. or_both (b == 91 || b == 93 || b == 40) (b == 41) (is_punctuator (b ∷ []) ≡ true) i5 (λ i4. or_both (b == 91 || b == 93) (b == 40) (is_punctuator (b ∷ []) ≡ true) i4 (λ i3. or_both (b == 91) (b == 93) (is_punctuator (b ∷ []) ≡ true) i3 (λ i2. subst (λ v. is_punctuator (v ∷ []) ≡ true) (sym (eqb-true b 91 i2)) refl) (λ i2. subst (λ v. is_punctuator (v ∷ []) ≡ true) (sym (eqb-true b 93 i2)) refl)) (λ i3. subst (λ v. is_punctuator (v ∷ []) ≡ true) (sym (eqb-true b 40 i3)) refl)) (λ i4. subst (λ v. is_punctuator (v ∷ []) ≡ true) (sym (eqb-true b 41 i4)) refl)) (λ i5. subst (λ v. is_punctuator (v ∷ []) ≡ true) (sym (eqb-true b 123 i5)) refl)) (λ i6. subst (λ v. is_punctuator (v ∷ []) ≡ true) (sym (eqb-true b 125 i6)) refl)) (λ i7. subst (λ v. is_punctuator (v ∷ []) ≡ true) (sym (eqb-true b 126 i7)) refl)) (λ i8. subst (λ v. is_punctuator (v ∷ []) ≡ true) (sym (eqb-true b 63 i8)) refl)) (λ i9. subst (λ v. is_punctuator (v ∷ []) ≡ true) (sym (eqb-true b 58 i9)) refl)) (λ i10. subst (λ v. is_punctuator (v ∷ []) ≡ true) (sym (eqb-true b 59 i10)) refl)) (λ i11. subst (λ v. is_punctuator (v ∷ []) ≡ true) (sym (eqb-true b 44 i11)) refl)

doubled_alone : (b : ℕ) → is_doubled b ≡ true → is_punctuator (b ∷ []) ≡ true
unfolding is_punctuator
doubled_alone b h = or_both (b == 43 || b == 38) (b == 124) (is_punctuator (b ∷ []) ≡ true) h (λ i3. or_both (b == 43) (b == 38) (is_punctuator (b ∷ []) ≡ true) i3 (λ i2. subst (λ v. is_punctuator (v ∷ []) ≡ true) (sym (eqb-true b 43 i2)) refl) (λ i2. subst (λ v. is_punctuator (v ∷ []) ≡ true) (sym (eqb-true b 38 i2)) refl)) (λ i3. subst (λ v. is_punctuator (v ∷ []) ≡ true) (sym (eqb-true b 124 i3)) refl)

doubled_assigned : (b : ℕ) → is_doubled b ≡ true → is_punctuator (b ∷ (61 ∷ [])) ≡ true
unfolding is_punctuator
doubled_assigned b h = or_both (b == 43 || b == 38) (b == 124) (is_punctuator (b ∷ (61 ∷ [])) ≡ true) h (λ i3. or_both (b == 43) (b == 38) (is_punctuator (b ∷ (61 ∷ [])) ≡ true) i3 (λ i2. subst (λ v. is_punctuator (v ∷ (61 ∷ [])) ≡ true) (sym (eqb-true b 43 i2)) refl) (λ i2. subst (λ v. is_punctuator (v ∷ (61 ∷ [])) ≡ true) (sym (eqb-true b 38 i2)) refl)) (λ i3. subst (λ v. is_punctuator (v ∷ (61 ∷ [])) ≡ true) (sym (eqb-true b 124 i3)) refl)

doubled_twice : (b : ℕ) → is_doubled b ≡ true → is_punctuator (b ∷ (b ∷ [])) ≡ true
unfolding is_punctuator
doubled_twice b h = or_both (b == 43 || b == 38) (b == 124) (is_punctuator (b ∷ (b ∷ [])) ≡ true) h (λ i3. or_both (b == 43) (b == 38) (is_punctuator (b ∷ (b ∷ [])) ≡ true) i3 (λ i2. subst (λ v. is_punctuator (v ∷ (v ∷ [])) ≡ true) (sym (eqb-true b 43 i2)) refl) (λ i2. subst (λ v. is_punctuator (v ∷ (v ∷ [])) ≡ true) (sym (eqb-true b 38 i2)) refl)) (λ i3. subst (λ v. is_punctuator (v ∷ (v ∷ [])) ≡ true) (sym (eqb-true b 124 i3)) refl)

assigned_alone : (b : ℕ) → is_assigned b ≡ true → is_punctuator (b ∷ []) ≡ true
unfolding is_punctuator
assigned_alone b h = or_both (b == 42 || b == 47 || b == 37 || b == 94 || b == 33) (b == 61) (is_punctuator (b ∷ []) ≡ true) h (λ i6. or_both (b == 42 || b == 47 || b == 37 || b == 94) (b == 33) (is_punctuator (b ∷ []) ≡ true) i6 (λ i5. or_both (b == 42 || b == 47 || b == 37) (b == 94) (is_punctuator (b ∷ []) ≡ true) i5 (λ i4. or_both (b == 42 || b == 47) (b == 37) (is_punctuator (b ∷ []) ≡ true) i4 (λ i3. or_both (b == 42) (b == 47) (is_punctuator (b ∷ []) ≡ true) i3 (λ i2. subst (λ v. is_punctuator (v ∷ []) ≡ true) (sym (eqb-true b 42 i2)) refl) (λ i2. subst (λ v. is_punctuator (v ∷ []) ≡ true) (sym (eqb-true b 47 i2)) refl)) (λ i3. subst (λ v. is_punctuator (v ∷ []) ≡ true) (sym (eqb-true b 37 i3)) refl)) (λ i4. subst (λ v. is_punctuator (v ∷ []) ≡ true) (sym (eqb-true b 94 i4)) refl)) (λ i5. subst (λ v. is_punctuator (v ∷ []) ≡ true) (sym (eqb-true b 33 i5)) refl)) (λ i6. subst (λ v. is_punctuator (v ∷ []) ≡ true) (sym (eqb-true b 61 i6)) refl)

assigned_is : (b : ℕ) → is_assigned b ≡ true → is_punctuator (b ∷ (61 ∷ [])) ≡ true
unfolding is_punctuator
assigned_is b h = or_both (b == 42 || b == 47 || b == 37 || b == 94 || b == 33) (b == 61) (is_punctuator (b ∷ (61 ∷ [])) ≡ true) h (λ i6. or_both (b == 42 || b == 47 || b == 37 || b == 94) (b == 33) (is_punctuator (b ∷ (61 ∷ [])) ≡ true) i6 (λ i5. or_both (b == 42 || b == 47 || b == 37) (b == 94) (is_punctuator (b ∷ (61 ∷ [])) ≡ true) i5 (λ i4. or_both (b == 42 || b == 47) (b == 37) (is_punctuator (b ∷ (61 ∷ [])) ≡ true) i4 (λ i3. or_both (b == 42) (b == 47) (is_punctuator (b ∷ (61 ∷ [])) ≡ true) i3 (λ i2. subst (λ v. is_punctuator (v ∷ (61 ∷ [])) ≡ true) (sym (eqb-true b 42 i2)) refl) (λ i2. subst (λ v. is_punctuator (v ∷ (61 ∷ [])) ≡ true) (sym (eqb-true b 47 i2)) refl)) (λ i3. subst (λ v. is_punctuator (v ∷ (61 ∷ [])) ≡ true) (sym (eqb-true b 37 i3)) refl)) (λ i4. subst (λ v. is_punctuator (v ∷ (61 ∷ [])) ≡ true) (sym (eqb-true b 94 i4)) refl)) (λ i5. subst (λ v. is_punctuator (v ∷ (61 ∷ [])) ≡ true) (sym (eqb-true b 33 i5)) refl)) (λ i6. subst (λ v. is_punctuator (v ∷ (61 ∷ [])) ≡ true) (sym (eqb-true b 61 i6)) refl)

angle_alone : (b : ℕ) → (b == 60 || b == 62) ≡ true → is_punctuator (b ∷ []) ≡ true
unfolding is_punctuator
angle_alone b h = or_both (b == 60) (b == 62) (is_punctuator (b ∷ []) ≡ true) h (λ i2. subst (λ v. is_punctuator (v ∷ []) ≡ true) (sym (eqb-true b 60 i2)) refl) (λ i2. subst (λ v. is_punctuator (v ∷ []) ≡ true) (sym (eqb-true b 62 i2)) refl)

angle_assigned : (b : ℕ) → (b == 60 || b == 62) ≡ true → is_punctuator (b ∷ (61 ∷ [])) ≡ true
unfolding is_punctuator
angle_assigned b h = or_both (b == 60) (b == 62) (is_punctuator (b ∷ (61 ∷ [])) ≡ true) h (λ i2. subst (λ v. is_punctuator (v ∷ (61 ∷ [])) ≡ true) (sym (eqb-true b 60 i2)) refl) (λ i2. subst (λ v. is_punctuator (v ∷ (61 ∷ [])) ≡ true) (sym (eqb-true b 62 i2)) refl)

angle_twice : (b : ℕ) → (b == 60 || b == 62) ≡ true → is_punctuator (b ∷ (b ∷ [])) ≡ true
unfolding is_punctuator
angle_twice b h = or_both (b == 60) (b == 62) (is_punctuator (b ∷ (b ∷ [])) ≡ true) h (λ i2. subst (λ v. is_punctuator (v ∷ (v ∷ [])) ≡ true) (sym (eqb-true b 60 i2)) refl) (λ i2. subst (λ v. is_punctuator (v ∷ (v ∷ [])) ≡ true) (sym (eqb-true b 62 i2)) refl)

angle_shift : (b : ℕ) → (b == 60 || b == 62) ≡ true → is_punctuator (b ∷ (b ∷ (61 ∷ []))) ≡ true
unfolding is_punctuator
angle_shift b h = or_both (b == 60) (b == 62) (is_punctuator (b ∷ (b ∷ (61 ∷ []))) ≡ true) h (λ i2. subst (λ v. is_punctuator (v ∷ (v ∷ (61 ∷ []))) ≡ true) (sym (eqb-true b 60 i2)) refl) (λ i2. subst (λ v. is_punctuator (v ∷ (v ∷ (61 ∷ []))) ≡ true) (sym (eqb-true b 62 i2)) refl)

dot_alone : (b : ℕ) → (b == 46) ≡ true → is_punctuator (b ∷ []) ≡ true
unfolding is_punctuator
dot_alone b h = subst (λ v. is_punctuator (v ∷ []) ≡ true) (sym (eqb-true b 46 h)) refl

dots_is : (b : ℕ) → (b == 46) ≡ true → is_punctuator (b ∷ (46 ∷ (46 ∷ []))) ≡ true
unfolding is_punctuator
dots_is b h = subst (λ v. is_punctuator (v ∷ (46 ∷ (46 ∷ []))) ≡ true) (sym (eqb-true b 46 h)) refl

minus_alone : (b : ℕ) → (b == 45) ≡ true → is_punctuator (b ∷ []) ≡ true
unfolding is_punctuator
minus_alone b h = subst (λ v. is_punctuator (v ∷ []) ≡ true) (sym (eqb-true b 45 h)) refl

arrow_is : (b : ℕ) → (b == 45) ≡ true → is_punctuator (b ∷ (62 ∷ [])) ≡ true
unfolding is_punctuator
arrow_is b h = subst (λ v. is_punctuator (v ∷ (62 ∷ [])) ≡ true) (sym (eqb-true b 45 h)) refl

decrement_is : (b : ℕ) → (b == 45) ≡ true → is_punctuator (b ∷ (45 ∷ [])) ≡ true
unfolding is_punctuator
decrement_is b h = subst (λ v. is_punctuator (v ∷ (45 ∷ [])) ≡ true) (sym (eqb-true b 45 h)) refl

minus_assigned : (b : ℕ) → (b == 45) ≡ true → is_punctuator (b ∷ (61 ∷ [])) ≡ true
unfolding is_punctuator
minus_assigned b h = subst (λ v. is_punctuator (v ∷ (61 ∷ [])) ≡ true) (sym (eqb-true b 45 h)) refl

hash_alone : (b : ℕ) → (b == 35) ≡ true → is_punctuator (b ∷ []) ≡ true
unfolding is_punctuator
hash_alone b h = subst (λ v. is_punctuator (v ∷ []) ≡ true) (sym (eqb-true b 35 h)) refl

hashes_is : (b : ℕ) → (b == 35) ≡ true → is_punctuator (b ∷ (35 ∷ [])) ≡ true
unfolding is_punctuator
hashes_is b h = subst (λ v. is_punctuator (v ∷ (35 ∷ [])) ≡ true) (sym (eqb-true b 35 h)) refl

-- two bytes, of which the second is known
two_is : (b c : ℕ) (z : List ℕ) → take 1 z ≡ c ∷ [] → is_punctuator (b ∷ (c ∷ [])) ≡ true → Spelled b z 2
two_is b c z e h = rw e h

three_is : (b c d : ℕ) (z : List ℕ) → take 2 z ≡ c ∷ (d ∷ []) → is_punctuator (b ∷ (c ∷ (d ∷ []))) ≡ true → Spelled b z 3
three_is b c d z e h = rw e h

doubled_not_zero : (b : ℕ) → is_doubled b ≡ true → (0 == b) ≡ false
doubled_not_zero b h = or_both (b == 43 || b == 38) (b == 124) ((0 == b) ≡ false) h (λ i3. or_both (b == 43) (b == 38) ((0 == b) ≡ false) i3 (λ i2. subst (λ v. (0 == v) ≡ false) (sym (eqb-true b 43 i2)) refl) (λ i2. subst (λ v. (0 == v) ≡ false) (sym (eqb-true b 38 i2)) refl)) (λ i3. subst (λ v. (0 == v) ≡ false) (sym (eqb-true b 124 i3)) refl)

angle_not_zero : (b : ℕ) → (b == 60 || b == 62) ≡ true → (0 == b) ≡ false
angle_not_zero b h = or_both (b == 60) (b == 62) ((0 == b) ≡ false) h (λ i2. subst (λ v. (0 == v) ≡ false) (sym (eqb-true b 60 i2)) refl) (λ i2. subst (λ v. (0 == v) ≡ false) (sym (eqb-true b 62 i2)) refl)

minus_two : (b : ℕ) (z : List ℕ) → (b == 45) ≡ true → (head_of z == 62 || head_of z == 45 || head_of z == 61) ≡ true → Spelled b z 2
minus_two b z h k = or_both (head_of z == 62 || head_of z == 45) (head_of z == 61) (Spelled b z 2) k
    (λ l. or_both (head_of z == 62) (head_of z == 45) (Spelled b z 2) l (λ o. two_is b 62 z (take_one 62 z refl o) (arrow_is b h)) (λ o. two_is b 45 z (take_one 45 z refl o) (decrement_is b h)))
    (λ l. two_is b 61 z (take_one 61 z refl l) (minus_assigned b h))

doubled_two : (b : ℕ) (z : List ℕ) → is_doubled b ≡ true → (head_of z == b || head_of z == 61) ≡ true → Spelled b z 2
doubled_two b z h k = or_both (head_of z == b) (head_of z == 61) (Spelled b z 2) k
    (λ l. two_is b b z (take_one b z (doubled_not_zero b h) l) (doubled_twice b h)) (λ l. two_is b 61 z (take_one 61 z refl l) (doubled_assigned b h))

pub spelled_is : (b : ℕ) (z : List ℕ) → Spelled b z (punctuator_length b (head_of z) (head_of (rest_of z)))
unfolding punctuator_length
spelled_is b z =
    let n : ℕ = head_of z in
    let m : ℕ = head_of (rest_of z) in
    let P : ℕ → Type 0 = Spelled b z in
    cond_both (is_single b) 1 _ P (λ i. single_is b i)
    (λ i. cond_both (b == 46) (if n == 46 && m == 46 then 3 else 1) _ P (λ j. cond_both (n == 46 && m == 46) 3 1 P
    (λ k. let w = both_true _ _ k in three_is b 46 46 z (take_two 46 46 z refl refl w.0 w.1) (dots_is b j)) (λ k. dot_alone b j))
    (λ j. cond_both (b == 45) (if n == 62 || n == 45 || n == 61 then 2 else 1) _ P (λ k. cond_both (n == 62 || n == 45 || n == 61) 2 1 P (λ l. minus_two b z k l) (λ l. minus_alone b k))
    (λ k. cond_both (is_doubled b) (if n == b || n == 61 then 2 else 1) _ P (λ l. cond_both (n == b || n == 61) 2 1 P (λ o. doubled_two b z l o) (λ o. doubled_alone b l))
    (λ l. cond_both (is_assigned b) (if n == 61 then 2 else 1) _ P (λ o. cond_both (n == 61) 2 1 P (λ u. two_is b 61 z (take_one 61 z refl u) (assigned_is b o)) (λ u. assigned_alone b o))
    (λ o. cond_both (b == 35) (if n == 35 then 2 else 1) _ P (λ u. cond_both (n == 35) 2 1 P (λ v. two_is b 35 z (take_one 35 z refl v) (hashes_is b u)) (λ v. hash_alone b u))
    (λ u. cond_both (b == 60 || b == 62) (shifted_length b n m) 0 P (λ v. cond_both (n == b) (if m == 61 then 3 else 2) (if n == 61 then 2 else 1) P
    (λ w. cond_both (m == 61) 3 2 P (λ x. three_is b b 61 z (take_two b 61 z (angle_not_zero b v) refl w x) (angle_shift b v)) (λ x. two_is b b z (take_one b z (angle_not_zero b v) w) (angle_twice b v)))
    (λ w. cond_both (n == 61) 2 1 P (λ x. two_is b 61 z (take_one 61 z refl x) (angle_assigned b v)) (λ x. angle_alone b v)))
    (λ v. tt)))))))
