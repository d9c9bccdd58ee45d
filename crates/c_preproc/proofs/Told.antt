-- What is read and found is what the definition gives, where the files are told.
use Rattle.std.proofs.Common.{◌≡◌, ◌≤◌, ◌<◌, ◌+◌, ℕ, Bool, true, false, cond, nat_le, List, [], ◌∷◌, Option, Some, None, Result, Ok, Err, IfOk, IfErr, map, drop, length, string_bytes, get_or, refl, sym, ◌∙◌, ap, subst, arith}
use Rattle.std.proofs.lemmas.Bool.Decides.{nat_tests}
use Rattle.cc_base.specs.Outside.{Files, file_at, Holds, Lacks, HoldsTooLong}
use Rattle.cc_base.specs.declared.refusals.Stop.{Stop}
use Rattle.cc_base.specs.declared.refusals.Stop.TheVariants as stop
use Rattle.c_layout.specs.declared.data_model.Model.{Model}
use Rattle.c_preproc.specs.declared.found_file.FoundFile.{FoundFile}
use Rattle.c_preproc.specs.Searching.{Found, found_of, built_in}
use Rattle.c_preproc.specs.Reading.{found_as, found_if}
use Rattle.c_preproc.specs.Units.{Sought, header_sought, read_of, or_next, sought, refused, long_refused}
use Rattle.c_preproc.specs.Units.Sought.{found, too_long, nothing}
use Rattle.c_preproc.specs.Told.{IsLongStop, IsRead, IsSought, IsFind, ReadGives, Reads, SearchGives, Seeks}
use Rattle.c_preproc.proofs.Searches.{drop_at}

-- ---- one read

within : (n most : ℕ) → n ≤ most → nat_le n most ≡ true
within n most h = grind (arith, nat_tests)

beyond : (n most : ℕ) → most < n → nat_le n most ≡ false
beyond n most h = grind (arith, nat_tests)

held_is : (t : Option Files) (name bytes : List ℕ) → Holds t name bytes → length bytes ≤ 1048576 → IsRead t name (Some (found (found_of name bytes)))
held_is None name bytes h k = tt
held_is (Some files) name bytes h k = ap (read_of name) h ∙ ap (λ b. Some (cond b (found (found_of name bytes)) (too_long name))) (within (length bytes) 1048576 k)

pub read_held : (t : Option Files) (name : List ℕ) (f : FoundFile) (names : List (List ℕ)) → Holds t name f.bytes.items → length f.bytes.items ≤ 1048576 → string_bytes f.name ≡ name → Reads t name names names (Ok (Some f))
read_held t name f names h k e = record {
  read = Some (found (found_of name f.bytes.items));
  is = held_is t name f.bytes.items h k;
  gives = (ap (λ v. Some (found (found_of v f.bytes.items))) (sym e), refl);
}

lacks_is : (t : Option Files) (name : List ℕ) (why : Type 0) → Lacks t name why → IsRead t name None
lacks_is None name why h = tt
lacks_is (Some files) name why h = ap (read_of name) h

pub read_missing : (t : Option Files) (name : List ℕ) (names : List (List ℕ)) (why : Type 0) → Lacks t name why → Reads t name names names (Ok None)
read_missing t name names why h = record { read = None; is = lacks_is t name why h; gives = (refl, refl) }

long_is : (t : Option Files) (name : List ℕ) (why : Type 0) → HoldsTooLong 1048576 t name why → IsRead t name (Some (too_long name))
long_is None name why h = tt
long_is (Some files) name why h = ap (read_of name) h.1 ∙ ap (λ b. Some (cond b (found (found_of name h.0)) (too_long name))) (beyond (length h.0) 1048576 h.2)

long_gives : (name : List ℕ) (before now : List (List ℕ)) (s : Stop) → IsLongStop name before now s → ReadGives (Some (too_long name)) name before now (Err s)
long_gives name before now (stop.Refused f) h = (refl, h)
long_gives name before now stop.NotHeld h = h
long_gives name before now stop.ReadFault h = tt
long_gives name before now stop.Memory h = tt

pub read_long : (t : Option Files) (name : List ℕ) (before now : List (List ℕ)) (why : Type 0) (s : Stop) → HoldsTooLong 1048576 t name why → IsLongStop name before now s → Reads t name before now (Err s)
read_long t name before now why s h i = record { read = Some (too_long name); is = long_is t name why h; gives = long_gives name before now s i }

some_read : Option Files → List ℕ → Option Sought
some_read None name = None
some_read (Some files) name = read_of name (file_at files name)

some_read_is : (t : Option Files) (name : List ℕ) → IsRead t name (some_read t name)
unfolding some_read
some_read_is None name = tt
some_read_is (Some files) name = refl

pub read_memory : (t : Option Files) (name : List ℕ) (before now : List (List ℕ)) → Reads t name before now (Err stop.Memory)
read_memory t name before now = record { read = some_read t name; is = some_read_is t name; gives = tt }

pub read_fault : (t : Option Files) (name : List ℕ) (before now : List (List ℕ)) → Reads t name before now (Err stop.ReadFault)
read_fault t name before now = record { read = some_read t name; is = some_read_is t name; gives = tt }

pub reads_as : (t u : Option Files) (name : List ℕ) (before now : List (List ℕ)) (r : Result (Option FoundFile) Stop) → t ≡ u → Reads t name before now r → Reads u name before now r
reads_as t u name before now r e h = subst (λ v. Reads v name before now r) e h

-- ---- the search along the names

-- what is found behind some of the names is found from the first on
pub record Seeking (t : Option Files) (header : Option Found) (names rest : List (List ℕ)) (first now : List (List ℕ)) : Type 0 where
  pub goes : (s : Sought) → IsSought t rest header s → IsSought t names header s
  pub same : now ≡ first

next_is : (t : Option Files) (n : List ℕ) (ns : List (List ℕ)) (header : Option Found) (s : Sought) → IsRead t n None → IsSought t ns header s → IsSought t (n ∷ ns) header s
next_is None n ns header s e h = tt
next_is (Some files) n ns header s e h = ap (λ v. or_next v (sought files ns header)) e ∙ h

here_is : (t : Option Files) (n : List ℕ) (ns : List (List ℕ)) (header : Option Found) (s : Sought) → IsRead t n (Some s) → IsSought t (n ∷ ns) header s
here_is None n ns header s e = tt
here_is (Some files) n ns header s e = ap (λ v. or_next v (sought files ns header)) e

pub seek_missed : {A : Type 0} (text : A → List ℕ) (t : Option Files) (header : Option Found) (xs : List A) (k : ℕ) (x : A) (n : List ℕ) (first before now : List (List ℕ)) (o : Option FoundFile)
    → Seeking t header (map text xs) (map text (drop k xs)) first before → k < length xs → x ≡ get_or xs k x → n ≡ text x → Reads t n before now (Ok o) → o ≡ None
    → Seeking t header (map text xs) (map text (drop (k + 1) xs)) first now
seek_missed text t header xs k x n first before now o g h i e r m =
    let gives : ReadGives r.read n before now (Ok None) = subst (λ v. ReadGives r.read n before now (Ok v)) m r.gives in
    let none : IsRead t (text x) None = subst (λ v. IsRead t v None) e (subst (IsRead t n) gives.0 r.is) in
    record {
      goes = λ s l. g.goes s (subst (λ v. IsSought t v header s) (sym (drop_at text xs k x h i)) (next_is t (text x) (map text (drop (k + 1) xs)) header s none l));
      same = gives.1 ∙ g.same;
    }

found_at : {A : Type 0} (text : A → List ℕ) (t : Option Files) (header : Option Found) (xs : List A) (k : ℕ) (x : A) (n : List ℕ) (first before : List (List ℕ)) (s : Sought)
    → Seeking t header (map text xs) (map text (drop k xs)) first before → k < length xs → x ≡ get_or xs k x → n ≡ text x → IsRead t n (Some s) → IsSought t (map text xs) header s
found_at text t header xs k x n first before s g h i e r =
    g.goes s (subst (λ v. IsSought t v header s) (sym (drop_at text xs k x h i)) (here_is t (text x) (map text (drop (k + 1) xs)) header s (subst (λ v. IsRead t v (Some s)) e r)))

pub seek_found : {A : Type 0} (text : A → List ℕ) (t : Option Files) (header : Option Found) (xs : List A) (k : ℕ) (x : A) (n : List ℕ) (first before now : List (List ℕ)) (o : Option FoundFile) (f : FoundFile)
    → Seeking t header (map text xs) (map text (drop k xs)) first before → k < length xs → x ≡ get_or xs k x → n ≡ text x → Reads t n before now (Ok o) → o ≡ Some f
    → Seeks t (map text xs) header first now (Ok (Some f))
seek_found text t header xs k x n first before now o f g h i e r m =
    let gives : ReadGives r.read n before now (Ok (Some f)) = subst (λ v. ReadGives r.read n before now (Ok v)) m r.gives in
    record {
      sought = found (found_as f);
      is = found_at text t header xs k x n first before (found (found_as f)) g h i e (subst (IsRead t n) gives.0 r.is);
      gives = (refl, gives.1 ∙ g.same);
    }

some_sought : Option Files → List (List ℕ) → Option Found → Sought
some_sought None names header = nothing
some_sought (Some files) names header = sought files names header

some_sought_is : (t : Option Files) (names : List (List ℕ)) (header : Option Found) → IsSought t names header (some_sought t names header)
unfolding some_sought
some_sought_is None names header = tt
some_sought_is (Some files) names header = refl

pub seek_refused : {A : Type 0} (text : A → List ℕ) (t : Option Files) (header : Option Found) (xs : List A) (k : ℕ) (x : A) (n : List ℕ) (first before now : List (List ℕ)) (s : Stop)
    → Seeking t header (map text xs) (map text (drop k xs)) first before → k < length xs → x ≡ get_or xs k x → n ≡ text x → Reads t n before now (Err s)
    → Seeks t (map text xs) header first now (Err s)
seek_refused text t header xs k x n first before now (stop.Refused f) g h i e r = record {
  sought = too_long n;
  is = found_at text t header xs k x n first before (too_long n) g h i e (subst (IsRead t n) r.gives.0 r.is);
  gives = (n, refl, r.gives.1 ∙ ap (long_refused n) g.same);
}
seek_refused text t header xs k x n first before now stop.NotHeld g h i e r = absurd r.gives
seek_refused text t header xs k x n first before now stop.ReadFault g h i e r = record { sought = some_sought t (map text xs) header; is = some_sought_is t (map text xs) header; gives = tt }
seek_refused text t header xs k x n first before now stop.Memory g h i e r = record { sought = some_sought t (map text xs) header; is = some_sought_is t (map text xs) header; gives = tt }

end_is : (t : Option Files) (header : Option Found) → IsSought t [] header (header_sought header)
end_is None header = tt
end_is (Some files) header = refl

pub seek_built_in : (t : Option Files) (names rest first now : List (List ℕ)) (name : List ℕ) (model : Model) (r : Result (Option FoundFile) Stop) → Seeking t (built_in name model) names rest first now → rest ≡ []
    → IfOk r (λ o. found_if o ≡ built_in name model) → IfErr r (λ s. s ≡ stop.Memory) → Seeks t names (built_in name model) first now r
seek_built_in t names rest first now name model r g e v m = record {
  sought = header_sought (built_in name model);
  is = g.goes (header_sought (built_in name model)) (subst (λ x. IsSought t x (built_in name model) (header_sought (built_in name model))) (sym e) (end_is t (built_in name model)));
  gives = given r v m;
}
  where
    given : (r : Result (Option FoundFile) Stop) → IfOk r (λ o. found_if o ≡ built_in name model) → IfErr r (λ s. s ≡ stop.Memory) → SearchGives (header_sought (built_in name model)) first now r
    given (Ok None) v m = (ap header_sought (sym v), g.same)
    given (Ok (Some f)) v m = (ap header_sought (sym v), g.same)
    given (Err s) v m = subst (λ x. SearchGives (header_sought (built_in name model)) first now (Err x)) (sym m) tt

-- ---- a way of finding files that finds this

pub find_by : Option Files → Sought → List (List ℕ) → Option Found → Sought
find_by None s names header = s
find_by (Some files) s names header = sought files names header

pub find_by_is : (t : Option Files) (s : Sought) → IsFind t (find_by t s)
unfolding find_by
find_by_is None s = tt
find_by_is (Some files) s = refl

pub find_by_finds : (t : Option Files) (s : Sought) (names : List (List ℕ)) (header : Option Found) → IsSought t names header s → find_by t s names header ≡ s
unfolding find_by
find_by_finds None s names header h = refl
find_by_finds (Some files) s names header h = h
