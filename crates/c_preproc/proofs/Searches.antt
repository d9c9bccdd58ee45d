-- Searching goes along the names.
use Rattle.std.proofs.Common.{◌≡◌, ◌≤◌, ◌+◌, inl, inr, ℕ, Bool, zero, suc, ◌<◌, List, [], ◌∷◌, Option, Some, None, Result, Ok, Err, IfErr, map, drop, length, string_bytes, get_or, refl, sym, ◌∙◌, ap, subst, arith}
use Rattle.cc_base.specs.Outside.{Files, Holds, Lacks, Rose, RoseBeyond, HoldsTooLong}
use Rattle.cc_base.specs.declared.refusals.Stop.{Stop}
use Rattle.cc_base.specs.declared.refusals.Stop.TheVariants as stop
use Rattle.cc_base.specs.declared.refusals.Refusal.{Refusal}
use Rattle.cc_base.specs.declared.refusals.Refusal.TheVariants as refusal
use Rattle.cc_base.specs.declared.refusals.Fault.{Fault}
use Rattle.c_layout.specs.declared.data_model.Model.{Model}
use Rattle.c_preproc.specs.Searching.{Found, found_of, LackAll, FirstHeld, Searches, built_in, searched_names}
use Rattle.c_preproc.specs.declared.found_file.FoundFile.{FoundFile}
use Rattle.c_preproc.specs.Units.{Sought}
use Rattle.c_preproc.specs.Told.{SearchGives}
use Rattle.c_preproc.specs.Reading.{found_as, ReadAnswers, SearchAnswers}
use Rattle.c_preproc.specs.Causes.{Seen, seen_of, including, IsMissing, IsCausedBy, IsCaused, IsCausedFrom, Went}

pub rose_earlier : (a b c : ℕ) → a ≤ b → Rose b c → Rose a c
rose_earlier a b c h r = omega arith

pub rose_later : (a b c : ℕ) → b ≤ c → Rose a b → Rose a c
rose_later a b c h r = omega arith

pub beyond_earlier : (m a b c : ℕ) → a ≤ b → RoseBeyond m b c → RoseBeyond m a c
beyond_earlier m a b c h r = omega arith

pub went_on : (f0 f1 f2 : Option Files) (a0 a1 a2 b0 b1 b2 : ℕ) → Went f0 f1 a0 a1 b0 b1 → Went f1 f2 a1 a2 b1 b2 → Went f0 f2 a0 a2 b0 b2
went_on f0 f1 f2 a0 a1 a2 b0 b1 b2 v w = record {
  same = w.same ∙ v.same;
  faults_rise = let p = v.faults_rise in let q = w.faults_rise in omega arith;
  taken_rises = let p = v.taken_rises in let q = w.taken_rises in omega arith;
}

-- a search that missed a name goes on with the others
lack_more : (files : Option Files) (a b now : ℕ) (n : List ℕ) (ns : List (List ℕ)) → Lacks files n (Rose a b) → b ≤ now → LackAll files a now ns → LackAll files a now (n ∷ ns)
lack_more None a b now n ns h k l = rose_later a b now k h
lack_more (Some fs) a b now n ns h k l = (h, l)

first_more : (files : Option Files) (a b now : ℕ) (n : List ℕ) (ns : List (List ℕ)) (f : Found) → Lacks files n (Rose a b) → FirstHeld files a now ns f → FirstHeld files a now (n ∷ ns) f
first_more None a b now n ns f h k = tt
first_more (Some fs) a b now n ns f h k = inr (h, k)

pub miss : (files : Option Files) (a b now : ℕ) (n : List ℕ) (ns : List (List ℕ)) (name : List ℕ) (model : Model) (o : Option Found) → Lacks files n (Rose a b) → b ≤ now → Searches files a now ns name model o → Searches files a now (n ∷ ns) name model o
miss files a b now n ns name model None h k s = (lack_more files a b now n ns h k s.0, s.1)
miss files a b now n ns name model (Some f) h k (inl s) = inl (first_more files a b now n ns f h s)
miss files a b now n ns name model (Some f) h k (inr s) = inr (lack_more files a b now n ns h k s.0, s.1)

pub hit : (files : Option Files) (a now : ℕ) (n : List ℕ) (ns : List (List ℕ)) (name : List ℕ) (model : Model) (m bytes : List ℕ) → m ≡ n → Holds files n bytes → Searches files a now (n ∷ ns) name model (Some (found_of m bytes))
hit None a now n ns name model m bytes e h = inl tt
hit (Some fs) a now n ns name model m bytes e h = inl (inl (sym e, h))

pub at_end : (files : Option Files) (a now : ℕ) (name : List ℕ) (model : Model) (o : Option Found) → o ≡ built_in name model → Searches files a now [] name model o
at_end files a now name model None e = (tt, sym e)
at_end files a now name model (Some f) e = inr (tt, sym e)

lacks_earlier : (files : Option Files) (a b c : ℕ) (n : List ℕ) → a ≤ b → Lacks files n (Rose b c) → Lacks files n (Rose a c)
lacks_earlier None a b c n h r = rose_earlier a b c h r
lacks_earlier (Some fs) a b c n h r = r

-- what is known behind some of the names
pub record Along (f0 f1 : Option Files) (a0 a1 b0 b1 : ℕ) (names left : List (List ℕ)) : Type 0 where
  pub went : Went f0 f1 a0 a1 b0 b1
  pub goes : (now : ℕ) (name : List ℕ) (model : Model) (o : Option Found) → a1 ≤ now → Searches f0 a0 now left name model o → Searches f0 a0 now names name model o

pub along_more : (f0 f1 f2 : Option Files) (a0 a1 a2 b0 b1 b2 : ℕ) (names left rest : List (List ℕ)) (n : List ℕ) → Along f0 f1 a0 a1 b0 b1 names left → left ≡ n ∷ rest → Went f1 f2 a1 a2 b1 b2 → Lacks f1 n (Rose a1 a2) → Along f0 f2 a0 a2 b0 b2 names rest
along_more f0 f1 f2 a0 a1 a2 b0 b1 b2 names left rest n l e w h = record {
  went = went_on f0 f1 f2 a0 a1 a2 b0 b1 b2 l.went w;
  goes = λ now name model o k s.
      let rise = w.faults_rise in let first = l.went.faults_rise in
      let lack : Lacks f0 n (Rose a0 a2) = lacks_earlier f0 a0 a1 a2 n first (subst (λ v. Lacks v n (Rose a1 a2)) l.went.same h) in
      l.goes now name model o (omega arith) (subst (λ v. Searches f0 a0 now v name model o) (sym e) (miss f0 a0 a2 now n rest name model o lack k s));
}

-- a cause that came later is one from the start on
too_long_earlier : (f0 f1 : Option Files) (b0 b1 b2 : ℕ) (name : List ℕ) → f1 ≡ f0 → b0 ≤ b1 → HoldsTooLong 1048576 f1 name (RoseBeyond 1048576 b1 b2) → HoldsTooLong 1048576 f0 name (RoseBeyond 1048576 b0 b2)
too_long_earlier f0 f1 b0 b1 b2 name e h k = go f0 (subst (λ v. HoldsTooLong 1048576 v name (RoseBeyond 1048576 b1 b2)) e k)
  where
    go : (f : Option Files) → HoldsTooLong 1048576 f name (RoseBeyond 1048576 b1 b2) → HoldsTooLong 1048576 f name (RoseBeyond 1048576 b0 b2)
    go None r = beyond_earlier 1048576 b0 b1 b2 h r
    go (Some fs) r = r

lack_all_earlier : (files : Option Files) (a b c : ℕ) (ns : List (List ℕ)) → a ≤ b → LackAll files b c ns → LackAll files a c ns
lack_all_earlier None a b c [] h l = tt
lack_all_earlier (Some fs) a b c [] h l = tt
lack_all_earlier None a b c (n ∷ ns) h l = rose_earlier a b c h l
lack_all_earlier (Some fs) a b c (n ∷ ns) h l = (l.0, lack_all_earlier (Some fs) a b c ns h l.1)

caused_by_earlier : (f0 f1 f2 : Option Files) (a0 a1 a2 b0 b1 b2 : ℕ) (dirs : List (List ℕ)) (model : Model) (names : List (List ℕ)) (f : Fault) (why : Refusal) → Went f0 f1 a0 a1 b0 b1
    → IsCausedBy (seen_of f1 a1 a2 b1 b2) dirs model names f why → IsCausedBy (seen_of f0 a0 a2 b0 b2) dirs model names f why
caused_by_earlier f0 f1 f2 a0 a1 a2 b0 b1 b2 dirs model names f (refusal.FileTooLong count limit) w c =
    (c.0, c.1, c.2, c.3, c.4, c.5, too_long_earlier f0 f1 b0 b1 b2 c.0 w.same w.taken_rises c.6)
caused_by_earlier f0 f1 f2 a0 a1 a2 b0 b1 b2 dirs model names f (refusal.HeaderMissing name) w c = record {
  quoted = c.quoted;
  file = c.file;
  lacked = lack_all_earlier f0 a0 a1 a2 (searched_names (including names c.file c.quoted) dirs name) w.faults_rise (subst (λ v. LackAll v a1 a2 (searched_names (including names c.file c.quoted) dirs name)) w.same c.lacked);
  no_built_in = c.no_built_in;
}
caused_by_earlier f0 f1 f2 a0 a1 a2 b0 b1 b2 dirs model names f why w c = c

pub caused_earlier : (f0 f1 f2 : Option Files) (a0 a1 a2 b0 b1 b2 : ℕ) (dirs : List (List ℕ)) (model : Model) (names : List (List ℕ)) (s : Stop) → Went f0 f1 a0 a1 b0 b1
    → IsCaused (seen_of f1 a1 a2 b1 b2) dirs model names s → IsCaused (seen_of f0 a0 a2 b0 b2) dirs model names s
caused_earlier f0 f1 f2 a0 a1 a2 b0 b1 b2 dirs model names (stop.Refused f) w c = caused_by_earlier f0 f1 f2 a0 a1 a2 b0 b1 b2 dirs model names f f.refusal w c
caused_earlier f0 f1 f2 a0 a1 a2 b0 b1 b2 dirs model names stop.ReadFault w c = rose_earlier a0 a1 a2 w.faults_rise c
caused_earlier f0 f1 f2 a0 a1 a2 b0 b1 b2 dirs model names stop.NotHeld w c = c
caused_earlier f0 f1 f2 a0 a1 a2 b0 b1 b2 dirs model names stop.Memory w c = c

pub drop_at : {A : Type 0} (text : A → List ℕ) (xs : List A) (k : ℕ) (x : A) → k < length xs → x ≡ get_or xs k x → map text (drop k xs) ≡ text x ∷ map text (drop (k + 1) xs)
drop_at text [] k x h e = absurd (omega arith)
drop_at text (y ∷ ys) zero x h e = ap (λ v. text v ∷ map text ys) (sym e)
drop_at text (y ∷ ys) (suc k) x h e = let m : suc k + 1 ≡ suc (k + 1) = omega arith in rw m (drop_at text ys k x (omega arith) e)

pub drop_all : {A : Type 0} (text : A → List ℕ) (xs : List A) (k : ℕ) → length xs ≤ k → map text (drop k xs) ≡ []
drop_all text [] zero h = refl
drop_all text [] (suc k) h = refl
drop_all text (x ∷ xs) zero h = absurd (omega arith)
drop_all text (x ∷ xs) (suc k) h = drop_all text xs k (omega arith)

-- the search stops at the file that is held
pub found_here : {A : Type 0} (text : A → List ℕ) (f0 f1 f2 : Option Files) (a0 a1 a2 b0 b1 b2 : ℕ) (dirs : List (List ℕ)) (names : List (List ℕ)) (xs : List A) (k : ℕ) (x : A) (n name : List ℕ) (model : Model) (o : Option FoundFile) (f : FoundFile)
    → Along f0 f1 a0 a1 b0 b1 (map text xs) (map text (drop k xs)) → k < length xs → x ≡ get_or xs k x → n ≡ text x → Went f1 f2 a1 a2 b1 b2
    → ReadAnswers (seen_of f1 a1 a2 b1 b2) dirs n model names (Ok o) → o ≡ Some f
    → Searches f0 a0 a2 (map text xs) name model (Some (found_as f))
found_here text f0 f1 f2 a0 a1 a2 b0 b1 b2 dirs names xs k x n name model o f l h e t w r i =
    let read : ReadAnswers (seen_of f1 a1 a2 b1 b2) dirs n model names (Ok (Some f)) = subst (λ v. ReadAnswers (seen_of f1 a1 a2 b1 b2) dirs n model names (Ok v)) i r in
    let held : Holds f0 n f.bytes.items = subst (λ v. Holds v n f.bytes.items) l.went.same read.1 in
    l.goes a2 name model (Some (found_as f)) w.faults_rise (subst (λ v. Searches f0 a0 a2 v name model (Some (found_as f))) (sym (drop_at text xs k x h e))
    (hit f0 a0 a2 (text x) (map text (drop (k + 1) xs)) name model (string_bytes f.name) f.bytes.items (read.0 ∙ t) (subst (λ v. Holds f0 v f.bytes.items) t held)))

-- the search goes on behind a name that is not held
pub missed_here : {A : Type 0} (text : A → List ℕ) (f0 f1 f2 : Option Files) (a0 a1 a2 b0 b1 b2 : ℕ) (dirs : List (List ℕ)) (names : List (List ℕ)) (xs : List A) (k : ℕ) (x : A) (n : List ℕ) (model : Model) (o : Option FoundFile)
    → Along f0 f1 a0 a1 b0 b1 (map text xs) (map text (drop k xs)) → k < length xs → x ≡ get_or xs k x → n ≡ text x → Went f1 f2 a1 a2 b1 b2
    → ReadAnswers (seen_of f1 a1 a2 b1 b2) dirs n model names (Ok o) → o ≡ None
    → Along f0 f2 a0 a2 b0 b2 (map text xs) (map text (drop (k + 1) xs))
missed_here text f0 f1 f2 a0 a1 a2 b0 b1 b2 dirs names xs k x n model o l h e t w r i =
    along_more f0 f1 f2 a0 a1 a2 b0 b1 b2 (map text xs) (map text (drop k xs)) (map text (drop (k + 1) xs)) (text x) l (drop_at text xs k x h e) w
    (subst (λ v. Lacks f1 v (Rose a1 a2)) t (subst (λ v. ReadAnswers (seen_of f1 a1 a2 b1 b2) dirs n model names (Ok v)) i r))

-- a header that is not found is missing
pub missing_is : {A : Type 0} (text : A → List ℕ) (f0 f1 : Option Files) (a0 a1 b0 b1 : ℕ) (dirs : List (List ℕ)) (model : Model) (names : List (List ℕ)) (listed xs : List A) (one two three own : List ℕ) (includer : Option (List ℕ)) (before : List (List ℕ)) (file : ℕ) (quoted : Bool) (o : Option FoundFile)
    → includer ≡ including before file quoted → names ≡ before
    → listed ≡ xs → map text xs ≡ searched_names includer dirs one → one ≡ own → two ≡ own → three ≡ own
    → SearchAnswers (seen_of f0 a0 a1 b0 b1) dirs (map text listed) two model names (Ok o) → o ≡ None → IsMissing (seen_of f0 a0 a1 b0 b1) dirs model names three
missing_is text f0 f1 a0 a1 b0 b1 dirs model names listed xs one two three own includer before file quoted o from same e h i j k s n =
    let t : SearchAnswers (seen_of f0 a0 a1 b0 b1) dirs (map text listed) two model names (Ok None) = subst (λ v. SearchAnswers (seen_of f0 a0 a1 b0 b1) dirs (map text listed) two model names (Ok v)) n s in
    let list : map text listed ≡ searched_names includer dirs three = ap (map text) e ∙ (h ∙ ap (λ v. searched_names includer dirs v) (i ∙ sym k)) in
    let beside_it : includer ≡ including names file quoted = from ∙ ap (λ v. including v file quoted) (sym same) in
    record {
      quoted = quoted;
      file = file;
      lacked = subst (λ v. LackAll f0 a0 a1 v) (list ∙ ap (λ v. searched_names v dirs three) beside_it) t.0;
      no_built_in = subst (λ v. built_in v model ≡ None) (j ∙ sym k) t.1;
    }

pub caused_from : (main : List ℕ) (seen : Seen) (dirs : List (List ℕ)) (model : Model) (names : List (List ℕ)) (s : Stop) → IsCaused seen dirs model names s → IsCausedFrom main seen dirs model names s
caused_from main seen dirs model names (stop.Refused f) c = c
caused_from main seen dirs model names stop.NotHeld c = absurd c
caused_from main seen dirs model names stop.ReadFault c = c
caused_from main seen dirs model names stop.Memory c = c

-- the causes behind the reading of the main file are causes from the start on
pub if_caused_from : {A : Type 0} (r : Result A Stop) (main : List ℕ) (f0 f1 f2 : Option Files) (a0 a1 a2 b0 b1 b2 : ℕ) (dirs : List (List ℕ)) (model : Model) (names : List (List ℕ)) → f1 ≡ f0 → a0 ≤ a1 → b0 ≤ b1
    → IfErr r (IsCaused (seen_of f1 a1 a2 b1 b2) dirs model names) → IfErr r (IsCausedFrom main (seen_of f0 a0 a2 b0 b2) dirs model names)
if_caused_from (Ok x) main f0 f1 f2 a0 a1 a2 b0 b1 b2 dirs model names e h k c = tt
if_caused_from (Err s) main f0 f1 f2 a0 a1 a2 b0 b1 b2 dirs model names e h k c = caused_from main (seen_of f0 a0 a2 b0 b2) dirs model names s
    (caused_earlier f0 f1 f2 a0 a1 a2 b0 b1 b2 dirs model names s (record { same = e; faults_rise = h; taken_rises = k }) c)

-- a search that finds nothing leaves the list of files as it was
pub names_kept : (s : Sought) (before now : List (List ℕ)) (o : Option FoundFile) → SearchGives s before now (Ok o) → o ≡ None → now ≡ before
names_kept s before now o g n = (subst (λ v. SearchGives s before now (Ok v)) n g).1
