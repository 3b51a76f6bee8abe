-- The lines of a filter: what is read from them is what they say, and what they say is read from them.
use Rattle.std.proofs.Common.{◌≡◌, ℕ, ◌+◌, ◌-◌, ◌≤◌, List, [], ◌∷◌, ◌++◌, length, map, refl, ap, sym, ◌∙◌, Bool, true, false, ◌&&◌, Option, Some}
use Rattle.std.proofs.Common.{None, subst, arith, slice_get}
use Rattle.std.specs.Prelude.{codes, if◌then◌else◌}
use Rattle.std.specs.Cmp.Lexicographic.{nat_list_cmp_total}
use Rattle.std.specs.List.{AllByRecursion}
use Rattle.std.specs.List.Sorted.{IsStrictlySortedBy}
use Rattle.std.specs.Str.{bytes_eq}
use Rattle.std.proofs.lemmas.List.{length-append}
use Rattle.std.proofs.lemmas.Option.{same_Some}
use Rattle.std.proofs.lemmas.Slice.Eq.{bytes_eq-Decides}
use Rattle.osm_model.specs.Filter.{AreRising, FilterValue, IsFilter, everything, has_kind}
use Rattle.osm_model.specs.Limits.{max_keys}
use Rattle.osm_model.specs.Text.{IsText, bytes_cmp}
use Rattle.osm_opl.specs.Escape.{SpellsText}
use Rattle.osm_opl.specs.Reading.{text_at}
use Rattle.osm_opl.specs.Written.{escaped_text}
use Rattle.osm_opl.proofs.EscapeLaws.{text_again, text_lacks, text_takes}
use Rattle.osm_opl.proofs.EscapeLemmas.{text_is}
use Rattle.osm_opl.proofs.ListLaws.{line_feed}
use Rattle.osm_opl.proofs.WrittenTexts.{text_is_spelled}
use Rattle.osm_reading.specs.Pieces.{Lacks, cut_at}
use Rattle.osm_reading.specs.Answers.{and_then}
use Rattle.osm_reading.proofs.PieceLemmas.{cut_again, cut_takes}
use Rattle.osm_reading.proofs.StepLemmas.{both_held, guard_some, some_then}
use Rattle.osm_save.specs.Filters.{TellsFilter, filter_lines, kinds_text, told_lines}
use Rattle.osm_save.specs.Lines.{ended, list_lines}
use Rattle.osm_save.specs.Reading.{after_word, filter_at, filter_lines_at, filter_with, have_letters, is_above}
use Rattle.osm_save.specs.Reading.{key_at, keys_at, kinds_at, kinds_in, last_of, letters_at}
use Rattle.osm_save.specs.declared.filter.Kinds.{Kinds}
use Rattle.osm_save.specs.declared.version.Version.{Version}
use Rattle.osm_save.specs.declared.version.Version.TheVariants.{One, Three, Two}
use Rattle.osm_save.proofs.TextLemmas.{before, ended_before}
use Rattle.osm_save.proofs.LineLemmas.{lacks_by, same_line, word_takes}
use Rattle.osm_save.proofs.ListLemmas.{IsItem, list_again, list_takes}

-- ---- kinds

-- the letters of kinds
abbrev pub text_of : Kinds → List ℕ
text_of k = kinds_text k.nodes k.ways k.relations

-- some kind is chosen
abbrev pub HasSome : Kinds → Type 0
HasSome k = has_kind k.nodes k.ways k.relations ≡ true

letters_take : (letters : List ℕ) (k : Kinds) → letters_at letters ≡ Some k → (letters ≡ text_of k) × HasSome k
unfolding letters_at
letters_take letters k e =
    let is : Kinds = kinds_in letters in
    let g = guard_some (have_letters is letters) (Some is) k e in
    let p = both_held (has_kind is.nodes is.ways is.relations) (bytes_eq (text_of is) letters) g.0 in
    let same : letters ≡ text_of is = sym ((bytes_eq-Decides (text_of is) letters).0 p.1) in
    subst (λ (x : Kinds). (letters ≡ text_of x) × HasSome x) (same_Some is k g.1) (same, p.0)

letters_again : (n w r : Bool) → has_kind n w r ≡ true → letters_at (kinds_text n w r) ≡ Some (record { nodes = n; ways = w; relations = r })
unfolding letters_at
letters_again true true true some = refl
letters_again true true false some = refl
letters_again true false true some = refl
letters_again true false false some = refl
letters_again false true true some = refl
letters_again false true false some = refl
letters_again false false true some = refl
letters_again false false false some = absurd cc

kinds_lack : (n w r : Bool) → Lacks 10 (codes "kinds " ++ kinds_text n w r)
kinds_lack true true true = lacks_by 10 (codes "kinds nwr") refl
kinds_lack true true false = lacks_by 10 (codes "kinds nw") refl
kinds_lack true false true = lacks_by 10 (codes "kinds nr") refl
kinds_lack true false false = lacks_by 10 (codes "kinds n") refl
kinds_lack false true true = lacks_by 10 (codes "kinds wr") refl
kinds_lack false true false = lacks_by 10 (codes "kinds w") refl
kinds_lack false false true = lacks_by 10 (codes "kinds r") refl
kinds_lack false false false = lacks_by 10 (codes "kinds ") refl

pub record TakesKinds (bytes : List ℕ) (k : Kinds) (rest : List ℕ) : Type 0 where
  pub is_text : bytes ≡ (codes "kinds " ++ text_of k) ++ 10 ∷ rest
  pub some : HasSome k

pub kinds_take : (bytes : List ℕ) (r : Kinds × List ℕ) → kinds_at bytes ≡ Some r → TakesKinds bytes r.0 r.1
unfolding kinds_at
kinds_take bytes r e =
    let l = some_then (cut_at 10 bytes) (λ (l : List ℕ × List ℕ). and_then {A = List ℕ} {B = Kinds × List ℕ}
    (after_word (codes "kinds ") l.0) (λ (letters : List ℕ). and_then {A = Kinds} {B = Kinds × List ℕ}
    (letters_at letters) (λ (k : Kinds). Some (k, l.1)))) r e in
    let w = some_then (after_word (codes "kinds ") l.0.0) (λ (letters : List ℕ). and_then {A = Kinds} {B =
    Kinds × List ℕ} (letters_at letters) (λ (k : Kinds). Some (k, l.0.1))) r l.2 in
    let k = some_then (letters_at w.0) (λ (k : Kinds). Some (k, l.0.1)) r w.2 in
    let letters = letters_take w.0 k.0 k.1 in
    subst (λ (x : Kinds × List ℕ). TakesKinds bytes x.0 x.1) (same_Some (k.0, l.0.1) r k.2) (record {
      is_text = cut_takes 10 bytes l.0.0 l.0.1 l.1
          ∙ same_line (codes "kinds ") l.0.0 w.0 (text_of k.0) l.0.1 (word_takes (codes "kinds ") l.0.0 w.0 w.1) letters.0;
      some = letters.1;
    })

pub kinds_again : (n w r : Bool) (rest : List ℕ) → has_kind n w r ≡ true
    → kinds_at ((codes "kinds " ++ kinds_text n w r) ++ 10 ∷ rest) ≡ Some (
      record { nodes = n; ways = w; relations = r },
      rest,
    )
unfolding kinds_at
kinds_again n w r rest some =
    let cut : cut_at 10 ((codes "kinds " ++ kinds_text n w r) ++ 10 ∷ rest) ≡ Some (
      codes "kinds " ++ kinds_text n w r,
      rest,
    ) = cut_again 10 (codes "kinds " ++ kinds_text n w r) rest (kinds_lack n w r) in
    rw (cut, letters_again n w r some) refl

-- ---- keys

-- a line that spells no text is read as none
pub no_text : (line : List ℕ) → ((text : List ℕ) → IsText text → SpellsText line text → ⊥) → None ≡ text_at line
no_text line none = by_reading (text_at line) refl
  where
    by_reading : (o : Option (List ℕ)) → text_at line ≡ o → None ≡ text_at line
    by_reading None e = sym e
    by_reading (Some t) e = absurd (none t (text_is line t e) (text_takes line t e))

-- the last of values with one more after them
pub last_of-more : {X : Type 0} (xs : List X) (x : X) → last_of (xs ++ x ∷ []) ≡ Some x
last_of-more {X = X} xs x =
    let many : length (xs ++ x ∷ []) ≡ length xs + 1 = length-append xs (x ∷ []) in
    let at : length (xs ++ x ∷ []) - 1 ≡ length xs = omega (arith, many) in
    ap (slice_get (xs ++ x ∷ [])) at ∙ there xs
  where
    there : (ys : List X) → slice_get (ys ++ x ∷ []) (length ys) ≡ Some x
    there [] = refl
    there (y ∷ ys) = there ys

abbrev is_kept : Option (List ℕ) → List ℕ → List ℕ → Bool
is_kept last line key = bytes_eq (escaped_text key) line && is_above bytes_cmp last key

key_takes : (last : Option (List ℕ)) (line key : List ℕ) → key_at last line ≡ Some key
    → (line ≡ escaped_text key) × IsText key × (is_above bytes_cmp last key ≡ true)
unfolding key_at
key_takes last line key e =
    let r = some_then (text_at line) (λ (t : List ℕ). if is_kept last line t then Some t else None) key e in
    let g = guard_some (is_kept last line r.0) (Some r.0) key r.2 in
    let p = both_held (bytes_eq (escaped_text r.0) line) (is_above bytes_cmp last r.0) g.0 in
    let same : line ≡ escaped_text r.0 = sym ((bytes_eq-Decides (escaped_text r.0) line).0 p.0) in
    subst (λ (t : List ℕ). (line ≡ escaped_text t) × IsText t × (is_above bytes_cmp last t ≡ true)) (same_Some r.0 key g.1)
    (same, text_is line r.0 r.1, p.1)

key_again : (last : Option (List ℕ)) (key : List ℕ) → IsText key → is_above bytes_cmp last key ≡ true → key_at last (escaped_text key) ≡ Some key
unfolding key_at
key_again last key is above =
    let line : text_at (escaped_text key) ≡ Some key = text_again (escaped_text key) key (text_is_spelled key is) is in
    let same : bytes_eq (escaped_text key) (escaped_text key) ≡ true = (bytes_eq-Decides (escaped_text key) (escaped_text key)).1 refl in
    rw (line, same, above) refl

key_item : IsItem bytes_cmp (λ (key : List ℕ). key) escaped_text IsText key_at
key_item = record {
  takes = λ last line key e. key_takes last line key e;
  again = λ last key is above. key_again last key is above;
  lacks = λ key is. text_lacks 10 (escaped_text key) key line_feed.reserved (λ e. omega (arith, e)) line_feed.far (text_is_spelled key is);
}

keys_lack : Lacks 10 (codes "keys ")
keys_lack = lacks_by 10 (codes "keys ") refl

each_itself : (ks : List (List ℕ)) → map (λ (k : List ℕ). k) ks ≡ ks
each_itself [] = refl
each_itself (k ∷ ks) = ap (λ (l : List (List ℕ)). k ∷ l) (each_itself ks)

pub record TakesKeys (bytes : List ℕ) (keys : List (List ℕ)) (rest : List ℕ) : Type 0 where
  pub is_text : bytes ≡ ended (list_lines (codes "keys ") escaped_text keys) ++ rest
  pub few : length keys ≤ max_keys
  pub texts : AllByRecursion IsText keys
  pub rising : AreRising keys

pub keys_take : (bytes : List ℕ) (r : List (List ℕ) × List ℕ) → keys_at bytes ≡ Some r → TakesKeys bytes r.0 r.1
unfolding keys_at
keys_take bytes r e =
    let t = list_takes bytes_cmp nat_list_cmp_total (λ (key : List ℕ). key) escaped_text IsText key_at key_item
    (codes "keys ") max_keys bytes r e in
    record {
      is_text = t.is_text;
      few = t.few;
      texts = t.good;
      rising = subst (λ (ks : List (List ℕ)). IsStrictlySortedBy bytes_cmp ks) (each_itself r.0) t.rising;
    }

pub keys_again : (keys : List (List ℕ)) (rest : List ℕ) → length keys ≤ max_keys → AllByRecursion IsText keys → AreRising keys
    → keys_at (ended (list_lines (codes "keys ") escaped_text keys) ++ rest) ≡ Some (keys, rest)
unfolding keys_at
keys_again keys rest few texts rising =
    list_again bytes_cmp nat_list_cmp_total (λ (key : List ℕ). key) escaped_text IsText key_at key_item (codes "keys ")
    max_keys keys rest keys_lack few (omega arith) texts
    (subst (λ (ks : List (List ℕ)). IsStrictlySortedBy bytes_cmp ks) (sym (each_itself keys)) rising)

-- ---- filters

-- kinds and keys that are read make a filter
pub makes_filter : (bytes after rest : List ℕ) (kinds : Kinds) (keys : List (List ℕ)) → kinds_at bytes ≡ Some (kinds, after)
    → keys_at after ≡ Some (keys, rest) → IsFilter (filter_with kinds keys)
makes_filter bytes after rest kinds keys p q =
    let k = kinds_take bytes (kinds, after) p in
    let t = keys_take after (keys, rest) q in
    record { kind = k.some; few = t.few; texts = t.texts; rising = t.rising }

pub record TakesFilter (version : Version) (bytes : List ℕ) (f : FilterValue) (rest : List ℕ) : Type 0 where
  pub is_text : bytes ≡ before (told_lines version f) rest
  pub is_filter : IsFilter f
  pub tells : TellsFilter version f

is_everything : IsFilter everything
unfolding IsStrictlySortedBy
is_everything = record { kind = refl; few = omega arith; texts = tt; rising = tt }

nothing_told : (version : Version) (bytes : List ℕ) (r : FilterValue × List ℕ) → Some (everything, bytes) ≡ Some r
    → told_lines version everything ≡ [] → TellsFilter version everything → TakesFilter version bytes r.0 r.1
nothing_told version bytes r e none tells =
    subst (λ (x : FilterValue × List ℕ). TakesFilter version bytes x.0 x.1) (same_Some (everything, bytes) r e)
    (record { is_text = rw none refl; is_filter = is_everything; tells = tells })

joined : (bytes after rest : List ℕ) (k : Kinds) (keys : List (List ℕ)) → bytes ≡ (codes "kinds " ++ text_of k) ++ 10 ∷ after
    → after ≡ ended (list_lines (codes "keys ") escaped_text keys) ++ rest
    → bytes ≡ before (filter_lines (filter_with k keys)) rest
joined bytes after rest k keys p q =
    p ∙ ap (λ (l : List ℕ). (codes "kinds " ++ text_of k) ++ 10 ∷ l) (q ∙ ended_before (list_lines (codes "keys ") escaped_text keys) rest)

pub filter_takes : (version : Version) (bytes : List ℕ) (r : FilterValue × List ℕ) → filter_at version bytes ≡ Some r
    → TakesFilter version bytes r.0 r.1
unfolding filter_lines_at
filter_takes One bytes r e = nothing_told One bytes r e refl refl
filter_takes Two bytes r e = nothing_told Two bytes r e refl refl
filter_takes Three bytes r e =
    let k = some_then (kinds_at bytes) (λ (k : Kinds × List ℕ). and_then {A = List (List ℕ) × List ℕ} {B =
    FilterValue × List ℕ} (keys_at k.1) (λ (t : List (List ℕ) × List ℕ). Some (filter_with k.0 t.0, t.1))) r e in
    let t = some_then (keys_at k.0.1) (λ (t : List (List ℕ) × List ℕ). Some (filter_with k.0.0 t.0, t.1)) r k.2 in
    let kinds = kinds_take bytes k.0 k.1 in
    let keys = keys_take k.0.1 t.0 t.1 in
    subst (λ (x : FilterValue × List ℕ). TakesFilter Three bytes x.0 x.1) (same_Some (filter_with k.0.0 t.0.0, t.0.1) r t.2) (record {
      is_text = joined bytes k.0.1 t.0.1 k.0.0 t.0.0 kinds.is_text keys.is_text;
      is_filter = makes_filter bytes k.0.1 t.0.1 k.0.0 t.0.0 k.1 t.1;
      tells = tt;
    })

pub filter_again : (version : Version) (f : FilterValue) (rest : List ℕ) → IsFilter f → TellsFilter version f
    → filter_at version (before (told_lines version f) rest) ≡ Some (f, rest)
unfolding filter_lines_at
filter_again One f rest is tells = let all : f ≡ everything = tells in rw all refl
filter_again Two f rest is tells = let all : f ≡ everything = tells in rw all refl
filter_again Three f rest is tells =
    let after : List ℕ = before (list_lines (codes "keys ") escaped_text f.keys) rest in
    let kinds = kinds_again f.nodes f.ways f.relations after is.kind in
    let keys : keys_at after ≡ Some (f.keys, rest) =
    ap keys_at (sym (ended_before (list_lines (codes "keys ") escaped_text f.keys) rest))
    ∙ keys_again f.keys rest is.few is.texts is.rising in
    rw (kinds, keys) refl
