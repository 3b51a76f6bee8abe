-- The head of a save text: what is read from it is what it says, and what it says is read from it.
use Rattle.std.proofs.Common.{◌≡◌, ℕ, ◌+◌, ◌-◌, ◌<◌, ◌≤◌, List, ◌∷◌, [], ◌++◌, length, map, take, drop, refl, ap, sym, ◌∙◌, Some, None}
use Rattle.std.proofs.Common.{Bool, Option, true, subst, arith}
use Rattle.std.specs.Prelude.{codes, decimal, nat_le, if◌then◌else◌}
use Rattle.std.specs.Str.{bytes_eq}
use Rattle.std.proofs.Math.Seq.{take-append-add}
use Rattle.std.proofs.lemmas.Bool.Decides.{nat_tests}
use Rattle.std.proofs.lemmas.Fmt.{length-decimal-le}
use Rattle.std.proofs.lemmas.List.{append_assoc, length-append, take-append-drop}
use Rattle.std.proofs.lemmas.Option.{same_Some}
use Rattle.std.proofs.lemmas.Slice.Eq.{bytes_eq-Decides}
use Rattle.osm_model.specs.CivilTime.{time_text}
use Rattle.osm_model.specs.Filter.{FilterValue, IsFilter, everything, has_kind}
use Rattle.osm_model.specs.Limits.{max_keys, max_sequence}
use Rattle.osm_opl.specs.Written.{escaped_text}
use Rattle.osm_reading.specs.Pieces.{cut_at}
use Rattle.osm_reading.specs.Answers.{and_then}
use Rattle.osm_reading.proofs.PieceLemmas.{cut_again, cut_takes}
use Rattle.osm_reading.proofs.StepLemmas.{chosen, guard_some, some_then}
use Rattle.osm_save.specs.Filters.{TellsFilter, kinds_text, told_lines}
use Rattle.osm_save.specs.Head.{BeginsSave, HasKeys, IsHeadIn, TellsBase, first_lines, head_lines, head_of, max_head}
use Rattle.osm_save.specs.Head.{maybe_time_text}
use Rattle.osm_save.specs.Lines.{ended}
use Rattle.osm_save.specs.Save.{SpellsSave}
use Rattle.osm_save.specs.Reading.{TellsKeys, base_at, filter_at, head_at, kinds_at, numbered_at, sequence_at, time_line_at, version_at}
use Rattle.osm_save.specs.declared.filter.Kinds.{Kinds}
use Rattle.osm_save.specs.declared.head.Head.{Head}
use Rattle.osm_save.specs.declared.save.Saved.{Saved}
use Rattle.osm_save.specs.declared.version.Version.{Version}
use Rattle.osm_save.specs.declared.version.Version.TheVariants.{One, Three, Two}
use Rattle.osm_save.proofs.FilterLemmas.{TakesFilter, TakesKinds, filter_again, filter_takes, kinds_again, kinds_take}
use Rattle.osm_save.proofs.KeyLengthLemmas.{told_short}
use Rattle.osm_save.proofs.LineLemmas.{TakesNumbered, TakesTime, lacks_by, numbered_again, numbered_takes, time_line_again, time_line_takes}
use Rattle.osm_save.proofs.TextLemmas.{before, before-append, ended-append, ended_before, mirror_text, save_text_is}

abbrev head_with : ℕ → ℕ → Option ℕ → Head
head_with number base time = record { number = number; base = base; time = time }

-- what the first line says
abbrev name_of : Version → List ℕ
name_of One = codes "osmrepl-save 1"
name_of Two = codes "osmrepl-save 2"
name_of Three = codes "osmrepl-save 3"

-- the line with the base, if the version has one
abbrev base_lines : Version → ℕ → List (List ℕ)
base_lines One base = []
base_lines Two base = (codes "base " ++ decimal base) ∷ []
base_lines Three base = (codes "base " ++ decimal base) ∷ []

-- the last lines of a head
abbrev last_lines : Head → List (List ℕ)
last_lines head = (codes "sequence " ++ decimal head.number) ∷ (codes "time " ++ maybe_time_text head.time) ∷ []

first_parts : (version : Version) (base : ℕ) (rest : List ℕ)
    → name_of version ++ 10 ∷ before (base_lines version base) rest ≡ before (first_lines version base) rest
first_parts One base rest = refl
first_parts Two base rest = refl
first_parts Three base rest = refl

-- the lines of a head, one by one
head_parts : (version : Version) (head : Head) (f : FilterValue) (rest : List ℕ)
    → name_of version ++ 10 ∷ before (base_lines version head.base) (before (told_lines version f)
    ((codes "sequence " ++ decimal head.number) ++ 10 ∷ ((codes "time " ++ maybe_time_text head.time) ++ 10 ∷ rest)))
    ≡ before (head_lines version head f) rest
head_parts version head f rest =
    first_parts version head.base (before (told_lines version f) (before (last_lines head) rest))
    ∙ sym (before-append (first_lines version head.base ++ told_lines version f) (last_lines head) rest
    ∙ before-append (first_lines version head.base) (told_lines version f) (before (last_lines head) rest))

-- ---- what is read is said

abbrev IsNamed : List ℕ → Version × List ℕ → Type 0
IsNamed bytes r = bytes ≡ name_of r.0 ++ 10 ∷ r.1

version_takes : (bytes : List ℕ) (r : Version × List ℕ) → version_at bytes ≡ Some r → IsNamed bytes r
unfolding version_at
version_takes bytes r e =
    let l = some_then (cut_at 10 bytes) (λ (l : List ℕ × List ℕ). if bytes_eq l.0 (codes "osmrepl-save 3") then Some (
      Three,
      l.1,
    )
    else (if bytes_eq l.0 (codes "osmrepl-save 2") then Some (Two, l.1)
    else (if bytes_eq l.0 (codes "osmrepl-save 1") then Some (One, l.1) else None))) r e in
    let parts : bytes ≡ l.0.0 ++ 10 ∷ l.0.1 = cut_takes 10 bytes l.0.0 l.0.1 l.1 in
    chosen (bytes_eq l.0.0 (codes "osmrepl-save 3")) _ _ (Some r) l.2 (IsNamed bytes r)
    (λ test f. named bytes l.0.0 l.0.1 Three r parts ((bytes_eq-Decides l.0.0 (codes "osmrepl-save 3")).0 test) f)
    (λ test f. chosen (bytes_eq l.0.0 (codes "osmrepl-save 2")) _ _ (Some r) f (IsNamed bytes r)
    (λ test f. named bytes l.0.0 l.0.1 Two r parts ((bytes_eq-Decides l.0.0 (codes "osmrepl-save 2")).0 test) f)
    (λ test f. (let g = guard_some (bytes_eq l.0.0 (codes "osmrepl-save 1")) (Some (One, l.0.1)) r f in
    named bytes l.0.0 l.0.1 One r parts ((bytes_eq-Decides l.0.0 (codes "osmrepl-save 1")).0 g.0) g.1)))
  where
    named : (bytes line after : List ℕ) (version : Version) (r : Version × List ℕ) → bytes ≡ line ++ 10 ∷ after
        → line ≡ name_of version → Some (version, after) ≡ Some r → IsNamed bytes r
    named bytes line after version r p q f =
        subst (λ (x : Version × List ℕ). IsNamed bytes x) (same_Some (version, after) r f) (p ∙ ap (λ (t : List ℕ). t ++ 10 ∷ after) q)

record TakesBase (version : Version) (bytes : List ℕ) (base : ℕ) (rest : List ℕ) : Type 0 where
  text : bytes ≡ before (base_lines version base) rest
  told : TellsBase version base
  low : base ≤ max_sequence

base_takes : (version : Version) (bytes : List ℕ) (r : ℕ × List ℕ) → base_at version bytes ≡ Some r → TakesBase version bytes r.0 r.1
base_takes One bytes r e =
    subst (λ (x : ℕ × List ℕ). TakesBase One bytes x.0 x.1) (same_Some (0, bytes) r e) (record { text = refl; told = refl; low = omega arith })
base_takes Two bytes r e =
    let line = numbered_takes (codes "base ") max_sequence bytes r e in
    record { text = line.text; told = tt; low = line.few }
base_takes Three bytes r e =
    let line = numbered_takes (codes "base ") max_sequence bytes r e in
    record { text = line.text; told = tt; low = line.few }

record TakesSequence (base : ℕ) (bytes : List ℕ) (number : ℕ) (rest : List ℕ) : Type 0 where
  line : TakesNumbered (codes "sequence ") max_sequence bytes number rest
  above : base ≤ number

sequence_takes : (base : ℕ) (bytes : List ℕ) (r : ℕ × List ℕ) → sequence_at base bytes ≡ Some r → TakesSequence base bytes r.0 r.1
unfolding sequence_at
sequence_takes base bytes r e =
    let n = some_then (numbered_at (codes "sequence ") max_sequence bytes) (λ (n : ℕ × List ℕ). if nat_le base n.0 then Some n else None) r e in
    let g = guard_some (nat_le base n.0.0) (Some n.0) r n.2 in
    let test : nat_le base n.0.0 ≡ true = g.0 in
    subst (λ (x : ℕ × List ℕ). TakesSequence base bytes x.0 x.1) (same_Some n.0 r g.1)
    (record { line = numbered_takes (codes "sequence ") max_sequence bytes n.0 n.1; above = grind (arith, nat_tests) })

pub record TakesHead (bytes : List ℕ) (version : Version) (head : Head) (f : FilterValue) (rest : List ℕ) : Type 0 where
  pub text : bytes ≡ before (head_lines version head f) rest
  pub limits : IsHeadIn version head
  pub is_filter : IsFilter f
  pub tells : TellsFilter version f

-- a version, a head, a filter, and the bytes after them
abbrev Opening : Type 0
Opening = Version × Head × FilterValue × List ℕ

head_joined : (bytes first second third fourth rest : List ℕ) (version : Version) (head : Head) (f : FilterValue)
    → bytes ≡ name_of version ++ 10 ∷ first → first ≡ before (base_lines version head.base) second
    → second ≡ before (told_lines version f) third → third ≡ (codes "sequence " ++ decimal head.number) ++ 10 ∷ fourth
    → fourth ≡ (codes "time " ++ maybe_time_text head.time) ++ 10 ∷ rest → bytes ≡ before (head_lines version head f) rest
head_joined bytes first second third fourth rest version head f p q o r t = p ∙ (rw (q, o, r, t) (head_parts version head f rest))

pub head_takes : (bytes : List ℕ) (r : Opening) → head_at bytes ≡ Some r → TakesHead bytes r.0 r.1 r.2 r.3
unfolding head_at
head_takes bytes r e =
    let v = some_then (version_at bytes) (λ (v : Version × List ℕ). and_then {A = ℕ × List ℕ} {B = Opening}
    (base_at v.0 v.1) (λ (b : ℕ × List ℕ). and_then {A = FilterValue × List ℕ} {B = Opening} (filter_at v.0 b.1)
    (λ (f : FilterValue × List ℕ). and_then {A = ℕ × List ℕ} {B = Opening} (sequence_at b.0 f.1)
    (λ (n : ℕ × List ℕ). and_then {A = Option ℕ × List ℕ} {B = Opening} (time_line_at n.0 n.1)
    (λ (t : Option ℕ × List ℕ). Some (v.0, head_with n.0 b.0 t.0, f.0, t.1)))))) r e in
    let b = some_then (base_at v.0.0 v.0.1) (λ (b : ℕ × List ℕ). and_then {A = FilterValue × List ℕ} {B = Opening}
    (filter_at v.0.0 b.1) (λ (f : FilterValue × List ℕ). and_then {A = ℕ × List ℕ} {B = Opening}
    (sequence_at b.0 f.1) (λ (n : ℕ × List ℕ). and_then {A = Option ℕ × List ℕ} {B = Opening} (time_line_at n.0 n.1)
    (λ (t : Option ℕ × List ℕ). Some (v.0.0, head_with n.0 b.0 t.0, f.0, t.1))))) r v.2 in
    let f = some_then (filter_at v.0.0 b.0.1) (λ (f : FilterValue × List ℕ). and_then {A = ℕ × List ℕ} {B = Opening}
    (sequence_at b.0.0 f.1) (λ (n : ℕ × List ℕ). and_then {A = Option ℕ × List ℕ} {B = Opening}
    (time_line_at n.0 n.1) (λ (t : Option ℕ × List ℕ). Some (v.0.0, head_with n.0 b.0.0 t.0, f.0, t.1)))) r b.2 in
    let n = some_then (sequence_at b.0.0 f.0.1) (λ (n : ℕ × List ℕ). and_then {A = Option ℕ × List ℕ} {B = Opening}
    (time_line_at n.0 n.1) (λ (t : Option ℕ × List ℕ). Some (v.0.0, head_with n.0 b.0.0 t.0, f.0.0, t.1))) r f.2 in
    let t = some_then (time_line_at n.0.0 n.0.1)
    (λ (t : Option ℕ × List ℕ). Some (v.0.0, head_with n.0.0 b.0.0 t.0, f.0.0, t.1)) r n.2 in
    let base : TakesBase v.0.0 v.0.1 b.0.0 b.0.1 = base_takes v.0.0 v.0.1 b.0 b.1 in
    let filter : TakesFilter v.0.0 b.0.1 f.0.0 f.0.1 = filter_takes v.0.0 b.0.1 f.0 f.1 in
    let sequence : TakesSequence b.0.0 f.0.1 n.0.0 n.0.1 = sequence_takes b.0.0 f.0.1 n.0 n.1 in
    let time : TakesTime n.0.0 n.0.1 t.0.0 t.0.1 = time_line_takes n.0.0 n.0.1 t.0 t.1 in
    subst (λ (x : Opening). TakesHead bytes x.0 x.1 x.2 x.3)
    (same_Some (v.0.0, head_with n.0.0 b.0.0 t.0.0, f.0.0, t.0.1) r t.2) (record {
      text = head_joined bytes v.0.1 b.0.1 f.0.1 n.0.1 t.0.1 v.0.0 (head_with n.0.0 b.0.0 t.0.0) f.0.0
          (version_takes bytes v.0 v.1) base.text filter.is_text sequence.line.text time.is_text;
      limits = record { number = sequence.line.few; base = sequence.above; told = base.told; time = time.is_time };
      is_filter = filter.is_filter;
      tells = filter.tells;
    })

pub head_begins : (bytes : List ℕ) (r : Opening) → head_at bytes ≡ Some r → BeginsSave bytes r.1
head_begins bytes r e =
    let head = head_takes bytes r e in
    record {
      version = r.0;
      filter = r.2;
      limits = head.limits;
      is_filter = head.is_filter;
      tells = head.tells;
      rest = r.3;
      parts = head.text ∙ sym (ended_before (head_lines r.0 r.1 r.2) r.3);
    }

-- a reading that needs memory is of bytes that have keys
pub has_keys : (bytes : List ℕ) (v : Version × List ℕ) (b : ℕ × List ℕ) → version_at bytes ≡ Some v → base_at v.0 v.1 ≡ Some b
    → TellsKeys v.0 b.1 → HasKeys bytes
has_keys bytes (One, after) b p q keys = absurd keys
has_keys bytes (Two, after) b p q keys = absurd keys
has_keys bytes (Three, after) b p q keys =
    let base : TakesBase Three after b.0 b.1 = base_takes Three after b q in
    let kinds : TakesKinds b.1 keys.kinds keys.after = kinds_take b.1 (keys.kinds, keys.after) keys.read in
    let line : TakesNumbered (codes "keys ") max_keys keys.after keys.keys.many keys.keys.rest =
    numbered_takes (codes "keys ") max_keys keys.after (keys.keys.many, keys.keys.rest) keys.keys.read in
    record {
      base = b.0;
      low = base.low;
      nodes = keys.kinds.nodes;
      ways = keys.kinds.ways;
      relations = keys.kinds.relations;
      kind = kinds.some;
      many = keys.keys.many;
      some = keys.keys.some;
      few = line.few;
      rest = keys.keys.rest;
      parts = version_takes bytes (Three, after) p
          ∙ (rw (base.text, kinds.is_text, line.text) (sym (ended_before (first_lines Three b.0
          ++ (codes "kinds " ++ kinds_text keys.kinds.nodes keys.kinds.ways keys.kinds.relations)
          ∷ (codes "keys " ++ decimal keys.keys.many) ∷ []) keys.keys.rest)));
    }

-- ---- what is said is read

version_again : (version : Version) (rest : List ℕ) → version_at (name_of version ++ 10 ∷ rest) ≡ Some (version, rest)
unfolding version_at
version_again One rest =
    let cut : cut_at 10 (codes "osmrepl-save 1" ++ 10 ∷ rest) ≡ Some (codes "osmrepl-save 1", rest) =
    cut_again 10 (codes "osmrepl-save 1") rest (lacks_by 10 (codes "osmrepl-save 1") refl) in
    rw cut refl
version_again Three rest =
    let cut : cut_at 10 (codes "osmrepl-save 3" ++ 10 ∷ rest) ≡ Some (codes "osmrepl-save 3", rest) =
    cut_again 10 (codes "osmrepl-save 3") rest (lacks_by 10 (codes "osmrepl-save 3") refl) in
    rw cut refl
version_again Two rest =
    let cut : cut_at 10 (codes "osmrepl-save 2" ++ 10 ∷ rest) ≡ Some (codes "osmrepl-save 2", rest) =
    cut_again 10 (codes "osmrepl-save 2") rest (lacks_by 10 (codes "osmrepl-save 2") refl) in
    rw cut refl

base_again : (version : Version) (base : ℕ) (rest : List ℕ) → TellsBase version base → base ≤ max_sequence
    → base_at version (before (base_lines version base) rest) ≡ Some (base, rest)
base_again One base rest told few = let zero : base ≡ 0 = told in rw zero refl
base_again Two base rest told few =
    let small : base ≤ max_sequence = few in
    numbered_again (codes "base ") max_sequence base rest (lacks_by 10 (codes "base ") refl) few (omega (arith, small))
base_again Three base rest told few =
    let small : base ≤ max_sequence = few in
    numbered_again (codes "base ") max_sequence base rest (lacks_by 10 (codes "base ") refl) few (omega (arith, small))

sequence_again : (base number : ℕ) (rest : List ℕ) → base ≤ number → number ≤ max_sequence
    → sequence_at base ((codes "sequence " ++ decimal number) ++ 10 ∷ rest) ≡ Some (number, rest)
unfolding sequence_at
sequence_again base number rest above few =
    let small : number ≤ max_sequence = few in
    let read : numbered_at (codes "sequence ") max_sequence ((codes "sequence " ++ decimal number) ++ 10 ∷ rest) ≡
    Some (number, rest) =
    numbered_again (codes "sequence ") max_sequence number rest (lacks_by 10 (codes "sequence ") refl) few (omega (arith, small)) in
    let test : nat_le base number ≡ true = grind (arith, nat_tests) in
    rw (read, test) refl

pub head_again : (version : Version) (head : Head) (f : FilterValue) (rest : List ℕ) → IsHeadIn version head → IsFilter f
    → TellsFilter version f → head_at (before (head_lines version head f) rest) ≡ Some (version, head, f, rest)
unfolding head_at
head_again version head f rest is right tells =
    let fourth : List ℕ = (codes "time " ++ maybe_time_text head.time) ++ 10 ∷ rest in
    let third : List ℕ = (codes "sequence " ++ decimal head.number) ++ 10 ∷ fourth in
    let second : List ℕ = before (told_lines version f) third in
    let few : head.number ≤ max_sequence = is.number in
    let below : head.base ≤ head.number = is.base in
    let named = version_again version (before (base_lines version head.base) second) in
    let base = base_again version head.base second is.told (omega (arith, few, below)) in
    let filter = filter_again version f third right tells in
    let sequence = sequence_again head.base head.number fourth is.base is.number in
    let time = time_line_again head.number head.time rest is.time in
    rw (← head_parts version head f rest, named, base, filter, sequence, time) refl

pub head_found : (bytes : List ℕ) (head : Head) (b : BeginsSave bytes head) → head_at bytes ≡ Some (b.version, head, b.filter, b.rest)
head_found bytes head b =
    ap head_at (b.parts ∙ ended_before (head_lines b.version head b.filter) b.rest)
    ∙ head_again b.version head b.filter b.rest b.limits b.is_filter b.tells

pub no_head : (bytes : List ℕ) → head_at bytes ≡ None → (head : Head) → BeginsSave bytes head → ⊥
no_head bytes none head b =
    let bad : ◌≡◌ {A = Option Opening} None (Some (b.version, head, b.filter, b.rest)) = sym none ∙ head_found bytes head b in cc

-- bytes begin with at most one head
pub one_head : (bytes : List ℕ) (a b : Head) → BeginsSave bytes a → BeginsSave bytes b → a ≡ b
one_head bytes a b p q = ap (λ (r : Opening). r.1)
    (same_Some (p.version, a, p.filter, p.rest) (q.version, b, q.filter, q.rest) (sym (head_found bytes a p) ∙ head_found bytes b q))

-- ---- the beginning of a save text

pub time_twenty : (time : ℕ) → length (time_text time) ≡ 20
unfolding time_text
time_twenty time = refl

time_short : (time : Option ℕ) → length (maybe_time_text time) ≤ 20
time_short None = omega arith
time_short (Some time) = omega (arith, time_twenty time)

pub line_length : (line : List ℕ) (lines : List (List ℕ)) → length (ended (line ∷ lines)) ≡ length line + 1 + length (ended lines)
line_length line lines = omega (arith, length-append line (10 ∷ ended lines))

-- a number of a head has at most nine digits
number_short : (word : List ℕ) (number : ℕ) → number ≤ max_sequence → length (word ++ decimal number) ≤ length word + 9
number_short word number few =
    let small : number ≤ max_sequence = few in
    omega (arith, length-decimal-le 9 number (omega arith) (omega (arith, small)) (omega (arith, small)), length-append word (decimal number))

last_short : (head : Head) → head.number ≤ max_sequence
    → length (ended ((codes "sequence " ++ decimal head.number) ∷ (codes "time " ++ maybe_time_text head.time) ∷ [])) ≤ 45
last_short head few =
    let number = number_short (codes "sequence ") head.number few in
    let time = time_short head.time in
    omega (
      arith,
      number,
      time,
      length-append (codes "time ") (maybe_time_text head.time),
      line_length (codes "sequence " ++ decimal head.number) ((codes "time " ++ maybe_time_text head.time) ∷ []),
      line_length (codes "time " ++ maybe_time_text head.time) [],
    )

first_short : (version : Version) (base : ℕ) → base ≤ max_sequence → length (ended (first_lines version base)) ≤ 30
first_short One base few = omega arith
first_short Two base few =
    omega (
      arith,
      number_short (codes "base ") base few,
      line_length (codes "osmrepl-save 2") ((codes "base " ++ decimal base) ∷ []),
      line_length (codes "base " ++ decimal base) [],
    )
first_short Three base few =
    omega (
      arith,
      number_short (codes "base ") base few,
      line_length (codes "osmrepl-save 3") ((codes "base " ++ decimal base) ∷ []),
      line_length (codes "base " ++ decimal base) [],
    )

both_length : (a b : List (List ℕ)) → length (ended (a ++ b)) ≡ length (ended a) + length (ended b)
both_length a b = ap length (ended-append a b) ∙ length-append (ended a) (ended b)

pub head_short : (version : Version) (head : Head) (f : FilterValue) → IsHeadIn version head → IsFilter f
    → length (ended (head_lines version head f)) ≤ max_head
head_short version head f is right =
    let few : head.number ≤ max_sequence = is.number in
    let below : head.base ≤ head.number = is.base in
    omega (
      arith,
      first_short version head.base (omega (arith, few, below)),
      told_short version f right,
      last_short head is.number,
      both_length (first_lines version head.base ++ told_lines version f) (last_lines head),
      both_length (first_lines version head.base) (told_lines version f),
    )

-- what is taken from a text that begins with a shorter one
pub take_past : (xs ys : List ℕ) (most : ℕ) → length xs ≤ most → take most (xs ++ ys) ≡ xs ++ take (most - length xs) ys
take_past xs ys most short =
    let sum : most ≡ length xs + (most - length xs) = omega (arith, short) in
    ap (λ (n : ℕ). take n (xs ++ ys)) sum ∙ take-append-add xs ys (most - length xs)

-- the first bytes of what begins with a head begin with it too
pub begins_first : (most : ℕ) (bytes : List ℕ) (head : Head) → max_head ≤ most → BeginsSave bytes head → BeginsSave (take most bytes) head
begins_first most bytes head long b =
    let short : length (ended (head_lines b.version head b.filter)) ≤ max_head = head_short b.version head b.filter b.limits b.is_filter in
    let enough : max_head ≤ most = long in
    record {
      version = b.version;
      filter = b.filter;
      limits = b.limits;
      is_filter = b.is_filter;
      tells = b.tells;
      rest = take (most - length (ended (head_lines b.version head b.filter))) b.rest;
      parts = ap (take most) b.parts ∙ take_past (ended (head_lines b.version head b.filter)) b.rest most (omega (arith, short, enough));
    }

-- what is saved begins with its head
pub save_has_head : (bytes : List ℕ) (v : Saved) → SpellsSave bytes v → BeginsSave bytes (head_of v)
save_has_head bytes v s = record {
  version = s.version;
  filter = v.filter;
  limits = s.savable.head;
  is_filter = s.savable.filter;
  tells = s.savable.tells;
  rest = mirror_text v.mirror;
  parts = s.text ∙ (save_text_is s.version v ∙ sym (ended_before (head_lines s.version (head_of v) v.filter) (mirror_text v.mirror)));
}

pub save_begins : (bytes : List ℕ) (v : Saved) (most : ℕ) → SpellsSave bytes v → max_head ≤ most
    → BeginsSave (take most bytes) (head_of v)
save_begins bytes v most s long = begins_first most bytes (head_of v) long (save_has_head bytes v s)

-- ---- keys

-- how many keys the lines before them say there are: none if the version has no such lines
abbrev keys_told : Version → List ℕ → Option ℕ
keys_told One bytes = Some 0
keys_told Two bytes = Some 0
keys_told Three bytes =
    and_then {A = Kinds × List ℕ} {B = ℕ} (kinds_at bytes) (λ (k : Kinds × List ℕ). and_then {A = ℕ × List ℕ} {B = ℕ}
    (numbered_at (codes "keys ") max_keys k.1) (λ (n : ℕ × List ℕ). Some n.0))

abbrev many_at : List ℕ → Option ℕ
many_at bytes =
    and_then {A = Version × List ℕ} {B = ℕ} (version_at bytes) (λ (v : Version × List ℕ). and_then {A = ℕ × List ℕ} {B = ℕ}
    (base_at v.0 v.1) (λ (b : ℕ × List ℕ). keys_told v.0 b.1))

told_again : (n w r : Bool) (many : ℕ) (rest : List ℕ) → has_kind n w r ≡ true → many ≤ max_keys
    → keys_told Three ((codes "kinds " ++ kinds_text n w r) ++ 10 ∷ ((codes "keys " ++ decimal many) ++ 10 ∷ rest)) ≡ Some many
told_again n w r many rest some few =
    let small : many ≤ max_keys = few in
    let kinds = kinds_again n w r ((codes "keys " ++ decimal many) ++ 10 ∷ rest) some in
    let keys = numbered_again (codes "keys ") max_keys many rest (lacks_by 10 (codes "keys ") refl) few (omega (arith, small)) in
    rw (kinds, keys) refl

told_of : (version : Version) (f : FilterValue) (rest : List ℕ) → IsFilter f → TellsFilter version f
    → keys_told version (before (told_lines version f) rest) ≡ Some (length f.keys)
told_of One f rest is tells = let all : f ≡ everything = tells in rw all refl
told_of Two f rest is tells = let all : f ≡ everything = tells in rw all refl
told_of Three f rest is tells =
    told_again f.nodes f.ways f.relations (length f.keys) (before (map escaped_text f.keys) rest) is.kind is.few

many_again : (version : Version) (base many : ℕ) (rest : List ℕ) → TellsBase version base → base ≤ max_sequence
    → keys_told version rest ≡ Some many → many_at (name_of version ++ 10 ∷ before (base_lines version base) rest) ≡ Some many
many_again version base many rest told few keys =
    let named = version_again version (before (base_lines version base) rest) in
    let based = base_again version base rest told few in
    rw (named, based) keys

-- the keys of a head
many_of_head : (bytes : List ℕ) (head : Head) (b : BeginsSave bytes head) → many_at bytes ≡ Some (length b.filter.keys)
many_of_head bytes head b =
    let rest : List ℕ = before (last_lines head) b.rest in
    let few : head.number ≤ max_sequence = b.limits.number in
    let below : head.base ≤ head.number = b.limits.base in
    ap many_at (b.parts ∙ (ended_before (head_lines b.version head b.filter) b.rest ∙ sym (head_parts b.version head b.filter b.rest)))
    ∙ many_again b.version head.base (length b.filter.keys) (before (told_lines b.version b.filter) rest) b.limits.told
    (omega (arith, few, below)) (told_of b.version b.filter rest b.is_filter b.tells)

many_of_keys : (bytes : List ℕ) (h : HasKeys bytes) → many_at bytes ≡ Some h.many
many_of_keys bytes h =
    let after : List ℕ = (codes "kinds " ++ kinds_text h.nodes h.ways h.relations) ++ 10 ∷ ((codes "keys " ++ decimal h.many) ++ 10 ∷ h.rest) in
    ap many_at (h.parts ∙ ended_before (first_lines Three h.base ++ (codes "kinds " ++ kinds_text h.nodes h.ways h.relations)
    ∷ (codes "keys " ++ decimal h.many) ∷ []) h.rest)
    ∙ many_again Three h.base h.many after tt h.low (told_again h.nodes h.ways h.relations h.many h.rest h.kind h.few)

-- the first bytes have keys only if all bytes do
has_more : (bytes : List ℕ) (most : ℕ) → HasKeys (take most bytes) → HasKeys bytes
has_more bytes most h = record {
  base = h.base;
  low = h.low;
  nodes = h.nodes;
  ways = h.ways;
  relations = h.relations;
  kind = h.kind;
  many = h.many;
  some = h.some;
  few = h.few;
  rest = h.rest ++ drop most bytes;
  parts = sym (take-append-drop most bytes)
      ∙ (ap (λ (l : List ℕ). l ++ drop most bytes) h.parts
      ∙ append_assoc (ended (first_lines Three h.base ++ (codes "kinds " ++ kinds_text h.nodes h.ways h.relations)
      ∷ (codes "keys " ++ decimal h.many) ∷ [])) h.rest (drop most bytes));
}

-- a save text has keys only if its filter does
pub save_has_keys : (bytes : List ℕ) (v : Saved) (most : ℕ) → SpellsSave bytes v → HasKeys (take most bytes) → 0 < length v.filter.keys
unfolding save_has_head
save_has_keys bytes v most s h =
    let all : HasKeys bytes = has_more bytes most h in
    let same : all.many ≡ length v.filter.keys =
    same_Some all.many (length v.filter.keys) (sym (many_of_keys bytes all) ∙ many_of_head bytes (head_of v) (save_has_head bytes v s)) in
    let some : 0 < all.many = all.some in
    omega (arith, same, some)
