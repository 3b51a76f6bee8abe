-- What datasets spell is counted by their types and lengths.
use Rattle.std.proofs.Common.{◌≡◌, ℕ, zero, suc, ◌+◌, ◌-◌, ◌<◌, ◌≤◌, Bool, true, false, cond, eqb, ltb, List, [], ◌∷◌, ◌++◌, length, take, drop}
use Rattle.std.proofs.Common.{Option, Some, None, refl, sym, ap, subst, ◌∙◌, append_assoc, zero-add, arith}
use Rattle.std.specs.Prelude.{◌≢◌, min}
use Rattle.std.proofs.lemmas.Bool.Decides.{nat_tests}
use Rattle.std.proofs.lemmas.Option.{same_Some}
use Rattle.std.proofs.lemmas.List.{drop_all, drop_at, length-append, length-drop, take-append-drop}
use Rattle.std.proofs.lemmas.List.Elements.{filter-append}
use Rattle.osm_model.specs.Change.{ChangeValue}
use Rattle.osm_model.specs.Data.{IsData}
use Rattle.osm_model.specs.Filter.{FilterValue, chooses}
use Rattle.osm_model.specs.declared.kind.Kind.{Kind}
use Rattle.osm_model.specs.declared.kind.Kind.TheVariants.{Node, Way, Relation}
use Rattle.osm_reading.specs.Answers.{and_then}
use Rattle.osm_reading.proofs.StepLemmas.{chosen, some_then}
use Rattle.osm_o5c.specs.Context.{Context}
use Rattle.osm_o5c.specs.Datasets.{kind_of_byte}
use Rattle.osm_o5c.specs.File.{Dataset, object, skipped, lone, reset, Front, begin, next, SpellsData, changes_with, data_beginning, kind_byte}
use Rattle.osm_o5c.specs.Number.{SpellsNumber}
use Rattle.osm_o5c.specs.NumberReading.{unsigned_at, varint_at}
use Rattle.osm_o5c.proofs.NumberLemmas.{unsigned_again, unsigned_takes}
use Rattle.osm_data.specs.Counting.{IsTotal, chosen_objects, most_counted, one_of}
use Rattle.osm_data.specs.Steps.O5mCounting.{BeginsCounter, ComesTo, Counts, ends, goes_on, content_at, head_at}
use Rattle.osm_data.specs.declared.o5m_counting.O5mCounter.{O5mCounter}
use Rattle.osm_data.proofs.ExtentLemmas.{EndsWith, no_object, no_unsigned, unsigned_more}

-- what a type and a length give
abbrev Head : Type 0
Head = Option Kind × ℕ × List ℕ

-- ---- a type and a length with more bytes after them

content_more : (t : ℕ) (bytes more : List ℕ) (x : ℕ × List ℕ) → content_at t bytes ≡ Some x → content_at t (bytes ++ more) ≡ Some (x.0, x.1 ++ more)
unfolding content_at
content_more t bytes more x e =
    chosen (ltb t 240) (unsigned_at bytes) (cond (eqb t 254) None (Some (0, bytes))) (Some x) e (content_at t (bytes ++ more) ≡ Some (x.0, x.1 ++ more))
    (λ low is. rw low (unsigned_more bytes more x is))
    (λ high is. chosen (eqb t 254) None (Some (0, bytes)) (Some x) is (content_at t (bytes ++ more) ≡ Some (x.0, x.1 ++ more))
    (λ end is. absurd cc)
    (λ other is. rw (high, other) (ap (λ (y : ℕ × List ℕ). Some (y.0, y.1 ++ more)) (same_Some (0, bytes) x is))))

no_content : (t : ℕ) (bytes more : List ℕ) → 10 ≤ length bytes → content_at t bytes ≡ None → content_at t (bytes ++ more) ≡ None
unfolding content_at
no_content t bytes more long e =
    chosen (ltb t 240) (unsigned_at bytes) (cond (eqb t 254) None (Some (0, bytes))) None e (content_at t (bytes ++ more) ≡ None)
    (λ low is. rw low (no_unsigned bytes more (unsigned_at (bytes ++ more)) long is refl))
    (λ high is. chosen (eqb t 254) None (Some (0, bytes)) None is (content_at t (bytes ++ more) ≡ None)
    (λ end is. rw (high, end) refl)
    (λ other is. absurd cc))

pub head_more : (bytes more : List ℕ) (kind : Option Kind) (size : ℕ) (after : List ℕ) → head_at bytes ≡ Some (kind, size, after)
    → head_at (bytes ++ more) ≡ Some (kind, size, after ++ more)
unfolding head_at
head_more [] more kind size after e = absurd cc
head_more (t ∷ bytes) more kind size after e =
    let x = some_then (content_at t bytes) (λ x. Some (kind_of_byte t, x.0, x.1)) (kind, size, after) e in
    rw (content_more t bytes more x.0 x.1)
    (ap (λ (h : Head). Some (h.0, h.1, h.2 ++ more)) (same_Some (kind_of_byte t, x.0.0, x.0.1) (kind, size, after) x.2))

-- no more bytes make it one
pub no_head : (bytes more : List ℕ) → 11 ≤ length bytes → head_at bytes ≡ None → head_at (bytes ++ more) ≡ None
unfolding head_at
no_head [] more long e = absurd (omega (arith, long))
no_head (t ∷ bytes) more long e = rw (no_content t bytes more (omega (arith, long)) (none_given (content_at t bytes) e)) refl
  where
    none_given : (o : Option (ℕ × List ℕ)) → and_then {B = Head} o (λ x. Some (kind_of_byte t, x.0, x.1)) ≡ None → o ≡ None
    none_given None e = refl
    none_given (Some x) e = absurd cc

content_ends : (t : ℕ) (bytes : List ℕ) (x : ℕ × List ℕ) → content_at t bytes ≡ Some x → EndsWith bytes x.1
unfolding content_at
content_ends t bytes x e =
    chosen (ltb t 240) (unsigned_at bytes) (cond (eqb t 254) None (Some (0, bytes))) (Some x) e (EndsWith bytes x.1)
    (λ low is. let n = unsigned_takes bytes x is in record { prefix = n.prefix; parts = n.parts })
    (λ high is. chosen (eqb t 254) None (Some (0, bytes)) (Some x) is (EndsWith bytes x.1)
    (λ end is. absurd cc)
    (λ other is. subst (λ (y : ℕ × List ℕ). EndsWith bytes y.1) (same_Some (0, bytes) x is) (record { prefix = []; parts = refl })))

-- a type and a length are some bytes
pub record PassesHead (bytes after : List ℕ) : Type 0 where
  pub prefix : List ℕ
  pub parts : bytes ≡ prefix ++ after
  pub some : 0 < length prefix

pub head_passes : (bytes : List ℕ) (kind : Option Kind) (size : ℕ) (after : List ℕ) → head_at bytes ≡ Some (kind, size, after) → PassesHead bytes after
unfolding head_at
head_passes [] kind size after e = absurd cc
head_passes (t ∷ bytes) kind size after e =
    let x = some_then (content_at t bytes) (λ x. Some (kind_of_byte t, x.0, x.1)) (kind, size, after) e in
    let l : EndsWith bytes x.0.1 = content_ends t bytes x.0 x.1 in
    subst (λ (h : Head). PassesHead (t ∷ bytes) h.2) (same_Some (kind_of_byte t, x.0.0, x.0.1) (kind, size, after) x.2)
    (record { prefix = t ∷ l.prefix; parts = ap (λ (m : List ℕ). t ∷ m) l.parts; some = omega arith })

-- ---- bytes that are skipped

-- in two parts
pub skip_more : (n : ℕ) (bytes more : List ℕ) → drop n (bytes ++ more) ≡ drop (n - length bytes) (drop n bytes ++ more)
skip_more zero bytes more = let none : 0 - length bytes ≡ 0 = omega arith in rw none refl
skip_more (suc n) [] more = let all : suc n - 0 ≡ suc n = omega arith in rw all refl
skip_more (suc n) (b ∷ bytes) more =
    let less : suc n - suc (length bytes) ≡ n - length bytes = omega arith in
    rw less (skip_more n bytes more)

-- ---- counting on

-- what the bytes count is one thing
counts_after : (f : FilterValue) (bytes : List ℕ) (many : ℕ) (kind : Option Kind) (size : ℕ) (after : List ℕ) → head_at bytes ≡ Some (kind, size, after)
    → Counts f bytes many → (less : ℕ) × (many ≡ one_of f kind + less) × Counts f (drop size after) less
counts_after f bytes _ kind size after e (ends _ none) = absurd cc
counts_after f bytes _ kind size after e (goes_on _ k s a less is rest) =
    let same : ◌≡◌ {A = Head} (k, s, a) (kind, size, after) = same_Some (k, s, a) (kind, size, after) (sym is ∙ e) in
    subst (λ (h : Head). (n : ℕ) × (one_of f k + less ≡ one_of f h.0 + n) × Counts f (drop h.1 h.2) n) same (less, refl, rest)

counts_none : (f : FilterValue) (bytes : List ℕ) (many : ℕ) → head_at bytes ≡ None → Counts f bytes many → many ≡ 0
counts_none f bytes _ e (ends _ none) = refl
counts_none f bytes _ e (goes_on _ k s a less is rest) = absurd cc

one_more : (count one less many more total : ℕ) → more ≡ min (count + one) most_counted → many ≡ one + less → IsTotal count many total
    → IsTotal more less total
one_more count one less many more total is parts t =
    let few = t.few in
    let sum = t.sum in
    record { few = omega (arith, is); sum = omega (arith, is, parts, few, sum) }

-- bytes of the last dataset were passed
pub skipped_on : (f : FilterValue) (old new : O5mCounter) (bytes rest more : List ℕ) (total : ℕ) → rest ≡ drop old.skip bytes
    → new.skip ≡ old.skip - length bytes → new.count ≡ old.count → ComesTo f old (bytes ++ more) total → ComesTo f new (rest ++ more) total
skipped_on f old new bytes rest more total rest_is skip count c = record {
  many = c.many;
  counts = rw (rest_is, skip) (subst (λ (l : List ℕ). Counts f l c.many) (skip_more old.skip bytes more) c.counts);
  is_total = rw count c.is_total;
}

-- a type and a length were passed
pub head_on : (f : FilterValue) (old new : O5mCounter) (bytes more : List ℕ) (kind : Option Kind) (size : ℕ) (after : List ℕ) (total : ℕ)
    → head_at bytes ≡ Some (kind, size, after) → (0 < old.skip → bytes ≡ []) → new.count ≡ min (old.count + one_of f kind) most_counted
    → new.skip ≡ size → ComesTo f old (bytes ++ more) total → ComesTo f new (after ++ more) total
unfolding head_at
head_on f old new bytes more kind size after total e waits count skip c =
    let none : old.skip ≡ 0 = no_skip bytes old.skip e waits in
    let here : Counts f (bytes ++ more) c.many = subst (λ (n : ℕ). Counts f (drop n (bytes ++ more)) c.many) none c.counts in
    let on = counts_after f (bytes ++ more) c.many kind size (after ++ more) (head_more bytes more kind size after e) here in
    record {
      many = on.0;
      counts = rw skip on.2;
      is_total = one_more old.count (one_of f kind) on.0 c.many new.count total count on.1 c.is_total;
    }
  where
    no_skip : (bytes : List ℕ) (n : ℕ) → head_at bytes ≡ Some (kind, size, after) → (0 < n → bytes ≡ []) → n ≡ 0
    no_skip bytes zero e waits = refl
    no_skip bytes (suc n) e waits = absurd (let empty : bytes ≡ [] = waits (omega arith) in let f = rw empty at e in cc)

-- so far these bytes were passed, and what they count was counted
pub record Passing (f : FilterValue) (old new : O5mCounter) (bytes rest : List ℕ) : Type 0 where
  pub ends : EndsWith bytes rest
  pub counted : (more : List ℕ) (total : ℕ) → ComesTo f old (bytes ++ more) total → ComesTo f new (rest ++ more) total
  pub skipped : 0 < new.skip → rest ≡ []

drop_ends : (n : ℕ) (bytes : List ℕ) → EndsWith bytes (drop n bytes)
drop_ends n bytes = record { prefix = take n bytes; parts = sym (take-append-drop n bytes) }

skipped_all : (n left : ℕ) (bytes : List ℕ) → left ≡ n - length bytes → 0 < left → drop n bytes ≡ []
skipped_all n left bytes is some = drop_all n bytes (omega (arith, is, some))

pub passing_first : (f : FilterValue) (old new : O5mCounter) (bytes rest : List ℕ) → rest ≡ drop old.skip bytes → new.skip ≡ old.skip - length bytes
    → new.count ≡ old.count → Passing f old new bytes rest
passing_first f old new bytes rest rest_is skip count = record {
  ends = rw rest_is (drop_ends old.skip bytes);
  counted = λ more total c. skipped_on f old new bytes rest more total rest_is skip count c;
  skipped = λ some. rest_is ∙ skipped_all old.skip new.skip bytes skip some;
}

-- one more dataset was passed
pub passing_next : (f : FilterValue) (first old mid new : O5mCounter) (bytes rest : List ℕ) (kind : Option Kind) (size : ℕ) (after last : List ℕ)
    → Passing f first old bytes rest → head_at rest ≡ Some (kind, size, after) → mid.count ≡ min (old.count + one_of f kind) most_counted → mid.skip ≡ size
    → last ≡ drop mid.skip after → new.skip ≡ mid.skip - length after → new.count ≡ mid.count → Passing f first new bytes last
passing_next f first old mid new bytes rest kind size after last p e count skip last_is left same =
    let l : PassesHead rest after = head_passes rest kind size after e in
    let n : Passing f mid new after last = passing_first f mid new after last last_is left same in
    record {
      ends = record {
        prefix = p.ends.prefix ++ (l.prefix ++ n.ends.prefix);
        parts = p.ends.parts ∙ ap (λ (m : List ℕ). p.ends.prefix ++ m) (l.parts ∙ ap (λ (m : List ℕ). l.prefix ++ m) n.ends.parts
            ∙ sym (append_assoc l.prefix n.ends.prefix last)) ∙ sym (append_assoc p.ends.prefix (l.prefix ++ n.ends.prefix) last);
      };
      counted = λ more total c. n.counted more total
          (head_on f old mid rest more kind size after total e p.skipped count skip (p.counted more total c));
      skipped = n.skipped;
    }

-- fewer bytes are left
pub passing_fewer : (rest : List ℕ) (kind : Option Kind) (size n : ℕ) (after last : List ℕ) → head_at rest ≡ Some (kind, size, after) → last ≡ drop n after
    → length last < length rest
passing_fewer rest kind size n after last e is =
    let l : PassesHead rest after = head_passes rest kind size after e in
    let some = l.some in
    omega (arith, some, ap length l.parts, length-append l.prefix after, ap length is, length-drop n after)

-- the count when nothing can be passed
stuck_total : (count many total : ℕ) → many ≡ 0 → IsTotal count many total → count ≡ total
stuck_total count many total none t =
    let few = t.few in
    let sum = t.sum in
    omega (arith, none, few, sum)

nothing_skipped : (n : ℕ) (bytes : List ℕ) → head_at bytes ≡ None → (0 < n → bytes ≡ []) → head_at (drop n bytes) ≡ None
nothing_skipped zero bytes e waits = e
nothing_skipped (suc n) bytes e waits = let empty : bytes ≡ [] = waits (omega arith) in rw empty (rw empty at e)

-- at the end of the file
pub ended_total : (f : FilterValue) (c : O5mCounter) (bytes : List ℕ) (total : ℕ) → head_at bytes ≡ None → (0 < c.skip → bytes ≡ []) → ComesTo f c bytes total
    → c.count ≡ total
ended_total f c bytes total e waits comes =
    stuck_total c.count comes.many total (counts_none f (drop c.skip bytes) comes.many (nothing_skipped c.skip bytes e waits) comes.counts) comes.is_total

-- and where no more bytes make a type and a length
pub over_total : (f : FilterValue) (c : O5mCounter) (bytes more : List ℕ) (total : ℕ) → 11 ≤ length bytes → head_at bytes ≡ None
    → (0 < c.skip → bytes ≡ []) → ComesTo f c (bytes ++ more) total → c.count ≡ total
over_total f c bytes more total long e waits comes =
    ended_total f c (bytes ++ more) total (no_head bytes more long e)
    (λ some. absurd (let none : length bytes ≡ 0 = ap length (waits some) in omega (arith, none, long))) comes

-- ---- what a file spells

-- one dataset at the start of bytes
record IsHead (f : FilterValue) (bytes more : List ℕ) (found : Option ChangeValue) : Type 0 where
  kind : Option Kind
  size : ℕ
  after : List ℕ
  head : head_at bytes ≡ Some (kind, size, after)
  rest : drop size after ≡ more
  one : (changes : List ChangeValue) → length (chosen_objects f (changes_with changes found)) ≡ length (chosen_objects f changes) + one_of f kind

one_object : (b : Bool) (c : ChangeValue) → length (cond b (c ∷ []) []) ≡ cond b 1 0
one_object true c = refl
one_object false c = refl

chosen_one : (f : FilterValue) (c : ChangeValue) (changes : List ChangeValue)
    → length (chosen_objects f (changes ++ c ∷ [])) ≡ length (chosen_objects f changes) + one_of f (Some c.key.kind)
chosen_one f c changes = ap length (filter-append (λ (x : ChangeValue). chooses f x.key.kind) changes (c ∷ []))
    ∙ (length-append (chosen_objects f changes) (chosen_objects f (c ∷ []))
    ∙ ap (λ (n : ℕ). length (chosen_objects f changes) + n) (one_object (chooses f c.key.kind) c))

same_number : (n : ℕ) → n ≡ n + 0
same_number n = omega arith

-- one with a length
sized_head : (f : FilterValue) (t : ℕ) (length_bytes content more : List ℕ) (found : Option ChangeValue) → t < 240 → SpellsNumber length_bytes (length content)
    → ((changes : List ChangeValue)
    → length (chosen_objects f (changes_with changes found)) ≡ length (chosen_objects f changes) + one_of f (kind_of_byte t))
    → IsHead f ((t ∷ length_bytes ++ content) ++ more) more found
unfolding head_at content_at
sized_head f t length_bytes content more found low number one =
    let test : ltb t 240 ≡ true = grind (arith, nat_tests) in
    let size : unsigned_at ((length_bytes ++ content) ++ more) ≡ Some (length content, content ++ more) =
    ap unsigned_at (append_assoc length_bytes content more) ∙ unsigned_again length_bytes (length content) (content ++ more) number in
    record {
      kind = kind_of_byte t;
      size = length content;
      after = content ++ more;
      head = rw (test, size) refl;
      rest = drop_at content more (length content) refl;
      one = one;
    }

byte_again : (k : Kind) → kind_of_byte (kind_byte k) ≡ Some k
byte_again Node = refl
byte_again Way = refl
byte_again Relation = refl

low_byte : (k : Kind) → kind_byte k < 240
low_byte Node = omega arith
low_byte Way = omega arith
low_byte Relation = omega arith

no_kind : (t : ℕ) → ((k : Kind) → t ≡ kind_byte k → ⊥) → kind_of_byte t ≡ None
no_kind t never =
    let node : t ≢ 16 = never Node in
    let way : t ≢ 17 = never Way in
    let relation : t ≢ 18 = never Relation in
    let a : eqb t 16 ≡ false = grind (arith, nat_tests) in
    let b : eqb t 17 ≡ false = grind (arith, nat_tests) in
    let c : eqb t 18 ≡ false = grind (arith, nat_tests) in
    rw (a, b, c) refl

dataset_head : (f : FilterValue) (C D : Context) (dataset more : List ℕ) (found : Option ChangeValue) → Dataset C dataset found D
    → IsHead f (dataset ++ more) more found
unfolding head_at content_at
dataset_head f C _ _ more _ (object _ length_bytes content c after number spells) =
    sized_head f (kind_byte c.key.kind) length_bytes content more (Some c) (low_byte c.key.kind) number
    (λ changes. chosen_one f c changes
    ∙ ap (λ (k : Option Kind). length (chosen_objects f changes) + one_of f k) (sym (byte_again c.key.kind)))
dataset_head f C _ _ more _ (skipped _ t length_bytes content low never number) =
    sized_head f t length_bytes content more None low number
    (λ changes. same_number (length (chosen_objects f changes))
    ∙ ap (λ (k : Option Kind). length (chosen_objects f changes) + one_of f k) (sym (no_kind t never)))
dataset_head f C _ _ more _ (lone _ t high below) =
    let a : ltb t 240 ≡ false = grind (arith, nat_tests) in
    let b : eqb t 254 ≡ false = grind (arith, nat_tests) in
    record {
      kind = None;
      size = 0;
      after = more;
      head = rw (a, b, no_object t high) refl;
      rest = refl;
      one = λ changes. same_number (length (chosen_objects f changes));
    }
dataset_head f C _ _ more _ (reset _) = record {
  kind = None;
  size = 0;
  after = more;
  head = refl;
  rest = refl;
  one = λ changes. same_number (length (chosen_objects f changes));
}

-- the beginning of a file is a reset and a dataset that is skipped
beginning_counts : (f : FilterValue) (more : List ℕ) (many : ℕ) → Counts f more many → Counts f (data_beginning ++ more) (0 + (0 + many))
unfolding head_at content_at varint_at
beginning_counts f more many rest =
    goes_on (data_beginning ++ more) None 0 (0xe0 ∷ 4 ∷ 0x6f ∷ 0x35 ∷ 0x6d ∷ 0x32 ∷ more) (0 + many) refl
    (goes_on (0xe0 ∷ 4 ∷ 0x6f ∷ 0x35 ∷ 0x6d ∷ 0x32 ∷ more) None 4 (0x6f ∷ 0x35 ∷ 0x6d ∷ 0x32 ∷ more) many refl rest)

front_counts : (f : FilterValue) (prefix : List ℕ) (C : Context) (objects : List ChangeValue) (more : List ℕ) (many : ℕ)
    → Front data_beginning IsData prefix C objects → Counts f more many
    → Counts f (prefix ++ more) (length (chosen_objects f objects) + many)
front_counts f _ _ _ more many begin rest =
    subst (λ (n : ℕ). Counts f (data_beginning ++ more) n) (zero-add (0 + many)) (beginning_counts f more many rest)
front_counts f _ _ _ more many (next prefix C objects dataset found after front d right) rest =
    let h : IsHead f (dataset ++ more) more found = dataset_head f C after dataset more found d in
    let one : Counts f (dataset ++ more) (one_of f h.kind + many) =
    goes_on (dataset ++ more) h.kind h.size h.after many h.head (rw h.rest rest) in
    let all : Counts f (prefix ++ (dataset ++ more)) (length (chosen_objects f objects) + (one_of f h.kind + many)) =
    front_counts f prefix C objects (dataset ++ more) (one_of f h.kind + many) front one in
    let longer : length (chosen_objects f (changes_with objects found)) ≡ length (chosen_objects f objects) + one_of f h.kind = h.one objects in
    let sum : length (chosen_objects f objects) + (one_of f h.kind + many) ≡ length (chosen_objects f (changes_with objects found)) + many =
    omega (arith, longer) in
    rw (append_assoc prefix dataset more) (subst (λ (n : ℕ). Counts f (prefix ++ (dataset ++ more)) n) sum all)

spelled_counts : (f : FilterValue) (file : List ℕ) (objects : List ChangeValue) → SpellsData file objects
    → Counts f file (length (chosen_objects f objects) + 0)
unfolding head_at content_at
spelled_counts f file objects s =
    rw s.whole (front_counts f s.prefix s.context objects (254 ∷ []) 0 s.is_front (ends (254 ∷ []) refl))

pub begun_total : (f : FilterValue) (counter : O5mCounter) (file : List ℕ) (objects : List ChangeValue) → BeginsCounter counter → SpellsData file objects
    → ComesTo f counter file (min (length (chosen_objects f objects)) most_counted)
begun_total f counter file objects b s =
    let none = b.none in
    record {
      many = length (chosen_objects f objects) + 0;
      counts = rw b.outside (spelled_counts f file objects s);
      is_total = record { few = omega (arith, none); sum = omega (arith, none) };
    }
