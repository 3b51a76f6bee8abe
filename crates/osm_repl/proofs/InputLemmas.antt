-- The lines of standard input, each of which names an object.
use Rattle.std.proofs.Common.{◌≡◌, ℕ, ◌++◌, ◌∷◌, List, [], Bool, true, false, None, Option, Some, append_assoc, ap, inl, inr, refl, subst, sym, ◌∙◌, arith}
use Rattle.std.specs.Prelude.{◌==◌, IfSome, if◌then◌else◌}
use Rattle.std.specs.Io.BufRead.{DropsThrough, drop_through, take_through}
use Rattle.std.specs.Io.Buffered.{reader_buffer, reader_capacity, reader_inner, reader_remaining}
use Rattle.std.specs.Io.KnownBytes.{prepend_known}
use Rattle.std.specs.declared.io.buffered.BufReader.{BufReader}
use Rattle.std.proofs.lemmas.Bool.Decides.{nat_tests}
use Rattle.std.proofs.lemmas.List.{append-nil}
use Rattle.osm_model.specs.declared.kind.Key.{Key}
use Rattle.osm_opl.specs.Written.{key_text}
use Rattle.osm_reading.specs.Pieces.{cut_at}
use Rattle.osm_runs.specs.declared.fault.RunFault.{RunFault}
use Rattle.osm_repl.specs.Getting.{IsInputFault, IsLeft, IsNextLine, Next, first_line, first_of, keys_of, lines_of}
use Rattle.osm_repl.specs.Getting.Next.{Asks, Gathers, Reads, Refuses}
use Rattle.osm_repl.specs.Steps.Getting.{At, Cut, IsNamed, IsNextNamed, Shown}
use Rattle.osm_repl.proofs.GetLemmas.{cut_after, shown_both, shown_none}

-- the lines before named those objects, and that is left
abbrev pub StandsIn : Option (List ℕ) → Option (List ℕ) → List Key → Type 0
StandsIn None left keys = Unit {0}
StandsIn (Some bytes) left keys = (rest : List ℕ) × (left ≡ Some rest) × IsLeft bytes keys rest

-- a line was read
pub record IsLineRead (left after : Option (List ℕ)) (line : List ℕ) : Type 0 where
  pub line_is : IfSome left (λ bytes. line ≡ [] ++ take_through 10 bytes)
  pub rest : DropsThrough left after 10

-- ---- a first line

-- what a read up to an LF takes and leaves
data Through (bytes : List ℕ) : Type 0 where
  ended : (line rest : List ℕ) → cut_at 10 bytes ≡ Some (line, rest) → bytes ≡ line ++ 10 ∷ rest → take_through 10 bytes ≡ line ++ 10 ∷ []
      → drop_through 10 bytes ≡ rest → cut_at 10 (line ++ 10 ∷ []) ≡ Some (line, []) → Through bytes
  unended : cut_at 10 bytes ≡ None → take_through 10 bytes ≡ bytes → drop_through 10 bytes ≡ [] → Through bytes

through : (bytes : List ℕ) → Through bytes
unfolding cut_at
through [] = unended refl refl refl
through (x ∷ xs) = by_test (x == 10) refl (through xs)
  where
    ten : (x == 10) ≡ true → x ≡ 10
    ten is = grind (arith, nat_tests)

    by_test : (t : Bool) → (x == 10) ≡ t → Through xs → Through (x ∷ xs)
    by_test true is more = ended [] xs (rw is refl) (ap (λ y. y ∷ xs) (ten is)) (rw is (ap (λ y. y ∷ []) (ten is))) (rw is refl) refl
    by_test false is (ended line rest cut parts taken left again) =
        ended (x ∷ line) rest (rw (is, cut) refl) (ap (λ l. x ∷ l) parts) (rw is (ap (λ l. x ∷ l) taken)) (rw is left) (rw (is, again) refl)
    by_test false is (unended cut taken left) = unended (rw (is, cut) refl) (rw is (ap (λ l. x ∷ l) taken)) (rw is left)

empty_first : first_line [] ≡ []
unfolding cut_at
empty_first = refl

-- no object has an empty name
unnamed : (bytes : List ℕ) (key : Key) → bytes ≡ [] → bytes ≡ key_text key → ⊥
unnamed bytes key none is = let e : ◌≡◌ {A = List ℕ} [] (key_text key) = sym none ∙ is in absurd cc

first_ended : (bytes line rest : List ℕ) → cut_at 10 bytes ≡ Some (line, rest) → first_line bytes ≡ line
first_ended bytes line rest cut = ap (λ c. first_of c bytes) cut

first_open : (bytes : List ℕ) → cut_at 10 bytes ≡ None → first_line bytes ≡ bytes
first_open bytes cut = ap (λ c. first_of c bytes) cut

-- the line that was read is the first one
first_taken : (bytes : List ℕ) → first_line (take_through 10 bytes) ≡ first_line bytes
first_taken bytes = by_through (through bytes)
  where
    by_through : Through bytes → first_line (take_through 10 bytes) ≡ first_line bytes
    by_through (ended line rest cut parts taken left again) =
        ap first_line taken ∙ first_ended (line ++ 10 ∷ []) line [] again ∙ sym (first_ended bytes line rest cut)
    by_through (unended cut taken left) = ap first_line taken

lines_more : (keys : List Key) (key : Key) → lines_of (keys ++ key ∷ []) ≡ lines_of keys ++ (key_text key ++ 10 ∷ [])
lines_more [] key = append-nil (key_text key ++ 10 ∷ [])
lines_more (k ∷ keys) key =
    ap (λ l. (key_text k ++ 10 ∷ []) ++ l) (lines_more keys key) ∙ sym (append_assoc (key_text k ++ 10 ∷ []) (lines_of keys) (key_text key ++ 10 ∷ []))

-- one line more was read
left_more : (all : List ℕ) (keys : List Key) (bytes : List ℕ) (key : Key) → IsLeft all keys bytes → first_line bytes ≡ key_text key
    → IsLeft all (keys ++ key ∷ []) (drop_through 10 bytes)
left_more all keys bytes key (inr over) is = absurd (unnamed (key_text key) key (sym is ∙ ap first_line over.1 ∙ empty_first) refl)
left_more all keys bytes key (inl at) is = by_through (through bytes)
  where
    by_through : Through bytes → IsLeft all (keys ++ key ∷ []) (drop_through 10 bytes)
    by_through (ended line rest cut parts taken left again) =
        let named : line ≡ key_text key = sym (first_ended bytes line rest cut) ∙ is in
        inl (at ∙ ap (λ l. lines_of keys ++ l) (parts ∙ ap (λ l. l ++ 10 ∷ rest) named ∙ sym (append_assoc (key_text key) (10 ∷ []) rest))
        ∙ sym (append_assoc (lines_of keys) (key_text key ++ 10 ∷ []) rest) ∙ ap (λ l. l ++ rest) (sym (lines_more keys key))
        ∙ ap (λ l. lines_of (keys ++ key ∷ []) ++ l) (sym left))
    by_through (unended cut taken left) =
        let named : bytes ≡ key_text key = sym (first_open bytes cut) ∙ is in
        inr (
          ap (λ l. l ++ 10 ∷ []) at ∙ append_assoc (lines_of keys) bytes (10 ∷ []) ∙ ap (λ l. lines_of keys ++ (l ++ 10 ∷ [])) named
              ∙ sym (lines_more keys key),
          left,
        )

-- ---- the input

pub stands_first : (input : Option (List ℕ)) → StandsIn input input []
stands_first None = tt
stands_first (Some bytes) = (bytes, refl, inl refl)

line_of_left : (left after : Option (List ℕ)) (line bytes : List ℕ) → IsLineRead left after line → left ≡ Some bytes
    → (line ≡ take_through 10 bytes) × (after ≡ Some (drop_through 10 bytes))
line_of_left left after line bytes read is = (
  subst (λ (o : Option (List ℕ)). IfSome o (λ bs. line ≡ take_through 10 bs)) is read.line_is,
  subst (λ (o : Option (List ℕ)). IfSome o (λ bs. after ≡ Some (drop_through 10 bs))) is read.rest,
)

pub stands_more : (input left after : Option (List ℕ)) (line : List ℕ) (ks js : List Key) → IsLineRead left after line → StandsIn input left ks
    → IsNamed line js → StandsIn input after (ks ++ js)
stands_more None left after line ks js read stands named = tt
stands_more (Some all) left after line ks js read stands named =
    let x = line_of_left left after line stands.0 read stands.1 in
    let is : first_line stands.0 ≡ key_text named.0 = sym (first_taken stands.0) ∙ ap first_line (sym x.0) ∙ named.2 in
    subst (λ (one : List Key). StandsIn (Some all) after (ks ++ one)) (sym named.1)
    (drop_through 10 stands.0, x.1, left_more all ks stands.0 named.0 stands.2 is)

stands_next : (input left after : Option (List ℕ)) (line : List ℕ) (ks : List Key) (next : Next) → IsLineRead left after line
    → (line ≡ [] → ⊥) → StandsIn input left ks → (js : List Key) → IsNextNamed line js next → IsNextLine input (ks ++ js) next
stands_next None left after line ks (Asks key) read some stands js named = λ e. absurd cc
stands_next None left after line ks (Refuses refused) read some stands js named = λ e. absurd cc
stands_next None left after line ks Reads read some stands js named = absurd named.1
stands_next None left after line ks Gathers read some stands js named = absurd named.1
stands_next (Some all) left after line ks (Asks key) read some stands js named =
    let x = line_of_left left after line stands.0 read stands.1 in
    subst (λ (one : List Key). IsNextLine (Some all) (ks ++ one) (Asks key)) (sym named.0)
    (subst (λ (same : List Key). IsNextLine (Some all) same (Asks key)) (sym (append-nil ks))
    (stands.0, stands.2, sym (first_taken stands.0) ∙ ap first_line (sym x.0) ∙ named.1))
stands_next (Some all) left after line ks (Refuses refused) read some stands js named =
    let x = line_of_left left after line stands.0 read stands.1 in
    subst (λ (one : List Key). IsNextLine (Some all) (ks ++ one) (Refuses refused)) (sym named.0)
    (subst (λ (same : List Key). IsNextLine (Some all) same (Refuses refused)) (sym (append-nil ks))
    (stands.0, stands.2, ((λ none. some (x.0 ∙ ap (take_through 10) none)), named.1 ∙ ap first_line x.0 ∙ first_taken stands.0)))
stands_next (Some all) left after line ks Reads read some stands js named = absurd named.1
stands_next (Some all) left after line ks Gathers read some stands js named = absurd named.1

stands_read : (input left : Option (List ℕ)) (ks : List Key) → StandsIn input left ks → IsNextLine input ks Reads
stands_read None left ks stands = λ e. absurd cc
stands_read (Some all) left ks stands = (stands.0, stands.2, tt)

-- ---- the lines as objects

-- a reader with room that has read nothing ahead has what its own reader has
remaining_is : (room : ℕ) (ahead : List ℕ) (o : Option (List ℕ)) → room ≡ 8192 → ahead ≡ []
    → (if room == 0 then None else prepend_known ahead o) ≡ o
remaining_is room ahead o some none = rw (some, none) (by_input o)
  where
    by_input : (o : Option (List ℕ)) → prepend_known [] o ≡ o
    by_input None = refl
    by_input (Some bytes) = refl

pub lines_begin : {T A : Type 0} (remaining : T → Option (List ℕ)) (r : BufReader T A) (input : Option (List ℕ)) (a : At) → reader_capacity r ≡ 8192
    → reader_buffer r ≡ [] → remaining (reader_inner r) ≡ input → Shown (StandsIn input (reader_remaining remaining r)) a a
lines_begin remaining r input a room none same =
    let left : reader_remaining remaining r ≡ input =
    remaining_is (reader_capacity r) (reader_buffer r) (remaining (reader_inner r)) room none ∙ same in
    subst (λ (o : Option (List ℕ)). Shown (StandsIn input o) a a) (sym left) (shown_none (StandsIn input input) a (stands_first input))

-- a line was read into an empty vector
pub line_read : (left after : Option (List ℕ)) (before buffer line : List ℕ) → before ≡ [] → line ≡ buffer
    → IfSome left (λ bytes. buffer ≡ before ++ take_through 10 bytes) → DropsThrough left after 10 → IsLineRead left after line
line_read left after before buffer line none same is rest = rw same (record {
  line_is = subst (λ (front : List ℕ). IfSome left (λ bytes. buffer ≡ front ++ take_through 10 bytes)) none is;
  rest = rest;
})

pub lines_more_shown : (input left after : Option (List ℕ)) (line : List ℕ) (a b c : At) → IsLineRead left after line → Shown (StandsIn input left) a b
    → Shown (IsNamed line) b c → Shown (StandsIn input after) a c
lines_more_shown input left after line a b c read m n =
    shown_both (StandsIn input left) (IsNamed line) (StandsIn input after) a b c m n
    (λ ks js stands named. stands_more input left after line ks js read stands named)

pub lines_cut : (input left after : Option (List ℕ)) (line : List ℕ) (a b : At) (printed : Option (List ℕ)) (lines noted : List ℕ) (fault : RunFault)
    → IsLineRead left after line → (line ≡ [] → ⊥) → Shown (StandsIn input left) a b → Cut (IsNextNamed line) b printed lines noted fault
    → Cut (IsNextLine input) a printed lines noted fault
lines_cut input left after line a b printed lines noted fault read some m n =
    cut_after (StandsIn input left) (IsNextNamed line) (IsNextLine input) a b printed lines noted fault m n
    (λ ks js next stands named. stands_next input left after line ks next read some stands js named)

-- the input isn't read on
pub reads_cut : (input left : Option (List ℕ)) (a b : At) (noted : List ℕ) (fault : RunFault) → IsInputFault fault → noted ≡ []
    → Shown (StandsIn input left) a b → Cut (IsNextLine input) a b.printed b.lines noted fault
reads_cut input left a b noted fault why unnoted m = record {
  each = λ s asked.
      let x = m.each s asked in record {
        found = x.found;
        next = Reads;
        keys = stands_read input left (keys_of x.found) x.keys;
        cuts = record { between = b.printed; tells = x.shows.tells; stops = (refl, unnoted, why) };
      };
}
