-- Prefixes and suffixes of lines, which event a line can be, and how far a script was read.
use Rattle.std.proofs.Common.{◌≡◌, ℕ, ◌+◌, ◌-◌, ◌<◌, ◌≤◌, List, [], ◌∷◌, ◌++◌, length, take, drop, get_or, refl}
use Rattle.std.proofs.Common.{append_assoc, ap, sym, ◌∙◌, true, false, arith, Some, None, length-append, append-nil}
use Rattle.std.proofs.Common.{Option}
use Rattle.std.proofs.Math.Seq.{take-append_seam, drop-append_seam}
use Rattle.std.proofs.lemmas.List.{take-append-drop, append_cancel_left}
use Rattle.std.specs.Cmp.Lexicographic.{pointwise, same_text, other_text}
use Rattle.std.proofs.lemmas.List.Elements.{filter-append}
use Rattle.osm_reading.specs.Lines.{lines_of, lines_after, is_skipped}
use Rattle.osm_reading.specs.Sequence.{SpellsSequence}
use Rattle.std.specs.Borrow.{Bor}
use Rattle.std.specs.List.{AllZip}
use Rattle.std.specs.Prelude.{IfSome, nat_eq, not, codes, Result, Ok, Err, IfErr}
use Rattle.osm_script.specs.Steps.Parsing.{IsBeginOf, IsEditOf, IsCloseOf, IsDeliverOf, EventStops, IsTakenAs}
use Rattle.osm_script.specs.Script.{IsEventLine, form_text, AreEvents, unskipped}
use Rattle.osm_world.specs.declared.event.Event.{Event}
use Rattle.osm_world.specs.declared.event.Event.TheVariants.{Edit, Close, Deliver, Show, Save, Restart, Begin}
use Rattle.osm_world.specs.declared.event.Form.{Form}
use Rattle.osm_world.specs.declared.event.Form.TheVariants.{Opl, O5c}
use Rattle.osm_script.specs.declared.script.LineFault.{LineFault}
use Rattle.osm_script.specs.declared.script.LineFault.TheVariants.{WantOfMemory, NoEvent}

pub prefix_is : (line prefix rest : List ℕ) → pointwise nat_eq (take (length prefix) line) prefix ≡ true
    → rest ≡ drop (length prefix) line → line ≡ prefix ++ rest
prefix_is line prefix rest e r =
    sym (take-append-drop (length prefix) line)
    ∙ (ap (λ (xs : List ℕ). xs ++ drop (length prefix) line) (same_text (take (length prefix) line) prefix (sym e))
    ∙ ap (λ (ys : List ℕ). prefix ++ ys) (sym r))

pub no_prefix : (line prefix rest : List ℕ) → pointwise nat_eq (take (length prefix) line) prefix ≡ false → line ≡ prefix ++ rest → ⊥
no_prefix line prefix rest e is = other_text _ _ (sym e) (ap (take (length prefix)) is ∙ take-append_seam prefix rest)

pub suffix_is : (words suffix rest : List ℕ) → pointwise nat_eq (drop (length words - length suffix) words) suffix ≡
    true → rest ≡ take (length words - length suffix) words → words ≡ rest ++ suffix
suffix_is words suffix rest e r =
    sym (take-append-drop (length words - length suffix) words)
    ∙ (ap (λ (ys : List ℕ). take (length words - length suffix) words ++ ys)
    (same_text (drop (length words - length suffix) words) suffix (sym e)) ∙ ap (λ (xs : List ℕ). xs ++ suffix)
    (sym r))

pub no_suffix : (words suffix rest : List ℕ) → pointwise nat_eq (drop (length words - length suffix) words) suffix ≡ false → words ≡ rest ++ suffix → ⊥
no_suffix words suffix rest e is =
    let many : length words ≡ length rest + length suffix = ap length is ∙ length-append rest suffix in
    let index : length words - length suffix ≡ length rest = omega arith in
    let same : drop (length words - length suffix) words ≡ suffix = ap (λ (n : ℕ). drop n words) index
    ∙ (ap (drop (length rest)) is ∙ drop-append_seam rest suffix) in
    other_text (drop (length words - length suffix) words) suffix (sym e) same

-- the first byte of an event's line
first_of : Event → ℕ
first_of (Edit c) = 101
first_of (Close t) = 99
first_of (Deliver n form) = 100
first_of Show = 115
first_of Save = 115
first_of Restart = 114
first_of (Begin n) = 98

first_is : (line : List ℕ) (e : Event) → IsEventLine line e → get_or line 0 0 ≡ first_of e
unfolding first_of
first_is line (Edit c) h = ap (λ (l : List ℕ). get_or l 0 0) h.parts
first_is line (Close t) h = ap (λ (l : List ℕ). get_or l 0 0) h.parts
first_is line (Deliver n form) h = ap (λ (l : List ℕ). get_or l 0 0) h.parts
first_is line Show h = ap (λ (l : List ℕ). get_or l 0 0) h
first_is line Save h = ap (λ (l : List ℕ). get_or l 0 0) h
first_is line Restart h = ap (λ (l : List ℕ). get_or l 0 0) h
first_is line (Begin n) h = ap (λ (l : List ℕ). get_or l 0 0) h.parts

apart : (n m : ℕ) (line : List ℕ) → get_or line 0 0 ≡ n → get_or line 0 0 ≡ m → (n ≡ m → ⊥) → ⊥
apart n m line p q ne = ne (sym p ∙ q)

-- a line that begins as one event is no other event
pub only_edit : (line object : List ℕ) (e : Event) → line ≡ codes "edit " ++ object → IsEventLine line e → IsEditOf object e
unfolding first_of
only_edit line object (Edit c) is h = let same : h.object ≡ object = append_cancel_left (codes "edit ") h.object object
    (sym h.parts ∙ is) in rw (← same) h.spelled
only_edit line object (Close t) is h = apart 101 99 line (ap (λ (l : List ℕ). get_or l 0 0) is) (first_is line (Close t) h) (λ e. omega arith)
only_edit line object (Deliver n form) is h = apart 101 100 line (ap (λ (l : List ℕ). get_or l 0 0) is) (first_is line (Deliver n form) h) (λ e. omega arith)
only_edit line object Show is h = apart 101 115 line (ap (λ (l : List ℕ). get_or l 0 0) is) (first_is line Show h) (λ e. omega arith)
only_edit line object Save is h = apart 101 115 line (ap (λ (l : List ℕ). get_or l 0 0) is) (first_is line Save h) (λ e. omega arith)
only_edit line object Restart is h = apart 101 114 line (ap (λ (l : List ℕ). get_or l 0 0) is) (first_is line Restart h) (λ e. omega arith)
only_edit line object (Begin n) is h = apart 101 98 line (ap (λ (l : List ℕ). get_or l 0 0) is) (first_is line (Begin n) h) (λ e. omega arith)

pub only_close : (line text : List ℕ) (e : Event) → line ≡ codes "close " ++ text → IsEventLine line e → IsCloseOf text e
unfolding first_of
only_close line text (Edit c) is h = apart 99 101 line (ap (λ (l : List ℕ). get_or l 0 0) is) (first_is line (Edit c) h) (λ e. omega arith)
only_close line text (Close t) is h = let same : h.text ≡ text = append_cancel_left (codes "close ") h.text text (sym h.parts ∙ is) in rw (← same) h.spelled
only_close line text (Deliver n form) is h = apart 99 100 line (ap (λ (l : List ℕ). get_or l 0 0) is) (first_is line (Deliver n form) h) (λ e. omega arith)
only_close line text Show is h = apart 99 115 line (ap (λ (l : List ℕ). get_or l 0 0) is) (first_is line Show h) (λ e. omega arith)
only_close line text Save is h = apart 99 115 line (ap (λ (l : List ℕ). get_or l 0 0) is) (first_is line Save h) (λ e. omega arith)
only_close line text Restart is h = apart 99 114 line (ap (λ (l : List ℕ). get_or l 0 0) is) (first_is line Restart h) (λ e. omega arith)
only_close line text (Begin n) is h = apart 99 98 line (ap (λ (l : List ℕ). get_or l 0 0) is) (first_is line (Begin n) h) (λ e. omega arith)

pub only_deliver : (line words : List ℕ) (e : Event) → line ≡ codes "deliver " ++ words → IsEventLine line e → IsDeliverOf words e
unfolding first_of
only_deliver line words (Edit c) is h = apart 100 101 line (ap (λ (l : List ℕ). get_or l 0 0) is) (first_is line (Edit c) h) (λ e. omega arith)
only_deliver line words (Close t) is h = apart 100 99 line (ap (λ (l : List ℕ). get_or l 0 0) is) (first_is line (Close t) h) (λ e. omega arith)
only_deliver line words (Deliver n form) is h = record {
  digits = h.digits;
  parts = append_cancel_left (codes "deliver ") words (h.digits ++ form_text form) (sym is ∙ h.parts);
  spelled = h.spelled;
}
only_deliver line words Show is h = apart 100 115 line (ap (λ (l : List ℕ). get_or l 0 0) is) (first_is line Show h) (λ e. omega arith)
only_deliver line words Save is h = apart 100 115 line (ap (λ (l : List ℕ). get_or l 0 0) is) (first_is line Save h) (λ e. omega arith)
only_deliver line words Restart is h = apart 100 114 line (ap (λ (l : List ℕ). get_or l 0 0) is) (first_is line Restart h) (λ e. omega arith)
only_deliver line words (Begin n) is h = apart 100 98 line (ap (λ (l : List ℕ). get_or l 0 0) is) (first_is line (Begin n) h) (λ e. omega arith)

pub only_begin : (line digits : List ℕ) (e : Event) → line ≡ codes "begin " ++ digits → IsEventLine line e → IsBeginOf digits e
unfolding first_of
only_begin line digits (Edit c) is h = apart 98 101 line (ap (λ (l : List ℕ). get_or l 0 0) is) (first_is line (Edit c) h) (λ e. omega arith)
only_begin line digits (Close t) is h = apart 98 99 line (ap (λ (l : List ℕ). get_or l 0 0) is) (first_is line (Close t) h) (λ e. omega arith)
only_begin line digits (Deliver n form) is h = apart 98 100 line (ap (λ (l : List ℕ). get_or l 0 0) is) (first_is line (Deliver n form) h) (λ e. omega arith)
only_begin line digits Show is h = apart 98 115 line (ap (λ (l : List ℕ). get_or l 0 0) is) (first_is line Show h) (λ e. omega arith)
only_begin line digits Save is h = apart 98 115 line (ap (λ (l : List ℕ). get_or l 0 0) is) (first_is line Save h) (λ e. omega arith)
only_begin line digits Restart is h = apart 98 114 line (ap (λ (l : List ℕ). get_or l 0 0) is) (first_is line Restart h) (λ e. omega arith)
only_begin line digits (Begin n) is h = let same : h.digits ≡ digits = append_cancel_left (codes "begin ") h.digits digits
    (sym h.parts ∙ is) in rw (← same) h.spelled

-- what begins at a number has its digits
pub begin_digits : (digits : List ℕ) (e : Event) → IsBeginOf digits e → (n : ℕ) × SpellsSequence digits n
begin_digits digits (Edit c) h = absurd h
begin_digits digits (Close t) h = absurd h
begin_digits digits (Deliver n form) h = absurd h
begin_digits digits Show h = absurd h
begin_digits digits Save h = absurd h
begin_digits digits Restart h = absurd h
begin_digits digits (Begin n) h = (n, h)

-- what refuses one fact refuses another that implies it
pub refused_more : (r : Result Event LineFault) (A B : Event → Type 0) → ((e : Event) → B e → A e) → IfErr r (EventStops A) → IfErr r (EventStops B)
refused_more (Ok e) A B more h = tt
refused_more (Err WantOfMemory) A B more h = tt
refused_more (Err NoEvent) A B more h = λ e b. h e (more e b)

four_bytes : (form : Form) → length (form_text form) ≡ 4
four_bytes Opl = refl
four_bytes O5c = refl

-- words that name a form have the digits before its name, whichever form it is
pub deliver_words : (words digits : List ℕ) (form : Form) (e : Event) → words ≡ digits ++ form_text form
    → IsDeliverOf words e → (n : ℕ) × SpellsSequence digits n
deliver_words words digits form (Edit c) is h = absurd h
deliver_words words digits form (Close t) is h = absurd h
deliver_words words digits form (Deliver n g) is h =
    let many : length words ≡ length digits + length (form_text form) = ap length is ∙ length-append digits (form_text form) in
    let others : length words ≡ length h.digits + length (form_text g) = ap length h.parts ∙ length-append h.digits (form_text g) in
    let as_many : length h.digits ≡ length digits = omega (arith, four_bytes form, four_bytes g) in
    let same : h.digits ≡ digits =
    sym (take-append_seam h.digits (form_text g))
    ∙ (ap (take (length h.digits)) (sym h.parts)
    ∙ (ap (λ (m : ℕ). take m words) as_many
    ∙ (ap (take (length digits)) is ∙ take-append_seam digits (form_text form)))) in
    (n, rw (← same) h.spelled)
deliver_words words digits form Show is h = absurd h
deliver_words words digits form Save is h = absurd h
deliver_words words digits form Restart is h = absurd h
deliver_words words digits form (Begin n) is h = absurd h

-- one more line, which is skipped or is an event
pub AreEvents-skipped : (lines : List (List ℕ)) (events : List Event) (line : List ℕ) → AreEvents lines events
    → is_skipped line ≡ true → AreEvents (lines ++ line ∷ []) events
AreEvents-skipped lines events line h skipped = rw (filter-append (λ (l : List ℕ). not (is_skipped l)) lines (line ∷ []), skipped, append-nil) h

zip-push : (ls : List (List ℕ)) (es : List Event) (l : List ℕ) (e : Event) → AllZip IsEventLine ls es → IsEventLine l e
    → AllZip IsEventLine (ls ++ l ∷ []) (es ++ e ∷ [])
zip-push [] [] l e h is = (is, tt)
zip-push [] (d ∷ es) l e h is = absurd h
zip-push (k ∷ ls) [] l e h is = absurd h
zip-push (k ∷ ls) (d ∷ es) l e h is = (h.0, zip-push ls es l e h.1 is)

pub AreEvents-more : (lines : List (List ℕ)) (events : List Event) (line : List ℕ) (e : Event) → AreEvents lines events
    → is_skipped line ≡ false → IsEventLine line e → AreEvents (lines ++ line ∷ []) (events ++ e ∷ [])
AreEvents-more lines events line e h said is = rw (
  filter-append (λ (l : List ℕ). not (is_skipped l)) lines (line ∷ []),
  said,
) (zip-push (unskipped lines) events line e h is)

-- the length of what is left to read, and one more for its first line
abbrev pub left_of : Option (Bor (List ℕ)) → ℕ
left_of None = 0
left_of (Some rest) = length rest.now + 1

-- what is left after a line is less than before it
left_after : (rest : Option (Bor (List ℕ))) (n : ℕ) → IfSome rest (λ r. length r.now < n) → left_of rest ≤ n
left_after None n h = omega arith
left_after (Some r) n h = omega (arith, h)

-- how far a script was read: the lines that were passed, their number, and their events
pub record IsReadTo (script : List ℕ) (rest : Option (Bor (List ℕ))) (number : ℕ) (events : List Event) : Type 0 where
  pub passed : List (List ℕ)
  pub lines : lines_of script ≡ passed ++ lines_after rest
  pub are_events : AreEvents passed events
  pub counted : number ≡ length passed
  pub room : number + left_of rest ≤ length script + 1

-- the text's first line and what follows it
pub record IsSplit (bytes line : List ℕ) (after : Option (Bor (List ℕ))) : Type 0 where
  pub lines : lines_of bytes ≡ line ∷ lines_after after
  pub shorter : IfSome after (λ r. length r.now < length bytes)

-- one more line is passed, which is skipped
pub read_skipped : (script : List ℕ) (bytes : Bor (List ℕ)) (line : List ℕ) (after : Option (Bor (List ℕ))) (number : ℕ) (events : List Event)
    → IsReadTo script (Some bytes) number events → IsSplit bytes.now line after → is_skipped line ≡ true → IsReadTo script after (number + 1) events
read_skipped script bytes line after number events i split skipped =
    let less : left_of after ≤ length bytes.now = left_after after (length bytes.now) split.shorter in
    let room : number + (length bytes.now + 1) ≤ length script + 1 = i.room in
    record {
      passed = i.passed ++ line ∷ [];
      lines = i.lines ∙ (ap (λ (ls : List (List ℕ)). i.passed ++ ls) split.lines ∙ sym (append_assoc i.passed (line ∷ []) (lines_after after)));
      are_events = AreEvents-skipped i.passed events line i.are_events skipped;
      counted = omega (arith, i.counted, length-append i.passed (line ∷ []));
      room = omega arith;
    }

-- one more line is passed, which is an event
pub read_event : (script : List ℕ) (bytes : Bor (List ℕ)) (line : List ℕ) (after : Option (Bor (List ℕ))) (number : ℕ) (events : List Event) (event : Event)
    → IsReadTo script (Some bytes) number events → IsSplit bytes.now line after → IsTakenAs line (Some event)
    → IsReadTo script after (number + 1) (events ++ event ∷ [])
read_event script bytes line after number events event i split said =
    let less : left_of after ≤ length bytes.now = left_after after (length bytes.now) split.shorter in
    let room : number + (length bytes.now + 1) ≤ length script + 1 = i.room in
    record {
      passed = i.passed ++ line ∷ [];
      lines = i.lines ∙ (ap (λ (ls : List (List ℕ)). i.passed ++ ls) split.lines ∙ sym (append_assoc i.passed (line ∷ []) (lines_after after)));
      are_events = AreEvents-more i.passed events line event i.are_events said.0 said.1;
      counted = omega (arith, i.counted, length-append i.passed (line ∷ []));
      room = omega arith;
    }
