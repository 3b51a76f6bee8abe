-- One object that is asked for.
use Rattle.std.proofs.Common.{◌≡◌, ℕ, ◌++◌, ◌∷◌, List, [], Bool, None, Option, Some, ap, refl, subst, sym, ◌∙◌}
use Rattle.std.specs.Prelude.{IsTrue, codes, is_some, true, false}
use Rattle.std.specs.Io.KnownBytes.{Appends}
use Rattle.std.proofs.lemmas.List.{append-nil}
use Rattle.osm_model.specs.Change.{ChangeValue}
use Rattle.osm_model.specs.declared.kind.Key.{Key}
use Rattle.osm_opl.specs.Written.{key_text}
use Rattle.osm_reading.specs.Writing.{AppendsPart}
use Rattle.osm_store.specs.Files.{Files}
use Rattle.osm_store.specs.Frames.{IsKnown}
use Rattle.osm_kept.specs.Names.{journal_name_of}
use Rattle.osm_runs.specs.declared.fault.RunFault.{RunFault}
use Rattle.osm_runs.specs.declared.fault.RunFault.TheVariants.{WantOfMemory}
use Rattle.osm_asking.specs.Asking.{AnswerStops, IsAnswer, IsOpened}
use Rattle.osm_asking.specs.Getting.{IsAsking, IsNotPrinted, IsPrinted, IsSameAsking, answer_text, notes_references}
use Rattle.osm_asking.specs.Getting.{HasNoted, IsNoted}
use Rattle.osm_asking.specs.declared.ask_fault.AskFault.{AskFault}
use Rattle.osm_asking.specs.declared.ask_fault.AskFault.TheVariants as asks
use Rattle.osm_asking.specs.declared.get.Asking.{Asking}
use Rattle.osm_asking.specs.declared.get.Form.{Form}
use Rattle.osm_asking.specs.declared.kept.Sources.{Sources}
use Rattle.osm_repl.specs.Getting.{IsFoundIn, IsObjectRefused, IsUnanswered, IsWordOf, Search, absent_line}
use Rattle.osm_repl.specs.Getting.{ask_fault_of, asked_of, first_line, there_of}
use Rattle.osm_repl.specs.Getting.Next.{Asks, Refuses}
use Rattle.osm_repl.specs.Steps.Getting.{At, Cut, IsAsked, IsNext, IsNextNamed, IsOne, Shown}
use Rattle.osm_repl.proofs.GetLemmas.{tells_none}
use Rattle.osm_repl.proofs.StopsLemmas.{answer_back}

-- ---- the files are those of the search

file_is : (s : Search) (a : At) → IsAsked s a → a.state.files a.question.save.now ≡ s.old.files s.save
file_is s a asked = ap (λ (f : Files). f a.question.save.now) asked.files ∙ ap s.old.files asked.save

asking_is : (s : Search) (a : At) → IsAsked s a
    → IsAsking (IsKnown a.state) (a.state.files a.question.save.now) (s.old.files (journal_name_of s.save)) a.question.asking
asking_is s a asked =
    subst (λ (t : Bool). IsAsking (IsTrue t) (a.state.files a.question.save.now) (s.old.files (journal_name_of s.save)) a.question.asking) (sym asked.known)
    (subst (λ (o : Option (List ℕ)). IsAsking (IsKnown s.old) o (s.old.files (journal_name_of s.save)) a.question.asking) (sym (file_is s a asked))
    asked.asking)

found_is : (s : Search) (a : At) (key : Key) (answer : Option ChangeValue) → IsAsked s a
    → IsAnswer (IsKnown a.state) (a.state.files a.question.save.now) (s.old.files (journal_name_of s.save)) a.question.asking.sources key answer
    → IsFoundIn s (key, answer)
found_is s a key answer asked is =
    subst (λ (sources : Sources). IsAnswer (IsKnown s.old) (s.old.files s.save) (s.old.files (journal_name_of s.save)) sources key answer) asked.sources
    (subst (λ (o : Option (List ℕ)). IsAnswer (IsKnown s.old) o (s.old.files (journal_name_of s.save)) a.question.asking.sources key answer)
    (file_is s a asked)
    (subst (λ (t : Bool). IsAnswer (IsTrue t) (a.state.files a.question.save.now) (s.old.files (journal_name_of s.save)) a.question.asking.sources key answer)
    asked.known is))

-- ---- it is asked for

-- what printing an object says, whatever the journal holds
abbrev pub Printed : Key → At → At → Bool → Type 0
Printed key a b is_there =
    (journal : Option (List ℕ)) → IsAsking (IsKnown a.state) (a.state.files a.question.save.now) journal a.question.asking
    → IsPrinted (IsKnown a.state) (a.state.files a.question.save.now) journal key a.question.asking b.question.asking a.printed b.printed is_there

-- the question stays the same
pub record IsKeptAt (a b : At) : Type 0 where
  pub files : b.state.files ≡ a.state.files
  pub known : b.state.is_known ≡ a.state.is_known
  pub save : b.question.save ≡ a.question.save
  pub same : IsSameAsking a.question.asking b.question.asking

-- the notes after an object
abbrev pub NotesAfter : Bool → Key → List ℕ → List ℕ → Type 0
NotesAfter true key old new = new ≡ old
NotesAfter false key old new = new ≡ old ++ (key_text key ++ codes ": not there\n")

pub asked_after : (s : Search) (a b : At) → IsKeptAt a b → IsAsked s a → IsAsked s b
asked_after s a b kept asked = record {
  save = ap (λ save. save.now) kept.save ∙ asked.save;
  files = kept.files ∙ asked.files;
  known = kept.known ∙ asked.known;
  asking = record {
    opened = subst (λ (sources : Sources). Opened sources) (sym kept.same.sources) asked.asking.opened;
  };
  sources = kept.same.sources ∙ asked.sources;
  form = kept.same.form ∙ asked.form;
}
  where
    Opened : Sources → Type 0
    Opened sources = IsOpened (IsKnown s.old) (s.old.files s.save) (s.old.files (journal_name_of s.save)) sources

notes_of : (is_there : Bool) (key : Key) (answer : Option ChangeValue) (old new : List ℕ) → is_there ≡ is_some answer
    → NotesAfter is_there key old new → new ≡ old ++ (absent_line (key, answer) ++ [])
notes_of true key (Some c) old new is notes = notes ∙ sym (append-nil old)
notes_of false key None old new is notes = notes ∙ ap (λ l. old ++ l) (sym (append-nil (key_text key ++ codes ": not there\n")))
notes_of true key None old new is notes = absurd cc
notes_of false key (Some c) old new is notes = absurd cc

noted_of : (key : Key) (answer : Option ChangeValue) (old new : Asking) → IsNoted key answer old new
    → (ks : List Key) (cs : List ChangeValue) → IsTrue (notes_references old) → HasNoted ks cs old
    → HasNoted (asked_of ((key, answer) ∷ []) ks) (there_of ((key, answer) ∷ []) cs) new
noted_of key None old new noted ks cs wants has = noted ks cs wants has
noted_of key (Some c) old new noted ks cs wants has = noted ks cs wants has

one_shown : (key : Key) (a b : At) (is_there : Bool) → Printed key a b is_there → IsKeptAt a b
    → notes_references b.question.asking ≡ notes_references a.question.asking → NotesAfter is_there key a.lines b.lines → Shown (IsOne key) a b
one_shown key a b is_there printed kept refers notes = record {
  each = λ s asked.
      let x = printed (s.old.files (journal_name_of s.save)) (asking_is s a asked) in record {
        found = (key, x.answer) ∷ [];
        keys = refl;
        shows = record {
          tells = record {
            each = (found_is s a key x.answer asked x.is, tt);
            text = subst (λ (text : List ℕ). Appends a.printed b.printed text) (sym (append-nil (answer_text s.form x.answer)))
                (subst (λ (form : Form). Appends a.printed b.printed (answer_text form x.answer)) asked.form x.text);
            lines_are = notes_of is_there key x.answer a.lines b.lines x.there notes;
          };
          asked = asked_after s a b kept asked;
          refers = refers;
          noted = noted_of key x.answer a.question.asking b.question.asking x.noted;
        };
      };
}

pub one_there : (key : Key) (a b : At) (is_there : Bool) → is_there ≡ true → Printed key a b is_there → IsKeptAt a b
    → notes_references b.question.asking ≡ notes_references a.question.asking → b.lines ≡ a.lines → Shown (IsOne key) a b
one_there key a b is_there sure printed kept refers notes =
    one_shown key a b is_there printed kept refers (subst (λ (t : Bool). NotesAfter t key a.lines b.lines) (sym sure) notes)

pub one_absent : (key : Key) (a b : At) (is_there : Bool) → is_there ≡ false → Printed key a b is_there → IsKeptAt a b
    → notes_references b.question.asking ≡ notes_references a.question.asking → b.lines ≡ a.lines ++ (key_text key ++ codes ": not there\n")
    → Shown (IsOne key) a b
one_absent key a b is_there none printed kept refers notes =
    one_shown key a b is_there printed kept refers (subst (λ (t : Bool). NotesAfter t key a.lines b.lines) (sym none) notes)

-- it isn't there, and that isn't noted
pub one_unnoted : (key : Key) (a b : At) (is_there : Bool) → is_there ≡ false → Printed key a b is_there
    → Cut (IsNext key) a b.printed a.lines [] WantOfMemory
one_unnoted key a b is_there none printed = record {
  each = λ s asked.
      let x = printed (s.old.files (journal_name_of s.save)) (asking_is s a asked) in record {
        found = [];
        next = Asks key;
        keys = (refl, refl);
        cuts = record {
          between = b.printed;
          tells = record { each = tt; text = nothing x.answer (sym none ∙ x.there) a.question.asking.form x.text; lines_are = sym (append-nil a.lines) };
          stops = (refl, (asks.WantOfMemory, refl, (tt, refl)));
        };
      };
}
  where
    nothing : (answer : Option ChangeValue) → false ≡ is_some answer → (form : Form)
        → Appends a.printed b.printed (answer_text form answer) → Appends a.printed b.printed []
    nothing None is form text = text
    nothing (Some c) is form text = absurd cc

-- it isn't printed
pub one_cut : (key : Key) (a : At) (after : Option (List ℕ)) (why : AskFault)
    → ((journal : Option (List ℕ)) → IsAsking (IsKnown a.state) (a.state.files a.question.save.now) journal a.question.asking
    → IsNotPrinted a.state a.question.save.now journal key a.question.asking a.printed after why)
    → Cut (IsNext key) a after a.lines [] (ask_fault_of why)
one_cut key a after why not = record {
  each = λ s asked. record {
    found = [];
    next = Asks key;
    keys = (refl, refl);
    cuts = record {
      between = a.printed;
      tells = tells_none s a;
      stops = (refl, (why, refl, by_fault s asked why (not (s.old.files (journal_name_of s.save)) (asking_is s a asked))));
    };
  };
}
  where
    stops_there : (s : Search) → IsAsked s a → (fault : AskFault) → AnswerStops a.state a.question.save.now fault → AnswerStops s.old s.save fault
    stops_there s asked fault stops =
        answer_back s.old a.state asked.files asked.known s.save fault
        (subst (λ (save : List ℕ). AnswerStops a.state save fault) asked.save stops)

    by_fault : (s : Search) → IsAsked s a → (fault : AskFault)
        → IsNotPrinted a.state a.question.save.now (s.old.files (journal_name_of s.save)) key a.question.asking a.printed after fault
        → IsUnanswered s key a.printed after fault
    by_fault s asked asks.NotWritten cut = (
      cut.answer,
      found_is s a key cut.answer asked cut.is,
      subst (λ (form : Form). AppendsPart a.printed after (answer_text form cut.answer)) asked.form cut.part,
    )
    by_fault s asked asks.NoSave stops = (stops_there s asked asks.NoSave stops.0, stops.1)
    by_fault s asked (asks.Kept fault) stops = (stops_there s asked (asks.Kept fault) stops.0, stops.1)
    by_fault s asked (asks.Search fault) stops = (stops_there s asked (asks.Search fault) stops.0, stops.1)
    by_fault s asked asks.WantOfMemory stops = (stops_there s asked asks.WantOfMemory stops.0, stops.1)

-- ---- a line names it

-- the line is refused
pub refused_cut : (line word : List ℕ) (a : At) (noted : List ℕ) (fault : RunFault) → IsWordOf (first_line line) word
    → IsObjectRefused word noted fault → Cut (IsNextNamed line) a a.printed a.lines noted fault
refused_cut line word a noted fault of refused = record {
  each = λ s asked. record {
    found = [];
    next = Refuses (first_line line);
    keys = (refl, refl);
    cuts = record { between = a.printed; tells = tells_none s a; stops = (refl, (word, of, refused)) };
  };
}
