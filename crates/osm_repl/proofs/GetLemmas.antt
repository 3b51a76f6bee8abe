-- Objects that `get` prints one after the other.
use Rattle.std.proofs.Common.{◌≡◌, ℕ, ◌+◌, ◌<◌, ◌≤◌, ◌++◌, ◌∷◌, List, [], Bool, None, Option, Some, append_assoc, ap, drop, get_or, inl, inr}
use Rattle.std.proofs.Common.{length, refl, subst, sym, take, take_all, take-append-drop, drop_of_length-le, ◌∙◌}
use Rattle.std.specs.Prelude.{IsTrue}
use Rattle.std.specs.Io.KnownBytes.{Appends}
use Rattle.std.specs.List.{AllByRecursion, flat_map}
use Rattle.std.proofs.KnownBytes.{Appends-nil, Appends-trans}
use Rattle.std.proofs.lemmas.List.{append-nil, drop_more, take_more}
use Rattle.osm_model.specs.Change.{ChangeValue}
use Rattle.osm_model.specs.declared.kind.Key.{Key}
use Rattle.osm_runs.specs.declared.fault.RunFault.{RunFault}
use Rattle.osm_runs.specs.declared.fault.RunFault.TheVariants.{WantOfMemory}
use Rattle.osm_asking.specs.Getting.{HasNoted, answer_text}
use Rattle.osm_asking.specs.Referring.{AreReferred}
use Rattle.osm_repl.specs.Getting.{AsksFirst, AsksFor, AsksOne, Found, IsFoundIn, IsNextLeft, IsNextOf, Next, Search, absent_line, asked_of, input_after}
use Rattle.osm_repl.specs.Getting.{keys_of, there_of}
use Rattle.osm_repl.specs.Getting.Next.{Gathers}
use Rattle.osm_repl.specs.Steps.Getting.{At, Cut, HasTold, IsAsked, IsNext, IsOne, Shown, Shows}
use Rattle.osm_repl.specs.Steps.Getting.{Tells, Told}
use Rattle.osm_repl.specs.declared.sought.Sought.{Sought}
use Rattle.osm_kept.proofs.BatchLemmas.{all_append}

-- ---- which objects are asked for

-- what the later words ask for follows those objects
pub record GoesOn (sought later : List Sought) (input left : Option (List ℕ)) (keys : List Key) : Type 0 where
  pub all : (others : List Key) → AsksFor later left others → AsksFor sought input (keys ++ others)
  pub part : (others : List Key) (next : Next) → AsksFirst later left others next → AsksFirst sought input (keys ++ others) next

pub goes_first : (sought : List Sought) (input : Option (List ℕ)) → GoesOn sought sought input input []
goes_first sought input = record { all = λ others asks. asks; part = λ others next asks. asks }

pub goes_on : (sought later : List Sought) (each : Sought) (input left : Option (List ℕ)) (keys first : List Key)
    → GoesOn sought (each ∷ later) input left keys → AsksOne each left first → GoesOn sought later input (input_after each left) (keys ++ first)
goes_on sought later each input left keys first on asks = record {
  all = λ others rest. subst (AsksFor sought input) (sym (append_assoc keys first others)) (on.all (first ++ others) (first, others, refl, asks, rest));
  part = λ others next rest.
      subst (λ ks. AsksFirst sought input ks next) (sym (append_assoc keys first others))
      (on.part (first ++ others) next (inr (first, others, refl, asks, rest)));
}

pub goes_whole : (sought : List Sought) (input left : Option (List ℕ)) (keys : List Key) → GoesOn sought [] input left keys
    → AsksFor sought input keys
goes_whole sought input left keys on = subst (AsksFor sought input) (append-nil keys) (on.all [] refl)

pub goes_part : (sought later : List Sought) (each : Sought) (input left : Option (List ℕ)) (keys others : List Key) (next : Next)
    → GoesOn sought (each ∷ later) input left keys → IsNextOf each left others next → AsksFirst sought input (keys ++ others) next
goes_part sought later each input left keys others next on comes = on.part others next (inl comes)

-- ---- lists

flat_both : {A : Type 0} (t : A → List ℕ) (f g : List A) → flat_map t (f ++ g) ≡ flat_map t f ++ flat_map t g
flat_both t [] g = refl
flat_both t (x ∷ f) g = ap (λ l. t x ++ l) (flat_both t f g) ∙ sym (append_assoc (t x) (flat_map t f) (flat_map t g))

keys_both : (f g : List Found) → keys_of (f ++ g) ≡ keys_of f ++ keys_of g
keys_both [] g = refl
keys_both (e ∷ f) g = ap (λ l. e.0 ∷ l) (keys_both f g)

asked_both : (f g : List Found) (asked : List Key) → asked_of (f ++ g) asked ≡ asked_of g (asked_of f asked)
asked_both [] g asked = refl
asked_both (e ∷ f) g asked = asked_both f g (e.0 ∷ asked)

there_both : (f g : List Found) (there : List ChangeValue) → there_of (f ++ g) there ≡ there_of g (there_of f there)
there_both [] g there = refl
there_both ((key, None) ∷ f) g there = there_both f g there
there_both ((key, Some c) ∷ f) g there = there_both f g (c ∷ there)

-- ---- what is told of them

pub tells_none : (s : Search) (a : At) → Tells s [] a a.printed a.lines
tells_none s a = record { each = tt; text = Appends-nil a.printed; lines_are = sym (append-nil a.lines) }

pub tells_both : (s : Search) (f g : List Found) (a b : At) (after : Option (List ℕ)) (lines : List ℕ) → Tells s f a b.printed b.lines
    → Tells s g b after lines → Tells s (f ++ g) a after lines
tells_both s f g a b after lines m n =
    let text : Found → List ℕ = λ e. answer_text s.form e.1 in record {
      each = all_append (IsFoundIn s) f g m.each n.each;
      text = subst (Appends a.printed after) (sym (flat_both text f g))
          (Appends-trans a.printed b.printed after (flat_map text f) (flat_map text g) m.text n.text);
      lines_are = n.lines_are ∙ ap (λ l. l ++ flat_map absent_line g) m.lines_are ∙ append_assoc a.lines (flat_map absent_line f) (flat_map absent_line g)
          ∙ ap (λ l. a.lines ++ l) (sym (flat_both absent_line f g));
    }

shows_none : (s : Search) (a : At) → IsAsked s a → Shows s [] a a
shows_none s a asked = record { tells = tells_none s a; asked = asked; refers = refl; noted = λ ks cs yes has. has }

shows_both : (s : Search) (f g : List Found) (a b c : At) → Shows s f a b → Shows s g b c → Shows s (f ++ g) a c
shows_both s f g a b c m n = record {
  tells = tells_both s f g a b c.printed c.lines m.tells n.tells;
  asked = n.asked;
  refers = n.refers ∙ m.refers;
  noted = λ ks cs yes has.
      subst (λ all. HasNoted all (there_of (f ++ g) cs) c.question.asking) (sym (asked_both f g ks))
      (subst (λ all. HasNoted (asked_of g (asked_of f ks)) all c.question.asking) (sym (there_both f g cs))
      (n.noted (asked_of f ks) (there_of f cs) (subst (λ (yes : Bool). IsTrue yes) (sym m.refers) yes) (m.noted ks cs yes has)));
}

-- nothing was asked for so far
pub shown_none : (are : List Key → Type 0) (a : At) → are [] → Shown are a a
shown_none are a none = record { each = λ s asked. record { found = []; keys = none; shows = shows_none s a asked } }

pub shown_both : (are more both : List Key → Type 0) (a b c : At) → Shown are a b → Shown more b c
    → ((ks js : List Key) → are ks → more js → both (ks ++ js)) → Shown both a c
shown_both are more both a b c m n join = record {
  each = λ s asked.
      let x = m.each s asked in
      let y = n.each s x.shows.asked in record {
        found = x.found ++ y.found;
        keys = subst both (sym (keys_both x.found y.found)) (join (keys_of x.found) (keys_of y.found) x.keys y.keys);
        shows = shows_both s x.found y.found a b c x.shows y.shows;
      };
}

pub shown_as : (are more : List Key → Type 0) (a b : At) → Shown are a b → ((ks : List Key) → are ks → more ks) → Shown more a b
shown_as are more a b m turn = record {
  each = λ s asked. let x = m.each s asked in record { found = x.found; keys = turn (keys_of x.found) x.keys; shows = x.shows };
}

pub cut_after : (are : List Key → Type 0) (comes both : List Key → Next → Type 0) (a b : At) (after : Option (List ℕ)) (lines noted : List ℕ)
    (fault : RunFault) → Shown are a b → Cut comes b after lines noted fault
    → ((ks js : List Key) (next : Next) → are ks → comes js next → both (ks ++ js) next) → Cut both a after lines noted fault
cut_after are comes both a b after lines noted fault m n join = record {
  each = λ s asked.
      let x = m.each s asked in
      let y = n.each s x.shows.asked in record {
        found = x.found ++ y.found;
        next = y.next;
        keys = subst (λ ks. both ks y.next) (sym (keys_both x.found y.found)) (join (keys_of x.found) (keys_of y.found) y.next x.keys y.keys);
        cuts = record {
          between = y.cuts.between;
          tells = tells_both s x.found y.found a b y.cuts.between lines x.shows.tells y.cuts.tells;
          stops = y.cuts.stops;
        };
      };
}

-- the objects that others refer to were told up to that one
pub record TellsSoFar (keys : List Key) (i : ℕ) (a b : At) : Type 0 where
  pub told : (s : Search) → IsAsked s a → HasTold s (λ ks. ks ≡ take i keys) a b × IsAsked s b

-- ---- the words in turn

-- the words before were done, and this one is
pub word_shown : (sought : List Sought) (i : ℕ) (d : Sought) (input left after : Option (List ℕ)) (a b c : At) → i < length sought
    → Shown (GoesOn sought (drop i sought) input left) a b → Shown (AsksOne (get_or sought i d) left) b c → after ≡ input_after (get_or sought i d) left
    → Shown (GoesOn sought (drop (i + 1) sought) input after) a c
word_shown sought i d input left after a b c within m n is =
    let later = drop (i + 1) sought in
    rw is (shown_both (GoesOn sought (drop i sought) input left) (AsksOne (get_or sought i d) left)
    (GoesOn sought later input (input_after (get_or sought i d) left)) a b c m n
    (λ ks js on asks. goes_on sought later (get_or sought i d) input left ks js
    (subst (λ (rest : List Sought). GoesOn sought rest input left ks) (drop_more sought i d within) on) asks))

-- and this one isn't
pub word_cut : (sought : List Sought) (i : ℕ) (d : Sought) (input left : Option (List ℕ)) (a b : At) (after : Option (List ℕ)) (lines noted : List ℕ)
    (fault : RunFault) → i < length sought → Shown (GoesOn sought (drop i sought) input left) a b
    → Cut (IsNextOf (get_or sought i d) left) b after lines noted fault → Cut (AsksFirst sought input) a after lines noted fault
word_cut sought i d input left a b after lines noted fault within m n =
    cut_after (GoesOn sought (drop i sought) input left) (IsNextOf (get_or sought i d) left) (AsksFirst sought input) a b after lines noted fault m n
    (λ ks js next on comes. goes_part sought (drop (i + 1) sought) (get_or sought i d) input left ks js next
    (subst (λ (rest : List Sought). GoesOn sought rest input left ks) (drop_more sought i d within) on) comes)

-- all words were done
pub words_shown : (sought : List Sought) (i : ℕ) (input left : Option (List ℕ)) (a b : At) → length sought ≤ i
    → Shown (GoesOn sought (drop i sought) input left) a b → Shown (AsksFor sought input) a b
words_shown sought i input left a b past m =
    shown_as (GoesOn sought (drop i sought) input left) (AsksFor sought input) a b m
    (λ ks on. goes_whole sought input left ks (subst (λ (rest : List Sought). GoesOn sought rest input left ks) (drop_of_length-le sought past) on))

-- ---- what the objects refer to

so_far : (keys : List Key) (i : ℕ) (d : Key) (f : List Found) (g : List Found) → i < length keys → keys_of f ≡ take i keys
    → keys_of g ≡ get_or keys i d ∷ [] → keys_of (f ++ g) ≡ take (i + 1) keys
so_far keys i d f g within first one =
    keys_both f g ∙ ap (λ l. l ++ keys_of g) first ∙ ap (λ l. take i keys ++ l) one ∙ sym (take_more keys i d within)

pub told_first : (keys : List Key) (a b : At) → b.printed ≡ a.printed → b.lines ≡ a.lines → ((s : Search) → IsAsked s a → IsAsked s b)
    → TellsSoFar keys 0 a b
told_first keys a b printed lines kept = record {
  told = λ s asked. (
    record { found = []; keys = refl; tells = rw (printed, lines) (tells_none s a) },
    kept s asked,
  );
}

pub told_more : (keys : List Key) (i : ℕ) (d : Key) (a b c : At) → i < length keys → TellsSoFar keys i a b → Shown (IsOne (get_or keys i d)) b c
    → TellsSoFar keys (i + 1) a c
told_more keys i d a b c within m n = record {
  told = λ s asked.
      let x = m.told s asked in
      let y = n.each s x.1 in (
        record {
          found = x.0.found ++ y.found;
          keys = so_far keys i d x.0.found y.found within x.0.keys y.keys;
          tells = tells_both s x.0.found y.found a b c.printed c.lines x.0.tells y.shows.tells;
        },
        y.shows.asked,
      );
}

pub told_all : (keys : List Key) (i : ℕ) (ks : List Key) (cs : List ChangeValue) (a b : At) → length keys ≤ i → AreReferred ks cs keys
    → TellsSoFar keys i a b → Told (AreReferred ks cs) a b
told_all keys i ks cs a b past referred m = record {
  each = λ s asked.
      let x = (m.told s asked).0 in record {
        found = x.found;
        keys = subst (λ (all : List Key). AreReferred ks cs all) (sym (x.keys ∙ take_all i keys past)) referred;
        tells = x.tells;
      };
}

-- the objects before were told, and this one isn't
pub told_cut : (keys : List Key) (i : ℕ) (d : Key) (ks : List Key) (cs : List ChangeValue) (a b : At) (after : Option (List ℕ)) (lines : List ℕ)
    (fault : RunFault) → i < length keys → AreReferred ks cs keys → TellsSoFar keys i a b → Cut (IsNext (get_or keys i d)) b after lines [] fault
    → Cut (IsNextLeft ks cs) a after lines [] fault
told_cut keys i d ks cs a b after lines fault within referred m n = record {
  each = λ s asked.
      let x = m.told s asked in
      let y = n.each s x.1 in
      let parts : keys ≡ keys_of (x.0.found ++ y.found) ++ get_or keys i d ∷ drop (i + 1) keys =
      sym (take-append-drop i keys) ∙ ap (λ l. take i keys ++ l) (drop_more keys i d within) ∙ ap (λ l. l ++ get_or keys i d ∷ drop (i + 1) keys)
      (sym (keys_both x.0.found y.found ∙ ap (λ l. keys_of x.0.found ++ l) y.keys.0 ∙ append-nil (keys_of x.0.found) ∙ x.0.keys)) in record {
        found = x.0.found ++ y.found;
        next = y.next;
        keys = subst (λ next. IsNextLeft ks cs (keys_of (x.0.found ++ y.found)) next) (sym y.keys.1) (keys, drop (i + 1) keys, referred, parts);
        cuts = record {
          between = y.cuts.between;
          tells = tells_both s x.0.found y.found a b y.cuts.between lines x.0.tells y.cuts.tells;
          stops = y.cuts.stops;
        };
      };
}

-- what they refer to isn't gathered
pub gathers_cut : (ks : List Key) (cs : List ChangeValue) (a : At) (after : Option (List ℕ)) (lines : List ℕ) → after ≡ a.printed → lines ≡ a.lines
    → Cut (IsNextLeft ks cs) a after lines [] WantOfMemory
gathers_cut ks cs a after lines printed same = rw (printed, same) (record {
  each = λ s asked. record {
    found = [];
    next = Gathers;
    keys = refl;
    cuts = record { between = a.printed; tells = tells_none s a; stops = (refl, refl, refl) };
  };
})
