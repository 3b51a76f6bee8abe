-- A show text that is printed in parts, and what it says of the save.
use Rattle.std.proofs.Common.{◌≡◌, ℕ, List, [], ◌++◌, length, take, Option, inr, refl, sym, ap, subst, ◌∙◌, append_assoc}
use Rattle.std.specs.Prelude.{Bool, true, false, IsTrue, Ok, codes}
use Rattle.std.specs.Fmt.{digits}
use Rattle.std.specs.Io.KnownBytes.{Appends}
use Rattle.std.proofs.KnownBytes.{Appends-trans}
use Rattle.std.proofs.Math.Seq.{take-append_seam}
use Rattle.osm_store.specs.Frames.{IsKnown, StoreState}
use Rattle.osm_blocks.specs.Frames.{ReadsOften}
use Rattle.osm_blocks.specs.Places.{HasFile}
use Rattle.osm_runs.specs.Reports.{ReportValue}
use Rattle.osm_runs.specs.declared.fault.RunFault.{RunFault}
use Rattle.osm_runs.specs.declared.fault.RunFault.TheVariants.{Changed, ReadFault, TooLarge, WantOfMemory, WriteFault}
use Rattle.osm_merge.proofs.FrameLemmas.{has_still}
use Rattle.osm_save.specs.Head.{head_of}
use Rattle.osm_save.specs.Save.{SpellsSave}
use Rattle.osm_save.specs.declared.head.Head.{Head}
use Rattle.osm_save.specs.declared.save.Saved.{Saved}
use Rattle.osm_save.specs.Shown.{counts_text, held_text, objects_text}
use Rattle.osm_follow.specs.Show.{view_text}
use Rattle.osm_printing.specs.Printing.{CopyStops, IsCutOff, IsNotPrinted, IsPrinted, IsReadFault, IsShowOf, IsShown, shown_text, start_text}
use Rattle.osm_runs.specs.Checking.{ReadStops}
use Rattle.osm_printing.specs.Printing.{view_of_saved}
use Rattle.osm_runs.specs.Writing.{WritingFault}
use Rattle.osm_printing.specs.Steps.Copying.{HasLists, IsCopied, IsCopiedInPart, IsPart, IsPrintedFrom, IsPrintedInPart, IsStart, PlaceStops}
use Rattle.osm_runs.specs.Checking.{IsSaveText}
use Rattle.osm_printing.specs.Steps.Copying.{StartStops, lists_of}
use Rattle.osm_printing.specs.declared.start.Start.{Start}
use Rattle.osm_printing.proofs.CopyLemmas.{part_after, part_all, part_before, part_take, write_stops, written_part}
use Rattle.osm_printing.proofs.ShowLemmas.{shown_of}

-- ---- parts

pub held_is : held_text [] ≡ codes "held 0\n"
unfolding held_text digits
held_is = refl

part_first : (head : Head) (part lists : List ℕ) → IsPart part (start_text head) → IsPart part (shown_text head lists)
part_first head part lists p =
    part_before part (start_text head ++ lists) (held_text []) (part_before part (start_text head) lists p)

part_second : (head : Head) (part lists : List ℕ) → IsPart part lists → IsPart (start_text head ++ part) (shown_text head lists)
part_second head part lists p =
    part_before (start_text head ++ part) (start_text head ++ lists) (held_text []) (part_after part (start_text head) lists p)

pub first_fails : (state : StoreState) (name : List ℕ) (start : Start) (printed after : Option (List ℕ)) (text : List ℕ) (fault : RunFault)
    → text ≡ start_text start.head → WritingFault printed after text fault → IsPrintedInPart state name start printed after fault
first_fails state name start printed after text fault is h =
    let part : (n : ℕ) × Appends printed after (take n text) = written_part printed after text fault h in
    let some : IsPart (take part.0 text) (start_text start.head) = subst (IsPart (take part.0 text)) is (part_take part.0 text) in
    record {
      stops = write_stops state name start.after printed after text fault h;
      part = take part.0 text;
      some = part.1;
      lists = [];
      of_some = part_first start.head (take part.0 text) [] some;
      of_own = λ own has. part_first start.head (take part.0 text) own some;
    }

pub copy_fails : (state : StoreState) (name : List ℕ) (start : Start) (printed mid after : Option (List ℕ)) (text : List ℕ) (fault : RunFault)
    → text ≡ start_text start.head → Appends printed mid text → IsCopiedInPart state name start.after mid after fault
    → IsPrintedInPart state name start printed after fault
copy_fails state name start printed mid after text fault is all c = record {
  stops = c.stops;
  part = start_text start.head ++ c.copied;
  some = Appends-trans printed mid after (start_text start.head) c.copied (rw (← is) all) c.some;
  lists = c.copied;
  of_some = part_second start.head c.copied c.copied (part_all c.copied);
  of_own = λ own has. part_second start.head c.copied own (c.are own has);
}

pub all_printed : (state : StoreState) (name : List ℕ) (start : Start) (printed mid last after : Option (List ℕ)) (text end : List ℕ)
    → text ≡ start_text start.head → end ≡ codes "held 0\n" → Appends printed mid text → IsCopied state name start.after mid last → Appends last after end
    → IsPrintedFrom state name start printed after
all_printed state name start printed mid last after text end is held all c most = record {
  lists = c.copied;
  all = Appends-trans printed last after (start_text start.head ++ c.copied) (held_text [])
      (Appends-trans printed mid last (start_text start.head) c.copied (rw (← is) all) c.all) (subst (Appends last after) (held ∙ sym held_is) most);
  are = c.are;
}

pub last_fails : (state : StoreState) (name : List ℕ) (start : Start) (printed mid last after : Option (List ℕ)) (text end : List ℕ) (fault : RunFault)
    → text ≡ start_text start.head → end ≡ codes "held 0\n" → Appends printed mid text → IsCopied state name start.after mid last
    → WritingFault last after end fault
    → IsPrintedInPart state name start printed after fault
last_fails state name start printed mid last after text end fault is held all c h =
    let part : (n : ℕ) × Appends last after (take n end) = written_part last after end fault h in
    let before : List ℕ = start_text start.head ++ c.copied in
    let some : IsPart (take part.0 end) (held_text []) = subst (IsPart (take part.0 end)) (held ∙ sym held_is) (part_take part.0 end) in
    let whole : IsPart (before ++ take part.0 end) (shown_text start.head c.copied) = part_after (take part.0 end) before (held_text []) some in
    record {
      stops = write_stops state name start.after last after end fault h;
      part = before ++ take part.0 end;
      some = Appends-trans printed last after before (take part.0 end)
          (Appends-trans printed mid last (start_text start.head) c.copied (rw (← is) all) c.all) part.1;
      lists = c.copied;
      of_some = whole;
      of_own = λ own has. subst (λ (l : List ℕ). IsPart (before ++ take part.0 end) (shown_text start.head l)) (c.are own has) whole;
    }

-- ---- what it says of the save

lists_joined : (s o u c h : List ℕ) → (s ++ (o ++ u ++ c)) ++ h ≡ s ++ o ++ u ++ c ++ h
lists_joined s o u c h =
    ap (λ (l : List ℕ). l ++ h) (sym (append_assoc (s ++ o) u c ∙ (append_assoc s o (u ++ c) ∙ ap (λ (l : List ℕ). s ++ l) (sym (append_assoc o u c)))))

pub text_is : (v : Saved) → shown_text (head_of v) (lists_of v.mirror) ≡ view_text (view_of_saved v)
unfolding view_text
text_is v =
    lists_joined (start_text (head_of v)) (objects_text v.mirror.objects) (counts_text (codes "users ") v.mirror.users)
    (counts_text (codes "changesets ") v.mirror.changesets) (held_text [])

abbrev report_with : Start → List ℕ → ReportValue
report_with start lists = record { status = 0; text = shown_text start.head lists }

-- the save text, whose head and lists these are
record IsOwn (told : Option (List ℕ)) (start : Start) (lists : List ℕ) : Type 0 where
  pub text : IsSaveText told
  pub head : start.head ≡ head_of text.saved
  pub lists_are : lists ≡ lists_of text.saved.mirror

shows : (told : Option (List ℕ)) (start : Start) (lists : List ℕ) → IsOwn told start lists → IsShown told (report_with start lists)
shows told start lists own = record {
  bytes = own.text.file;
  saved = own.text.saved;
  there = own.text.there;
  spelled = own.text.spells;
  report_is = ap (λ (l : List ℕ). record { status = 0; text = l }) (rw (own.head, own.lists_are) (text_is own.text.saved));
}

report_of : (known : Type 0) (told : Option (List ℕ)) (start : Start) (lists : List ℕ) → (known → IsOwn told start lists)
    → IsShowOf known told (report_with start lists)
report_of known told start lists own = record {
  shown = λ yes. shows told start lists (own yes);
  in_step = λ yes published given base number is. shown_of given published base number told (report_with start lists) is (shows told start lists (own yes));
  form = record { head = start.head; lists = lists; report_is = refl };
}

-- ---- the whole

pub start_stops : (a b : StoreState) (name : List ℕ) (fault : RunFault) → (IsKnown a → IsSaveText (a.files name))
    → ReadsOften {T = Unit {0}} IsReadFault a b (Ok tt)
    → StartStops b name fault → ReadStops (IsKnown a) (a.files name) fault
start_stops a b name WantOfMemory whole frame h = tt
start_stops a b name (ReadFault file) whole frame h = h
start_stops a b name (Changed file) whole frame h = (
  h.0,
  λ known.
      let t : IsSaveText (a.files name) = whole known in
      h.1 t.file t.saved (has_still a b tt name t.file frame (record { known = known; there = t.there })) t.spells,
)
start_stops a b name fault whole frame h = absurd h

-- a save that was checked, and whose start was read again
pub record IsAhead (a c : StoreState) (name : List ℕ) (start : Start) : Type 0 where
  pub b : StoreState
  pub whole : IsKnown a → IsSaveText (a.files name)
  pub checked : ReadsOften {T = Unit {0}} IsReadFault a b (Ok tt)
  pub starts : (file : List ℕ) (saved : Saved) → HasFile b name file → SpellsSave file saved → IsStart file saved start
  pub read : ReadsOften IsReadFault b c (Ok start)

record HasOwn (a c : StoreState) (name : List ℕ) (start : Start) : Type 0 where
  pub text : IsSaveText (a.files name)
  pub head : start.head ≡ head_of text.saved
  pub file : HasFile c name text.file
  pub has : HasLists c name start.after (lists_of text.saved.mirror)

own_of : (a c : StoreState) (name : List ℕ) (start : Start) → IsAhead a c name start → IsKnown a → HasOwn a c name start
own_of a c name start h known =
    let t : IsSaveText (a.files name) = h.whole known in
    let one : HasFile h.b name t.file = has_still a h.b tt name t.file h.checked (record { known = known; there = t.there }) in
    let is : IsStart t.file t.saved start = h.starts t.file t.saved one t.spells in
    let two : HasFile c name t.file = has_still h.b c start name t.file h.read one in
    record {
      text = t;
      head = is.head;
      file = two;
      has = record { file = t.file; has = two; parts = is.lists };
    }

own_lists : (a c : StoreState) (name : List ℕ) (start : Start) (lists : List ℕ) → (h : HasOwn a c name start) → lists ≡ lists_of h.text.saved.mirror
    → IsOwn (a.files name) start lists
own_lists a c name start lists h e = record { text = h.text; head = h.head; lists_are = e }

pub is_printed : (a c : StoreState) (name : List ℕ) (start : Start) (printed after : Option (List ℕ)) → IsAhead a c name start
    → IsPrintedFrom c name start printed after → IsPrinted (IsKnown a) (a.files name) printed after
is_printed a c name start printed after h p = record {
  report = report_with start p.lists;
  is = report_of (IsKnown a) (a.files name) start p.lists (λ known.
      let own : HasOwn a c name start = own_of a c name start h known in
      own_lists a c name start p.lists own (p.are (lists_of own.text.saved.mirror) own.has));
  all = p.all;
}

place_stops : (a c : StoreState) (name : List ℕ) (start : Start) (fault : RunFault) → IsAhead a c name start → PlaceStops c name start.after fault
    → CopyStops (IsKnown a) (a.files name) fault
place_stops a c name start WantOfMemory h p = tt
place_stops a c name start (ReadFault file) h p = p
place_stops a c name start (WriteFault file) h p = p
place_stops a c name start (TooLarge file) h p = (
  p.0,
  λ known.
      let own : HasOwn a c name start = own_of a c name start h known in
      record { file = own.text.file; there = own.text.there; huge = p.1 own.text.file own.file },
)
place_stops a c name start (Changed file) h p = (
  p.0,
  λ known.
      let own : HasOwn a c name start = own_of a c name start h known in
      p.1 (lists_of own.text.saved.mirror) own.has,
)
place_stops a c name start fault h p = absurd p

cut_off : (a c : StoreState) (name : List ℕ) (start : Start) (printed after : Option (List ℕ)) (fault : RunFault) (lists : List ℕ) → IsAhead a c name start
    → (p : IsPrintedInPart c name start printed after fault) → (IsKnown a → IsOwn (a.files name) start lists) → IsPart p.part (shown_text start.head lists)
    → IsCutOff (IsKnown a) (a.files name) printed after fault
cut_off a c name start printed after fault lists h p own is = record {
  report = report_with start lists;
  is = report_of (IsKnown a) (a.files name) start lists own;
  stops = place_stops a c name start fault h p.stops;
  count = length p.part;
  some = subst (Appends printed after) (sym (ap (take (length p.part)) is.parts ∙ take-append_seam p.part is.rest)) p.some;
}

pub no_false : IsTrue false → ⊥
no_false bad = cc

pub not_printed : (a c : StoreState) (name : List ℕ) (start : Start) (printed after : Option (List ℕ)) (fault : RunFault) → IsAhead a c name start
    → IsPrintedInPart c name start printed after fault → IsNotPrinted (IsKnown a) (a.files name) printed after fault
not_printed a c name start printed after fault h p = inr (by_known a.is_known refl)
  where
    by_known : (known : Bool) → a.is_known ≡ known → IsCutOff (IsKnown a) (a.files name) printed after fault
    by_known true e =
        let own : HasOwn a c name start = own_of a c name start h (subst (λ (t : Bool). IsTrue t) (sym e) refl) in
        cut_off a c name start printed after fault (lists_of own.text.saved.mirror) h p
        (λ known. own_lists a c name start (lists_of own.text.saved.mirror) own refl) (p.of_own (lists_of own.text.saved.mirror) own.has)
    by_known false e =
        cut_off a c name start printed after fault p.lists h p
        (λ known. absurd (no_false (subst (λ (t : Bool). IsTrue t) e known))) p.of_some
