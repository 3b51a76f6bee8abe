-- The lists of a save with net changes laid over it, and the show text of all.
use Rattle.std.proofs.Common.{◌≡◌, ℕ, List, [], ◌++◌, length, take, Option, Some, None, refl, sym, ap, subst, ◌∙◌, append_assoc}
use Rattle.std.specs.Prelude.{Bool, true, false, IsTrue, Err, Ok, codes}
use Rattle.std.specs.Io.KnownBytes.{Appends}
use Rattle.std.proofs.Math.Seq.{take-append_seam}
use Rattle.std.proofs.lemmas.List.{append-nil}
use Rattle.std.proofs.lemmas.Option.{same_Some}
use Rattle.osm_store.specs.Frames.{IsKnown, StoreState}
use Rattle.osm_blocks.specs.Frames.{ReadsOften}
use Rattle.osm_blocks.specs.Places.{HasFile, IsHuge, Place, left_of}
use Rattle.osm_reading.specs.Answers.{and_then}
use Rattle.std.specs.List.{flat_map}
use Rattle.osm_mirror.specs.Mirror.{Counted, MirrorValue}
use Rattle.osm_model.specs.Change.{ChangeValue}
use Rattle.osm_model.specs.declared.kind.Key.{Key}
use Rattle.osm_kept.specs.Finding.{kept_after}
use Rattle.osm_kept.specs.Laws.{OneIsKept}
use Rattle.osm_kept.specs.Laying.{LaysOver, kept_in}
use Rattle.osm_kept.specs.Names.{journal_name_of}
use Rattle.osm_kept.specs.Refusal.{HasNoOther}
use Rattle.osm_kept.specs.declared.laid.Laid.{Laid}
use Rattle.osm_net.specs.Laid.{added, laid_on}
use Rattle.osm_net.specs.Lists.{net_in}
use Rattle.osm_net.specs.Net.{NetEntry, NetValue}
use Rattle.osm_reading.specs.NumberLines.{count_line, numbered_line}
use Rattle.osm_save.specs.Head.{most_counted}
use Rattle.osm_save.specs.Save.{SpellsSave, saved_with}
use Rattle.osm_save.specs.declared.head.Head.{Head}
use Rattle.osm_save.specs.declared.save.Saved.{Saved}
use Rattle.osm_save.specs.Shown.{counts_text, held_text, object_line, objects_text}
use Rattle.osm_runs.specs.Reports.{ReportValue}
use Rattle.osm_runs.specs.declared.fault.RunFault.{RunFault}
use Rattle.osm_runs.specs.declared.fault.RunFault.TheVariants.{Changed, ReadFault, TooLarge, WantOfMemory, WriteFault}
use Rattle.osm_merge.specs.Checking.{CheckStops, IsCheckedWith, IsNoSave}
use Rattle.osm_merge.specs.Mirrors.{totals_of}
use Rattle.osm_merge.specs.declared.check.Checked.{Checked}
use Rattle.osm_merge.specs.declared.fault.MergeFault.{MergeFault}
use Rattle.osm_merge.specs.declared.fault.MergeFault.TheVariants as merges
use Rattle.osm_merge.specs.declared.lists.Totals.{Totals}
use Rattle.osm_merge.specs.declared.opening.Opening.{Opening}
use Rattle.osm_merge.proofs.FrameLemmas.{has_still}
use Rattle.osm_merged.specs.Ahead.{Ahead, laid_after}
use Rattle.osm_merged.specs.Laws.{BothAreNext, SavedIsAhead}
use Rattle.osm_merged.specs.Opening.{BeginsMerged}
use Rattle.osm_printing.specs.Keeping.{IsKeptCutOff, IsKeptPrinted, IsKeptShown, IsShowOfKept}
use Rattle.osm_printing.specs.Printing.{CopyStops, IsReadFault, shown_text, start_text}
use Rattle.osm_printing.specs.Steps.Copying.{IsPart, lists_of}
use Rattle.osm_printing.specs.Steps.Laying.{AreListsCut, AreListsPut, IsLaidCut, IsLaidPrinted, IsNoText, laid_text}
use Rattle.osm_printing.specs.Steps.Parts.{IsPut, IsPutInPart, PartStops, PrintsLast, PutFails}
use Rattle.osm_printing.specs.Steps.Parts.{again_fault_of, both_parts, counts_part, end_part}
use Rattle.osm_printing.specs.Steps.Parts.{lines_in, then_text, whole_part, with_text}
use Rattle.osm_printing.proofs.CopyLemmas.{part_after, part_before, part_nil, part_trans}
use Rattle.osm_printing.proofs.KeptLemmas.{show_of_kept}
use Rattle.osm_printing.proofs.PartLemmas.{part_stops, write_fails}
use Rattle.osm_printing.proofs.PrintLemmas.{held_is, no_false, text_is}
use Rattle.osm_printing.proofs.PutLemmas.{cut_after, cut_none, put_both}

-- ---- what is ahead

-- of a save text those are its lists after the net changes
all_ahead : SavedIsAhead → BothAreNext → (told : Option (List ℕ)) (n : NetValue) (t : Totals) (place : Place) (o : Opening)
    (a : Ahead NetEntry ChangeValue Key) (begun : BeginsMerged told n.objects place o a) (saved : Saved) → SpellsSave begun.file saved
    → (last : List ℕ)
    × (whole_part t o n a (left_of place begun.file) ≡ Some (laid_text t (laid_on n saved.mirror), last))
all_ahead found both told n t place o a begun saved spells =
    let h = found told n.objects place o a begun saved spells in
    let k = both (most_counted o.head) h.after saved.mirror.users saved.mirror.changesets h.counts in
    let m : MirrorValue = laid_on n saved.mirror in
    let os : List ℕ = numbered_line (codes "objects ") t.objects ++ flat_map object_line m.objects in
    let us : List ℕ = numbered_line (codes "users ") t.users ++ flat_map count_line m.users in
    let cs : List ℕ = numbered_line (codes "changesets ") t.changesets ++ flat_map count_line m.changesets in (
      k.last,
      ap (λ (x : Option (List ChangeValue × List ℕ)). then_text (with_text (numbered_line (codes "objects ") t.objects) (lines_in object_line x))
          (λ after. then_text (both_parts t o.head n after) end_part)) h.objects
          ∙ (ap (λ (x : Option (List Counted × List ℕ)). with_text os (then_text
          (then_text (with_text (numbered_line (codes "users ") t.users) (lines_in count_line (laid_after added n.users x)))
          (counts_part (codes "changesets ") t.changesets o.head n.changesets)) end_part)) k.users_are
          ∙ (ap (λ (x : Option (List Counted × List ℕ)). with_text os (then_text (with_text us
          (with_text (numbered_line (codes "changesets ") t.changesets) (lines_in count_line (laid_after added n.changesets x)))) end_part))
          k.changesets_are
          ∙ (ap (λ (x : Option (Unit {0})). with_text os (with_text (us ++ cs)
          (and_then {A = Unit {0}} {B = List ℕ × List ℕ} x (λ e. Some ([], k.last))))) k.end
          ∙ ap (λ (l : List ℕ). Some (os ++ l, k.last)) (append-nil (us ++ cs))))),
    )

-- ---- the lists that were put

module _ (found : SavedIsAhead) (both : BothAreNext) (n : NetValue) (t : Totals) {T E : Type 0} {blames : E → Type 0} {x : T} {a b : StoreState}
    {name : List ℕ} {place : Place} {o : Opening} {at : Ahead NetEntry ChangeValue Key} (frame : ReadsOften blames a b (Ok x))
    (begun : IsKnown a → BeginsMerged (a.files name) n.objects place o at) where
  own : (file : List ℕ) (saved : Saved) → HasFile a name file → SpellsSave file saved
      → (last : List ℕ) × (whole_part t o n at (left_of place file) ≡ Some (laid_text t (laid_on n saved.mirror), last))
  own file saved has spells =
      let h : BeginsMerged (a.files name) n.objects place o at = begun has.known in
      let same : h.file ≡ file = same_Some h.file file (sym h.there ∙ has.there) in
      subst (λ (l : List ℕ). (last : List ℕ) × (whole_part t o n at (left_of place l) ≡ Some (laid_text t (laid_on n saved.mirror), last))) same
      (all_ahead found both (a.files name) n t place o at h saved (subst (λ (l : List ℕ). SpellsSave l saved) (sym same) spells))

  -- all was read, up to the end
  pub lists_put : {c : StoreState} {p q : Option (List ℕ)} {w v : List ℕ} → PrintsLast name (whole_part t o n at) (Ok tt) b place p w c q v
      → AreListsPut a name n t p q w v
  lists_put k = record {
    text = k.part.all.text;
    put = k.part.all.put;
    is = λ file saved has spells.
        let all = own file saved has spells in
        let same = same_Some (k.part.all.text, left_of k.end file) (laid_text t (laid_on n saved.mirror), all.0)
        (sym (k.part.all.read file (has_still a b x name file frame has)) ∙ all.1) in
        ap (λ (x : List ℕ × List ℕ). x.0) same;
  }

  -- not all was
  pub lists_cut : {c : StoreState} {p q : Option (List ℕ)} {w v : List ℕ} {fault : RunFault}
      → PrintsLast name (whole_part t o n at) (Err fault) b place p w c q v → AreListsCut a name n t p q w fault
  lists_cut {fault = fault} k = record {
    stops = part_stops a b name IsNoText (λ file. whole_part t o n at (left_of place file) ≡ None) fault (λ file. has_still a b x name file frame)
        (λ file has none saved spells. (let all = own file saved has spells in
        let bad : ◌≡◌ {A = Option (List ℕ × List ℕ)} None (Some (laid_text t (laid_on n saved.mirror), all.0)) = sym none ∙ all.1 in cc))
        k.part.cut.stops;
    text = k.part.cut.text;
    some = k.part.cut.some;
    first = λ file saved has spells.
        let all = own file saved has spells in
        k.part.cut.first file (laid_text t (laid_on n saved.mirror)) all.0 (has_still a b x name file frame has) all.1;
  }

none_of : (told : Option (List ℕ)) (file : List ℕ) → told ≡ Some file → IsNoSave told → IsNoText file
none_of told file there bad saved spells =
    bad.none saved (subst (λ (l : List ℕ). SpellsSave l saved) (same_Some file bad.file (sym there ∙ bad.there)) spells)

-- the save isn't opened again
again_opens : (a : StoreState) (name : List ℕ) (fault : MergeFault) → (IsKnown a → CheckStops (a.files name) fault)
    → PartStops a name IsNoText (again_fault_of fault)
again_opens a name (merges.BadSave line) h = (refl, λ file has. none_of (a.files name) file has.there (h has.known))
again_opens a name merges.LongLine h = (refl, λ file has. none_of (a.files name) file has.there (h has.known))
again_opens a name merges.TooLarge h = (
  refl,
  λ file has. (let huge = h has.known in subst IsHuge (same_Some huge.file file (sym huge.there ∙ has.there)) huge.huge),
)
again_opens a name merges.NoSave h = (
  refl,
  λ file has. (let bad : ◌≡◌ {A = Option (List ℕ)} None (Some file) = sym (h has.known) ∙ has.there in absurd cc),
)
again_opens a name merges.Changed h = (refl, λ file has. absurd (h has.known))
again_opens a name merges.ReadFault h = refl
again_opens a name merges.WriteFault h = refl
again_opens a name merges.WantOfMemory h = tt

pub unopened_lists : (a : StoreState) (name : List ℕ) (n : NetValue) (t : Totals) (p : Option (List ℕ)) (w : List ℕ) (fault : MergeFault)
    → (IsKnown a → CheckStops (a.files name) fault) → AreListsCut a name n t p p w (again_fault_of fault)
unopened_lists a name n t p w fault h = record {
  stops = again_opens a name fault h;
  text = [];
  some = cut_none p w [];
  first = λ file saved has spells. part_nil (laid_text t (laid_on n saved.mirror));
}

-- ---- the show text

held : codes "held 0\n" ≡ held_text []
held = sym held_is

pub laid_printed : (state : StoreState) (name : List ℕ) (head : Head) (n : NetValue) (t : Totals) (p q s : Option (List ℕ)) (first v : List ℕ)
    → first ≡ start_text head → AreListsPut state name n t p q first v → IsPut q s v [] (codes "held 0\n") → IsLaidPrinted state name head n t p s
laid_printed state name head n t p q s first v is lists last =
    let both = put_both p q s first v [] lists.text (codes "held 0\n") lists.put last in
    let whole : shown_text head lists.text ≡ both.written =
    ap (λ (l : List ℕ). (start_text head ++ lists.text) ++ l) held_is
    ∙ (append_assoc (start_text head) lists.text (codes "held 0\n")
    ∙ (ap (λ (l : List ℕ). l ++ (lists.text ++ codes "held 0\n")) (sym is) ∙ (both.parts ∙ append-nil both.written))) in
    record { lists = lists.text; all = subst (Appends p s) (sym whole) both.all; are = lists.is }

pub laid_lists : (state : StoreState) (name : List ℕ) (head : Head) (n : NetValue) (t : Totals) (p q : Option (List ℕ)) (first : List ℕ) (fault : RunFault)
    → first ≡ start_text head → AreListsCut state name n t p q first fault → IsLaidCut state name head n t p q fault
laid_lists state name head n t p q first fault is k =
    let begins : IsPart k.some.part (start_text head ++ k.text) =
    subst (λ (l : List ℕ). IsPart k.some.part (l ++ k.text)) is k.some.first in
    record {
      stops = k.stops;
      part = k.some.part;
      some = k.some.some;
      lists = k.text;
      of_some = part_before k.some.part (start_text head ++ k.text) (held_text []) begins;
      of_own = λ file saved has spells.
          part_before k.some.part (start_text head ++ laid_text t (laid_on n saved.mirror)) (held_text [])
          (part_trans k.some.part (start_text head ++ k.text) (start_text head ++ laid_text t (laid_on n saved.mirror)) begins
          (part_after k.text (start_text head) (laid_text t (laid_on n saved.mirror)) (k.first file saved has spells)));
    }

pub laid_last : (state : StoreState) (name : List ℕ) (head : Head) (n : NetValue) (t : Totals) (p q s : Option (List ℕ)) (first v : List ℕ)
    (fault : RunFault) → first ≡ start_text head → AreListsPut state name n t p q first v → PutFails q s v (codes "held 0\n") fault
    → IsLaidCut state name head n t p s fault
laid_last state name head n t p q s first v fault is lists k =
    let cut : IsPutInPart p s first (lists.text ++ codes "held 0\n") = cut_after p q s first v lists.text (codes "held 0\n") lists.put k.some in
    let whole : first ++ (lists.text ++ codes "held 0\n") ≡ shown_text head lists.text =
    ap (λ (l : List ℕ). l ++ (lists.text ++ codes "held 0\n")) is
    ∙ (sym (append_assoc (start_text head) lists.text (codes "held 0\n")) ∙ ap (λ (l : List ℕ). (start_text head ++ lists.text) ++ l) held) in
    let begins : IsPart cut.part (shown_text head lists.text) = subst (IsPart cut.part) whole cut.first in
    record {
      stops = write_fails state name IsNoText fault k.stops;
      part = cut.part;
      some = cut.some;
      lists = lists.text;
      of_some = begins;
      of_own = λ file saved has spells. subst (λ (l : List ℕ). IsPart cut.part (shown_text head l)) (lists.is file saved has spells) begins;
    }

-- ---- what it says of the save

own_lists : (m : MirrorValue) → laid_text (totals_of m) m ≡ lists_of m
unfolding objects_text counts_text
own_lists m =
    sym (append_assoc (objects_text m.objects) (counts_text (codes "users ") m.users) (counts_text (codes "changesets ") m.changesets))

abbrev report_with : Head → List ℕ → ReportValue
report_with head lists = record { status = 0; text = shown_text head lists }

laid_shown : (told journal : Option (List ℕ)) (laid : Laid) → LaysOver told journal laid → HasNoOther told journal → (c : Checked)
    → (k : IsCheckedWith told (net_in laid.lists) c) (lists : List ℕ) → lists ≡ laid_text c.totals (laid_on (net_in laid.lists) k.saved.mirror)
    → IsKeptShown told journal (report_with laid.head lists)
laid_shown told journal laid h free c k lists is =
    let m : MirrorValue = laid_on (net_in laid.lists) k.saved.mirror in
    record {
      value = kept_after (kept_in h.start laid) k.saved;
      kept = h.finds.kept_is.keeps k.file k.saved k.there k.spells;
      free = free;
      report_is = ap (λ (l : List ℕ). record { status = 0; text = l })
          (ap (shown_text laid.head) (is ∙ (ap (λ (t : Totals). laid_text t m) k.totals ∙ own_lists m))
          ∙ text_is (saved_with laid.head h.start.filter m));
    }

module _ (one : OneIsKept) (a b : StoreState) (name : List ℕ) (laid : Laid) (c : Checked) (p q : Option (List ℕ))
    (lays : IsKnown a → LaysOver (a.files name) (a.files (journal_name_of name)) laid)
    (free : IsKnown a → HasNoOther (a.files name) (a.files (journal_name_of name)))
    (frame : ReadsOften {T = Unit {0}} IsReadFault a b (Ok tt)) (checked : IsKnown a → IsCheckedWith (a.files name) (net_in laid.lists) c) where
  here : (known : IsKnown a) → HasFile b name (checked known).file
  here known = has_still a b tt name (checked known).file frame (record { known = known; there = (checked known).there })

  shown : (known : IsKnown a) (lists : List ℕ) → lists ≡ laid_text c.totals (laid_on (net_in laid.lists) (checked known).saved.mirror)
      → IsKeptShown (a.files name) (a.files (journal_name_of name)) (report_with laid.head lists)
  shown known lists is = laid_shown (a.files name) (a.files (journal_name_of name)) laid (lays known) (free known) c (checked known) lists is

  show_of : (lists : List ℕ) → (IsKnown a → IsKeptShown (a.files name) (a.files (journal_name_of name)) (report_with laid.head lists))
      → IsShowOfKept (IsKnown a) name a.files (report_with laid.head lists)
  show_of lists is =
      show_of_kept one (IsKnown a) name a.files (report_with laid.head lists) (record { head = laid.head; lists = lists; report_is = refl }) is

  pub laid_is_printed : IsLaidPrinted b name laid.head (net_in laid.lists) c.totals p q → IsKeptPrinted (IsKnown a) name a.files p q
  laid_is_printed h = record {
    report = report_with laid.head h.lists;
    is = show_of h.lists
        (λ known. shown known h.lists (h.are (checked known).file (checked known).saved (here known) (checked known).spells));
    all = h.all;
  }

  stops_so : (fault : RunFault) → PartStops b name IsNoText fault → CopyStops (IsKnown a) (a.files name) fault
  stops_so WantOfMemory h = tt
  stops_so (ReadFault file) h = h
  stops_so (WriteFault file) h = h
  stops_so (TooLarge file) h = (
    h.0,
    λ known. record { file = (checked known).file; there = (checked known).there; huge = h.1 (checked known).file (here known) },
  )
  stops_so (Changed file) h = (h.0, λ known. h.1 (checked known).file (here known) (checked known).saved (checked known).spells)
  stops_so fault h = absurd h

  cut_of : (fault : RunFault) (lists : List ℕ) (h : IsLaidCut b name laid.head (net_in laid.lists) c.totals p q fault)
      → IsShowOfKept (IsKnown a) name a.files (report_with laid.head lists) → IsPart h.part (shown_text laid.head lists)
      → IsKeptCutOff (IsKnown a) name a.files p q fault
  cut_of fault lists h shows is = record {
    report = report_with laid.head lists;
    is = shows;
    stops = stops_so fault h.stops;
    count = length h.part;
    some = subst (Appends p q) (sym (ap (take (length h.part)) is.parts ∙ take-append_seam h.part is.rest)) h.some;
  }

  pub laid_is_cut : (fault : RunFault) → IsLaidCut b name laid.head (net_in laid.lists) c.totals p q fault
      → IsKeptCutOff (IsKnown a) name a.files p q fault
  laid_is_cut fault h = by_known a.is_known refl
    where
      by_known : (known : Bool) → a.is_known ≡ known → IsKeptCutOff (IsKnown a) name a.files p q fault
      by_known true e =
          let known : IsKnown a = subst (λ (x : Bool). IsTrue x) (sym e) refl in
          let own : List ℕ = laid_text c.totals (laid_on (net_in laid.lists) (checked known).saved.mirror) in
          cut_of fault own h (show_of own (λ yes. shown known own refl))
          (h.of_own (checked known).file (checked known).saved (here known) (checked known).spells)
      by_known false e =
          cut_of fault h.lists h (show_of h.lists (λ known. absurd (no_false (subst (λ (x : Bool). IsTrue x) e known)))) h.of_some

-- ---- a check that fails
