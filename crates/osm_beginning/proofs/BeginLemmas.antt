-- What a beginning leaves, and why nothing begins.
use Rattle.std.proofs.Common.{◌≡◌, ℕ, ◌-◌, ◌<◌, ◌≤◌, List, [], ◌∷◌, ◌++◌, length, map, take, Option, Some, None, arith, refl, sym, ap, ◌∙◌}
use Rattle.std.proofs.Common.{append_assoc, subst}
use Rattle.std.specs.Prelude.{codes, cond, Bool, true, false, decimal}
use Rattle.std.specs.List.{AllByRecursion, flat_map}
use Rattle.std.specs.List.Sorted.{IsStrictlySortedBy}
use Rattle.std.specs.declared.cmp.Ordering.TheVariants.{Less}
use Rattle.std.proofs.lemmas.List.{drop_all, length-take-le}
use Rattle.std.proofs.lemmas.Fmt.{decimal_digit}
use Rattle.std.proofs.lemmas.Option.{same_Some}
use Rattle.osm_model.specs.Change.{ChangeValue, IsChange}
use Rattle.osm_model.specs.ChangeForm.{SpellsNothing}
use Rattle.osm_model.specs.Content.{content_of}
use Rattle.osm_model.specs.Data.{IsData, IsLeft}
use Rattle.osm_model.specs.Filter.{FilterValue, IsFilter, kept, kept_object, keeps}
use Rattle.osm_model.specs.KeyOrder.{key_cmp}
use Rattle.osm_model.specs.declared.kind.Key.{Key}
use Rattle.osm_mirror.specs.Mirror.{AreCountsAboveZero, AreRising, IsMirrorOf, IsObject, object_at}
use Rattle.osm_model.proofs.FileLimitLemmas.{data_limits}
use Rattle.osm_o5c.proofs.FrontLemmas as o5m_file
use Rattle.osm_o5c.specs.File.{data_beginning}
use Rattle.osm_opl.proofs.FileLaws as opl_file
use Rattle.osm_opl.specs.Written.{line_text}
use Rattle.osm_save.proofs.TextLemmas.{ended_before, mirror_text, save_text_is}
use Rattle.osm_save.specs.Head.{head_lines}
use Rattle.osm_save.specs.Lines.{ended, list_lines}
use Rattle.osm_save.specs.Save.{IsSavable, SpellsSave, count_text, save_text}
use Rattle.osm_save.specs.declared.version.Version.TheVariants.{Three}
use Rattle.osm_save.specs.declared.save.Saved.{Saved}
use Rattle.osm_state.proofs.StateLemmas.{one_state}
use Rattle.osm_state.specs.State.{IsState, StateValue}
use Rattle.osm_follow.proofs.BeginLemmas.{all_are_kept, kept_at}
use Rattle.osm_follow.proofs.PublishedLemmas.{time_next}
use Rattle.osm_follow.specs.Begin.{kept_objects}
use Rattle.osm_publisher.specs.Published.{PublishedValue, changes_after, changes_up_to, sequence_at}
use Rattle.osm_beginning.specs.Beginning.{BeginStops, HasBegun, IsBase, IsBaseOf, IsBeginning, IsStart, IsTimely, begun_save, is_long_data}
use Rattle.osm_beginning.specs.Beginning.{most_kept}
use Rattle.osm_beginning.specs.Keeping.{IsBegunBoth}
use Rattle.osm_runs.specs.DataForms.{HasDataEnd, data_end_of, place_of_data, spells_data}
use Rattle.osm_store.specs.Files.{Files}
use Rattle.osm_kept.specs.Laws.{BadKeepsNothing}
use Rattle.osm_runs.specs.Folder.{IsStateFile, IsThere}
use Rattle.osm_runs.specs.Following.{IsInStep}
use Rattle.osm_runs.specs.Keeping.{IsKeptOf}
use Rattle.osm_runs.specs.Reports.{ReportValue, begin_report_of}
use Rattle.osm_beginning.specs.Steps.Beginning.{compared, head_from}
use Rattle.osm_beginning.specs.Steps.Passes.{FromStops, IsKept, IsNear, IsNearBase, begun_text, first_text, last_text}
use Rattle.osm_runs.specs.declared.data_form.DataForm.{DataForm}
use Rattle.osm_runs.specs.declared.data_form.DataForm.TheVariants.{Opl, O5m}
use Rattle.osm_runs.specs.declared.fault.FileName.TheVariants.{Base, Save}
use Rattle.osm_runs.specs.declared.fault.RunFault.{RunFault}
use Rattle.osm_runs.specs.declared.fault.RunFault.TheVariants.{WantOfMemory, ReadFault, WriteFault, TooLarge, Absent}
use Rattle.osm_runs.specs.declared.fault.RunFault.TheVariants.{BadChange, Changed, OlderState}
use Rattle.osm_runs.proofs.KeepingLemmas.{no_bad_journal}

-- ---- a name ends in one form

abbrev last_byte : List ℕ → ℕ
last_byte [] = 0
last_byte (x ∷ []) = x
last_byte (x ∷ y ∷ xs) = last_byte (y ∷ xs)

last_appended : (xs : List ℕ) (x : ℕ) (ys : List ℕ) → last_byte (xs ++ x ∷ ys) ≡ last_byte (x ∷ ys)
last_appended [] x ys = refl
last_appended (w ∷ []) x ys = refl
last_appended (w ∷ y ∷ xs) x ys = last_appended (y ∷ xs) x ys

last_of : (name : List ℕ) (form : DataForm) → HasDataEnd name form → last_byte name ≡ last_byte (data_end_of form)
last_of name Opl end = ap last_byte end.name_is ∙ last_appended end.start 46 (codes "opl")
last_of name O5m end = ap last_byte end.name_is ∙ last_appended end.start 46 (codes "o5m")

pub one_form : (name : List ℕ) (a b : DataForm) → HasDataEnd name a → HasDataEnd name b → a ≡ b
one_form name Opl Opl p q = refl
one_form name O5m O5m p q = refl
one_form name Opl O5m p q = absurd (let bad : 108 ≡ 109 = sym (last_of name Opl p) ∙ last_of name O5m q in omega (arith, bad))
one_form name O5m Opl p q = absurd (let bad : 109 ≡ 108 = sym (last_of name O5m p) ∙ last_of name Opl q in omega (arith, bad))

-- ---- what a data file spells

pub one_objects : (form : DataForm) (bytes : List ℕ) (a b : List ChangeValue) → spells_data form bytes a → spells_data form bytes b → a ≡ b
one_objects Opl bytes a b p q = opl_file.one_list IsData bytes a b p q
one_objects O5m bytes a b p q = o5m_file.one_list data_beginning IsData data_limits bytes a b p q

pub spelled_data : (form : DataForm) (bytes : List ℕ) (objects : List ChangeValue) → spells_data form bytes objects → IsData objects
spelled_data Opl bytes objects s = s.limits
spelled_data O5m bytes objects s = o5m_file.spelled_right data_beginning IsData data_limits bytes objects s

-- a data file has one list of objects
pub same_base : (base : List ℕ) (told : Option (List ℕ)) (a b : List ChangeValue) → IsBase base told a → IsBase base told b → a ≡ b
same_base base told a b p q =
    let form : p.named.form ≡ q.named.form = one_form base p.named.form q.named.form p.named.end q.named.end in
    let bytes : p.bytes ≡ q.bytes = same_Some p.bytes q.bytes (sym p.there ∙ q.there) in
    one_objects q.named.form q.bytes a b (subst (λ f. spells_data f q.bytes a) form (subst (λ bs. spells_data p.named.form bs a) bytes p.spelled)) q.spelled

-- a state file names one state
pub same_start : (told : Option (List ℕ)) (s t : StateValue) → IsThere told (IsStateFile s.sequence s.time)
    → IsThere told (IsStateFile t.sequence t.time) → s ≡ t
same_start None s t a b = absurd a
same_start (Some bytes) s t a b = one_state bytes s t a.names b.names

-- ---- what a beginning leaves

-- nothing comes after a number up to itself
pub none_after : (ps : List PublishedValue) (k : ℕ) → k ≤ length ps → changes_after ps k k ≡ []
none_after ps k within = ap (flat_map (λ (p : PublishedValue). p.changes)) (drop_all k (take k ps) (omega (arith, length-take-le k ps within)))

-- those of the objects that are kept are in order
below_kept : (f : FilterValue) (k : Key) (os : List ChangeValue)
    → AllByRecursion (λ y. key_cmp k y ≡ Less) (map (λ (o : ChangeValue). o.key) os)
    → AllByRecursion (λ y. key_cmp k y ≡ Less) (map (λ (o : ChangeValue). o.key) (kept_objects f os))
below_kept f k [] all = tt
below_kept f k (o ∷ os) all = by_test (below_kept f k os all.1) (keeps f o)
  where
    by_test : AllByRecursion (λ y. key_cmp k y ≡ Less) (map (λ (o : ChangeValue). o.key) (kept_objects f os)) → (b : Bool)
        → AllByRecursion (λ y. key_cmp k y ≡ Less) (map (λ (o : ChangeValue). o.key) (cond b (o ∷ kept_objects f os) (kept_objects f os)))
    by_test rest true = (all.0, rest)
    by_test rest false = rest

rising_kept : (f : FilterValue) (os : List ChangeValue) → AreRising os → AreRising (kept_objects f os)
unfolding IsStrictlySortedBy
rising_kept f [] rising = tt
rising_kept f (o ∷ os) rising = by_test (rising_kept f os rising.1) (keeps f o)
  where
    by_test : AreRising (kept_objects f os) → (b : Bool) → AreRising (cond b (o ∷ kept_objects f os) (kept_objects f os))
    by_test rest true = (below_kept f o.key os rising.0, rest)
    by_test rest false = rest

-- what is kept of objects in order, with no counts, is the mirror that the filter keeps of what they are
pub uncounted : (given : FilterValue) (cs : List ChangeValue) (counted objects : List ChangeValue) → AreRising objects
    → ((k : Key) → kept given (object_at objects) k ≡ kept given (content_of cs) k) → counted ≡ []
    → IsMirrorOf given cs counted (record { objects = kept_objects given objects; users = []; changesets = [] })
unfolding IsStrictlySortedBy
uncounted given cs counted objects rising content none = rw none (record {
  orderly = record {
    objects = rising_kept given objects rising;
    users = record { rising = tt; above = tt };
    changesets = record { rising = tt; above = tt };
  };
  objects = λ k. kept_at given objects rising k ∙ content k;
  users = λ uid. refl;
  changesets = λ id. refl;
})

-- ---- what is saved

each_kept : (P : ChangeValue → Type 0) (f : FilterValue) (os : List ChangeValue) → AllByRecursion P os → AllByRecursion P (kept_objects f os)
each_kept P f [] all = tt
each_kept P f (o ∷ os) all = by_test (each_kept P f os all.1) (keeps f o)
  where
    by_test : AllByRecursion P (kept_objects f os) → (b : Bool) → AllByRecursion P (cond b (o ∷ kept_objects f os) (kept_objects f os))
    by_test rest true = (all.0, rest)
    by_test rest false = rest

-- what is kept of data is data
pub kept_data : (f : FilterValue) (os : List ChangeValue) → IsData os → IsData (kept_objects f os)
kept_data f os are = record {
  limits = each_kept IsChange f os are.limits;
  left = each_kept IsLeft f os are.left;
  rising = rising_kept f os are.rising;
}

each_object : (os : List ChangeValue) → AllByRecursion IsChange os → AllByRecursion IsLeft os → AllByRecursion IsObject os
each_object [] limits left = tt
each_object (o ∷ os) limits left = (record { limits = limits.0; is_left = left.0 }, each_object os limits.1 left.1)

no_counts : AreCountsAboveZero []
unfolding IsStrictlySortedBy
no_counts = record { rising = tt; above = tt }

-- a save that begins with objects can be saved
pub savable : (given : FilterValue) (s : StateValue) (objects : List ChangeValue) → IsFilter given → IsState s → 0 < s.sequence → IsData objects
    → length (kept_objects given objects) ≤ most_kept → IsSavable Three (begun_save given s objects)
savable given s objects is_filter is_state above are few = record {
  head = record { number = is_state.sequence; base = omega arith; told = tt; time = (above, is_state.time) };
  filter = is_filter;
  tells = tt;
  mirror = record {
    orderly = record {
      objects = rising_kept given objects are.rising;
      users = no_counts;
      changesets = no_counts;
    };
    objects = each_kept IsObject given objects (each_object objects are.limits are.left);
    users = tt;
    changesets = tt;
  };
  kept = all_are_kept given objects;
  within = record { users = omega arith; changesets = omega arith; user_counts = λ uid. omega arith; changeset_counts = λ id. omega arith };
  objects = few;
}

-- the lines after the objects are those of no counts
last_are : last_text ≡ ended (list_lines (codes "users ") count_text []) ++ (ended (list_lines (codes "changesets ") count_text [])
    ++ (codes "end" ++ 10 ∷ []))
unfolding last_text
last_are =
    let zero : decimal 0 ≡ 48 ∷ [] = decimal_digit 0 (omega arith) in
    ap (λ (d : List ℕ). ((codes "users " ++ d) ++ 10 ∷ []) ++ (((codes "changesets " ++ d) ++ 10 ∷ []) ++ (codes "end" ++ 10 ∷ []))) (sym zero)

one_more_list : (head number lines last : List ℕ) → (head ++ (number ++ 10 ∷ [])) ++ (lines ++ last) ≡ head ++ ((number ++ 10 ∷ lines) ++ last)
one_more_list head number lines last = append_assoc head (number ++ 10 ∷ []) (lines ++ last)
    ∙ ap (λ (l : List ℕ). head ++ l) (append_assoc number (10 ∷ []) (lines ++ last) ∙ sym (append_assoc number (10 ∷ lines) last))

-- the text that is written is the save text
begun_text_is : (given : FilterValue) (s : StateValue) (objects : List ChangeValue)
    → begun_text (head_from s) given (length (kept_objects given objects)) (kept_objects given objects) ≡ save_text Three (begun_save given s objects)
unfolding first_text
begun_text_is given s objects =
    let kept : List ChangeValue = kept_objects given objects in
    let head : List (List ℕ) = head_lines Three (head_from s) given in
    let number : List ℕ = codes "objects " ++ decimal (length kept) in
    let lines : List ℕ = ended (map line_text kept) in
    one_more_list (ended head) number lines last_text
    ∙ (ap (λ (l : List ℕ). ended head ++ ((number ++ 10 ∷ lines) ++ l)) last_are
    ∙ (ended_before head (mirror_text (begun_save given s objects).mirror) ∙ sym (save_text_is Three (begun_save given s objects))))

pub begun_spelled : (given : FilterValue) (s : StateValue) (objects : List ChangeValue) (text : List ℕ) → IsFilter given → IsState s → 0 < s.sequence
    → IsData objects → length (kept_objects given objects) ≤ most_kept
    → text ≡ begun_text (head_from s) given (length (kept_objects given objects)) (kept_objects given objects)
    → SpellsSave text (begun_save given s objects) × (text ≡ save_text Three (begun_save given s objects))
begun_spelled given s objects text is_filter is_state above are few is =
    let text_is : text ≡ save_text Three (begun_save given s objects) = is ∙ begun_text_is given s objects in
    (record { version = Three; savable = savable given s objects is_filter is_state above are few; text = text_is }, text_is)

pub same_begun : (given : FilterValue) (s t : StateValue) (xs ys : List ChangeValue) → s ≡ t → xs ≡ ys → begun_save given s xs ≡ begun_save given t ys
same_begun given s t xs ys p q = ap (λ (u : StateValue). begun_save given u xs) p ∙ ap (λ (zs : List ChangeValue). begun_save given t zs) q

-- what begins with the data file of a published number is in step at it
begun_steps : (given : FilterValue) (ps : List PublishedValue) (number : ℕ) (base state : List ℕ) (old : Files) (s : StateValue) (text : List ℕ)
    → IsBaseOf ps number base state old → (b : IsBeginning given base state old s text)
    → (s.sequence ≡ number) × IsInStep ps given (begun_save given s b.objects)
begun_steps given ps number base state old s text of b =
    let t : StateValue = record { sequence = number; time = (sequence_at ps number).time } in
    let above = of.above in
    let within = of.within in
    let start : s ≡ t = same_start (old state) s t b.start.there of.start in
    let objects : b.objects ≡ of.objects = same_base base (old base) b.objects of.objects b.base_is of.base_is in
    let step : IsInStep ps given (begun_save given t of.objects) = record {
      within = within;
      base = omega arith;
      filter_is = refl;
      mirror = uncounted given (changes_up_to ps number) (changes_after ps number number) of.objects
          (spelled_data of.base_is.named.form of.base_is.bytes of.objects of.base_is.spelled).rising
          (λ k. ap (kept_object given) (of.content k)) (none_after ps number within);
      time = sym (time_next ps (number - 1) number (omega (arith, above)));
    } in (
      ap (λ (u : StateValue). u.sequence) start,
      subst (IsInStep ps given) (sym (same_begun given s t b.objects of.objects start objects)) step,
    )

pub begun_over : BadKeepsNothing → (given : FilterValue) (ps : List PublishedValue) (number : ℕ) (base state save : List ℕ) (old new : Files)
    (report : ReportValue) → IsBaseOf ps number base state old → IsBegunBoth given base state save old new report
    → IsKeptOf ps given number number save new × (report ≡ begin_report_of number)
begun_over nothing given ps number base state save old new report of b =
    let is = begun_steps given ps number base state old b.s b.text of b.beginning in
    let value : Saved = begun_save given b.s b.beginning.objects in (
      record {
        value = value;
        kept = b.kept;
        right = no_bad_journal nothing given save b.text new value b.there b.kept;
        base_is = is.0;
        number_is = is.0;
        in_step = is.1;
      },
      b.report_is ∙ ap begin_report_of is.0,
    )

-- ---- why nothing begins

-- everything was read
has_begun : (given : FilterValue) (base state : List ℕ) (files : Files) (form : DataForm) (s : StateValue) (holds : ℕ → Type 0) → HasDataEnd base form
    → IsStart (files state) s → IsKept (spells_data form) given (files base) (λ kept. holds (length kept)) → HasBegun given base state files holds
has_begun given base state files form s holds end start kept = record {
  s = s;
  start = start;
  objects = kept.objects;
  base_is = record { named = record { form = form; end = end }; bytes = kept.bytes; there = kept.there; spelled = kept.spelled };
  many = kept.holds_of;
}

-- the time is compared only if not any is taken
compared_time : (any_time : Bool) (s : StateValue) (time : ℕ) → compared any_time s ≡ Some time → (any_time ≡ false) × (s.time ≡ time)
compared_time true s time is = absurd cc
compared_time false s time is = (refl, same_Some s.time time is)

-- what was near the state's time is, if that is compared
pub near_timely : (any_time : Bool) (state_time : Option ℕ) (base state : List ℕ) (files : Files) (form : DataForm) (s : StateValue)
    → HasDataEnd base form → IsStart (files state) s → state_time ≡ compared any_time s → IsNearBase (spells_data form) state_time (files base)
    → any_time ≡ false → IsTimely base state files
near_timely any_time state_time base state files form s end start time_is near compares = record {
  s = s;
  start = start;
  objects = near.has.objects;
  base_is = record { named = record { form = form; end = end }; bytes = near.has.bytes; there = near.has.there; spelled = near.has.spelled };
  within = (let is = near.has.newest_is in
      let at : IsNear (Some s.time) near.newest = subst (λ (o : Option ℕ). IsNear o near.newest)
      (time_is ∙ ap (λ (b : Bool). compared b s) compares) near.near in
      omega (arith, is, at));
}

-- why a save isn't begun with a data file of that form, at a state that was read
pub from_stops : (any_time : Bool) (state_time : Option ℕ) (given : FilterValue) (known : Type 0) (base state : List ℕ) (files : Files)
    (form : DataForm) (s : StateValue) → HasDataEnd base form
    → (known → IsStart (files state) s) → state_time ≡ compared any_time s
    → ((bytes : List ℕ) (place : ℕ) → place_of_data form bytes place → SpellsNothing (spells_data form) bytes)
    → (fault : RunFault) → FromStops (spells_data form) (place_of_data form) (is_long_data form) given state_time known (files base) fault
    → BeginStops known any_time given base state files fault
from_stops any_time state_time given known base state files form s end start time_is nothing WantOfMemory h = record { form = form; end = end }
from_stops any_time state_time given known base state files form s end start time_is nothing (ReadFault Base) h =
    (record { form = form; end = end }, λ yes. (s, start yes))
from_stops any_time state_time given known base state files form s end start time_is nothing (Absent Base) h =
    (record { form = form; end = end }, λ yes. ((s, start yes), h yes))
from_stops any_time state_time given known base state files form s end start time_is nothing (TooLarge Base) h = (
  record { form = form; end = end },
  λ yes. (
    (s, start yes),
    let at = h yes in record { named = record { form = form; end = end }; bytes = at.0; there = at.1; large = at.2 },
  ),
)
from_stops any_time state_time given known base state files form s end start time_is nothing (BadChange Base place why) h = λ yes. (
  (s, start yes),
  let at = h yes in record {
    named = record { form = form; end = end };
    bytes = at.0;
    there = at.1;
    nothing = nothing at.0 place at.2;
    place_is = at.2;
  },
)
from_stops any_time state_time given known base state files form s end start time_is nothing (Changed Base) h = h
from_stops any_time state_time given known base state files form s end start time_is nothing (TooLarge Save) h =
    λ yes. has_begun given base state files form s (λ many. most_kept < many) end (start yes) (h yes)
from_stops any_time state_time given known base state files form s end start time_is nothing (WriteFault Save) h =
    λ yes. has_begun given base state files form s (λ many. many ≤ most_kept) end (start yes) (h yes)
from_stops any_time state_time given known base state files form s end start time_is nothing (OlderState time newest) h =
    let compares = compared_time any_time s time (sym time_is ∙ h.0.0) in (
      compares.0,
      record { form = form; end = end },
      λ yes. (let has = h.1 yes in
          record {
            s = s;
            start = start yes;
            time_is = compares.1;
            objects = has.objects;
            base_is = record { named = record { form = form; end = end }; bytes = has.bytes; there = has.there; spelled = has.spelled };
            newest_is = sym has.newest_is;
            after = h.0.2;
          }),
    )
from_stops any_time state_time given known base state files form s end start time_is nothing fault h = absurd h
