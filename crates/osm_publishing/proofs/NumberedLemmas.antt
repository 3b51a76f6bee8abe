-- What a publication by number does to a folder, and why it is refused.
use Rattle.std.proofs.Common.{◌≡◌, ℕ, zero, suc, ◌+◌, ◌<◌, ◌≤◌, List, [], ◌∷◌, length, take, Option, Some, None, inl}
use Rattle.std.proofs.Common.{inr, true, false, arith, refl, sym, ap, subst, ◌∙◌}
use Rattle.std.specs.Prelude.{◌⊎◌, ◌||◌, ◌&&◌, is_none}
use Rattle.std.specs.List.{AllByRecursion}
use Rattle.std.specs.Str.{bytes_eq}
use Rattle.std.proofs.lemmas.Bool.{cases_Bool}
use Rattle.std.proofs.lemmas.Slice.Eq.{bytes_eq-Decides}
use Rattle.osm_model.specs.Change.{ChangeValue}
use Rattle.osm_model.specs.Limits.{max_sequence}
use Rattle.osm_model.specs.Time.{TimeText}
use Rattle.osm_publisher.specs.Published.{PublishedValue, sequence_at, written_of}
use Rattle.osm_publisher.specs.Publisher.{IsSmall}
use Rattle.osm_o5c.proofs.FrontLemmas as o5c_file
use Rattle.osm_o5c.proofs.WrittenFile as o5c_written
use Rattle.osm_opl.proofs.FileLaws as opl_file
use Rattle.osm_opl.proofs.RoundTrip as opl_written
use Rattle.osm_opl.specs.File.{SpellsOpl}
use Rattle.osm_reading.specs.Sequence.{SpellsSequence}
use Rattle.osm_state.proofs.StateLemmas.{one_state, one_time}
use Rattle.osm_state.specs.State.{StateValue}
use Rattle.osm_state.specs.StateLaws.{NoFaultBesideState}
use Rattle.osm_state.specs.declared.paths.Suffix.{Suffix}
use Rattle.osm_state.specs.declared.paths.Suffix.TheVariants.{O5c, Opl, State}
use Rattle.osm_store.specs.Files.{Files, Puts}
use Rattle.osm_runs.specs.Folder.{IsAbsentOr, IsFile, IsFolderOf, IsThere, IsTop}
use Rattle.osm_runs.specs.Following.{is_lost}
use Rattle.osm_runs.specs.Names.{file_name_of, top_name_of}
use Rattle.osm_publishing.specs.Numbered.{IsAddedAs, IsAsked, IsAskedWith, IsPublishedIn, IsRepeatOf, IsRepeated}
use Rattle.osm_publishing.specs.Numbered.{IsToWrite, NotNumbered, NumberedStopsOver, PutsSequence}
use Rattle.osm_publishing.specs.Publication.{CutsOff, GoesOnFrom, Writes, writes_of}
use Rattle.osm_runs.specs.Reports.{ReportValue, publish_report_of}
use Rattle.osm_publishing.specs.Steps.Numbering.{PrepareStops}
use Rattle.osm_publishing.specs.Steps.Publishing.{IsMadeOf, writes_to}
use Rattle.osm_publishing.specs.declared.publish.Publication.{Publication}
use Rattle.osm_runs.specs.declared.fault.RunFault.{RunFault}
use Rattle.osm_runs.specs.declared.fault.RunFault.TheVariants.{WantOfMemory, ReadFault, WriteFault, TooLarge, Absent}
use Rattle.osm_runs.specs.declared.fault.RunFault.TheVariants.{BadState, BadChange, TimeBack, BadNow, BadSequence}
use Rattle.osm_runs.specs.declared.fault.RunFault.TheVariants.{Differs, TopAt}
use Rattle.osm_publishing.proofs.FolderLemmas.{IsWritten, all_add, goes_on_number, last_time, some_keep, written_state}
use Rattle.osm_runs.proofs.InStepLemmas.{same_time}
use Rattle.osm_runs.proofs.NameLemmas.{one_file, top_is_no_file}
use Rattle.osm_publishing.proofs.RefusalLemmas.{before_last}
use Rattle.osm_publishing.proofs.PublishLemmas.{writes_same}
use Rattle.osm_runs.proofs.TopLemmas.{good_top, small_top}

-- ---- one answer

pub one_sequence : (text : List ℕ) (m n : ℕ) → SpellsSequence text m → SpellsSequence text n → m ≡ n
one_sequence text m n a b = a.value ∙ sym b.value

pub one_top : (told : Option (List ℕ)) (m n t u : ℕ) → GoesOnFrom told m t → GoesOnFrom told n u → (m ≡ n) × (t ≡ u)
one_top None m n t u a b = (a.0 ∙ sym b.0, a.1 ∙ sym b.1)
one_top (Some bytes) m n t u a b =
    let same = one_state bytes (record { sequence = m; time = t }) (record { sequence = n; time = u }) a.names b.names in
    (ap (λ (s : StateValue). s.sequence) same, ap (λ (s : StateValue). s.time) same)

abbrev value_of : ℕ → List ChangeValue → ℕ → PublishedValue
value_of number changes time = record { number = number; changes = changes; time = time }

same_value : (p q : PublishedValue) → p.number ≡ q.number → p.changes ≡ q.changes → p.time ≡ q.time → p ≡ q
same_value p q a b c =
    ap (λ n. value_of n p.changes p.time) a ∙ (ap (λ cs. value_of q.number cs p.time) b ∙ ap (λ t. value_of q.number q.changes t) c)

-- ---- the folder's own sequences

same_found : (state o5c opl : Option (List ℕ)) (p q : PublishedValue) → IsAbsentOr o5c (IsFile O5c p)
    → IsAbsentOr opl (IsFile Opl p) → (is_none state || (is_none o5c && is_none opl)) ≡ false
    → IsAbsentOr o5c (IsFile O5c q) → IsAbsentOr opl (IsFile Opl q) → p.changes ≡ q.changes
same_found None o5c opl p q a b found c d = absurd (let e : true ≡ false = found in cc)
same_found (Some s) None None p q a b found c d = absurd (let e : true ≡ false = found in cc)
same_found (Some s) None (Some bytes) p q a b found c d = opl_file.one_batch bytes p.changes q.changes b.1 d.1
same_found (Some s) (Some bytes) opl p q a b found c d = o5c_file.one_batch bytes p.changes q.changes a.1 c.1

-- a sequence that is published in the folder is the folder's of that number
pub same_sequence : (ps : List PublishedValue) (files : Files) (dir : List ℕ) (top time : ℕ) (p : PublishedValue)
    → IsFolderOf ps files dir → p.number ≤ length ps → IsPublishedIn files dir top time p → p ≡ sequence_at ps p.number
same_sequence ps files dir top time p folder within is =
    let at = folder.each p.number in
    same_value p (sequence_at ps p.number) (sym (folder.sequences p.number is.above within).number_is)
    (same_found _ _ _ p (sequence_at ps p.number) is.files_are.o5c is.files_are.opl is.files_are.found (at O5c is.above within) (at Opl is.above within))
    (same_time _ p (sequence_at ps p.number) is.files_are.state (at State is.above within))

there_of : (told : Option (List ℕ)) (holds : List ℕ → Type 0) → is_none told ≡ false → IsAbsentOr told holds → IsThere told holds
there_of None holds found a = absurd (let e : true ≡ false = found in cc)
there_of (Some bytes) holds found a = a

state_found : (state o5c opl : Option (List ℕ)) → (is_none state || (is_none o5c && is_none opl)) ≡ false → is_none state ≡ false
state_found None o5c opl found = absurd (let e : true ≡ false = found in cc)
state_found (Some bytes) o5c opl found = refl

-- a sequence of the folder that isn't lost is published in it
pub own_sequence : (ps : List PublishedValue) (files : Files) (dir : List ℕ) (top time k : ℕ) → IsFolderOf ps files dir
    → 0 < k → k ≤ length ps → GoesOnFrom (files (top_name_of dir)) top time
    → is_lost files dir (sequence_at ps k).number ≡ false → IsPublishedIn files dir top time (sequence_at ps k)
own_sequence ps files dir top time k folder above within goes_on found =
    let number : (sequence_at ps k).number ≡ k = (folder.sequences k above within).number_is in
    let last : top ≡ length ps = goes_on_number ps (files (top_name_of dir)) top time folder.sequences folder.top goes_on in
    record {
      above = omega (arith, number);
      within = omega (arith, number, last);
      newest = λ e. (let at : k ≡ length ps = omega (arith, number, last, e) in
          rw at (sym (last_time ps (files (top_name_of dir)) top time (omega (arith, at)) folder.top goes_on)));
      files_are = record {
        state = there_of _ _ (state_found _ _ _ found) (rw number (folder.each k State above within));
        o5c = rw number (folder.each k O5c above within);
        opl = rw number (folder.each k Opl above within);
        found = found;
      };
    }

-- ---- writing again

own_keeps : (ps : List PublishedValue) (dir : List ℕ) (k : ℕ) (s : Suffix) (bytes : List ℕ) → 0 < k → k ≤ length ps
    → IsFile s (sequence_at ps k) bytes → (f g : Files) → Puts f (file_name_of dir k s) (Some bytes) g
    → IsFolderOf ps f dir → IsFolderOf ps g dir
own_keeps ps dir k s bytes above within is f g put folder = record {
  sequences = folder.sequences;
  rising = folder.rising;
  top = subst (IsTop ps) (sym (put.others (top_name_of dir) (top_is_no_file dir k s))) folder.top;
  each = λ j t a w. (let d = bytes_eq-Decides (file_name_of dir j t) (file_name_of dir k s) in
      elim (cases_Bool (bytes_eq (file_name_of dir j t) (file_name_of dir k s))) [
        | inl same ↦ own j t a w (d.0 same)
        | inr other ↦ subst (λ o. IsAbsentOr o (IsFile t (sequence_at ps j)))
            (sym (put.others (file_name_of dir j t) (λ e. (let e2 = d.1 e in cc)))) (folder.each j t a w)
      ]);
}
  where
    own : (j : ℕ) (t : Suffix) → 0 < j → j ≤ length ps → file_name_of dir j t ≡ file_name_of dir k s
        → IsAbsentOr (g (file_name_of dir j t)) (IsFile t (sequence_at ps j))
    own j t a w e =
        let most = (folder.sequences j a w).most in
        let fits = (folder.sequences k above within).most in
        let one = one_file dir j k t s most fits e in
        rw (one.0, one.1, put.there) is

top_keeps : (ps : List PublishedValue) (dir : List ℕ) (bytes : List ℕ) → 0 < length ps
    → IsFile State (sequence_at ps (length ps)) bytes → (f g : Files) → Puts f (top_name_of dir) (Some bytes) g
    → IsFolderOf ps f dir → IsFolderOf ps g dir
top_keeps ps dir bytes some is f g put folder = record {
  sequences = folder.sequences;
  rising = folder.rising;
  top = inr (some, rw put.there is);
  each = λ j t a w. subst (λ o. IsAbsentOr o (IsFile t (sequence_at ps j)))
      (sym (put.others (file_name_of dir j t) (λ e. top_is_no_file dir j t (sym e)))) (folder.each j t a w);
}

-- the write leaves the folder that of the published sequences
abbrev Keeps : List PublishedValue → List ℕ → List ℕ × List ℕ → Type 0
Keeps ps dir w = (f g : Files) → Puts f w.0 (Some w.1) g → IsFolderOf ps f dir → IsFolderOf ps g dir

all_keep : (ps : List PublishedValue) (dir : List ℕ) (count : ℕ) (ws : List (List ℕ × List ℕ)) (f g : Files)
    → AllByRecursion (Keeps ps dir) ws → Writes (take count ws) f g → IsFolderOf ps f dir → IsFolderOf ps g dir
all_keep ps dir zero ws f g all w is = subst (λ (h : Files). IsFolderOf ps h dir) (sym w) is
all_keep ps dir (suc n) [] f g all w is = subst (λ (h : Files). IsFolderOf ps h dir) (sym w) is
all_keep ps dir (suc n) (v ∷ vs) f g all w is = all_keep ps dir n vs w.0 g all.1 w.2 (all.0 f w.0 w.1 is)

pub again_keeps : (ps : List PublishedValue) (dir : List ℕ) (x : PublishedValue) (count : ℕ) (f g : Files) → IsWritten x
    → 0 < x.number → x.number ≡ length ps → x ≡ sequence_at ps x.number
    → Writes (take count (writes_of dir (written_of x))) f g → IsFolderOf ps f dir → IsFolderOf ps g dir
again_keeps ps dir x count f g is above last at w folder =
    all_keep ps dir count (writes_of dir (written_of x)) f g (
      own_keeps ps dir x.number O5c _ above within o5c,
      (
        own_keeps ps dir x.number Opl _ above within opl,
        (own_keeps ps dir x.number State _ above within state, (top_keeps ps dir _ (omega arith) newest, tt)),
      ),
    ) w folder
  where
    within : x.number ≤ length ps
    within = omega arith

    o5c : IsFile O5c (sequence_at ps x.number) (written_of x).o5c
    o5c = subst (λ p. IsFile O5c p (written_of x).o5c) at (is.small.o5c, o5c_written.text_spells x.changes is.sequence.changes)

    opl : IsFile Opl (sequence_at ps x.number) (written_of x).opl
    opl = subst (λ p. IsFile Opl p (written_of x).opl) at (is.small.opl, opl_written.text_spells x.changes is.sequence.changes)

    state : IsFile State (sequence_at ps x.number) (written_of x).state
    state = subst (λ p. IsFile State p (written_of x).state) at (written_state x is)

    newest : IsFile State (sequence_at ps (length ps)) (written_of x).state
    newest = subst (λ n. IsFile State (sequence_at ps n) (written_of x).state) last state

-- ---- what is asked for

pub asked_written : (dir changes now sequence : List ℕ) (files : Files) (top time : ℕ) (x : PublishedValue)
    → IsAsked dir changes now sequence files top time x → x.number ≤ max_sequence → IsSmall x.changes → IsWritten x
asked_written dir changes now sequence files top time x asked most small = record {
  sequence = record { number_is = refl; most = most; changes = asked.spelled.limits; time = asked.now_is.limits };
  small = small;
}

-- some of the writes of a publication by number, never the last of them
pub numbered_keeps : (ps : List PublishedValue) (dir changes now sequence : List ℕ) (f g : Files) (top time count : ℕ)
    (x : PublishedValue) → IsAsked dir changes now sequence f top time x → x.number ≤ max_sequence
    → IsToWrite f dir top time x → IsSmall x.changes → count < 4
    → Writes (take count (writes_of dir (written_of x))) f g → IsFolderOf ps f dir → IsFolderOf ps g dir
numbered_keeps ps dir changes now sequence f g top time count x asked most (inl next) small few w is =
    let n = goes_on_number ps (f (top_name_of dir)) top time is.sequences is.top asked.goes_on in
    let number = next.0 in
    some_keep ps dir (written_of x) count f g few (omega (arith, n, number)) most w is
numbered_keeps ps dir changes now sequence f g top time count x asked most (inr again) small few w is =
    let n = goes_on_number ps (f (top_name_of dir)) top time is.sequences is.top asked.goes_on in
    let number = again.0 in
    let last : x.number ≡ length ps = omega (arith, n, number) in
    again_keeps ps dir x count f g (asked_written dir changes now sequence f top time x asked most small) again.1.above last
    (same_sequence ps f dir top time x is (omega (arith, last)) again.1) w is

repeated : (ps : List PublishedValue) (dir changes now sequence : List ℕ) (f g : Files) (top time : ℕ)
    (x : PublishedValue) → IsAsked dir changes now sequence f top time x → IsFolderOf ps f dir → top ≡ length ps
    → IsPublishedIn f dir top time x → IsFolderOf ps g dir
    → (x.number ≡ length ps → Writes (writes_of dir (written_of x)) f g) → (x.number < length ps → g ≡ f)
    → IsRepeated ps dir changes now x.number f g
repeated ps dir changes now sequence f g top time x asked is last there after written same =
    let below = there.within in
    let within : x.number ≤ length ps = omega (arith, last, below) in
    let at = same_sequence ps f dir top time x is within there in
    record {
      above = there.above;
      within = within;
      changes_are = subst (λ (p : PublishedValue). IsThere (f changes) (λ bytes. SpellsOpl bytes p.changes)) at (rw asked.there asked.spelled);
      time_is = subst (λ (p : PublishedValue). TimeText now p.time) at asked.now_is;
      folder = after;
      written = λ e. subst (λ p. Writes (writes_of dir (written_of p)) f g) at (written e);
      same = same;
    }

pub numbered_adds : (ps : List PublishedValue) (dir changes now sequence : List ℕ) (f g : Files) (top time : ℕ)
    (x : PublishedValue) (report : ReportValue) → IsAsked dir changes now sequence f top time x
    → x.number ≤ max_sequence → PutsSequence f g dir top time x → report ≡ publish_report_of x.number
    → IsFolderOf ps f dir → IsAddedAs ps dir changes now sequence f g report
numbered_adds ps dir changes now sequence f g top time x report asked most (inl (inl next, small, w)) said is =
    let n = goes_on_number ps (f (top_name_of dir)) top time is.sequences is.top asked.goes_on in
    let number = next.0 in
    let at : x.number ≡ length ps + 1 = omega (arith, n, number) in
    record {
      number = x.number;
      number_is = asked.number_is;
      done = inl (
        at,
        record {
          added = x;
          folder = all_add ps dir x f g at (asked_written dir changes now sequence f top time x asked most small)
              (λ some. subst (λ t. t ≤ x.time) (last_time ps (f (top_name_of dir)) top time some is.top asked.goes_on) next.1) w is;
          changes_are = rw asked.there asked.spelled;
          time_is = asked.now_is;
          report_is = said ∙ ap publish_report_of at;
        },
      );
      report_is = said;
    }
numbered_adds ps dir changes now sequence f g top time x report asked most (inl (inr again, small, w)) said is =
    let n = goes_on_number ps (f (top_name_of dir)) top time is.sequences is.top asked.goes_on in
    let number = again.0 in
    let last : x.number ≡ length ps = omega (arith, n, number) in
    record {
      number = x.number;
      number_is = asked.number_is;
      done = inr (repeated ps dir changes now sequence f g top time x asked is n again.1
          (again_keeps ps dir x 4 f g (asked_written dir changes now sequence f top time x asked most small) again.1.above last
          (same_sequence ps f dir top time x is (omega (arith, last)) again.1) w is)
          (λ e. w) (λ e. absurd (omega (arith, last, e))));
      report_is = said;
    }
numbered_adds ps dir changes now sequence f g top time x report asked most (inr (below, there, same)) said is =
    let n = goes_on_number ps (f (top_name_of dir)) top time is.sequences is.top asked.goes_on in
    record {
      number = x.number;
      number_is = asked.number_is;
      done = inr (repeated ps dir changes now sequence f g top time x asked is n there
          (subst (λ (h : Files). IsFolderOf ps h dir) (sym same) is)
          (λ e. absurd (omega (arith, n, below, e))) (λ e. same));
      report_is = said;
    }

-- ---- refusals

with_asked : (dir changes now sequence : List ℕ) (files : Files) (top time : ℕ) (p : PublishedValue) (holds : ℕ → ℕ
    → PublishedValue → Type 0) → IsAsked dir changes now sequence files top time p → holds top time p
    → IsAskedWith dir changes now sequence files holds
with_asked dir changes now sequence files top time p holds asked so = record { top = top; time = time; asked_for = p; asked = asked; is_so = so }

pub prepare_stops : (known : Type 0) (dir changes now sequence : List ℕ) (files : Files) (top time : ℕ)
    (p : PublishedValue) (fault : RunFault) → (known → IsAsked dir changes now sequence files top time p)
    → TimeText now p.time → SpellsSequence sequence p.number → PrepareStops known dir files top time p fault
    → NotNumbered known dir changes now sequence files fault
prepare_stops known dir changes now sequence files top time p WantOfMemory asked now_is number_is h =
    record { has_time = (p.time, now_is); number = p.number; number_is = number_is }
prepare_stops known dir changes now sequence files top time p (ReadFault file) asked now_is number_is h = (
  record { has_time = (p.time, now_is); number = p.number; number_is = number_is },
  inr (inr (record {
    number = p.number;
    suffix = h.1.0;
    file_is = h.1.1;
    number_is = number_is;
    old = λ yes. with_asked dir changes now sequence files top time p _ (asked yes) h.0;
  })),
)
prepare_stops known dir changes now sequence files top time p (TooLarge file) asked now_is number_is h = (
  record { has_time = (p.time, now_is); number = p.number; number_is = number_is },
  inr (inr (h.0, λ yes. with_asked dir changes now sequence files top time p _ (asked yes) (h.1 yes))),
)
prepare_stops known dir changes now sequence files top time p TimeBack asked now_is number_is h = (
  record { has_time = (p.time, now_is); number = p.number; number_is = number_is },
  λ yes. with_asked dir changes now sequence files top time p _ (asked yes) h,
)
prepare_stops known dir changes now sequence files top time p (TopAt number) asked now_is number_is h = (
  record { has_time = (p.time, now_is); number = p.number; number_is = number_is },
  λ yes. with_asked dir changes now sequence files top time p _ (asked yes) h,
)
prepare_stops known dir changes now sequence files top time p (Differs number) asked now_is number_is h =
    ((p.time, now_is), rw h.0 number_is, λ yes. with_asked dir changes now sequence files top time p _ (asked yes) (h.1 yes))
prepare_stops known dir changes now sequence files top time p fault asked now_is number_is h = absurd h

-- the folder's own sequence was asked for
asked_own : (ps : List PublishedValue) (dir changes now sequence : List ℕ) (files : Files) (top time k : ℕ)
    (p : PublishedValue) → IsAsked dir changes now sequence files top time p → p.number ≡ k → IsFolderOf ps files dir
    → 0 < k → k ≤ length ps → IsRepeatOf files dir changes now (sequence_at ps k) → IsPublishedIn files dir top time p
asked_own ps dir changes now sequence files top time k p asked number is above within so =
    let own = own_sequence ps files dir top time k is above within asked.goes_on so.found in
    let spelled : IsThere (Some asked.bytes) (λ bytes. SpellsOpl bytes (sequence_at ps k).changes) =
    subst (λ o. IsThere o (λ bytes. SpellsOpl bytes (sequence_at ps k).changes)) asked.there so.changes_are in
    let same : sequence_at ps k ≡ p = same_value (sequence_at ps k) p ((is.sequences k above within).number_is ∙ sym number)
    (opl_file.one_batch asked.bytes (sequence_at ps k).changes p.changes spelled asked.spelled)
    (one_time now (sequence_at ps k).time p.time so.time_is asked.now_is) in
    subst (IsPublishedIn files dir top time) same own

pub numbered_refuses : NoFaultBesideState → (known : Type 0) (ps : List PublishedValue)
    (dir changes now sequence : List ℕ) (files : Files) (fault : RunFault) → known → IsFolderOf ps files dir
    → NotNumbered known dir changes now sequence files fault → NumberedStopsOver ps dir changes now sequence files fault
numbered_refuses law known ps dir changes now sequence files BadNow sure is h = h
numbered_refuses law known ps dir changes now sequence files BadSequence sure is h = h.1
numbered_refuses law known ps dir changes now sequence files WantOfMemory sure is h = tt
numbered_refuses law known ps dir changes now sequence files (ReadFault file) sure is h = tt
numbered_refuses law known ps dir changes now sequence files (WriteFault file) sure is h = tt
numbered_refuses law known ps dir changes now sequence files (BadState file cause) sure is h = good_top law ps (files (top_name_of dir)) cause is.top (h.2 sure)
numbered_refuses law known ps dir changes now sequence files (Absent file) sure is h = h.1
numbered_refuses law known ps dir changes now sequence files (TooLarge file) sure is (t, inl a) =
    absurd (small_top ps (files (top_name_of dir)) is.top (a.1 sure))
numbered_refuses law known ps dir changes now sequence files (TooLarge file) sure is (t, inr (inl a)) = a.0
numbered_refuses law known ps dir changes now sequence files (TooLarge file) sure is (t, inr (inr a)) = a.0
numbered_refuses law known ps dir changes now sequence files (BadChange file place why) sure is h = h.1
numbered_refuses law known ps dir changes now sequence files TimeBack sure is h =
    let r = h.1 sure in
    let n = goes_on_number ps (files (top_name_of dir)) r.top r.time is.sequences is.top r.asked.goes_on in (
      subst (λ k. SpellsSequence sequence k) (r.is_so.0 ∙ ap (λ k. k + 1) n) r.asked.number_is,
      before_last ps (files (top_name_of dir)) now r.top r.time r.asked_for.time is.top r.asked.goes_on r.asked.now_is r.is_so.1,
    )
numbered_refuses law known ps dir changes now sequence files (TopAt number) sure is h =
    let r = h.1 sure in
    let n = goes_on_number ps (files (top_name_of dir)) r.top r.time is.sequences is.top r.asked.goes_on in
    (r.is_so.0 ∙ n, (r.asked_for.number, r.asked.number_is, rw r.is_so.0 r.is_so.1))
numbered_refuses law known ps dir changes now sequence files (Differs number) sure is h =
    let r = h.2 sure in
    let n = goes_on_number ps (files (top_name_of dir)) r.top r.time is.sequences is.top r.asked.goes_on in
    let same : r.asked_for.number ≡ number = one_sequence sequence r.asked_for.number number r.asked.number_is h.1 in
    let some = r.is_so.0 in
    let until = r.is_so.1 in
    let above : 0 < number = omega (arith, same, some) in
    let within : number ≤ length ps = omega (arith, same, n, until) in
    (h.1, above, within, λ so. r.is_so.2 (asked_own ps dir changes now sequence files r.top r.time number r.asked_for r.asked same is above within so))
numbered_refuses law known ps dir changes now sequence files fault sure is h = absurd h

pub cut_refuses : (ps : List PublishedValue) (dir changes now sequence : List ℕ) (files : Files) (number count : ℕ)
    (fault : RunFault) → CutsOff number count fault → NumberedStopsOver ps dir changes now sequence files fault
cut_refuses ps dir changes now sequence files number count WantOfMemory h = tt
cut_refuses ps dir changes now sequence files number count (WriteFault file) h = tt
cut_refuses ps dir changes now sequence files number count fault h = absurd h

-- ---- what was made and written

-- the writes that were made, as those of the folder
pub made_writes : (dir : List ℕ) (x : PublishedValue) (f h g : Files) (made : Publication) → IsMadeOf dir x made
    → (count : ℕ) → h ≡ f → Writes (take count (writes_to made.names made.published)) h g
    → Writes (take count (writes_of dir (written_of x))) f g
made_writes dir x f h g made m count e w =
    let same : writes_to made.names made.published ≡ writes_of dir (written_of x) =
    ap (λ p. writes_to made.names p) m.published_is ∙ writes_same dir made.names (written_of x) m.names_are in
    subst (λ (k : Files). Writes (take count (writes_of dir (written_of x))) k g) e
    (subst (λ ws. Writes (take count ws) h g) same w)

pub number_to_write : (files : Files) (dir : List ℕ) (top time : ℕ) (x : PublishedValue)
    → IsToWrite files dir top time x → (x.number ≡ top + 1) ⊎ (x.number ≡ top)
number_to_write files dir top time x (inl next) = inl next.0
number_to_write files dir top time x (inr again) = inr again.0
