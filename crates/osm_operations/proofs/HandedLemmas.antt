-- A data file that is handed on: what begins with an export.
use Rattle.std.proofs.Common.{◌≡◌, ℕ, ◌-◌, ◌<◌, ◌≤◌, List, [], ◌∷◌, length, Option, Some, None, arith, refl, sym, ap, ◌∙◌}
use Rattle.std.proofs.Common.{inl, inr, subst}
use Rattle.std.specs.Prelude.{Bool, true, false, if◌then◌else◌}
use Rattle.osm_model.specs.Change.{ChangeValue}
use Rattle.osm_model.specs.Content.{content_of}
use Rattle.osm_model.specs.Filter.{AreKept, FilterValue, everything, kept, kept_object, keeps}
use Rattle.osm_mirror.proofs.MirrorLaws.{stays_kept}
use Rattle.osm_o5c.proofs.WrittenFile as o5m_written
use Rattle.osm_opl.proofs.RoundTrip as opl_written
use Rattle.osm_save.specs.declared.save.Saved.{Saved}
use Rattle.osm_state.specs.State.{StateValue}
use Rattle.osm_follow.proofs.BeginLemmas.{everything_left, keeps_all}
use Rattle.osm_follow.specs.Begin.{kept_objects}
use Rattle.osm_publisher.specs.Published.{PublishedValue, changes_after, changes_up_to, sequence_at}
use Rattle.osm_beginning.specs.Beginning.{IsBase, IsBaseOf, handed_on}
use Rattle.osm_beginning.specs.Keeping.{IsBegunBoth}
use Rattle.osm_runs.specs.DataForms.{data_text_of}
use Rattle.osm_exporting.specs.Exporting.{IsExportOf}
use Rattle.osm_exporting.specs.Keeping.{IsExportedKept}
use Rattle.osm_exporting.proofs.KeptLemmas.{given_kept}
use Rattle.osm_store.specs.Files.{Files}
use Rattle.osm_journal.specs.Journal.{BatchValue}
use Rattle.osm_kept.specs.Kept.{AddsBatches, ComesTo, Keeps}
use Rattle.osm_kept.specs.Laws.{OneIsKept}
use Rattle.osm_kept.specs.Names.{journal_name_of}
use Rattle.osm_runs.specs.Folder.{IsStateFile, IsThere}
use Rattle.osm_runs.specs.Following.{IsInStep}
use Rattle.osm_runs.specs.Keeping.{IsKept as IsKeptBeside, KeptIn}
use Rattle.osm_runs.specs.Reports.{ReportValue}
use Rattle.osm_runs.proofs.KeepingLemmas.{one_is_kept}
use Rattle.osm_beginning.proofs.BeginLemmas.{none_after, same_base, same_begun, same_start, uncounted}
use Rattle.osm_operations.proofs.ExtractLemmas.{written_data}

exported_base : (save out : List ℕ) (before after files : Files) (e : IsExportedKept save out before after) → files out ≡ after out
    → IsBase out (files out) e.made.value.mirror.objects
exported_base save out before after files e at = record {
  named = e.made.named;
  bytes = data_text_of e.made.named.form e.made.value.mirror.objects;
  there = at ∙ e.put.there;
  spelled = written_data e.made.named.form e.made.value.mirror.objects e.are_data;
}

pub handed : OneIsKept → (own given : FilterValue) (save out state again : List ℕ) (before after files new : Files) (v : Saved) (time : ℕ)
    (report : ReportValue) → IsKeptBeside own save before v → v.time ≡ Some time → IsExportedKept save out before after → files out ≡ after out
    → IsThere (files state) (IsStateFile v.number time) → IsBegunBoth given out state again files new report
    → IsKeptBeside given again new (handed_on given v)
handed one own given save out state again before after files new v time report kept time_is e at named b =
    let t : StateValue = record { sequence = v.number; time = time } in
    let value = e.made.value in
    let same : value ≡ v = one_is_kept one own save before value v
    (given_kept own (before save) (before (journal_name_of save)) value e.made.kept) kept in
    let start : b.s ≡ t = same_start (files state) b.s t b.beginning.start.there named in
    let objects : b.beginning.objects ≡ v.mirror.objects =
    same_base out (files out) b.beginning.objects value.mirror.objects b.beginning.base_is (exported_base save out before after files e at)
    ∙ ap (λ (x : Saved). x.mirror.objects) same in
    let at_time : Option ℕ → Saved = λ o. record {
      number = v.number;
      base = v.number;
      time = o;
      filter = given;
      mirror = record { objects = kept_objects given v.mirror.objects; users = []; changesets = [] };
    } in
    subst (IsKeptBeside given again new) (same_begun given b.s t b.beginning.objects v.mirror.objects start objects ∙ ap at_time (sym time_is)) b.kept

-- batches leave what the filter keeps
adds_kept : (bs : List BatchValue) (old new : Saved) → AddsBatches bs old new → AreKept old.filter old.mirror.objects
    → AreKept new.filter new.mirror.objects
adds_kept [] old new same kept = subst (λ (v : Saved). AreKept v.filter v.mirror.objects) (sym same) kept
adds_kept (b ∷ bs) old new (between, one, rest) kept =
    adds_kept bs between new rest (subst (λ (f : FilterValue). AreKept f between.mirror.objects) (sym one.same_filter)
    (stays_kept old.filter old.mirror between.mirror one.changes kept one.applied))

all_kept : (told journal : Option (List ℕ)) (v : Saved) → Keeps told journal v → AreKept v.filter v.mirror.objects
all_kept told journal v k = by_journal k.comes
  where
    by_journal : ComesTo told journal k.start v → AreKept v.filter v.mirror.objects
    by_journal (inl (none, same)) = subst (λ (w : Saved). AreKept w.filter w.mirror.objects) (sym same) k.spells.savable.kept
    by_journal (inr (j, has, adds)) = adds_kept j.batches k.start v adds k.spells.savable.kept

-- under the filter of what is kept all of its objects are
pub hands_all : (own : FilterValue) (save : List ℕ) (files : Files) (v : Saved) → IsKeptBeside own save files v
    → (handed_on v.filter v).mirror.objects ≡ v.mirror.objects
hands_all own save files v kept = by_save (files save) kept
  where
    by_save : (told : Option (List ℕ)) → KeptIn own told (files (journal_name_of save)) v → kept_objects v.filter v.mirror.objects ≡ v.mirror.objects
    by_save None k = rw k refl
    by_save (Some bytes) k = keeps_all v.filter v.mirror.objects (all_kept (Some bytes) (files (journal_name_of save)) v k)

-- what is kept is kept again
kept_again : (f : FilterValue) (o : Option ChangeValue) → kept_object f (kept_object f o) ≡ kept_object f o
kept_again f None = refl
kept_again f (Some c) = by_test (keeps f c) refl
  where
    by_test : (b : Bool) → keeps f c ≡ b → kept_object f (if b then Some c else None) ≡ (if b then Some c else None)
    by_test true is = rw is refl
    by_test false is = refl

pub handed_in_step : (ps : List PublishedValue) (given : FilterValue) (v : Saved) → IsInStep ps given v → IsInStep ps given (handed_on given v)
handed_in_step ps given v step = record {
  within = step.within;
  base = omega arith;
  filter_is = refl;
  mirror = uncounted given (changes_up_to ps v.number) (changes_after ps v.number v.number) v.mirror.objects step.mirror.orderly.objects
      (λ k. ap (kept_object given) (step.mirror.objects k) ∙ kept_again given (content_of (changes_up_to ps v.number) k))
      (none_after ps v.number step.within);
  time = step.time;
}

pub base_of_export : (ps : List PublishedValue) (number : ℕ) (out state : List ℕ) (files : Files) → IsExportOf ps everything number out (files out)
    → 0 < number → number ≤ length ps → IsThere (files state) (IsStateFile number (sequence_at ps number).time)
    → IsBaseOf ps number out state files
base_of_export ps number out state files e above within named = record {
  above = above;
  within = within;
  start = named;
  objects = e.objects;
  base_is = record {
    named = e.named;
    bytes = data_text_of e.named.form e.objects;
    there = e.text;
    spelled = written_data e.named.form e.objects e.are_data;
  };
  content = λ k. e.content k ∙ everything_left (changes_up_to ps number) k;
}
