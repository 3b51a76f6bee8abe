-- What is ahead of a save text, and what is given of it.
use Rattle.std.proofs.Common.{◌≡◌, ℕ, List, [], ◌∷◌, Option, Some, None, refl, sym, ap, subst, ◌∙◌}
use Rattle.std.specs.Prelude.{codes}
use Rattle.std.proofs.lemmas.Option.{same_Some}
use Rattle.osm_blocks.specs.Places.{Place, left_of}
use Rattle.osm_mirror.specs.Mirror.{Counted, MirrorValue}
use Rattle.osm_model.specs.Change.{ChangeValue}
use Rattle.osm_model.specs.Filter.{FilterValue}
use Rattle.osm_model.specs.declared.kind.Key.{Key}
use Rattle.osm_net.specs.Laid.{laid_over}
use Rattle.osm_net.specs.Net.{NetEntry}
use Rattle.osm_reading.specs.Answers.{and_then}
use Rattle.osm_reading.proofs.StepLemmas.{some_then}
use Rattle.osm_save.specs.Head.{most_counted}
use Rattle.osm_save.specs.Reading.{counts_at, head_at, mirror_at, objects_at, save_at}
use Rattle.osm_save.specs.Save.{SpellsSave, most_objects, saved_with}
use Rattle.osm_save.specs.declared.head.Head.{Head}
use Rattle.osm_save.specs.declared.save.Saved.{Saved}
use Rattle.osm_save.specs.declared.version.Version.{Version}
use Rattle.osm_save.proofs.SaveLemmas.{save_found, save_takes}
use Rattle.osm_merge.specs.Mirrors.{both_at, end_at}
use Rattle.osm_merge.specs.declared.opening.Opening.{Opening}
use Rattle.osm_merge.proofs.CheckLemmas.{mirror_none, mirror_read, mirror_tail}
use Rattle.osm_merged.specs.Ahead.{Ahead, IsGiven, laid_after, objects_ahead, with_first}
use Rattle.osm_merged.specs.Laws.{AreNext, HoldsAhead, IsFirstOf, WasSaved}
use Rattle.osm_merged.specs.Opening.{BeginsMerged}

save_is : (file rest : List ℕ) (version : Version) (head : Head) (f : FilterValue) → head_at file ≡ Some (version, head, f, rest)
    → save_at file ≡ mirror_at version head f rest
unfolding save_at
save_is file rest version head f e = rw e refl

-- the parts of the lists of a mirror
record Parts (version : Version) (head : Head) (f : FilterValue) (bytes : List ℕ) (saved : Saved) : Type 0 where
  objects : List ChangeValue
  after : List ℕ
  read : objects_at f (most_objects version head.number) bytes ≡ Some (objects, after)
  counts : List Counted × List Counted
  both : both_at (most_counted head) after ≡ Some counts
  is : saved ≡ saved_with head f (record { objects = objects; users = counts.0; changesets = counts.1 })

parts : (version : Version) (head : Head) (f : FilterValue) (bytes : List ℕ) (saved : Saved) → mirror_at version head f bytes ≡ Some saved
    → Parts version head f bytes saved
parts version head f bytes saved e = by_objects (objects_at f (most_objects version head.number) bytes) refl
  where
    by_objects : (o : Option (List ChangeValue × List ℕ)) → objects_at f (most_objects version head.number) bytes ≡ o → Parts version head f bytes saved
    by_objects None is = absurd (let bad : None ≡ Some saved = sym (mirror_none version head f bytes is) ∙ e in cc)
    by_objects (Some o) is =
        let with_counts : List Counted × List Counted → Option Saved =
        λ c. Some (saved_with head f (record { objects = o.0; users = c.0; changesets = c.1 })) in
        let c = some_then (both_at (most_counted head) o.1) with_counts saved (sym (mirror_tail version head f bytes o.1 o.0 is) ∙ e) in
        record {
          objects = o.0;
          after = o.1;
          read = is;
          counts = c.0;
          both = c.1;
          is = sym (same_Some (saved_with head f (record { objects = o.0; users = c.0.0; changesets = c.0.1 })) saved c.2);
        }

module _ (told : Option (List ℕ)) (es : List NetEntry) (place : Place) (o : Opening) (a : Ahead NetEntry ChangeValue Key)
    (begun : BeginsMerged told es place o a) where
  mirror_is : save_at begun.file ≡ mirror_at o.version o.head o.filter begun.rest
  mirror_is = save_is begun.file begun.rest o.version o.head o.filter begun.head

  pub saved_ahead : (saved : Saved) → SpellsSave begun.file saved → HoldsAhead es o saved (objects_ahead o.filter a (left_of place begun.file))
  saved_ahead saved spells =
      let p = parts o.version o.head o.filter begun.rest saved (sym mirror_is ∙ save_found begun.file saved spells) in
      subst (λ (v : Saved). HoldsAhead es o v (objects_ahead o.filter a (left_of place begun.file))) (sym p.is) (record {
        head = refl;
        filter = refl;
        after = p.after;
        objects = begun.ahead ∙ ap (laid_after laid_over es) p.read;
        counts = p.both;
      })

  pub all_saved : (objects : List ChangeValue) (after : List ℕ) (users changesets : List Counted)
      → objects_ahead o.filter a (left_of place begun.file) ≡ Some (objects, after)
      → both_at (most_counted o.head) after ≡ Some (users, changesets)
      → WasSaved es o begun.file objects users changesets
  all_saved objects after users changesets read both = by_objects (objects_at o.filter (most_objects o.version o.head.number) begun.rest) refl
      (sym begun.ahead ∙ read)
    where
      by_objects : (r : Option (List ChangeValue × List ℕ)) → objects_at o.filter (most_objects o.version o.head.number) begun.rest ≡ r
          → laid_after laid_over es (objects_at o.filter (most_objects o.version o.head.number) begun.rest) ≡ Some (objects, after)
          → WasSaved es o begun.file objects users changesets
      by_objects None is e = absurd (let bad : None ≡ Some (objects, after) = rw is at e in cc)
      by_objects (Some r) is e =
          let same : ◌≡◌ {A = List ChangeValue × List ℕ} (laid_over es r.0, r.1) (objects, after) =
          same_Some (laid_over es r.0, r.1) (objects, after) (rw is at e) in
          let left : r.1 ≡ after = ap (λ (p : List ChangeValue × List ℕ). p.1) same in
          let m : MirrorValue = record { objects = r.0; users = users; changesets = changesets } in
          record {
            saved = saved_with o.head o.filter m;
            spells = save_takes begun.file (saved_with o.head o.filter m)
                (mirror_is ∙ mirror_read o.version o.head o.filter begun.rest r.1 r.0 (users, changesets) is (ap (both_at (most_counted o.head)) left ∙ both));
            head = refl;
            filter = refl;
            objects_are = sym (ap (λ (p : List ChangeValue × List ℕ). p.0) same);
            users_are = refl;
            changesets_are = refl;
          }

-- ---- the lists of counts

pub both_next : (most : ℕ) (bytes : List ℕ) (users changesets : List Counted) → both_at most bytes ≡ Some (users, changesets)
    → AreNext most bytes users changesets
unfolding both_at
both_next most bytes users changesets e = by_users (counts_at (codes "users ") most bytes) refl e
  where
    by_end : (us ss : List Counted) (after last : List ℕ) (o : Option (Unit {0})) → counts_at (codes "users ") most bytes ≡ Some (us, after)
        → counts_at (codes "changesets ") most after ≡ Some (ss, last) → end_at last ≡ o
        → and_then {A = Unit {0}} {B = List Counted × List Counted} o (λ e. Some (us, ss)) ≡ Some (users, changesets)
        → AreNext most bytes users changesets
    by_end us ss after last None first second is e = absurd cc
    by_end us ss after last (Some x) first second is e =
        let same : ◌≡◌ {A = List Counted × List Counted} (us, ss) (users, changesets) = same_Some (us, ss) (users, changesets) e in
        record {
          after = after;
          users_are = first ∙ ap (λ (p : List Counted × List Counted). Some (p.0, after)) same;
          last = last;
          changesets_are = second ∙ ap (λ (p : List Counted × List Counted). Some (p.1, last)) same;
          end = is;
        }

    by_changesets : (us : List Counted) (after : List ℕ) (o : Option (List Counted × List ℕ)) → counts_at (codes "users ") most bytes ≡ Some (us, after)
        → counts_at (codes "changesets ") most after ≡ o
        → and_then {A = List Counted × List ℕ} {B = List Counted × List Counted} o (λ s. and_then {A = Unit {0}} {B = List Counted × List Counted}
        (end_at s.1) (λ e. Some (us, s.0))) ≡ Some (users, changesets)
        → AreNext most bytes users changesets
    by_changesets us after None first is e = absurd cc
    by_changesets us after (Some s) first is e = by_end us s.0 after s.1 (end_at s.1) first is refl e

    by_users : (o : Option (List Counted × List ℕ)) → counts_at (codes "users ") most bytes ≡ o
        → and_then {A = List Counted × List ℕ} {B = List Counted × List Counted} o (λ u.
        and_then {A = List Counted × List ℕ} {B = List Counted × List Counted} (counts_at (codes "changesets ") most u.1) (λ s.
        and_then {A = Unit {0}} {B = List Counted × List Counted} (end_at s.1) (λ e. Some (u.0, s.0)))) ≡ Some (users, changesets)
        → AreNext most bytes users changesets
    by_users None is e = absurd cc
    by_users (Some u) is e = by_changesets u.0 u.1 (counts_at (codes "changesets ") most u.1) is refl e

-- ---- what is given

module _ {X : Type 0} where
  first_of : (xs : List X) (rest left : List ℕ) (x : X) (new : Option (List X × List ℕ)) → Some (xs, rest) ≡ with_first x new
      → IsFirstOf xs rest left new (Some x)
  first_of xs rest left x None e = absurd cc
  first_of xs rest left x (Some r) e =
      let same : ◌≡◌ {A = List X × List ℕ} (xs, rest) (x ∷ r.0, r.1) = same_Some (xs, rest) (x ∷ r.0, r.1) e in
      (r.0, ap (λ (p : List X × List ℕ). p.0) same, ap (λ (p : List X × List ℕ). Some (r.0, p.1)) (sym same))

  pub given_first : (xs : List X) (rest left : List ℕ) (old new : Option (List X × List ℕ)) (given : Option X) → old ≡ Some (xs, rest)
      → IsGiven left old new given → IsFirstOf xs rest left new given
  given_first xs rest left old new (Some x) is e = first_of xs rest left x new (sym is ∙ e)
  given_first xs rest left old new None is e =
      let same : ◌≡◌ {A = List X × List ℕ} (xs, rest) ([], left) = same_Some (xs, rest) ([], left) (sym is ∙ e.0) in
      let after : left ≡ rest = sym (ap (λ (p : List X × List ℕ). p.1) same) in
      (ap (λ (p : List X × List ℕ). p.0) same, after, e.1 ∙ ap (λ (l : List ℕ). Some ([], l)) after)
