-- The numbers that a follower takes, one after the other.
use Rattle.std.proofs.Common.{◌≡◌, ℕ, zero, suc, ◌+◌, ◌<◌, ◌≤◌, List, [], ◌∷◌, ◌++◌, Option, Some, None}
use Rattle.std.proofs.Common.{false, arith, refl, sym, ap, ◌∙◌}
use Rattle.std.specs.Prelude.{is_none, ◌||◌, ◌&&◌}
use Rattle.std.proofs.lemmas.List.{map-append}
use Rattle.osm_save.specs.declared.save.Saved.{Saved}
use Rattle.osm_state.specs.declared.paths.Suffix.TheVariants as suffixes
use Rattle.osm_state.specs.declared.paths.Suffix.TheVariants.{O5c, Opl, State}
use Rattle.osm_publisher.specs.Published.{PublishedValue}
use Rattle.osm_follow.specs.Reach.{between, numbers}
use Rattle.osm_store.specs.Files.{Files}
use Rattle.osm_runs.specs.Folder.{IsFile, IsThere}
use Rattle.osm_runs.specs.Following.{AddsAll, AreChanges, HasFiles, is_lost, ranges, NumberStops}
use Rattle.osm_runs.specs.Names.{file_name_of}
use Rattle.osm_runs.specs.Progress.{IsOfContent}
use Rattle.osm_runs.specs.declared.fault.FileName.TheVariants.{Sequence}
use Rattle.osm_runs.specs.declared.fault.RunFault.{RunFault}
use Rattle.osm_runs.specs.declared.fault.RunFault.TheVariants.{BadChange, BadState, Mismatch, OlderNumber, TooLarge}

-- a sequence whose files are there isn't lost
pub has_not_lost : (files : Files) (dir : List ℕ) (p : PublishedValue) → HasFiles files dir p → is_lost files dir p.number ≡ false
has_not_lost files dir p has = by_files (files (file_name_of dir p.number suffixes.State))
    (files (file_name_of dir p.number suffixes.O5c)) (files (file_name_of dir p.number suffixes.Opl)) has.state
    has.changes
  where
    by_files : (state o5c opl : Option (List ℕ)) → IsThere state (IsFile suffixes.State p) → AreChanges o5c opl p
        → (is_none state || (is_none o5c && is_none opl)) ≡ false
    by_files None o5c opl s c = absurd s
    by_files (Some state) (Some bytes) opl s c = refl
    by_files (Some state) None None s c = absurd c
    by_files (Some state) None (Some bytes) s c = refl

pub adds_number : (files : Files) (dir : List ℕ) (count : ℕ) (old new : Saved) → AddsAll files dir count old new → new.number ≡ old.number + count
adds_number files dir zero old new a = ap (λ (v : Saved). v.number) a ∙ (let same : old.number ≡ old.number + 0 = omega arith in same)
adds_number files dir (suc count) old new (between, before, last) =
    let one = adds_number files dir count old between before in
    let at = last.number in
    let next = last.number_is in
    omega (arith, one, at, next)

-- one more range
pub ranges_next : (n count k : ℕ) → k ≡ n + suc count → ranges n count ++ (k, k) ∷ [] ≡ ranges n (suc count)
ranges_next n count k is = rw is (sym (map-append (λ (j : ℕ). (j, j)) (numbers n count) ((n + suc count) ∷ [])))

-- a fault of content is one of the number that it stops
pub content_of : (known : Type 0) (dir : List ℕ) (files : Files) (before : Option ℕ) (number k : ℕ) (fault : RunFault)
    → NumberStops known dir files before number fault → IsOfContent fault k → IsOfContent fault number
content_of known dir files before number k fault h c = by_fault fault h c
  where
    by_fault : (x : RunFault) → NumberStops known dir files before number x → IsOfContent x k → IsOfContent x number
    by_fault (TooLarge (Sequence j suffix)) h c = h.0
    by_fault (BadState (Sequence j State) cause) h c = h.0
    by_fault (Mismatch j) h c = h.0
    by_fault (OlderNumber j) h c = h.0
    by_fault (BadChange (Sequence j O5c) place why) h c = h.0
    by_fault (BadChange (Sequence j Opl) place why) h c = h.0
    by_fault (BadChange (Sequence j State) place why) h c = absurd h
    by_fault x h c = absurd c
