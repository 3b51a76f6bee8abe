-- What is ahead in a save text, and what a file is that was read to its end.
use Rattle.std.specs.Prelude.{◌≡◌, ℕ, List, [], ◌∷◌, codes, Option, Some, None}
use Rattle.osm_blocks.specs.Places.{Place, left_of}
use Rattle.osm_mirror.specs.Mirror.{Counted}
use Rattle.osm_model.specs.Change.{ChangeValue}
use Rattle.osm_model.specs.declared.kind.Key.{Key}
use Rattle.osm_net.specs.Laid.{laid_over}
use Rattle.osm_net.specs.Net.{NetEntry}
use Rattle.osm_save.specs.Head.{head_of, most_counted}
use Rattle.osm_save.specs.Reading.{counts_at}
use Rattle.osm_save.specs.Save.{SpellsSave}
use Rattle.osm_save.specs.declared.save.Saved.{Saved}
use Rattle.osm_merge.specs.Mirrors.{both_at, end_at}
use Rattle.osm_merge.specs.declared.opening.Opening.{Opening}
use Rattle.osm_merged.specs.Ahead.{Ahead, IsGiven, objects_ahead}
use Rattle.osm_merged.specs.Opening.{BeginsMerged}

-- the objects of what is saved are ahead, with the entries laid over them, and then both lists of
-- its counts
pub record HoldsAhead (es : List NetEntry) (o : Opening) (saved : Saved)
    (ahead : Option (List ChangeValue × List ℕ)) : Type 0 where
  pub head : head_of saved ≡ o.head
  pub filter : saved.filter ≡ o.filter
  pub after : List ℕ
  pub objects : ahead ≡ Some (laid_over es saved.mirror.objects, after)
  pub counts : both_at (most_counted o.head) after
      ≡ Some (saved.mirror.users, saved.mirror.changesets)

-- what an opened save text saves is ahead
abbrev pub SavedIsAhead : Type 0
SavedIsAhead = (told : Option (List ℕ)) (es : List NetEntry) (place : Place) (o : Opening)
    (a : Ahead NetEntry ChangeValue Key) (begun : BeginsMerged told es place o a) (saved : Saved)
    → SpellsSave begun.file saved
    → HoldsAhead es o saved (objects_ahead o.filter a (left_of place begun.file))

-- the file is the save text of something with those objects, after the entries, and those counts
pub record WasSaved (es : List NetEntry) (o : Opening) (file : List ℕ)
    (objects : List ChangeValue) (users changesets : List Counted) : Type 0 where
  pub saved : Saved
  pub spells : SpellsSave file saved
  pub head : head_of saved ≡ o.head
  pub filter : saved.filter ≡ o.filter
  pub objects_are : objects ≡ laid_over es saved.mirror.objects
  pub users_are : users ≡ saved.mirror.users
  pub changesets_are : changesets ≡ saved.mirror.changesets

-- an opened file that can be read to its end is a save text
abbrev pub AllIsSaved : Type 0
AllIsSaved = (told : Option (List ℕ)) (es : List NetEntry) (place : Place) (o : Opening)
    (a : Ahead NetEntry ChangeValue Key) (begun : BeginsMerged told es place o a)
    (objects : List ChangeValue) (after : List ℕ) (users changesets : List Counted)
    → objects_ahead o.filter a (left_of place begun.file) ≡ Some (objects, after)
    → both_at (most_counted o.head) after ≡ Some (users, changesets)
    → WasSaved es o begun.file objects users changesets

-- both lists of counts are next, and then the end
pub record AreNext (most : ℕ) (bytes : List ℕ) (users changesets : List Counted) : Type 0 where
  pub after : List ℕ
  pub users_are : counts_at (codes "users ") most bytes ≡ Some (users, after)
  pub last : List ℕ
  pub changesets_are : counts_at (codes "changesets ") most after ≡ Some (changesets, last)
  pub end : end_at last ≡ Some tt

-- both lists of counts that can be read are next
abbrev pub BothAreNext : Type 0
BothAreNext = (most : ℕ) (bytes : List ℕ) (users changesets : List Counted)
    → both_at most bytes ≡ Some (users, changesets) → AreNext most bytes users changesets

-- of values that are known to be ahead, the first is given and the others are ahead, or none is
abbrev pub IsFirstOf : {X : Type 0} → List X → List ℕ → List ℕ → Option (List X × List ℕ)
    → Option X → Type 0
IsFirstOf {X} xs rest left new (Some x) =
    (others : List X) × (xs ≡ x ∷ others) × (new ≡ Some (others, rest))
IsFirstOf xs rest left new None = (xs ≡ []) × (left ≡ rest) × (new ≡ Some ([], rest))

-- that is what was given
abbrev pub FirstIsGiven : Type 0 → Type 0
FirstIsGiven X = (xs : List X) (rest left : List ℕ) (old new : Option (List X × List ℕ))
    (given : Option X) → old ≡ Some (xs, rest) → IsGiven left old new given
    → IsFirstOf xs rest left new given
