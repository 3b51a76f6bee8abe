-- A restart from the text of a follower.
use Rattle.std.proofs.Common.{◌≡◌, ◌≢◌, ◌⊎◌, ℕ, List, refl, ap, sym, ◌∙◌, inl, inr, Option, None, Some}
use Rattle.std.specs.Prelude.{Result, Ok, Err}
use Rattle.osm_save.specs.Save.{SpellsSave}
use Rattle.osm_save.specs.declared.save.Saved.{Saved}
use Rattle.osm_follow.specs.Follower.{FollowerValue}
use Rattle.osm_follow.specs.Restart.{Restarts, follower_of, saved_of}
use Rattle.osm_follow.specs.declared.restart.RestartError.{RestartError}
use Rattle.osm_follow.specs.declared.restart.RestartError.TheVariants.{BadSave, OtherFilter, WantOfMemory}

-- a text saves one thing at most
abbrev pub OneSave : Type 0
OneSave = (text : List ℕ) (a b : Saved) → SpellsSave text a → SpellsSave text b → a ≡ b

pub restarts_as_saved : OneSave → (saved f g : FollowerValue) (text : List ℕ) (answer : Result (Unit {0}) RestartError)
    → SpellsSave text (saved_of saved) → saved.filter ≡ f.filter → Restarts f (Some text) answer g
    → ((answer ≡ Ok tt) × (g ≡ follower_of (saved_of saved))) ⊎ (answer ≡ Err WantOfMemory)
restarts_as_saved one saved f g text (Ok done) spelled same r = inl (refl, r.3 ∙ ap follower_of (one text r.0 (saved_of saved) r.1 spelled))
restarts_as_saved one saved f g text (Err (BadSave line)) spelled same r = absurd (r.0 (saved_of saved) spelled)
restarts_as_saved one saved f g text (Err OtherFilter) spelled same r =
    absurd (r.2 (ap (λ (v : Saved). v.filter) (one text r.0 (saved_of saved) r.1 spelled) ∙ same))
restarts_as_saved one saved f g text (Err WantOfMemory) spelled same r = inr refl

pub other_is_refused : OneSave → (saved f g : FollowerValue) (text : List ℕ) (answer : Result (Unit {0}) RestartError)
    → SpellsSave text (saved_of saved) → saved.filter ≢ f.filter → Restarts f (Some text) answer g
    → (answer ≡ Err OtherFilter) ⊎ (answer ≡ Err WantOfMemory)
other_is_refused one saved f g text (Ok done) spelled apart r =
    absurd (apart (sym (ap (λ (v : Saved). v.filter) (one text r.0 (saved_of saved) r.1 spelled)) ∙ r.2))
other_is_refused one saved f g text (Err (BadSave line)) spelled apart r = absurd (r.0 (saved_of saved) spelled)
other_is_refused one saved f g text (Err OtherFilter) spelled apart r = inl refl
other_is_refused one saved f g text (Err WantOfMemory) spelled apart r = inr refl

pub restarts_under_it : (f g : FollowerValue) (text : Option (List ℕ)) (answer : Result (Unit {0}) RestartError)
    → Restarts f text answer g → g.filter ≡ f.filter
restarts_under_it f g None (Ok done) r = ap (λ (x : FollowerValue). x.filter) r
restarts_under_it f g None (Err error) r = absurd r
restarts_under_it f g (Some text) (Ok done) r = ap (λ (x : FollowerValue). x.filter) r.3 ∙ r.2
restarts_under_it f g (Some text) (Err (BadSave line)) r = r.1.same_filter
restarts_under_it f g (Some text) (Err OtherFilter) r = r.3.same_filter
restarts_under_it f g (Some text) (Err WantOfMemory) r = r.same_filter
