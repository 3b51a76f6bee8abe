-- The first of the objects that are ahead.
use Rattle.std.proofs.Common.{◌≡◌, ℕ, List, [], ◌∷◌, Option, Some, None, refl, sym, ap, ◌∙◌}
use Rattle.std.specs.declared.cmp.Ordering.TheVariants.{Less, Equal, Greater}
use Rattle.osm_model.specs.Change.{ChangeValue}
use Rattle.osm_model.specs.Filter.{FilterValue}
use Rattle.osm_model.specs.KeyOrder.{key_cmp}
use Rattle.osm_model.specs.declared.kind.Key.{Key}
use Rattle.osm_net.specs.Laid.{laid_over, put_before}
use Rattle.osm_net.specs.Net.{NetEntry}
use Rattle.osm_net.proofs.LaidLemmas.{laid_over-above, laid_over-at, laid_over-below, laid_over-no_entry, laid_over-no_object}
use Rattle.osm_save.specs.Reading.{object_at}
use Rattle.osm_merged.specs.Ahead.{Ahead, held_before, objects_ahead}
use Rattle.osm_merged.specs.Steps.Turns.{GivesHeld, GivesLeft, IsFilled, Turns, rank_of, without_held}
use Rattle.osm_merged.specs.declared.objects.Turn.{Turn}
use Rattle.osm_merged.specs.declared.objects.Turn.TheVariants.{End, Gone, Object}
use Rattle.osm_merged.proofs.AheadLemmas.{first_given, none_ahead, none_given}

abbrev pub Objects : Type 0
Objects = Ahead NetEntry ChangeValue Key

module _ (f : FilterValue) (bytes : List ℕ) (a : Objects) where
  -- ---- what is held is given

  held_given : (b : Objects) (c : ChangeValue) → a.held ≡ Some c → b ≡ without_held a
      → ((xs : List ChangeValue) → laid_over a.changes (c ∷ xs) ≡ c ∷ laid_over a.changes xs)
      → Turns (objects_ahead f a bytes) (objects_ahead f b bytes) bytes (Object c)
  held_given b c held is step =
      rw is (first_given laid_over (λ (o : ChangeValue). o.key) (object_at f) a (without_held a) c bytes refl refl
      (λ xs none. rw held (step xs)))

  -- no entry is left
  pub turned_last : (b : Objects) (turn : Turn) → IsFilled a → a.changes ≡ [] → GivesHeld a b turn
      → Turns (objects_ahead f a bytes) (objects_ahead f b bytes) bytes turn
  turned_last b (Object c) filled none given = held_given b c given.0 given.1 (λ xs.
      rw none (laid_over-no_entry (c ∷ xs) ∙ ap (λ (l : List ChangeValue). c ∷ l) (sym (laid_over-no_entry xs))))
  turned_last b Gone filled none given = absurd given
  turned_last b End filled none given =
      let ended : objects_ahead f a bytes ≡ Some ([], bytes) = none_ahead laid_over (λ (o : ChangeValue). o.key) (object_at f) a bytes (filled given.0) given.0
      (rw none (laid_over-no_entry [])) in
      (ended, rw given.1 ended)

  -- the first entry's key is above that of what is held
  pub turned_above : (b : Objects) (turn : Turn) (e : NetEntry) (es : List NetEntry) → a.changes ≡ e ∷ es → rank_of e.0 a.held ≡ Greater
      → GivesHeld a b turn → Turns (objects_ahead f a bytes) (objects_ahead f b bytes) bytes turn
  turned_above b (Object c) e es is rank given =
      let greater : key_cmp e.0 c.key ≡ Greater = rw given.0 at rank in
      held_given b c given.0 given.1 (λ xs. rw is (laid_over-above e es c xs greater))
  turned_above b Gone e es is rank given = absurd given
  turned_above b End e es is rank given = absurd (let bad : Less ≡ Greater = rw given.0 at rank in cc)

  -- ---- what an entry leaves is given

  left_given : (b : Objects) (turn : Turn) (z : Option ChangeValue) → GivesLeft z turn → b.lines ≡ a.lines → b.last ≡ a.last
      → ((xs : List ChangeValue) → (a.lines ≡ 0 → xs ≡ []) → laid_over a.changes (held_before a.held xs)
      ≡ put_before z (laid_over b.changes (held_before b.held xs)))
      → Turns (objects_ahead f a bytes) (objects_ahead f b bytes) bytes turn
  left_given b turn None given lines last step =
      rw given (none_given laid_over (λ (o : ChangeValue). o.key) (object_at f) a b bytes lines last step)
  left_given b turn (Some c) given lines last step =
      rw given (first_given laid_over (λ (o : ChangeValue). o.key) (object_at f) a b c bytes lines last step)

  -- in the place of what is held
  pub turned_at : (b : Objects) (turn : Turn) (e : NetEntry) (es : List NetEntry) → a.changes ≡ e ∷ es → rank_of e.0 a.held ≡ Equal
      → GivesLeft e.1 turn → b ≡ record { changes = es; lines = a.lines; last = a.last; held = None }
      → Turns (objects_ahead f a bytes) (objects_ahead f b bytes) bytes turn
  turned_at b turn e es is rank given new = by_held a.held refl
    where
      by_held : (h : Option ChangeValue) → a.held ≡ h → Turns (objects_ahead f a bytes) (objects_ahead f b bytes) bytes turn
      by_held None held = absurd (let bad : Less ≡ Equal = rw held at rank in cc)
      by_held (Some c) held =
          let equal : key_cmp e.0 c.key ≡ Equal = rw held at rank in
          left_given b turn e.1 given (rw new refl) (rw new refl) (λ xs none. rw (new, is, held) (laid_over-at e es c xs equal))

  -- before what is held, if anything
  pub turned_below : (b : Objects) (turn : Turn) (e : NetEntry) (es : List NetEntry) → IsFilled a → a.changes ≡ e ∷ es → rank_of e.0 a.held ≡ Less
      → GivesLeft e.1 turn → b ≡ record { changes = es; lines = a.lines; last = a.last; held = a.held }
      → Turns (objects_ahead f a bytes) (objects_ahead f b bytes) bytes turn
  turned_below b turn e es filled is rank given new = by_held a.held refl
    where
      by_held : (h : Option ChangeValue) → a.held ≡ h → Turns (objects_ahead f a bytes) (objects_ahead f b bytes) bytes turn
      by_held None held = left_given b turn e.1 given (rw new refl) (rw new refl) (λ xs none.
          rw (new, is, held, none (filled held)) (laid_over-no_object e es))
      by_held (Some c) held =
          let less : key_cmp e.0 c.key ≡ Less = rw held at rank in
          left_given b turn e.1 given (rw new refl) (rw new refl) (λ xs none. rw (new, is, held) (laid_over-below e es c xs less))
