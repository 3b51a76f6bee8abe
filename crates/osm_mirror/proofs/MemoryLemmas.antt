-- Which changes need memory, after some changes and before others.
use Rattle.std.proofs.Common.{List, ◌∷◌, ◌++◌, ap, sym, ◌∙◌, Option, arith, inl, inr, append_assoc}
use Rattle.osm_model.proofs.ContentLemmas.{over-append}
use Rattle.osm_model.specs.Change.{ChangeValue}
use Rattle.osm_model.specs.Content.{last_of, over_at}
use Rattle.osm_model.specs.Filter.{FilterValue, left_by}
use Rattle.osm_mirror.specs.Mirror.{Applies, MirrorValue, NeedsMemory, NeedsNewEntry, object_at}

pub NeedsMemory-before : (f : FilterValue) (m : MirrorValue) (xs ys : List ChangeValue) → NeedsMemory f m xs → NeedsMemory f m (xs ++ ys)
NeedsMemory-before f m xs ys needs = record {
  before = needs.before;
  change = needs.change;
  after = needs.after ++ ys;
  is = ap (λ (cs : List ChangeValue). cs ++ ys) needs.is ∙ append_assoc needs.before (needs.change ∷ needs.after) ys;
  entry = needs.entry;
}

pub NeedsMemory-after : (f : FilterValue) (a b : MirrorValue) (xs ys : List ChangeValue) → Applies f a xs b
    → NeedsMemory f b ys → NeedsMemory f a (xs ++ ys)
NeedsMemory-after f a b xs ys applied needs = record {
  before = xs ++ needs.before;
  change = needs.change;
  after = needs.after;
  is = ap (λ (cs : List ChangeValue). xs ++ cs) needs.is ∙ sym (append_assoc xs needs.before (needs.change ∷ needs.after));
  entry = by_entry needs.entry;
}
  where
    by_entry : NeedsNewEntry f b needs.before needs.change → NeedsNewEntry f a (xs ++ needs.before) needs.change
    by_entry (inl user) = inl (let p = applied.users needs.change.meta.uid in omega arith)
    by_entry (inr (inl changeset)) = inr (inl (let p = applied.changesets needs.change.meta.changeset in omega arith))
    by_entry (inr (inr object)) =
        inr (inr (
          object.0,
          over-append (left_by f) (object_at a.objects) xs needs.before needs.change.key
              ∙ (ap (λ (o : Option ChangeValue). over_at (left_by f) o (last_of needs.before needs.change.key))
              (sym (applied.objects needs.change.key)) ∙ object.1),
        ))
