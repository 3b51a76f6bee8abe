-- What a pass over a data file makes of its objects.
use Rattle.std.proofs.Common.{◌≡◌, ℕ, ◌+◌, List, [], ◌∷◌, ◌++◌, map, sym, ap, subst, ◌∙◌, refl, append_assoc, arith}
use Rattle.std.specs.Prelude.{Bool, true, false, cond, ◌&&◌, max, min}
use Rattle.std.proofs.lemmas.List.{append-nil}
use Rattle.osm_model.specs.Change.{ChangeValue}
use Rattle.osm_model.specs.Filter.{FilterValue, keeps, keeps_tags}
use Rattle.osm_model.specs.Flat.{flat_node}
use Rattle.osm_model.specs.declared.flat.FlatNode.{FlatNode}
use Rattle.osm_model.specs.declared.lists.Tag.{Tag}
use Rattle.osm_opl.specs.Written.{line_text}
use Rattle.osm_save.specs.Lines.{ended}
use Rattle.osm_data.specs.Counting.{IsCountOf, most_counted}
use Rattle.osm_follow.specs.Begin.{kept_objects}
use Rattle.osm_beginning.specs.Beginning.{newest_time}
use Rattle.osm_beginning.specs.Steps.Sinks.{Counts, CountsOn, Lays}
use Rattle.osm_beginning.specs.declared.sinks.KeptCount.{KeptCount}
use Rattle.osm_beginning.specs.declared.sinks.KeptLines.{KeptLines}
use Rattle.osm_beginning.proofs.PassLemmas.{count_more, kept_append, lines_append, newest_append}

-- ---- one object

pub node_keeps : (f : FilterValue) (n : FlatNode) (tags : List Tag) → keeps f (flat_node n tags) ≡ (f.nodes && keeps_tags f.keys tags)
unfolding keeps
node_keeps f n tags = refl

kept_one : (f : FilterValue) (c : ChangeValue) → keeps f c ≡ true → kept_objects f (c ∷ []) ≡ c ∷ []
kept_one f c is_kept = ap (λ (b : Bool). cond b (c ∷ []) []) is_kept

kept_none : (f : FilterValue) (c : ChangeValue) → keeps f c ≡ false → kept_objects f (c ∷ []) ≡ []
kept_none f c isnt = ap (λ (b : Bool). cond b (c ∷ []) []) isnt

pub counted_one : (f : FilterValue) (c : ChangeValue) (count total : ℕ) → keeps f c ≡ true → total ≡ min (count + 1) most_counted
    → CountsOn f count (c ∷ []) total
counted_one f c count total is_kept sum = λ done says. count_more f count total done (c ∷ []) says (rw (kept_one f c is_kept) sum)

pub counted_none : (f : FilterValue) (c : ChangeValue) (count : ℕ) → keeps f c ≡ false → CountsOn f count (c ∷ []) count
counted_none f c count isnt = λ done says. subst (λ (l : List ChangeValue). IsCountOf count l)
    (sym (kept_append f done (c ∷ []) ∙ ap (λ (l : List ChangeValue). kept_objects f done ++ l) (kept_none f c isnt) ∙ append-nil (kept_objects f done))) says

pub laid_one : (f : FilterValue) (c : ChangeValue) (old mid new : List ℕ) → keeps f c ≡ true → mid ≡ old ++ line_text c → new ≡ mid ++ 10 ∷ []
    → new ≡ old ++ ended (map line_text (kept_objects f (c ∷ [])))
laid_one f c old mid new is_kept line feed = feed ∙ ap (λ (l : List ℕ). l ++ 10 ∷ []) line ∙ append_assoc old (line_text c) (10 ∷ [])
    ∙ ap (λ (l : List ChangeValue). old ++ ended (map line_text l)) (sym (kept_one f c is_kept))

pub laid_none : (f : FilterValue) (c : ChangeValue) (old : List ℕ) → keeps f c ≡ false → old ≡ old ++ ended (map line_text (kept_objects f (c ∷ [])))
laid_none f c old isnt = sym (ap (λ (l : List ChangeValue). old ++ ended (map line_text l)) (kept_none f c isnt) ∙ append-nil old)

pub newest_one : (c : ChangeValue) (old new : ℕ) → new ≡ max old c.meta.time → new ≡ max old (newest_time (c ∷ []))
newest_one c old new is = omega (arith, is)

-- ---- more objects

counts_both : (f : FilterValue) (k l m : ℕ) (xs ys : List ChangeValue) → CountsOn f k xs l → CountsOn f l ys m → CountsOn f k (xs ++ ys) m
counts_both f k l m xs ys p q = λ done says. subst (λ (o : List ChangeValue). IsCountOf m (kept_objects f o)) (append_assoc done xs ys)
    (q (done ++ xs) (p done says))

pub counts_more : (a b c : KeptCount) (xs ys : List ChangeValue) → Counts a xs b → Counts b ys c → Counts a (xs ++ ys) c
counts_more a b c xs ys p q = record {
  filter = q.filter ∙ p.filter;
  count = counts_both a.filter.now a.count b.count c.count xs ys p.count
      (subst (λ (f : FilterValue). CountsOn f b.count ys c.count) p.filter q.count);
}

pub lays_more : (a b c : KeptLines) (xs ys : List ChangeValue) → Lays a xs b → Lays b ys c → Lays a (xs ++ ys) c
lays_more a b c xs ys p q = record {
  filter = q.filter ∙ p.filter;
  count = counts_both a.filter.now a.count b.count c.count xs ys p.count
      (subst (λ (f : FilterValue). CountsOn f b.count ys c.count) p.filter q.count);
  lines = q.lines ∙ ap (λ (f : FilterValue). b.lines.items ++ ended (map line_text (kept_objects f ys))) p.filter
      ∙ ap (λ (l : List ℕ). l ++ ended (map line_text (kept_objects a.filter.now ys))) p.lines
      ∙ append_assoc a.lines.items (ended (map line_text (kept_objects a.filter.now xs))) (ended (map line_text (kept_objects a.filter.now ys)))
      ∙ ap (λ (l : List ℕ). a.lines.items ++ l) (sym (lines_append a.filter.now xs ys));
  newest = (let all = newest_append xs ys in let first = p.newest in let second = q.newest in omega (arith, all, first, second));
}
