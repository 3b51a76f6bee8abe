-- A mirror with net changes laid over it: its sorted lists, merged with theirs.
use Rattle.std.specs.Prelude.{◌+◌, List, [], ◌∷◌, Option, Some, None}
use Rattle.std.specs.Ordering.{match_ordering, nat_cmp}
use Rattle.osm_model.specs.Change.{ChangeValue}
use Rattle.osm_model.specs.KeyOrder.{key_cmp}
use Rattle.osm_mirror.specs.Mirror.{Counted, MirrorValue}
use Rattle.osm_net.specs.Net.{NetEntry, NetValue}

-- what is left of an object, if anything, before the objects after it
abbrev pub put_before : Option ChangeValue → List ChangeValue → List ChangeValue
put_before None objects = objects
put_before (Some c) objects = c ∷ objects

-- the objects after one entry and those after it: what the entry leaves comes before the first
-- object with a greater key, and in the place of an object with its own key; objects below it stay.
-- `later` lays the entries after it over the objects that follow
unfoldable pub laid_one :
    NetEntry → (List ChangeValue → List ChangeValue) → List ChangeValue → List ChangeValue
laid_one e later [] = put_before e.1 (later [])
laid_one e later (c ∷ cs) = match_ordering (key_cmp e.0 c.key)
    (put_before e.1 (later (c ∷ cs)))
    (put_before e.1 (later cs))
    (c ∷ laid_one e later cs)

-- the objects after net changes
unfoldable pub laid_over : List NetEntry → List ChangeValue → List ChangeValue
laid_over [] objects = objects
laid_over (e ∷ es) objects = laid_one e (laid_over es) objects

-- the counts after one increment and those after it: a count of its number grows by it, or else it
-- comes before the first count with a greater number; counts below it stay. `later` adds the
-- increments after it to the counts that follow
unfoldable pub added_one :
    Counted → (List Counted → List Counted) → List Counted → List Counted
added_one m later [] = m ∷ later []
added_one m later (c ∷ cs) = match_ordering (nat_cmp m.0 c.0)
    (m ∷ later (c ∷ cs))
    ((c.0, m.1 + c.1) ∷ later cs)
    (c ∷ added_one m later cs)

-- the counts after increments
unfoldable pub added : List Counted → List Counted → List Counted
added [] counts = counts
added (m ∷ ms) counts = added_one m (added ms) counts

-- the mirror after net changes
abbrev pub laid_on : NetValue → MirrorValue → MirrorValue
laid_on n m = record {
  objects = laid_over n.objects m.objects;
  users = added n.users m.users;
  changesets = added n.changesets m.changesets;
}
