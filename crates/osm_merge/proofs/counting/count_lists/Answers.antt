use Rattle.std.proofs.Common.{◌≡◌, ℕ, List, Some, None, Option, refl, sym, ap, ◌∙◌, arith}
use Rattle.std.proofs.lemmas.Option.{same_Some}
use Rattle.std.specs.Prelude.{codes}
use Rattle.osm_blocks.specs.Calls.{reads_ahead}
use Rattle.osm_blocks.specs.Places.{HasFile, left_of}
use Rattle.osm_model.specs.Change.{ChangeValue}
use Rattle.osm_net.specs.Laid.{laid_on}
use Rattle.osm_net.specs.Lists.{net_in}
use Rattle.osm_save.specs.Head.{most_counted}
use Rattle.osm_save.specs.Reading.{items_at, mirror_at, numbered_at, object_at, objects_at}
use Rattle.osm_save.specs.Save.{most_objects, saved_with}
use Rattle.osm_save.specs.declared.save.Saved.{Saved}
use Rattle.osm_merge.specs.Mirrors.{both_at, totals_of}
use Rattle.osm_merge.specs.Reading.{LineStops}
use Rattle.osm_merge.proofs.CallLemmas.{advances_fails, advances_first, advances_then, drops_nothing}
use Rattle.osm_merge.proofs.CheckLemmas.{after_objects, mirror_none, mirror_read}
use Rattle.osm_merge.proofs.FrameLemmas.{has_still}
use Rattle.osm_merge.proofs.LineLemmas.{refuses_all}
use Rattle.osm_merge.proofs.ListLemmas.{objects_none, objects_read}
use Rattle.osm_merge.proofs.counting.count_lists.Goals as goal

pub returns-in-Err-clause-refused : goal.returns-in-Err-clause-refused
returns-in-Err-clause-refused g c = λ file has.
    let o = c.args.opening.now in
    let bytes = left_of c.args.source.now file in
    let most = most_objects o.version o.head.number in
    refuses_all file c.in-Err.fault (numbered_at (codes "objects ") most bytes) (mirror_at o.version o.head o.filter bytes)
    (rw c.objects_limit-most.ensures at (c.in-Err.ensures.read file has (omega arith)))
    (λ none. mirror_none o.version o.head o.filter bytes (objects_none o.filter most bytes none))

pub returns-in-Err-count_objects-clause-refused : goal.returns-in-Err-count_objects-clause-refused
returns-in-Err-count_objects-clause-refused g c = λ file has.
    let o = c.args.opening.now in
    let bytes = left_of c.args.source.now file in
    let after = left_of c.numbered.new.self file in
    let most = most_objects o.version o.head.number in
    let has2 = has_still (g.S.Store.state c.args.store.now)
    (g.S.Store.state c.numbered.new.store) c.in-Ok.many c.args.name.now file c.in-Ok.ensures.frame has in
    let head : numbered_at (codes "objects ") most bytes ≡ Some (c.in-Ok.many, after) =
    rw c.objects_limit-most.ensures at (c.in-Ok.ensures.read file has (omega arith)) in
    refuses_all file c.in-Err-count_objects.fault (items_at (λ (d : ChangeValue). d.key) (object_at o.filter) c.in-Ok.many None after)
    (mirror_at o.version o.head o.filter bytes)
    (c.in-Err-count_objects.ensures.refused file has2 o.filter)
    (λ none. mirror_none o.version o.head o.filter bytes (objects_read o.filter most bytes after c.in-Ok.many head ∙ none))

pub returns-in-Ok-merge_both-clause-counted : goal.returns-in-Ok-merge_both-clause-counted
returns-in-Ok-merge_both-clause-counted g c = λ file has v e. by_objects file has v e
    (objects_at c.args.opening.now.filter (most_objects c.args.opening.now.version c.args.opening.now.head.number) (left_of c.args.source.now file)) refl
  where
    by_objects : (file : List ℕ) (has : HasFile (g.S.Store.state c.args.store.now) c.args.name.now file) (v : Saved)
        → mirror_at c.args.opening.now.version c.args.opening.now.head c.args.opening.now.filter (left_of c.args.source.now file) ≡ Some v
        → (r : Option (List ChangeValue × List ℕ))
        → objects_at c.args.opening.now.filter (most_objects c.args.opening.now.version c.args.opening.now.head.number) (left_of c.args.source.now file) ≡ r
        → (record { objects = c.in-Ok-count_objects.objects; users = c.in-Ok-merge_both.users; changesets = c.in-Ok-merge_both.changesets })
        ≡ totals_of (laid_on (net_in c.args.lists.now) v.mirror)
    by_objects file has v e None none = absurd (let o = c.args.opening.now in
        let bad : None ≡ Some v = sym (mirror_none o.version o.head o.filter (left_of c.args.source.now file) none) ∙ e in cc)
    by_objects file has v e (Some r) read =
        let o = c.args.opening.now in
        let a = g.S.Store.state c.args.store.now in
        let b = g.S.Store.state c.numbered.new.store in
        let d = g.S.Store.state c.count_objects.new.store in
        let bytes = left_of c.args.source.now file in
        let after = left_of c.numbered.new.self file in
        let most = most_objects o.version o.head.number in
        let has_b = has_still a b c.in-Ok.many c.args.name.now file c.in-Ok.ensures.frame has in
        let has_d = has_still b d c.in-Ok-count_objects.objects c.args.name.now file c.in-Ok-count_objects.ensures.frame has_b in
        let head : numbered_at (codes "objects ") most bytes ≡ Some (c.in-Ok.many, after) =
        rw c.objects_limit-most.ensures at (c.in-Ok.ensures.read file has (omega arith)) in
        let items : items_at (λ (x : ChangeValue). x.key) (object_at o.filter) c.in-Ok.many None after ≡ Some r =
        sym (objects_read o.filter most bytes after c.in-Ok.many head) ∙ read in
        let q = rw c.as_slice-entries.ensures.value at (c.in-Ok-count_objects.ensures.counted file has_b o.filter r.0 r.1 items) in
        let m = c.in-Ok-merge_both.ensures.merges in
        let both : both_at (most_counted o.head) r.1 ≡ Some m.value = ap (both_at (most_counted o.head)) q.1 ∙ m.read file has_d in
        let whole = mirror_read o.version o.head o.filter bytes r.1 r.0 m.value read both in
        let same = same_Some (saved_with o.head o.filter (record { objects = r.0; users = m.value.0; changesets = m.value.1 })) v (sym whole ∙ e) in
        rw (← same, ← q.0, ap (λ (x : ℕ × ℕ). x.0) m.given_is, ap (λ (x : ℕ × ℕ). x.1) m.given_is) refl

pub returns-clause-refused : goal.returns-clause-refused
returns-clause-refused g c = λ file has. by_objects file has
    (objects_at c.args.opening.now.filter (most_objects c.args.opening.now.version c.args.opening.now.head.number) (left_of c.args.source.now file)) refl
  where
    by_objects : (file : List ℕ) (has : HasFile (g.S.Store.state c.args.store.now) c.args.name.now file)
        → (r : Option (List ChangeValue × List ℕ))
        → objects_at c.args.opening.now.filter (most_objects c.args.opening.now.version c.args.opening.now.head.number) (left_of c.args.source.now file) ≡ r
        → LineStops file c.in-Err-merge_both.fault
        (mirror_at c.args.opening.now.version c.args.opening.now.head c.args.opening.now.filter (left_of c.args.source.now file))
    by_objects file has r read =
        let o = c.args.opening.now in
        let a = g.S.Store.state c.args.store.now in
        let b = g.S.Store.state c.numbered.new.store in
        let d = g.S.Store.state c.count_objects.new.store in
        let bytes = left_of c.args.source.now file in
        let after = left_of c.numbered.new.self file in
        let most = most_objects o.version o.head.number in
        let has_b = has_still a b c.in-Ok.many c.args.name.now file c.in-Ok.ensures.frame has in
        let has_d = has_still b d c.in-Ok-count_objects.objects c.args.name.now file c.in-Ok-count_objects.ensures.frame has_b in
        let head : numbered_at (codes "objects ") most bytes ≡ Some (c.in-Ok.many, after) =
        rw c.objects_limit-most.ensures at (c.in-Ok.ensures.read file has (omega arith)) in
        refuses_all file c.in-Err-merge_both.fault (both_at (most_counted o.head) (left_of c.count_objects.new.source file))
        (mirror_at o.version o.head o.filter bytes)
        (c.in-Err-merge_both.ensures.refused file has_d)
        (λ none. after_objects o.version o.head o.filter bytes (left_of c.count_objects.new.source file) r read
        (λ p is. (c.in-Ok-count_objects.ensures.counted file has_b o.filter p.0 p.1
        (sym (objects_read o.filter most bytes after c.in-Ok.many head) ∙ is)).1) none)

pub returns-in-Err-clause-calls : goal.returns-in-Err-clause-calls
returns-in-Err-clause-calls g c = λ file has.
    advances_first (reads_ahead c.args.source.now file) (λ x. 0) (g.S.Store.state c.args.store.now) (g.S.Store.state c.numbered.new.store) c.in-Err.fault
    (c.in-Err.ensures.calls file has) (omega arith)

pub returns-in-Err-count_objects-clause-calls : goal.returns-in-Err-count_objects-clause-calls
returns-in-Err-count_objects-clause-calls g c = λ file has.
    let a = g.S.Store.state c.args.store.now in
    let b = g.S.Store.state c.numbered.new.store in
    let has_b = has_still a b c.in-Ok.many c.args.name.now file c.in-Ok.ensures.frame has in
    advances_fails (reads_ahead c.args.source.now file) (λ x. 0) a b (g.S.Store.state c.count_objects.new.store) c.in-Ok.many c.in-Err-count_objects.fault
    (c.in-Ok.ensures.calls file has) (c.in-Err-count_objects.ensures.calls file has_b) (omega arith)

pub returns-in-Ok-merge_both-clause-calls : goal.returns-in-Ok-merge_both-clause-calls
returns-in-Ok-merge_both-clause-calls g c = λ file has.
    let a = g.S.Store.state c.args.store.now in
    let b = g.S.Store.state c.numbered.new.store in
    let d = g.S.Store.state c.count_objects.new.store in
    let e = g.S.Store.state c.merge_both.new.store in
    let w = c.dropping-writer.result in
    let place = c.count_objects.new.source in
    let has_b = has_still a b c.in-Ok.many c.args.name.now file c.in-Ok.ensures.frame has in
    let has_d = has_still b d c.in-Ok-count_objects.objects c.args.name.now file c.in-Ok-count_objects.ensures.frame has_b in
    let none = drops_nothing w place file c.dropping-writer.ensures in
    let first = advances_then {V = Unit {0}} (reads_ahead c.args.source.now file)
    (λ x. reads_ahead place file) a b d c.in-Ok.many c.in-Ok-count_objects.objects tt
    (c.in-Ok.ensures.calls file has) (c.in-Ok-count_objects.ensures.calls file has_b) (omega arith) in
    advances_then (reads_ahead c.args.source.now file) (λ x. 0) a d e tt (c.in-Ok-merge_both.users, c.in-Ok-merge_both.changesets)
    (record { objects = c.in-Ok-count_objects.objects; users = c.in-Ok-merge_both.users; changesets = c.in-Ok-merge_both.changesets })
    first (c.in-Ok-merge_both.ensures.calls file has_d) (omega (arith, none.0, none.1))

pub returns-clause-calls : goal.returns-clause-calls
returns-clause-calls g c = λ file has.
    let a = g.S.Store.state c.args.store.now in
    let b = g.S.Store.state c.numbered.new.store in
    let d = g.S.Store.state c.count_objects.new.store in
    let e = g.S.Store.state c.merge_both.new.store in
    let w = c.dropping-writer.result in
    let place = c.count_objects.new.source in
    let has_b = has_still a b c.in-Ok.many c.args.name.now file c.in-Ok.ensures.frame has in
    let has_d = has_still b d c.in-Ok-count_objects.objects c.args.name.now file c.in-Ok-count_objects.ensures.frame has_b in
    let none = drops_nothing w place file c.dropping-writer.ensures in
    let first = advances_then {V = Unit {0}} (reads_ahead c.args.source.now file)
    (λ x. reads_ahead place file) a b d c.in-Ok.many c.in-Ok-count_objects.objects tt
    (c.in-Ok.ensures.calls file has) (c.in-Ok-count_objects.ensures.calls file has_b) (omega arith) in
    advances_fails (reads_ahead c.args.source.now file) (λ x. 0) a d e tt c.in-Err-merge_both.fault
    first (c.in-Err-merge_both.ensures.calls file has_d) (omega (arith, none.0, none.1))
