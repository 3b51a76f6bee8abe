use Rattle.std.proofs.Common.{◌≡◌, ◌∙◌, ℕ, List, inl, rules, subst, sym}
use Rattle.std.specs.Prelude.{IsTrue, Some, false, true}
use Rattle.std.proofs.lemmas.Result.{on_err_weaker}
use Rattle.osm_store.specs.Files.{Files}
use Rattle.osm_store.specs.Frames.{IsKnown}
use Rattle.osm_kept.specs.Names.{journal_name_of}
use Rattle.osm_beginning.specs.Keeping.{HasNoJournal}
use Rattle.osm_beginning.specs.Steps.Emptying.{IsAbove, IsOwn, LeavesOrEmpties}
use Rattle.osm_beginning.proofs.KeepingLemmas.{
  above_ends,
  all_left,
  drops_none,
  drops_of,
  last_left,
  left_of,
  refused_above,
  refused_plain,
  stops_read,
}
use Rattle.osm_beginning.proofs.kept.begin_beside.Goals as goal

-- ---- a journal that stays

pub returns-in-Ok-Never-clause-leaves : goal.returns-in-Ok-Never-clause-leaves
returns-in-Ok-Never-clause-leaves g c =
    let a = g.S.Store.state c.args.store.now in
    let b = g.S.Store.state c.read_due.new.store in
    let d = g.S.Store.state c.begin_in.new.store in
    let w = c.args.wanted.now in
    refused_plain w a d c.begin_in.result
    (stops_read w a b (subst IsTrue (sym c.in-Ok-Never.ensures.frame.makes.known)) c.in-Ok-Never.ensures.frame.files c.begin_in.result
    c.begin_in.ensures.stops)
    (on_err_weaker c.begin_in.result (λ same sure. inl (all_left w.save.now a.files d.files (same ∙ c.in-Ok-Never.ensures.frame.files)))
    c.begin_in.ensures.saves.frame.files)

pub returns-in-Ok-Never-clause-dropped : goal.returns-in-Ok-Never-clause-dropped
returns-in-Ok-Never-clause-dropped g c = λ yes.
    let a = g.S.Store.state c.args.store.now in
    let b = g.S.Store.state c.read_due.new.store in
    let d = g.S.Store.state c.begin_in.new.store in
    drops_none c.args.wanted.now a b d _ c.begin_in.result c.in-Ok-Never.ensures.frame.files c.requires.none c.begin_in.ensures.saves.replaced
    c.begin_in.ensures.saves.frame.files (subst IsTrue (sym c.in-Ok-Never.ensures.frame.makes.known) yes)

-- ---- one that is emptied first

pub returns-in-Ok-Before-clause-leaves : goal.returns-in-Ok-Before-clause-leaves
returns-in-Ok-Before-clause-leaves g c =
    let a = g.S.Store.state c.args.store.now in
    let b = g.S.Store.state c.read_due.new.store in
    let d = g.S.Store.state c.empty_first.new.store in
    let w = c.args.wanted.now in
    refused_plain w a d c.empty_first.result
    (rw (c.in-Ok-Before.ensures.frame.makes.known, c.in-Ok-Before.ensures.frame.files) at c.empty_first.ensures.stops)
    (on_err_weaker c.empty_first.result
    (λ leaves yes. (let known : IsKnown b = subst IsTrue (sym c.in-Ok-Before.ensures.frame.makes.known) yes in
    let named : c.as_str-journal.result.now ≡ journal_name_of w.save.now = search rules in
    let none : HasNoJournal (a.files w.save.now) (a.files c.as_str-journal.result.now) =
    ((rw c.in-Ok-Before.field-0-is at c.in-Ok-Before.ensures.due) yes).0 in
    inl (left_of w.save.now a.files d.files
    (subst (λ (name : List ℕ). HasNoJournal (a.files w.save.now) (a.files name)) named none)
    (subst (λ (f : Files). LeavesOrEmpties w.save.now f d.files) c.in-Ok-Before.ensures.frame.files (leaves known))))) c.empty_first.ensures.leaves)

pub returns-in-Ok-Before-clause-stops : goal.returns-in-Ok-Before-clause-stops
returns-in-Ok-Before-clause-stops g c =
    let a = g.S.Store.state c.args.store.now in
    (rw (c.in-Ok-Before.ensures.frame.makes.known, c.in-Ok-Before.ensures.frame.files) at c.empty_first.ensures.stops)
    (a.files (journal_name_of c.args.wanted.now.save.now))

pub returns-in-Ok-Before-clause-dropped : goal.returns-in-Ok-Before-clause-dropped
returns-in-Ok-Before-clause-dropped g c = λ yes.
    let a = g.S.Store.state c.args.store.now in
    let b = g.S.Store.state c.read_due.new.store in
    let d = g.S.Store.state c.empty_first.new.store in
    let known : IsKnown b = subst IsTrue (sym c.in-Ok-Before.ensures.frame.makes.known) yes in
    let named : c.as_str-journal.result.now ≡ journal_name_of c.args.wanted.now.save.now = search rules in
    drops_of c.as_str-journal.result.now c.args.wanted.now.save.now c.in-Ok-Before.last a.files b.files d.files _ named c.in-Ok-Before.ensures.frame.files
    ((rw c.in-Ok-Before.field-0-is at c.in-Ok-Before.ensures.due) yes).1 (c.empty_first.ensures.dropped known)

-- ---- one of the save of before, which begins so too

pub returns-in-Ok-After-clause-leaves : goal.returns-in-Ok-After-clause-leaves
returns-in-Ok-After-clause-leaves g c =
    let a = g.S.Store.state c.args.store.now in
    let b = g.S.Store.state c.read_due.new.store in
    let d = g.S.Store.state c.empty_last.new.store in
    let w = c.args.wanted.now in
    refused_plain w a d c.empty_last.result
    (λ told. (rw (c.in-Ok-After.ensures.frame.makes.known, c.in-Ok-After.ensures.frame.files) at c.empty_last.ensures.stops) told
    (λ yes other. absurd (let bad : true ≡ false = other in cc)))
    (on_err_weaker c.empty_last.result
    (λ leaves yes. (let known : IsKnown b = subst IsTrue (sym c.in-Ok-After.ensures.frame.makes.known) yes in
    let named : c.as_str-journal.result.now ≡ journal_name_of w.save.now = search rules in
    let own : IsOwn w.head w.filter.now (a.files w.save.now) (a.files c.as_str-journal.result.now) =
    ((rw c.in-Ok-After.field-0-is at c.in-Ok-After.ensures.due) yes).0 in
    last_left w c.as_str-journal.result.now a b d c.in-Ok-After.ensures.frame.files named own (leaves known))) c.empty_last.ensures.leaves)

pub returns-in-Ok-After-clause-stops : goal.returns-in-Ok-After-clause-stops
returns-in-Ok-After-clause-stops g c =
    let a = g.S.Store.state c.args.store.now in
    (rw (c.in-Ok-After.ensures.frame.makes.known, c.in-Ok-After.ensures.frame.files) at c.empty_last.ensures.stops)
    (a.files (journal_name_of c.args.wanted.now.save.now)) (λ yes other. absurd (let bad : true ≡ false = other in cc))

pub returns-in-Ok-After-clause-dropped : goal.returns-in-Ok-After-clause-dropped
returns-in-Ok-After-clause-dropped g c = λ yes.
    let a = g.S.Store.state c.args.store.now in
    let b = g.S.Store.state c.read_due.new.store in
    let d = g.S.Store.state c.empty_last.new.store in
    let known : IsKnown b = subst IsTrue (sym c.in-Ok-After.ensures.frame.makes.known) yes in
    let named : c.as_str-journal.result.now ≡ journal_name_of c.args.wanted.now.save.now = search rules in
    drops_of c.as_str-journal.result.now c.args.wanted.now.save.now (Some c.in-Ok-After.last) a.files b.files d.files _ named c.in-Ok-After.ensures.frame.files
    ((rw c.in-Ok-After.field-0-is at c.in-Ok-After.ensures.due) yes).1 (c.empty_last.ensures.dropped known)

-- ---- one of a save that begins otherwise, which ends above

pub returns-in-Ok-Above-clause-leaves : goal.returns-in-Ok-Above-clause-leaves
returns-in-Ok-Above-clause-leaves g c =
    let a = g.S.Store.state c.args.store.now in
    let w = c.args.wanted.now in
    let named : c.as_str-journal.result.now ≡ journal_name_of w.save.now = search rules in
    refused_above w a (g.S.Store.state c.read_due.new.store) (g.S.Store.state c.empty_last-in-Ok-Above.new.store)
    (subst IsTrue (sym c.in-Ok-Above.ensures.frame.makes.known)) c.in-Ok-Above.ensures.frame.files c.in-Ok-Above.last
    (λ yes. subst (λ (name : List ℕ). IsAbove w.head w.filter.now (a.files name) c.in-Ok-Above.last) named
    ((rw c.in-Ok-Above.field-0-is at c.in-Ok-Above.ensures.due) yes)) c.empty_last-in-Ok-Above.result c.empty_last-in-Ok-Above.ensures.leaves

pub returns-in-Ok-Above-clause-puts : goal.returns-in-Ok-Above-clause-puts
returns-in-Ok-Above-clause-puts g c = record {
  put = search rules;
  near = search rules;
  frame = search rules;
  spends = search rules;
  calls = search rules;
}

pub returns-in-Ok-Above-clause-dropped : goal.returns-in-Ok-Above-clause-dropped
returns-in-Ok-Above-clause-dropped g c = λ yes.
    let a = g.S.Store.state c.args.store.now in
    let b = g.S.Store.state c.read_due.new.store in
    let d = g.S.Store.state c.empty_last-in-Ok-Above.new.store in
    let known : IsKnown b = subst IsTrue (sym c.in-Ok-Above.ensures.frame.makes.known) yes in
    let named : c.as_str-journal.result.now ≡ journal_name_of c.args.wanted.now.save.now = search rules in
    drops_of c.as_str-journal.result.now c.args.wanted.now.save.now (Some c.in-Ok-Above.last) a.files b.files d.files _ named c.in-Ok-Above.ensures.frame.files
    (above_ends _ _ _ _ ((rw c.in-Ok-Above.field-0-is at c.in-Ok-Above.ensures.due) yes)) (c.empty_last-in-Ok-Above.ensures.dropped known)
