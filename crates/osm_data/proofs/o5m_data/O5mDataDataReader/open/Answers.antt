use Rattle.std.proofs.Common.{◌≡◌, ◌∙◌, true, false, sym, take, refl, arith}
use Rattle.std.specs.Str.{bytes_eq}
use Rattle.osm_blocks.specs.Places.{max_block}
use Rattle.osm_o5c.specs.File.{data_beginning}
use Rattle.osm_data.proofs.FileLemmas.{opened_calls, opens_file}
use Rattle.osm_data.proofs.O5mObjectsLemmas.{begun_read, first_within, left_shorter, true_false, unbegun}
use Rattle.osm_data.proofs.o5m_data.O5mDataDataReader.open.Goals as goal

pub returns-then-not-has_beginning-clause-stops : goal.returns-then-not-has_beginning-clause-stops
returns-then-not-has_beginning-clause-stops g c = λ known.
    let o = rw c.in-Some.is at (c.in-Ok.ensures.opened known) in
    let other : bytes_eq (take 7 c.unread.result.now) data_beginning ≡ false = sym c.has_beginning.ensures ∙ c.if-not-has_beginning.true in
    (o.0, o.1, unbegun max_block o.0 c.in-Some.reader.unread (omega arith) o.2 (rw c.unread.ensures at other))

pub returns-clause-opened : goal.returns-clause-opened
returns-clause-opened g c = λ file has.
    let o = opens_file ((g.S.Store.state c.args.store.now).files c.args.name.now) c.in-Some.reader file
    (rw c.in-Some.is at (c.in-Ok.ensures.opened has.known)) has.there in
    let so : bytes_eq (take 7 c.unread.result.now) data_beginning ≡ true = sym c.has_beginning.ensures ∙ c.if-not-has_beginning.false in
    rw c.pass.ensures (record {
      read = begun_read c.in-Some.reader file c.new.result (rw c.unread.ensures at so) o.1 c.new.ensures.reader c.new.ensures.last;
      within = first_within c.in-Some.reader file (rw c.in-Some.is at c.in-Ok.ensures.first) o.1;
      ended = λ yes. absurd (true_false false refl yes);
    })

pub returns-clause-left : goal.returns-clause-left
returns-clause-left g c = λ file has.
    let o = opens_file ((g.S.Store.state c.args.store.now).files c.args.name.now) c.in-Some.reader file
    (rw c.in-Some.is at (c.in-Ok.ensures.opened has.known)) has.there in
    rw c.pass.ensures (left_shorter c.in-Some.reader file 7 o.1)

pub returns-clause-ahead : goal.returns-clause-ahead
returns-clause-ahead g c = λ file has.
    let o = opens_file ((g.S.Store.state c.args.store.now).files c.args.name.now) c.in-Some.reader file
    (rw c.in-Some.is at (c.in-Ok.ensures.opened has.known)) has.there in
    rw c.pass.ensures (opened_calls c.in-Some.reader file o.0 o.1)
