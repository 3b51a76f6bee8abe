use Rattle.std.proofs.Common.{◌≡◌, ◌++◌, arith, length, rules}
use Rattle.std.proofs.lemmas.List.{length-map}
use Rattle.osm_journal.specs.Journal.{batch_of, batches_text, journal_of, last_number, last_time}
use Rattle.osm_journal.proofs.JournalLemmas.{journal_written}
use Rattle.osm_journal.proofs.journal.write_journal.Goals as goal

pub returns-clause-text : goal.returns-clause-text
returns-clause-text c =
    let j = journal_of c.args.journal.now in
    let first = rw c.new-text.ensures.items at c.in_ok-extend_from_slice.ensures.items in
    let bs : c.as_slice.result.now ≡ c.args.journal.now.batches.items = search rules in
    let number : c.place_reached-number.result.0 ≡ last_number j.head.number j.batches = rw bs at c.place_reached-number.ensures.number in
    let time : c.place_reached-number.result.1 ≡ last_time j.head.time j.batches = rw bs at c.place_reached-number.ensures.time in
    let count : c.len.result ≡ length j.batches =
    omega (arith, c.len.ensures, c.args.journal.now.batches.ok.0, length-map c.args.journal.now.batches.items batch_of) in
    let batches : c.write_batches.new.out.items ≡ c.write_numbered-2.new.out.items ++ batches_text j.batches = search rules in
    journal_written j c.extend_from_slice.new.self.items c.write_save_head.new.out.items c.write_numbered.new.out.items
    c.write_place.new.out.items c.write_numbered-2.new.out.items c.write_batches.new.out.items c.extend_from_slice-2.new.self.items
    c.place_reached-number.result.0 c.len.result c.place_reached-number.result.1 number time count first
    c.in_ok-write_save_head.ensures c.in_ok-write_numbered.ensures c.in_ok-write_place.ensures c.in_ok-write_numbered-2.ensures
    batches c.in_ok-extend_from_slice-2.ensures.items

pub returns-clause-spelled : goal.returns-clause-spelled
returns-clause-spelled c = λ is. record { journal = is; text = returns-clause-text c }
