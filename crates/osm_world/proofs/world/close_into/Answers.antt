use Rattle.std.proofs.Common.{◌≡◌, ◌+◌, ◌++◌, ◌∷◌, [], ap, refl, arith, rules}
use Rattle.osm_publisher.specs.Published.{PublishedValue, written_of}
use Rattle.osm_publisher.specs.Publisher.{PublisherValue, closing}
use Rattle.osm_world.specs.Steps.Archive.{AreReadable}
use Rattle.osm_world.proofs.ArchiveLemmas.{written_readable, archive_grown}
use Rattle.osm_world.proofs.RunLemmas.{lawful}
use Rattle.osm_world.proofs.world.close_into.Goals as goal

-- the last texts of the archive are those of a sequence
pub returns-clause-archive : goal.returns-clause-archive
returns-clause-archive c =
    let laws = lawful c.laws.ensures.text_spells c.laws.ensures.one_batch c.laws-2.ensures.text_spells
    c.laws-2.ensures.one_batch c.laws_of_state.ensures.no_fault_beside_state in
    let p : PublishedValue = closing c.args.publisher.now c.args.time in
    let can = c.in_ok-check_close.ensures.open in
    let room = can.room in
    let number : c.close.new.self.number ≡ c.args.publisher.now.number + 1 = ap (λ (q : PublisherValue). q.number) c.in_ok-published.ensures.4 in
    let readable : AreReadable (written_of p) =
    written_readable laws p (omega arith) (record {
      number_is = refl;
      most = omega arith;
      changes =
          c.in_ok-check_close.ensures.pending;
      time = c.in_ok-check_close.ensures.time;
    }) c.in_ok-published.ensures.2 in
    let items : c.push.new.self.items ≡ c.args.archive.now.items ++ c.in_ok-published.published ∷ [] = search rules in
    let texts : c.in_ok-published.published ≡ written_of p = c.in_ok-published.ensures.3 in
    rw (number, items, texts) (archive_grown c.args.publisher.now.number c.args.archive.now.items (written_of p) c.requires readable)
