use Rattle.std.proofs.Common.{◌<◌, arith, length, map, subst}
use Rattle.std.proofs.lemmas.List.{length-map}
use Rattle.osm_journal.specs.Journal.{batch_of}
use Rattle.osm_kept.specs.Reaching.{IsReach}
use Rattle.osm_kept.specs.declared.found.JournalFile.TheVariants.{Counts}
use Rattle.osm_kept.proofs.KeptLemmas.{ok_map}
use Rattle.osm_kept.proofs.NextLemmas.{first_next, more_next}
use Rattle.osm_kept.proofs.TakingLemmas.{is_silent}
use Rattle.osm_kept.proofs.next.next_journal.Goals as goal

pub returns-in-Counts-clause-text : goal.returns-in-Counts-clause-text
returns-in-Counts-clause-text c =
    let is : IsReach c.args.reach.now (Counts c.in-Counts.bytes) = subst (λ j. IsReach c.args.reach.now j) c.in-Counts.is c.requires.reach in
    let more = rw c.as_slice.ensures.value at c.more_text.ensures in
    rw c.in-Counts.is (ok_map _ _ c.more_text.result more (λ answer m. (let next = more_next c.args.most c.args.reach.now c.in-Counts.bytes
    (map batch_of c.args.batches.now) answer is c.requires.each c.requires.follow m in
    next.text)))

pub returns-in-Counts-clause-keeps : goal.returns-in-Counts-clause-keeps
returns-in-Counts-clause-keeps c =
    let is : IsReach c.args.reach.now (Counts c.in-Counts.bytes) = subst (λ j. IsReach c.args.reach.now j) c.in-Counts.is c.requires.reach in
    let more = rw c.as_slice.ensures.value at c.more_text.ensures in
    rw c.in-Counts.is (ok_map _ _ c.more_text.result more (λ answer m. (let next = more_next c.args.most c.args.reach.now c.in-Counts.bytes
    (map batch_of c.args.batches.now) answer is c.requires.each c.requires.follow m in
    next.keeps)))

pub returns-in-Counts-clause-free : goal.returns-in-Counts-clause-free
returns-in-Counts-clause-free c =
    let is : IsReach c.args.reach.now (Counts c.in-Counts.bytes) = subst (λ j. IsReach c.args.reach.now j) c.in-Counts.is c.requires.reach in
    let more = rw c.as_slice.ensures.value at c.more_text.ensures in
    rw c.in-Counts.is (ok_map _ _ c.more_text.result more (λ answer m. (let next = more_next c.args.most c.args.reach.now c.in-Counts.bytes
    (map batch_of c.args.batches.now) answer is c.requires.each c.requires.follow m in
    next.free)))

pub returns-in-Nothing-clause-text : goal.returns-in-Nothing-clause-text
returns-in-Nothing-clause-text c =
    let count = length-map c.args.batches.now batch_of in
    let some : 0 < length (map batch_of c.args.batches.now) = omega (arith, c.requires.some, count) in
    ok_map _ _ c.first_text.result c.first_text.ensures (λ answer text. (let next = first_next c.args.most c.args.reach.now c.args.journal.now
    (map batch_of c.args.batches.now) answer (is_silent c.args.journal.now c.in-Nothing.is) c.requires.reach some c.requires.each
    c.requires.follow text in
    next.text))

pub returns-in-Nothing-clause-keeps : goal.returns-in-Nothing-clause-keeps
returns-in-Nothing-clause-keeps c =
    let count = length-map c.args.batches.now batch_of in
    let some : 0 < length (map batch_of c.args.batches.now) = omega (arith, c.requires.some, count) in
    ok_map _ _ c.first_text.result c.first_text.ensures (λ answer text. (let next = first_next c.args.most c.args.reach.now c.args.journal.now
    (map batch_of c.args.batches.now) answer (is_silent c.args.journal.now c.in-Nothing.is) c.requires.reach some c.requires.each
    c.requires.follow text in
    next.keeps))

pub returns-in-Nothing-clause-free : goal.returns-in-Nothing-clause-free
returns-in-Nothing-clause-free c =
    let count = length-map c.args.batches.now batch_of in
    let some : 0 < length (map batch_of c.args.batches.now) = omega (arith, c.requires.some, count) in
    ok_map _ _ c.first_text.result c.first_text.ensures (λ answer text. (let next = first_next c.args.most c.args.reach.now c.args.journal.now
    (map batch_of c.args.batches.now) answer (is_silent c.args.journal.now c.in-Nothing.is) c.requires.reach some c.requires.each
    c.requires.follow text in
    next.free))
