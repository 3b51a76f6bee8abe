use Rattle.std.proofs.Common.{subst}
use Rattle.osm_kept.specs.Reaching.{IsReach}
use Rattle.osm_kept.specs.declared.found.JournalFile.TheVariants.{Counts}
use Rattle.osm_kept.proofs.KeptLemmas.{err_map, ok_map}
use Rattle.osm_kept.proofs.TakingLemmas.{counts_found, counts_from, counts_stop, counts_taken, is_silent, silent_found, silent_from, silent_taken}
use Rattle.osm_kept.proofs.net.net_of.Goals as goal

pub returns-in-Counts-clause-found : goal.returns-in-Counts-clause-found
returns-in-Counts-clause-found c =
    let is : IsReach c.args.reach.now (Counts c.in-Counts.bytes) = subst (λ j. IsReach c.args.reach.now j) c.in-Counts.is c.requires in
    let taken = rw c.as_slice.ensures.value at c.take_text.ensures.taken in
    rw c.in-Counts.is (ok_map _ _ c.take_text.result taken (λ net t. counts_found c.args.reach.now c.in-Counts.bytes net is t))

pub returns-in-Counts-clause-from : goal.returns-in-Counts-clause-from
returns-in-Counts-clause-from c =
    let is : IsReach c.args.reach.now (Counts c.in-Counts.bytes) = subst (λ j. IsReach c.args.reach.now j) c.in-Counts.is c.requires in
    let taken = rw c.as_slice.ensures.value at c.take_text.ensures.taken in
    rw c.in-Counts.is (ok_map _ _ c.take_text.result taken (λ net t. counts_from c.args.reach.now c.in-Counts.bytes net is t))

pub returns-in-Counts-clause-taken : goal.returns-in-Counts-clause-taken
returns-in-Counts-clause-taken c =
    let is : IsReach c.args.reach.now (Counts c.in-Counts.bytes) = subst (λ j. IsReach c.args.reach.now j) c.in-Counts.is c.requires in
    let taken = rw c.as_slice.ensures.value at c.take_text.ensures.taken in
    ok_map _ _ c.take_text.result taken (λ net t. counts_taken c.args.reach.now c.in-Counts.bytes net is t)

pub returns-in-Counts-clause-refused : goal.returns-in-Counts-clause-refused
returns-in-Counts-clause-refused c =
    let stops = rw c.as_slice.ensures.value at c.take_text.ensures.stops in
    rw c.in-Counts.is (err_map _ _ c.take_text.result stops (λ fault s. counts_stop c.args.reach.now c.in-Counts.bytes fault s))

pub returns-in-Nothing-clause-found : goal.returns-in-Nothing-clause-found
returns-in-Nothing-clause-found c =
    rw (c.new.ensures) (silent_found c.args.reach.now c.args.journal.now (is_silent c.args.journal.now c.in-Nothing.is) c.requires)

pub returns-in-Nothing-clause-from : goal.returns-in-Nothing-clause-from
returns-in-Nothing-clause-from c =
    rw (c.new.ensures) (silent_from c.args.reach.now c.args.journal.now (is_silent c.args.journal.now c.in-Nothing.is) c.requires)

pub returns-in-Nothing-clause-taken : goal.returns-in-Nothing-clause-taken
returns-in-Nothing-clause-taken c =
    rw (c.new.ensures) (silent_taken c.args.reach.now c.args.journal.now (is_silent c.args.journal.now c.in-Nothing.is) c.requires)
