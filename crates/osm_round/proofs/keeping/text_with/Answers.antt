use Rattle.std.proofs.Common.{◌≡◌, map, arith, ap, subst, sym, ◌∙◌}
use Rattle.std.proofs.lemmas.List.{length-map}
use Rattle.osm_journal.specs.Journal.{batch_of}
use Rattle.osm_kept.specs.Kept.{AddsBatches}
use Rattle.osm_round.specs.Gathering.{batch_in}
use Rattle.osm_round.proofs.TextLemmas.{are_batches, each_batch, journal_next, long_gathered, long_next, none_next, some_batches, some_map}
use Rattle.osm_round.proofs.keeping.text_with.Goals as goal

pub next_journal-requires-clause-some : goal.next_journal-requires-clause-some
next_journal-requires-clause-some c =
    let same : map batch_of c.as_slice-2.result.now ≡ map batch_in c.args.gathered.texts.items =
    ap (map batch_of) c.as_slice-2.ensures.value ∙ (c.in_ok-batches.ensures ∙ ap (map batch_in) c.as_slice.ensures.value) in
    let count = length-map c.as_slice-2.result.now batch_of in
    let some = some_batches c.requires.gathers.0 c.args.reach.now.head c.args.most c.requires.gathers.1 c.args.gathered c.requires.gathers.3
    c.if-not-gathered.false (map batch_of c.as_slice-2.result.now) same c.requires.gathers.2 in
    omega (arith, count, some)

pub next_journal-requires-clause-each : goal.next_journal-requires-clause-each
next_journal-requires-clause-each c =
    let same : map batch_of c.as_slice-2.result.now ≡ map batch_in c.args.gathered.texts.items =
    ap (map batch_of) c.as_slice-2.ensures.value ∙ (c.in_ok-batches.ensures ∙ ap (map batch_in) c.as_slice.ensures.value) in
    each_batch c.requires.gathers.0 c.args.reach.now.head c.args.most c.requires.gathers.1 c.args.gathered c.requires.gathers.3
    c.if-not-gathered.false (map batch_of c.as_slice-2.result.now) same

pub returns-then-not-gathered-clause-long : goal.returns-then-not-gathered-clause-long
returns-then-not-gathered-clause-long c = λ none batches keeps told journal found.
    long_gathered c.args.most c.args.reach.now c.args.file.now told journal found c.requires.reach c.args.gathered batches c.if-not-gathered.true keeps

pub returns-clause-text : goal.returns-clause-text
returns-clause-text c =
    let same : map batch_of c.as_slice-2.result.now ≡ map batch_in c.args.gathered.texts.items =
    ap (map batch_of) c.as_slice-2.ensures.value ∙ (c.in_ok-batches.ensures ∙ ap (map batch_in) c.as_slice.ensures.value) in
    some_map _ _ c.next_journal.result c.next_journal.ensures.keeps (λ text keeps batches kept told journal v w found before adds.
    keeps told journal v w found before (subst (λ l. AddsBatches l v w) (sym (are_batches c.requires.gathers.0 c.args.reach.now.head c.args.most
    c.requires.gathers.1 c.args.gathered c.requires.gathers.3 c.if-not-gathered.false (map batch_of c.as_slice-2.result.now) same batches kept)) adds))

pub returns-clause-long : goal.returns-clause-long
returns-clause-long c =
    let same : map batch_of c.as_slice-2.result.now ≡ map batch_in c.args.gathered.texts.items =
    ap (map batch_of) c.as_slice-2.ensures.value ∙ (c.in_ok-batches.ensures ∙ ap (map batch_in) c.as_slice.ensures.value) in
    none_next c.args.most c.args.reach.now.start c.args.file.now (map batch_of c.as_slice-2.result.now) _ c.next_journal.result c.next_journal.ensures.text
    (λ next batches kept told journal found. long_next c.args.most c.args.reach.now c.args.file.now told journal found
    (map batch_of c.as_slice-2.result.now) batches (are_batches c.requires.gathers.0 c.args.reach.now.head c.args.most
    c.requires.gathers.1 c.args.gathered c.requires.gathers.3 c.if-not-gathered.false (map batch_of c.as_slice-2.result.now) same batches kept) next)

pub returns-clause-journal : goal.returns-clause-journal
returns-clause-journal c =
    let same : map batch_of c.as_slice-2.result.now ≡ map batch_in c.args.gathered.texts.items =
    ap (map batch_of) c.as_slice-2.ensures.value ∙ (c.in_ok-batches.ensures ∙ ap (map batch_in) c.as_slice.ensures.value) in
    journal_next c.args.most c.args.reach.now c.args.file.now c.args.gathered (map batch_of c.as_slice-2.result.now) c.next_journal.result
    c.if-not-gathered.false same c.next_journal.ensures.text
