use Rattle.std.proofs.Common.{◌≡◌, ℕ, ◌+◌, List, Some, None, Option, take, drop, ap, ◌∙◌}
use Rattle.osm_blocks.specs.Places.{left_of, past}
use Rattle.osm_save.specs.Reading.{numbered_at}
use Rattle.osm_merge.proofs.LineLemmas.{fails_none, numbered_long, numbered_none, numbered_same, refused_by, with_rest}
use Rattle.osm_merge.proofs.source.Source.numbered.Goals as goal

pub returns-in-Err-clause-read : goal.returns-in-Err-clause-read
returns-in-Err-clause-read g c = λ file has few.
    refused_by file c.args.self.now c.next.new.self c.in-Err.fault (numbered_at c.args.word.now c.args.most (left_of c.args.self.now file))
    (c.in-Err.ensures.found file has)
    (numbered_none c.args.word.now c.args.most (left_of c.args.self.now file))
    (λ long. numbered_long c.args.word.now c.args.most (left_of c.args.self.now file) few long)

pub returns-in_default-clause-read : goal.returns-in_default-clause-read
returns-in_default-clause-read g c = λ file has few.
    let same = numbered_same c.args.word.now c.args.most c.next.new.self.unread (left_of c.args.self.now file) (take c.in-Ok.count c.next.new.self.unread)
    (drop (c.in-Ok.count + 1) c.next.new.self.unread) (left_of (past (c.in-Ok.count + 1) c.next.new.self) file) c.in-Ok.ensures.line.cut
    (c.in-Ok.ensures.found file has) in
    let none : numbered_at c.args.word.now c.args.most c.next.new.self.unread ≡ None =
    rw c.unread.ensures at (fails_none c.in_default.field-0 (numbered_at c.args.word.now c.args.most c.unread.result.now) (c.in_default.ensures.value)) in
    same ∙ ap (λ (o : Option (ℕ × List ℕ)). with_rest o (left_of (past (c.in-Ok.count + 1) c.next.new.self) file)) none

pub returns-clause-read : goal.returns-clause-read
returns-clause-read g c = λ file has few.
    let same = numbered_same c.args.word.now c.args.most c.next.new.self.unread (left_of c.args.self.now file) (take c.in-Ok.count c.next.new.self.unread)
    (drop (c.in-Ok.count + 1) c.next.new.self.unread) (left_of (past (c.in-Ok.count + 1) c.next.new.self) file) c.in-Ok.ensures.line.cut
    (c.in-Ok.ensures.found file has) in
    let some : numbered_at c.args.word.now c.args.most c.next.new.self.unread ≡ Some (c.in-Ok-numbered_line.number, c.in-Ok-numbered_line._rest.now) =
    rw c.unread.ensures at c.in-Ok-numbered_line.ensures.value in
    rw c.pass.ensures (same ∙ ap (λ (o : Option (ℕ × List ℕ)). with_rest o (left_of (past (c.in-Ok.count + 1) c.next.new.self) file)) some)

pub returns-in-Err-clause-calls : goal.returns-in-Err-clause-calls
returns-in-Err-clause-calls g c = λ file has. record { spent = tt; lacks = (c.in-Err.ensures.calls file has).lacks }

pub returns-clause-calls : goal.returns-clause-calls
returns-clause-calls g c = λ file has. rw c.pass.ensures (record { spent = (c.in-Ok.ensures.calls file has).spent; lacks = tt })
