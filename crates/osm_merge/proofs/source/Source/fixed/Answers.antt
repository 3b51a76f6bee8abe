use Rattle.std.proofs.Common.{◌≡◌, ℕ, ◌+◌, List, Some, None, Option, take, drop, ap, ◌∙◌}
use Rattle.osm_blocks.specs.Places.{left_of, past}
use Rattle.osm_save.specs.Reading.{fixed_at}
use Rattle.osm_merge.proofs.LineLemmas.{fails_none, fixed_long, fixed_none, fixed_same, refused_by, then_rest}
use Rattle.osm_merge.proofs.source.Source.fixed.Goals as goal

pub returns-in-Err-clause-read : goal.returns-in-Err-clause-read
returns-in-Err-clause-read g c = λ file has few.
    refused_by file c.args.self.now c.next.new.self c.in-Err.fault (fixed_at c.args.text.now (left_of c.args.self.now file)) (c.in-Err.ensures.found file has)
    (fixed_none c.args.text.now (left_of c.args.self.now file))
    (λ long. fixed_long c.args.text.now (left_of c.args.self.now file) few long)

pub returns-in_default-clause-read : goal.returns-in_default-clause-read
returns-in_default-clause-read g c = λ file has few.
    let same = fixed_same c.args.text.now c.next.new.self.unread (left_of c.args.self.now file) (take c.in-Ok.count c.next.new.self.unread)
    (drop (c.in-Ok.count + 1) c.next.new.self.unread) (left_of (past (c.in-Ok.count + 1) c.next.new.self) file) c.in-Ok.ensures.line.cut
    (c.in-Ok.ensures.found file has) in
    let none : fixed_at c.args.text.now c.next.new.self.unread ≡ None =
    rw c.unread.ensures at (fails_none c.in_default.field-0 (fixed_at c.args.text.now c.unread.result.now) (c.in_default.ensures)) in
    same ∙ ap (λ (o : Option (List ℕ)). then_rest o (left_of (past (c.in-Ok.count + 1) c.next.new.self) file)) none

pub returns-clause-read : goal.returns-clause-read
returns-clause-read g c = λ file has few.
    let same = fixed_same c.args.text.now c.next.new.self.unread (left_of c.args.self.now file) (take c.in-Ok.count c.next.new.self.unread)
    (drop (c.in-Ok.count + 1) c.next.new.self.unread) (left_of (past (c.in-Ok.count + 1) c.next.new.self) file) c.in-Ok.ensures.line.cut
    (c.in-Ok.ensures.found file has) in
    let some : fixed_at c.args.text.now c.next.new.self.unread ≡ Some c.in-Ok-fixed_line._rest.now =
    rw c.unread.ensures at c.in-Ok-fixed_line.ensures in
    rw c.pass.ensures (same ∙ ap (λ (o : Option (List ℕ)). then_rest o (left_of (past (c.in-Ok.count + 1) c.next.new.self) file)) some)

pub returns-in-Err-clause-calls : goal.returns-in-Err-clause-calls
returns-in-Err-clause-calls g c = λ file has. record { spent = tt; lacks = (c.in-Err.ensures.calls file has).lacks }

pub returns-clause-calls : goal.returns-clause-calls
returns-clause-calls g c = λ file has. rw c.pass.ensures (record { spent = (c.in-Ok.ensures.calls file has).spent; lacks = tt })
