use Rattle.std.proofs.Common.{◌∙◌, arith}
use Rattle.std.specs.Prelude.{true, false}
use Rattle.osm_blocks.proofs.CallLemmas.{down_lacks, down_then}
use Rattle.osm_data.specs.OplReading.{calls_after}
use Rattle.osm_data.specs.Steps.OplPassing.{Goes}
use Rattle.osm_data.proofs.FileLemmas.{has_still}
use Rattle.osm_data.proofs.OplPassingLemmas.{ended, fewer_left, not_yet}
use Rattle.osm_data.proofs.opl_data.OplData.read_lines.Goals as goal

pub returns-in-Err-clause-stops : goal.returns-in-Err-clause-stops
returns-in-Err-clause-stops g c = λ file done has read.
    c.in-Err.ensures.stops file done has (not_yet c.args.self.now file done c.new-objects.result.items c.new-objects.ensures.items read)

pub returns-then-not-is_more-clause-read : goal.returns-then-not-is_more-clause-read
returns-then-not-is_more-clause-read g c = λ file done has read.
    let goes : Goes false c.args.self.now c.next_line.new.self c.new-objects.result.items c.next_line.new.objects.items =
    rw c.if-not-is_more.true at c.in-Ok.ensures.goes in
    ended c.next_line.new.self file done c.next_line.new.objects.items goes.0 (goes.2 ∙ c.new-objects.ensures.items)
    (c.in-Ok.ensures.read file done has (not_yet c.args.self.now file done c.new-objects.result.items c.new-objects.ensures.items read))

pub returns-in-Ok-fill-clause-read : goal.returns-in-Ok-fill-clause-read
returns-in-Ok-fill-clause-read g c = λ file done has read.
    let known = has_still (g.S.Store.state c.args.store.now) (g.S.Store.state c.next_line.new.store) c.in-Ok.is_more c.args.name.now file
    c.in-Ok.ensures.frame has in
    c.in-Ok-fill.ensures.read file done known
    (c.in-Ok.ensures.read file done has (not_yet c.args.self.now file done c.new-objects.result.items c.new-objects.ensures.items read))

pub returns-in-Ok-fill-clause-fewer : goal.returns-in-Ok-fill-clause-fewer
returns-in-Ok-fill-clause-fewer g c = λ file done has read.
    let known = has_still (g.S.Store.state c.args.store.now) (g.S.Store.state c.next_line.new.store) c.in-Ok.is_more c.args.name.now file
    c.in-Ok.ensures.frame has in
    let goes : Goes true c.args.self.now c.next_line.new.self c.new-objects.result.items c.next_line.new.objects.items =
    rw c.if-not-is_more.false at c.in-Ok.ensures.goes in
    let after = c.in-Ok-fill.ensures.read file done known
    (c.in-Ok.ensures.read file done has (not_yet c.args.self.now file done c.new-objects.result.items c.new-objects.ensures.items read)) in
    fewer_left file c.args.self.now.so_far.bytes c.next_line.new.self.so_far.bytes c.fill.new.self.so_far.bytes goes.0 c.in-Ok-fill.ensures.grows
    after.within

pub returns-in-Ok-fill-clause-calls : goal.returns-in-Ok-fill-clause-calls
returns-in-Ok-fill-clause-calls g c = λ file has.
    let a = g.S.Store.state c.args.store.now in
    let b = g.S.Store.state c.next_line.new.store in
    let d = g.S.Store.state c.fill.new.store in
    let known = has_still a b c.in-Ok.is_more c.args.name.now file c.in-Ok.ensures.frame has in
    let old = calls_after c.args.self.now file in
    let mid = calls_after c.next_line.new.self file in
    let new = calls_after c.fill.new.self file in
    record {
      spent = down_then old mid mid new old new a.left b.left d.left (omega arith) ((c.in-Ok.ensures.calls file has).spent)
          ((c.in-Ok-fill.ensures.calls file known).spent);
      lacks = tt;
    }

pub returns-in-Err-fill-clause-stops : goal.returns-in-Err-fill-clause-stops
returns-in-Err-fill-clause-stops g c = λ file done has read.
    let known = has_still (g.S.Store.state c.args.store.now) (g.S.Store.state c.next_line.new.store) c.in-Ok.is_more c.args.name.now file
    c.in-Ok.ensures.frame has in
    c.in-Err-fill.ensures.stops file done known
    (c.in-Ok.ensures.read file done has (not_yet c.args.self.now file done c.new-objects.result.items c.new-objects.ensures.items read))

pub returns-in-Err-fill-clause-calls : goal.returns-in-Err-fill-clause-calls
returns-in-Err-fill-clause-calls g c = λ file has.
    let a = g.S.Store.state c.args.store.now in
    let b = g.S.Store.state c.next_line.new.store in
    let known = has_still a b c.in-Ok.is_more c.args.name.now file c.in-Ok.ensures.frame has in
    let old = calls_after c.args.self.now file in
    let mid = calls_after c.next_line.new.self file in
    record {
      spent = tt;
      lacks = λ blame. down_lacks old mid mid old a.left b.left (omega arith) ((c.in-Ok.ensures.calls file has).spent)
          ((c.in-Err-fill.ensures.calls file known).lacks blame);
    }
