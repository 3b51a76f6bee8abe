use Rattle.std.proofs.Common.{◌∙◌, arith}
use Rattle.osm_blocks.proofs.CallLemmas.{down_lacks, down_then}
use Rattle.osm_blocks.proofs.OftenLemmas.{often_then}
use Rattle.std.specs.Prelude.{true}
use Rattle.osm_data.specs.Reading.{IsDeviceFault}
use Rattle.osm_data.specs.OplReading.{calls_after}
use Rattle.osm_data.specs.Steps.OplPassing.{Goes}
use Rattle.osm_data.proofs.FileLemmas.{has_still}
use Rattle.osm_data.proofs.opl_data.OplData.fill.Goals as goal

pub returns-in-Err-clause-calls : goal.returns-in-Err-clause-calls
returns-in-Err-clause-calls g c = λ file has.
    let a = g.S.Store.state c.args.store.now in
    let b = g.S.Store.state c.lines.store in
    let known = has_still a b tt c.args.name.now file c.lines.invariant.frame has in
    let old = calls_after c.args.self.now file in
    let mid = calls_after c.lines.self file in
    record {
      spent = tt;
      lacks = λ blame. down_lacks old mid mid old a.left b.left (omega arith) (c.lines.invariant.calls file has)
          ((c.in-Err.ensures.calls file known).lacks blame);
    }

pub returns-then-not-is_more-clause-calls : goal.returns-then-not-is_more-clause-calls
returns-then-not-is_more-clause-calls g c = λ file has.
    let a = g.S.Store.state c.args.store.now in
    let b = g.S.Store.state c.lines.store in
    let d = g.S.Store.state c.next_line.new.store in
    let known = has_still a b tt c.args.name.now file c.lines.invariant.frame has in
    let old = calls_after c.args.self.now file in
    let mid = calls_after c.lines.self file in
    let new = calls_after c.next_line.new.self file in
    record {
      spent = down_then old mid mid new old new a.left b.left d.left (omega arith) (c.lines.invariant.calls file has)
          ((c.in-Ok.ensures.calls file known).spent);
      lacks = tt;
    }

pub lines-preserved : goal.lines-preserved
lines-preserved g c =
    let a = g.S.Store.state c.args.store.now in
    let b = g.S.Store.state c.lines.store in
    let d = g.S.Store.state c.next_line.new.store in
    let before = c.lines.invariant in
    let goes : Goes true c.lines.self c.next_line.new.self c.lines.objects.items c.next_line.new.objects.items =
    rw c.if-not-is_more.false at c.in-Ok.ensures.goes in
    let grows = before.grows in
    let more = goes.0 in
    record {
      frame = often_then IsDeviceFault a b d tt c.in-Ok.is_more tt before.frame c.in-Ok.ensures.frame;
      stage = c.in-Ok.ensures.stage ∙ before.stage;
      reads = λ file done has read.
          c.in-Ok.ensures.read file done (has_still a b tt c.args.name.now file before.frame has) (before.reads file done has read);
      calls = λ file has.
          let known = has_still a b tt c.args.name.now file before.frame has in
          let old = calls_after c.args.self.now file in
          let mid = calls_after c.lines.self file in
          let new = calls_after c.next_line.new.self file in
          down_then old mid mid new old new a.left b.left d.left (omega arith) (before.calls file has) ((c.in-Ok.ensures.calls file known).spent);
      grows = omega (arith, grows, more);
      fits = goes.1;
    }
