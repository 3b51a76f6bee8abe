use Rattle.std.proofs.Common.{◌≡◌, ◌+◌, ℕ, List, Some, None, take, sym, ap, subst, ◌∙◌}
use Rattle.std.proofs.lemmas.Option.{same_Some}
use Rattle.osm_blocks.specs.Places.{left_of, past}
use Rattle.osm_opl.specs.Line.{SpellsLine}
use Rattle.osm_save.specs.Reading.{object_at}
use Rattle.osm_merge.specs.Laying.{next_at}
use Rattle.osm_merge.proofs.CallLemmas.{bad_blames}
use Rattle.osm_merge.proofs.CountingLemmas.{object_spells}
use Rattle.osm_merge.proofs.ItemLemmas.{next_parts}
use Rattle.osm_merge.proofs.LineLemmas.{none_by, refused_by}
use Rattle.osm_merge.proofs.ObjectLemmas.{bad_refuses, next_none, object_long}
use Rattle.osm_merge.proofs.counting.next_key.Goals as goal

pub returns-in-Err-clause-passed : goal.returns-in-Err-clause-passed
returns-in-Err-clause-passed g c = λ file has f last.
    refused_by file c.args.source.now c.next.new.self c.in-Err.fault (next_at (object_at f) last (left_of c.args.source.now file))
    (c.in-Err.ensures.found file has) (next_none (object_at f) last (left_of c.args.source.now file))
    (object_long f last (left_of c.args.source.now file))

pub returns-in-Some-clause-passed : goal.returns-in-Some-clause-passed
returns-in-Some-clause-passed g c = λ file has f last d after e.
    let p = next_parts (object_at f) last (left_of c.args.source.now file) after d e in
    let line = take c.in-Ok.count c.next.new.self.unread in
    let rest = left_of (past (c.in-Ok.count + 1) c.next.new.self) file in
    let both : ◌≡◌ {A = List ℕ × List ℕ} (p.0, after) (line, rest) = same_Some (p.0, after) (line, rest) (sym p.1 ∙ c.in-Ok.ensures.found file has) in
    let spells : SpellsLine c.line.result.now d =
    subst (λ (l : List ℕ). SpellsLine l d) (ap (λ (q : List ℕ × List ℕ). q.0) both ∙ sym c.line.ensures) (object_spells f last p.0 d p.2) in
    (sym (same_Some c.in-Some.key d.key (c.in-Some.ensures d spells)), rw c.pass.ensures (ap (λ (q : List ℕ × List ℕ). q.1) both))

pub returns-in-None-clause-passed : goal.returns-in-None-clause-passed
returns-in-None-clause-passed g c = λ file has f last.
    let reading = next_at (object_at f) last (left_of c.args.source.now file) in
    bad_refuses file c.wrong.result reading c.wrong.ensures (none_by reading (λ r e.
    let p = next_parts (object_at f) last (left_of c.args.source.now file) r.1 r.0 e in
    let line = take c.in-Ok.count c.next.new.self.unread in
    let rest = left_of (past (c.in-Ok.count + 1) c.next.new.self) file in
    let both : ◌≡◌ {A = List ℕ × List ℕ} (p.0, r.1) (line, rest) = same_Some (p.0, r.1) (line, rest) (sym p.1 ∙ c.in-Ok.ensures.found file has) in
    let spells : SpellsLine c.line.result.now r.0 =
    subst (λ (l : List ℕ). SpellsLine l r.0) (ap (λ (q : List ℕ × List ℕ). q.0) both ∙ sym c.line.ensures) (object_spells f last p.0 r.0 p.2) in
    let bad : None ≡ Some r.0.key = c.in-None.ensures r.0 spells in absurd cc))

pub returns-in-Err-clause-calls : goal.returns-in-Err-clause-calls
returns-in-Err-clause-calls g c = λ file has. record { spent = tt; lacks = (c.in-Err.ensures.calls file has).lacks }

pub returns-in-None-clause-calls : goal.returns-in-None-clause-calls
returns-in-None-clause-calls g c = λ file has. record { spent = tt; lacks = bad_blames c.wrong.result c.wrong.ensures }

pub returns-in-Some-clause-calls : goal.returns-in-Some-clause-calls
returns-in-Some-clause-calls g c = λ file has. rw c.pass.ensures (record { spent = (c.in-Ok.ensures.calls file has).spent; lacks = tt })
