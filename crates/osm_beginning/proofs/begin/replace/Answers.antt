use Rattle.std.proofs.Common.{◌≡◌, arith, refl, rules}
use Rattle.std.proofs.lemmas.Bool.Decides.{nat_tests}
use Rattle.osm_beginning.proofs.PassLemmas.{kept_as, replaced_of}
use Rattle.osm_beginning.specs.Steps.Passes.{IsReplaced, IsStaged}
use Rattle.osm_merge.proofs.FrameLemmas.{known_still}
use Rattle.osm_beginning.proofs.begin.replace.Goals as goal

pub returns-clause-saves : goal.returns-clause-saves
returns-clause-saves g c = record {
  replaced = λ known. (let w = c.args.wanted.now in
      let a = g.S.Store.state c.args.store.now in
      let b = g.S.Store.state c.write_kept.new.store in
      let e = g.S.Store.state c.commit.new.store in
      let same : c.in_ok-written.written.count ≡ c.args.count = grind (arith, nat_tests) in
      kept_as g.D.DataReader.spells w.filter.now (a.files w.base.now) (a.files w.base.now)
      (IsStaged b w.save.now w.head w.filter.now c.args.count c.in_ok-written.written.count)
      (IsReplaced w.head w.filter.now w.save.now a.files e.files) refl
      (λ kept. replaced_of w.head w.filter.now w.save.now b a.files e.files c.args.count c.in_ok-written.written.count kept same c.requires.few
      c.in_ok-written.ensures.frame.files (c.in_ok-commit.ensures.put (known_still a b c.in_ok-written.written c.in_ok-written.ensures.frame known)))
      (c.in_ok-written.ensures.staged known));
  near = λ known. record { newest = c.in_ok-written.written.newest; has = c.in_ok-written.ensures.newest known; near = c.in_ok-check_time.ensures.near };
  frame = search rules;
  spends = search rules;
  calls = search rules;
}
