use Rattle.std.proofs.Common.{◌≡◌, ℕ, ◌+◌, ◌<◌, ◌≤◌, List, Some, inr, sym, subst, ap, ◌∙◌, arith}
use Rattle.std.proofs.lemmas.Grind.{common_steps}
use Rattle.std.specs.Prelude.{Err, Ok}
use Rattle.osm_blocks.proofs.OftenLemmas.{often_both, often_then}
use Rattle.osm_net.specs.Lists.{net_in}
use Rattle.osm_net.specs.Laid.{laid_on}
use Rattle.osm_save.specs.Save.{save_text, saved_with}
use Rattle.osm_save.specs.declared.version.Version.TheVariants.{Three}
use Rattle.osm_save.proofs.SaveLemmas.{save_takes}
use Rattle.osm_store.specs.Files.{Files, Puts}
use Rattle.osm_merge.specs.Checking.{CheckStops}
use Rattle.osm_merge.specs.Faults.{IsDeviceFault}
use Rattle.osm_merge.specs.Merging.{merged_text}
use Rattle.osm_merge.specs.declared.fault.MergeFault.TheVariants.{Changed, TooLarge}
use Rattle.osm_merge.specs.declared.lists.Totals.{Totals}
use Rattle.osm_merge.proofs.CheckLemmas.{merge_stops, merged_is, plain_stops}
use Rattle.osm_merge.proofs.FrameLemmas.{blameless_frame, known_still, reads_fail, then_replaces}
use Rattle.osm_merge.specs.Calls.{bytes_in, check_calls, merge_calls}
use Rattle.osm_merge.proofs.CallLemmas.{advances_fails, advances_first, advances_of, advances_then, at_most}
use Rattle.osm_merge.proofs.merge.merge_save.Goals as goal

pub returns-in-Err-clause-frame : goal.returns-in-Err-clause-frame
returns-in-Err-clause-frame g c = reads_fail IsDeviceFault (g.S.Store.state c.args.store.now)
    (g.S.Store.state c.count_pass.new.store) c.in-Err.fault c.in-Err.ensures.frame

pub returns-in-Err-clause-refused : goal.returns-in-Err-clause-refused
returns-in-Err-clause-refused g c = λ known.
    merge_stops ((g.S.Store.state c.args.store.now).files c.args.name.now)
    (net_in c.args.lists.now) c.in-Err.fault (c.in-Err.ensures.refused known)

pub returns-in-Err-write_pass-clause-refused : goal.returns-in-Err-write_pass-clause-refused
returns-in-Err-write_pass-clause-refused g c = λ known.
    let a = g.S.Store.state c.args.store.now in
    let b = g.S.Store.state c.count_pass.new.store in
    merge_stops (a.files c.args.name.now)
    (net_in c.args.lists.now) c.in-Err-write_pass.fault
    (subst (λ (f : Files). CheckStops (f c.args.name.now) c.in-Err-write_pass.fault) c.in-Ok.ensures.frame.files
    (c.in-Err-write_pass.ensures.refused (known_still a b c.in-Ok.totals c.in-Ok.ensures.frame known)))

pub returns-in-Err-write_pass-clause-frame : goal.returns-in-Err-write_pass-clause-frame
returns-in-Err-write_pass-clause-frame g c =
    let a = g.S.Store.state c.args.store.now in
    let b = g.S.Store.state c.count_pass.new.store in
    let d = g.S.Store.state c.write_pass.new.store in
    reads_fail {T = Totals} IsDeviceFault a d c.in-Err-write_pass.fault
    (often_both {U = Totals} IsDeviceFault a b d c.in-Ok.totals (Err c.in-Err-write_pass.fault) c.in-Ok.ensures.frame c.in-Err-write_pass.ensures.frame)

pub returns-then-not-are_same-clause-refused : goal.returns-then-not-are_same-clause-refused
returns-then-not-are_same-clause-refused g c = λ known.
    let a = g.S.Store.state c.args.store.now in
    let b = g.S.Store.state c.count_pass.new.store in
    let second = (c.in-Ok-write_pass.ensures.staged (known_still a b c.in-Ok.totals c.in-Ok.ensures.frame known)).count in
    let there : a.files c.args.name.now ≡ Some second.file = ap (λ (f : Files). f c.args.name.now) (sym c.in-Ok.ensures.frame.files) ∙ second.there in
    c.are_same.ensures.other c.if-not-are_same.true (c.in-Ok.ensures.counted known second.file second.saved there second.is ∙ sym second.totals_are)

pub returns-then-not-are_same-clause-frame : goal.returns-then-not-are_same-clause-frame
returns-then-not-are_same-clause-frame g c =
    let a = g.S.Store.state c.args.store.now in
    let b = g.S.Store.state c.count_pass.new.store in
    let d = g.S.Store.state c.write_pass.new.store in
    blameless_frame IsDeviceFault a d Changed
    (often_then {V = Unit {0}} IsDeviceFault a b d c.in-Ok.totals c.in-Ok-write_pass.counted tt c.in-Ok.ensures.frame c.in-Ok-write_pass.ensures.frame)
    (λ bad. bad)

pub returns-then-counted-gt-MOST_OBJECTS-clause-refused : goal.returns-then-counted-gt-MOST_OBJECTS-clause-refused
returns-then-counted-gt-MOST_OBJECTS-clause-refused g c = λ known.
    let a = g.S.Store.state c.args.store.now in
    let b = g.S.Store.state c.count_pass.new.store in
    let second = (c.in-Ok-write_pass.ensures.staged (known_still a b c.in-Ok.totals c.in-Ok.ensures.frame known)).count in
    let above : 999999999999999999 < c.in-Ok-write_pass.counted.objects = grind (arith, common_steps) in
    let is = ap (λ (t : Totals). t.objects) second.totals_are in
    inr (record {
      file = second.file;
      there = ap (λ (f : Files). f c.args.name.now) (sym c.in-Ok.ensures.frame.files) ∙ second.there;
      saved = second.saved;
      spells = save_takes second.file second.saved second.is;
      many = omega (arith, above, is);
    })

pub returns-then-counted-gt-MOST_OBJECTS-clause-frame : goal.returns-then-counted-gt-MOST_OBJECTS-clause-frame
returns-then-counted-gt-MOST_OBJECTS-clause-frame g c =
    let a = g.S.Store.state c.args.store.now in
    let b = g.S.Store.state c.count_pass.new.store in
    let d = g.S.Store.state c.write_pass.new.store in
    blameless_frame IsDeviceFault a d TooLarge
    (often_then {V = Unit {0}} IsDeviceFault a b d c.in-Ok.totals c.in-Ok-write_pass.counted tt c.in-Ok.ensures.frame c.in-Ok-write_pass.ensures.frame)
    (λ bad. bad)

pub returns-in-Ok-commit-clause-merged : goal.returns-in-Ok-commit-clause-merged
returns-in-Ok-commit-clause-merged g c = λ known.
    let a = g.S.Store.state c.args.store.now in
    let b = g.S.Store.state c.count_pass.new.store in
    let d = g.S.Store.state c.write_pass.new.store in
    let e = g.S.Store.state c.commit.new.store in
    let n = net_in c.args.lists.now in
    let known_b = known_still a b c.in-Ok.totals c.in-Ok.ensures.frame known in
    let known_d = known_still b d c.in-Ok-write_pass.counted c.in-Ok-write_pass.ensures.frame known_b in
    let s = c.in-Ok-write_pass.ensures.staged known_b in
    let v = s.count.saved in
    let same : c.in-Ok.totals ≡ c.in-Ok-write_pass.counted = c.are_same.ensures.same c.if-not-are_same.false in
    let text = merged_text c.args.head c.in-Ok.totals n v in
    let is : text ≡ save_text Three (saved_with c.args.head v.filter (laid_on n v.mirror)) =
    merged_is c.args.head n v c.in-Ok.totals (same ∙ s.count.totals_are) in
    let put : Puts d.files c.args.name.now (Some text) e.files = c.in-Ok-commit.ensures.put known_d c.args.name.now text s.says in
    record {
      file = s.count.file;
      there = ap (λ (f : Files). f c.args.name.now) (sym c.in-Ok.ensures.frame.files) ∙ s.count.there;
      saved = v;
      spells = save_takes s.count.file v s.count.is;
      few = (let low : c.in-Ok-write_pass.counted.objects ≤ 999999999999999999 = grind (arith, common_steps) in
          let many = ap (λ (t : Totals). t.objects) s.count.totals_are in
          omega (arith, low, many));
      put = subst (λ (l : List ℕ). Puts a.files c.args.name.now (Some l) e.files) is
          (subst (λ (f : Files). Puts f c.args.name.now (Some text) e.files) (c.in-Ok-write_pass.ensures.frame.files ∙ c.in-Ok.ensures.frame.files) put);
    }

pub returns-in-Ok-commit-clause-frame : goal.returns-in-Ok-commit-clause-frame
returns-in-Ok-commit-clause-frame g c =
    let a = g.S.Store.state c.args.store.now in
    let b = g.S.Store.state c.count_pass.new.store in
    let d = g.S.Store.state c.write_pass.new.store in
    then_replaces IsDeviceFault a d (g.S.Store.state c.commit.new.store) tt (Ok tt)
    (often_then {V = Unit {0}} IsDeviceFault a b d c.in-Ok.totals c.in-Ok-write_pass.counted tt c.in-Ok.ensures.frame c.in-Ok-write_pass.ensures.frame)
    c.in-Ok-commit.ensures.frame

pub returns-in-Err-commit-clause-refused : goal.returns-in-Err-commit-clause-refused
returns-in-Err-commit-clause-refused g c = λ known.
    merge_stops ((g.S.Store.state c.args.store.now).files c.args.name.now)
    (net_in c.args.lists.now) c.in-Err-commit.fault
    (plain_stops ((g.S.Store.state c.args.store.now).files c.args.name.now) c.in-Err-commit.fault c.in-Err-commit.ensures.refused)

pub returns-in-Err-commit-clause-frame : goal.returns-in-Err-commit-clause-frame
returns-in-Err-commit-clause-frame g c =
    let a = g.S.Store.state c.args.store.now in
    let b = g.S.Store.state c.count_pass.new.store in
    let d = g.S.Store.state c.write_pass.new.store in
    then_replaces IsDeviceFault a d (g.S.Store.state c.commit.new.store) tt (Err c.in-Err-commit.fault)
    (often_then {V = Unit {0}} IsDeviceFault a b d c.in-Ok.totals c.in-Ok-write_pass.counted tt c.in-Ok.ensures.frame c.in-Ok-write_pass.ensures.frame)
    c.in-Err-commit.ensures.frame

pub returns-in-Err-clause-calls : goal.returns-in-Err-clause-calls
returns-in-Err-clause-calls g c = λ known.
    let a = g.S.Store.state c.args.store.now in
    let b = g.S.Store.state c.count_pass.new.store in
    let n = bytes_in (a.files c.args.name.now) in
    at_most (merge_calls n) a b (Err c.in-Err.fault) (advances_first {U = Unit {0}} (merge_calls n) (λ x. 0) a b c.in-Err.fault
    (advances_of (check_calls n) a b (Err c.in-Err.fault) known (c.in-Err.ensures.calls known)) (omega arith)) (omega arith)

pub returns-in-Err-write_pass-clause-calls : goal.returns-in-Err-write_pass-clause-calls
returns-in-Err-write_pass-clause-calls g c = λ known.
    let a = g.S.Store.state c.args.store.now in
    let b = g.S.Store.state c.count_pass.new.store in
    let n = bytes_in (a.files c.args.name.now) in
    let known_b = known_still a b c.in-Ok.totals c.in-Ok.ensures.frame known in
    let count = advances_of (check_calls n) a b (Ok c.in-Ok.totals) known (c.in-Ok.ensures.calls known) in
    let d = g.S.Store.state c.write_pass.new.store in
    let same : bytes_in (b.files c.args.name.now) ≡ n = ap (λ (f : Files). bytes_in (f c.args.name.now)) c.in-Ok.ensures.frame.files in
    at_most (merge_calls n) a d (Err c.in-Err-write_pass.fault)
    (advances_fails {V = Unit {0}} (merge_calls n) (λ x. 0) a b d c.in-Ok.totals c.in-Err-write_pass.fault count
    (advances_of (check_calls n + n + 6) b d (Err c.in-Err-write_pass.fault) known_b (rw same at (c.in-Err-write_pass.ensures.calls known_b))) (omega arith))
    (omega arith)

pub returns-in-Ok-commit-clause-calls : goal.returns-in-Ok-commit-clause-calls
returns-in-Ok-commit-clause-calls g c = λ known.
    let a = g.S.Store.state c.args.store.now in
    let b = g.S.Store.state c.count_pass.new.store in
    let n = bytes_in (a.files c.args.name.now) in
    let known_b = known_still a b c.in-Ok.totals c.in-Ok.ensures.frame known in
    let count = advances_of (check_calls n) a b (Ok c.in-Ok.totals) known (c.in-Ok.ensures.calls known) in
    let d = g.S.Store.state c.write_pass.new.store in
    let same : bytes_in (b.files c.args.name.now) ≡ n = ap (λ (f : Files). bytes_in (f c.args.name.now)) c.in-Ok.ensures.frame.files in
    let known_d = known_still b d c.in-Ok-write_pass.counted c.in-Ok-write_pass.ensures.frame known_b in
    let e = g.S.Store.state c.commit.new.store in
    let write = advances_of (check_calls n + n + 6) b d (Ok c.in-Ok-write_pass.counted) known_b (rw same at (c.in-Ok-write_pass.ensures.calls known_b)) in
    let both = advances_then {V = Unit {0}} (merge_calls n) (λ x. 1) a b d c.in-Ok.totals c.in-Ok-write_pass.counted tt count write (omega arith) in
    at_most (merge_calls n) a e (Ok tt) (advances_then {V = Unit {0}} (merge_calls n) (λ x. 0) a d e tt tt tt both
    (advances_of 1 d e (Ok tt) known_d c.in-Ok-commit.ensures.calls) (omega arith)) (omega arith)

pub returns-in-Err-commit-clause-calls : goal.returns-in-Err-commit-clause-calls
returns-in-Err-commit-clause-calls g c = λ known.
    let a = g.S.Store.state c.args.store.now in
    let b = g.S.Store.state c.count_pass.new.store in
    let n = bytes_in (a.files c.args.name.now) in
    let known_b = known_still a b c.in-Ok.totals c.in-Ok.ensures.frame known in
    let count = advances_of (check_calls n) a b (Ok c.in-Ok.totals) known (c.in-Ok.ensures.calls known) in
    let d = g.S.Store.state c.write_pass.new.store in
    let same : bytes_in (b.files c.args.name.now) ≡ n = ap (λ (f : Files). bytes_in (f c.args.name.now)) c.in-Ok.ensures.frame.files in
    let known_d = known_still b d c.in-Ok-write_pass.counted c.in-Ok-write_pass.ensures.frame known_b in
    let e = g.S.Store.state c.commit.new.store in
    let write = advances_of (check_calls n + n + 6) b d (Ok c.in-Ok-write_pass.counted) known_b (rw same at (c.in-Ok-write_pass.ensures.calls known_b)) in
    let both = advances_then {V = Unit {0}} (merge_calls n) (λ x. 1) a b d c.in-Ok.totals c.in-Ok-write_pass.counted tt count write (omega arith) in
    at_most (merge_calls n) a e (Err c.in-Err-commit.fault) (advances_fails {V = Unit {0}} (merge_calls n) (λ x. 0) a d e tt c.in-Err-commit.fault both
    (advances_of 1 d e (Err c.in-Err-commit.fault) known_d c.in-Err-commit.ensures.calls) (omega arith)) (omega arith)
