use Rattle.std.proofs.Common.{◌≡◌, ◌∷◌, ◌++◌, [], append_assoc, refl}
use Rattle.std.specs.Io.{StartsWith}
use Rattle.osm_opl.specs.Written.{escaped_text}
use Rattle.osm_opl.proofs.WrittenLemmas.{on_err, starts_back}
use Rattle.osm_opl.proofs.lists.write_pair.Goals as goal

pub returns-in_err-write_text-2-clause-err : goal.returns-in_err-write_text-2-clause-err
returns-in_err-write_text-2-clause-err c =
    let before : c.push.new.self.items ≡ c.args.out.now.items ++ (escaped_text c.args.key.now ++ 61 ∷ []) =
    rw (c.in_ok-push.ensures.items, c.in_ok-write_text.ensures.ok, append_assoc) refl in
    on_err c.from_residual-in_err-write_text-2.result (StartsWith c.write_text-2.new.out.items c.args.out.now.items)
    (starts_back c.args.out.now.items c.push.new.self.items c.write_text-2.new.out.items
    (escaped_text c.args.key.now ++ 61 ∷ []) before c.in_err-write_text-2.ensures.err)
