use Rattle.std.proofs.Common.{rules, ◌≡◌, ◌++◌, pos}
use Rattle.osm_o5c.specs.Written.{number_text, difference_text, pair_text}
use Rattle.osm_o5c.proofs.WriteLemmas.{on_ok, four_pieces}
use Rattle.osm_o5c.proofs.metadata.write_meta_parts.Goals as goal

pub returns-clause-text : goal.returns-clause-text
returns-clause-text c =
    let version : c.write_unsigned.new.out.items ≡ c.args.out.now.items ++ number_text c.args.version = search rules in
    let time : c.write_difference.new.out.items ≡ c.write_unsigned.new.out.items
    ++ difference_text c.args.state.now.counters.time (pos c.args.time) = search rules in
    let changeset : c.write_difference-2.new.out.items ≡ c.write_difference.new.out.items
    ++ difference_text c.args.state.now.counters.changeset (pos c.args.changeset) = search rules in
    on_ok c.write_user.result c.write_user.ensures.text (λ e.
    four_pieces c.args.out.now.items c.write_unsigned.new.out.items c.write_difference.new.out.items
    c.write_difference-2.new.out.items c.write_user.new.out.items (number_text c.args.version)
    (difference_text c.args.state.now.counters.time (pos c.args.time))
    (difference_text c.args.state.now.counters.changeset (pos c.args.changeset))
    (pair_text c.args.state.now.strings (number_text c.args.uid) c.args.user.now) version time changeset e)
