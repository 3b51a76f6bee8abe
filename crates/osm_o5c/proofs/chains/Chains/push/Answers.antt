use Rattle.std.proofs.Common.{rules, ◌≡◌, ◌≤◌, [], ◌∷◌, ◌++◌, length, ap, refl, arith}
use Rattle.osm_o5c.specs.Steps.Index.{hash_of, strings_of, links_of}
use Rattle.osm_o5c.proofs.IndexLemmas.{strings_entered, strings_kept, strings_length, stored_more, stored_pushed, links_push}
use Rattle.osm_o5c.proofs.chains.Chains.push.Goals as goal

pub invariant_of-self-in_err-push : goal.invariant_of-self-in_err-push
invariant_of-self-in_err-push c =
    let longer : c.extend_from_slice.new.self.items ≡ c.self.inside.bytes.items ++ c.args.text.now = search rules in
    let same : c.push.new.self.items ≡ c.self.inside.slots.items = search rules in
    rw (longer, same) (stored_more c.self.inside.bytes.items c.args.text.now c.self.inside.slots.items c.self.inside.heads.items c.self.invariant)

pub returns-in_err-push-clause-unchanged : goal.returns-in_err-push-clause-unchanged
returns-in_err-push-clause-unchanged c =
    let longer : c.extend_from_slice.new.self.items ≡ c.self.inside.bytes.items ++ c.args.text.now = search rules in
    let same : c.push.new.self.items ≡ c.self.inside.slots.items = search rules in
    let strings : strings_of c.extend_from_slice.new.self.items c.push.new.self.items ≡
    strings_of c.self.inside.bytes.items c.self.inside.slots.items =
    rw (longer, same) (strings_kept c.self.inside.bytes.items c.args.text.now c.self.inside.slots.items
    c.self.inside.heads.items c.self.invariant) in
    let links : links_of c.push.new.self.items ≡ links_of c.self.inside.slots.items = ap links_of same in
    let whole : record {
      strings = strings_of c.extend_from_slice.new.self.items c.push.new.self.items;
      links =
          links_of c.push.new.self.items;
      heads = c.self.inside.heads.items;
    } ≡ c.args.self.now =
    rw (strings, links) c.self.view_is in
    search rules

pub invariant_of-self-2 : goal.invariant_of-self-2
invariant_of-self-2 c =
    let longer : c.extend_from_slice.new.self.items ≡ c.self.inside.bytes.items ++ c.args.text.now = search rules in
    let slot : c.in_ok-slot.slot ≡ record {
      start = length c.self.inside.bytes.items;
      size = length c.args.text.now;
      hash = hash_of c.args.text.now;
      previous = c.args.previous;
    } = search rules in
    let pushed : c.push.new.self.items ≡ c.self.inside.slots.items ++ c.in_ok-slot.slot ∷ [] = search rules in
    let few : c.args.previous ≤ length (strings_of c.self.inside.bytes.items c.self.inside.slots.items) = rw (← c.self.view_is) at c.requires in
    let size = strings_length c.self.inside.bytes.items c.self.inside.slots.items in
    let bound : c.args.previous ≤ length c.self.inside.slots.items = omega arith in
    rw (longer, pushed, slot) (stored_pushed c.self.inside.bytes.items c.args.text.now c.self.inside.slots.items
    c.self.inside.heads.items (hash_of c.args.text.now) c.args.previous refl bound c.self.invariant)

pub returns-clause-pushed : goal.returns-clause-pushed
returns-clause-pushed c =
    let longer : c.extend_from_slice.new.self.items ≡ c.self.inside.bytes.items ++ c.args.text.now = search rules in
    let slot : c.in_ok-slot.slot ≡ record {
      start = length c.self.inside.bytes.items;
      size = length c.args.text.now;
      hash = hash_of c.args.text.now;
      previous = c.args.previous;
    } = search rules in
    let pushed : c.push.new.self.items ≡ c.self.inside.slots.items ++ c.in_ok-slot.slot ∷ [] = search rules in
    let strings : strings_of c.extend_from_slice.new.self.items c.push.new.self.items ≡
    strings_of c.self.inside.bytes.items c.self.inside.slots.items ++ c.args.text.now ∷ [] =
    rw (longer, pushed, slot) (strings_entered c.self.inside.bytes.items c.args.text.now c.self.inside.slots.items
    (hash_of c.args.text.now) c.args.previous c.self.invariant.within) in
    let links : links_of c.push.new.self.items ≡ links_of c.self.inside.slots.items ++ c.args.previous ∷ [] =
    rw (pushed, slot) (links_push c.self.inside.slots.items (record {
      start = length c.self.inside.bytes.items;
      size = length c.args.text.now;
      hash = hash_of c.args.text.now;
      previous = c.args.previous;
    })) in
    rw (strings, links, ← c.self.view_is) refl
