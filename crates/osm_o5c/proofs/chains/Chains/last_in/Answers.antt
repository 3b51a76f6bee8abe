use Rattle.std.proofs.Common.{rules, ◌≡◌, ◌-◌, ◌+◌, ◌/◌, ◌<◌, ◌≤◌, length, get_or, ap, ◌∙◌, arith}
use Rattle.std.specs.Prelude.{◌≢◌}
use Rattle.osm_o5c.specs.Steps.Index.{strings_of, links_of, string_at, bucket_of, no_slot, Chained}
use Rattle.osm_o5c.specs.declared.chains.Slot.{Slot}
use Rattle.osm_o5c.proofs.IndexLemmas.{strings_length, last_found, none_in, bucket_is, any_default}
use Rattle.osm_o5c.proofs.chains.Chains.last_in.Goals as goal

-- a head that isn't recent leads to no string that can be named
pub returns-then-not-is_recent : goal.returns-then-not-is_recent
returns-then-not-is_recent c =
    let whole : Chained = record {
      strings = strings_of c.self.inside.bytes.items c.self.inside.slots.items;
      links =
          links_of c.self.inside.slots.items;
      heads = c.self.inside.heads.items;
    } in
    let many = c.self.invariant.heads_are in
    let size = strings_length c.self.inside.bytes.items c.self.inside.slots.items in
    let bound : c.args.bucket < length c.self.inside.heads.items = omega (arith, c.requires) in
    let is : c.index.result.now ≡ get_or c.self.inside.heads.items c.args.bucket 0 =
    any_default c.self.inside.heads.items c.args.bucket c.index.result.now 0 bound (search rules) in
    let none : 0 < c.index.result.now → c.index.result.now ≤ length whole.strings
    → length whole.strings < c.index.result.now + 15000
    → bucket_of (string_at whole.strings (c.index.result.now - 1)) ≢ c.args.bucket =
    λ p q r. (let within : c.index.result.now ≤ length c.self.inside.slots.items = omega arith in
    let near : length c.self.inside.slots.items < c.index.result.now + 15000 = omega arith in
    absurd (search rules)) in
    rw (← c.self.view_is) (none_in whole c.args.bucket c.index.result.now is none)

-- nor does a head that leads into another bucket
pub returns-then-bucket_for-bucket : goal.returns-then-bucket_for-bucket
returns-then-bucket_for-bucket c =
    let whole : Chained = record {
      strings = strings_of c.self.inside.bytes.items c.self.inside.slots.items;
      links =
          links_of c.self.inside.slots.items;
      heads = c.self.inside.heads.items;
    } in
    let many = c.self.invariant.heads_are in
    let size = strings_length c.self.inside.bytes.items c.self.inside.slots.items in
    let bound : c.args.bucket < length c.self.inside.heads.items = omega (arith, c.requires) in
    let is : c.index.result.now ≡ get_or c.self.inside.heads.items c.args.bucket 0 =
    any_default c.self.inside.heads.items c.args.bucket c.index.result.now 0 bound (search rules) in
    let there : c.index.result.now - 1 < length c.self.inside.slots.items = search rules in
    let at : c.index-2.result.now ≡ get_or c.self.inside.slots.items (c.index.result.now - 1) no_slot =
    any_default c.self.inside.slots.items (c.index.result.now - 1) c.index-2.result.now no_slot there
    (search rules) in
    let other : c.index-2.result.now.hash / 131072 ≢ c.args.bucket = search rules in
    let bucket : c.index-2.result.now.hash / 131072 ≡ bucket_of (string_at whole.strings (c.index.result.now - 1)) =
    ap (λ (x : Slot). x.hash / 131072) at ∙ bucket_is c.self.inside.bytes.items c.self.inside.slots.items
    c.self.inside.heads.items (c.index.result.now - 1) c.self.invariant there in
    let none : 0 < c.index.result.now → c.index.result.now ≤ length whole.strings
    → length whole.strings < c.index.result.now + 15000
    → bucket_of (string_at whole.strings (c.index.result.now - 1)) ≢ c.args.bucket =
    λ p q r e. other (bucket ∙ e) in
    rw (← c.self.view_is) (none_in whole c.args.bucket c.index.result.now is none)

pub returns : goal.returns
returns c =
    let whole : Chained = record {
      strings = strings_of c.self.inside.bytes.items c.self.inside.slots.items;
      links =
          links_of c.self.inside.slots.items;
      heads = c.self.inside.heads.items;
    } in
    let many = c.self.invariant.heads_are in
    let size = strings_length c.self.inside.bytes.items c.self.inside.slots.items in
    let bound : c.args.bucket < length c.self.inside.heads.items = omega (arith, c.requires) in
    let is : c.index.result.now ≡ get_or c.self.inside.heads.items c.args.bucket 0 =
    any_default c.self.inside.heads.items c.args.bucket c.index.result.now 0 bound (search rules) in
    let within : c.index.result.now ≤ length c.self.inside.slots.items = search rules in
    rw (← c.self.view_is) (last_found whole c.args.bucket c.index.result.now is (omega arith))
