use Rattle.std.proofs.Common.{◌≡◌, ◌∷◌, rules, FitsSigned, w64}
use Rattle.std.proofs.lemmas.Int.{to_z-of_z}
use Rattle.osm_opl.proofs.FlatLemmas.{member_cut, no_member, no_role, no_kind, no_member_id, first_member_is}
use Rattle.osm_opl.proofs.flat_lists.cut_member.Goals as goal

pub returns-in_default-clause-first : goal.returns-in_default-clause-first
returns-in_default-clause-first c = λ m more h.
    no_member c.cut.result.0.now m (member_cut c.args.members.now c.cut.result.0.now m more c.cut.result.1 c.cut.ensures.first h).0 c.in_default.ensures.cases

pub returns-in_default-role-clause-first : goal.returns-in_default-role-clause-first
returns-in_default-role-clause-first c = λ m more h.
    let parts : c.cut.result.0.now ≡ c.in-Some.letter.now ∷ c.in-Some.named.now = search rules in
    let none = rw c.in_default-role.is at c.cut-2.ensures.first in
    no_role c.cut.result.0.now c.in-Some.letter.now c.in-Some.named.now m
    (member_cut c.args.members.now c.cut.result.0.now m more c.cut.result.1 c.cut.ensures.first h).0 parts none.0

pub returns-in_default-read_kind-clause-first : goal.returns-in_default-read_kind-clause-first
returns-in_default-read_kind-clause-first c = λ m more h.
    let parts : c.cut.result.0.now ≡ c.in-Some.letter.now ∷ c.in-Some.named.now = search rules in
    no_kind c.cut.result.0.now c.in-Some.letter.now c.in-Some.named.now m
    (member_cut c.args.members.now c.cut.result.0.now m more c.cut.result.1 c.cut.ensures.first h).0 parts c.in_default-read_kind.ensures

pub returns-in_default-read_id-clause-first : goal.returns-in_default-read_id-clause-first
returns-in_default-read_id-clause-first c = λ m more h.
    let parts : c.cut.result.0.now ≡ c.in-Some.letter.now ∷ c.in-Some.named.now = search rules in
    let some = rw c.in-Some-role.is at c.cut-2.ensures.first in
    no_member_id c.cut.result.0.now c.in-Some.letter.now c.in-Some.named.now c.cut-2.result.0.now c.in-Some-role.role.now m
    (member_cut c.args.members.now c.cut.result.0.now m more c.cut.result.1 c.cut.ensures.first h).0 parts some c.in_default-read_id.ensures.value

pub returns-clause-first : goal.returns-clause-first
returns-clause-first c = λ m more h.
    let parts : c.cut.result.0.now ≡ c.in-Some.letter.now ∷ c.in-Some.named.now = search rules in
    let some = rw c.in-Some-role.is at c.cut-2.ensures.first in
    let fits : FitsSigned w64 c.in-Ok-read_id.id = search rules in
    let both = member_cut c.args.members.now c.cut.result.0.now m more c.cut.result.1 c.cut.ensures.first h in
    simp to_z-of_z (first_member_is c.cut.result.0.now c.in-Some.letter.now c.in-Some.named.now c.cut-2.result.0.now
    c.in-Some-role.role.now c.in-Ok.kind c.in-Ok-read_id.id m more c.cut.result.1 both.0 parts some c.in-Ok.ensures
    c.in-Ok-read_id.ensures.value both.1)
