use Rattle.std.proofs.Common.{◌≡◌, ◌++◌, take, drop, rules, sym, ap, ◌∙◌}
use Rattle.std.proofs.lemmas.List.{take-append-drop}
use Rattle.osm_opl.proofs.last_time.is_same_date.Goals as goal

pub returns-then-is_same_word : goal.returns-then-is_same_word
returns-then-is_same_word c = λ same.
    let first : c.in-Some-Some.first.now ≡ take 8 c.args.date.now = search rules in
    let other_first : c.in-Some-Some.other_first.now ≡ take 8 c.args.other.now = search rules in
    let last : c.in-Some-Some-2.last.now ≡ drop 8 c.args.date.now = search rules in
    let other_last : c.in-Some-Some-2.other_last.now ≡ drop 8 c.args.other.now = search rules in
    let fronts : c.in-Some-Some.first.now ≡ c.in-Some-Some.other_first.now = search rules in
    let ends : c.in-Some-Some-2.last.now ≡ c.in-Some-Some-2.other_last.now = search rules in
    sym (take-append-drop 8 c.args.date.now) ∙ ap (λ a. a ++ drop 8 c.args.date.now) (sym first ∙ fronts ∙ other_first)
    ∙ ap (λ b. take 8 c.args.other.now ++ b) (sym last ∙ ends ∙ other_last) ∙ take-append-drop 8 c.args.other.now
