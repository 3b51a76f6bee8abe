use Rattle.std.proofs.Common.{◌≡◌, ◌++◌, take, drop, rules, sym, ap, ◌∙◌}
use Rattle.std.proofs.lemmas.List.{take-append-drop}
use Rattle.osm_opl.proofs.last_time.is_same.Goals as goal

pub returns-then-is_same_date : goal.returns-then-is_same_date
returns-then-is_same_date c = λ same.
    let date : c.in-Some-Some.date.now ≡ take 16 c.args.text.now = search rules in
    let other_date : c.in-Some-Some.other_date.now ≡ take 16 c.args.other.now = search rules in
    let end : c.in-Some-Some-2.end.now ≡ drop 16 c.args.text.now = search rules in
    let other_end : c.in-Some-Some-2.other_end.now ≡ drop 16 c.args.other.now = search rules in
    let dates : c.in-Some-Some.date.now ≡ c.in-Some-Some.other_date.now = search rules in
    let ends : c.in-Some-Some-2.end.now ≡ c.in-Some-Some-2.other_end.now = search rules in
    sym (take-append-drop 16 c.args.text.now) ∙ ap (λ a. a ++ drop 16 c.args.text.now) (sym date ∙ dates ∙ other_date)
    ∙ ap (λ b. take 16 c.args.other.now ++ b) (sym end ∙ ends ∙ other_end) ∙ take-append-drop 16 c.args.other.now
