use Rattle.std.proofs.Common.{rules, ◌≡◌, ◌/◌, ◌*◌, ◌-◌, length, drop, arith, IsTrue, ◌∙◌, sym, ap}
use Rattle.std.specs.Simd.{first_chunks}
use Rattle.osm_o5c.proofs.SameLemmas.{covered, same_front}
use Rattle.osm_o5c.proofs.same_bytes.are_same.Goals as goal

-- the words are all but fewer than eight bytes, which the last eight have
pub returns-then-are_same_words : goal.returns-then-are_same_words
returns-then-are_same_words c =
    let size : length c.args.bytes.now ≡ length c.args.other.now = search rules in
    let chunks : first_chunks 8 (length c.args.bytes.now / 8) c.args.other.now ≡ c.as_chunks-2.result.0.now =
    ap (λ n. first_chunks 8 (n / 8) c.args.other.now) size ∙ sym c.as_chunks-2.ensures.front in
    let last : c.in-Some-Some.last.now ≡ drop (length c.args.bytes.now - 8) c.args.bytes.now = search rules in
    let other_last : c.in-Some-Some.other_last.now ≡ drop (length c.args.other.now - 8) c.args.other.now =
    search rules in
    let other_end : drop (length c.args.bytes.now - 8) c.args.other.now ≡ c.in-Some-Some.other_last.now =
    ap (λ n. drop (n - 8) c.args.other.now) size ∙ sym other_last in
    let forth : IsTrue c.is_same_word.result → c.args.bytes.now ≡ c.args.other.now = λ same.
    (let words : c.as_chunks.result.0.now ≡ c.as_chunks-2.result.0.now = search rules in
    let ends : c.in-Some-Some.last.now ≡ c.in-Some-Some.other_last.now = search rules in
    covered (length c.args.bytes.now / 8 * 8) (length c.args.bytes.now - 8) c.args.bytes.now c.args.other.now
    (omega arith) (same_front (length c.args.bytes.now / 8) c.args.bytes.now c.args.other.now
    (sym c.as_chunks.ensures.front ∙ words ∙ sym chunks)) (sym last ∙ ends ∙ sym other_end)) in
    let back : c.args.bytes.now ≡ c.args.other.now → IsTrue c.is_same_word.result = λ same.
    (let ends : c.in-Some-Some.last.now ≡ c.in-Some-Some.other_last.now =
    last ∙ ap (λ bytes. drop (length bytes - 8) bytes) same ∙ sym other_last in search rules) in
    (forth, back)
