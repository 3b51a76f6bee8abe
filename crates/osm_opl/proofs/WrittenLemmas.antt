-- What has been written so far.
use Rattle.std.proofs.Common.{◌≡◌, ℕ, zero, suc, ◌+◌, ◌-◌, ◌*◌, ◌/◌, ◌%◌, ◌^◌, ◌<◌, ◌≤◌, Bool, true, false, cond, List, [], ℤ}
use Rattle.std.proofs.Common.{◌∷◌, ◌++◌, length, get_or, take, drop, refl, sym, ap, ◌∙◌, append_assoc, arith, lit<}
use Rattle.std.specs.Prelude.{Result, Ok, Err, OnErr, ◌&&◌, codes, min, nat_le, nat_lt, not, ◌==◌}
use Rattle.std.specs.Io.{StartsWith}
use Rattle.std.proofs.Math.Nat.{pow-le-pow_right}
use Rattle.std.proofs.lemmas.Bool.Decides.{nat_tests}
use Rattle.std.proofs.lemmas.List.{append-nil, drop-drop, drop_all, drop_more, length-take, length-append, take-append-drop}
use Rattle.std.proofs.lemmas.List.{take-take, take_at, take_more}
use Rattle.std.specs.Char.{digit_char}
use Rattle.std.specs.Char.{encode_utf8}
use Rattle.std.specs.Fmt.{signed_decimal}
use Rattle.std.specs.List.{list_all}
use Rattle.std.specs.Str.{IsAscii, IsUtf8, chars}
use Rattle.std.proofs.lemmas.Str.{IsUtf8-past_char, chars-IsAscii, chars_past_char}
use Rattle.osm_model.specs.Change.{ChangeValue}
use Rattle.osm_model.specs.Flat.{flat_meta, flat_node}
use Rattle.osm_model.specs.Limits.{max_file}
use Rattle.osm_reading.proofs.StepLemmas.{both_held}
use Rattle.osm_opl.specs.Escape.{is_reserved}
use Rattle.osm_model.specs.CivilTime.{time_text}
use Rattle.osm_model.specs.Meta.{MetaValue}
use Rattle.osm_model.specs.declared.change.What.{What}
use Rattle.osm_model.specs.declared.change.What.TheVariants as whats
use Rattle.osm_model.specs.declared.flat.FlatNode.{FlatNode}
use Rattle.osm_model.specs.declared.kind.Key.{Key}
use Rattle.osm_model.specs.declared.kind.Kind.{Kind}
use Rattle.osm_model.specs.declared.kind.Kind.TheVariants as kinds
use Rattle.osm_model.specs.declared.lists.Tag.{Tag}
use Rattle.osm_opl.specs.Line.{status_text}
use Rattle.osm_opl.specs.Steps.Writing.{items_left, line_start, location_text, node_text, pair_text, rest_text, role_text, user_start}
use Rattle.osm_opl.specs.Written.{hex_count, is_written_bare, line_text, opl_text, char_text, chars_text, escaped_text, hex_digits}
use Rattle.osm_opl.specs.Written.{coordinate_field, items_text, key_text, members_field, meta_text, more_items, number_field}
use Rattle.osm_opl.specs.Written.{ref_text, refs_field, tag_text, version_fields, visible_text, what_text}

-- what was appended comes after what was there
pub starts_append : (old prefix : List ℕ) → StartsWith (old ++ prefix) old
starts_append old prefix = take_at old prefix (length old) refl

-- the rest of what is to be written follows what was written
pub record Writes (old new rest whole : List ℕ) : Type 0 where
  pub prefix : List ℕ
  pub written : new ≡ old ++ prefix
  pub same : prefix ++ rest ≡ whole

pub writes_nothing : (old whole : List ℕ) → Writes old old whole whole
writes_nothing old whole = record { prefix = []; written = sym (append-nil old); same = refl }

pub writes_more : (old new rest whole part after next : List ℕ) → Writes old new rest whole → rest ≡ part ++ after
    → next ≡ new ++ part → Writes old next after whole
writes_more old new rest whole part after next h e n = record {
  prefix = h.prefix ++ part;
  written = n ∙ ap (λ (l : List ℕ). l ++ part) h.written ∙ append_assoc old h.prefix part;
  same = append_assoc h.prefix part after ∙ ap (λ (l : List ℕ). h.prefix ++ l) (sym e) ∙ h.same;
}

pub writes_all : (old new whole : List ℕ) → Writes old new [] whole → new ≡ old ++ whole
writes_all old new whole h = h.written ∙ ap (λ (l : List ℕ). old ++ l) (sym (append-nil h.prefix) ∙ h.same)

pub writes_start : (old new rest whole : List ℕ) → Writes old new rest whole → StartsWith new old
writes_start old new rest whole h = rw h.written (starts_append old h.prefix)

-- a failed append keeps what was there
pub starts_more : (old new next : List ℕ) → StartsWith new old → StartsWith next new → StartsWith next old
starts_more old new next p q =
    let n : min (length old) (length new) ≡ length old = sym (length-take (length old) new) ∙ ap length p in
    let le : length old ≤ length new = omega arith in
    sym (take-take (length old) (length new) next le) ∙ ap (λ (l : List ℕ). take (length old) l) q ∙ p

-- ---- hexadecimal digits

-- the escape of a code below 256 has two digits
pub two_hex_digits : (c : ℕ) → c < 256 → hex_digits (hex_count c) c ≡ digit_char (c / 16) ∷ digit_char (c % 16) ∷ []
unfolding hex_digits
two_hex_digits c h =
    let test : nat_lt c 0x100 ≡ true = grind (arith, nat_tests) in
    let first : c / 16 ^ 1 % 16 ≡ c / 16 = omega arith in
    let second : c / 16 ^ 0 % 16 ≡ c % 16 = omega arith in
    rw test (rw (first, second) refl)

pub record HexWritten (old new : List ℕ) (code count left : ℕ) : Type 0 where
  pub few : left ≤ 6
  pub writes : Writes old new (hex_digits left code) (hex_digits count code)

pub hex_more : (old new next : List ℕ) (code count left : ℕ) → HexWritten old new code count left → 0 < left
    → next ≡ new ++ digit_char (code / 16 ^ (left - 1) % 16) ∷ [] → HexWritten old next code count (left - 1)
unfolding hex_digits
hex_more old new next code count zero h some n = absurd (omega arith)
hex_more old new next code count (suc k) h some n =
    let few : suc k ≤ 6 = h.few in
    let back : suc k - 1 ≡ k = omega arith in
    let m : next ≡ new ++ digit_char (code / 16 ^ k % 16) ∷ [] = rw back at n in
    rw back (record {
      few = omega arith;
      writes = writes_more old new (hex_digits (suc k) code) (hex_digits count code)
          (digit_char (code / 16 ^ k % 16) ∷ []) (hex_digits k code) next h.writes refl m;
    })

pub hex_done : (old new : List ℕ) (code count left : ℕ) → HexWritten old new code count left → left ≡ 0 → new ≡ old ++ hex_digits count code
unfolding hex_digits
hex_done old new code count left h e =
    let none : hex_digits left code ≡ [] = rw e refl in
    writes_all old new (hex_digits count code) (rw none at h.writes)

pub hex_scale : (k : ℕ) → k < 6 → 16 ^ k < 2 ^ 32
hex_scale k h = let l : 16 ^ k ≤ 16 ^ 5 = pow-le-pow_right {n = 16} (lit< tt) {i = k} {j = 5} (omega arith) in omega arith

-- ---- lists

abbrev pub comma : Bool → List ℕ
comma is_first = cond is_first [] (44 ∷ [])

pub record ItemsWritten {X : Type 0} (text : X → List ℕ) (old new : List ℕ) (xs : List X) (is_first : Bool) (i : ℕ) : Type 0 where
  pub writes : Writes old new (items_left text is_first (drop i xs)) (items_text text xs)

pub item_step : {X : Type 0} (text : X → List ℕ) (is_first : Bool) (x : X) (xs : List X)
    → items_left text is_first (x ∷ xs) ≡ (comma is_first ++ text x) ++ more_items text xs
item_step text true x xs = refl
item_step text false x xs = refl

pub items_more : {X : Type 0} (text : X → List ℕ) (old new next : List ℕ) (xs : List X) (is_first : Bool) (i : ℕ)
    (x : X) → ItemsWritten text old new xs is_first i → i < length xs → x ≡ get_or xs i x → next ≡ new
    ++ (comma is_first ++ text x) → ItemsWritten text old next xs false (i + 1)
items_more text old new next xs is_first i x h lt is whole =
    let more : drop i xs ≡ x ∷ drop (i + 1) xs = drop_more xs i x lt ∙ ap (λ (y : _). y ∷ drop (i + 1) xs) (sym is) in
    let step : items_left text is_first (drop i xs) ≡ (comma is_first ++ text x) ++ more_items text (drop (i + 1) xs) =
    rw more (item_step text is_first x (drop (i + 1) xs)) in
    record {
      writes = writes_more old new (items_left text is_first (drop i xs)) (items_text text xs)
          (comma is_first ++ text x) (more_items text (drop (i + 1) xs)) next h.writes step whole;
    }

pub no_items : {X : Type 0} (text : X → List ℕ) (is_first : Bool) → items_left text is_first [] ≡ []
no_items text true = refl
no_items text false = refl

more_split : {X : Type 0} (text : X → List ℕ) (xs ys : List X) → more_items text (xs ++ ys) ≡ more_items text xs ++ more_items text ys
more_split text [] ys = refl
more_split text (x ∷ xs) ys =
    ap (λ (l : List ℕ). 44 ∷ text x ++ l) (more_split text xs ys)
    ∙ ap (λ (l : List ℕ). 44 ∷ l) (sym (append_assoc (text x) (more_items text xs) (more_items text ys)))

-- some of the items that are left, and the others
pub left_split : {X : Type 0} (text : X → List ℕ) (is_first : Bool) (xs ys : List X) → 0 < length xs
    → items_left text is_first (xs ++ ys) ≡ items_left text is_first xs ++ more_items text ys
left_split text is_first [] ys some = absurd (omega arith)
left_split text true (x ∷ xs) ys some =
    ap (λ (l : List ℕ). text x ++ l) (more_split text xs ys) ∙ sym (append_assoc (text x) (more_items text xs) (more_items text ys))
left_split text false xs ys some = more_split text xs ys

pub items_start : {X : Type 0} (text : X → List ℕ) (old new : List ℕ) (xs : List X) (is_first : Bool) (i : ℕ)
    → ItemsWritten text old new xs is_first i → StartsWith new old
items_start text old new xs is_first i h = writes_start old new (items_left text is_first (drop i xs)) (items_text text xs) h.writes

-- the nodes of a way from the last on are in the room
pub record RefsPut (room : List ℕ) (start left : ℕ) (refs : List ℤ) : Type 0 where
  pub among : left ≤ length refs
  pub most : 192 ≤ start + 22 * (length refs - left)
  pub least : start + (length refs - left) ≤ 192
  pub written : drop start room ≡ more_items ref_text (drop left refs)

pub refs_begun : (room : List ℕ) (refs : List ℤ) → length room ≡ 192 → RefsPut room 192 (length refs) refs
refs_begun room refs long = record {
  among = omega arith;
  most = omega arith;
  least = omega arith;
  written = drop_all 192 room (omega arith) ∙ sym (ap (λ (l : List ℤ). more_items ref_text l) (drop_all (length refs) refs (omega arith)));
}

pub refs_more : (room next : List ℕ) (start at left : ℕ) (refs : List ℤ) (id : ℤ) → RefsPut room start left refs → 0 < left
    → start ≤ at + 22 → at + 1 ≤ start → id ≡ get_or refs (left - 1) id
    → drop at next ≡ 44 ∷ 110 ∷ (signed_decimal id ++ drop start room) → RefsPut next at (left - 1) refs
refs_more room next start at left refs id h some most least is put =
    let among : left ≤ length refs = h.among in
    let back : left - 1 + 1 ≡ left = omega arith in
    let more : drop (left - 1) refs ≡ id ∷ drop left refs =
    drop_more refs (left - 1) id (omega arith) ∙ ap (λ (y : ℤ). y ∷ drop (left - 1 + 1) refs) (sym is)
    ∙ ap (λ (k : ℕ). id ∷ drop k refs) back in
    record {
      among = omega arith;
      most = let m = h.most in omega arith;
      least = let m = h.least in omega arith;
      written = put ∙ ap (λ (l : List ℕ). 44 ∷ 110 ∷ (signed_decimal id ++ l)) h.written
          ∙ sym (ap (λ (l : List ℤ). more_items ref_text l) more);
    }

-- without the first comma
pub refs_first : (room : List ℕ) (start : ℕ) (refs : List ℤ) → RefsPut room start 0 refs → 1 ≤ length refs
    → drop (start + 1) room ≡ items_left ref_text true refs
refs_first room start [] h some = absurd (omega arith)
refs_first room start (id ∷ refs) h some = sym (drop-drop 1 start room) ∙ ap (drop 1) h.written

pub on_err : {T E : Type 0} (r : Result T E) (P : Type 0) → P → OnErr r P
on_err (Ok x) P p = tt
on_err (Err e) P p = p

-- ---- texts

-- the rest of a text is left to write
pub record TextWritten (old new text rest : List ℕ) : Type 0 where
  pub utf8 : IsUtf8 rest
  pub writes : Writes old new (escaped_text rest) (escaped_text text)

pub text_more : (old new next text rest after : List ℕ) (c : ℕ) → TextWritten old new text rest → rest ≡ encode_utf8 c
    ++ after → next ≡ new ++ char_text c → TextWritten old next text after
unfolding escaped_text
text_more old new next text rest after c h e n =
    let step : chars rest ≡ c ∷ chars after = chars_past_char rest after c h.utf8 e in
    record {
      utf8 = IsUtf8-past_char rest after c h.utf8 e;
      writes =
          writes_more old new (escaped_text rest) (escaped_text text) (char_text c) (escaped_text after) next h.writes
          (ap chars_text step) n;
    }

pub text_done : (old new text rest : List ℕ) → TextWritten old new text rest → length rest ≡ 0 → new ≡ old ++ escaped_text text
unfolding escaped_text chars
text_done old new text [] h e = writes_all old new (escaped_text text) h.writes
text_done old new text (b ∷ bs) h e = absurd (omega arith)

pub ascii_if_bare : (bytes : List ℕ) → list_all is_written_bare bytes ≡ true → IsAscii bytes
ascii_if_bare [] e i = lit< tt
ascii_if_bare (b ∷ bs) e zero =
    let p = both_held (is_written_bare b) (list_all is_written_bare bs) e in
    let q = both_held (nat_le 0x21 b && nat_le b 0x7e) (not (is_reserved b)) p.0 in
    let r = both_held (nat_le 0x21 b) (nat_le b 0x7e) q.0 in
    let test : nat_le b 0x7e ≡ true = r.1 in
    grind (arith, nat_tests)
ascii_if_bare (b ∷ bs) e (suc i) = ascii_if_bare bs (both_held (is_written_bare b) (list_all is_written_bare bs) e).1 i

pub bare_chars : (bytes : List ℕ) → list_all is_written_bare bytes ≡ true → chars_text bytes ≡ bytes
unfolding char_text
bare_chars [] e = refl
bare_chars (b ∷ bs) e =
    let p = both_held (is_written_bare b) (list_all is_written_bare bs) e in
    rw (p.0, bare_chars bs p.1) refl

-- a text that needs no escape is written as it is
pub written_as_it_is : (bytes : List ℕ) → list_all is_written_bare bytes ≡ true → escaped_text bytes ≡ bytes
unfolding escaped_text
written_as_it_is bytes e = ap chars_text (chars-IsAscii bytes (ascii_if_bare bytes e)) ∙ bare_chars bytes e

pub text_start : (old new text rest : List ℕ) → TextWritten old new text rest → StartsWith new old
text_start old new text rest h = writes_start old new (escaped_text rest) (escaped_text text) h.writes

-- whatever keeps the result of an append also keeps what was there before the append
pub starts_back : (old mid new part : List ℕ) → mid ≡ old ++ part → StartsWith new mid → StartsWith new old
starts_back old mid new part e h = starts_more old mid new (rw e (starts_append old part)) h

-- a tag whose texts need no escape is written as it is
pub bare_pair : (key value : List ℕ) → list_all is_written_bare key ≡ true → list_all is_written_bare value ≡ true
    → key ++ 61 ∷ value ≡ pair_text key value
bare_pair key value k v = rw (written_as_it_is key k, written_as_it_is value v) refl

-- a member whose role needs no escape is written as it is
pub bare_role : (key : Key) (role : List ℕ) → list_all is_written_bare role ≡ true → key_text key ++ 64 ∷ role ≡ role_text key role
bare_role key role bare = rw (written_as_it_is role bare) refl

-- ---- lines

regrouped : (a b t n u w z : List ℕ) → ((a ++ b) ++ (t ++ (n ++ u))) ++ (w ++ z) ≡ (a ++ (b ++ (t ++ (n ++ (u ++ w))))) ++ z
regrouped a b t n u w z =
    append_assoc (a ++ b) (t ++ (n ++ u)) (w ++ z) ∙ append_assoc a b ((t ++ (n ++ u)) ++ (w ++ z))
    ∙ ap (λ (l : List ℕ). a ++ (b ++ l))
    (append_assoc t (n ++ u) (w ++ z)
    ∙ ap (λ (l : List ℕ). t ++ l) (append_assoc n u (w ++ z) ∙ ap (λ (l : List ℕ). n ++ l) (sym (append_assoc u w z))))
    ∙ sym (append_assoc a (b ++ (t ++ (n ++ (u ++ w)))) z
    ∙ ap (λ (l : List ℕ). a ++ l)
    (append_assoc b (t ++ (n ++ (u ++ w))) z
    ∙ ap (λ (l : List ℕ). b ++ l)
    (append_assoc t (n ++ (u ++ w)) z ∙ ap (λ (l : List ℕ). t ++ l) (append_assoc n (u ++ w) z))))

-- the texts up to the name, a name that needs no escape, and ` T` are the start of a line
pub start_with_name : (key : Key) (is_visible : Bool) (m : MetaValue) (name : List ℕ)
    → name ≡ m.user → list_all is_written_bare name ≡ true
    → ((key_text key ++ version_fields (visible_text is_visible) m) ++ user_start m) ++ (name ++ codes " T")
    ≡ line_start key is_visible m
unfolding time_text escaped_text
start_with_name key is_visible m name e bare =
    let same : name ≡ escaped_text m.user = sym (written_as_it_is name bare) ∙ ap escaped_text e in
    regrouped (key_text key) (version_fields (visible_text is_visible) m) (codes " t" ++ time_text m.time)
    (number_field (codes " i") m.uid) (codes " u") name (codes " T")
    ∙ ap (λ (w : List ℕ). (key_text key ++ (version_fields (visible_text is_visible) m
    ++ ((codes " t" ++ time_text m.time) ++ (number_field (codes " i") m.uid ++ (codes " u" ++ w))))) ++ codes " T") same

-- a list that has no item
pub no_item : {X : Type 0} (xs : List X) (is_empty : Bool) → is_empty ≡ (length xs == 0) → is_empty ≡ true → xs ≡ []
no_item [] is_empty e t = refl
no_item (x ∷ xs) is_empty e t = absurd (let h : (suc (length xs) == 0) ≡ true = sym e ∙ t in grind (arith, nat_tests))

-- what follows the start of a line, with the ` T` that ends the start
rest_split : (head : List ℕ) (kind : Kind) (what : What) → (head ++ codes " T") ++ rest_text kind what ≡ head ++ what_text kind what
rest_split head kind (whats.Node lon lat tags) =
    append_assoc head (codes " T") (items_text tag_text tags ++ location_text lon lat)
    ∙ ap (λ (l : List ℕ). head ++ (codes " T" ++ l))
    (sym (append_assoc (items_text tag_text tags) (coordinate_field (codes " x") lon) (coordinate_field (codes " y") lat)))
rest_split head kind (whats.Way refs tags) = append_assoc head (codes " T") (items_text tag_text tags ++ refs_field refs)
rest_split head kind (whats.Relation members tags) = append_assoc head (codes " T") (items_text tag_text tags ++ members_field members)
rest_split head kinds.Node whats.Deleted = append_assoc head (codes " T") (codes " x y")
rest_split head kinds.Way whats.Deleted = append_assoc head (codes " T") (codes " N")
rest_split head kinds.Relation whats.Deleted = append_assoc head (codes " T") (codes " M")

-- a line is its start and what follows it
pub line_parts : (c : ChangeValue) (is_visible : Bool) → visible_text is_visible ≡ status_text c.what
    → line_start c.key is_visible c.meta ++ rest_text c.key.kind c.what ≡ line_text c
unfolding line_text
line_parts c is_visible e =
    ap (λ (s : List ℕ). ((key_text c.key ++ meta_text s c.meta) ++ codes " T") ++ rest_text c.key.kind c.what) e
    ∙ rest_split (key_text c.key ++ meta_text (status_text c.what) c.meta) c.key.kind c.what

-- the line of a node without tags
pub untagged : (c : ChangeValue) (lon lat : ℤ) → c.what ≡ whats.Node lon lat [] → node_text c.key c.meta lon lat ≡ line_text c
unfolding line_text
untagged c lon lat e = rw e (append_assoc (key_text c.key ++ meta_text (visible_text true) c.meta) (codes " T") (location_text lon lat))

-- the line of a node whose texts aren't owned
pub flat_line : (n : FlatNode) (tags : List Tag) (m : MetaValue) → m ≡ flat_meta n.meta
    → line_start (flat_node n tags).key true m ++ (items_text tag_text tags ++ location_text n.lon n.lat) ≡ line_text (flat_node n tags)
flat_line n tags m e =
    ap (λ (x : MetaValue). line_start (flat_node n tags).key true x ++ (items_text tag_text tags ++ location_text n.lon n.lat)) e
    ∙ line_parts (flat_node n tags) true refl

-- ---- files

opl_text-append : (xs ys : List ChangeValue) → opl_text (xs ++ ys) ≡ opl_text xs ++ opl_text ys
unfolding opl_text
opl_text-append [] ys = refl
opl_text-append (x ∷ xs) ys = ap (λ (l : List ℕ). line_text x ++ 10 ∷ l) (opl_text-append xs ys)
    ∙ sym (append_assoc (line_text x) (10 ∷ opl_text xs) (opl_text ys))

-- the lines of the first changes
pub record FileWritten (text : List ℕ) (changes : List ChangeValue) (i : ℕ) : Type 0 where
  pub same : text ≡ opl_text (take i changes)
  pub small : length text ≤ max_file

pub file_begun : (changes : List ChangeValue) → FileWritten [] changes 0
unfolding opl_text
file_begun changes = record { same = refl; small = omega arith }

pub file_more : (text next : List ℕ) (changes : List ChangeValue) (i : ℕ) (c : ChangeValue) → FileWritten text changes i
    → i < length changes → c ≡ get_or changes i c → next ≡ text ++ (line_text c ++ 10 ∷ [])
    → next ≡ opl_text (take (i + 1) changes)
unfolding opl_text
file_more text next changes i c h lt is n =
    let more : take (i + 1) changes ≡ take i changes ++ c ∷ [] = take_more changes i c lt ∙ ap (λ (d : ChangeValue). take i changes ++ d ∷ []) (sym is) in
    n ∙ ap (λ (l : List ℕ). l ++ (line_text c ++ 10 ∷ [])) h.same ∙ sym (opl_text-append (take i changes) (c ∷ [])) ∙ ap opl_text (sym more)

-- the lines of the first changes are no longer than those of all
pub file_prefix : (text : List ℕ) (changes : List ChangeValue) (i : ℕ) → text ≡ opl_text (take i changes)
    → max_file < length text → max_file < length (opl_text changes)
file_prefix text changes i e h =
    let whole : opl_text changes ≡ opl_text (take i changes) ++ opl_text (drop i changes) =
    ap opl_text (sym (take-append-drop i changes)) ∙ opl_text-append (take i changes) (drop i changes) in
    let l : length (opl_text changes) ≡ length (opl_text (take i changes)) + length (opl_text (drop i changes)) =
    ap length whole ∙ length-append (opl_text (take i changes)) (opl_text (drop i changes)) in
    let m : length text ≡ length (opl_text (take i changes)) = ap length e in
    omega arith
