-- No field of a line that spells a change holds a blank.
use Rattle.std.proofs.Common.{ℕ, ◌≤◌, Bool, true, false, List, ◌∷◌, arith, lit≤}
use Rattle.std.specs.Prelude.{◌≢◌, ◌/◌, ℤ}
use Rattle.std.specs.List.{AllByRecursion}
use Rattle.osm_model.specs.Change.{ChangeValue}
use Rattle.osm_model.specs.Limits.{IsId}
use Rattle.osm_model.specs.Lists.{IsTag}
use Rattle.osm_model.specs.Time.{Moment, TimeText, last_digit, moment_text}
use Rattle.osm_model.specs.declared.change.What.{What}
use Rattle.osm_model.specs.declared.kind.Kind.{Kind}
use Rattle.osm_model.specs.declared.kind.Kind.TheVariants.{Node, Way, Relation}
use Rattle.osm_model.specs.declared.lists.Member.{Member}
use Rattle.osm_model.specs.declared.lists.Tag.{Tag}
use Rattle.osm_opl.specs.Coordinate.{SpellsCoordinate}
use Rattle.osm_opl.specs.Line.{SpellsLine, SpellsWhat, node, way, relation, deleted_node, deleted_way, deleted_relation}
use Rattle.osm_opl.specs.Lists.{SpellsList, SpellsTag, SpellsRef, SpellsMember, letter_of}
use Rattle.osm_opl.specs.Number.{SpellsNumber}
use Rattle.osm_opl.specs.Written.{visible_text}
use Rattle.osm_opl.specs.Reading.{member_at, ref_at, tag_at}
use Rattle.osm_reading.specs.Pieces.{Lacks}
use Rattle.osm_opl.proofs.NumberLaws.{id_lacks, digits_lack}
use Rattle.osm_opl.proofs.EscapeLaws.{text_lacks}
use Rattle.osm_opl.specs.Flat.{IsMember}
use Rattle.osm_opl.proofs.ListLaws.{IsBlank, list_lacks, members_read, refs_read, tags_read}
use Rattle.osm_opl.proofs.CoordinateLaws.{maybe_coordinate_lacks, longitude_read, latitude_read}
use Rattle.osm_opl.proofs.ObjectLaws.{is_standing}

tags_lack : (s : ℕ) (b : IsBlank s) (t : List ℕ) (tags : List Tag) → SpellsList SpellsTag t tags → Lacks s (84 ∷ t)
tags_lack s b t tags h = (λ e. omega (arith, e, b.low), list_lacks tag_at SpellsTag IsTag tags_read s b t tags h)

refs_lack : (s : ℕ) (b : IsBlank s) (n : List ℕ) (refs : List ℤ) → SpellsList SpellsRef n refs → Lacks s (78 ∷ n)
refs_lack s b n refs h = (λ e. omega (arith, e, b.low), list_lacks ref_at SpellsRef IsId refs_read s b n refs h)

members_lack : (s : ℕ) (b : IsBlank s) (m : List ℕ) (members : List Member) → SpellsList SpellsMember m members → Lacks s (77 ∷ m)
members_lack s b m members h = (λ e. omega (arith, e, b.low), list_lacks member_at SpellsMember IsMember members_read s b m members h)

coordinate_lack : (s : ℕ) (b : IsBlank s) (letter : ℕ) (x : List ℕ) (z : ℤ) → 37 ≤ letter → SpellsCoordinate x z → Lacks s (letter ∷ x)
coordinate_lack s b letter x z high h = (λ e. omega (arith, e, b.low), maybe_coordinate_lacks s b x z h)

what_lacks : (s : ℕ) (b : IsBlank s) (kind : Kind) (fields : List (List ℕ)) (w : What) → SpellsWhat kind fields w → AllByRecursion (Lacks s) fields
what_lacks s b _ _ _ (node t x y tags lon lat ts hx hy) = (
  tags_lack s b t tags ts,
  (
    coordinate_lack s b 120 x lon (lit≤ tt) hx,
    (
      coordinate_lack s b 121 y lat (lit≤ tt) hy,
      tt,
    ),
  ),
)
what_lacks s b _ _ _ (way t n tags refs ts rs) = (tags_lack s b t tags ts, (refs_lack s b n refs rs, tt))
what_lacks s b _ _ _ (relation t m tags members ts ms) = (tags_lack s b t tags ts, (members_lack s b m members ms, tt))
what_lacks s b _ _ _ (deleted_node t x y tags ts are hx hy) = (
  tags_lack s b t tags ts,
  (
    (λ e. omega (arith, e, b.low), (longitude_read x hx).lacks s b),
    ((λ e. omega (arith, e, b.low), (latitude_read y hy).lacks s b), tt),
  ),
)
what_lacks s b _ _ _ (deleted_way t n tags refs ts are rs within) = (tags_lack s b t tags ts, (refs_lack s b n refs rs, tt))
what_lacks s b _ _ _ (deleted_relation t m tags members ts are ms within) = (tags_lack s b t tags ts, (members_lack s b m members ms, tt))

number_lack : (s : ℕ) (b : IsBlank s) (letter : ℕ) (bytes : List ℕ) (n : ℕ) → 37 ≤ letter → SpellsNumber bytes n → Lacks s (letter ∷ bytes)
number_lack s b letter bytes n high h = (λ e. omega (arith, e, b.low), digits_lack 10 s bytes (omega (arith, b.far)) h.numeral.1)

letter_isnt : (s : ℕ) (b : IsBlank s) (kind : Kind) → letter_of kind ≢ s
letter_isnt s b Node = λ e. omega (arith, e, b.low)
letter_isnt s b Way = λ e. omega (arith, e, b.low)
letter_isnt s b Relation = λ e. omega (arith, e, b.low)

visible_lacks : (s : ℕ) (b : IsBlank s) (v : Bool) → Lacks s (100 ∷ visible_text v)
visible_lacks s b true = (λ e. omega (arith, e, b.low), (λ e. omega (arith, e, b.low), tt))
visible_lacks s b false = (λ e. omega (arith, e, b.low), (λ e. omega (arith, e, b.low), tt))

digit_isnt : (s : ℕ) (b : IsBlank s) (n : ℕ) → last_digit n ≢ s
digit_isnt s b n = λ e. omega (arith, e, b.low)

moment_lacks : (s : ℕ) (b : IsBlank s) (m : Moment) → Lacks s (moment_text m)
moment_lacks s b m = (
  digit_isnt s b (m.year / 1000),
  (
    digit_isnt s b (m.year / 100),
    (
      digit_isnt s b (m.year / 10),
      (
        digit_isnt s b (m.year),
        (
          (λ e. omega (arith, e, b.low)),
          (
            digit_isnt s b (m.month / 10),
            (
              digit_isnt s b (m.month),
              (
                (λ e. omega (arith, e, b.low)),
                (
                  digit_isnt s b (m.day / 10),
                  (
                    digit_isnt s b (m.day),
                    (
                      (λ e. omega (arith, e, b.low)),
                      (
                        digit_isnt s b (m.hour / 10),
                        (
                          digit_isnt s b (m.hour),
                          (
                            (λ e. omega (arith, e, b.low)),
                            (
                              digit_isnt s b (m.minute / 10),
                              (
                                digit_isnt s b (m.minute),
                                (
                                  (λ e. omega (arith, e, b.low)),
                                  (digit_isnt s b (m.second / 10), (digit_isnt s b (m.second), ((λ e. omega (arith, e, b.low)), tt))),
                                ),
                              ),
                            ),
                          ),
                        ),
                      ),
                    ),
                  ),
                ),
              ),
            ),
          ),
        ),
      ),
    ),
  ),
)

time_lacks : (s : ℕ) (b : IsBlank s) (bytes : List ℕ) (t : ℕ) → TimeText bytes t → Lacks s bytes
time_lacks s b bytes t h = let e = h.shows.text in rw e (moment_lacks s b h.shows.moment)

-- the fields of a line
abbrev pub fields_of : Kind → List ℕ → List ℕ → Bool → List ℕ → List ℕ → List ℕ → List ℕ → List (List ℕ) → List (List ℕ)
fields_of kind id version v changeset time uid user fields =
    (letter_of kind ∷ id) ∷ (118 ∷ version) ∷ (100 ∷ visible_text v) ∷ (99 ∷ changeset) ∷ (116 ∷ time) ∷ (105 ∷ uid) ∷ (117 ∷ user) ∷ fields

pub fields_lack : (s : ℕ) (b : IsBlank s) (line : List ℕ) (c : ChangeValue) (l : SpellsLine line c)
    → AllByRecursion (Lacks s) (fields_of c.key.kind l.id_text l.version_text (is_standing c.what) l.changeset_text
    l.time_text l.uid_text l.user_text l.fields)
fields_lack s b line c l = (
  (letter_isnt s b c.key.kind, id_lacks s l.id_text c.key.id (omega (arith, b.far)) (λ e. omega (arith, e, b.low)) (λ e. omega (arith, e, b.low)) l.id),
  (
    number_lack s b 118 l.version_text c.meta.version (lit≤ tt) l.version,
    (
      visible_lacks s b (is_standing c.what),
      (
        number_lack s b 99 l.changeset_text c.meta.changeset (lit≤ tt) l.changeset,
        (
          (λ e. omega (arith, e, b.low), time_lacks s b l.time_text c.meta.time l.time),
          (
            number_lack s b 105 l.uid_text c.meta.uid (lit≤ tt) l.uid,
            (
              (λ e. omega (arith, e, b.low), text_lacks s l.user_text c.meta.user b.reserved (λ e. omega (arith, e, b.low)) b.far l.user),
              what_lacks s b c.key.kind l.fields c.what l.what,
            ),
          ),
        ),
      ),
    ),
  ),
)
