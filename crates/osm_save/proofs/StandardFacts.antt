-- The definition at saves that a person can check by eye.
use Rattle.std.proofs.Common.{◌≡◌, ℕ, List, [], ◌∷◌, ◌++◌, Some, None, refl, true, false}
use Rattle.std.specs.Prelude.{codes}
use Rattle.std.specs.Fmt.{digits}
use Rattle.osm_model.specs.Change.{ChangeValue}
use Rattle.osm_model.specs.CivilTime.{time_text}
use Rattle.osm_model.specs.Filter.{everything}
use Rattle.osm_mirror.specs.Mirror.{no_mirror}
use Rattle.osm_opl.specs.Written.{escaped_text, line_text}
use Rattle.osm_save.specs.Save.{save_lines, save_text}
use Rattle.osm_save.specs.declared.version.Version.TheVariants.{One, Three, Two}

-- the start, in all versions
nothing_saved : save_text Three (record { number = 0; base = 0; time = None; filter = everything; mirror = no_mirror }) ≡
    codes "osmrepl-save 3\nbase 0\nkinds nwr\nkeys 0\nsequence 0\ntime none\nobjects 0\nusers 0\nchangesets 0\nend\n"
unfolding save_text save_lines digits
nothing_saved = refl

nothing_saved_in_two : save_text Two (record { number = 0; base = 0; time = None; filter = everything; mirror = no_mirror }) ≡
    codes "osmrepl-save 2\nbase 0\nsequence 0\ntime none\nobjects 0\nusers 0\nchangesets 0\nend\n"
unfolding save_text save_lines digits
nothing_saved_in_two = refl

nothing_saved_in_one : save_text One (record { number = 0; base = 0; time = None; filter = everything; mirror = no_mirror }) ≡
    codes "osmrepl-save 1\nsequence 0\ntime none\nobjects 0\nusers 0\nchangesets 0\nend\n"
unfolding save_text save_lines digits
nothing_saved_in_one = refl

-- one object at sequence 12, with an edit by user 5 in changeset 7 after base 11, of the nodes and
-- ways with one of two keys
one_object_saved : (c : ChangeValue) (t : ℕ) (a b : List ℕ)
    → save_text Three (record {
      number = 12;
      base = 11;
      time = Some t;
      filter = record {
        nodes = true;
        ways = true;
        relations = false;
        keys = a ∷ b ∷ [];
      };
      mirror = record {
        objects = c ∷ [];
        users = (5, 1) ∷ [];
        changesets = (7, 1) ∷ [];
      };
    }) ≡ codes "osmrepl-save 3\nbase 11\nkinds nw\nkeys 2\n"
    ++ (escaped_text a ++ (10 ∷ escaped_text b ++ (codes "\nsequence 12\ntime "
    ++ (time_text t ++ (codes "\nobjects 1\n" ++ (line_text c ++ codes "\nusers 1\n5 1\nchangesets 1\n7 1\nend\n"))))))
unfolding save_text save_lines digits
one_object_saved c t a b = refl

-- the same without its filter in version 1, at base 0, as programs wrote it that knew no base
one_object_saved_in_one : (c : ChangeValue) (t : ℕ)
    → save_text One (record {
      number = 12;
      base = 0;
      time = Some t;
      filter = everything;
      mirror = record {
        objects = c ∷ [];
        users = (5, 1) ∷ [];
        changesets = (7, 1) ∷ [];
      };
    }) ≡ codes "osmrepl-save 1\nsequence 12\ntime "
    ++ (time_text t ++ (codes "\nobjects 1\n" ++ (line_text c ++ codes "\nusers 1\n5 1\nchangesets 1\n7 1\nend\n")))
unfolding save_text save_lines digits
one_object_saved_in_one c t = refl
