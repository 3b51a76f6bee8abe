-- The text of a change file, written to a file that was begun.
use Rattle.std.specs.Prelude.{◌≡◌, ℕ, List, ◌++◌, ◌∷◌, []}
use Rattle.osm_model.specs.Change.{ChangeValue}
use Rattle.osm_o5c.specs.File.{end_byte}
use Rattle.osm_o5c.specs.Written.{objects_text}
use Rattle.osm_o5c.specs.declared.writer.Writer.{Writer}

-- what a file in the form o5c has from here on, if these changes come: first the bytes that were
-- made
abbrev pub o5c_ahead : Writer → List ChangeValue → List ℕ
o5c_ahead w changes = w.out.items ++ objects_text w.kind w.state changes ++ end_byte ∷ []
