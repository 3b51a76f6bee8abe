-- Rows of CSV (RFC 4180), as the crate `csv` writes them with its defaults.
use Rattle.std.specs.Prelude.{ℕ, List}
use Rattle.csv.specs.Writing.{default_writer, row_text}

-- the fields with commas between them, and LF. A field with a comma, a quote, CR or LF is in
-- quotes, each quote written twice, and so is the empty field of a row that has no other
unfoldable pub csv_line : List (List ℕ) → List ℕ
csv_line fields = row_text default_writer fields
