-- The lines of a listing, as lists of bytes without their line feeds.
use Rattle.std.specs.Prelude.{ℕ, List, [], ◌∷◌, ◌++◌, codes, decimal}
pub use Rattle.image.specs.Text.{fault_line, hex, hex_digit, layer_name, record_line, state_name}

-- how many records were loaded
abbrev pub loaded_line : ℕ → List ℕ
loaded_line n = codes "loaded " ++ (decimal n ++ codes " records")

-- each word after a blank
abbrev pub hex_words : List ℕ → List ℕ
hex_words [] = []
hex_words (w ∷ ws) = codes " " ++ (hex w ++ hex_words ws)

-- the protection registers, each after a blank
abbrev pub map_line : List ℕ → List ℕ
map_line ws = codes "map" ++ hex_words ws
