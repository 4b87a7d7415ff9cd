-- What lines are made of, piece by piece.
use Rattle.std.proofs.Common.{◌≡◌, ℕ, ◌+◌, ◌<◌, List, [], ◌∷◌, ◌++◌, length, get_or, take, codes, sym, refl, ap, ◌∙◌}
use Rattle.std.proofs.lemmas.List.{take_more}
use Rattle.listing.specs.Text.{hex, hex_words}

-- one more word at the end
hex_push : (ws : List ℕ) (w : ℕ) → hex_words (ws ++ (w ∷ [])) ≡ hex_words ws ++ (codes " " ++ hex w)
hex_push [] w = refl
hex_push (v ∷ ws) w = ap (λ l. codes " " ++ (hex v ++ l)) (hex_push ws w)

-- the words before place i, and the word there
pub hex_more : (ws : List ℕ) (i : ℕ) → i < length ws → hex_words (take i ws) ++ (codes " " ++ hex (get_or ws i 0)) ≡ hex_words (take (i + 1) ws)
hex_more ws i h = sym (ap hex_words (take_more ws i 0 h) ∙ hex_push (take i ws) (get_or ws i 0))
