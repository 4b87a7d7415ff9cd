-- What core and joined memory mean.
use Rattle.std.specs.Prelude.{ℕ, ◌*◌, ◌/◌, min, List, ◌++◌, length, take, drop}

-- how many of n words are in whole blocks of 8192, eight blocks at most
abbrev pub whole : ℕ → ℕ
whole n = 8192 * min 8 (n / 8192)

-- the words that are core memory: the whole blocks at the front
abbrev pub front : List ℕ → List ℕ
front ws = take (whole (length ws)) ws

-- the words behind those
abbrev pub behind : List ℕ → List ℕ
behind ws = drop (whole (length ws)) ws

-- the words of two memories, one after the other, cut at 65536
abbrev pub joint : List ℕ → List ℕ → List ℕ
joint xs ys = take 65536 (xs ++ ys)
