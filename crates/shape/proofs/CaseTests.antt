-- Tests that the cases of document 01 are made of. Definitions only. Assumes nothing.
use Rattle.std.specs.Prelude.{ℕ, Bool, true, false, ◌&&◌, List, [], ◌∷◌, map, ◌==◌, to_bits, Float}
use Rattle.std.specs.Float.{binary32, binary64}

-- the same numbers
unfoldable pub same : List ℕ → List ℕ → Bool
same [] [] = true
same [] (y ∷ ys) = false
same (x ∷ xs) [] = false
same (x ∷ xs) (y ∷ ys) = x == y && same xs ys

-- the same singles, by their bits
abbrev pub same_singles : List Float → List Float → Bool
same_singles xs ys = same (map (to_bits binary32) xs) (map (to_bits binary32) ys)

-- the same doubles, by their bits
abbrev pub same_doubles : List Float → List Float → Bool
same_doubles xs ys = same (map (to_bits binary64) xs) (map (to_bits binary64) ys)

unfoldable pub all : List Bool → Bool
all [] = true
all (b ∷ bs) = b && all bs
