-- The cases of document 01, "Junction triangles", that are marked [P] and are about ears: one list of tests over the definitions, all true.
-- Assumes nothing.
use Rattle.std.specs.Prelude.{◌≡◌, Bool, true, List, [], ◌∷◌, refl, Float}
use Rattle.std.specs.Float.Ieee.{of_bits, of_fields, odd, sub, mul, add, neg, le, lt, sum, round, units, span, climb, size}
use Rattle.vector.specs.Single.{single, 0f}
use Rattle.shape.specs.Gather.{gather, any, least}
use Rattle.shape.specs.Lists.{point_at}
use Rattle.shape.proofs.CaseTests.{same, all}
use Rattle.shape.specs.Ears as ears
use Rattle.shape.specs.Ears.{ears_of}

-- 4
abbrev pub 4f : Float
4f = single 0x4080_0000

-- (0,0) (4,0) (4,4) (0,4), its reverse, and its first two points
abbrev pub square : List Float
square = 0f ∷ 0f ∷ 0f ∷ 4f ∷ 0f ∷ 0f ∷ 4f ∷ 4f ∷ 0f ∷ 0f ∷ 4f ∷ 0f ∷ []

abbrev backwards : List Float
backwards = 0f ∷ 4f ∷ 0f ∷ 4f ∷ 4f ∷ 0f ∷ 4f ∷ 0f ∷ 0f ∷ 0f ∷ 0f ∷ 0f ∷ []

abbrev two : List Float
two = 0f ∷ 0f ∷ 0f ∷ 4f ∷ 0f ∷ 0f ∷ []

abbrev pub ear_cases : List Bool
ear_cases =
    same (ears_of square) (3 ∷ 0 ∷ 1 ∷ 1 ∷ 2 ∷ 3 ∷ [])
    ∷ same (ears_of backwards) []
    ∷ same (ears_of two) []
    ∷ []

pub ear_cases_lem : all ear_cases ≡ true
unfolding of_bits of_fields odd sub mul add neg le lt sum round units span climb size gather any point_at ears.cross ears.inside ears.turns_left ears.blocks ears.ear_of ears.is_ear least ears.first_ear ears.ear_at ears.without ears.last_ear ears.cut_ears ears.up_to ears_of same all
ear_cases_lem = refl
