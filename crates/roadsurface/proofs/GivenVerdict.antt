-- A verdict by its kind and counts: what `rs_validate` tells is taken as that verdict, and computed cases. Assumes nothing.
use Rattle.std.specs.Prelude.{◌≡◌, refl}
use Rattle.shape.specs.Refusal.{taken, refused, judge, refuse}
use Rattle.shape.specs.Verdict.{Validity, sound, empty, non_finite, out_of_range, degenerate}
use Rattle.lookup.proofs.Laws.Batch.{word_is}
use Rattle.surface.specs.Sentence.{Counted, counts_of}
use Rattle.roadsurface.specs.Answers.{counts_used, idle, verdict_fault, verdict_by, verdict_given, kind_of, place_put, index_put, vertices_put}

-- a verdict as it is told, with 0 where it tells nothing, is that verdict
pub given_told : (v : Validity) → Counted v → verdict_given (kind_of v) (place_put v 0) (index_put v 0) (vertices_put v 0) ≡ taken v
unfolding verdict_given verdict_fault verdict_by idle counts_used judge refuse kind_of place_put index_put vertices_put counts_of
given_told sound c = refl
given_told empty c = refl
given_told (non_finite v) c = rw (word_is v c.0) refl
given_told (out_of_range t i n) c = rw (word_is t c.0, word_is i c.1.0, word_is n c.1.1.0) refl
given_told (degenerate t) c = rw (word_is t c.0) refl

-- values that are no verdict, by the first that is wrong
pub no_verdicts :
    (verdict_given 5 9 9 9 ≡ refused 6 0)
    × (verdict_given 4294967295 0 0 0 ≡ refused 6 0)
    × (verdict_given 0 0 1 0 ≡ refused 6 2)
    × (verdict_given 0 0 0 5 ≡ refused 6 3)
    × (verdict_given 1 1 1 1 ≡ refused 6 1)
    × (verdict_given 2 7 0 1 ≡ refused 6 3)
    × (verdict_given 2 7 1 1 ≡ refused 6 2)
    × (verdict_given 4 7 7 0 ≡ refused 6 2)
unfolding verdict_given verdict_fault verdict_by idle counts_used judge refuse
no_verdicts = (refl, refl, refl, refl, refl, refl, refl, refl)
