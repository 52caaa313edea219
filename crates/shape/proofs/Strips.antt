-- The strip of one lane: what is kept, legs from one rib to the next, and how much a strip holds. Assumes nothing.
use Rattle.std.proofs.Common.{◌≡◌, ℕ, ◌+◌, ◌*◌, ◌<◌, ◌≤◌, Bool, true, false, cond, T, List, [], ◌∷◌, length, refl, add-one, arith, length-append, lt-ltb}
use lib.Ieee.{Float, lt, of_bits}
use Rattle.rounding.specs.Extremes.{max_of}
use Rattle.rounding.specs.Thresholds.{tenth}
use Rattle.rounding.proofs.Laws.Order.{lt_of_le_of_lt, not-T-of}
use Rattle.rounding.proofs.Laws.Extremes.{max_picks}
use Rattle.shape.specs.declared.rib.Rib.{Rib}
use Rattle.shape.specs.Strip.{
  Lane,
  leg_in,
  leg_out,
  triangle_of,
  segment_of,
  no_area,
  six_of,
  ups_of,
  vertices_at,
  normals_at,
  vertices_of,
  normals_of,
}
use Rattle.shape.proofs.Laws.Gather.{gather_even}

-- either of two within a bound is within it
pub cond_le : (k : Bool) (a b m : ℕ) → a ≤ m → b ≤ m → cond k a b ≤ m
cond_le true a b m p q = p
cond_le false a b m p q = q

pub cond_few {ℓ} : {A : Type ℓ} (k : Bool) (a : A) → length (cond k (a ∷ []) []) ≤ 1
cond_few true a = omega arith
cond_few false a = omega arith

not_so : (b : Bool) → (T b → ⊥) → b ≡ false
not_so true h = absurd (h tt)
not_so false h = refl

-- a step that is not above 0.1 is above no larger threshold
pub near : (q x : Float) → lt tenth x ≡ false → lt (max_of q tenth) x ≡ false
unfolding of_bits
near q x h = not_so (lt (max_of q tenth) x) (λ (p : T (lt (max_of q tenth) x)). not-T-of h (lt_of_le_of_lt tenth (max_of q tenth) x ((max_picks q tenth).right tt) p))

-- the leg out of a kept point is the leg into the next
pub leg_next : (ps : List Float) (ks : List ℕ) (i : ℕ) → i + 1 < length ks → leg_out ps ks i ≡ leg_in ps ks (i + 1)
unfolding leg_in leg_out
leg_next ps ks i h = rw (lt-ltb _ _ h, add-one)

pub vertices_length : (l : Lane) (ks : List ℕ) → length (vertices_of l ks) ≡ 6 * length ks
unfolding vertices_of six_of
vertices_length l ks = gather_even (vertices_at l ks) 6 (λ i. refl) (length ks)

pub normals_length : (l : Lane) (ks : List ℕ) → length (normals_of l ks) ≡ 6 * length ks
unfolding normals_of ups_of
normals_length l ks = gather_even (normals_at l ks) 6 (λ i. refl) (length ks)

pub segment_length : (v : ℕ) (a b : Rib) → length (segment_of v a b)
    ≡ length (triangle_of (no_area a.left a.right b.right) v (v + 1) (v + 3))
    + length (triangle_of (no_area a.left b.right b.left) v (v + 3) (v + 2))
unfolding segment_of
segment_length v a b =
    length-append (triangle_of (no_area a.left a.right b.right) v (v + 1) (v + 3))
    (triangle_of (no_area a.left b.right b.left) v (v + 3) (v + 2))
