-- The height and the normal of an answer are singles: each comes out of an operation that rounds to one. Assumes nothing.
use Prim.Native.Nat.{ℕ, ◌/◌}
use mathlib.Core.Path.{◌≡◌, sym, subst}
use mathlib.Core.Bool.{Bool, true, false, ◌&&◌, cond}
use mathlib.Core.List.{List}
use lib.Dec.{T, ltb}
use lib.Ieee.{Float, binary32, lt, fits}
use lib.Ieee.Bits.{of_bits-fits}
use lib.Ieee.Fits.{neg-fits, add-fits, mul-fits}
use lib.Ieee.Scale.{finite}
use lib.ListN.{length}
use Rattle.vector.specs.Single.{◌⊘◌, 0f, 1f}
use Rattle.vector.specs.Coords.{point_sub, cross_of, length_of, vector_mul, vector_neg, up_vector, normalize_or}
use Rattle.vector.specs.declared.coords.Point.{Point}
use Rattle.vector.specs.declared.coords.Vector.{Vector}
use Rattle.shape.specs.Lists.{Mesh}
use Rattle.shape.specs.Refusal.{taken}
use Rattle.lookup.specs.declared.mesh.Weights.{Weights}
use Rattle.lookup.specs.declared.sampler.Detail.{Detail}
use Rattle.lookup.specs.Mesh.{present, corner_of}
use Rattle.lookup.specs.Cover.{weights_at, lift_of, height_of, smooth_of, blend_of, flat_of, face_up, normal_of}
use Rattle.lookup.specs.Sampler.{hit, top_of}
use Rattle.lookup.proofs.Laws.Demand3.{hit_true}

abbrev pub SingleVector : Vector → Type 0
SingleVector n = T (fits binary32 n.x) × T (fits binary32 n.y) × T (fits binary32 n.z)

up_single : SingleVector up_vector
unfolding up_vector
up_single = (of_bits-fits binary32 _, of_bits-fits binary32 _, of_bits-fits binary32 _)

direction_single : (a : Vector) → SingleVector (normalize_or a up_vector)
unfolding normalize_or vector_mul
direction_single a = go (finite (length_of a) && lt 0f (length_of a))
  where
    go : (b : Bool) → SingleVector (cond b (vector_mul a (1f ⊘ length_of a)) up_vector)
    go true = (mul-fits binary32 _ _, mul-fits binary32 _ _, mul-fits binary32 _ _)
    go false = up_single

face_up_single : (n : Vector) → SingleVector n → SingleVector (face_up n)
unfolding face_up vector_neg
face_up_single n h = go (lt n.z 0f)
  where
    go : (b : Bool) → SingleVector (cond b (vector_neg n) n)
    go true = (neg-fits binary32 n.x h.0, neg-fits binary32 n.y h.1, neg-fits binary32 n.z h.2)
    go false = h

either_single : (b : Bool) (m n : Vector) → SingleVector m → SingleVector n → SingleVector (cond b m n)
either_single true m n h k = h
either_single false m n h k = k

flat_single : (a b c : Point) → SingleVector (flat_of a b c)
unfolding flat_of
flat_single a b c = direction_single (cross_of (point_sub b a) (point_sub c a))

blend_single : (ns : List Float) (is : List ℕ) (t : ℕ) (w : Weights) → SingleVector (blend_of ns is t w)
unfolding blend_of smooth_of
blend_single ns is t w = direction_single _

normal_single : (vs ns : List Float) (is : List ℕ) (t : ℕ) (x y : Float) → SingleVector (normal_of vs ns is t x y)
unfolding normal_of
normal_single vs ns is t x y =
    let a = flat_of (corner_of vs is t 0) (corner_of vs is t 1) (corner_of vs is t 2) in
    let b = blend_of ns is t (weights_at vs is t x y) in
    let c = ltb (length vs / 3) (length ns / 3) in
    either_single (present vs is t) (face_up (cond c a b)) up_vector
    (face_up_single (cond c a b)
    (either_single c a b (flat_single (corner_of vs is t 0) (corner_of vs is t 1) (corner_of vs is t 2)) (blend_single ns is t (weights_at vs is t x y))))
    up_single

height_single : (vs : List Float) (is : List ℕ) (t : ℕ) (x y : Float) → T (fits binary32 (height_of vs is t x y))
unfolding height_of lift_of
height_single vs is t x y = add-fits binary32 _ _

-- the answer at a point
module _ (m : Mesh) (ws : List ℕ) (x y : Float) {h : Float} {n : Vector} {t : ℕ} {d : Detail} (e : top_of m ws x y ≡ taken (hit h n t d)) where
  pub single_height : T (fits binary32 h)
  single_height =
      subst (λ (g : Float). T (fits binary32 g)) (sym (hit_true m ws x y h n t d e).is_height) (height_single m.vertices m.indices t x y)

  pub single_normal : SingleVector n
  single_normal = subst SingleVector (sym (hit_true m ws x y h n t d e).is_normal) (normal_single m.vertices m.normals m.indices t x y)
