-- The box around corners, and around two boxes, by comparisons that are right where the first of two is a number. Assumes nothing.
use Rattle.std.proofs.Common.{◌≡◌, ℕ, Bool, true, false, T, List, sym, ap, ◌∙◌, subst, Option, Some, None}
use lib.Dec.{not_T}
use lib.Ieee.{Float, binary32, add, lt, le, ne}
use lib.Ieee.Bits.{is_true, is_false}
use Rattle.rounding.specs.Extremes.{first, ge, min_of, max_of}
use Rattle.rounding.proofs.Choosing.{second, first_kept, lt_not_le}
use Rattle.rounding.proofs.Laws.Order.{T_of, num_of_same, nan_of_differs, lt_num_left, lt_num_right, le_of_not_lt}
use Rattle.rounding.specs.Numbers.{IsNum}
use Rattle.rounding.proofs.Laws.Sums.{add_num_left, add_num_right, sub_num_left}
use Rattle.vector.specs.declared.coords.Point.{Point}
use Rattle.lookup.specs.declared.mesh.Triangle.{Triangle}
use Rattle.lookup.specs.Mesh.{corners_of}
use Rattle.lookup.specs.Box.{around_of, slack_of, grown_of, grown_box, box_of, merge_of}
use Rattle.lookup.specs.Index.{block_of, blocks_of}
use Rattle.lookup.specs.declared.frame.Frame.{Frame}
use Rattle.lookup.specs.declared.frame.Block.{Block}
use Rattle.lookup.specs.Steps.{Picked, Sound}
use Rattle.lookup.specs.declared.boxes.Aabb.{Aabb}

-- ---- two numbers

pub differs_not : (x : Float) → ne x x ≡ true → IsNum x → ⊥
differs_not x e n = subst IsNum (nan_of_differs x e) n

stays : (rel : Float → Float → Bool) (x y : Float) → IsNum x → (IsNum y → rel x y ≡ true) → x ≡ first rel x y
stays rel x y p h = first_kept rel x y (is_false (ne x x) (not_T (ne x x) (λ (t : T (ne x x)). differs_not x (is_true (ne x x) t) p))) h

is_le : (x y : Float) → lt x y ≡ false → IsNum x → IsNum y → le y x ≡ true
is_le x y e p q = is_true (le y x) (le_of_not_lt x y p q e)

pub lower_moves : (x y : Float) → lt y x ≡ true → Picked min_of x y y
unfolding min_of
lower_moves x y e = let p = lt_num_right y x (T_of e) in let q = lt_num_left y x (T_of e) in record { is = λ _. second le x y q (lt_not_le y x e); num = λ _. q; back = λ _. p }

pub lower_stays : (x y : Float) → lt y x ≡ false → Picked min_of x y x
unfolding min_of
lower_stays x y e = record { is = λ p. stays le x y p (λ q. is_le y x e q p); num = λ p. p; back = λ p. p }

pub upper_moves : (x y : Float) → lt x y ≡ true → Picked max_of x y y
unfolding max_of
upper_moves x y e = let p = lt_num_left x y (T_of e) in let q = lt_num_right x y (T_of e) in record { is = λ _. second ge x y q (lt_not_le x y e); num = λ _. q; back = λ _. p }

pub upper_stays : (x y : Float) → lt x y ≡ false → Picked max_of x y x
unfolding max_of
upper_stays x y e = record { is = λ p. stays ge x y p (λ q. is_le x y e p q); num = λ p. p; back = λ p. p }

-- ---- three

module _ (pick : Float → Float → Float) (x y z p r : Float) (one : Picked pick x y p) (two : Picked pick p z r) where
  three : IsNum x → r ≡ pick (pick x y) z
  three n = two.is (one.num n) ∙ ap (λ (w : Float). pick w z) (one.is n)

  three_back : IsNum r → IsNum x
  three_back n = one.back (two.back n)

-- ---- boxes

module _ (a b c : Point) (l₁ l₂ l₃ l₄ u₁ u₂ u₃ u₄ : Float)
    (A : Picked min_of a.x b.x l₁) (B : Picked min_of l₁ c.x l₂) (C : Picked min_of a.y b.y l₃) (D : Picked min_of l₃ c.y l₄)
    (E : Picked max_of a.x b.x u₁) (F : Picked max_of u₁ c.x u₂) (G : Picked max_of a.y b.y u₃) (H : Picked max_of u₃ c.y u₄) where
  leveled : IsNum a.x → IsNum a.y → ◌≡◌ {A = Aabb} (record { min_x = l₂; min_y = l₄; max_x = u₂; max_y = u₄ }) (around_of a b c)
  unfolding around_of
  leveled nx ny =
      rw (
        three min_of a.x b.x c.x l₁ l₂ A B nx,
        three min_of a.y b.y c.y l₃ l₄ C D ny,
        three max_of a.x b.x c.x u₁ u₂ E F nx,
        three max_of a.y b.y c.y u₃ u₄ G H ny,
      )

  pub compares : IsNum l₂ → IsNum l₄ → ◌≡◌ {A = Aabb} (record { min_x = l₂; min_y = l₄; max_x = u₂; max_y = u₄ }) (around_of a b c)
  compares p q = leveled (three_back min_of a.x b.x c.x l₁ l₂ A B p) (three_back min_of a.y b.y c.y l₃ l₄ C D q)

-- two whose sum is a number
pub summed : (x y : Float) → (let s = add binary32 x y in ne s s ≡ false) → IsNum x × IsNum y
summed x y e = let n : IsNum (add binary32 x y) = num_of_same (add binary32 x y) e in (add_num_left binary32 x y n, add_num_right binary32 x y n)

-- a bound that was moved out is a number only where it was one before
pub grown_back : (e g : Aabb) → g ≡ grown_of e → (IsNum g.min_x → IsNum e.min_x) × (IsNum g.min_y → IsNum e.min_y)
unfolding grown_of
grown_back e g j = (
  λ p. sub_num_left binary32 e.min_x (slack_of e) (subst (λ (b : Aabb). IsNum b.min_x) j p),
  λ p. sub_num_left binary32 e.min_y (slack_of e) (subst (λ (b : Aabb). IsNum b.min_y) j p),
)

pub merged : (a b : Aabb) (l m u v : Float) → Sound a
    → Picked min_of a.min_x b.min_x l → Picked min_of a.min_y b.min_y m → Picked max_of a.max_x b.max_x u → Picked max_of a.max_y b.max_y v
    → (◌≡◌ {A = Aabb} (record { min_x = l; max_x = u; min_y = m; max_y = v }) (merge_of a b)) × Sound (record { min_x = l; max_x = u; min_y = m; max_y = v })
unfolding merge_of
merged a b l m u v s L M U W = (
  rw (L.is s.least_x, M.is s.least_y, U.is s.most_x, W.is s.most_y),
  record { least_x = L.num s.least_x; most_x = U.num s.most_x; least_y = M.num s.least_y; most_y = W.num s.most_y },
)

-- ---- a box that is there, or not

box_in : Aabb → (Option Aabb) → Aabb
box_in d (Some b) = b
box_in d None = d

IsBox : (Option Aabb) → Type 0
IsBox (Some b) = Unit {0}
IsBox None = ⊥

pub box_inj : (a b : Aabb) → Some a ≡ Some b → b ≡ a
unfolding box_in
box_inj a b e = sym (ap (box_in a) e)

pub none_no_box : {P : Type 0} (b : Aabb) → None ≡ Some b → P
unfolding IsBox
none_no_box b e = absurd (subst IsBox (sym e) tt)

-- ---- the box of a triangle whose corners are there

pub box_quick : (vs : List Float) (is : List ℕ) (t : ℕ) (k : Triangle) (e g : Aabb) → corners_of vs is t ≡ Some k → e ≡ around_of k.a k.b k.c → g ≡ grown_of e → box_of vs is t ≡ Some g
unfolding box_of grown_box
box_quick vs is t k e g h i j = ap grown_box h ∙ ap (λ (x : Aabb). Some (grown_of x)) (sym i) ∙ ap Some (sym j)

pub block_quick :
    (vs : List Float) (is : List ℕ) (f : Frame) (t : ℕ) (k : Triangle) (e g : Aabb) (r : Block) → Some k ≡ corners_of vs is t →
    e ≡ around_of k.a k.b k.c → g ≡ grown_of e → r ≡ block_of f (Some g) → r ≡ blocks_of vs is f t
unfolding blocks_of
block_quick vs is f t k e g r h i j o = o ∙ ap (block_of f) (sym (box_quick vs is t k e g (sym h) i j))

-- and the block of one that is missing
pub block_missing : (vs : List Float) (is : List ℕ) (f : Frame) (t : ℕ) → None ≡ corners_of vs is t → ◌≡◌ {A = Block} (record { left = 1; right = 0; low = 1; high = 0 }) (blocks_of vs is f t)
unfolding blocks_of block_of box_of grown_box
block_missing vs is f t h = ap (λ (x : Option Triangle). block_of f (grown_box x)) h
