-- The extent of a mesh's boxes holds each of them, NaN bounds passed over; its bounds are singles; and the cell's side is at least 1e-3. Assumes nothing.
use Rattle.std.specs.Prelude.{◌≡◌, ℕ, zero, suc, ◌/◌, ◌<◌, Bool, true, false, cond, ◌&&◌, T, List, length, pos, nat_lt, refl, Float, Option, Some, None}
use Rattle.std.proofs.Common.{sym, ap, ◌∙◌, subst, ⊎_elim, not-suc-le-zero, eq-or-lt_of_le, le_of_suc-le-suc, arith, ltb-true}
use Rattle.std.specs.Float.{fin}
use Rattle.std.specs.Float.Ieee.{binary32, fits, of_bits, eq, le}
use Rattle.std.specs.Float.Ieee.Fits.{add-fits, sub-fits, div-fits}
use Rattle.rounding.specs.Extremes.{min_of, max_of}
use Rattle.rounding.proofs.Laws.Order.{le_refl, le_trans, le_of_eq, le_num_left, le_num_right}
use Rattle.rounding.specs.Numbers.{IsNum}
use Rattle.rounding.proofs.Laws.Extremes.{Picks, min_picks, max_picks}
use Rattle.lookup.specs.declared.mesh.Triangle.{Triangle}
use Rattle.lookup.proofs.Laws.Column.{width_ge}
use Rattle.lookup.specs.Column.{Width}
use Rattle.rounding.proofs.Laws.Stored.{back, back_same}
use Rattle.vector.specs.Single.{◌⊘◌}
use Rattle.lookup.specs.Mesh.{triangles, present, corners_of, corner_of, index_of}
use Rattle.lookup.specs.Box.{grown_of, grown_box, box_of, merge_of}
use Rattle.lookup.specs.Frame.{join_of, extent_of, count_of, milli, cell_of}
use Rattle.lookup.proofs.Laws.Parts.{cases}
use Rattle.lookup.specs.declared.boxes.Aabb.{Aabb}

-- ---- the extent holds each box

-- e holds b, as far as the bounds of b are numbers
pub record Around (b e : Aabb) : Type 0 where
  pub left : IsNum b.min_x → T (le e.min_x b.min_x)
  pub right : IsNum b.max_x → T (le b.max_x e.max_x)
  pub low : IsNum b.min_y → T (le e.min_y b.min_y)
  pub high : IsNum b.max_y → T (le b.max_y e.max_y)

abbrev pub InExtent : Aabb → (Option Aabb) → Type 0
InExtent b (Some e) = Around b e
InExtent b None = ⊥

around_self : (b : Aabb) → Around b b
around_self b = record { left = λ n. le_refl b.min_x n; right = λ n. le_refl b.max_x n; low = λ n. le_refl b.min_y n; high = λ n. le_refl b.max_y n }

below : (b a c : Float) → T (le a b) → T (le (min_of a c) b)
below b a c h = le_trans (min_of a c) a b ((min_picks a c).left (le_num_left a b h)) h

above : (b a c : Float) → T (le b a) → T (le b (max_of a c))
above b a c h = le_trans b a (max_of a c) h ((max_picks a c).left (le_num_right b a h))

around_first : (b a c : Aabb) → Around b a → Around b (merge_of a c)
unfolding merge_of
around_first b a c r =
    record {
      left = λ n. below b.min_x a.min_x c.min_x (r.left n);
      right = λ n. above b.max_x a.max_x c.max_x (r.right n);
      low = λ n. below b.min_y a.min_y c.min_y (r.low n);
      high = λ n. above b.max_y a.max_y c.max_y (r.high n);
    }

around_second : (a b : Aabb) → Around b (merge_of a b)
unfolding merge_of
around_second a b =
    record {
      left = λ n. (min_picks a.min_x b.min_x).right n;
      right = λ n. (max_picks a.max_x b.max_x).right n;
      low = λ n. (min_picks a.min_y b.min_y).right n;
      high = λ n. (max_picks a.max_y b.max_y).right n;
    }

join_keeps : (b : Aabb) (x y : (Option Aabb)) → InExtent b x → InExtent b (join_of x y)
unfolding join_of
join_keeps b (Some a) (Some c) r = around_first b a c r
join_keeps b (Some a) None r = r
join_keeps b None y r = absurd r

join_takes : (b : Aabb) (x : (Option Aabb)) → InExtent b (join_of x (Some b))
unfolding join_of
join_takes b (Some a) = around_second a b
join_takes b None = around_self b

pub extent_holds : (vs : List Float) (is : List ℕ) (n t : ℕ) (b : Aabb) → t < n → box_of vs is t ≡ Some b → InExtent b (extent_of vs is n)
unfolding extent_of
extent_holds vs is zero t b l e = absurd (not-suc-le-zero l)
extent_holds vs is (suc n) t b l e =
    ⊎_elim
    (λ (w : t ≡ n). subst (λ (x : (Option Aabb)). InExtent b (join_of (extent_of vs is n) x)) (sym (ap (box_of vs is) (sym w) ∙ e)) (join_takes b (extent_of vs is n)))
    (λ (w : t < n). join_keeps b (extent_of vs is n) (box_of vs is n) (extent_holds vs is n t b w e))
    (eq-or-lt_of_le (le_of_suc-le-suc l))

-- ---- its bounds are singles

pub record Fit (b : Aabb) : Type 0 where
  pub left : T (fits binary32 b.min_x)
  pub right : T (fits binary32 b.max_x)
  pub low : T (fits binary32 b.min_y)
  pub high : T (fits binary32 b.max_y)

abbrev pub Fits : (Option Aabb) → Type 0
Fits (Some b) = Fit b
Fits None = Unit {0}

pick_fits : {rel : Float → Float → Bool} (x y r : Float) → Picks rel x y r → T (fits binary32 x) → T (fits binary32 y) → T (fits binary32 r)
pick_fits x y r p h k = ⊎_elim (λ e. subst (λ (z : Float). T (fits binary32 z)) (sym e) h) (λ e. subst (λ (z : Float). T (fits binary32 z)) (sym e) k) p.which

grown_fit : (b : Aabb) → Fit (grown_of b)
unfolding grown_of
grown_fit b = record { left = sub-fits binary32 _ _; right = add-fits binary32 _ _; low = sub-fits binary32 _ _; high = add-fits binary32 _ _ }

merge_fit : (a b : Aabb) → Fit a → Fit b → Fit (merge_of a b)
unfolding merge_of
merge_fit a b h k =
    record {
      left = pick_fits a.min_x b.min_x (min_of a.min_x b.min_x) (min_picks a.min_x b.min_x) h.left k.left;
      right = pick_fits a.max_x b.max_x (max_of a.max_x b.max_x) (max_picks a.max_x b.max_x) h.right k.right;
      low = pick_fits a.min_y b.min_y (min_of a.min_y b.min_y) (min_picks a.min_y b.min_y) h.low k.low;
      high = pick_fits a.max_y b.max_y (max_of a.max_y b.max_y) (max_picks a.max_y b.max_y) h.high k.high;
    }

box_fits : (vs : List Float) (is : List ℕ) (t : ℕ) → Fits (box_of vs is t)
unfolding box_of grown_box
box_fits vs is t = go (corners_of vs is t)
  where
    go : (c : Option Triangle) → Fits (grown_box c)
    go (Some k) = grown_fit _
    go None = tt

join_fits : (x y : (Option Aabb)) → Fits x → Fits y → Fits (join_of x y)
unfolding join_of
join_fits (Some a) (Some b) h k = merge_fit a b h k
join_fits (Some a) None h k = h
join_fits None (Some b) h k = k
join_fits None None h k = tt

pub extent_fits : (vs : List Float) (is : List ℕ) (n : ℕ) → Fits (extent_of vs is n)
unfolding extent_of
extent_fits vs is zero = tt
extent_fits vs is (suc n) = join_fits (extent_of vs is n) (box_of vs is n) (extent_fits vs is n) (box_fits vs is n)

-- ---- the side of a cell

milli_num : IsNum milli
unfolding of_bits
milli_num = tt

milli_fits : T (fits binary32 milli)
unfolding of_bits fits
milli_fits = tt

module _ (w h : Float) (cols rows : ℕ) where
  pub cell_least : T (le milli (cell_of w h cols rows))
  unfolding cell_of
  cell_least = (max_picks (max_of (w ⊘ count_of cols) (h ⊘ count_of rows)) milli).right milli_num

  cell_fits : T (fits binary32 (cell_of w h cols rows))
  unfolding cell_of
  cell_fits =
      let a = w ⊘ count_of cols in
      let b = h ⊘ count_of rows in
      pick_fits (max_of a b) milli (max_of (max_of a b) milli) (max_picks (max_of a b) milli)
      (pick_fits a b (max_of a b) (max_picks a b) (div-fits binary32 w (count_of cols)) (div-fits binary32 h (count_of rows))) milli_fits

  pub cell_width : Width (cell_of w h cols rows)
  unfolding of_bits
  cell_width = width_ge milli (cell_of w h cols rows) tt cell_least

  none : T (le milli (fin false 0 (pos 0))) → ⊥
  unfolding of_bits le
  none k = k

  pub cell_back : back (cell_of w h cols rows) ≡ cell_of w h cols rows
  cell_back = back_same (cell_of w h cols rows) cell_fits (cases (eq (cell_of w h cols rows) (fin false 0 (pos 0))) (λ e. absurd (positive (subst T (sym e) tt))) (λ e. e))
    where
      positive : T (eq (cell_of w h cols rows) (fin false 0 (pos 0))) → ⊥
      positive k = none (le_trans milli (cell_of w h cols rows) (fin false 0 (pos 0)) cell_least (le_of_eq (cell_of w h cols rows) (fin false 0 (pos 0)) k))

-- ---- a triangle with a box is one of the mesh

pub box_there : (vs : List Float) (is : List ℕ) (t : ℕ) (b : Aabb) → box_of vs is t ≡ Some b → t < triangles is
unfolding box_of corners_of grown_box present
box_there vs is t b e = go (nat_lt t (triangles is)) refl e
  where
    go : (k : Bool) → nat_lt t (triangles is) ≡ k
        → grown_box (cond (k && nat_lt (index_of is t 0) (length vs / 3) && nat_lt (index_of is t 1) (length vs / 3) && nat_lt (index_of is t 2) (length vs / 3)) (Some (record { a = corner_of vs is t 0; b = corner_of vs is t 1; c = corner_of vs is t 2 })) None) ≡ Some b
        → t < triangles is
    go true p q = ltb-true t (triangles is) p
    go false p q = absurd (let z : ◌≡◌ {A = ℕ} 0 1 = cc in omega arith)
