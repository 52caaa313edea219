-- Laws behind the height in a junction: the lines around a square, the square itself, the squares that are tried, and the cases of the height. Assumes nothing.
use Rattle.std.proofs.Common.{◌≡◌, ℕ, ◌+◌, ◌-◌, ◌*◌, ◌<◌, ◌≤◌, Bool, true, false, ◌&&◌, T, List, length, ℤ, refl, ap, ◌∙◌, arith, le-ltb, lt-ltb, Some, None}
use lib.IntN.{pred_ℤ, sub_ℕ}
use lib.Ieee.{Float, le, eq, neg, to_signed}
use Rattle.rounding.proofs.Laws.Order.{T_of}
use Rattle.shape.specs.Double.{0d, 1d, ◌⊟◌}
use Rattle.shape.specs.Elevation.{
  Spot,
  row_of,
  column_of,
  row_count,
  value_of,
  line_of,
  frame_of,
  coefficients_of,
  surface_of,
  with_height,
  square_of,
  in_square,
  or_spot,
  tried_at,
  tried,
  on_grid,
  floored,
  within,
  count,
}
use Rattle.shape.specs.ElevationSteps.{Placed, Near}
use Rattle.shape.specs.declared.elevation.Line.{Line}
use Rattle.shape.specs.declared.elevation.Place.{Place}
use Rattle.shape.proofs.Heights.{next_line, after_line, last_line, row_line, no_row, near_row, near_column}

-- ---- a line

module _ (z : ℤ → Spot) (j : ℕ) (h : 0 < j) where
  pub line_is : (a b c d : Spot) → a ≡ z (sub_ℕ (j - 1) 2048) → b ≡ z (sub_ℕ j 2048) → c ≡ z (sub_ℕ (j + 1) 2048) → d ≡ z (sub_ℕ (j + 2) 2048)
      → ◌≡◌ {A = Line} (record { before = a; first = b; second = c; after = d }) (line_of z (sub_ℕ j 2048))
  unfolding line_of
  line_is a b c d e f g i =
      rw (e ∙ ap z (last_line j 2048 h), f, g ∙ ap z (next_line j 2048), i ∙ ap z (after_line j 2048))

abbrev none : Line
none = record { before = None; first = None; second = None; after = None }

module _ (rows : List ℕ) (left right : List Float) (i : ℕ) (j : ℤ) where
  pub line_held : 2048 ≤ i → 6 * (i - 2048) + 5 < length rows → line_of (column_of left right (row_of rows (i - 2048))) j ≡ line_of (value_of rows left right (sub_ℕ i 2048)) j
  unfolding line_of value_of
  line_held h k = let e : i - 2048 < row_count rows = omega arith in rw (row_line i h, lt-ltb (i - 2048) (row_count rows) e)

  pub line_past : 2048 ≤ i → length rows ≤ 6 * (i - 2048) + 5 → none ≡ line_of (value_of rows left right (sub_ℕ i 2048)) j
  unfolding line_of value_of
  line_past h k = let e : row_count rows ≤ i - 2048 = omega arith in rw (row_line i h, le-ltb (i - 2048) (row_count rows) e)

  pub line_below : i < 2048 → none ≡ line_of (value_of rows left right (sub_ℕ i 2048)) j
  unfolding line_of value_of
  line_below h = rw (no_row i h)

-- ---- a square, by its corners

module _ (p q r w : Line) (x y : Float) where
  pub none_1 : q.first ≡ None → None ≡ square_of p q r w x y
  unfolding square_of with_height
  none_1 e = rw e

  pub none_2 : {a : Float} → q.first ≡ Some a → q.second ≡ None → None ≡ square_of p q r w x y
  unfolding square_of with_height
  none_2 e f = rw (e, f)

  pub none_3 : {a b : Float} → q.first ≡ Some a → q.second ≡ Some b → r.first ≡ None → None ≡ square_of p q r w x y
  unfolding square_of with_height
  none_3 e f g = rw (e, f, g)

  pub none_4 : {a b c : Float} → q.first ≡ Some a → q.second ≡ Some b → r.first ≡ Some c → r.second ≡ None → None ≡ square_of p q r w x y
  unfolding square_of with_height
  none_4 e f g h = rw (e, f, g, h)

  pub whole : {a b c d : Float} → q.first ≡ Some a → q.second ≡ Some b → r.first ≡ Some c → r.second ≡ Some d
      → Some (surface_of (coefficients_of (frame_of p q r w a b c d)) x y) ≡ square_of p q r w x y
  unfolding square_of with_height
  whole e f g h = rw (e, f, g, h)

module _ (z : ℤ → ℤ → Spot) (i : ℕ) (j : ℤ) (x y : Float) (h : 0 < i) {p q r w : Line} where
  pub square_is : p ≡ line_of (z (sub_ℕ (i - 1) 2048)) j → q ≡ line_of (z (sub_ℕ i 2048)) j → r ≡ line_of (z (sub_ℕ (i + 1) 2048)) j → w ≡ line_of (z (sub_ℕ (i + 2) 2048)) j
      → square_of p q r w x y ≡ in_square z (sub_ℕ i 2048) x j y
  unfolding in_square
  square_is a b c d =
      rw (
        a ∙ ap (λ (k : ℤ). line_of (z k) j) (last_line i 2048 h),
        b,
        c ∙ ap (λ (k : ℤ). line_of (z k) j) (next_line i 2048),
        d ∙ ap (λ (k : ℤ). line_of (z k) j) (after_line i 2048),
      )

-- ---- the squares that are tried

module _ (f : ℤ → Float → Spot) (i : ℤ) (part : Float) where
  pub tried_first : {z : Float} → eq part 0d ≡ true → f i 0d ≡ Some z → Some z ≡ tried_at f i part
  unfolding tried_at or_spot
  tried_first e g = rw (e, g)

  pub tried_second : {r : Spot} → eq part 0d ≡ true → f i 0d ≡ None → r ≡ f (pred_ℤ i) 1d → r ≡ tried_at f i part
  unfolding tried_at or_spot
  tried_second {r} e g k = rw (e, g) k

pub tried_below : (f : ℤ → Float → Spot) (j : ℕ) (part : Float) {r : Spot} → 0 < j → eq part 0d ≡ true → f (sub_ℕ j 2048) 0d ≡ None → r ≡ f (sub_ℕ (j - 1) 2048) 1d → r ≡ tried_at f (sub_ℕ j 2048) part
tried_below f j part h e g k = tried_second f (sub_ℕ j 2048) part e g (k ∙ ap (λ (l : ℤ). f l 1d) (last_line j 2048 h))

placed_is : (f : ℤ → Float → Spot) (at : Float) (p : Place) → Placed at p → tried_at f (sub_ℕ p.line 2048) p.part ≡ tried f at
unfolding tried
placed_is f at p h = ap (λ (l : ℤ). tried_at f l p.part) h.line ∙ ap (λ (c : Float). tried_at f (to_signed 63 (floored at)) c) h.part

same_tried : (z : ℤ → ℤ → Spot) (u v : Float)
    → tried (λ (i : ℤ) (x : Float). tried_at (λ (j : ℤ) (y : Float). in_square z i x j y) (to_signed 63 (floored v)) (v ⊟ floored v)) u
    ≡ tried (λ (i : ℤ) (x : Float). tried (λ (j : ℤ) (y : Float). in_square z i x j y) v) u
unfolding tried
same_tried z u v = refl

pub on_grid_is : (z : ℤ → ℤ → Spot) (u v : Float) (a b : Place) → Placed u a → Placed v b
    → tried_at (λ (i : ℤ) (x : Float). tried_at (λ (j : ℤ) (y : Float). in_square z i x j y) (sub_ℕ b.line 2048) b.part) (sub_ℕ a.line 2048) a.part ≡ on_grid z u v
unfolding on_grid
on_grid_is z u v a b p q =
    placed_is (λ (i : ℤ) (x : Float). tried_at (λ (j : ℤ) (y : Float). in_square z i x j y) (sub_ℕ b.line 2048) b.part) u a p
    ∙ ap (λ (l : ℤ). tried (λ (i : ℤ) (x : Float). tried_at (λ (j : ℤ) (y : Float). in_square z i x j y) l b.part) u) q.line
    ∙ ap (λ (c : Float). tried (λ (i : ℤ) (x : Float). tried_at (λ (j : ℤ) (y : Float). in_square z i x j y) (to_signed 63 (floored v)) c) u) q.part
    ∙ same_tried z u v

-- ---- the cases of the height

and_both : (a b : Bool) → T (a && b) → T a × T b
and_both true b h = (tt, h)
and_both false b h = absurd h

-- a coordinate within the grid is within the limits
module _ (lo x hi : Float) (e : within lo x hi ≡ true) where
  inside : T (le lo x) × T (le x hi)
  unfolding within
  inside = and_both (le lo x) (le x hi) (T_of e)

pub row_near : (u : Float) (n : ℕ) → n ≤ 1024 → within 0d u (count n) ≡ true → Near u
row_near u n h e = let p = inside 0d u (count n) e in near_row u n h p.0 p.1

pub column_near : (v : Float) (n : ℕ) → n ≤ 1024 → within (neg (count n)) v (count n) ≡ true → Near v
column_near v n h e = let p = inside (neg (count n)) v (count n) e in near_column v n h p.0 p.1
