-- How far a box may reach from the column of its lower bound: what the walk over the columns knows, and how many entries there may then be. Assumes nothing.
use Rattle.std.proofs.Common.{◌≡◌, ℕ, zero, suc, ◌+◌, ◌-◌, ◌*◌, ◌^◌, ◌<◌, ◌≤◌, true, false, T, List, refl, inl, inr, zero-le, mul-le-mul, arith, Option, Some, None}
use lib.Ieee.{Float, nan, inf, fin, binary32, add, sub, lt, le, fits}
use lib.Ieee.Fits.{add-fits}
use Rattle.lookup.specs.declared.mesh.Triangle.{Triangle}
use Rattle.lookup.specs.Column.{col}
use Rattle.rounding.proofs.Laws.Order.{le_bottom, le_or_lt, le_of_lt, le_num_left, le_num_right, lt_num_left, lt_of_le_of_lt}
use Rattle.rounding.specs.Numbers.{IsNum}
use Rattle.lookup.proofs.Laws.Column.{col_mono, col_lt, low_bucket}
use Rattle.lookup.specs.Column.{Width}
use Rattle.rounding.proofs.Laws.Past.{past}
use Rattle.rounding.proofs.Laws.Sums.{add_num, add_num_left, sub_num_right, add_mono_left}
use Rattle.lookup.specs.Mesh.{corners_of}
use Rattle.lookup.specs.Box.{grown_box, box_of}
use Rattle.lookup.specs.Index.{block_of, blocks_of, in_cell, start, cells_of}
use Rattle.lookup.specs.Steps.{Framed, Fits, Narrow, Reaches, Below, UpTo}
use Rattle.lookup.proofs.Laws.Parts.{start_le}
use Rattle.lookup.proofs.Laws.Cells.{start_area}
use Rattle.lookup.proofs.Laws.Frames.{inside_of}
use Rattle.lookup.specs.declared.boxes.Aabb.{Aabb}
use Rattle.lookup.specs.declared.frame.Frame.{Frame}

-- ---- sums with w

-- where lo + w is a number and w is not -infinity, a larger x has a sum that is a number too
sum_num : (lo x w : Float) → T (le lo x) → IsNum (add binary32 lo w) → T (lt (inf true) w) → IsNum (add binary32 x w)
unfolding add le lt
sum_num lo x nan h p q = absurd q
sum_num lo x (inf true) h p q = absurd q
sum_num lo nan (inf false) h p q = absurd (le_num_right lo nan h)
sum_num nan (inf true) (inf false) h p q = absurd p
sum_num (inf true) (inf true) (inf false) h p q = absurd p
sum_num (inf false) (inf true) (inf false) h p q = absurd h
sum_num (fin s m e) (inf true) (inf false) h p q = absurd h
sum_num lo (inf false) (inf false) h p q = tt
sum_num lo (fin t n d) (inf false) h p q = tt
sum_num lo x (fin u k g) h p q = add_num binary32 x (fin u k g) (le_num_right lo x h) tt

-- its column is no lower
sum_col : (m cell : Float) (count : ℕ) (w lo x : Float) → Width cell → T (le lo x) → IsNum (add binary32 lo w) → T (lt (inf true) w)
    → col binary32 m cell count (add binary32 lo w) ≤ col binary32 m cell count (add binary32 x w)
sum_col m cell count w lo x c h p q =
    col_mono binary32 m cell count (add binary32 lo w) (add binary32 x w) c (add_mono_left binary32 lo x w h p (sum_num lo x w h p q))

-- a nan has column 0
col_nan : (m cell : Float) (count : ℕ) → Width cell → col binary32 m cell count nan ≡ 0
unfolding col sub
col_nan m cell count c = low_bucket binary32 nan cell count c tt

-- ---- the walk

-- no lo up to x lies more than `most` columns before its sum with w
pub record Reached (m cell : Float) (count : ℕ) (w x : Float) (most : ℕ) : Type 0 where
  pub few : most < count
  pub far : (lo : Float) → T (le lo x) → IsNum (add binary32 lo w) → T (lt (inf true) w)
      → col binary32 m cell count (add binary32 lo w) ≤ most + col binary32 m cell count lo

-- no lo that is a number lies more than `most` columns before its sum with w
abbrev Far : Float → Float → ℕ → Float → ℕ → Type 0
Far m cell count w most = (lo : Float) → IsNum lo → IsNum (add binary32 lo w) → T (lt (inf true) w) → col binary32 m cell count (add binary32 lo w) ≤ most + col binary32 m cell count lo

module _ (m cell : Float) (count : ℕ) (w : Float) (c : Width cell) (some : 0 < count) where
  pub reached_first : {most : ℕ} → most ≡ col binary32 m cell count (add binary32 m w) → Reached m cell count w m most
  reached_first e =
      record {
        few = omega (arith, col_lt binary32 m cell count (add binary32 m w) some);
        far = λ lo h p q. omega (arith, sum_col m cell count w lo m c h p q);
      }

  reached_next : (step : Float) {x : Float} {most here there more : ℕ} → Reached m cell count w x most → here ≡ col binary32 m cell count x
      → there ≡ col binary32 m cell count (add binary32 (add binary32 x step) w) → more < count → most ≤ more → there ≤ more + here → Reached m cell count w (add binary32 x step) more
  reached_next step {x} {most} {here} {there} {more} r i j l a b = record { few = l; far = far }
    where
      far : (lo : Float) → T (le lo (add binary32 x step)) → IsNum (add binary32 lo w) → T (lt (inf true) w)
          → col binary32 m cell count (add binary32 lo w) ≤ more + col binary32 m cell count lo
      far lo h p q =
          elim (le_or_lt lo x (le_num_left lo (add binary32 x step) h) (add_num_left binary32 x step (le_num_right lo (add binary32 x step) h))) [
            | inl g ↦ omega (arith, r.far lo g p q)
            | inr g ↦ omega (arith, sum_col m cell count w lo (add binary32 x step) c h p q, col_mono binary32 m cell count x lo c (le_of_lt x lo g))
          ]

  -- a turn, by whether the next step calls for more
  pub reached_more : (step : Float) {x : Float} {most here there more : ℕ} → Reached m cell count w x most → here ≡ col binary32 m cell count x
      → there ≡ col binary32 m cell count (add binary32 (add binary32 x step) w) → most + here < there → more ≡ there - here → Reached m cell count w (add binary32 x step) more
  reached_more step {x} r i j l e =
      let k : col binary32 m cell count (add binary32 (add binary32 x step) w) < count = col_lt binary32 m cell count (add binary32 (add binary32 x step) w) some in
      reached_next step r i j (omega arith) (omega arith) (omega arith)

  pub reached_same : (step : Float) {x : Float} {most here there more : ℕ} → Reached m cell count w x most → here ≡ col binary32 m cell count x
      → there ≡ col binary32 m cell count (add binary32 (add binary32 x step) w) → there ≤ most + here → more ≡ most → Reached m cell count w (add binary32 x step) more
  reached_same step r i j l e = reached_next step r i j (omega (arith, r.few)) (omega arith) (omega arith)

  -- the last turn: x is in the last column
  all : (x : Float) {most : ℕ} → Reached m cell count w x most → count - 1 ≤ col binary32 m cell count x → IsNum x → Far m cell count w most
  all x r h n lo l p q =
      elim (le_or_lt lo x l n) [
        | inl g ↦ r.far lo g p q
        | inr g ↦ omega (arith, col_mono binary32 m cell count x lo c (le_of_lt x lo g), col_lt binary32 m cell count (add binary32 lo w) some)
      ]

  last : (x : Float) {most : ℕ} → Reached m cell count w x most → count - 1 ≤ col binary32 m cell count x → Far m cell count w most
  last nan r h lo l p q = omega (arith, col_nan m cell count c, col_lt binary32 m cell count (add binary32 lo w) some)
  last (inf s) r h lo l p q = all (inf s) r h tt lo l p q
  last (fin s k e) r h lo l p q = all (fin s k e) r h tt lo l p q

  pub reached_last : {x : Float} {most here : ℕ} → T (fits binary32 w) → Reached m cell count w x most → here ≡ col binary32 m cell count x → count - 1 ≤ here → Reaches m cell count (Below w) most
  reached_last {x} {most} ok r e h = (far, r.few)
    where
      far : (lo hi : Float) → T (fits binary32 hi) → T (lt (sub binary32 hi lo) w) → col binary32 m cell count hi ≤ most + col binary32 m cell count lo
      far lo hi fit g =
          let l : T (le hi (add binary32 lo w)) = past binary32 lo hi w fit ok g in
          let n : IsNum (sub binary32 hi lo) = lt_num_left (sub binary32 hi lo) w g in
          let k = last x r (omega arith) lo (sub_num_right binary32 hi lo n) (le_num_right hi (add binary32 lo w) l)
          (lt_of_le_of_lt (inf true) (sub binary32 hi lo) w (le_bottom (sub binary32 hi lo) n) g) in
          omega (arith, col_mono binary32 m cell count hi (add binary32 lo w) c l, k)

-- the last column is always far enough
pub reaches_all : (m cell : Float) (count : ℕ) (P : Float → Type 0) → 0 < count → Reaches m cell count P (count - 1)
reaches_all m cell count P some = (λ lo hi fit g. omega (arith, col_lt binary32 m cell count hi some), omega arith)

-- what is no wider than `width` is less wide than w
pub reaches_wide : (m cell : Float) (count : ℕ) (width w : Float) {r : ℕ} → Reaches m cell count (Below w) r → T (lt width w) → Reaches m cell count (UpTo width) r
reaches_wide m cell count width w h g = (λ lo hi fit l. h.0 lo hi fit (lt_of_le_of_lt (sub binary32 hi lo) width w l g), h.1)

-- ---- the entries

-- the format holds the upper bounds of a box
abbrev HeldBox : (Option Aabb) → Type 0
HeldBox (Some e) = T (fits binary32 e.max_x) × T (fits binary32 e.max_y)
HeldBox None = Unit {0}

held_grown : (g : Option Triangle) → HeldBox (grown_box g)
unfolding grown_box
held_grown (Some k) = (add-fits binary32 _ _, add-fits binary32 _ _)
held_grown None = tt

held_box : (vs : List Float) (is : List ℕ) (t : ℕ) → HeldBox (box_of vs is t)
unfolding box_of
held_box vs is t = held_grown (corners_of vs is t)

sides : (l r a y h b : ℕ) → r ≤ a + l → h ≤ b + y → (h + 1 - y) * (r + 1 - l) ≤ (b + 1) * (a + 1)
sides l r a y h b p q = let u : h + 1 - y ≤ b + 1 = omega arith in let v : r + 1 - l ≤ a + 1 = omega arith in mul-le-mul u v

another : (p q a b t s : ℕ) → s ≡ p + q → p ≤ (a + 1) * (b + 1) * t → q ≤ (b + 1) * (a + 1) → s ≤ (a + 1) * (b + 1) * suc t
another p q a b t s e h k = omega arith

module _ (f : Frame) (width height : Float) (a b : ℕ) (x : Reaches f.min_x f.cell f.cols (UpTo width) a) (y : Reaches f.min_y f.cell f.rows (UpTo height) b) where
  block_few : (g : (Option Aabb)) → HeldBox g → ((e : Aabb) → g ≡ Some e → Fits e width height)
      → ((block_of f g).high + 1 - (block_of f g).low) * ((block_of f g).right + 1 - (block_of f g).left) ≤ (b + 1) * (a + 1)
  unfolding block_of
  block_few (Some e) h k =
      sides _ _ a _ _ b (x.0 e.min_x e.max_x h.0 (k e refl).wide) (y.0 e.min_y e.max_y h.1 (k e refl).high)
  block_few None h k = zero-le

  module _ (ok : Framed f) (vs : List Float) (is : List ℕ) where
    pub entries_few : (n : ℕ) → Narrow vs is n width height → start (in_cell vs is f) n (cells_of f) ≤ (a + 1) * (b + 1) * n
    unfolding blocks_of
    entries_few zero h = omega (arith, start_le (in_cell vs is f) 0 (cells_of f))
    entries_few (suc t) h =
        another _ _ a b t _ (start_area (blocks_of vs is f) f.cols f.rows t (inside_of vs is ok t))
        (entries_few t (λ i l. h i (omega arith)))
        (block_few (box_of vs is t) (held_box vs is t) (h t (omega arith)))

-- how large that may be
pub sides_few : {a b c d : ℕ} → a < c → c ≤ 1024 → b < d → d ≤ 1024 → (a + 1) * (b + 1) ≤ 1048576
sides_few {a} {b} h k p q = let u : a + 1 ≤ 1024 = omega arith in let v : b + 1 ≤ 1024 = omega arith in mul-le-mul u v

pub most_few : {k n : ℕ} → k ≤ 1048576 → n ≤ 65536 → k * n ≤ 2 ^ 36
most_few h l = mul-le-mul h l
