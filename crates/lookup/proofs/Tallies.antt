-- One triangle more is tallied: whatever it is, and where the extent so far has no NaN. Assumes nothing.
use Rattle.std.proofs.Common.{◌≡◌, ℕ, zero, suc, ◌+◌, ◌<◌, ◌≤◌, Bool, true, false, cond, T, List, sym, refl, ap, ◌∙◌, subst, true≢false, add-zero, add-one, arith, below_more, Option, Some, None}
use Rattle.std.specs.Bool.{then_some}
use lib.Ieee.{Float, of_bits, ne, le, is_nan}
use Rattle.rounding.specs.Extremes.{first, ge, min_of, max_of}
use Rattle.rounding.proofs.Laws.Order.{le_trans}
use Rattle.rounding.specs.Numbers.{IsNum}
use Rattle.rounding.proofs.Laws.Extremes.{max_picks}
use Rattle.rounding.proofs.Laws.Sums.{sub_num_right}
use Rattle.vector.specs.Single.{◌⊕◌, ◌⊖◌, 0f}
use Rattle.lookup.specs.declared.mesh.Triangle.{Triangle}
use Rattle.lookup.specs.Mesh.{triangles, corners_of}
use Rattle.lookup.specs.Box.{around_of, grown_of, grown_box, box_of, merge_of}
use Rattle.lookup.specs.Frame.{join_of, one_of, boxes_of, extent_of}
use Rattle.lookup.specs.Steps.{Picked, Sound, Tallied, Fits, Narrow, Tells}
use Rattle.lookup.specs.declared.boxes.Aabb.{Aabb}
use Rattle.lookup.specs.declared.build_fast.Sides.{Sides}
use Rattle.lookup.specs.declared.build_fast.Tally.{Tally}
use Rattle.lookup.proofs.Picking.{box_inj, none_no_box, box_quick, grown_back, summed}

pub one_le : (b : (Option Aabb)) → one_of b ≤ 1
unfolding one_of
one_le (Some b) = omega arith
one_le None = omega arith

pub boxes_le : (vs : List Float) (is : List ℕ) (t : ℕ) → boxes_of vs is t ≤ t
unfolding boxes_of
boxes_le vs is zero = omega arith
boxes_le vs is (suc t) = omega (arith, boxes_le vs is t, one_le (box_of vs is t))

-- the box of a triangle whose corners are there, and of one that is missing
pub box_there : (vs : List Float) (is : List ℕ) (t : ℕ) (k : Triangle) (e g : Aabb) → Some k ≡ corners_of vs is t → e ≡ around_of k.a k.b k.c → g ≡ grown_of e → box_of vs is t ≡ Some g
box_there vs is t k e g f i j = box_quick vs is t k e g (sym f) i j

box_missing : (vs : List Float) (is : List ℕ) (t : ℕ) → None ≡ corners_of vs is t → box_of vs is t ≡ None
unfolding box_of grown_box
box_missing vs is t f = ap grown_box (sym f)

join_none : (e : (Option Aabb)) → join_of e None ≡ e
unfolding join_of
join_none (Some a) = refl
join_none None = refl

module _ (vs : List Float) (is : List ℕ) (t count : ℕ) (extent : (Option Aabb)) (h : Tallied vs is t count extent) where
  pub tally_passed : None ≡ corners_of vs is t → Tallied vs is (t + 1) count extent
  unfolding boxes_of extent_of one_of
  tally_passed f =
      let n = box_missing vs is t f in
      record { counts = rw (add-one t, n, add-zero (boxes_of vs is t)) h.counts; around = rw (add-one t, n, join_none (extent_of vs is t)) h.around }

  pub tally_next : (g : Aabb) (j : (Option Aabb)) → box_of vs is t ≡ Some g → j ≡ join_of extent (Some g) → Tallied vs is (t + 1) (count + 1) j
  unfolding boxes_of extent_of one_of
  tally_next g j e q = record { counts = rw (add-one t, e, h.counts); around = rw (add-one t, e, ← h.around) q }

tally_first : (vs : List Float) (is : List ℕ) (b : Aabb) → box_of vs is 0 ≡ Some b → Tallied vs is 1 1 (Some b)
unfolding boxes_of extent_of join_of one_of
tally_first vs is b e = record { counts = rw e; around = rw e }

-- ---- how wide and how high the boxes are

zero_num : IsNum 0f
unfolding of_bits
zero_num = tt

-- the larger of two numbers is at least as large as each
larger : (x y r : Float) → IsNum x → IsNum y → Picked max_of x y r → T (le x r) × T (le y r)
larger x y r p q h = rw (h.is p) ((max_picks x y).left p, (max_picks x y).right q)

-- no box of the first t is wider or higher than this, if they are narrow
pub record Sized (vs : List Float) (is : List ℕ) (t : ℕ) (narrow : Bool) (width height : Float) : Type 0 where
  pub num_w : IsNum width
  pub num_h : IsNum height
  pub fit : narrow ≡ true → Narrow vs is t width height

pub sized_none : (vs : List Float) (is : List ℕ) → Sized vs is 0 true 0f 0f
sized_none vs is = record { num_w = zero_num; num_h = zero_num; fit = λ _ k l. absurd (omega arith) }

module _ (vs : List Float) (is : List ℕ) (t : ℕ) (narrow : Bool) (width height : Float) (h : Sized vs is t narrow width height) where
  pub sized_passed : None ≡ corners_of vs is t → Sized vs is (t + 1) narrow width height
  sized_passed f = record {
    num_w = h.num_w;
    num_h = h.num_h;
    fit = λ n. below_more (λ (k : ℕ). (o : Aabb) → box_of vs is k ≡ Some o → Fits o width height) t (h.fit n) (λ o j. none_no_box o (sym (box_missing vs is t f) ∙ j));
  }

  -- one whose sides are NaN
  pub sized_nan : Sized vs is (t + 1) false width height
  sized_nan = record { num_w = h.num_w; num_h = h.num_h; fit = λ n. absurd (true≢false (sym n)) }

  -- one whose sides are numbers
  pub sized_next : (g : Aabb) → box_of vs is t ≡ Some g → (r s : Float)
      → (let both = (g.max_x ⊖ g.min_x) ⊕ (g.max_y ⊖ g.min_y) in ne both both ≡ false)
      → Picked max_of width (g.max_x ⊖ g.min_x) r → Picked max_of height (g.max_y ⊖ g.min_y) s → Sized vs is (t + 1) narrow r s
  sized_next g y r s n u v =
      let p = summed (g.max_x ⊖ g.min_x) (g.max_y ⊖ g.min_y) n in
      let lw = larger width _ r h.num_w p.0 u in
      let lh = larger height _ s h.num_h p.1 v in
      record {
        num_w = u.num h.num_w;
        num_h = v.num h.num_h;
        fit =
            λ b. below_more (λ (k : ℕ). (o : Aabb) → box_of vs is k ≡ Some o → Fits o r s) t
            (λ k l o q. let d = h.fit b k l o q in record { wide = le_trans _ width r d.wide lw.0; high = le_trans _ height s d.high lh.0 })
            (λ o q. subst (λ (o : Aabb). Fits o r s) (sym (box_inj g o (sym y ∙ q))) (record { wide = lw.1; high = lh.1 }));
      }

-- ---- a box around itself

first_same : (rel : Float → Float → Bool) (x : Float) → first rel x x ≡ x
unfolding first
first_same rel x = go (is_nan x) (rel x x)
  where
    go : (a b : Bool) → cond a x (cond a x (cond b x x)) ≡ x
    go true b = refl
    go false true = refl
    go false false = refl

min_same : (x : Float) → min_of x x ≡ x
unfolding min_of
min_same x = first_same le x

max_same : (x : Float) → max_of x x ≡ x
unfolding max_of
max_same x = first_same ge x

merge_same : (b : Aabb) → merge_of b b ≡ b
unfolding merge_of
merge_same b = rw (min_same b.min_x, max_same b.max_x, min_same b.min_y, max_same b.max_y)

-- ---- an extent without a NaN

-- the first t triangles are tallied and measured, if they are narrow. `start` is the box of triangle 0
pub record Measured (vs : List Float) (is : List ℕ) (start : Aabb) (t count : ℕ) (extent : Aabb) (narrow : Bool) (width height : Float) : Type 0 where
  pub sound : Sound extent
  pub few : count ≤ t
  pub none_yet : t ≡ 0 → (extent ≡ start) × (count ≡ 0)
  pub tallied : narrow ≡ true → 0 < t → Tallied vs is t count (Some extent)
  pub sized : Sized vs is t narrow width height

pub measured_none : (vs : List Float) (is : List ℕ) (start : Aabb) → Sound start → Measured vs is start 0 0 start true 0f 0f
measured_none vs is start s = record {
  sound = s;
  few = omega arith;
  none_yet = λ _. (refl, refl);
  tallied = λ _ h. absurd (omega arith);
  sized = sized_none vs is;
}

module _
    (vs : List Float)
    (is : List ℕ)
    (start : Aabb)
    (t count : ℕ)
    (x : Aabb)
    (narrow : Bool)
    (width height : Float)
    (z : box_of vs is 0 ≡ Some start)
    (h : Measured vs is start t count x narrow width height)
  where
    -- a triangle that is missing is not the first
    not_first : (k : ℕ) → None ≡ corners_of vs is k → k ≡ 0 → ⊥
    not_first k f e = none_no_box start (sym (box_missing vs is k f) ∙ ap (box_of vs is) e ∙ z)

    pub measured_passed : None ≡ corners_of vs is t → Measured vs is start (t + 1) count x narrow width height
    measured_passed f = record {
      sound = h.sound;
      few = omega (arith, h.few);
      none_yet = λ e. absurd (omega arith);
      tallied = λ n _. tally_passed vs is t count (Some x) (h.tallied n (positive t (not_first t f))) f;
      sized = sized_passed vs is t narrow width height h.sized f;
    }
      where
        positive : (k : ℕ) → (k ≡ 0 → ⊥) → 0 < k
        positive zero n = absurd (n refl)
        positive (suc k) n = omega arith

    -- the extent of one more, which is the first or not
    merged_next : narrow ≡ true → (k : ℕ) → k ≡ t → (g w : Aabb) → box_of vs is t ≡ Some g → w ≡ merge_of x g → Tallied vs is (t + 1) (count + 1) (Some w)
    unfolding join_of
    merged_next n zero q g w e j =
        let o = h.none_yet (sym q) in
        let p : g ≡ start = box_inj start g (sym z ∙ ap (box_of vs is) q ∙ e) in
        let y : w ≡ start = j ∙ rw (o.0, p) (merge_same start) in
        rw (o.1, ← q) (tally_first vs is w (rw y z))
    merged_next n (suc k) q g w e j = tally_next vs is t count (Some x) (h.tallied n (omega arith)) g (Some w) e (ap Some j)

    -- one whose sides are NaN, whatever is kept of it
    pub measured_nan : (w : Aabb) → Sound w → Measured vs is start (t + 1) (count + 1) w false width height
    measured_nan w s = record {
      sound = s;
      few = omega (arith, h.few);
      none_yet = λ o. absurd (omega arith);
      tallied = λ n. absurd (true≢false (sym n));
      sized = sized_nan vs is t narrow width height h.sized;
    }

    -- one whose sides are numbers, so that its corners could be compared
    pub measured_next : (k : Triangle) (e g w : Aabb)
        → Some k ≡ corners_of vs is t → (IsNum e.min_x → IsNum e.min_y → e ≡ around_of k.a k.b k.c) → g ≡ grown_of e → (w ≡ merge_of x g) × Sound w
        → (r s : Float)
        → (let both = (g.max_x ⊖ g.min_x) ⊕ (g.max_y ⊖ g.min_y) in ne both both ≡ false)
        → Picked max_of width (g.max_x ⊖ g.min_x) r → Picked max_of height (g.max_y ⊖ g.min_y) s
        → Measured vs is start (t + 1) (count + 1) w narrow r s
    measured_next k e g w f i j m r s n u v =
        let p = summed (g.max_x ⊖ g.min_x) (g.max_y ⊖ g.min_y) n in
        let back = grown_back e g j in
        let o : e ≡ around_of k.a k.b k.c = i (back.0 (sub_num_right _ g.max_x g.min_x p.0)) (back.1 (sub_num_right _ g.max_y g.min_y p.1)) in
        let y : box_of vs is t ≡ Some g = box_there vs is t k e g f o j in
        record {
          sound = m.1;
          few = omega (arith, h.few);
          none_yet = λ o. absurd (omega arith);
          tallied = λ n _. merged_next n t refl g w y m.0;
          sized = sized_next vs is t narrow width height h.sized g y r s n u v;
        }

-- ---- what is told

-- what a flag lets through
let_by : {A : Type 0} (b : Bool) {v w : A} → then_some b v ≡ Some w → (b ≡ true) × (v ≡ w)
let_by true e = (refl, cc)
let_by false e = cc

pub sized_all : (vs : List Float) (is : List ℕ) (t count : ℕ) (extent : Option Aabb) (narrow : Bool) (width height : Float) {sides : Option Sides}
    → Tallied vs is t count extent → Sized vs is t narrow width height → t ≡ triangles is
    → sides ≡ then_some narrow (record { width = width; height = height })
    → Tells vs is (triangles is) (record { count = count; extent = extent; sides = sides })
sized_all vs is t count extent narrow width height {sides} p q e told =
    subst (λ (n : ℕ). Tells vs is n (record { count = count; extent = extent; sides = sides })) e
    (record {
      tallied = p;
      narrow = λ s i. let o = let_by narrow (sym told ∙ i) in subst (λ (s : Sides). Narrow vs is t s.width s.height) o.1 (q.fit o.0);
    })

pub measured_all : (vs : List Float) (is : List ℕ) (start : Aabb) (t count : ℕ) (extent : Aabb) (narrow : Bool) (width height : Float) {r : Option Tally}
    → Measured vs is start t count extent narrow width height → t ≡ triangles is → 0 < triangles is
    → r ≡ then_some narrow (record { count = count; extent = Some extent; sides = Some (record { width = width; height = height }) })
    → (a : Tally) → r ≡ Some a → Tells vs is (triangles is) a
measured_all vs is start t count extent narrow width height {r} h e z told a i =
    let o = let_by narrow (sym told ∙ i) in
    let k : Measured vs is start (triangles is) count extent narrow width height = subst (λ (m : ℕ). Measured vs is start m count extent narrow width height) e h in
    subst (Tells vs is (triangles is)) o.1 (sized_all vs is (triangles is) count (Some extent) narrow width height (k.tallied o.0 z) k.sized refl (rw o.0))
