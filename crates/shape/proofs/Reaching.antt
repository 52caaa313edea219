-- Distances compared by differences and by sums of squares, with no root taken. Assumes nothing.
use Rattle.std.proofs.Common.{◌≡◌, ◌*◌, ◌<◌, ◌≤◌, Bool, true, false, cond, T, sym, refl, ap, ◌∙◌, subst, mul-pos, arith, ltb→lt}
use lib.Ieee.{Float, nan, inf, fin, Format, binary32, binary64, up, down, unlike, add, mul, neg, lt, le, eq, of_bits}
use lib.Ieee.Bits.{is_true}
use lib.Ieee.Fits.{up_pos, down_pos}
use lib.Ieee.Positive.{positive}
use Rattle.rounding.specs.Extremes.{max_of}
use Rattle.rounding.specs.Hypot.{squares_of, hypot_of}
use Rattle.rounding.specs.Root.{sqrt_of}
use Rattle.rounding.specs.Thresholds.{milli}
use Rattle.rounding.proofs.Laws.Order.{T_of, le→Le, le_refl, le_trans, le_num_left, le_num_right, le_of_eq, le_of_lt, le_of_not_lt, lt→not_le, lt_of_lt_of_le}
use Rattle.rounding.specs.Numbers.{IsNum}
use Rattle.rounding.proofs.Laws.Rounding.{Signed, neg_anti, round_num}
use Rattle.rounding.proofs.Laws.Products.{mul_num, mul_mono, mul_mono_signed_right}
use Rattle.rounding.proofs.Laws.Sums.{add_mono, add_num, add_num_left, add_num_right}
use Rattle.rounding.proofs.Laws.RootOrder.{sqrt_mono, root_number}
use Rattle.rounding.specs.Numbers.{nought}
use Rattle.rounding.proofs.Laws.Width.{narrow_mono, narrow_num}
use Rattle.rounding.proofs.Laws.Extremes.{max_picks}
use Rattle.vector.specs.Single.{◌⊖◌}
use Rattle.vector.proofs.Laws.{square_least, sum_least}
use Rattle.vector.specs.declared.coords.Point.{Point}
use Rattle.shape.specs.declared.junction_areas.Gap.{Gap}
use Rattle.shape.specs.Outline.{reach_of}
use Rattle.shape.specs.OutlineSteps.{squares_between, rooted_of, wide, Wide, Squares}

-- ---- a root grows with its square

pub rooted_grows : (s t : Float) → T (le nought s) → T (le s t) → T (le (rooted_of s) (rooted_of t))
unfolding rooted_of
rooted_grows s t h k = narrow_mono binary32 (sqrt_of binary64 s) (sqrt_of binary64 t) (sqrt_mono binary64 s t h k)

pub rooted_num : (s : Float) → T (le nought s) → IsNum (rooted_of s)
unfolding rooted_of
rooted_num s h = narrow_num binary32 (sqrt_of binary64 s) (root_number binary64 s h)

pub rooted_between : (p q : Point) → rooted_of (squares_between p q) ≡ reach_of p q
unfolding rooted_of squares_between reach_of hypot_of
rooted_between p q = refl

pub squares_least : (p q : Point) → Squares (squares_between p q)
unfolding Squares squares_between
squares_least p q n =
    let x = p.x ⊖ q.x in
    let y = p.y ⊖ q.y in
    let a = mul binary64 x x in
    let b = mul binary64 y y in
    sum_least binary64 a b (square_least binary64 x (add_num_left binary64 a b n)) (square_least binary64 y (add_num_right binary64 a b n)) n

-- ---- the order of two roots, where the squares say no

lt_false : (x y : Float) → T (le y x) → (b : Bool) → lt x y ≡ b → b ≡ false
lt_false x y h true e = absurd (lt→not_le x y (subst T (sym e) tt) h)
lt_false x y h false e = refl

pub not_nearer : (a b : Float) → Squares b → T (le b a) → false ≡ lt (rooted_of a) (rooted_of b)
unfolding Squares
not_nearer a b s h = sym (lt_false (rooted_of a) (rooted_of b) (rooted_grows b a (s (le_num_left b a h)) h) _ refl)

-- ---- the greatest gap

pub pick : (b : Bool) (x y : Float) → T b → cond b x y ≡ x
pick true x y h = refl
pick false x y h = absurd h

max_left : (x y : Float) → T (le y x) → max_of x y ≡ x
unfolding max_of
max_left nan y h = absurd (le_num_right y nan h)
max_left (inf s) nan h = absurd (le_num_left nan (inf s) h)
max_left (inf s) (inf t) h = pick (le (inf t) (inf s)) (inf s) (inf t) h
max_left (inf s) (fin t n d) h = pick (le (fin t n d) (inf s)) (inf s) (fin t n d) h
max_left (fin s m e) nan h = absurd (le_num_left nan (fin s m e) h)
max_left (fin s m e) (inf t) h = pick (le (inf t) (fin s m e)) (fin s m e) (inf t) h
max_left (fin s m e) (fin t n d) h = pick (le (fin t n d) (fin s m e)) (fin s m e) (fin t n d) h

max_nan : (x : Float) → max_of x nan ≡ x
unfolding max_of
max_nan nan = refl
max_nan (inf s) = refl
max_nan (fin s m e) = refl

rooted_nan : rooted_of nan ≡ nan
unfolding rooted_of
rooted_nan = refl

-- a gap covers a root that is one more, with its squares, and that of no more squares
module _ (gap : Gap) (s : Float) where
  pub covers_least : lt gap.squares s ≡ true → le nought s ≡ true
  covers_least h = is_true (le nought s) (le_trans nought gap.squares s (T_of gap.least) (le_of_lt gap.squares s (T_of h)))

  pub covers_under : (r : Float) → lt gap.squares s ≡ true → r ≡ max_of gap.root (rooted_of s) → le (rooted_of s) r ≡ true
  covers_under r h e =
      is_true (le (rooted_of s) r) (rw e ((max_picks gap.root (rooted_of s)).right (rooted_num s (T_of (covers_least h)))))

  not_above : T (le nought s) → T (le s gap.squares) → max_of gap.root (rooted_of s) ≡ gap.root
  not_above n h =
      max_left gap.root (rooted_of s) (le_trans (rooted_of s) (rooted_of gap.squares) gap.root (rooted_grows s gap.squares n h) (T_of gap.under))

pub covers_same : (gap : Gap) (s : Float) → Squares s → lt gap.squares s ≡ false → gap.root ≡ max_of gap.root (rooted_of s)
unfolding Squares
covers_same gap nan q h = sym (ap (max_of gap.root) rooted_nan ∙ max_nan gap.root)
covers_same gap (inf s) q h =
    sym (not_above gap (inf s) (q tt) (le_of_not_lt gap.squares (inf s) (le_num_right nought gap.squares (T_of gap.least)) tt h))
covers_same gap (fin s m e) q h =
    sym (not_above gap (fin s m e) (q tt) (le_of_not_lt gap.squares (fin s m e) (le_num_right nought gap.squares (T_of gap.least)) tt h))

-- ---- a difference of at least 0.002

signed_above : (w a : Float) → T (positive w) → T (le w a) → Signed false a
signed_above nan a p h = absurd p
signed_above (inf s) a p h = absurd p
signed_above (fin true m e) a p h = absurd p
signed_above (fin false m e) nan p h = absurd (le→Le (fin false m e) nan h)
signed_above (fin false m e) (inf true) p h = absurd (le→Le (fin false m e) (inf true) h)
signed_above (fin false m e) (inf false) p h = refl
signed_above (fin false m e) (fin true n d) p h =
    let z : m * up e * down d ≤ 0 = (let k = le→Le (fin false m e) (fin true n d) h in omega arith) in
    let k : 0 < m * up e * down d = mul-pos (mul-pos (ltb→lt 0 m p) (up_pos e)) (down_pos d) in
    absurd (omega arith)
signed_above (fin false m e) (fin false n d) p h = refl

square_num : (f : Format) (a : Float) → IsNum a → IsNum (mul f a a)
unfolding mul
square_num f nan h = h
square_num f (inf s) h = tt
square_num f (fin s m e) h = round_num f (unlike s s) (m * up e * (m * up e)) (down e * down e)

square_grows : (f : Format) (w a : Float) → T (positive w) → T (le w a) → T (le (mul f w w) (mul f a a))
square_grows f w a p h =
    let n = le_num_right w a h in
    le_trans (mul f w w) (mul f a w) (mul f a a) (mul_mono f w a w h p)
    (mul_mono_signed_right f a w a (signed_above w a p h) h (mul_num f a w n p) (square_num f a n))

neg_square : (f : Format) (x : Float) → mul f (neg x) (neg x) ≡ mul f x x
unfolding mul neg
neg_square f nan = refl
neg_square f (inf true) = refl
neg_square f (inf false) = refl
neg_square f (fin true m e) = refl
neg_square f (fin false m e) = refl

pub wide_up : (x : Float) → T (le wide x) → Wide x
unfolding Wide of_bits
wide_up x h = square_grows binary64 wide x tt h

pub wide_down : (x : Float) → T (le x (neg wide)) → Wide x
unfolding Wide of_bits neg
wide_down x h = rw (neg_square binary64 x) at (square_grows binary64 wide (neg x) tt (neg_anti x (neg wide) h))

sum_num : (f : Format) (x y : Float) → T (le nought x) → T (le nought y) → IsNum (add f x y)
unfolding add
sum_num f nan y h k = le_num_right nought nan h
sum_num f (inf true) y h k = absurd (le→Le nought (inf true) h)
sum_num f (inf false) nan h k = le_num_right nought nan k
sum_num f (inf false) (inf true) h k = absurd (le→Le nought (inf true) k)
sum_num f (inf false) (inf false) h k = tt
sum_num f (inf false) (fin t n d) h k = tt
sum_num f (fin s m e) nan h k = le_num_right nought nan k
sum_num f (fin s m e) (inf t) h k = tt
sum_num f (fin s m e) (fin t n d) h k = add_num f (fin s m e) (fin t n d) tt tt

-- squares of at least s and t, whose sum is enough
enough : (x y s t : Float) → T (le nought s) → T (le nought t) → T (le s (mul binary64 x x)) → T (le t (mul binary64 y y))
    → T (lt milli (rooted_of (add binary64 s t))) → lt milli (hypot_of x y) ≡ true
unfolding hypot_of rooted_of squares_of
enough x y s t a b h k p =
    let x² = mul binary64 x x in
    let y² = mul binary64 y y in
    let n = sum_num binary64 s t a b in
    let m = sum_num binary64 x² y² (le_trans nought s x² a h) (le_trans nought t y² b k) in
    is_true (lt milli (hypot_of x y))
    (lt_of_lt_of_le milli (rooted_of (add binary64 s t)) (hypot_of x y) p
    (rooted_grows (add binary64 s t) (squares_of x y) (sum_least binary64 s t a b n) (add_mono binary64 s x² t y² h k n m)))

-- the square of 0.002 alone is enough, on either side
some : T (le nought (mul binary64 wide wide))
unfolding of_bits
some = square_least binary64 wide (square_num binary64 wide tt)

none : T (le nought nought)
none = le_refl nought tt

past_left : T (lt milli (rooted_of (add binary64 (mul binary64 wide wide) nought)))
unfolding rooted_of of_bits mul add lt
past_left = tt

past_right : T (lt milli (rooted_of (add binary64 nought (mul binary64 wide wide))))
unfolding rooted_of of_bits mul add lt
past_right = tt

pub far_in_x : (x y : Float) → Wide x → IsNum y → lt milli (hypot_of x y) ≡ true
unfolding Wide
far_in_x x y w n = enough x y (mul binary64 wide wide) nought some none w (square_least binary64 y (square_num binary64 y n)) past_left

pub far_in_y : (x y : Float) → Wide y → IsNum x → lt milli (hypot_of x y) ≡ true
unfolding Wide
far_in_y x y w n = enough x y nought (mul binary64 wide wide) none some (square_least binary64 x (square_num binary64 x n)) w past_right

pub own_number : (x : Float) → eq x x ≡ true → IsNum x
own_number x e = le_num_left x x (le_of_eq x x (subst T (sym e) tt))

-- no gap yet
pub no_gap : (le nought (of_bits binary64 0) ≡ true) × (le (rooted_of (of_bits binary64 0)) (of_bits binary32 0) ≡ true)
unfolding rooted_of of_bits le
no_gap = (refl, refl)
