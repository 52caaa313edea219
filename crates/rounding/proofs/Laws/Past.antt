-- Where hi - lo, rounded, lies below w, then hi is at most lo + w, rounded: for every lo, and every hi and w that the format holds. Assumes nothing.
use Rattle.std.specs.Prelude.{◌≡◌, ℕ, ◌+◌, ◌*◌, ◌<◌, ◌≤◌, Bool, true, false, not, T, ℤ, nat_le, refl, Float}
use Rattle.std.proofs.Common.{sym, ap, ◌∙◌, subst, mul-pos, arith, leb→le}
use Rattle.std.proofs.Math.Dec.{nleb→lt}
use Rattle.std.specs.Float.{nan, inf, fin, Format}
use Rattle.std.specs.Float.Ieee.{up, down, round, add, sub, lt, le, fits}
use Rattle.std.specs.Float.Ieee.Fits.{down_pos}
use Rattle.rounding.proofs.Laws.Signed.{pp, nn, Cross, pp_mul, nn_mul}
use Rattle.rounding.proofs.Laws.Order.{le_bottom, le_top, lt→not_le, lt_num_left, lt_num_right}
use Rattle.rounding.specs.Numbers.{IsNum}
use Rattle.rounding.proofs.Laws.Rounding.{round_order}
use Rattle.rounding.proofs.Laws.Width.{narrow_fin, narrow_same}
use Rattle.rounding.proofs.Laws.Sums.{Total, Rounds, sum_rounds, add_num, sub_num_left, sub_num_right}

-- ---- the arithmetic, with each number as a difference: where X / c less Y / d is at most W / g, then X / c is at most Y / d plus W / g
glue : (p n q m k l c d g P N Q M : ℕ)
    → P + (n * d + q * c) ≡ N + (p * d + m * c)
    → Q + (m * g + l * d) ≡ M + (q * g + k * d)
    → P * g + l * (c * d) ≤ k * (c * d) + N * g
    → p * (d * g) + M * c ≤ Q * c + n * (d * g)
glue p n q m k l c d g P N Q M e e' h =
    let a : (P + (n * d + q * c)) * g ≡ (N + (p * d + m * c)) * g = ap (λ (z : ℕ). z * g) e in
    let b : (Q + (m * g + l * d)) * c ≡ (M + (q * g + k * d)) * c = ap (λ (z : ℕ). z * c) e' in
    omega arith

pp_not : (s : Bool) (a : ℕ) → pp (not s) a ≡ nn s a
pp_not true a = refl
pp_not false a = refl

nn_not : (s : Bool) (a : ℕ) → nn (not s) a ≡ pp s a
nn_not true a = refl
nn_not false a = refl

moved : (s : Bool) (a c : ℕ) (t : Bool) (b d : ℕ) (u : Bool) (w g : ℕ) (r : Bool) (z : ℕ) (r' : Bool) (z' : ℕ)
    → Total s (a * d) (not t) (b * c) r z → Total t (b * g) u (w * d) r' z' → Cross r z (c * d) u w g → Cross s a c r' z' (d * g)
moved s a c t b d u w g r z r' z' e e' h =
    glue (pp s a) (nn s a) (pp t b) (nn t b) (pp u w) (nn u w) c d g (pp r z) (nn r z) (pp r' z') (nn r' z')
    (simp (pp_mul, nn_mul, pp_not, nn_not) at e) (simp (pp_mul, nn_mul) at e') h

-- one of two fractions is at most the other
other : (s : Bool) (a c : ℕ) (t : Bool) (b d : ℕ) → (Cross s a c t b d → ⊥) → Cross t b d s a c
other s a c t b d h =
    let x = pp s a * d + nn t b * c in
    let y = pp t b * c + nn s a * d in
    go x y (nat_le x y) (leb→le x y) (nleb→lt x y) h
  where
    go : (x y : ℕ) (i : Bool) → (T i → x ≤ y) → (T (not i) → y < x) → (x ≤ y → ⊥) → y ≤ x
    go x y true p q n = absurd (n (p tt))
    go x y false p q n = let k : y < x = q tt in omega arith

-- ---- the law, of finite ones
own : (f : Format) (s : Bool) (m : ℕ) (e : ℤ) → T (fits f (fin s m e)) → round f s (m * up e) (down e) ≡ fin s m e
own f s m e h = sym (narrow_fin f s m e) ∙ narrow_same f (fin s m e) h

module _ (f : Format) (s : Bool) (m : ℕ) (e : ℤ) (t : Bool) (n : ℕ) (d : ℤ) (u : Bool) (k : ℕ) (g : ℤ) where
  rest : Rounds f s (m * up e * down d) (not t) (n * up d * down e) (down e * down d)
  rest = sum_rounds f s (m * up e * down d) (not t) (n * up d * down e) (down e * down d)

  whole : Rounds f t (n * up d * down g) u (k * up g * down d) (down d * down g)
  whole = sum_rounds f t (n * up d * down g) u (k * up g * down d) (down d * down g)

  past_fin : round f s (m * up e) (down e) ≡ fin s m e → round f u (k * up g) (down g) ≡ fin u k g → T (lt (sub f (fin s m e) (fin t n d)) (fin u k g)) → T (le (fin s m e) (add f (fin t n d) (fin u k g)))
  unfolding sub
  past_fin p q h =
      let c : Cross rest.0 rest.1 (down e * down d) u (k * up g) (down g)
      = other u (k * up g) (down g) rest.0 rest.1 (down e * down d)
      (λ w. lt→not_le (sub f (fin s m e) (fin t n d)) (fin u k g) h
      (rw rest.2 (subst (λ (x : Float). T (le x (round f rest.0 rest.1 (down e * down d)))) q
      (round_order f u (k * up g) (down g) rest.0 rest.1 (down e * down d) (down_pos g) (mul-pos (down_pos e) (down_pos d)) w)))) in
      rw whole.2
      (subst (λ (x : Float). T (le x (round f whole.0 whole.1 (down d * down g)))) p
      (round_order f s (m * up e) (down e) whole.0 whole.1 (down d * down g) (down_pos e) (mul-pos (down_pos d) (down_pos g))
      (moved s (m * up e) (down e) t (n * up d) (down d) u (k * up g) (down g) rest.0 rest.1 whole.0 whole.1 rest.3 whole.3 c)))

-- ---- nothing lies below -infinity or above +infinity
none_below : (x : Float) → T (lt x (inf true)) → ⊥
none_below x h = lt→not_le x (inf true) h (le_bottom x (lt_num_left x (inf true) h))

none_above : (x : Float) → T (lt (inf false) x) → ⊥
none_above x h = lt→not_le (inf false) x h (le_top x (lt_num_right (inf false) x h))

module _ (f : Format) (lo hi w : Float) (h : T (lt (sub f hi lo) w)) where
  num_lo : IsNum lo
  num_lo = sub_num_right f hi lo (lt_num_left (sub f hi lo) w h)

  num_hi : IsNum hi
  num_hi = sub_num_left f hi lo (lt_num_left (sub f hi lo) w h)

  num_w : IsNum w
  num_w = lt_num_right (sub f hi lo) w h

pub past : (f : Format) (lo hi w : Float) → T (fits f hi) → T (fits f w) → T (lt (sub f hi lo) w) → T (le hi (add f lo w))
unfolding sub
past f nan hi w p q h = absurd (num_lo f nan hi w h)
past f (inf true) nan w p q h = absurd (num_hi f (inf true) nan w h)
past f (inf true) (inf true) w p q h = absurd (lt_num_left nan w h)
past f (inf true) (inf false) w p q h = absurd (none_above w h)
past f (inf true) (fin s m e) w p q h = absurd (none_above w h)
past f (inf false) hi nan p q h = absurd (num_w f (inf false) hi nan h)
past f (inf false) hi (inf true) p q h = absurd (none_below (sub f hi (inf false)) h)
past f (inf false) hi (inf false) p q h = le_top hi (num_hi f (inf false) hi (inf false) h)
past f (inf false) hi (fin u k g) p q h = le_top hi (num_hi f (inf false) hi (fin u k g) h)
past f (fin t n d) hi nan p q h = absurd (num_w f (fin t n d) hi nan h)
past f (fin t n d) hi (inf true) p q h = absurd (none_below (sub f hi (fin t n d)) h)
past f (fin t n d) hi (inf false) p q h = le_top hi (num_hi f (fin t n d) hi (inf false) h)
past f (fin t n d) nan (fin u k g) p q h = absurd (num_hi f (fin t n d) nan (fin u k g) h)
past f (fin t n d) (inf true) (fin u k g) p q h = le_bottom (add f (fin t n d) (fin u k g)) (add_num f (fin t n d) (fin u k g) tt tt)
past f (fin t n d) (inf false) (fin u k g) p q h = absurd (none_above (fin u k g) h)
past f (fin t n d) (fin s m e) (fin u k g) p q h = past_fin f s m e t n d u k g (own f s m e p) (own f u k g q) h
