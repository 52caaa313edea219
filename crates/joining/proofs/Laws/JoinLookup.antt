-- The lookup on the whole: a triangle of the whole is one of a part, so the plain lookup gives the higher of the parts' answers. Assumes nothing.
use Rattle.std.specs.Prelude.{◌≡◌, ℕ, ◌+◌, ◌-◌, ◌*◌, ◌/◌, ◌%◌, ◌<◌, ◌≤◌, Bool, true, false, cond, T, List, ◌++◌, length, get_or, nat_lt, Float}
use Rattle.std.specs.Float.{nan}
use Rattle.std.specs.Float.Ieee.{lt, le, eq}
use Rattle.std.proofs.Common.{refl, sym, ap, subst, ◌∙◌, length-append, get_or-append-add, arith}
use Rattle.std.proofs.Math.ListN.{get_or-append}
use Rattle.std.proofs.Math.Decide.{dec_lt}
use borrow.Author.Tests.{lt-ltb, le-ltb}
use Rattle.rounding.proofs.Laws.Order.{num_not_nan, le_trans, le_of_lt, ge_of_eq, lt_of_le_of_lt, le_of_not_lt, T_of, lt→not_le}
use Rattle.shape.specs.Lists.{Mesh, point_at, vector_at}
use Rattle.shape.specs.Refusal.{fine, taken, judge}
use Rattle.shape.specs.declared.mesh.MeshCounts.{MeshCounts}
use Rattle.lookup.specs.Mesh.{triangles, index_of, present, corner_of, normal_at}
use Rattle.lookup.specs.Cover.{covers, weights_at, height_of, blend_of, normal_of}
use Rattle.lookup.specs.Plain.{Lookup, gives, none, plain_of, answer_of}
use Rattle.lookup.specs.Winner.{Covers, height, normal, Wins, NoNan, Right}
use Rattle.lookup.proofs.Laws.Plain.{covers_below, plain_right, plain_winner, plain_none}
use Rattle.joining.specs.Join.{join_of, input_fault, join_answer, moved, higher}
use Rattle.joining.proofs.Laws.Faults.{Fit, parts, mesh_fine}
use Rattle.joining.proofs.Laws.Join.{indices_joined, index_first, index_second, joined_sound, took}

-- ---- elements of three numbers, in one list after another

module _ (xs ys : List Float) where
  point_first : (i : ℕ) → i < length xs / 3 → point_at (xs ++ ys) i ≡ point_at xs i
  unfolding point_at
  point_first i h =
      rw (
        lt-ltb (3 * i + 2) (length (xs ++ ys)) (omega (arith, length-append xs ys)),
        lt-ltb (3 * i + 2) (length xs) (omega arith),
        get_or-append xs ys nan (3 * i) (omega arith),
        get_or-append xs ys nan (3 * i + 1) (omega arith),
        get_or-append xs ys nan (3 * i + 2) (omega arith),
      )

  vector_first : (i : ℕ) → i < length xs / 3 → vector_at (xs ++ ys) i ≡ vector_at xs i
  unfolding vector_at
  vector_first i h =
      rw (
        lt-ltb (3 * i + 2) (length (xs ++ ys)) (omega (arith, length-append xs ys)),
        lt-ltb (3 * i + 2) (length xs) (omega arith),
        get_or-append xs ys nan (3 * i) (omega arith),
        get_or-append xs ys nan (3 * i + 1) (omega arith),
        get_or-append xs ys nan (3 * i + 2) (omega arith),
      )

  -- number j of element i of the second
  module _ (e : length xs % 3 ≡ 0) where
    number_second : (i : ℕ) → get_or (xs ++ ys) (3 * (length xs / 3 + i)) nan ≡ get_or ys (3 * i) nan
    number_second i =
        let z : 3 * (length xs / 3 + i) ≡ length xs + 3 * i = omega arith in
        rw (z, get_or-append-add xs ys (3 * i) nan)

    number_third : (i j : ℕ) → get_or (xs ++ ys) (3 * (length xs / 3 + i) + j) nan ≡ get_or ys (3 * i + j) nan
    number_third i j =
        let z : 3 * (length xs / 3 + i) + j ≡ length xs + (3 * i + j) = omega arith in
        rw (z, get_or-append-add xs ys (3 * i + j) nan)

    point_second : (i : ℕ) → i < length ys / 3 → point_at (xs ++ ys) (length xs / 3 + i) ≡ point_at ys i
    unfolding point_at
    point_second i h =
        rw (
          lt-ltb (3 * (length xs / 3 + i) + 2) (length (xs ++ ys)) (omega (arith, length-append xs ys)),
          lt-ltb (3 * i + 2) (length ys) (omega arith),
          number_second i,
          number_third i 1,
          number_third i 2,
        )

    vector_second : (i : ℕ) → i < length ys / 3 → vector_at (xs ++ ys) (length xs / 3 + i) ≡ vector_at ys i
    unfolding vector_at
    vector_second i h =
        rw (
          lt-ltb (3 * (length xs / 3 + i) + 2) (length (xs ++ ys)) (omega (arith, length-append xs ys)),
          lt-ltb (3 * i + 2) (length ys) (omega arith),
          number_second i,
          number_third i 1,
          number_third i 2,
        )

    normal_second : (i : ℕ) → i < length ys / 3 → normal_at (xs ++ ys) (length xs / 3 + i) ≡ normal_at ys i
    unfolding normal_at
    normal_second i h =
        rw (
          lt-ltb (length xs / 3 + i) (length (xs ++ ys) / 3) (omega (arith, length-append xs ys)),
          lt-ltb i (length ys / 3) h,
          vector_second i h,
        )

  normal_first : (i : ℕ) → i < length xs / 3 → normal_at (xs ++ ys) i ≡ normal_at xs i
  unfolding normal_at
  normal_first i h =
      rw (
        lt-ltb i (length (xs ++ ys) / 3) (omega (arith, length-append xs ys)),
        lt-ltb i (length xs / 3) h,
        vector_first i h,
      )

-- ---- triangle q of w is triangle t of m: the same corners with the same normals, and none is made flat

record Same (m : Mesh) (t : ℕ) (w : Mesh) (q : ℕ) : Type 0 where
  here : present m.vertices m.indices t ≡ true
  there : present w.vertices w.indices q ≡ true
  corner : (j : ℕ) → j < 3 → corner_of w.vertices w.indices q j ≡ corner_of m.vertices m.indices t j
  direction : (j : ℕ) → j < 3 → normal_at w.normals (index_of w.indices q j) ≡ normal_at m.normals (index_of m.indices t j)
  smooth : nat_lt (length w.vertices / 3) (length w.normals / 3) ≡ nat_lt (length m.vertices / 3) (length m.normals / 3)

module _ {m w : Mesh} {t q : ℕ} (s : Same m t w q) (x y : Float) where
  same_weights : weights_at w.vertices w.indices q x y ≡ weights_at m.vertices m.indices t x y
  unfolding weights_at
  same_weights = rw (s.corner 0 (omega arith), s.corner 1 (omega arith), s.corner 2 (omega arith))

  same_covers : covers w.vertices w.indices q x y ≡ covers m.vertices m.indices t x y
  unfolding covers
  same_covers = rw (s.there, s.here, same_weights)

  same_height : height w x y q ≡ height m x y t
  unfolding height_of
  same_height = rw (same_weights, s.corner 0 (omega arith), s.corner 1 (omega arith), s.corner 2 (omega arith))

  same_normal : normal w x y q ≡ normal m x y t
  unfolding normal_of blend_of
  same_normal =
      rw (
        s.there,
        s.here,
        s.smooth,
        same_weights,
        s.corner 0 (omega arith),
        s.corner 1 (omega arith),
        s.corner 2 (omega arith),
        s.direction 0 (omega arith),
        s.direction 1 (omega arith),
        s.direction 2 (omega arith),
      )

-- every triangle of a mesh that is fit is there
all_present : (m : Mesh) → Fit m → (t : ℕ) → t < triangles m.indices → present m.vertices m.indices t ≡ true
unfolding present
all_present m f t h =
    rw (
      lt-ltb t (triangles m.indices) h,
      lt-ltb (index_of m.indices t 0) (length m.vertices / 3) (f.close (3 * t + 0) (omega arith)),
      lt-ltb (index_of m.indices t 1) (length m.vertices / 3) (f.close (3 * t + 1) (omega arith)),
      lt-ltb (index_of m.indices t 2) (length m.vertices / 3) (f.close (3 * t + 2) (omega arith)),
    )

not_flat : (m : Mesh) → Fit m → nat_lt (length m.vertices / 3) (length m.normals / 3) ≡ false
not_flat m f = le-ltb (length m.vertices / 3) (length m.normals / 3) (omega (arith, f.even))

module _ (a b : Mesh) (f : Fit a) (g : Fit b) where
  abbrev n : ℕ
  n = triangles a.indices

  triangles_joined : triangles (join_of a b).indices ≡ n + triangles b.indices
  triangles_joined = omega (arith, indices_joined a b, f.indices)

  -- a triangle of the first part keeps its number
  first_same : (t : ℕ) → t < n → Same a t (join_of a b) t
  unfolding join_of
  first_same t h =
      let w = join_of a b in
      record {
        here = all_present a f t h;
        there = all_present w (joined_sound a b f g) t (omega (arith, triangles_joined));
        corner = λ j l. ap (point_at w.vertices) (at j l) ∙ point_first a.vertices b.vertices (index_of a.indices t j) (f.close (3 * t + j) (omega arith));
        direction = λ j l. ap (normal_at w.normals) (at j l) ∙ normal_first a.normals b.normals (index_of a.indices t j) (rw f.even (f.close (3 * t + j) (omega arith)));
        smooth = not_flat w (joined_sound a b f g) ∙ sym (not_flat a f);
      }
    where
      at : (j : ℕ) → j < 3 → index_of (join_of a b).indices t j ≡ index_of a.indices t j
      at j l = index_first a b f (3 * t + j) (omega arith)

  -- one of the second part is moved up
  second_same : (t : ℕ) → t < triangles b.indices → Same b t (join_of a b) (n + t)
  unfolding join_of
  second_same t h =
      let w = join_of a b in
      let v = length a.vertices / 3 in
      record {
        here = all_present b g t h;
        there = all_present w (joined_sound a b f g) (n + t) (omega (arith, triangles_joined));
        corner = λ j l. ap (point_at w.vertices) (at j l) ∙ point_second a.vertices b.vertices f.vertices (index_of b.indices t j) (g.close (3 * t + j) (omega arith));
        direction = λ j l. ap (normal_at w.normals) (at j l ∙ ap (λ (k : ℕ). k + index_of b.indices t j) (sym f.even))
            ∙ normal_second a.normals b.normals f.normals (index_of b.indices t j) (rw g.even (g.close (3 * t + j) (omega arith)));
        smooth = not_flat w (joined_sound a b f g) ∙ sym (not_flat b g);
      }
    where
      at : (j : ℕ) → j < 3 → index_of (join_of a b).indices (n + t) j ≡ length a.vertices / 3 + index_of b.indices t j
      at j l =
          let z : 3 * (n + t) + j ≡ length a.indices + (3 * t + j) = omega (arith, f.indices) in
          rw z (index_second a b f (3 * t + j) (omega arith))

  -- ---- winners

  module _ (x y : Float) where
    covers_first : (t : ℕ) → Covers a x y t → Covers (join_of a b) x y t
    covers_first t c = subst T (sym (same_covers (first_same t (covers_below a x y t c)) x y)) c

    covers_second : (t : ℕ) → Covers b x y t → Covers (join_of a b) x y (n + t)
    covers_second t c = subst T (sym (same_covers (second_same t (covers_below b x y t c)) x y)) c

    height_first : (t : ℕ) → Covers a x y t → height (join_of a b) x y t ≡ height a x y t
    height_first t c = same_height (first_same t (covers_below a x y t c)) x y

    height_second : (t : ℕ) → Covers b x y t → height (join_of a b) x y (n + t) ≡ height b x y t
    height_second t c = same_height (second_same t (covers_below b x y t c)) x y

    -- what holds of the covering triangles of both parts holds of those of the whole
    each : (P : ℕ → Type 0) → ((t : ℕ) → Covers a x y t → P t) → ((t : ℕ) → Covers b x y t → P (n + t)) → (j : ℕ) → Covers (join_of a b) x y j → P j
    each P p q j c = go (dec_lt j n)
      where
        go : Dec (j < n) → P j
        go (yes l) = p j (subst T (same_covers (first_same j l) x y) c)
        go (no l) =
            let t = j - n in
            let e : j ≡ n + t = omega arith in
            let h : t < triangles b.indices = omega (arith, covers_below (join_of a b) x y j c, triangles_joined) in
            let d : Covers (join_of a b) x y (n + t) = subst (Covers (join_of a b) x y) e c in
            subst P (sym e) (q t (subst T (same_covers (second_same t h) x y) d))

    -- the first part's winner wins where no triangle of the second part is higher
    first_wins : (k : ℕ) → Wins a x y k → ((t : ℕ) → Covers b x y t → T (le (height b x y t) (height a x y k))) → Wins (join_of a b) x y k
    first_wins k w below =
        let hk = height_first k w.covered in
        record {
          covered = covers_first k w.covered;
          greatest = each (λ j. T (le (height (join_of a b) x y j) (height (join_of a b) x y k)))
              (λ t c. rw (height_first t c, hk) (w.greatest t c))
              (λ t c. rw (height_second t c, hk) (below t c));
          lowest = each (λ j. T (eq (height (join_of a b) x y j) (height (join_of a b) x y k)) → k ≤ j)
              (λ t c e. w.lowest t c (rw (height_first t c, hk) at e))
              (λ t c e. omega (arith, covers_below a x y k w.covered));
        }

    -- the second part's winner wins where every triangle of the first part is lower
    second_wins : (k : ℕ) → Wins b x y k → ((t : ℕ) → Covers a x y t → T (lt (height a x y t) (height b x y k))) → Wins (join_of a b) x y (n + k)
    second_wins k w below =
        let hk = height_second k w.covered in
        record {
          covered = covers_second k w.covered;
          greatest = each (λ j. T (le (height (join_of a b) x y j) (height (join_of a b) x y (n + k))))
              (λ t c. rw (height_first t c, hk) (le_of_lt (height a x y t) (height b x y k) (below t c)))
              (λ t c. rw (height_second t c, hk) (w.greatest t c));
          lowest = each (λ j. T (eq (height (join_of a b) x y j) (height (join_of a b) x y (n + k))) → n + k ≤ j)
              (λ t c e. absurd (lt→not_le (height a x y t) (height b x y k) (below t c) (ge_of_eq (height a x y t) (height b x y k) (rw (height_first t c, hk) at e))))
              (λ t c e. omega (arith, w.lowest t c (rw (height_second t c, hk) at e)));
        }

    -- ---- the parts' answers

    module _ (nn : NoNan (join_of a b) x y) where
      no_nan_first : NoNan a x y
      no_nan_first t c = rw (height_first t c) at (nn t (covers_first t c))

      no_nan_second : NoNan b x y
      no_nan_second t c = rw (height_second t c) at (nn (n + t) (covers_second t c))

      gives_first : (k : ℕ) → Wins a x y k → ((t : ℕ) → Covers b x y t → T (le (height b x y t) (height a x y k)))
          → plain_of (join_of a b) x y ≡ gives (height a x y k) (normal a x y k) k
      gives_first k w below =
          let s = first_same k (covers_below a x y k w.covered) in
          plain_winner (join_of a b) x y k (first_wins k w below) ∙ rw (same_height s x y, same_normal s x y)

      gives_second : (k : ℕ) → Wins b x y k → ((t : ℕ) → Covers a x y t → T (lt (height a x y t) (height b x y k)))
          → plain_of (join_of a b) x y ≡ gives (height b x y k) (normal b x y k) (n + k)
      gives_second k w below =
          let s = second_same k (covers_below b x y k w.covered) in
          plain_winner (join_of a b) x y (n + k) (second_wins k w below) ∙ rw (same_height s x y, same_normal s x y)

      higher_of : (p q : Lookup) → Right a x y p → Right b x y q → plain_of (join_of a b) x y ≡ higher n p q
      unfolding higher moved
      higher_of none none u v = (plain_none (join_of a b) x y).1 (each (λ j. ⊥) u v)
      higher_of none (gives h u k) v r = gives_second k r.0 (λ t c. absurd (v t c)) ∙ rw (r.1, r.2)
      higher_of (gives h u k) none r v = gives_first k r.0 (λ t c. absurd (v t c)) ∙ rw (r.1, r.2)
      higher_of (gives h u k) (gives l w j) r s = go (lt h l) refl
        where
          up : height a x y k ≡ h
          up = sym r.1

          over : height b x y j ≡ l
          over = sym s.1

          go : (c : Bool) → lt h l ≡ c → plain_of (join_of a b) x y ≡ cond c (gives l w (n + j)) (gives h u k)
          go true e =
              gives_second j s.0 (λ t c. lt_of_le_of_lt (height a x y t) (height a x y k) (height b x y j) (r.0.greatest t c) (rw (up, over) (T_of e)))
              ∙ rw (s.1, s.2)
          go false e =
              let p = rw up at (num_not_nan (height a x y k) (no_nan_first k r.0.covered)) in
              let q = rw over at (num_not_nan (height b x y j) (no_nan_second j s.0.covered)) in
              let no = le_of_not_lt h l p q e in
              gives_first k r.0 (λ t c. le_trans (height b x y t) (height b x y j) (height a x y k) (s.0.greatest t c) (rw (up, over) no))
              ∙ rw (r.1, r.2)

-- "At a point where no covering height is NaN, the plain lookup on the whole gives the higher of the two parts' answers, the first part's if equal":
-- height and normal are the part's, and the triangle is its own, by its number in the whole
pub higher_part : (a b : Mesh) (x y : Float) → input_fault a b ≡ fine → NoNan (join_of a b) x y
    → plain_of (join_of a b) x y ≡ higher (triangles a.indices) (plain_of a x y) (plain_of b x y)
higher_part a b x y e nn =
    let p = parts a b e in
    let f = p.first in
    let g = p.second in
    higher_of a b f g x y nn (plain_of a x y) (plain_of b x y)
    (plain_right a x y (no_nan_first a b f g x y nn))
    (plain_right b x y (no_nan_second a b f g x y nn))

-- the same of the calls: where the joining is taken, the lookups on the parts and on the whole are, and answer so
pub higher_answer : (a b before : Mesh) (c : MeshCounts) → join_answer a b before ≡ taken c → (x y : Float) → NoNan (join_of a b) x y
    → (answer_of a x y ≡ taken (plain_of a x y))
    × (answer_of b x y ≡ taken (plain_of b x y))
    × (answer_of (join_of a b) x y ≡ taken (higher (triangles a.indices) (plain_of a x y) (plain_of b x y)))
unfolding answer_of judge
higher_answer a b before c e x y nn =
    let t = took a b before c e in
    let p = t.parts in (
      rw (mesh_fine a p.first p.first_small),
      rw (mesh_fine b p.second p.second_small),
      rw (t.mesh, higher_part a b x y t.input nn),
    )
