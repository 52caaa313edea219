-- What the fetch of a triangle's corners says of it, and how the scan goes on by one triangle. Assumes nothing.
use Rattle.std.proofs.Common.{◌≡◌, ℕ, ◌+◌, Bool, true, false, cond, List, sym, refl, ap, ◌∙◌, add-one, Option, Some, None}
use lib.Ieee.{Float}
use Rattle.lookup.specs.declared.mesh.Triangle.{Triangle}
use Rattle.lookup.specs.Mesh.{present, corners_of, corner_of}
use Rattle.lookup.specs.Cover.{covers, height_of, weights_of, weights_at, weights_inside, lift_of}
use Rattle.lookup.specs.Plain.{higher_of, entry_of}
use Rattle.lookup.specs.Sixteen.{scan_on}

-- ---- the fetch

there_when : {A : Type 0} (p : Bool) {v w : A} → cond p (Some v) None ≡ Some w → (p ≡ true) × (v ≡ w)
there_when true e = (refl, cc)
there_when false e = cc

missing_when : {A : Type 0} (p : Bool) (v : A) → cond p (Some v) None ≡ None → p ≡ false
missing_when true v e = cc
missing_when false v e = refl

module _ (vs : List Float) (is : List ℕ) (t : ℕ) where
  pub there : {k : Triangle} → corners_of vs is t ≡ Some k → (present vs is t ≡ true) × (k.a ≡ corner_of vs is t 0) × (k.b ≡ corner_of vs is t 1) × (k.c ≡ corner_of vs is t 2)
  unfolding corners_of
  there e =
      let k = there_when (present vs is t) e in
      (k.0, sym (ap (λ (p : Triangle). p.a) k.1), sym (ap (λ (p : Triangle). p.b) k.1), sym (ap (λ (p : Triangle). p.c) k.1))

  pub missing : corners_of vs is t ≡ None → present vs is t ≡ false
  unfolding corners_of
  missing e = missing_when (present vs is t) _ e

  pub weights_are : (x y : Float) {k : Triangle} → corners_of vs is t ≡ Some k → weights_of k.a k.b k.c x y ≡ weights_at vs is t x y
  unfolding weights_at
  weights_are x y f = let k = there f in rw (← k.1, ← k.2, ← k.3)

-- ---- a turn of the scan

module _ (vs : List Float) (is : List ℕ) (x y : Float) (start : Option (Float × ℕ)) (run : List ℕ) (i : ℕ) {t : ℕ} (same : t ≡ entry_of run i) (best : Option (Float × ℕ)) (e : best ≡ scan_on vs is x y start run i) where
  passed : covers vs is t x y ≡ false → best ≡ scan_on vs is x y start run (i + 1)
  unfolding scan_on
  passed h = rw (add-one, ← same, h) e

  taken : covers vs is t x y ≡ true → higher_of best (height_of vs is t x y) t ≡ scan_on vs is x y start run (i + 1)
  unfolding scan_on
  taken h = rw (add-one, ← same, h, e)

  pub passed_missing : corners_of vs is t ≡ None → best ≡ scan_on vs is x y start run (i + 1)
  unfolding covers
  passed_missing f = passed (rw (missing _ _ _ f))

  module _ {q : Triangle} (f : corners_of vs is t ≡ Some q) where
    pub passed_outside : weights_inside (weights_of q.a q.b q.c x y) ≡ false → best ≡ scan_on vs is x y start run (i + 1)
    unfolding covers
    passed_outside o = passed (rw ((there _ _ _ f).0, ← weights_are vs is t x y f, o))

    pub taken_inside : weights_inside (weights_of q.a q.b q.c x y) ≡ true → higher_of best (lift_of (weights_of q.a q.b q.c x y) q.a.z q.b.z q.c.z) t ≡ scan_on vs is x y start run (i + 1)
    unfolding covers height_of
    taken_inside o =
        let k = there _ _ _ f in
        ap (λ (h : Float). higher_of best h t) (rw (weights_are vs is t x y f, k.1, k.2, k.3))
        ∙ taken (rw (k.0, ← weights_are vs is t x y f, o))
