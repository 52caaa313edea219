-- The reader of counts takes exactly the decimals: a decimal to its end, every beginning of one, and nothing else. Assumes nothing.
use Rattle.std.specs.Prelude.{◌≡◌, ℕ, zero, suc, ◌+◌, ◌-◌, ◌*◌, ◌/◌, ◌%◌, ◌^◌, ◌<◌, ◌≤◌, Bool, true, false, cond, ◌||◌, List, [], ◌∷◌, ◌++◌, ltb, leb, eqb, length, take, drop, refl}
use Rattle.std.proofs.Common.{true≢false, sym, ap, ◌∙◌, arith, append_assoc, length-append, lt-ltb, le-leb, ltb-true, ltb-false, leb-true, eqb-true}
use Rattle.std.proofs.Math.Seq.{drop-append_seam}
use Rattle.std.proofs.Math.Bool.{or-true, false≢true}
use Rattle.surface.specs.Text.{digit, digits_of, decimal}
use Rattle.surface.proofs.Laws.Text.{digits_more, digits_one, digits_same}
use Rattle.lookup.proofs.Laws.Parts.{both}
use Rattle.surface.specs.Sentence.{Count, is_digit, goes_on, read_from, read_count}

-- ---- tests

-- what lets a byte go on
pub record Going (u v b : ℕ) : Type 0 where
  pub low : 48 ≤ b
  pub high : b < 58
  pub leads : (u ≡ 0 → ⊥) → 0 < v
  pub fits : 10 * v + (b - 48) < 4294967296

pub going : (u v b : ℕ) → goes_on u v b ≡ true → Going u v b
unfolding goes_on
going u v b h =
    let p = both (is_digit b) _ h in
    let d = both (leb 48 b) (ltb b 58) (p.0) in
    let q = both (eqb u 0 || ltb 0 v) _ (p.1) in
    record {
      low = leb-true 48 b (d.0);
      high = ltb-true b 58 (d.1);
      leads = leads (eqb u 0) (eqb-true u 0) (q.0);
      fits = ltb-true (10 * v + (b - 48)) 4294967296 (q.1);
    }
  where
    leads : (t : Bool) → (t ≡ true → u ≡ 0) → (t || ltb 0 v) ≡ true → (u ≡ 0 → ⊥) → 0 < v
    leads true e h n = absurd (n (e refl))
    leads false e h n = ltb-true 0 v h

-- ---- reading on

-- no other byte than a digit goes on
pub stops : (u v b : ℕ) (bs : List ℕ) → is_digit b ≡ false → read_from (b ∷ bs) u v ≡ record { used = u; value = v }
unfolding read_from goes_on
stops u v b bs h = rw h

pub used_grows : (bs : List ℕ) (u v : ℕ) → u ≤ (read_from bs u v).used
unfolding read_from
used_grows [] u v = omega arith
used_grows (b ∷ bs) u v = go (goes_on u v b) (used_grows bs (suc u) (10 * v + (b - 48)))
  where
    go : (t : Bool) → suc u ≤ (read_from bs (suc u) (10 * v + (b - 48))).used
        → u ≤ (cond t (read_from bs (suc u) (10 * v + (b - 48))) (record { used = u; value = v })).used
    go true h = omega arith
    go false h = omega arith

-- bytes that begin as bytes of which q are read: q of them are read too
pub same_reach : (q : ℕ) (xs ys : List ℕ) (u v : ℕ) → take q xs ≡ take q ys → q ≤ length ys → u + q ≤ (read_from xs u v).used → u + q ≤ (read_from ys u v).used
unfolding read_from
same_reach zero xs ys u v e l h = omega (arith, used_grows ys u v)
same_reach (suc q) xs [] u v e l h = absurd (omega arith)
same_reach (suc q) [] (y ∷ ys) u v e l h = absurd (omega arith)
same_reach (suc q) (x ∷ xs) (y ∷ ys) u v e l h =
    let p : x ≡ y = cc in
    let r : take q xs ≡ take q ys = cc in
    let m : q ≤ length ys = omega arith in
    go (goes_on u v x) (goes_on u v y) (ap (goes_on u v) p) (same_reach q xs ys (suc u) (10 * v + (x - 48)) r m) p h
  where
    go : (s t : Bool) → s ≡ t → (suc u + q ≤ (read_from xs (suc u) (10 * v + (x - 48))).used → suc u + q ≤ (read_from ys (suc u) (10 * v + (x - 48))).used)
        → x ≡ y
        → u + suc q ≤ (cond s (read_from xs (suc u) (10 * v + (x - 48))) (record { used = u; value = v })).used
        → u + suc q ≤ (cond t (read_from ys (suc u) (10 * v + (y - 48))) (record { used = u; value = v })).used
    go true true e f p h = rw (← p) (omega (arith, f (omega arith)))
    go false false e f p h = absurd (omega arith)
    go true false e f p h = absurd (true≢false e)
    go false true e f p h = absurd (false≢true e)

-- ---- a decimal is read to its end

goes : (u v d : ℕ) → d < 10 → (eqb u 0 || ltb 0 v) ≡ true → 10 * v + d < 4294967296 → goes_on u v (48 + d) ≡ true
unfolding goes_on
goes u v d h f l =
    let e : (48 + d) - 48 ≡ d = omega arith in
    rw (e, le-leb 48 (48 + d) (omega arith), lt-ltb (48 + d) 58 (omega arith), f, lt-ltb (10 * v + d) 4294967296 l) refl

step : (u v d : ℕ) (rest : List ℕ) → d < 10 → (eqb u 0 || ltb 0 v) ≡ true → 10 * v + d < 4294967296
    → read_from (digit d ∷ rest) u v ≡ read_from rest (suc u) (10 * v + d)
unfolding read_from
step u v d rest h f l =
    let e : (48 + d) - 48 ≡ d = omega arith in
    rw (goes u v d h f l, e) refl

first : (n : ℕ) (rest : List ℕ) → n < 10 → read_count (digit n ∷ rest) ≡ read_from rest 1 n
first n rest h =
    let e : 10 * 0 + n ≡ n = omega arith in
    step 0 0 n rest h refl (omega arith) ∙ ap (λ (x : ℕ). read_from rest 1 x) e

-- whatever comes after it
through : (k n : ℕ) (rest : List ℕ) → n < 4294967296 → n < 10 ^ suc k → read_count (digits_of k n ++ rest) ≡ read_from rest (length (digits_of k n)) n
unfolding digits_of
through zero n rest l b = first n rest (omega arith)
through (suc k) n rest l b = go (ltb n 10) (ltb-true n 10) (ltb-false n 10) (through k (n / 10) (digit (n % 10) ∷ rest))
  where
    go : (t : Bool) → (t ≡ true → n < 10) → (t ≡ false → 10 ≤ n)
        → (n / 10 < 4294967296 → n / 10 < 10 ^ suc k → read_count (digits_of k (n / 10) ++ (digit (n % 10) ∷ rest)) ≡ read_from (digit (n % 10) ∷ rest) (length (digits_of k (n / 10))) (n / 10))
        → read_count (cond t (digit n ∷ []) (digits_of k (n / 10) ++ digit (n % 10) ∷ []) ++ rest)
        ≡ read_from rest (length (cond t (digit n ∷ []) (digits_of k (n / 10) ++ digit (n % 10) ∷ []))) n
    go true s g before = first n rest (s refl)
    go false s g before =
        let ge : 10 ≤ n = g refl in
        let m : n / 10 < 10 ^ suc k = omega arith in
        let p : 0 < n / 10 = omega arith in
        let q : 10 * (n / 10) + n % 10 ≡ n = omega arith in
        let w : suc (length (digits_of k (n / 10))) ≡ length (digits_of k (n / 10) ++ digit (n % 10) ∷ []) = omega (arith, length-append (digits_of k (n / 10)) (digit (n % 10) ∷ [])) in
        ap read_count (append_assoc (digits_of k (n / 10)) (digit (n % 10) ∷ []) rest)
        ∙ before (omega arith) m
        ∙ step (length (digits_of k (n / 10))) (n / 10) (n % 10) rest (omega arith) (rw (lt-ltb 0 (n / 10) p) (or-true (eqb (length (digits_of k (n / 10))) 0))) (omega arith)
        ∙ ap (λ (u : ℕ). read_from rest u (10 * (n / 10) + n % 10)) w
        ∙ ap (λ (x : ℕ). read_from rest (length (digits_of k (n / 10) ++ digit (n % 10) ∷ [])) x) q

pub decimal_through : (n : ℕ) (rest : List ℕ) → n < 4294967296 → read_count (decimal n ++ rest) ≡ read_from rest (length (decimal n)) n
decimal_through n rest l =
    let b : n < 10000000000 = omega arith in
    through 9 n rest l b

-- ---- what is read is a decimal

decimal_more : (v d : ℕ) → 0 < v → d < 10 → 10 * v + d < 4294967296 → decimal (10 * v + d) ≡ decimal v ++ digit d ∷ []
decimal_more v d p h l =
    let ten : 10 ≤ 10 * v + d = omega arith in
    let q : (10 * v + d) / 10 ≡ v = omega arith in
    let r : (10 * v + d) % 10 ≡ d = omega arith in
    let b : v < 1000000000 = omega arith in
    digits_more 8 (10 * v + d) ten ∙ rw (q, r, sym (digits_same 8 v b))

-- the bytes ps are u digits of the value v, or none yet
pub record Digits (ps : List ℕ) (u v : ℕ) : Type 0 where
  pub long : u ≡ length ps
  pub is : 0 < u → ps ≡ decimal v
  pub none : u ≡ 0 → v ≡ 0
  pub small : v < 4294967296

-- one digit more
longer : (ps : List ℕ) (u v b : ℕ) → Digits ps u v → Going u v b → Digits (ps ++ b ∷ []) (suc u) (10 * v + (b - 48))
longer ps zero v b s g =
    let z : v ≡ 0 = s.none refl in
    let e : 10 * v + (b - 48) ≡ b - 48 = omega arith in
    let d : b - 48 < 10 = omega (arith, g.high) in
    let t : 48 + (b - 48) ≡ b = omega (arith, g.low) in
    record {
      long = omega (arith, s.long, length-append ps (b ∷ []));
      is = λ _. ap (λ (xs : List ℕ). xs ++ b ∷ []) (nothing ps (s.long)) ∙ sym (rw (e, ← (digits_one 9 (b - 48) d), t) refl);
      none = λ h. absurd (omega arith);
      small = g.fits;
    }
  where
    nothing : (xs : List ℕ) → 0 ≡ length xs → xs ≡ []
    nothing [] e = refl
    nothing (x ∷ xs) e = absurd (omega arith)
longer ps (suc u) v b s g =
    let p : 0 < v = g.leads (λ h. omega arith) in
    let d : b - 48 < 10 = omega (arith, g.high) in
    let t : 48 + (b - 48) ≡ b = omega (arith, g.low) in
    record {
      long = omega (arith, s.long, length-append ps (b ∷ []));
      is = λ _. rw (decimal_more v (b - 48) p d (g.fits), t, s.is (omega arith)) refl;
      none = λ h. absurd (omega arith);
      small = g.fits;
    }

-- the digits before, and those read now
read_on : (bs ps : List ℕ) (u v : ℕ) → Digits ps u v → (qs rest : List ℕ) × (ps ++ bs ≡ qs ++ rest) × Digits qs ((read_from bs u v).used) ((read_from bs u v).value)
unfolding read_from
read_on [] ps u v s = (ps, [], refl, s)
read_on (b ∷ bs) ps u v s = go (goes_on u v b) (going u v b) (λ d. read_on bs (ps ++ b ∷ []) (suc u) (10 * v + (b - 48)) d)
  where
    go : (t : Bool) → (t ≡ true → Going u v b)
        → (Digits (ps ++ b ∷ []) (suc u) (10 * v + (b - 48)) → (qs rest : List ℕ) × ((ps ++ b ∷ []) ++ bs ≡ qs ++ rest) × Digits qs ((read_from bs (suc u) (10 * v + (b - 48))).used) ((read_from bs (suc u) (10 * v + (b - 48))).value))
        → (qs rest : List ℕ) × (ps ++ b ∷ bs ≡ qs ++ rest)
        × Digits qs ((cond t (read_from bs (suc u) (10 * v + (b - 48))) (record { used = u; value = v })).used) ((cond t (read_from bs (suc u) (10 * v + (b - 48))) (record { used = u; value = v })).value)
    go true g f =
        let r = f (longer ps u v b s (g refl)) in
        (r.0, r.1, sym (append_assoc ps (b ∷ []) bs) ∙ r.2, r.3)
    go false g f = (ps, b ∷ bs, refl, s)

-- what a reading found, if it found a digit
pub record Off (bs : List ℕ) (c : Count) : Type 0 where
  pub is : bs ≡ decimal (c.value) ++ drop (c.used) bs
  pub long : c.used ≡ length (decimal (c.value))
  pub small : c.value < 4294967296

off : (bs qs rest : List ℕ) (c : Count) → 0 < c.used → bs ≡ qs ++ rest → Digits qs (c.used) (c.value) → Off bs c
off bs qs rest c h e s =
    let d : drop (c.used) bs ≡ rest = ap (drop (c.used)) e ∙ ap (λ (u : ℕ). drop u (qs ++ rest)) (s.long) ∙ drop-append_seam qs rest in
    record { is = rw (d, ← (s.is h)) e; long = s.long ∙ ap length (s.is h); small = s.small }

pub read_off : (bs : List ℕ) → 0 < (read_count bs).used → Off bs (read_count bs)
read_off bs h =
    let none : Digits [] 0 0 = record { long = refl; is = λ p. absurd (omega arith); none = λ p. refl; small = omega arith } in
    let r = read_on bs [] 0 0 none in
    off bs (r.0) (r.1) (read_count bs) h (r.2) (r.3)
