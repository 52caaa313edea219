-- What a scan over any sequence of numbers finds, whichever of them count: one of the sequence that counts, nothing exactly where none of it counts, and where no
-- height is a NaN the highest, the first among equals. So for triangles that cover a point. Assumes nothing.
use Rattle.std.specs.Prelude.{◌≡◌, ℕ, zero, suc, ◌<◌, Bool, true, false, cond, T, List, Float, Option, Some, None}
use Rattle.std.proofs.Common.{arith, sym, subst}
use Rattle.std.proofs.Math.Decide.{dec_lt}
use Rattle.std.proofs.Math.Path.{refl}
use Rattle.std.specs.Float.Ieee.{le}
use Rattle.rounding.proofs.Laws.Order.{le_refl, le_trans, le_of_lt, lt_of_not_le, T_of, not-T-of}
use Rattle.rounding.specs.Numbers.{IsNum}
use Rattle.lookup.specs.Cover.{covers, height_of}
use Rattle.lookup.specs.Fold.{counted_of}
use Rattle.lookup.specs.Plain.{higher_of, scan_by, scan_of}
use Rattle.lookup.proofs.Laws.Fold.{Names, same_counted, same_fold}

-- what holds of each number below n, and of n, holds of each below suc n
pub upto : (P : ℕ → Type 0) (n : ℕ) → ((q : ℕ) → q < n → P q) → P n → (q : ℕ) → q < suc n → P q
upto P n f p q h = go (dec_lt q n)
  where
    go : Dec (q < n) → P q
    go (yes l) = f q l
    go (no l) = subst P (omega arith) p

-- ---- under any rule: which numbers count, and their heights

-- the heights of those that count are numbers
abbrev pub NumbersBy : (ℕ → Bool) → (ℕ → Float) → Type 0
NumbersBy c h = (j : ℕ) → T (c j) → IsNum (h j)

-- number k leads with height g after n numbers of a sequence
pub record LeadsBy (c : ℕ → Bool) (h : ℕ → Float) (seq : ℕ → ℕ) (n : ℕ) (g : Float) (k : ℕ) : Type 0 where
  pub at : ℕ
  pub below : at < n
  pub named : k ≡ seq at
  pub counted : T (c k)
  pub height : g ≡ h k
  pub greatest : NumbersBy c h → (q : ℕ) → q < n → T (c (seq q)) → T (le (h (seq q)) g)
  pub first : NumbersBy c h → (q : ℕ) → q < at → T (c (seq q)) → T (le g (h (seq q))) → ⊥

abbrev pub LeadingBy : (c : ℕ → Bool) (h : ℕ → Float) (seq : ℕ → ℕ) (n : ℕ) → (Option (Float × ℕ)) → Type 0
LeadingBy c h seq n None = (q : ℕ) → q < n → T (c (seq q)) → ⊥
LeadingBy c h seq n (Some (g, k)) = LeadsBy c h seq n g k

module _ (c : ℕ → Bool) (h : ℕ → Float) (seq : ℕ → ℕ) where
  skip : (n : ℕ) (s : (Option (Float × ℕ))) → (T (c (seq n)) → ⊥) → LeadingBy c h seq n s → LeadingBy c h seq (suc n) s
  skip n None off l = upto (λ q. T (c (seq q)) → ⊥) n l off
  skip n (Some (g, k)) off l =
      record {
        at = l.at;
        below = omega (arith, l.below);
        named = l.named;
        counted = l.counted;
        height = l.height;
        greatest = λ num. upto (λ q. T (c (seq q)) → T (le (h (seq q)) g)) n (l.greatest num) (λ d. absurd (off d));
        first = l.first;
      }

  join : (n : ℕ) (s : (Option (Float × ℕ))) → T (c (seq n)) → LeadingBy c h seq n s → LeadingBy c h seq (suc n) (higher_of s (h (seq n)) (seq n))
  unfolding higher_of
  join n None on l =
      record {
        at = n;
        below = omega arith;
        named = refl;
        counted = on;
        height = refl;
        greatest =
            λ num.
            upto (λ q. T (c (seq q)) → T (le (h (seq q)) (h (seq n)))) n
            (λ q b d. absurd (l q b d))
            (λ d. le_refl _ (num (seq n) d));
        first = λ num q b d. absurd (l q b d);
      }
  join n (Some (g, k)) on l = go (le (h (seq n)) g) refl
    where
      go : (b : Bool) → le (h (seq n)) g ≡ b → LeadingBy c h seq (suc n) (cond b (Some (g, k)) (Some ((h (seq n)), (seq n))))
      go true e =
          record {
            at = l.at;
            below = omega (arith, l.below);
            named = l.named;
            counted = l.counted;
            height = l.height;
            greatest = λ num. upto (λ q. T (c (seq q)) → T (le (h (seq q)) g)) n (l.greatest num) (λ d. T_of e);
            first = l.first;
          }
      go false e =
          record {
            at = n;
            below = omega arith;
            named = refl;
            counted = on;
            height = refl;
            greatest =
                λ num.
                upto (λ q. T (c (seq q)) → T (le (h (seq q)) (h (seq n)))) n
                (λ q b d. le_trans _ g _ (l.greatest num q b d) (up num))
                (λ d. le_refl _ (num (seq n) d));
            first = λ num q b d t. not-T-of e (le_trans (h (seq n)) (h (seq q)) g t (l.greatest num q b d));
          }
        where
          up : NumbersBy c h → T (le g (h (seq n)))
          up num = le_of_lt g _ (lt_of_not_le _ g (num (seq n) on) (subst IsNum (sym l.height) (num k l.counted)) e)

  step : (n : ℕ) (b : Bool) → c (seq n) ≡ b → (s : (Option (Float × ℕ))) → LeadingBy c h seq n s → LeadingBy c h seq (suc n) (cond b (higher_of s (h (seq n)) (seq n)) s)
  step n true e s l = join n s (T_of e) l
  step n false e s l = skip n s (not-T-of e) l

  pub by_leads : (n : ℕ) → LeadingBy c h seq n (scan_by c h None seq n)
  unfolding scan_by
  by_leads zero = λ q b. absurd (omega arith)
  by_leads (suc n) = step n (c (seq n)) refl (scan_by c h None seq n) (by_leads n)

  -- what it finds
  pub by_found : (n : ℕ) {g : Float} {k : ℕ} → scan_by c h None seq n ≡ Some (g, k) → LeadsBy c h seq n g k
  by_found n e = subst (LeadingBy c h seq n) e (by_leads n)

  -- it finds nothing where nothing counts
  nothing_of : (n : ℕ) → ((q : ℕ) → q < n → T (c (seq q)) → ⊥) → (s : (Option (Float × ℕ))) → LeadingBy c h seq n s → s ≡ None
  nothing_of n none None l = refl
  nothing_of n none (Some (g, k)) l = absurd (none l.at l.below (subst (λ (j : ℕ). T (c j)) l.named l.counted))

  pub by_nothing : (n : ℕ) → ((q : ℕ) → q < n → T (c (seq q)) → ⊥) → scan_by c h None seq n ≡ None
  by_nothing n none = nothing_of n none (scan_by c h None seq n) (by_leads n)

-- ---- the best depends on the numbers that count and their order alone, NaN or not, from any start

module _ (c : ℕ → Bool) (h : ℕ → Float) (start : (Option (Float × ℕ))) where
  pub by_same : (p q : ℕ → ℕ) (m n : ℕ) → counted_of c p m ≡ counted_of c q n → scan_by c h start p m ≡ scan_by c h start q n
  unfolding scan_by
  by_same p q m n e = same_counted c c (λ best t. higher_of best (h t) t) start p q m n e

  -- a rising run of numbers below n that names each that counts is as good as all of them
  pub by_rising : (seq : ℕ → ℕ) (len n : ℕ) → Names c seq len n → scan_by c h start seq len ≡ scan_by c h start (λ t. t) n
  unfolding scan_by
  by_rising seq len n k = same_fold c (λ best t. higher_of best (h t) t) start n len seq k

-- ---- document 01's rule: triangles that cover the point

module _ (vs : List Float) (is : List ℕ) (x y : Float) where
  abbrev pub Numbers : Type 0
  Numbers = NumbersBy (λ t. covers vs is t x y) (λ t. height_of vs is t x y)

  abbrev pub Leads : (ℕ → ℕ) → ℕ → Float → ℕ → Type 0
  Leads = LeadsBy (λ t. covers vs is t x y) (λ t. height_of vs is t x y)

  abbrev pub Leading : (ℕ → ℕ) → ℕ → (Option (Float × ℕ)) → Type 0
  Leading = LeadingBy (λ t. covers vs is t x y) (λ t. height_of vs is t x y)

  -- the scan turn by turn: nothing at first, and then each triangle that covers the point against the best so far
  pub scan_none : (seq : ℕ → ℕ) → scan_of vs is x y seq zero ≡ None
  unfolding scan_of
  scan_none seq = refl

  pub scan_next : (seq : ℕ → ℕ) (i : ℕ)
      → scan_of vs is x y seq (suc i) ≡ cond (covers vs is (seq i) x y) (higher_of (scan_of vs is x y seq i) (height_of vs is (seq i) x y) (seq i)) (scan_of vs is x y seq i)
  unfolding scan_of
  scan_next seq i = refl

  pub scan_leads : (seq : ℕ → ℕ) (n : ℕ) → Leading seq n (scan_of vs is x y seq n)
  unfolding scan_of
  scan_leads = by_leads (λ t. covers vs is t x y) (λ t. height_of vs is t x y)

  pub scan_found : (seq : ℕ → ℕ) (n : ℕ) {h : Float} {k : ℕ} → scan_of vs is x y seq n ≡ Some (h, k) → Leads seq n h k
  unfolding scan_of
  scan_found seq n e = by_found (λ t. covers vs is t x y) (λ t. height_of vs is t x y) seq n e

  pub scan_nothing : (seq : ℕ → ℕ) (n : ℕ) → ((q : ℕ) → q < n → T (covers vs is (seq q) x y) → ⊥) → scan_of vs is x y seq n ≡ None
  unfolding scan_of
  scan_nothing = by_nothing (λ t. covers vs is t x y) (λ t. height_of vs is t x y)
