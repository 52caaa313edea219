-- The steps by which `highest` goes through a run, sixteen triangles at a time, and what `locate` says of it. Assumes nothing.
use Rattle.std.proofs.Common.{◌≡◌, ℕ, suc, ◌+◌, ◌-◌, ◌*◌, ◌<◌, ◌≤◌, Bool, true, false, ◌&&◌, List, length, get_or, take, drop, set, sym, refl, ap, ◌∙◌, subst, add-one, arith, length-drop, length-set, length-take-le, get_or-drop, get_or-set_other, get_or-take, get_or-set_same, Option, Some, None, Result, Ok, Err, cond, ◌++◌}
use native.Mathlib.Decide.{dec_lt}
use lib.Ieee.{Float, nan, lt, le}
use Rattle.rounding.proofs.Laws.Order.{T_of}
use Rattle.vector.specs.Single.{0f}
use Rattle.vector.specs.declared.coords.Point.{Point}
use Rattle.shape.specs.Refusal.{fine, Answer, refused, number_of, place_of}
use Rattle.shape.specs.declared.refusal.Refusal.{Refusal}
use Rattle.lookup.specs.declared.mesh.Triangle.{Triangle}
use Rattle.lookup.specs.declared.mesh.Weights.{Weights}
use Rattle.lookup.specs.declared.mesh.WeighedTriangle.{WeighedTriangle}
use Rattle.lookup.specs.Mesh.{present, corners_of, triangles}
use Rattle.lookup.specs.Cover.{slack, covers, height_of, weights_of, weights_at, det_of, over_a, weight_a, weight_b, weights_inside}
use Rattle.lookup.specs.Plain.{higher_of, scan_of, entry_of}
use Rattle.lookup.specs.Consult.{entry_fault, word_at, Candidates}
use Rattle.std.specs.declared.ops.Range.{Range}
use Rattle.lookup.specs.Steps.{Runs, Started}
use Rattle.lookup.specs.Sixteen.{ground_at, Over, Grounded, CornersUnder, There, AllUnder, Exactly, Gathered, Low, AllLow, Weighed, Weighs, PeakWeighed, HitOf, best_of, scan_on}
use Rattle.lookup.proofs.Laws.Index.{entries_fine}
use Rattle.lookup.proofs.Laws.Fold.{fold_on, fold_same}
use Rattle.lookup.proofs.Laws.Plain.{present_below}
use Rattle.lookup.proofs.Laws.Scan.{upto}
use Rattle.lookup.proofs.Laws.Parts.{both}
use Rattle.std.proofs.Math.ListN.{get_or-append}
use Rattle.lookup.proofs.Cuts.{cut_get}
use Rattle.lookup.proofs.Turns.{there, missing, weights_are}

true_not_false : true ≡ false → ⊥
true_not_false e = T_of (sym e)

-- ---- a flag that is told both ways

module _ (P : ℕ → Type 0) where
  pub exactly_none : Exactly P 0 true
  exactly_none = record { all = λ _ k l. absurd (omega arith); told = λ _. refl }

  exactly_more : (k : ℕ) {b : Bool} → Exactly P k b → P k → Exactly P (k + 1) b
  exactly_more k {b} f p =
      subst (λ (n : ℕ). Exactly P n b) (sym (add-one k)) (record { all = λ e. upto P k (f.all e) p; told = λ g. f.told (λ j l. g j (omega arith)) })

  exactly_not : (k : ℕ) → (P k → ⊥) → Exactly P (k + 1) false
  exactly_not k n = record { all = λ e. absurd (true_not_false (sym e)); told = λ g. absurd (n (g k (omega arith))) }

  -- the first i, and n more
  exactly_both : (i n : ℕ) {b c d : Bool} → Exactly P i b → Exactly (λ k. P (i + k)) n c → d ≡ (b && c) → Exactly P (i + n) d
  exactly_both i n {b} {c} f g e =
      record {
        all = λ z k l. let t = both b c (sym e ∙ z) in go t.0 t.1 k l (dec_lt k i);
        told = λ h. rw (e, f.told (λ k l. h k (omega arith)), g.told (λ k l. h (i + k) (omega arith)));
      }
    where
      go : b ≡ true → c ≡ true → (k : ℕ) → k < i + n → Dec (k < i) → P k
      go p q k l (yes m) = f.all p k m
      go p q k l (no m) =
          let z : i + (k - i) ≡ k = omega arith in
          let v : k - i < n = omega arith in
          subst P z (g.all q (k - i) v)

-- ---- corners on the ground

pub ground_put : (xs : List Float) (k : ℕ) (p : Point) → 2 * k + 1 < length xs → Grounded xs (set (set xs (2 * k) p.x) (2 * k + 1) p.y) k p
unfolding ground_at
ground_put xs k p h =
    record {
      put =
          record {
            same_x = get_or-set_other (set xs (2 * k) p.x) (2 * k + 1) (2 * k) p.y nan (λ q. omega arith) ∙ get_or-set_same xs (2 * k) p.x nan (omega arith);
            same_y = get_or-set_same (set xs (2 * k) p.x) (2 * k + 1) p.y nan (simp length-set h);
          };
      kept = λ j l i. record { x = at (2 * j) (λ q. omega arith) (λ q. omega arith) i; y = at (2 * j + 1) (λ q. omega arith) (λ q. omega arith) i; z = 0f };
    }
  where
    at : (m : ℕ) → (m ≡ 2 * k → ⊥) → (m ≡ 2 * k + 1 → ⊥) → get_or (set (set xs (2 * k) p.x) (2 * k + 1) p.y) m nan ≡ get_or xs m nan
    at m a b = get_or-set_other (set xs (2 * k) p.x) (2 * k + 1) m p.y nan b ∙ get_or-set_other xs (2 * k) m p.x nan a

ground_weights : {p q r a b c : Point} (x y : Float) → Over p a → Over q b → Over r c → weights_of p q r x y ≡ weights_of a b c x y
unfolding weights_of det_of over_a weight_a weight_b
ground_weights x y f g h = rw (f.same_x, f.same_y, g.same_x, g.same_y, h.same_x, h.same_y)

module _ (vs : List Float) (is : List ℕ) where
  held_out : {t : ℕ} {p q r : Point} (x y : Float) → CornersUnder vs is t p q r → weights_inside (weights_of p q r x y) ≡ false → covers vs is t x y ≡ false
  unfolding covers weights_at
  held_out x y h o = rw (h.there, ← ground_weights x y h.first h.second h.third, o)

  fetched : (t : ℕ) {k : Triangle} {p q r : Point} → corners_of vs is t ≡ Some k → Over p k.a → Over q k.b → Over r k.c → CornersUnder vs is t p q r
  fetched t e f g h =
      let w = there vs is t e in
      record { there = w.0; first = subst (Over _) w.1 f; second = subst (Over _) w.2 g; third = subst (Over _) w.3 h }

  -- a place more is filled, or passed over as its triangle is missing
  pub gather_step : (run : List ℕ) (k : ℕ) {a b c a' b' c' : List Float} {t : Triangle} {whole : Bool}
      → Gathered vs is run k a b c whole
      → corners_of vs is (entry_of run k) ≡ Some t
      → Grounded a a' k t.a
      → Grounded b b' k t.b
      → Grounded c c' k t.c
      → Gathered vs is run (k + 1) a' b' c' whole
  gather_step run k {a} {b} {c} {a'} {b'} {c'} old e f g h =
      record {
        held =
            subst (λ (n : ℕ). AllUnder vs is run n a' b' c') (sym (add-one k))
            (upto (λ j. There vs is run j → CornersUnder vs is (entry_of run j) (ground_at a' j) (ground_at b' j) (ground_at c' j)) k
            (λ j l p. rw (f.kept j l, g.kept j l, h.kept j l) (old.held j l p))
            (λ _. fetched _ e f.put g.put h.put));
        flag = exactly_more (There vs is run) k old.flag (there vs is (entry_of run k) e).0;
      }

  pub gather_pass : (run : List ℕ) (k : ℕ) {a b c : List Float} {whole : Bool}
      → Gathered vs is run k a b c whole → corners_of vs is (entry_of run k) ≡ None → Gathered vs is run (k + 1) a b c false
  gather_pass run k {a} {b} {c} old e =
      let none : There vs is run k → ⊥ = λ p. true_not_false (sym p ∙ missing vs is (entry_of run k) e) in
      record {
        held =
            subst (λ (n : ℕ). AllUnder vs is run n a b c) (sym (add-one k))
            (upto (λ j. There vs is run j → CornersUnder vs is (entry_of run j) (ground_at a j) (ground_at b j) (ground_at c j)) k old.held
            (λ p. absurd (none p)));
        flag = exactly_not (There vs is run) k none;
      }

-- ---- least weights

pub low_step : (P : ℕ → Type 0) (low : List Float) (k : ℕ) (v : Float) → k < length low
    → ((j : ℕ) → j < k → Low low j → P j)
    → (lt v slack ≡ true → P k)
    → (j : ℕ) → j < suc k → Low (set low k v) j → P j
low_step P low k v room old new =
    upto (λ j. Low (set low k v) j → P j) k
    (λ j l w. old j l (subst (λ (z : Float). lt z slack ≡ true) (get_or-set_other low k j v nan (λ q. omega arith)) w))
    (λ w. new (subst (λ (z : Float). lt z slack ≡ true) (get_or-set_same low k v nan room) w))

missing_out : (vs : List Float) (is : List ℕ) (t : ℕ) (x y : Float) → present vs is t ≡ false → covers vs is t x y ≡ false
unfolding covers
missing_out vs is t x y e = rw e

pub weighed : (vs : List Float) (is : List ℕ) (x y : Float) (run : List ℕ) (n : ℕ) (a b c low rest : List Float) (whole : Bool)
    → n ≤ length low → Gathered vs is run n a b c whole → AllLow a b c x y low (length low) → Weighed vs is x y run n (low ++ rest) whole
weighed vs is x y run n a b c low rest whole le g lows =
    record { passing = λ k l w. go k l (present vs is (entry_of run k)) refl (lows k (omega arith) (front k (omega arith) w)); flag = g.flag }
  where
    front : (k : ℕ) → k < length low → Low (low ++ rest) k → Low low k
    front k l = subst (λ (z : Float). lt z slack ≡ true) (get_or-append low rest nan k l)

    go : (k : ℕ) → k < n → (p : Bool) → present vs is (entry_of run k) ≡ p → weights_inside (weights_of (ground_at a k) (ground_at b k) (ground_at c k) x y) ≡ false
        → covers vs is (entry_of run k) x y ≡ false
    go k l true e o = held_out vs is x y (g.held k l e) o
    go k l false e o = missing_out vs is (entry_of run k) x y e

-- ---- the weights of the best

at_same : {a b : Float × WeighedTriangle} → Some a ≡ Some b → a.1 ≡ b.1
at_same {a} {b} e = let k : a ≡ b = cc in ap (λ (p : Float × WeighedTriangle). p.1) k

-- which is the best goes by heights and numbers alone
pub best_higher : (p : Option (Float × WeighedTriangle)) (h : Float) (w : WeighedTriangle) → best_of (higher_of p h w) ≡ higher_of (best_of p) h w.triangle
unfolding best_of higher_of
best_higher None h w = refl
best_higher (Some (g, k)) h w = go (le h g)
  where
    go : (b : Bool) → best_of (cond b (Some (g, k)) (Some (h, w))) ≡ cond b (Some (g, k.triangle)) (Some (h, w.triangle))
    go true = refl
    go false = refl

module _ (vs : List Float) (is : List ℕ) (x y : Float) where
  pub weighed_none : PeakWeighed vs is x y None
  weighed_none h w e = absurd (let z : ◌≡◌ {A = ℕ} 0 1 = cc in omega arith)

  pub weighed_next : (p : Option (Float × WeighedTriangle)) (h : Float) (w : WeighedTriangle) → PeakWeighed vs is x y p → Weighs vs is x y w.triangle w.weights → PeakWeighed vs is x y (higher_of p h w)
  unfolding higher_of
  weighed_next None h w old new = λ g v e. subst (λ (v : WeighedTriangle). Weighs vs is x y v.triangle v.weights) (at_same e) new
  weighed_next (Some (g, k)) h w old new = go (le h g)
    where
      go : (b : Bool) → PeakWeighed vs is x y (cond b (Some (g, k)) (Some (h, w)))
      go true = old
      go false = λ g v e. subst (λ (v : WeighedTriangle). Weighs vs is x y v.triangle v.weights) (at_same e) new

  pub weighs : {t : ℕ} {k : Triangle} {w : Weights} → corners_of vs is t ≡ Some k → w ≡ weights_of k.a k.b k.c x y → Weighs vs is x y t w
  weighs {t} f e = record { there = (there vs is t f).0; same = e ∙ weights_are vs is t x y f }

pub pass_next : (vs : List Float) (is : List ℕ) (x y : Float) (start best : Option (Float × ℕ)) (run : List ℕ) (i : ℕ)
    → best ≡ scan_on vs is x y start run i → covers vs is (entry_of run i) x y ≡ false → best ≡ scan_on vs is x y start run (i + 1)
unfolding scan_on
pass_next vs is x y start best run i e o = rw (add-one, o) e

-- ---- the run

module _ (vs : List Float) (is : List ℕ) (x y : Float) (run part rest : List ℕ) (i : ℕ) (cut : part ++ rest ≡ drop i run) where
  part_scan : {best : Option (Float × ℕ)} → best ≡ scan_of vs is x y (entry_of run) i → scan_on vs is x y best part (length part) ≡ scan_of vs is x y (entry_of run) (i + length part)
  unfolding scan_on scan_of
  part_scan e =
      let c = λ (t : ℕ). covers vs is t x y in
      let f = λ (best : Option (Float × ℕ)) (t : ℕ). higher_of best (height_of vs is t x y) t in
      rw e (fold_same c f _ _ _ (length part) (λ k l. cut_get run part rest i k 0 cut l) ∙ sym (fold_on c f None (entry_of run) i (length part)))

  pub hit_step : {best next : Option (Float × ℕ)} {whole all flag : Bool} {low : List Float}
      → HitOf vs is x y run i best whole
      → Weighed vs is x y part (length part) low flag
      → all ≡ (whole && flag)
      → next ≡ scan_on vs is x y best part (length part)
      → HitOf vs is x y run (i + length part) next all
  hit_step {flag = flag} h w e s =
      let same : (k : ℕ) → k < length part → entry_of part k ≡ entry_of run (i + k) = λ k l. cut_get run part rest i k 0 cut l in
      let there : Exactly (λ k. There vs is run (i + k)) (length part) flag =
      record {
        all = λ b k l. subst (λ (t : ℕ). present vs is t ≡ true) (same k l) (w.flag.all b k l);
        told = λ f. w.flag.told (λ k l. subst (λ (t : ℕ). present vs is t ≡ true) (sym (same k l)) (f k l));
      } in
      record { found = s ∙ part_scan h.found; flag = exactly_both (There vs is run) i (length part) h.flag there e }

-- ---- the entries of a run of triangles that are there are in order

pub run_sound : (vs : List Float) (is ws : List ℕ) (a e : ℕ) (run : List ℕ) → run ≡ take (e - a) (drop a ws) → e ≤ length ws
    → ((k : ℕ) → k < length run → present vs is (entry_of run k) ≡ true) → entry_fault ws (triangles is) a (e - a) ≡ fine
run_sound vs is ws a e run same room all =
    let d : length (drop a ws) ≡ length ws - a = length-drop a ws in
    let n : length run ≡ e - a = ap length same ∙ length-take-le (e - a) (drop a ws) (omega (arith, d)) in
    entries_fine ws (triangles is) a (e - a)
    (λ k l.
    let q : entry_of run k ≡ word_at ws (a + k) = ap (λ (o : List ℕ). get_or o k 0) same ∙ get_or-take (e - a) (drop a ws) k 0 l ∙ get_or-drop a ws k 0 in
    subst (λ (z : ℕ). z < triangles is) q (present_below vs is (entry_of run k) (all k (subst (λ (z : ℕ). k < z) (sym n) l))))

-- ---- what is located

module _ (ws : List ℕ) (count : ℕ) {answer : Answer Candidates} {d : Result (Option (Range ℕ)) Refusal} (s : Started ws count answer d) where
  pub refused_is : {r : Refusal} → d ≡ Err r → refused (number_of r) (place_of r) ≡ answer
  unfolding Started
  refused_is e = subst (Started ws count answer) e s

  pub run_is : {r : Range ℕ} → d ≡ Ok (Some r) → Runs ws count answer r.start r.end
  unfolding Started
  run_is e = subst (Started ws count answer) e s
