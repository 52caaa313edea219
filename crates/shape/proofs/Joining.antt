-- Joining boundary segments: coordinates of a list of points, the segments that are not empty, and one segment more. Assumes nothing.
use Rattle.std.proofs.Common.{◌≡◌, ℕ, zero, suc, ◌+◌, ◌-◌, ◌*◌, ◌/◌, ◌<◌, ◌≤◌, min, Bool, true, false, ltb, List, [], ◌∷◌, ◌++◌, length, get_or, take, drop, sym, refl, ap, ◌∙◌, add-zero, one-mul, zero-add, add-one, arith, length-append, length-drop, length-take, ltb-false, le-ltb, lt-ltb, eqb-true, eq-eqb, true≢false}
use Rattle.std.proofs.lemmas.Option.{none-some, same_Some}
use Rattle.std.specs.Prelude.{Option, None, Some, is_none, unwrap_or, nat_eq, Ok, Err}
use native.Mathlib.Decide.{dec_lt}
use lib.Ieee.{Float, lt, le}
use lib.Seq.{take-length, get_or-append_seam, sets}
use Rattle.rounding.specs.Extremes.{max_of}
use Rattle.rounding.specs.Thresholds.{milli, tenth}
use Rattle.vector.specs.Single.{◌⊕◌}
use Rattle.vector.specs.declared.coords.Point.{Point}
use Rattle.shape.specs.declared.junction_areas.RingSoFar.{RingSoFar}
use Rattle.shape.specs.declared.junction_areas.Joined.{Joined}
use Rattle.shape.specs.declared.refusal.Refusal.{Refusal}
use Rattle.shape.specs.Gather.{gather, any}
use Rattle.shape.specs.Memory.{Put}
use Rattle.shape.specs.Refusal.{fine, found, refuse, judge, told, leaves}
use Rattle.shape.proofs.Laws.Refusal.{passed, else_passed}
use Rattle.shape.specs.Lists.{longer, uneven, point_at, start_of, end_of, last_end, run_bad, run_of}
use Rattle.shape.specs.Outline.{reach_of, place_from, point_from, first_of, final_of, solid_at, solid, solids, segment_of, segment_at, origin, head_of, last_of, is_new, added, extended, turns_first, turns_later, turns_at, gap_at, Line, joined, closing, closed_up, side_at, area_to, reversed_at, reversed, flat, widest, whole_line, dropped_of, ring_of, turned_of, result_of, outline_of, outline_limits, outline_ragged, outline_fault, short_fault, outline_answer, Outlines}
use Rattle.shape.specs.OutlineSteps.{SoundLists, Holds, Skips, Adds, points_of, tip_of}
use Rattle.shape.specs.OutlineJoins.{Joins}
use Rattle.shape.proofs.Laws.Gather.{gather_next, gather_fits, gather_even, gather_at}
use Rattle.shape.proofs.Laws.Lists.{Sound, sound}
use Rattle.shape.proofs.Laws.Memory.{sets_append, sets_front, take_sets_front}

-- ---- the coordinates of a list of points

pub flat_length : (ps : List Point) → length (flat ps) ≡ 3 * length ps
unfolding flat
flat_length [] = refl
flat_length (p ∷ ps) = omega (arith, flat_length ps)

pub flat_append : (ps qs : List Point) → flat (ps ++ qs) ≡ flat ps ++ flat qs
unfolding flat
flat_append [] qs = refl
flat_append (p ∷ ps) qs = ap (λ (l : List Float). p.x ∷ p.y ∷ p.z ∷ l) (flat_append ps qs)

three_more : (i k : ℕ) → 3 * suc i + k ≡ suc (suc (suc (3 * i + k)))
three_more i k = omega arith

three_on : (i : ℕ) → 3 * suc i ≡ suc (suc (suc (3 * i)))
three_on i = omega arith

three_less : (a b : ℕ) → ltb (suc (suc (suc a))) (suc (suc (suc b))) ≡ ltb a b
three_less a b =
    elim (dec_lt a b) [
      | yes p ↦ lt-ltb (suc (suc (suc a))) (suc (suc (suc b))) (omega arith) ∙ sym (lt-ltb a b p)
      | no p ↦ le-ltb (suc (suc (suc a))) (suc (suc (suc b))) (omega arith) ∙ sym (le-ltb a b (omega arith))
    ]

-- ---- the points of a list of coordinates

pub points_count : (xs : List Float) → length (points_of xs) ≡ length xs / 3
unfolding points_of
points_count [] = refl
points_count (x ∷ []) = refl
points_count (x ∷ y ∷ []) = refl
points_count (x ∷ y ∷ z ∷ xs) = omega (arith, points_count xs)

pub points_at : (xs : List Float) (i : ℕ) → point_at xs i ≡ get_or (points_of xs) i origin
unfolding points_of point_at origin
points_at [] i = rw (le-ltb (3 * i + 2) 0 (omega arith))
points_at (x ∷ []) i = rw (le-ltb (3 * i + 2) 1 (omega arith))
points_at (x ∷ y ∷ []) i = rw (le-ltb (3 * i + 2) 2 (omega arith))
points_at (x ∷ y ∷ z ∷ xs) zero = rw (lt-ltb 2 (suc (suc (suc (length xs)))) (omega arith))
points_at (x ∷ y ∷ z ∷ xs) (suc i) = rw (three_more i 2, three_more i 1, three_on i, three_less (3 * i + 2) (length xs)) (points_at xs i)

pub points_flat : (ps : List Point) → points_of (flat ps) ≡ ps
unfolding points_of flat
points_flat [] = refl
points_flat (p ∷ ps) = ap (λ (l : List Point). p ∷ l) (points_flat ps)

pub points_take : (n : ℕ) (xs : List Float) → points_of (take (3 * n) xs) ≡ take n (points_of xs)
unfolding points_of
points_take zero xs = refl
points_take (suc n) [] = rw (three_on n)
points_take (suc n) (x ∷ []) = rw (three_on n)
points_take (suc n) (x ∷ y ∷ []) = rw (three_on n)
points_take (suc n) (x ∷ y ∷ z ∷ xs) = rw (three_on n) (ap (λ (l : List Point). record { x = x; y = y; z = z } ∷ l) (points_take n xs))

pub points_first : (xs : List Float) → first_of xs ≡ head_of (points_of xs)
points_first xs = points_at xs 0

pub points_final : (xs : List Float) → final_of xs ≡ last_of (points_of xs)
points_final xs = rw (points_count xs) (points_at xs (length xs / 3 - 1))

-- ---- a point more

-- whether a point is new, by the last before it
pub first_new : (ring : List Point) (p : Point) → None ≡ tip_of ring → true ≡ is_new ring p
unfolding is_new tip_of
first_new [] p e = refl
first_new (q ∷ ring) p e = absurd (none-some _ e)

pub later_new : (ring : List Point) (p q : Point) → Some q ≡ tip_of ring → lt milli (reach_of p q) ≡ is_new ring p
unfolding is_new tip_of
later_new [] p q e = absurd (none-some _ (sym e))
later_new (r ∷ ring) p q e = ap (λ (x : Point). lt milli (reach_of p x)) (same_Some q _ e)

-- a point that is not new has one before it
pub old_some : (last : Option Point) (p : Point) {b : Bool} → ((ring : List Point) → last ≡ tip_of ring → b ≡ is_new ring p) → b ≡ false → is_none last ≡ false
unfolding is_new tip_of
old_some None p f e = sym (f [] refl) ∙ e
old_some (Some q) p f e = refl

-- a ring with no last point is of no segments, and one with a last point of some
pub none_begun : {last : Option Point} {n : ℕ} → last ≡ None → is_none last ≡ nat_eq n 0 → n ≡ 0
none_begun e b = eqb-true _ 0 (sym b ∙ ap (λ (x : Option Point). is_none x) e)

pub some_begun : {last : Option Point} {q : Point} {n : ℕ} → last ≡ Some q → is_none last ≡ nat_eq n 0 → n ≡ 0 → ⊥
some_begun e b z = true≢false (sym (eq-eqb _ 0 z) ∙ sym b ∙ ap (λ (x : Option Point). is_none x) e)

pub end_tip : (ring : List Point) → unwrap_or (tip_of ring) origin ≡ last_of ring
unfolding tip_of
end_tip [] = refl
end_tip (q ∷ ring) = refl

last_added : (ring : List Point) (p : Point) → last_of (ring ++ p ∷ []) ≡ p
last_added ring p =
    let e : length (ring ++ p ∷ []) - 1 ≡ length ring = simp length-append (omega arith) in
    rw e (get_or-append_seam ring p [] origin)

tip_added : (ring : List Point) (p : Point) → tip_of (ring ++ p ∷ []) ≡ Some p
unfolding tip_of
tip_added [] p = refl
tip_added (q ∷ ring) p = ap Some (last_added (q ∷ ring) p)

module _ {blank m : List Float} {ring : List Point} {h : RingSoFar} (holds : Holds blank m ring h) (p : Point) where
  pub add_new : {m' : List Float} {q : ℕ} → is_new ring p ≡ true → Put m m' (3 * h.count) (flat (p ∷ [])) q
      → Holds blank m' (added ring p) (record { count = h.count + 1; last = Some p })
  unfolding added
  add_new e w =
      rw e
      (record {
        many = rw (length-append, holds.many);
        end = sym (tip_added ring p);
        front = rw (flat_append ring (p ∷ []), sets_append, zero-add, flat_length ring, ← holds.many, ← holds.front) w.memory;
      })

  pub add_old : is_new ring p ≡ false → Holds blank m (added ring p) h
  unfolding added
  add_old e = rw e holds

-- the ring's own part of the memory
pub ring_part : {blank m : List Float} {ring : List Point} {h : RingSoFar} → Holds blank m ring h → 3 * h.count ≤ length blank
    → points_of (take (3 * h.count) m) ≡ ring
ring_part {blank} {m} {ring} {h} holds k =
    let e : 3 * h.count ≡ length (flat ring) = omega (arith, holds.many, flat_length ring) in
    rw (e, holds.front, take_sets_front (flat ring) blank (omega arith)) (points_flat ring)

pub extended_next : (ring : List Point) (back : Bool) (s : List Float) (i : ℕ)
    → extended ring back s (i + 1) ≡ added (extended ring back s i) (point_from back s i)
unfolding extended
extended_next ring back s i = rw (add-one i)

-- ---- which way round

module _ (end : Point) (gap : Float) (s : List Float) (far near : Float) (p : far ≡ reach_of end (final_of s)) (q : near ≡ reach_of end (first_of s)) where
  turns : (b : Bool) → lt far near ≡ b → turns_later end s ≡ b
  unfolding turns_later
  turns b h = rw (← p, ← q) h

  pub later_back : (g : Float) → lt far near ≡ true → g ≡ max_of gap far
      → (true ≡ turns_later end s) × (g ≡ max_of gap (reach_of end (point_from (turns_later end s) s 0)))
  unfolding point_from place_from
  later_back g h e = (sym (turns true h), rw (turns true h, ← p) e)

  pub later_front : (g : Float) → lt far near ≡ false → g ≡ max_of gap near
      → (false ≡ turns_later end s) × (g ≡ max_of gap (reach_of end (point_from (turns_later end s) s 0)))
  unfolding point_from place_from
  later_front g h e = (sym (turns false h), rw (turns false h, ← q) e)

-- ---- the segments that are not empty

gather_one : {A : Type 0} (f : ℕ → List A) (k m : ℕ) (x d : A) → k < m → f k ≡ x ∷ [] → get_or (gather f m) (length (gather f k)) d ≡ x
gather_one f k m x d h e = rw (add-zero (length (gather f k)), e) at (gather_at f m k 0 d h (omega (arith, ap length e)))

module _ (ws : List ℕ) (k : ℕ) where
  pub solid_more : start_of 2 0 ws k < end_of 2 0 ws k → length (solid ws (k + 1)) ≡ suc (length (solid ws k))
  unfolding solid solid_at
  solid_more h = rw (gather_next (solid_at ws) k, lt-ltb (start_of 2 0 ws k) (end_of 2 0 ws k) h, length-append) (add-one (length (gather (solid_at ws) k)))

  pub solid_same : end_of 2 0 ws k ≤ start_of 2 0 ws k → length (solid ws (k + 1)) ≡ length (solid ws k)
  unfolding solid solid_at
  solid_same h =
      rw (gather_next (solid_at ws) k, le-ltb (start_of 2 0 ws k) (end_of 2 0 ws k) h, length-append) (add-zero (length (gather (solid_at ws) k)))

  pub solid_fits : (m : ℕ) → k < m → start_of 2 0 ws k < end_of 2 0 ws k → length (solid ws k) < length (solid ws m)
  unfolding solid solid_at
  solid_fits m h l =
      let e : length (solid_at ws k) ≡ 1 = rw (lt-ltb (start_of 2 0 ws k) (end_of 2 0 ws k) l) in
      omega (arith, gather_fits (solid_at ws) k m h)

  pub solid_step : length (solid ws (k + 1)) ≤ suc (length (solid ws k))
  solid_step = elim (dec_lt (start_of 2 0 ws k) (end_of 2 0 ws k)) [ yes p ↦ omega (arith, solid_more p) | no p ↦ omega (arith, solid_same (omega arith)) ]

  -- segment k is the next of those
  pub segment_here : (xs : List Float) → k < length ws / 2 → start_of 2 0 ws k < end_of 2 0 ws k
      → segment_at ws xs (length (solid ws k)) ≡ segment_of ws xs k
  unfolding segment_at solid
  segment_here xs h l =
      rw (gather_one (solid_at ws) k (length ws / 2) k 0 h (solid_one l))
    where
      solid_one : start_of 2 0 ws k < end_of 2 0 ws k → solid_at ws k ≡ k ∷ []
      solid_one p = rw (lt-ltb (start_of 2 0 ws k) (end_of 2 0 ws k) p)

pub solid_most : (ws : List ℕ) (k : ℕ) → length (solid ws k) ≤ k
unfolding solid
solid_most ws zero = omega arith
solid_most ws (suc k) = omega (arith, rw (add-one k) at (solid_step ws k), solid_most ws k)

module _ (ws : List ℕ) (xs : List Float) where
  turns_suc : (i : ℕ) (end : Point) → (i ≡ 0 → ⊥) → turns_at ws xs i end ≡ turns_later end (segment_at ws xs i)
  unfolding turns_at
  turns_suc zero end h = absurd (h refl)
  turns_suc (suc i) end h = refl

  gap_suc : (i : ℕ) (end : Point) (gap : Float) → (i ≡ 0 → ⊥)
      → gap_at ws xs i end gap ≡ max_of gap (reach_of end (point_from (turns_later end (segment_at ws xs i)) (segment_at ws xs i) 0))
  unfolding gap_at turns_at
  gap_suc zero end gap h = absurd (h refl)
  gap_suc (suc i) end gap h = refl

  -- a later segment
  pub turn_later_at : (i : ℕ) (s : List Float) (end : Point) (gap : Float) (b : Bool) (g : Float) → s ≡ segment_at ws xs i → (i ≡ 0 → ⊥)
      → (b ≡ turns_later end s) × (g ≡ max_of gap (reach_of end (point_from (turns_later end s) s 0)))
      → (b ≡ turns_at ws xs i end) × (g ≡ gap_at ws xs i end gap)
  turn_later_at i s end gap b g is z r = (rw (turns_suc i end z, ← is) r.0, rw (gap_suc i end gap z, ← is) r.1)

  -- the first segment, with no second, and with one
  pub turn_alone : (end : Point) → solids ws ≡ 1 → false ≡ turns_at ws xs 0 end
  unfolding turns_at
  turn_alone end z = rw z

  pub turn_followed : (s t : List Float) (end : Point) → s ≡ segment_at ws xs 0 → t ≡ segment_at ws xs 1 → 1 < solids ws → turns_first s t ≡ turns_at ws xs 0 end
  unfolding turns_at
  turn_followed s t end a b two = rw (lt-ltb 1 (length (solid ws (length ws / 2))) two, ← a, ← b)

-- ---- a segment more

module _ (ws : List ℕ) (xs blank : List Float) (k : ℕ) {m : List Float} {j : Joined} (at : Joins ws xs blank m k j) where
  module _ {m' : List Float} (s : List Float) (back : Bool) (j' : Joined) where
    pub join_next : length (solid ws (k + 1)) ≡ length (solid ws k) + 1 → s ≡ segment_at ws xs (length (solid ws k)) → j'.segments ≡ j.segments + 1
        → (let end = unwrap_or j.ring.last origin in (back ≡ turns_at ws xs j.segments end) × (j'.gap.root ≡ gap_at ws xs j.segments end j.gap.root))
        → Holds blank m' (extended (joined ws xs (length (solid ws k))).ring back s (length s / 3)) j'.ring
        → Joins ws xs blank m' (k + 1) j'
    unfolding joined
    join_next n here more t w =
        let i = length (solid ws k) in
        let e : length (solid ws (k + 1)) ≡ suc i = omega arith in
        let end : unwrap_or j.ring.last origin ≡ last_of (joined ws xs i).ring = rw at.holds.end (end_tip (joined ws xs i).ring) in
        let b : back ≡ turns_at ws xs i (last_of (joined ws xs i).ring) = rw (← end, ← at.solids) t.0 in
        let g : j'.gap.root ≡ gap_at ws xs i (last_of (joined ws xs i).ring) (joined ws xs i).gap = rw (← end, ← at.gap, ← at.solids) t.1 in
        record {
          holds = rw (e, ← b, ← here) w;
          solids = rw (e, more, at.solids) (add-one i);
          gap = rw e g;
        }

-- ---- the ring as a whole

closing_is : (xs : List Float) (b : Bool) → 1 < length xs / 3 → le (reach_of (first_of xs) (final_of xs)) milli ≡ b → closing (points_of xs) ≡ b
unfolding closing
closing_is xs b n h =
    let k : 1 < length (points_of xs) = rw (points_count xs) n in
    rw (lt-ltb 1 (length (points_of xs)) k, ← (points_first xs), ← (points_final xs)) h

pub closing_few : (ring : List Point) → length ring ≤ 1 → closing ring ≡ false
unfolding closing
closing_few ring h = rw (le-ltb 1 (length ring) h)

pub count_closed : (ring : List Point) → closing ring ≡ true → length ring - 1 ≡ length (closed_up ring)
unfolding closed_up
count_closed ring h = rw (h, length-take) (omega arith)

pub count_open : (ring : List Point) → closing ring ≡ false → length ring ≡ length (closed_up ring)
unfolding closed_up
count_open ring h = rw h

-- how many points are left with a closing point, and with none
module _ (xs : List Float) where
  pub one_less : 1 < length xs / 3 → le (reach_of (first_of xs) (final_of xs)) milli ≡ true → length xs / 3 - 1 ≡ length (closed_up (points_of xs))
  one_less n h = rw (← (count_closed (points_of xs) (closing_is xs true n h)), points_count xs)

  pub all_far : 1 < length xs / 3 → le (reach_of (first_of xs) (final_of xs)) milli ≡ false → length xs / 3 ≡ length (closed_up (points_of xs))
  all_far n h = rw (← (count_open (points_of xs) (closing_is xs false n h)), points_count xs)

  pub all_few : length xs / 3 ≤ 1 → length xs / 3 ≡ length (closed_up (points_of xs))
  all_few n = rw (← (count_open (points_of xs) (closing_few (points_of xs) (rw (points_count xs) n))), points_count xs)

pub area_next : (ring : List Point) (i : ℕ) → 1 ≤ i → area_to ring (i + 1 - 1) ≡ area_to ring (i - 1) ⊕ side_at ring i
unfolding area_to
area_next ring zero h = absurd (omega arith)
area_next ring (suc i) h =
    let a : suc i + 1 - 1 ≡ suc i = omega arith in
    let b : suc i - 1 ≡ i = omega arith in
    rw (a, b)

pub reversed_next : (back : Bool) (ring : List Point) (i : ℕ)
    → flat (gather (reversed_at back ring) (i + 1)) ≡ flat (gather (reversed_at back ring) i) ++ flat (reversed_at back ring i)
reversed_next back ring i = rw (gather_next (reversed_at back ring) i) (flat_append (gather (reversed_at back ring) i) (reversed_at back ring i))

-- ---- lists that are sound

-- lists within their limits have few segments
pub few_segments : (ws : List ℕ) (xs : List Float) → outline_limits ws xs ≡ fine → length ws ≤ 512
unfolding outline_limits
few_segments ws xs e = ltb-false 512 (length ws) (passed (longer 2 256 ws) 1 256 _ e).0

pub sound_lists : (ws : List ℕ) (xs : List Float) → outline_fault ws xs ≡ fine → SoundLists ws xs
unfolding outline_fault outline_limits outline_ragged
sound_lists ws xs e =
    let limits = else_passed (outline_limits ws xs) (outline_ragged ws xs) e in
    let long = passed (longer 2 256 ws) 1 256 _ limits.0 in
    let pairs = passed (uneven 2 ws) 2 0 _ limits.1 in
    let runs = any (run_bad 2 0 ws (length xs / 3)) (length ws / 2) in
    record {
      few = few_segments ws xs limits.0;
      small = ltb-false 12288 (length xs) (passed (longer 3 4096 xs) 1 4096 fine long.1).0;
      runs = (passed runs 2 0 _ pairs.1).0;
    }

pub last_end_next : (ws : List ℕ) (k : ℕ) → last_end 2 0 ws (k + 1) ≡ end_of 2 0 ws k
unfolding last_end
last_end_next ws k = rw (add-one k)

module _ {ws : List ℕ} {xs : List Float} (s : SoundLists ws xs) (k : ℕ) (h : k < length ws / 2) where
  pub run_sound : Sound 2 0 ws (length xs / 3) k
  run_sound = sound 2 0 ws (length xs / 3) (length ws / 2) k h s.runs

  -- segment k as a part of the list of points
  pub segment_part : (a e : ℕ) → a ≡ start_of 2 0 ws k → e ≡ end_of 2 0 ws k → take (3 * e - 3 * a) (drop (3 * a) xs) ≡ segment_of ws xs k
  unfolding segment_of run_of
  segment_part a e p q = rw (p, q)

  pub segment_count : length (segment_of ws xs k) ≡ 3 * end_of 2 0 ws k - 3 * start_of 2 0 ws k
  unfolding segment_of run_of
  segment_count = let r = run_sound in simp (length-take, length-drop) (omega arith)

  pub skips : end_of 2 0 ws k ≤ start_of 2 0 ws k → Skips ws k
  skips e = let r = run_sound in record { next = solid_same ws k e; after = rw (last_end_next ws k) (omega (arith, r.after, r.order)) }

  pub adds : (a e : ℕ) → a ≡ start_of 2 0 ws k → e ≡ end_of 2 0 ws k → a < e → Adds ws xs k (take (3 * e - 3 * a) (drop (3 * a) xs))
  adds a e p q l =
      let r = run_sound in
      let t : start_of 2 0 ws k < end_of 2 0 ws k = omega arith in
      let part = segment_part a e p q in
      record {
        next = omega (arith, solid_more ws k t);
        here = part ∙ sym (segment_here ws k xs h t);
        below = solid_fits ws k (length ws / 2) h t;
        some = omega (arith, ap length part, segment_count);
        after = rw (last_end_next ws k) (omega (arith, r.after, ap length part, segment_count));
      }

pub last_end_within : {ws : List ℕ} {xs : List Float} → SoundLists ws xs → (k : ℕ) → k ≤ length ws / 2 → last_end 2 0 ws k ≤ length xs / 3
unfolding last_end
last_end_within s zero h = omega arith
last_end_within s (suc k) h = let r = run_sound s k (omega arith) in r.within

-- ---- the answer

front : (ring : List Point) (b : Bool) → closing ring ≡ b → take (length (closed_up ring)) ring ≡ closed_up ring
unfolding closed_up
front ring true h = let m : min (length ring - 1) (length ring) ≡ length ring - 1 = omega arith in rw (h, length-take (length ring - 1) ring, m)
front ring false h = rw h (take-length ring)

reversed_length : (back : Bool) (ring : List Point) → length (reversed back ring) ≡ length ring
unfolding reversed reversed_at
reversed_length back ring = gather_even (reversed_at back ring) 1 (λ i. refl) (length ring) ∙ one-mul (length ring)

pub open_part : (xs : List Float) (n : ℕ) → n ≡ length (closed_up (points_of xs)) → points_of (take (3 * n) xs) ≡ closed_up (points_of xs)
open_part xs n h = rw (points_take n xs, h) (front (points_of xs) (closing (points_of xs)) refl)

pub widest_is : (l : Line) (xs : List Float) (gap g d : Float) (p q : Point) → points_of xs ≡ l.ring → gap ≡ l.gap → g ≡ max_of gap d → d ≡ reach_of p q
    → p ≡ final_of xs → q ≡ first_of xs → g ≡ widest l
unfolding widest
widest_is l xs gap g d p q e h a b s t = rw (← e, ← (points_final xs), ← (points_first xs), ← h, ← s, ← t, ← b) a

-- there is room for n points
pub room : (before : List Float) (n : ℕ) → found (Ok tt) ≡ refuse (ltb (length before) (3 * n)) 3 (3 * n) fine → 3 * n ≤ length before
unfolding found
room before n e = ltb-false (length before) (3 * n) (passed (ltb (length before) (3 * n)) 3 (3 * n) fine (sym e)).0

module _ (ws : List ℕ) (xs before : List Float) where
  -- the lists are turned back
  pub lists_told : (r : Refusal) → found (Err r) ≡ outline_fault ws xs → Outlines ws xs before before (Err r)
  unfolding found outline_answer judge told leaves
  lists_told r e = record { given = rw (← e); memory = rw (← e) }

  -- the output is short
  pub short_told : (r : Refusal) (n : ℕ) → outline_fault ws xs ≡ fine → n ≡ length (ring_of ws xs)
      → found (Err r) ≡ refuse (ltb (length before) (3 * n)) 3 (3 * n) fine → Outlines ws xs before before (Err r)
  unfolding found outline_answer judge told leaves short_fault
  short_told r n e c h = let s = rw c at h in record { given = rw (e, ← s); memory = rw (e, ← s) }

  -- the call is taken
  pub ring_made : (after : List Float) (n d : ℕ) (g : Float) (t : Bool) → outline_fault ws xs ≡ fine → n ≡ length (ring_of ws xs)
      → 3 * n ≤ length before → d ≡ dropped_of ws → g ≡ widest (whole_line ws xs) → t ≡ turned_of (ring_of ws xs) → after ≡ sets before 0 (flat (reversed t (ring_of ws xs)))
      → Outlines ws xs before after (Ok (record { count = n; dropped = d; gap = g; closed = le g tenth; turned = t }))
  unfolding outline_answer judge told leaves short_fault refuse outline_of result_of
  ring_made after n d g t e c h dr gp tu w =
      let s : ltb (length before) (3 * length (ring_of ws xs)) ≡ false = rw (← c) (le-ltb (length before) (3 * n) h) in
      let put = rw tu at w in
      let fits : length (flat (reversed (turned_of (ring_of ws xs)) (ring_of ws xs))) ≤ length before =
      rw (flat_length (reversed (turned_of (ring_of ws xs)) (ring_of ws xs)), reversed_length (turned_of (ring_of ws xs)) (ring_of ws xs), ← c) h in
      record {
        given = rw (e, s, c, dr, gp, tu);
        memory = rw (e, s) (put ∙ sets_front (flat (reversed (turned_of (ring_of ws xs)) (ring_of ws xs))) before fits);
      }
