-- Laws about the ears of a ring: how many there are, and that they name its points; and the steps by which they are found and cut.
-- Assumes nothing.
use Rattle.std.specs.Prelude.{◌≡◌, ℕ, zero, suc, ◌+◌, ◌-◌, ◌*◌, ◌/◌, ◌%◌, ◌<◌, ◌≤◌, Bool, true, false, cond, ◌&&◌, ltb, List, [], ◌∷◌, ◌++◌, length, take, drop, set, ◌==◌, ◌≢◌, nat_eq, nat_lt, slice_index, slice_index_or, slice_range, slice_set, Float}
use Rattle.std.proofs.Math.Path.{refl}
use Rattle.std.proofs.Common.{sym, ap, ◌∙◌, append_assoc, append-nil, mod-lt, mod-eq_of_lt, zero-add, add-zero, add-one, arith, length-drop, get_or-drop, take-take, take-suc, drop-cons, length-take-le}
use Rattle.std.proofs.Math.Nat.{mod_self, mod-eq-sub-mod}
use Rattle.std.proofs.Math.Decide.{dec_lt}
use borrow.Author.Tests.{ltb-true, lt-ltb, le-ltb, eqb-true, eq-eqb, ne_eqb}
use Rattle.std.proofs.Math.Seq.{paste, paste-zero, paste-suc, take-nil, append_snoc}
use Rattle.std.proofs.lemmas.List.Edits.{take-paste, drop-paste, length-paste}
use Rattle.std.proofs.lemmas.List.{set_at}
use Rattle.shape.specs.Gather.{gather}
use Rattle.shape.specs.Memory.{Put}
use Rattle.shape.specs.Lists.{longer, uneven}
use Rattle.shape.specs.Refusal.{Answer, taken, refused, leaves}
use Rattle.shape.specs.Ears.{turns_left, first_ear, at, before, after, ear_at, without, last_ear, cut_ears, up_to, ears_of, ears_answer}
use Rattle.shape.specs.EarSteps.{Within, Cut}
use Rattle.shape.proofs.Laws.Gather.{gather_even}
use Rattle.shape.proofs.Laws.Memory.{put_none, put_then, put_front}

-- ---- positions in a closed ring

pub before_first : (k n : ℕ) → k < n → k ≡ 0 → n - 1 ≡ before n k
before_first k n h e =
    let l : k + n - 1 < n = omega arith in
    let s : n - 1 ≡ k + n - 1 = omega arith in
    s ∙ sym (mod-eq_of_lt l)

pub before_rest : (k n : ℕ) → k < n → (k ≢ 0) → k - 1 ≡ before n k
before_rest k n h e =
    let some : 0 < k = pos k e in
    let more : n ≤ k + n - 1 = omega arith in
    let less : k + n - 1 - n < n = omega arith in
    let s : k - 1 ≡ k + n - 1 - n = omega arith in
    s ∙ sym (mod-eq-sub-mod more ∙ mod-eq_of_lt less)
  where
    pos : (j : ℕ) → (j ≢ 0) → 0 < j
    pos zero e = absurd (e refl)
    pos (suc j) e = omega arith

pub after_last : (k n : ℕ) → k + 1 ≡ n → 0 ≡ after n k
after_last k n e = rw e (sym (mod_self n))

pub after_rest : (k n : ℕ) → k < n → (k + 1 ≢ n) → k + 1 ≡ after n k
after_rest k n h e = elim (dec_lt (k + 1) n) [ yes p ↦ sym (mod-eq_of_lt p) | no p ↦ absurd (e (omega arith)) ]

pub before_lt : (n k : ℕ) → k < n → before n k < n
before_lt n k h = let p : 0 < n = omega arith in mod-lt (k + n - 1) p

pub after_lt : (n k : ℕ) → k < n → after n k < n
after_lt n k h = let p : 0 < n = omega arith in mod-lt (k + 1) p

-- ---- tests in another order

pub and_last : (x y z : Bool) → z ≡ true → x ≡ true → y ≡ (x && (y && z))
and_last x true z e d = rw (e, d)
and_last x false z e d = rw d

pub and_left : (x y z : Bool) → x ≡ false → false ≡ (x && (y && z))
and_left x y z e = rw e

pub and_right : (x y z : Bool) → z ≡ false → false ≡ (x && (y && z))
and_right true true z e = sym e
and_right true false z e = refl
and_right false y z e = refl

pub and_first : (x y : Bool) → y ≡ true → x ≡ (x && y)
and_first true y e = sym e
and_first false y e = refl

pub and_none : (x y : Bool) → y ≡ false → false ≡ (x && y)
and_none true y e = sym e
and_none false y e = refl

-- ---- an element taken out: those behind it are moved down one by one

drop_take : {A : Type 0} (k n : ℕ) (l : List A) → drop k (take n l) ≡ slice_range l k n
drop_take zero n l = let e : n - 0 ≡ n = omega arith in rw e
drop_take (suc k) zero l = let e : 0 - suc k ≡ 0 = omega arith in rw e
drop_take (suc k) (suc n) [] = sym (take-nil (suc n - suc k))
drop_take (suc k) (suc n) (x ∷ xs) = let e : suc n - suc k ≡ n - k = omega arith in rw e (drop_take k n xs)

-- j of them are moved
unfoldable pub moved : List ℕ → ℕ → ℕ → List ℕ
moved l k j = paste l k (drop (suc k) l) j

pub moved_none : (l : List ℕ) (k : ℕ) → l ≡ moved l k (k - k)
unfolding moved
moved_none l k = let e : k - k ≡ 0 = omega arith in rw e (paste-zero l k (drop (suc k) l))

pub moved_length : (l : List ℕ) (k j : ℕ) → k + j < length l → length (moved l k j) ≡ length l
unfolding moved
moved_length l k j h = length-paste l k (drop (suc k) l) j (omega arith) (simp length-drop (omega arith))

move : (l : List ℕ) (k j : ℕ) → k + j + 1 < length l → slice_set (moved l k j) (k + j) (slice_index (moved l k j) (k + j + 1)) ≡ moved l k (suc j)
unfolding moved
move l k j h =
    let s = drop (suc k) l in
    let fits : j < length s = simp length-drop (omega arith) in
    let some : j ≤ length s = omega arith in
    let low : k ≤ length l = omega arith in
    let same : suc k + j ≡ k + j + 1 = omega arith in
    let e : slice_index_or (paste l k s j) (k + j + 1) 0 ≡ slice_index_or s j 0 =
    sym (get_or-drop (k + j) (paste l k s j) 1 0)
    ∙ ap (λ (r : List ℕ). slice_index r 1) (drop-paste l k s j low some)
    ∙ get_or-drop (k + j) l 1 0
    ∙ ap (λ (i : ℕ). slice_index l i) (sym same)
    ∙ sym (get_or-drop (suc k) l j 0) in
    ap (λ (v : ℕ). set (paste l k s j) (k + j) v) e ∙ paste-suc l k s j 0 (omega arith) fits

pub moved_next : (l m : List ℕ) (k i : ℕ) → m ≡ moved l k (i - k) → k ≤ i → i + 1 < length l → slice_set m i (slice_index m (i + 1)) ≡ moved l k (i + 1 - k)
moved_next l m k i h a b =
    let e : k + (i - k) ≡ i = omega arith in
    let f : i + 1 - k ≡ suc (i - k) = omega arith in
    rw (h, f) (rw e at (move l k (i - k) (omega arith)))

pub moved_all : (l : List ℕ) (k n : ℕ) → k < n → n ≤ length l → take (n - 1) (moved l k (n - 1 - k)) ≡ without (take n l) k
unfolding moved without
moved_all l k n h fits =
    let s = drop (suc k) l in
    let j = n - 1 - k in
    let e : k + j ≡ n - 1 = omega arith in
    let g : n - suc k ≡ n - 1 - k = omega arith in
    let low : k ≤ length l = omega arith in
    let some : j ≤ length s = simp length-drop (omega arith) in
    ap (λ (i : ℕ). take i (paste l k s j)) (sym e) ∙ take-paste l k s j low some
    ∙ ap (λ (r : List ℕ). r ++ take j s) (sym (take-take k n l (omega arith)))
    ∙ ap (λ (r : List ℕ). take k (take n l) ++ r) (sym (drop_take (suc k) n l ∙ ap (λ (i : ℕ). take i s) g))

-- ---- a copy of the front

pub copied_next : (s d m : List ℕ) (i : ℕ) → m ≡ take i s ++ drop i d → i < length s → i < length d → slice_set m i (slice_index s i) ≡ take (i + 1) s ++ drop (i + 1) d
copied_next s d m i e hs hd =
    let v = slice_index_or s i 0 in
    let rest = drop (suc i) d in
    rw (e, add-one)
    (ap (λ (r : List ℕ). set (take i s ++ r) i v) (drop-cons d i 0 hd)
    ∙ set_at (take i s) (slice_index d i) rest v i (length-take-le i s (omega arith))
    ∙ sym (append_snoc (take i s) v rest)
    ∙ ap (λ (r : List ℕ). r ++ rest) (sym (take-suc s i 0 hs)))

-- ---- the numbers of a list are below m

module _ (m : ℕ) where
  within_cons : (x : ℕ) (xs : List ℕ) → x < m → Within m xs → Within m (x ∷ xs)
  within_cons x xs p a zero h = p
  within_cons x xs p a (suc i) h = a i (omega arith)

  pub within_append : (xs ys : List ℕ) → Within m xs → Within m ys → Within m (xs ++ ys)
  within_append [] ys a b = b
  within_append (x ∷ xs) ys a b = within_cons x (xs ++ ys) (a 0 (omega arith)) (within_append xs ys (λ j l. a (suc j) (omega arith)) b)

  pub within_without : (xs : List ℕ) (k : ℕ) → Within m xs → Within m (without xs k)
  unfolding without
  within_without [] zero a = a
  within_without [] (suc k) a = a
  within_without (x ∷ xs) zero a = λ i h. a (suc i) (omega arith)
  within_without (x ∷ xs) (suc k) a = within_cons x (without xs k) (a 0 (omega arith)) (within_without xs k (λ j l. a (suc j) (omega arith)))

  three : (a b c : ℕ) → a < m → b < m → c < m → Within m (a ∷ b ∷ c ∷ [])
  three a b c p q r = within_cons a (b ∷ c ∷ []) p (within_cons b (c ∷ []) q (within_cons c [] r (λ i h. absurd (omega arith))))

  within_ear : (left : List ℕ) (k : ℕ) → k < length left → Within m left → Within m (ear_at left k)
  unfolding ear_at
  within_ear left k h a =
      three _ _ _ (a (before (length left) k) (before_lt (length left) k h)) (a k h) (a (after (length left) k) (after_lt (length left) k h))

  within_last : (ring : List Float) (left : List ℕ) → Within m left → Within m (last_ear ring left)
  unfolding last_ear
  within_last ring left a = go (length left == 3) refl (turns_left ring (at left 0) (at left 1) (at left 2))
    where
      go : (b : Bool) → (length left == 3) ≡ b → (t : Bool) → Within m (cond (b && t) (at left 0 ∷ at left 1 ∷ at left 2 ∷ []) [])
      go true e true =
          let l : length left ≡ 3 = eqb-true (length left) 3 e in
          three _ _ _ (a 0 (omega arith)) (a 1 (omega arith)) (a 2 (omega arith))
      go true e false = λ i h. absurd (omega arith)
      go false e t = λ i h. absurd (omega arith)

  pub within_cut : (ring : List Float) (more : ℕ) (left : List ℕ) → Within m left → Within m (cut_ears ring more left)
  unfolding cut_ears
  within_cut ring zero left a = within_last ring left a
  within_cut ring (suc more) left a =
      let k = first_ear ring left in
      go (nat_lt k (length left)) refl (within_cut ring more (without left k) (within_without left k a))
    where
      go : (b : Bool) → nat_lt (first_ear ring left) (length left) ≡ b → Within m (cut_ears ring more (without left (first_ear ring left)))
          → Within m (cond b (ear_at left (first_ear ring left) ++ cut_ears ring more (without left (first_ear ring left))) [])
      go true e w =
          let k = first_ear ring left in
          within_append (ear_at left k) (cut_ears ring more (without left k)) (within_ear left k (ltb-true k (length left) e) a) w
      go false e w = λ i h. absurd (omega arith)

-- the numbers below n are
up_to_next : (n : ℕ) → up_to (suc n) ≡ up_to n ++ (n ∷ [])
unfolding up_to gather
up_to_next n = refl

pub up_to_length : (n : ℕ) → length (up_to n) ≡ n
unfolding up_to
up_to_length n = gather_even (λ i. i ∷ []) 1 (λ i. refl) n ∙ (let e : 1 * n ≡ n = omega arith in e)

pub within_up_to : (n m : ℕ) → n ≤ m → Within m (up_to n)
unfolding up_to gather
within_up_to zero m h = λ i l. absurd (omega arith)
within_up_to (suc n) m h =
    within_append m (up_to n) (n ∷ []) (within_up_to n m (omega arith)) (within_cons m n [] (omega arith) (λ i l. absurd (omega arith)))

-- every number of an ear names a point of the ring
pub ears_within : (ring : List Float) → Within (length ring / 3) (ears_of ring)
unfolding ears_of
ears_within ring =
    let n = length ring / 3 in
    within_cut n ring (n - 3) (up_to n) (within_up_to n n (omega arith))

-- ---- how many ears there are

pub record Threes (xs : List ℕ) (most : ℕ) : Type 0 where
  pub whole : length xs % 3 ≡ 0
  pub few : length xs ≤ 3 * most

threes_last : (ring : List Float) (left : List ℕ) → Threes (last_ear ring left) 1
unfolding last_ear
threes_last ring left = go (length left == 3 && turns_left ring (at left 0) (at left 1) (at left 2))
  where
    go : (b : Bool) → Threes (cond b (at left 0 ∷ at left 1 ∷ at left 2 ∷ []) []) 1
    go true = record { whole = refl; few = omega arith }
    go false = record { whole = refl; few = omega arith }

threes_cut : (ring : List Float) (more : ℕ) (left : List ℕ) → Threes (cut_ears ring more left) (suc more)
unfolding cut_ears ear_at
threes_cut ring zero left = threes_last ring left
threes_cut ring (suc more) left =
    let k = first_ear ring left in go (nat_lt k (length left)) (cut_ears ring more (without left k)) (threes_cut ring more (without left k))
  where
    go : (b : Bool) (ys : List ℕ) → Threes ys (suc more) → Threes (cond b (ear_at left (first_ear ring left) ++ ys) []) (suc (suc more))
    go true ys t = record { whole = omega (arith, t.whole); few = omega (arith, t.few) }
    go false ys t = record { whole = refl; few = omega arith }

-- at most two fewer than the points: three numbers each
pub ears_threes : (ring : List Float) → Threes (ears_of ring) (length ring / 3 - 2)
unfolding ears_of cut_ears last_ear
ears_threes ring = elim (dec_lt (length ring / 3) 3) [ yes p ↦ none (length ring / 3) p | no p ↦ some (length ring / 3) (omega arith) ]
  where
    none : (n : ℕ) → n < 3 → Threes (cut_ears ring (n - 3) (up_to n)) (n - 2)
    none n h =
        let e : n - 3 ≡ 0 = omega arith in
        let f : nat_eq (length (up_to n)) 3 ≡ false = ne_eqb (length (up_to n)) 3 (λ q. omega (arith, up_to_length n)) in
        rw (e, f) (record { whole = refl; few = omega arith })

    some : (n : ℕ) → 3 ≤ n → Threes (cut_ears ring (n - 3) (up_to n)) (n - 2)
    some n h = let e : n - 2 ≡ suc (n - 3) = omega arith in rw e (threes_cut ring (n - 3) (up_to n))

-- ---- the last three

module _ (ring : List Float) (left : List ℕ) where
  pub last_other : (length left ≢ 3) → last_ear ring left ≡ []
  unfolding last_ear
  last_other h = rw (ne_eqb (length left) 3 h)

  pub last_flat : turns_left ring (at left 0) (at left 1) (at left 2) ≡ false → last_ear ring left ≡ []
  unfolding last_ear
  last_flat e = rw (sym (and_none (length left == 3) (turns_left ring (at left 0) (at left 1) (at left 2)) e))

  pub last_some : length left ≡ 3 → turns_left ring (at left 0) (at left 1) (at left 2) ≡ true → last_ear ring left ≡ at left 0 ∷ at left 1 ∷ at left 2 ∷ []
  unfolding last_ear
  last_some h e = rw (eq-eqb (length left) 3 h, e)

-- ---- one ear after another

-- no ear is found, or one is put and taken out
module _ (ring : List Float) (n at k : ℕ) (left : List ℕ) (e : k ≡ first_ear ring (take n left)) where
  pub cut_nothing : (ears : List ℕ) → k ≡ n → Cut ring n left left ears ears at at
  cut_nothing ears h =
      let none : ltb k n ≡ false = le-ltb k n (omega arith) in
      record { ear = rw (← e, none) (put_none ears at); rest = λ l. absurd (omega (arith, e)) }

  pub cut_did : {left' ears ears' : List ℕ} {next : ℕ} → k < n → Put ears ears' at (ear_at (take n left) k) next
      → take (n - 1) left' ≡ without (take n left) k → Cut ring n left left' ears ears' at next
  cut_did h p r = let some : ltb k n ≡ true = lt-ltb k n h in record { ear = rw (← e, some) p; rest = λ l. rw (← e) r }

-- part way: `done` is put, and with the ears of the n numbers left it is all
pub record Cutting (ring : List Float) (left₀ left ears₀ ears : List ℕ) (points n next : ℕ) : Type 0 where
  pub done : List ℕ
  pub put : Put ears₀ ears 0 done next
  pub rest : done ++ cut_ears ring (n - 3) (take n left) ≡ cut_ears ring (points - 3) (take points left₀)
  pub few : next + 3 * n ≡ 3 * points
  pub fits : n ≤ length left
  pub kept : length left ≡ length left₀
  pub within : Within (length ring / 3) (take n left)

cut_none : (ring : List Float) (n : ℕ) (left : List ℕ) → 3 < n → length left ≡ n → nat_lt (first_ear ring left) n ≡ false → cut_ears ring (n - 3) left ≡ []
unfolding cut_ears
cut_none ring n left h l e =
    let s : n - 3 ≡ suc (n - 4) = omega arith in
    let f : ltb (first_ear ring left) (length left) ≡ false = ap (ltb (first_ear ring left)) l ∙ e in
    rw (s, f)

cut_one : (ring : List Float) (n : ℕ) (left : List ℕ) → 3 < n → length left ≡ n → nat_lt (first_ear ring left) n ≡ true
    → cut_ears ring (n - 3) left ≡ ear_at left (first_ear ring left) ++ cut_ears ring (n - 1 - 3) (without left (first_ear ring left))
unfolding cut_ears
cut_one ring n left h l e =
    let s : n - 3 ≡ suc (n - 4) = omega arith in
    let r : n - 1 - 3 ≡ n - 4 = omega arith in
    let f : ltb (first_ear ring left) (length left) ≡ true = ap (ltb (first_ear ring left)) l ∙ e in
    rw (s, r, f)

ear_length : (left : List ℕ) (k : ℕ) → length (ear_at left k) ≡ 3
unfolding ear_at
ear_length left k = refl

cut_end : (ring : List Float) (more : ℕ) (left : List ℕ) → more ≡ 0 → cut_ears ring more left ≡ last_ear ring left
unfolding cut_ears
cut_end ring more left e = rw e

module _ (ring : List Float) {left₀ left ears₀ ears : List ℕ} {points n at : ℕ} (c : Cutting ring left₀ left ears₀ ears points n at) where
  -- three or fewer: the last ear, if there is one
  pub cut_finish : {ears' : List ℕ} {next : ℕ} → n ≤ 3 → Put ears ears' at (last_ear ring (take n left)) next
      → Put ears₀ ears' 0 (cut_ears ring (points - 3) (take points left₀)) next
  cut_finish h p = rw (← c.rest, cut_end ring (n - 3) (take n left) (omega arith)) (put_then c.put p)

-- at the start
pub cut_start : (ring : List Float) (left ears : List ℕ) (points : ℕ) → points ≤ length left → Within (length ring / 3) (take points left)
    → Cutting ring left left ears ears points points 0
cut_start ring left ears points h w =
    record { done = []; put = put_none ears 0; rest = refl; few = omega arith; fits = h; kept = refl; within = w }

module _ (ring : List Float) {left₀ left left' ears₀ ears ears' : List ℕ} {points n at next : ℕ} (c : Cutting ring left₀ left ears₀ ears points n at)
    (d : Cut ring n left left' ears ears' at next) (h : 3 < n) where
  -- no ear: what is put is all
  pub cut_stop : next ≡ at → Put ears₀ ears' 0 (cut_ears ring (points - 3) (take points left₀)) at
  cut_stop e = go (nat_lt (first_ear ring (take n left)) n) refl d.ear
    where
      go : (b : Bool) → nat_lt (first_ear ring (take n left)) n ≡ b → Put ears ears' at (cond b (ear_at (take n left) (first_ear ring (take n left))) []) next
          → Put ears₀ ears' 0 (cut_ears ring (points - 3) (take points left₀)) at
      go true f p = absurd (omega (arith, p.ends, ear_length (take n left) (first_ear ring (take n left))))
      go false f p =
          let l : length (take n left) ≡ n = length-take-le n left c.fits in
          let all : c.done ≡ cut_ears ring (points - 3) (take points left₀) =
          sym (append-nil c.done) ∙ ap (λ (r : List ℕ). c.done ++ r) (sym (cut_none ring n (take n left) h l f)) ∙ c.rest in
          rw (← all) (record { memory = p.memory ∙ c.put.memory; ends = c.put.ends })

  -- one ear more
  pub cut_more : (next ≢ at) → length left' ≡ length left → Cutting ring left₀ left' ears₀ ears' points (n - 1) next
  cut_more e same = go (nat_lt (first_ear ring (take n left)) n) refl d.ear
    where
      go : (b : Bool) → nat_lt (first_ear ring (take n left)) n ≡ b → Put ears ears' at (cond b (ear_at (take n left) (first_ear ring (take n left))) []) next
          → Cutting ring left₀ left' ears₀ ears' points (n - 1) next
      go true f p =
          let k = first_ear ring (take n left) in
          let l : length (take n left) ≡ n = length-take-le n left c.fits in
          let r = d.rest (ltb-true k n f) in
          record {
            done = c.done ++ ear_at (take n left) k;
            put = put_then c.put p;
            rest = rw (r, append_assoc, ← (cut_one ring n (take n left) h l f)) c.rest;
            few = omega (arith, p.ends, ear_length (take n left) k, c.few);
            fits = omega (arith, c.fits);
            kept = same ∙ c.kept;
            within = rw r (within_without (length ring / 3) (take n left) k c.within);
          }
      go false f p = absurd (e (p.ends ∙ add-zero at))

-- ---- the call

-- a refusal leaves the memory as it was
pub stays : {A B : Type 0} {number place : ℕ} {answer : Answer A} (result old : List B) → refused number place ≡ answer → old ≡ leaves answer result old
unfolding leaves
stays result old e = rw (← e)

-- an answer that is taken leaves the result at the front
pub fills : {A B : Type 0} {a : A} {answer : Answer A} (result old now : List B) → taken a ≡ answer → now ≡ result ++ drop (length result) old → now ≡ leaves answer result old
unfolding leaves
fills result old now e h = rw (← e) h

module _ (ring : List Float) (room : ℕ) where
  pub ring_oversize : 3 * 1024 < length ring → refused 1 1024 ≡ ears_answer ring room
  unfolding ears_answer longer
  ring_oversize h = rw (lt-ltb (3 * 1024) (length ring) h)

  module _ (fits : length ring ≤ 3 * 1024) where
    pub ring_ragged : (length ring % 3 ≢ 0) → refused 2 0 ≡ ears_answer ring room
    unfolding ears_answer longer uneven
    ring_ragged h = rw (le-ltb (3 * 1024) (length ring) fits, ne_eqb (length ring % 3) 0 h)

    module _ (even : length ring % 3 ≡ 0) where
      pub ears_short : room < length (ears_of ring) → refused 3 (length (ears_of ring)) ≡ ears_answer ring room
      unfolding ears_answer longer uneven
      ears_short h = rw (le-ltb (3 * 1024) (length ring) fits, eq-eqb (length ring % 3) 0 even, lt-ltb room (length (ears_of ring)) h)

      pub ears_taken : length (ears_of ring) ≤ room → taken (length (ears_of ring) / 3) ≡ ears_answer ring room
      unfolding ears_answer longer uneven
      ears_taken h = rw (le-ltb (3 * 1024) (length ring) fits, eq-eqb (length ring % 3) 0 even, le-ltb room (length (ears_of ring)) h)

-- what is copied from the memory of the ears is the ears
pub ears_copied : (ring : List Float) {m₀ m : List ℕ} (out out' : List ℕ) {n : ℕ} → Put m₀ m 0 (ears_of ring) n → n ≤ length m₀ → out' ≡ take n m ++ drop n out
    → out' ≡ ears_of ring ++ drop (length (ears_of ring)) out
ears_copied ring {m₀} {m} out out' {n} p h e =
    let s : n ≡ length (ears_of ring) = p.ends ∙ zero-add (length (ears_of ring)) in
    rw (← s) (rw (put_front p h) at e)

-- there are at most 3,066 numbers
pub ears_few : (ring : List Float) → length ring ≤ 3 * 1024 → length (ears_of ring) ≤ 3066
ears_few ring h = omega (arith, (ears_threes ring).few)
