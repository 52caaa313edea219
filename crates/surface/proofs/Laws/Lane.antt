-- The lane of a triangle: what becomes of a record that is held or written into a file, that nothing is lost on the way, and that both forms are bad
-- for the same, but for the words that one of them alone has. Assumes nothing.
use Rattle.std.specs.Prelude.{◌≡◌, ◌≢◌, refl, Bool, true, false, cond, not, ◌&&◌, ◌||◌, List, [], ◌∷◌, ℕ, ◌+◌, ◌-◌, ◌<◌, ◌≤◌, ◌^◌, ltb, eqb, length, get_or, set, take, zero, suc, Option, Some, None}
use Rattle.std.proofs.Common.{sym, ◌∙◌, arith, length-set, get_or-set_other, eqb-true, ne_eqb, le-ltb, ltb-false, ltb-true}
use Rattle.std.proofs.lemmas.List.{take-set-le}
use borrow.Author.Tests.{eqb-false}
use Rattle.std.proofs.Math.Bool.{true≢false}
use Rattle.shape.specs.Gather.{any}
use Rattle.surface.specs.Lane.{with_pair, lane_of_word, lane_of_file, in_file, greatest_id, past_greatest, lane_of_held, in_held, bad_pair}
use Rattle.surface.specs.File.{File, Held, kind_of, by_kind, in_file_alone, spares, spare, spare_used, bad_lane, bad_record, held_of, file_of}

-- what holds of any eight words holds of a whole record
pub of_eight : (P : List ℕ → Type 0) → ((a b c d e f g h : ℕ) → P (a ∷ b ∷ c ∷ d ∷ e ∷ f ∷ g ∷ h ∷ [])) → (r : List ℕ) → length r ≡ 8 → P r
of_eight P p [] l = absurd (omega arith)
of_eight P p (a ∷ []) l = absurd (omega arith)
of_eight P p (a ∷ b ∷ []) l = absurd (omega arith)
of_eight P p (a ∷ b ∷ c ∷ []) l = absurd (omega arith)
of_eight P p (a ∷ b ∷ c ∷ d ∷ []) l = absurd (omega arith)
of_eight P p (a ∷ b ∷ c ∷ d ∷ e ∷ []) l = absurd (omega arith)
of_eight P p (a ∷ b ∷ c ∷ d ∷ e ∷ f ∷ []) l = absurd (omega arith)
of_eight P p (a ∷ b ∷ c ∷ d ∷ e ∷ f ∷ g ∷ []) l = absurd (omega arith)
of_eight P p (a ∷ b ∷ c ∷ d ∷ e ∷ f ∷ g ∷ h ∷ []) l = p a b c d e f g h
of_eight P p (a ∷ b ∷ c ∷ d ∷ e ∷ f ∷ g ∷ h ∷ i ∷ r) l = absurd (omega arith)

-- ---- the words of a lane alone are changed

module _ (r : List ℕ) where
  pair_length : (lane named : ℕ) → length (with_pair lane named r) ≡ length r
  unfolding with_pair
  pair_length lane named = simp length-set refl

  pair_word : (lane named j : ℕ) → j ≢ 4 → j ≢ 7 → get_or (with_pair lane named r) j 0 ≡ get_or r j 0
  unfolding with_pair
  pair_word lane named j p q = get_or-set_other _ 7 j named 0 q ∙ get_or-set_other r 4 j lane 0 p

  -- which stand behind the front
  pair_front : (lane named : ℕ) → take 4 (with_pair lane named r) ≡ take 4 r
  unfolding with_pair
  pair_front lane named = take-set-le 4 (set r 4 lane) 7 named (omega arith) ∙ take-set-le 4 r 4 lane (omega arith)

  in_held_front : (lane : Option ℕ) → take 4 (in_held lane r) ≡ take 4 r
  unfolding in_held
  in_held_front None = pair_front 0 0
  in_held_front (Some id) = pair_front id 1

  in_file_front : (lane : Option ℕ) → take 4 (in_file lane r) ≡ take 4 r
  unfolding in_file
  in_file_front None = pair_front 0 0
  in_file_front (Some id) = pair_front (id + 1) 0

  in_held_length : (lane : Option ℕ) → length (in_held lane r) ≡ length r
  unfolding in_held
  in_held_length None = pair_length 0 0
  in_held_length (Some id) = pair_length id 1

  in_file_length : (lane : Option ℕ) → length (in_file lane r) ≡ length r
  unfolding in_file
  in_file_length None = pair_length 0 0
  in_file_length (Some id) = pair_length (id + 1) 0

  in_held_word : (lane : Option ℕ) (j : ℕ) → j ≢ 4 → j ≢ 7 → get_or (in_held lane r) j 0 ≡ get_or r j 0
  unfolding in_held
  in_held_word None j p q = pair_word 0 0 j p q
  in_held_word (Some id) j p q = pair_word id 1 j p q

  in_file_word : (lane : Option ℕ) (j : ℕ) → j ≢ 4 → j ≢ 7 → get_or (in_file lane r) j 0 ≡ get_or r j 0
  unfolding in_file
  in_file_word None j p q = pair_word 0 0 j p q
  in_file_word (Some id) j p q = pair_word (id + 1) 0 j p q

-- what holds of a record and of what a triangle's becomes holds of what any becomes
by_kinds : (P : List ℕ → Type 0) (r t : List ℕ) (kind : ℕ) → P r → P t → P (by_kind kind r t r)
unfolding by_kind
by_kinds P r t kind p q = go (eqb kind 1) (eqb kind 2)
  where
    go : (v w : Bool) → P (cond v r (cond w t r))
    go true w = p
    go false true = q
    go false false = p

module _ (kind : ℕ) (r : List ℕ) where
  pub length_held : length (held_of kind r) ≡ length r
  unfolding held_of
  length_held = by_kinds (λ s. length s ≡ length r) r (in_held (lane_of_file r) r) kind refl (in_held_length r (lane_of_file r))

  pub length_filed : length (file_of kind r) ≡ length r
  unfolding file_of
  length_filed = by_kinds (λ s. length s ≡ length r) r (in_file (lane_of_held r) r) kind refl (in_file_length r (lane_of_held r))

  -- the words before that of the lane stay
  pub front_held : take 4 (held_of kind r) ≡ take 4 r
  unfolding held_of
  front_held = by_kinds (λ s. take 4 s ≡ take 4 r) r (in_held (lane_of_file r) r) kind refl (in_held_front r (lane_of_file r))

  pub front_filed : take 4 (file_of kind r) ≡ take 4 r
  unfolding file_of
  front_filed = by_kinds (λ s. take 4 s ≡ take 4 r) r (in_file (lane_of_held r) r) kind refl (in_file_front r (lane_of_held r))

  module _ (j : ℕ) (p : j ≢ 4) (q : j ≢ 7) where
    pub word_held : get_or (held_of kind r) j 0 ≡ get_or r j 0
    unfolding held_of
    word_held = by_kinds (λ s. get_or s j 0 ≡ get_or r j 0) r (in_held (lane_of_file r) r) kind refl (in_held_word r (lane_of_file r) j p q)

    pub word_filed : get_or (file_of kind r) j 0 ≡ get_or r j 0
    unfolding file_of
    word_filed = by_kinds (λ s. get_or s j 0 ≡ get_or r j 0) r (in_file (lane_of_held r) r) kind refl (in_file_word r (lane_of_held r) j p q)

  pub kind_held : kind_of (held_of kind r) ≡ kind_of r
  kind_held = word_held 0 (λ e. omega arith) (λ e. omega arith)

  pub kind_filed : kind_of (file_of kind r) ≡ kind_of r
  kind_filed = word_filed 0 (λ e. omega arith) (λ e. omega arith)

  same : (a : Bool) → cond a r r ≡ r
  same true = refl
  same false = refl

  -- a record of another kind is held as it stands in the file
  module _ (n : kind ≡ 2 → ⊥) where
    pub held_other : r ≡ held_of kind r
    unfolding held_of by_kind
    held_other = rw (ne_eqb kind 2 n) (sym (same (eqb kind 1)))

    pub filed_other : r ≡ file_of kind r
    unfolding file_of by_kind
    filed_other = rw (ne_eqb kind 2 n) (sym (same (eqb kind 1)))

  -- and a triangle's by its lane
  module _ (e : kind ≡ 2) where
    pub held_named : {id : ℕ} → lane_of_file r ≡ Some id → with_pair id 1 r ≡ held_of kind r
    unfolding held_of by_kind in_held
    held_named l = rw (e, l)

    pub held_none : lane_of_file r ≡ None → with_pair 0 0 r ≡ held_of kind r
    unfolding held_of by_kind in_held
    held_none l = rw (e, l)

    pub filed_named : {id : ℕ} → lane_of_held r ≡ Some id → with_pair (id + 1) 0 r ≡ file_of kind r
    unfolding file_of by_kind in_file
    filed_named l = rw (e, l)

    pub filed_none : lane_of_held r ≡ None → with_pair 0 0 r ≡ file_of kind r
    unfolding file_of by_kind in_file
    filed_none l = rw (e, l)

    -- the greatest id is no bound where there is none
    pub named_within : {id : ℕ} → lane_of_held r ≡ Some id → by_kind kind false (past_greatest (lane_of_held r)) false ≡ false → id ≤ greatest_id
    unfolding by_kind past_greatest
    named_within {id} l p = ltb-false greatest_id id (rw (e, l) at p)

-- ---- nothing is lost

module _ (a b c d e f g h : ℕ) where
  -- a whole record
  abbrev pub whole : List ℕ
  whole = a ∷ b ∷ c ∷ d ∷ e ∷ f ∷ g ∷ h ∷ []

  -- as it is held, a triangle has the lane that it has in the file
  lane_held : lane_of_held (in_held (lane_of_file whole) whole) ≡ lane_of_file whole
  unfolding in_held with_pair lane_of_word lane_of_held
  lane_held = go (eqb e 0)
    where
      go : (z : Bool) → lane_of_held (in_held (cond z None (Some (e - 1))) whole) ≡ cond z None (Some (e - 1))
      go true = refl
      go false = refl

  -- so that the words of a file come back, where word 7 is 0
  back_in_file : h ≡ 0 → in_file (lane_of_held (in_held (lane_of_file whole) whole)) (in_held (lane_of_file whole) whole) ≡ whole
  unfolding in_file in_held with_pair lane_of_word
  back_in_file z = rw lane_held (go (eqb e 0) refl)
    where
      go : (w : Bool) → eqb e 0 ≡ w → in_file (cond w None (Some (e - 1))) (in_held (cond w None (Some (e - 1))) whole) ≡ whole
      go true p = let q = eqb-true e 0 p in rw (q, z)
      go false p =
          let n = eqb-false e 0 p in
          let q : e - 1 + 1 ≡ e = omega arith in
          rw (q, z)

  -- and those that are held, where they are a lane's
  back_in_held : bad_pair whole ≡ false → in_held (lane_of_file (in_file (lane_of_held whole) whole)) (in_file (lane_of_held whole) whole) ≡ whole
  unfolding bad_pair in_file in_held with_pair lane_of_word lane_of_held
  back_in_held n = go (eqb h 1) refl (eqb e 0) refl (eqb h 0) refl n
    where
      go : (u : Bool) → eqb h 1 ≡ u → (v : Bool) → eqb e 0 ≡ v → (w : Bool) → eqb h 0 ≡ w → not (u || (v && w)) ≡ false
          → in_held (lane_of_file (in_file (cond u (Some e) None) whole)) (in_file (cond u (Some e) None) whole) ≡ whole
      go true p v q w r n =
          let s : eqb (e + 1) 0 ≡ false = ne_eqb (e + 1) 0 (λ z. omega arith) in
          let t : e + 1 - 1 ≡ e = omega arith in
          let x = eqb-true h 1 p in
          rw (s, t, x)
      go false p true q true r n = let x = eqb-true e 0 q in let y = eqb-true h 0 r in rw (x, y)
      go false p true q false r n = absurd (true≢false n)
      go false p false q w r n = absurd (true≢false n)

  -- a lane of a file's has a word there again
  within : e < 2 ^ 32 → past_greatest (lane_of_file whole) ≡ false
  unfolding lane_of_word past_greatest
  within l = go (eqb e 0)
    where
      go : (z : Bool) → past_greatest (cond z None (Some (e - 1))) ≡ false
      go true = refl
      go false = le-ltb greatest_id (e - 1) (omega arith)

-- ---- both forms are bad for the same

-- "other words are 0" of a file's triangle says so of word 7 too
abbrev pub last_used : List ℕ → Bool
last_used r = by_kind (kind_of r) false (not (eqb (get_or r 7 0) 0)) false

module _ (r : List ℕ) (last : ℕ) where
  -- a record of another kind
  other_same : (vertex : Bool) → eqb (kind_of r) 1 ≡ vertex → eqb (kind_of r) 2 ≡ false → bad_record File r last ≡ bad_record Held r last
  unfolding bad_record bad_lane spare_used spare spares by_kind any
  other_same true v t = rw v
  other_same false v t = rw (v, t)

or_false : (a : Bool) → a ≡ (a || false)
or_false true = refl
or_false false = refl

module _ (b c d e f g h last : ℕ) where
  abbrev triangle : List ℕ
  triangle = whole 2 b c d e f g h

  triangle_in_file : bad_record File triangle last ≡ (bad_record Held (in_held (lane_of_file triangle) triangle) last || not (eqb h 0))
  unfolding bad_record bad_lane bad_pair spare_used spare spares in_file_alone by_kind any lane_of_word in_held with_pair
  triangle_in_file = go (eqb e 0)
    where
      tests : (falls p q s : Bool) → (falls || (((p || q) || s) || false)) ≡ ((falls || (((p || q) || false) || false)) || s)
      tests true p q s = refl
      tests false true q s = refl
      tests false false true s = refl
      tests false false false true = refl
      tests false false false false = refl

      go : (z : Bool) → bad_record File triangle last ≡ (bad_record Held (in_held (cond z None (Some (e - 1))) triangle) last || not (eqb h 0))
      go true = tests (ltb 2 last) (not (eqb f 0)) (not (eqb g 0)) (not (eqb h 0))
      go false = tests (ltb 2 last) (not (eqb f 0)) (not (eqb g 0)) (not (eqb h 0))

  triangle_held : bad_record Held triangle last ≡ (bad_record File (in_file (lane_of_held triangle) triangle) last || bad_pair triangle)
  unfolding bad_record bad_lane spare_used spare spares in_file_alone by_kind any lane_of_held in_file with_pair
  triangle_held = go (eqb h 1)
    where
      tests : (falls p q s : Bool) → (falls || (((p || q) || false) || s)) ≡ ((falls || (((p || q) || false) || false)) || s)
      tests true p q s = refl
      tests false true q s = refl
      tests false false true s = refl
      tests false false false true = refl
      tests false false false false = refl

      go : (z : Bool) → bad_record Held triangle last ≡ (bad_record File (in_file (cond z (Some e) None) triangle) last || bad_pair triangle)
      go true = tests (ltb 2 last) (not (eqb f 0)) (not (eqb g 0)) (bad_pair triangle)
      go false = tests (ltb 2 last) (not (eqb f 0)) (not (eqb g 0)) (bad_pair triangle)

module _ (last : ℕ) where
  -- a whole record of a file is bad exactly if it is as it is held, or if it is a triangle's with a word 7 that is used
  pub bad_as_held : (r : List ℕ) → length r ≡ 8 → bad_record File r last ≡ (bad_record Held (held_of (kind_of r) r) last || last_used r)
  unfolding held_of by_kind
  bad_as_held =
      of_eight (λ r. bad_record File r last ≡ (bad_record Held (held_of (kind_of r) r) last || last_used r))
      (λ a b c d e f g h. go a b c d e f g h (eqb a 1) refl (eqb a 2) refl)
    where
      go : (a b c d e f g h : ℕ) → (v : Bool) → eqb a 1 ≡ v → (w : Bool) → eqb a 2 ≡ w → (let r = whole a b c d e f g h in
          bad_record File r last ≡ (bad_record Held (cond v r (cond w (in_held (lane_of_file r) r) r)) last || cond v false (cond w (not (eqb h 0)) false)))
      go a b c d e f g h true p false q = other_same (whole a b c d e f g h) last _ p q ∙ or_false _
      go a b c d e f g h false p false q = other_same (whole a b c d e f g h) last _ p q ∙ or_false _
      go a b c d e f g h true p true q = absurd (let x = eqb-true a 1 p in let y = eqb-true a 2 q in omega arith)
      go a b c d e f g h false p true q = let z = eqb-true a 2 q in rw z (triangle_in_file b c d e f g h last)

  -- and a held one exactly if it is as it stands in a file, or if its words are no lane's
  pub bad_as_filed : (r : List ℕ) → length r ≡ 8 → bad_record Held r last ≡ (bad_record File (file_of (kind_of r) r) last || bad_lane Held r)
  unfolding file_of by_kind bad_lane
  bad_as_filed =
      of_eight (λ r. bad_record Held r last ≡ (bad_record File (file_of (kind_of r) r) last || bad_lane Held r))
      (λ a b c d e f g h. go a b c d e f g h (eqb a 1) refl (eqb a 2) refl)
    where
      go : (a b c d e f g h : ℕ) → (v : Bool) → eqb a 1 ≡ v → (w : Bool) → eqb a 2 ≡ w → (let r = whole a b c d e f g h in
          bad_record Held r last ≡ (bad_record File (cond v r (cond w (in_file (lane_of_held r) r) r)) last || cond v false (cond w (bad_pair r) false)))
      go a b c d e f g h true p false q = sym (other_same (whole a b c d e f g h) last _ p q) ∙ or_false _
      go a b c d e f g h false p false q = sym (other_same (whole a b c d e f g h) last _ p q) ∙ or_false _
      go a b c d e f g h true p true q = absurd (let x = eqb-true a 1 p in let y = eqb-true a 2 q in omega arith)
      go a b c d e f g h false p true q = let z = eqb-true a 2 q in rw z (triangle_held b c d e f g h last)

-- ---- whole records

pub zero_word : (h : ℕ) → not (eqb h 0) ≡ false → h ≡ 0
zero_word h u = go (eqb h 0) refl u
  where
    go : (z : Bool) → eqb h 0 ≡ z → not z ≡ false → h ≡ 0
    go true p u = eqb-true h 0 p
    go false p u = absurd (true≢false u)

-- what is held of a record of a file gives the record back, and what is written of a held one
pub back_from_held : (r : List ℕ) → length r ≡ 8 → last_used r ≡ false → file_of (kind_of r) (held_of (kind_of r) r) ≡ r
unfolding held_of file_of by_kind
back_from_held =
    of_eight (λ r. last_used r ≡ false → file_of (kind_of r) (held_of (kind_of r) r) ≡ r)
    (λ a b c d e f g h. go a b c d e f g h (eqb a 1) (eqb a 2))
  where
    go : (a b c d e f g h : ℕ) (v w : Bool) → cond v false (cond w (not (eqb h 0)) false) ≡ false
        → (let r = whole a b c d e f g h in let s = cond v r (cond w (in_held (lane_of_file r) r) r) in cond v s (cond w (in_file (lane_of_held s) s) s) ≡ r)
    go a b c d e f g h true w u = refl
    go a b c d e f g h false true u = back_in_file a b c d e f g h (zero_word h u)
    go a b c d e f g h false false u = refl

pub back_from_file : (r : List ℕ) → length r ≡ 8 → bad_lane Held r ≡ false → held_of (kind_of r) (file_of (kind_of r) r) ≡ r
unfolding held_of file_of by_kind bad_lane
back_from_file =
    of_eight (λ r. bad_lane Held r ≡ false → held_of (kind_of r) (file_of (kind_of r) r) ≡ r)
    (λ a b c d e f g h. go a b c d e f g h (eqb a 1) (eqb a 2))
  where
    go : (a b c d e f g h : ℕ) (v w : Bool) → cond v false (cond w (bad_pair (whole a b c d e f g h)) false) ≡ false
        → (let r = whole a b c d e f g h in let s = cond v r (cond w (in_file (lane_of_held r) r) r) in cond v s (cond w (in_held (lane_of_file s) s) s) ≡ r)
    go a b c d e f g h true w u = refl
    go a b c d e f g h false true u = back_in_held a b c d e f g h u
    go a b c d e f g h false false u = refl

-- a triangle of a file has the lane that its held words tell
pub lane_kept : (r : List ℕ) → length r ≡ 8 → kind_of r ≡ 2 → lane_of_held (held_of (kind_of r) r) ≡ lane_of_file r
unfolding held_of by_kind
lane_kept r l k = rw k (of_eight (λ r. lane_of_held (in_held (lane_of_file r) r) ≡ lane_of_file r) lane_held r l)

-- which has a word in a file again
pub never_past : (r : List ℕ) → length r ≡ 8 → get_or r 4 0 < 2 ^ 32 → (let s = held_of (kind_of r) r in by_kind (kind_of s) false (past_greatest (lane_of_held s)) false) ≡ false
unfolding held_of by_kind
never_past =
    of_eight (λ r. get_or r 4 0 < 2 ^ 32 → (let s = held_of (kind_of r) r in by_kind (kind_of s) false (past_greatest (lane_of_held s)) false) ≡ false)
    (λ a b c d e f g h l. rw (kind_held a (whole a b c d e f g h)) (go a b c d e f g h l (eqb a 1) (eqb a 2)))
  where
    go : (a b c d e f g h : ℕ) → e < 2 ^ 32 → (v w : Bool) → (let r = whole a b c d e f g h in
        cond v false (cond w (past_greatest (lane_of_held (cond v r (cond w (in_held (lane_of_file r) r) r)))) false)) ≡ false
    go a b c d e f g h l true w = refl
    go a b c d e f g h l false true = rw (lane_held a b c d e f g h) (within a b c d e f g h l)
    go a b c d e f g h l false false = refl

-- words stay words
abbrev pub Words : List ℕ → Type 0
Words r = (i : ℕ) → get_or r i 0 < 2 ^ 32

set_words : (r : List ℕ) (j x : ℕ) → Words r → x < 2 ^ 32 → Words (set r j x)
set_words [] j x b l i = b i
set_words (y ∷ ys) zero x b l zero = l
set_words (y ∷ ys) zero x b l (suc i) = b (suc i)
set_words (y ∷ ys) (suc j) x b l zero = b zero
set_words (y ∷ ys) (suc j) x b l (suc i) = set_words ys j x (λ k. b (suc k)) l i

module _ (r : List ℕ) (b : Words r) where
  pub pair_words : (lane named : ℕ) → lane < 2 ^ 32 → named < 2 ^ 32 → Words (with_pair lane named r)
  unfolding with_pair
  pair_words lane named l m = set_words (set r 4 lane) 7 named (set_words r 4 lane b l) m

  pub words_held : Words (held_of (kind_of r) r)
  unfolding held_of in_held lane_of_word
  words_held = by_kinds Words r (in_held (lane_of_file r) r) (kind_of r) b (go (eqb (get_or r 4 0) 0))
    where
      go : (z : Bool) → Words (in_held (cond z None (Some (get_or r 4 0 - 1))) r)
      go true = pair_words 0 0 (omega arith) (omega arith)
      go false = pair_words (get_or r 4 0 - 1) 1 (omega (arith, b 4)) (omega arith)

  pub words_filed : by_kind (kind_of r) false (past_greatest (lane_of_held r)) false ≡ false → Words (file_of (kind_of r) r)
  unfolding file_of by_kind in_file lane_of_held past_greatest
  words_filed = go (eqb (kind_of r) 1) (eqb (kind_of r) 2)
    where
      lane : (z : Bool) → past_greatest (cond z (Some (get_or r 4 0)) None) ≡ false → Words (in_file (cond z (Some (get_or r 4 0)) None) r)
      lane true u = let l = ltb-false greatest_id (get_or r 4 0) u in pair_words (get_or r 4 0 + 1) 0 (omega arith) (omega arith)
      lane false u = pair_words 0 0 (omega arith) (omega arith)

      go : (v w : Bool) → cond v false (cond w (past_greatest (lane_of_held r)) false) ≡ false → Words (cond v r (cond w (in_file (lane_of_held r) r) r))
      go true w u = b
      go false true u = lane (eqb (get_or r 7 0) 1) u
      go false false u = b

-- of a lane that a file has no word for, the word that would stand there is 2 ^ 32
module _ (a b c d e f g h : ℕ) where
  pub past_filed : e < 2 ^ 32 → by_kind a false (past_greatest (lane_of_held (whole a b c d e f g h))) false ≡ true
      → (a ≡ 2) × (file_of a (whole a b c d e f g h) ≡ whole a b c d 4294967296 f g 0)
  unfolding file_of by_kind in_file with_pair lane_of_held past_greatest
  past_filed l = go (eqb a 1) (eqb a 2) (eqb-true a 2) (eqb h 1)
    where
      go : (v w : Bool) → (w ≡ true → a ≡ 2) → (z : Bool) → cond v false (cond w (past_greatest (cond z (Some e) None)) false) ≡ true
          → (a ≡ 2) × (cond v (whole a b c d e f g h) (cond w (in_file (cond z (Some e) None) (whole a b c d e f g h)) (whole a b c d e f g h)) ≡ whole a b c d 4294967296 f g 0)
      go true w k z p = absurd (true≢false (sym p))
      go false false k z p = absurd (true≢false (sym p))
      go false true k true p = (k refl, (let m = ltb-true greatest_id e p in let q : e + 1 ≡ 4294967296 = omega arith in rw q))
      go false true k false p = absurd (true≢false (sym p))

-- which is written as 0: the record is as bad as before, since the word of a triangle's lane is not judged in a file
pub past_same : (b c d e f g last : ℕ) → bad_record File (whole 2 b c d 0 f g 0) last ≡ bad_record File (whole 2 b c d e f g 0) last
unfolding bad_record bad_lane spare_used spare spares in_file_alone by_kind any
past_same b c d e f g last = refl
