-- How many records of a kind there are and where they stand, and how long the lists of the mesh are. Assumes nothing.
use Rattle.std.specs.Prelude.{◌≡◌, ◌≢◌, Bool, true, false, cond, ◌||◌, List, ltb, eqb, drop}
use Rattle.std.proofs.Math.Path.{refl}
use Rattle.std.proofs.Common.{ap, sym, ◌∙◌, add-one}
use Prim.Native.Nat.{ℕ, zero, suc, ◌+◌, ◌*◌, ◌/◌, ◌≤◌, ◌<◌}
use Rattle.std.proofs.Math.Decide.{dec_lt}
use native.Mathlib.Omega.{arith}
use borrow.Author.Tests.{ltb-false, ne_eqb, eqb-false}
use Rattle.std.proofs.Math.ListN.{length}
use Rattle.std.proofs.Math.Seq.{get_or-take, get_or-drop}
use Rattle.std.proofs.Math.ListN.{get_or, get_or-eq_default}
use Rattle.std.specs.Float.{binary32}
use Rattle.std.specs.Float.Ieee.{of_bits}
use Rattle.shape.specs.Gather.{any}
use Rattle.shape.specs.Refusal.{fine}
use Rattle.shape.specs.Lists.{word_of}
use Rattle.shape.proofs.Laws.Gather.{gather_even, any_none, or_left, or_right}
use Rattle.surface.specs.declared.held.Sizes.{Sizes}
use Rattle.surface.specs.File.{Held}
use Rattle.surface.specs.Lane.{lane_of_word, lane_of_file, lane_of_held}
use Rattle.surface.specs.File.{File, decode, words_of, file_fault, file_record, held_of, held_at, spares, spare, kind_of, spare_used, bad_lane, bad_record, kind_before, bad_at, parts, held_record, held_fault}
use Rattle.surface.specs.Held.{how_many, is_kind, count_kind, sizes_of, triangle_record, lane_in, single_in, three_in, place_in, normal_in, corners_in, vertices_in, normals_in, indices_in}
use Rattle.surface.proofs.Laws.Lane.{zero_word, word_held, kind_held, held_other, lane_kept}
use Rattle.surface.proofs.Laws.File.{faultless, whole_held, whole_file, words_length, decode_length, file_record_lem, held_record_at, file_record_eight, read_sound}
use Rattle.surface.proofs.Laws.Records.{positive, no_spare_used}

-- ---- how many

pub how_many_next : (f : ℕ → Bool) (n : ℕ) → how_many f (n + 1) ≡ how_many f n + cond (f n) 1 0
unfolding how_many
how_many_next f n = rw add-one

pub one_at_most : (b : Bool) → cond b 1 0 ≤ 1
one_at_most true = omega arith
one_at_most false = omega arith

pub how_many_le : (f : ℕ → Bool) (n : ℕ) → how_many f n ≤ n
unfolding how_many
how_many_le f zero = omega arith
how_many_le f (suc n) = omega (arith, how_many_le f n, one_at_most (f n))

-- the counts, each at most that of all records
pub record Sized (ws : List ℕ) (s : Sizes) : Type 0 where
  pub vertices_are : s.vertices ≡ count_kind ws 1
  pub triangles_are : s.triangles ≡ count_kind ws 2
  pub questions_are : s.questions ≡ count_kind ws 3
  pub vertices_few : s.vertices ≤ length ws / 8
  pub triangles_few : s.triangles ≤ length ws / 8
  pub questions_few : s.questions ≤ length ws / 8

pub sized : (ws : List ℕ) (s : Sizes) → s ≡ sizes_of ws → Sized ws s
unfolding sizes_of count_kind
sized ws s e =
    let v : s.vertices ≡ count_kind ws 1 = ap (λ (s : Sizes). s.vertices) e in
    let t : s.triangles ≡ count_kind ws 2 = ap (λ (s : Sizes). s.triangles) e in
    let q : s.questions ≡ count_kind ws 3 = ap (λ (s : Sizes). s.questions) e in
    record {
      vertices_are = v;
      triangles_are = t;
      questions_are = q;
      vertices_few = rw v (how_many_le (is_kind ws 1) (length ws / 8));
      triangles_few = rw t (how_many_le (is_kind ws 2) (length ws / 8));
      questions_few = rw q (how_many_le (is_kind ws 3) (length ws / 8));
    }

-- ---- the lists of the mesh are in threes

module _ (ws : List ℕ) where
  pub vertices_length : length (vertices_in ws) ≡ 3 * count_kind ws 1
  unfolding vertices_in place_in three_in
  vertices_length = gather_even (place_in ws) 3 (λ i. refl) (count_kind ws 1)

  pub normals_length : length (normals_in ws) ≡ 3 * count_kind ws 1
  unfolding normals_in normal_in three_in
  normals_length = gather_even (normal_in ws) 3 (λ i. refl) (count_kind ws 1)

  pub indices_length : length (indices_in ws) ≡ 3 * count_kind ws 2
  unfolding indices_in corners_in
  indices_length = gather_even (corners_in ws) 3 (λ i. refl) (count_kind ws 2)

-- ---- "kinds never fall": where the records of a kind stand

-- no number below n
none_many : (f : ℕ → Bool) (n : ℕ) → ((k : ℕ) → k < n → f k ≡ false) → how_many f n ≡ 0
unfolding how_many
none_many f zero h = refl
none_many f (suc n) h = rw (none_many f n (λ k l. h k (omega arith)), h n (omega arith))

-- kinds from 1 to 3 that never fall
pub record Rising (kind : ℕ → ℕ) (n : ℕ) : Type 0 where
  pub some : (k : ℕ) → k < n → 0 < kind k
  pub three : (k : ℕ) → k < n → kind k ≤ 3
  pub rise : (k : ℕ) → suc k < n → kind k ≤ kind (suc k)

-- n kinds are a ones, then b twos, then c threes
pub record Ranked (kind : ℕ → ℕ) (n a b c : ℕ) : Type 0 where
  pub ones : (k : ℕ) → k < a → kind k ≡ 1
  pub twos : (k : ℕ) → a ≤ k → k < a + b → kind k ≡ 2
  pub threes : (k : ℕ) → a + b ≤ k → k < n → kind k ≡ 3
  pub all : a + b + c ≡ n

module _ (kind : ℕ → ℕ) where
  fewer : (n : ℕ) → Rising kind (suc n) → Rising kind n
  fewer n r = record { some = λ k h. r.some k (omega arith); three = λ k h. r.three k (omega arith); rise = λ k h. r.rise k (omega arith) }

  -- none is above the last
  last_most : (n : ℕ) → Rising kind (suc n) → (k : ℕ) → k ≤ n → kind k ≤ kind n
  last_most zero r k h = let e : k ≡ 0 = omega arith in rw e (omega arith)
  last_most (suc n) r k h =
      elim (dec_lt k (suc n)) [
        | yes p ↦ (let l : k ≤ n = omega arith in omega (arith, last_most n (fewer (suc n) r) k l, r.rise n (omega arith)))
        | no p ↦ (let e : k ≡ suc n = omega arith in rw e (omega arith))
      ]

  -- so none below n is of a kind above that of n
  none_above : (n j : ℕ) → Rising kind (suc n) → kind n < j → how_many (λ k. eqb (kind k) j) n ≡ 0
  none_above n j r h =
      none_many (λ k. eqb (kind k) j) n
      (λ k l.
      let m : kind k ≤ kind n = last_most n r k (omega arith) in
      ne_eqb (kind k) j (λ e. omega arith))

  new_or_old : (n k v : ℕ) → k < suc n → kind n ≡ v → (k < n → kind k ≡ v) → kind k ≡ v
  new_or_old n k v h e old = elim (dec_lt k n) [ yes p ↦ old p | no p ↦ (let s : k ≡ n = omega arith in rw s e) ]

  module _ (n a b c : ℕ) (r : Ranked kind n a b c) where
    one_more : b ≡ 0 → c ≡ 0 → kind n ≡ 1 → Ranked kind (suc n) (a + 1) (b + 0) (c + 0)
    one_more zb zc e =
        record {
          ones = λ k h. new_or_old n k 1 (omega (arith, r.all)) e (λ l. r.ones k (omega (arith, r.all)));
          twos = λ k l h. absurd (omega arith);
          threes = λ k l h. absurd (omega (arith, r.all));
          all = omega (arith, r.all);
        }

    two_more : c ≡ 0 → kind n ≡ 2 → Ranked kind (suc n) (a + 0) (b + 1) (c + 0)
    two_more zc e =
        record {
          ones = λ k h. r.ones k (omega arith);
          twos = λ k l h. new_or_old n k 2 (omega (arith, r.all)) e (λ m. r.twos k (omega arith) (omega (arith, r.all)));
          threes = λ k l h. absurd (omega (arith, r.all));
          all = omega (arith, r.all);
        }

    three_more : kind n ≡ 3 → Ranked kind (suc n) (a + 0) (b + 0) (c + 1)
    three_more e =
        record {
          ones = λ k h. r.ones k (omega arith);
          twos = λ k l h. r.twos k (omega arith) (omega arith);
          threes = λ k l h. new_or_old n k 3 h e (λ m. r.threes k (omega arith) m);
          all = omega (arith, r.all);
        }

  abbrev many : ℕ → ℕ → ℕ
  many j n = how_many (λ k. eqb (kind k) j) n

  pub ranked : (n : ℕ) → Rising kind n → Ranked kind n (many 1 n) (many 2 n) (many 3 n)
  unfolding how_many
  ranked zero r = record { ones = λ k h. absurd (omega arith); twos = λ k l h. absurd (omega arith); threes = λ k l h. absurd (omega arith); all = refl }
  ranked (suc n) r =
      let o = ranked n (fewer n r) in
      elim (dec_lt (kind n) 2) [
        | yes p ↦
            let e : kind n ≡ 1 = omega (arith, r.some n (omega arith)) in
            rw e (one_more n (many 1 n) (many 2 n) (many 3 n) o (none_above n 2 r (omega arith)) (none_above n 3 r (omega arith)) e)
        | no p ↦
            elim (dec_lt (kind n) 3) [
              | yes q ↦
                  let e : kind n ≡ 2 = omega arith in
                  rw e (two_more n (many 1 n) (many 2 n) (many 3 n) o (none_above n 3 r (omega arith)) e)
              | no q ↦
                  let e : kind n ≡ 3 = omega (arith, r.three n (omega arith)) in
                  rw e (three_more n (many 1 n) (many 2 n) (many 3 n) o e)
            ]
      ]

-- ---- sound words

-- the kind of record k
abbrev pub kind_at : List ℕ → ℕ → ℕ
kind_at ws k = word_of 8 ws k 0

module _ (ws : List ℕ) where
  kind_at_lem : (k : ℕ) → kind_of (held_record ws k) ≡ kind_at ws k
  unfolding held_record word_of
  kind_at_lem k = get_or-take 8 (drop (8 * k) ws) 0 0 (omega arith) ∙ get_or-drop (8 * k) ws 0 0

  record Judged (k : ℕ) : Type 0 where
    some : 0 < kind_at ws k
    three : kind_at ws k ≤ 3
    rise : kind_before (held_record ws) k ≤ kind_at ws k

  judged : (k : ℕ) → bad_at Held (held_record ws) k ≡ false → Judged k
  unfolding bad_at bad_record
  judged k e =
      let r = held_record ws k in
      let last = kind_before (held_record ws) k in
      let spare = any (spare_used Held r) 8 || bad_lane Held r in
      let e₁ = or_right (ltb (length r) 8) (eqb (kind_of r) 0 || (ltb 3 (kind_of r) || (ltb (kind_of r) last || spare))) e in
      let e₂ = or_right (eqb (kind_of r) 0) (ltb 3 (kind_of r) || (ltb (kind_of r) last || spare)) e₁ in
      let e₃ = or_right (ltb 3 (kind_of r)) (ltb (kind_of r) last || spare) e₂ in
      let some : kind_of r ≡ 0 → ⊥ = eqb-false (kind_of r) 0 (or_left (eqb (kind_of r) 0) (ltb 3 (kind_of r) || (ltb (kind_of r) last || spare)) e₁) in
      record {
        some = rw (← (kind_at_lem k)) (positive (kind_of r) some);
        three = rw (← (kind_at_lem k)) (ltb-false 3 (kind_of r) (or_left (ltb 3 (kind_of r)) (ltb (kind_of r) last || spare) e₂));
        rise = rw (← (kind_at_lem k)) (ltb-false (kind_of r) last (or_left (ltb (kind_of r) last) spare e₃));
      }

  module _ (e : held_fault ws ≡ fine) where
    rising : Rising (kind_at ws) (length ws / 8)
    unfolding held_fault parts kind_before
    rising =
        let s = faultless Held ((length ws + 7) / 8) (held_record ws) e in
        let n : (length ws + 7) / 8 ≡ length ws / 8 = omega (arith, whole_held ws e) in
        let at : (k : ℕ) → k < length ws / 8 → Judged k = λ k h. judged k (s.sound k (omega arith)) in
        record {
          some = λ k h. (at k h).some;
          three = λ k h. (at k h).three;
          rise = λ k h. rw (kind_at_lem k) at (at (suc k) h).rise;
        }

    -- the vertices are the first records, then come the triangles, then the questions, and that is all
    pub kinds : Ranked (kind_at ws) (length ws / 8) (count_kind ws 1) (count_kind ws 2) (count_kind ws 3)
    unfolding count_kind is_kind
    kinds = ranked (kind_at ws) (length ws / 8) rising

-- ---- the words of a sound file, as they are held

record_word : (ws : List ℕ) (k j : ℕ) → j < 8 → get_or (held_record ws k) j 0 ≡ word_of 8 ws k j
unfolding held_record word_of
record_word ws k j h = get_or-take 8 (drop (8 * k) ws) j 0 h ∙ get_or-drop (8 * k) ws j 0

file_record_word : (bs : List ℕ) (k j : ℕ) → j < 8 → get_or (file_record bs k) j 0 ≡ word_of 8 (decode bs) k j
file_record_word bs k j h = ap (λ (r : List ℕ). get_or r j 0) (file_record_lem bs k) ∙ record_word (decode bs) k j h

past_word : (ws : List ℕ) (k j : ℕ) → length ws ≤ 8 * k + j → word_of 8 ws k j ≡ 0
unfolding word_of
past_word ws k j h = get_or-eq_default ws 0 h

no_lane : (s r : List ℕ) → get_or s 7 0 ≡ 0 → get_or r 4 0 ≡ 0 → lane_of_held s ≡ lane_of_file r
unfolding lane_of_held lane_of_word
no_lane s r p q = rw (p, q)

module _ (bs : List ℕ) (e : file_fault bs ≡ fine) where
  past_same : (k j : ℕ) → length bs / 32 ≤ k → (word_of 8 (words_of bs) k j ≡ 0) × (word_of 8 (decode bs) k j ≡ 0)
  past_same k j h =
      let whole = whole_file bs e in
      (past_word (words_of bs) k j (omega (arith, whole, words_length bs)), past_word (decode bs) k j (omega (arith, whole, decode_length bs)))

  held_is : (k : ℕ) → k < length bs / 32 → held_record (words_of bs) k ≡ held_of (kind_of (file_record bs k)) (file_record bs k)
  unfolding held_at
  held_is k h = held_record_at bs k (omega arith)

  -- words other than those of a lane
  module _ (k j : ℕ) (l : j < 8) where
    pub word_kept : j ≢ 4 → j ≢ 7 → word_of 8 (words_of bs) k j ≡ word_of 8 (decode bs) k j
    word_kept p q =
        elim (dec_lt k (length bs / 32)) [
          | yes h ↦
              let r = file_record bs k in
              sym (record_word (words_of bs) k j l) ∙ ap (λ (r : List ℕ). get_or r j 0) (held_is k h) ∙ word_held (kind_of r) r j p q ∙ file_record_word bs k j l
          | no h ↦ (let z = past_same k j (omega arith) in z.0 ∙ sym z.1)
        ]

    -- and all words of a record of another kind
    other_kept : (kind_at (words_of bs) k ≡ 2 → ⊥) → word_of 8 (words_of bs) k j ≡ word_of 8 (decode bs) k j
    other_kept n =
        elim (dec_lt k (length bs / 32)) [
          | yes h ↦
              let r = file_record bs k in
              let m : kind_of r ≡ 2 → ⊥ = λ w. n (sym (record_word (words_of bs) k 0 (omega arith)) ∙ ap kind_of (held_is k h) ∙ kind_held (kind_of r) r ∙ w) in
              sym (record_word (words_of bs) k j l) ∙ ap (λ (r : List ℕ). get_or r j 0) (held_is k h ∙ sym (held_other (kind_of r) r m)) ∙ file_record_word bs k j l
          | no h ↦ (let z = past_same k j (omega arith) in z.0 ∙ sym z.1)
        ]

    pub vertex_kept : k < count_kind (words_of bs) 1 → word_of 8 (words_of bs) k j ≡ word_of 8 (decode bs) k j
    vertex_kept h =
        let one = (kinds (words_of bs) (read_sound bs e)).ones k h in
        other_kept (λ two. omega arith)

  -- the singles of a vertex, and of a question
  pub vertex_single : (k j : ℕ) → j < 8 → k < count_kind (words_of bs) 1 → single_in (words_of bs) k j ≡ single_in (decode bs) k j
  unfolding single_in
  vertex_single k j l h = ap (λ (w : ℕ). of_bits binary32 w) (vertex_kept k j l h)

  pub point_single : (k j : ℕ) → j < 3 → single_in (words_of bs) k j ≡ single_in (decode bs) k j
  unfolding single_in
  point_single k j l = ap (λ (w : ℕ). of_bits binary32 w) (word_kept k j (omega arith) (λ p. omega arith) (λ p. omega arith))

  -- a spare word of a question
  spare_word : (k j : ℕ) → k < length bs / 32 → kind_of (file_record bs k) ≡ 3 → j < 8 → spare File 3 j ≡ true → get_or (file_record bs k) j 0 ≡ 0
  unfolding file_fault parts bad_at spare_used
  spare_word k j h three l s =
      let r = file_record bs k in
      let sound = faultless File ((length bs + 31) / 32) (file_record bs) e in
      let all : any (spare_used File r) 8 ≡ false = no_spare_used File r (kind_before (file_record bs) k) (sound.sound k (omega arith)) in
      zero_word (get_or r j 0) (rw (three, s) at (any_none (spare_used File r) j 8 l all))

  -- the lane of record k, from the triangles on
  lane_at : (k : ℕ) → count_kind (words_of bs) 1 ≤ k → lane_of_held (held_record (words_of bs) k) ≡ lane_of_file (file_record bs k)
  unfolding spare spares
  lane_at k from =
      let ranks = kinds (words_of bs) (read_sound bs e) in
      elim (dec_lt k (length bs / 32)) [
        | yes h ↦
            let r = file_record bs k in
            let is = held_is k h in
            let kind : kind_of r ≡ kind_at (words_of bs) k = sym (kind_held (kind_of r) r) ∙ ap kind_of (sym is) ∙ record_word (words_of bs) k 0 (omega arith) in
            elim (dec_lt k (count_kind (words_of bs) 1 + count_kind (words_of bs) 2)) [
              | yes l ↦ ap lane_of_held is ∙ lane_kept r (file_record_eight bs k (omega arith)) (kind ∙ ranks.twos k from l)
              | no l ↦
                  let three : kind_of r ≡ 3 = kind ∙ ranks.threes k (omega arith) (omega (arith, words_length bs)) in
                  let other : kind_of r ≡ 2 → ⊥ = λ two. omega arith in
                  ap lane_of_held (is ∙ sym (held_other (kind_of r) r other)) ∙ no_lane r r (spare_word k 7 h three (omega arith) refl) (spare_word k 4 h three (omega arith) refl)
            ]
        | no h ↦
            no_lane (held_record (words_of bs) k) (file_record bs k) (record_word (words_of bs) k 7 (omega arith) ∙ (past_same k 7 (omega arith)).0)
            (file_record_word bs k 4 (omega arith) ∙ (past_same k 4 (omega arith)).1)
      ]

  -- "word 4 of a triangle record becomes the id plus one, 0 remaining for none"
  pub lane_read : (t : ℕ) → lane_in (words_of bs) t ≡ lane_of_file (file_record bs (triangle_record (words_of bs) t))
  unfolding lane_in triangle_record
  lane_read t = lane_at (count_kind (words_of bs) 1 + t) (omega arith)

  -- as the word tells it
  pub lane_told : (t : ℕ) → lane_in (words_of bs) t ≡ lane_of_word (word_of 8 (decode bs) (count_kind (words_of bs) 1 + t) 4)
  unfolding triangle_record
  lane_told t = let k = count_kind (words_of bs) 1 + t in rw (← (file_record_word bs k 4 (omega arith))) (lane_read t)

-- at most 2,048 records, and so at most 6,144 elements in each list
pub record Few (s : Sizes) : Type 0 where
  pub vertex_places : 3 * s.vertices ≤ 6144
  pub triangle_corners : 3 * s.triangles ≤ 6144
  pub at_most : s.questions ≤ 2048

pub few : (ws : List ℕ) (s : Sizes) → length ws ≤ 16384 → s ≡ sizes_of ws → Few s
few ws s h e =
    let z = sized ws s e in
    record {
      vertex_places = omega (arith, z.vertices_few);
      triangle_corners = omega (arith, z.triangles_few);
      at_most = omega (arith, z.questions_few);
    }
