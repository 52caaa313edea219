-- A slice as arrays of its elements, and an array that is made element by element. Assumes nothing.
use Rattle.std.specs.Prelude.{◌≡◌, ℕ, zero, suc, ◌+◌, ◌*◌, ◌<◌, ◌≤◌, List, [], ◌∷◌, length, get_or, take, drop}
use Rattle.std.specs.Simd.{first_chunks}
use Rattle.std.specs.Int.{from_le_bytes}
use Rattle.std.proofs.Common.{◌∙◌, ◌/◌, sym, refl, length-take, arith, w32, mul-zero, mul-suc, add-zero, add_comm, drop-drop, length-drop, get_or-drop, ext_get_or, ap}
use Rattle.std.proofs.Math.ListN.{get_or-eq_default}
use Rattle.std.specs.Array.{IsFromFnResultFrom}
use Rattle.std.specs.Fn.{Called, Mut}
use Rattle.std.proofs.Math.Decide.{dec_lt}
use Rattle.surface.specs.File.{word_at, decode, file_record}
use Rattle.surface.proofs.Laws.File.{decode_length, decode_at}

-- array i of n elements
pub chunk_at : {A : Type 0} (n c i : ℕ) (xs : List A) (d : List A) → i < c → get_or (first_chunks n c xs) i d ≡ take n (drop (n * i) xs)
chunk_at n zero i xs d h = absurd (omega arith)
chunk_at n (suc c) zero xs d h = rw (mul-zero n)
chunk_at n (suc c) (suc i) xs d h = chunk_at n c i (drop n xs) d (omega arith) ∙ rw (mul-suc n i, drop-drop, add_comm n (n * i))

-- four bytes from some place on
front_four : (xs : List ℕ) → 4 ≤ length xs → take 4 xs ≡ get_or xs 0 0 ∷ get_or xs 1 0 ∷ get_or xs 2 0 ∷ get_or xs 3 0 ∷ []
front_four [] h = absurd (omega arith)
front_four (a ∷ []) h = absurd (omega arith)
front_four (a ∷ b ∷ []) h = absurd (omega arith)
front_four (a ∷ b ∷ c ∷ []) h = absurd (omega arith)
front_four (a ∷ b ∷ c ∷ d ∷ xs) h = refl

-- word i of bytes, by their arrays of four
word_four : (bs : List ℕ) (i : ℕ) → i < length bs / 4 → from_le_bytes w32 (get_or (first_chunks 4 (length bs / 4) bs) i []) ≡ word_at bs i
unfolding word_at
word_four bs i h =
    let e = chunk_at 4 (length bs / 4) i bs [] h in
    let l : 4 ≤ length (drop (4 * i) bs) = omega (arith, length-drop (4 * i) bs) in
    rw (e, front_four (drop (4 * i) bs) l, get_or-drop, get_or-drop, get_or-drop, get_or-drop, add-zero) (omega arith)

pub word_here : (bs : List ℕ) (i : ℕ) → i < length bs / 4 → from_le_bytes w32 (get_or (first_chunks 4 (length bs / 4) bs) i []) ≡ get_or (decode bs) i 0
word_here bs i h = word_four bs i h ∙ sym (decode_at bs i h)

pub word_past : (bs : List ℕ) (i : ℕ) → length bs / 4 ≤ i → 0 ≡ get_or (decode bs) i 0
word_past bs i h = let l : length (decode bs) ≤ i = omega (arith, decode_length bs) in sym (get_or-eq_default (decode bs) 0 l)

-- what calls of one closure made: h i of each number i, where P is kept from call to call
pub from_fn_is : {F B : Type 0} {g : Mut F (ℕ × Unit {0}) B} (P : F → Type 0) (h : ℕ → B)
    → ((f : F) (i : ℕ) (y : B) (q : F) → P f → Called g f (i, tt) y q → (y ≡ h i) × P q) → (ys : List B) (n i : ℕ) (f : F) → P f
    → IsFromFnResultFrom g f ys i n → (j : ℕ) → i ≤ j → j < i + n → (d : B) → get_or ys j d ≡ h j
from_fn_is P h step ys zero i f p r j l m d = absurd (omega arith)
from_fn_is P h step ys (suc n) i f p r j l m d =
    let s = step f i r.1 r.0 p r.3 in
    elim (dec_lt i j) [
      | yes q ↦ from_fn_is P h step ys n (i + 1) r.0 s.1 r.4 j (omega arith) (omega arith) d
      | no q ↦ (let e : i ≡ j = omega arith in rw (← e) (r.2.1 d ∙ s.0))
    ]

-- the words of a record of a file, by its bytes
pub record_words_are : (bs : List ℕ) (k : ℕ) {part r : List ℕ} → 32 * k + 32 ≤ length bs → part ≡ take 32 (drop (32 * k) bs) → length r ≡ 8
    → ((j : ℕ) → j < 8 → get_or r j 0 ≡ get_or (decode part) j 0) → r ≡ file_record bs k
unfolding file_record
record_words_are bs k {part} {r} h e l w =
    let n : length part ≡ 32 = rw e (simp (length-take, length-drop) (omega arith)) in
    let m : length r ≡ length (decode part) = omega (arith, decode_length part) in
    ext_get_or 0 r (decode part) m (λ j q. w j (omega arith)) ∙ ap decode e
