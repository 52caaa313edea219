-- Words and bytes are turned into each other without loss; and what `read` takes, `write` gives back, and the other way round. Assumes nothing.
use Rattle.std.specs.Prelude.{◌≡◌, refl, Bool, true, false, cond, ◌||◌, List, [], ◌∷◌, ◌++◌, ℕ, zero, suc, ◌+◌, ◌-◌, ◌*◌, ◌/◌, ◌%◌, ◌^◌, ◌≤◌, ◌<◌, min, ltb, length, get_or, take, drop}
use Rattle.std.proofs.Common.{sym, ap, ◌∙◌, append-nil, append_assoc, one-mul, mul-zero, mul-suc, add-zero, add-suc, mod-eq_of_lt, arith, ltb-false, le-ltb, lt-ltb, length-take, length-drop, length-append, ext_get_or, get_or-take, get_or-drop, take_all, take-add, get_or-append-add}
use Rattle.std.proofs.Math.Path.{fun_ext}
use Rattle.std.proofs.Math.Nat.{div-div-eq-div-mul}
use Rattle.std.proofs.Math.Decide.{dec_lt}
use Rattle.std.proofs.Math.ListN.{get_or-append, get_or-eq_default}
use Rattle.shape.specs.Gather.{gather, any, least}
use Rattle.shape.specs.Refusal.{Fault, fine, fault, refuse, Answer, taken, judge}
use Rattle.shape.proofs.Laws.Gather.{gather_even, gather_at, gather_fits, gather_same, any_none, or_left, or_right}
use Rattle.lookup.proofs.Laws.Limits.{judged}
use Rattle.surface.specs.File.{Form, File, Held}
use Rattle.surface.specs.File.{word_at, decode, four_bytes, encode, kind_of, by_kind, bad_lane, bad_record, kind_before, bad_at, refuse_first, surface_fault, parts, held_record, file_record, held_fault, file_fault, file_of, held_at, file_at, words_of, bytes_of, past_at, id_fault, copy_of, read_of, write_of}
use Rattle.surface.specs.Lane.{greatest_id, past_greatest, lane_of_held, with_pair}
use Rattle.surface.proofs.Laws.Lane.{of_eight, whole, Words, pair_words, past_filed, past_same, length_held, length_filed, kind_held, kind_filed, last_used, bad_as_held, bad_as_filed, back_from_held, back_from_file, never_past, words_held, words_filed}

-- every number of a list is below n, as the bytes and words of a slice are
abbrev pub Below : ℕ → List ℕ → Type 0
Below n xs = (i : ℕ) → get_or xs i 0 < n

-- ---- what is gathered

-- the same is gathered where each gives the same
pub gather_within : (f g : ℕ → List ℕ) (n : ℕ) → ((k : ℕ) → k < n → f k ≡ g k) → gather f n ≡ gather g n
unfolding gather
gather_within f g zero h = refl
gather_within f g (suc n) h = rw (gather_within f g n (λ k l. h k (omega arith)), h n (omega arith))

gather_add : (f : ℕ → List ℕ) (a b : ℕ) → gather f (a + b) ≡ gather f a ++ gather (λ k. f (a + k)) b
unfolding gather
gather_add f a zero = rw (add-zero a, append-nil (gather f a))
gather_add f a (suc b) = rw (add-suc a b, gather_add f a b) (append_assoc (gather f a) (gather (λ k. f (a + k)) b) (f (a + b)))

-- ---- a word and its bytes

pub join_bytes : (w : ℕ) → w < 2 ^ 32 → w % 256 + 256 * (w / 256 % 256 + 256 * (w / 65536 % 256 + 256 * (w / 16777216 % 256))) ≡ w
join_bytes w h =
    let d : w / 256 / 256 ≡ w / 65536 = div-div-eq-div-mul w 256 256 in
    let e : w / 65536 / 256 ≡ w / 16777216 = div-div-eq-div-mul w 65536 256 in
    nested w (w / 256) (w / 65536) (w / 16777216) refl (sym d) (sym e) h
  where
    nested : (w a b c : ℕ) → a ≡ w / 256 → b ≡ a / 256 → c ≡ b / 256 → w < 2 ^ 32 → w % 256 + 256 * (a % 256 + 256 * (b % 256 + 256 * (c % 256))) ≡ w
    nested w a b c p q r h = let s : c % 256 ≡ c = (let l : c < 256 = omega arith in mod-eq_of_lt l) in omega arith

module _ (a b c d : ℕ) (ha : a < 256) (hb : b < 256) (hc : c < 256) (hd : d < 256) where
  byte0 : (a + 256 * (b + 256 * (c + 256 * d))) % 256 ≡ a
  byte0 = omega arith

  byte1 : (a + 256 * (b + 256 * (c + 256 * d))) / 256 % 256 ≡ b
  byte1 = omega arith

  byte2 : (a + 256 * (b + 256 * (c + 256 * d))) / 65536 % 256 ≡ c
  byte2 = omega arith

  byte3 : (a + 256 * (b + 256 * (c + 256 * d))) / 16777216 % 256 ≡ d
  byte3 = omega arith

-- ---- lists of them

pub decode_length : (bs : List ℕ) → length (decode bs) ≡ length bs / 4
unfolding decode
decode_length bs = gather_even (λ k. word_at bs k ∷ []) 1 (λ i. refl) (length bs / 4) ∙ one-mul (length bs / 4)

pub encode_length : (ws : List ℕ) → length (encode ws) ≡ 4 * length ws
unfolding encode four_bytes
encode_length ws = gather_even (λ k. four_bytes (get_or ws k 0)) 4 (λ i. refl) (length ws)

pub decode_at : (bs : List ℕ) (i : ℕ) → i < length bs / 4 → get_or (decode bs) i 0 ≡ word_at bs i
unfolding decode
decode_at bs i h =
    let f : ℕ → List ℕ = λ k. word_at bs k ∷ [] in
    let e : length (gather f i) + 0 ≡ i = add-zero (length (gather f i)) ∙ gather_even f 1 (λ j. refl) i ∙ one-mul i in
    let p : 0 < length (f i) = omega arith in
    rw e at (gather_at f (length bs / 4) i 0 0 h p)

pub encode_at : (ws : List ℕ) (i j : ℕ) → i < length ws → j < 4 → get_or (encode ws) (4 * i + j) 0 ≡ get_or (four_bytes (get_or ws i 0)) j 0
unfolding encode four_bytes
encode_at ws i j h p =
    let f : ℕ → List ℕ = λ k. four_bytes (get_or ws k 0) in
    let e : length (gather f i) ≡ 4 * i = gather_even f 4 (λ j. refl) i in
    let q : j < length (f i) = p in
    rw e at (gather_at f (length ws) i j 0 h q)

-- a word of the bytes of words
pub word_of_encoded : (ws : List ℕ) (i : ℕ) → i < length ws → get_or ws i 0 < 2 ^ 32 → word_at (encode ws) i ≡ get_or ws i 0
unfolding word_at four_bytes
word_of_encoded ws i h w =
    let z : 4 * i + 0 ≡ 4 * i = add-zero (4 * i) in
    let e : get_or (encode ws) (4 * i) 0 ≡ get_or ws i 0 % 256 = rw z at (encode_at ws i 0 h (omega arith)) in
    rw (e, encode_at ws i 1 h (omega arith), encode_at ws i 2 h (omega arith), encode_at ws i 3 h (omega arith)) (join_bytes (get_or ws i 0) w)

pub decode_encode : (ws : List ℕ) → Below (2 ^ 32) ws → decode (encode ws) ≡ ws
decode_encode ws b =
    let n : length (encode ws) / 4 ≡ length ws = omega (arith, encode_length ws) in
    let l : length (decode (encode ws)) ≡ length ws = decode_length (encode ws) ∙ n in
    ext_get_or 0 (decode (encode ws)) ws l
    (λ i h.
    let p : i < length ws = omega arith in
    let q : i < length (encode ws) / 4 = omega arith in
    decode_at (encode ws) i q ∙ word_of_encoded ws i p (b i))

pub encode_decode : (bs : List ℕ) → Below 256 bs → length bs % 4 ≡ 0 → encode (decode bs) ≡ bs
unfolding word_at four_bytes
encode_decode bs b whole =
    let l : length (encode (decode bs)) ≡ length bs = omega (arith, encode_length (decode bs), decode_length bs) in
    ext_get_or 0 (encode (decode bs)) bs l (λ i h. byte_at i (omega arith))
  where
    -- byte j of word k
    place : (k j : ℕ) → k < length bs / 4 → j < 4 → get_or (encode (decode bs)) (4 * k + j) 0 ≡ get_or (four_bytes (word_at bs k)) j 0
    place k j h p =
        let q : k < length (decode bs) = omega (arith, decode_length bs) in
        encode_at (decode bs) k j q p ∙ ap (λ (w : ℕ). get_or (four_bytes w) j 0) (decode_at bs k h)

    four : (k j : ℕ) → j < 4 → get_or (four_bytes (word_at bs k)) j 0 ≡ get_or bs (4 * k + j) 0
    four k zero p = byte0 (get_or bs (4 * k) 0) (get_or bs (4 * k + 1) 0) (get_or bs (4 * k + 2) 0) (get_or bs (4 * k + 3) 0) (b _) (b _) (b _) (b _) ∙ ap (λ (x : ℕ). get_or bs x 0) (sym (add-zero (4 * k)))
    four k (suc zero) p = byte1 (get_or bs (4 * k) 0) (get_or bs (4 * k + 1) 0) (get_or bs (4 * k + 2) 0) (get_or bs (4 * k + 3) 0) (b _) (b _) (b _) (b _)
    four k (suc (suc zero)) p = byte2 (get_or bs (4 * k) 0) (get_or bs (4 * k + 1) 0) (get_or bs (4 * k + 2) 0) (get_or bs (4 * k + 3) 0) (b _) (b _) (b _) (b _)
    four k (suc (suc (suc zero))) p = byte3 (get_or bs (4 * k) 0) (get_or bs (4 * k + 1) 0) (get_or bs (4 * k + 2) 0) (get_or bs (4 * k + 3) 0) (b _) (b _) (b _) (b _)
    four k (suc (suc (suc (suc j)))) p = absurd (omega arith)

    byte_at : (i : ℕ) → i < length bs → get_or (encode (decode bs)) i 0 ≡ get_or bs i 0
    byte_at i h =
        let k : i / 4 < length bs / 4 = omega arith in
        let j : i % 4 < 4 = omega arith in
        let e : 4 * (i / 4) + i % 4 ≡ i = omega arith in
        rw e at (place (i / 4) (i % 4) k j ∙ four (i / 4) (i % 4) j)

-- what is made of bytes is words, and what is made of words is bytes
pub decode_below : (bs : List ℕ) → Below 256 bs → Below (2 ^ 32) (decode bs)
unfolding word_at
decode_below bs b i =
    elim (dec_lt i (length bs / 4)) [
      | yes p ↦ rw (decode_at bs i p) (omega (arith, b (4 * i), b (4 * i + 1), b (4 * i + 2), b (4 * i + 3)))
      | no p ↦ (let l : length (decode bs) ≤ i = omega (arith, decode_length bs) in rw (get_or-eq_default (decode bs) 0 l) (omega arith))
    ]

pub encode_below : (ws : List ℕ) → Below 256 (encode ws)
unfolding four_bytes
encode_below ws i =
    elim (dec_lt i (length (encode ws))) [
      | yes p ↦
          let k : i / 4 < length ws = omega (arith, encode_length ws) in
          let j : i % 4 < 4 = omega arith in
          let e : 4 * (i / 4) + i % 4 ≡ i = omega arith in
          rw (rw e at (encode_at ws (i / 4) (i % 4) k j)) (byte (get_or ws (i / 4) 0) (i % 4) j)
      | no p ↦ (let l : length (encode ws) ≤ i = omega arith in rw (get_or-eq_default (encode ws) 0 l) (omega arith))
    ]
  where
    byte : (w j : ℕ) → j < 4 → get_or (four_bytes w) j 0 < 256
    byte w zero p = omega arith
    byte w (suc zero) p = omega arith
    byte w (suc (suc zero)) p = omega arith
    byte w (suc (suc (suc zero))) p = omega arith
    byte w (suc (suc (suc (suc j)))) p = absurd (omega arith)

-- ---- records

-- word j of the bytes of record k
pub word_part : (bs : List ℕ) (k j : ℕ) → j < 8 → word_at (take 32 (drop (32 * k) bs)) j ≡ word_at bs (8 * k + j)
unfolding word_at
word_part bs k j h = rw (first, byte 1 (omega arith), byte 2 (omega arith), byte 3 (omega arith))
  where
    byte : (i : ℕ) → i < 4 → get_or (take 32 (drop (32 * k) bs)) (4 * j + i) 0 ≡ get_or bs (4 * (8 * k + j) + i) 0
    byte i p =
        let e : 32 * k + (4 * j + i) ≡ 4 * (8 * k + j) + i = omega arith in
        let q : 4 * j + i < 32 = omega arith in
        get_or-take 32 (drop (32 * k) bs) (4 * j + i) 0 q ∙ get_or-drop (32 * k) bs (4 * j + i) 0 ∙ ap (λ (x : ℕ). get_or bs x 0) e

    first : get_or (take 32 (drop (32 * k) bs)) (4 * j) 0 ≡ get_or bs (4 * (8 * k + j)) 0
    first = rw (add-zero (4 * j), add-zero (4 * (8 * k + j))) at (byte 0 (omega arith))

-- a record of a file is the record of its words
pub file_record_lem : (bs : List ℕ) (k : ℕ) → file_record bs k ≡ held_record (decode bs) k
unfolding file_record held_record
file_record_lem bs k =
    let part : List ℕ = take 32 (drop (32 * k) bs) in
    let n : length part ≡ min 32 (length bs - 32 * k) = length-take 32 (drop (32 * k) bs) ∙ ap (min 32) (length-drop (32 * k) bs) in
    let m : length (take 8 (drop (8 * k) (decode bs))) ≡ min 8 (length bs / 4 - 8 * k) = length-take 8 (drop (8 * k) (decode bs)) ∙ ap (min 8) (length-drop (8 * k) (decode bs) ∙ ap (λ (x : ℕ). x - 8 * k) (decode_length bs)) in
    let l : length (decode part) ≡ length (take 8 (drop (8 * k) (decode bs))) = omega (arith, decode_length part) in
    ext_get_or 0 (decode part) (take 8 (drop (8 * k) (decode bs))) l
    (λ j h.
    let p : j < length part / 4 = omega (arith, decode_length part) in
    let q : j < 8 = omega arith in
    let r : 8 * k + j < length bs / 4 = omega arith in
    decode_at part j p ∙ word_part bs k j q ∙ sym (decode_at bs (8 * k + j) r) ∙ sym (get_or-drop (8 * k) (decode bs) j 0) ∙ sym (get_or-take 8 (drop (8 * k) (decode bs)) j 0 q))

-- ---- records one after another

gathered_length : (f : ℕ → List ℕ) (w n : ℕ) → ((i : ℕ) → i < n → length (f i) ≡ w) → length (gather f n) ≡ w * n
unfolding gather
gathered_length f w zero e = sym (mul-zero w)
gathered_length f w (suc n) e = rw (length-append, mul-suc) (omega (arith, gathered_length f w n (λ i h. e i (omega arith)), e n (omega arith)))

-- record k of what is gathered, w elements each
gathered_at : (f : ℕ → List ℕ) (w n k : ℕ) → k < n → ((i : ℕ) → i ≤ k → length (f i) ≡ w) → take w (drop (w * k) (gather f n)) ≡ f k
gathered_at f w n k h e =
    let before : length (gather f k) ≡ w * k = gathered_length f w k (λ i l. e i (omega arith)) in
    let fits : length (gather f k) + length (f k) ≤ length (gather f n) = gather_fits f k n h in
    let own : length (f k) ≡ w = e k (omega arith) in
    let l : length (take w (drop (w * k) (gather f n))) ≡ length (f k) = simp (length-take, length-drop) (omega arith) in
    ext_get_or 0 (take w (drop (w * k) (gather f n))) (f k) l
    (λ j m.
    let p : j < length (f k) = omega arith in
    let q : j < w = omega arith in
    get_or-take w (drop (w * k) (gather f n)) j 0 q ∙ get_or-drop (w * k) (gather f n) j 0 ∙ rw before at (gather_at f n k j 0 h p))

-- the records of words, one after another
gather_held : (ws : List ℕ) (n : ℕ) → gather (held_record ws) n ≡ take (8 * n) ws
unfolding gather held_record
gather_held ws zero = refl
gather_held ws (suc n) = let e : 8 * suc n ≡ 8 * n + 8 = omega arith in rw (e, gather_held ws n) (sym (take-add (8 * n) 8 ws))

-- and of a file
pub gather_file : (bs : List ℕ) → gather (file_record bs) (parts 32 (length bs)) ≡ decode bs
unfolding parts
gather_file bs =
    let n = (length bs + 31) / 32 in
    let all : length (decode bs) ≤ 8 * n = omega (arith, decode_length bs) in
    ap (λ (f : ℕ → List ℕ). gather f n) (fun_ext (file_record_lem bs)) ∙ gather_held (decode bs) n ∙ take_all (8 * n) (decode bs) all

pub encode_append : (xs ys : List ℕ) → encode (xs ++ ys) ≡ encode xs ++ encode ys
unfolding encode
encode_append xs ys =
    let f : ℕ → List ℕ = λ k. four_bytes (get_or (xs ++ ys) k 0) in
    let left = gather_within f (λ k. four_bytes (get_or xs k 0)) (length xs) (λ k h. ap four_bytes (get_or-append xs ys 0 k h)) in
    let right = gather_within (λ k. f (length xs + k)) (λ k. four_bytes (get_or ys k 0)) (length ys) (λ k h. ap four_bytes (get_or-append-add xs ys k 0)) in
    rw length-append (gather_add f (length xs) (length ys) ∙ rw (left, right))

pub encode_gather : (f : ℕ → List ℕ) (n : ℕ) → gather (λ k. encode (f k)) n ≡ encode (gather f n)
unfolding gather encode
encode_gather f zero = refl
encode_gather f (suc n) = rw (encode_gather f n) (sym (encode_append (gather f n) (f n)))

all_held : (ws : List ℕ) → gather (held_record ws) (parts 8 (length ws)) ≡ ws
unfolding parts
all_held ws = let n = (length ws + 7) / 8 in let all : length ws ≤ 8 * n = omega arith in gather_held ws n ∙ take_all (8 * n) ws all

pub words_length : (bs : List ℕ) → length (words_of bs) ≡ length bs / 4
unfolding words_of held_at
words_length bs = gather_same (held_at bs) (file_record bs) (λ k. length_held (kind_of (file_record bs k)) (file_record bs k)) (parts 32 (length bs)) ∙ ap length (gather_file bs) ∙ decode_length bs

pub bytes_length : (ws : List ℕ) → length (bytes_of ws) ≡ 4 * length ws
unfolding bytes_of file_at
bytes_length ws =
    let same : (k : ℕ) → length (encode (file_at ws k)) ≡ length (encode (held_record ws k)) = λ k. encode_length (file_at ws k) ∙ ap (λ (n : ℕ). 4 * n) (length_filed (kind_of (held_record ws k)) (held_record ws k)) ∙ sym (encode_length (held_record ws k)) in
    gather_same (λ k. encode (file_at ws k)) (λ k. encode (held_record ws k)) same (parts 8 (length ws)) ∙ ap length (encode_gather (held_record ws) (parts 8 (length ws)) ∙ ap encode (all_held ws)) ∙ encode_length ws

-- ---- what is taken has whole sound records

pub least_before : (f : ℕ → Bool) (n k : ℕ) → k < least f n → f k ≡ false
unfolding least
least_before f zero k h = absurd (omega arith)
least_before f (suc n) k h = go (f 0) refl (least_before (λ j. f (suc j)) n) k h
  where
    go : (x : Bool) → f 0 ≡ x → ((j : ℕ) → j < least (λ j. f (suc j)) n → f (suc j) ≡ false) → (k : ℕ) → k < cond x 0 (suc (least (λ j. f (suc j)) n)) → f k ≡ false
    go true e rest k h = absurd (omega arith)
    go false e rest zero h = e
    go false e rest (suc k) h = rest k (omega arith)

pub record Sound (form : Form) (n : ℕ) (at : ℕ → List ℕ) : Type 0 where
  pub few : n ≤ 2048
  pub sound : (k : ℕ) → k < n → bad_at form at k ≡ false

pub faultless : (form : Form) (n : ℕ) (at : ℕ → List ℕ) → surface_fault form n at ≡ fine → Sound form n at
unfolding surface_fault refuse_first refuse
faultless form n at e = go (ltb 2048 n) refl (ltb (least (bad_at form at) n) n) refl e
  where
    go : (x : Bool) → ltb 2048 n ≡ x → (y : Bool) → ltb (least (bad_at form at) n) n ≡ y
        → cond x (fault 1 2048) (cond y (fault 5 (least (bad_at form at) n)) fine) ≡ fine → Sound form n at
    go true p y q e = absurd (let z : ◌≡◌ {A = ℕ} 0 1 = cc in omega arith)
    go false p true q e = absurd (let z : ◌≡◌ {A = ℕ} 0 1 = cc in omega arith)
    go false p false q e =
        let m : n ≤ least (bad_at form at) n = ltb-false (least (bad_at form at) n) n q in
        record { few = ltb-false 2048 n p; sound = λ k h. least_before (bad_at form at) n k (omega arith) }

-- each record has its eight words
pub whole_record : {form : Form} {n : ℕ} {at : ℕ → List ℕ} → Sound form n at → (k : ℕ) → k < n → 8 ≤ length (at k)
unfolding bad_at bad_record
whole_record {form} {n} {at} s k h = ltb-false (length (at k)) 8 (or_left (ltb (length (at k)) 8) _ (s.sound k h))

pub whole_file : (bs : List ℕ) → file_fault bs ≡ fine → (length bs % 32 ≡ 0) × (length bs ≤ 65536)
unfolding file_fault parts file_record
whole_file bs e =
    let n = (length bs + 31) / 32 in
    let s = faultless File n (file_record bs) e in (
      elim (dec_lt 0 n) [
        | yes p ↦ (let m : n - 1 < n = omega arith in let l : 8 ≤ length (file_record bs (n - 1)) = whole_record s (n - 1) m in omega (arith, decode_length (take 32 (drop (32 * (n - 1)) bs)), length-take 32 (drop (32 * (n - 1)) bs), length-drop (32 * (n - 1)) bs))
        | no p ↦ omega arith
      ],
      omega (arith, s.few),
    )

pub words_few : (bs : List ℕ) → file_fault bs ≡ fine → length (words_of bs) ≤ 16384
words_few bs e = omega (arith, whole_file bs e, words_length bs)

pub whole_held : (ws : List ℕ) → held_fault ws ≡ fine → (length ws % 8 ≡ 0) × (length ws ≤ 16384)
unfolding held_fault parts held_record
whole_held ws e =
    let n = (length ws + 7) / 8 in
    let s = faultless Held n (held_record ws) e in (
      elim (dec_lt 0 n) [
        | yes p ↦ (let m : n - 1 < n = omega arith in let l : 8 ≤ length (held_record ws (n - 1)) = whole_record s (n - 1) m in omega (arith, length-take 8 (drop (8 * (n - 1)) ws), length-drop (8 * (n - 1)) ws))
        | no p ↦ omega arith
      ],
      omega (arith, s.few),
    )

pub held_record_length : (ws : List ℕ) (k : ℕ) → length (held_record ws k) ≡ min 8 (length ws - 8 * k)
unfolding held_record
held_record_length ws k = length-take 8 (drop (8 * k) ws) ∙ ap (min 8) (length-drop (8 * k) ws)

pub file_record_length : (bs : List ℕ) (k : ℕ) → length (file_record bs k) ≡ min 32 (length bs - 32 * k) / 4
unfolding file_record
file_record_length bs k = decode_length (take 32 (drop (32 * k) bs)) ∙ ap (λ (n : ℕ). n / 4) (length-take 32 (drop (32 * k) bs) ∙ ap (min 32) (length-drop (32 * k) bs))

part_below : (n : ℕ) → 0 < n → (xs : List ℕ) → Below n xs → (u k : ℕ) → Below n (take u (drop k xs))
part_below n p xs b u k i =
    elim (dec_lt i u) [
      | yes l ↦ rw (get_or-take u (drop k xs) i 0 l ∙ get_or-drop k xs i 0) (b (k + i))
      | no l ↦ (let m : length (take u (drop k xs)) ≤ i = omega (arith, length-take u (drop k xs)) in rw (get_or-eq_default (take u (drop k xs)) 0 m) p)
    ]

-- what is held of a file's bytes is words, and what is written of held words is bytes
gather_below : (f : ℕ → List ℕ) (w n : ℕ) → 0 < w → ((k : ℕ) → Below w (f k)) → Below w (gather f n)
unfolding gather
gather_below f w zero p b i = p
gather_below f w (suc n) p b i =
    elim (dec_lt i (length (gather f n))) [
      | yes h ↦ rw (get_or-append (gather f n) (f n) 0 i h) (gather_below f w n p b i)
      | no h ↦
          let e : length (gather f n) + (i - length (gather f n)) ≡ i = omega arith in
          rw (← e) (rw (get_or-append-add (gather f n) (f n) (i - length (gather f n)) 0) (b n (i - length (gather f n))))
    ]

pub words_below : (bs : List ℕ) → Below 256 bs → Below (2 ^ 32) (words_of bs)
unfolding words_of held_at file_record
words_below bs b = gather_below (held_at bs) (2 ^ 32) (parts 32 (length bs)) (omega arith) (λ k. words_held (file_record bs k) (decode_below (take 32 (drop (32 * k) bs)) (part_below 256 (omega arith) bs b 32 (32 * k))))

pub bytes_below : (ws : List ℕ) → Below 256 (bytes_of ws)
unfolding bytes_of
bytes_below ws = rw (encode_gather (file_at ws) (parts 8 (length ws))) (encode_below (gather (file_at ws) (parts 8 (length ws))))

-- ---- a whole record, in both forms

any_none_of : (f : ℕ → Bool) (n : ℕ) → ((k : ℕ) → k < n → f k ≡ false) → any f n ≡ false
unfolding any
any_none_of f zero h = refl
any_none_of f (suc n) h = rw (any_none_of f n (λ k l. h k (omega arith)), h n (omega arith))

module _ (bs : List ℕ) where
  pub file_record_eight : (k : ℕ) → 32 * k + 32 ≤ length bs → length (file_record bs k) ≡ 8
  file_record_eight k h = rw (file_record_length bs k) (omega arith)

  pub held_record_at : (k : ℕ) → 32 * k + 32 ≤ length bs → held_record (words_of bs) k ≡ held_at bs k
  unfolding words_of held_at held_record parts
  held_record_at k h =
      gathered_at (held_at bs) 8 ((length bs + 31) / 32) k (omega arith) (λ i l. length_held (kind_of (file_record bs i)) (file_record bs i) ∙ file_record_eight i (omega arith))

  kind_held_before : (k : ℕ) → 32 * k ≤ length bs → kind_before (held_record (words_of bs)) k ≡ kind_before (file_record bs) k
  unfolding kind_before held_at
  kind_held_before zero h = refl
  kind_held_before (suc k) h = rw (held_record_at k (omega arith)) (kind_held (kind_of (file_record bs k)) (file_record bs k))

  -- record k of a file is bad exactly if record k of its words is, or if it is a triangle's with a word 7 that is used
  pub bad_in_file : (k : ℕ) → k < length bs / 32 → bad_at File (file_record bs) k ≡ (bad_at Held (held_record (words_of bs)) k || last_used (file_record bs k))
  unfolding bad_at held_at
  bad_in_file k h =
      rw (held_record_at k (omega arith), kind_held_before k (omega arith)) (bad_as_held (kind_before (file_record bs) k) (file_record bs k) (file_record_eight k (omega arith)))

pub held_record_eight : (ws : List ℕ) (k : ℕ) → 8 * k + 8 ≤ length ws → length (held_record ws k) ≡ 8
held_record_eight ws k h = rw (held_record_length ws k) (omega arith)

module _ (ws : List ℕ) where
  kind_filed_before : (k : ℕ) → kind_before (file_at ws) k ≡ kind_before (held_record ws) k
  unfolding kind_before file_at
  kind_filed_before zero = refl
  kind_filed_before (suc k) = kind_filed (kind_of (held_record ws k)) (held_record ws k)

  -- record k of held words is bad exactly if it is as it stands in a file, or if it is a triangle's whose words are no lane's
  pub bad_in_held : (k : ℕ) → k < length ws / 8 → bad_at Held (held_record ws) k ≡ (bad_at File (file_at ws) k || bad_lane Held (held_record ws k))
  unfolding bad_at file_at
  bad_in_held k h = rw (kind_filed_before k) (bad_as_filed (kind_before (held_record ws) k) (held_record ws k) (held_record_eight ws k (omega arith)))

-- a held record is as bad in the file that is written, also where its id is past the greatest
cut_word : (a b c d f g : ℕ) → encode (whole a b c d 4294967296 f g 0) ≡ encode (whole a b c d 0 f g 0)
unfolding encode four_bytes
cut_word a b c d f g = refl

record Same (form : Form) (r s : List ℕ) (last : ℕ) : Type 0 where
  bad : bad_record form r last ≡ bad_record form s last
  kind : kind_of r ≡ kind_of s

as_written : (last : ℕ) (h : List ℕ) → length h ≡ 8 → Words h → Same File (decode (encode (file_of (kind_of h) h))) (file_of (kind_of h) h) last
unfolding with_pair
as_written last =
    of_eight (λ h. Words h → Same File (decode (encode (file_of (kind_of h) h))) (file_of (kind_of h) h) last)
    (λ a b c d e f g h w. go a b c d e f g h w (by_kind a false (past_greatest (lane_of_held (whole a b c d e f g h))) false) refl)
  where
    go : (a b c d e f g h : ℕ) → Words (whole a b c d e f g h) → (p : Bool) → by_kind a false (past_greatest (lane_of_held (whole a b c d e f g h))) false ≡ p
        → Same File (decode (encode (file_of a (whole a b c d e f g h)))) (file_of a (whole a b c d e f g h)) last
    go a b c d e f g h w false p = let e = decode_encode _ (words_filed (whole a b c d e f g h) w p) in record { bad = rw e; kind = rw e }
    go a b c d e f g h w true p =
        let is = past_filed a b c d e f g h (w 4) p in
        let cut = ap decode (cut_word a b c d f g) ∙ decode_encode (whole a b c d 0 f g 0) (pair_words (whole a b c d e f g h) w 0 0 (omega arith) (omega arith)) in
        record {
          bad = rw (is.1, cut, is.0) (past_same b c d 4294967296 f g last);
          kind = rw (is.1, cut);
        }

module _ (ws : List ℕ) (below : Below (2 ^ 32) ws) where
  written_at : (k : ℕ) → 8 * k + 8 ≤ length ws → file_record (bytes_of ws) k ≡ decode (encode (file_at ws k))
  unfolding bytes_of file_at file_record parts
  written_at k h =
      let each : (i : ℕ) → i ≤ k → length (encode (file_at ws i)) ≡ 32 = λ i l. encode_length (file_at ws i) ∙ ap (λ (n : ℕ). 4 * n) (length_filed (kind_of (held_record ws i)) (held_record ws i) ∙ held_record_eight ws i (omega arith)) in
      ap decode (gathered_at (λ i. encode (file_at ws i)) 32 ((length ws + 7) / 8) k (omega arith) each)

  same_at : (k last : ℕ) → 8 * k + 8 ≤ length ws → Same File (decode (encode (file_at ws k))) (file_at ws k) last
  unfolding file_at held_record
  same_at k last h = as_written last (held_record ws k) (held_record_eight ws k h) (part_below (2 ^ 32) (omega arith) ws below 8 (8 * k))

  kind_of_file : (k : ℕ) → 8 * k ≤ length ws → kind_before (file_record (bytes_of ws)) k ≡ kind_before (file_at ws) k
  unfolding kind_before
  kind_of_file zero h = refl
  kind_of_file (suc k) h = ap kind_of (written_at k (omega arith)) ∙ (same_at k 0 (omega arith)).kind

  bad_of_file : (k : ℕ) → k < length ws / 8 → bad_at File (file_record (bytes_of ws)) k ≡ bad_at File (file_at ws) k
  unfolding bad_at
  bad_of_file k h = rw (written_at k (omega arith), kind_of_file k (omega arith)) (same_at k (kind_before (file_at ws) k) (omega arith)).bad

  -- where a file has a word for each id, its records are these
  module _ (named : id_fault ws ≡ fine) where
    not_past : (k : ℕ) → k < length ws / 8 → past_at ws k ≡ false
    unfolding id_fault refuse
    not_past k h = any_none (past_at ws) k (length ws / 8) h (go (any (past_at ws) (length ws / 8)) named)
      where
        go : (b : Bool) → cond b (fault 1 greatest_id) fine ≡ fine → b ≡ false
        go true e = absurd (let z : ◌≡◌ {A = ℕ} 0 1 = cc in omega arith)
        go false e = refl

    file_words : (k : ℕ) → 8 * k + 8 ≤ length ws → Below (2 ^ 32) (file_at ws k)
    unfolding file_at past_at held_record
    file_words k h = words_filed (held_record ws k) (part_below (2 ^ 32) (omega arith) ws below 8 (8 * k)) (not_past k (omega arith))

    file_record_at : (k : ℕ) → 8 * k + 8 ≤ length ws → file_record (bytes_of ws) k ≡ file_at ws k
    file_record_at k h = written_at k h ∙ decode_encode (file_at ws k) (file_words k h)

-- ---- "a file and its held words": their first bad record is one and the same, but for the words that one form alone has

least_same : (f g : ℕ → Bool) (n : ℕ) → ((k : ℕ) → k < n → f k ≡ g k) → least f n ≡ least g n
unfolding least
least_same f g zero h = refl
least_same f g (suc n) h = rw (h 0 (omega arith), least_same (λ k. f (suc k)) (λ k. g (suc k)) n (λ k l. h (suc k) (omega arith)))

fault_same : (form other : Form) (n : ℕ) (f g : ℕ → List ℕ) → ((k : ℕ) → k < n → bad_at form f k ≡ bad_at other g k) → surface_fault form n f ≡ surface_fault other n g
unfolding surface_fault refuse_first
fault_same form other n f g h = rw (least_same (bad_at form f) (bad_at other g) n h)

part_is_bad : (form : Form) (f : ℕ → List ℕ) (k : ℕ) → length (f k) < 8 → bad_at form f k ≡ true
unfolding bad_at bad_record
part_is_bad form f k h = rw (lt-ltb (length (f k)) 8 h)

no_more : (a b c : Bool) → a ≡ (b || c) → c ≡ false → a ≡ b
no_more a true c e z = e
no_more a false c e z = e ∙ z

pub held_fault_words : (bs : List ℕ) → length bs % 4 ≡ 0 → ((k : ℕ) → k < length bs / 32 → last_used (file_record bs k) ≡ false) → held_fault (words_of bs) ≡ file_fault bs
unfolding held_fault file_fault parts
held_fault_words bs even unused =
    let n : (length (words_of bs) + 7) / 8 ≡ (length bs + 31) / 32 = omega (arith, words_length bs) in
    rw n (fault_same Held File ((length bs + 31) / 32) (held_record (words_of bs)) (file_record bs) same)
  where
    short : (k : ℕ) → length bs / 32 ≤ k → (length (held_record (words_of bs) k) < 8) × (length (file_record bs k) < 8)
    short k h = (rw (held_record_length (words_of bs) k) (omega (arith, words_length bs)), rw (file_record_length bs k) (omega arith))

    same : (k : ℕ) → k < (length bs + 31) / 32 → bad_at Held (held_record (words_of bs)) k ≡ bad_at File (file_record bs) k
    same k h =
        elim (dec_lt k (length bs / 32)) [
          | yes p ↦ sym (no_more _ _ _ (bad_in_file bs k p) (unused k p))
          | no p ↦
              let s = short k (omega arith) in
              part_is_bad Held (held_record (words_of bs)) k s.0 ∙ sym (part_is_bad File (file_record bs) k s.1)
        ]

pub file_fault_bytes : (ws : List ℕ) → Below (2 ^ 32) ws → ((k : ℕ) → k < length ws / 8 → bad_lane Held (held_record ws k) ≡ false) → file_fault (bytes_of ws) ≡ held_fault ws
unfolding held_fault file_fault parts
file_fault_bytes ws below lanes =
    let n : (length (bytes_of ws) + 31) / 32 ≡ (length ws + 7) / 8 = omega (arith, bytes_length ws) in
    rw n (fault_same File Held ((length ws + 7) / 8) (file_record (bytes_of ws)) (held_record ws) same)
  where
    short : (k : ℕ) → length ws / 8 ≤ k → (length (file_record (bytes_of ws) k) < 8) × (length (held_record ws k) < 8)
    short k h = (rw (file_record_length (bytes_of ws) k) (omega (arith, bytes_length ws)), rw (held_record_length ws k) (omega arith))

    same : (k : ℕ) → k < (length ws + 7) / 8 → bad_at File (file_record (bytes_of ws)) k ≡ bad_at Held (held_record ws) k
    same k h =
        elim (dec_lt k (length ws / 8)) [
          | yes p ↦ bad_of_file ws below k p ∙ sym (no_more _ _ _ (bad_in_held ws k p) (lanes k p))
          | no p ↦
              let s = short k (omega arith) in
              part_is_bad File (file_record (bytes_of ws)) k s.0 ∙ sym (part_is_bad Held (held_record ws) k s.1)
        ]

-- so a file that is sound is held as sound words, and sound words make a sound file
module _ (bs : List ℕ) (e : file_fault bs ≡ fine) where
  sound_in_file : (k : ℕ) → k < length bs / 32 → (bad_at Held (held_record (words_of bs)) k || last_used (file_record bs k)) ≡ false
  unfolding file_fault parts
  sound_in_file k h = let s = faultless File ((length bs + 31) / 32) (file_record bs) e in sym (bad_in_file bs k h) ∙ s.sound k (omega arith)

  unused : (k : ℕ) → k < length bs / 32 → last_used (file_record bs k) ≡ false
  unused k h = or_right _ _ (sound_in_file k h)

  pub read_sound : held_fault (words_of bs) ≡ fine
  read_sound = held_fault_words bs (omega (arith, whole_file bs e)) unused ∙ e

-- and no id that is read of a file is past the greatest
pub never_read_oversize : (bs : List ℕ) → Below 256 bs → id_fault (words_of bs) ≡ fine
unfolding id_fault refuse past_at file_record held_at
never_read_oversize bs below = rw (any_none_of (past_at (words_of bs)) (length (words_of bs) / 8) named)
  where
    named : (k : ℕ) → k < length (words_of bs) / 8 → past_at (words_of bs) k ≡ false
    named k h =
        let l : 32 * k + 32 ≤ length bs = omega (arith, words_length bs) in
        let w : get_or (file_record bs k) 4 0 < 2 ^ 32 = decode_below (take 32 (drop (32 * k) bs)) (part_below 256 (omega arith) bs below 32 (32 * k)) 4 in
        rw (held_record_at bs k l) (never_past (file_record bs k) (file_record_eight bs k l) w)

module _ (ws : List ℕ) (e : held_fault ws ≡ fine) where
  lanes : (k : ℕ) → k < length ws / 8 → bad_lane Held (held_record ws k) ≡ false
  unfolding held_fault parts
  lanes k h = let s = faultless Held ((length ws + 7) / 8) (held_record ws) e in or_right _ _ (sym (bad_in_held ws k h) ∙ s.sound k (omega arith))

  pub write_sound : Below (2 ^ 32) ws → file_fault (bytes_of ws) ≡ fine
  write_sound below = file_fault_bytes ws below lanes ∙ e

-- ---- the calls

fine_goes_on : {A : Type 0} (f : Fault) (after : Answer A) → f ≡ fine → judge f after ≡ after
unfolding judge
fine_goes_on f after e = rw e

pub copied : (result : List ℕ) (room : ℕ) → length result ≤ room → copy_of result room ≡ taken (length result)
unfolding copy_of refuse judge
copied result room h = rw (le-ltb room (length result) h)

-- each is turned into the other without loss
pub bytes_of_words : (bs : List ℕ) → Below 256 bs → file_fault bs ≡ fine → bytes_of (words_of bs) ≡ bs
unfolding bytes_of file_at held_at parts
bytes_of_words bs below e =
    let whole = whole_file bs e in
    let n : (length (words_of bs) + 7) / 8 ≡ (length bs + 31) / 32 = omega (arith, words_length bs) in
    let all : gather (λ k. file_at (words_of bs) k) ((length bs + 31) / 32) ≡ decode bs = gather_within _ (file_record bs) ((length bs + 31) / 32) back ∙ gather_file bs in
    rw n (encode_gather (file_at (words_of bs)) ((length bs + 31) / 32) ∙ ap encode all ∙ encode_decode bs below (omega (arith, whole)))
  where
    back : (k : ℕ) → k < (length bs + 31) / 32 → file_at (words_of bs) k ≡ file_record bs k
    back k h = let l : k < length bs / 32 = omega (arith, whole_file bs e) in
        rw (held_record_at bs k (omega arith), kind_held (kind_of (file_record bs k)) (file_record bs k)) (back_from_held (file_record bs k) (file_record_eight bs k (omega arith)) (unused bs e k l))

pub words_of_bytes : (ws : List ℕ) → Below (2 ^ 32) ws → held_fault ws ≡ fine → id_fault ws ≡ fine → words_of (bytes_of ws) ≡ ws
unfolding words_of held_at file_at parts
words_of_bytes ws below e named =
    let n : (length (bytes_of ws) + 31) / 32 ≡ (length ws + 7) / 8 = omega (arith, bytes_length ws) in
    rw n (gather_within _ (held_record ws) ((length ws + 7) / 8) back ∙ all_held ws)
  where
    back : (k : ℕ) → k < (length ws + 7) / 8 → held_at (bytes_of ws) k ≡ held_record ws k
    back k h = let l : k < length ws / 8 = omega (arith, whole_held ws e) in
        rw (file_record_at ws below named k (omega arith), kind_filed (kind_of (held_record ws k)) (held_record ws k)) (back_from_file (held_record ws k) (held_record_eight ws k (omega arith)) (lanes ws e k l))

-- "written and read back, a surface is the same, and so are a file's bytes"
pub written_back : (bs : List ℕ) (room n : ℕ) → Below 256 bs → read_of bs room ≡ taken n → (wide : ℕ) → length bs ≤ wide
    → (write_of (words_of bs) wide ≡ taken (length bs)) × (bytes_of (words_of bs) ≡ bs)
unfolding read_of write_of
written_back bs room n b t wide h =
    let f : file_fault bs ≡ fine = (judged (file_fault bs) (copy_of (words_of bs) room) n t).0 in
    let e : bytes_of (words_of bs) ≡ bs = bytes_of_words bs b f in
    (fine_goes_on _ _ (read_sound bs f) ∙ fine_goes_on _ _ (never_read_oversize bs b) ∙ rw e (copied bs wide h), e)

pub read_back : (ws : List ℕ) (room n : ℕ) → Below (2 ^ 32) ws → write_of ws room ≡ taken n → (wide : ℕ) → length ws ≤ wide
    → (read_of (bytes_of ws) wide ≡ taken (length ws)) × (words_of (bytes_of ws) ≡ ws)
unfolding read_of write_of
read_back ws room n b t wide h =
    let f = judged (held_fault ws) (judge (id_fault ws) (copy_of (bytes_of ws) room)) n t in
    let g = judged (id_fault ws) (copy_of (bytes_of ws) room) n f.1 in
    let e : words_of (bytes_of ws) ≡ ws = words_of_bytes ws b f.0 g.0 in
    (fine_goes_on _ _ (write_sound ws f.0 b) ∙ rw e (copied ws wide h), e)
