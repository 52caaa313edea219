-- What is read into the rest of a buffer adds to what stands at its start, and a word that is handed out is lost at the front of what is to
-- come. Assumes nothing.
use Rattle.std.specs.Prelude.{◌≡◌, ℕ, ◌+◌, ◌-◌, ◌*◌, ◌/◌, ◌<◌, ◌≤◌, true, cond, nat_lt, List, [], ◌∷◌, ◌++◌, length, take, drop, slice_index, Option, Some, None}
use Rattle.std.proofs.Common.{sym, ap, subst, ◌∙◌, arith, lit<, add-zero, zero-add, append_assoc, length-append, length-take-le, length-drop, drop-drop}
use Rattle.std.proofs.lemmas.List.{take-append-le, drop-append-le, get_or_append_left, take-append-drop, drop_all, get_or-take, get_or-drop}
use Rattle.std.proofs.Math.Seq.{take-append-add}
use Rattle.std.specs.Io.KnownBytes.{Consumes, Keeps, prepend_known}
use Rattle.std.proofs.KnownBytes.{Consumes-trans}
use borrow.Rule.Slice.PartMut.{put_mid, post_of}
use Rattle.stored.specs.Words.{four_bytes, word_at}
use Rattle.stored.specs.Input.{AreWords, Gives}

take-put_mid_part : (d k n : ℕ) (xs ys : List ℕ) → d ≤ length xs → n ≤ length ys → take (d + n) (put_mid d k xs ys) ≡ take d xs ++ take n ys
take-put_mid_part d k n xs ys within fits =
    ap (λ m. take (m + n) (put_mid d k xs ys)) (sym (length-take-le d xs within))
    ∙ take-append-add (take d xs) (ys ++ post_of d k xs) n
    ∙ ap (λ l. take d xs ++ l) (take-append-le n ys (post_of d k xs) fits)

pub read_more : (a b c : Option (List ℕ)) (d k n : ℕ) (xs ys : List ℕ) → d ≤ length xs → n ≤ length ys → Consumes a b (take d xs) → Consumes b c (take n ys)
    → Consumes a c (take (d + n) (put_mid d k xs ys))
read_more a b c d k n xs ys within fits first second =
    subst (Consumes a c) (sym (take-put_mid_part d k n xs ys within fits)) (Consumes-trans a b c _ _ first second)

-- ---- a word is handed out

byte_kept : (m k j : ℕ) (bs : List ℕ) → j < 4 → k + j < m → slice_index (take 4 (drop k (take m bs))) j ≡ slice_index bs (k + j)
byte_kept m k j bs few within = get_or-take 4 (drop k (take m bs)) j 0 few ∙ get_or-drop k (take m bs) j 0 ∙ get_or-take m bs (k + j) 0 within

same_word : (bs cs : List ℕ) (k : ℕ) → ((j : ℕ) → j < 4 → slice_index bs j ≡ slice_index cs (k + j)) → four_bytes bs 0 ≡ four_bytes cs k
unfolding four_bytes
same_word bs cs k same =
    let first : slice_index bs 0 ≡ slice_index cs k = same 0 (lit< tt) ∙ ap (λ i. slice_index cs i) (add-zero k) in
    omega (arith, first, same 1 (lit< tt), same 2 (lit< tt), same 3 (lit< tt))

lost_front : (front bs left : List ℕ) (known : Option (List ℕ)) → front ≡ bs ++ left → Consumes (prepend_known front known) (prepend_known left known) bs
lost_front front bs left None e = tt
lost_front front bs left (Some xs) e = ap (λ l. l ++ xs) e ∙ append_assoc bs left xs

kept_lost : (a b c : Option (List ℕ)) (bs : List ℕ) → Keeps a b → Consumes b c bs → Consumes a c bs
kept_lost None b c bs p q = tt
kept_lost (Some xs) None c bs p q = absurd p
kept_lost (Some xs) (Some ys) None bs p q = absurd q
kept_lost (Some xs) (Some ys) (Some zs) bs p q = sym p ∙ q

pub gives_word : (before known : Option (List ℕ)) (buffer : List ℕ) (at held spare w : ℕ) → at < held → 4 * held + spare ≤ length buffer → w ≡ word_at buffer at
    → Keeps before (prepend_known (drop (4 * at) (take (4 * held + spare) buffer)) known)
    → Gives before (prepend_known (drop (4 * (at + 1)) (take (4 * held + spare) buffer)) known) (w ∷ [])
unfolding word_at
gives_word before known buffer at held spare w more fits is kept =
    let m = 4 * held + spare in
    let k = 4 * at in
    let front = drop k (take m buffer) in
    let bs = take 4 front in
    let size : length front ≡ m - k = length-drop k (take m buffer) ∙ ap (λ n. n - k) (length-take-le m buffer fits) in
    let four : length bs ≡ 4 = length-take-le 4 front (omega (arith, size)) in
    let inside : nat_lt at (length buffer / 4) ≡ true = grind arith in
    let place : k ≡ at * 4 = omega arith in
    let value = same_word bs buffer k (λ j few. byte_kept m k j buffer few (omega arith)) in
    let word : four_bytes bs 0 ≡ w = value ∙ ap (λ n. four_bytes buffer n) place ∙ sym (is ∙ ap (λ b. cond b (four_bytes buffer (at * 4)) 0) inside) in
    let next : k + 4 ≡ 4 * (at + 1) = omega arith in
    let split : front ≡ bs ++ drop (4 * (at + 1)) (take m buffer) =
    sym (take-append-drop 4 front) ∙ ap (λ l. bs ++ l) (drop-drop 4 k (take m buffer) ∙ ap (λ n. drop n (take m buffer)) next) in
    (bs, ((omega (arith, four)), word, drop_all 4 bs (omega (arith, four))), kept_lost _ _ _ bs kept (lost_front front bs _ known split))

-- ---- words that are handed out one after the other

are_more : (ws bs cs : List ℕ) (w : ℕ) → AreWords bs ws → AreWords cs (w ∷ []) → AreWords (bs ++ cs) (ws ++ w ∷ [])
are_more [] bs cs w none one = subst (λ l. AreWords (l ++ cs) (w ∷ [])) (sym none) one
are_more (v ∷ ws) bs cs w words one =
    let longer : length (bs ++ cs) ≡ length bs + length cs = length-append bs cs in
    let first : four_bytes (bs ++ cs) 0 ≡ four_bytes bs 0 =
    same_word (bs ++ cs) bs 0 (λ j few. get_or_append_left bs cs 0 j (omega (arith, words.0, few)) ∙ ap (λ i. slice_index bs i) (sym (zero-add j))) in
    (omega (arith, words.0, longer), first ∙ words.1, subst (λ l. AreWords l (ws ++ w ∷ [])) (sym (drop-append-le 4 bs cs words.0)) (are_more ws (drop 4 bs) cs w words.2 one))

pub gives_more : (a b c : Option (List ℕ)) (ws : List ℕ) (w : ℕ) → Gives a b ws → Gives b c (w ∷ []) → Gives a c (ws ++ w ∷ [])
gives_more a b c ws w first second =
    (first.0 ++ second.0, are_more ws first.0 second.0 w first.1 second.1, Consumes-trans a b c first.0 second.0 first.2 second.2)
