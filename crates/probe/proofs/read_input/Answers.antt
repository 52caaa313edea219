-- What a read puts behind the bytes that were read before is what the reader lost.
use Rattle.std.proofs.Common.{◌≡◌, ℕ, min, ◌+◌, ◌-◌, ◌≤◌, List, ◌++◌, arith, length, take, drop, slice_range, sym, ap, ◌∙◌, subst, le_refl, drop_at, length-take-le}
use Rattle.std.proofs.lemmas.Slice.{take-put_mid_below, take-put_mid, drop-put_mid}
use Rattle.std.specs.Io.KnownBytes.{Consumes}
use Rattle.std.proofs.KnownBytes.{Consumes-trans}
use borrow.Rule.Slice.PartMut.{mid_of, put_mid, post_of}
use lib.ListN.{length-append, length-take, length-drop}
use lib.Seq.{take-add, take-append-le}
use Rattle.probe.proofs.read_input.Goals as goal

take_split : (a b : ℕ) (old new : List ℕ) → a ≤ b → take a new ≡ take a old → take a old ++ slice_range new a b ≡ take b new
take_split a b old new h front =
    let same : a + (b - a) ≡ b = omega arith in
    ap (λ l. l ++ slice_range new a b) (sym front) ∙ sym (take-add a (b - a) new) ∙ ap (λ n. take n new) same

slice_range-put_mid : (a k n : ℕ) (xs ys : List ℕ) → a ≤ length xs → n ≤ length ys → slice_range (put_mid a k xs ys) a (a + n) ≡ take n ys
slice_range-put_mid a k n xs ys within fits =
    let same : (a + n) - a ≡ n = omega arith in
    let after = post_of a k xs in
    ap (take ((a + n) - a)) (drop_at (take a xs) (ys ++ after) a (length-take-le a xs within)) ∙ ap (λ m. take m (ys ++ after)) same ∙ take-append-le n ys after fits

mid_size : (a k : ℕ) (xs : List ℕ) → a + k ≤ length xs → length (mid_of a k xs) ≡ k
mid_size a k xs h =
    let m : length (mid_of a k xs) ≡ min k (length (drop a xs)) = length-take k (drop a xs) in
    let d = length-drop a xs in
    omega arith

put_size : (a k : ℕ) (xs ys : List ℕ) → a + k ≡ length xs → length ys ≡ k → length (put_mid a k xs ys) ≡ length xs
put_size a k xs ys whole same =
    let n = a + k in
    let made = put_mid a k xs ys in
    let within : a ≤ length xs = omega arith in
    let front = ap length (take-put_mid a k xs ys n (omega arith) within) in
    let back = ap length (drop-put_mid a k xs ys n (omega arith) within same) in
    omega (arith, front, back, length-append (take a xs) ys, length-take-le a xs within, length-take n made, length-drop n made, length-drop n xs)

pub loop-done-preserved : goal.loop-done-preserved
loop-done-preserved g c =
    let from = c.loop-done.done in
    let room = 65537 - from in
    let size = c.loop-done.invariant.size in
    let within = c.loop-done.invariant.within in
    let whole : from + room ≡ length c.loop-done.bytes = omega arith in
    let same : length c.read.new.buf ≡ room = omega (arith, c.read.auto.buf, mid_size from room c.loop-done.bytes (omega arith)) in
    let kept = put_size from room c.loop-done.bytes c.read.new.buf whole same in
    let part = slice_range-put_mid from room c.in_ok-more.more c.loop-done.bytes c.read.new.buf within c.in_ok-more.ensures.bound.0 in
    let joined = take_split from (from + c.in_ok-more.more) c.loop-done.bytes (put_mid from room c.loop-done.bytes c.read.new.buf) (omega arith) (take-put_mid_below _ _ _ _ _ (le_refl _) within) in
    record {
      size = kept ∙ size;
      within = omega (arith, kept, same, c.in_ok-more.ensures.bound.0);
      taken = subst (Consumes _ _) (ap (λ l. take from c.loop-done.bytes ++ l) (sym part) ∙ joined) (Consumes-trans _ _ _ _ _ c.loop-done.invariant.taken c.in_ok-more.ensures.bytes.0);
    }
