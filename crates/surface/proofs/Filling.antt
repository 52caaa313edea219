-- A template that is filled is its texts and counts one after another. Assumes nothing.
use Rattle.std.specs.Prelude.{◌≡◌, ℕ, ◌+◌, List, [], ◌∷◌, ◌++◌, length, refl}
use Rattle.std.proofs.Common.{sym, ap, ◌∙◌, arith, append-nil, append_assoc, length-append}
use Rattle.surface.specs.declared.sentence.OneCount.{OneCount}
use Rattle.surface.specs.declared.sentence.ThreeCounts.{ThreeCounts}
use Rattle.surface.specs.Text.{decimal}
use Rattle.surface.specs.Sentence.{Part, count, bytes, fill}
use Rattle.surface.specs.SentenceSteps.{one_count, three_counts}

pub fill_bytes : (bs : List ℕ) (t : List Part) (ns : List ℕ) → fill (bytes bs t) ns ≡ bs ++ fill t ns
unfolding fill
fill_bytes [] t ns = refl
fill_bytes (b ∷ bs) t ns = ap (λ (xs : List ℕ). b ∷ xs) (fill_bytes bs t ns)

fill_last : (bs ns : List ℕ) → fill (bytes bs []) ns ≡ bs
unfolding fill
fill_last bs ns = fill_bytes bs [] ns ∙ append-nil bs

-- a text, a count and the rest
fill_count : (bs : List ℕ) (n : ℕ) (t : List Part) (ns : List ℕ) → fill (bytes bs (count ∷ t)) (n ∷ ns) ≡ (bs ++ decimal n) ++ fill t ns
unfolding fill
fill_count bs n t ns = fill_bytes bs (count ∷ t) (n ∷ ns) ∙ sym (append_assoc bs (decimal n) (fill t ns))

module _ (t : OneCount) (n : ℕ) where
  pub one_filled : fill (one_count t) (n ∷ []) ≡ (t.first.now ++ decimal n) ++ t.last.now
  one_filled = rw (fill_count, fill_last) refl

  pub one_size : length (fill (one_count t) (n ∷ [])) ≡ length t.first.now + length (decimal n) + length t.last.now
  one_size = rw (one_filled, length-append, length-append) refl

module _ (p : ThreeCounts) (t i n : ℕ) where
  pub three_filled : fill (three_counts p) (t ∷ i ∷ n ∷ []) ≡ (((p.first.now ++ decimal t) ++ (p.second.now ++ decimal i)) ++ (p.third.now ++ decimal n)) ++ p.last.now
  three_filled =
      let a = p.first.now ++ decimal t in
      let b = p.second.now ++ decimal i in
      let c = p.third.now ++ decimal n in
      let l = p.last.now in
      let e : fill (three_counts p) (t ∷ i ∷ n ∷ []) ≡ a ++ (b ++ (c ++ l)) = rw (fill_count, fill_count, fill_count, fill_last) refl in
      e ∙ sym (append_assoc (a ++ b) c l ∙ append_assoc a b (c ++ l))

  pub three_size : length (fill (three_counts p) (t ∷ i ∷ n ∷ [])) ≡ length p.first.now + length (decimal t) + length p.second.now + length (decimal i) + length p.third.now + length (decimal n) + length p.last.now
  three_size = rw three_filled (simp length-append (omega arith))
