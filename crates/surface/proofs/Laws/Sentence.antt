-- The promises of sentences. Assumes nothing.
use Rattle.std.specs.Prelude.{◌≡◌, ℕ, suc, ◌<◌, ◌≤◌, max, Bool, true, false, cond, List, [], ◌∷◌, length, take, get_or, refl}
use Rattle.std.proofs.Common.{sym, ap, ◌∙◌, subst, arith, le-ltb, length-take-le, take-take}
use Rattle.std.proofs.Math.Decide.{dec_le}
use Rattle.shape.specs.Refusal.{Answer, taken, refused, refuse, judge}
use Rattle.shape.specs.Verdict.{Validity, sound, empty, non_finite, out_of_range, degenerate}
use Rattle.surface.specs.File.{copy_of}
use Rattle.surface.specs.Text.{decimal}
use Rattle.surface.specs.Sentence.{Part, count, text, sound_text, empty_text, non_finite_text, out_of_range_text, degenerate_text, fill, sentence_of, counts_of, too_large, sentence_answer, Walk, walk, chosen, read_sentence, Small, Counted}
use Rattle.surface.proofs.Laws.Walk.{ends_filled, walk_count, walk_filled, Fits, Written, walk_ends, reach, Begun, begun, fill_few}

-- ---- a sentence gives its verdict back

module _ (bs : List ℕ) (s : (walk sound_text bs).ends ≡ false) (e : (walk empty_text bs).ends ≡ false) where
  choose_vertex : (f n : ℕ) → walk non_finite_text bs ≡ record { far = f; counts = n ∷ []; ends = true } → read_sentence bs ≡ taken (non_finite n)
  unfolding read_sentence chosen
  choose_vertex f n is = rw (s, e, is) refl

  choose_range : (f t i n : ℕ) → (walk non_finite_text bs).ends ≡ false → walk out_of_range_text bs ≡ record { far = f; counts = t ∷ i ∷ n ∷ []; ends = true }
      → read_sentence bs ≡ taken (out_of_range t i n)
  unfolding read_sentence chosen
  choose_range f t i n v is = rw (s, e, v, is) refl

  choose_area : (f t : ℕ) → (walk non_finite_text bs).ends ≡ false → (walk out_of_range_text bs).ends ≡ false → walk degenerate_text bs ≡ record { far = f; counts = t ∷ []; ends = true }
      → read_sentence bs ≡ taken (degenerate t)
  unfolding read_sentence chosen
  choose_area f t v r is = rw (s, e, v, r, is) refl

-- "triangle N " goes on in two ways
other_way : (t : ℕ) → t < 4294967296 → (walk out_of_range_text (sentence_of (degenerate t))).ends ≡ false
unfolding sentence_of fill walk
other_way t h =
    ap (λ (w : Walk). w.ends)
    (walk_count
    (text " indexes vertex " (count ∷ text ", past the " (count ∷ text " vertices present." [])))
    t
    (fill (text " has no area." []) [])
    h
    (ends_filled (text " has no area." []) [] (length (decimal t)) t refl))

pub read_written : (v : Validity) → Counted v → read_sentence (sentence_of v) ≡ taken v
unfolding read_sentence sentence_of fill walk chosen counts_of
read_written sound c = refl
read_written empty c = refl
read_written (non_finite v) c = choose_vertex (sentence_of (non_finite v)) refl refl _ v (walk_filled non_finite_text (v ∷ []) refl c refl)
read_written (out_of_range t i n) c = choose_range (sentence_of (out_of_range t i n)) refl refl _ t i n refl (walk_filled out_of_range_text (t ∷ i ∷ n ∷ []) refl c refl)
read_written (degenerate t) c = choose_area (sentence_of (degenerate t)) refl refl _ t refl (other_way t (c.0)) (walk_filled degenerate_text (t ∷ []) refl c refl)

-- no sentence fits two verdicts
pub one_verdict : (v w : Validity) → Counted v → Counted w → sentence_of v ≡ sentence_of w → v ≡ w
one_verdict v w c d e = (let both : taken v ≡ taken w = sym (read_written v c) ∙ ap read_sentence e ∙ read_written w d in cc)

-- ---- only a sentence is read

-- a filled template is the sentence of a verdict
record Says (t : List Part) (ns : List ℕ) (v : Validity) : Type 0 where
  counted : Counted v
  is : fill t ns ≡ sentence_of v

says_sound : (ns : List ℕ) → Says sound_text ns sound
unfolding fill sentence_of counts_of
says_sound ns = record { counted = tt; is = refl }

says_empty : (ns : List ℕ) → Says empty_text ns empty
unfolding fill sentence_of counts_of
says_empty ns = record { counted = tt; is = refl }

says_vertex : (ns : List ℕ) → Fits non_finite_text ns → Says non_finite_text ns (non_finite (get_or ns 0 0))
unfolding fill sentence_of counts_of
says_vertex [] f = absurd (omega (arith, f.enough))
says_vertex (n ∷ []) f = record { counted = f.small; is = refl }
says_vertex (n ∷ m ∷ ns) f = absurd (omega (arith, f.enough))

says_range : (ns : List ℕ) → Fits out_of_range_text ns → Says out_of_range_text ns (out_of_range (get_or ns 0 0) (get_or ns 1 0) (get_or ns 2 0))
unfolding fill sentence_of counts_of
says_range [] f = absurd (omega (arith, f.enough))
says_range (t ∷ []) f = absurd (omega (arith, f.enough))
says_range (t ∷ i ∷ []) f = absurd (omega (arith, f.enough))
says_range (t ∷ i ∷ n ∷ []) f = record { counted = f.small; is = refl }
says_range (t ∷ i ∷ n ∷ m ∷ ns) f = absurd (omega (arith, f.enough))

says_area : (ns : List ℕ) → Fits degenerate_text ns → Says degenerate_text ns (degenerate (get_or ns 0 0))
unfolding fill sentence_of counts_of
says_area [] f = absurd (omega (arith, f.enough))
says_area (n ∷ []) f = record { counted = f.small; is = refl }
says_area (n ∷ m ∷ ns) f = absurd (omega (arith, f.enough))

-- the greatest distance of the five
abbrev farthest : List ℕ → ℕ
farthest bs =
    max ((walk sound_text bs).far)
    (max ((walk empty_text bs).far)
    (max ((walk non_finite_text bs).far)
    (max ((walk out_of_range_text bs).far) ((walk degenerate_text bs).far))))

-- what an answer tells of the bytes
abbrev Holds : List ℕ → Answer Validity → Type 0
Holds bs (taken v) = (bs ≡ sentence_of v) × Counted v
Holds bs (refused n p) = (n ≡ 6) × (p ≡ farthest bs)

on : (P : Answer Validity → Type 0) (b : Bool) (x y : Answer Validity) → (b ≡ true → P x) → P y → P (cond b x y)
on P true x y f g = f refl
on P false x y f g = g

tells : (t : List Part) (bs ns : List ℕ) (v : Validity) → Written t bs ns → Says t ns v → Holds bs (taken v)
tells t bs ns v w s = (w.is ∙ s.is, s.counted)

holds : (bs : List ℕ) → Holds bs (read_sentence bs)
unfolding read_sentence chosen
holds bs =
    on (Holds bs) _ _ _ (λ h. tells sound_text bs _ sound (walk_ends sound_text bs h) (says_sound _))
    (on (Holds bs) _ _ _ (λ h. tells empty_text bs _ empty (walk_ends empty_text bs h) (says_empty _))
    (on (Holds bs) _ _ _ (λ h. (let w = walk_ends non_finite_text bs h in tells non_finite_text bs _ _ w (says_vertex _ (w.fits))))
    (on (Holds bs) _ _ _ (λ h. (let w = walk_ends out_of_range_text bs h in tells out_of_range_text bs _ _ w (says_range _ (w.fits))))
    (on (Holds bs) _ _ _ (λ h. (let w = walk_ends degenerate_text bs h in tells degenerate_text bs _ _ w (says_area _ (w.fits)))) (refl, refl)))))

pub written_read : (bs : List ℕ) (v : Validity) → read_sentence bs ≡ taken v → (bs ≡ sentence_of v) × Counted v
written_read bs v e = subst (Holds bs) e (holds bs)

-- ---- the place of a refusal

-- s begins with xs
abbrev pub Begins : List ℕ → List ℕ → Type 0
Begins s xs = take (length xs) s ≡ xs

-- 6, and the length of the longest beginning of the bytes that is a beginning of some sentence
pub record Misfit (bs : List ℕ) (n p : ℕ) : Type 0 where
  pub number : n ≡ 6
  pub within : p ≤ length bs
  pub some : (v : Validity) × Counted v × (p ≤ length (sentence_of v)) × Begins (sentence_of v) (take p bs)
  pub none : p < length bs → (w : Validity) → Counted w → Begins (sentence_of w) (take (suc p) bs) → ⊥

-- no sentence goes on farther
farther : (bs : List ℕ) (q : ℕ) (w : Validity) → Counted w → q ≤ length bs → take q (sentence_of w) ≡ take q bs → q ≤ farthest bs
unfolding sentence_of counts_of
farther bs q sound c h e = omega (arith, reach sound_text [] bs q refl tt refl h e)
farther bs q empty c h e = omega (arith, reach empty_text [] bs q refl tt refl h e)
farther bs q (non_finite v) c h e = omega (arith, reach non_finite_text (v ∷ []) bs q refl c refl h e)
farther bs q (out_of_range t i n) c h e = omega (arith, reach out_of_range_text (t ∷ i ∷ n ∷ []) bs q refl c refl h e)
farther bs q (degenerate t) c h e = omega (arith, reach degenerate_text (t ∷ []) bs q refl c refl h e)

-- a sentence that goes so far
abbrev Goes : List ℕ → ℕ → Type 0
Goes bs p = (v : Validity) × Counted v × (p ≤ length (sentence_of v)) × (take p (sentence_of v) ≡ take p bs)

goes : (t : List Part) (bs : List ℕ) (f p : ℕ) (v : Validity) (b : Begun t bs f) → Says t (b.counts) v → p ≤ f → Goes bs p
goes t bs f p v b s h =
    (v, s.counted, rw (← (s.is)) (omega (arith, b.filled)), rw (← (s.is)) (sym (take-take p f (fill t (b.counts)) h) ∙ ap (take p) (b.same) ∙ take-take p f bs h))

either : (P : Type 0) (p a b : ℕ) → p ≤ max a b → (p ≤ a → P) → (p ≤ b → P) → P
either P p a b h f g =
    elim (dec_le p a) [
      | yes q ↦ f q
      | no q ↦ g (omega arith)
    ]

some_goes : (bs : List ℕ) (p : ℕ) → p ≤ farthest bs → Goes bs p
some_goes bs p h =
    either (Goes bs p) p _ _ h (goes sound_text bs _ p sound (begun sound_text bs) (says_sound _))
    λ h.
    either (Goes bs p) p _ _ h (goes empty_text bs _ p empty (begun empty_text bs) (says_empty _))
    λ h.
    either (Goes bs p) p _ _ h (let b = begun non_finite_text bs in goes non_finite_text bs _ p _ b (says_vertex _ (b.fits)))
    λ h.
    either (Goes bs p) p _ _ h (let b = begun out_of_range_text bs in goes out_of_range_text bs _ p _ b (says_range _ (b.fits)))
    (let b = begun degenerate_text bs in goes degenerate_text bs _ p _ b (says_area _ (b.fits)))

all_within : (bs : List ℕ) → farthest bs ≤ length bs
all_within bs =
    omega (arith, (begun sound_text bs).there, (begun empty_text bs).there, (begun non_finite_text bs).there, (begun out_of_range_text bs).there, (begun degenerate_text bs).there)

pub first_misfit : (bs : List ℕ) (n p : ℕ) → read_sentence bs ≡ refused n p → Misfit bs n p
first_misfit bs n p e =
    let t = subst (Holds bs) e (holds bs) in
    let is : p ≡ farthest bs = t.1 in
    let l : p ≤ length bs = rw is (all_within bs) in
    let g = some_goes bs p (rw (← is) (omega arith)) in
    record {
      number = t.0;
      within = l;
      some = (g.0, g.1, g.2, rw (length-take-le p bs l) (g.3));
      none =
          λ h w c b.
          (let m : suc p ≤ length bs = omega arith in
          let s : take (suc p) (sentence_of w) ≡ take (suc p) bs = rw (length-take-le (suc p) bs m) at b in
          let f : suc p ≤ p = rw (← is) at (farther bs (suc p) w c m s) in
          omega arith);
    }

-- ---- how long a sentence can be

pub sentence_few : (v : Validity) → length (sentence_of v) ≤ 84
unfolding sentence_of
sentence_few sound = omega (arith, fill_few sound_text [])
sentence_few empty = omega (arith, fill_few empty_text [])
sentence_few (non_finite v) = omega (arith, fill_few non_finite_text (v ∷ []))
sentence_few (out_of_range t i n) = omega (arith, fill_few out_of_range_text (t ∷ i ∷ n ∷ []))
sentence_few (degenerate t) = omega (arith, fill_few degenerate_text (t ∷ []))

-- ---- every verdict with such counts is written

not_too_large : (ns : List ℕ) → Small ns → too_large ns ≡ false
unfolding too_large
not_too_large [] s = refl
not_too_large (n ∷ ns) s =
    let l : n ≤ 4294967295 = omega (arith, s.0) in
    rw (le-ltb 4294967295 n l) (not_too_large ns (s.1))

pub writes : (v : Validity) (room : ℕ) → Counted v → length (sentence_of v) ≤ room → sentence_answer v room ≡ taken (length (sentence_of v))
unfolding sentence_answer copy_of judge refuse
writes v room c h = rw (not_too_large (counts_of v) c, le-ltb room (length (sentence_of v)) h) refl
