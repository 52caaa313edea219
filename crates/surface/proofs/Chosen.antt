-- What the five walks come to. Assumes nothing.
use Rattle.std.specs.Prelude.{◌≡◌, ℕ, Bool, true, false, cond, List, [], ◌∷◌, max, get_or, Ok, Err, refl}
use Rattle.shape.specs.Refusal.{taken, refused}
use Rattle.shape.specs.Verdict.{sound, empty, non_finite, out_of_range, degenerate}
use Rattle.surface.specs.Sentence.{sound_text, empty_text, non_finite_text, out_of_range_text, degenerate_text, Walk, walk, chosen, read_sentence}
use Rattle.surface.specs.SentenceSteps.{outcome}

-- a walk to the end, and one that stopped
record Ended (w : Walk) (ns : List ℕ) : Type 0 where
  ends : w.ends ≡ true
  counts : w.counts ≡ ns

record Stopped (w : Walk) (p : ℕ) : Type 0 where
  ends : w.ends ≡ false
  far : w.far ≡ p

ended : {w : Walk} {ns : List ℕ} → outcome w ≡ Ok ns → Ended w ns
unfolding outcome
ended {w} {ns} e = go w.ends refl e
  where
    go : (b : Bool) → w.ends ≡ b → cond b (Ok w.counts) (Err w.far) ≡ Ok ns → Ended w ns
    go true h e = record { ends = h; counts = cc }
    go false h e = absurd (let q = e in cc)

stopped : {w : Walk} {p : ℕ} → outcome w ≡ Err p → Stopped w p
unfolding outcome
stopped {w} {p} e = go w.ends refl e
  where
    go : (b : Bool) → w.ends ≡ b → cond b (Ok w.counts) (Err w.far) ≡ Err p → Stopped w p
    go true h e = absurd (let q = e in cc)
    go false h e = record { ends = h; far = cc }

module _ (bs : List ℕ) where
  pub chosen_sound : outcome (walk sound_text bs) ≡ Ok [] → taken sound ≡ read_sentence bs
  unfolding read_sentence chosen
  chosen_sound s = rw (ended s).ends refl

  module _ (p : ℕ) (s : outcome (walk sound_text bs) ≡ Err p) where
    pub chosen_empty : outcome (walk empty_text bs) ≡ Ok [] → taken empty ≡ read_sentence bs
    unfolding read_sentence chosen
    chosen_empty e = rw ((stopped s).ends, (ended e).ends) refl

    module _ (q : ℕ) (e : outcome (walk empty_text bs) ≡ Err q) where
      pub chosen_non_finite : (n : ℕ) → outcome (walk non_finite_text bs) ≡ Ok (n ∷ []) → taken (non_finite n) ≡ read_sentence bs
      unfolding read_sentence chosen
      chosen_non_finite n v = rw ((stopped s).ends, (stopped e).ends, (ended v).ends, (ended v).counts) refl

      module _ (x : ℕ) (v : outcome (walk non_finite_text bs) ≡ Err x) where
        pub chosen_out_of_range : (ns : List ℕ) → outcome (walk out_of_range_text bs) ≡ Ok ns → taken (out_of_range (get_or ns 0 0) (get_or ns 1 0) (get_or ns 2 0)) ≡ read_sentence bs
        unfolding read_sentence chosen
        chosen_out_of_range ns r = rw ((stopped s).ends, (stopped e).ends, (stopped v).ends, (ended r).ends, (ended r).counts) refl

        module _ (y : ℕ) (r : outcome (walk out_of_range_text bs) ≡ Err y) where
          pub chosen_degenerate : (t : ℕ) → outcome (walk degenerate_text bs) ≡ Ok (t ∷ []) → taken (degenerate t) ≡ read_sentence bs
          unfolding read_sentence chosen
          chosen_degenerate t d = rw ((stopped s).ends, (stopped e).ends, (stopped v).ends, (stopped r).ends, (ended d).ends, (ended d).counts) refl

          pub chosen_none : (z far : ℕ) → outcome (walk degenerate_text bs) ≡ Err z → far ≡ max p (max q (max x (max y z))) → refused 6 far ≡ read_sentence bs
          unfolding read_sentence chosen
          chosen_none z far d m =
              rw ((stopped s).ends, (stopped e).ends, (stopped v).ends, (stopped r).ends, (stopped d).ends, (stopped s).far, (stopped e).far, (stopped v).far, (stopped r).far, (stopped d).far, m) refl
