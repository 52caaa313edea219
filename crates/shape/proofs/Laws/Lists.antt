-- What sound runs are, the part of a list that a run is, and a mesh's faults as one chain. Assumes nothing.
use Rattle.std.specs.Prelude.{◌≡◌, ℕ, zero, suc, ◌+◌, ◌-◌, ◌*◌, ◌/◌, ◌<◌, ◌≤◌, min, false, ◌||◌, ltb, List, [], ◌∷◌, length, get_or, take, drop, ◌≢◌, nat_lt, refl}
use Rattle.std.proofs.Common.{sym, ◌∙◌, mul-suc, mul-le-mul_left, sub-one, arith, ltb-false, lt-ltb, le-ltb, length-drop, drop_of_length-le, take_all}
use Rattle.std.proofs.Math.Nat.{mul-div-le}
use Rattle.std.proofs.Math.Decide.{dec_lt}
use Rattle.std.proofs.Math.ListN.{get_or-eq_default}
use Rattle.std.proofs.Math.Seq.{take-nil}
use Rattle.shape.specs.Gather.{any}
use Rattle.shape.specs.Lists.{word_of, start_of, end_of, last_end, run_bad, run_long, Mesh, longer, uneven, mesh_limits, mesh_ragged, mesh_fault}
use Rattle.shape.specs.Refusal.{fine, refuse, or_else}
use Rattle.shape.proofs.Laws.Gather.{or_left, or_right, any_none}
use Rattle.shape.proofs.Laws.Refusal.{else_refuse}

-- run k of a list of n: it is in order, after the last one, and within its list
pub record Sound (w a : ℕ) (ws : List ℕ) (n k : ℕ) : Type 0 where
  pub order : start_of w a ws k ≤ end_of w a ws k
  pub after : last_end w a ws k ≤ start_of w a ws k
  pub within : end_of w a ws k ≤ n

pub sound : (w a : ℕ) (ws : List ℕ) (n m k : ℕ) → k < m → any (run_bad w a ws n) m ≡ false → Sound w a ws n k
unfolding run_bad
sound w a ws n m k h e =
    let x = ltb (end_of w a ws k) (start_of w a ws k) in
    let y = ltb (start_of w a ws k) (last_end w a ws k) in
    let z = ltb n (end_of w a ws k) in
    let b : (x || y) || z ≡ false = any_none (run_bad w a ws n) k m h e in
    record {
      order = ltb-false (end_of w a ws k) (start_of w a ws k) (or_left x y (or_left (x || y) z b));
      after = ltb-false (start_of w a ws k) (last_end w a ws k) (or_right x y (or_left (x || y) z b));
      within = ltb-false n (end_of w a ws k) (or_right (x || y) z b);
    }

-- a run that is not past its limit
pub short : (w a : ℕ) (ws : List ℕ) (limit m k : ℕ) → k < m → any (run_long w a ws limit) m ≡ false → end_of w a ws k - start_of w a ws k ≤ limit
unfolding run_long
short w a ws limit m k h e = ltb-false limit (end_of w a ws k - start_of w a ws k) (any_none (run_long w a ws limit) k m h e)

-- a word of a whole record is within the list
pub word_inside : (w k j n : ℕ) → k < n / w → j < w → w * k + j < n
word_inside w k j n h l =
    let e : w * suc k ≡ w * k + w = mul-suc w k in
    let m : w * suc k ≤ w * (n / w) = mul-le-mul_left w h in
    omega (arith, e, m, mul-div-le n w)

-- the end of the run before, as the code reaches it
pub last_end_lem : (w a : ℕ) (ws : List ℕ) (k : ℕ) → (k ≢ 0) → end_of w a ws (k - 1) ≡ last_end w a ws k
unfolding last_end
last_end_lem w a ws zero h = absurd (h refl)
last_end_lem w a ws (suc k) h = rw sub-one

-- a length compared without a difference
pub without_difference : (limit s e : ℕ) → nat_lt (s + limit) e ≡ nat_lt limit (e - s)
without_difference limit s e =
    elim (dec_lt (s + limit) e) [
      | yes p ↦ lt-ltb (s + limit) e p ∙ sym (lt-ltb limit (e - s) (omega arith))
      | no p ↦ le-ltb (s + limit) e (omega arith) ∙ sym (le-ltb limit (e - s) (omega arith))
    ]

-- a word past the list's end
pub word_past : (w : ℕ) (ws : List ℕ) (k j : ℕ) → length ws ≤ w * k + j → 0 ≡ word_of w ws k j
unfolding word_of
word_past w ws k j h = sym (get_or-eq_default ws 0 h)

-- ---- the part of a list from a to e

module _ {A : Type 0} where
  none : (a e : ℕ) (xs : List A) → e ≤ a → take (e - a) (drop a xs) ≡ []
  none a e xs h = let z : e - a ≡ 0 = omega arith in rw z

  past : (a e : ℕ) (xs : List A) → length xs ≤ a → take (e - a) (drop a xs) ≡ []
  past a e xs h = rw (drop_of_length-le xs h) (take-nil (e - a))

  cut : (a e : ℕ) (xs : List A) → length xs < e → take (length xs - a) (drop a xs) ≡ take (e - a) (drop a xs)
  cut a e xs h = take_all (length xs - a) (drop a xs) (simp length-drop (omega arith)) ∙ sym (take_all (e - a) (drop a xs) (simp length-drop (omega arith)))

  -- with both ends brought into the list
  pub part_cut : (a e : ℕ) (xs : List A) → take (min e (length xs) - min a (min e (length xs))) (drop (min a (min e (length xs))) xs) ≡ take (e - a) (drop a xs)
  part_cut a e xs =
      elim (dec_lt a (min e (length xs))) [
        | yes p ↦ let z : min a (min e (length xs)) ≡ a = omega arith in rw z (ended p)
        | no p ↦ none (min a (min e (length xs))) (min e (length xs)) xs (omega arith) ∙ sym (empty p)
      ]
    where
      ended : a < min e (length xs) → take (min e (length xs) - a) (drop a xs) ≡ take (e - a) (drop a xs)
      ended p =
          elim (dec_lt (length xs) e) [
            | yes q ↦ let z : min e (length xs) ≡ length xs = omega arith in rw z (cut a e xs q)
            | no q ↦ let z : min e (length xs) ≡ e = omega arith in rw z
          ]

      empty : (a < min e (length xs) → ⊥) → take (e - a) (drop a xs) ≡ []
      empty p =
          elim (dec_lt a e) [
            | yes q ↦ past a e xs (omega arith)
            | no q ↦ none a e xs (omega arith)
          ]

-- an element within a list is the same whatever stands for what is past the end
pub get_d_any {ℓ} : {A : Type ℓ} (l : List A) (i : ℕ) (d e : A) → i < length l → get_or l i d ≡ get_or l i e
get_d_any [] i d e h = absurd (omega arith)
get_d_any (x ∷ xs) zero d e h = refl
get_d_any (x ∷ xs) (suc i) d e h = get_d_any xs i d e (omega arith)

-- a mesh's faults, each before the next
pub mesh_fault_chain : (m : Mesh)
    → mesh_fault m
    ≡ refuse (longer 3 65536 m.vertices) 1 65536
    (refuse (longer 3 65536 m.normals) 1 65536
    (refuse (longer 1 196608 m.indices) 1 196608
    (refuse (longer 5 1024 m.spans) 1 1024
    (refuse (uneven 3 m.vertices) 2 0
    (refuse (uneven 3 m.normals) 2 1
    (refuse (uneven 5 m.spans) 2 3
    (refuse (any (run_bad 5 1 m.spans (length m.vertices / 3)) (length m.spans / 5)) 2 3
    (refuse (any (run_bad 5 3 m.spans (length m.indices)) (length m.spans / 5)) 2 3 fine))))))))
unfolding mesh_fault mesh_limits mesh_ragged or_else
mesh_fault_chain m = rw (else_refuse, else_refuse, else_refuse, else_refuse)
