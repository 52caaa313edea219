-- What is left of a list that is gone through by parts, and what a part holds. Assumes nothing.
use Rattle.std.proofs.Common.{◌≡◌, ℕ, ◌+◌, ◌-◌, ◌<◌, ◌≤◌, List, ◌++◌, length, get_or, drop, sym, refl, ap, ◌∙◌, arith, drop_at, length-append, get_or-drop}
use Rattle.std.proofs.Math.ListN.{get_or-append}
use lib.Seq.{drop-drop}

module _ {A : Type 0} where
  -- before the first part all is left
  pub cut_first : (xs rest : List A) → rest ≡ xs → (length rest ≤ length xs) × (rest ≡ drop (length xs - length rest) xs) × (length xs - length rest ≡ 0)
  cut_first xs rest e =
      let z : length xs - length rest ≡ 0 = omega (arith, ap length e) in
      (omega (arith, ap length e), rw z e, z)

  -- one part more
  pub cut_next : (xs rest part next : List A) → length rest ≤ length xs → rest ≡ drop (length xs - length rest) xs → rest ≡ part ++ next
      → (length next ≤ length xs) × (next ≡ drop (length xs - length next) xs) × (length xs - length next ≡ length xs - length rest + length part)
  cut_next xs rest part next l e c =
      let n : length rest ≡ length part + length next = ap length c ∙ length-append part next in
      let z : length xs - length next ≡ length xs - length rest + length part = omega (arith, l, n) in (
        omega (arith, l, n),
        rw z (sym (drop_at part next (length part) refl) ∙ ap (drop (length part)) (sym c ∙ e) ∙ drop-drop (length part) (length xs - length rest) xs),
        z,
      )

  -- element k of a part that starts at place i
  pub cut_get : (xs part rest : List A) (i k : ℕ) (d : A) → part ++ rest ≡ drop i xs → k < length part → get_or part k d ≡ get_or xs (i + k) d
  cut_get xs part rest i k d e l = sym (get_or-append part rest d k l) ∙ ap (λ (ys : List A). get_or ys k d) e ∙ get_or-drop i xs k d
