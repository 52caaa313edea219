-- `shape::ears::remove` meets its contract: one more moves down, until all behind k have. Assumes nothing.
use Rattle.std.proofs.Common.{◌≡◌, ℕ, suc, ◌+◌, ◌-◌, ◌<◌, ◌≤◌, List, ◌++◌, length, take, drop, slice_index, sym, ap, ◌∙◌, arith, take_all, take_at, take-append-drop, length-take-le}
use Rattle.std.proofs.lemmas.List.{get_or-append_right, get_or-drop}
use Rattle.std.proofs.lemmas.List.Edits.{length-remove, get_or-remove_above}
use Rattle.shape.specs.Ears.{without}
use Rattle.shape.proofs.Laws.Memory.{copied_more}
use Rattle.shape.proofs.ears.remove.Goals as goal

module _ (l : List ℕ) (k : ℕ) (h : k < length l) where
  -- one is left out
  one_less : length (without l k) + 1 ≡ length l
  unfolding without
  one_less = length-remove l k h

  -- before the loop
  none_moved : l ≡ take k (without l k) ++ drop k l
  unfolding without
  none_moved = rw (take_at (take k l) (drop (suc k) l) k (length-take-le k l (omega arith))) (sym (take-append-drop k l))

  -- what moves down in a turn
  next_moved : (i : ℕ) (now : List ℕ) → k ≤ i → i + 1 < length l → now ≡ take i (without l k) ++ drop i l → slice_index now (i + 1) ≡ slice_index (without l k) i
  unfolding without
  next_moved i now b d e =
      let w = without l k in
      let n : length (take i w) ≡ i = length-take-le i w (omega (arith, one_less)) in
      let f : i + (i + 1 - i) ≡ i + 1 = omega arith in
      ap (λ (m : List ℕ). slice_index m (i + 1)) e
      ∙ get_or-append_right (take i w) (drop i l) i (i + 1) 0 n (omega arith)
      ∙ get_or-drop i l (i + 1 - i) 0
      ∙ ap (slice_index l) f
      ∙ sym (get_or-remove_above l k 0 i b h)

  -- behind the loop
  all_moved : (i : ℕ) (now : List ℕ) → i ≡ length l - 1 → now ≡ take i (without l k) ++ drop i l → take (length l - 1) now ≡ without l k
  all_moved i now f e =
      let w = without l k in
      rw (← f, e)
      (take_at (take i w) (drop i l) i (length-take-le i w (omega (arith, one_less))) ∙ take_all i w (omega (arith, one_less)))

pub loop-i-init : goal.loop-i-init
loop-i-init c = none_moved c.args.left.now c.args.k c.requires

pub loop-i-preserved : goal.loop-i-preserved
loop-i-preserved c =
    let l = c.args.left.now in
    let k = c.args.k in
    let i = c.loop-i.i in
    let now = c.loop-i.left in
    let e = c.loop-i.invariant in
    copied_more (without l k) l now i _ 0 e (next_moved l k c.requires i now (omega arith) (omega arith) e) (omega (arith, one_less l k c.requires)) (omega arith)

pub returns : goal.returns
returns c = all_moved c.args.left.now c.args.k c.requires c.loop-i.i c.loop-i.left (omega arith) c.loop-i.invariant
