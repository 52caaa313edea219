-- Laws behind the height in a junction: heights of a run, lines held with 2,048 added, the place of a coordinate, and what a pass over the rows shows. Assumes nothing.
use Rattle.std.proofs.Common.{◌≡◌, ℕ, zero, suc, ◌+◌, ◌-◌, ◌*◌, ◌/◌, ◌^◌, ◌<◌, ◌≤◌, min, true, false, T, List, length, get_or, drop, pos, negsuc, neg_ℤ, sym, refl, zero-lt-suc, arith, le→leb, length-drop, length-take, get_or-drop, get_or-take, le-ltb, lt-ltb, Some, None}
use native.Mathlib.Decide.{dec_lt}
use lib.IntN.{suc_ℤ, pred_ℤ, sub_ℕ}
use lib.Ieee.{Float, nan, inf, fin, binary64, up, down, le, neg, round, of_bits, of_int, in_float, to_unsigned, to_signed}
use Rattle.rounding.specs.Whole.{whole_of}
use Rattle.rounding.proofs.Laws.Order.{le_trans}
use Rattle.rounding.proofs.Laws.Rounding.{neg_anti, round_order}
use Rattle.rounding.proofs.Laws.Count.{to_unsigned_mono}
use Rattle.rounding.proofs.Laws.Whole.{floor_mono}
use Rattle.shape.specs.Gather.{any}
use Rattle.shape.specs.Lists.{start_of, end_of, run_long}
use Rattle.shape.proofs.Laws.Lists.{short}
use Rattle.shape.specs.Elevation.{nth, part, floored, longest, widest_of, row_count, count}
use Rattle.shape.specs.ElevationSteps.{1024d, Near}
use Rattle.shape.specs.declared.elevation.Run.{Run}

-- ---- height n of a run

module _ (xs : List Float) (a : Run) (n : ℕ) where
  pub held : a.start + n < a.end → a.start + n < length xs → Some (get_or xs (a.start + n) nan) ≡ nth (part xs a) n
  unfolding nth
  held h k =
      let e : n < length (part xs a) = simp (length-take, length-drop) (omega arith) in
      let l : n < a.end - a.start = omega arith in
      rw (lt-ltb n (length (part xs a)) e, get_or-take (a.end - a.start) (drop a.start xs) n nan l, get_or-drop)

  pub short_run : a.end ≤ a.start + n → None ≡ nth (part xs a) n
  unfolding nth
  short_run h = let e : length (part xs a) ≤ n = simp (length-take, length-drop) (omega arith) in rw (le-ltb n (length (part xs a)) e)

  pub short_list : length xs ≤ a.start + n → None ≡ nth (part xs a) n
  unfolding nth
  short_list h = let e : length (part xs a) ≤ n = simp (length-take, length-drop) (omega arith) in rw (le-ltb n (length (part xs a)) e)

-- ---- lines held with b added

below_line : (j b : ℕ) → j < b → sub_ℕ j b ≡ negsuc (b - suc j)
below_line j b h = rw (lt-ltb j b h)

from_line : (j b : ℕ) → b ≤ j → sub_ℕ j b ≡ pos (j - b)
from_line j b h = rw (le-ltb j b h)

pub next_line : (j b : ℕ) → sub_ℕ (j + 1) b ≡ suc_ℤ (sub_ℕ j b)
next_line j b =
    elim (dec_lt j b) [
      | yes p ↦ elim (dec_lt (j + 1) b) [
        | yes q ↦ let e : b - suc j ≡ suc (b - suc (j + 1)) = omega arith in rw (below_line (j + 1) b q, below_line j b p, e)
        | no q ↦
            let r : b ≤ j + 1 = omega arith in
            let e : b - suc j ≡ 0 = omega arith in
            let d : j + 1 - b ≡ 0 = omega arith in
            rw (from_line (j + 1) b r, below_line j b p, e, d)
      ]
      | no p ↦
          let r : b ≤ j = omega arith in
          let q : b ≤ j + 1 = omega arith in
          let e : j + 1 - b ≡ suc (j - b) = omega arith in
          rw (from_line (j + 1) b q, from_line j b r, e)
    ]

pub after_line : (j b : ℕ) → sub_ℕ (j + 2) b ≡ suc_ℤ (suc_ℤ (sub_ℕ j b))
after_line j b = let e : j + 2 ≡ j + 1 + 1 = omega arith in rw (e, next_line (j + 1) b, next_line j b)

pub last_line : (j b : ℕ) → 0 < j → sub_ℕ (j - 1) b ≡ pred_ℤ (sub_ℕ j b)
last_line j b h =
    elim (dec_lt j b) [
      | yes p ↦
          let q : j - 1 < b = omega arith in
          let e : b - suc (j - 1) ≡ suc (b - suc j) = omega arith in
          rw (below_line (j - 1) b q, below_line j b p, e)
      | no p ↦ elim (dec_lt (j - 1) b) [
        | yes q ↦
            let r : b ≤ j = omega arith in
            let e : b - suc (j - 1) ≡ 0 = omega arith in
            let d : j - b ≡ 0 = omega arith in
            rw (below_line (j - 1) b q, from_line j b r, e, d)
        | no q ↦
            let r : b ≤ j = omega arith in
            let s : b ≤ j - 1 = omega arith in
            let e : j - b ≡ suc (j - 1 - b) = omega arith in
            rw (from_line (j - 1) b s, from_line j b r, e)
      ]
    ]

pub left_line : (j : ℕ) → 2048 < j → sub_ℕ j 2048 ≡ pos (suc (j - 2049))
left_line j h = let r : 2048 ≤ j = omega arith in let e : j - 2048 ≡ suc (j - 2049) = omega arith in rw (from_line j 2048 r, e)

pub right_line : (j : ℕ) → j < 2048 → sub_ℕ j 2048 ≡ negsuc (2047 - j)
right_line j h = let e : 2048 - suc j ≡ 2047 - j = omega arith in rw (below_line j 2048 h, e)

pub row_line : (i : ℕ) → 2048 ≤ i → sub_ℕ i 2048 ≡ pos (i - 2048)
row_line i h = from_line i 2048 h

pub no_row : (i : ℕ) → i < 2048 → sub_ℕ i 2048 ≡ negsuc (2047 - i)
no_row i h = right_line i h

-- ---- the place of a coordinate

minus_line : (q : ℕ) → q ≤ 1024 → neg_ℤ (pos q) ≡ sub_ℕ (2048 + 0 - q) 2048
minus_line zero h = refl
minus_line (suc n) h = let p : 2048 + 0 - suc n < 2048 = omega arith in let e : 2048 - suc (2048 + 0 - suc n) ≡ n = omega arith in rw (below_line (2048 + 0 - suc n) 2048 p, e)

plus_line : (q : ℕ) → pos q ≡ sub_ℕ (2048 + q - 0) 2048
plus_line q = let p : 2048 ≤ 2048 + q - 0 = omega arith in let e : 2048 + q - 0 - 2048 ≡ q = omega arith in rw (from_line (2048 + q - 0) 2048 p, e)

pub line_of : (f : Float) → to_unsigned 64 f ≤ 1024 → to_unsigned 64 (neg f) ≤ 1024 → sub_ℕ (2048 + to_unsigned 64 f - to_unsigned 64 (neg f)) 2048 ≡ to_signed 63 f
unfolding to_unsigned to_signed neg
line_of nan h k = refl
line_of (inf true) h k = absurd (omega arith)
line_of (inf false) h k = absurd (omega arith)
line_of (fin false m e) h k =
    let q : min (m * up e / down e) (2 ^ 63 - 1) ≡ min (m * up e / down e) (2 ^ 64 - 1) = omega arith in
    rw q (sym (plus_line (min (m * up e / down e) (2 ^ 64 - 1))))
line_of (fin true m e) h k =
    let q : min (m * up e / down e) (2 ^ 63) ≡ min (m * up e / down e) (2 ^ 64 - 1) = omega arith in
    rw q (sym (minus_line (min (m * up e / down e) (2 ^ 64 - 1)) k))

top_floor : floored 1024d ≡ 1024d
unfolding whole_of of_bits
top_floor = refl

low_floor : floored (neg 1024d) ≡ neg 1024d
unfolding whole_of of_bits neg
low_floor = refl

top_count : to_unsigned 64 1024d ≡ 1024
unfolding to_unsigned of_bits
top_count = refl

low_count : to_unsigned 64 (neg (neg 1024d)) ≡ 1024
unfolding to_unsigned of_bits neg
low_count = refl

pub above_few : (at : Float) → Near at → to_unsigned 64 (floored at) ≤ 1024
above_few at n = rw top_count at (to_unsigned_mono 64 (floored at) 1024d (rw top_floor at (floor_mono binary64 at 1024d n.high)))

pub below_few : (at : Float) → Near at → to_unsigned 64 (neg (floored at)) ≤ 1024
below_few at n =
    rw low_count at
    (to_unsigned_mono 64 (neg (floored at)) (neg (neg 1024d))
    (neg_anti (neg 1024d) (floored at) (rw low_floor at (floor_mono binary64 (neg 1024d) at n.low))))

-- ---- coordinates within the grid

top_round : of_int binary64 (pos 1024) ≡ 1024d
unfolding of_int round of_bits
top_round = refl

count_few : (n : ℕ) → n ≤ 1024 → T (le (count n) 1024d)
unfolding of_int
count_few n h = rw (← top_round) (round_order binary64 false n 1 false 1024 1 (zero-lt-suc 0) (zero-lt-suc 0) (omega arith))

pub count_whole : (n : ℕ) → n ≤ 1024 → T (in_float binary64 (pos n))
unfolding in_float
count_whole n h = le→leb n (2 ^ 53) (omega arith)

low_zero : T (le (neg 1024d) (of_bits binary64 0))
unfolding le of_bits neg
low_zero = tt

pub near_row : (u : Float) (n : ℕ) → n ≤ 1024 → T (le (of_bits binary64 0) u) → T (le u (count n)) → Near u
near_row u n h a b = record { low = le_trans (neg 1024d) (of_bits binary64 0) u low_zero a; high = le_trans u (count n) 1024d b (count_few n h) }

pub near_column : (v : Float) (n : ℕ) → n ≤ 1024 → T (le (neg (count n)) v) → T (le v (count n)) → Near v
near_column v n h a b =
    record {
      low = le_trans (neg 1024d) (neg (count n)) v (neg_anti (count n) 1024d (count_few n h)) a;
      high = le_trans v (count n) 1024d b (count_few n h);
    }

-- ---- runs

pub longest_few : (a : ℕ) (rows : List ℕ) (m n : ℕ) → n ≤ m → any (run_long 6 a rows 1024) m ≡ false → longest a rows n ≤ 1024
unfolding longest
longest_few a rows m zero h e = omega arith
longest_few a rows m (suc n) h e =
    let x : longest a rows n ≤ 1024 = longest_few a rows m n (omega arith) e in
    let y : end_of 6 a rows n - start_of 6 a rows n ≤ 1024 = short 6 a rows 1024 m n (omega arith) e in
    omega arith

pub widest_few : (rows : List ℕ) → any (run_long 6 2 rows 1024) (row_count rows) ≡ false → any (run_long 6 4 rows 1024) (row_count rows) ≡ false → widest_of rows ≤ 1024
unfolding widest_of
widest_few rows h k =
    let x : longest 2 rows (row_count rows) ≤ 1024 = longest_few 2 rows (row_count rows) (row_count rows) (omega arith) h in
    let y : longest 4 rows (row_count rows) ≤ 1024 = longest_few 4 rows (row_count rows) (row_count rows) (omega arith) k in
    omega arith
