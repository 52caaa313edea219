-- What the private functions ask and promise: steps on the way to the operations, with the format as a parameter where both widths share a step.
-- Definitions only. Assumes nothing.
use Rattle.std.specs.Prelude.{◌≡◌, ℕ, suc, ◌+◌, ◌-◌, ◌*◌, ◌/◌, ◌^◌, ◌<◌, ◌≤◌, Bool, cond, ◌≢◌, from_bits, to_bits, Float}
use Rattle.std.specs.Float.{Format, binary32, binary64}
use Rattle.std.specs.Float.Ieee.{prec, emax, low, round, hid, ones, top}
use Rattle.rounding.specs.declared.whole.Way.{Way}
use Rattle.rounding.specs.declared.whole.Way.TheVariants.{TowardZero, HalfAway, AwayFromZero}
use Rattle.rounding.specs.Whole.{whole_by}

-- ---- both widths

-- a format has p digits and the largest exponent e
pub record Shaped (p e : ℕ) : Type 0 where
  pub format : Format
  pub digits : prec format ≡ p
  pub largest : emax format ≡ e

-- ---- the root

-- r is the greatest number whose square is at most n
pub record Root (r n : ℕ) : Type 0 where
  pub under : r * r ≤ n
  pub over : n < suc r * suc r

-- what is asked of a guess: it is no divisor that fails, and its sum with a quotient fits
pub record Guessed (g : ℕ) : Type 0 where
  pub some : 0 < g
  pub small : g < 2 ^ 44

-- what the root of y * 2 ^ n is taken of: n is the number of digits of one of the formats, and y has one or two more
pub record Radicand (y n : ℕ) : Type 0 where
  pub width : (n ≢ 24) → n ≡ 53
  pub low : 2 ^ n ≤ y
  pub high : y < 4 * 2 ^ n
  pub even : y ≡ 2 * (y / 2)

-- the bits b are those of the value v, which is finite and not negative
pub record Rooted (f : Format) (v : Float) (b : ℕ) : Type 0 where
  pub value : from_bits f b ≡ v
  pub finite : b < ones f * hid f

-- ---- whole numbers

-- what is added to a multiple of d and r, so that the whole multiples of d in it are as many as `moves` says
abbrev pub addend_of : Way → ℕ → ℕ
addend_of TowardZero d = 0
addend_of HalfAway d = d / 2
addend_of AwayFromZero d = d - 1

-- from where on a number below one goes to one, with the numbers for a half and for one
abbrev pub limit_of : Way → ℕ → ℕ → ℕ
limit_of TowardZero h o = o
limit_of HalfAway h o = h
limit_of AwayFromZero h o = 1

-- The size of the number with the bits b, in units of the smallest value, in a format with p digits, for bits with no sign.
abbrev pub size_of : ℕ → ℕ → ℕ
size_of p b = (b - (b / 2 ^ (p - 1) - 1) * 2 ^ (p - 1)) * 2 ^ (b / 2 ^ (p - 1) - 1)

-- r is the bits, but for the sign, of the whole number that the size with the bits b goes to
pub record Wholes (f : Format) (s : Bool) (w : Way) (b r : ℕ) : Type 0 where
  pub value : to_bits f (whole_by f s w (size_of (prec f) b) (2 ^ low f)) ≡ cond s (top f) 0 + r
  pub finite : r < ones f * hid f

-- ---- the other width

-- r is the bits, but for the sign, of the `f32` nearest to the size with the bits b of an `f64`
pub record Narrows (s : Bool) (b r : ℕ) : Type 0 where
  pub value : to_bits binary32 (round binary32 s (size_of 53 b) (2 ^ low binary64)) ≡ cond s (top binary32) 0 + r
  pub most : r ≤ ones binary32 * hid binary32

-- r is the bits of the `f64` equal to the `f32` with the bits b, both without their signs: as many smallest values, which are 2 ^ (1074 - 149) times as small
pub record Widens (b r : ℕ) : Type 0 where
  pub value : size_of 53 r ≡ size_of 24 b * 2 ^ (low binary64 - low binary32)
  pub finite : r < ones binary64 * hid binary64
