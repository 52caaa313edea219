-- Decimal digits one after another, how many there are, and bytes put over others. Assumes nothing.
use borrow.Rule.Slice.PartMut.{put_mid}
use mathlib.Core.Path.{◌≡◌, refl, sym}
use mathlib.Core.List.{List, [], ◌∷◌}
use Prim.Native.Nat.{ℕ, zero, suc, ◌+◌, ◌*◌, ◌/◌, ◌%◌, ◌^◌, ◌≤◌, ◌<◌}
use native.Mathlib.Nat.{pow-suc}
use native.Mathlib.Omega.{arith}
use Rattle.std.proofs.Common.{drop-drop, append_assoc, ◌∙◌}
use lib.ListN.{length, take, drop}
use lib.Seq.{sets-eq}
use Rattle.shape.specs.Memory.{Put}
use Rattle.shape.proofs.Laws.Memory.{put_then}
use Rattle.surface.specs.Text.{digit, digits_of}
use Rattle.surface.proofs.Laws.Text.{digits_more}

-- bytes that are written over others are put
pub put_over : {A : Type 0} (out bs : List A) (at k : ℕ) → k ≡ length bs → at + length bs ≤ length out → Put out (put_mid at k out bs) at bs (at + length bs)
put_over out bs at k e h = record { memory = rw (e, drop-drop) (sym (sets-eq bs out at h ∙ append_assoc (take at out) bs (drop (at + length bs) out))); ends = refl }

-- ---- decimal digits

pub digits_last : (m₀ m m' : List ℕ) (at q r n : ℕ) → 10 ≤ n → ((k : ℕ) → n / 10 < 10 ^ suc k → Put m₀ m at (digits_of k (n / 10)) q)
    → Put m m' q (digit (n % 10) ∷ []) r → (k : ℕ) → n < 10 ^ suc k → Put m₀ m' at (digits_of k n) r
digits_last m₀ m m' at q r n ten p s zero h = absurd (let e : 10 ^ suc zero ≡ 10 = refl in omega arith)
digits_last m₀ m m' at q r n ten p s (suc k) h =
    let e : 10 ^ suc (suc k) ≡ 10 ^ suc k * 10 = pow-suc 10 (suc k) in
    let b : n / 10 < 10 ^ suc k = omega arith in
    rw (digits_more k n ten) (put_then (p k b) s)
