-- What the first words of an index, looked at once, say of its cells and of every point. Assumes nothing.
use Rattle.std.proofs.Common.{◌≡◌, ℕ, ◌*◌, ◌≤◌, List, subst, mul-le-mul, arith, Option, Some, None, Result, Ok, Err}
use lib.Ieee.{Float}
use Rattle.shape.specs.Refusal.{fine, fault, taken, refused, number_of, place_of}
use Rattle.shape.specs.declared.refusal.Refusal.{Refusal}
use Rattle.lookup.specs.declared.consult.Index.{Index}
use Rattle.lookup.specs.Consult.{word_at, head_fault, nowhere, consult_of}
use Rattle.lookup.specs.Steps.{Framed, Sided, Ready, frame_at}
use Rattle.lookup.specs.Opened.{Opens}
use Rattle.lookup.proofs.Laws.Heads.{consult_refused}

-- the sides are few, and so are the cells
pub few : (a b : ℕ) → a ≤ 1024 → b ≤ 1024 → a * b ≤ 1048576
few a b h k = mul-le-mul h k

pub sided_some : (ws : List ℕ) → Sided ws → word_at ws 1 ≡ 0 → ⊥
sided_some ws s z = omega (arith, z, s.some_cols)

-- words 1 and 2 are the sides of the frame
pub framed_at : (ws : List ℕ) → Sided ws → Framed (frame_at ws)
unfolding frame_at
framed_at ws s = record { some_cols = s.some_cols; few_cols = s.few_cols; some_rows = s.some_rows; few_rows = s.few_rows }

-- ---- what `open` tells

module _ (ws : List ℕ) (count : ℕ) {d : Result (Option Index) Refusal} (s : Opens ws count d) where
  pub open_is : {i : Index} → d ≡ Ok (Some i) → (i.words.now ≡ ws) × (i.count ≡ count) × Ready ws count i.grid.frame i.entries
  unfolding Opens
  open_is e = subst (Opens ws count) e s

  pub empty_is : d ≡ (Ok None) → (head_fault ws count ≡ fine) × ((x y : Float) → taken nowhere ≡ consult_of ws count x y)
  unfolding Opens
  empty_is e = subst (Opens ws count) e s

  pub opened_fine : {o : Option Index} → d ≡ Ok o → head_fault ws count ≡ fine
  opened_fine {o = Some i} e = (open_is e).2.sound
  opened_fine {o = None} e = (empty_is e).0

  pub head_is : {r : Refusal} → d ≡ Err r → head_fault ws count ≡ fault (number_of r) (place_of r)
  unfolding Opens
  head_is e = subst (Opens ws count) e s

  pub foreign_is : {r : Refusal} → d ≡ Err r → (x y : Float) → refused (number_of r) (place_of r) ≡ consult_of ws count x y
  foreign_is e x y = consult_refused ws count x y _ _ (head_is e)
