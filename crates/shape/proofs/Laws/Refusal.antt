-- The first of several faults: a chain of tests before another fault, and what it means that there is none. Assumes nothing.
use Rattle.std.specs.Prelude.{◌≡◌, ℕ, Bool, true, false, ◌||◌, ◌≢◌, refl, Result, Ok, Err}
use Rattle.std.proofs.Common.{sym, ap, ◌∙◌, arith}
use Rattle.shape.specs.declared.refusal.Refusal.{Refusal}
use Rattle.shape.specs.Refusal.{Fault, fine, fault, found, refuse, or_else}

pub never : {n p : ℕ} → fault n p ≢ fine
never e = let z : ◌≡◌ {A = ℕ} 0 1 = cc in omega arith

pub else_refuse : (b : Bool) (n p : ℕ) (f g : Fault) → or_else (refuse b n p f) g ≡ refuse b n p (or_else f g)
unfolding or_else refuse
else_refuse true n p f g = refl
else_refuse false n p f g = refl

pub else_assoc : (f g h : Fault) → or_else (or_else f g) h ≡ or_else f (or_else g h)
unfolding or_else
else_assoc fine g h = refl
else_assoc (fault n p) g h = refl

-- two tests for one fault
pub refuse_either : (a b : Bool) (n p : ℕ) (f : Fault) → refuse a n p (refuse b n p f) ≡ refuse (a || b) n p f
unfolding refuse
refuse_either true b n p f = refl
refuse_either false b n p f = refl

-- where nothing is at fault, no part is
pub passed : (b : Bool) (n p : ℕ) (f : Fault) → refuse b n p f ≡ fine → (b ≡ false) × (f ≡ fine)
unfolding refuse
passed true n p f e = absurd (never e)
passed false n p f e = (refl, e)

pub else_passed : (f g : Fault) → or_else f g ≡ fine → (f ≡ fine) × (g ≡ fine)
unfolding or_else
else_passed fine g e = (refl, e)
else_passed (fault n p) g e = absurd (never e)

-- what a check has told: nothing, or the first of two faults
pub none_told : {k : Result Unit Refusal} {f : Fault} → found k ≡ f → k ≡ Ok tt → f ≡ fine
unfolding found
none_told e h = sym e ∙ ap found h

module _ {k : Result Unit Refusal} {f : Fault} (g : Fault) (e : found k ≡ f) where
  pub else_faulty : {r : Refusal} → k ≡ Err r → found (Err r) ≡ or_else f g
  unfolding found or_else
  else_faulty h = rw (← e, h)

  pub else_fine : {a : Fault} → k ≡ Ok tt → a ≡ g → a ≡ or_else f g
  unfolding found or_else
  else_fine h t = rw (← e, h) t

-- ---- a chain of tests, each passed on by `?`

-- a test that turns the call back, whatever comes after it
pub stops : (b : Bool) (n p : ℕ) (r : Refusal) (after : Fault) → found (Err r) ≡ refuse b n p fine → found (Err r) ≡ refuse b n p after
unfolding found refuse
stops true n p r after e = e
stops false n p r after e = absurd (never e)

-- a test that lets it pass: what comes after it tells
pub goes_on : (b : Bool) (n p : ℕ) {f after : Fault} → found (Ok tt) ≡ refuse b n p fine → f ≡ after → f ≡ refuse b n p after
unfolding found refuse
goes_on true n p e h = absurd (never (sym e))
goes_on false n p e h = h

-- a check that turns the call back, and one that lets it pass, before another
pub stops_first : (r : Refusal) {f : Fault} (g : Fault) → found (Err r) ≡ f → found (Err r) ≡ or_else f g
unfolding found or_else
stops_first r g e = rw (← e)

pub goes_then : {f g a : Fault} → found (Ok tt) ≡ f → a ≡ g → a ≡ or_else f g
unfolding found or_else
goes_then e h = rw (← e) h
