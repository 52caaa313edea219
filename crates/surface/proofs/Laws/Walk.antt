-- Walking a template: what was filled in is walked to the end, what is walked to the end was filled in, and no other way goes farther. Assumes nothing.
use Rattle.std.specs.Prelude.{◌≡◌, ℕ, zero, suc, ◌+◌, ◌-◌, ◌<◌, ◌≤◌, Bool, true, false, cond, not, ◌&&◌, List, [], ◌∷◌, ◌++◌, eqb, length, take, drop, refl}
use Rattle.std.proofs.Common.{sym, ap, ◌∙◌, arith, append-nil, length-append, length-drop, take-append-drop, length-take-le, take-add, take_at, drop_at, eqb-true, eq-eqb, ne_eqb}
use borrow.Author.Tests.{eqb-false, not-true}
use Rattle.std.proofs.Math.Bool.{false≢true}
use Rattle.std.proofs.Math.Decide.{dec_le}
use Rattle.std.proofs.Math.Seq.{take-append-le, take-append-add, drop-append_seam}
use Rattle.surface.specs.Text.{decimal}
use Rattle.surface.specs.Sentence.{Part, byte, count, fill, Count, is_digit, read_from, read_count, Walk, stop, past_byte, past_count, walk, Small}
use Rattle.surface.proofs.Laws.Text.{digits_few, digits_some}
use Rattle.lookup.proofs.Laws.Parts.{both}
use Rattle.surface.proofs.Laws.Counts.{stops, same_reach, decimal_through, Off, read_off}

-- ---- templates

-- how many counts a template has
abbrev pub places : List Part → ℕ
places [] = 0
places (byte b ∷ t) = places t
places (count ∷ t) = suc (places t)

-- it does not begin with a digit
abbrev opens : List Part → Bool
opens [] = true
opens (byte b ∷ t) = not (is_digit b)
opens (count ∷ t) = false

-- no digit comes right after a count, so that one can see where the count ends
abbrev pub clear : List Part → Bool
clear [] = true
clear (byte b ∷ t) = clear t
clear (count ∷ t) = opens t && clear t

-- ---- what was filled in is walked to the end

-- the bytes after a count end it: those of the template, or others that begin as they do
ends_count : (t : List Part) (ns ys : List ℕ) (r u v : ℕ) → opens t ≡ true → 0 < r → r ≤ length ys → take r (fill t ns) ≡ take r ys
    → read_from ys u v ≡ record { used = u; value = v }
unfolding fill
ends_count t ns ys zero u v o p l e = absurd (omega arith)
ends_count t ns [] (suc r) u v o p l e = absurd (omega arith)
ends_count [] ns (y ∷ ys) (suc r) u v o p l e = absurd (omega (arith, ap length e))
ends_count (byte b ∷ t) ns (y ∷ ys) (suc r) u v o p l e =
    let same : b ≡ y = cc in
    stops u v y ys (rw same at (not-true (is_digit b) o))
ends_count (count ∷ t) ns (y ∷ ys) (suc r) u v o p l e = absurd (false≢true o)

pub ends_filled : (t : List Part) (ns : List ℕ) (u v : ℕ) → opens t ≡ true → read_from (fill t ns) u v ≡ record { used = u; value = v }
unfolding fill read_from
ends_filled [] ns u v o = refl
ends_filled (byte b ∷ t) ns u v o = stops u v b (fill t ns) (not-true (is_digit b) o)
ends_filled (count ∷ t) ns u v o = absurd (false≢true o)

-- a count that is ended by what comes after it
pub walk_count : (t : List Part) (n : ℕ) (rest : List ℕ) → n < 4294967296 → read_from rest (length (decimal n)) n ≡ record { used = length (decimal n); value = n }
    → walk (count ∷ t) (decimal n ++ rest) ≡ past_count (record { used = length (decimal n); value = n }) (walk t rest)
unfolding walk
walk_count t n rest l e =
    let c : read_count (decimal n ++ rest) ≡ record { used = length (decimal n); value = n } = decimal_through n rest l ∙ e in
    let some : eqb (length (decimal n)) 0 ≡ false = ne_eqb (length (decimal n)) 0 (λ z. omega (arith, digits_some 9 n)) in
    rw (c, some, drop-append_seam (decimal n) rest) refl

pub walk_filled : (t : List Part) (ns : List ℕ) → clear t ≡ true → Small ns → length ns ≡ places t
    → walk t (fill t ns) ≡ record { far = length (fill t ns); counts = ns; ends = true }
unfolding walk fill
walk_filled [] [] k s l = refl
walk_filled [] (n ∷ ns) k s l = absurd (omega arith)
walk_filled (byte b ∷ t) ns k s l = rw (eq-eqb b b refl, walk_filled t ns k s l) refl
walk_filled (count ∷ t) [] k s l = absurd (omega arith)
walk_filled (count ∷ t) (n ∷ ns) k s l =
    let o = both (opens t) (clear t) k in
    let m : length ns ≡ places t = omega arith in
    walk_count t n (fill t ns) (s.0) (ends_filled t ns (length (decimal n)) n (o.0))
    ∙ rw (walk_filled t ns (o.1) (s.1) m, length-append (decimal n) (fill t ns)) refl

-- ---- what is walked to the end was filled in

-- counts that fit the template
pub record Fits (t : List Part) (ns : List ℕ) : Type 0 where
  pub small : Small ns
  pub enough : length ns ≡ places t

pub record Written (t : List Part) (bs ns : List ℕ) : Type 0 where
  pub is : bs ≡ fill t ns
  pub fits : Fits t ns

pub walk_ends : (t : List Part) (bs : List ℕ) → (walk t bs).ends ≡ true → Written t bs ((walk t bs).counts)
unfolding walk fill
walk_ends [] [] e = record { is = refl; fits = record { small = tt; enough = refl } }
walk_ends [] (b ∷ bs) e = absurd (false≢true e)
walk_ends (byte c ∷ t) [] e = absurd (false≢true e)
walk_ends (byte c ∷ t) (b ∷ bs) e = go (eqb b c) (eqb-true b c) (walk_ends t bs) e
  where
    go : (x : Bool) → (x ≡ true → b ≡ c) → ((walk t bs).ends ≡ true → Written t bs ((walk t bs).counts))
        → (cond x (past_byte (walk t bs)) stop).ends ≡ true → Written (byte c ∷ t) (b ∷ bs) ((cond x (past_byte (walk t bs)) stop).counts)
    go true same before e =
        let w = before e in
        record { is = rw (same refl, ← (w.is)) refl; fits = record { small = w.fits.small; enough = w.fits.enough } }
    go false same before e = absurd (false≢true e)
walk_ends (count ∷ t) bs e =
    let c = read_count bs in
    go (eqb (c.used) 0) (eqb-false (c.used) 0) (walk_ends t (drop (c.used) bs)) e
  where
    go : (x : Bool) → (x ≡ false → (read_count bs).used ≡ 0 → ⊥)
        → ((walk t (drop ((read_count bs).used) bs)).ends ≡ true → Written t (drop ((read_count bs).used) bs) ((walk t (drop ((read_count bs).used) bs)).counts))
        → (cond x stop (past_count (read_count bs) (walk t (drop ((read_count bs).used) bs)))).ends ≡ true
        → Written (count ∷ t) bs ((cond x stop (past_count (read_count bs) (walk t (drop ((read_count bs).used) bs)))).counts)
    go true some before e = absurd (false≢true e)
    go false some before e =
        let p : 0 < (read_count bs).used = (let q = some refl in omega arith) in
        let o = read_off bs p in
        let w = before e in
        record {
          is = o.is ∙ ap (λ (xs : List ℕ). decimal ((read_count bs).value) ++ xs) (w.is);
          fits = record { small = (o.small, w.fits.small); enough = ap suc (w.fits.enough) };
        }

-- ---- no way goes farther

far_count : (t : List Part) (bs : List ℕ) → (read_count bs).used ≤ (walk (count ∷ t) bs).far
unfolding walk
far_count t bs = go (eqb ((read_count bs).used) 0) (eqb-true ((read_count bs).used) 0)
  where
    go : (x : Bool) → (x ≡ true → (read_count bs).used ≡ 0) → (read_count bs).used ≤ (cond x stop (past_count (read_count bs) (walk t (drop ((read_count bs).used) bs)))).far
    go true none = omega (arith, none refl)
    go false none = omega arith

-- bytes that begin with the whole of xs and go on as F
record Split (xs F bs : List ℕ) (r : ℕ) : Type 0 where
  is : bs ≡ xs ++ drop (length xs) bs
  rest : take r F ≡ take r (drop (length xs) bs)
  room : r ≤ length (drop (length xs) bs)

split : (xs F bs : List ℕ) (q : ℕ) → length xs ≤ q → q ≤ length bs → take q (xs ++ F) ≡ take q bs → Split xs F bs (q - length xs)
split xs F bs q h l e =
    let n = length xs in
    let d : n + (q - n) ≡ q = omega arith in
    let m : n ≤ length bs = omega arith in
    let all : xs ++ take (q - n) F ≡ take n bs ++ take (q - n) (drop n bs) = sym (take-append-add xs F (q - n)) ∙ rw (d, e) (rw d at (take-add n (q - n) bs)) in
    let k : length (take n bs) ≡ n = length-take-le n bs m in
    let front : xs ≡ take n bs = sym (take_at xs (take (q - n) F) n refl) ∙ ap (take n) all ∙ take_at (take n bs) (take (q - n) (drop n bs)) n k in
    let back : take (q - n) F ≡ take (q - n) (drop n bs) = sym (drop_at xs (take (q - n) F) n refl) ∙ ap (drop n) all ∙ drop_at (take n bs) (take (q - n) (drop n bs)) n k in
    record {
      is = sym (take-append-drop n bs) ∙ ap (λ (ys : List ℕ). ys ++ drop n bs) (sym front);
      rest = back;
      room = omega (arith, length-drop n bs);
    }

-- bytes that begin as a filled template does for q bytes go q bytes along it
pub reach : (t : List Part) (ns bs : List ℕ) (q : ℕ) → clear t ≡ true → Small ns → length ns ≡ places t → q ≤ length bs → take q (fill t ns) ≡ take q bs
    → q ≤ (walk t bs).far
unfolding walk fill
reach [] ns bs zero k s l h e = omega arith
reach [] ns [] (suc q) k s l h e = absurd (omega arith)
reach [] ns (b ∷ bs) (suc q) k s l h e = absurd (omega (arith, ap length e))
reach (byte c ∷ t) ns bs zero k s l h e = omega arith
reach (byte c ∷ t) ns [] (suc q) k s l h e = absurd (omega arith)
reach (byte c ∷ t) ns (b ∷ bs) (suc q) k s l h e =
    let same : c ≡ b = cc in
    let rest : take q (fill t ns) ≡ take q bs = cc in
    let m : q ≤ length bs = omega arith in
    rw (eq-eqb b c (sym same)) (omega (arith, reach t ns bs q k s l m rest))
reach (count ∷ t) [] bs q k s l h e = absurd (omega arith)
reach (count ∷ t) (n ∷ ns) bs q k s l h e =
    let o = both (opens t) (clear t) k in
    let m : length ns ≡ places t = omega arith in
    elim (dec_le q (length (decimal n))) [
      | yes p ↦ within p
      | no p ↦ beyond (o.0) (omega arith) (λ ys r room rest. reach t ns ys r (o.1) (s.1) m room rest)
    ]
  where
    -- the bytes do not go past the count
    within : q ≤ length (decimal n) → q ≤ (walk (count ∷ t) bs).far
    within p =
        let all : read_count (decimal n) ≡ record { used = length (decimal n); value = n } = ap read_count (sym (append-nil (decimal n))) ∙ decimal_through n [] (s.0) ∙ refl in
        let u : 0 + q ≤ (read_count (decimal n)).used = rw all (omega arith) in
        let g : 0 + q ≤ (read_count bs).used = same_reach q (decimal n) bs 0 0 (sym (take-append-le q (decimal n) (fill t ns) p) ∙ e) h u in
        omega (arith, far_count t bs, g)

    beyond : opens t ≡ true → length (decimal n) < q → ((ys : List ℕ) (r : ℕ) → r ≤ length ys → take r (fill t ns) ≡ take r ys → r ≤ (walk t ys).far)
        → q ≤ (walk (count ∷ t) bs).far
    beyond o p before =
        let c = length (decimal n) in
        let le : c ≤ q = omega arith in
        let w = split (decimal n) (fill t ns) bs q le h e in
        let pos : 0 < q - c = omega arith in
        let ended = ends_count t ns (drop c bs) (q - c) c n o pos (w.room) (w.rest) in
        let f : (walk (count ∷ t) bs).far ≡ c + (walk t (drop c bs)).far = ap (λ (ys : List ℕ). (walk (count ∷ t) ys).far) (w.is) ∙ ap (λ (x : Walk). x.far) (walk_count t n (drop c bs) (s.0) ended) in
        omega (arith, before (drop c bs) (q - c) (w.room) (w.rest), f)

-- ---- and a filled template begins so

pub record Begun (t : List Part) (bs : List ℕ) (f : ℕ) : Type 0 where
  pub counts : List ℕ
  pub fits : Fits t counts
  pub same : take f (fill t counts) ≡ take f bs
  pub filled : f ≤ length (fill t counts)
  pub there : f ≤ length bs

-- any counts serve where nothing was walked
zeros : (t : List Part) → (ns : List ℕ) × Fits t ns
zeros [] = ([], record { small = tt; enough = refl })
zeros (byte b ∷ t) = (let z = zeros t in (z.0, record { small = z.1.small; enough = z.1.enough }))
zeros (count ∷ t) = (let z = zeros t in (0 ∷ z.0, record { small = (omega arith, z.1.small); enough = ap suc (z.1.enough) }))

begun_none : (t : List Part) (bs : List ℕ) → Begun t bs 0
begun_none t bs = (let z = zeros t in record { counts = z.0; fits = z.1; same = refl; filled = omega arith; there = omega arith })

begun_count : (t : List Part) (bs : List ℕ) (c : Count) (f : ℕ) → Off bs c → Begun t (drop (c.used) bs) f → Begun (count ∷ t) bs (c.used + f)
unfolding fill
begun_count t bs c f o w =
    let n = c.value in
    let F = fill t (w.counts) in
    let rest = drop (c.used) bs in
    let long : length bs ≡ length (decimal n) + length rest = ap length (o.is) ∙ length-append (decimal n) rest in
    record {
      counts = n ∷ w.counts;
      fits = record { small = (o.small, w.fits.small); enough = ap suc (w.fits.enough) };
      same =
          ap (λ (k : ℕ). take (k + f) (decimal n ++ F)) (o.long)
          ∙ take-append-add (decimal n) F f
          ∙ ap (λ (ys : List ℕ). decimal n ++ ys) (w.same)
          ∙ sym (take-append-add (decimal n) rest f)
          ∙ ap (λ (k : ℕ). take (k + f) (decimal n ++ rest)) (sym (o.long))
          ∙ ap (take (c.used + f)) (sym (o.is));
      filled = omega (arith, length-append (decimal n) F, o.long, w.filled);
      there = omega (arith, long, o.long, w.there);
    }

pub begun : (t : List Part) (bs : List ℕ) → Begun t bs ((walk t bs).far)
unfolding walk fill
begun [] [] = begun_none [] []
begun [] (b ∷ bs) = begun_none [] (b ∷ bs)
begun (byte c ∷ t) [] = begun_none (byte c ∷ t) []
begun (byte c ∷ t) (b ∷ bs) = go (eqb b c) (eqb-true b c) (begun t bs)
  where
    go : (x : Bool) → (x ≡ true → b ≡ c) → Begun t bs ((walk t bs).far) → Begun (byte c ∷ t) (b ∷ bs) ((cond x (past_byte (walk t bs)) stop).far)
    go true same w =
        record {
          counts = w.counts;
          fits = record { small = w.fits.small; enough = w.fits.enough };
          same = rw (same refl, w.same) refl;
          filled = omega (arith, w.filled);
          there = omega (arith, w.there);
        }
    go false same w = begun_none (byte c ∷ t) (b ∷ bs)
begun (count ∷ t) bs = go (eqb ((read_count bs).used) 0) (eqb-false ((read_count bs).used) 0) (begun t (drop ((read_count bs).used) bs))
  where
    go : (x : Bool) → (x ≡ false → (read_count bs).used ≡ 0 → ⊥) → Begun t (drop ((read_count bs).used) bs) ((walk t (drop ((read_count bs).used) bs)).far)
        → Begun (count ∷ t) bs ((cond x stop (past_count (read_count bs) (walk t (drop ((read_count bs).used) bs)))).far)
    go true some w = begun_none (count ∷ t) bs
    go false some w =
        let p : 0 < (read_count bs).used = (let q = some refl in omega arith) in
        begun_count t bs (read_count bs) _ (read_off bs p) w

-- ---- how long a filled template can be

abbrev pub room : List Part → ℕ
room [] = 0
room (byte b ∷ t) = suc (room t)
room (count ∷ t) = 10 + room t

pub fill_few : (t : List Part) (ns : List ℕ) → length (fill t ns) ≤ room t
unfolding fill
fill_few [] ns = omega arith
fill_few (byte b ∷ t) ns = omega (arith, fill_few t ns)
fill_few (count ∷ t) [] = omega (arith, fill_few t [])
fill_few (count ∷ t) (n ∷ ns) = omega (arith, fill_few t ns, digits_few 9 n, length-append (decimal n) (fill t ns))
