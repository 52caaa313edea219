-- Laws behind the judging of records: how many there are, and the kind that is kept from one to the next. Assumes nothing.
use Rattle.std.specs.Prelude.{◌≡◌, Bool, not, ◌&&◌, ◌||◌, List, Option, Some, None, ltb, length, get_or}
use Rattle.std.specs.Bool.{then_some}
use Rattle.std.proofs.Math.Path.{refl, sym}
use Rattle.std.proofs.Common.{ap, ◌∙◌}
use Rattle.std.proofs.Math.Bool.{true, false, cond}
use Prim.Native.Nat.{ℕ, zero, suc, ◌+◌, ◌*◌, ◌/◌, ◌≤◌, ◌<◌}
use Rattle.std.proofs.Math.Numerals.{add-one}
use Rattle.std.proofs.Math.Decide.{dec_lt}
use native.Mathlib.Omega.{arith}
use borrow.Author.Tests.{lt-ltb, eq-eqb, ne_eqb, eqb-true}
use Rattle.std.proofs.Math.Dec.{eqb}
use Rattle.shape.specs.Gather.{any, least}
use Rattle.shape.proofs.Laws.Gather.{or_left, or_right, any_next, any_none, least_found, least_past}
use Rattle.surface.specs.File.{Form, File, Held}
use Rattle.surface.specs.File.{kind_of, by_kind, in_file_alone, spares, spare, spare_used, bad_lane, bad_record, kind_before, bad_at, parts, held_record, file_record, held_of, file_of, held_at, file_at}
use Rattle.surface.specs.declared.file.Kind.{Kind}
use Rattle.surface.specs.declared.file.Kind.TheVariants.{Vertex, Triangle, Question}
use Rattle.surface.specs.Kind.{number, kind_from, number_before}
use Rattle.surface.specs.FileSteps.{sound_kind, count_in, whole_in, record_in, first_of}
use Rattle.surface.proofs.Laws.Lane.{length_held, length_filed}
use Rattle.surface.proofs.Laws.File.{held_record_length, file_record_length, held_record_eight, file_record_eight}

-- ---- how many there are

pub positive : (r : ℕ) → (r ≡ 0 → ⊥) → 0 < r
positive zero e = absurd (e refl)
positive (suc r) e = omega arith

-- ---- spare words, by the first of them

same_bool : (a b : Bool) → cond a (not b) b ≡ false → a ≡ b
same_bool true true e = refl
same_bool true false e = e
same_bool false true e = sym e
same_bool false false e = refl

-- a table of eight that agrees with a rule at each of them
by_table : (row : List Bool) (rule : ℕ → Bool) → any (λ j. cond (get_or row j false) (not (rule j)) (rule j)) 8 ≡ false → (j : ℕ) → j < 8
    → rule j ≡ get_or row j false
by_table row rule e j h = sym (same_bool (get_or row j false) (rule j) (any_none (λ j. cond (get_or row j false) (not (rule j)) (rule j)) j 8 h e))

module _ (kind j : ℕ) (h : j < 8) where
  pub spare_vertex : kind ≡ 1 → eqb j 7 ≡ spare File kind j
  unfolding spare spares by_kind any
  spare_vertex e = rw e (by_table (spares File 1) (λ j. eqb j 7) refl j h)

  pub spare_triangle : kind ≡ 2 → ltb 4 j ≡ spare File kind j
  unfolding spare spares in_file_alone by_kind any
  spare_triangle e = rw e (by_table (spares File 2) (ltb 4) refl j h)

  pub spare_question : (kind ≡ 1 → ⊥) → (kind ≡ 2 → ⊥) → ltb 2 j ≡ spare File kind j
  unfolding spare spares by_kind any
  spare_question n₁ n₂ = rw (ne_eqb kind 1 n₁, ne_eqb kind 2 n₂) (by_table (spares File 3) (ltb 2) refl j h)

  -- and held
  pub spare_held : kind ≡ 2 → (ltb 4 j && not (eqb j 7)) ≡ spare Held kind j
  unfolding spare spares in_file_alone by_kind any
  spare_held e = rw e (by_table (spares Held 2) (λ j. ltb 4 j && not (eqb j 7)) refl j h)

  pub spare_same : (kind ≡ 2 → ⊥) → spare File kind j ≡ spare Held kind j
  unfolding spare spares by_kind
  spare_same n = rw (ne_eqb kind 2 n)

-- ---- the kind of a sound record, and 0 of a bad one

or_some : (a b : Bool) → a ≡ true → (a || b) ≡ true
or_some a b e = rw e

or_more : (a b : Bool) → b ≡ true → (a || b) ≡ true
or_more true b e = refl
or_more false b e = e

module _ (form : Form) (r : List ℕ) (last : ℕ) where
  -- the tests of a record, one after another
  abbrev part : Bool
  part = ltb (length r) 8

  abbrev none : Bool
  none = eqb (kind_of r) 0

  abbrev high : Bool
  high = ltb 3 (kind_of r)

  abbrev falls : Bool
  falls = ltb (kind_of r) last

  abbrev filled : Bool
  filled = any (spare_used form r) 8 || bad_lane form r

  zero_if_bad : bad_record form r last ≡ true → 0 ≡ sound_kind form r last
  unfolding sound_kind
  zero_if_bad e = rw e

  bad_kind : (none || (high || (falls || filled))) ≡ true → bad_record form r last ≡ true
  unfolding bad_record
  bad_kind e = or_more part (none || (high || (falls || filled))) e

  bad_known : (high || (falls || filled)) ≡ true → 0 ≡ sound_kind form r last
  bad_known e = zero_if_bad (bad_kind (or_more none (high || (falls || filled)) e))

  pub kind_unknown : 3 < kind_of r → 0 ≡ sound_kind form r last
  kind_unknown h = bad_known (or_some high (falls || filled) (lt-ltb 3 (kind_of r) h))

  -- of a sound record no spare word is used
  pub no_spare_used : bad_record form r last ≡ false → any (spare_used form r) 8 ≡ false
  unfolding bad_record
  no_spare_used e =
      let known = or_right none (high || (falls || filled)) (or_right part (none || (high || (falls || filled))) e) in
      or_left (any (spare_used form r) 8) (bad_lane form r) (or_right falls filled (or_right high (falls || filled) known))

  pub kind_bad : sound_kind form r last ≡ 0 → bad_record form r last ≡ true
  unfolding sound_kind bad_record
  kind_bad e = go (bad_record form r last) refl e
    where
      go : (b : Bool) → bad_record form r last ≡ b → cond b 0 (kind_of r) ≡ 0 → bad_record form r last ≡ true
      go true p e = p
      go false p e = bad_kind (or_some none (high || (falls || filled)) (eq-eqb (kind_of r) 0 e))

  pub kind_sound : (sound_kind form r last ≡ 0 → ⊥) → (bad_record form r last ≡ false) × (sound_kind form r last ≡ kind_of r)
  unfolding sound_kind
  kind_sound n = go (bad_record form r last) refl n
    where
      go : (b : Bool) → bad_record form r last ≡ b → (cond b 0 (kind_of r) ≡ 0 → ⊥) → (bad_record form r last ≡ false) × (cond (bad_record form r last) 0 (kind_of r) ≡ kind_of r)
      go true p n = absurd (n refl)
      go false p n = (p, rw p)

-- ---- one record after another

-- no record before k is bad, and `last` is the kind of the one before
pub record Passed (form : Form) (at : ℕ → List ℕ) (last k : ℕ) : Type 0 where
  pub none : any (bad_at form at) k ≡ false
  pub before : last ≡ kind_before at k

module _ (form : Form) (at : ℕ → List ℕ) where
  pub passed_none : Passed form at 0 0
  unfolding any kind_before
  passed_none = record { none = refl; before = refl }

  module _ (last k kind : ℕ) (p : Passed form at last k) (e : kind ≡ sound_kind form (at k) last) where
    pub passed_next : (kind ≡ 0 → ⊥) → Passed form at kind (k + 1)
    unfolding bad_at kind_before
    passed_next n =
        let s = kind_sound form (at k) last (λ z. n (e ∙ z)) in
        record {
          none = rw (any_next (bad_at form at) k, p.none, ← p.before) s.0;
          before = rw add-one (e ∙ s.1);
        }

    pub passed_bad : (n : ℕ) → k < n → kind ≡ 0 → k ≡ least (bad_at form at) n
    unfolding bad_at
    passed_bad n h z = least_found (bad_at form at) n k p.none h (rw (← p.before) (kind_bad form (at k) last (sym e ∙ z)))

  pub passed_all : (last n : ℕ) → Passed form at last n → n ≡ least (bad_at form at) n
  passed_all last n p = least_past (bad_at form at) n p.none

-- ---- the kind as an option, as the code has it

some_kind : (kind : Kind) → number kind ≡ 0 → ⊥
unfolding number
some_kind Vertex e = omega arith
some_kind Triangle e = omega arith
some_kind Question e = omega arith

pub kind_number : (n : ℕ) {kind : Kind} → kind_from n ≡ Some kind → number kind ≡ n
unfolding kind_from number
kind_number n {kind} e = go (eqb n 1) refl (eqb n 2) refl (eqb n 3) refl e
  where
    go : (a : Bool) → eqb n 1 ≡ a → (b : Bool) → eqb n 2 ≡ b → (c : Bool) → eqb n 3 ≡ c → cond a (Some Vertex) (cond b (Some Triangle) (cond c (Some Question) None)) ≡ Some kind → number kind ≡ n
    go true p b q c r e = let k : kind ≡ Vertex = cc in rw k (sym (eqb-true n 1 p))
    go false p true q c r e = let k : kind ≡ Triangle = cc in rw k (sym (eqb-true n 2 q))
    go false p false q true r e = let k : kind ≡ Question = cc in rw k (sym (eqb-true n 3 r))
    go false p false q false r e = absurd (let z : ◌≡◌ {A = ℕ} 0 1 = cc in omega arith)

no_kind : (n : ℕ) → n ≤ 3 → kind_from n ≡ None → n ≡ 0
unfolding kind_from
no_kind zero h e = refl
no_kind (suc zero) h e = absurd (let z : ◌≡◌ {A = ℕ} 0 1 = cc in omega arith)
no_kind (suc (suc zero)) h e = absurd (let z : ◌≡◌ {A = ℕ} 0 1 = cc in omega arith)
no_kind (suc (suc (suc zero))) h e = absurd (let z : ◌≡◌ {A = ℕ} 0 1 = cc in omega arith)
no_kind (suc (suc (suc (suc n)))) h e = absurd (omega arith)

module _ (form : Form) (r : List ℕ) (last : ℕ) where
  -- a bad record has none, and else it has its own
  pub kind_none : kind_from (sound_kind form r last) ≡ None → sound_kind form r last ≡ 0
  unfolding sound_kind
  kind_none e = elim (dec_lt 3 (kind_of r)) [ yes p ↦ sym (kind_unknown form r last p) | no p ↦ go (bad_record form r last) (omega arith) e ]
    where
      go : (b : Bool) → kind_of r ≤ 3 → kind_from (cond b 0 (kind_of r)) ≡ None → cond b 0 (kind_of r) ≡ 0
      go true h e = refl
      go false h e = no_kind (kind_of r) h e

module _ (form : Form) (at : ℕ → List ℕ) (last : Option Kind) (k : ℕ) (p : Passed form at (number_before last) k) where
  pub passed_sound : {kind : Kind} → kind_from (sound_kind form (at k) (number_before last)) ≡ Some kind → Passed form at (number_before (Some kind)) (k + 1)
  unfolding number_before
  passed_sound {kind} e = let n = kind_number (sound_kind form (at k) (number_before last)) e in passed_next form at (number_before last) k (number kind) p n (some_kind kind)

  pub passed_unsound : (n : ℕ) → k < n → kind_from (sound_kind form (at k) (number_before last)) ≡ None → k ≡ least (bad_at form at) n
  passed_unsound n h e = passed_bad form at (number_before last) k (sound_kind form (at k) (number_before last)) p refl n h (kind_none form (at k) (number_before last) e)

-- ---- a record of held words, and of a file: what the codec makes of a whole one has eight words

pub held_eight : (bs : List ℕ) (k : ℕ) {r h : List ℕ} → 32 * k + 32 ≤ length bs → r ≡ file_record bs k → h ≡ held_of (kind_of r) r → (h ≡ held_at bs k) × (length h ≡ 8)
unfolding held_at
held_eight bs k {r} {h} l e f = (rw e at f, ap length f ∙ length_held (kind_of r) r ∙ ap length e ∙ file_record_eight bs k l)

pub file_eight : (ws : List ℕ) (k : ℕ) {r f : List ℕ} → 8 * k + 8 ≤ length ws → r ≡ held_record ws k → f ≡ file_of (kind_of r) r → (f ≡ file_at ws k) × (length f ≡ 8)
unfolding file_at
file_eight ws k {r} {f} l e g = (rw e at g, ap length g ∙ length_filed (kind_of r) r ∙ ap length e ∙ held_record_eight ws k l)

-- a number that the test holds of is the least of one more, where none before it is
least_next : (f : ℕ → Bool) (n : ℕ) → f n ≡ true → least f n ≡ least f (suc n)
unfolding least
least_next f zero e = rw e
least_next f (suc n) e = ap (λ (k : ℕ). cond (f 0) 0 (suc k)) (least_next (λ k. f (suc k)) n e)

-- the record after the whole ones is a part one, and so a bad one
part_bad : (form : Form) (bs ws : List ℕ) → length (record_in form bs ws (whole_in form bs ws)) < 8
unfolding record_in whole_in
part_bad File bs ws = rw (file_record_length bs (length bs / 32)) (omega arith)
part_bad Held bs ws = rw (held_record_length ws (length ws / 8)) (omega arith)

whole_or_part : (form : Form) (bs ws : List ℕ) → (whole_in form bs ws ≤ count_in form bs ws) × (count_in form bs ws ≤ whole_in form bs ws + 1)
unfolding whole_in count_in parts
whole_or_part File bs ws = (omega arith, omega arith)
whole_or_part Held bs ws = (omega arith, omega arith)

-- so the first bad one of the whole records, or their number, is the first bad one of all
module _ (form : Form) (bs ws : List ℕ) where
  abbrev bad : ℕ → Bool
  bad = bad_at form (record_in form bs ws)

  pub first_of_all : (k : ℕ) → k ≡ least bad (whole_in form bs ws) → k ≡ least bad (count_in form bs ws)
  unfolding bad_at bad_record
  first_of_all k e =
      elim (dec_lt (whole_in form bs ws) (count_in form bs ws)) [
        | yes p ↦ (let c : count_in form bs ws ≡ suc (whole_in form bs ws) = omega (arith, whole_or_part form bs ws) in rw c (e ∙ least_next bad (whole_in form bs ws) (rw (lt-ltb _ 8 (part_bad form bs ws)))))
        | no p ↦ (let c : count_in form bs ws ≡ whole_in form bs ws = omega (arith, whole_or_part form bs ws) in rw c e)
      ]

  -- the first bad one as an option: it is one of the whole ones, or that after them
  module _ (last : Option Kind) (k : ℕ) (p : Passed form (record_in form bs ws) (number_before last) k) where
    pub first_is : k < whole_in form bs ws → kind_from (sound_kind form (record_in form bs ws k) (number_before last)) ≡ None → Some k ≡ first_of bad (count_in form bs ws)
    unfolding first_of
    first_is h z =
        let e = first_of_all k (passed_unsound form (record_in form bs ws) last k p (whole_in form bs ws) h z) in
        let l : k < count_in form bs ws = omega (arith, whole_or_part form bs ws) in
        rw (← e, lt-ltb k (count_in form bs ws) l)

    pub none_is : k ≡ whole_in form bs ws → then_some (ltb k (count_in form bs ws)) k ≡ first_of bad (count_in form bs ws)
    unfolding first_of
    none_is e =
        let q : Passed form (record_in form bs ws) (number_before last) (whole_in form bs ws) = rw e at p in
        let f = first_of_all (whole_in form bs ws) (passed_all form (record_in form bs ws) (number_before last) (whole_in form bs ws) q) in
        rw (e, ← f)
