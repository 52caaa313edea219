-- What the file's check, building and the lookups answered picks the text, and what they left is what the next step wants. Assumes nothing.
use Rattle.std.specs.Prelude.{Result, Ok, Err}
use mathlib.Core.Path.{◌≡◌, refl, sym, ap, ◌∙◌, subst}
use mathlib.Core.Bool.{Bool, true, false}
use mathlib.Core.List.{List, ◌++◌}
use Prim.Native.Nat.{ℕ, ◌*◌, ◌≤◌, ◌<◌, ◌^◌}
use native.Mathlib.Nat.{zero-add}
use native.Mathlib.Omega.{arith}
use borrow.Author.Tests.{ltb-false, lt-ltb, le-ltb}
use lib.Dec.{ltb}
use lib.Ieee.{Float}
use lib.ListN.{length, take, drop, replicate, length-take, length-replicate}
use lib.Seq.{take-append_seam}
use Rattle.shape.specs.declared.refusal.Refusal.{Refusal}
use Rattle.shape.specs.Gather.{least}
use Rattle.shape.specs.Lists.{Mesh}
use Rattle.shape.specs.Memory.{Put}
use Rattle.shape.specs.Refusal.{fine, fault, refuse, Answer, taken, refused, judge, leaves, number_of, place_of, found, told}
use Rattle.shape.proofs.Laws.Gather.{least_le}
use Rattle.shape.proofs.Laws.Memory.{put_front}
use Rattle.lookup.specs.Index.{build_of, index_room, answer_to, index_words}
use Rattle.lookup.specs.Batch.{record_words, records_of, tops_of}
use Rattle.surface.specs.File.{File}
use Rattle.surface.specs.File.{words_of, bad_at, file_record, parts, refuse_first, surface_fault, file_fault, copy_of}
use Rattle.surface.specs.Held.{count_kind, points_of}
use Rattle.surface.specs.Text.{refused_line}
use Rattle.surface.specs.Report.{mesh_in, index_in, lines_of, or_refused, report_of, report_answer}
use Rattle.surface.specs.ReportSteps.{Says, records_in, surface_text}
use Rattle.surface.proofs.Laws.Report.{kind_most, build_fine, size_refused, built_size, all_taken, records_are, report_taken}
use Rattle.shape.proofs.Laws.Refusal.{none_told}
use Rattle.surface.proofs.Copies.{leaves_put}
use Rattle.surface.proofs.Telling.{records_length}

-- ---- the front of lent memory

front : (a : Answer ℕ) (c n : ℕ) (xs before after : List ℕ) → a ≡ taken c → n ≡ length xs → after ≡ leaves a xs before → take n after ≡ xs
unfolding leaves
front a c n xs before after e f g = rw (g, e, f) (take-append_seam xs (drop (length xs) before))

pub front_length : {A : Type 0} (n : ℕ) (xs after : List A) → take n after ≡ xs → n ≡ length xs → n ≡ length (take n after)
front_length n xs after e f = f ∙ ap length (sym e)

front_fits : {A : Type 0} (n : ℕ) (after : List A) → n ≡ length (take n after) → n ≤ length after
front_fits n after e = omega (arith, length-take n after)

module _ {A : Type 0} {before after xs : List A} {n : ℕ} (p : Put before after 0 xs n) (h : n ≤ length before) where
  pub put_part : n ≡ length (take n after)
  put_part = front_length n xs after (put_front p h) (p.ends ∙ zero-add (length xs))

-- ---- building

-- the memory that the index, and then the records are put into
abbrev pub lent : List ℕ
lent = replicate 16384 0

lent_length : length lent ≡ 16384
lent_length = length-replicate {A = ℕ} 16384 0

-- what a build that was taken leaves: the front of the memory is the index
pub record Built (ws : List ℕ) (n : ℕ) (after : List ℕ) : Type 0 where
  pub part : n ≡ length (take n after)
  pub fits : n ≤ length after
  pub is : take n after ≡ index_in ws
  pub taken_so : build_of (mesh_in ws) 16384 ≡ taken (length (take n after))

module _
    (ws : List ℕ)
    (few : length ws ≤ 16384)
    {m : Mesh}
    (is : m ≡ mesh_in ws)
    (b : Result ℕ Refusal)
    (g : told b ≡ build_of m (length lent))
  where
    answer : told b ≡ build_of (mesh_in ws) 16384
    answer = rw (← lent_length, ← is) g

    pub built_refused : {r : Refusal} → b ≡ Err r → refused_line (number_of r) (place_of r) ≡ surface_text ws
    unfolding surface_text or_refused told
    built_refused z = rw (← answer, z)

    pub built_words : {n : ℕ} → b ≡ Ok n → lines_of ws ≡ surface_text ws
    unfolding surface_text or_refused told
    built_words z = rw (← answer, z)

    pub place_small : {r : Refusal} → b ≡ Err r → place_of r < 2 ^ 32
    unfolding answer_to index_room told
    place_small {r} z =
        let k = length (index_in ws) in
        let q = (rw z at answer) ∙ build_fine ws few in
        let h = size_refused k (ltb 4194304 k) (ltb 16384 k) (number_of r) (place_of r) (ltb-false 4194304 k) q in
        omega (arith, h)

    pub built : {n : ℕ} {after : List ℕ} → b ≡ Ok n → after ≡ leaves (build_of m (length lent)) (index_words m.vertices m.indices) lent → Built ws n after
    unfolding told index_in mesh_in
    built {n} {after} z l =
        let t : build_of m (length lent) ≡ taken n = sym g ∙ rw z in
        let k : n ≡ length (index_in ws) = built_size ws few (sym answer ∙ rw z) in
        let i : index_words m.vertices m.indices ≡ index_in ws = rw is in
        let f : take n after ≡ index_in ws = front (build_of m (length lent)) n n (index_words m.vertices m.indices) lent after t (k ∙ ap length (sym i)) l ∙ i in
        let p : n ≡ length (take n after) = front_length n (index_in ws) after f k in
        record { part = p; fits = front_fits n after p; is = f; taken_so = sym answer ∙ rw z (ap taken p) }

-- ---- the lookups

-- what the lookups leave: the front of the memory is the records of q questions
pub record Looked (ws : List ℕ) (q : ℕ) (after : List ℕ) : Type 0 where
  pub most : q ≤ 2048
  pub part : record_words * q ≡ length (take (record_words * q) after)
  pub fits : record_words * q ≤ length after
  pub records : take (record_words * q) after ≡ records_in ws

module _
    (ws : List ℕ)
    (few : length ws ≤ 16384)
    {m : Mesh}
    (is : m ≡ mesh_in ws)
    {ps : List Float}
    (points : ps ≡ points_of ws)
    {index : List ℕ}
    (e : index ≡ index_in ws)
    {n : ℕ}
    (t : build_of (mesh_in ws) 16384 ≡ taken n)
    (s : Result ℕ Refusal)
    (g : told s ≡ tops_of m index ps (length lent))
  where
    took : tops_of m index ps (length lent) ≡ taken (count_kind ws 3)
    took = rw (is, points, e, lent_length) (all_taken ws few t)

    left : records_of m index ps ≡ records_in ws
    left = rw (is, points, e) (records_are ws few t)

    pub never_turned_back : {f : Refusal} → s ≡ Err f → ⊥
    unfolding told
    never_turned_back {f} z =
        let q : refused (number_of f) (place_of f) ≡ taken (count_kind ws 3) = sym (rw z) ∙ g ∙ took in
        let w : ◌≡◌ {A = ℕ} 0 1 = cc in omega arith

    pub looked : {q : ℕ} {after : List ℕ} → s ≡ Ok q → after ≡ leaves (tops_of m index ps (length lent)) (records_of m index ps) lent → Looked ws q after
    unfolding told
    looked {q} {after} z l =
        let w : taken q ≡ taken (count_kind ws 3) = sym (rw z) ∙ g ∙ took in
        let c : q ≡ count_kind ws 3 = cc in
        let k : record_words * q ≡ length (records_of m index ps) = rw (left, records_length ws, c) in
        let f = front (tops_of m index ps (length lent)) (count_kind ws 3) (record_words * q) (records_of m index ps) lent after took k l ∙ left in
        let p = front_length (record_words * q) (records_in ws) after f (k ∙ ap length left) in
        record { most = omega (arith, c, kind_most ws 3 few); part = p; fits = front_fits (record_words * q) after p; records = f }

-- ---- the file

fault_place : (bs : List ℕ) (x p : ℕ) → file_fault bs ≡ fault x p → p ≤ 2048
unfolding file_fault surface_fault refuse_first refuse
fault_place bs x p e =
    let n = parts 32 (length bs) in
    let l = least (bad_at File (file_record bs)) n in
    go n l (ltb 2048 n) (ltb l n) (ltb-false 2048 n) (least_le (bad_at File (file_record bs)) n) e
  where
    go : (n l : ℕ) (a b : Bool) → (a ≡ false → n ≤ 2048) → l ≤ n → refuse a 1 2048 (refuse b 5 l fine) ≡ fault x p → p ≤ 2048
    go n l true b h k q = let w : p ≡ 2048 = cc in omega arith
    go n l false true h k q = let w : p ≡ l = cc in omega (arith, h refl)
    go n l false false h k q = absurd (let z : ◌≡◌ {A = ℕ} 0 1 = cc in omega arith)

module _ (bs : List ℕ) {f : Result Unit Refusal} (g : found f ≡ file_fault bs) where
  module _ {r : Refusal} (z : f ≡ Err r) where
    was : file_fault bs ≡ fault (number_of r) (place_of r)
    unfolding found
    was = sym g ∙ ap found z

    pub file_place : place_of r < 2 ^ 32
    file_place = omega (arith, fault_place bs (number_of r) (place_of r) was)

    pub file_refused : refused_line (number_of r) (place_of r) ≡ report_of bs
    unfolding report_of or_refused judge
    file_refused = rw was

  module _ (z : f ≡ Ok tt) where
    pub file_sound : file_fault bs ≡ fine
    file_sound = none_told g z

    pub file_text : surface_text (words_of bs) ≡ report_of bs
    unfolding report_of surface_text judge
    file_text = rw file_sound

-- ---- what is said of a text, and what is left of it

whole : (text old : List ℕ) {n : ℕ} → n ≡ length text → n ≤ length old → taken n ≡ copy_of text (length old)
unfolding judge copy_of refuse
whole text old e h = rw (le-ltb (length old) (length text) (omega arith), e)

module _ {text : List ℕ} (old : List ℕ) {n : ℕ} (e : n ≡ length text) where
  pub says_short : {a : Result ℕ Refusal} {r : Refusal} → a ≡ Err r → length old < n → found (Err r) ≡ refuse (ltb (length old) n) 3 n fine → Says text old old a
  unfolding judge copy_of refuse told found leaves
  says_short {a} {r} z h f =
      let t : ltb (length old) n ≡ true = lt-ltb (length old) n h in
      let u : fault (number_of r) (place_of r) ≡ fault 3 n = rw t at f in
      let p : number_of r ≡ 3 = cc in
      let q : place_of r ≡ n = cc in
      let w : ltb (length old) (length text) ≡ true = rw e at t in
      record { said = rw (z, w, p, q, e); left = rw w }

  pub says_whole : {new : List ℕ} {r : ℕ} → n ≤ length old → Put old new 0 text r → Says text old new (Ok n)
  unfolding told
  says_whole h p = record { said = whole text old e h; left = leaves_put (whole text old e h) (omega arith) p }

pub says_same : {text other old new : List ℕ} {a : Result ℕ Refusal} → text ≡ other → Says text old new a → Says other old new a
says_same {text} {other} {old} {new} {a} e s = subst (λ (t : List ℕ). Says t old new a) e s

-- ---- the calls

module _ (bs old : List ℕ) {a : Result ℕ Refusal} where
  pub reported : {new : List ℕ} → Says (report_of bs) old new a → (told a ≡ report_answer bs (length old)) × (new ≡ leaves (report_answer bs (length old)) (report_of bs) old)
  unfolding report_answer
  reported s = (s.said, s.left)

  module _ (h : 204834 ≤ length old) where
    pub printed_is : told a ≡ report_answer bs (length old) → a ≡ Ok (length (report_of bs))
    unfolding told
    printed_is g = go a (g ∙ report_taken bs (length old) h)
      where
        go : (r : Result ℕ Refusal) → told r ≡ taken (length (report_of bs)) → r ≡ Ok (length (report_of bs))
        go (Ok n) q = let e : n ≡ length (report_of bs) = cc in ap Ok e
        go (Err r) q = absurd (let w : ◌≡◌ {A = ℕ} 0 1 = cc in omega arith)

pub printed_text : (bs old : List ℕ) {new : List ℕ} → 204834 ≤ length old → new ≡ leaves (report_answer bs (length old)) (report_of bs) old
    → new ≡ report_of bs ++ drop (length (report_of bs)) old
unfolding leaves
printed_text bs old h l = l ∙ rw (report_taken bs (length old) h)
