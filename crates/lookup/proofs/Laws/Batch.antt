-- Every number of a point's record fits a word of 32 bits: the place of a cell's refusal, the triangle, and the lane, which is a word of the spans. And what the
-- call for many points leaves is, point by point, the record of the single call. Assumes nothing.
use Rattle.std.specs.Prelude.{◌≡◌, ℕ, zero, suc, ◌+◌, ◌*◌, ◌/◌, ◌<◌, Bool, true, false, cond, ◌&&◌, List, ◌++◌, length, take, drop, nat_le, nat_lt, slice_index, slice_index_or, Float, Option, Some, None}
use Rattle.std.proofs.Math.Path.{refl}
use Rattle.std.proofs.Common.{sym, subst, ap, ◌∙◌, append_assoc, ⊎_elim, eq-or-lt_of_le, le_of_suc-le-suc, arith, take_at, drop_at, lt-ltb}
use Rattle.std.specs.Float.{nan}
use Rattle.shape.specs.Lists.{Mesh, mesh_fault, word_of, start_of}
use Rattle.shape.specs.Gather.{gather}
use Rattle.shape.proofs.Laws.Gather.{gather_even}
use Rattle.shape.specs.Refusal.{Fault, fine, fault, Answer, taken, refused, judge, leaves}
use Rattle.lookup.specs.Mesh.{triangles}
use Rattle.lookup.specs.Plain.{scan_of, entry_of, lookup_of, plain_of, answer_of}
use Rattle.lookup.specs.Consult.{Candidates, run_in, consult_of}
use Rattle.lookup.specs.Sampler.{past_of, lane_of, top_fault, Sample, hit, miss, sample_of, sample_in, onward, top_of}
use Rattle.lookup.specs.Batch.{record_words, lane_id, word_for, record_of, record_at, records_of, points_in, tops_of}
use Rattle.lookup.specs.Record.{plain_sample, RecordFits}
use Rattle.lookup.proofs.Laws.Scan.{scan_found}
use Rattle.lookup.proofs.Laws.Plain.{covers_below}
use Rattle.lookup.proofs.Laws.Limits.{in_order, mesh_in_order, index_in_order}
use Rattle.lookup.proofs.Laws.Faults.{never, consult_holds}

pub word_is : (n : ℕ) → n < 4294967296 → word_for n ≡ n
unfolding word_for
word_is n h = rw (lt-ltb n 4294967296 h)

-- a lane is a word of the spans
lane_word : (ss : List ℕ) → ((i : ℕ) → slice_index ss i < 4294967296) → (t : ℕ) → lane_id (lane_of ss t) < 4294967296
unfolding lane_id lane_of word_of
lane_word ss w t =
    let n = length ss / 5 in
    let k = past_of ss (3 * t) n in
    go (nat_lt k n && nat_le (start_of 5 3 ss k) (3 * t)) (5 * k + 0)
  where
    go : (b : Bool) (i : ℕ) → lane_id (cond b (Some (slice_index ss i)) None) < 4294967296
    go true i = w i
    go false i = omega arith

module _ (m : Mesh) (x y : Float) (f : mesh_fault m ≡ fine) where
  triangle_word : (seq : ℕ → ℕ) (n : ℕ) {h : Float} {t : ℕ} → scan_of m.vertices m.indices x y seq n ≡ Some (h, t) → t < 4294967296
  triangle_word seq n {h} {t} e =
      let l = covers_below m x y t (scan_found m.vertices m.indices x y seq n e).counted in
      let o = in_order m f in
      omega (arith, l, o.indices)

  sample_words : ((i : ℕ) → slice_index m.spans i < 4294967296) → (run : List ℕ) (s : (Option (Float × ℕ)))
      → s ≡ scan_of m.vertices m.indices x y (entry_of run) (length run) → RecordFits (taken (sample_of m x y s))
  unfolding RecordFits sample_of
  sample_words w run (Some (h, t)) e = (triangle_word (entry_of run) (length run) (sym e), lane_word m.spans w t)
  sample_words w run None e = tt

  lookup_words : (s : (Option (Float × ℕ))) → s ≡ scan_of m.vertices m.indices x y (λ t. t) (triangles m.indices) → RecordFits (plain_sample (taken (lookup_of m x y s)))
  unfolding RecordFits plain_sample lookup_of
  lookup_words (Some (h, t)) e = (triangle_word (λ t. t) (triangles m.indices) (sym e), omega arith)
  lookup_words None e = tt

module _ (m : Mesh) (ws : List ℕ) (x y : Float) (w : (i : ℕ) → slice_index m.spans i < 4294967296) where
  pub top_words : top_fault m ws ≡ fine → RecordFits (top_of m ws x y)
  unfolding top_of judge onward sample_in RecordFits
  top_words f =
      let n = triangles m.indices in
      rw f (go f (consult_of ws n x y) (consult_holds (λ (k p : ℕ). p < 4294967296) (λ p l. l) ws n (index_in_order m ws f) x y))
    where
      go : top_fault m ws ≡ fine → (a : Answer Candidates) → ((k p : ℕ) → a ≡ refused k p → p < 4294967296)
          → RecordFits (onward a (λ (p : Candidates). sample_in m x y (run_in ws p)))
      go f (taken p) h = sample_words m x y (mesh_in_order m ws f) w (run_in ws p) _ refl
      go f (refused k p) h = h k p refl

  -- an answer that is taken passed the checks
  top_fine : {a : Sample} → top_of m ws x y ≡ taken a → top_fault m ws ≡ fine
  unfolding top_of judge
  top_fine e = go (top_fault m ws) _ e
    where
      go : (f : Fault) (b : Answer Sample) {a : Sample} → judge f b ≡ taken a → f ≡ fine
      go fine b e = refl
      go (fault k p) b e = absurd (never (sym e))

  pub taken_words : (a : Sample) → top_of m ws x y ≡ taken a → RecordFits (taken a)
  taken_words a e = subst RecordFits e (top_words (top_fine e))

pub plain_words : (m : Mesh) (x y : Float) (a : Sample) → plain_sample (answer_of m x y) ≡ taken a → RecordFits (taken a)
unfolding answer_of plain_of judge plain_sample
plain_words m x y a e = go (mesh_fault m) refl e
  where
    go : (f : Fault) → mesh_fault m ≡ f → plain_sample (judge f (taken (plain_of m x y))) ≡ taken a → RecordFits (taken a)
    go fine f e = subst RecordFits e (lookup_words m x y f _ refl)
    go (fault k p) f e = absurd (never (sym e))

-- ---- many points

-- a record has its width
pub record_width : (a : Answer Sample) → length (record_of a) ≡ record_words
unfolding record_of
record_width (taken (hit h n t d)) = refl
record_width (taken miss) = refl
record_width (refused number place) = refl

-- of pieces of that width one after another, piece k
piece : (f : ℕ → List ℕ) → ((i : ℕ) → length (f i) ≡ record_words) → (n k : ℕ) (rest : List ℕ) → k < n → take record_words (drop (record_words * k) (gather f n ++ rest)) ≡ f k
unfolding gather
piece f e zero k rest l = absurd (omega arith)
piece f e (suc n) k rest l =
    ap (λ (xs : List ℕ). take record_words (drop (record_words * k) xs)) (append_assoc (gather f n) (f n) rest)
    ∙ ⊎_elim (λ (z : k ≡ n). last z) (λ (z : k < n). piece f e n k (f n ++ rest) z) (eq-or-lt_of_le (le_of_suc-le-suc l))
  where
    last : k ≡ n → take record_words (drop (record_words * k) (gather f n ++ (f n ++ rest))) ≡ f k
    last z = rw (z, drop_at (gather f n) (f n ++ rest) (record_words * n) (gather_even f record_words e n), take_at (f n) rest record_words (e n))

-- a call that is taken leaves, for each point, the record of the single call there
pub batch_as_single : (m : Mesh) (ws : List ℕ) (ps : List Float) (old : List ℕ) {n : ℕ} → tops_of m ws ps (length old) ≡ taken n → (k : ℕ) → k < points_in ps
    → take record_words (drop (record_words * k) (leaves (tops_of m ws ps (length old)) (records_of m ws ps) old)) ≡ record_of (top_of m ws (slice_index_or ps (2 * k) nan) (slice_index_or ps (2 * k + 1) nan))
unfolding leaves records_of record_at
batch_as_single m ws ps old e k l =
    rw e (piece (record_at m ws ps) (λ i. record_width (top_of m ws (slice_index_or ps (2 * i) nan) (slice_index_or ps (2 * i + 1) nan))) (points_in ps) k _ l)
