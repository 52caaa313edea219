-- What `consult` finds in the words of an index that was built from a mesh, whatever stands past them: the words are never foreign, the run handed over is
-- the candidates of the point, which rise and are triangles of the mesh, and a triangle whose grown box holds the point is among them. Assumes nothing.
use Rattle.std.specs.Prelude.{◌≡◌, ℕ, zero, suc, ◌+◌, ◌-◌, ◌*◌, ◌<◌, ◌≤◌, Bool, true, false, cond, ◌&&◌, T, List, [], ◌++◌, length, take, drop, ◌≢◌, slice_index, slice_index_or, Float, Option, Some, None}
use Rattle.std.proofs.Math.Path.{refl, sym, ap, ap₂}
use Rattle.std.proofs.Common.{◌∙◌, subst, true≢false, append_assoc, not-suc-le-zero}
use native.Mathlib.Omega.{arith}
use Rattle.std.proofs.Math.Arith.{digits_lt}
use Rattle.std.proofs.Math.ListN.{length-append}
use Rattle.std.proofs.Math.Seq.{get_or-append-add, drop-append-add, get_or-take, get_or-drop}
use Rattle.std.specs.Float.Ieee.{binary32, fits, le}
use Rattle.lookup.specs.Column.{col}
use Rattle.rounding.proofs.Laws.Order.{T_of, le_trans, le_num_left, le_num_right}
use Rattle.lookup.proofs.Laws.Column.{col_lt, col_between, col_back}
use Rattle.lookup.specs.Column.{Width}
use Rattle.rounding.proofs.Laws.Stored.{back, back_le, le_back}
use Rattle.shape.specs.Lists.{Mesh}
use Rattle.shape.specs.Refusal.{fine, taken, refused, leaves}
use Rattle.lookup.specs.Mesh.{triangles}
use Rattle.lookup.specs.Box.{box_of, within, in_boxed, in_box}
use Rattle.lookup.specs.Frame.{extent_of, boxes_of, frame_of}
use Rattle.lookup.specs.Index.{block_of, blocks_of, holds, members, start, cell_words, head_of, grid_words, no_words, words_over, index_words, frame_cell, candidates_in, candidates_over, candidates_of, build_of}
use Rattle.lookup.specs.Consult.{word_at, float_at, head_fault, inside, cell_at, entry_fault, Candidates, nowhere, run, run_in, run_of, consult_of}
use Rattle.lookup.specs.Steps.{Framed}
use Rattle.lookup.proofs.Laws.Parts.{both, start_mono, start_suc}
use Rattle.lookup.proofs.Laws.Cells.{holds_at}
use Rattle.lookup.proofs.Laws.Frames.{framed, inside_of}
use Rattle.lookup.proofs.Laws.Reading.{length_index, index_start, index_run, Stands, run_member, run_holds, run_rises}
use Rattle.lookup.proofs.Laws.Heads.{sides_fine, head_fine, head_none, entry_none, entry_step, run_fine, consult_none, consult_out, consult_in}
use Rattle.lookup.proofs.Laws.Extent.{Around, InExtent, extent_holds, Fit, Fits, extent_fits, cell_width, cell_back, box_there}
use Rattle.lookup.specs.declared.boxes.Aabb.{Aabb}
use Rattle.lookup.specs.declared.frame.Frame.{Frame}

-- consulted at (x, y), the words hand over a run
pub record Hands (ws : List ℕ) (count : ℕ) (x y : Float) (given : List ℕ) : Type 0 where
  pub place : Candidates
  pub answers : consult_of ws count x y ≡ taken place
  pub is : run_in ws place ≡ given

-- ---- the words of a grid

-- what is asked of a frame: its counts, and its floats as they are read back
record Sound (f : Frame) : Type 0 where
  counts : Framed f
  left : T (fits binary32 f.min_x)
  right : T (fits binary32 f.max_x)
  low : T (fits binary32 f.min_y)
  high : T (fits binary32 f.max_y)
  width : Width f.cell
  cell_is : back f.cell ≡ f.cell

pub entries_fine : (ws : List ℕ) (count from k : ℕ) → ((i : ℕ) → i < k → word_at ws (from + i) < count) → entry_fault ws count from k ≡ fine
entries_fine ws count from zero h = entry_none ws count from
entries_fine ws count from (suc k) h = entry_step ws count from k (entries_fine ws count from k (λ i l. h i (omega arith))) (h k (omega arith))

module _ (h : ℕ → ℕ → Bool) (n : ℕ) (f : Frame) (ok : Sound f) (rest : List ℕ) where
  cells : ℕ
  cells = f.rows * f.cols

  ws : List ℕ
  ws = head_of n f (start h n cells) ++ (cell_words h n cells ++ rest)

  word_at_lem : (c : ℕ) → word_at ws (9 + c) ≡ slice_index (cell_words h n cells ++ rest) c
  unfolding ws head_of
  word_at_lem c = get_or-append-add (head_of n f (start h n cells)) (cell_words h n cells ++ rest) c 0

  start_at_lem : (c : ℕ) → c ≤ cells → word_at ws (9 + c) ≡ start h n c
  start_at_lem c l = word_at_lem c ∙ index_start h n cells c rest l

  drop_at_nine : (k : ℕ) → drop (9 + k) ws ≡ drop k (cell_words h n cells ++ rest)
  unfolding ws head_of
  drop_at_nine k = drop-append-add (head_of n f (start h n cells)) (cell_words h n cells ++ rest) k

  length_words : length ws ≡ 10 + f.cols * f.rows + start h n cells + length rest
  unfolding ws head_of cells
  length_words = omega (arith, length-append (cell_words h n cells) rest, length_index h n cells)

  head_sound : head_fault ws n ≡ fine
  unfolding ws head_of
  head_sound =
      sym (head_fine ws n (omega (arith, length_words)) refl (omega (arith, ok.counts.some_cols))
      (sides_fine f.cols f.rows (omega (arith, ok.counts.some_cols)) ok.counts.few_cols (omega (arith, ok.counts.some_rows)) ok.counts.few_rows)
      (omega (arith, length_words)))

  -- the bounds and the cell are as if the frame's own floats stood there
  inside_same : (x y : Float) → inside ws x y ≡ ((le f.min_x x && le x f.max_x) && (le f.min_y y && le y f.max_y))
  unfolding ws head_of inside float_at
  inside_same x y = rw (back_le f.min_x x ok.left, le_back f.max_x x ok.right, back_le f.min_y y ok.low, le_back f.max_y y ok.high)

  cell_same : (x y : Float) → cell_at ws x y ≡ frame_cell f x y
  unfolding ws head_of cell_at frame_cell float_at
  cell_same x y = rw (ok.cell_is, col_back f.min_y f.cell f.rows y ok.low ok.width, col_back f.min_x f.cell f.cols x ok.left ok.width)

  cell_in : (x y : Float) → frame_cell f x y < cells
  unfolding frame_cell cells
  cell_in x y =
      digits_lt {q = col binary32 f.min_y f.cell f.rows y} {m = f.rows} {r = col binary32 f.min_x f.cell f.cols x} {c = f.cols}
      (col_lt binary32 f.min_y f.cell f.rows y ok.counts.some_rows)
      (col_lt binary32 f.min_x f.cell f.cols x ok.counts.some_cols)

  module _ (c : ℕ) (l : c < cells) where
    from : ℕ
    from = 10 + f.cols * f.rows + start h n c

    up_to : ℕ
    up_to = 10 + f.cols * f.rows + start h n (suc c)

    run_is : take (up_to - from) (drop from ws) ≡ members h n c
    unfolding from up_to cells
    run_is =
        let z : from ≡ 9 + (suc cells + start h n c) = omega arith in
        let k : up_to - from ≡ start h n (suc c) - start h n c = omega arith in
        ap₂ (λ (a : ℕ) (o : List ℕ). take a o) k (ap (λ (a : ℕ). drop a ws) z ∙ drop_at_nine (suc cells + start h n c)) ∙ index_run h n cells c rest l

    entry_is : (i : ℕ) → i < up_to - from → word_at ws (from + i) < n
    unfolding from up_to
    entry_is i k =
        let e : slice_index_or (members h n c) i 0 ≡ word_at ws (from + i) = ap (λ (o : List ℕ). slice_index o i) (sym run_is) ∙ get_or-take (up_to - from) (drop from ws) i 0 k ∙ get_or-drop from ws i 0 in
        let s : i < length (members h n c) = omega (arith, start_suc h n c) in
        omega (arith, e, (run_member h c n i s).0)

    run_found : taken (run from up_to) ≡ run_of ws n c
    unfolding ws head_of from up_to
    run_found =
        let z : 9 + suc c ≡ 10 + c = omega arith in
        run_fine ws n c (start h n cells) (start h n c) (start h n (suc c)) refl (sym (start_at_lem c (omega arith))) (sym (start_at_lem (suc c) l) ∙ ap (word_at ws) z)
        (start_mono h n c cells (omega arith)) (start_mono h n c (suc c) (omega arith)) (start_mono h n (suc c) cells l)
        (10 + f.cols * f.rows) refl
        (entries_fine ws n from (up_to - from) entry_is)

  some : word_at ws 1 ≡ 0 → ⊥
  unfolding ws head_of
  some z = omega (arith, ok.counts.some_cols)

  -- does the frame hold the point?
  module _ (x y : Float) where
    test : Bool
    test = (le f.min_x x && le x f.max_x) && (le f.min_y y && le y f.max_y)

    hands_in : test ≡ true → Hands ws n x y (members h n (frame_cell f x y))
    unfolding test run_in
    hands_in e =
        let c = frame_cell f x y in
        let l = cell_in x y in
        record {
          place = run (from c l) (up_to c l);
          answers = sym (consult_in ws n x y head_sound some (inside_same x y ∙ e) (taken (run (from c l) (up_to c l))) (run_found c l ∙ ap (run_of ws n) (sym (cell_same x y))));
          is = run_is c l;
        }

    hands_out : test ≡ false → Hands ws n x y []
    unfolding test run_in
    hands_out e = record { place = nowhere; answers = sym (consult_out ws n x y head_sound some (inside_same x y ∙ e)); is = refl }

    hands_either : (b : Bool) → test ≡ b → Hands ws n x y (cond b (members h n (frame_cell f x y)) [])
    hands_either true e = hands_in e
    hands_either false e = hands_out e

-- ---- the index of a mesh

hands_grid : (vs : List Float) (is : List ℕ) (f : Frame) → Sound f → (rest : List ℕ) (x y : Float) (b : Bool)
    → ((le f.min_x x && le x f.max_x) && (le f.min_y y && le y f.max_y)) ≡ b
    → Hands (grid_words vs is f ++ rest) (triangles is) x y (cond b (candidates_in vs is f x y) [])
unfolding grid_words candidates_in ws cells test
hands_grid vs is f ok rest x y b e =
    let h = holds (blocks_of vs is f) f.cols in
    let n = triangles is in
    subst (λ (o : List ℕ). Hands o n x y (cond b (candidates_in vs is f x y) [])) (sym (append_assoc (head_of n f (start h n (f.rows * f.cols))) (cell_words h n (f.rows * f.cols)) rest))
    (hands_either h n f ok rest x y b e)

sound_frame : (e : Aabb) (count : ℕ) → Fit e → Sound (frame_of e count)
unfolding frame_of
sound_frame e count k = record { counts = framed e count; left = k.left; right = k.right; low = k.low; high = k.high; width = cell_width _ _ _ _; cell_is = cell_back _ _ _ _ }

hands_none : (n : ℕ) (rest : List ℕ) (x y : Float) → Hands (no_words n ++ rest) n x y []
unfolding no_words run_in
hands_none n rest x y =
    record {
      place = nowhere;
      answers = sym (consult_none (no_words n ++ rest) n x y (sym (head_none (no_words n ++ rest) n (omega arith) refl refl refl)) refl);
      is = refl;
    }

-- consulting the words that building left answers with a place, whatever stands past them, and at the place stand the candidates
pub hands : (vs : List Float) (is rest : List ℕ) (x y : Float) → Hands (index_words vs is ++ rest) (triangles is) x y (candidates_of vs is x y)
unfolding index_words candidates_of words_over candidates_over frame_of within
hands vs is rest x y = go (extent_of vs is (triangles is)) (extent_fits vs is (triangles is))
  where
    go : (b : (Option Aabb)) → Fits b → Hands (words_over vs is b ++ rest) (triangles is) x y (candidates_over vs is b x y)
    go (Some e) k = let count = boxes_of vs is (triangles is) in hands_grid vs is (frame_of e count) (sound_frame e count k) rest x y (within e x y) refl
    go None k = hands_none (triangles is) rest x y

-- "it is never foreign to that mesh"
pub never_foreign : (vs : List Float) (is rest : List ℕ) (x y : Float) (number place : ℕ) → consult_of (index_words vs is ++ rest) (triangles is) x y ≢ refused number place
never_foreign vs is rest x y number place e = let h = (hands vs is rest x y).answers in let z : ◌≡◌ {A = ℕ} 0 1 = cc in omega arith

-- ---- the candidates

module _ (vs : List Float) (is : List ℕ) (x y : Float) where
  -- what holds of every run and of none, holds of the candidates
  run_or_none : (P : List ℕ → Type 0) → P [] → ((h : ℕ → ℕ → Bool) (c : ℕ) → P (members h (triangles is) c)) → P (candidates_of vs is x y)
  unfolding candidates_of candidates_over candidates_in
  run_or_none P p q = go (extent_of vs is (triangles is))
    where
      pick : (b : Bool) (xs : List ℕ) → P xs → P (cond b xs [])
      pick true xs k = k
      pick false xs k = p

      go : (b : (Option Aabb)) → P (candidates_over vs is b x y)
      go (Some e) = pick (within e x y) (candidates_in vs is (frame_of e (boxes_of vs is (triangles is))) x y) (q (holds (blocks_of vs is (frame_of e (boxes_of vs is (triangles is)))) (frame_of e (boxes_of vs is (triangles is))).cols) (frame_cell (frame_of e (boxes_of vs is (triangles is))) x y))
      go None = p

  pub candidates_rise : (p q : ℕ) → p < q → q < length (candidates_of vs is x y) → slice_index (candidates_of vs is x y) p < slice_index (candidates_of vs is x y) q
  candidates_rise p q l k = run_or_none (λ (o : List ℕ). q < length o → slice_index o p < slice_index o q) (λ (z : q < 0). absurd (not-suc-le-zero z)) (λ h c. run_rises h c (triangles is) p q l) k

  pub candidates_are : (i : ℕ) → i < length (candidates_of vs is x y) → slice_index (candidates_of vs is x y) i < triangles is
  candidates_are i k = run_or_none (λ (o : List ℕ). i < length o → slice_index o i < triangles is) (λ (z : i < 0). absurd (not-suc-le-zero z)) (λ h c l. (run_member h c (triangles is) i l).0) k

-- ---- a triangle whose grown box holds the point

record Within (b : Aabb) (x y : Float) : Type 0 where
  left : T (le b.min_x x)
  right : T (le x b.max_x)
  low : T (le b.min_y y)
  high : T (le y b.max_y)

within_is : (b : Aabb) (x y : Float) → within b x y ≡ true → Within b x y
unfolding within
within_is b x y e =
    let p = both (le b.min_x x && le x b.max_x) (le b.min_y y && le y b.max_y) e in
    let u = both (le b.min_x x) (le x b.max_x) p.0 in
    let v = both (le b.min_y y) (le y b.max_y) p.1 in
    record { left = T_of u.0; right = T_of u.1; low = T_of v.0; high = T_of v.1 }

true_of : (b : Bool) → T b → b ≡ true
true_of true h = refl
true_of false h = absurd h

-- the extent then holds it too
within_extent : (b e : Aabb) (x y : Float) → Around b e → Within b x y → within e x y ≡ true
unfolding within
within_extent b e x y r w =
    let l = true_of (le e.min_x x) (le_trans e.min_x b.min_x x (r.left (le_num_left b.min_x x w.left)) w.left) in
    let h = true_of (le x e.max_x) (le_trans x b.max_x e.max_x w.right (r.right (le_num_right x b.max_x w.right))) in
    let d = true_of (le e.min_y y) (le_trans e.min_y b.min_y y (r.low (le_num_left b.min_y y w.low)) w.low) in
    let u = true_of (le y e.max_y) (le_trans y b.max_y e.max_y w.high (r.high (le_num_right y b.max_y w.high))) in
    rw (l, h, d, u)

-- and its cell is one of the box's
cell_held : (vs : List Float) (is : List ℕ) (f : Frame) (t : ℕ) (b : Aabb) (x y : Float) → Framed f → Width f.cell → box_of vs is t ≡ Some b → Within b x y
    → holds (blocks_of vs is f) f.cols t (frame_cell f x y) ≡ true
unfolding frame_cell blocks_of block_of
cell_held vs is f t b x y k w e i =
    let q : blocks_of vs is f t ≡ block_of f (Some b) = ap (block_of f) e in
    let u = col_between binary32 f.min_x f.cell f.cols b.min_x x b.max_x w i.left i.right in
    let v = col_between binary32 f.min_y f.cell f.rows b.min_y y b.max_y w i.low i.high in
    holds_at (blocks_of vs is f) f.cols f.rows t (inside_of vs is k t) (col binary32 f.min_x f.cell f.cols x) (col binary32 f.min_y f.cell f.rows y)
    (rw q u.0) (rw q u.1) (rw q v.0) (rw q v.1)

-- a triangle whose grown box holds the point stands among the candidates
pub candidate : (vs : List Float) (is : List ℕ) (t : ℕ) (x y : Float) → in_box vs is t x y ≡ true → Stands t (candidates_of vs is x y)
unfolding in_box in_boxed candidates_of candidates_over candidates_in
candidate vs is t x y e = boxed (box_of vs is t) refl e
  where
    over : (b : Aabb) → box_of vs is t ≡ Some b → Within b x y → (k : (Option Aabb)) → Fits k → InExtent b k → Stands t (candidates_over vs is k x y)
    over b p w (Some e) m r =
        let f = frame_of e (boxes_of vs is (triangles is)) in
        let s = sound_frame e (boxes_of vs is (triangles is)) m in
        subst (λ (z : Bool). Stands t (cond z (candidates_in vs is f x y) [])) (sym (within_extent b e x y r w))
        (run_holds (holds (blocks_of vs is f) f.cols) (frame_cell f x y) (triangles is) t (box_there vs is t b p) (cell_held vs is f t b x y s.counts s.width p w))
    over b p w None m r = absurd r

    boxed : (k : (Option Aabb)) → box_of vs is t ≡ k → in_boxed k x y ≡ true → Stands t (candidates_of vs is x y)
    boxed (Some b) p q = over b p (within_is b x y q) (extent_of vs is (triangles is)) (extent_fits vs is (triangles is)) (extent_holds vs is (triangles is) t b (box_there vs is t b p) p)
    boxed None p q = absurd (true≢false (sym q))

-- ---- after building

-- the words that a taken building call left, words and mesh unchanged since
pub after_build : (m : Mesh) (before : List ℕ) (n : ℕ) (x y : Float) → build_of m (length before) ≡ taken n
    → Hands (leaves (build_of m (length before)) (index_words m.vertices m.indices) before) (triangles m.indices) x y (candidates_of m.vertices m.indices x y)
unfolding leaves
after_build m before n x y e = rw e (hands m.vertices m.indices (drop (length (index_words m.vertices m.indices)) before) x y)
