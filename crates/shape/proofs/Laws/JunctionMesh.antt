-- Laws about the triangles of a junction: how many there are, and how they are put one after another. Assumes nothing.
use Rattle.std.specs.Prelude.{◌≡◌, ℕ, zero, suc, ◌+◌, ◌-◌, ◌*◌, ◌/◌, ◌<◌, ◌≤◌, Bool, true, false, cond, List, [], ◌++◌, length, slice_index, Float, Result, Ok, Err}
use Rattle.std.proofs.Math.Path.{refl, ap, subst}
use Rattle.std.proofs.Common.{sym, ◌∙◌, append-nil, mul-le-mul, add-one, lt-ltb, le-ltb}
use Rattle.std.proofs.Math.Decide.{dec_lt}
use native.Mathlib.Omega.{arith}
use Rattle.std.specs.Float.{nan, inf, fin, binary64}
use Rattle.std.specs.Float.Ieee.{of_bits, of_fields, odd, neg, lt, div, to_unsigned}
use Rattle.std.proofs.Math.ListN.{length-append}
use Rattle.rounding.specs.Extremes.{clamp_of}
use Rattle.rounding.specs.Whole.{ceil_of}
use Rattle.rounding.proofs.Laws.Order.{le_of_not_lt}
use Rattle.rounding.specs.Numbers.{IsNum}
use Rattle.rounding.proofs.Laws.Count.{to_unsigned_mono}
use Rattle.vector.specs.Single.{0f, 1f}
use Rattle.vector.specs.Coords.{point_sub, vector_mul, cross_of, normalize_or, up_vector}
use Rattle.vector.specs.declared.coords.Point.{Point}
use Rattle.vector.specs.declared.coords.Vector.{Vector}
use Rattle.shape.specs.declared.junction.Ear.{Ear}
use Rattle.shape.specs.Gather.{gather}
use Rattle.shape.specs.Lists.{point_at, longer, uneven, Mesh, mesh_lists}
use Rattle.shape.specs.MeshMemory.{lengths_of, room_fault, leaves_mesh}
use Rattle.shape.specs.Elevation.{grid_long, grid_ragged}
use Rattle.shape.specs.JunctionMesh.{1d, 64d, longest_of, parts_of, face_of, corner_coords, face_normals, ear_cut, lattice, cell_of, row_of, split_of, ear_mesh, ears_mesh, sum_of, ear_vertices, vertex_count, ground_vertices, ground_normals, spacing_of, Ground, lifter, mesh_vertices, mesh_normals, mesh_indices, ground_lengths, ground_mesh, ground_limits, ground_ragged, ground_input, ground_result, ground_answer}
use Rattle.shape.specs.Memory.{Put}
use Rattle.shape.specs.Refusal.{fine, found, refuse, or_else, Answer, taken, refused, told, judge, number_of, place_of}
use Rattle.shape.specs.declared.refusal.Refusal.{Refusal}
use Rattle.shape.specs.declared.memory.Lengths.{Lengths}
use Rattle.shape.specs.Ears.{up_to, ears_of}
use Rattle.shape.proofs.Laws.Ears.{up_to_length}
use Rattle.shape.proofs.Laws.Memory.{put_none, put_then, put_turn}
use Rattle.shape.proofs.Laws.MeshMemory.{Fits, room_fits, mesh_left, mesh_stays, ground_fault, ground_room}
use Rattle.shape.proofs.Laws.Refusal.{else_refuse}

-- ---- parts

cut_few : (y hi : Float) → IsNum hi → to_unsigned 64 (cond (lt hi y) hi y) ≤ to_unsigned 64 hi
unfolding to_unsigned
cut_few nan hi h = go (lt hi nan)
  where
    go : (b : Bool) → to_unsigned 64 (cond b hi nan) ≤ to_unsigned 64 hi
    go true = omega arith
    go false = omega arith
cut_few (inf s) hi h = go (lt hi (inf s)) refl
  where
    go : (b : Bool) → lt hi (inf s) ≡ b → to_unsigned 64 (cond b hi (inf s)) ≤ to_unsigned 64 hi
    go true e = omega arith
    go false e = to_unsigned_mono 64 (inf s) hi (le_of_not_lt hi (inf s) h tt e)
cut_few (fin s m k) hi h = go (lt hi (fin s m k)) refl
  where
    go : (b : Bool) → lt hi (fin s m k) ≡ b → to_unsigned 64 (cond b hi (fin s m k)) ≤ to_unsigned 64 hi
    go true e = omega arith
    go false e = to_unsigned_mono 64 (fin s m k) hi (le_of_not_lt hi (fin s m k) h tt e)

sixty_four : to_unsigned 64 64d ≡ 64
unfolding to_unsigned of_bits of_fields odd
sixty_four = refl

a_number : IsNum 64d
unfolding of_bits of_fields odd
a_number = tt

clamped_few : (x : Float) → to_unsigned 64 (clamp_of x 1d 64d) ≤ 64
unfolding clamp_of
clamped_few x = let h = cut_few (cond (lt x 1d) 1d x) 64d a_number in rw sixty_four at h

pub parts_few : (step : Float) (a b c : Point) → parts_of step a b c ≤ 64
unfolding parts_of
parts_few step a b c = clamped_few (ceil_of binary64 (div binary64 (longest_of a b c) step))

pub ear_cut_lem : (step : Float) (ring : List Float) (ears : List ℕ) (k n : ℕ) (p q r : Point) → n ≡ parts_of step p q r
    → p ≡ point_at ring (slice_index ears (3 * k)) → q ≡ point_at ring (slice_index ears (3 * k + 1)) → r ≡ point_at ring (slice_index ears (3 * k + 2))
    → ◌≡◌ {A = Ear} (record { a = p; b = q; c = r; n = n }) (ear_cut step ring ears k)
unfolding ear_cut
ear_cut_lem step ring ears k n p q r e x y z = rw (e, x, y, z)

pub square_few : (n : ℕ) → n ≤ 64 → n * n ≤ 4096
square_few n h = mul-le-mul h h

-- ---- a face turned up

module _ (a b c : Point) (v : Vector) (e : v ≡ normalize_or (cross_of (point_sub b a) (point_sub c a)) up_vector) where
  pub face_downward : lt v.z 0f ≡ true → vector_mul v (neg 1f) ≡ face_of a b c
  unfolding face_of
  face_downward t = rw (← e, t)

  pub face_upward : lt v.z 0f ≡ false → v ≡ face_of a b c
  unfolding face_of
  face_upward t = rw (← e, t)

-- ---- counts

pub sum_next : (f : ℕ → ℕ) (i : ℕ) → sum_of f (i + 1) ≡ sum_of f i + f i
unfolding sum_of
sum_next f i = rw add-one

pub vertices_of_ear : (step : Float) (ring : List Float) (ears : List ℕ) (k : ℕ) (e : Ear) → e ≡ ear_cut step ring ears k → 3 * (e.n * e.n) ≡ ear_vertices step ring ears k
unfolding ear_vertices
vertices_of_ear step ring ears k e h = rw h

-- ---- triangles one after another

pub corners_nine : (a b c : Point) → length (corner_coords a b c) ≡ 9
unfolding corner_coords
corners_nine a b c = refl

pub normals_nine : (a b c : Point) → length (face_normals a b c) ≡ 9
unfolding face_normals
normals_nine a b c = refl

module _ (f : Point → Point → Point → List Float) (A : ℕ → ℕ → Point) (n i : ℕ) where
  cell_two : (j : ℕ) → i + j + 1 < n → cell_of f A n i j ≡ f (A i j) (A (i + 1) j) (A i (j + 1)) ++ f (A (i + 1) j) (A (i + 1) (j + 1)) (A i (j + 1))
  unfolding cell_of
  cell_two j h = rw (lt-ltb (i + j + 1) n h)

  cell_one : (j : ℕ) → n ≤ i + j + 1 → cell_of f A n i j ≡ f (A i j) (A (i + 1) j) (A i (j + 1))
  unfolding cell_of
  cell_one j h = rw (le-ltb (i + j + 1) n h) (append-nil (f (A i j) (A (i + 1) j) (A i (j + 1))))

  module _ {v₀ v : List Float} {from at : ℕ} (j : ℕ) (p q r : Point) (ep : p ≡ A i j) (eq : q ≡ A (i + 1) j) (er : r ≡ A i (j + 1))
      (done : Put v₀ v from (gather (cell_of f A n i) j) at) where
    -- a pair of triangles
    pub row_turn : {v₁ v₂ : List Float} {a₁ a₂ : ℕ} (s : Point) → s ≡ A (i + 1) (j + 1) → i + j + 1 < n → Put v v₁ at (f p q r) a₁ → Put v₁ v₂ a₁ (f q s r) a₂
        → Put v₀ v₂ from (gather (cell_of f A n i) (j + 1)) a₂
    row_turn s es h x y = put_turn (cell_of f A n i) j done (rw (cell_two j h, ← ep, ← eq, ← er, ← es) (put_then x y))

    -- the last of a row
    pub row_end : {v₁ : List Float} {a₁ : ℕ} → n ≡ i + j + 1 → Put v v₁ at (f p q r) a₁ → Put v₀ v₁ from (row_of f A n i) a₁
    unfolding row_of
    row_end h x =
        let e : n - i ≡ j + 1 = omega arith in
        rw e (put_turn (cell_of f A n i) j done (rw (cell_one j (omega arith), ← ep, ← eq, ← er) x))

-- ---- how long they are

module _ (f : Point → Point → Point → List Float) (nine : (a b c : Point) → length (f a b c) ≡ 9) (A : ℕ → ℕ → Point) (n : ℕ) where
  cells_length : (i j : ℕ) → i + j < n → length (gather (cell_of f A n i) j) ≡ 18 * j
  unfolding gather
  cells_length i zero h = refl
  cells_length i (suc j) h =
      rw (length-append, cell_two f A n i j (omega arith), length-append, nine, nine) (omega (arith, cells_length i j (omega arith)))

  pub row_length : (i : ℕ) → i < n → length (row_of f A n i) + 9 ≡ 18 * (n - i)
  unfolding row_of gather
  row_length i h =
      let j = n - i - 1 in
      let e : n - i ≡ suc j = omega arith in
      rw (e, length-append, cell_one f A n i j (omega arith), nine) (omega (arith, cells_length i j (omega arith)))

  -- what is left of n times n
  pub rows_length : (i : ℕ) → i ≤ n → length (gather (row_of f A n) i) + 9 * ((n - i) * (n - i)) ≡ 9 * (n * n)
  unfolding gather
  rows_length zero h = let e : n - 0 ≡ n = omega arith in rw e (omega arith)
  rows_length (suc i) h =
      let d = n - suc i in
      let e : n - i ≡ d + 1 = omega arith in
      let l : length (gather (row_of f A n) i) + 9 * ((d + 1) * (d + 1)) ≡ 9 * (n * n) = rw e at (rows_length i (omega arith)) in
      let r : length (row_of f A n i) + 9 ≡ 18 * (d + 1) = rw e at (row_length i (omega arith)) in
      rw length-append (omega arith)

  pub split_length : length (split_of f A n) ≡ 9 * (n * n)
  unfolding split_of
  split_length =
      let e : n - n ≡ 0 = omega arith in
      let l : length (gather (row_of f A n) n) + 9 * (0 * 0) ≡ 9 * (n * n) = rw e at (rows_length n (omega arith)) in
      omega arith

-- room for n times n is room for a row
pub square_room : (d : ℕ) → 18 * d ≤ 9 * (d * d) + 9
square_room zero = omega arith
square_room (suc d) = let e : suc d ≡ d + 1 = omega arith in rw e (omega arith)

pub ear_length : (f : Point → Point → Point → List Float) → ((a b c : Point) → length (f a b c) ≡ 9) → (lift : Point → Point) (e : Ear)
    → length (ear_mesh f lift e) ≡ 9 * (e.n * e.n)
unfolding ear_mesh
ear_length f nine lift e = split_length f nine (λ i j. lift (lattice e i j)) e.n

pub sum_fits : (f : ℕ → ℕ) (i n : ℕ) → i < n → sum_of f i + f i ≤ sum_of f n
unfolding sum_of
sum_fits f i zero h = absurd (omega arith)
sum_fits f i (suc n) h =
    elim (dec_lt i n) [ yes p ↦ omega (arith, sum_fits f i n p) | no p ↦ (let e : i ≡ n = omega arith in rw e (omega arith)) ]

-- three numbers a vertex
pub ears_length : (f : Point → Point → Point → List Float) → ((a b c : Point) → length (f a b c) ≡ 9) → (lift : Point → Point) (step : Float) (ring : List Float) (ears : List ℕ) (k : ℕ)
    → length (gather (λ (i : ℕ). ear_mesh f lift (ear_cut step ring ears i)) k) ≡ 3 * sum_of (ear_vertices step ring ears) k
unfolding gather sum_of
ears_length f nine lift step ring ears zero = refl
ears_length f nine lift step ring ears (suc k) =
    rw (length-append, ear_length f nine lift (ear_cut step ring ears k))
    (omega (arith, ears_length f nine lift step ring ears k, vertices_of_ear step ring ears k (ear_cut step ring ears k) refl))

-- ---- the call

ears_mesh_length : (f : Point → Point → Point → List Float) → ((a b c : Point) → length (f a b c) ≡ 9) → (lift : Point → Point) (step : Float) (ring : List Float) (ears : List ℕ)
    → length (ears_mesh f lift step ring ears) ≡ 3 * vertex_count step ring ears
unfolding ears_mesh vertex_count
ears_mesh_length f nine lift step ring ears = ears_length f nine lift step ring ears (length ears / 3)

module _ (g : Ground) where
  abbrev pub many_of : ℕ
  many_of = vertex_count (spacing_of g.grid) g.ring (ears_of g.ring)

  vertices_long : length (mesh_vertices g) ≡ 3 * many_of
  unfolding mesh_vertices ground_vertices
  vertices_long = ears_mesh_length corner_coords corners_nine (lifter g) (spacing_of g.grid) g.ring (ears_of g.ring)

  normals_long : length (mesh_normals g) ≡ 3 * many_of
  unfolding mesh_normals ground_normals
  normals_long = ears_mesh_length face_normals normals_nine (lifter g) (spacing_of g.grid) g.ring (ears_of g.ring)

  pub many_is : length (mesh_vertices g) / 3 ≡ many_of
  many_is = omega (arith, vertices_long)

  indices_long : length (mesh_indices g) ≡ many_of
  unfolding mesh_indices
  indices_long = up_to_length (length (mesh_vertices g) / 3) ∙ many_is

  -- the lengths of the result
  pub ground_lengths_lem : ground_lengths many_of ≡ lengths_of (ground_mesh g)
  unfolding ground_mesh
  ground_lengths_lem = rw (vertices_long, normals_long, indices_long)

  module _ (before : Mesh) where
    -- what the check of so many vertices tells
    module _ (k : Result Unit Refusal) (l : Lengths) (m : ℕ) (em : m ≡ many_of) (el : l ≡ ground_lengths m) (ek : found k ≡ room_fault l (lengths_of before)) where
      room_told : found k ≡ room_fault (ground_lengths many_of) (lengths_of before)
      room_told = ek ∙ ap (λ (x : Lengths). room_fault x (lengths_of before)) (el ∙ ap (λ (x : ℕ). ground_lengths x) em)

      pub ground_refused : {r : Refusal} → k ≡ Err r → refused (number_of r) (place_of r) ≡ ground_result g before
      unfolding ground_result judge found
      ground_refused h = rw (← ground_lengths_lem, ← room_told, h)

      pub ground_taken : k ≡ Ok tt → taken many_of ≡ ground_result g before
      unfolding ground_result judge found
      ground_taken h = rw (← ground_lengths_lem, ← room_told, h, many_is)

      pub ground_fits : k ≡ Ok tt → Fits (ground_lengths many_of) (lengths_of before)
      unfolding found
      ground_fits h = room_fits (ground_lengths many_of) (lengths_of before) (sym room_told ∙ ap found h)

  -- all outputs as a call that is taken leaves them
  pub ground_left : (v v' n n' : List Float) (i i' : List ℕ) {a : Answer ℕ} {r s : ℕ} → taken many_of ≡ a
      → Fits (ground_lengths many_of) (lengths_of (mesh_lists v n i []))
      → Put v v' 0 (ears_mesh corner_coords (lifter g) (spacing_of g.grid) g.ring (ears_of g.ring)) r
      → Put n n' 0 (ears_mesh face_normals (lifter g) (spacing_of g.grid) g.ring (ears_of g.ring)) s
      → Put i i' 0 (up_to many_of) many_of
      → (told (Ok many_of) ≡ a) × (mesh_lists v' n' i' [] ≡ leaves_mesh a (ground_mesh g) (mesh_lists v n i []))
  unfolding told ground_mesh mesh_vertices mesh_normals mesh_indices ground_vertices ground_normals
  ground_left v v' n n' i i' t fits pv pn pi =
      let pj : Put i i' 0 (up_to (length (mesh_vertices g) / 3)) many_of = rw many_is pi in
      let f : Fits (lengths_of (ground_mesh g)) (lengths_of (mesh_lists v n i [])) = subst (λ (l : Lengths). Fits l (lengths_of (mesh_lists v n i []))) ground_lengths_lem fits in
      (t, mesh_left (ground_mesh g) t pv pn pj (put_none [] 0) f)

  -- and as a refusal does
  pub ground_stays : (before : Mesh) {a : Answer ℕ} (r : Refusal) → refused (number_of r) (place_of r) ≡ a
      → (told (Err r) ≡ a) × (before ≡ leaves_mesh a (ground_mesh g) before)
  unfolding told
  ground_stays before r t = (t, mesh_stays (ground_mesh g) before t)

  -- the answer, by what the check of the input told
  module _ (before : Mesh) {k : Result Unit Refusal} (input_told : found k ≡ ground_input g) where
    pub ground_turned_back : {r : Refusal} → k ≡ Err r → refused (number_of r) (place_of r) ≡ ground_answer g before
    unfolding ground_answer judge found
    ground_turned_back h = rw (← input_told, h)

    pub ground_goes_on : k ≡ Ok tt → ground_result g before ≡ ground_answer g before
    unfolding ground_answer judge found
    ground_goes_on h = rw (← input_told, h)

  -- ---- the refusals and the answer, written out

  pub ground_input_written_out : ground_input g
      ≡ refuse (longer 3 1024 g.ring) 1 1024
      (refuse (grid_long g.rows) 1 1024
      (refuse (uneven 3 g.ring) 2 0
      (refuse (grid_ragged g.rows (length g.left) (length g.right)) 2 1 fine)))
  unfolding ground_input ground_limits ground_ragged or_else
  ground_input_written_out = rw (else_refuse, else_refuse)

  pub ground_answer_written_out : (v n : List Float) (i : List ℕ)
      → ground_answer g (mesh_lists v n i [])
      ≡ (let many = length (mesh_vertices g) / 3 in judge (ground_input g) (judge (ground_fault many (length v) (length n) (length i)) (taken many)))
  unfolding ground_answer ground_result
  ground_answer_written_out v n i = rw (← ground_lengths_lem, many_is, ground_room)
