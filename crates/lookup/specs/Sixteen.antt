-- What holds between the steps of `highest`, which takes sixteen triangles of a run at a time. A reader of the lookup's contract need not read this. Definitions only.
-- Assumes nothing.
use Rattle.std.specs.Prelude.{◌≡◌, ℕ, ◌+◌, ◌*◌, ◌<◌, Bool, true, false, List, slice_index_or, Float, Option, Some, None}
use Rattle.std.specs.Float.{nan}
use Rattle.std.specs.Float.Ieee.{lt}
use Rattle.vector.specs.Single.{0f}
use Rattle.vector.specs.declared.coords.Point.{Point}
use Rattle.lookup.specs.Mesh.{present, corner_of}
use Rattle.lookup.specs.declared.mesh.Weights.{Weights}
use Rattle.lookup.specs.declared.mesh.WeighedTriangle.{WeighedTriangle}
use Rattle.lookup.specs.Cover.{slack, weights_of, weights_at, weights_inside, covers, height_of}
use Rattle.lookup.specs.Plain.{scan_by, scan_of, entry_of}

-- ---- corners on the ground

-- place k of a row of points on the ground
unfoldable pub ground_at : List Float → ℕ → Point
ground_at xs k = record { x = slice_index_or xs (2 * k) nan; y = slice_index_or xs (2 * k + 1) nan; z = 0f }

-- a point stands above another or under it
pub record Over (p q : Point) : Type 0 where
  pub same_x : p.x ≡ q.x
  pub same_y : p.y ≡ q.y

-- place k is under p, and the places before it are as they were
pub record Grounded (old new : List Float) (k : ℕ) (p : Point) : Type 0 where
  pub put : Over (ground_at new k) p
  pub kept : (j : ℕ) → j < k → ground_at new j ≡ ground_at old j

-- triangle t is there, and place k of each row is under a corner of it
pub record CornersUnder (vs : List Float) (is : List ℕ) (t : ℕ) (p q r : Point) : Type 0 where
  pub there : present vs is t ≡ true
  pub first : Over p (corner_of vs is t 0)
  pub second : Over q (corner_of vs is t 1)
  pub third : Over r (corner_of vs is t 2)

-- the triangle that a run names at a place
abbrev pub There : List Float → List ℕ → List ℕ → ℕ → Type 0
There vs is run i = present vs is (entry_of run i) ≡ true

-- of the first n triangles of a run, each that is there is held; the place of one that is missing holds anything
abbrev pub AllUnder : List Float → List ℕ → List ℕ → ℕ → List Float → List Float → List Float → Type 0
AllUnder vs is run n a b c = (k : ℕ) → k < n → There vs is run k → CornersUnder vs is (entry_of run k) (ground_at a k) (ground_at b k) (ground_at c k)

-- b is true exactly where each of the first n has it
pub record Exactly (P : ℕ → Type 0) (n : ℕ) (b : Bool) : Type 0 where
  pub all : b ≡ true → (k : ℕ) → k < n → P k
  pub told : ((k : ℕ) → k < n → P k) → b ≡ true

-- the first n triangles of a run are all there, or not
abbrev pub Whole : List Float → List ℕ → List ℕ → ℕ → Bool → Type 0
Whole vs is run n whole = Exactly (There vs is run) n whole

pub record Gathered (vs : List Float) (is run : List ℕ) (n : ℕ) (a b c : List Float) (whole : Bool) : Type 0 where
  pub held : AllUnder vs is run n a b c
  pub flag : Whole vs is run n whole

-- ---- least weights

-- number k is too low
abbrev pub Low : List Float → ℕ → Type 0
Low low k = lt (slice_index_or low k nan) slack ≡ true

-- where number k is too low, the triangle at place k is not over the point
abbrev pub AllLow : List Float → List Float → List Float → Float → Float → List Float → ℕ → Type 0
AllLow a b c x y low n = (k : ℕ) → k < n → Low low k → weights_inside (weights_of (ground_at a k) (ground_at b k) (ground_at c k) x y) ≡ false

-- where number k is too low, the triangle that the run names there does not cover the point
abbrev pub Passing : List Float → List ℕ → Float → Float → List ℕ → ℕ → List Float → Type 0
Passing vs is x y run n low = (k : ℕ) → k < n → Low low k → covers vs is (entry_of run k) x y ≡ false

pub record Weighed (vs : List Float) (is : List ℕ) (x y : Float) (run : List ℕ) (n : ℕ) (low : List Float) (whole : Bool) : Type 0 where
  pub passing : Passing vs is x y run n low
  pub flag : Whole vs is run n whole

-- triangle t is there, and w are the weights of its corners at the point
pub record Weighs (vs : List Float) (is : List ℕ) (x y : Float) (t : ℕ) (w : Weights) : Type 0 where
  pub there : present vs is t ≡ true
  pub same : w ≡ weights_at vs is t x y

-- the best by its number alone
unfoldable pub best_of : Option (Float × WeighedTriangle) → Option (Float × ℕ)
best_of None = None
best_of (Some (h, w)) = Some (h, w.triangle)

-- the weights are those of the best, if there is one
abbrev pub PeakWeighed : List Float → List ℕ → Float → Float → Option (Float × WeighedTriangle) → Type 0
PeakWeighed vs is x y p = (h : Float) (w : WeighedTriangle) → p ≡ Some (h, w) → Weighs vs is x y w.triangle w.weights

-- the best after the first n triangles of a run, and what was best before them
unfoldable pub scan_on : List Float → List ℕ → Float → Float → Option (Float × ℕ) → List ℕ → ℕ → Option (Float × ℕ)
unfolding scan_by
scan_on vs is x y start run n = scan_by (λ t. covers vs is t x y) (λ t. height_of vs is t x y) start (entry_of run) n

-- the best of the first n triangles of a run, and whether each of them is there
pub record HitOf (vs : List Float) (is : List ℕ) (x y : Float) (run : List ℕ) (n : ℕ) (best : Option (Float × ℕ)) (whole : Bool) : Type 0 where
  pub found : best ≡ scan_of vs is x y (entry_of run) n
  pub flag : Whole vs is run n whole

-- the best is one of the triangles that a mesh may have
unfoldable pub Small : Option (Float × ℕ) → Type 0
Small (Some (h, t)) = t < 65536
Small None = Unit {0}
