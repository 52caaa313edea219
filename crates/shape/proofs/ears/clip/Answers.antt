-- `shape::ears::clip` meets its contract: the ears stand at the front of the memory. Assumes nothing.
use Rattle.std.proofs.Common.{◌≡◌, ℕ, ◌-◌, ◌/◌, ◌≤◌, List, length, take, replicate, refl, sym, arith, length-take-le}
use Rattle.std.specs.Prelude.{Float}
use Rattle.std.proofs.Math.ListN.{length-replicate}
use Rattle.shape.specs.Memory.{Put}
use Rattle.shape.specs.Ears.{up_to, cut_ears, ears_of}
use Rattle.shape.proofs.Laws.Memory.{put_front, put_length}
use Rattle.shape.proofs.Laws.Ears.{within_up_to, up_to_length, ears_within, ears_threes}
use Rattle.shape.proofs.ears.clip.Goals as goal

module _ (ring : List Float) {left : List ℕ} (few : length ring ≤ 3072) (counted : left ≡ up_to (length (take (length ring / 3) (replicate {A = ℕ} 1024 0)))) where
  -- all points are left
  all : left ≡ up_to (length ring / 3)
  all = rw (length-take-le (length ring / 3) (replicate {A = ℕ} 1024 0) (omega (arith, length-replicate {A = ℕ} 1024 0))) at counted

  -- their ears stand at the front of the memory
  front : {old now : List ℕ} {n : ℕ} → length ring ≤ length old → Put old now 0 (cut_ears ring (length left - 3) left) n
      → (n ≤ length now) × (take n now ≡ ears_of ring)
  unfolding ears_of
  front {old} {now} {n} room p =
      let q : Put old now 0 (ears_of ring) n = rw (up_to_length (length ring / 3)) at (rw all at p) in
      let most = (ears_threes ring).few in
      (omega (arith, q.ends, most, put_length q), put_front q (omega (arith, q.ends, most)))

pub cut_all-n-requires-clause-in_ring : goal.cut_all-n-requires-clause-in_ring
cut_all-n-requires-clause-in_ring c =
    let ring = c.args.ring.now in
    rw (all ring c.requires.0 c.count_up.ensures) (within_up_to (length ring / 3) (length ring / 3) (omega arith))

pub slice_bounds-result-end : goal.slice_bounds-result-end
slice_bounds-result-end c =
    sym (length-take-le _ _ (front c.args.ring.now c.requires.0 c.count_up.ensures c.requires.1 c.cut_all-n.ensures).0)

pub invariant_of-result : goal.invariant_of-result
invariant_of-result c =
    let ring = c.args.ring.now in
    rw (front ring c.requires.0 c.count_up.ensures c.requires.1 c.cut_all-n.ensures).1 (record { in_ring = ears_within ring })

pub returns : goal.returns
returns c = (refl, (front c.args.ring.now c.requires.0 c.count_up.ensures c.requires.1 c.cut_all-n.ensures).1)
