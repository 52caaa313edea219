-- The answer at one point as a record in lent words, the same that the call for many points writes. Definitions only. Assumes nothing.
use Rattle.std.specs.Prelude.{ℕ, ◌<◌, nat_lt, None}
use Rattle.shape.specs.Refusal.{fine, refuse, Answer, taken, refused, judge}
use Rattle.lookup.specs.Plain.{Lookup, gives, none}
use Rattle.lookup.specs.Sampler.{Sample, hit, miss}
use Rattle.lookup.specs.Batch.{record_words, lane_id}

-- the plain lookup names no lane
unfoldable pub plain_sample : Answer Lookup → Answer Sample
plain_sample (taken (gives h n t)) = taken (hit h n t (record { lane = None }))
plain_sample (taken none) = taken miss
plain_sample (refused number place) = refused number place

-- a slice of `room` words has no room for a record, or n is the answer
unfoldable pub room_for : ℕ → ℕ → Answer ℕ
unfolding judge refuse
room_for n room = judge (refuse (nat_lt room record_words) 3 record_words fine) (taken n)

-- refused as it is; else 1 where there is a height, 0 where there is none
unfoldable pub record_answer : Answer Sample → ℕ → Answer ℕ
unfolding room_for
record_answer (taken (hit h n t d)) room = room_for 1 room
record_answer (taken miss) room = room_for 0 room
record_answer (refused number place) room = refused number place

-- ---- a step on the way, for the private functions

-- the numbers of the record are words of 32 bits
unfoldable pub RecordFits : Answer Sample → Type 0
unfolding lane_id
RecordFits (taken (hit h n t d)) = (t < 4294967296) × (lane_id d.lane < 4294967296)
RecordFits (taken miss) = Unit {0}
RecordFits (refused number place) = place < 4294967296
