-- `surface::file::copy_words` meets its contract: the first k records are put. Assumes nothing.
use Rattle.std.proofs.Common.{◌≡◌, ◌∙◌, ◌+◌, ◌/◌, ◌++◌, length, take, drop, refl, sym, arith, rules}
use Rattle.std.proofs.lemmas.Bool.{eqb-false}
use Rattle.std.proofs.lemmas.List.{take-append-drop, length-take-le, take_rest, length-take, length-drop}
use Rattle.shape.proofs.Laws.Memory.{put_length}
use Rattle.surface.specs.File.{kind_of, words_of, parts}
use Rattle.surface.specs.FileSteps.{whole_in, record_in}
use Rattle.surface.proofs.Copies.{filled_none, filled_fits, filled_turn, filled_all, put_end}
use Rattle.surface.proofs.Laws.Lane.{held_other, front_held, length_held}
use Rattle.surface.proofs.Laws.Records.{held_eight}
use Rattle.surface.proofs.file.copy_words.Goals as goal
use Rattle.surface.proofs.file.copy_words.Goals.{then-is_triangle, else-is_triangle}

pub loop-k-init : goal.loop-k-init
loop-k-init c = filled_none _ _ _ _

pub overflow_mul-k : goal.overflow_mul-k
unfolding whole_in
overflow_mul-k c = omega arith

pub overflow_add-k : goal.overflow_add-k
unfolding whole_in
overflow_add-k c = omega arith

pub put-requires : goal.put-requires
unfolding whole_in
put-requires c =
    let n : length c.record.result.words ≡ 8 = search rules in
    rw n (filled_fits _ _ c.loop-k.invariant (length c.args.bytes.now / 32) (omega arith) (omega arith))

pub put-requires-then-is_triangle : goal.put-requires-then-is_triangle
unfolding whole_in
put-requires-then-is_triangle c =
    let n : length c.held.result.words ≡ 8 = search rules in
    let room = filled_fits _ _ c.loop-k.invariant (length c.args.bytes.now / 32) (omega arith) (omega arith) in
    simp (length-take, length-drop) (omega (arith, n, room, put_length c.put.ensures))

pub loop-k-preserved : goal.loop-k-preserved
unfolding record_in whole_in
loop-k-preserved c =
    let l = c.loop-k in
    let r = c.record.result.words in
    let t = c.record-record.result.words in
    let read = c.record-record.ensures in
    let same : r ≡ t = c.record.ensures ∙ sym read in
    let room = filled_fits _ _ l.invariant (length c.args.bytes.now / 32) (omega arith) (omega arith) in
    elim c.if-is_triangle.branch [
      | then-is_triangle w ↦
          let h = w.held.result.words in
          let z = held_eight c.args.bytes.now l.k (omega arith) read w.held.ensures in
          let n : length t ≡ length h = rw w.held.ensures (sym (length_held (kind_of t) t)) in
          let front : take 4 h ≡ take 4 t = rw w.held.ensures (front_held (kind_of t) t) in
          let long : length (take 4 h) ≡ 4 = length-take-le 4 h (omega (arith, z.1)) in
          let rests : length (drop 4 t) ≡ length (drop 4 h) = simp length-drop (rw n refl) in
          let join : take 4 h ++ drop 4 t ≡ t = rw front (take-append-drop 4 t) in
          let all = put_end (take 4 h) (drop 4 t) (drop 4 h) join (rw same at c.put.ensures) rests (omega (arith, c.put.ensures.ends)) (omega arith) (rw (take_rest h 4) at w.put-then-is_triangle.ensures) in
          rw w.held-is (filled_turn _ _ l.invariant (rw (← z.0) z.1) (rw (take-append-drop 4 h, z.0) at all) (omega arith))
      | else-is_triangle w ↦
          let other = eqb-false _ _ (sym c.is_triangle.ensures ∙ w.if-is_triangle.false) in
          let z = held_eight c.args.bytes.now l.k (omega arith) read (held_other _ _ other) in
          rw w.held-is (filled_turn _ _ l.invariant (rw (← z.0) z.1) (rw (same, z.0) at c.put.ensures) (omega arith))
    ]

pub returns : goal.returns
unfolding words_of parts whole_in
returns c =
    let n = (length c.args.bytes.now + 31) / 32 in
    filled_all _ _ c.loop-k.invariant n (length c.args.bytes.now / 4) (omega arith) (omega arith)
