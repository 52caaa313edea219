-- `surface::file::copy_bytes` meets its contract: the first k records are put. Assumes nothing.
use Rattle.std.proofs.Common.{◌≡◌, ◌∙◌, ℕ, ◌+◌, ◌*◌, ◌/◌, ◌++◌, length, take, drop, refl, sym, ap, arith, rules}
use Rattle.std.proofs.lemmas.Bool.{eqb-false}
use Rattle.std.proofs.lemmas.List.{take-append-drop, length-take-le, take_rest, length-take, length-drop}
use Rattle.shape.proofs.Laws.Memory.{put_length}
use Rattle.shape.proofs.Laws.Gather.{any_none}
use Rattle.surface.specs.File.{kind_of, encode, file_at, bytes_of, past_at, parts}
use Rattle.surface.specs.FileSteps.{whole_in, record_in}
use Rattle.surface.proofs.Copies.{filled_none, filled_fits, filled_turn, filled_all, put_end}
use Rattle.surface.proofs.Laws.Lane.{filed_other, front_filed, length_filed}
use Rattle.surface.proofs.Laws.File.{encode_length, encode_append}
use Rattle.surface.proofs.Laws.Records.{file_eight}
use Rattle.surface.proofs.file.copy_bytes.Goals as goal
use Rattle.surface.proofs.file.copy_bytes.Goals.{then-is_triangle, else-is_triangle}

pub loop-k-init : goal.loop-k-init
loop-k-init c = filled_none _ _ _ _

pub overflow_mul-k : goal.overflow_mul-k
unfolding whole_in
overflow_mul-k c = omega arith

pub filed-requires : goal.filed-requires
unfolding past_at whole_in record_in
filed-requires c =
    let ws = c.args.held.now in
    rw (← c.record-record.ensures) at (any_none (past_at ws) c.loop-k.k (length ws / 8) (omega arith) c.requires.ids)

pub overflow_mul-k-then-is_triangle : goal.overflow_mul-k-then-is_triangle
unfolding whole_in
overflow_mul-k-then-is_triangle c = omega arith

pub overflow_add-k : goal.overflow_add-k
unfolding whole_in
overflow_add-k c = omega arith

pub put_file-requires : goal.put_file-requires
unfolding whole_in
put_file-requires c =
    let n : length c.record.result.words ≡ 8 = search rules in
    rw n (filled_fits _ _ c.loop-k.invariant (length c.args.held.now / 8) (omega arith) (omega arith))

pub put_file-requires-then-is_triangle : goal.put_file-requires-then-is_triangle
unfolding whole_in
put_file-requires-then-is_triangle c =
    let n : length c.filed.result.words ≡ 8 = search rules in
    let room = filled_fits _ _ c.loop-k.invariant (length c.args.held.now / 8) (omega arith) (omega arith) in
    simp (length-take, length-drop) (omega (arith, n, room, put_length c.put_file.ensures))

pub loop-k-preserved : goal.loop-k-preserved
unfolding record_in whole_in
loop-k-preserved c =
    let l = c.loop-k in
    let r = c.record.result.words in
    let t = c.record-record.result.words in
    let read = c.record-record.ensures in
    let same : r ≡ t = c.record.ensures ∙ sym read in
    let room = filled_fits _ _ l.invariant (length c.args.held.now / 8) (omega arith) (omega arith) in
    elim c.if-is_triangle.branch [
      | then-is_triangle w ↦
          let f = w.filed.result.words in
          let z = file_eight c.args.held.now l.k (omega arith) read w.filed.ensures in
          let n : length t ≡ length f = rw w.filed.ensures (sym (length_filed (kind_of t) t)) in
          let front : take 4 f ≡ take 4 t = rw w.filed.ensures (front_filed (kind_of t) t) in
          let long : length (encode (take 4 f)) ≡ 16 = encode_length (take 4 f) ∙ ap (λ (n : ℕ). 4 * n) (length-take-le 4 f (omega (arith, z.1))) in
          let rests : length (encode (drop 4 t)) ≡ length (encode (drop 4 f)) = simp (encode_length, length-drop) (rw n refl) in
          let join : encode (take 4 f) ++ encode (drop 4 t) ≡ encode t = rw (← encode_append, front) (ap encode (take-append-drop 4 t)) in
          let all = put_end (encode (take 4 f)) (encode (drop 4 t)) (encode (drop 4 f)) join (rw same at c.put_file.ensures) rests (omega (arith, c.put_file.ensures.ends, n, z.1)) (omega arith) (rw (take_rest f 4) at w.put_file-then-is_triangle.ensures) in
          let whole : encode (take 4 f) ++ encode (drop 4 f) ≡ encode (file_at c.args.held.now l.k) = sym (encode_append (take 4 f) (drop 4 f)) ∙ ap encode (take-append-drop 4 f ∙ z.0) in
          rw w.bytes-is (filled_turn _ _ l.invariant (rw (← z.0) (omega (arith, encode_length f, z.1))) (rw whole at all) (omega arith))
      | else-is_triangle w ↦
          let other = eqb-false _ _ (sym c.is_triangle.ensures ∙ w.if-is_triangle.false) in
          let z = file_eight c.args.held.now l.k (omega arith) read (filed_other _ _ other) in
          rw w.bytes-is (filled_turn _ _ l.invariant (rw (← z.0) (omega (arith, encode_length t, z.1))) (rw (same, z.0) at c.put_file.ensures) (omega arith))
    ]

pub returns : goal.returns
unfolding bytes_of parts whole_in
returns c =
    let n = (length c.args.held.now + 7) / 8 in
    filled_all _ _ c.loop-k.invariant n (4 * length c.args.held.now) (omega arith) (omega arith)
