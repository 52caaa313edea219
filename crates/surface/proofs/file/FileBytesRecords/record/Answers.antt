-- `surface::file::FileBytes::record` meets its contract: each word is one of the record's bytes. Assumes nothing.
use Rattle.std.proofs.Common.{◌≡◌, ◌/◌, [], length, get_or, refl, arith, rules}
use Rattle.surface.specs.File.{decode}
use Rattle.surface.specs.FileSteps.{whole_in, record_in}
use Rattle.surface.proofs.Chunks.{chunk_at, from_fn_is, record_words_are}
use Rattle.surface.proofs.file.FileBytesRecords.record.Goals as goal

pub returns : goal.returns
unfolding whole_in record_in
returns c =
    let a = c.args in
    let bytes = get_or c.as_chunks.result.0.now a.k [] in
    let items = c.from_fn.ensures.items in
    record_words_are a.self.bytes.now a.k {part = bytes} (omega arith) (rw c.as_chunks.ensures.front (chunk_at 32 (length a.self.bytes.now / 32) a.k a.self.bytes.now [] (omega arith))) items.long
    (λ j m. from_fn_is (λ f. f.0.now ≡ bytes) (λ j. get_or (decode bytes) j 0) (λ f i y q p e. (search rules, search rules)) c.from_fn.result 8 0 _ refl items.each j (omega arith) (omega arith) 0)
