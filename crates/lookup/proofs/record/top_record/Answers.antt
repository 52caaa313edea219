-- `lookup::record::top_record` meets its contract: the indexed lookup's answer as a record. Assumes nothing.
use Rattle.std.proofs.Common.{sym, ◌∙◌}
use Rattle.shape.specs.Lists.{lists_of}
use Rattle.lookup.proofs.Laws.Batch.{taken_words}
use Rattle.lookup.proofs.record.top_record.Goals as goal

pub answer_by-requires : goal.answer_by-requires
answer_by-requires c = λ a e. taken_words (lists_of c.args.mesh) _ _ _ c.words_fit.ensures a (sym c.top.ensures ∙ e)
