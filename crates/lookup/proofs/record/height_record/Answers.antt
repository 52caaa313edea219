-- `lookup::record::height_record` meets its contract: the plain lookup's answer with no lane, as a record. Assumes nothing.
use Rattle.std.proofs.Common.{sym, ap, ◌∙◌}
use Rattle.shape.specs.Lists.{lists_of}
use Rattle.lookup.specs.Record.{plain_sample}
use Rattle.lookup.proofs.Laws.Batch.{plain_words}
use Rattle.lookup.proofs.record.height_record.Goals as goal

pub answer_by-requires : goal.answer_by-requires
answer_by-requires c =
    λ a e. plain_words (lists_of c.args.mesh) _ _ a (sym (c.without_lane.ensures ∙ ap plain_sample c.height_at.ensures) ∙ e)
