-- `shape::junction_areas::Checked::segment` meets its contract. Assumes nothing.
use Rattle.std.proofs.Common.{arith}
use Rattle.shape.proofs.Joining.{sound_lists, run_sound, skips, adds}
use Rattle.shape.proofs.junction_areas.Checked.segment.Goals as goal

pub returns-then-e-a-clause-given : goal.returns-then-e-a-clause-given
returns-then-e-a-clause-given c =
    skips (sound_lists _ _ c.args.self.sound) c.args.k c.requires (omega (arith, c.whole_word-a.ensures.0, c.whole_word-e.ensures.0))

pub slice_bounds-result-end : goal.slice_bounds-result-end
slice_bounds-result-end c =
    let r = run_sound (sound_lists _ _ c.args.self.sound) c.args.k c.requires in
    omega (arith, c.whole_word-e.ensures.0)

pub returns-clause-given : goal.returns-clause-given
returns-clause-given c =
    adds (sound_lists _ _ c.args.self.sound) c.args.k c.requires _ _ c.whole_word-a.ensures.0 c.whole_word-e.ensures.0 (omega arith)
