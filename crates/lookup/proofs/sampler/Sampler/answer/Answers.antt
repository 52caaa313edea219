-- `lookup::sampler::Sampler::answer` meets its contract: the peak's weights are those of its triangle. Assumes nothing.
use Rattle.lookup.proofs.sampler.Sampler.answer.Goals as goal

pub normal_by-requires : goal.normal_by-requires
normal_by-requires c = c.requires.peak_weighed _ _ c.in_ok-height.was
