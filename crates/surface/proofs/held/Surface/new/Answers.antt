-- `surface::held::Surface::new` meets its contract: each kind is counted in at most 2,048 records. Assumes nothing.
use Rattle.std.proofs.Common.{arith}
use Rattle.surface.specs.File.{words_of}
use Rattle.surface.specs.Kind.{number}
use Rattle.surface.specs.Held.{sizes_of}
use Rattle.surface.proofs.Laws.File.{words_few}
use Rattle.surface.proofs.Laws.Report.{kind_most}
use Rattle.surface.proofs.held.Surface.new.Goals as goal

pub invariant_of-result : goal.invariant_of-result
unfolding number sizes_of
invariant_of-result c =
    let ws = words_of c.args.bytes.now in
    let few = words_few c.args.bytes.now c.requires in
    record {
      sound = c.requires;
      few = few;
      sized = rw (c.count_kind.ensures, c.count_kind-2.ensures, c.count_kind-3.ensures);
      within = (omega (arith, kind_most ws 1 few), omega (arith, kind_most ws 2 few), omega (arith, kind_most ws 3 few));
    }
