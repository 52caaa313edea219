-- `joining::join::Parts::lengths` meets its contract. Assumes nothing.
use Rattle.shape.specs.Lists.{lists_of}
use Rattle.joining.proofs.Joining.{lengths_joined}
use Rattle.joining.proofs.join.Parts.lengths.Goals as goal

pub returns : goal.returns
returns c = lengths_joined (lists_of c.args.self.first) (lists_of c.args.self.second) c.args.self.sound
