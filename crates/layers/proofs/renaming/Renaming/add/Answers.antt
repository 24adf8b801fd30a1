use Rattle.bounded.specs.Listed.{listed}
use Rattle.layers.specs.Renamings.{pairing}
use Rattle.layers.specs.Soundness.{sound-pushed}
use Rattle.layers.proofs.renaming.Renaming.add.Goals as goal

pub invariant_of-self : goal.invariant_of-self
invariant_of-self c = record {
  valid =
      sound-pushed (listed c.args.self.now.pairs) (listed c.try_push.new.self) (pairing c.args.source c.args.target) c.try_push.ensures.after c.args.self.now.valid c.if-not-is_right.ensures c.if-is_source.ensures;
}
