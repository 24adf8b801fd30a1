use Rattle.std.proofs.Common.{◌≡◌, ◌+◌, ◌<◌, ◌^◌, length, inl, ap, ◌∙◌, arith}
use Rattle.listed.specs.Standing.{standing}
use Rattle.listed.proofs.Standing.{length_standing}
use Rattle.printout.proofs.Walking.{going_start}
use Rattle.printout.proofs.put_each.Goals as goal

pub loop-number-init : goal.loop-number-init
loop-number-init g c =
    let it = c.into_iter-number-iterator.result in
    let items : it.iter ≡ c.args.items = ap (λ x. x.iter) c.into_iter-number-iterator.ensures.into_iter_gives ∙ c.enumerate-number-items.ensures.source in
    let none : it.count ≡ 0 = ap (λ x. x.count) c.into_iter-number-iterator.ensures.into_iter_gives ∙ c.enumerate-number-items.ensures.count in
    let short : it.count + length (standing g.K.Kind.after it.iter.left it.iter.words.now) < 2 ^ 64 =
    omega (arith, none, length_standing g.K.Kind.after it.iter.left it.iter.words.now, ap (λ x. x.left) items, c.args.items.counted) in
    ((tt, tt, inl short), (tt, (rw (items, none) (going_start _ _ _ _))))
