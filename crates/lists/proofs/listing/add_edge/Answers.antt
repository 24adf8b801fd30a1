use Rattle.std.proofs.Common.{sym, ◌∙◌, rules}
use Rattle.lists.proofs.Closing.{edge_closed, closed_as}
use Rattle.lists.proofs.listing.add_edge.Goals as goal

pub returns : goal.returns
returns g c e is =
    let wrote = c.put.ensures e (rw (c.new.ensures.0, c.new.ensures.1) is) in
    let lent = sym c.open-rec.ensures.lent ∙ sym wrote.lent in
    closed_as e c.args.mark.now c.close.new.self.0 _ c.args.words.now c.put.new.words c.close.result
    (search rules)
    (edge_closed e c.args.mark.now c.close.new.self.0 c.args.words.now c.put.new.words c.open-rec.result c.put.new.rec c.close.result
    c.open-rec.ensures.same c.open-rec.ensures.start c.open-rec.ensures.full wrote c.close.ensures c.requires.few c.requires.room c.put.auto.words)
