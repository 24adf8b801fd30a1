use Rattle.std.proofs.Common.{◌≡◌, ◌+◌, ◌∷◌, arith, rules, sym, ap, length, ◌∙◌}
use Rattle.part.specs.Automata.{Meaning}
use Rattle.part.specs.Questions.{ids_from}
use Rattle.part.proofs.Hops.{next_hop, next_end}
use Rattle.part.proofs.ids.EdgeIdsIterator.next.Goals as goal

pub returns-in_err-id-clause-steps : goal.returns-in_err-id-clause-steps
returns-in_err-id-clause-steps g c =
    let M : Meaning = g.P.Part.meaning c.args.self.now.part.now in
    let e = (next_end M c.args.self.now.from (sym c.in_err-id.ensures ∙ c.next.ensures)).1.1 in
    rw c.from_residual.ensures (e, e)

pub overflow_add-self : goal.overflow_add-self
overflow_add-self g c =
    let M : Meaning = g.P.Part.meaning c.args.self.now.part.now in
    let law = g.met.P.Part.lawful c.args.self.now.part.now in
    let h = (next_hop M c.args.self.now.from c.in_ok-id.id (sym c.in_ok-id.ensures ∙ c.next.ensures)).1 in
    omega (arith, law.ceilings.edges, h.high)

pub returns-clause-steps : goal.returns-clause-steps
returns-clause-steps g c =
    let M : Meaning = g.P.Part.meaning c.args.self.now.part.now in
    (next_hop M c.args.self.now.from c.in_ok-id.id (sym c.in_ok-id.ensures ∙ c.next.ensures)).1.ids

pub returns-clause-goes : goal.returns-clause-goes
returns-clause-goes g c =
    let M : Meaning = g.P.Part.meaning c.args.self.now.part.now in
    let h = (next_hop M c.args.self.now.from c.in_ok-id.id (sym c.in_ok-id.ensures ∙ c.next.ensures)).1 in
    let steps : ids_from M c.args.self.now.from ≡ c.in_ok-id.id ∷ ids_from M (c.in_ok-id.id + 1) = h.ids in
    record { on = λ f. (tt, search rules, omega (arith, ap length steps)); keeps = tt; rests = λ f. tt }
