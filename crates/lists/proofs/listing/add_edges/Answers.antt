use Rattle.std.proofs.Common.{◌≡◌, ℕ, ◌-◌, ◌<◌, List, [], is_ok, Some, Ok, ap, ◌∙◌, arith}
use Rattle.std.proofs.lemmas.Result.{err_from_is_err_and}
use Rattle.words.specs.Edges.{Edge}
use Rattle.words.specs.declared.Refusal.TheVariants.{NoEdge}
use Rattle.part.specs.Automata.{Meaning, edge_here, ids_of}
use Rattle.part.specs.Questions.{found, edge_by_id, ids_from}
use Rattle.part.proofs.Hops.{not_oversized, edges_by_ids}
use Rattle.part.proofs.Occupied.{things_at, occupied_at, all_standing}
use Rattle.lists.proofs.Runs.{added_none, all_added, first_stands, done_fewer, one_more, no_room}
use Rattle.lists.proofs.listing.add_edges.Goals as goal

by_id : (M : Meaning) (id : ℕ) (e : Edge (List ℕ)) → 0 < M.automaton.ceilings.edges → edge_here M id ≡ Some e → edge_by_id M id ≡ Ok e
by_id M id e sized is = not_oversized M (found NoEdge (edge_here M id)) sized ∙ ap (found NoEdge) is

pub loop-id-init : goal.loop-id-init
loop-id-init g c =
    let M : Meaning = g.P.Part.meaning c.args.part.now in
    let all : ids_of M - 0 ≡ ids_of M = omega arith in
    let left = ap (λ x. ids_from (g.P.Part.meaning x.part.now) x.from) c.into_iter-id-iterator.ensures.into_iter_gives ∙ c.requires.all in (
      tt,
      tt,
      rw (left, all) (record {
        done = [];
        split = edges_by_ids M (g.met.P.Part.lawful c.args.part.now) c.requires.sized ∙ occupied_at (edge_here M) 0 (ids_of M);
        standing = all_standing (edge_here M) 0 (ids_of M);
        added = added_none c.args.mark.now c.args.words.now;
      }),
    )

pub add_edge-requires : goal.add_edge-requires
add_edge-requires g c =
    let M : Meaning = g.P.Part.meaning c.args.part.now in
    let law = g.met.P.Part.lawful c.args.part.now in
    let s = first_stands M _ c.args.mark.now c.loop-id.mark c.loop-id.mark c.args.words.now c.loop-id.words c.loop-id.words
    c.loop-id.invariant.2 c.requires.room c.loop-id.auto.words c.in-Some.id _ c.in-Some.ensures.steps in
    let inv = c.loop-id.invariant.2 in
    let fewer = done_fewer M _ c.args.mark.now c.loop-id.mark c.loop-id.mark c.args.words.now c.loop-id.words c.loop-id.words inv c.requires.room c.loop-id.auto.words c.in-Some.id _ c.in-Some.ensures.steps s.0 s.1 in
    let count = ((law.places M.place law.here).fits c.requires.sized).count in
    record {
      edge = ap is_ok (by_id M c.in-Some.id s.0 c.requires.sized s.1);
      few = omega (arith, fewer, count, law.ceilings.edges, inv.added.count, c.requires.none);
      room = inv.added.inside c.requires.room;
    }

pub returns-in_err-add_edge : goal.returns-in_err-add_edge
returns-in_err-add_edge g c =
    let M : Meaning = g.P.Part.meaning c.args.part.now in
    let s = first_stands M _ c.args.mark.now c.loop-id.mark c.loop-id.mark c.args.words.now c.loop-id.words c.loop-id.words
    c.loop-id.invariant.2 c.requires.room c.loop-id.auto.words c.in-Some.id _ c.in-Some.ensures.steps in
    let p = err_from_is_err_and c.from_residual.result c.from_residual.ensures.1 in
    rw (p.1, p.2)
    (no_room M _ c.args.mark.now c.loop-id.mark c.add_edge.new.mark c.args.words.now c.loop-id.words c.add_edge.new.words c.loop-id.invariant.2 c.requires.room c.loop-id.auto.words c.in-Some.id _ c.in-Some.ensures.steps s.0 s.1 _
    (c.in_err-add_edge.ensures s.0 (by_id M c.in-Some.id s.0 c.requires.sized s.1)))

pub loop-id-preserved : goal.loop-id-preserved
loop-id-preserved g c =
    let M : Meaning = g.P.Part.meaning c.args.part.now in
    let s = first_stands M _ c.args.mark.now c.loop-id.mark c.loop-id.mark c.args.words.now c.loop-id.words c.loop-id.words
    c.loop-id.invariant.2 c.requires.room c.loop-id.auto.words c.in-Some.id _ c.in-Some.ensures.steps in (
      tt,
      tt,
      one_more M _ c.args.mark.now c.loop-id.mark c.add_edge.new.mark c.args.words.now c.loop-id.words c.add_edge.new.words c.loop-id.invariant.2 c.requires.room c.loop-id.auto.words c.in-Some.id _ c.in-Some.ensures.steps s.0 s.1
          (c.in_ok-add_edge.ensures s.0 (by_id M c.in-Some.id s.0 c.requires.sized s.1)),
    )

pub returns : goal.returns
returns g c =
    let M : Meaning = g.P.Part.meaning c.args.part.now in
    all_added M _ c.args.mark.now c.loop-id.mark c.loop-id.mark c.args.words.now c.loop-id.words c.loop-id.words c.loop-id.invariant.2 c.requires.room c.loop-id.auto.words
    (ap (things_at (edge_here M)) c.in-None.ensures.steps.0)
